-- A call that changes the shared map: what it holds and learns, by what a window has observed of
-- the map.
pub mod Copier
pub mod Driver
pub mod Ends
pub mod Going
pub mod Inserting
pub mod ProbingOn
pub mod Removing
pub mod Resizing
pub mod Seeking
pub mod Settling
pub mod Steps
pub mod Writing
