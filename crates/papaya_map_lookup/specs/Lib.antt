pub mod History
pub mod Answers
pub mod Lookups
-- The same definitions by what a window has observed of the map.
pub mod Drivers
