pub mod Ruled
-- The length of the first table of a new map.
pub mod FirstTable
-- entries that are stored one after the other
pub mod Collected
-- what an iteration has yielded
pub mod Yielded
-- if no entry stays, none is left
pub mod Cleared
-- the steps that a pass made, as entries of the log
mod OwnEntries
-- which lifetimes are within those of a book's entries
mod Lives
-- the whole history of a read-only map, and iterations over it
mod Frozen
mod FrozenWalks
-- a result with its evidence; the run of a call that passes it on; and how that call meets its
-- contract
pub mod Earlier
pub mod Telling
pub mod ToldWalks
pub mod Handed
