-- the size of a table for a number of pairs
pub mod TableSizes
-- an answer leaves the settings of a call
pub mod Settings
-- the chunk from which on a table is copied
pub mod Starts
