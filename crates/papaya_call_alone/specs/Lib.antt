-- what an answer says, and what it spends
pub mod Prompt
pub mod Budget
-- how much is left, and that the words that were read are unchanged
pub mod Measure
pub mod Current
-- how far a call is from its end, and where it is in the chain
pub mod Rank
pub mod Ahead
-- how it takes numbers for pairs
pub mod Limits
-- a call that resizes the map
pub mod Resizers
-- a call that scans a table
pub mod Scanners
-- one caller's chunks end a resize
pub mod Chunks
