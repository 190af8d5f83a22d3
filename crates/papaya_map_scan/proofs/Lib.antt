-- The later states of an entry that was in a slot.
pub mod Pairs
-- and those of one that the map had
pub mod Leaving
-- the words in the slots of a table that was taken
pub mod Taken
-- the part of it that an iteration has passed
pub mod Walking
-- how the scan of a slot continues
pub mod Scanning
-- facts that stay true
pub mod TableScans
