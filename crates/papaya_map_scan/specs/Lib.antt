-- The entries that are met in the slots of a table.
pub mod Meeting
-- Which entries `clear` and `retain` leave, and which they take out.
pub mod Leaving
-- The table that is scanned, and what was done slot by slot.
pub mod Taking
-- The same definitions by what a window has observed of the map.
pub mod TableScans
-- An iterator as contracts see it, and what it returns.
pub mod Walked
