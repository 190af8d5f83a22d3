-- A pair, a table, a token and a key's hash, as contracts see them.
pub mod Pairs
pub mod Brought
pub mod PairParts
pub mod Sheets
pub mod Tokens
pub mod Hashes
pub mod Keys
-- The log, the rule of the book, and what the book keeps beside the log.
pub mod Logs
-- The row of words that tables are made of.
pub mod Rows
pub mod Rule
-- Which exchanges change the map.
pub mod Changes
-- The book's rule for hints.
pub mod Hinted
pub mod Plays
pub mod Makers
pub mod Fetches
pub mod Offer
pub mod Own
pub mod Limits
-- How a map resizes.
pub mod Modes
pub mod Parts
pub mod Calls
-- The same definitions by the keys of the map and the book.
pub mod Books
-- A map as a call observes it.
pub mod Windows
