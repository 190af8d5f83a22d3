-- Tokens of `boxcar` arenas.
pub mod Made
-- offers that pass tokens to the book
pub mod Offers
-- longer logs
pub mod Logs
pub mod Names
pub mod Windows
-- the facts that steps preserve and record
pub mod Cells
-- entries that change the map
pub mod Changes
pub mod Loads
pub mod Grown
pub mod Exchanges
pub mod Makers
pub mod Comes
pub mod Joining
pub mod Brings
pub mod Opening
pub mod Making
pub mod Settings
pub mod Tellings
-- bytes of a number, and hints
pub mod Bytes
pub mod Hinted
pub mod Found
pub mod Tables
pub mod Loaded
pub mod Kept
pub mod Opened
pub mod TableSizes
-- the numbers of slots of the tables that came
pub mod Lengths
-- the kind of machine that makes the exchange of a wish
pub mod Wishes
pub mod Words
pub mod Fetching
-- a linked table differs from all that have come
pub mod Linking
-- slots that no table has yet
pub mod FreshMore
