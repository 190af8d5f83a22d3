-- The proof of the law. An exchange changes one word, and by that the result of a search for each
-- class of equal keys. The proof proceeds from one class to all words, and from one exchange to
-- lists. In the order in which it may be read:

-- one word, one class of keys, the chain of tables, one slot, and the invariant of both modes
pub mod Views
pub mod Class
pub mod Chain
pub mod Slots
pub mod Base
-- each exchange, without blocking and with it
pub mod Incremental
pub mod Blocking
-- facts that last, and facts at one point
pub mod Later
pub mod Moments
pub mod Readers
pub mod Burials
-- the law, and that nothing else has the meaning
pub mod Apart
pub mod OneMap
pub mod Unique
-- facts for machines: continuing a search, iterations, copying
pub mod Onward
pub mod Turns
pub mod Walks
pub mod Copies
pub mod CopierFacts
pub mod Kept
pub mod Numbers
-- tables that come later, and logs
pub mod Carries
pub mod Grows
pub mod Logs
pub mod Hashing
-- words as numbers
pub mod Codes
pub mod CodeSteps
pub mod CodeViews
pub mod Hints
-- a table as a list of pairs
pub mod Lists
pub mod FiniteMaps
pub mod Content
pub mod Counts
pub mod Joined
pub mod ChainContent
pub mod ChainTables
-- one further key
pub mod Alike
pub mod Further
pub mod FurtherMap
-- the conditions can be met
pub mod Example
