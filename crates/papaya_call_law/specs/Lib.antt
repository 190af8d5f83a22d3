-- what an answer says, what a machine relies on, and on which results of its closure it acts
pub mod TrueAnswers
pub mod Relies
pub mod Says
-- which tables it names, and what it has yet to count
pub mod Followed
pub mod Owed
-- how much a lookup loads, and a call whose words nobody else changes
pub mod Loads
pub mod Alone
-- what a copier relies on
pub mod Copier
-- what an answer says, and what a call over a chain of tables relies on
pub mod ChainAnswers
pub mod ChainRelies
-- what an answer does to its call
pub mod Goes
-- a call that resizes the map
pub mod Resizers
-- a call that scans a table: which exchanges take a pair out of the map, what an answer tells it,
-- what it relies on, what an answer did, and why it is refused
pub mod ScanTaken
pub mod ScanAnswers
pub mod Scans
pub mod ScanOutcomes
