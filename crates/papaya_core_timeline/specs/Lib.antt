pub mod Advances
pub mod Begins
pub mod Callers
pub mod Content
pub mod Core
pub mod Counted
pub mod Ends
pub mod Given
pub mod Headline
-- what a call under way would do
pub mod Intends
pub mod Kept
pub mod Maps
pub mod Moves
pub mod New
-- the outcome of a call
pub mod Outcomes
pub mod Resized
pub mod Resizes
pub mod Runs
pub mod Solo
pub mod Timeline
-- how a call that scans a table relates to the law of exchanges
pub mod Scans
-- one step of such a call
pub mod ScanGoes
-- a pair that has left the map does not come back
pub mod Once
