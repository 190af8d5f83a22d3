-- The results of a compute, and what it relies on.
pub mod ComputeAnswers
pub mod Computing
pub mod Putting
-- A compute that goes on with a pair that was made.
pub mod Resuming
pub mod FastPath
-- How a compute calls its operator, and how it has ended.
pub mod Operating
-- A call that stores a value under a condition.
pub mod Deciding
-- The same definitions by what a window has observed of the map.
pub mod Computes
-- The results of the rules.
pub mod Rules
