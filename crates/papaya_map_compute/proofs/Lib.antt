pub mod AnsweredValues
pub mod ChosenSlots
pub mod ChosenChains
pub mod PairsMade
pub mod ComputeOwn
pub mod ComputeGoes
pub mod ComputeHelped
pub mod ComputeShows
pub mod ComputePairs
pub mod ComputePuts
pub mod ComputeReplies
pub mod Endings
pub mod DoneBy
-- Computes on the fast path.
pub mod Resumed
pub mod Found
pub mod FastPath
pub mod AtOnce
-- while its machine runs
pub mod Running
