-- Re-exports the definitions that callers' contracts and proofs cite, as
-- `use Rattle.papaya.specs.Threads.{IsPut}`.
pub mod Json
pub mod Schedule
pub mod Seq
pub mod Sets
pub mod Sizes
pub mod Threads
pub mod Types
