pub mod Search
pub mod Answers
pub mod Compute
pub mod Machine
pub mod Made
pub mod Remove
pub mod Write
pub mod ChainMachine
pub mod TableSize
pub mod Resizer
-- a call that scans a table
pub mod Scanner
pub mod Carry
pub mod Copying
pub mod Link
pub mod Settle
pub mod Step
