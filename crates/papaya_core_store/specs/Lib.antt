pub mod New
pub mod Pairs
pub mod Performs
pub mod Store
pub mod Tables
pub mod CopyAsks
pub mod Asks
-- one ask of a call that scans a table
pub mod Scans
