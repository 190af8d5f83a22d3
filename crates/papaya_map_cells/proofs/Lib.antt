pub mod Keyed
pub mod Fresh
pub mod Calls
pub mod Counting
pub mod Made
pub mod Sent
pub mod Steps
