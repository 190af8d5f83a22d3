pub mod Untracked
pub mod Counted
pub mod Slots
