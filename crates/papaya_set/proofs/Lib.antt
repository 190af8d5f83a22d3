pub mod Kept
pub mod KeptShared
pub mod Same
pub mod Taken
