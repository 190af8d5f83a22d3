pub mod Guards
pub mod Hashes
pub mod Sizes
