pub mod Eras
pub mod Kept
pub mod Paid
