pub mod Agreeing
pub mod Building
pub mod Filling
pub mod Lists
pub mod Members
pub mod ReadBack
