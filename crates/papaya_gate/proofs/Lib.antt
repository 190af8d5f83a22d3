pub mod Marks
pub mod Rolls
pub mod Gates
pub mod Reaching
pub mod Offers
pub mod Stages
