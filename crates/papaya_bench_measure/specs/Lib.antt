pub mod Arguments
pub mod Plan
