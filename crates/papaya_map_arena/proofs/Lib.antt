pub mod Made
pub mod Powers
pub mod Retyped
