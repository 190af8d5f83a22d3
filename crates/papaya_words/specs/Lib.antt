pub mod Chunks
pub mod Counter
pub mod Mode
pub mod Probe
pub mod Refusals
pub mod Fresh
pub mod Table
pub mod Word
