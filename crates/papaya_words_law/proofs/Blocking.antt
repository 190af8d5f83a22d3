pub mod ClassSteps
pub mod States
pub mod SlotSteps
pub mod Links
pub mod TableSteps
pub mod Steps
