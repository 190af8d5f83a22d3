-- The lemmas of this crate alone: most are in papaya_core_timeline.
pub mod LimitMet
pub mod LimitRefusals
pub mod NumbersTaken
pub mod Steps
pub mod Walks
