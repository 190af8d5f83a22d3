-- The answers that machines receive.
pub mod AskedPairs
pub mod KeptKeys
pub mod Namesakes
pub mod Driving
pub mod Replies
-- lookups
pub mod Lookups
pub mod Histories
pub mod Readings
pub mod Answering
pub mod Comparing
pub mod Moments
pub mod LookupReplies
pub mod Turning
-- the search of the root alone
pub mod Slots
pub mod Nearing
