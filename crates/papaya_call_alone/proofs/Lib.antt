-- how much is left to a copy after each answer
pub mod Telling
pub mod Afters
pub mod LinkEnds
pub mod CarryEnds
pub mod SettleEnds
pub mod StepEnds
pub mod CopyEnds
pub mod CopyPrompts
pub mod CopyLaw
pub mod Calm
pub mod CallRanks
pub mod CallPrompts
pub mod Onwards
pub mod CallLaw
pub mod AsideRanks
pub mod AsideCopies
pub mod MachineLaw
pub mod Measures
pub mod ChainLaw
pub mod AtLimit
pub mod CopyLeads
pub mod ResizerLaw
pub mod ResizerEnds
pub mod ChunkCounts
-- a call that scans a table: how much is left, and what each answer leaves
pub mod ScanLefts
pub mod ScanLaw
