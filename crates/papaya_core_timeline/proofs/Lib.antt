pub mod Abandoned
pub mod AdvanceLemmas
pub mod CallersLemmas
pub mod Begun
pub mod BudgetLaw
pub mod BudgetSpends
pub mod BudgetTables
pub mod ChainLemmas
pub mod CopyAnswers
pub mod CoreLemmas
pub mod CountedContent
pub mod CountedCore
pub mod CountedLemmas
pub mod CountedResized
pub mod CountedSeats
pub mod CountedStep
pub mod EndingLemmas
pub mod EventLemmas
pub mod FollowedTables
pub mod GivenLemmas
pub mod Good
pub mod GoodLemmas
pub mod GoodResized
pub mod GoodScans
pub mod GoodScanned
pub mod GoodScanEnds
pub mod GoodScanFits
pub mod StepScans
pub mod HeadlineLemmas
pub mod Intents
pub mod IntentSteps
pub mod IntentScans
pub mod KeptAnswer
pub mod KeptBegin
pub mod KeptClosures
pub mod KeptCopied
pub mod KeptCore
pub mod KeptExchange
pub mod KeptHints
pub mod KeptLemmas
pub mod KeptMade
pub mod KeptMap
pub mod KeptOthers
pub mod KeptPerformed
pub mod KeptResized
pub mod KeptSettings
pub mod KeptStep
pub mod KeptTables
pub mod KeptWritten
pub mod LegalLemmas
pub mod LinkWords
pub mod MachineLemmas
pub mod PairsBefore
pub mod MakerLemmas
pub mod MakerSteps
pub mod MadeTables
pub mod OneTable
pub mod ReplayLemmas
pub mod ResizerLaws
pub mod ResizerStands
pub mod ResizerTables
pub mod RunLemmas
pub mod ShowLemmas
pub mod SaidLemmas
pub mod SoloEnds
pub mod SoloLaw
pub mod SoloResizes
pub mod SoloRun
pub mod SoloTimeline
pub mod SoloScanners
pub mod StepEvents
pub mod StepTells
pub mod StoreLemmas
pub mod TellLemmas
pub mod TiedLemmas
pub mod TimelineLemmas
-- an example: a value that no closure returned is refused
pub mod InventedValue
-- the effect of an answer on the words and the arena
pub mod ScanAnswers
pub mod ScanBegins
pub mod KeptScanned
pub mod CountedScanned
pub mod SoloScans
pub mod LawfulScans
-- which tables are linked
pub mod ScanLinks
-- the effect of a step on all calls
pub mod ScanKept
-- the effect of others' steps on a scan
pub mod ScanOthers
-- the laws
pub mod ScanLaw
-- the effect of a step on the map
pub mod ScanMoves
-- its state is valid
pub mod ScanStands
-- how it ends if nobody else changes the words
pub mod ScanAlone
-- a pair enters the map once
pub mod EntersOnce
-- the facts at the end
pub mod ScanOver
pub mod MadePairs
pub mod Waits
pub mod MadeBefore
pub mod MadeStands
