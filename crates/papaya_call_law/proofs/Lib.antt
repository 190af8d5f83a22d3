-- the facts that machines rely on
pub mod ReliesCarried
pub mod ReliesHints
pub mod ReliesNames
pub mod ReliesStable
pub mod ReliesTables
-- the words that it puts in
pub mod NewWords
-- the facts that a machine relies on after an answer
pub mod ReliesLearnMoments
pub mod ReliesLearnPlaces
pub mod ReliesLearnLook
pub mod ReliesLearnLoaded
pub mod ReliesLearnPairs
pub mod ReliesLearnComputes
pub mod ReliesLearnGoes
pub mod ReliesServed
pub mod ReliesExchange
pub mod ReliesLearnWrites
pub mod ReliesLearnRemovals
pub mod ReliesLearn
-- the states after a load or a search
pub mod Leads
-- the asks of a call that makes a pair, and the state after each
pub mod Makings
-- its task stays
pub mod Tasks
-- its changes, and its failures
pub mod ReliesReply
pub mod ReliesReplyRefused
pub mod ReliesRemovals
pub mod ReliesCount
pub mod ReliesOpened
-- the results of its closure that it relies on
pub mod SaysWords
pub mod SaysSaid
pub mod SaysChanges
pub mod SaysOnce
pub mod SaysOver
pub mod SaysValues
pub mod Silent
-- the number of loads of a lookup
pub mod LoadsBound
pub mod LoadsLeft
pub mod LoadsLists
pub mod LoadsSteps
-- a valid machine is valid after each answer
pub mod Standing
-- a call whose words nobody else changes
pub mod AloneCurrent
pub mod AloneSteps
pub mod AloneUnmatched
-- one further key
pub mod FurtherWords
-- the table that it names, and the kinds of its asks
pub mod Followed
pub mod ReliesHeld
pub mod ReliesCopied
-- the facts that a copier relies on
pub mod CopierStable
pub mod CopierTables
pub mod CopierGuarantee
pub mod CopierExchange
pub mod CopierLinks
pub mod CopierCarries
pub mod CopierCursors
pub mod CopierSettles
pub mod CopierSettlesMade
pub mod CopierSteps
pub mod CopierCopies
-- the state of a call that is set aside, and how it continues
pub mod Aside
pub mod Onward
-- the facts that it relies on stay true
pub mod Stable
-- the outcome of a copy, and the facts after each answer
pub mod Outcomes
pub mod Making
pub mod CopyTold
pub mod Learns
-- the words that a copy names, and may exchange
pub mod Names
-- the state of its call after an answer
pub mod Goes
pub mod Replies
pub mod Order
-- the table that it is about to link
pub mod LinkStates
pub mod LinkMade
-- its closure is called with None at most once
pub mod Once
-- the causes of its failures
pub mod CopyRefusals
pub mod LinkRefusals
pub mod Refusals
-- a call that resizes the map
pub mod ResizerRelies
pub mod ResizerRefusals
-- it is within its tables
pub mod CopyStanding
pub mod ChainStanding
-- a call that scans a table: the exchanges that take a pair out of the map
pub mod ScanTaken
-- the steps about each key's pair, slot by slot, and the facts at the end
pub mod ScanSlots
pub mod ScanEnds
-- the facts that it relies on stay true, its asks, and the facts after each answer
pub mod ScanStable
pub mod ScanAsks
pub mod ScanLearns
-- whatever tables come later
pub mod ScanTables
-- its changes, and the causes of its failures
pub mod ScanOutcomes
-- if the root has no next table
pub mod ScanUndisturbed
