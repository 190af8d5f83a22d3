-- Changing calls.
pub mod Relying
pub mod StepsOfOwn
pub mod Changing
pub mod Doing
pub mod Exchanging
pub mod Opens
pub mod Taking
pub mod MadeStays
pub mod Spent
pub mod OwnParts
pub mod Written
pub mod WritingSteps
pub mod Refusals
pub mod Helped
pub mod OwnSays
pub mod Inserting
pub mod InsertingReplies
pub mod InsertingHelped
-- insertions on the fast path
pub mod Seeking
pub mod Claiming
pub mod Replacing
pub mod Burying
pub mod Trading
pub mod Logged
pub mod Onward
-- searches that pass several places in one step
pub mod ProbingOn
-- the arguments of closures
pub mod ClosureCalls
-- removals
pub mod Removing
pub mod RemovingReplies
pub mod RemovingHelped
-- removals on the fast path
pub mod RemovingHits
-- copies for a call that is set aside
pub mod HelpingPlaces
pub mod HelpingFollows
pub mod Sized
pub mod MakingAsks
pub mod Numbered
pub mod HelpingLeads
pub mod HelpingExchanges
pub mod CopyKinds
pub mod Copiers
pub mod HelpingRelies
pub mod HelpingAnswers
pub mod HelpingCopies
pub mod HelpingArrives
pub mod HelpingGoes
-- calls that resize
pub mod ResizingStages
pub mod ResizingRooms
pub mod ResizingRelies
pub mod ResizingAnswers
pub mod ResizingOpens
-- slots that are copied one after another
pub mod SettlingTurns
pub mod SettlingSeen
pub mod ChunkTurns
pub mod HelpingSettling
pub mod ResizingSettling
