-- The outcome of a call: its reply, or the list of an iteration that has ended.
use Rattle.std.specs.Prelude.{◌≡◌, ℕ, List, [], ◌∷◌, ◌++◌, Option, None, Some}
use Rattle.papaya_call.specs.declared.call.Reply.{Reply}
use Rattle.papaya_call.specs.declared.call.Reply.TheVariants.{Done}
use Rattle.papaya_core_timeline.specs.declared.outcome.Outcome.{Outcome}
use Rattle.papaya_core_timeline.specs.declared.outcome.Outcome.TheVariants.{Replied, Walked}
use Rattle.papaya_call.specs.declared.chain.ask.ScanAsk.{ScanAsk}
use Rattle.papaya_call.specs.declared.chain.ask.ScanAsk.TheVariants.{Given}
use Rattle.papaya_call.specs.declared.chain.scanner.Scan.{Scan}
use Rattle.papaya_call.specs.declared.chain.scanner.Scan.TheVariants.{Walk}
use Rattle.papaya_call.specs.Scanner.{ask_of}
use Rattle.papaya_core_store.specs.declared.scans.Scanning.{Scanning}

-- the reply that a trace records for an outcome: `Done` for the list of an iteration
abbrev pub reply_told : Outcome → Reply
reply_told (Replied reply) = reply
reply_told (Walked list) = Done

-- the reply of a call, if it has ended
abbrev pub as_reply : Option Outcome → Option Reply
as_reply None = None
as_reply (Some outcome) = Some (reply_told outcome)

-- the pair that an iteration returns by this ask, as a list of at most one number
abbrev pub given_by : Option ScanAsk → List ℕ
given_by (Some (Given n)) = n ∷ []
given_by _ = []

-- the pairs that a scan has returned, and the one that it returns by its next ask
abbrev pub all_given : {A : Type 0} → Scanning A → List ℕ
all_given v = v.given ++ given_by (ask_of v.scanner)

-- the outcome of an iteration that has ended is the list of all pairs that it returned, and no
-- other scan has a list as its outcome
abbrev pub ListsGiven : Scan → (given : List ℕ) → Outcome → Type 0
ListsGiven scan given (Walked list) = (scan ≡ Walk) × (list.items ≡ given)
ListsGiven scan given (Replied reply) = scan ≡ Walk → reply ≡ Done → ⊥

-- a call that scans no table has no list as its outcome
abbrev pub ListsNone : Outcome → Type 0
ListsNone (Walked list) = ⊥
ListsNone (Replied reply) = Unit {0}

-- the outcome of a step, if there is one, fits the scan that was under way before it, if there was
-- one
abbrev pub AnswersWalk : {A : Type 0} → Option (Scanning A) → Option Outcome → Type 0
AnswersWalk before None = Unit {0}
AnswersWalk None (Some outcome) = ListsNone outcome
AnswersWalk (Some v) (Some outcome) = ListsGiven v.scanner.scan (all_given v) outcome
