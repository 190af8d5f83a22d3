-- A compute on the shared map: what it holds and relies on, by what it has observed of the map.
use Rattle.std.specs.Prelude.{◌≡◌, ℕ, Option, None, Some, Result, Ok, IfErr, []}
use Rattle.papaya_words.specs.declared.refused.Refused.{Refused}
use Rattle.papaya_call.specs.declared.answers.Operation.{Operation}
use Rattle.papaya_call.specs.declared.ask.Answer.{Answer}
use Rattle.papaya_call.specs.declared.ask.Ask.TheVariants.{Done}
use Rattle.papaya_call.specs.declared.call.Reply.TheVariants.{Aborted as ReplyAborted}
use Rattle.papaya_call.specs.declared.call.Reply.TheVariants.{Refused as ReplyRefused}
use Rattle.papaya_call.specs.ChainMachine.{after, ask_of}
use Rattle.papaya_call.specs.declared.chain.ask.Answer.TheVariants.{Call as Told}
use Rattle.papaya_call.specs.declared.chain.ask.Ask.TheVariants.{Call}
use Rattle.papaya_call.specs.declared.chain.machine.Phase.TheVariants.{Calling}
use Rattle.papaya_words_keys.specs.declared.results.Compute.{Compute as Computed}
use Rattle.papaya_words_keys.specs.declared.results.Compute.TheVariants.{Aborted}
use Rattle.papaya_map_book.specs.declared.keyed.Keyed as keyed
use Rattle.papaya_map_book.specs.declared.window.Window.{Window}
use Rattle.papaya_map_book.specs.Keys.{Keys}
use Rattle.papaya_map_book.specs.Logs.{Stored}
use Rattle.papaya_map_book.specs.Parts.{begun_of}
use Rattle.papaya_map_book.specs.Windows.{Sees}
use Rattle.papaya_map_compute.specs.declared.slow_path.Computing.{Computing}
use Rattle.papaya_map_compute.specs.declared.slow_path.ComputeStep.{ComputeStep}
use Rattle.papaya_map_compute.specs.declared.slow_path.ComputeStep.TheVariants.{Answered, CallsClosure, Replied}
use Rattle.papaya_map_compute.specs.Computing.{IsToCall}
use Rattle.papaya_map_compute.specs.Computing as computing
use Rattle.papaya_call.specs.Machine.{ask_of as call_ask_of}
use Rattle.papaya_map_change.specs.Doing.{Answers, has_changed}
use Rattle.papaya_map_change.specs.Window.Driver.{Helps}
use Rattle.papaya_map_compute.specs.ComputeAnswers.{changes}

module _ {K V S T H : Type 0} {d : keyed.Ghosts S K H} where
  abbrev pub CanCompute : Window K V S H d → Computing K V S T H → Type 0
  CanCompute w x = computing.CanCompute d.keys.eq d.keys.hash (begun_of w.book.now.parts)
      w.book.now.begun.book w.sight.log x

  abbrev pub Computes : Window K V S H d → Computing K V S T H → Window K V S H d
      → Computing K V S T H → Option Answer → Type 0
  Computes w x w' x' answer = computing.Computes d.keys.eq d.keys.hash
      (begun_of w.book.now.parts) w.book.now.begun.book w.sight.log x w'.sight.log x' answer

  abbrev pub CanTake : Window K V S H d → Computing K V S T H → Answer → Type 0
  CanTake w x answer = computing.CanTake d.keys.eq d.keys.hash (begun_of w.book.now.parts)
      w.book.now.begun.book w.sight.log x answer

  abbrev pub Takes : Window K V S H d → Computing K V S T H → Answer → Window K V S H d
      → Computing K V S T H → Type 0
  Takes w x answer w' x' = computing.Takes d.keys.eq d.keys.hash (begun_of w.book.now.parts)
      w.book.now.begun.book w.sight.log x answer w'.sight.log x'

  abbrev pub Replies : Window K V S H d → Computing K V S T H → Result (Computed K V T) Refused
      → Type 0
  Replies w x answer = computing.Replies d.keys.eq d.keys.hash (begun_of w.book.now.parts)
      w.book.now.begun.book w.sight.log x answer

  -- The compute's machine received this answer, and if that set it aside, the call has helped the
  -- copy.
  pub record HasAnswered (w : Window K V S H d) (x : Computing K V S T H) (answer : Answer)
      (w' : Window K V S H d) (x' : Computing K V S T H) : Type 0 where
    pub helps : Helps w (after x.writer.call.machine (Told answer)) w' x'.writer.call
    pub still : (after x.writer.call.machine (Told answer)).phase ≡ Calling → w' ≡ w
    pub takes : Takes w x answer w' x'

  -- The compute has returned `answer`. If it is a refusal, its machine replied the same cause, and
  -- if it is an abort, its machine replied that.
  pub record HasReplied (w : Window K V S H d) (x : Computing K V S T H)
      (answer : Result (Computed K V T) Refused) : Type 0 where
    pub refusal : IfErr answer (λ refused. ask_of x.writer.call.machine
        ≡ Call (Done (ReplyRefused refused)))
    pub changed : changes answer ≡ has_changed x.writer.call.machine
    pub aborted : (with : T) → answer ≡ Ok (Aborted with) → (n : ℕ)
        × (ask_of x.writer.call.machine ≡ Call (Done (ReplyAborted n)))
    pub replies : Replies w x answer

  -- A compute of this key that begins now.
  abbrev pub IsBegun : Window K V S H d → K → Computing K V S T H → Type 0
  IsBegun w key x = computing.IsComputing d.keys.eq d.keys.hash (begun_of w.book.now.parts)
      w.book.now.begun.book key w.sight.log w.sight.log x []

  -- The compute's next turn: it gets an answer, its closure is to be called, or it has replied.
  abbrev pub TakesStep : Window K V S H d → Computing K V S T H → Window K V S H d
      → Computing K V S T H → ComputeStep K V → Type 0
  TakesStep w x w' x' (Answered answer) = Computes w x w' x' (Some answer)
      × Answers (call_ask_of x.writer.call.machine.call) (Some answer) w w'
  TakesStep w x w' x' (CallsClosure shown) = IsToCall x shown × (w' ≡ w) × (x' ≡ x)
  TakesStep w x w' x' Replied = Computes w x w' x' None
      × Answers (call_ask_of x.writer.call.machine.call) None w w'

  -- The compute has taken this turn, and its machine is the same.
  pub record HasStepped (w : Window K V S H d) (x : Computing K V S T H) (w' : Window K V S H d)
      (x' : Computing K V S T H) (turn : ComputeStep K V) : Type 0 where
    pub sees : Sees w w'
    pub machine : x'.writer.call.machine ≡ x.writer.call.machine
    pub turns : TakesStep w x w' x' turn

module _ {K V S T H : Type 0} where
  -- For some window of such a map, some compute is under way.
  abbrev pub IsAnyCompute : Keys K S → Computing K V S T H → Type 0
  IsAnyCompute keys x = (w : Window K V S H (record { keys = keys })) × CanCompute w x

  -- Whatever has been observed of the map: the closure was called with `shown` and returned `done`,
  -- and each compute under way goes on with this answer and no step.
  abbrev pub RecordsResult : Keys K S → Computing K V S T H → Option (Stored K V) → Operation V T
      → Computing K V S T H → Answer → Type 0
  RecordsResult keys x shown done x' answer = (w : Window K V S H (record { keys = keys }))
      → Answers (call_ask_of x.writer.call.machine.call) (Some answer) w w
      × computing.RecordsResult keys.eq keys.hash (begun_of w.book.now.parts) w.book.now.begun.book
      w.sight.log x shown done x' answer
