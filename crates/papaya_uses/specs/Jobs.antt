-- An outcome that one thread reports and another thread reads.
use Rattle.std.specs.Prelude.{◌≡◌, ◌==◌, ◌⊎◌, ℕ, Option, Some, List, [], ◌∷◌, ◌++◌, option_map}
use mathlib.Core.List.{IsPrefix}
use Rattle.papaya.specs.Threads.{Change, Stored, WasTakenOut, replay}

-- The history of a map from jobs to outcomes.
abbrev pub Seen : Type 0
Seen = List (Change ℕ (Stored ℕ ℕ))

-- The entry that the job has after this history, if any.
abbrev pub entry_of : (job : ℕ) → Seen → Option (Stored ℕ ℕ)
entry_of job history = replay (λ a b. a == b) history job

-- The last change of the history `new` put in an entry, which gives the job this outcome. The
-- change came after `old`.
pub record HasReported (job outcome : ℕ) (old new : Seen) : Type 0 where
  pub before : Seen
  pub change : Change ℕ (Stored ℕ ℕ)
  pub entry : Stored ℕ ℕ
  pub since : IsPrefix old before
  pub is : new ≡ before ++ change ∷ []
  pub class_is : change.class ≡ job
  pub put_is : change.put ≡ Some entry
  pub outcome_is : entry.value.value ≡ outcome

-- The result `read` is the outcome that the job has after the history `seen`, or `None`. The reader
-- had observed `old` before the call, and has observed `new` after it. The history `seen` is no
-- earlier than `old`, and no earlier than what the worker had observed. If the worker knew of an
-- entry of the job, the result is the outcome of that entry, unless a change took the entry out
-- before `seen`.
pub record IsReadAfter (job : ℕ) (worker old new : Seen) (read : Option ℕ) : Type 0 where
  pub seen : Seen
  pub since_worker : IsPrefix worker seen
  pub since_reader : IsPrefix old seen
  pub until : IsPrefix seen new
  pub read_is : option_map (λ p. p.value.value) (entry_of job seen) ≡ read
  pub stays : (p : Stored ℕ ℕ) → entry_of job worker ≡ Some p
      → (read ≡ Some p.value.value) ⊎ WasTakenOut worker seen p
