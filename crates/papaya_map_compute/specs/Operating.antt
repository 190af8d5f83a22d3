-- How a compute calls its operator with the entry of a key, and how it has ended.
use Rattle.std.specs.Prelude.{◌≡◌, Bool, Option, None, Some, Result, Ok, List, option_map}
use denote.Bor.{Bor}
use Rattle.papaya_words.specs.declared.refused.Refused.{Refused}
use Rattle.papaya_call.specs.declared.answers.Operation.{Operation}
use Rattle.papaya_call.specs.declared.answers.Operation.TheVariants as operation
use Rattle.papaya_map_book.specs.Logs.{Member, Stored}
use Rattle.papaya_map_lookup.specs.History.{Change}
use Rattle.papaya_map_change.specs.ClosureCalls.{AreRefsTo, HasReturned, WasLast}
use Rattle.papaya_words_keys.specs.declared.results.Compute.{Compute as Computed}
use Rattle.papaya_words_keys.specs.declared.results.Compute.TheVariants.{Aborted}
use Rattle.papaya_map_compute.specs.Computing.{IsReplied, value_in}
use Rattle.papaya_map_compute.specs.declared.operating.Ended.{Ended}

module _ {K V T : Type 0} where
  -- The operator is called with references to an entry, or with `None`.
  abbrev pub CallsClosure : {O : Type 0} → (O → Option (Bor K × Bor V) → Operation V T → O → Type 0) → O
      → Option (Stored K V) → Operation V T → O → Type 0
  CallsClosure operates f held done g = (shown : Option (Bor K × Bor V)) × AreRefsTo shown held
      × operates f shown done g

  -- A compute that ended on its fast path, where the key's value was `current`, if it had one.
  abbrev pub at_once : Result (Computed K V T) Refused → Option (Bor V) → Ended K V T
  at_once answer current = record { answer = answer; current = current; spare = None }

  -- If the operator returned a value when it was called with `None`, then `spare` is that value.
  abbrev pub IsSpare : Option (Bor V) → List (Option (Stored K V) × Operation V T) → Type 0
  IsSpare spare heard = (v : V) → Member (None, operation.Insert v) heard
      → (r : Bor V) × (spare ≡ Some r) × (r.now ≡ v)

  -- The compute was aborted with `with`. `current` is the value with which the operator was called
  -- last, if any, and `spare` is the value that it returned for an absent key, if any.
  abbrev pub IsLeft : Ended K V T → T → List (Option (Stored K V) × Operation V T) → Type 0
  IsLeft ended with heard = (held : Option (Stored K V))
      × WasLast held (operation.Abort with) heard
      × (option_map (λ v. v.now) ended.current ≡ value_in held) × IsSpare ended.spare heard

-- A compute has ended whose operator was `first`, and is now `left`.
pub record HasEnded {K V T O : Type 0} (eq : K → K → Bool) (key : K)
    (old new : List (Change K (Stored K V)))
    (says : O → Option (Stored K V) → Operation V T → O → Type 0) (first left : O)
    (ended : Ended K V T) : Type 0 where
  pub heard : List (Option (Stored K V) × Operation V T)
  pub has_said : HasReturned says first heard left
  pub replied : IsReplied eq key old new heard ended.answer
  pub is_left : (with : T) → ended.answer ≡ Ok (Aborted with) → IsLeft ended with heard
