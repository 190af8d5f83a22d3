-- A call on one key as a value, with the state in which it begins.
use Rattle.std.proofs.Common.{◌≡◌, ℕ, ◌^◌, ◌<◌, Bool, true, false, Option, None, Some, refl, subst}
use Rattle.papaya_core_store.specs.declared.store.Mode.{Mode}
use Rattle.papaya_call.specs.declared.call.Call.{Call}
use Rattle.papaya_call.specs.declared.call.Call.TheVariants as calls
use Rattle.papaya_call.specs.declared.call.Task.{Task}
use Rattle.papaya_call.specs.declared.call.Task.TheVariants.{Insert, RemoveIf, Compute}
use Rattle.papaya_core_store.specs.declared.pairs.Running.{Running}
use Rattle.papaya_core_timeline.specs.declared.seat.Work.TheVariants as works
use Rattle.papaya_core_timeline.specs.Begins.{begun, begun_work}
use Rattle.papaya_core_timeline.specs.Maps.{key_of}
use Rattle.papaya_seq.specs.Map.{insertion}

-- A call on this key, with the state in which it begins.
pub record KeyCall (K V : Type 0) : Type 0 where
  pub call : Call K V (Unit {0})
  pub key : K
  pub task : Task
  pub value : Option V
  pub answers : Option (Unit {0})
  pub key_is : key_of call ≡ Some key
  pub begins : (hash : K → ℕ) (mode : Mode) (initial number : ℕ)
      → begun_work hash mode initial number call ≡ works.Call (begun hash mode initial number task key value answers)

-- as it begins
abbrev pub first_of : {K V : Type 0} → (K → ℕ) → Mode → (initial number : ℕ) → KeyCall K V → Running K V (Unit {0})
first_of hash mode initial number call = begun hash mode initial number call.task call.key call.value call.answers

-- the hash of its key, if that of this key has 64 bits
pub key_fits : {K V : Type 0} (hash : K → ℕ) (call : KeyCall K V) → hash call.key < 2 ^ 64 → (k : K) → key_of call.call ≡ Some k → hash k < 2 ^ 64
key_fits hash call fits k e = let same : call.key ≡ k = cc (call.key_is, e) in subst (λ x. hash x < 2 ^ 64) same fits

-- an insertion that replaces the key's pair, or one that doesn't
abbrev pub keyed_insertion : {K V : Type 0} → Bool → K → V → KeyCall K V
keyed_insertion replace k value = record {
  call = insertion replace k value;
  key = k;
  task = Insert replace;
  value = Some value;
  answers = None;
  key_is = key_is replace k value;
  begins = begins replace k value;
}
  where
    key_is : {K V : Type 0} (replace : Bool) (k : K) (value : V) → key_of (insertion replace k value) ≡ Some k
    key_is true k value = refl
    key_is false k value = refl

    begins : {K V : Type 0} (replace : Bool) (k : K) (value : V) (hash : K → ℕ) (mode : Mode) (initial number : ℕ)
        → begun_work hash mode initial number (insertion replace k value) ≡ works.Call (begun hash mode initial number (Insert replace) k (Some value) None)
    begins true k value hash mode initial number = refl
    begins false k value hash mode initial number = refl

-- a removal, and a compute, for any result of a closure
abbrev pub keyed_removal : {K V : Type 0} → K → KeyCall K V
keyed_removal k = record {
  call = calls.RemoveIf k tt;
  key = k;
  task = RemoveIf;
  value = None;
  answers = Some tt;
  key_is = refl;
  begins = λ hash mode
      initial number. refl;
}

abbrev pub keyed_compute : {K V : Type 0} → K → KeyCall K V
keyed_compute k = record {
  call = calls.Compute k tt;
  key = k;
  task = Compute;
  value = None;
  answers = Some tt;
  key_is = refl;
  begins = λ hash mode
      initial number. refl;
}
