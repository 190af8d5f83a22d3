-- A call that stores a value under a condition: a compute whose closure is a rule.
use Rattle.std.specs.Prelude.{◌≡◌, Bool, true, false, Option, None, Some, Result, Ok, Err, List}
use Rattle.std.specs.Prelude.{option_map}
use denote.Bor.{Bor}
use Rattle.papaya_words.specs.declared.refused.Refused.{Refused}
use Rattle.papaya_call.specs.declared.answers.Operation.{Operation}
use Rattle.papaya_call.specs.declared.answers.Operation.TheVariants as operation
use Rattle.papaya_map_book.specs.Logs.{Member, Stored}
use Rattle.papaya_map_lookup.specs.History.{Change, key_of}
use Rattle.papaya_map_change.specs.Changes.{IsChangeOf}
use Rattle.papaya_map_change.specs.ClosureCalls.{AllArguments, HasReturned, IsNoneOnce, WasHeld, WasLast}
use Rattle.papaya_map_change.specs.Writing.{IsMemoryCapacityOrLimit}
use Rattle.papaya_words_keys.specs.declared.results.Compute.{Compute as Computed}
use Rattle.papaya_words_keys.specs.declared.results.Compute.TheVariants.{Inserted, Updated, Removed, Aborted}
use Rattle.papaya_map_compute.specs.ComputeAnswers.{WasOperated}
use Rattle.papaya_map_compute.specs.Computing.{value_in}
use Rattle.papaya_map_compute.specs.Operating.{IsSpare}
use Rattle.papaya_map_compute.specs.declared.deciding.Decided.{Decided}
use Rattle.papaya_map_compute.specs.declared.deciding.Decided.TheVariants.{Put, Replaced, Left}

-- Whether the call stored a value.
abbrev pub puts : {V : Type 0} → Result (Decided V) Refused → Bool
puts (Ok (Put v)) = true
puts (Ok (Replaced v)) = true
puts (Ok (Left current spare)) = false
puts (Err refused) = false

-- The outcome of such a call, by the result of its compute, which removed nothing. `current` is the
-- value that the key had, and `spare` is the value that was stored in the arena but not put in.
abbrev pub outcome_of : {K V : Type 0} → Computed K V (Unit {0}) → (current spare : Option (Bor V))
    → Decided V
outcome_of (Inserted k v) current spare = Put v
outcome_of (Updated before after) current spare = Replaced after.1
outcome_of (Removed k v) current spare = Left current spare
outcome_of (Aborted t) current spare = Left current spare

-- The result of such a call.
abbrev pub answer_of : {K V : Type 0} → Result (Computed K V (Unit {0})) Refused
    → (current spare : Option (Bor V)) → Result (Decided V) Refused
answer_of (Ok done) current spare = Ok (outcome_of done current spare)
answer_of (Err refused) current spare = Err refused

-- The rule is called with this value, or with `None`. It returns the value to store, or `None` if
-- all is to stay as it is.
abbrev pub WishesOf : {F V : Type 0} → (F → Option V → Option V → F → Type 0) → F → Option V
    → Operation V (Unit {0}) → F → Type 0
WishesOf decides f held (operation.Insert v) g = decides f held (Some v) g
WishesOf decides f held operation.Remove g = ⊥
WishesOf decides f held (operation.Abort t) g = decides f held None g

module _ {K V : Type 0} where
  -- The rule is called with the value behind the reference, or with `None`.
  abbrev pub AsksRule : {F : Type 0} → (F → Option V → Option V → F → Type 0) → F
      → Option (Bor K × Bor V) → Operation V (Unit {0}) → F → Type 0
  AsksRule decides f shown done g = WishesOf decides f (option_map (λ e. e.1.now) shown) done g

  -- The rule is called with the value of this entry, or with `None`.
  abbrev pub Wishes : {F : Type 0} → (F → Option V → Option V → F → Type 0) → F
      → Option (Stored K V) → Operation V (Unit {0}) → F → Type 0
  Wishes decides f held done g = WishesOf decides f (value_in held) done g

  -- No call returned that an entry is to be removed.
  abbrev pub HasNoRemoval : List (Option (Stored K V) × Operation V (Unit {0})) → Type 0
  HasNoRemoval heard = (held : Option (Stored K V)) → Member (held, operation.Remove) heard → ⊥

module _ {K V : Type 0} (eq : K → K → Bool) (key : K)
    (old new : List (Change K (Stored K V))) where
  -- The result of such a call, by the calls of its rule in `heard`. A value that replaces another
  -- gets the stored key.
  abbrev pub IsDecidedOf : List (Option (Stored K V) × Operation V (Unit {0}))
      → Result (Decided V) Refused → Type 0
  IsDecidedOf heard (Ok (Put v)) = (q : Stored K V) × IsChangeOf (eq key) old new None (Some q)
      × (key_of q ≡ key) × Member (None, operation.Insert q.value.value) heard
      × (v.now ≡ q.value.value)
  IsDecidedOf heard (Ok (Replaced v)) = (p : Stored K V) × (q : Stored K V)
      × IsChangeOf (eq key) old new (Some p) (Some q) × (key_of q ≡ key_of p)
      × WasOperated eq key old new p (operation.Insert q.value.value) heard
      × (v.now ≡ q.value.value)
  IsDecidedOf heard (Ok (Left current spare)) = (held : Option (Stored K V))
      × WasLast held (operation.Abort tt) heard
      × (option_map (λ v. v.now) current ≡ value_in held) × IsSpare spare heard
  IsDecidedOf heard (Err refused) = IsMemoryCapacityOrLimit refused

  -- The result of such a call, by the calls of its rule in `heard`, of which the last comes first.
  -- Whatever the rule was called with, the map had for the key in some history between the two. It
  -- was called with `None` at most once.
  pub record IsDoneBy (heard : List (Option (Stored K V) × Operation V (Unit {0})))
      (answer : Result (Decided V) Refused) : Type 0 where
    pub held : AllArguments (WasHeld eq (eq key) old new) heard
    pub none_once : IsNoneOnce heard
    pub decided : IsDecidedOf heard answer

  -- The same for a rule that was `first`, and is now `left`.
  pub record IsDecided {F : Type 0} (decides : F → Option V → Option V → F → Type 0)
      (first left : F) (answer : Result (Decided V) Refused) : Type 0 where
    pub heard : List (Option (Stored K V) × Operation V (Unit {0}))
    pub has_said : HasReturned (Wishes decides) first heard left
    pub done : IsDoneBy heard answer
