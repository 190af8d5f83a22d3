-- An entry that was held between two histories was held between any two further apart.
use Rattle.std.proofs.Common.{◌≡◌, ℕ, Bool, true, Option, None, Some, List, [], ◌∷◌, ◌++◌, append-nil, inl, inr, refl, sym, ap, subst}
use Rattle.std.specs.Cmp.{IsEquivalence}
use mathlib.Core.List.{IsPrefix}
use Rattle.papaya_words_law.specs.Exchange.{Exchange}
use Rattle.papaya_call_law.specs.Relies.{WasAtMoment}
use Rattle.papaya_map_book.specs.declared.rule.entry.Begun.{Begun}
use Rattle.papaya_map_book.specs.declared.rule.entry.Event.{Event}
use Rattle.papaya_map_book.specs.Hashes.{hash_of}
use Rattle.papaya_map_lookup.specs.History.{Change, history_of, key_of}
use Rattle.papaya_map_book.specs.Logs.{Member, Stored, exchanges_of}
use Rattle.papaya_map_book.specs.Rule.{IsLawfulLog}
use Rattle.papaya_map_change.specs.ClosureCalls.{AllArguments, HasReturned, WasHeld}
use Rattle.papaya_map_book.proofs.Logs.{prefix_trans}
use Rattle.papaya_map_lookup.proofs.Moments.{IsHistory, matched_history, own_history}
use Rattle.papaya_map_lookup.proofs.Readings.{IsQuery, coding, setting}

module _ {K V : Type 0} (eq : K → K → Bool) (matches : K → Bool) (older old new newer : List (Change K (Stored K V))) (before : IsPrefix older old)
    (behind : IsPrefix new newer) where
  pub held_wider : (held : _) → WasHeld eq matches old new held → WasHeld eq matches older newer held
  held_wider held h = record {
    seen = h.seen;
    since = prefix_trans older old h.seen before h.since;
    until = prefix_trans h.seen new newer h.until
        behind;
    is = h.is;
  }

-- a property of all arguments, derived from another one
pub all_shown : {X A : Type 0} (P Q : X → Type 0) → ((x : X) → P x → Q x) → (said : List (X × A)) → AllArguments P said → AllArguments Q said
all_shown P Q f [] all = tt
all_shown P Q f (last ∷ before) all = (f last.0 all.0, all_shown P Q f before all.1)

module _ {K V S : Type 0} (eq : K → K → Bool) (matches : K → Bool) (begun log : List (Event K V S)) where
  held_as : (value : Option (Stored K V)) (h : IsHistory eq matches begun log value) → WasHeld eq matches (history_of begun) (history_of log) value
  held_as None h = record { seen = h.seen; since = h.since; until = h.until; is = h.had }
  held_as (Some p) h = let own = h.found p refl in record { seen = h.seen; since = h.since; until = h.until; is = (own, h.had (key_of p) own) }

module _ {K V S H : Type 0} (eq : K → K → Bool) (input : K → List (List ℕ)) (build : S → H) (write : H → List ℕ → H) (finish : H → ℕ)
    (classes : IsEquivalence eq) (respects : (x y : K) → eq x y ≡ true → input x ≡ input y)
    (b : Begun K V S) (matches : K → Bool) (query : List (List ℕ)) (lawful : IsQuery eq input matches query) (begun log : List (Event K V S))
    (l : IsLawfulLog eq (hash_of input build write finish) b log)
    (since : List (Exchange (Stored K V))) (is : exchanges_of begun ++ since ≡ exchanges_of log) where
  abbrev Was : Option K → Option (Stored K V) → Type 0
  Was k value = WasAtMoment (setting eq input build write finish classes respects b matches query lawful log)
      (coding eq input build write finish classes respects b matches query lawful) (exchanges_of begun) since k value

  -- an entry that the map had at some point of a call was held between the histories at its
  -- beginning and now
  pub held_then : (value : Option (Stored K V)) → Was None value → WasHeld eq matches (history_of begun) (history_of log) value
  held_then value was = held_as eq matches begun log value
      (matched_history eq input build write finish classes respects b matches query lawful begun begun ([], append-nil begun) log l since is value was)

  -- the same for a call that has a key of its own
  pub own_held_then : (key : K) (value : Option (Stored K V)) → Was (Some key) value → WasHeld eq (eq key) (history_of begun) (history_of log) value
  own_held_then key value was = held_as eq (eq key) begun log value
      (own_history eq input build write finish classes respects b matches query lawful begun begun ([], append-nil begun) log l since is key value was)

-- A property of each call and its result holds of all calls that were made, if the closure is at
-- first in a state that allows it, and stays in such a state.
module _ {F X A : Type 0} (says : F → X → A → F → Type 0) (Is : F → Type 0) (P : X → A → Type 0)
    (each : (f : F) (x : X) (a : A) (g : F) → Is f → says f x a g → P x a × Is g) where
  stays_so : (f : F) → Is f → (said : List (X × A)) (g : F) → HasReturned says f said g → Is g
  stays_so f is [] g h = subst Is (sym h) is
  stays_so f is (last ∷ before) g h = (each h.0 last.0 last.1 g (stays_so f is before h.0 h.1) h.2).1

  pub said_so : (f : F) → Is f → (said : List (X × A)) (g : F) → HasReturned says f said g → (x : X) (a : A) → Member (x, a) said → P x a
  said_so f is [] g h x a m = absurd m
  said_so f is (last ∷ before) g h x a (inl same) = subst (λ z. P z.0 z.1) (sym same) (each h.0 last.0 last.1 g (stays_so f is before h.0 h.1) h.2).0
  said_so f is (last ∷ before) g h x a (inr m) = said_so f is before h.0 h.1 x a m

-- a property of each result that the closure may return holds of those that it returned
pub said_only : {F X A : Type 0} (says : F → X → A → F → Type 0) (P : A → Type 0) → ((f : F) (x : X) (a : A) (g : F) → says f x a g → P a)
    → (f : F) (said : List (X × A)) (g : F) → HasReturned says f said g → (x : X) (a : A) → Member (x, a) said → P a
said_only says P each f said g h x a m = said_so says (λ z. Unit {0}) (λ y b. P b) (λ f' y b g' is s. (each f' y b g' s, tt)) f tt said g h x a m

-- a property of all arguments holds of each of them
pub shown_each : {X A : Type 0} (P : X → Type 0) (said : List (X × A)) → AllArguments P said → (x : X) (a : A) → Member (x, a) said → P x
shown_each P [] all x a m = absurd m
shown_each P (last ∷ before) all x a (inl is) = subst P (ap (λ z. z.0) (sym is)) all.0
shown_each P (last ∷ before) all x a (inr m) = shown_each P before all.1 x a m
