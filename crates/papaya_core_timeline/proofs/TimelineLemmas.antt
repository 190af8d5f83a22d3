-- A history with one more entry, and a timeline with one more map.
use Rattle.std.proofs.Common.{◌≡◌, ◌≢◌, ℕ, Bool, ◌<◌, ◌==◌, false, cond, Option, Some, List, [], ◌∷◌, length, slice_get, inl, inr, refl, ◌∙◌, ap, arith, eq-eqb}
use Rattle.std.proofs.lemmas.Bool.{cases_Bool}
use Rattle.papaya_call.specs.Answers.{op_kind}
use Rattle.papaya_call.specs.declared.answers.Operation.{Operation}
use Rattle.papaya_core_timeline.specs.declared.trace.Turn.{Turn}
use Rattle.papaya_core_timeline.specs.declared.trace.Entry.{Entry}
use Rattle.papaya_core_timeline.specs.declared.trace.Event.{Event}
use Rattle.papaya_core_timeline.specs.declared.trace.Event.TheVariants.{Asked, Shown}
use Rattle.papaya_core_timeline.specs.Headline.{AreInArena}
use Rattle.papaya_core_timeline.specs.Maps.{Map}
use Rattle.papaya_core_timeline.specs.Runs.{History}
use Rattle.papaya_core_store.specs.Store.{StoreState, Stored, pair_of}
use Rattle.papaya_core_timeline.specs.Timeline.{Answered, begun_by, open_call, open_after, change_of}
use Rattle.papaya_core_timeline.specs.Timeline.{change_by, is_begin, begins, last_shown, shown_by}
use Rattle.papaya_core_timeline.specs.Timeline.{was_shown_none, none_by, WasAnswered, WasAsked, WasShown}
use Rattle.papaya_core_timeline.specs.Timeline.{AtSomeMoment, IsUnused}
use Rattle.papaya_core_timeline.proofs.CallersLemmas.{differs}
use Rattle.papaya_core_store.proofs.Logs.{pair_below}

-- an entry of this turn and caller
abbrev pub entry : (turn caller : ℕ) → Event → Entry
entry turn caller event = record { turn = turn; caller = caller; event = event }

module _ {K V A : Type 0} (schedule : List (Turn K V A)) where
  -- another caller's entry leaves the call that a caller has open
  pub open_call-other : (c d turn : ℕ) (event : Event) (before : History) → c ≢ d
      → open_call schedule d (entry turn c event ∷ before) ≡ open_call schedule d before
  open_call-other c d turn event before h = ap
      (λ b. cond b (open_after event (begun_by (slice_get schedule turn)) (open_call schedule d before)) (open_call schedule d before)) (differs c d h)

  pub open_call-own : (c turn : ℕ) (event : Event) (before : History)
      → open_call schedule c (entry turn c event ∷ before) ≡ open_after event (begun_by (slice_get schedule turn)) (open_call schedule c before)
  open_call-own c turn event before = ap (λ b.
      cond b (open_after event (begun_by (slice_get schedule turn)) (open_call schedule c before)) (open_call schedule c before)) (eq-eqb c c refl)

-- and its change
pub change_of-other : (c d turn : ℕ) (event : Event) (before : History) → c ≢ d → change_of d (entry turn c event ∷ before) ≡ change_of d before
change_of-other c d turn event before h = ap (λ b. cond b (change_by event (change_of d before)) (change_of d before)) (differs c d h)

pub change_of-own : (c turn : ℕ) (event : Event) (before : History) → change_of c (entry turn c event ∷ before) ≡ change_by event (change_of c before)
change_of-own c turn event before = ap (λ b. cond b (change_by event (change_of c before)) (change_of c before)) (eq-eqb c c refl)

-- it begins no call of the caller
pub not_begin-other : (c d turn : ℕ) (event : Event) → c ≢ d → is_begin d (entry turn c event) ≡ false
not_begin-other c d turn event h = ap (λ b. cond b (begins event) false) (differs c d h)

-- nor does an event that is no begin
pub not_begin-own : (c d turn : ℕ) (event : Event) → begins event ≡ false → is_begin d (entry turn c event) ≡ false
not_begin-own c d turn event h = elim (cases_Bool (c == d)) [
  | inl same ↦ ap (λ b. cond b (begins event) false) same ∙ h
  | inr other ↦ ap (λ b. cond b (begins event) false) other
]

-- a closure call with this result stays in the history, whatever another caller does
pub asked-other : (c d turn n : ℕ) (agrees : Bool) (event : Event) (before : History) → c ≢ d → WasAsked d n agrees before
    → WasAsked d n agrees (entry turn c event ∷ before)
asked-other c d turn n agrees event before differ was = inr (not_begin-other c d turn event differ, was)

-- and whatever its own caller does but begin a call
pub asked-own : (c d turn n : ℕ) (agrees : Bool) (event : Event) (before : History) → begins event ≡ false → WasAsked d n agrees before
    → WasAsked d n agrees (entry turn c event ∷ before)
asked-own c d turn n agrees event before no_begin was = inr (not_begin-own c d turn event no_begin, was)

-- the newest entry is such a call
pub asked-now : (c turn n : ℕ) (agrees : Bool) (event : Event) (before : History) → event ≡ Asked n agrees → WasAsked c n agrees (entry turn c event ∷ before)
asked-now c turn n agrees event before is = inl (refl, is)

-- the last argument of a closure stays, whatever another caller does
pub last_shown-other : (c d turn : ℕ) (event : Event) (before : History) → c ≢ d → last_shown d (entry turn c event ∷ before) ≡ last_shown d before
last_shown-other c d turn event before h = ap (λ b. cond b (shown_by event (last_shown d before)) (last_shown d before)) (differs c d h)

pub last_shown-own : (c turn : ℕ) (event : Event) (before : History) → last_shown c (entry turn c event ∷ before) ≡ shown_by event (last_shown c before)
last_shown-own c turn event before = ap (λ b. cond b (shown_by event (last_shown c before)) (last_shown c before)) (eq-eqb c c refl)

-- and so does whether it was called with `None`
pub was_shown_none-other : (c d turn : ℕ) (event : Event) (before : History) → c ≢ d → was_shown_none d (entry turn c event ∷ before) ≡ was_shown_none d before
was_shown_none-other c d turn event before h = ap (λ b. cond b (none_by event (was_shown_none d before)) (was_shown_none d before)) (differs c d h)

pub was_shown_none-own : (c turn : ℕ) (event : Event) (before : History)
    → was_shown_none c (entry turn c event ∷ before) ≡ none_by event (was_shown_none c before)
was_shown_none-own c turn event before = ap (λ b. cond b (none_by event (was_shown_none c before)) (was_shown_none c before)) (eq-eqb c c refl)

module _ {V : Type 0} where
  -- a result of a closure stays in the history, whatever another caller does
  pub answered-other : (c d turn : ℕ) (shown : Option ℕ) (op : Operation V ℕ) (event : Event) (before : History) (o : Option (Operation V ℕ))
      (said : Answered V) → c ≢ d → WasAnswered d shown op before said → WasAnswered d shown op (entry turn c event ∷ before) (o ∷ said)
  answered-other c d turn shown op event before o said differ was = inr (not_begin-other c d turn event differ, was)

  -- and whatever its own caller does but begin a call
  pub answered-own : (c d turn : ℕ) (shown : Option ℕ) (op : Operation V ℕ) (event : Event) (before : History) (o : Option (Operation V ℕ))
      (said : Answered V) → begins event ≡ false → WasAnswered d shown op before said → WasAnswered d shown op (entry turn c event ∷ before) (o ∷ said)
  answered-own c d turn shown op event before o said no_begin was = inr (not_begin-own c d turn event no_begin, was)

  -- the newest entry is such a result
  pub answered-now : (c turn : ℕ) (shown : Option ℕ) (op : Operation V ℕ) (event : Event) (before : History) (o : Option (Operation V ℕ))
      (said : Answered V) → event ≡ Shown shown (op_kind op) → o ≡ Some op → WasAnswered c shown op (entry turn c event ∷ before) (o ∷ said)
  answered-now c turn shown op event before o said is given = inl (refl, is, given)

  -- a closure that returned a result was called with its argument
  pub answered_shown : (c : ℕ) (shown : Option ℕ) (op : Operation V ℕ) (h : History) (said : Answered V) → WasAnswered c shown op h said
      → WasShown c shown (op_kind op) h
  answered_shown c shown op [] said was = elim was [ ]
  answered_shown c shown op (e ∷ h) [] was = elim was [ ]
  answered_shown c shown op (e ∷ h) (o ∷ said) (inl (own, is, given)) = inl (own, is)
  answered_shown c shown op (e ∷ h) (o ∷ said) (inr (no_begin, was)) = inr (no_begin, answered_shown c shown op h said was)

module _ {K V : Type 0} where
  -- a fact about a point implies each weaker one
  pub at_weaker : (P Q : Map K V → Type 0) (c : ℕ) (h : History) (maps : List (Map K V)) → ((m : Map K V) → P m → Q m) → AtSomeMoment P c h maps
      → AtSomeMoment Q c h maps
  at_weaker P Q c [] maps f x = elim x [ ]
  at_weaker P Q c (e ∷ h) [] f x = elim x [ ]
  at_weaker P Q c (e ∷ h) (m ∷ maps) f (inl p) = inl (f m p)
  at_weaker P Q c (e ∷ h) (m ∷ maps) f (inr (other, p)) = inr (other, at_weaker P Q c h maps f p)

module _ {K V S : Type 0} where
  -- pairs that stay in the arena are still its pairs
  pub logged_more : (store store' : StoreState K V S) (maps : List (Map K V))
      → ((n : ℕ) (p : Stored K V) → pair_of store n ≡ Some p → pair_of store' n ≡ Some p) → AreInArena store maps → AreInArena store' maps
  logged_more store store' [] stay x = tt
  logged_more store store' (m ∷ maps) stay x = (λ j p e. stay p.number p (x.0 j p e), logged_more store store' maps stay x.1)

  -- and the number after all of them is unused
  pub logged_unused : (store : StoreState K V S) (maps : List (Map K V)) → AreInArena store maps → IsUnused (length store.pairs) maps
  logged_unused store [] x = tt
  logged_unused store (m ∷ maps) x = (
    λ j p e same. let lt : p.number < length store.pairs = pair_below store p.number p (x.0 j p e) in
        absurd (omega arith),
    logged_unused store maps x.1,
  )
