-- A lookup or a removal for whose key no answer reports a match meets no pair with it.
use Rattle.std.proofs.Common.{◌≡◌, ℕ, ◌==◌, nat_lt, Option, refl, sym, subst}
use Rattle.std.proofs.lemmas.Bool.{cond_both}
use Rattle.papaya_words.specs.Word.{kind_of, may_hold}
use Rattle.papaya_words.specs.declared.resize_mode.ResizeMode.{ResizeMode}
use Rattle.papaya_words.specs.declared.resize_mode.ResizeMode.TheVariants.{Incremental, Blocking}
use Rattle.papaya_words.specs.declared.word.Kind.{Kind}
use Rattle.papaya_words.specs.declared.word.Kind.TheVariants as word_kinds
use Rattle.papaya_call.specs.declared.ask.Answer.{Answer}
use Rattle.papaya_call.specs.declared.ask.Answer.TheVariants.{Word as Word_read, Exchanged}
use Rattle.papaya_call.specs.declared.ask.Answer.TheVariants.{Found as Found_instead, Yes, Op, Size}
use Rattle.papaya_call.specs.declared.ask.Answer.TheVariants.{Made as Made_number, Ok as Ok_done}
use Rattle.papaya_call.specs.declared.ask.Answer.TheVariants.{Refused as Was_refused}
use Rattle.papaya_call.specs.declared.call.Reply.{Reply}
use Rattle.papaya_call.specs.declared.call.Reply.TheVariants.{Absent}
use Rattle.papaya_call.specs.declared.call.Task.{Task}
use Rattle.papaya_call.specs.declared.call.Task.TheVariants.{Get, Insert, RemoveIf, Compute}
use Rattle.papaya_call.specs.declared.compute.Gap.TheVariants.{After}
use Rattle.papaya_call.specs.declared.compute.Remembered.{Remembered}
use Rattle.papaya_call.specs.declared.search.Place.{Place}
use Rattle.papaya_call.specs.declared.search.Search.TheVariants.{Sizing, Looking, Reading, Comparing}
use Rattle.papaya_call.specs.declared.search.ProbeStep.{ProbeStep}
use Rattle.papaya_call.specs.declared.search.ProbeStep.TheVariants as seen
use Rattle.papaya_call.specs.declared.machine.Machine.{Machine}
use Rattle.papaya_call.specs.declared.machine.State.{State}
use Rattle.papaya_call.specs.declared.machine.State.TheVariants.{AtRoot, Making, Opening, Searching}
use Rattle.papaya_call.specs.declared.machine.State.TheVariants.{Writing, Offering, Showing}
use Rattle.papaya_call.specs.declared.machine.State.TheVariants.{Pairing, Putting, Burying}
use Rattle.papaya_call.specs.declared.machine.State.TheVariants.{Counting, Noting, Uncounting}
use Rattle.papaya_call.specs.declared.machine.State.TheVariants.{Leaving, Growing, Ended}
use Rattle.papaya_call.specs.Search.{next_place, go_on, look_at, look, hinted}
use Rattle.papaya_call.specs.Machine.{after, ask_of, asks, absent, at_root, left as next_or_end, passes, goes_as}
use Rattle.papaya_call_law.specs.Alone.{HasMetNone, IsSeeker, IsUnmatched}

-- a probe found no pair with the key
abbrev HasSeenNone : ProbeStep → Type 0
HasSeenNone (seen.On search) = Unit {0}
HasSeenNone (seen.Empty at) = Unit {0}
HasSeenNone (seen.Here at word) = ⊥
HasSeenNone (seen.Over t) = Unit {0}

go_on_none : (at : Place) → HasSeenNone (go_on at)
go_on_none at = cond_both (nat_lt at.probe.len at.limit) (seen.On (Looking (next_place at))) (seen.Over at.table) HasSeenNone (λ _. tt) (λ _. tt)

hinted_none : (at : Place) (hash hint : ℕ) → HasSeenNone (hinted at hash hint)
hinted_none at hash hint = cond_both (may_hold hint hash) (seen.On (Reading at)) (go_on at) HasSeenNone (λ _. tt) (λ _. go_on_none at)

-- a word alone does not determine a key
look_none : (kind : Kind) (at : Place) (word : ℕ) → HasSeenNone (look_at kind at word)
look_none word_kinds.Empty at word = tt
look_none word_kinds.Live at word = tt
look_none word_kinds.Marked at word = tt
look_none word_kinds.Copied at word = tt
look_none word_kinds.Buried at word = go_on_none at
look_none word_kinds.Closed at word = go_on_none at

-- a call that looks for its key ends if the key is absent
absent_none : (task : Task) (fill : Option ℕ) (t : ℕ) → IsSeeker task → HasMetNone (absent task fill (After t))
absent_none Get fill t seeker = refl
absent_none (Insert replace) fill t seeker = absurd seeker
absent_none RemoveIf fill t seeker = refl
absent_none Compute fill t seeker = absurd seeker

passes_none : (task : Task) (mode : ResizeMode) (fill : Option ℕ) (t : ℕ) → IsSeeker task → HasMetNone (passes task mode fill t)
passes_none task (Incremental chunk) fill t seeker = tt
passes_none task Blocking fill t seeker = absent_none task fill t seeker

-- the state after a probe that found none
goes_none : (task : Task) (mode : ResizeMode) (held : Remembered) (s : ProbeStep) → IsSeeker task → HasSeenNone s → HasMetNone (goes_as task mode held s)
goes_none task mode held (seen.On search) seeker none = tt
goes_none task mode held (seen.Here at word) seeker none = absurd none
goes_none Get mode held (seen.Empty at) seeker none = refl
goes_none (Insert replace) mode held (seen.Empty at) seeker none = absurd seeker
goes_none RemoveIf mode held (seen.Empty at) seeker none = refl
goes_none Compute mode held (seen.Empty at) seeker none = absurd seeker
goes_none Get mode held (seen.Over t) seeker none = passes_none Get mode held.fill t seeker
goes_none (Insert replace) mode held (seen.Over t) seeker none = absurd seeker
goes_none RemoveIf mode held (seen.Over t) seeker none = passes_none RemoveIf mode held.fill t seeker
goes_none Compute mode held (seen.Over t) seeker none = absurd seeker

next_none : (task : Task) (fill : Option ℕ) (t word : ℕ) → IsSeeker task → HasMetNone (next_or_end task fill t word)
next_none task fill t word seeker = cond_both (word == 0) (absent task fill (After t)) (Searching (Sizing word)) HasMetNone
    (λ _. absent_none task fill t seeker) (λ _. tt)

root_none : (task : Task) (fill : Option ℕ) (word : ℕ) → IsSeeker task → HasMetNone (at_root task fill word)
root_none Get fill word seeker = cond_both (word == 0) (Ended Absent) (Searching (Sizing word)) HasMetNone (λ _. refl) (λ _. tt)
root_none (Insert replace) fill word seeker = absurd seeker
root_none RemoveIf fill word seeker = cond_both (word == 0) (Ended Absent) (Searching (Sizing word)) HasMetNone (λ _. refl) (λ _. tt)
root_none Compute fill word seeker = absurd seeker

module _ (m : Machine) (seeker : IsSeeker m.task) (answer : Answer) where
  -- after this answer the call has met no pair with its key
  abbrev MeetsNone : State → Answer → Type 0
  MeetsNone s told = HasMetNone (after (record m { state = s }) told).state

  -- a call that has ended has no next state
  ended_none : (reply : Reply) → reply ≡ Absent → (told : Answer) → MeetsNone (Ended reply) told
  ended_none reply absent (Word_read word) = absent
  ended_none reply absent Exchanged = absent
  ended_none reply absent (Found_instead word) = absent
  ended_none reply absent (Yes same) = absent
  ended_none reply absent (Op kind) = absent
  ended_none reply absent (Size slots limit) = absent
  ended_none reply absent (Made_number n) = absent
  ended_none reply absent Ok_done = absent
  ended_none reply absent (Was_refused refused) = absent

  -- in each state
  meets_none_in : (s : State) → HasMetNone s → IsUnmatched (asks m.made m.hash s) answer → MeetsNone s answer
  meets_none_in AtRoot none told = subst (MeetsNone AtRoot) (sym told.1) (root_none m.task m.remembered.fill told.0 seeker)
  meets_none_in (Searching (Sizing t)) none (slots, limit, e) = subst (MeetsNone (Searching (Sizing t))) (sym e) tt
  meets_none_in (Searching (Looking at)) none (hint, e) = subst (MeetsNone (Searching (Looking at))) (sym e)
      (goes_none m.task m.mode m.remembered (hinted at m.hash hint) seeker (hinted_none at m.hash hint))
  meets_none_in (Searching (Reading at)) none (word, e) = subst (MeetsNone (Searching (Reading at))) (sym e)
      (goes_none m.task m.mode m.remembered (look at word) seeker (look_none (kind_of word) at word))
  meets_none_in (Searching (Comparing at word)) none told =
      subst (MeetsNone (Searching (Comparing at word))) (sym told) (goes_none m.task m.mode m.remembered (go_on at) seeker (go_on_none at))
  meets_none_in (Leaving t) none told = subst (MeetsNone (Leaving t)) (sym told.1) (next_none m.task m.remembered.fill t told.0 seeker)
  meets_none_in (Ended reply) none told = ended_none reply none answer
  meets_none_in Making none told = absurd none
  meets_none_in (Opening t) none told = absurd none
  meets_none_in (Writing write) none told = absurd none
  meets_none_in (Offering gap) none told = absurd none
  meets_none_in (Showing removal) none told = absurd none
  meets_none_in (Pairing purpose) none told = absurd none
  meets_none_in (Putting put) none told = absurd none
  meets_none_in (Burying removal) none told = absurd none
  meets_none_in (Counting n) none told = absurd none
  meets_none_in (Noting n) none told = absurd none
  meets_none_in (Uncounting n) none told = absurd none
  meets_none_in (Growing t) none told = absurd none

  -- for the whole machine
  pub machine_meets_none : HasMetNone m.state → IsUnmatched (ask_of m) answer → HasMetNone (after m answer).state
  machine_meets_none none told = meets_none_in m.state none told
