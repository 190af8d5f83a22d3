-- The effect of a clear or a retain that was made alone, from the timeline of its run.
use Rattle.std.proofs.Common.{◌≡◌, ◌⊎◌, inl, inr, ℕ, Bool, true, false, Option, None, Some, IsSome, List, [], ◌∷◌, refl, sym, ◌∙◌, ap, subst}
use Rattle.std.proofs.lemmas.Bool.{cases_Bool}
use Rattle.papaya_call_law.specs.Relies.{Change}
use Rattle.papaya_words.specs.declared.refused.Refused.TheVariants.{RemoveNothing}
use Rattle.papaya_call.specs.declared.ask.Answer.TheVariants.{Word, Exchanged, Found as Found_instead, Yes, Op, Size, Made, Ok, Refused as Was_refused}
use Rattle.papaya_call.specs.declared.ask.StepKind.{StepKind}
use Rattle.papaya_call.specs.declared.call.Call.{Call}
use Rattle.papaya_call.specs.declared.call.Call.TheVariants.{Get, Insert, TryInsert, RemoveIf, Compute, Reserve, CopyAll, Clear, Retain, Walk}
use Rattle.papaya_call.specs.declared.call.Reply.{Reply}
use Rattle.papaya_call.specs.declared.call.Reply.TheVariants.{Absent, Found, Inserted, Replaced, Occupied, Removed, Kept, Aborted, Done, Refused}
use Rattle.papaya_call.specs.declared.copy_ask.CopyAsk.{CopyAsk}
use Rattle.papaya_call.specs.declared.chain.ask.Answer.{Answer}
use Rattle.papaya_call.specs.declared.chain.ask.Answer.TheVariants as answers
use Rattle.papaya_call.specs.declared.chain.ask.Ask.TheVariants as asks
use Rattle.papaya_core_timeline.specs.declared.trace.Event.{Event}
use Rattle.papaya_core_timeline.specs.declared.trace.Event.TheVariants.{Begun, Changed, Moved, Asked, Shown, Gave, Other, Replied}
use Rattle.papaya_core_timeline.specs.Advances.{event_of}
use Rattle.papaya_core_timeline.specs.Maps.{Map, Does, IsUpdate, Same, at_key, key_of}
use Rattle.papaya_core_timeline.specs.Runs.{History, with_event}
use Rattle.papaya_core_timeline.specs.Solo.{IsAnswered, IsDoneBy, IsLeftBy, IsWithin}
use Rattle.papaya_core_timeline.specs.Timeline.{Answered, AtBegin, AtSomeMoment, Fits, FitsOpen}
use Rattle.papaya_core_timeline.specs.Timeline.{FitsDone, HasNow, IsChange, IsLegal, MayChange, Timeline}
use Rattle.papaya_core_timeline.specs.Timeline.{WouldRemove, begins, change_of, number_in}
use Rattle.papaya_core_timeline.specs.ScanGoes.{event_of_scan}
use Rattle.papaya_core_timeline.proofs.SoloTimeline.{AreOfSteps, IsOfStep, alone_schedule, open_history, opened, single_answered}
use Rattle.papaya_core_timeline.proofs.StepEvents.{copy_cases}
use Rattle.papaya_call.specs.declared.chain.ask.ScanAsk.{ScanAsk}
use Rattle.papaya_call.specs.declared.chain.ask.ScanAsk.TheVariants.{AddToShard, Copy, Given, Show}

-- an ask of a scanner for the copy of all tables has the event of a copy's ask
copied : (kind : Option StepKind) (ask : CopyAsk) (a : Answer) → event_of kind (asks.Copy ask) a ≡ event_of_scan kind (Copy ask) a
copied kind ask (answers.Call answer) = refl
copied kind ask (answers.Hash hash) = refl
copied kind ask (answers.Count count) = refl

-- the event of a scanner's step begins no call and ends none
pub scan_of_step : (kind : Option StepKind) (ask : ScanAsk) (a : Answer) → IsOfStep (event_of_scan kind ask a)
scan_of_step kind (Copy ask) a = subst IsOfStep (copied kind ask a) (copy_cases IsOfStep tt (λ kind old new. tt) (λ kind. tt) kind ask a)
scan_of_step kind (Show n) (answers.Call (Word word)) = tt
scan_of_step kind (Show n) (answers.Call Exchanged) = tt
scan_of_step kind (Show n) (answers.Call (Found_instead word)) = tt
scan_of_step kind (Show n) (answers.Call (Yes stays)) = tt
scan_of_step kind (Show n) (answers.Call (Op op)) = tt
scan_of_step kind (Show n) (answers.Call (Size slots limit)) = tt
scan_of_step kind (Show n) (answers.Call (Made number)) = tt
scan_of_step kind (Show n) (answers.Call Ok) = tt
scan_of_step kind (Show n) (answers.Call (Was_refused refused)) = tt
scan_of_step kind (Given n) (answers.Call (Word word)) = tt
scan_of_step kind (Given n) (answers.Call Exchanged) = tt
scan_of_step kind (Given n) (answers.Call (Found_instead word)) = tt
scan_of_step kind (Given n) (answers.Call (Yes stays)) = tt
scan_of_step kind (Given n) (answers.Call (Op op)) = tt
scan_of_step kind (Given n) (answers.Call (Size slots limit)) = tt
scan_of_step kind (Given n) (answers.Call (Made number)) = tt
scan_of_step kind (Given n) (answers.Call Ok) = tt
scan_of_step kind (Given n) (answers.Call (Was_refused refused)) = tt
scan_of_step kind (AddToShard by) (answers.Call answer) = tt
scan_of_step kind ask (answers.Hash hash) = tt
scan_of_step kind ask (answers.Count count) = tt

-- a step's event is no begin
no_begin : (event : Event) → IsOfStep event → begins event ≡ true → ⊥
no_begin Begun of_step e = of_step
no_begin (Changed kind old new) of_step e = let f : false ≡ true = e in absurd cc
no_begin (Moved kind) of_step e = let f : false ≡ true = e in absurd cc
no_begin (Asked n agrees) of_step e = let f : false ≡ true = e in absurd cc
no_begin (Shown n kind) of_step e = let f : false ≡ true = e in absurd cc
no_begin (Gave n) of_step e = let f : false ≡ true = e in absurd cc
no_begin Other of_step e = let f : false ≡ true = e in absurd cc
no_begin (Replied reply) of_step e = of_step

-- a fact that held at some point held of some map
some_map : {K V : Type 0} (P : Map K V → Type 0) (c : ℕ) (h : History) (maps : List (Map K V)) → AtSomeMoment P c h maps → (m : Map K V) × P m
some_map P c [] maps x = elim x [ ]
some_map P c (e ∷ h) [] x = elim x [ ]
some_map P c (e ∷ h) (m ∷ maps) (inl x) = (m, x)
some_map P c (e ∷ h) (m ∷ maps) (inr x) = some_map P c h maps x.1

-- a clear or a retain has taken a pair out, or nothing yet
abbrev HasTaken : Change → Type 0
HasTaken made = (made ≡ None) ⊎ ((o : ℕ) × (made ≡ Some (Some o, None)))

-- the pair that came by a change
abbrev came_in : Change → Option ℕ
came_in None = None
came_in (Some (went, came)) = came

-- and then no pair has come
none_came : (made : Change) (old : Option ℕ) (n : ℕ) → HasTaken made → made ≡ Some (old, Some n) → ⊥
none_came made old n (inl none) e = let f : None ≡ Some (old, Some n) = sym none ∙ e in absurd cc
none_came made old n (inr (o, is)) e = let f : None ≡ Some n = ap came_in (sym is ∙ e) in absurd cc

-- a pair that is there has a number
numbered : {K V : Type 0} (went : Option _) (old : Option ℕ) → IsSome went → number_in {K = K} {V = V} went ≡ old → (o : ℕ) × (old ≡ Some o)
numbered (Some p) old there is = (p.number, sym is)
numbered None old there is = absurd cc

module _ {K V A : Type 0} (eq : K → K → Bool) (call : Call K V A) (steps : ℕ) (start : Map K V)
    (takes : (made : Change) (k : K) (old new : Option _) → MayChange {K = K} {V = V} {A = A} eq (Some call) made k old new → IsSome old × (new ≡ None)) where
  -- a further map that is the same, or has less
  further : (m m' : Map K V) → IsWithin start m → IsWithin m m' → IsWithin start m'
  further m m' before next j = elim (next j) [
    | inl same ↦ elim (before j) [ inl was ↦ inl (same ∙ was) | inr none ↦ inr (same ∙ none) ]
    | inr none ↦ inr none
  ]

  -- an update takes a pair out
  taken_out : (m m' : Map K V) (k : K) (went came : Option _) → IsUpdate eq k went came m m' → came ≡ None → IsWithin m m'
  taken_out m m' k went came update none j = elim (cases_Bool (eq j k)) [
    | inl same ↦ inr (update.class j same ∙ none)
    | inr other ↦ inl (update.others j other)
  ]

  -- how the maps are related after each step
  record Stood (h : History) (m : Map K V) : Type 0 where
    pub within : IsWithin start m
    pub taken : HasTaken (change_of 0 h)

  stays : (h h' : History) (m m' : Map K V) → change_of 0 h' ≡ change_of 0 h → Stood h m → Same m m' → Stood h' m'
  stays h h' m m' is before same = record { within = further m m' before.within (λ j. inl (same j)); taken = subst HasTaken (sym is) before.taken }

  -- a change took a pair out
  changes : (events : List Event) → AreOfSteps events
      → (kind : StepKind) (m m' : Map K V) (maps : List (Map K V)) (said : Answered V) (old new : Option ℕ)
      → IsChange eq (alone_schedule call steps) 0 (open_history events) m maps m' said old new → Stood (open_history events) m
      → Stood (open_history (Changed kind old new ∷ events)) m'
  changes events are kind m m' maps said old new x before =
      let out = takes (change_of 0 (open_history events)) x.key x.went x.came
      (subst (λ o. MayChange eq o (change_of 0 (open_history events)) x.key x.went x.came) (opened call steps events are) x.may) in
      let (o, is) = numbered x.went old out.0 x.went_is in
      record {
        within = further m m' before.within (taken_out m m' x.key x.went x.came x.update out.1);
        taken = inr (o, ap (λ y. Some (y, new)) is ∙ ap (λ y. Some (Some o, y)) (sym x.came_is ∙ ap number_in out.1));
      }

  stood : (events : List Event) → AreOfSteps events → (m : Map K V) (maps : List (Map K V)) (said : Answered V)
      → Timeline eq (alone_schedule call steps) start (open_history events) (m ∷ maps) said → Stood (open_history events) m
  stood [] are m [] said x = elim x [ ]
  stood [] are m (m0 ∷ maps) [] x = elim x [ ]
  stood [] are m (m0 ∷ []) (answered ∷ []) x = record { within = λ j. inl (x.0 j ∙ x.2 j); taken = inl refl }
  stood [] are m (m0 ∷ []) (answered ∷ o ∷ said) x = elim x.2 [ ]
  stood [] are m (m0 ∷ m1 ∷ maps) (answered ∷ said) x = elim x.2 [ ]
  stood (event ∷ events) are m [] said x = elim x [ ]
  stood (event ∷ events) are m (m0 ∷ maps) [] x = elim x [ ]
  stood (event ∷ events) are m (m0 ∷ maps) (answered ∷ said) x = after event are.0 said x.0 (stood events are.1 m0 maps said x.2)
    where
      after : (event : Event) → IsOfStep event → (said : Answered V)
          → IsLegal eq event (alone_schedule call steps) 0 (open_history events) m0 maps m said → Stood (open_history events) m0
          → Stood (open_history (event ∷ events)) m
      after Begun of_step said legal so_far = absurd of_step
      after (Changed kind old new) of_step said legal so_far = changes events are.1 kind m0 m maps said old new legal so_far
      after (Moved kind) of_step said legal so_far = stays (open_history events) (open_history (Moved kind ∷ events)) m0 m refl so_far legal
      after (Asked n agrees) of_step said legal so_far = stays (open_history events) (open_history (Asked n agrees ∷ events)) m0 m refl so_far legal.0
      after (Shown n kind) of_step said legal so_far = stays (open_history events) (open_history (Shown n kind ∷ events)) m0 m refl so_far legal.0
      after (Gave n) of_step said legal so_far = stays (open_history events) (open_history (Gave n ∷ events)) m0 m refl so_far legal.0
      after Other of_step said legal so_far = stays (open_history events) (open_history (Other ∷ events)) m0 m refl so_far legal
      after (Replied reply) of_step said legal so_far = absurd of_step

  -- a fact about the map as the call began holds of a map that is the same as the one at the start
  at_begin : (P : Map K V → Type 0) (events : List Event) → AreOfSteps events → (m : Map K V) (maps : List (Map K V)) (said : Answered V)
      → Timeline eq (alone_schedule call steps) start (open_history events) (m ∷ maps) said → AtBegin P 0 (open_history events) (m ∷ maps)
      → (first : Map K V) × Same start first × P first
  at_begin P [] are m [] said x at = elim x [ ]
  at_begin P [] are m (m0 ∷ maps) [] x at = elim x [ ]
  at_begin P [] are m (m0 ∷ []) (answered ∷ []) x (inl at) = (m, (λ j. x.0 j ∙ x.2 j), at.1)
  at_begin P [] are m (m0 ∷ []) (answered ∷ []) x (inr at) = let f : true ≡ false = at.0 in absurd cc
  at_begin P [] are m (m0 ∷ []) (answered ∷ o ∷ said) x at = elim x.2 [ ]
  at_begin P [] are m (m0 ∷ m1 ∷ maps) (answered ∷ said) x at = elim x.2 [ ]
  at_begin P (event ∷ events) are m [] said x at = elim x [ ]
  at_begin P (event ∷ events) are m (m0 ∷ maps) [] x at = elim x [ ]
  at_begin P (event ∷ events) are m (m0 ∷ maps) (answered ∷ said) x at = earlier (λ before. at_begin P events are.1 m0 maps said x.2 before) event are.0 at
    where
      earlier : (AtBegin P 0 (open_history events) (m0 ∷ maps) → (first : Map K V) × Same start first × P first) → (event : Event) → IsOfStep event
          → AtBegin P 0 (open_history (event ∷ events)) (m ∷ m0 ∷ maps) → (first : Map K V) × Same start first × P first
      earlier rest Begun of_step at = absurd of_step
      earlier rest (Replied reply) of_step at = absurd of_step
      earlier rest event of_step (inl at) = absurd (no_begin event of_step at.0)
      earlier rest event of_step (inr at) = rest at.1

  module _ (no_key : key_of call ≡ None) (does_none : (here : Option _) (reply : Reply) (next : Option _) → Does call here reply next → ⊥)
      (removes_none : (n : ℕ) (h : History) → WouldRemove call 0 n h → ⊥) (left : (m : Map K V) → IsWithin start m → IsLeftBy call start m)
      (h : History) (m m' : Map K V) (maps : List (Map K V)) (before : Stood h m) (same : Same m m')
      (done : FitsDone eq call 0 h (m ∷ maps) → IsDoneBy call start m') where
    -- `Does` holds of no reply of such a call
    nothing_done : (reply : Reply) → AtSomeMoment (λ m. Does call (at_key m (key_of call)) reply (at_key m (key_of call))) 0 h (m ∷ maps) → ⊥
    nothing_done reply at =
        let (then, does) = some_map (λ m. Does call (at_key m (key_of call)) reply (at_key m (key_of call))) 0 h (m ∷ maps) at in
        does_none (at_key then (key_of call)) reply (at_key then (key_of call)) does

    nothing_shown : (reply : Reply) (shown : Option ℕ)
        → AtSomeMoment (λ m. (number_in (at_key m (key_of call)) ≡ shown) × Does call (at_key m (key_of call)) reply (at_key m (key_of call))) 0 h (m ∷ maps) → ⊥
    nothing_shown reply shown at =
        let (then, (is, does)) = some_map (λ m. (number_in (at_key m (key_of call)) ≡ shown)
        × Does call (at_key m (key_of call)) reply (at_key m (key_of call))) 0 h (m ∷ maps) at in
        does_none (at_key then (key_of call)) reply (at_key then (key_of call)) does

    fits_answered : (reply : Reply) → Fits eq call reply 0 h (m ∷ maps) → IsAnswered eq call start reply m'
    fits_answered Done fits = (no_key, done fits)
    fits_answered (Refused refused) fits = (
      left m' (further m m' before.within (λ j. inl (same j))),
      λ e.
          absurd (nothing_shown (Refused RemoveNothing) None (fits.1 e).1),
    )
    fits_answered (Aborted t) fits = let (none, (shown, last)) = fits in absurd (nothing_shown (Aborted t) shown last.1)
    fits_answered Absent fits = absurd (nothing_done Absent fits.1)
    fits_answered (Found n) fits = absurd (nothing_done (Found n) fits.1)
    fits_answered (Occupied n) fits = absurd (nothing_done (Occupied n) fits.1)
    fits_answered (Kept n) fits = absurd (nothing_done (Kept n) fits.0.1)
    fits_answered (Inserted n) fits = absurd (none_came (change_of 0 h) None n before.taken fits)
    fits_answered (Replaced o n) fits = absurd (none_came (change_of 0 h) (Some o) n before.taken fits)
    fits_answered (Removed n) fits = absurd (removes_none n h fits.1)

-- a clear leaves nothing, and a retain some pairs
module _ {K V : Type 0} (A : Type 0) (eq : K → K → Bool) (steps : ℕ) (start : Map K V) (events : List Event) (are : AreOfSteps events)
    (m m' : Map K V) (maps : List (Map K V)) (said : Answered V) (same : Same m m') where
  abbrev at_start : Call K V A → Type 0
  at_start call = Timeline eq (alone_schedule call steps) start (open_history events) (m ∷ maps) said

  takes_clear : (made : Change) (k : K) (old new : Option _) → MayChange {K = K} {V = V} {A = A} eq (Some Clear) made k old new → IsSome old × (new ≡ None)
  takes_clear made k old new may = may

  takes_retain : (a : A) (made : Change) (k : K) (old new : Option _) → MayChange {K = K} {V = V} {A = A} eq (Some (Retain a)) made k old new
      → IsSome old × (new ≡ None)
  takes_retain a made k old new may = may

  -- no pair of the start is left
  nothing_left : at_start Clear → FitsDone {A = A} eq Clear 0 (open_history events) (m ∷ maps) → (j : K) → m' j ≡ None
  nothing_left x fits j = same j ∙ by_pair (m j) refl
    where
      by_pair : (o : Option _) → m j ≡ o → m j ≡ None
      by_pair None e = e
      by_pair (Some p) e =
          let (first, is, cleared) = at_begin eq Clear steps start takes_clear
          (λ first. (k : K) (p : _) → first k ≡ Some p → HasNow (m ∷ maps) k p → ⊥) events are m maps said x fits in
          elim ((stood eq Clear steps start takes_clear events are m maps said x).within j) [
            | inl was ↦ absurd (cleared j p (is j ∙ sym was ∙ e) e)
            | inr none ↦ none
          ]

  pub clear_answered : at_start Clear → (reply : Reply) → FitsOpen {A = A} eq (Some Clear) reply 0 (open_history events) (m ∷ maps)
      → IsAnswered {A = A} eq Clear start reply m'
  clear_answered x reply fits =
      fits_answered eq Clear steps start takes_clear refl (λ here reply next does. does) (λ n h would. would) (λ m within. within)
      (open_history events) m m' maps
      (stood eq Clear steps start takes_clear events are m maps said x) same (nothing_left x) reply fits

  pub retain_answered : (a : A) → at_start (Retain a) → (reply : Reply) → FitsOpen eq (Some (Retain a)) reply 0 (open_history events) (m ∷ maps)
      → IsAnswered eq (Retain a) start reply m'
  retain_answered a x reply fits =
      let before = stood eq (Retain a) steps start (takes_retain a) events are m maps said x in
      fits_answered eq (Retain a) steps start (takes_retain a) refl (λ here reply next does. does) (λ n h would. would) (λ m within. within)
      (open_history events) m m' maps
      before same (λ done. further eq (Retain a) steps start (takes_retain a) m m' before.within (λ j. inl (same j))) reply fits

-- the timeline of a whole call that was made alone determines its effect
module _ {K V A : Type 0} (eq : K → K → Bool) (steps : ℕ) (start : Map K V) (alike : (j k : K) → eq j k ≡ true → start j ≡ start k)
    (events : List Event) (are : AreOfSteps events) (reply : Reply) (last m' : Map K V) where
  abbrev Whole : Call K V A → List (Map K V) → Answered V → Type 0
  Whole call maps said = Timeline eq (alone_schedule call steps) start (with_event 1 0 (Replied reply) (open_history events)) (last ∷ maps) said

  scan_answered : (call : Call K V A) → ((m : Map K V) (maps : List (Map K V)) (said : Answered V) → Same m m'
      → Timeline eq (alone_schedule call steps) start (open_history events) (m ∷ maps) said → (reply : Reply)
      → FitsOpen eq (Some call) reply 0 (open_history events) (m ∷ maps) → IsAnswered eq call start reply m')
      → (maps : List (Map K V)) (said : Answered V) → Whole call maps said → Same last m' → IsAnswered eq call start reply m'
  scan_answered call does [] said x same = elim x [ ]
  scan_answered call does (m ∷ maps) [] x same = elim x [ ]
  scan_answered call does (m ∷ maps) (o ∷ said) x same =
      does m maps said (λ j. same j ∙ x.0.0 j) x.2 reply
      (subst (λ (o : Option (Call K V A)). FitsOpen eq o reply 0 (open_history events) (m ∷ maps)) (opened call steps events are) x.0.1)

  pub timeline_answered : (call : Call K V A) (maps : List (Map K V)) (said : Answered V) → Whole call maps said → Same last m'
      → IsAnswered eq call start reply m'
  timeline_answered (Get k) maps said x same = single_answered eq (Get k) tt steps start alike events are reply last m' maps said x same
  timeline_answered (Insert k v) maps said x same = single_answered eq (Insert k v) tt steps start alike events are reply last m' maps said x same
  timeline_answered (TryInsert k v) maps said x same = single_answered eq (TryInsert k v) tt steps start alike events are reply last m' maps said x same
  timeline_answered (RemoveIf k a) maps said x same = single_answered eq (RemoveIf k a) tt steps start alike events are reply last m' maps said x same
  timeline_answered (Compute k a) maps said x same = single_answered eq (Compute k a) tt steps start alike events are reply last m' maps said x same
  timeline_answered (Reserve more) maps said x same = single_answered eq (Reserve more) tt steps start alike events are reply last m' maps said x same
  timeline_answered CopyAll maps said x same = single_answered eq CopyAll tt steps start alike events are reply last m' maps said x same
  timeline_answered Walk maps said x same = single_answered eq Walk tt steps start alike events are reply last m' maps said x same
  timeline_answered Clear maps said x same = scan_answered Clear
      (λ m older more is y r fits. clear_answered A eq steps start events are m m' older more is y r fits) maps said x same
  timeline_answered (Retain a) maps said x same = scan_answered (Retain a)
      (λ m older more is y r fits. retain_answered A eq steps start events are m m' older more is a y r fits) maps said x same
