-- The effect of a call that was made alone, from the timeline of its run.
use Rattle.std.proofs.Common.{◌≡◌, ◌⊎◌, inl, inr, ℕ, Bool, true, cond, Option, None, Some, List, [], ◌∷◌, refl, sym, ◌∙◌, ap, subst}
use Rattle.std.specs.Cmp.{IsEquivalence}
use Rattle.papaya_words_law.specs.Content.{lookup}
use Rattle.papaya_call_law.specs.Relies.{Change, change_of_reply}
use Rattle.papaya_words.specs.declared.refused.Refused.TheVariants.{RemoveNothing}
use Rattle.papaya_call.specs.declared.ask.OpKind.{OpKind}
use Rattle.papaya_call.specs.declared.ask.OpKind.TheVariants as kinds
use Rattle.papaya_call.specs.declared.call.Call.{Call}
use Rattle.papaya_call.specs.declared.call.Call.TheVariants.{Get, Insert, TryInsert, RemoveIf, Compute, Reserve, CopyAll, Clear, Retain, Walk}
use Rattle.papaya_call.specs.declared.call.Reply.{Reply}
use Rattle.papaya_call.specs.declared.call.Reply.TheVariants.{Absent, Found, Inserted, Replaced, Occupied, Removed, Kept, Aborted, Done, Refused}
use Rattle.papaya_core_timeline.specs.declared.trace.Turn.{Turn}
use Rattle.papaya_core_timeline.specs.declared.trace.Turn.TheVariants.{Begin, Finish}
use Rattle.papaya_core_timeline.specs.declared.trace.Event.{Event}
use Rattle.papaya_core_timeline.specs.declared.trace.Event.TheVariants.{Begun, Changed, Moved, Asked, Shown, Gave, Other, Replied}
use Rattle.papaya_core_timeline.specs.Maps.{Map, Does, IsUpdate, IsUpdateBy, Same, at_key, key_of}
use Rattle.papaya_core_timeline.specs.Runs.{History, with_event}
use Rattle.papaya_core_timeline.specs.Solo.{CallDoes, IsAnswered, IsDoneBy, IsLeftBy}
use Rattle.papaya_core_store.specs.Store.{Stored}
use Rattle.papaya_core_timeline.specs.Timeline.{Answered, AtSomeMoment, Fits, FitsDone, FitsOpen}
use Rattle.papaya_core_timeline.specs.Timeline.{IsChange, IsLegal, IsUnchanged, MayChange, Timeline}
use Rattle.papaya_core_timeline.specs.Timeline.{WasLastShown, change_of, number_in, open_call}

-- equal keys have one pair in a list
pub lookup_alike : {K P : Type 0} (eq : K → K → Bool) (classes : IsEquivalence eq) (key : P → K) (ps : List P) (j k : K) → eq j k ≡ true
    → lookup eq key ps j ≡ lookup eq key ps k
lookup_alike eq classes key [] j k e = refl
lookup_alike eq classes key (p ∷ ps) j k e =
    ap (λ b. cond b (Some p) (lookup eq key ps j)) (classes.congr j k (key p) e)
    ∙ ap (λ o. cond (eq k (key p)) (Some p) o) (lookup_alike eq classes key ps j k e)

-- an event of a step: no begin, and no reply
abbrev pub IsOfStep : Event → Type 0
IsOfStep Begun = ⊥
IsOfStep (Changed kind old new) = Unit {0}
IsOfStep (Moved kind) = Unit {0}
IsOfStep (Asked n agrees) = Unit {0}
IsOfStep (Shown n kind) = Unit {0}
IsOfStep (Gave n) = Unit {0}
IsOfStep Other = Unit {0}
IsOfStep (Replied reply) = ⊥

-- the events of steps, the newest first
abbrev pub AreOfSteps : List Event → Type 0
AreOfSteps [] = Unit {0}
AreOfSteps (event ∷ events) = IsOfStep event × AreOfSteps events

-- the history of a call that is open: its begin, and the events of its steps
abbrev pub open_history : List Event → History
open_history [] = with_event 0 0 Begun []
open_history (event ∷ events) = with_event 1 0 event (open_history events)

-- two different changes are not the same
some_change : {A : Type 0} (x : A) (o : Option A) → o ≡ None → o ≡ Some x → ⊥
some_change x o none some = let f : None ≡ Some x = sym none ∙ some in cc

-- the reply of a change
abbrev reply_by : Option ℕ × Option ℕ → Reply
reply_by (None, None) = Absent
reply_by (None, Some n) = Inserted n
reply_by (Some o, Some n) = Replaced o n
reply_by (Some o, None) = Removed o

-- a reply that changes the map is determined by its change
by_change : (r : Reply) (x : Option ℕ × Option ℕ) → change_of_reply r ≡ Some x → reply_by x ≡ r
by_change (Inserted n) x e = let same : x ≡ (None, Some n) = cc in ap reply_by same
by_change (Replaced o n) x e = let same : x ≡ (Some o, Some n) = cc in ap reply_by same
by_change (Removed n) x e = let same : x ≡ (Some n, None) = cc in ap reply_by same
by_change Absent x e = absurd cc
by_change (Found n) x e = absurd cc
by_change (Occupied n) x e = absurd cc
by_change (Kept n) x e = absurd cc
by_change (Aborted t) x e = absurd cc
by_change Done x e = absurd cc
by_change (Refused refused) x e = absurd cc

module _ {K V : Type 0} where
  -- each of the maps is this one
  abbrev pub AllSame : Map K V → List (Map K V) → Type 0
  AllSame start [] = Unit {0}
  AllSame start (m ∷ maps) = Same start m × AllSame start maps

  -- a fact about one of them holds of a map that is the same
  at_same : (start : Map K V) (P : Map K V → Type 0) (c : ℕ) (h : History) (maps : List (Map K V)) → AllSame start maps → AtSomeMoment P c h maps
      → (m : Map K V) × Same start m × P m
  at_same start P c [] maps same x = elim x [ ]
  at_same start P c (e ∷ h) [] same x = elim x [ ]
  at_same start P c (e ∷ h) (m ∷ maps) same (inl x) = (m, same.0, x)
  at_same start P c (e ∷ h) (m ∷ maps) same (inr x) = at_same start P c h maps same.1 x.1

  -- an update stays one where the maps before and after it are others that are the same
  update_same : (eq : K → K → Bool) (k : K) (went came : Option (Stored K V)) (start m m' m'' : Map K V) → Same start m → IsUpdate eq k went came m m'
      → Same m' m'' → IsUpdate eq k went came start m''
  update_same eq k went came start m m' m'' first update next = record {
    before = sym (first k) ∙ update.before;
    class = λ j e. next j ∙ update.class j e;
    others = λ j e. next j ∙ update.others j e ∙ first j;
  }

  -- the same for the class of a call's key
  update_same_by : (eq : K → K → Bool) (k : Option K) (went came : Option (Stored K V)) (start m m' m'' : Map K V) → Same start m
      → IsUpdateBy eq k went came m m' → Same m' m'' → IsUpdateBy eq k went came start m''
  update_same_by eq None went came start m m' m'' first update next = update
  update_same_by eq (Some k) went came start m m' m'' first update next = update_same eq k went came start m m' m'' first update next

  -- two maps that are the same have the same there
  at_same_key : (m m' : Map K V) → Same m m' → (k : Option K) → at_key m' k ≡ at_key m k
  at_same_key m m' same None = refl
  at_same_key m m' same (Some k) = same k

-- a call that does something has a key
does_keyed : {K V A : Type 0} (call : Call K V A) (here : Option (Stored K V)) (reply : Reply) (next : Option (Stored K V))
    → Does call here reply next → (k : K) × (key_of call ≡ Some k)
does_keyed (Get k) here reply next does = (k, refl)
does_keyed (Insert k v) here reply next does = (k, refl)
does_keyed (TryInsert k v) here reply next does = (k, refl)
does_keyed (RemoveIf k a) here reply next does = (k, refl)
does_keyed (Compute k a) here reply next does = (k, refl)
does_keyed (Reserve more) here reply next does = absurd does
does_keyed CopyAll here reply next does = absurd does
does_keyed Clear here reply next does = absurd does
does_keyed (Retain a) here reply next does = absurd does
does_keyed Walk here reply next does = absurd does

-- a call that changes the map once at most: each but a clear and a retain
abbrev pub IsSingle : {K V A : Type 0} → Call K V A → Type 0
IsSingle Clear = ⊥
IsSingle (Retain a) = ⊥
IsSingle call = Unit {0}

-- the facts about such a call
module _ {K V A : Type 0} (eq : K → K → Bool) where
  single_changes : (call : Call K V A) → IsSingle call → (made : Change) (k : K) (old new : Option (Stored K V))
      → MayChange eq (Some call) made k old new → (key_of call ≡ Some k) × (made ≡ None)
      × ((reply : Reply) × Does call old reply new × (change_of_reply reply ≡ Some (number_in old, number_in new)))
  single_changes (Get j) one made k old new may = may
  single_changes (Insert j v) one made k old new may = may
  single_changes (TryInsert j v) one made k old new may = may
  single_changes (RemoveIf j a) one made k old new may = may
  single_changes (Compute j a) one made k old new may = may
  single_changes (Reserve more) one made k old new may = may
  single_changes CopyAll one made k old new may = may
  single_changes Clear one made k old new may = absurd one
  single_changes (Retain a) one made k old new may = absurd one
  single_changes Walk one made k old new may = may

  single_unchanged : (call : Call K V A) → IsSingle call → (made : Change) → IsUnchanged eq call made → made ≡ None
  single_unchanged (Get j) one made none = none
  single_unchanged (Insert j v) one made none = none
  single_unchanged (TryInsert j v) one made none = none
  single_unchanged (RemoveIf j a) one made none = none
  single_unchanged (Compute j a) one made none = none
  single_unchanged (Reserve more) one made none = none
  single_unchanged CopyAll one made none = none
  single_unchanged Clear one made none = absurd one
  single_unchanged (Retain a) one made none = absurd one
  single_unchanged Walk one made none = none

  single_done : (call : Call K V A) → IsSingle call → (c : ℕ) (h : History) (maps : List (Map K V)) → FitsDone eq call c h maps → (key_of call ≡ None)
      × (change_of c h ≡ None)
  single_done (Get j) one c h maps done = done
  single_done (Insert j v) one c h maps done = done
  single_done (TryInsert j v) one c h maps done = done
  single_done (RemoveIf j a) one c h maps done = done
  single_done (Compute j a) one c h maps done = done
  single_done (Reserve more) one c h maps done = done
  single_done CopyAll one c h maps done = done
  single_done Clear one c h maps done = absurd one
  single_done (Retain a) one c h maps done = absurd one
  single_done Walk one c h maps done = (refl, done.0)

single_left : {K V A : Type 0} (call : Call K V A) → IsSingle call → (m m' : Map K V) → Same m m' → IsLeftBy call m m' × IsDoneBy call m m'
single_left (Get j) one m m' same = (same, same)
single_left (Insert j v) one m m' same = (same, same)
single_left (TryInsert j v) one m m' same = (same, same)
single_left (RemoveIf j a) one m m' same = (same, same)
single_left (Compute j a) one m m' same = (same, same)
single_left (Reserve more) one m m' same = (same, same)
single_left CopyAll one m m' same = (same, same)
single_left Clear one m m' same = absurd one
single_left (Retain a) one m m' same = absurd one
single_left Walk one m m' same = (same, same)

module _ {K V A : Type 0} (call : Call K V A) (steps : ℕ) where
  -- the call begins, and its caller makes its steps
  abbrev pub alone_schedule : List (Turn K V A)
  alone_schedule = Begin 0 call ∷ Finish 0 steps ∷ []

  -- the call is open after each of its steps
  pub opened : (events : List Event) → AreOfSteps events → open_call alone_schedule 0 (open_history events) ≡ Some call
  opened [] are = refl
  opened (Begun ∷ events) are = absurd are.0
  opened (Changed kind old new ∷ events) are = opened events are.1
  opened (Moved kind ∷ events) are = opened events are.1
  opened (Asked n agrees ∷ events) are = opened events are.1
  opened (Shown n kind ∷ events) are = opened events are.1
  opened (Gave n ∷ events) are = opened events are.1
  opened (Other ∷ events) are = opened events are.1
  opened (Replied reply ∷ events) are = absurd are.0

module _ {K V A : Type 0} (eq : K → K → Bool) (call : Call K V A) (one : IsSingle call) (steps : ℕ) (start : Map K V) where
  -- the call begins, and its caller makes its steps
  abbrev schedule : List (Turn K V A)
  schedule = alone_schedule call steps

  -- the call changed the map once, and since then nothing did
  record HasChanged (made : Change) (m : Map K V) : Type 0 where
    pub went : Option (Stored K V)
    pub came : Option (Stored K V)
    pub reply : Reply
    pub made_is : made ≡ Some (number_in went, number_in came)
    pub update : IsUpdateBy eq (key_of call) went came start m
    pub does : Does call went reply came
    pub changes : change_of_reply reply ≡ Some (number_in went, number_in came)

  -- the call has changed nothing yet, or once
  abbrev Stands : Change → Map K V → List (Map K V) → Type 0
  Stands made m maps = ((made ≡ None) × AllSame start (m ∷ maps)) ⊎ HasChanged made m

  -- a further map that is the same
  stays : (made : Change) (m' m : Map K V) (maps : List (Map K V)) → Same m m' → Stands made m maps → Stands made m' (m ∷ maps)
  stays made m' m maps same (inl (none, all)) = inl (none, (λ j. same j ∙ all.0 j, all))
  stays made m' m maps same (inr x) = inr (record {
    went = x.went;
    came = x.came;
    reply = x.reply;
    made_is = x.made_is;
    update = update_same_by eq (key_of call) x.went x.came start start m m' (λ j. refl) x.update same;
    does = x.does;
    changes = x.changes;
  })

  -- a change is the only one
  changes_once : (caller : ℕ) (h : History) (made : Change) (m' m : Map K V) (maps : List (Map K V)) (said : Answered V) (old new : Option ℕ)
      → open_call schedule caller h ≡ Some call → change_of caller h ≡ made → IsChange eq schedule caller h m maps m' said old new → Stands made m maps
      → Stands (Some (old, new)) m' (m ∷ maps)
  changes_once caller h made m' m maps said old new opened is x stands =
      let (key, none, (reply, does, changes)) = single_changes eq call one (change_of caller h) x.key x.went x.came
      (subst (λ o. MayChange eq o (change_of caller h) x.key x.went x.came) opened x.may) in
      elim stands [
        | inl (unmade, all) ↦ inr (record {
          went = x.went;
          came = x.came;
          reply = reply;
          made_is = ap (λ o. Some (o, new)) (sym x.went_is) ∙ ap (λ o. Some (number_in x.went, o)) (sym x.came_is);
          update = update_same_by eq (key_of call) x.went x.came start m m' m' all.0
              (subst (λ k. IsUpdateBy eq k x.went x.came m m') (sym key) x.update) (λ j. refl);
          does = does;
          changes = changes;
        })
        | inr once ↦ absurd (some_change (number_in once.went, number_in once.came) made (sym is ∙ none) once.made_is)
      ]

  -- how the call is related to the history after each of them
  stands : (events : List Event) → AreOfSteps events → (m : Map K V) (maps : List (Map K V)) (said : Answered V)
      → Timeline eq schedule start (open_history events) (m ∷ maps) said → Stands (change_of 0 (open_history events)) m maps
  stands [] are m [] said x = elim x [ ]
  stands [] are m (m0 ∷ maps) [] x = elim x [ ]
  stands [] are m (m0 ∷ []) (answered ∷ []) x = inl (refl, (λ j. x.0 j ∙ x.2 j, (x.2, tt)))
  stands [] are m (m0 ∷ []) (answered ∷ o ∷ said) x = elim x.2 [ ]
  stands [] are m (m0 ∷ m1 ∷ maps) (answered ∷ said) x = elim x.2 [ ]
  stands (event ∷ events) are m [] said x = elim x [ ]
  stands (event ∷ events) are m (m0 ∷ maps) [] x = elim x [ ]
  stands (event ∷ events) are m (m0 ∷ maps) (answered ∷ said) x = after event are.0 said x.0 (stands events are.1 m0 maps said x.2)
    where
      after : (event : Event) → IsOfStep event → (said : Answered V) → IsLegal eq event schedule 0 (open_history events) m0 maps m said
          → Stands (change_of 0 (open_history events)) m0 maps → Stands (change_of 0 (open_history (event ∷ events))) m (m0 ∷ maps)
      after Begun of_step said legal so_far = absurd of_step
      after (Changed kind old new) of_step said legal so_far = changes_once 0 (open_history events) (change_of 0 (open_history events)) m m0 maps said
          old new (opened call steps events are.1) refl legal so_far
      after (Moved kind) of_step said legal so_far = stays (change_of 0 (open_history events)) m m0 maps legal so_far
      after (Asked n agrees) of_step said legal so_far = stays (change_of 0 (open_history events)) m m0 maps legal.0 so_far
      after (Shown n kind) of_step said legal so_far = stays (change_of 0 (open_history events)) m m0 maps legal.0 so_far
      after (Gave n) of_step said legal so_far = stays (change_of 0 (open_history events)) m m0 maps legal.0 so_far
      after Other of_step said legal so_far = stays (change_of 0 (open_history events)) m m0 maps legal so_far
      after (Replied reply) of_step said legal so_far = absurd of_step

  module _ (alike : (j k : K) → eq j k ≡ true → start j ≡ start k) (h : History) (m m' : Map K V) (maps : List (Map K V))
      (stood : Stands (change_of 0 h) m maps) (same : Same m m') where
    -- a reply with a change is the change's
    changed : (reply : Reply) (x : Option ℕ × Option ℕ) → change_of_reply reply ≡ Some x → change_of 0 h ≡ Some x → CallDoes eq call start reply m'
    changed reply x changes made = elim stood [
      | inl (none, all) ↦ absurd (some_change x (change_of 0 h) none made)
      | inr once ↦ record {
        went = once.went;
        came = once.came;
        update = update_same_by eq (key_of call) once.went once.came start start m m' (λ j. refl) once.update same;
        does = subst (λ r. Does call once.went r once.came)
            (sym (by_change once.reply x (once.changes ∙ sym once.made_is ∙ made)) ∙ by_change reply x changes) once.does;
      }
    ]

    -- if the call changed nothing, the map at the end is the one at the start
    unchanged : change_of 0 h ≡ None → Same start m'
    unchanged none = elim stood [
      | inl (_, all) ↦ (λ j. same j ∙ all.0 j)
      | inr once ↦ absurd (some_change (number_in once.went, number_in once.came) (change_of 0 h) none once.made_is)
    ]

    -- and each of the maps was
    all_same : change_of 0 h ≡ None → AllSame start (m ∷ maps)
    all_same none = elim stood [
      | inl (_, all) ↦ all
      | inr once ↦ absurd (some_change (number_in once.went, number_in once.came) (change_of 0 h) none once.made_is)
    ]

    -- a fact about the map at some point of a call that changed nothing holds of a map that is the
    -- same as at the start
    at_start : (P : Map K V → Type 0) → change_of 0 h ≡ None → AtSomeMoment P 0 h (m ∷ maps) → (m0 : Map K V) × Same start m0 × P m0
    at_start P none at = at_same start P 0 h (m ∷ maps) (all_same none) at

    -- an effect of the call on a map that is the same as at the start is its effect at the start
    does_at_start : (reply : Reply) (m0 : Map K V) → Same start m0 → Does call (at_key m0 (key_of call)) reply (at_key m0 (key_of call))
        → Does call (at_key start (key_of call)) reply (at_key start (key_of call))
    does_at_start reply m0 first does = subst (λ o. Does call o reply o) (at_same_key start m0 first (key_of call)) does

    -- a reply for which the map stays is the map's
    kept : (reply : Reply) → change_of 0 h ≡ None → Does call (at_key start (key_of call)) reply (at_key start (key_of call)) → CallDoes eq call start reply m'
    kept reply none does = record {
      went = at_key start (key_of call);
      came = at_key start (key_of call);
      update =
          let (k, is) = does_keyed call (at_key start (key_of call)) reply (at_key start (key_of call)) does in
          subst (λ o. IsUpdateBy eq o (at_key start o) (at_key start o) start m') (sym is)
          (record { before = refl; class = λ j e. unchanged none j ∙ alike j k e; others = λ j e. unchanged none j });
      does = does;
    }

    -- a reply without a change is the map's
    answered : (reply : Reply) → change_of 0 h ≡ None
        → AtSomeMoment (λ m. Does call (at_key m (key_of call)) reply (at_key m (key_of call))) 0 h (m ∷ maps) → CallDoes eq call start reply m'
    answered reply none at =
        let (m0, first, does) = at_start (λ m. Does call (at_key m (key_of call)) reply (at_key m (key_of call))) none at in
        kept reply none (does_at_start reply m0 first does)

    -- if its closure ends the call, the call has its effect on the map at the start
    does_as_shown : (reply : Reply) (shown : Option ℕ) (kind : OpKind) → change_of 0 h ≡ None → WasLastShown eq call reply shown kind 0 h (m ∷ maps)
        → Does call (at_key start (key_of call)) reply (at_key start (key_of call))
    does_as_shown reply shown kind none last =
        let (m0, first, (is, does)) = at_start (λ m. (number_in (at_key m (key_of call)) ≡ shown)
        × Does call (at_key m (key_of call)) reply (at_key m (key_of call))) none last.1 in
        does_at_start reply m0 first does

    -- a reply that fits is the finite map's
    fits_answered : (reply : Reply) → Fits eq call reply 0 h (m ∷ maps) → IsAnswered eq call start reply m'
    fits_answered (Refused refused) fits =
        let none = single_unchanged eq call one (change_of 0 h) fits.0 in
        ((single_left call one start m' (unchanged none)).0, λ e. does_as_shown (Refused RemoveNothing) None kinds.Remove none (fits.1 e))
    fits_answered (Aborted t) fits =
        let (none, (shown, last)) = fits in
        kept (Aborted t) none (does_as_shown (Aborted t) shown (kinds.Abort t) none last)
    fits_answered Done fits =
        let (no_key, none) = single_done eq call one 0 h (m ∷ maps) fits in
        (no_key, (single_left call one start m' (unchanged none)).1)
    fits_answered Absent fits = answered Absent fits.0 fits.1
    fits_answered (Found n) fits = answered (Found n) fits.0 fits.1
    fits_answered (Inserted n) fits = changed (Inserted n) (None, Some n) refl fits
    fits_answered (Replaced o n) fits = changed (Replaced o n) (Some o, Some n) refl fits
    fits_answered (Occupied n) fits = answered (Occupied n) fits.0 fits.1
    fits_answered (Removed n) fits = changed (Removed n) (Some n, None) refl fits.0
    fits_answered (Kept n) fits = answered (Kept n) fits.0.0 fits.0.1

  -- the timeline of the whole call determines this
  pub single_answered : ((j k : K) → eq j k ≡ true → start j ≡ start k) → (events : List Event) → AreOfSteps events
      → (reply : Reply) (last m' : Map K V) (maps : List (Map K V)) (said : Answered V)
      → Timeline eq schedule start (with_event 1 0 (Replied reply) (open_history events)) (last ∷ maps) said → Same last m' → IsAnswered eq call start reply m'
  single_answered alike events are reply last m' [] said x same = elim x [ ]
  single_answered alike events are reply last m' (m ∷ maps) [] x same = elim x [ ]
  single_answered alike events are reply last m' (m ∷ maps) (o ∷ said) x same =
      fits_answered alike (open_history events) m m' maps (stands events are m maps said x.2) (λ j. same j ∙ x.0.0 j) reply
      (subst (λ o. FitsOpen eq o reply 0 (open_history events) (m ∷ maps)) (opened call steps events are) x.0.1)
