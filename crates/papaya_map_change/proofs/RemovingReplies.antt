-- The result of a removal that has replied: what its closure returned for the pair, and the change that it made.
use Rattle.std.proofs.Common.{◌≡◌, inl, inr, ℕ, Bool, true, false, MatchOption, Option, None, Some}
use Rattle.std.proofs.Common.{Result, Ok, Err, List, [], ◌∷◌, ◌++◌, append-nil, is_some, refl, sym}
use Rattle.std.proofs.Common.{ap, ◌∙◌, subst}
use Rattle.std.specs.Cmp.{IsEquivalence}
use mathlib.Core.List.{IsPrefix}
use denote.Bor.{Bor}
use Rattle.logbook.specs.Pages.{Book}
use Rattle.papaya_words.specs.declared.refused.Refused.{Refused as Cause}
use Rattle.papaya_call.specs.declared.ask.Ask.TheVariants.{Done}
use Rattle.papaya_call.specs.declared.call.Reply.{Reply}
use Rattle.papaya_call.specs.declared.call.Reply.TheVariants.{Absent, Found, Inserted, Replaced, Occupied, Removed, Kept, Aborted, Done as Reply_done, Refused}
use Rattle.papaya_call.specs.declared.call.Task.{Task}
use Rattle.papaya_call.specs.declared.call.Task.TheVariants.{RemoveIf}
use Rattle.papaya_call.specs.declared.chain.ask.Ask.TheVariants.{Call}
use Rattle.papaya_call.specs.declared.chain.machine.Machine.{Machine}
use Rattle.papaya_call.specs.ChainMachine.{ask_of, started}
use Rattle.papaya_call_law.proofs.Names.{call_asks}
use Rattle.papaya_call_law.specs.TrueAnswers.{LoadedPairs}
use Rattle.papaya_call_law.specs.Relies.{IsReply, change_in, change_of_reply}
use Rattle.papaya_call_law.specs.Says.{Agrees, ClosureResult, ActsOn, result_in, result_of_removal}
use Rattle.papaya_call_law.proofs.ReliesHeld.{ended_in, machine_replies}
use Rattle.papaya_map_book.specs.declared.rule.entry.Begun.{Begun}
use Rattle.papaya_map_book.specs.declared.rule.entry.Event.{Event}
use Rattle.papaya_map_change.specs.declared.removal.Removal.{Removal}
use Rattle.papaya_map_change.specs.Changing.{HasChanged, HasItsKey}
use Rattle.papaya_map_lookup.specs.History.{Change, changes_of, history_of, key_of}
use Rattle.papaya_map_book.specs.Logs.{Member, Stored, exchanges_of, pair_named}
use Rattle.papaya_map_book.specs.declared.rule.entry.Named.TheVariants.{Pair}
use Rattle.papaya_map_book.specs.Rule.{IsLawfulLog, IsPlaced}
use Rattle.papaya_map_change.specs.Removing.{HoldsResult, IsRemoving, IsRemovalResult}
use Rattle.papaya_map_change.specs.RemovalAnswers.{IsJudged, IsRemovalBy, IsTaken, has_removed as pair_went}
use Rattle.papaya_map_change.specs.ClosureCalls.{AreOf, WasHeld}
use Rattle.papaya_map_change.specs.Writing.{IsMemoryOrCapacity}
use Rattle.papaya_map_change.proofs.Changing.{begins as begins_calling, Coded, Wide}
use Rattle.papaya_map_lookup.proofs.Histories.{changes-append, history_since}
use Rattle.papaya_map_book.proofs.Logs.{prefix_trans}
use Rattle.papaya_map_lookup.proofs.Readings.{IsQuery}
use Rattle.papaya_map_change.proofs.Removing.{Removing}
use Rattle.papaya_map_change.proofs.ClosureCalls.{all_shown, held_then, held_wider, said_only, shown_each}

-- replies that no removal gives
abbrev pub IsNoRemoval : Reply → Type 0
IsNoRemoval Absent = ⊥
IsNoRemoval (Found n) = Unit {0}
IsNoRemoval (Inserted n) = Unit {0}
IsNoRemoval (Replaced old n) = Unit {0}
IsNoRemoval (Occupied n) = Unit {0}
IsNoRemoval (Removed n) = ⊥
IsNoRemoval (Kept n) = ⊥
IsNoRemoval (Aborted t) = Unit {0}
IsNoRemoval Reply_done = Unit {0}
IsNoRemoval (Refused cause) = ⊥

-- an option that is this value has its property
same_there : {P : Type 0} (holds : P → Type 0) (none : Type 0) (o : Option P) (p : P) → o ≡ Some p → MatchOption o none holds → holds p
same_there holds none o p is m = subst (λ z. MatchOption z none holds) is m

module _ {K V S H F : Type 0} (eq : K → K → Bool) (input : K → List (List ℕ)) (build : S → H) (write : H → List ℕ → H) (finish : H → ℕ)
    (classes : IsEquivalence eq) (respects : (x y : K) → eq x y ≡ true → input x ≡ input y)
    (b : Begun K V S) (name : Book) (matches : K → Bool) (query : List (List ℕ)) (lawful : IsQuery eq input matches query)
    (judges : F → Stored K V → Bool → F → Type 0) (first : F) (begun log : List (Event K V S)) (x : Removal K V S H) (f : F)
    (r : Removing eq input build write finish classes respects b name matches query lawful judges first begun log x f) where
  abbrev m : Machine
  m = x.call.machine

  abbrev loaded : LoadedPairs (Stored K V)
  loaded = record { last = x.call.copier.last; made = [] }

  -- the facts about its reply
  replies : (reply : Reply) → ask_of m ≡ Call (Done reply)
      → IsReply (Wide eq input build write finish classes respects b matches query lawful None name begun log)
      (Coded eq input build write finish classes respects b matches query lawful None name begun) (exchanges_of begun) r.calling.since None loaded
      RemoveIf reply × (change_in m.call.state ≡ change_of_reply reply)
  replies reply e =
      let g = Wide eq input build write finish classes respects b matches query lawful None name begun log in
      let c = Coded eq input build write finish classes respects b matches query lawful None name begun in
      let all = machine_replies g c (exchanges_of begun) r.calling.since None loaded m.call r.calling.relies.call reply (call_asks m (Done reply) e).1 in
      (subst (λ (t : Task). IsReply g c (exchanges_of begun) r.calling.since None loaded t reply) r.task_is all.0, all.1)

  -- the result of the closure that its reply relies on
  stands : (reply : Reply) (said : ClosureResult) → ask_of m ≡ Call (Done reply) → result_of_removal reply ≡ Some said → ActsOn m.call said
  stands reply said e is = inl (ap (λ t. result_in t m.call.state) r.task_is
      ∙ (ap (result_in RemoveIf) (ended_in m.call.made m.call.hash m.call.state reply (call_asks m (Done reply) e).1) ∙ is))

  -- the closure returned this for the pair
  was_said : (reply : Reply) (n : ℕ) (agrees : Bool) → ask_of m ≡ Call (Done reply) → result_of_removal reply ≡ Some (Agrees n agrees)
      → (p : Stored K V) × (x.shown ≡ Some p) × (p.index ≡ n) × Member (p, agrees) r.said
  was_said reply n agrees e is = r.stood n agrees (stands reply (Agrees n agrees) e is)

  -- its contract, by the part about its result
  answers : (answer : Result (Result (Option (Bor K × Bor V)) (Bor K × Bor V)) Cause)
      → IsJudged eq matches (history_of begun) (history_of log) r.said answer → IsRemovalBy eq matches (history_of begun) (history_of log) judges first answer
  answers answer judged = record { said = r.said; left = f; has_said = r.has_said; held = r.held; answered = judged }

  -- there was none
  absent : ask_of m ≡ Call (Done Absent) → IsRemovalBy eq matches (history_of begun) (history_of log) judges first (Ok (Ok None))
  absent e = answers (Ok (Ok None)) (held_then eq input build write finish classes respects b matches query lawful begun log r.calling.lawful
      r.calling.since r.calling.is None (replies Absent e).0)

  -- it failed while it helped to copy
  refused : (cause : Cause) → ask_of m ≡ Call (Done (Refused cause)) → IsRemovalBy eq matches (history_of begun) (history_of log) judges first (Err cause)
  refused cause e = answers (Err cause) (r.refuses cause e)

  -- the pair stays
  kept : (n : ℕ) → ask_of m ≡ Call (Done (Kept n)) → (p : Stored K V) → x.shown ≡ Some p → (entry : Bor K × Bor V) → AreOf entry p
      → IsRemovalBy eq matches (history_of begun) (history_of log) judges first (Ok (Err entry))
  kept n e p has entry are =
      let s = was_said (Kept n) n false e refl in
      let one : s.0 ≡ p = cc (s.1, has) in
      answers (Ok (Err entry)) (p, subst (λ (z : Stored K V). Member (z, false) r.said) one s.3, are)

  -- the closure was called with a pair that stays
  can_tell_kept : (n : ℕ) → ask_of m ≡ Call (Done (Kept n)) → HoldsResult b name x (Kept n)
  can_tell_kept n e = let s = was_said (Kept n) n false e refl in
      (s.0, s.1, subst (λ (o : Option (Stored K V)). IsPlaced b (Some name) (pair_named o)) s.1 r.shown_placed)

  -- it replies nothing else
  replies_no_other : (reply : Reply) → IsNoRemoval reply
      → IsReply (Wide eq input build write finish classes respects b matches query lawful None name begun log)
      (Coded eq input build write finish classes respects b matches query lawful None name begun) (exchanges_of begun) r.calling.since None loaded
      RemoveIf reply → ⊥
  replies_no_other Absent never is = never
  replies_no_other (Found n) never is = is
  replies_no_other (Inserted n) never is = is
  replies_no_other (Replaced old n) never is = is
  replies_no_other (Occupied n) never is = is
  replies_no_other (Removed n) never is = never
  replies_no_other (Kept n) never is = never
  replies_no_other (Aborted t) never is = is
  replies_no_other Reply_done never is = is
  replies_no_other (Refused cause) never is = never

  no_other : (reply : Reply) → IsNoRemoval reply → ask_of m ≡ Call (Done reply) → ⊥
  no_other reply never e = replies_no_other reply never (replies reply e).0

  -- a pair that it holds is stored in the book's arenas
  placed : (p : Stored K V) (o : Option (Stored K V)) → o ≡ Some p → IsPlaced b (Some name) (pair_named o) → IsPlaced b (Some name) (Pair p)
  placed p o is = subst (λ (z : Option (Stored K V)). IsPlaced b (Some name) (pair_named z)) is

  module _ (n : ℕ) (e : ask_of m ≡ Call (Done (Removed n))) where
    abbrev change : Option ℕ × Option ℕ
    change = (Some n, None)

    changed : HasChanged eq None begun log x.call.taken x.call.put change
    changed = r.calling.changed change (replies (Removed n) e).1

    -- the pair that was taken out has the number of the one that the closure was called with
    same_number : (shown taken : Stored K V) → x.shown ≡ Some shown → x.call.taken ≡ Some taken → shown.index ≡ taken.index
    same_number shown taken has took =
        let s = was_said (Removed n) n true e refl in
        let one : s.0 ≡ shown = cc (s.1, has) in
        let t = (same_there (λ p. (Some n ≡ Some p.index) × (changed.class ≡ key_of p)) (change.0 ≡ None) x.call.taken taken took changed.taken_is).0 in
        let number : n ≡ taken.index = cc t in
        ap (λ (z : Stored K V). z.index) (sym one) ∙ (s.2 ∙ number)

    none_put : (o : Option (Stored K V)) → MatchOption o (change.1 ≡ None)
        (λ q. (change.1 ≡ Some q.index) × (eq changed.class (key_of q) ≡ true) × HasItsKey eq None x.call.taken q) → o ≡ None
    none_put None h = refl
    none_put (Some q) h = let none = h.0 in absurd (cc none)

    some_taken : (o : Option (Stored K V)) → MatchOption o (change.0 ≡ None) (λ p. (change.0 ≡ Some p.index) × (changed.class ≡ key_of p))
        → (p : Stored K V) × (o ≡ Some p)
    some_taken None h = absurd (cc h)
    some_taken (Some p) h = (p, refl)

    -- the closure was called with a pair, and one was taken out
    can_tell_removed : HoldsResult b name x (Removed n)
    can_tell_removed =
        let s = was_said (Removed n) n true e refl in
        let t = some_taken x.call.taken changed.taken_is in
        (s.0, t.0, s.1, t.1, same_number s.0 t.0 s.1 t.1, placed s.0 x.shown s.1 r.shown_placed, placed t.0 x.call.taken t.1 r.calling.taken_placed)

    -- it was taken out
    went : (shown taken : Stored K V) → x.shown ≡ Some shown → x.call.taken ≡ Some taken → shown.value ≡ taken.value → (entry : Bor K × Bor V)
        → AreOf entry taken → IsRemovalBy eq matches (history_of begun) (history_of log) judges first (Ok (Ok (Some entry)))
    went shown taken has took value entry are =
        let s = was_said (Removed n) n true e refl in
        let one : s.0 ≡ shown = cc (s.1, has) in
        let there : Member (shown, true) r.said = subst (λ (z : Stored K V). Member (z, true) r.said) one s.3 in
        let held : WasHeld eq matches (history_of begun) (history_of log) (Some shown) = shown_each
        (λ p. WasHeld eq matches (history_of begun) (history_of log) (Some p)) r.said r.held shown true there in
        let class : changed.class ≡ key_of taken =
        (same_there (λ p. (Some n ≡ Some p.index) × (changed.class ≡ key_of p)) (change.0 ≡ None) x.call.taken taken took changed.taken_is).1 in
        let is : history_of log ≡ history_of changed.before ++ record { class = changed.class; taken = x.call.taken; put = x.call.put } ∷ [] =
        ap (changes_of key_of) changed.is ∙ (changes-append key_of (exchanges_of changed.before) (changed.by ∷ [])
        ∙ ap (λ (cs : List (Change K (Stored K V))). history_of changed.before ++ cs) (Rattle.std.proofs.lemmas.List.append-nil _ ∙ changed.change_is)) in
        let taken_as : IsTaken eq matches (history_of begun) (history_of log) taken = record {
          before = history_of changed.before;
          change = record { class = changed.class; taken = x.call.taken; put = x.call.put };
          since = history_since begun changed.before changed.since;
          is = is;
          class_is = ap matches (class ∙ ap (λ z. z.key.value) (sym value)) ∙ held.is.0;
          taken_is = took;
          put_is = none_put x.call.put changed.put_is;
          kept = λ p q e f. absurd (cc f);
        } in
        answers (Ok (Ok (Some entry))) (taken, taken_as, (shown, (same_number shown taken has took, value), there), are)

  -- it holds the pairs that its result refers to
  pub can_tell : (reply : Reply) → ask_of m ≡ Call (Done reply) → HoldsResult b name x reply
  can_tell Absent e = tt
  can_tell (Found n) e = no_other (Found n) tt e
  can_tell (Inserted n) e = no_other (Inserted n) tt e
  can_tell (Replaced old n) e = no_other (Replaced old n) tt e
  can_tell (Occupied n) e = no_other (Occupied n) tt e
  can_tell (Removed n) e = can_tell_removed n e
  can_tell (Kept n) e = can_tell_kept n e
  can_tell (Aborted t) e = no_other (Aborted t) tt e
  can_tell Reply_done e = no_other Reply_done tt e
  can_tell (Refused cause) e = tt

  -- its result, by its reply
  pub answered : (reply : Reply) → ask_of m ≡ Call (Done reply) → (answer : Result (Result (Option (Bor K × Bor V)) (Bor K × Bor V)) Cause)
      → IsRemovalResult x reply answer → IsRemovalBy eq matches (history_of begun) (history_of log) judges first answer
  answered Absent e answer is = subst (IsRemovalBy eq matches (history_of begun) (history_of log) judges first) (sym is) (absent e)
  answered (Found n) e answer t = absurd t
  answered (Inserted n) e answer t = absurd t
  answered (Replaced old n) e answer t = absurd t
  answered (Occupied n) e answer t = absurd t
  answered (Removed n) e answer t = subst (IsRemovalBy eq matches (history_of begun) (history_of log) judges first) (sym t.7)
      (went n e t.0 t.1 t.3 t.4 t.5 t.2 t.6)
  answered (Kept n) e answer t = subst (IsRemovalBy eq matches (history_of begun) (history_of log) judges first) (sym t.4) (kept n e t.0 t.2 t.1 t.3)
  answered (Aborted n) e answer t = absurd t
  answered Reply_done e answer t = absurd t
  answered (Refused cause) e answer is = subst (IsRemovalBy eq matches (history_of begun) (history_of log) judges first) (sym is) (refused cause e)

-- whether a pair was taken out, by the reply of a removal
pub told_went : {K V S H : Type 0} (x : Removal K V S H) (reply : Reply) (answer : Result (Result (Option (Bor K × Bor V)) (Bor K × Bor V)) Cause)
    → IsRemovalResult x reply answer → pair_went answer ≡ is_some (change_of_reply reply)
told_went x Absent answer is = ap pair_went is
told_went x (Found n) answer t = absurd t
told_went x (Inserted n) answer t = absurd t
told_went x (Replaced old n) answer t = absurd t
told_went x (Occupied n) answer t = absurd t
told_went x (Removed n) answer t = ap pair_went t.7
told_went x (Kept n) answer t = ap pair_went t.4
told_went x (Aborted n) answer t = absurd t
told_went x Reply_done answer t = absurd t
told_went x (Refused cause) answer is = ap pair_went is

-- and if it failed, so did its machine
pub told_refused : {K V S H : Type 0} (x : Removal K V S H) (reply : Reply) (answer : Result (Result (Option (Bor K × Bor V)) (Bor K × Bor V)) Cause)
    → IsRemovalResult x reply answer → (cause : Cause) → answer ≡ Err cause → reply ≡ Refused cause
told_refused x Absent answer is cause e = let f = sym is ∙ e in absurd (cc f)
told_refused x (Found n) answer t cause e = absurd t
told_refused x (Inserted n) answer t cause e = absurd t
told_refused x (Replaced old n) answer t cause e = absurd t
told_refused x (Occupied n) answer t cause e = absurd t
told_refused x (Removed n) answer t cause e = let f = sym t.7 ∙ e in absurd (cc f)
told_refused x (Kept n) answer t cause e = let f = sym t.4 ∙ e in absurd (cc f)
told_refused x (Aborted n) answer t cause e = absurd t
told_refused x Reply_done answer t cause e = absurd t
told_refused x (Refused other) answer is cause e = let f = sym is ∙ e in let same : other ≡ cause = cc f in ap Refused same

-- no removal gives another reply
pub tells_no_other : {K V S H : Type 0} (b : Begun K V S) (name : Book) (x : Removal K V S H) (reply : Reply) → IsNoRemoval reply → HoldsResult b name x reply → ⊥
tells_no_other b name x Absent never t = never
tells_no_other b name x (Found n) never t = t
tells_no_other b name x (Inserted n) never t = t
tells_no_other b name x (Replaced old n) never t = t
tells_no_other b name x (Occupied n) never t = t
tells_no_other b name x (Removed n) never t = never
tells_no_other b name x (Kept n) never t = never
tells_no_other b name x (Aborted n) never t = t
tells_no_other b name x Reply_done never t = t
tells_no_other b name x (Refused cause) never t = never

-- a history before a removal began comes before its change, and before the closure's arguments
module _ {K V : Type 0} (eq : K → K → Bool) (matches : K → Bool) (older old new : List (Change K (Stored K V))) (pre : IsPrefix older old) where
  taken_since : (p : Stored K V) → IsTaken eq matches old new p → IsTaken eq matches older new p
  taken_since p t = record {
    before = t.before;
    change = t.change;
    since = prefix_trans older old t.before pre t.since;
    is = t.is;
    class_is = t.class_is;
    taken_is = t.taken_is;
    put_is = t.put_is;
    kept = t.kept;
  }

  wider : (held : Option (Stored K V)) → WasHeld eq matches old new held → WasHeld eq matches older new held
  wider held h = held_wider eq matches older old new new pre ([], append-nil new) held h

  judged_since : (said : List (Stored K V × Bool)) (answer : Result (Result (Option (Bor K × Bor V)) (Bor K × Bor V)) Cause)
      → IsJudged eq matches old new said answer → IsJudged eq matches older new said answer
  judged_since said (Ok (Ok None)) h = wider None h
  judged_since said (Ok (Ok (Some entry))) h = (h.0, taken_since h.0 h.1, h.2, h.3)
  judged_since said (Ok (Err entry)) h = h
  judged_since said (Err cause) h = h

  pub removal_since : {F : Type 0} (judges : F → Stored K V → Bool → F → Type 0) (first : F)
      (answer : Result (Result (Option (Bor K × Bor V)) (Bor K × Bor V)) Cause) → IsRemovalBy eq matches old new judges first answer
      → IsRemovalBy eq matches older new judges first answer
  removal_since judges first answer r = record {
    said = r.said;
    left = r.left;
    has_said = r.has_said;
    held = all_shown (λ p. WasHeld eq matches old new (Some p)) (λ p. WasHeld eq matches older new (Some p)) (λ p h. wider (Some p) h) r.said r.held;
    answered = judged_since r.said answer r.answered;
  }

-- the cause with which a removal failed
pub refused_removed : {K V F : Type 0} (eq : K → K → Bool) (matches : K → Bool) (old new : List (Change K (Stored K V)))
    (judges : F → Stored K V → Bool → F → Type 0) (first : F) (answer : Result (Result (Option (Bor K × Bor V)) (Bor K × Bor V)) Cause)
    → IsRemovalBy eq matches old new judges first answer → (cause : Cause) → answer ≡ Err cause → IsMemoryOrCapacity cause
refused_removed eq matches old new judges first answer r cause is = subst (IsJudged eq matches old new r.said) is r.answered

module _ {K V F : Type 0} (eq : K → K → Bool) (matches : K → Bool) (old new : List (Change K (Stored K V)))
    (judges : F → Stored K V → Bool → F → Type 0) (first : F) (answer : Result (Result (Option (Bor K × Bor V)) (Bor K × Bor V)) Cause)
    (entry : Bor K × Bor V) (r : IsRemovalBy eq matches old new judges first answer) where
  -- the value of the pair that was taken out
  pub value_removed : answer ≡ Ok (Ok (Some entry)) → (p : Stored K V) × IsTaken eq matches old new p × (entry.1.now ≡ p.value.value)
  value_removed is = let h = subst (IsJudged eq matches old new r.said) is r.answered in (h.0, h.1, h.3.1)

  -- and its key
  pub entry_removed : answer ≡ Ok (Ok (Some entry)) → (p : Stored K V) × IsTaken eq matches old new p × AreOf entry p
  entry_removed is = let h = subst (IsJudged eq matches old new r.said) is r.answered in (h.0, h.1, h.3)

  -- if the closure always returns `true`, no pair stays
  pub none_stays : ((f : F) (p : Stored K V) (agrees : Bool) (g : F) → judges f p agrees g → agrees ≡ true) → answer ≡ Ok (Err entry) → ⊥
  none_stays always is = let h = subst (IsJudged eq matches old new r.said) is r.answered in
      let agreed : false ≡ true = said_only judges (λ a. a ≡ true) always first r.said r.left r.has_said h.0 false h.1 in cc agreed

-- a removal that begins
pub begins : {K V S H F : Type 0} (eq : K → K → Bool) (hash : S → K → ℕ) (b : Begun K V S) (name : Book) (matches : K → Bool) (fed : ℕ)
    (judges : F → Stored K V → Bool → F → Type 0) (first : F) (log : List (Event K V S)) (x : Removal K V S H) → IsLawfulLog eq hash b log → (initial : ℕ)
    → x.call.machine ≡ started RemoveIf fed b.mode initial 0 b.limit → (x.call.table ≡ None) × (x.call.copier.fresh ≡ None) → (x.call.copier.last ≡ None)
    × (x.call.copier.kept ≡ None) × (x.call.taken ≡ None) × (x.call.put ≡ None) → x.shown ≡ None → IsRemoving eq hash b name matches fed judges first log log x first
begins eq hash b name matches fed judges first log x l initial machine table pairs shown = record {
  calling = rw (machine, table.0, table.1, pairs.0, pairs.1, pairs.2, pairs.3) (begins_calling eq hash b name matches fed None refl log l RemoveIf initial);
  task_is = ap (λ (z : Machine). z.call.task) machine;
  words = rw machine tt;
  shown_placed = rw shown tt;
  said = [];
  has_said = refl;
  held = tt;
  stood = λ n agrees stands. absurd (nothing_said (subst (λ (z : Machine). ActsOn z.call (Agrees n agrees)) machine stands));
  refuses = λ cause e. let f = sym (ap ask_of machine) ∙ e in absurd (cc f);
  crowded = λ e. let f = sym (ap ask_of machine) ∙ e in absurd (cc f);
}
  where
    nothing_said : {n : ℕ} {agrees : Bool} → ActsOn (started RemoveIf fed b.mode initial 0 b.limit).call (Agrees n agrees) → ⊥
    nothing_said (inl e) = cc e
    nothing_said (inr (inl e)) = cc e
    nothing_said (inr (inr e)) = cc e
