-- A table that is linked has a number that no table in the log has: all of these are on the chain, whose last one has a smaller number.
use Rattle.std.proofs.Common.{◌≡◌, inl, inr, ⊎_elim, ℕ, zero, suc, ◌<◌, ◌≤◌, ◌==◌, Bool, true}
use Rattle.std.proofs.Common.{Option, None, Some, List, [], ◌∷◌, ◌++◌, length, map, refl, ap, ◌∙◌}
use Rattle.std.proofs.Common.{subst, arith}
use Rattle.std.specs.Cmp.{IsEquivalence}
use Rattle.std.proofs.lemmas.Bool.{cases_Bool, cond-true, cond-false, eqb-true}
use Rattle.boxcar.specs.Table.{Where}
use Rattle.papaya_call.specs.declared.ask.At.TheVariants.{Next}
use Rattle.papaya_call.specs.declared.ask.StepKind.TheVariants as kinds
use Rattle.papaya_words_law.specs.Allows.{AllAllowed, Allows}
use Rattle.papaya_words_law.specs.Class.{IsOn}
use Rattle.papaya_words_law.specs.Exchange.{Exchange, Open, Claim, Replace, Bury, Link, Mark, Close}
use Rattle.papaya_words_law.specs.Exchange.{Place, Finish, Advance, Promote, Abort, Take, Setting, State}
use Rattle.papaya_words_law.specs.Exchange.{after, run, start}
use Rattle.papaya_words_law.specs.Code.{IsHashed}
use Rattle.papaya_words_law.specs.Grows.{Agrees, Comes, exchanges}
use Rattle.papaya_words_law.specs.Invariant.{IsKeeping, IsSound}
use Rattle.papaya_words_law.specs.Meaning.{IsLawful, map_after}
use Rattle.papaya_words_law.proofs.Chain.{has_next, next_on}
use Rattle.papaya_words_law.proofs.OneMap.{keeping_sound, sound, start_keeps, step_keeps}
use Rattle.papaya_map_book.specs.Calls.{HasCome, IsTable}
use Rattle.papaya_map_book.specs.Logs.{Stored, coding_of, comes, entry_of, exchange_of, exchanges_of}
use Rattle.papaya_map_book.specs.Logs.{number_of, setting_of, setting_with, state_of, steps_of}
use Rattle.papaya_map_book.specs.Logs.{table_if, table_in}
use Rattle.papaya_map_book.specs.Makers.{CanBring}
use Rattle.papaya_map_book.specs.Plays.{CanExchange}
use Rattle.papaya_map_book.specs.Rule.{IsLawfulLog}
use Rattle.papaya_map_book.specs.Sheets.{Sheet}
use Rattle.papaya_map_book.specs.declared.rule.entry.Begun.{Begun}
use Rattle.papaya_map_book.specs.declared.rule.entry.Event.{Event}
use Rattle.papaya_map_book.specs.declared.rule.entry.Named.TheVariants as names
use Rattle.papaya_map_book.specs.declared.rule.entry.Step.{Step}
use Rattle.papaya_map_book.specs.declared.rule.entry.Step.TheVariants as steps
use Rattle.papaya_map_book.specs.declared.rule.entry.Event.TheVariants.{Stepped}
use Rattle.papaya_map_book.specs.Hashes.{hash_of}
use Rattle.papaya_map_book.proofs.Comes.{table_there}
use Rattle.papaya_map_book.proofs.Joining as joining
use Rattle.papaya_map_book.proofs.Loaded.{table_since}
use Rattle.papaya_map_book.proofs.Logs.{either_table, steps-append}
use Rattle.papaya_map_book.proofs.Settings.{is_hashed}
use Rattle.papaya_map_book.proofs.Opened.{same_number}
use Rattle.papaya_map_book.proofs.Wishes.{copy_wished}

-- if there is no root, there is no first table
no_first : {K P : Type 0} (g : Setting K P) (s : State P) → IsSound g s → s.root ≡ 0 → s.first ≡ 0
no_first g s sound root = ⊎_elim (λ h. h.1) (λ on. let some = on.0 in absurd (omega arith)) sound.root

-- a table that is some table's next, or the first one, stays so
comes_stays : {K P : Type 0} (g : Setting K P) (s : State P) (e : Exchange P) → IsSound g s → Allows g s e → (t : ℕ) → 0 < t → Comes s t → Comes (after s e) t
comes_stays g s (Open u) sound may t some (inl f) = let none = no_first g s sound may.0 in absurd (omega arith)
comes_stays g s (Open u) sound may t some (inr n) = inr n
comes_stays g s (Claim u x p) sound may t some c = c
comes_stays g s (Replace u x p q) sound may t some c = c
comes_stays g s (Bury u x p) sound may t some c = c
comes_stays g s (Link u n) sound may t some (inl f) = inl f
comes_stays g s (Link u n) sound may t some (inr (v, e)) =
    ⊎_elim
    (λ h. let none : s.next v ≡ 0 = ap s.next (eqb-true v u h) ∙ may.last in absurd (omega arith))
    (λ h. inr (v, cond-false (v == u) n (s.next v) h ∙ e))
    (cases_Bool (v == u))
comes_stays g s (Mark u x p) sound may t some c = c
comes_stays g s (Close u x) sound may t some c = c
comes_stays g s (Place u x p) sound may t some c = c
comes_stays g s (Finish u x p) sound may t some c = c
comes_stays g s (Advance u d) sound may t some c = c
comes_stays g s (Promote u n) sound may t some c = c
comes_stays g s (Abort u) sound may t some c = c
comes_stays g s (Take m) sound may t some c = c

-- it stays so after several exchanges
comes_still : {K P : Type 0} (g : Setting K P) → IsLawful g → (es : List (Exchange P)) (s : State P) (m : K → Option P) → IsKeeping g s m
    → AllAllowed g s es → (t : ℕ) → 0 < t → Comes s t → Comes (run es s) t
comes_still g law [] s m keeps may t some c = c
comes_still g law (e ∷ es) s m keeps may t some c =
    comes_still g law es (after s e) (map_after g m e) (step_keeps g law s m keeps e may.0).1 may.1 t some
    (comes_stays g s e (keeping_sound g s m keeps) may.0 t some c)

module _ {K V : Type 0} (g : Setting K (Stored K V)) (law : IsLawful g) where
  -- the number of a table that comes with an exchange
  came_now : (s : State (Stored K V)) (e : Step K V) (t : ℕ) (w : Where Sheet) → table_if (comes e) t ≡ Some w → Comes (after s (exchange_of e)) t
  came_now s (steps.Open w') t w h = ⊎_elim (λ y. inl (eqb-true (number_of w') t y))
      (λ n. let none = cond-false (number_of w' == t) (Some w') None n in absurd (cc (h, none))) (cases_Bool (number_of w' == t))
  came_now s (steps.Claim u x p) t w h = absurd (cc h)
  came_now s (steps.Replace u x p q) t w h = absurd (cc h)
  came_now s (steps.Bury u x p) t w h = absurd (cc h)
  came_now s (steps.Link u w') t w h =
      ⊎_elim
      (λ y. inr (u, cond-true (u == u) (number_of w') (s.next u) (same_number u) ∙ eqb-true (number_of w') t y))
      (λ n. let none = cond-false (number_of w' == t) (Some w') None n in absurd (cc (h, none)))
      (cases_Bool (number_of w' == t))
  came_now s (steps.Mark u x p) t w h = absurd (cc h)
  came_now s (steps.Close u x) t w h = absurd (cc h)
  came_now s (steps.Place u x p) t w h = absurd (cc h)
  came_now s (steps.Finish u x p) t w h = absurd (cc h)
  came_now s (steps.Advance u c) t w h = absurd (cc h)
  came_now s (steps.Promote u n) t w h = absurd (cc h)
  came_now s (steps.Abort u) t w h = absurd (cc h)
  came_now s (steps.Take m) t w h = absurd (cc h)

  -- a table that has come is the first one or some table's next
  came_comes : (es : List (Step K V)) (s : State (Stored K V)) (m : K → Option (Stored K V)) → IsKeeping g s m
      → AllAllowed g s (exchanges (map entry_of es)) → (t : ℕ) → 0 < t → (w : Where Sheet) → table_in es t ≡ Some w
      → Comes (run (exchanges (map entry_of es)) s) t
  came_comes [] s m keeps may t some w h = absurd (cc h)
  came_comes (e ∷ es) s m keeps may t some w h =
      let s' = after s (exchange_of e) in let m' = map_after g m (exchange_of e) in
      let keeps' = (step_keeps g law s m keeps (exchange_of e) may.0).1 in
      ⊎_elim
      (λ n. comes_still g law (exchanges (map entry_of es)) s' m' keeps' may.1 t some (came_now s e t w n))
      (λ n. came_comes es s' m' keeps' may.1 t some w n)
      (either_table (table_if (comes e) t) (table_in es t) w h)

module _ {K V S : Type 0} (eq : K → K → Bool) (hash : S → K → ℕ) (b : Begun K V S) where
  module _ (log : List (Event K V S)) (law : IsLawful (setting_of eq (hash b.hasher) b.mode b.limit log)) (l : IsLawfulLog eq hash b log) where
    abbrev g : Setting K (Stored K V)
    g = setting_of eq (hash b.hasher) b.mode b.limit log

    abbrev s : State (Stored K V)
    s = state_of log

    steady : IsSound g s
    steady = sound g law (exchanges (map entry_of (steps_of log))) l.allowed

    comes_in : (t : ℕ) → 0 < t → (w : Where Sheet) → table_in (steps_of log) t ≡ Some w → Comes s t
    comes_in t some w h = came_comes g law (steps_of log) start (λ k. None) (start_keeps g law) l.allowed t some w h

    -- a table that has a next one has come
    further_came : (o : Option (Where Sheet)) (u n : ℕ) → table_in (steps_of log) u ≡ o → s.next u ≡ n → 0 < n → HasCome log u
    further_came None u n h e some = let none = (l.blank u h).next in absurd (omega arith)
    further_came (Some w) u n h e some = (w, h)

    -- every table that has come is on the chain
    came_on : (most t : ℕ) → t ≤ most → 0 < t → HasCome log t → IsOn s.first s.next t
    came_on zero t le some h = absurd (omega arith)
    came_on (suc most) t le some h =
        ⊎_elim
        (λ f. (some, (0, f)))
        (λ n.
        let u = n.0 in let is : s.next u ≡ t = n.1 in
        ⊎_elim
        (λ none. absurd (omega arith))
        (λ up.
        let made = up.0 in let lower = up.1 in
        let on = came_on most u (omega arith) made (further_came (table_in (steps_of log) u) u t refl is some) in
        subst (IsOn s.first s.next) is (next_on s.next steady.rises s.first u on (omega arith)))
        (steady.rises u))
        (comes_in t some h.0 h.1)

    -- so if a table that has come has no next one, no table with a greater number has come
    pub last_came : (o : Option (Where Sheet)) (t n : ℕ) → table_in (steps_of log) n ≡ o → 0 < t → HasCome log t → s.next t ≡ 0 → t < n → o ≡ None
    last_came None t n h some come last less = refl
    last_came (Some w) t n h some come last less =
        let a = came_on t t (omega arith) some come in
        let c = came_on n n (omega arith) (omega arith) (w, h) in
        let more = has_next s.next steady.rises s.first t n a c less in
        absurd (omega arith)

  -- a table that may be linked has a number that no other table has
  pub can_link : ((log : List (Event K V S)) → IsLawfulLog eq hash b log → IsLawful (setting_of eq (hash b.hasher) b.mode b.limit log))
      → (t : ℕ) (sheet : Sheet) (w : Where Sheet) (v : List (Event K V S)) → IsTable v t sheet
      → CanExchange eq hash b (Next t) (Some kinds.Link) 0 (number_of w) None (names.Table w) v
      → CanBring eq hash b (Next t) (Some kinds.Link) 0 (number_of w) None w v
  can_link laws t sheet w v came can log pre l is =
      let m = can log pre l is in
      let e : exchange_of m.step ≡ Link t (number_of w) = copy_wished (Next t) (number_of w) (state_of log) None (exchange_of m.step)
      (Some kinds.Link) tt m.meant.asked in
      let with_it = setting_with eq (hash b.hasher) b.mode b.limit (names.Table w) log in
      let may : Allows with_it (state_of log) (Link t (number_of w)) = subst (Allows with_it (state_of log)) e m.allowed in
      let here = table_since v log t sheet pre came in
      (m, last_came log (laws log l) l (table_in (steps_of log) (number_of w)) t (number_of w) refl may.on.0 (here.0, here.1) may.last may.rises)

-- a table that was linked is there
pub link_words : {K V S : Type 0} (before log : List (Event K V S)) (t : ℕ) (w : Where Sheet) → log ≡ before ++ Stepped (steps.Link t w) ∷ []
    → table_in (steps_of before) (number_of w) ≡ None → table_in (steps_of log) (number_of w) ≡ Some w
link_words before log t w is none =
    ap (λ (l : List (Event _ _ _)). table_in (steps_of l) (number_of w)) is
    ∙ (ap (λ (es : List (Step _ _)). table_in es (number_of w)) (steps-append before (Stepped (steps.Link t w) ∷ []))
    ∙ table_there (steps_of before) (steps.Link t w) w refl none)

-- the setting in which a table comes next, for the keys of a map
module _ {K V S H : Type 0} (eq : K → K → Bool) (input : K → List (List ℕ)) (build : S → H) (write : H → List ℕ → H) (finish : H → ℕ)
    (classes : IsEquivalence eq) (respects : (x y : K) → eq x y ≡ true → input x ≡ input y) (b : Begun K V S) where
  abbrev hash : S → K → ℕ
  hash = hash_of input build write finish

  module _ (log : List (Event K V S)) (l : IsLawfulLog eq hash b log) (w : Where Sheet) where
    hashed : IsHashed (setting_of eq (hash b.hasher) b.mode b.limit log) (coding_of (hash b.hasher))
    hashed = is_hashed eq input build write finish classes respects b log l

    pub with_hashed : IsHashed (setting_with eq (hash b.hasher) b.mode b.limit (names.Table w) log) (coding_of (hash b.hasher))
    with_hashed = joining.with_hashed eq hash b log hashed.lawful w hashed

    pub with_agrees : table_in (steps_of log) (number_of w) ≡ None
        → Agrees (IsOn (state_of log).first (state_of log).next) (setting_of eq (hash b.hasher) b.mode b.limit log)
        (setting_with eq (hash b.hasher) b.mode b.limit (names.Table w) log)
    with_agrees none = joining.with_agrees eq hash b log hashed.lawful w l none

    pub with_allowed : table_in (steps_of log) (number_of w) ≡ None
        → AllAllowed (setting_with eq (hash b.hasher) b.mode b.limit (names.Table w) log) start (exchanges_of log)
    with_allowed none = joining.with_allowed eq hash b log hashed.lawful w l none

    pub with_chunks : (setting_with eq (hash b.hasher) b.mode b.limit (names.Table w) log).chunks (number_of w) ≡ length w.value.done
    with_chunks = joining.with_chunks eq hash b log hashed.lawful w
