-- An exchange that brings in a table preserves the rule: it uses up the pen of the table's seal, so no other table has a word of it.
use Rattle.std.proofs.Common.{◌≡◌, ◌≢◌, ◌⊎◌, inl, inr, ⊎_elim, ℕ, ◌+◌, ◌-◌, ◌<◌, ◌≤◌, ◌==◌, Bool}
use Rattle.std.proofs.Common.{true, false, MatchBool, Option, None, Some, List, [], ◌∷◌, ◌++◌}
use Rattle.std.proofs.Common.{length, slice_get, slice_set, refl, sym, ap, ◌∙◌, subst, arith}
use Rattle.std.proofs.Common.{eq-eqb, length-set}
use Rattle.std.proofs.lemmas.List.{append-nil}
use Rattle.std.proofs.lemmas.Bool.{cond-true}
use mathlib.Core.List.{IsPrefix}
use prog.Atomic.{either}
use Rattle.boxcar.specs.Table.{Where}
use Rattle.logbook.specs.Pages.{Book, Cell, cell, gives, keeps, may_write, nib, step, Goes, Moves}
use Rattle.papaya_call.specs.declared.ask.At.{At}
use Rattle.papaya_call.specs.declared.ask.At.TheVariants.{Root, Next, Aborted, Done, Slot, Made}
use Rattle.papaya_words_law.specs.Allows.{Allows, AllAllowed}
use Rattle.papaya_words_law.specs.Code.{Coding}
use Rattle.papaya_words_law.specs.Exchange.{Setting, State, after, at_put, start}
use Rattle.papaya_words_law.specs.Grows.{AllSized, Entry, IsLawfulPlan, Plan, chunks_in, exchanges, places_in, setting_in, size_in}
use Rattle.papaya_words.specs.declared.resize_mode.ResizeMode.{ResizeMode}
use Rattle.papaya_call_law.specs.TrueAnswers.{IsWritten, word_of}
use Rattle.papaya_words_law.proofs.Logs.{log_grows, lawful_in}
use Rattle.papaya_map_book.specs.declared.rule.entry.Begun.{Begun}
use Rattle.papaya_map_book.specs.declared.rule.entry.Named.{Named}
use Rattle.papaya_map_book.specs.declared.rule.entry.Named.TheVariants as names
use Rattle.papaya_map_book.specs.declared.rule.entry.Step.{Step}
use Rattle.papaya_map_book.specs.declared.rule.entry.Step.TheVariants as steps
use Rattle.papaya_map_book.specs.declared.rule.entry.Event.{Event}
use Rattle.papaya_map_book.specs.declared.rule.entry.Event.TheVariants.{Begin, Stepped}
use Rattle.papaya_map_book.specs.Sheets.{Sheet}
use Rattle.papaya_gate.specs.Paid.{Leaves}
use Rattle.papaya_map_book.specs.Changes.{is_change}
use Rattle.papaya_map_book.specs.Logs.{Stored, brought, coding_of, comes, dealt, entries_of, entry_of}
use Rattle.papaya_map_book.specs.Logs.{exchange_of, exchanges_of, key_at, kind_of, made_of, name_in}
use Rattle.papaya_map_book.specs.Logs.{number_of, or_else, owner, place_of, places_of, plan_of}
use Rattle.papaya_map_book.specs.Logs.{seals_of, setting_of, setting_with, slots_of, state_of, steps_of}
use Rattle.papaya_map_book.specs.Logs.{table_in, word_names}
use Rattle.papaya_map_book.specs.Makers.{Brings, CanBring, IsMade, key_of, table_of}
use Rattle.papaya_map_book.specs.Rows.{row_len}
use Rattle.papaya_map_book.specs.Rule.{IsBlank, AreCodes, IsLawfulLog, IsOfMap, IsPlaced, flag, seal_at, word_in}
use Rattle.papaya_map_book.specs.Offer.{Answered, LeavesRow, Moved}
use Rattle.papaya_map_book.specs.Sheets.{Sheet}
use Rattle.papaya_map_book.proofs.Changes.{changes_left, changes_still, table_quiet}
use Rattle.papaya_map_book.proofs.Cells.{cell_other, cell_same, home_still, same_or_not}
use Rattle.papaya_map_book.proofs.Comes.{IsNew, blank_zero, get_within, no_seal, no_shared, old_or_new}
use Rattle.papaya_map_book.proofs.Comes.{root_or_not, seal_later, table_then, table_there, word_sizes}
use Rattle.papaya_map_book.proofs.Exchanges.{begun_is, found_old, row_stepped}
use Rattle.papaya_map_book.proofs.Grown.{blank_stays, keyless, sized_more}
use Rattle.papaya_map_book.proofs.Joining.{brings_more}
use Rattle.papaya_map_book.proofs.Loads.{key_since, row_still, same_cells, shows}
use Rattle.papaya_map_book.proofs.Logs.{answered_left, entered_last, entries-append, key_later}
use Rattle.papaya_map_book.proofs.Logs.{name-append, name_since, or_nothing, owner_later, prefix_trans}
use Rattle.papaya_map_book.proofs.Logs.{seals-append, state_more, steps-append}
use Rattle.papaya_map_book.proofs.Makers.{map_key, sealed_or_map}
use Rattle.papaya_map_book.proofs.Names.{word_answer}

-- if the first of two options or else the second is none, the first is
or_none : {X : Type 0} (x y : Option X) → or_else x y ≡ None → x ≡ None
or_none None y e = refl
or_none (Some x) y e = absurd (cc e)

-- if a table comes, the exchanged word is the root or the number of a next table
not_counting : {K V : Type 0} (g : Setting K (Stored K V)) (c : Coding K (Stored K V)) (g' : Setting K (Stored K V)) (s : State (Stored K V))
    (e : Step K V) (w : Where Sheet) → comes e ≡ names.Table w → Allows g' s (exchange_of e)
    → ((a : At) → (a ≡ Made → ⊥) → word_of g c (after s (exchange_of e)) a ≡ word_of g c s a) → ⊥
not_counting g c g' s (steps.Open v) w is may same = let z : number_of v ≡ s.root = same Root (λ i. cc i) in let none = may.0 in absurd (omega arith)
not_counting g c g' s (steps.Link t v) w is may same =
    let now : at_put s.next t (number_of v) t ≡ s.next t = same (Next t) (λ i. cc i) in
    let put : at_put s.next t (number_of v) t ≡ number_of v = cond-true (t == t) (number_of v) (s.next t) (eq-eqb t t refl) in
    let none = may.last in absurd (omega arith)
not_counting g c g' s (steps.Claim t x p) w is may same = absurd (cc is)
not_counting g c g' s (steps.Replace t x p q) w is may same = absurd (cc is)
not_counting g c g' s (steps.Bury t x p) w is may same = absurd (cc is)
not_counting g c g' s (steps.Mark t x p) w is may same = absurd (cc is)
not_counting g c g' s (steps.Close t x) w is may same = absurd (cc is)
not_counting g c g' s (steps.Place t x p) w is may same = absurd (cc is)
not_counting g c g' s (steps.Finish t x p) w is may same = absurd (cc is)
not_counting g c g' s (steps.Advance t d) w is may same = absurd (cc is)
not_counting g c g' s (steps.Promote t n) w is may same = absurd (cc is)
not_counting g c g' s (steps.Abort t) w is may same = absurd (cc is)
not_counting g c g' s (steps.Take m) w is may same = absurd (cc is)

-- the words of the map are the root and the one that counts pairs
of_root : (at : At) → IsOfMap at → (at ≡ Made → ⊥) → at ≡ Root
of_root Root of n = refl
of_root Made of n = absurd (n refl)
of_root (Next t) of n = absurd of
of_root (Aborted t) of n = absurd of
of_root (Done t d) of n = absurd of
of_root (Slot t x) of n = absurd of

-- a table whose words were made is made in each longer log
pub made_since : {K V S : Type 0} (sheet : Sheet) (v log : List (Event K V S)) → IsPrefix v log → IsMade sheet v → IsMade sheet log
made_since sheet v log pre m =
    subst (IsMade sheet) pre.1
    (record {
      some_slot = m.some_slot;
      past = m.past;
      sealed = m.sealed;
      owned = λ at k x. ⊎_elim (λ i. inl i) (λ i. inr (owner_later v pre.0 k sheet.seal i)) (m.owned at k x);
      apart = m.apart;
    })

module _ {K V S : Type 0} (eq : K → K → Bool) (hash : S → K → ℕ)
    (plans : (mode : ResizeMode) (most : Option ℕ) (s : S) → IsLawfulPlan (plan_of {V = V} eq (hash s) mode most))
    (cs : List Cell) (log : List (Event K V S)) (h : AreCodes eq hash cs log) (e : Step K V) (w : Where Sheet) (with_it : comes e ≡ names.Table w)
    (at : At) (k new : ℕ) (key : key_at (steps_of log) at ≡ Some k) (some : new ≢ 0)
    (may : Allows (setting_with eq (hash h.begun.hasher) h.begun.mode h.begun.limit (names.Table w) log) (state_of log) (exchange_of e))
    (written : IsWritten (setting_of eq (hash h.begun.hasher) h.begun.mode h.begun.limit log) (coding_of (hash h.begun.hasher)) (state_of log) at new
    (after (state_of log) (exchange_of e)))
    (placed : IsPlaced h.begun (name_in log) (comes e)) (none : table_in (steps_of log) (number_of w) ≡ None) (made : IsMade w.value log)
    (within : w.value.seal < length cs) (away : (cell cs w.value.seal).1 ≡ false) where
  abbrev b : Begun K V S
  b = h.begun

  abbrev es : List (Step K V)
  es = steps_of log

  abbrev log' : List (Event K V S)
  log' = log ++ Stepped e ∷ []

  abbrev s' : State (Stored K V)
  s' = after (state_of log) (exchange_of e)

  abbrev g : Setting K (Stored K V)
  g = setting_of eq (hash b.hasher) b.mode b.limit log

  abbrev c : Coding K (Stored K V)
  c = coding_of (hash b.hasher)

  abbrev plan : Plan K (Stored K V)
  plan = plan_of eq (hash b.hasher) b.mode b.limit

  abbrev cs' : List Cell
  cs' = slice_set (slice_set cs k (new, true)) w.value.seal (0, true)

  steps' : steps_of log' ≡ es ++ e ∷ []
  steps' = steps-append log (Stepped e ∷ [])

  name' : name_in log' ≡ name_in log
  name' = name-append log (Stepped e ∷ []) ∙ or_nothing (name_in log)

  seals' : seals_of log' ≡ seals_of log
  seals' = seals-append log (Stepped e ∷ []) ∙ append-nil (seals_of log)

  word' : (a : At) → word_in eq hash b log' a ≡ word_of g c s' a
  word' a =
      ap (λ (s : State (Stored K V)). word_of (setting_of eq (hash b.hasher) b.mode b.limit log') c s a) (state_more log e)
      ∙ word_sizes plan (size_in (entries_of log')) (size_in (entries_of log)) (places_in (entries_of log')) (places_in (entries_of log))
      (chunks_in (entries_of log')) (chunks_in (entries_of log)) c s' a

  cases : (a : At) (j : ℕ) → key_at (steps_of log') a ≡ Some j → (key_at es a ≡ Some j) ⊎ IsNew es e w with_it a j
  cases a j x = old_or_new es e w with_it a j (ap (λ (l : List (Step K V)). key_at l a) (sym steps') ∙ x)

  old_there : (a : At) (j : ℕ) → key_at es a ≡ Some j → key_at (steps_of log') a ≡ Some j
  old_there a j x = ap (λ (l : List (Step K V)). key_at l a) steps' ∙ key_later es (e ∷ []) a j x

  home_of : (a : At) (j : ℕ) → key_at es a ≡ Some j → (cell cs j).1 ≡ true
  home_of a j x = ap (λ (z : Cell). z.1) (h.coded a j x)

  not_seal : (j : ℕ) → (cell cs j).1 ≡ true → j ≢ w.value.seal
  not_seal j home i = let z = ap (λ (n : ℕ). (cell cs n).1) i in cc (z, home, away)

  -- no word of the table is a word of another one
  unshared : (a a' : At) (j : ℕ) → key_at es a ≡ Some j → key_of w.value a' ≡ Some j → ⊥
  unshared a a' j x y =
      ⊎_elim (λ i. absurd (not_seal j (home_of a j x) i)) (λ o. no_shared eq hash cs log h w.value.seal away a j x (made.past a' j y) o) (made.owned a' j y)

  allowed' : AllAllowed (setting_of eq (hash b.hasher) b.mode b.limit log') start (exchanges_of log')
  allowed' =
      let law = lawful_in plan (plans b.mode b.limit b.hasher) (entries_of log) h.lawful.sized in
      let grown = log_grows plan (entries_of log) (entry_of e) law h.lawful.allowed (brings_more eq hash b log law w h.lawful none e with_it may) in
      subst (λ (l : List (Entry (Stored K V))). AllAllowed (setting_in plan l) start (exchanges l)) (sym (entries-append log (Stepped e ∷ []))) grown

  -- a number that has no table afterwards had none before
  none_before : (t : ℕ) → table_in (steps_of log') t ≡ None → table_in es t ≡ None
  none_before t n = or_none (table_in es t) (or_else (Rattle.std.proofs.Common.cond (number_of w == t) (Some w) None) None)
      (sym (table_then es e w with_it t) ∙ (ap (λ (l : List (Step K V)). table_in l t) (sym steps') ∙ n))

  -- the word that is exchanged does not count pairs
  not_made : at ≡ Made → ⊥
  not_made i = not_counting g c (setting_with eq (hash b.hasher) b.mode b.limit (names.Table w) log) (state_of log) e w with_it may
      (λ a n. written.others a (λ x. n (x ∙ i)))

  unopened' : (state_of log').root ≡ 0 → (t : ℕ) → table_in (steps_of log') t ≡ None
  unopened' r t =
      let root : s'.root ≡ 0 = ap (λ (s : State (Stored K V)). s.root) (sym (state_more log e)) ∙ r in
      ⊎_elim
      (λ i. let z : word_of g c s' Root ≡ new = ap (word_of g c s') (sym i) ∙ written.here in absurd (some (sym z ∙ root)))
      (λ n.
      let before : (state_of log).root ≡ 0 = sym (written.others Root (λ i. n (sym i))) ∙ root in
      let all = h.lawful.unopened before in
      ⊎_elim
      (λ i. absurd (n (of_root at i not_made)))
      (λ i. let gone : seal_at es at ≡ None = no_seal es at (all (table_of at)) in let there = i.1 in absurd (cc (gone, there)))
      (sealed_or_map es at k key))
      (root_or_not at)

  apart' : (a a' : At) (j : ℕ) → key_at (steps_of log') a ≡ Some j → key_at (steps_of log') a' ≡ Some j → a ≡ a'
  apart' a a' j x y =
      ⊎_elim
      (λ i. ⊎_elim (λ i'. h.lawful.apart a a' j i i') (λ n. absurd (unshared a a' j i n.key)) (cases a' j y))
      (λ n. ⊎_elim (λ i'. absurd (unshared a' a j i' n.key)) (λ n'. made.apart a a' j (n.is_table ∙ sym n'.is_table) n.key n'.key) (cases a' j y))
      (cases a j x)

  pub lawful_brought : IsLawfulLog eq hash b log'
  lawful_brought = record {
    rest = h.lawful.rest ++ Stepped e ∷ [];
    is = ap (λ (z : List (Event K V S)). z ++ Stepped e ∷ []) h.lawful.is;
    allowed = allowed';
    sized = subst AllSized (sym (entries-append log (Stepped e ∷ [])))
        (sized_more (entries_of log) (entry_of e) h.lawful.sized
        (λ n x. (
          let p = made.some_slot in subst (λ (m : Named K V). 0 < slots_of m) (sym with_it) p,
          subst (λ (m : Named K V). 0 < places_of m)
              (sym with_it) (omega arith),
        )));
    placed = λ n x. subst (λ (o : Option Book). IsPlaced b o n) (sym name')
        (⊎_elim (λ i. h.lawful.placed n i) (λ i. subst (IsPlaced b (name_in log)) i placed) (entered_last n log (Stepped e) x));
    blank = λ t n.
        let before = none_before t n in
        subst (λ (s : State (Stored K V)). IsBlank s t) (sym (state_more log e))
        (blank_stays g c (state_of log) s' t (λ a of_t.
        written.others a (λ same. let gone : key_at es a ≡ None = keyless es t a of_t before in
        let there : key_at es a ≡ Some k = ap (key_at es) same ∙ key in cc (gone, there))) (h.lawful.blank t before));
    unopened = unopened';
    apart = apart';
  }

  not_maker : (a : At) (j : ℕ) → key_at es a ≡ Some j → 1 ≢ j
  not_maker a j x i = ⊎_elim (λ r. (map_key es a j r x).0 (sym i)) (λ t. absurd (omega arith)) (h.counted a j x).1

  -- a word that was dealt for the table is one of the row
  of_row : (j : ℕ) → owner j log ≡ Some w.value.seal → j < 3 + row_len
  of_row j o = let l : j - 3 < length (seals_of log) = get_within (seals_of log) (j - 3) w.value.seal o in let m = h.room in omega arith

  at_k : k < length cs
  at_k = (h.counted at k key).0

  past_seal : w.value.seal < length (slice_set cs k (new, true))
  past_seal = let n = length-set cs k (new, true) in omega arith

  -- a word that came before
  coded_old : (a : At) (j : ℕ) → key_at es a ≡ Some j → cell cs' j ≡ (word_in eq hash b log' a, true)
  coded_old a j x =
      cell_other (slice_set cs k (new, true)) w.value.seal j (0, true) (not_seal j (home_of a j x))
      ∙ ⊎_elim
      (λ i.
      let here : a ≡ at = h.lawful.apart a at k (x ∙ ap (λ (m : ℕ). Some m) i) key in
      let is : word_in eq hash b log' a ≡ new = ap (λ (z : At). word_in eq hash b log' z) here ∙ (word' at ∙ written.here) in
      ap (cell (slice_set cs k (new, true))) i ∙ (cell_same cs k (new, true) at_k ∙ ap (λ (n : ℕ). (n, true)) (sym is)))
      (λ n.
      let other : a ≡ at → ⊥ = λ same. let y : Some j ≡ Some k = sym x ∙ (ap (key_at es) same ∙ key) in n (cc y) in
      cell_other cs k j (new, true) n ∙ (h.coded a j x ∙ ap (λ (n : ℕ). (n, true)) (sym (word' a ∙ written.others a other))))
      (same_or_not j k (j == k) refl)

  keyless_new : (a : At) (j : ℕ) → IsNew es e w with_it a j → key_at es a ≡ Some k → ⊥
  keyless_new a j n x = ⊎_elim (λ r. n.not_map r) (λ s. let gone : seal_at es a ≡ None = no_seal es a n.none in let there = s.1 in cc (gone, there))
      (sealed_or_map es a k x)

  -- a word of the table that came is 0
  coded_new : (a : At) (j : ℕ) → IsNew es e w with_it a j → cell cs' j ≡ (word_in eq hash b log' a, true)
  coded_new a j n =
      let other : a ≡ at → ⊥ = λ same. keyless_new a j n (ap (key_at es) same ∙ key) in
      let zero : word_in eq hash b log' a ≡ 0 = word' a
      ∙ (written.others a other ∙ blank_zero g c (state_of log) a n.not_map (h.lawful.blank (table_of a) n.none)) in
      let value : (0, true) ≡ (word_in eq hash b log' a, true) = ap (λ (m : ℕ). (m, true)) (sym zero) in
      ⊎_elim
      (λ i. ap (cell cs') i ∙ (cell_same (slice_set cs k (new, true)) w.value.seal (0, true) past_seal ∙ value))
      (λ i.
      ⊎_elim
      (λ is. absurd (i is))
      (λ m.
      let home = h.homes j (of_row j m) in
      let blank : (cell cs j).0 ≡ 0 = h.fresh j (made.past a j n.key) home (λ a' x. unshared a' a j x n.key) in
      let not_k : j ≢ k = λ same. unshared at a j (key ∙ ap (λ (m : ℕ). Some m) (sym same)) n.key in
      cell_other (slice_set cs k (new, true)) w.value.seal j (0, true) i ∙ (cell_other cs k j (new, true) not_k ∙ ((λ i. (blank i, home i)) ∙ value)))
      (made.owned a j n.key))
      (same_or_not j w.value.seal (j == w.value.seal) refl)

  pub kept_brought : AreCodes eq hash cs' log'
  kept_brought =
      let long : length cs' ≡ length cs = length-set (slice_set cs k (new, true)) w.value.seal (0, true) ∙ length-set cs k (new, true) in
      let many = h.many in record {
        begun = b;
        lawful = lawful_brought;
        many = omega arith;
        homes = λ j l. home_still (slice_set cs k (new, true)) w.value.seal j 0 past_seal (home_still cs k j new at_k (h.homes j l));
        maker = cell_other (slice_set cs k (new, true)) w.value.seal 1 (0, true) (not_seal 1 (ap (λ (z : Cell). z.1) h.maker))
            ∙ (cell_other cs k 1 (new, true) (not_maker at k key) ∙ (h.maker ∙ (λ i. (flag (sym name' i) + length (sym seals' i), true))));
        room = subst (λ (z : List ℕ). length z ≤ row_len) (sym seals') h.room;
        coded = λ a j x. ⊎_elim (λ i. coded_old a j i) (λ n. coded_new a j n) (cases a j x);
        counted = λ a j x.
            ⊎_elim
            (λ i. let z = h.counted a j i in (let y = z.0 in omega arith, z.1))
            (λ n. let p = made.past a j n.key in (
              ⊎_elim
                  (λ i. let l : w.value.seal < length cs' = omega arith in subst (λ (m : ℕ). m < length cs') (sym i) l)
                  (λ o. let l = of_row j o in omega arith) (made.owned a j n.key),
              inr p,
            ))
            (cases a j x);
        owned = λ a j x.
            ⊎_elim
            (λ i.
            ⊎_elim
            (λ r. inl r)
            (λ u.
            ⊎_elim
            (λ s. inr (inl (ap (λ (l : List (Step K V)). seal_at l a) steps' ∙ seal_later es e w with_it a j s.0, s.1)))
            (λ o.
            ⊎_elim
            (λ r. inl r)
            (λ s. inr (inr (owner_later log (Stepped e ∷ []) j s.0 (o ∙ s.1)
            ∙ sym (ap (λ (l : List (Step K V)). seal_at l a) steps' ∙ seal_later es e w with_it a s.0 s.1))))
            (sealed_or_map es a j i))
            u)
            (h.owned a j i))
            (λ n.
            let seal : seal_at (steps_of log') a ≡ Some w.value.seal = ap (λ (l : List (Step K V)). seal_at l a) steps' ∙ n.seal in
            ⊎_elim
            (λ i. inr (inl (seal ∙ ap (λ (m : ℕ). Some m) (sym i), subst (λ (m : ℕ). 3 + row_len ≤ m) (sym i) made.sealed)))
            (λ o. inr (inr (owner_later log (Stepped e ∷ []) j w.value.seal o ∙ sym seal)))
            (made.owned a j n.key))
            (cases a j x);
        fresh = λ j two home out.
            let not_k : j ≢ k = λ i. out at (old_there at j (key ∙ ap (λ (m : ℕ). Some m) (sym i))) in
            let seal_there : key_at (steps_of log') (Aborted (number_of w)) ≡ Some w.value.seal = ap
            (λ (l : List (Step K V)). key_at l (Aborted (number_of w))) steps'
            ∙ ap (Rattle.papaya_map_book.specs.Logs.in_table (λ s. Some s.seal)) (table_there es e w with_it none) in
            let not_the_seal : j ≢ w.value.seal = λ i. out (Aborted (number_of w)) (seal_there ∙ ap (λ (m : ℕ). Some m) (sym i)) in
            let same : cell cs' j ≡ cell cs j = cell_other (slice_set cs k (new, true)) w.value.seal j (0, true) not_the_seal
            ∙ cell_other cs k j (new, true) not_k in
            ap (λ (z : Cell). z.0) same ∙ h.fresh j two (sym (ap (λ (z : Cell). z.1) same) ∙ home) (λ a x. out a (old_there a j x));
      }

module _ {K V S : Type 0} (eq : K → K → Bool) (hash : S → K → ℕ)
    (plans : (mode : ResizeMode) (most : Option ℕ) (s : S) → IsLawfulPlan (plan_of {V = V} eq (hash s) mode most))
    (b : Begun K V S) (v : List (Event K V S)) (ask : Event K V S) (w : Where Sheet) (k old new : ℕ) (leaves : LeavesRow ask)
    (key : key_at (steps_of v) (place_of ask) ≡ Some k) (began : IsPrefix (Begin b ∷ []) v)
    (with_it : brought ask ≡ names.Table w) (some : new ≢ 0) (name : Book) (named : name_in v ≡ Some name)
    (placed : IsPlaced b (Some name) (names.Table w)) (made : IsMade w.value v)
    (can : CanBring eq hash b (place_of ask) (kind_of ask) old new (made_of ask) w v) where
  brings_goes : (cs : List Cell) (log : List (Event K V S)) (h : AreCodes eq hash cs log) → IsPrefix v log → h.begun ≡ b → w.value.seal < length cs
      → (cell cs w.value.seal).1 ≡ false → (t : Bool) → ((cell cs k).0 == old) ≡ t
      → Goes (AreCodes eq hash) shows (Leaves is_change (Moved ask)) k (v, (nib may_write w.value.seal 0, None)) (λ n. either (n == old) new n)
      (Brings eq hash (step k old new ask) (v, (nib may_write w.value.seal 0, None))) cs log
  brings_goes cs log h pre same within away true is =
      let at = place_of ask in
      let names_it = word_names (steps_of log) (state_of log) at in
      let key' = key_since v log at k pre key in
      let stands : word_in eq hash h.begun log at ≡ (cell cs k).0 = sym (ap (λ (c : Cell). c.0) (h.coded at k key')) in
      let can' : CanBring eq hash h.begun at (kind_of ask) old new (made_of ask) w
      v = subst (λ (d : Begun K V S). CanBring eq hash d at (kind_of ask) old new (made_of ask) w v) (sym same) can in
      let m = can' log pre h.lawful (stands ∙ found_old (cell cs k).0 old is) in
      let e : Step K V = m.0.step in
      let named' : name_in log ≡ Some name = name_since v log name pre named in
      let placed' : IsPlaced h.begun (name_in log) (comes e) = subst (λ (z : Begun K V S × Option Book × Named K V). IsPlaced z.0 z.1 z.2)
      (λ i. (sym same i, sym named' i, sym m.0.meant.with_it i)) placed in
      let told : Answered log names_it = word_answer (setting_of eq (hash h.begun.hasher) h.begun.mode h.begun.limit log) log h.lawful.allowed at in
      let made' = made_since w.value v log pre made in
      let more = kept_brought eq hash plans cs log h e w m.0.meant.with_it at k new key' some m.0.allowed m.0.written placed' m.1 made' within away in (
        gives,
        Stepped e ∷ [],
        Some names_it,
        refl,
        rw is more,
        inr (
          names_it,
          refl,
          refl,
          (
            (inr (Stepped e, m.0.meant.with_it ∙ sym with_it, refl), answered_left names_it log (Stepped e ∷ []) told, row_stepped ask log e leaves),
            changes_still log (Stepped e) (table_quiet e w m.0.meant.with_it),
          ),
        ),
        (
          record {
            before = log;
            since = pre;
            begun = h.begun;
            lawful = h.lawful;
            now = lawful_brought eq hash plans cs log h e w m.0.meant.with_it at k new key' some m.0.allowed m.0.written placed' m.1 made' within away;
            is = stands;
            state_is = refl;
            after = rw is (e, record { asked = m.0.meant.asked; with_it = m.0.meant.with_it ∙ sym with_it }, refl);
          },
          rw is refl,
        ),
      )
  brings_goes cs log h pre same within away false is =
      let at = place_of ask in
      let names_it = word_names (steps_of log) (state_of log) at in
      let key' = key_since v log at k pre key in
      let stands = h.coded at k key' in
      let home : (cell cs k).1 ≡ true = ap (λ (c : Cell). c.1) stands in
      let nil : log ++ [] ≡ log = append-nil log in
      let told : Answered log names_it = word_answer (setting_of eq (hash h.begun.hasher) h.begun.mode h.begun.limit log) log h.lawful.allowed at in (
        keeps,
        [],
        Some names_it,
        tt,
        rw is (subst (λ (z : List Cell × List (Event K V S)). AreCodes eq hash z.0 z.1) (λ i. (sym (same_cells cs k home) i, sym nil i)) h),
        inr (
          names_it,
          refl,
          refl,
          ((inl nil, subst (λ (l : List (Event K V S)). Answered l names_it) (sym nil) told, row_still ask log leaves), changes_left log [] refl),
        ),
        (
          record {
            before = log;
            since = pre;
            begun = h.begun;
            lawful = h.lawful;
            now = subst (λ (l : List (Event K V S)). IsLawfulLog eq hash h.begun l) (sym nil) h.lawful;
            is = sym (ap (λ (c : Cell). c.0) stands);
            state_is = refl;
            after = rw is nil;
          },
          rw is refl,
        ),
      )

  pub brings_moves : Moves (AreCodes eq hash) shows (Leaves is_change (Moved ask)) k (v, (nib may_write w.value.seal 0, None)) (λ n. either (n == old) new n)
      (Brings eq hash (step k old new ask) (v, (nib may_write w.value.seal 0, None)))
  brings_moves cs log h pre away =
      let key' = key_since v log (place_of ask) k pre key in
      let began' : IsPrefix (Begin b ∷ []) log = prefix_trans (Begin b ∷ []) v log began pre in
      let a = away refl in (
        (h.counted (place_of ask) k key').0,
        ap (λ (c : Cell). c.1) (h.coded (place_of ask) k key'),
        brings_goes cs log h pre
            (begun_is eq hash plans b h.begun log began' h.lawful) a.0 a.1 ((cell cs k).0 == old) refl,
      )
