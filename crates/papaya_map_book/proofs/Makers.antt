-- Steps on the makers' word preserve the rule: a seal is added and words are dealt for it, or the
-- book is named.
use Rattle.std.proofs.Common.{◌≡◌, ◌≢◌, ◌⊎◌, inl, inr, ⊎_elim, ℕ, ◌+◌, ◌-◌, ◌<◌, ◌≤◌, ◌==◌, Bool}
use Rattle.std.proofs.Common.{true, false, Option, None, Some, List, [], ◌∷◌, ◌++◌, length, map}
use Rattle.std.proofs.Common.{replicate, slice_set, slice_get, zero, suc, refl, sym, ap, ◌∙◌, subst}
use Rattle.std.proofs.Common.{arith, length-append, length-set}
use Rattle.std.proofs.lemmas.List.{append-nil, length-replicate}
use mathlib.Core.List.{IsPrefix}
use Rattle.std.proofs.lemmas.Bool.Decides.{leb_tells, nat_tests}
use prog.Atomic.{either}
use Rattle.logbook.specs.Pages.{Book, Cell, adds, cell, keeps, no_nib, step, Goes, Moves}
use Rattle.papaya_call.specs.declared.ask.At.{At}
use Rattle.papaya_call.specs.declared.ask.At.TheVariants.{Root, Next, Aborted, Done, Slot, Made}
use Rattle.papaya_words_law.specs.Allows.{AllAllowed}
use Rattle.papaya_words_law.specs.Exchange.{start}
use Rattle.papaya_words_law.specs.Grows.{AllSized, exchanges, setting_in}
use Rattle.papaya_map_book.specs.Sheets.{Sheet}
use Rattle.boxcar.specs.Table.{Where}
use Rattle.papaya_map_book.specs.declared.rule.entry.Begun.{Begun}
use Rattle.papaya_map_book.specs.declared.rule.entry.Named.{Named}
use Rattle.papaya_map_book.specs.declared.rule.entry.Named.TheVariants as names
use Rattle.papaya_map_book.specs.declared.rule.entry.Step.{Step}
use Rattle.papaya_map_book.specs.declared.rule.entry.Event.{Event}
use Rattle.papaya_map_book.specs.declared.rule.entry.Event.TheVariants.{Called, Dealt, Draw}
use Rattle.papaya_gate.specs.Paid.{Leaves}
use Rattle.papaya_map_book.specs.Changes.{is_change}
use Rattle.papaya_map_book.specs.Logs.{Stored, Entered, brought, dealt, entry_of, in_table, key_at}
use Rattle.papaya_map_book.specs.Logs.{name_in, name_of, or_else, owner, plan_of, seals_of, step_of}
use Rattle.papaya_map_book.specs.Logs.{steps_of, table_in}
use Rattle.papaya_map_book.specs.Makers.{AreDealt, Calls, Deals}
use Rattle.papaya_map_book.specs.Rows.{row_len}
use Rattle.papaya_map_book.specs.Rule.{IsBlank, AreCodes, IsLawfulLog, IsOfMap, IsPlaced, IsSealOf, flag, seal_at, word_in}
use Rattle.papaya_map_book.specs.Offer.{Moved}
use Rattle.papaya_map_book.proofs.Changes.{changes_still}
use Rattle.papaya_map_book.proofs.Cells.{cell_left, cell_other, cell_past, cell_same, home_still}
use Rattle.papaya_map_book.proofs.Loads.{same_cells, shows}
use Rattle.papaya_map_book.proofs.Logs.{entered_last, get_right, name-append, name_later, name_since, or_nothing, owner_later, seals-append, steps_same}

-- a word of a table has the table's seal
with_seal : (f : Sheet → Option ℕ) (o : Option (Where Sheet)) (k : ℕ) → in_table f o ≡ Some k → (seal : ℕ) × (in_table (λ s. Some s.seal) o ≡ Some seal)
with_seal f None k e = absurd (cc e)
with_seal f (Some w) k e = (w.value.seal, refl)

-- a word that has a key is of the map, or it is of a table
pub sealed_or_map : {K V : Type 0} (es : List (Step K V)) (at : At) (k : ℕ) → key_at es at ≡ Some k → IsOfMap at ⊎ ((seal : ℕ) × (seal_at es at ≡ Some seal))
sealed_or_map es Root k e = inl tt
sealed_or_map es Made k e = inl tt
sealed_or_map es (Next t) k e = inr (with_seal (λ s. Some s.next) (table_in es t) k e)
sealed_or_map es (Aborted t) k e = inr (with_seal (λ s. Some s.seal) (table_in es t) k e)
sealed_or_map es (Done t c) k e = inr (with_seal (λ s. slice_get s.done c) (table_in es t) k e)
sealed_or_map es (Slot t x) k e = inr (with_seal (λ s. slice_get s.slots x) (table_in es t) k e)

-- the words of the map have keys below those of all tables, and the makers' word is none of them
pub map_key : {K V : Type 0} (es : List (Step K V)) (at : At) (k : ℕ) → IsOfMap at → key_at es at ≡ Some k → (k ≢ 1) × (k < 3)
map_key es Root k of e = let z : 0 ≡ k = cc e in ((λ i. omega arith), omega arith)
map_key es Made k of e = let z : 2 ≡ k = cc e in ((λ i. omega arith), omega arith)
map_key es (Next t) k of e = absurd of
map_key es (Aborted t) k of e = absurd of
map_key es (Done t c) k of e = absurd of
map_key es (Slot t x) k of e = absurd of

-- a pair or table that is placed stays so if the book's name stays
pub placed_named : {K V S : Type 0} (b : Begun K V S) (o o' : Option Book) → ((name : Book) → o ≡ Some name → o' ≡ Some name) → (n : Named K V)
    → IsPlaced b o n → IsPlaced b o' n
placed_named b o o' h names.Nothing p = tt
placed_named b o o' h (names.Pair q) p = p
placed_named b o o' h (names.Table w) p = (p.0, p.1, h w.value.book p.2)

-- the makers' word is 0 while the book has no name
no_flag : (o : Option Book) (n : ℕ) → flag o + n ≡ 0 → (o ≡ None) × (n ≡ 0)
no_flag None n e = (refl, omega arith)
no_flag (Some b) n e = absurd (omega arith)

-- each element of a list of one number
each_same : (n x i : ℕ) → i < n → slice_get (replicate n x) i ≡ Some x
each_same zero x i l = absurd (omega arith)
each_same (suc n) x zero l = refl
each_same (suc n) x (suc i) l = each_same n x i (omega arith)

module _ {K V S : Type 0} (eq : K → K → Bool) (hash : S → K → ℕ) where
  -- an entry that is no exchange and brings nothing keeps the log lawful
  pub lawful_still : (b : Begun K V S) (log : List (Event K V S)) (e : Event K V S) → step_of e ≡ [] → brought e ≡ names.Nothing
      → IsLawfulLog eq hash b log → IsLawfulLog eq hash b (log ++ e ∷ [])
  lawful_still b log e no_step nothing l =
      let plan = plan_of {V = V} eq (hash b.hasher) b.mode b.limit in
      let same : steps_of log ≡ steps_of (log ++ e ∷ []) = sym (steps_same log e no_step) in record {
        rest = l.rest ++ e ∷ [];
        is = ap (λ (z : List (Event K V S)). z ++ e ∷ []) l.is;
        allowed = subst (λ (es : List (Step K V)). AllAllowed (setting_in plan (map entry_of es)) start (exchanges (map entry_of es))) same l.allowed;
        sized = subst (λ (es : List (Step K V)). AllSized (map entry_of es)) same l.sized;
        placed = λ n h.
            ⊎_elim
            (λ i. placed_named b (name_in log) (name_in (log ++ e ∷ [])) (name_later log (e ∷ [])) n (l.placed n i))
            (λ i. subst (IsPlaced b (name_in (log ++ e ∷ []))) (sym nothing ∙ i) tt)
            (entered_last n log e h);
        blank = subst (λ (es : List (Step K V)). (t : ℕ) → table_in es t ≡ None
            → IsBlank (Rattle.papaya_words_law.specs.Exchange.run (exchanges (map entry_of es)) start) t) same l.blank;
        unopened = subst (λ (es : List (Step K V)). (Rattle.papaya_words_law.specs.Exchange.run (exchanges (map entry_of es)) start).root ≡ 0 → (t : ℕ)
            → table_in es t ≡ None) same l.unopened;
        apart = subst (λ (es : List (Step K V)). (at at' : At) (k : ℕ) → key_at es at ≡ Some k → key_at es at' ≡ Some k → at ≡ at') same l.apart;
      }

  module _ (cs cs' : List Cell) (log : List (Event K V S)) (h : AreCodes eq hash cs log) (e : Event K V S) (no_step : step_of e ≡ [])
      (nothing : brought e ≡ names.Nothing) where
    abbrev log' : List (Event K V S)
    log' = log ++ e ∷ []

    same_steps : steps_of log' ≡ steps_of log
    same_steps = steps_same log e no_step

    old_key : (at : At) (k : ℕ) → key_at (steps_of log') at ≡ Some k → key_at (steps_of log) at ≡ Some k
    old_key at k x = ap (λ (es : List (Step K V)). key_at es at) (sym same_steps) ∙ x

    same_word : (at : At) → word_in eq hash h.begun log' at ≡ word_in eq hash h.begun log at
    same_word at =
        let plan = plan_of {V = V} eq (hash h.begun.hasher) h.begun.mode h.begun.limit in
        ap (λ (es : List (Step K V)). Rattle.papaya_call_law.specs.TrueAnswers.word_of (setting_in plan (map entry_of es))
        (Rattle.papaya_map_book.specs.Logs.coding_of (hash h.begun.hasher)) (Rattle.papaya_words_law.specs.Exchange.run (exchanges (map entry_of es)) start)
        at) same_steps

    owned_still : (at : At) (k : ℕ) → key_at (steps_of log) at ≡ Some k → IsOfMap at
        ⊎ (IsSealOf k (seal_at (steps_of log') at) ⊎ (owner k log' ≡ seal_at (steps_of log') at))
    owned_still at k x =
        ⊎_elim
        (λ i. inl i)
        (λ i. ⊎_elim
        (λ s. inr (inl (ap (λ (es : List (Step K V)). seal_at es at) same_steps ∙ s.0, s.1)))
        (λ o. ⊎_elim
        (λ j. inl j)
        (λ j. inr (inr (owner_later log (e ∷ []) k j.0 (o ∙ j.1) ∙ sym (ap (λ (es : List (Step K V)). seal_at es at) same_steps ∙ j.1))))
        (sealed_or_map (steps_of log) at k x))
        i)
        (h.owned at k x)

    -- the rule is preserved if the words that have a key stay
    pub kept_still : length cs ≤ length cs' → cell cs' 1 ≡ (flag (name_in log') + dealt log', true) → dealt log' ≤ row_len
        → ((k : ℕ) (at : At) → key_at (steps_of log) at ≡ Some k → cell cs' k ≡ cell cs k)
        → ((k : ℕ) → k < 3 + row_len → (cell cs' k).1 ≡ true)
        → ((k : ℕ) → 3 ≤ k → (cell cs' k).1 ≡ true → (cell cs' k ≡ cell cs k) ⊎ ((cell cs' k).0 ≡ 0))
        → AreCodes eq hash cs' log'
    kept_still long maker room same homes fresh = record {
      begun = h.begun;
      lawful = lawful_still h.begun log e no_step nothing h.lawful;
      many = let m = h.many in omega arith;
      homes = homes;
      maker = maker;
      room = room;
      coded = λ at k x. same k at (old_key at k x) ∙ (h.coded at k (old_key at k x) ∙ ap (λ (n : ℕ). (n, true)) (sym (same_word at)));
      counted = λ at k x. let z = h.counted at k (old_key at k x) in (let y = z.0 in omega arith, z.1);
      owned = λ at k x. owned_still at k (old_key at k x);
      fresh = λ k two home out.
          ⊎_elim
          (λ i. ap (λ (c : Cell). c.0) i ∙ h.fresh k two (sym (ap (λ (c : Cell). c.1) i) ∙ home)
          (λ at x. out at (ap (λ (es : List (Step K V)). key_at es at) same_steps ∙ x)))
          (λ i. i)
          (fresh k two home);
    }

  -- the makers' word is no word of a table, and the root's is another
  not_maker : (cs : List Cell) (log : List (Event K V S)) (h : AreCodes eq hash cs log) (at : At) (k : ℕ) → key_at (steps_of log) at ≡ Some k → k ≢ 1
  not_maker cs log h at k x i =
      ⊎_elim (λ r. (map_key (steps_of log) at k r x).0 i) (λ t. absurd (omega arith)) (h.counted at k x).1

  module _ (cs : List Cell) (log : List (Event K V S)) (h : AreCodes eq hash cs log) where
    at_least_three : 3 ≤ length cs
    at_least_three = let m = h.many in omega arith

    -- how many words were dealt after this many more
    dealt_more : (seal count : ℕ) → dealt (log ++ Dealt seal count ∷ []) ≡ dealt log + count
    dealt_more seal count =
        let one : replicate count seal ++ [] ≡ replicate count seal = append-nil (replicate count seal) in
        ap (λ (l : List ℕ). length l) (seals-append log (Dealt seal count ∷ []))
        ∙ (length-append (seals_of log) (replicate count seal ++ [])
        ∙ ap (λ (n : ℕ). dealt log + n) (ap (λ (l : List ℕ). length l) one ∙ length-replicate count seal))

    -- a seal is added, and words are dealt for it
    pub kept_dealt : (seal count new : ℕ) → new ≡ flag (name_in log) + (dealt log + count) → dealt log + count ≤ row_len
        → AreCodes eq hash (slice_set cs 1 (new, true) ++ (0, false) ∷ []) (log ++ Dealt seal count ∷ [])
    kept_dealt seal count new is room =
        let made = slice_set cs 1 (new, true) in let cs' = made ++ (0, false) ∷ [] in let log' = log ++ Dealt seal count ∷ [] in
        let within : 1 < length cs = let l = at_least_three in omega arith in
        let same_long : length made ≡ length cs = length-set cs 1 (new, true) in
        let longer : length cs' ≡ length made + 1 = length-append made ((0, false) ∷ []) in
        let more : dealt log' ≡ dealt log + count = dealt_more seal count in
        let name : name_in log' ≡ name_in log = name-append log (Dealt seal count ∷ []) ∙ or_nothing (name_in log) in
        let word : new ≡ flag (name_in log') + dealt log' = is ∙ (λ i. flag (sym name i) + sym more i) in
        let old : (k : ℕ) → k ≢ 1 → k < length cs → cell cs' k ≡ cell cs k = λ k n l. cell_left made k (omega arith) ∙ cell_other cs 1 k (new, true) n in
        kept_still cs cs' log h (Dealt seal count) refl refl (omega arith)
        (cell_left made 1 (omega arith) ∙ (cell_same cs 1 (new, true) within ∙ ap (λ (n : ℕ). (n, true)) word))
        (omega arith)
        (λ k at x. old k (not_maker cs log h at k x) (h.counted at k x).0)
        (λ k l. let m = h.many in ap (λ (c : Cell). c.1) (cell_left made k (omega arith)) ∙ home_still cs 1 k new within (h.homes k l))
        (λ k three home. ⊎_elim (λ past. inr (ap (λ (c : Cell). c.0) (cell_past made k (omega arith))))
        (λ l. inl (old k (λ i. absurd (omega arith)) l.1)) (leb_tells (length cs) k))

    -- the words that were dealt are the next ones of the row
    pub words_dealt : (seal count : ℕ) → 3 + row_len ≤ seal → dealt log + count ≤ row_len → AreDealt (3 + dealt log) count seal (log ++ Dealt seal count ∷ [])
    words_dealt seal count sealed room = record {
      past = omega arith;
      within = omega arith;
      sealed = sealed;
      owned = λ i l.
          let place : 3 + dealt log + i - 3 ≡ dealt log + i = omega arith in
          let last : seals_of (log ++ Dealt seal count ∷ []) ≡ seals_of log ++ replicate count seal = seals-append log (Dealt seal count ∷ [])
          ∙ ap (λ (z : List ℕ). seals_of log ++ z) (append-nil (replicate count seal)) in
          (λ j. slice_get (last j) (place j)) ∙ (get_right (seals_of log) (replicate count seal) i ∙ each_same count seal i l);
    }

    -- the book is named
    pub kept_called : (name : Book) → (cell cs 1).0 ≡ 0 → AreCodes eq hash (slice_set cs 1 (1, true)) (log ++ Called name ∷ [])
        × (name_in (log ++ Called name ∷ []) ≡ Some name) × (dealt (log ++ Called name ∷ []) ≡ 0)
    kept_called name none =
        let cs' = slice_set cs 1 (1, true) in let log' = log ++ Called name ∷ [] in
        let within : 1 < length cs = let l = at_least_three in omega arith in
        let long : length cs' ≡ length cs = length-set cs 1 (1, true) in
        let seals : seals_of log' ≡ seals_of log = seals-append log (Called name ∷ []) ∙ append-nil (seals_of log) in
        let first = no_flag (name_in log) (dealt log) (sym (ap (λ (c : Cell). c.0) h.maker) ∙ none) in
        let named : name_in log' ≡ Some name = name-append log (Called name ∷ []) ∙ ap (λ (o : Option Book). or_else o (Some name)) first.0 in
        let undealt : dealt log' ≡ 0 = ap (λ (l : List ℕ). length l) seals ∙ first.1 in
        let word : 1 ≡ flag (name_in log') + dealt log' = λ i. flag (sym named i) + sym undealt i in (
          kept_still cs cs' log h (Called name) refl refl (omega arith)
              (cell_same cs 1 (1, true) within ∙ ap (λ (n : ℕ). (n, true)) word)
              (omega arith)
              (λ j at x. cell_other cs 1 j (1, true) (not_maker cs log h at j x))
              (λ j l. home_still cs 1 j 1 within (h.homes j l))
              (λ j three home. inl (cell_other cs 1 j (1, true) (λ i. absurd (omega arith)))),
          named,
          undealt,
        )

  maker_home : (cs : List Cell) (log : List (Event K V S)) → AreCodes eq hash cs log → (1 < length cs) × ((cell cs 1).1 ≡ true)
  maker_home cs log h = (let l = at_least_three cs log h in omega arith, ap (λ (c : Cell). c.1) h.maker)

  -- the book is unchanged if the expected value of the makers' word is not there
  left_so : (cs : List Cell) (log : List (Event K V S)) → AreCodes eq hash cs log → AreCodes eq hash (slice_set cs 1 ((cell cs 1).0, true)) (log ++ [])
  left_so cs log h = subst (λ (z : List Cell × List (Event K V S)). AreCodes eq hash z.0 z.1)
      (λ i. (sym (same_cells cs 1 (ap (λ (c : Cell). c.1) h.maker)) i, sym (append-nil log) i)) h

  -- the preconditions of drawing words, and the change of the makers' word
  module _ (v : List (Event K V S)) (name : Book) (named : name_in v ≡ Some name) (old count : ℕ) (room : old + count ≤ 1 + row_len) where
    abbrev ask : Event K V S
    ask = Draw name (old + 2) count

    deals_goes : (cs : List Cell) (log : List (Event K V S)) → AreCodes eq hash cs log → IsPrefix v log → (t : Bool) → ((cell cs 1).0 == old) ≡ t
        → Goes (AreCodes eq hash) shows (Leaves is_change (Moved ask)) 1 (v, (no_nib, None)) (λ n. either (n == old) (old + count) n)
        (Deals (step 1 old (old + count) ask) (v, (no_nib, None))) cs log
    deals_goes cs log h pre true is =
        let seal = length cs in
        let found : (cell cs 1).0 ≡ old = grind (arith, nat_tests) in
        let called : name_in log ≡ Some name = name_since v log name pre named in
        let word : old ≡ 1 + dealt log = sym found ∙ (ap (λ (c : Cell). c.0) h.maker ∙ ap (λ (o : Option Book). flag o + dealt log) called) in
        let first : old + 2 ≡ 3 + dealt log = omega arith in
        let fits : dealt log + count ≤ row_len = omega arith in
        let new : old + count ≡ flag (name_in log) + (dealt log + count) = (let z : old + count ≡ 1 + (dealt log + count) = omega arith in z)
        ∙ ap (λ (o : Option Book). flag o + (dealt log + count)) (sym called) in
        let called' : name_in (log ++ Dealt seal count ∷ []) ≡ Some name = name_later log (Dealt seal count ∷ []) name called in (
          adds,
          Dealt seal count ∷ [],
          Some names.Nothing,
          tt,
          rw is (kept_dealt cs log h seal count (old + count) new fits),
          inr (
            names.Nothing,
            refl,
            refl,
            (
              (inr (Dealt seal count, refl, refl), tt, (called, first, fits, called', dealt_more cs log h seal count)),
              changes_still log (Dealt seal count) refl,
            ),
          ),
          rw is (
            seal,
            refl,
            refl,
            subst (λ (n : ℕ). AreDealt n count seal (log ++ Dealt seal count ∷ [])) (sym first)
                (words_dealt cs log h seal count h.many fits),
          ),
        )
    deals_goes cs log h pre false is =
        (keeps, [], None, tt, rw is (left_so cs log h), inl (refl, append-nil log), rw is tt)

    pub deals_moves : Moves (AreCodes eq hash) shows (Leaves is_change (Moved ask)) 1 (v, (no_nib, None)) (λ n. either (n == old) (old + count) n)
        (Deals (step 1 old (old + count) ask) (v, (no_nib, None)))
    deals_moves cs log h pre away = let m = maker_home cs log h in (m.0, m.1, deals_goes cs log h pre ((cell cs 1).0 == old) refl)

  calls_goes : (v : List (Event K V S)) (name : Book) (cs : List Cell) (log : List (Event K V S)) → AreCodes eq hash cs log → (t : Bool)
      → ((cell cs 1).0 == 0) ≡ t
      → Goes (AreCodes eq hash) shows (Leaves is_change (Moved (Called name))) 1 (v, (no_nib, None)) (λ n. either (n == 0) 1 n)
      (Calls (step 1 0 1 (Called name)) (v, (no_nib, None))) cs log
  calls_goes v name cs log h true is =
      let none : (cell cs 1).0 ≡ 0 = grind (arith, nat_tests) in let called = kept_called cs log h name none in (
        keeps,
        Called name ∷ [],
        Some names.Nothing,
        tt,
        rw is called.0,
        inr (names.Nothing, refl, refl, ((inr (Called name, refl, refl), tt, (called.1, called.2)), changes_still log (Called name) refl)),
        rw is called.1,
      )
  calls_goes v name cs log h false is =
      (keeps, [], None, tt, rw is (left_so cs log h), inl (refl, append-nil log), rw is tt)

  pub calls_moves : (v : List (Event K V S)) (name : Book)
      → Moves (AreCodes eq hash) shows (Leaves is_change (Moved (Called name))) 1 (v, (no_nib, None)) (λ n. either (n == 0) 1 n) (Calls (step 1 0 1 (Called name)) (v, (no_nib, None)))
  calls_moves v name cs log h pre away = let m = maker_home cs log h in (m.0, m.1, calls_goes v name cs log h ((cell cs 1).0 == 0) refl)
