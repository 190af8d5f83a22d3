-- An exchange of a word preserves the rule, whatever its kind, and returns the exchanged word.
use Rattle.std.proofs.Common.{◌≡◌, ◌≢◌, inl, inr, ⊎_elim, ℕ, ◌+◌, ◌<◌, ◌≤◌, ◌==◌, Bool, true, false}
use Rattle.std.proofs.Common.{cond, Option, None, Some, List, [], ◌∷◌, ◌++◌, length, slice_set, refl, sym}
use Rattle.std.proofs.Common.{ap, ◌∙◌, subst, arith, length-set}
use Rattle.std.specs.Prelude.{filter}
use Rattle.std.proofs.lemmas.List.{append-nil}
use Rattle.std.proofs.lemmas.List.Elements.{filter-append}
use Rattle.std.proofs.lemmas.Bool.Decides.{nat_tests}
use mathlib.Core.List.{IsPrefix}
use prog.Atomic.{either}
use Rattle.logbook.specs.Pages.{Cell, Book, cell, keeps, no_nib, step, Moves}
use Rattle.papaya_call.specs.declared.ask.At.{At}
use Rattle.papaya_words_law.specs.Allows.{Allows}
use Rattle.papaya_words_law.specs.Exchange.{Setting, after}
use Rattle.papaya_words_law.specs.Grows.{IsLawfulPlan}
use Rattle.papaya_words.specs.declared.resize_mode.ResizeMode.{ResizeMode}
use Rattle.papaya_call_law.specs.TrueAnswers.{IsWritten, word_of}
use Rattle.papaya_map_book.specs.declared.rule.entry.Begun.{Begun}
use Rattle.papaya_map_book.specs.declared.rule.entry.Named.{Named}
use Rattle.papaya_map_book.specs.declared.rule.entry.Step.{Step}
use Rattle.papaya_map_book.specs.declared.rule.entry.Event.{Event}
use Rattle.papaya_map_book.specs.declared.rule.entry.Event.TheVariants.{Begin, Stepped}
use Rattle.papaya_map_book.specs.Logs.{Stored, brought, coding_of, comes, exchange_of, key_at}
use Rattle.papaya_map_book.specs.Logs.{kind_of, made_of, name_in, place_of, plan_of, seals_of}
use Rattle.papaya_map_book.specs.Logs.{setting_of, state_of, steps_of, word_names}
use Rattle.papaya_map_book.specs.Rows.{row_len}
use Rattle.papaya_map_book.specs.Rule.{AreCodes, IsLawfulLog, IsPlaced, flag, seal_at, word_in}
use Rattle.papaya_map_book.specs.Offer.{Answered, LeavesRow, MovesRow, Moved}
use Rattle.papaya_gate.specs.Paid.{Leaves, MovesPaid}
use Rattle.papaya_map_book.specs.Changes.{ChangesNothing, is_change}
use Rattle.papaya_map_book.specs.Own.{last_if}
use Rattle.papaya_map_book.specs.Plays.{CanExchange, MayStep, Tried, Tries, TriesPaid}
use Rattle.papaya_map_book.proofs.Changes.{changes_left, last_added, wished_quiet}
use Rattle.papaya_map_book.proofs.Cells.{cell_other, cell_same, home_still, same_or_not}
use Rattle.papaya_map_book.proofs.Logs.{IsQuiet, name-append, name_later, or_nothing, seals-append, answered_left, same_seal, steps-append, with_quiet}
use Rattle.papaya_map_book.proofs.Grown.{lawful_more, same_keys, same_name, same_seals, word_more}
use Rattle.papaya_map_book.proofs.Loads.{key_since, row_left, row_still, same_cells, shows}
use Rattle.papaya_map_book.proofs.Makers.{map_key}
use Rattle.papaya_map_book.proofs.Names.{word_answer}

-- an exchange leaves the row
pub row_stepped : {K V S : Type 0} (ask : Event K V S) (log : List (Event K V S)) (e : Step K V) → LeavesRow ask → MovesRow ask log (log ++ Stepped e ∷ [])
row_stepped ask log e l =
    row_left ask log (log ++ Stepped e ∷ []) l (name-append log (Stepped e ∷ []) ∙ or_nothing (name_in log))
    (ap (λ (z : List ℕ). length z) (seals-append log (Stepped e ∷ []) ∙ append-nil (seals_of log)))

pub found_old : (n old : ℕ) → (n == old) ≡ true → n ≡ old
found_old n old e = grind (arith, nat_tests)

module _ {K V S : Type 0} (eq : K → K → Bool) (hash : S → K → ℕ)
    (plans : (mode : ResizeMode) (most : Option ℕ) (s : S) → IsLawfulPlan (plan_of {V = V} eq (hash s) mode most)) where
  module _ (cs : List Cell) (log : List (Event K V S)) (h : AreCodes eq hash cs log) (e : Step K V) (quiet : IsQuiet (comes e)) (at : At) (k new : ℕ)
      (key : key_at (steps_of log) at ≡ Some k)
      (may : Allows (setting_of eq (hash h.begun.hasher) h.begun.mode h.begun.limit log) (state_of log) (exchange_of e))
      (written : IsWritten (setting_of eq (hash h.begun.hasher) h.begun.mode h.begun.limit log) (coding_of (hash h.begun.hasher)) (state_of log) at
      new (after (state_of log) (exchange_of e)))
      (placed : IsPlaced h.begun (name_in log) (comes e)) where
    abbrev log' : List (Event K V S)
    log' = log ++ Stepped e ∷ []

    abbrev cs' : List Cell
    cs' = slice_set cs k (new, true)

    within : k < length cs
    within = (h.counted at k key).0

    old_key : (at' : At) (j : ℕ) → key_at (steps_of log') at' ≡ Some j → key_at (steps_of log) at' ≡ Some j
    old_key at' j x = sym (same_keys eq hash plans h.begun log h.lawful e quiet at k new key may written placed at') ∙ x

    new_key : (at' : At) (j : ℕ) → key_at (steps_of log) at' ≡ Some j → key_at (steps_of log') at' ≡ Some j
    new_key at' j x = same_keys eq hash plans h.begun log h.lawful e quiet at k new key may written placed at' ∙ x

    -- the makers' word is no word of the map
    not_maker : 1 ≢ k
    not_maker i = ⊎_elim (λ r. (map_key (steps_of log) at k r key).0 (sym i)) (λ t. absurd (omega arith)) (h.counted at k key).1

    word' : (at' : At) → word_in eq hash h.begun log' at' ≡ word_of (setting_of eq (hash h.begun.hasher) h.begun.mode h.begun.limit log)
        (coding_of (hash h.begun.hasher)) (after (state_of log) (exchange_of e)) at'
    word' at' = word_more eq hash plans h.begun log h.lawful e quiet at k new key may written placed at'

    coded_more : (at' : At) (j : ℕ) → key_at (steps_of log') at' ≡ Some j → cell cs' j ≡ (word_in eq hash h.begun log' at', true)
    coded_more at' j x = elim (same_or_not j k (j == k) refl) [
      | inl i ↦
          let here : at' ≡ at = h.lawful.apart at' at k (ap (λ (l : Option ℕ). l) (old_key at' j x) ∙ ap (λ (m : ℕ). Some m) i) key in
          let is : word_in eq hash h.begun log' at' ≡ new = ap (λ (a : At). word_in eq hash h.begun log' a) here ∙ (word' at ∙ written.here) in
          ap (cell cs') i ∙ (cell_same cs k (new, true) within ∙ ap (λ (n : ℕ). (n, true)) (sym is))
      | inr n ↦
          let other : at' ≡ at → ⊥ = λ same. let y : Some j ≡ Some k = sym (old_key at' j x) ∙ (ap (key_at (steps_of log)) same ∙ key) in n (cc y) in
          cell_other cs k j (new, true) n ∙ (h.coded at' j (old_key at' j x) ∙ ap (λ (n : ℕ). (n, true)) (sym (word' at' ∙ written.others at' other)))
    ]

    -- the book after the exchange
    pub kept_more : AreCodes eq hash cs' log'
    kept_more =
        let long : length cs' ≡ length cs = length-set cs k (new, true) in
        let seals = same_seals eq hash plans h.begun log h.lawful e quiet at k new key may written placed in
        let name = same_name eq hash plans h.begun log h.lawful e quiet at k new key may written placed in record {
          begun = h.begun;
          lawful = lawful_more eq hash plans h.begun log h.lawful e quiet at k new key may written placed;
          many = let m = h.many in omega arith;
          homes = λ j l. home_still cs k j new within (h.homes j l);
          maker = cell_other cs k 1 (new, true) not_maker ∙ (h.maker ∙ (λ i. (flag (sym name i) + length (sym seals i), true)));
          room = subst (λ (z : List ℕ). length z ≤ row_len) (sym seals) h.room;
          coded = coded_more;
          counted = λ at' j x. let z = h.counted at' j (old_key at' j x) in (let y = z.0 in omega arith, z.1);
          owned = λ at' j x.
              let seal : seal_at (steps_of log') at' ≡ seal_at (steps_of log) at' = ap (λ (l : List (Step K V)). seal_at l at')
              (steps-append log (Stepped e ∷ [])) ∙ same_seal (steps_of log) e at' quiet in
              ⊎_elim
              (λ i. inl i)
              (λ i. ⊎_elim
              (λ s. inr (inl (seal ∙ s.0, s.1)))
              (λ o. inr (inr (ap (λ (z : List ℕ). Rattle.std.specs.Prelude.slice_get z (Rattle.std.specs.Prelude.◌-◌ j 3)) seals ∙ (o ∙ sym seal))))
              i)
              (h.owned at' j (old_key at' j x));
          fresh = λ j two home out.
              let n : j ≢ k = λ i. out at (new_key at j (key ∙ ap (λ (m : ℕ). Some m) (sym i))) in
              let same : cell cs' j ≡ cell cs j = cell_other cs k j (new, true) n in
              ap (λ (c : Cell). c.0) same ∙ h.fresh j two (sym (ap (λ (c : Cell). c.1) same) ∙ home) (λ at' x. out at' (new_key at' j x));
        }

  -- a lawful log that begins with an opening has the parameters of that opening
  pub begun_is : (b b' : Begun K V S) (log : List (Event K V S)) → IsPrefix (Begin b ∷ []) log → IsLawfulLog eq hash b' log → b' ≡ b
  begun_is b b' log pre l = let both : Begin b ∷ ([] ++ pre.0) ≡ Begin b' ∷ l.rest = pre.1 ∙ l.is in sym (cc both)

  module _ (b : Begun K V S) (v : List (Event K V S)) (ask : Event K V S) (k old new : ℕ) (leaves : LeavesRow ask)
      (key : key_at (steps_of v) (place_of ask) ≡ Some k) (began : IsPrefix (Begin b ∷ []) v)
      (quiet : IsQuiet (brought ask)) (name : Book) (named : name_in v ≡ Some name) (placed : IsPlaced b (Some name) (brought ask))
      (can : CanExchange eq hash b (place_of ask) (kind_of ask) old new (made_of ask) (brought ask) v) where
    -- What the exchange does at a book, whether it is made or finds another word.
    record Effect (cs : List Cell) (log : List (Event K V S)) : Type 0 where
      more : List (Event K V S)
      answer : Named K V
      holds : AreCodes eq hash (slice_set cs k (either ((cell cs k).0 == old) new (cell cs k).0, true)) (log ++ more)
      moved : Moved ask log (log ++ more) answer
      told : Tried eq hash (place_of ask) (kind_of ask) old new (made_of ask) (brought ask) v (cell cs k).0 (log ++ more) (Some answer)
      changed : filter is_change more ≡ filter is_change (last_if ((cell cs k).0 == old) (log ++ more))
      quiet_so : ChangesNothing (place_of ask) (kind_of ask) → filter is_change more ≡ []

    effect : (cs : List Cell) (log : List (Event K V S)) (h : AreCodes eq hash cs log) → IsPrefix v log → h.begun ≡ b → (t : Bool)
        → ((cell cs k).0 == old) ≡ t → Effect cs log
    effect cs log h pre same true is =
        let at = place_of ask in
        let names = word_names (steps_of log) (state_of log) at in
        let key' = key_since v log at k pre key in
        let stands : word_in eq hash h.begun log at ≡ (cell cs k).0 = sym (ap (λ (c : Cell). c.0) (h.coded at k key')) in
        let can' : CanExchange eq hash h.begun at (kind_of ask) old new (made_of ask) (brought ask)
        v = subst (λ (d : Begun K V S). CanExchange eq hash d at (kind_of ask) old new (made_of ask) (brought ask) v) (sym same) can in
        let m : MayStep eq hash h.begun at (kind_of ask) new (made_of ask) (brought ask) log = can' log pre h.lawful
        (stands ∙ found_old (cell cs k).0 old is) in
        let e : Step K V = m.step in
        let may : Allows (setting_of eq (hash h.begun.hasher) h.begun.mode h.begun.limit log) (state_of log)
        (exchange_of e) = subst (λ (g : Setting K (Stored K V)). Allows g (state_of log) (exchange_of e))
        (with_quiet eq (hash h.begun.hasher) h.begun.mode h.begun.limit log (brought ask) quiet) m.allowed in
        let quiet' : IsQuiet (comes e) = subst (λ (n : Named K V). IsQuiet n) (sym m.meant.with_it) quiet in
        let named' : name_in log ≡ Some name = ap name_in (sym pre.1) ∙ name_later v pre.0 name named in
        let placed' : IsPlaced h.begun (name_in log) (comes e) = subst (λ (z : Begun K V S × Option Book × Named K V). IsPlaced z.0 z.1 z.2)
        (λ i. (sym same i, sym named' i, sym m.meant.with_it i)) placed in
        let told : Answered log names = word_answer (setting_of eq (hash h.begun.hasher) h.begun.mode h.begun.limit log) log h.lawful.allowed at in
        let more : AreCodes eq hash (slice_set cs k (new, true)) (log ++ Stepped e ∷ []) = kept_more cs log h e quiet' at k new key' may m.written placed' in
        record {
          more = Stepped e ∷ [];
          answer = names;
          holds = rw is more;
          moved = (inr (Stepped e, m.meant.with_it, refl), answered_left names log (Stepped e ∷ []) told, row_stepped ask log e leaves);
          told = record {
            before = log;
            since = pre;
            begun = h.begun;
            lawful = h.lawful;
            now = lawful_more eq hash plans h.begun log h.lawful e quiet' at k new key' may m.written placed';
            is = stands;
            state_is = refl;
            after = rw is (e, m.meant, refl);
          };
          changed = rw is (ap (λ (l : List (Event K V S)). filter is_change l) (sym (last_added log (Stepped e))));
          quiet_so = λ nothing. ap (λ (t : Bool). cond t (Stepped e ∷ []) [])
              (wished_quiet (kind_of ask) at new (state_of log) (made_of ask) e nothing m.meant.asked);
        }
    effect cs log h pre same false is =
        let at = place_of ask in
        let names = word_names (steps_of log) (state_of log) at in
        let key' = key_since v log at k pre key in
        let stands = h.coded at k key' in
        let home : (cell cs k).1 ≡ true = ap (λ (c : Cell). c.1) stands in
        let nil : log ++ [] ≡ log = append-nil log in
        let told : Answered log names = word_answer (setting_of eq (hash h.begun.hasher) h.begun.mode h.begun.limit log) log h.lawful.allowed at in
        record {
          more = [];
          answer = names;
          holds = rw is (subst (λ (z : List Cell × List (Event K V S)). AreCodes eq hash z.0 z.1) (λ i. (sym (same_cells cs k home) i, sym nil i)) h);
          moved = (inl nil, subst (λ (l : List (Event K V S)). Answered l names) (sym nil) told, row_still ask log leaves);
          told = record {
            before = log;
            since = pre;
            begun = h.begun;
            lawful = h.lawful;
            now = subst (λ (l : List (Event K V S)). IsLawfulLog eq hash h.begun l) (sym nil) h.lawful;
            is = sym (ap (λ (c : Cell). c.0) stands);
            state_is = refl;
            after = rw is nil;
          };
          changed = rw is refl;
          quiet_so = λ nothing. refl;
        }

    began_in : (log : List (Event K V S)) → IsPrefix v log → IsPrefix (Begin b ∷ []) log
    began_in log pre = Rattle.papaya_map_book.proofs.Logs.prefix_trans (Begin b ∷ []) v log began pre

    -- an exchange that changes nothing of the map
    pub tries_moves : ChangesNothing (place_of ask) (kind_of ask)
        → Moves (AreCodes eq hash) shows (Leaves is_change (Moved ask)) k (v, (no_nib, None)) (λ n. either (n == old) new n)
        (Tries eq hash (step k old new ask) (v, (no_nib, None)))
    tries_moves nothing cs log h pre away =
        let key' = key_since v log (place_of ask) k pre key in
        let go = effect cs log h pre (begun_is b h.begun log (began_in log pre) h.lawful) ((cell cs k).0 == old) refl in (
          (h.counted (place_of ask) k key').0,
          ap (λ (c : Cell). c.1) (h.coded (place_of ask) k key'),
          (
            keeps,
            go.more,
            Some go.answer,
            tt,
            go.holds,
            inr (go.answer, refl, refl, (go.moved, changes_left log go.more (go.quiet_so nothing))),
            go.told,
          ),
        )

    -- an exchange that pays
    pub tries_paid : MovesPaid is_change (AreCodes eq hash) shows (Moved ask) k v None (λ n. either (n == old) new n)
        (TriesPaid eq hash (step k old new ask) v None)
    tries_paid cs log h pre =
        let key' = key_since v log (place_of ask) k pre key in
        let go = effect cs log h pre (begun_is b h.begun log (began_in log pre) h.lawful) ((cell cs k).0 == old) refl in (
          (h.counted (place_of ask) k key').0,
          ap (λ (c : Cell). c.1) (h.coded (place_of ask) k key'),
          (
            go.more,
            filter is_change go.more,
            Some go.answer,
            go.holds,
            filter-append is_change log go.more,
            inr (go.answer, refl, refl, go.moved),
            (go.told, go.changed),
          ),
        )
