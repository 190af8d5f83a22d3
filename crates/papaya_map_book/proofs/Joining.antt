-- The setting in which a table is brought in next: it agrees with the log's setting on the tables in the log, and has this table's number of words
-- for chunks.
use Rattle.std.proofs.Common.{◌≡◌, ⊎_elim, ℕ, ◌==◌, Bool, true, cond, None, Some, List, [], ◌∷◌, ◌++◌, length, map, refl, sym, ap, ◌∙◌, eq-eqb, eqb-true}
use Rattle.std.proofs.lemmas.Bool.{cases_Bool, cond-true, cond-false}
use Rattle.std.proofs.lemmas.List.{map-append}
use Rattle.boxcar.specs.Table.{Where}
use Rattle.papaya_words_law.specs.Allows.{Allows, AllAllowed}
use Rattle.papaya_words_law.specs.Class.{IsOn}
use Rattle.papaya_words_law.specs.Code.{IsHashed}
use Rattle.papaya_words_law.specs.Exchange.{Setting, State, start}
use Rattle.papaya_words_law.specs.Grows.{Agrees, Plan, brings, chunks_in, setting_in}
use Rattle.papaya_words_law.specs.Meaning.{IsLawful}
use Rattle.papaya_words_law.proofs.Grows.{all_carries, allows_carries}
use Rattle.papaya_words_law.proofs.Logs.{log_agrees}
use Rattle.papaya_words_law.proofs.OneMap.{sound, start_keeps}
use Rattle.papaya_map_book.specs.Sheets.{Sheet}
use Rattle.papaya_map_book.specs.declared.rule.entry.Begun.{Begun}
use Rattle.papaya_map_book.specs.declared.rule.entry.Event.{Event}
use Rattle.papaya_map_book.specs.declared.rule.entry.Named.{Named}
use Rattle.papaya_map_book.specs.declared.rule.entry.Named.TheVariants as names
use Rattle.papaya_map_book.specs.declared.rule.entry.Step.{Step}
use Rattle.papaya_map_book.specs.Logs.{Stored, coding_of, comes, entries_of, entry_of, exchange_of}
use Rattle.papaya_map_book.specs.Logs.{exchanges_of, number_of, plan_of, setting_of, setting_with}
use Rattle.papaya_map_book.specs.Logs.{state_of, steps_of, table_if, table_in}
use Rattle.papaya_map_book.specs.Rule.{IsLawfulLog}
use Rattle.papaya_map_book.proofs.Comes.{table_there}
use Rattle.papaya_map_book.proofs.Found.{brings_table, on_came}
use Rattle.papaya_map_book.proofs.TableSizes.{words_of}

module _ {K V S : Type 0} (eq : K → K → Bool) (hash : S → K → ℕ) (b : Begun K V S) (log : List (Event K V S))
    (law : IsLawful (setting_of eq (hash b.hasher) b.mode b.limit log)) (w : Where Sheet) where
  abbrev g : Setting K (Stored K V)
  g = setting_of eq (hash b.hasher) b.mode b.limit log

  abbrev with_it : Setting K (Stored K V)
  with_it = setting_with eq (hash b.hasher) b.mode b.limit (names.Table w) log

  abbrev s : State (Stored K V)
  s = state_of log

  abbrev words : ℕ
  words = length w.value.done

  -- the table has the words that its sheet states
  pub with_chunks : with_it.chunks (number_of w) ≡ words
  with_chunks = cond-true (number_of w == number_of w) words (g.chunks (number_of w)) (eq-eqb (number_of w) (number_of w) refl)

  pub with_lawful : IsLawful with_it
  with_lawful = record {
    itself = law.itself;
    back = law.back;
    through = law.through;
    places_same = law.places_same;
    within = law.within;
    some_place = law.some_place;
    some_slot = law.some_slot;
  }

  -- the machines' laws hold in it
  pub with_hashed : IsHashed g (coding_of (hash b.hasher)) → IsHashed with_it (coding_of (hash b.hasher))
  with_hashed h = record { lawful = with_lawful; coding = record { respects = h.coding.respects; hash_fits = h.coding.hash_fits }; places = h.places }

  module _ (l : IsLawfulLog eq hash b log) (none : table_in (steps_of log) (number_of w) ≡ None) where
    -- it is not on the chain, on which both settings agree
    other : (t : ℕ) → IsOn s.first s.next t → with_it.chunks t ≡ g.chunks t
    other t on =
        ⊎_elim
        (λ e. let came = on_came (steps_of log) t on in let gone = ap (table_in (steps_of log)) (eqb-true t (number_of w) e) ∙ none in
        let there = came.1 in absurd (cc (gone, there)))
        (λ e. cond-false (t == number_of w) words (g.chunks t) e)
        (cases_Bool (t == number_of w))

    pub with_agrees : Agrees (IsOn s.first s.next) g with_it
    with_agrees = record {
      blocking = refl;
      key = λ p. refl;
      same = λ k k'. refl;
      size = λ t on. refl;
      chunk_of = λ x.
          refl;
      most = refl;
      chunks = other;
      places = λ t on. refl;
      place = λ k t j on. refl;
    }

    -- and the exchanges so far were allowed in it
    pub with_allowed : AllAllowed with_it start (exchanges_of log)
    with_allowed = all_carries g law with_it (exchanges_of log) start (λ k. None) (start_keeps g law) l.allowed with_agrees

    module _ (e : Step K V) (is : comes e ≡ names.Table w) where
      abbrev plan : Plan K (Stored K V)
      plan = plan_of eq (hash b.hasher) b.mode b.limit

      abbrev longer : Setting K (Stored K V)
      longer = setting_in plan (entries_of log ++ entry_of e ∷ [])

      one_number : (t : ℕ) (v : Where Sheet) → cond (number_of w == t) (Some w) None ≡ Some v → t ≡ number_of w
      one_number t v h = ⊎_elim (λ e. sym (eqb-true (number_of w) t e))
          (λ e. let n = cond-false (number_of w == t) (Some w) None e in absurd (cc (n, h))) (cases_Bool (number_of w == t))

      same_chunks : (t : ℕ) → brings (exchange_of e) t ≡ true → longer.chunks t ≡ with_it.chunks t
      same_chunks t h =
          let it = brings_table e t h in
          let number : t ≡ number_of w = one_number t it.0 (ap (λ (n : Named K V). table_if n t) (sym is) ∙ it.1) in
          let came : table_in (steps_of log ++ e ∷ []) (number_of w) ≡ Some w = table_there (steps_of log) e w is none in
          let told : chunks_in (map entry_of (steps_of log ++ e ∷ [])) (number_of w) ≡ words = words_of (steps_of log ++ e ∷ []) (number_of w) w came in
          ap longer.chunks number ∙ (ap (λ es. chunks_in es (number_of w)) (sym (map-append entry_of (steps_of log) (e ∷ [])))
          ∙ (told ∙ (sym with_chunks ∙ ap with_it.chunks (sym number))))

      both_agree : Agrees (IsOn s.first s.next) with_it longer
      both_agree =
          let a = log_agrees plan (entries_of log) (entry_of e ∷ []) in
          record {
            blocking = a.blocking;
            key = a.key;
            same = a.same;
            size = a.size;
            chunk_of = a.chunk_of;
            most = a.most;
            chunks = λ t on.
                a.chunks t on ∙ sym (other t on);
            places = a.places;
            place = a.place;
          }

      -- an exchange that it allows is allowed in the setting of the log that has the step
      pub brings_more : Allows with_it s (exchange_of e) → Allows longer s (exchange_of e)
      brings_more may = allows_carries with_it longer s (sound with_it with_lawful (exchanges_of log) with_allowed) both_agree (exchange_of e) same_chunks may
