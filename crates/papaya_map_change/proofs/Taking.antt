-- A call takes a number for a pair: it may whenever the count is the one that it loaded, and after
-- the attempt it again relies on facts that hold.
use Rattle.std.proofs.Common.{◌≡◌, ℕ, ◌==◌, Bool, true, false, MatchBool, Option, None, Some, List, [], ◌∷◌, ◌++◌, refl, sym, ap, ◌∙◌, subst}
use Rattle.std.specs.Cmp.{IsEquivalence}
use mathlib.Core.List.{IsPrefix}
use denote.Bor.{Bor}
use Rattle.boxcar.specs.Table.{Where}
use Rattle.logbook.specs.Pages.{Book}
use Rattle.logbook.specs.declared.tokens.Pen.{Pen}
use Rattle.papaya_call.specs.declared.ask.At.TheVariants.{Made as Made_word}
use Rattle.papaya_call.specs.declared.ask.Ask.TheVariants.{Exchange as Ask_exchange}
use Rattle.papaya_call.specs.declared.ask.Answer.TheVariants.{Exchanged, Found as Found_instead}
use Rattle.papaya_call.specs.declared.ask.StepKind.{StepKind}
use Rattle.papaya_call.specs.declared.ask.StepKind.TheVariants as kinds
use Rattle.papaya_call.specs.declared.chain.ask.Answer.TheVariants as answers
use Rattle.papaya_call.specs.declared.chain.ask.Ask.TheVariants.{Call}
use Rattle.papaya_call.specs.declared.chain.machine.Machine.{Machine}
use Rattle.papaya_call.specs.ChainMachine.{after, ask_of, kind_of_ask}
use Rattle.papaya_call_law.proofs.Names.{call_asks}
use Rattle.papaya_words_law.specs.Code.{Coding}
use Rattle.papaya_words_law.specs.Exchange.{Setting}
use Rattle.papaya_call_law.specs.Relies.{change_of_kind}
use Rattle.papaya_call_law.specs.TrueAnswers.{IsAsked, IsTrueOf, LoadedPairs, word_of}
use Rattle.papaya_map_book.specs.Sheets.{Sheet}
use Rattle.papaya_map_book.specs.declared.rule.entry.Begun.{Begun}
use Rattle.papaya_map_book.specs.declared.rule.entry.Event.{Event}
use Rattle.papaya_map_book.specs.declared.rule.entry.Event.TheVariants.{Stepped}
use Rattle.papaya_map_book.specs.declared.rule.entry.Named.{Named}
use Rattle.papaya_map_book.specs.declared.rule.entry.Named.TheVariants as names
use Rattle.papaya_map_book.specs.declared.rule.entry.Step.{Step}
use Rattle.papaya_map_book.specs.Calls.{IsTried}
use Rattle.papaya_map_book.specs.Hashes.{hash_of}
use Rattle.papaya_map_book.specs.Logs.{Stored, exchange_of, exchanges_of, state_of}
use Rattle.papaya_map_book.specs.Plays.{CanExchange, IsMeant, IsWished}
use Rattle.papaya_map_change.proofs.Changing.{Calling, Coded, Wide, answered, barren, call_loaded, call_relies, held_later, quiet}
use Rattle.papaya_map_change.proofs.StepsOfOwn.{asked_by_call, own_kind}
use Rattle.papaya_map_lookup.proofs.Driving.{IsRelying, can_take}
use Rattle.papaya_map_book.proofs.Logs.{exchanges_of-append, prefix_trans}
use Rattle.papaya_map_lookup.proofs.Readings.{IsQuery}

module _ {K V S H : Type 0} (eq : K → K → Bool) (input : K → List (List ℕ)) (build : S → H) (write : H → List ℕ → H) (finish : H → ℕ)
    (classes : IsEquivalence eq) (respects : (x y : K) → eq x y ≡ true → input x ≡ input y)
    (b : Begun K V S) (matches : K → Bool) (query : List (List ℕ)) (lawful : IsQuery eq input matches query) (k : Option K) (name : Book)
    (begun : List (Event K V S)) where
  abbrev hash' : S → K → ℕ
  hash' = hash_of input build write finish

  abbrev Under : List (Event K V S) → Machine → Option (Bor Sheet) → (last kept : Option (Stored K V)) → List (Stored K V)
      → (taken put : Option (Stored K V)) → Option (Where Sheet × Pen) → Type 0
  Under log m table last kept made taken put fresh = Calling eq input build write finish classes respects b matches query lawful k name begun log m
      table last kept made taken put fresh

  abbrev G : List (Event K V S) → Setting (Option K) (Stored K V)
  G log = Wide eq input build write finish classes respects b matches query lawful k name begun log

  abbrev C : Coding (Option K) (Stored K V)
  C = Coded eq input build write finish classes respects b matches query lawful k name begun

  module _ (v : List (Event K V S)) (m : Machine) (table : Option (Bor Sheet)) (last kept : Option (Stored K V)) (made : List (Stored K V))
      (taken put : Option (Stored K V)) (fresh : Option (Where Sheet × Pen)) (r : Under v m table last kept made taken put fresh) (old new : ℕ)
      (asks : ask_of m ≡ Call (Ask_exchange Made_word old new)) (kind : kind_of_ask m ≡ Some kinds.Take) where
    abbrev loaded : LoadedPairs (Stored K V)
    loaded = call_loaded eq input build write finish classes respects b matches query lawful k name begun last made

    abbrev relying : IsRelying eq input build write finish classes respects b matches query lawful k (exchanges_of begun) v m.call loaded
    relying = call_relies eq input build write finish classes respects b matches query lawful k name begun v m table last kept made taken put fresh r

    -- it may be tried
    pub take_can : CanExchange eq hash' b Made_word (kind_of_ask m) old new None names.Nothing v
    take_can =
        let own = call_asks m (Ask_exchange Made_word old new) asks in
        let same = own_kind m own.0 in
        subst (λ (z : Option StepKind). CanExchange eq hash' b Made_word z old new None names.Nothing v) (sym same)
        (can_take eq input build write finish classes respects b matches query lawful k (exchanges_of begun) v r.lawful m.call loaded relying old new own.1)

    module _ (log : List (Event K V S)) (found : ℕ) (state : Option (Named K V))
        (s : IsTried eq hash' b Made_word (kind_of_ask m) old new None names.Nothing v found log state) where
      abbrev After : Bool → Type 0
      After z = MatchBool z ((e : Step K V) × IsMeant eq hash' Made_word (kind_of_ask m) new None names.Nothing s.before e
          × (log ≡ s.before ++ Stepped e ∷ [])) (log ≡ s.before)

      -- it was taken
      pub number_taken : (found == old) ≡ true → Under log (after m (answers.Call Exchanged)) table last kept made taken put fresh
      number_taken is =
          let done = subst After is s.after in
          let e = exchange_of done.0 in
          let before = s.before in
          let grown : exchanges_of log ≡ exchanges_of before ++ e ∷ [] = ap exchanges_of done.2 ∙ exchanges_of-append before (Stepped done.0 ∷ []) in
          let more : IsPrefix before log = (Stepped done.0 ∷ [], sym done.2) in
          let since = prefix_trans v before log s.since more in
          let here : (word_of (G log) C (state_of before) Made_word == old) ≡ true = ap (λ (n : ℕ). n == old) s.is ∙ is in
          let plainly = asked_by_call (Some kinds.Take) tt Made_word new (state_of before) None e
          (subst (λ (z : Option StepKind). IsWished z Made_word new (state_of before) None e) kind done.1.asked) in
          let asked : IsAsked (G log) C k (kind_of_ask m) Made_word new (state_of before) loaded
          e = subst (λ (z : Option StepKind). IsAsked (G log) C k z Made_word new (state_of before) loaded e) (sym kind) plainly in
          let told : IsTrueOf (G log) C k (state_of before) (kind_of_ask m) loaded (Ask_exchange Made_word old new) Exchanged (e ∷ []) loaded = rw here
          (refl, (e, asked, refl), refl) in
          answered eq input build write finish classes respects b matches query lawful k name begun v before log s.lawful s.now s.since more m table
          last kept made taken put fresh r (Ask_exchange Made_word old new) asks Exchanged last made told table taken put fresh
          (held_later v log since r.number table r.holds_table) r.last_placed r.made_placed r.taken_placed
          (λ change f. let none : None ≡ Some change = sym (ap (λ (z : Option StepKind). change_of_kind z old new) kind) ∙ f in absurd (cc none))
          (barren eq input build write finish classes respects b matches query lawful k name begun v log since s.now m table last kept made taken put
          fresh r (Ask_exchange Made_word old new) asks tt Exchanged fresh)

      -- another call was first, and the call received how many are taken
      pub number_lost : (found == old) ≡ false → Under log (after m (answers.Call (Found_instead found))) table last kept made taken put fresh
      number_lost is =
          let same = subst After is s.after in
          let pre : IsPrefix v log = subst (IsPrefix v) (sym same) s.since in
          let here : word_of (G log) C (state_of log) Made_word ≡ found = ap (λ (z : List (Event K V S)). (state_of z).made) same ∙ s.is in
          let differs : (word_of (G log) C (state_of log) Made_word == old) ≡ false = ap (λ (n : ℕ). n == old) here ∙ is in
          let told : IsTrueOf (G log) C k (state_of log) (kind_of_ask m) loaded (Ask_exchange Made_word old new) (Found_instead found) []
          loaded = rw differs (ap Found_instead (sym here), refl, refl) in
          quiet eq input build write finish classes respects b matches query lawful k name begun v log pre s.now m table last kept made taken put
          fresh r (Ask_exchange Made_word old new) asks (Found_instead found) last made table fresh
          (record {
            told = told;
            same = refl;
            busy = λ z. z;
            brings = barren eq input build write finish classes respects b matches query lawful k name begun v log pre s.now m table last kept made
                taken put fresh r (Ask_exchange Made_word old new) asks tt (Found_instead found) fresh;
          }) (held_later v log pre r.number table r.holds_table) r.last_placed r.made_placed

      -- so it is the count in the log
      pub number_found : (found == old) ≡ false → (state_of log).made ≡ found
      number_found is = let same = subst After is s.after in ap (λ (z : List (Event K V S)). (state_of z).made) same ∙ s.is
