-- After a call tried to open a table, it again relies on facts that hold, and holds the root's
-- table.
use Rattle.std.proofs.Common.{◌≡◌, ◌⊎◌, inl, inr, ℕ, ◌==◌, Bool, true, false, Option, None, Some, List, [], ◌∷◌, ◌++◌, refl, sym, ap, ◌∙◌, subst}
use Rattle.std.specs.Cmp.{IsEquivalence}
use mathlib.Core.List.{IsPrefix}
use denote.Bor.{Bor}
use Rattle.boxcar.specs.Table.{Where}
use Rattle.logbook.specs.Pages.{Book}
use Rattle.logbook.specs.declared.tokens.Pen.{Pen}
use Rattle.papaya_call.specs.declared.ask.At.TheVariants.{Root}
use Rattle.papaya_call.specs.declared.ask.Ask.TheVariants.{Exchange as Ask_exchange}
use Rattle.papaya_call.specs.declared.ask.Answer.{Answer}
use Rattle.papaya_call.specs.declared.ask.Answer.TheVariants.{Exchanged, Found as Found_instead}
use Rattle.papaya_call.specs.declared.ask.StepKind.{StepKind}
use Rattle.papaya_call.specs.declared.ask.StepKind.TheVariants as kinds
use Rattle.papaya_call.specs.declared.chain.ask.Answer.TheVariants as answers
use Rattle.papaya_call.specs.declared.chain.ask.Ask.TheVariants.{Call}
use Rattle.papaya_call.specs.declared.chain.machine.Machine.{Machine}
use Rattle.papaya_call.specs.ChainMachine.{after, ask_of, kind_of_ask}
use Rattle.papaya_words_law.specs.Exchange.{Exchange, Open}
use Rattle.papaya_call_law.specs.Relies.{change_of_kind}
use Rattle.papaya_call_law.specs.TrueAnswers.{IsAsked, IsTrueOf, LoadedPairs, word_of}
use Rattle.papaya_map_book.specs.Sheets.{Sheet}
use Rattle.papaya_map_book.specs.declared.rule.entry.Begun.{Begun}
use Rattle.papaya_map_book.specs.declared.rule.entry.Event.{Event}
use Rattle.papaya_map_book.specs.declared.rule.entry.Event.TheVariants.{Stepped}
use Rattle.papaya_map_book.specs.declared.rule.entry.Named.{Named}
use Rattle.papaya_map_book.specs.declared.rule.entry.Named.TheVariants as names
use Rattle.papaya_map_book.specs.Calls.{IsTable, IsTried}
use Rattle.papaya_map_change.specs.Changing.{IsBringing, IsFresh}
use Rattle.papaya_map_book.specs.Hashes.{hash_of}
use Rattle.papaya_map_book.specs.Logs.{Stored, exchange_of, exchanges_of, state_of}
use Rattle.papaya_map_change.proofs.Changing.{Calling, Coded, Wide, answered, call_loaded, quiet}
use Rattle.papaya_map_change.proofs.StepsOfOwn.{asked_by_call, opened_once}
use Rattle.papaya_map_lookup.proofs.Driving.{word_wide}
use Rattle.papaya_map_book.proofs.Logs.{exchanges_of-append, prefix_trans}
use Rattle.papaya_map_lookup.proofs.Readings.{IsQuery}
use Rattle.papaya_map_book.proofs.Opened.{After, opened_lost}

module _ {K V S H : Type 0} (eq : K → K → Bool) (input : K → List (List ℕ)) (build : S → H) (write : H → List ℕ → H) (finish : H → ℕ)
    (classes : IsEquivalence eq) (respects : (x y : K) → eq x y ≡ true → input x ≡ input y)
    (b : Begun K V S) (matches : K → Bool) (query : List (List ℕ)) (lawful : IsQuery eq input matches query) (k : Option K) (name : Book)
    (begun : List (Event K V S)) where
  abbrev hash' : S → K → ℕ
  hash' = hash_of input build write finish

  abbrev Under : List (Event K V S) → Machine → Option (Bor Sheet) → (last kept : Option (Stored K V)) → List (Stored K V)
      → (taken put : Option (Stored K V)) → Option (Where Sheet × Pen) → Type 0
  Under log m table last kept made taken put fresh = Calling eq input build write finish classes respects b matches query lawful k name begun log m
      table last kept made taken put fresh

  -- a call that has tried to open its table brings it no longer
  unbrought : (m : Machine) (n : ℕ) → ask_of m ≡ Call (Ask_exchange Root 0 n) → (answer : Answer) → (answer ≡ Exchanged)
      ⊎ ((word : ℕ) × (answer ≡ Found_instead word)) → (log : List (Event K V S)) (fresh : Option (Where Sheet × Pen)) (i : ℕ)
      → IsBringing (ask_of (after m (answers.Call answer))) i → IsFresh b name log i fresh
  unbrought m n asks answer tried log fresh i brings = absurd (opened_once m n asks answer tried i brings)

  module _ (v log : List (Event K V S)) (m : Machine) (table : Option (Bor Sheet)) (last kept : Option (Stored K V)) (made : List (Stored K V))
      (taken put : Option (Stored K V)) (fresh fresh' : Option (Where Sheet × Pen)) (r : Under v m table last kept made taken put fresh) (n found : ℕ)
      (w : Where Sheet) (state : Option (Named K V))
      (asks : ask_of m ≡ Call (Ask_exchange Root 0 n)) (kind : kind_of_ask m ≡ Some kinds.Open)
      (t : IsTried eq hash' b Root (Some kinds.Open) 0 n None (names.Table w) v found log state) (lent : Bor Sheet) where
    abbrev G : Rattle.papaya_words_law.specs.Exchange.Setting (Option K) (Stored K V)
    G = Wide eq input build write finish classes respects b matches query lawful k name begun log

    abbrev C : Rattle.papaya_words_law.specs.Code.Coding (Option K) (Stored K V)
    C = Coded eq input build write finish classes respects b matches query lawful k name begun

    abbrev loaded : LoadedPairs (Stored K V)
    loaded = call_loaded eq input build write finish classes respects b matches query lawful k name begun last made

    -- it was opened
    pub opened : (found == 0) ≡ true → IsTable log n lent.now → Under log (after m (answers.Call Exchanged)) (Some lent) last kept made taken put fresh'
    opened is holds =
        let done = subst (After eq hash' b n w v found log state t) is t.after in
        let e = exchange_of done.0 in
        let before = t.before in
        let grown : exchanges_of log ≡ exchanges_of before ++ e ∷ [] = ap exchanges_of done.2 ∙ exchanges_of-append before (Stepped done.0 ∷ []) in
        let more : IsPrefix before log = (Stepped done.0 ∷ [], sym done.2) in
        let here : (word_of G C (state_of before) Root == 0) ≡ true = ap (λ (i : ℕ). i == 0)
        (word_wide eq input build write finish classes respects b matches query lawful k (exchanges_of begun) before log Root ∙ t.is) ∙ is in
        let asked : IsAsked G C k (kind_of_ask m) Root n (state_of before) loaded
        e = subst (λ (z : Option StepKind). IsAsked G C k z Root n (state_of before) loaded e) (sym kind)
        (asked_by_call (Some kinds.Open) tt Root n (state_of before) None e done.1.asked) in
        let told : IsTrueOf G C k (state_of before) (kind_of_ask m) loaded (Ask_exchange Root 0 n) Exchanged (e ∷ []) loaded = rw here
        (refl, (e, asked, refl), refl) in
        let since = prefix_trans v before log t.since more in
        answered eq input build write finish classes respects b matches query lawful k name begun v before log t.lawful t.now t.since more m table
        last kept made taken put fresh r (Ask_exchange Root 0 n) asks Exchanged last made told (Some lent) taken put fresh'
        holds r.last_placed r.made_placed r.taken_placed
        (λ change f. let none : None ≡ Some change = sym (ap (λ (z : Option StepKind). change_of_kind z 0 n) kind) ∙ f in absurd (cc none))
        (unbrought m n asks Exchanged (inl refl) log fresh')

    -- it was lost: another one is the root
    pub beaten : (found == 0) ≡ false → IsTable log found lent.now
        → Under log (after m (answers.Call (Found_instead found))) (Some lent) last kept made taken put fresh'
    beaten is holds =
        let same = opened_lost eq hash' b n w v found log state t is in
        let pre : IsPrefix v log = subst (IsPrefix v) (sym same) t.since in
        let here : word_of G C (state_of log) Root ≡ found = word_wide eq input build write finish classes respects b matches query lawful k
        (exchanges_of begun) log log Root ∙ (ap (λ (z : List (Event K V S)). (state_of z).root) same ∙ t.is) in
        let differs : (word_of G C (state_of log) Root == 0) ≡ false = ap (λ (i : ℕ). i == 0) here ∙ is in
        let told : IsTrueOf G C k (state_of log) (kind_of_ask m) loaded (Ask_exchange Root 0 n) (Found_instead found) [] loaded = rw differs
        (ap Found_instead (sym here), refl, refl) in
        quiet eq input build write finish classes respects b matches query lawful k name begun v log pre t.now m table last kept made taken put fresh
        r (Ask_exchange Root 0 n) asks (Found_instead found) last made (Some lent) fresh'
        (record { told = told; same = refl; busy = λ z. z; brings = unbrought m n asks (Found_instead found) (inr (found, refl)) log fresh' }) holds
        r.last_placed r.made_placed
