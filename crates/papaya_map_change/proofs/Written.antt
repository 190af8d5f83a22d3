-- After each answer a call that inserts again relies on facts that hold, with its key and the pairs
-- that it has made.
use Rattle.std.proofs.Common.{◌≡◌, ◌⊎◌, inl, inr, ⊎_elim, ℕ, ◌<◌, ◌^◌, Bool, true, Option, Some, List, [], ◌∷◌, append-nil, refl, sym, ap, ◌∙◌, subst, arith}
use Rattle.std.specs.Cmp.{IsEquivalence}
use mathlib.Core.List.{IsPrefix}
use Rattle.boxcar.specs.Table.{Where}
use Rattle.logbook.specs.Pages.{Book, nib, may_write}
use Rattle.logbook.specs.declared.tokens.Pen.{Pen}
use Rattle.papaya_words.specs.declared.refused.Refused.{Refused}
use Rattle.papaya_call.specs.declared.ask.Ask.TheVariants.{SameKey, MakeKey, MakeValue, MakePair, MakePairOf, MakeTable}
use Rattle.papaya_call.specs.declared.ask.Answer.{Answer}
use Rattle.papaya_call.specs.declared.ask.Answer.TheVariants.{Word as Word_read, Exchanged}
use Rattle.papaya_call.specs.declared.ask.Answer.TheVariants.{Found as Found_instead, Yes, Op, Size}
use Rattle.papaya_call.specs.declared.ask.Answer.TheVariants.{Made as Made_number, Ok as Ok_done}
use Rattle.papaya_call.specs.declared.ask.Answer.TheVariants.{Refused as Was_refused}
use Rattle.papaya_call.specs.Machine.{IsFit}
use Rattle.papaya_call.specs.declared.chain.ask.Answer.TheVariants as answers
use Rattle.papaya_call.specs.declared.chain.ask.Ask.TheVariants.{Call}
use Rattle.papaya_call.specs.declared.chain.machine.Machine.{Machine}
use Rattle.papaya_call.specs.ChainMachine.{after, ask_of}
use Rattle.papaya_call_law.proofs.Names.{call_asks}
use Rattle.papaya_map_book.specs.Sheets.{Sheet}
use Rattle.papaya_map_book.specs.declared.rule.entry.Begun.{Begun}
use Rattle.papaya_map_book.specs.declared.rule.entry.Event.{Event}
use Rattle.papaya_map_book.specs.declared.rule.entry.Named.TheVariants as names
use Rattle.papaya_map_book.specs.declared.rule.own.CapacityCause.{CapacityCause}
use Rattle.papaya_map_change.specs.declared.writer.Writer.{Writer}
use Rattle.papaya_map_change.specs.Changing.{IsBringing, IsDriven, IsFresh}
use Rattle.papaya_map_book.specs.Hashes.{hash_of}
use Rattle.papaya_map_lookup.specs.History.{key_of}
use Rattle.papaya_map_book.specs.Logs.{Stored, number_of, pair_named}
use Rattle.papaya_map_book.specs.Makers.{IsMade}
use Rattle.papaya_map_book.specs.Rule.{IsLawfulLog, IsPlaced}
use Rattle.papaya_map_book.specs.declared.book.pairs.KeyPart.{KeyPart}
use Rattle.papaya_map_book.specs.declared.book.pairs.ValuePart.{ValuePart}
use Rattle.papaya_call_law.specs.TrueAnswers.{IsOneOf}
use Rattle.papaya_map_change.specs.Writing.{HasKey, HasValue, IsWriting, IsWritingOn}
use Rattle.papaya_map_change.proofs.Changing.{barren, compared, held_later, quiet}
use Rattle.papaya_map_change.proofs.StepsOfOwn.{own_brings}
use Rattle.papaya_map_lookup.proofs.Readings.{IsQuery}

-- the facts that a call relies on don't depend on the failures so far
module _ {K V S H : Type 0} (eq : K → K → Bool) (hash : S → K → ℕ) (b : Begun K V S) (name : Book) (key : K) (made : List (Stored K V))
    (begun log : List (Event K V S)) (w : Writer K V S H) (given : Rattle.papaya_map_book.specs.declared.rule.own.OwnSteps.OwnSteps CapacityCause) where
  pub with_given : (answer : Answer) → IsWritingOn eq hash b name key made begun log w answer
      → IsWritingOn eq hash b name key made begun log (record w { call = record w.call { copier = record w.call.copier { given = given } } }) answer
  with_given answer on = (record { calling = on.0.calling; keyed = on.0.keyed; valued = on.0.valued; put_placed = on.0.put_placed }, on.1)

-- an answer to an ask to make a part
abbrev pub IsPlainAnswer : Answer → Type 0
IsPlainAnswer (Made_number n) = n < 2 ^ 48
IsPlainAnswer (Was_refused refused) = Unit {0}
IsPlainAnswer Ok_done = Unit {0}
IsPlainAnswer _ = ⊥

plain_fit : (answer : Answer) → IsPlainAnswer answer → IsFit answer
plain_fit (Word_read word) p = absurd p
plain_fit Exchanged p = absurd p
plain_fit (Found_instead word) p = absurd p
plain_fit (Yes same) p = absurd p
plain_fit (Op kind) p = absurd p
plain_fit (Size slots limit) p = absurd p
plain_fit (Made_number n) p = p
plain_fit Ok_done p = tt
plain_fit (Was_refused refused) p = tt

-- such an answer states whether anything was made
abbrev pub IsMakeAnswer : Answer → Type 0
IsMakeAnswer answer = (((refused : Refused) × (answer ≡ Was_refused refused)) ⊎ (answer ≡ Ok_done)) ⊎ ((n : ℕ) × (answer ≡ Made_number n))

make_answer : (answer : Answer) → IsPlainAnswer answer → IsMakeAnswer answer
make_answer (Word_read word) p = absurd p
make_answer Exchanged p = absurd p
make_answer (Found_instead word) p = absurd p
make_answer (Yes same) p = absurd p
make_answer (Op kind) p = absurd p
make_answer (Size slots limit) p = absurd p
make_answer (Made_number n) p = inr (n, refl)
make_answer Ok_done p = inl (inr refl)
make_answer (Was_refused refused) p = inl (inl (refused, refl))

module _ {K V S H : Type 0} (eq : K → K → Bool) (input : K → List (List ℕ)) (build : S → H) (write : H → List ℕ → H) (finish : H → ℕ)
    (classes : IsEquivalence eq) (respects : (x y : K) → eq x y ≡ true → input x ≡ input y)
    (b : Begun K V S) (name : Book) (key : K) where
  abbrev hash : S → K → ℕ
  hash = hash_of input build write finish

  -- a key is a form of itself
  pub own_query : IsQuery eq input (eq key) (input key)
  own_query = record { feeds = λ k h. respects key k h; class = λ k l h. classes.congr key k l h }

  module _ (made : List (Stored K V)) (begun : List (Event K V S)) where
    abbrev pub Writing : List (Event K V S) → Writer K V S H → Type 0
    Writing log w = IsWriting eq hash b name key made begun log w

    abbrev pub WritingOn : List (Event K V S) → Writer K V S H → Answer → Type 0
    WritingOn log w answer = IsWritingOn eq hash b name key made begun log w answer

    module _ (log : List (Event K V S)) (w : Writer K V S H) (r : Writing log w) where
      abbrev m : Machine
      m = w.call.machine

      abbrev IsGoing : List (Event K V S) → List (Stored K V) → Writer K V S H → Type 0
      IsGoing log' made' w' = IsDriven eq hash b name (eq key) (hash b.hasher key) (Some key) begun log' made' w'.call

      -- it continues with the key and the value that it has
      pub goes_on : (made' : List (Stored K V)) (log' : List (Event K V S)) (w' : Writer K V S H) (answer : Answer) → HasKey b name key w'.key
          → HasValue b name w'.value → IsFit answer
          → IsGoing log' made' (record w' { call = record w'.call { machine = after w'.call.machine (answers.Call answer) } })
          → IsPlaced b (Some name) (pair_named w'.call.put) → IsWritingOn eq hash b name key made' begun log' w' answer
      goes_on made' log' w' answer keyed valued fit calling placed = (record { calling = calling; keyed = keyed; valued = valued; put_placed = placed }, fit)

      -- nothing was made for the key, or for the value
      pub key_made : (answer : Answer) → ask_of m ≡ Call MakeKey → IsPlainAnswer answer → WritingOn log w answer
      key_made answer asks plain =
          goes_on made log w answer r.keyed r.valued (plain_fit answer plain)
          (quiet eq input build write finish classes respects b (eq key) (input key) own_query (Some key) name begun log log ([], append-nil log)
          r.calling.lawful m w.call.table w.call.copier.last w.call.copier.kept made w.call.taken w.call.put w.call.copier.fresh r.calling
          MakeKey asks answer w.call.copier.last made w.call.table w.call.copier.fresh
          (record {
            told = (make_answer answer plain, (refl, refl));
            same = refl;
            busy = λ z. z;
            brings = barren eq input build write finish classes respects b (eq key) (input key) own_query (Some key) name begun log log
                ([], append-nil log) r.calling.lawful m w.call.table w.call.copier.last w.call.copier.kept made w.call.taken w.call.put w.call.copier.fresh r.calling MakeKey
                asks tt answer w.call.copier.fresh;
          }) r.calling.holds_table r.calling.last_placed r.calling.made_placed)
          r.put_placed

      pub value_made : (answer : Answer) → ask_of m ≡ Call MakeValue → IsPlainAnswer answer → WritingOn log w answer
      value_made answer asks plain =
          goes_on made log w answer r.keyed r.valued (plain_fit answer plain)
          (quiet eq input build write finish classes respects b (eq key) (input key) own_query (Some key) name begun log log ([], append-nil log)
          r.calling.lawful m w.call.table w.call.copier.last w.call.copier.kept made w.call.taken w.call.put w.call.copier.fresh r.calling
          MakeValue asks answer w.call.copier.last made w.call.table w.call.copier.fresh
          (record {
            told = (make_answer answer plain, (refl, refl));
            same = refl;
            busy = λ z. z;
            brings = barren eq input build write finish classes respects b (eq key) (input key) own_query (Some key) name begun log log
                ([], append-nil log) r.calling.lawful m w.call.table w.call.copier.last w.call.copier.kept made w.call.taken w.call.put w.call.copier.fresh r.calling
                MakeValue asks tt answer w.call.copier.fresh;
          }) r.calling.holds_table r.calling.last_placed r.calling.made_placed)
          r.put_placed

      -- the pair was not stored in the arena
      abbrev pub IsNotStored : Answer → Type 0
      IsNotStored answer = ((refused : Refused) × (answer ≡ Was_refused refused)) ⊎ (answer ≡ Ok_done)

      module _ (own : Option (KeyPart K V)) (value : Option (ValuePart K V)) (keyed : HasKey b name key own) (valued : HasValue b name value) where
        pub pair_unmade : (answer : Answer) → ask_of m ≡ Call MakePair → IsNotStored answer → IsPlainAnswer answer
            → WritingOn log (record w { value = value; key = own }) answer
        pair_unmade answer asks unmade plain =
            goes_on made log (record w { value = value; key = own }) answer keyed valued (plain_fit answer plain)
            (quiet eq input build write finish classes respects b (eq key) (input key) own_query (Some key) name begun log log ([], append-nil log)
            r.calling.lawful m w.call.table w.call.copier.last w.call.copier.kept made w.call.taken w.call.put w.call.copier.fresh r.calling
            MakePair asks answer w.call.copier.last made w.call.table w.call.copier.fresh
            (record {
              told = inl (unmade, (refl, refl));
              same = refl;
              busy = λ z. z;
              brings = barren eq input build write finish classes respects b (eq key) (input key) own_query (Some key) name begun log log
                  ([], append-nil log) r.calling.lawful m w.call.table w.call.copier.last w.call.copier.kept made w.call.taken w.call.put w.call.copier.fresh r.calling
                  MakePair asks tt answer w.call.copier.fresh;
            }) r.calling.holds_table r.calling.last_placed r.calling.made_placed)
            r.put_placed

        pub of_unmade : (n : ℕ) → (answer : Answer) → ask_of m ≡ Call (MakePairOf n) → IsNotStored answer → IsPlainAnswer answer
            → WritingOn log (record w { value = value; key = own }) answer
        of_unmade n answer asks unmade plain =
            goes_on made log (record w { value = value; key = own }) answer keyed valued (plain_fit answer plain)
            (quiet eq input build write finish classes respects b (eq key) (input key) own_query (Some key) name begun log log ([], append-nil log)
            r.calling.lawful m w.call.table w.call.copier.last w.call.copier.kept made w.call.taken w.call.put w.call.copier.fresh r.calling
            (MakePairOf n) asks answer w.call.copier.last made w.call.table w.call.copier.fresh
            (record {
              told = inl (unmade, (refl, refl));
              same = refl;
              busy = λ z. z;
              brings = barren eq input build write finish classes respects b (eq key) (input key) own_query (Some key) name begun log log
                  ([], append-nil log) r.calling.lawful m w.call.table w.call.copier.last w.call.copier.kept made w.call.taken w.call.put w.call.copier.fresh r.calling
                  (MakePairOf n) asks tt answer w.call.copier.fresh;
            }) r.calling.holds_table r.calling.last_placed r.calling.made_placed)
            r.put_placed

        -- the pair was stored in the arena
        module _ (q : Stored K V) (low : q.index < 2 ^ 48) (placed : IsPlaced b (Some name) (names.Pair q)) where
          one_placed : (p : Stored K V) → IsOneOf (q ∷ made) p → IsPlaced b (Some name) (pair_named (Some p))
          one_placed p one = ⊎_elim (λ is. subst (λ (z : Stored K V). IsPlaced b (Some name) (names.Pair z)) (sym is) placed)
              (λ other. r.calling.made_placed p other) one

          pub pair_made : key_of q ≡ key → ask_of m ≡ Call MakePair
              → IsWritingOn eq hash b name key (q ∷ made) begun log (record w { value = value; key = own }) (Made_number q.index)
          pair_made is asks =
              goes_on (q ∷ made) log (record w { value = value; key = own }) (Made_number q.index) keyed valued low
              (quiet eq input build write finish classes respects b (eq key) (input key) own_query (Some key) name begun log log ([], append-nil log)
              r.calling.lawful m w.call.table w.call.copier.last w.call.copier.kept made w.call.taken w.call.put w.call.copier.fresh r.calling
              MakePair asks (Made_number q.index) w.call.copier.last (q ∷ made) w.call.table w.call.copier.fresh
              (record {
                told = inr (q, ap (λ z. Some z) is, (refl, refl, refl));
                same = refl;
                busy = λ z. z;
                brings = barren eq input build write finish classes respects b (eq key) (input key) own_query (Some key) name begun log log
                    ([], append-nil log) r.calling.lawful m w.call.table w.call.copier.last w.call.copier.kept made w.call.taken w.call.put w.call.copier.fresh r.calling
                    MakePair asks tt (Made_number q.index) w.call.copier.fresh;
              }) r.calling.holds_table r.calling.last_placed one_placed)
              r.put_placed

          pub of_made : (n : ℕ) → ((p : Stored K V) → w.call.copier.last ≡ Some p → key_of q ≡ key_of p) → ask_of m ≡ Call (MakePairOf n)
              → IsWritingOn eq hash b name key (q ∷ made) begun log (record w { value = value; key = own }) (Made_number q.index)
          of_made n is asks =
              goes_on (q ∷ made) log (record w { value = value; key = own }) (Made_number q.index) keyed valued low
              (quiet eq input build write finish classes respects b (eq key) (input key) own_query (Some key) name begun log log ([], append-nil log)
              r.calling.lawful m w.call.table w.call.copier.last w.call.copier.kept made w.call.taken w.call.put w.call.copier.fresh r.calling
              (MakePairOf n) asks (Made_number q.index) w.call.copier.last (q ∷ made) w.call.table w.call.copier.fresh
              (record {
                told = inr (q, λ p e f. ap (λ z. Some z) (is p e), (refl, refl, refl));
                same = refl;
                busy = λ z. z;
                brings = barren eq input build write finish classes respects b (eq key) (input key) own_query (Some key) name begun log log
                    ([], append-nil log) r.calling.lawful m w.call.table w.call.copier.last w.call.copier.kept made w.call.taken w.call.put w.call.copier.fresh r.calling
                    (MakePairOf n) asks tt (Made_number q.index) w.call.copier.fresh;
              }) r.calling.holds_table r.calling.last_placed one_placed)
              r.put_placed

      -- the key was compared
      pub key_compared : (n : ℕ) (same : Bool) → ((p : Stored K V) → w.call.copier.last ≡ Some p → same ≡ eq key (key_of p)) → ask_of m ≡ Call (SameKey n)
          → WritingOn log w (Yes same)
      key_compared n same is asks =
          goes_on made log w (Yes same) r.keyed r.valued tt
          (compared eq input build write finish classes respects b (eq key) (input key) own_query (Some key) name begun log m w.call.table w.call.copier.last
          w.call.copier.kept made w.call.taken w.call.put w.call.copier.fresh r.calling n same is asks)
          r.put_placed

      -- the answer to an ask to make a table
      table_told : (log' : List (Event K V S)) → IsPrefix log log' → IsLawfulLog eq hash b log'
          → (slots limit chunks : ℕ) (answer : Answer) (fresh : Option (Where Sheet × Pen)) → ask_of m ≡ Call (MakeTable slots limit chunks)
          → (((refused : Refused) × (answer ≡ Was_refused refused)) ⊎ (answer ≡ Ok_done)) ⊎ ((n : ℕ) × (0 < n) × (answer ≡ Made_number n))
          → IsFit answer → ((n : ℕ) → answer ≡ Made_number n → IsFresh b name log' n fresh)
          → WritingOn log' (record w { call = record w.call { copier = record w.call.copier { fresh = fresh } } }) answer
      table_told log' pre l' slots limit chunks answer fresh asks told fit is_fresh =
          let brings : (n : ℕ) → IsBringing (ask_of (after m (answers.Call answer))) n → IsFresh b name log' n fresh =
          λ n brought. let own = call_asks m (MakeTable slots limit chunks) asks in
          ⊎_elim (λ h. is_fresh n h.0) (λ h. let f = sym own.1 ∙ h in absurd (cc f)) (own_brings m own.0 answer n brought) in
          goes_on made log' (record w { call = record w.call { copier = record w.call.copier { fresh = fresh } } }) answer r.keyed r.valued fit
          (quiet eq input build write finish classes respects b (eq key) (input key) own_query (Some key) name begun log log' pre l' m w.call.table
          w.call.copier.last w.call.copier.kept made w.call.taken w.call.put w.call.copier.fresh r.calling
          (MakeTable slots limit chunks) asks answer w.call.copier.last made w.call.table fresh
          (record { told = (told, (refl, refl)); same = refl; busy = λ z. z; brings = brings })
          (held_later log log' pre r.calling.number w.call.table r.calling.holds_table) r.calling.last_placed r.calling.made_placed)
          r.put_placed

      -- no table was made
      pub table_unmade : (log' : List (Event K V S)) → IsPrefix log log' → IsLawfulLog eq hash b log' → (slots limit chunks : ℕ) (refused : Refused)
          → ask_of m ≡ Call (MakeTable slots limit chunks) → WritingOn log' w (Was_refused refused)
      table_unmade log' pre l' slots limit chunks refused asks = table_told log' pre l' slots limit chunks (Was_refused refused) w.call.copier.fresh asks
          (inl (inl (refused, refl))) tt (λ n e. absurd (cc e))

      -- a table was made
      pub table_made : (log' : List (Event K V S)) → IsPrefix log log' → IsLawfulLog eq hash b log'
          → (slots limit chunks : ℕ) (t : Where Sheet) (seal : Pen) (i : ℕ) → i ≡ number_of t → ask_of m ≡ Call (MakeTable slots limit chunks)
          → IsMade t.value log' → IsPlaced b (Some name) (names.Table t) → seal.book ≡ name → seal.nib ≡ nib may_write t.value.seal 0
          → WritingOn log' (record w { call = record w.call { copier = record w.call.copier { fresh = Some (t, seal) } } }) (Made_number i)
      table_made log' pre l' slots limit chunks t seal i number_is asks is_made placed book is =
          table_told log' pre l' slots limit chunks (Made_number i) (Some (t, seal)) asks (inr (i, omega arith, refl)) (let low = placed.1 in omega arith)
          (λ n e. let number : i ≡ n = cc e in record {
            table = t;
            seal = seal;
            is = refl;
            number_is = sym number_is
                ∙ number;
            made = is_made;
            placed = placed;
            seal_book = book;
            seal_nib = is;
          })
