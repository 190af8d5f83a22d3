-- A call that inserts after its loads, its exchanges and its count.
use Rattle.std.proofs.Common.{◌≡◌, ◌⊎◌, inr, ⊎_elim, ℕ, ◌==◌, Bool, true, false, cond, MatchBool}
use Rattle.std.proofs.Common.{MatchOption, Option, None, Some, List, [], length, refl, sym, ap, ◌∙◌}
use Rattle.std.proofs.Common.{subst}
use Rattle.std.proofs.lemmas.Bool.{cases_Bool}
use Rattle.std.specs.Cmp.{IsEquivalence}
use mathlib.Core.List.{IsPrefix}
use denote.Bor.{Bor}
use Rattle.boxcar.specs.Table.{Where}
use Rattle.logbook.specs.Pages.{Book, nib, may_write}
use Rattle.logbook.specs.declared.tokens.Pen.{Pen}
use Rattle.papaya_words.specs.Word.{pair_of}
use Rattle.papaya_call.specs.declared.ask.At.{At}
use Rattle.papaya_call.specs.declared.ask.At.TheVariants.{Root, Next, Aborted, Done, Slot, Made as Made_word}
use Rattle.papaya_call.specs.declared.ask.Ask.{Ask}
use Rattle.papaya_call.specs.declared.ask.Ask.TheVariants.{Load, Exchange as Ask_exchange, LoadHint, WriteHint, SizeOf, AddToShard}
use Rattle.papaya_call.specs.declared.ask.Answer.{Answer}
use Rattle.papaya_call.specs.declared.ask.Answer.TheVariants.{Word as Word_read, Exchanged, Found as Found_instead, Size, Ok as Ok_done}
use Rattle.papaya_call.specs.declared.ask.StepKind.{StepKind}
use Rattle.papaya_call.specs.declared.ask.StepKind.TheVariants as kinds
use Rattle.papaya_call.specs.declared.chain.ask.Ask.TheVariants.{Call}
use Rattle.papaya_call.specs.declared.chain.ask.Ask.{Ask as Chain_ask}
use Rattle.papaya_call.specs.declared.chain.machine.Machine.{Machine}
use Rattle.papaya_call.specs.declared.chain.machine.Phase.TheVariants.{Calling}
use Rattle.papaya_call.specs.ChainMachine.{IsValid, ask_of, kind_of_ask, started}
use Rattle.papaya_call_law.proofs.Names.{call_asks}
use Rattle.papaya_call_law.specs.Followed.{MayAsk}
use Rattle.papaya_call_law.specs.Relies.{IsNumberAsk}
use Rattle.papaya_call.specs.declared.call.Task.{Task}
use Rattle.papaya_call.specs.Machine as calls
use Rattle.papaya_call.specs.Search.{IsSize}
use Rattle.papaya_call_law.specs.TrueAnswers.{IsOneOf, or_last}
use Rattle.papaya_call_law.proofs.Followed.{asked_of_task}
use Rattle.papaya_map_book.specs.Sheets.{Sheet}
use Rattle.papaya_map_change.specs.declared.driver.Driver.{Driver}
use Rattle.papaya_map_book.specs.declared.rule.entry.Begun.{Begun}
use Rattle.papaya_map_book.specs.declared.rule.entry.Event.{Event}
use Rattle.papaya_map_book.specs.declared.rule.entry.Named.{Named}
use Rattle.papaya_map_book.specs.declared.rule.entry.Named.TheVariants as names
use Rattle.papaya_map_change.specs.declared.writer.Writer.{Writer}
use Rattle.papaya_map_book.specs.Calls.{IsSlotTried, IsTable, IsTried}
use Rattle.papaya_map_change.specs.Changing.{IsBringing, IsFresh}
use Rattle.papaya_map_change.specs.Driver.{IsHeldAt, IsLoaded}
use Rattle.papaya_map_book.specs.Hashes.{hash_of}
use Rattle.papaya_map_book.specs.Hinted.{IsSlotHint}
use Rattle.papaya_map_book.specs.Logs.{Stored, exchanges_of, number_of, pair_named, state_of}
use Rattle.papaya_map_book.specs.Makers.{IsMade}
use Rattle.papaya_map_book.specs.Plays.{CanExchange, IsPutting}
use Rattle.papaya_map_book.specs.Rule.{IsLawfulLog, IsPlaced}
use Rattle.papaya_map_book.specs.declared.book.pairs.KeyPart.TheVariants as keys
use Rattle.papaya_map_change.specs.Writing.{HasValue, IsWriting, MayOverwrite, IsTakenCount}
use Rattle.papaya_map_change.proofs.Changing.{begins as begins_calling, call_loaded, call_relies}
use Rattle.papaya_map_change.proofs.Changing.{counted, hint_may, hint_table, hinted, load_table}
use Rattle.papaya_map_change.proofs.Changing.{loaded_lawful, loads, noted, size_table, sized}
use Rattle.papaya_map_change.proofs.Changing.{slot_table}
use Rattle.papaya_map_change.proofs.StepsOfOwn.{own_kind}
use Rattle.papaya_map_lookup.proofs.AskedPairs.{asked_kind}
use Rattle.papaya_map_lookup.proofs.Driving.{IsRelying, can_bury, can_put}
use Rattle.papaya_map_lookup.specs.History.{key_of}
use Rattle.papaya_map_change.proofs.Exchanging.{exchanged, lost}
use Rattle.papaya_map_change.proofs.Opens.{beaten}
use Rattle.papaya_map_change.proofs.Opens.{opened}
use Rattle.papaya_map_change.proofs.Taking.{number_found, number_lost, number_taken, take_can}
use Rattle.papaya_map_lookup.proofs.Readings.{IsQuery}
use Rattle.papaya_map_change.proofs.Written.{Writing, WritingOn, goes_on, own_query}

-- such a call that begins, with the key and the value that were passed in
pub begins : {K V S H : Type 0} (eq : K → K → Bool) (hash : S → K → ℕ) (b : Begun K V S) (name : Book) (key : K) (log : List (Event K V S))
    (w : Writer K V S H) → IsLawfulLog eq hash b log → (task : Task) (initial : ℕ) → w.call.machine ≡ started task (hash b.hasher key) b.mode initial 0 b.limit
    → (w.call.table ≡ None) × (w.call.copier.fresh ≡ None) → (w.call.copier.last ≡ None) × (w.call.copier.kept ≡ None) × (w.call.taken ≡ None) × (w.call.put ≡ None)
    → w.key ≡ Some (keys.Own key) → HasValue b name w.value → IsWriting eq hash b name key [] log log w
begins eq hash b name key log w l task initial machine table pairs own valued = record {
  calling = rw (machine, table.0, table.1, pairs.0, pairs.1, pairs.2, pairs.3)
      (begins_calling eq hash b name (eq key) (hash b.hasher key) (Some key) refl log l task initial);
  keyed = rw own (refl, tt);
  valued = valued;
  put_placed = rw pairs.3 tt;
}

-- a property of a pair that is put in for an empty slot, or for a pair, by the kind of the exchange
module _ (X Y : Type 0) where
  claimed_as : (b : Bool) (kind : Option StepKind) → kind ≡ Some (cond b kinds.Claim kinds.Replace) → MatchBool b X Y → kind ≡ Some kinds.Claim → X
  claimed_as true kind is x claims = x
  claimed_as false kind is y claims = absurd (let f = sym is ∙ claims in cc f)

  replaced_as : (b : Bool) (kind : Option StepKind) → kind ≡ Some (cond b kinds.Claim kinds.Replace) → MatchBool b X Y → kind ≡ Some kinds.Replace → Y
  replaced_as true kind is x replaces = absurd (let f = sym is ∙ replaces in cc f)
  replaced_as false kind is y replaces = y

-- a load of how many numbers for pairs were taken returns that
taken_at : {K V S : Type 0} (eq : K → K → Bool) (hash : S → K → ℕ) (b : Begun K V S) (name : Book) (log : List (Event K V S)) (at : At) (word : ℕ)
    (table table' : Option (Bor Sheet)) (last last' : Option (Stored K V)) → IsLoaded eq hash b name at word log table table' last last'
    → IsNumberAsk (Load at) → (state_of log).made ≡ word
taken_at eq hash b name log Root word table table' last last' is number = absurd number
taken_at eq hash b name log (Next t) word table table' last last' is number = absurd number
taken_at eq hash b name log (Aborted t) word table table' last last' is number = absurd number
taken_at eq hash b name log (Done t c) word table table' last last' is number = absurd number
taken_at eq hash b name log (Slot t x) word table table' last last' is number = absurd number
taken_at eq hash b name log Made_word word table table' last last' is number = is.0.is

module _ {K V S H : Type 0} (eq : K → K → Bool) (input : K → List (List ℕ)) (build : S → H) (write : H → List ℕ → H) (finish : H → ℕ)
    (classes : IsEquivalence eq) (respects : (x y : K) → eq x y ≡ true → input x ≡ input y)
    (b : Begun K V S) (name : Book) (key : K) (made : List (Stored K V)) (begun : List (Event K V S)) where
  abbrev hash : S → K → ℕ
  hash = hash_of input build write finish

  abbrev On : List (Event K V S) → Writer K V S H → Answer → Type 0
  On log w answer = WritingOn eq input build write finish classes respects b name key made begun log w answer

  abbrev query : IsQuery eq input (eq key) (input key)
  query = own_query eq input build write finish classes respects b name key

  module _ (log : List (Event K V S)) (w : Writer K V S H) (r : Writing eq input build write finish classes respects b name key made begun log w) where
    abbrev m : Machine
    m = w.call.machine

    module _ (valid : IsValid m) where
      -- the asks that its call may make
      may_ask : (ask : Ask) → ask_of m ≡ Call ask → MayAsk m.call.task (calls.kind_of_ask m.call) ask
      may_ask ask asks = subst (λ (a : Ask). MayAsk m.call.task (calls.kind_of_ask m.call) a) (call_asks m ask asks).1 (asked_of_task m.call valid.call)

      -- the word at a place may be loaded
      pub load_held : (at : At) → ask_of m ≡ Call (Load at) → IsHeldAt at log w.call.table
      load_held at asks = load_table eq input build write finish classes respects b (eq key) (input key) query (Some key) name begun log m
          w.call.table w.call.copier.last w.call.copier.kept made w.call.taken w.call.put w.call.copier.fresh r.calling at asks (may_ask (Load at) asks)

      -- a root is opened if there is none
      module _ (old new : ℕ) (asks : ask_of m ≡ Call (Ask_exchange Root old new)) where
        abbrev kind_open : kind_of_ask m ≡ Some kinds.Open
        kind_open = own_kind m (call_asks m (Ask_exchange Root old new) asks).0 ∙ (may_ask (Ask_exchange Root old new) asks).1

        abbrev asks_zero : ask_of m ≡ Call (Ask_exchange Root 0 new)
        asks_zero = asks ∙ ap (λ (n : ℕ). Call (Ask_exchange Root n new)) (may_ask (Ask_exchange Root old new) asks).2

        -- the table that is to be opened is at hand
        pub opening : IsFresh b name log new w.call.copier.fresh
        opening = r.calling.brings new (subst (λ (a : Chain_ask). IsBringing a new) (sym asks_zero) (refl, refl))

        -- the table at hand is that table, with its seal
        pub opening_of : (t : Where Sheet) (seal : Pen) → w.call.copier.fresh ≡ Some (t, seal) → (number_of t ≡ new) × IsMade t.value log
            × IsPlaced b (Some name) (names.Table t) × (seal.book ≡ name) × (seal.nib ≡ nib may_write t.value.seal 0)
        opening_of t seal e =
            let both = sym opening.is ∙ e in
            let two : ◌≡◌ {A = Where Sheet × Pen} (opening.table, opening.seal) (t, seal) = cc both in
            subst (λ (z : Where Sheet × Pen). (number_of z.0 ≡ new) × IsMade z.0.value log × IsPlaced b (Some name) (names.Table z.0)
            × (z.1.book ≡ name) × (z.1.nib ≡ nib may_write z.0.value.seal 0)) two
            (opening.number_is, opening.made, opening.placed, opening.seal_book, opening.seal_nib)

        module _ (log' : List (Event K V S)) (found : ℕ) (t : Where Sheet) (state : Option (Named K V)) (lent : Bor Sheet)
            (fresh' : Option (Where Sheet × Pen)) (tried : IsTried eq hash b Root (Some kinds.Open) 0 new None (names.Table t) log found log' state) where
          abbrev w' : Writer K V S H
          w' = record w { call = record w.call { table = Some lent; copier = record w.call.copier { fresh = fresh' } } }

          -- it was opened
          pub opened_here : (found == 0) ≡ true → IsTable log' new lent.now → On log' w' Exchanged
          opened_here is holds =
              goes_on eq input build write finish classes respects b name key made begun log w r made log' w' Exchanged r.keyed r.valued tt
              (opened eq input build write finish classes respects b (eq key) (input key) query (Some key) name begun log log' m w.call.table
              w.call.copier.last w.call.copier.kept made w.call.taken w.call.put w.call.copier.fresh fresh' r.calling new found t state asks_zero kind_open tried lent is holds)
              r.put_placed

          -- another one was
          pub opened_there : (found == 0) ≡ false → IsTable log' found lent.now → On log' w' (Found_instead found)
          opened_there is holds =
              goes_on eq input build write finish classes respects b name key made begun log w r made log' w' (Found_instead found) r.keyed r.valued tt
              (beaten eq input build write finish classes respects b (eq key) (input key) query (Some key) name begun log log' m w.call.table
              w.call.copier.last w.call.copier.kept made w.call.taken w.call.put w.call.copier.fresh fresh' r.calling new found t state asks_zero kind_open tried lent is holds)
              r.put_placed

      -- a number for a pair may be taken
      module _ (old new : ℕ) (asks : ask_of m ≡ Call (Ask_exchange Made_word old new)) where
        abbrev kind_take : kind_of_ask m ≡ Some kinds.Take
        kind_take = own_kind m (call_asks m (Ask_exchange Made_word old new) asks).0 ∙ (may_ask (Ask_exchange Made_word old new) asks).1

        pub taking : CanExchange eq hash b Made_word (kind_of_ask m) old new None names.Nothing log
        taking = take_can eq input build write finish classes respects b (eq key) (input key) query (Some key) name begun log m w.call.table
            w.call.copier.last w.call.copier.kept made w.call.taken w.call.put w.call.copier.fresh r.calling old new asks kind_take

        -- after the attempt the call relies on facts that hold, and has received how many are taken
        -- if another was first
        module _ (log' : List (Event K V S)) (found : ℕ) (state : Option (Named K V))
            (tried : IsTried eq hash b Made_word (kind_of_ask m) old new None names.Nothing log found log' state) where
          abbrev Tells : Bool → Answer → Type 0
          Tells z answer = MatchBool z (answer ≡ Exchanged) (answer ≡ Found_instead found)

          pub took_on : (answer : Answer) → Tells (found == old) answer → On log' w answer
          took_on answer told =
              ⊎_elim
              (λ is. subst (On log' w) (sym (subst (λ (z : Bool). Tells z answer) is told))
              (goes_on eq input build write finish classes respects b name key made begun log w r made log' w Exchanged r.keyed r.valued tt
              (number_taken eq input build write finish classes respects b (eq key) (input key) query (Some key) name begun log m w.call.table
              w.call.copier.last w.call.copier.kept made w.call.taken w.call.put w.call.copier.fresh r.calling old new asks kind_take log' found state tried is) r.put_placed))
              (λ is. subst (On log' w) (sym (subst (λ (z : Bool). Tells z answer) is told))
              (goes_on eq input build write finish classes respects b name key made begun log w r made log' w (Found_instead found) r.keyed r.valued
              tt (number_lost eq input build write finish classes respects b (eq key) (input key) query (Some key) name begun log m w.call.table
              w.call.copier.last w.call.copier.kept made w.call.taken w.call.put w.call.copier.fresh r.calling old new asks kind_take log' found state tried is) r.put_placed))
              (cases_Bool (found == old))

          pub took_tells : (answer : Answer) → Tells (found == old) answer → IsTakenCount log' (calls.ask_of m.call) answer
          took_tells answer told number count says =
              ⊎_elim
              (λ is. let e = subst (λ (z : Bool). Tells z answer) is told in
              absurd (⊎_elim (λ s. let f = sym e ∙ s in cc f) (λ s. let f = sym e ∙ s in cc f) says))
              (λ is.
              let e = subst (λ (z : Bool). Tells z answer) is told in
              let made_is = number_found eq input build write finish classes respects b (eq key) (input key) query (Some key) name begun log m
              w.call.table w.call.copier.last w.call.copier.kept made w.call.taken w.call.put w.call.copier.fresh r.calling old new asks kind_take log' found state tried is in
              ⊎_elim (λ s. absurd (let f = sym e ∙ s in cc f)) (λ s. let f = sym e ∙ s in made_is ∙ cc f) says)
              (cases_Bool (found == old))

    -- a place was loaded
    pub loaded_on : (log' : List (Event K V S)) → IsPrefix log log' → (at : At) (word : ℕ) (c : Driver K V S H)
        → c ≡ record w.call { table = c.table; copier = record w.call.copier { last = c.copier.last } } → ask_of m ≡ Call (Load at)
        → IsLoaded eq hash b name at word log' w.call.table c.table w.call.copier.last c.copier.last → On log' (record w { call = c }) (Word_read word)
    loaded_on log' pre at word c rest asks is =
        let calling = loads eq input build write finish classes respects b (eq key) (input key) query (Some key) name begun log log' pre
        (loaded_lawful eq hash b name log' at word w.call.table c.table w.call.copier.last c.copier.last is) m w.call.table w.call.copier.last w.call.copier.kept made
        w.call.taken w.call.put w.call.copier.fresh r.calling at word c.table c.copier.last asks is in
        subst (λ (z : Driver K V S H). On log' (record w { call = z }) (Word_read word)) (sym rest)
        (goes_on eq input build write finish classes respects b name key made begun log w r made log'
        (record w { call = record w.call { table = c.table; copier = record w.call.copier { last = c.copier.last } } }) (Word_read word) r.keyed r.valued tt calling r.put_placed)

    -- the number of numbers for pairs that were taken was received
    pub loaded_tells : (log' : List (Event K V S)) (at : At) (word : ℕ) (c : Driver K V S H) → ask_of m ≡ Call (Load at)
        → IsLoaded eq hash b name at word log' w.call.table c.table w.call.copier.last c.copier.last → IsTakenCount log' (calls.ask_of m.call) (Word_read word)
    loaded_tells log' at word c asks is number count says =
        let made_is = taken_at eq hash b name log' at word w.call.table c.table w.call.copier.last c.copier.last is
        (subst IsNumberAsk (call_asks m (Load at) asks).1 number) in
        ⊎_elim (λ e. made_is ∙ cc e) (λ e. absurd (cc e)) says

    -- a slot whose hint is loaded or written is one of the table that is held
    pub hint_held : (t i : ℕ) → (ask_of m ≡ Call (LoadHint t i)) ⊎ ((hint : ℕ) × (ask_of m ≡ Call (WriteHint t i hint))) → IsHeldAt (Slot t i) log w.call.table
    hint_held t i asks = hint_table eq input build write finish classes respects b (eq key) (input key) query (Some key) name begun log m w.call.table
        w.call.copier.last w.call.copier.kept made w.call.taken w.call.put w.call.copier.fresh r.calling t i asks

    -- a hint that is written may be the slot's
    pub hint_can : (t i n : ℕ) → ask_of m ≡ Call (WriteHint t i n) → IsSlotHint eq hash b t i n log
    hint_can t i n asks = hint_may eq input build write finish classes respects b (eq key) (input key) query (Some key) name begun log m w.call.table
        w.call.copier.last w.call.copier.kept made w.call.taken w.call.put w.call.copier.fresh r.calling t i n asks

    -- a hint was loaded
    pub hinted_on : (log' : List (Event K V S)) → IsPrefix log log' → (t i n : ℕ) → ask_of m ≡ Call (LoadHint t i) → IsSlotHint eq hash b t i n log'
        → On log' w (Word_read n)
    hinted_on log' pre t i n asks is =
        goes_on eq input build write finish classes respects b name key made begun log w r made log' w (Word_read n) r.keyed r.valued tt
        (hinted eq input build write finish classes respects b (eq key) (input key) query (Some key) name begun log log' pre is.lawful m w.call.table
        w.call.copier.last w.call.copier.kept made w.call.taken w.call.put w.call.copier.fresh r.calling t i n asks is)
        r.put_placed

    -- and one was written
    pub noted_on : (t i n : ℕ) → ask_of m ≡ Call (WriteHint t i n) → On log w Ok_done
    noted_on t i n asks =
        goes_on eq input build write finish classes respects b name key made begun log w r made log w Ok_done r.keyed r.valued tt
        (noted eq input build write finish classes respects b (eq key) (input key) query (Some key) name begun log m w.call.table w.call.copier.last
        w.call.copier.kept made w.call.taken w.call.put w.call.copier.fresh r.calling t i n asks)
        r.put_placed

    -- a table whose size is asked for is held
    pub size_held : (t : ℕ) → ask_of m ≡ Call (SizeOf t) → w.call.table ≡ None → ⊥
    size_held t asks none = subst (λ (o : Option (Bor Sheet)). MatchOption o ⊥ (λ z. IsTable log t z.now)) none
        (size_table eq input build write finish classes respects b (eq key) (input key) query (Some key) name begun log m w.call.table w.call.copier.last
        w.call.copier.kept made w.call.taken w.call.put w.call.copier.fresh r.calling t asks)

    -- its size was received
    pub sized_on : (t : ℕ) (lent : Bor Sheet) → w.call.table ≡ Some lent → (slots limit : ℕ) → slots ≡ length lent.now.slots → limit ≡ lent.now.limit
        → IsSize slots limit → ask_of m ≡ Call (SizeOf t) → On log w (Size slots limit)
    sized_on t lent has slots limit slots_is limit_is size asks =
        goes_on eq input build write finish classes respects b name key made begun log w r made log w (Size slots limit) r.keyed r.valued size
        (sized eq input build write finish classes respects b (eq key) (input key) query (Some key) name begun log m w.call.table w.call.copier.last
        w.call.copier.kept made w.call.taken w.call.put w.call.copier.fresh r.calling t lent has slots limit slots_is limit_is asks)
        r.put_placed

    -- the change was counted
    pub counted_on : (by : _) → ask_of m ≡ Call (AddToShard by) → On log w Ok_done
    counted_on by asks =
        goes_on eq input build write finish classes respects b name key made begun log w r made log w Ok_done r.keyed r.valued tt
        (counted eq input build write finish classes respects b (eq key) (input key) query (Some key) name begun log m w.call.table w.call.copier.last
        w.call.copier.kept made w.call.taken w.call.put w.call.copier.fresh r.calling by asks)
        r.put_placed

    module _ (t i old new : ℕ) (asks : ask_of m ≡ Call (Ask_exchange (Slot t i) old new)) where
      -- the slot is one of the table that is held
      pub slot_held : IsHeldAt (Slot t i) log w.call.table
      slot_held = slot_table eq input build write finish classes respects b (eq key) (input key) query (Some key) name begun log m w.call.table
          w.call.copier.last w.call.copier.kept made w.call.taken w.call.put w.call.copier.fresh r.calling t i (inr (old, new, asks))

      abbrev its_own : (m.phase ≡ Calling) × (calls.ask_of m.call ≡ Ask_exchange (Slot t i) old new)
      its_own = call_asks m (Ask_exchange (Slot t i) old new) asks

      abbrev relying : IsRelying eq input build write finish classes respects b (eq key) (input key) query (Some key) (exchanges_of begun) log m.call
          (call_loaded eq input build write finish classes respects b (eq key) (input key) query (Some key) name begun w.call.copier.last made)
      relying = call_relies eq input build write finish classes respects b (eq key) (input key) query (Some key) name begun log m w.call.table
          w.call.copier.last w.call.copier.kept made w.call.taken w.call.put w.call.copier.fresh r.calling

      -- a pair that is put in is claimed for an empty slot, or replaces another
      kind_at : IsPutting (kind_of_ask m) → kind_of_ask m ≡ Some (cond (old == 0) kinds.Claim kinds.Replace)
      kind_at kind = let same = own_kind m its_own.0 in same ∙ asked_kind m.call t i old new its_own.1 (subst IsPutting same kind)

      -- a pair that is claimed has the call's key, if it may be put there
      pub claims_own : IsPutting (kind_of_ask m) → (q : Stored K V) → MayOverwrite log key t i old q → kind_of_ask m ≡ Some kinds.Claim → key_of q ≡ key
      claims_own kind q stands claims = claimed_as _ _ (old == 0) (kind_of_ask m) (kind_at kind) stands claims

      -- a pair that may be put there may be put in, if one of its number was asked for
      pub put_can : IsPutting (kind_of_ask m) → (q : Stored K V) → MayOverwrite log key t i old q → pair_of new ≡ q.index
          → CanExchange eq hash b (Slot t i) (kind_of_ask m) old new (Some q) (names.Pair q) log
      put_can kind q stands number =
          let same = own_kind m its_own.0 in
          subst (λ (z : Option StepKind). CanExchange eq hash b (Slot t i) z old new (Some q) (names.Pair q) log) (sym same)
          (can_put eq input build write finish classes respects b (eq key) (input key) query (Some key) (exchanges_of begun) log r.calling.lawful
          m.call (call_loaded eq input build write finish classes respects b (eq key) (input key) query (Some key) name begun w.call.copier.last made)
          relying t i old new its_own.1 (subst IsPutting same kind) q (
            λ claims. ap (λ z. Some z) (claims_own kind q stands (same ∙ claims)),
            λ replaces.
                replaced_as _ _ (old == 0) (kind_of_ask m) (kind_at kind) stands (same ∙ replaces),
          ) number)

      -- and a pair may be deleted
      pub bury_can : kind_of_ask m ≡ Some kinds.Bury → CanExchange eq hash b (Slot t i) (kind_of_ask m) old new None names.Nothing log
      bury_can kind =
          let same = own_kind m its_own.0 in
          subst (λ (z : Option StepKind). CanExchange eq hash b (Slot t i) z old new None names.Nothing log) (sym same)
          (can_bury eq input build write finish classes respects b (eq key) (input key) query (Some key) (exchanges_of begun) log r.calling.lawful
          m.call (call_loaded eq input build write finish classes respects b (eq key) (input key) query (Some key) name begun w.call.copier.last made)
          relying t i old new its_own.1 (sym same ∙ kind))

      -- a pair that is put in is one of the pairs that were made
      put_is_placed : (put : Option (Stored K V)) → ((q : Stored K V) → put ≡ Some q → IsOneOf made q) → IsPlaced b (Some name) (pair_named put)
      put_is_placed None own = tt
      put_is_placed (Some q) own = r.calling.made_placed q (own q refl)

      -- There was an attempt at an exchange that puts in one of the pairs that were made, or none.
      module _ (put : Option (Stored K V)) (own : (q : Stored K V) → put ≡ Some q → IsOneOf made q)
          (claims : kind_of_ask m ≡ Some kinds.Claim → (q : Stored K V) → put ≡ Some q → key_of q ≡ key) (log' : List (Event K V S)) (found : ℕ)
          (pair : Option (Stored K V)) (s : IsSlotTried eq hash b name t i (kind_of_ask m) old new put (pair_named put) log found log' pair) where
        -- it was made
        slot_changed : (found == old) ≡ true → On log' (record w { call = record w.call { taken = pair; put = put } }) Exchanged
        slot_changed is =
            goes_on eq input build write finish classes respects b name key made begun log w r made log'
            (record w { call = record w.call { taken = pair; put = put } }) Exchanged r.keyed r.valued tt
            (exchanged eq input build write finish classes respects b (eq key) (input key) query (Some key) name begun log log' m w.call.table
            w.call.copier.last w.call.copier.kept made w.call.taken w.call.put w.call.copier.fresh r.calling t i old new found put pair asks s own
            (λ claim q has. ap (λ z. Some z) (claims claim q has)) is)
            (put_is_placed put own)

        -- it was not
        slot_lost : (found == old) ≡ false → On log' (record w { call = record w.call { copier = record w.call.copier { last = or_last pair w.call.copier.last } } }) (Found_instead found)
        slot_lost is =
            goes_on eq input build write finish classes respects b name key made begun log w r made log'
            (record w { call = record w.call { copier = record w.call.copier { last = or_last pair w.call.copier.last } } }) (Found_instead found) r.keyed r.valued tt
            (lost eq input build write finish classes respects b (eq key) (input key) query (Some key) name begun log log' m w.call.table w.call.copier.last
            w.call.copier.kept made w.call.taken w.call.put w.call.copier.fresh r.calling t i old new found put pair asks s is)
            r.put_placed

        -- the state of the call afterwards
        abbrev AfterTried : Bool → Driver K V S H → Answer → Type 0
        AfterTried z c answer = MatchBool z ((answer ≡ Exchanged) × (c ≡ record w.call { taken = pair; put = put }))
            ((answer ≡ Found_instead found) × (c ≡ record w.call { copier = record w.call.copier { last = or_last pair w.call.copier.last } }))

        pub tried_on : (c : Driver K V S H) (answer : Answer) → AfterTried (found == old) c answer → On log' (record w { call = c }) answer
        tried_on c answer h =
            ⊎_elim
            (λ is. let g = subst (λ (z : Bool). AfterTried z c answer) is h in
            subst (λ (z : Driver K V S H × Answer). On log' (record w { call = z.0 }) z.1) (λ j. (sym g.1 j, sym g.0 j)) (slot_changed is))
            (λ is. let g = subst (λ (z : Bool). AfterTried z c answer) is h in
            subst (λ (z : Driver K V S H × Answer). On log' (record w { call = z.0 }) z.1) (λ j. (sym g.1 j, sym g.0 j)) (slot_lost is))
            (cases_Bool (found == old))
