-- Why a removal is refused: no further table can be made, or memory ran out.
use Rattle.std.proofs.Common.{◌≡◌, ⊎_elim, inl, inr, ℕ, ◌^◌, ◌<◌, ◌-◌, ◌==◌, Bool, true, false, cond, Option, None, Some, slice_get, refl, sym, ◌∙◌, ap, subst}
use denote.Ref.{Bor}
use Rattle.std.specs.Fn.{Mut}
use Rattle.papaya_words.specs.Counter.{count_of}
use Rattle.papaya_words.specs.Table.{TableWords, length_after}
use Rattle.papaya_words.specs.declared.refused.Refused.{Refused}
use Rattle.papaya_call.specs.declared.ask.Ask.{Ask as Call_ask}
use Rattle.papaya_call.specs.declared.ask.Ask.TheVariants.{Load, Exchange, LoadHint, SameKey}
use Rattle.papaya_call.specs.declared.ask.Ask.TheVariants.{ShowPair, SizeOf, AddToShard, MakeKey}
use Rattle.papaya_call.specs.declared.ask.Ask.TheVariants.{MakeValue, MakePair, MakePairOf}
use Rattle.papaya_call.specs.declared.ask.Ask.TheVariants.{MakeTable as Make_own, ShowNone}
use Rattle.papaya_call.specs.declared.ask.Answer.{Answer as Call_answer}
use Rattle.papaya_call.specs.declared.ask.Answer.TheVariants.{Size, Refused as Was_refused}
use Rattle.papaya_call.specs.declared.ask.At.{At}
use Rattle.papaya_call.specs.declared.ask.At.TheVariants.{Root, Next, Aborted, Done, Slot, Made}
use Rattle.papaya_call.specs.declared.call.Task.TheVariants.{RemoveIf}
use Rattle.papaya_call.specs.declared.copy_ask.CopyAsk.{CopyAsk}
use Rattle.papaya_call.specs.declared.copy_ask.CopyAsk.TheVariants as copies
use Rattle.papaya_call.specs.Machine as calls
use Rattle.papaya_call.specs.declared.copy.link.Link.TheVariants as links
use Rattle.papaya_call.specs.declared.chain.ask.Ask.{Ask}
use Rattle.papaya_call.specs.declared.chain.ask.Ask.TheVariants as asks
use Rattle.papaya_call.specs.declared.chain.ask.Answer.{Answer}
use Rattle.papaya_call.specs.declared.chain.ask.Answer.TheVariants as answers
use Rattle.papaya_call.specs.declared.chain.machine.Machine.{Machine}
use Rattle.papaya_call.specs.ChainMachine.{after, ask_of, asks_in, started}
use Rattle.papaya_call_law.specs.Goes.{IsCause, IsToMake, WasNotMade, WouldBeTooLong, link_in}
use Rattle.papaya_call_law.proofs.LinkStates.{In}
use Rattle.papaya_call_law.specs.Relies.{IsNumberAsk}
use Rattle.papaya_core_store.specs.CopyAsks.{PerformsCopy}
use Rattle.papaya_core_store.specs.Performs.{Exchanges, size_of}
use Rattle.papaya_core_store.specs.Store.{StoreState}
use Rattle.papaya_core_store.specs.Tables.{Tables, note, put, put_at, put_in, table_of, word_at}
use Rattle.papaya_core_timeline.proofs.KeptHints.{noted-grown}
use Rattle.papaya_core_timeline.proofs.KeptTables.{HasMoreTables, grown-same, made-grown, table_at, written-grown}
use Rattle.papaya_core_timeline.proofs.StoreLemmas.{matched}
use Rattle.papaya_seq.specs.Map.{MapState}
use Rattle.papaya_seq.specs.Removes.{IsRemovalAnswer}
use Rattle.papaya_seq.proofs.Causes.{HasSlots, IsNoTableRefusal, table_long, table_refused}
use Rattle.papaya_seq.proofs.Initial.{chain_initial}
use Rattle.papaya_seq.proofs.SeekTurns.{IsAnswered}
use Rattle.papaya_seq.proofs.Sizes.{IsSizedLink, is_sized, link_asked, machine_sized, sized_as, sized_beside}

-- each table is as long after a write as before it, also if no table has the address
put_at_grown : (w : Tables) (at : At) (n word : ℕ) → HasMoreTables w.tables (put_at at n w word).tables
put_at_grown w at n word = by_table (table_of w.tables n) refl
  where
    missing : table_of w.tables n ≡ None → put_at at n w word ≡ w
    missing none = by_number (n == 0) refl
      where
        by_number : (b : Bool) → (n == 0) ≡ b → put_at at n w word ≡ w
        by_number true zero = ap (λ b. cond b w (record w { tables = put_in at (slice_get w.tables (n - 1)) w.tables (n - 1) word })) zero
        by_number false some =
            let lacks : slice_get w.tables (n - 1) ≡ None = sym (table_at w.tables n some) ∙ none in
            ap (λ b. cond b w (record w { tables = put_in at (slice_get w.tables (n - 1)) w.tables (n - 1) word })) some
            ∙ ap (λ o. record w { tables = put_in at o w.tables (n - 1) word }) lacks

    by_table : (o : Option TableWords) → table_of w.tables n ≡ o → HasMoreTables w.tables (put_at at n w word).tables
    by_table None none = subst (λ (v : Tables). HasMoreTables w.tables v.tables) (sym (missing none)) (grown-same w.tables)
    by_table (Some t) there = written-grown w at n word t there

pub put_grown : (w : Tables) (at : At) (word : ℕ) → HasMoreTables w.tables (put w at word).tables
put_grown w Root word = grown-same w.tables
put_grown w Made word = grown-same w.tables
put_grown w (Next n) word = put_at_grown w (Next n) n word
put_grown w (Aborted n) word = put_at_grown w (Aborted n) n word
put_grown w (Done n chunk) word = put_at_grown w (Done n chunk) n word
put_grown w (Slot n i) word = put_at_grown w (Slot n i) n word

module _ {K V S : Type 0} where
  grown_as : (s s' : StoreState K V S) (w : Tables) → s'.words ≡ w → HasMoreTables s.words.tables w.tables → HasMoreTables s.words.tables s'.words.tables
  grown_as s s' w is grown = subst (λ (v : Tables). HasMoreTables s.words.tables v.tables) (sym is) grown

  grown_stays : (s s' : StoreState K V S) → s' ≡ s → HasMoreTables s.words.tables s'.words.tables
  grown_stays s s' same = grown_as s s' s.words (ap (λ (y : StoreState K V S). y.words) same) (grown-same s.words.tables)

  grown_exchanged : (found old : ℕ) (at : At) (new : ℕ) (answer : Call_answer) (s s' : StoreState K V S)
      → Exchanges found old (put s.words at new) answer s s' → HasMoreTables s.words.tables s'.words.tables
  grown_exchanged found old at new answer s s' made =
      matched (HasMoreTables s.words.tables s'.words.tables) (found == old) _ _ made
      (λ _ done. grown_as s s' (put s.words at new) (ap (λ (y : StoreState K V S). y.words) done.1) (put_grown s.words at new))
      (λ _ lost. grown_stays s s' lost.1)

  -- an answer to a copy leaves each table, with its slots
  pub copy_grown : (eq : K → K → Bool) (hash : S → K → ℕ) (ask : CopyAsk) (s : StoreState K V S) (answer : Answer) (s' : StoreState K V S)
      → PerformsCopy eq hash false ask s answer s' → HasMoreTables s.words.tables s'.words.tables
  copy_grown eq hash (copies.Load at) s answer s' (_, same) = grown_stays s s' same
  copy_grown eq hash (copies.Exchange at old new) s answer s' (told, _, made) = grown_exchanged (word_at s.words at) old at new told s s' made
  copy_grown eq hash (copies.LoadHint t x) s answer s' (_, same) = grown_stays s s' same
  copy_grown eq hash (copies.WriteHint t x hint) s answer s' (_, is) = grown_as s s' (note s.words t x hint)
      (ap (λ (y : StoreState K V S). y.words) is) (noted-grown s.words t x hint)
  copy_grown eq hash (copies.SizeOf n) s answer s' (_, same) = grown_stays s s' same
  copy_grown eq hash (copies.HashOf n) s answer s' (_, _, same) = grown_stays s s' same
  copy_grown eq hash (copies.SamePair m n) s answer s' (_, same) = grown_stays s s' same
  copy_grown eq hash copies.Count s answer s' (_, same) = grown_stays s s' same
  copy_grown eq hash (copies.MakeTable slots limit chunks) s answer s' (told, _, inl (_, same)) = grown_stays s s' same
  copy_grown eq hash (copies.MakeTable slots limit chunks) s answer s' (told, _, inr (_, _, is)) = grown_as s s' _
      (ap (λ (y : StoreState K V S). y.words) is) (made-grown s.words _ slots limit chunks)

module _ {K V S F : Type 0} (eq : K → K → Bool) (hash : S → K → ℕ) (g : Mut F (Bor K × (Bor V × Unit {0})) Bool) (matches : K → Bool) where
  call_grown : (ask : Call_ask) (s : StoreState K V S) (f : F) (answer : Call_answer) (s' : StoreState K V S) (f' : F)
      → IsRemovalAnswer g matches ask s f answer s' f' → HasMoreTables s.words.tables s'.words.tables
  call_grown (Load at) s f answer s' f' (_, same, _) = grown_stays s s' same
  call_grown (Exchange at old new) s f answer s' f' (made, _) = grown_exchanged (word_at s.words at) old at new answer s s' made
  call_grown (LoadHint t x) s f answer s' f' (_, same, _) = grown_stays s s' same
  call_grown (SameKey n) s f answer s' f' (_, same, _) = grown_stays s s' same
  call_grown (ShowPair n) s f answer s' f' (_, same) = grown_stays s s' same
  call_grown (SizeOf t) s f answer s' f' (_, same, _) = grown_stays s s' same
  call_grown (AddToShard by) s f answer s' f' (_, (number, is), _) = grown_as s s' s.words (ap (λ (y : StoreState K V S). y.words) is)
      (grown-same s.words.tables)
  call_grown ask s f answer s' f' told = absurd told

  answered_grown : (ask : Ask) (s : StoreState K V S) (f : F) (answer : Answer) (s' : StoreState K V S) (f' : F)
      → IsAnswered eq hash g matches ask s f answer s' f' → HasMoreTables s.words.tables s'.words.tables
  answered_grown (asks.Call ask) s f answer s' f' (told, is, done) = call_grown ask s f told s' f' done
  answered_grown (asks.Copy ask) s f answer s' f' (done, same) = copy_grown eq hash ask s answer s' done

  module _ (map : MapState K V S) where
    -- The facts between two answers: the table by which the length of a next one is computed, and
    -- the initial capacity.
    pub record IsCounting (s : StoreState K V S) (m : Machine) : Type 0 where
      pub sized : In (IsSizedLink (HasSlots s)) (link_in m.phase)
      pub initial : m.call.initial ≡ map.initial

    -- as it begins
    pub counting_begun : (hashed number : ℕ) → IsCounting map.store (started RemoveIf hashed map.mode.resize map.initial number map.mode.limit)
    counting_begun hashed number = record { sized = tt; initial = refl }

    module _ (s : StoreState K V S) (f : F) (m : Machine) (answer : Answer) (s' : StoreState K V S) (f' : F)
        (answered : IsAnswered eq hash g matches (ask_of m) s f answer s' f') (now : IsCounting s m) where
      -- the answer to this ask
      answered_at : (ask : Ask) → ask_of m ≡ ask → IsAnswered eq hash g matches ask s f answer s' f'
      answered_at ask e = subst (λ (a : Ask). IsAnswered eq hash g matches a s f answer s' f') e answered

      -- a table that is there stays, with its slots
      still_there : (behind slots : ℕ) → HasSlots s behind slots → HasSlots s' behind slots
      still_there behind slots (t, there, is) = let more = answered_grown (ask_of m) s f answer s' f' answered behind t there in (more.0, more.1, more.2 ∙ is)

      -- the size of a table in an answer
      told_size : (slots limit : ℕ) → answer ≡ answers.Call (Size slots limit) → (behind copied : ℕ) (unfit : Bool)
          → link_in m.phase ≡ Some (links.Sizing behind copied unfit) → HasSlots s' behind slots
      told_size slots limit is behind copied unfit e =
          let (told, same) = answered_at (asks.Copy (copies.SizeOf behind)) (link_asked m (links.Sizing behind copied unfit) e) in
          let both : answers.Call (size_of (table_of s.words.tables behind)) ≡ answers.Call (Size slots limit) = sym told.0 ∙ is in
          let size : size_of (table_of s.words.tables behind) ≡ Size slots limit = cc both in
          still_there behind slots (sized_as (table_of s.words.tables behind) slots limit size)

      -- so after an answer
      pub counting_more : IsCounting s' (after m answer)
      counting_more = record {
        sized = machine_sized (HasSlots s') m answer told_size (sized_beside (HasSlots s) (HasSlots s') still_there (link_in m.phase) now.sized);
        initial = chain_initial m answer ∙ now.initial;
      }

      module _ (refused : Refused) where
        -- the map after it
        abbrev then : MapState K V S
        then = record map { store = s' }

        -- a removal makes nothing for itself
        makes_nothing : (ask : Call_ask) → IsToMake ask → (told : Call_answer) → IsRemovalAnswer g matches ask s f told s' f' → ⊥
        makes_nothing MakeKey makes told removes = removes
        makes_nothing MakePair makes told removes = removes
        makes_nothing MakeValue makes told removes = removes
        makes_nothing (MakePairOf i) makes told removes = removes
        makes_nothing (Make_own slots limit chunks) makes told removes = removes
        makes_nothing ask makes told removes = absurd makes

        -- a next table was not made
        next_refused : WasNotMade m answer refused → IsNoTableRefusal then refused
        next_refused because =
            let ((told, is, made), same) = answered_at (asks.Copy (copies.MakeTable because.slots because.limit because.chunks)) because.asks in
            let both : answers.Call told ≡ answers.Call (Was_refused refused) = sym is ∙ because.is in
            let as_told : told ≡ Was_refused refused = cc both in
            table_refused map s s' refused because.slots because.limit because.chunks told as_told made

        -- or would be too long
        next_long : WouldBeTooLong m answer refused → IsNoTableRefusal then refused
        next_long because =
            let ((is, stays), same) = answered_at (asks.Copy copies.Count) because.asks in
            let both : answers.Count because.count ≡ answers.Count (count_of s.count.sum) = sym because.is ∙ is in
            let counted : because.count ≡ count_of s.count.sum = cc both in
            let at_count : 2 ^ 32 < length_after because.slots (count_of s.count.sum) m.call.initial
            because.unfit = subst (λ n. 2 ^ 32 < length_after because.slots n m.call.initial because.unfit) counted because.long in
            let at_initial : 2 ^ 32 < length_after because.slots (count_of s.count.sum) map.initial
            because.unfit = subst (λ n. 2 ^ 32 < length_after because.slots (count_of s.count.sum) n because.unfit) now.initial at_count in
            table_long map s s' refused because.capacity because.behind because.slots because.unfit
            (is_sized (HasSlots s) (link_in m.phase) now.sized because.behind because.slots because.copied because.unfit because.link) at_initial stays

        -- so a refusal is one of a next table, unless the call asks for numbers for pairs
        pub cause_table : (IsNumberAsk (calls.ask_of m.call) → ⊥) → IsCause m answer refused → IsNoTableRefusal then refused
        cause_table unnumbered (inl by) =
            let (told, is, removes) = answered_at (asks.Call (calls.ask_of m.call)) (ap (asks_in m.call) by.own.phase) in
            elim by.why [
              | inl makes ↦ absurd (makes_nothing (calls.ask_of m.call) makes.0 told removes)
              | inr (inl (full, (most, count, limit, over, numbers, found))) ↦ absurd (unnumbered numbers)
              | inr (inr (nothing, shows, said)) ↦ let (shown, e, none) = answered_at (asks.Call ShowNone) shows in absurd none
            ]
        cause_table unnumbered (inr by) = ⊎_elim next_refused next_long by.why
