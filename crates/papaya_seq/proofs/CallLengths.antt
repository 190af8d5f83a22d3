-- The lengths of the tables that a call on a key makes in a map for one caller.
use Rattle.std.proofs.Common.{◌≡◌, ◌⊎◌, inl, inr, ⊎_elim, ℕ, zero, suc, ◌<◌, ◌≤◌, Bool, false, List}
use Rattle.std.proofs.Common.{[], ◌∷◌, ◌++◌, length, map, max, slice_get, Option, None, Some, refl}
use Rattle.std.proofs.Common.{sym, ◌∙◌, ap, subst, arith}
use Rattle.std.proofs.lemmas.Bool.{cases_lt}
use Rattle.std.proofs.lemmas.List.{append_assoc, append-nil}
use Rattle.std.proofs.lemmas.List.Elements.{All-append, All-cons, All-contains, All-nil, Contains-append_left}
use Rattle.std.specs.List.{All, Contains}
use Rattle.papaya_words.specs.Counter.{count_of}
use Rattle.papaya_words.specs.Table.{TableWords, length_after}
use Rattle.papaya_words.specs.declared.limits.TheConstants.{FIRST_TABLE_LEN, FIRST_TABLE_LIMIT, LEAST_TABLE_LEN}
use Rattle.papaya_call.specs.declared.ask.Answer.{Answer as Call_answer}
use Rattle.papaya_call.specs.declared.ask.Answer.TheVariants as told
use Rattle.papaya_call.specs.declared.ask.Ask.TheVariants.{MakeTable}
use Rattle.papaya_call.specs.declared.call.Reply.{Reply}
use Rattle.papaya_call.specs.declared.call.Reply.TheVariants.{Inserted, Removed}
use Rattle.papaya_call.specs.declared.copy_ask.CopyAsk.{CopyAsk}
use Rattle.papaya_call.specs.declared.copy_ask.CopyAsk.TheVariants as copies
use Rattle.papaya_call.specs.declared.search.Search.TheVariants as searches
use Rattle.papaya_call_alone.specs.Ahead.{IsCurrent, IsPhaseRead}
use Rattle.papaya_call_law.specs.Alone.{IsRead}
use Rattle.papaya_call.specs.declared.machine.State.{State}
use Rattle.papaya_call.specs.declared.machine.State.TheVariants.{AtRoot, Making, Opening, Searching}
use Rattle.papaya_call.specs.declared.machine.State.TheVariants.{Writing, Offering, Showing}
use Rattle.papaya_call.specs.declared.machine.State.TheVariants.{Pairing, Putting, Burying}
use Rattle.papaya_call.specs.declared.machine.State.TheVariants.{Counting, Noting, Uncounting}
use Rattle.papaya_call.specs.declared.machine.State.TheVariants.{Leaving, Growing, Ended}
use Rattle.papaya_call.specs.declared.write.Claimed.{Claimed}
use Rattle.papaya_call.specs.declared.made.Made.{Made}
use Rattle.papaya_call.specs.Machine.{asks as call_asks}
use Rattle.papaya_call.specs.Machine as call_machine
use Rattle.papaya_call.specs.declared.copy.link.Link.{Link}
use Rattle.papaya_call.specs.declared.copy.link.Link.TheVariants as links
use Rattle.papaya_call.specs.Copying.{copying_ask}
use Rattle.papaya_call.specs.Link.{link_ask}
use Rattle.papaya_call.specs.declared.chain.ask.Answer.{Answer}
use Rattle.papaya_call.specs.declared.chain.ask.Answer.TheVariants as answers
use Rattle.papaya_call.specs.declared.chain.ask.Ask.TheVariants as asks
use Rattle.papaya_call.specs.declared.chain.machine.Machine.{Machine}
use Rattle.papaya_call.specs.declared.chain.machine.Phase.{Phase}
use Rattle.papaya_call.specs.declared.chain.machine.Phase.TheVariants.{Calling, Linking, Copying as Copying_root}
use Rattle.papaya_call.specs.ChainMachine.{after, ask_of, asks_in}
use Rattle.papaya_call_law.specs.Goes.{link_in}
use Rattle.papaya_call_law.proofs.LinkStates.{In}
use Rattle.papaya_core_store.specs.declared.pairs.Running.{Running}
use Rattle.papaya_core_store.specs.Asks.{PerformsAsk}
use Rattle.papaya_core_store.specs.CopyAsks.{PerformsCopy}
use Rattle.papaya_core_store.specs.Performs.{size_of}
use Rattle.papaya_core_store.specs.Store.{StoreState}
use Rattle.papaya_core_store.specs.Tables.{Tables, table_of, word_at}
use Rattle.papaya_core_timeline.specs.Advances.{reply_in}
use Rattle.papaya_core_timeline.specs.Solo.{whatever}
use Rattle.papaya_core_timeline.proofs.KeptTables.{table_there}
use Rattle.papaya_seq.specs.Lengths.{IsLongEnough, IsMadeBeside, IsNextLength, lengths_of}
use Rattle.papaya_seq.specs.Map.{Grows, MapState, slots_in}
use Rattle.papaya_call.specs.Compute.{in_place_of}
use Rattle.papaya_call_law.proofs.Makings.{HoldsOfPairAsks, pair_holds, write_holds}
use Rattle.papaya_seq.proofs.Initial.{chain_initial}
use Rattle.papaya_seq.proofs.LinkLeads.{IsLed, machine_leads}
use Rattle.papaya_seq.proofs.LinkLengths.{IsLongLink, copy_good, led_long, link_good, long_beside, next_enough}
use Rattle.papaya_seq.proofs.Sizes.{link_asked, sized_as}
use Rattle.papaya_seq.proofs.TableLengths.{IsCountedBy, IsLengthened, copy_counts, copy_long, own_counts, own_long}

-- an ask for a pair is no ask for a table
no_tables : (slots limit chunks : ℕ) → HoldsOfPairAsks (λ ask. ask ≡ MakeTable slots limit chunks → ⊥)
no_tables slots limit chunks = record {
  loads = λ e. absurd cc;
  takes = λ count e. absurd cc;
  key = λ e. absurd cc;
  value = λ e.
      absurd cc;
  pair = λ e. absurd cc;
  pair_of = λ n e. absurd cc;
}

-- a call that asks for a table for itself makes its first one
makes_first : (made : Made) (hash : ℕ) (state : State) (slots limit chunks : ℕ) → call_asks made hash state ≡ MakeTable slots limit chunks
    → (state ≡ Making) × (slots ≡ FIRST_TABLE_LEN)
makes_first made hash Making slots limit chunks e = (refl, let f : MakeTable FIRST_TABLE_LEN FIRST_TABLE_LIMIT 0 ≡ MakeTable slots limit chunks = e in sym cc)
makes_first made hash AtRoot slots limit chunks e = absurd cc
makes_first made hash (Opening t) slots limit chunks e = absurd cc
makes_first made hash (Searching (searches.Sizing t)) slots limit chunks e = absurd cc
makes_first made hash (Searching (searches.Looking at)) slots limit chunks e = absurd cc
makes_first made hash (Searching (searches.Reading at)) slots limit chunks e = absurd cc
makes_first made hash (Searching (searches.Comparing at word)) slots limit chunks e = absurd cc
makes_first made hash (Writing write) slots limit chunks e = absurd
    (write_holds (λ ask. ask ≡ MakeTable slots limit chunks → ⊥) (no_tables slots limit chunks) write (λ n e. absurd cc) made e)
makes_first made hash (Offering gap) slots limit chunks e = absurd cc
makes_first made hash (Showing removal) slots limit chunks e = absurd cc
makes_first made hash (Pairing purpose) slots limit chunks e = absurd
    (pair_holds (λ ask. ask ≡ MakeTable slots limit chunks → ⊥) (no_tables slots limit chunks) made (in_place_of purpose) e)
makes_first made hash (Putting put) slots limit chunks e = absurd cc
makes_first made hash (Burying removal) slots limit chunks e = absurd cc
makes_first made hash (Counting n) slots limit chunks e = absurd cc
makes_first made hash (Noting n) slots limit chunks e = absurd cc
makes_first made hash (Uncounting n) slots limit chunks e = absurd cc
makes_first made hash (Leaving t) slots limit chunks e = absurd cc
makes_first made hash (Growing need) slots limit chunks e = absurd cc
makes_first made hash (Ended reply) slots limit chunks e = absurd cc

-- the reply of a call in this state, if its ask succeeds
abbrev replied_at : Machine → Phase → State → Option Reply
replied_at m phase state = reply_in (ask_of (after (record m { phase = phase; call = record m.call { state = state } }) (answers.Call told.Ok)))

-- a call that adds to the count ends with this reply
count_ends : (m : Machine) (state : State) (reply : Reply) → m.phase ≡ Calling → m.call.state ≡ state → replied_at m Calling state ≡ Some reply
    → reply_in (ask_of (after m (answers.Call told.Ok))) ≡ Some reply
count_ends m state reply calling is ends = ap (λ phase. replied_at m phase m.call.state) calling ∙ ap (λ st. replied_at m Calling st) is ∙ ends

-- a call that has counted its claim, and writes its hint
abbrev pub HasCounted : Machine → Type 0
HasCounted m = (m.phase ≡ Calling) × ((claimed : Claimed) × (m.call.state ≡ Noting claimed))

-- one that counts a claim writes its hint next
counts_next : (m : Machine) (claimed : Claimed) → m.phase ≡ Calling → m.call.state ≡ Counting claimed → HasCounted (after m (answers.Call told.Ok))
counts_next m claimed calling is =
    subst (λ phase. HasCounted (after (record m { phase = phase }) (answers.Call told.Ok))) (sym calling)
    (subst (λ st. HasCounted (after (record m { phase = Calling; call = record m.call { state = st } }) (answers.Call told.Ok))) (sym is)
    (refl, (claimed, refl)))

-- a table that is there has one of the lengths
length_there : (tables : List TableWords) (i : ℕ) (t : TableWords) → slice_get tables i ≡ Some t
    → Contains (map (λ (u : TableWords). length u.slots) tables) (length t.slots)
length_there [] i t e = let f : None ≡ Some t = e in absurd cc
length_there (u ∷ tables) zero t e = let same : u ≡ t = cc e in (0, omega arith, ap (λ (v : TableWords). length v.slots) same)
length_there (u ∷ tables) (suc i) t e = let (j, within, is) = length_there tables i t e in (suc j, omega (arith, within), is)

pub table_length : (tables : List TableWords) (n : ℕ) (t : TableWords) → table_of tables n ≡ Some t
    → Contains (map (λ (u : TableWords). length u.slots) tables) (length t.slots)
table_length tables n t e = length_there tables _ t (table_there tables n t e).1

-- the root has as many slots as the initial capacity, or there is none
pub root_long : (initial : ℕ) (words : Tables) → IsLongEnough initial words → (slots_in (table_of words.tables words.root) ≡ 0)
    ⊎ (initial ≤ slots_in (table_of words.tables words.root))
root_long initial words enough = of_table (table_of words.tables words.root) refl
  where
    of_table : (o : Option TableWords) → table_of words.tables words.root ≡ o → (slots_in (table_of words.tables words.root) ≡ 0)
        ⊎ (initial ≤ slots_in (table_of words.tables words.root))
    of_table None e = inl (ap slots_in e)
    of_table (Some t) e = inr (subst (λ n. initial ≤ n) (sym (ap slots_in e))
        (All-contains (λ len. initial ≤ len) (lengths_of words) (length t.slots) enough.tables (table_length words.tables words.root t e)))

module _ {K V S : Type 0} (eq : K → K → Bool) (hash : S → K → ℕ) (store store' : StoreState K V S) (m : Machine) (answer : Answer) where
  -- One step of a call: its own ask left the lengths, and counted nothing unless it adds to the
  -- count; the ask for a copy was performed. If it makes its first table, there was no root; a root
  -- stays.
  pub record IsCallStep : Type 0 where
    pub own : m.phase ≡ Calling → IsLengthened (λ slots. (limit chunks : ℕ) × (call_machine.ask_of m.call ≡ MakeTable slots limit chunks)) store store'
    pub counted : m.phase ≡ Calling → (told_so : Call_answer) × (answer ≡ answers.Call told_so) × IsCountedBy (call_machine.ask_of m.call) store told_so store'
    pub copy : (ask : CopyAsk) → ask_of m ≡ asks.Copy ask → PerformsCopy eq hash false ask store answer store'
    pub first : m.phase ≡ Calling → m.call.state ≡ Making → store.words.root ≡ 0
    pub stays : 0 < store.words.root → 0 < store'.words.root

  -- the step that performs an ask of a call under way is one
  pub performed_so : (r later : Running K V (Unit {0})) → r.machine ≡ m → PerformsAsk eq whatever hash false (ask_of m) store r answer store' later
      → IsCurrent (word_at store.words) m → (0 < store.words.root → 0 < store'.words.root) → IsCallStep
  performed_so r later is performs read stays = record {
    own = λ calling. let (told_so, told_is, h) = calling_performs calling in
        own_long eq whatever false (call_machine.ask_of m.call) store r told_so store' later h;
    counted = λ calling. let (told_so, told_is, h) = calling_performs calling in
        (told_so, told_is, own_counts eq whatever false (call_machine.ask_of m.call) store r told_so store' later h);
    copy = λ ask e. (subst (λ a. PerformsAsk eq whatever hash false a store r answer store' later) e performs).0;
    first = λ calling making.
        let phase : IsPhaseRead m.call.mode (word_at store.words) m.call.state
        Calling = subst (IsPhaseRead m.call.mode (word_at store.words) m.call.state) calling read.read in
        subst (IsRead (word_at store.words)) making phase.0;
    stays = stays;
  }
    where
      calling_performs : m.phase ≡ Calling → PerformsAsk eq whatever hash false (asks.Call (call_machine.ask_of m.call)) store r answer store' later
      calling_performs calling = subst (λ phase. PerformsAsk eq whatever hash false (asks_in m.call phase) store r answer store' later) calling performs

module _ {K V S : Type 0} (s : MapState K V S) where
  -- as many pairs as the map counts
  abbrev pub pairs : ℕ
  pairs = count_of s.store.count.sum

  -- a length that follows one of these
  abbrev pub Follows : List ℕ → ℕ → Type 0
  Follows lengths len = (before : ℕ) × Contains lengths before × IsNextLength s.initial pairs before len

  -- the tables that the call has made, and the lengths on which it relies
  pub record IsLong (store : StoreState K V S) (m : Machine) : Type 0 where
    pub enough : All (λ len. s.initial ≤ len) (lengths_of store.words)
    pub made : Grows s (record s { store = store })
    pub link : In (IsLongLink (Follows (lengths_of store.words)) (lengths_of store.words)) (link_in m.phase)
    pub initial : m.call.initial ≡ s.initial
    pub count : reply_in (ask_of m) ≡ None → (HasCounted m → ⊥) → store.count ≡ s.store.count
    pub rooted : 0 < s.store.words.root → 0 < store.words.root
    pub first : s.store.words.root ≡ 0 → s.initial ≤ LEAST_TABLE_LEN

  -- a call that makes no table
  pub none_made : Grows s s
  none_made = record { made = []; more = sym (append-nil (lengths_of s.store.words)); each = All-nil _ }

  -- as it begins
  pub long_begun : IsLongEnough s.initial s.store.words → (m : Machine) → m.phase ≡ Calling → m.call.initial ≡ s.initial → IsLong s.store m
  long_begun enough m calling initial = record {
    enough = enough.tables;
    made = none_made;
    link = subst (λ phase. In (IsLongLink (Follows (lengths_of s.store.words)) (lengths_of s.store.words)) (link_in phase)) (sym calling) tt;
    initial = initial;
    count = λ going uncounted. refl;
    rooted = λ some. some;
    first = enough.first;
  }

  -- the lengths of its tables after it: if there is no root, there was none
  pub long_left : (store : StoreState K V S) (m : Machine) → IsLong store m → IsLongEnough s.initial store.words
  long_left store m long = record {
    tables = long.enough;
    first = λ none. ⊎_elim
        (λ (some : 0 < s.store.words.root). let kept = long.rooted some in absurd (omega (arith, kept, none)))
        (λ (least : s.store.words.root ≤ 0). long.first (omega (arith, least)))
        (cases_lt 0 s.store.words.root);
  }

  module _ (eq : K → K → Bool) (hash : S → K → ℕ) (store store' : StoreState K V S) (m : Machine) (answer : Answer)
      (going : reply_in (ask_of m) ≡ None) (step : IsCallStep eq hash store store' m answer) (long : IsLong store m) where
    abbrev lengths : List ℕ
    lengths = lengths_of store.words

    abbrev lengths' : List ℕ
    lengths' = lengths_of store'.words

    -- a table of this length may be made
    abbrev MayMake : ℕ → Type 0
    MayMake slots = IsMadeBeside s.initial pairs s.store.words.root lengths slots

    -- if the call makes its first table, there was no root
    no_root : m.phase ≡ Calling → m.call.state ≡ Making → s.store.words.root ≡ 0
    no_root calling making =
        let now = step.first calling making in
        ⊎_elim
        (λ (some : 0 < s.store.words.root). let kept = long.rooted some in absurd (omega (arith, now, kept)))
        (λ (none : s.store.words.root ≤ 0). omega (arith, none))
        (cases_lt 0 s.store.words.root)

    -- the tables after the step
    lengthened : IsLengthened MayMake store store'
    lengthened = by_phase m.phase refl long.link
      where
        asked_first : (slots : ℕ) → m.phase ≡ Calling → (limit chunks : ℕ) × (call_machine.ask_of m.call ≡ MakeTable slots limit chunks) → MayMake slots
        asked_first slots calling (limit, chunks, e) = let (making, is) = makes_first m.call.made m.call.hash m.call.state slots limit chunks e in
            inl (no_root calling making, is)

        by_call : m.phase ≡ Calling → IsLengthened (λ slots. (limit chunks : ℕ) × (call_machine.ask_of m.call ≡ MakeTable slots limit chunks)) store
            store' → IsLengthened MayMake store store'
        by_call calling (inl same) = inl same
        by_call calling (inr (slots, asked, more)) = inr (slots, asked_first slots calling asked, more)

        by_copy : (ask : CopyAsk) → ((slots limit chunks : ℕ) → ask ≡ copies.MakeTable slots limit chunks → Follows lengths slots)
            → IsLengthened (λ slots. (limit chunks : ℕ) × (ask ≡ copies.MakeTable slots limit chunks)) store store' → IsLengthened MayMake store store'
        by_copy ask good (inl same) = inl same
        by_copy ask good (inr (slots, (limit, chunks, asked), more)) = inr (slots, inr (good slots limit chunks asked), more)

        by_phase : (phase : Phase) → m.phase ≡ phase → In (IsLongLink (Follows lengths) lengths) (link_in phase) → IsLengthened MayMake store store'
        by_phase Calling e link = by_call e (step.own e)
        by_phase (Linking made) e link = by_copy (link_ask made)
            (λ slots limit chunks asked. link_good (Follows lengths) lengths made slots limit chunks asked link)
            (copy_long eq false hash (link_ask made) store answer store' (step.copy (link_ask made) (ap (asks_in m.call) e)))
        by_phase (Copying_root goes) e link = by_copy (copying_ask goes)
            (λ slots limit chunks asked. copy_good (Follows lengths) lengths goes slots limit chunks asked link)
            (copy_long eq false hash (copying_ask goes) store answer store' (step.copy (copying_ask goes) (ap (asks_in m.call) e)))

    -- every table of before is still there
    still_there : (len : ℕ) → Contains lengths len → Contains lengths' len
    still_there len there = ⊎_elim
        (λ same. subst (λ l. Contains l len) (sym same) there)
        (λ grown. let (slots, asked, more) = grown in subst (λ l. Contains l len) (sym more) (Contains-append_left lengths (slots ∷ []) len there))
        lengthened

    still_beside : (len : ℕ) → IsMadeBeside s.initial pairs s.store.words.root lengths len → IsMadeBeside s.initial pairs s.store.words.root lengths' len
    still_beside len (inl none) = inl none
    still_beside len (inr (before, there, follows)) = inr (before, still_there before there, follows)

    still_follows : (len : ℕ) → Follows lengths len → Follows lengths' len
    still_follows len (before, there, follows) = (before, still_there before there, follows)

    -- one that may be made is long enough
    made_enough : (slots : ℕ) → MayMake slots → s.initial ≤ slots
    made_enough slots (inl (none, is)) =
        let few : s.initial ≤ 8 = long.first none in
        let first_is : slots ≡ 32 = is in
        omega (arith, few, first_is)
    made_enough slots (inr (before, there, (unfit, is))) =
        subst (λ n. s.initial ≤ n) (sym is) (next_enough s.initial before pairs unfit (All-contains (λ len. s.initial ≤ len) lengths before long.enough there))

    all_enough : All (λ len. s.initial ≤ len) lengths'
    all_enough = ⊎_elim
        (λ same. subst (All (λ len. s.initial ≤ len)) (sym same) long.enough)
        (λ grown. let (slots, asked, more) = grown in
        subst (All (λ len. s.initial ≤ len)) (sym more)
        (All-append (λ len. s.initial ≤ len) lengths (slots ∷ []) long.enough
        (All-cons (λ len. s.initial ≤ len) slots [] (made_enough slots asked) (All-nil _))))
        lengthened

    all_made : Grows s (record s { store = store' })
    all_made =
        let beside' : All (IsMadeBeside s.initial pairs s.store.words.root lengths') long.made.made = λ i d within.
        still_beside _ (long.made.each i d within) in
        ⊎_elim
        (λ same. record { made = long.made.made; more = same ∙ long.made.more; each = beside' })
        (λ grown. let (slots, asked, more) = grown in record {
          made = long.made.made ++ slots ∷ [];
          more = more ∙ ap (λ l. l ++ slots ∷ []) long.made.more ∙ append_assoc (lengths_of s.store.words) long.made.made (slots ∷ []);
          each = All-append (IsMadeBeside s.initial pairs s.store.words.root lengths') long.made.made (slots ∷ []) beside'
              (All-cons (IsMadeBeside s.initial pairs s.store.words.root lengths') slots [] (still_beside slots asked)
              (All-nil (IsMadeBeside s.initial pairs s.store.words.root lengths')));
        })
        lengthened

    -- the making of a table
    sizes : (made : Link) → link_in m.phase ≡ Some made → (slots limit : ℕ) → answer ≡ answers.Call (told.Size slots limit)
        → (behind copied : ℕ) (unfit : Bool) → made ≡ links.Sizing behind copied unfit → Contains lengths' slots
    sizes made e slots limit is behind copied unfit sizing =
        let h = step.copy (copies.SizeOf behind) (link_asked m (links.Sizing behind copied unfit) (e ∙ ap (λ x. Some x) sizing)) in
        let f : answers.Call (size_of (table_of store.words.tables behind)) ≡ answers.Call (told.Size slots limit) = sym h.0 ∙ is in
        let size : size_of (table_of store.words.tables behind) ≡ told.Size slots limit = cc f in
        let (t, there, long_is) = sized_as (table_of store.words.tables behind) slots limit size in
        still_there slots (subst (Contains lengths) long_is (table_length store.words.tables behind t there))

    counts : (made : Link) → link_in m.phase ≡ Some made → (count : ℕ) → answer ≡ answers.Count count → (behind before copied : ℕ) (unfit : Bool)
        → made ≡ links.Counting behind unfit before copied → Contains lengths' before → Follows lengths' (max (length_after before count s.initial unfit) 8)
    counts made e count is behind before copied unfit counting there =
        let h = step.copy copies.Count (link_asked m (links.Counting behind unfit before copied) (e ∙ ap (λ x. Some x) counting)) in
        let f : answers.Count (count_of store.count.sum) ≡ answers.Count count = sym h.0 ∙ is in
        let count_is : count_of store.count.sum ≡ count = cc f in
        let same : count_of store.count.sum ≡ pairs = ap (λ c. count_of c.sum)
        (long.count going (λ counted. let f : None ≡ Some made = sym (ap link_in counted.0) ∙ e in absurd cc)) in
        (before, there, (unfit, ap (λ n. max (length_after before n s.initial unfit) 8) (sym count_is ∙ same)))

    link_long : In (IsLongLink (Follows lengths') lengths') (link_in (after m answer).phase)
    link_long =
        led_long (Follows lengths') lengths' m.call.mode s.initial answer (link_in m.phase) (link_in (after m answer).phase)
        (subst (λ n. In (IsLed m.call.mode n answer (link_in m.phase)) (link_in (after m answer).phase)) long.initial (machine_leads m answer))
        sizes counts (long_beside (Follows lengths) (Follows lengths') lengths lengths' still_follows still_there (link_in m.phase) long.link)

    -- nothing is counted before the call ends, or has only its hint to write
    none_counted : reply_in (ask_of (after m answer)) ≡ None → (HasCounted (after m answer) → ⊥) → store'.count ≡ s.store.count
    none_counted goes_on uncounted = by_phase m.phase refl ∙ long.count going (λ counted. noted counted.0 counted.1.0 counted.1.1)
      where
        -- after its hint it has replied
        noted : m.phase ≡ Calling → (claimed : Claimed) → m.call.state ≡ Noting claimed → ⊥
        noted calling claimed is =
            let (told_so, told_is, h) = step.counted calling in
            let (ok, same) = subst (λ st. IsCountedBy (call_asks m.call.made m.call.hash st) store told_so store') is h in
            let f : None ≡ Some (Inserted claimed.pair) = sym goes_on ∙ ap (λ a. reply_in (ask_of (after m a))) (told_is ∙ ap answers.Call ok)
            ∙ count_ends m (Noting claimed) (Inserted claimed.pair) calling is refl in
            absurd cc

        ends : (told_so : Call_answer) → answer ≡ answers.Call told_so → told_so ≡ told.Ok → (reply : Reply)
            → reply_in (ask_of (after m (answers.Call told.Ok))) ≡ Some reply → store'.count ≡ store.count
        ends told_so is ok reply replied =
            let f : None ≡ Some reply = sym goes_on ∙ ap (λ a. reply_in (ask_of (after m a))) (is ∙ ap answers.Call ok) ∙ replied in
            absurd cc

        pair_counts : (told_so : Call_answer) → HoldsOfPairAsks (λ ask. IsCountedBy ask store told_so store' → store'.count ≡ store.count)
        pair_counts told_so = record { loads = λ c. c; takes = λ count c. c; key = λ c. c; value = λ c. c; pair = λ c. c; pair_of = λ n c. c }

        by_state : (made : Made) (hashed : ℕ) (state : State) → m.phase ≡ Calling → m.call.state ≡ state → (told_so : Call_answer)
            → answer ≡ answers.Call told_so → IsCountedBy (call_asks made hashed state) store told_so store' → store'.count ≡ store.count
        by_state made hashed (Counting n) calling is told_so told_is h = absurd
            (uncounted (subst (λ a. HasCounted (after m a)) (sym (told_is ∙ ap answers.Call h)) (counts_next m n calling is)))
        by_state made hashed (Noting n) calling is told_so told_is h = h.1
        by_state made hashed (Uncounting n) calling is told_so told_is h = ends told_so told_is h (Removed n)
            (count_ends m (Uncounting n) (Removed n) calling is refl)
        by_state made hashed AtRoot calling is told_so told_is h = h
        by_state made hashed Making calling is told_so told_is h = h
        by_state made hashed (Opening t) calling is told_so told_is h = h
        by_state made hashed (Searching (searches.Sizing t)) calling is told_so told_is h = h
        by_state made hashed (Searching (searches.Looking at)) calling is told_so told_is h = h
        by_state made hashed (Searching (searches.Reading at)) calling is told_so told_is h = h
        by_state made hashed (Searching (searches.Comparing at word)) calling is told_so told_is h = h
        by_state made hashed (Writing write) calling is told_so told_is h = write_holds
            (λ ask. IsCountedBy ask store told_so store' → store'.count ≡ store.count) (pair_counts told_so) write (λ n c. c) made h
        by_state made hashed (Offering gap) calling is told_so told_is h = h
        by_state made hashed (Showing removal) calling is told_so told_is h = h
        by_state made hashed (Pairing purpose) calling is told_so told_is h = pair_holds
            (λ ask. IsCountedBy ask store told_so store' → store'.count ≡ store.count) (pair_counts told_so) made (in_place_of purpose) h
        by_state made hashed (Putting put) calling is told_so told_is h = h
        by_state made hashed (Burying removal) calling is told_so told_is h = h
        by_state made hashed (Leaving t) calling is told_so told_is h = h
        by_state made hashed (Growing need) calling is told_so told_is h = h
        by_state made hashed (Ended reply) calling is told_so told_is h = h

        by_phase : (phase : Phase) → m.phase ≡ phase → store'.count ≡ store.count
        by_phase Calling e = let (told_so, is, h) = step.counted e in by_state m.call.made m.call.hash m.call.state e refl told_so is h
        by_phase (Linking made) e = copy_counts eq false hash (link_ask made) store answer store' (step.copy (link_ask made) (ap (asks_in m.call) e))
        by_phase (Copying_root goes) e = copy_counts eq false hash (copying_ask goes) store answer store' (step.copy (copying_ask goes) (ap (asks_in m.call) e))

    -- after one more answer
    pub long_more : IsLong store' (after m answer)
    long_more = record {
      enough = all_enough;
      made = all_made;
      link = link_long;
      initial = chain_initial m answer ∙ long.initial;
      count = none_counted;
      rooted = λ some. step.stays (long.rooted some);
      first = long.first;
    }
