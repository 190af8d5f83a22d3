-- The lengths of the tables that are made by a call that resizes a map for one caller: none is
-- shorter than the initial capacity.
use Rattle.std.proofs.Common.{◌≡◌, inl, inr, ⊎_elim, ℕ, ◌+◌, ◌==◌, ◌<◌, ◌≤◌, ◌^◌, nat_le, Bool}
use Rattle.std.proofs.Common.{false, List, [], ◌∷◌, max, Option, None, Some, option_map, refl, sym}
use Rattle.std.proofs.Common.{◌∙◌, ap, subst, arith}
use Rattle.std.proofs.lemmas.Bool.{cases_lt, cond_both, eqb-true, leb-false}
use Rattle.std.proofs.lemmas.List.Elements.{All-append, All-cons, All-contains, All-nil, Contains-append_left}
use Rattle.std.specs.List.{All, Contains}
use Rattle.papaya_words.specs.declared.limits.TheConstants.{LEAST_TABLE_LEN}
use Rattle.papaya_words.specs.declared.resize_mode.ResizeMode.{ResizeMode}
use Rattle.papaya_call.specs.declared.ask.Answer.{Answer as Call_answer}
use Rattle.papaya_call.specs.declared.ask.Answer.TheVariants as told
use Rattle.papaya_call.specs.declared.ask.At.TheVariants.{Root}
use Rattle.papaya_call.specs.declared.copy_ask.CopyAsk.{CopyAsk}
use Rattle.papaya_call.specs.declared.copy_ask.CopyAsk.TheVariants as copies
use Rattle.papaya_call.specs.declared.copy.copying.Copied.{Copied}
use Rattle.papaya_call.specs.declared.copy.copying.Copied.TheVariants as copied_to
use Rattle.papaya_call.specs.declared.copy.link.Link.{Link}
use Rattle.papaya_call.specs.declared.copy.link.Linked.{Linked}
use Rattle.papaya_call.specs.declared.copy.link.Linked.TheVariants as linked_to
use Rattle.papaya_call.specs.Link.{follows, link_ask}
use Rattle.papaya_call.specs.Copying.{copying_ask}
use Rattle.papaya_call.specs.declared.chain.ask.Answer.{Answer}
use Rattle.papaya_call.specs.declared.chain.ask.Answer.TheVariants as answers
use Rattle.papaya_call.specs.declared.chain.resizer.Resize.{Resize}
use Rattle.papaya_call.specs.declared.chain.resizer.Resize.TheVariants as resizes
use Rattle.papaya_call.specs.declared.chain.resizer.Resizer.{Resizer}
use Rattle.papaya_call.specs.declared.chain.resizer.TableSize.{TableSize}
use Rattle.papaya_call.specs.declared.chain.resizer.ResizerState.{ResizerState}
use Rattle.papaya_call.specs.declared.chain.resizer.ResizerState.TheVariants as stages
use Rattle.papaya_call.specs.ChainMachine as machine
use Rattle.papaya_call.specs.Resizer.{after, after_in, ask_of, asks_in, at_count, at_last, at_next}
use Rattle.papaya_call.specs.Resizer.{at_root, called, copied, copies as copies_root, counted}
use Rattle.papaya_call.specs.Resizer.{judges, linked, makes, over, told_root}
use Rattle.papaya_call.specs.TableSize.{entries_of, room_of, room_of_len}
use Rattle.papaya_call_law.specs.Copier.{link_in_copying}
use Rattle.papaya_call_law.proofs.CopyRefusals.{copying_asks}
use Rattle.papaya_call_law.proofs.LinkStates.{In, Linked_in}
use Rattle.papaya_core_store.specs.CopyAsks.{PerformsCopy}
use Rattle.papaya_core_store.specs.Performs.{size_of}
use Rattle.papaya_core_store.specs.Store.{StoreState}
use Rattle.papaya_core_store.specs.Tables.{table_of}
use Rattle.papaya_core_timeline.proofs.CallersLemmas.{same_item}
use Rattle.papaya_seq.specs.Lengths.{IsLongEnough, lengths_of}
use Rattle.papaya_seq.specs.Map.{MapState}
use Rattle.papaya_seq.proofs.CallLengths.{table_length}
use Rattle.papaya_seq.proofs.LinkLeads.{IsCopyLedFrom, copying_leads}
use Rattle.papaya_seq.proofs.LinkLengths.{Counts, IsLongLink, Sizes, after_long, copy_good, led_long, link_good, long_beside, next_enough}
use Rattle.papaya_seq.proofs.Sizes.{sized_as}
use Rattle.papaya_seq.proofs.TableLengths.{IsLengthened, copy_long}

-- the making that is under way, if one is
abbrev pub stage_link : ResizerState → Option Link
stage_link (stages.Linking link) = Some link
stage_link (stages.Copying from copying) = link_in_copying copying
stage_link _ = None

module _ (initial : ℕ) where
  -- a table of this length is no shorter than the initial capacity
  abbrev pub IsEnough : ℕ → Type 0
  IsEnough len = initial ≤ len

  abbrev pub IsRoomy : Option TableSize → Type 0
  IsRoomy None = Unit {0}
  IsRoomy (Some room) = initial ≤ room.len

  -- the room that is made has enough slots if the least table has
  room_enough : initial ≤ 8 → (pairs : ℕ) → IsRoomy (room_of pairs)
  room_enough few pairs = cond_both (nat_le (entries_of pairs) (2 ^ 32)) (Some (room_of_len (max (entries_of pairs) 8))) None IsRoomy
      (λ _. omega (arith, few)) (λ _. tt)

  module _ (lengths : List ℕ) where
    -- the lengths on which a resizer relies
    abbrev pub IsLongStage : ResizerState → Type 0
    IsLongStage (stages.Making room) = initial ≤ room.len
    IsLongStage (stages.Counting root len) = initial ≤ len
    IsLongStage (stages.Looking root len room) = IsRoomy room
    IsLongStage (stages.Linking link) = IsLongLink IsEnough lengths link
    IsLongStage (stages.Copying from copying) = In (IsLongLink IsEnough lengths) (link_in_copying copying)
    IsLongStage _ = Unit {0}

    -- a table that it asks for is long enough
    pub stage_good : (stage : ResizerState) (slots limit chunks : ℕ) → asks_in stage ≡ Some (copies.MakeTable slots limit chunks) → IsLongStage stage → initial ≤ slots
    stage_good (stages.Making room) slots limit chunks e h = let same : room.len
        ≡ slots = (let f : copies.MakeTable room.len room.limit 0 ≡ copies.MakeTable slots limit chunks = cc e in cc f) in subst (λ n. initial ≤ n) same h
    stage_good (stages.Linking made) slots limit chunks e h = link_good IsEnough lengths made slots limit chunks
        (let f : link_ask made ≡ copies.MakeTable slots limit chunks = cc e in f) h
    stage_good (stages.Copying from goes) slots limit chunks e h = copy_good IsEnough lengths goes slots limit chunks
        (let f : copying_ask goes ≡ copies.MakeTable slots limit chunks = cc e in f) h
    stage_good other slots limit chunks e h = absurd cc

    -- the next stage while nothing is linked or copied
    makes_long : (room : Option TableSize) → IsRoomy room → IsLongStage (makes room)
    makes_long None h = tt
    makes_long (Some room) h = h

    root_long : (resize : Resize) (root : ℕ) → (root ≡ 0 → initial ≤ 8) → IsLongStage (at_root resize root)
    root_long (resizes.Reserve more) root first = cond_both (root == 0) (makes (room_of more)) (stages.Sizing root) IsLongStage
        (λ e. makes_long (room_of more) (room_enough (first (eqb-true root 0 e)) more)) (λ _. tt)
    root_long resizes.Chunk root first = cond_both (root == 0) stages.Done (stages.Looking root 0 None) IsLongStage (λ _. tt) (λ _. tt)
    root_long resizes.CopyAll root first = cond_both (root == 0) stages.Done (stages.Looking root 0 None) IsLongStage (λ _. tt) (λ _. tt)

    judges_long : (root len : ℕ) (room : Option TableSize) → initial ≤ len → IsLongStage (judges root len room)
    judges_long root len None h = tt
    judges_long root len (Some room) h = cond_both (nat_le room.len len) stages.Done (stages.Looking root len (Some room)) IsLongStage (λ _. tt)
        (λ e. let more = leb-false room.len len e in omega (arith, more, h))

    count_long : (resize : Resize) (root len count : ℕ) → initial ≤ len → IsLongStage (at_count resize root len count)
    count_long (resizes.Reserve more) root len count h = judges_long root len (room_of (count + more)) h
    count_long resizes.Chunk root len count h = tt
    count_long resizes.CopyAll root len count h = tt

    last_long : (mode : ResizeMode) (root len : ℕ) (room : Option TableSize) → IsRoomy room → IsLongStage (at_last mode root len room)
    last_long mode root len None h = tt
    last_long mode root len (Some room) h = h

    next_long : (mode : ResizeMode) (root len : ℕ) (room : Option TableSize) (next : ℕ) → IsRoomy room → IsLongStage (at_next mode root len room next)
    next_long mode root len room next h = cond_both (next == 0) (at_last mode root len room) (copies_root root) IsLongStage
        (λ _. last_long mode root len room h) (λ _. tt)

    module _ (resize : Resize) (mode : ResizeMode) (answer : Answer) (stage : ResizerState) where
      -- the facts about the answer: if the root that it loads is 0, the least table is long enough;
      -- sizes and counts are those of the map
      pub record IsToldSo : Type 0 where
        pub root : (root : ℕ) → answer ≡ answers.Call (told.Word root) → stage ≡ stages.AtRoot → root ≡ 0 → initial ≤ 8
        pub size : (slots limit : ℕ) → answer ≡ answers.Call (told.Size slots limit) → (root : ℕ) → stage ≡ stages.Sizing root → initial ≤ slots
        pub sizes : (made : Link) → stage_link stage ≡ Some made → Sizes IsEnough lengths mode initial answer made
        pub counts : (made : Link) → stage_link stage ≡ Some made → Counts IsEnough lengths mode initial answer made

    told_long : (resize : Resize) (mode : ResizeMode) (stage : ResizerState) (a : Call_answer) → IsToldSo resize mode (answers.Call a) stage
        → IsLongStage stage → IsLongStage (told_root resize mode stage a)
    told_long resize mode stages.AtRoot (told.Word root) so h = root_long resize root (so.root root refl refl)
    told_long resize mode (stages.Making room) (told.Made table) so h = tt
    told_long resize mode (stages.Making room) (told.Refused refused) so h = tt
    told_long resize mode (stages.Opening table) told.Exchanged so h = tt
    told_long resize mode (stages.Opening table) (told.Found word) so h = tt
    told_long resize mode (stages.Sizing root) (told.Size slots limit) so h = so.size slots limit refl root refl
    told_long resize mode (stages.Looking root len room) (told.Word next) so h = next_long mode root len room next h
    told_long resize mode stage a so h = h

    counted_long : (resize : Resize) (stage : ResizerState) (count : ℕ) → IsLongStage stage → IsLongStage (counted resize stage count)
    counted_long resize (stages.Counting root len) count h = count_long resize root len count h
    counted_long resize stage count h = h

    called_long : (resize : Resize) (mode : ResizeMode) (stage : ResizerState) (a : Answer) → IsToldSo resize mode a stage → IsLongStage stage
        → IsLongStage (called resize mode stage a)
    called_long resize mode stage (answers.Call a) so h = told_long resize mode stage a so h
    called_long resize mode stage (answers.Count count) so h = counted_long resize stage count h
    called_long resize mode stage (answers.Hash hash) so h = h

    -- and after that
    linked_long : (root : ℕ) (end : Linked) → Linked_in (IsLongLink IsEnough lengths) end → IsLongStage (linked root end)
    linked_long root (linked_to.On link) h = h
    linked_long root (linked_to.Table table) h = tt
    linked_long root (linked_to.Refused refused) h = tt

    over_long : (resize : Resize) → IsLongStage (over resize)
    over_long resizes.Chunk = tt
    over_long resizes.CopyAll = tt
    over_long (resizes.Reserve more) = tt

    -- the stage after a copy
    copied_long : (resize : Resize) (mode : ResizeMode) (from : ℕ) (answer : Answer) (o : Option Link) (end : Copied)
        → IsCopyLedFrom mode initial answer o end → ((made : Link) → o ≡ Some made → Sizes IsEnough lengths mode initial answer made)
        → ((made : Link) → o ≡ Some made → Counts IsEnough lengths mode initial answer made) → In (IsLongLink IsEnough lengths) o
        → IsLongStage (copied resize from end)
    copied_long resize mode from answer o (copied_to.On copying) led sizes counts h = led_long IsEnough lengths mode initial answer o
        (link_in_copying copying) led sizes counts h
    copied_long resize mode from answer o (copied_to.Refused refused) led sizes counts h = tt
    copied_long resize mode from answer o (copied_to.Search table) led sizes counts h = over_long resize
    copied_long resize mode from answer o (copied_to.Root root) led sizes counts h = over_long resize
    copied_long resize mode from answer o copied_to.Chunk led sizes counts h = over_long resize

    pub stage_long : (resize : Resize) (mode : ResizeMode) (number : ℕ) (answer : Answer) (stage : ResizerState) → IsToldSo resize mode answer stage
        → IsLongStage stage → IsLongStage (after_in resize mode initial number answer stage)
    stage_long resize mode number answer (stages.Linking link) so h = linked_long (follows link) (machine.link_after link mode initial answer)
        (after_long IsEnough lengths mode initial link answer (so.sizes link refl) (so.counts link refl) h)
    stage_long resize mode number answer (stages.Copying from goes) so h = copied_long resize mode from answer (link_in_copying goes)
        (machine.copying_after goes mode initial number answer) (copying_leads mode initial answer goes number) so.sizes so.counts h
    stage_long resize mode number answer stages.AtRoot so h = called_long resize mode stages.AtRoot answer so h
    stage_long resize mode number answer (stages.Making room) so h = called_long resize mode (stages.Making room) answer so h
    stage_long resize mode number answer (stages.Opening table) so h = called_long resize mode (stages.Opening table) answer so h
    stage_long resize mode number answer (stages.Sizing root) so h = called_long resize mode (stages.Sizing root) answer so h
    stage_long resize mode number answer (stages.Counting root len) so h = called_long resize mode (stages.Counting root len) answer so h
    stage_long resize mode number answer (stages.Looking root len room) so h = called_long resize mode (stages.Looking root len room) answer so h
    stage_long resize mode number answer stages.Done so h = called_long resize mode stages.Done answer so h
    stage_long resize mode number answer (stages.Refused refused) so h = called_long resize mode (stages.Refused refused) answer so h

-- an ask of a resizer that makes a table
stage_asks : (stage : ResizerState) (made : Link) → stage_link stage ≡ Some made → asks_in stage ≡ Some (link_ask made)
stage_asks (stages.Linking link) made e = ap (option_map link_ask) e
stage_asks (stages.Copying from goes) made e = ap (λ x. Some x) (copying_asks goes made e)
stage_asks other made e = absurd cc

module _ {K V S : Type 0} (s : MapState K V S) where
  -- the tables that the call has made, and the lengths on which it relies
  pub record IsLongResize (store : StoreState K V S) (z : Resizer) : Type 0 where
    pub enough : All (IsEnough s.initial) (lengths_of store.words)
    pub stage : IsLongStage s.initial (lengths_of store.words) z.state
    pub rooted : 0 < s.store.words.root → 0 < store.words.root
    pub first : s.store.words.root ≡ 0 → s.initial ≤ LEAST_TABLE_LEN

  -- as it begins
  pub resize_long_begun : IsLongEnough s.initial s.store.words → (z : Resizer) → z.state ≡ stages.AtRoot → IsLongResize s.store z
  resize_long_begun enough z at_root = record {
    enough = enough.tables;
    stage = subst (IsLongStage s.initial (lengths_of s.store.words)) (sym at_root)
        tt;
    rooted = λ some. some;
    first = enough.first;
  }

  -- if there is no root, there was none
  no_root : (store : StoreState K V S) (z : Resizer) → IsLongResize store z → store.words.root ≡ 0 → s.initial ≤ LEAST_TABLE_LEN
  no_root store z long none = ⊎_elim
      (λ (some : 0 < s.store.words.root). let kept = long.rooted some in absurd (omega (arith, kept, none)))
      (λ (least : s.store.words.root ≤ 0). long.first (omega (arith, least)))
      (cases_lt 0 s.store.words.root)

  -- the lengths of its tables after it
  pub resize_long_left : (store : StoreState K V S) (z : Resizer) → IsLongResize store z → IsLongEnough s.initial store.words
  resize_long_left store z long = record { tables = long.enough; first = no_root store z long }

  module _ (eq : K → K → Bool) (hash : S → K → ℕ) (store : StoreState K V S) (z : Resizer) (ask : CopyAsk) (answer : Answer)
      (store' : StoreState K V S) (asked : ask_of z ≡ Some ask) (performs : PerformsCopy eq hash false ask store answer store')
      (initial_is : z.initial ≡ s.initial)
      (stays : 0 < store.words.root → 0 < store'.words.root) (long : IsLongResize store z) where
    abbrev lengths : List ℕ
    lengths = lengths_of store.words

    abbrev lengths' : List ℕ
    lengths' = lengths_of store'.words

    -- the answer to this ask
    performs_at : (other : CopyAsk) → ask_of z ≡ Some other → PerformsCopy eq hash false other store answer store'
    performs_at other e = subst (λ y. PerformsCopy eq hash false y store answer store') (same_item ask other (sym asked ∙ e)) performs

    -- the tables after the step
    lengthened : IsLengthened (IsEnough s.initial) store store'
    lengthened = of_ask (copy_long eq false hash ask store answer store' performs)
      where
        of_ask : IsLengthened (λ slots. (limit chunks : ℕ) × (ask ≡ copies.MakeTable slots limit chunks)) store store'
            → IsLengthened (IsEnough s.initial) store store'
        of_ask (inl same) = inl same
        of_ask (inr (slots, (limit, chunks, is), more)) = inr
            (slots, stage_good s.initial lengths z.state slots limit chunks (asked ∙ ap (λ x. Some x) is) long.stage, more)

    still_there : (len : ℕ) → Contains lengths len → Contains lengths' len
    still_there len there = ⊎_elim
        (λ same. subst (λ l. Contains l len) (sym same) there)
        (λ grown. let (slots, enough, more) = grown in subst (λ l. Contains l len) (sym more) (Contains-append_left lengths (slots ∷ []) len there))
        lengthened

    all_enough : All (IsEnough s.initial) lengths'
    all_enough = ⊎_elim
        (λ same. subst (All (IsEnough s.initial)) (sym same) long.enough)
        (λ grown. let (slots, enough, more) = grown in
        subst (All (IsEnough s.initial)) (sym more)
        (All-append (IsEnough s.initial) lengths (slots ∷ []) long.enough (All-cons (IsEnough s.initial) slots [] enough (All-nil _))))
        lengthened

    -- the lengths on which it relies stay
    stage_beside : (stage : ResizerState) → IsLongStage s.initial lengths stage → IsLongStage s.initial lengths' stage
    stage_beside (stages.Linking link) h = long_beside (IsEnough s.initial) (IsEnough s.initial) lengths lengths' (λ n enough. enough) still_there (Some link) h
    stage_beside (stages.Copying from goes) h = long_beside (IsEnough s.initial) (IsEnough s.initial) lengths lengths' (λ n enough. enough)
        still_there (link_in_copying goes) h
    stage_beside other h = h

    -- a size in an answer is that of a table
    size_there : (behind slots limit : ℕ) → ask_of z ≡ Some (copies.SizeOf behind) → answer ≡ answers.Call (told.Size slots limit) → Contains lengths slots
    size_there behind slots limit asks is =
        let h = performs_at (copies.SizeOf behind) asks in
        let f : answers.Call (size_of (table_of store.words.tables behind)) ≡ answers.Call (told.Size slots limit) = sym h.0 ∙ is in
        let size : size_of (table_of store.words.tables behind) ≡ told.Size slots limit = cc f in
        let (t, there, long_is) = sized_as (table_of store.words.tables behind) slots limit size in
        subst (Contains lengths) long_is (table_length store.words.tables behind t there)

    told_so : IsToldSo s.initial lengths' z.resize z.mode answer z.state
    told_so = record {
      root = λ root is at none.
          let h = performs_at (copies.Load Root) (ap asks_in at) in
          let f : answers.Call (told.Word store.words.root) ≡ answers.Call (told.Word root) = sym h.0 ∙ is in
          let same : store.words.root ≡ root = cc f in
          no_root store z long (same ∙ none);
      size = λ slots limit is root at. All-contains (IsEnough s.initial) lengths slots long.enough (size_there root slots limit (ap asks_in at) is);
      sizes = λ made e slots limit is behind copied unfit sizing.
          still_there slots (size_there behind slots limit (stage_asks z.state made e ∙ ap (λ x. Some (link_ask x)) sizing) is);
      counts = λ made e count is behind before copied unfit counting there.
          next_enough s.initial before count unfit (All-contains (IsEnough s.initial) lengths' before all_enough there);
    }

    -- after one more answer
    pub resize_long_more : IsLongResize store' (after z answer)
    resize_long_more = record {
      enough = all_enough;
      stage = subst (λ n. IsLongStage s.initial lengths' (after_in z.resize z.mode n z.number answer z.state)) (sym initial_is)
          (stage_long s.initial lengths' z.resize z.mode z.number answer z.state told_so (stage_beside z.state long.stage));
      rooted = λ some. stays (long.rooted some);
      first = long.first;
    }
