-- Why a call that resizes the map is refused, and when it leaves all words as they are.
use Rattle.std.proofs.Common.{◌≡◌, inl, inr, ℕ, zero, suc, ◌+◌, ◌*◌, ◌^◌, ◌==◌, ◌<◌, ◌≤◌, nat_le, max, Bool, false}
use Rattle.std.proofs.Common.{[], length, Option, None, Some, refl, sym, ◌∙◌, ap, subst, arith}
use Rattle.std.proofs.Common.{eqb-true, leb-false}
use Rattle.std.proofs.lemmas.Bool.{cond_both}
use Rattle.papaya_words.specs.Counter.{count_of}
use Rattle.papaya_words.specs.Table.{TableWords, length_after}
use Rattle.papaya_words.specs.declared.refused.Refused.{Refused}
use Rattle.papaya_words.specs.declared.refused.Refused.TheVariants.{Capacity}
use Rattle.papaya_call.specs.declared.ask.Answer.TheVariants.{Size, Refused as Was_refused}
use Rattle.papaya_call.specs.declared.ask.At.TheVariants.{Root, Next}
use Rattle.papaya_call.specs.declared.call.Reply.TheVariants.{Refused as Reply_refused}
use Rattle.papaya_call.specs.declared.copy_ask.CopyAsk.{CopyAsk}
use Rattle.papaya_call.specs.declared.copy_ask.CopyAsk.TheVariants as copies
use Rattle.papaya_call.specs.declared.copy.link.Link.TheVariants as links
use Rattle.papaya_call.specs.Link.{link_ask}
use Rattle.papaya_call.specs.declared.chain.ask.Answer.{Answer}
use Rattle.papaya_call.specs.declared.chain.ask.Answer.TheVariants as answers
use Rattle.papaya_call.specs.declared.chain.resizer.Resize.{Resize}
use Rattle.papaya_call.specs.declared.chain.resizer.Resize.TheVariants as resizes
use Rattle.papaya_call.specs.declared.chain.resizer.Resizer.{Resizer}
use Rattle.papaya_call.specs.declared.chain.resizer.ResizerState.{ResizerState}
use Rattle.papaya_call.specs.declared.chain.resizer.ResizerState.TheVariants as stages
use Rattle.papaya_call.specs.Resizer.{after, after_in, ask_of, asks_in, at_next, at_root, judges, makes, reply_in, reply_of}
use Rattle.papaya_call.specs.TableSize.{entries_of, room_of, room_of_len}
use Rattle.papaya_call.proofs.TableSizes.{entries_are, has_room}
use Rattle.papaya_call_law.specs.Resizers.{HasLink, IsResizeCause, IsTooMuchRoom, WasNotMade, WouldBeTooLong}
use Rattle.papaya_call_law.proofs.CopyRefusals.{copying_asks}
use Rattle.papaya_core_store.specs.CopyAsks.{PerformsCopy}
use Rattle.papaya_core_store.specs.Performs.{size_of}
use Rattle.papaya_core_store.specs.Store.{StoreState}
use Rattle.papaya_core_store.specs.Tables.{table_of, word_at}
use Rattle.papaya_core_timeline.specs.Content.{content, pairs_from}
use Rattle.papaya_core_timeline.proofs.CallersLemmas.{same_item}
use Rattle.papaya_core_timeline.proofs.KeptTables.{HasMoreTables}
use Rattle.papaya_core_timeline.proofs.SoloResizes.{counts}
use Rattle.papaya_seq.specs.Map.{MapState, next_of, slots_in, slots_of}
use Rattle.papaya_seq.specs.Resizes.{IsPastLimit, IsReserveCause, IsRoomThere}
use Rattle.papaya_seq.proofs.Causes.{HasSlots, IsNoTableRefusal, table_long, table_refused}
use Rattle.papaya_seq.proofs.ResizerSizes.{IsSizedStage, stage_beside, stage_has, stage_sized}
use Rattle.papaya_seq.proofs.Sizes.{sized_as}
use Rattle.papaya_seq.proofs.Rooms.{entries_few, much_is, much_more, much_none}
use Rattle.papaya_seq.proofs.Unmarked.{last_next}

-- without a table there is no pair
no_pairs : {K V S : Type 0} (eq : K → K → Bool) (store : StoreState K V S) (n : ℕ) → pairs_from eq store n None ≡ []
no_pairs eq store zero = refl
no_pairs eq store (suc n) = refl

rootless : {K V S : Type 0} (eq : K → K → Bool) (store : StoreState K V S) → store.words.root ≡ 0 → content eq store ≡ []
rootless eq store none = ap (λ r. pairs_from eq store (length store.words.tables) (table_of store.words.tables r)) none
    ∙ no_pairs eq store (length store.words.tables)

-- one that computes a length from the slots of a table asked for their number
sizing_asks : (stage : ResizerState) (behind copied : ℕ) (unfit : Bool) → HasLink stage (links.Sizing behind copied unfit)
    → asks_in stage ≡ Some (copies.SizeOf behind)
sizing_asks (stages.Linking link) behind copied unfit e = ap (λ y. Some (link_ask y)) e
sizing_asks (stages.Copying from copying) behind copied unfit e = ap (λ y. Some y) (copying_asks copying (links.Sizing behind copied unfit) e)
sizing_asks _ behind copied unfit e = absurd e

-- if no table is large enough, the call ends at the root, or when the pairs are counted
abbrev pub IsEarly : ResizerState → Type 0
IsEarly stages.AtRoot = Unit {0}
IsEarly (stages.Sizing root) = Unit {0}
IsEarly (stages.Counting root len) = Unit {0}
IsEarly (stages.Refused refused) = refused ≡ Capacity
IsEarly _ = ⊥

-- if there is room for this many pairs, it ends when they are counted
abbrev pub IsIdle : (root slots : ℕ) → ResizerState → Type 0
IsIdle root slots stages.AtRoot = Unit {0}
IsIdle root slots (stages.Sizing t) = t ≡ root
IsIdle root slots (stages.Counting t len) = len ≡ slots
IsIdle root slots stages.Done = Unit {0}
IsIdle root slots _ = ⊥

-- while no pairs are being moved, the end of a resize loads only the next table of the root
abbrev pub IsCalm : (root : ℕ) → ResizerState → Type 0
IsCalm root stages.AtRoot = Unit {0}
IsCalm root (stages.Looking t len None) = t ≡ root
IsCalm root stages.Done = Unit {0}
IsCalm root _ = ⊥

module _ {K V S : Type 0} (eq : K → K → Bool) (hash : S → K → ℕ) (s : MapState K V S) (resize : Resize) where
  -- the cause of its refusal: no table is large enough for this many pairs, or there is no next
  -- table
  abbrev pub IsCauseOf : Resize → Refused → MapState K V S → Type 0
  IsCauseOf (resizes.Reserve more) refused s' = IsReserveCause eq s more refused s'
  IsCauseOf resizes.CopyAll refused s' = IsNoTableRefusal s' refused
  IsCauseOf resizes.Chunk refused s' = Unit {0}

  -- The facts that hold between two answers.
  pub record IsCaused (store : StoreState K V S) (z : Resizer) : Type 0 where
    -- the length of a next table is computed from the slots of the one before
    pub sized : IsSizedStage (HasSlots store) z.state
    pub caused : (refused : Refused) → reply_of z ≡ Some (Reply_refused refused) → IsCauseOf resize refused (record s { store = store })
    pub early : IsPastLimit eq resize s.store → (store ≡ s.store) × IsEarly z.state
    pub idle : IsRoomThere eq resize s.store → (store ≡ s.store) × IsIdle s.store.words.root (slots_of s.store) z.state
    pub calm : resize ≡ resizes.CopyAll → next_of s.store ≡ 0 → (store ≡ s.store) × IsCalm s.store.words.root z.state

  -- as it begins
  pub caused_begun : (z : Resizer) → z.state ≡ stages.AtRoot → IsCaused s.store z
  caused_begun z at_root = record {
    sized = subst (IsSizedStage (HasSlots s.store)) (sym at_root) tt;
    caused = λ refused e. let f : None ≡ Some (Reply_refused refused) = sym (ap (λ stage. reply_in stage) at_root) ∙ e in absurd cc;
    early = λ late. (refl, subst IsEarly (sym at_root) tt);
    idle = λ there. (refl, subst (IsIdle s.store.words.root (slots_of s.store)) (sym at_root) tt);
    calm = λ is last. (refl, subst (IsCalm s.store.words.root) (sym at_root) tt);
  }

  module _ (pairs : count_of s.store.count.sum ≡ length (content eq s.store)) (most : slots_of s.store ≤ 2 ^ 32) (store : StoreState K V S) (z : Resizer) (ask : CopyAsk)
      (answer : Answer) (store' : StoreState K V S) (asked : ask_of z ≡ Some ask) (performs : PerformsCopy eq hash false ask store answer store')
      (grown : HasMoreTables store.words.tables store'.words.tables)
      (cause : (refused : Refused) → reply_of (after z answer) ≡ Some (Reply_refused refused) → IsResizeCause z answer refused)
      (resize_is : z.resize ≡ resize) (initial_is : z.initial ≡ s.initial) (logs : store ≡ record s.store { words = store.words })
      (now : IsCaused store z) where
    -- the answer to this ask
    performs_at : (other : CopyAsk) → ask_of z ≡ Some other → PerformsCopy eq hash false other store answer store'
    performs_at other e = subst (λ y. PerformsCopy eq hash false y store answer store') (same_item ask other (sym asked ∙ e)) performs

    -- a table that is there stays, with its slots
    still_there : (behind slots : ℕ) → HasSlots store behind slots → HasSlots store' behind slots
    still_there behind slots (t, there, is) = let more = grown behind t there in (more.0, more.1, more.2 ∙ is)

    -- the size of a table in an answer
    told_size : (slots limit : ℕ) → answer ≡ answers.Call (Size slots limit) → (behind copied : ℕ) (unfit : Bool)
        → HasLink z.state (links.Sizing behind copied unfit) → HasSlots store' behind slots
    told_size slots limit is behind copied unfit e =
        let h = performs_at (copies.SizeOf behind) (sizing_asks z.state behind copied unfit e) in
        let f : answers.Call (size_of (table_of store.words.tables behind)) ≡ answers.Call (Size slots limit) = sym h.0 ∙ is in
        let told : size_of (table_of store.words.tables behind) ≡ Size slots limit = cc f in
        still_there behind slots (sized_as (table_of store.words.tables behind) slots limit told)

    next_sized : IsSizedStage (HasSlots store') (after z answer).state
    next_sized = stage_sized (HasSlots store') z.resize z.mode z.initial z.number answer z.state told_size
        (stage_beside (HasSlots store) (HasSlots store') still_there z.state now.sized)

    -- the count is that of the map as the call began
    counted : count_of store.count.sum ≡ length (content eq s.store)
    counted = ap (λ (y : StoreState K V S). count_of y.count.sum) logs ∙ pairs

    -- the map after the step
    abbrev then : MapState K V S
    then = record s { store = store' }

    module _ (refused : Refused) where
      of_table : (y : Resize) → IsNoTableRefusal then refused → IsCauseOf y refused then
      of_table (resizes.Reserve more) (inl memory) = inl memory
      of_table (resizes.Reserve more) (inr (capacity, none)) = inr (capacity, inr none)
      of_table resizes.CopyAll none = none
      of_table resizes.Chunk none = tt

      unmade : WasNotMade z answer refused → IsNoTableRefusal then refused
      unmade because =
          let (told, is, h) = performs_at (copies.MakeTable because.slots because.limit because.chunks) because.asks in
          let f : answers.Call told ≡ answers.Call (Was_refused refused) = sym is ∙ because.is in
          let as_told : told ≡ Was_refused refused = cc f in
          table_refused s store store' refused because.slots because.limit because.chunks told as_told h

      long : WouldBeTooLong z answer refused → IsNoTableRefusal then refused
      long because =
          let (is, stays) = performs_at copies.Count because.asks in
          let f : answers.Count because.count ≡ answers.Count (count_of store.count.sum) = sym because.is ∙ is in
          let same : because.count ≡ count_of store.count.sum = cc f in
          table_long s store store' refused because.capacity because.behind because.slots because.unfit
          (stage_has (HasSlots store) z.state now.sized because.behind because.slots because.copied because.unfit because.link)
          (subst (λ n. 2 ^ 32 < length_after because.slots (count_of store.count.sum) n because.unfit) initial_is
          (subst (λ n. 2 ^ 32 < length_after because.slots n z.initial because.unfit) same because.long))
          stays

      -- no table is large enough for this many pairs
      much : (y : Resize) → resize ≡ y → IsTooMuchRoom z answer refused → IsCauseOf y refused then
      much (resizes.Reserve more) is because =
          let f : resizes.Reserve because.more ≡ resizes.Reserve more = sym because.resize ∙ resize_is ∙ is in
          let same : because.more ≡ more = cc f in
          elim because.counts [
            | inl (none, zeroed) ↦ let le : because.count + because.more ≤ length (content eq s.store) + more = omega (arith, zeroed, same) in
                inr (because.capacity, inl (much_more _ _ le (much_is _ because.long)))
            | inr told ↦
                let count = (counts eq hash false ask store answer store' performs because.count told).0 in
                let all = counted in
                let le : because.count + because.more ≤ length (content eq s.store) + more = omega (arith, count, all, same) in
                inr (because.capacity, inl (much_more _ _ le (much_is _ because.long)))
          ]
      much resizes.CopyAll is because = let f : resizes.Reserve because.more ≡ resizes.CopyAll = sym because.resize ∙ resize_is ∙ is in absurd cc
      much resizes.Chunk is because = tt

      next_caused : reply_of (after z answer) ≡ Some (Reply_refused refused) → IsCauseOf resize refused then
      next_caused e = elim (cause refused e) [
        | inl because ↦ of_table resize (unmade because)
        | inr (inl because) ↦ of_table resize (long because)
        | inr (inr because) ↦ much resize refl because
      ]

    -- if no table is large enough for this many pairs, nothing is done
    early_root : (more r : ℕ) → r ≡ s.store.words.root → room_of (length (content eq s.store) + more) ≡ None → IsEarly (at_root (resizes.Reserve more) r)
    early_root more r is none =
        cond_both (r == 0) (makes (room_of more)) (stages.Sizing r) IsEarly
        (λ zeroed.
        let empty : length (content eq s.store) ≡ 0 = ap length (rootless eq s.store (sym is ∙ eqb-true r 0 zeroed)) in
        let same : length (content eq s.store) + more ≡ more = omega (arith, empty) in
        subst (λ o. IsEarly (makes o)) (sym (subst (λ n. room_of n ≡ None) same none)) refl)
        (λ _. tt)

    early_sized : (more root : ℕ) (o : Option TableWords)
        → IsEarly (after_in (resizes.Reserve more) z.mode z.initial z.number (answers.Call (size_of o)) (stages.Sizing root))
    early_sized more root None = tt
    early_sized more root (Some table) = tt

    early_stage : (more : ℕ) → room_of (length (content eq s.store) + more) ≡ None → (stage : ResizerState) → z.state ≡ stage → store ≡ s.store
        → IsEarly stage → (store' ≡ s.store) × IsEarly (after_in (resizes.Reserve more) z.mode z.initial z.number answer stage)
    early_stage more none stages.AtRoot at same h =
        let (is, stays) = performs_at (copies.Load Root) (ap asks_in at) in (
          stays ∙ same,
          subst (λ a. IsEarly (after_in (resizes.Reserve more) z.mode z.initial z.number a stages.AtRoot)) (sym is)
              (early_root more store.words.root (ap (λ (y : StoreState K V S). y.words.root) same) none),
        )
    early_stage more none (stages.Sizing root) at same h =
        let (is, stays) = performs_at (copies.SizeOf root) (ap asks_in at) in (
          stays ∙ same,
          subst (λ a. IsEarly (after_in (resizes.Reserve more) z.mode z.initial z.number a (stages.Sizing root))) (sym is)
              (early_sized more root (table_of store.words.tables root)),
        )
    early_stage more none (stages.Counting root len) at same h =
        let (is, stays) = performs_at copies.Count (ap asks_in at) in
        let all = counted in (
          stays ∙ same,
          subst (λ a. IsEarly (after_in (resizes.Reserve more) z.mode z.initial z.number a (stages.Counting root len))) (sym is)
              (subst (λ o. IsEarly (judges root len o)) (sym (ap (λ n. room_of (n + more)) all ∙ none)) refl),
        )
    early_stage more none (stages.Refused refused) at same h = let f : None ≡ Some ask = sym (ap asks_in at) ∙ asked in absurd cc
    early_stage more none _ at same h = absurd h

    next_early : (y : Resize) → z.resize ≡ y → IsPastLimit eq y s.store → (store ≡ s.store) × IsEarly z.state → (store' ≡ s.store)
        × IsEarly (after z answer).state
    next_early (resizes.Reserve more) is late
        (same, h) = subst (λ y. (store' ≡ s.store) × IsEarly (after_in y z.mode z.initial z.number answer z.state)) (sym is)
        (early_stage more (much_none (length (content eq s.store) + more) late) z.state refl same h)
    next_early _ is late h = absurd late

    -- if there is already room for them, nothing is done either
    idle_root : 8 ≤ slots_of s.store → (more r : ℕ) → r ≡ s.store.words.root
        → IsIdle s.store.words.root (slots_of s.store) (at_root (resizes.Reserve more) r)
    idle_root least more r is =
        cond_both (r == 0) (makes (room_of more)) (stages.Sizing r) (IsIdle s.store.words.root (slots_of s.store))
        (λ zeroed.
        let none : slots_of s.store ≡ 0 = ap (λ n. slots_in (table_of s.store.words.tables n)) (sym is ∙ eqb-true r 0 zeroed) in
        absurd (omega (arith, least, none)))
        (λ _. is)

    idle_sized : (more root : ℕ) → root ≡ s.store.words.root → (o : Option TableWords) → slots_in o ≡ slots_of s.store
        → IsIdle s.store.words.root (slots_of s.store)
        (after_in (resizes.Reserve more) z.mode z.initial z.number (answers.Call (size_of o)) (stages.Sizing root))
    idle_sized more root here None slots = here
    idle_sized more root here (Some table) slots = slots

    idle_counted : 8 ≤ slots_of s.store → (pairs root len : ℕ) → entries_of pairs ≤ slots_of s.store → len ≡ slots_of s.store
        → IsIdle s.store.words.root (slots_of s.store) (judges root len (room_of pairs))
    idle_counted least pairs root len enough here =
        let fits : entries_of pairs ≤ 2 ^ 32 = omega (arith, enough, most) in
        let room = room_of_len (max (entries_of pairs) 8) in
        subst (λ o. IsIdle s.store.words.root (slots_of s.store) (judges root len o)) (sym (has_room pairs fits))
        (cond_both (nat_le room.len len) stages.Done (stages.Looking root len (Some room)) (IsIdle s.store.words.root (slots_of s.store)) (λ _. tt)
        (λ short. let more : len < max (entries_of pairs) 8 = leb-false room.len len short in absurd (omega (arith, more, here, enough, least))))

    idle_stage : 8 ≤ slots_of s.store → (more : ℕ) → entries_of (length (content eq s.store) + more) ≤ slots_of s.store → (stage : ResizerState)
        → z.state ≡ stage → store ≡ s.store → IsIdle s.store.words.root (slots_of s.store) stage → (store' ≡ s.store)
        × IsIdle s.store.words.root (slots_of s.store) (after_in (resizes.Reserve more) z.mode z.initial z.number answer stage)
    idle_stage least more enough stages.AtRoot at same h =
        let (is, stays) = performs_at (copies.Load Root) (ap asks_in at) in (
          stays ∙ same,
          subst (λ a. IsIdle s.store.words.root (slots_of s.store) (after_in (resizes.Reserve more) z.mode z.initial z.number a stages.AtRoot)) (sym is)
              (idle_root least more store.words.root (ap (λ (y : StoreState K V S). y.words.root) same)),
        )
    idle_stage least more enough (stages.Sizing root) at same h =
        let (is, stays) = performs_at (copies.SizeOf root) (ap asks_in at) in
        let slots : slots_in (table_of store.words.tables root) ≡ slots_of s.store = ap (λ n. slots_in (table_of store.words.tables n)) h
        ∙ ap (λ (y : StoreState K V S). slots_in (table_of y.words.tables s.store.words.root)) same in (
          stays ∙ same,
          subst (λ a. IsIdle s.store.words.root (slots_of s.store) (after_in (resizes.Reserve more) z.mode z.initial z.number a (stages.Sizing root)))
              (sym is) (idle_sized more root h (table_of store.words.tables root) slots),
        )
    idle_stage least more enough (stages.Counting root len) at same h =
        let (is, stays) = performs_at copies.Count (ap asks_in at) in
        let all = counted in (
          stays ∙ same,
          subst (λ a. IsIdle s.store.words.root (slots_of s.store) (after_in (resizes.Reserve more) z.mode z.initial z.number a (stages.Counting root len)))
              (sym is) (subst (λ n. IsIdle s.store.words.root (slots_of s.store) (judges root len (room_of (n + more)))) (sym all)
              (idle_counted least (length (content eq s.store) + more) root len enough h)),
        )
    idle_stage least more enough stages.Done at same h = let f : None ≡ Some ask = sym (ap asks_in at) ∙ asked in absurd cc
    idle_stage least more enough _ at same h = absurd h

    next_idle : (y : Resize) → z.resize ≡ y → IsRoomThere eq y s.store
        → (store ≡ s.store) × IsIdle s.store.words.root (slots_of s.store) z.state → (store' ≡ s.store)
        × IsIdle s.store.words.root (slots_of s.store) (after z answer).state
    next_idle (resizes.Reserve more) is (least, room) (same, h) =
        let (entries, are, fit) = room in
        let few : (length (content eq s.store) + more) * 8 < 2 ^ 64 = entries_few (length (content eq s.store) + more) entries are
        (omega (arith, fit, most)) in
        let enough : entries_of (length (content eq s.store) + more) ≤ slots_of s.store =
        subst (λ n. n ≤ slots_of s.store) (sym (entries_are (length (content eq s.store) + more) entries few are)) fit in
        subst (λ y. (store' ≡ s.store) × IsIdle s.store.words.root (slots_of s.store) (after_in y z.mode z.initial z.number answer z.state)) (sym is)
        (idle_stage least more enough z.state refl same h)
    next_idle _ is there h = absurd there

    -- and while no pairs are being moved, the end of a resize does nothing
    calm_stage : next_of s.store ≡ 0 → (stage : ResizerState) → z.state ≡ stage → store ≡ s.store → IsCalm s.store.words.root stage → (store' ≡ s.store)
        × IsCalm s.store.words.root (after_in resizes.CopyAll z.mode z.initial z.number answer stage)
    calm_stage last stages.AtRoot at same h =
        let (is, stays) = performs_at (copies.Load Root) (ap asks_in at) in (
          stays ∙ same,
          subst (λ a. IsCalm s.store.words.root (after_in resizes.CopyAll z.mode z.initial z.number a stages.AtRoot)) (sym is)
              (cond_both (store.words.root == 0) stages.Done (stages.Looking store.words.root 0 None) (IsCalm s.store.words.root) (λ _. tt)
              (λ _. ap (λ (y : StoreState K V S). y.words.root) same)),
        )
    calm_stage last (stages.Looking t len None) at same here =
        let (is, stays) = performs_at (copies.Load (Next t)) (ap asks_in at) in
        let zeroed : word_at store.words (Next t) ≡ 0 = ap (λ n. word_at store.words (Next n)) here
        ∙ ap (λ (y : StoreState K V S). word_at y.words (Next s.store.words.root)) same ∙ last_next s.store last in (
          stays ∙ same,
          subst (λ a. IsCalm s.store.words.root (after_in resizes.CopyAll z.mode z.initial z.number a (stages.Looking t len None)))
              (sym is) (subst (λ n. IsCalm s.store.words.root (at_next z.mode t len None n)) (sym zeroed) tt),
        )
    calm_stage last (stages.Looking t len (Some room)) at same h = absurd h
    calm_stage last stages.Done at same h = let f : None ≡ Some ask = sym (ap asks_in at) ∙ asked in absurd cc
    calm_stage last _ at same h = absurd h

    -- this holds after it
    pub caused_more : IsCaused store' (after z answer)
    caused_more = record {
      sized = next_sized;
      caused = next_caused;
      early = λ late. next_early resize resize_is late (now.early late);
      idle = λ there. next_idle resize resize_is there (now.idle there);
      calm = λ is last. subst (λ y. (store' ≡ s.store) × IsCalm s.store.words.root (after_in y z.mode z.initial z.number answer z.state))
          (sym (resize_is ∙ is)) (calm_stage last z.state refl (now.calm is last).0 (now.calm is last).1);
    }
