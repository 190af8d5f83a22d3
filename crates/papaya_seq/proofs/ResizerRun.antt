-- A call that resizes a map for one caller, from its begin to its reply.
use Rattle.std.proofs.Common.{◌≡◌, ◌⊎◌, inl, inr, ⊎_elim, ℕ, ◌+◌, ◌^◌, ◌<◌, ◌≤◌, Bool, true, false}
use Rattle.std.proofs.Common.{FitsSigned, List, [], length, Option, None, Some, Result, Ok, Err, refl, sym, ◌∙◌, ap, subst}
use Rattle.std.proofs.Common.{arith}
use Rattle.std.proofs.lemmas.Bool.{cases_eq}
use Rattle.std.specs.Cmp.{IsEquivalence}
use Rattle.std.specs.Int.{w64}
use Rattle.papaya_words.specs.Counter.{count_of}
use Rattle.papaya_words.specs.Table.{TableWords}
use Rattle.papaya_words.specs.declared.refused.Refused.{Refused}
use Rattle.papaya_words.specs.declared.refused.Refused.TheVariants.{Capacity}
use Rattle.papaya_call.specs.declared.call.Reply.{Reply}
use Rattle.papaya_call.specs.declared.call.Reply.TheVariants.{Done as Reply_done, Refused as Reply_refused}
use Rattle.papaya_call.specs.declared.copy_ask.CopyAsk.{CopyAsk}
use Rattle.papaya_call_alone.specs.Resizers.{IsWhole}
use Rattle.papaya_call.specs.declared.chain.ask.Answer.{Answer}
use Rattle.papaya_call.specs.declared.chain.resizer.Resize.{Resize}
use Rattle.papaya_call.specs.declared.chain.resizer.Resize.TheVariants as resizes
use Rattle.papaya_call.specs.declared.chain.resizer.Resizer.{Resizer}
use Rattle.papaya_call.specs.declared.chain.resizer.ResizerState.{ResizerState}
use Rattle.papaya_call.specs.declared.chain.resizer.ResizerState.TheVariants as stages
use Rattle.papaya_call.specs.ChainMachine.{IsFit}
use Rattle.papaya_call.specs.Resizer.{IsValidResizer, after, ask_of, asks_in, begun, reply_in, reply_of}
use Rattle.papaya_call.specs.TableSize.{entries_of}
use Rattle.papaya_words_keys.specs.Hashes.{hash_of}
use Rattle.papaya_core_store.specs.CopyAsks.{PerformsCopy}
use Rattle.papaya_core_store.specs.Store.{StoreState}
use Rattle.papaya_core_store.specs.Tables.{table_of, word_at}
use Rattle.papaya_core_timeline.specs.Content.{content, map_in}
use Rattle.papaya_core_timeline.specs.Kept as kept
use Rattle.papaya_core_timeline.specs.Resized.{IsResized}
use Rattle.papaya_core_timeline.specs.Maps.{Same}
use Rattle.papaya_core_timeline.specs.Solo.{IsAnswered, IsDoneBy, IsLeftBy}
use Rattle.papaya_seq.proofs.LeftBy.{resized_same}
use Rattle.papaya_core_timeline.proofs.KeptCore.{keys_lawful}
use Rattle.papaya_core_timeline.proofs.ResizerStands.{resizer_fits}
use Rattle.papaya_core_timeline.proofs.StoreLemmas.{performed_copy, unnumbered}
use Rattle.papaya_seq.specs.MadeAlone.{IsDoneAlone, IsMadeAlone, IsResizedAlone}
use Rattle.papaya_seq.specs.Map.{IsLawfulMap, IsResizing, Keeps, MapState, Unchanged, next_in, next_of, slots_in, slots_of}
use Rattle.papaya_seq.specs.Resizes.{HasRoomFor, IsPastLimit, IsResizeRefusal, IsResizedTo, IsRoomThere}
use Rattle.papaya_seq.proofs.Alone.{map_answered, map_hasher, map_lawful, map_logged}
use Rattle.papaya_seq.proofs.Counting.{counted_sum}
use Rattle.papaya_seq.proofs.Lawful.{core_root_there}
use Rattle.papaya_seq.proofs.ResizerCauses.{IsCalm, IsCaused, IsCauseOf, IsEarly, IsIdle, caused_begun, caused_more}
use Rattle.papaya_seq.proofs.DoneAlone.{made_done, made_refused}
use Rattle.papaya_seq.proofs.ResizerSteps.{HasResizedTo, IsCallFor, ResizeCall, asking_goes, call_for}
use Rattle.papaya_seq.proofs.ResizerSteps.{resize_begun, resize_caused, resize_grown, resize_more}
use Rattle.papaya_seq.proofs.ResizerSteps.{resize_nears, resize_over, resizer_left}
use Rattle.papaya_seq.proofs.Rooms.{room_is}
use Rattle.papaya_seq.proofs.Turns.{IsOver}
use Rattle.papaya_seq.proofs.Unmarked.{next_is}

-- one that has no ask is done or refused
replied_in : (stage : ResizerState) → asks_in stage ≡ None → (reply_in stage ≡ Some Reply_done)
    ⊎ ((refused : Refused) × (reply_in stage ≡ Some (Reply_refused refused)))
replied_in stages.Done e = inl refl
replied_in (stages.Refused refused) e = inr (refused, refl)
replied_in _ e = absurd (cc e)

-- and is refused if it has ended with a refusal
refused_in : (stage : ResizerState) (refused : Refused) → reply_in stage ≡ Some (Reply_refused refused) → stage ≡ stages.Refused refused
refused_in (stages.Refused other) refused e = let same : other ≡ refused = cc e in ap stages.Refused same
refused_in stages.Done refused e = let f : Some Reply_done ≡ Some (Reply_refused refused) = e in absurd cc
refused_in _ refused e = absurd (cc e)

pub unrefused_done : (z : Resizer) → ask_of z ≡ None → ((refused : Refused) → z.state ≡ stages.Refused refused → ⊥) → reply_of z ≡ Some Reply_done
unrefused_done z e unrefused = ⊎_elim
    (λ (done : reply_of z ≡ Some Reply_done). done)
    (λ (told : (refused : Refused) × (reply_of z ≡ Some (Reply_refused refused))). absurd (unrefused told.0 (refused_in z.state told.0 told.1)))
    (replied_in z.state e)

pub ends_so : (z : Resizer) → ask_of z ≡ None → (reply_of z ≡ Some Reply_done) ⊎ ((refused : Refused) × (reply_of z ≡ Some (Reply_refused refused)))
ends_so z e = replied_in z.state e

-- it ends early with this refusal
early_ends : (stage : ResizerState) → asks_in stage ≡ None → IsEarly stage → reply_in stage ≡ Some (Reply_refused Capacity)
early_ends stages.AtRoot e early = absurd (cc e)
early_ends (stages.Sizing root) e early = absurd (cc e)
early_ends (stages.Counting root len) e early = absurd (cc e)
early_ends (stages.Refused refused) e early = ap (λ r. Some (Reply_refused r)) early
early_ends _ e early = absurd early

-- or is done
idle_ends : (root slots : ℕ) (stage : ResizerState) → asks_in stage ≡ None → IsIdle root slots stage → reply_in stage ≡ Some Reply_done
idle_ends root slots stages.AtRoot e idle = absurd (cc e)
idle_ends root slots (stages.Sizing t) e idle = absurd (cc e)
idle_ends root slots (stages.Counting t len) e idle = absurd (cc e)
idle_ends root slots stages.Done e idle = refl
idle_ends root slots _ e idle = absurd idle

-- if all is calm, it is not refused
calm_unrefused : (root : ℕ) (stage : ResizerState) (refused : Refused) → reply_in stage ≡ Some (Reply_refused refused) → IsCalm root stage → ⊥
calm_unrefused root (stages.Refused r) refused e calm = calm
calm_unrefused root stages.Done refused e calm = let f : Some Reply_done ≡ Some (Reply_refused refused) = e in cc
calm_unrefused root stages.AtRoot refused e calm = let f : None ≡ Some (Reply_refused refused) = e in cc
calm_unrefused root (stages.Looking t len room) refused e calm = let f : None ≡ Some (Reply_refused refused) = e in cc
calm_unrefused root _ refused e calm = calm

module _ {K V S : Type 0} (eq : K → K → Bool) (hash : S → K → ℕ) (s : MapState K V S) (resize : Resize) where
  -- The facts between two answers: the call came there by steps of the core, and a refusal has a
  -- cause.
  pub record IsResizingTo (store : StoreState K V S) (z : Resizer) : Type 0 where
    pub call : ResizeCall K V resize
    pub came : HasResizedTo eq hash s resize call store z
    pub causes : IsCaused eq hash s resize store z
    pub valid : IsValidResizer z

module _ {K V S H : Type 0} (eq : K → K → Bool) (input : K → List (List ℕ)) (build : S → H) (write : H → List ℕ → H) (finish : H → ℕ)
    (classes : IsEquivalence eq) (respects : (x y : K) → eq x y ≡ true → input x ≡ input y) (s : MapState K V S) (resize : Resize)
    (lawful : IsLawfulMap eq (hash_of input build write finish s.store.hasher) s.store s.mode s.initial) where
  abbrev hash : S → K → ℕ
  hash = hash_of input build write finish

  abbrev IsGoing : StoreState K V S → Resizer → Type 0
  IsGoing store z = IsResizingTo eq hash s resize store z

  -- it begins
  pub resizing_begun : (resize ≡ resizes.Chunk → ⊥) → (z : Resizer) (number : ℕ) → z ≡ begun resize s.mode.resize s.initial number
      → IsValidResizer z → IsGoing s.store z
  resizing_begun whole z number is valid =
      let call = call_for resize whole in
      subst (IsGoing s.store) (sym is) (record {
        call = call;
        came = resize_begun eq input build write finish classes respects s resize call lawful number;
        causes = caused_begun eq hash s resize (begun resize s.mode.resize s.initial number) call.at_root;
        valid = subst IsValidResizer is valid;
      })

  module _ (fits : FitsSigned w64 s.store.count.sum) where
    -- the count is the number of the pairs
    pairs : count_of s.store.count.sum ≡ length (content eq s.store)
    pairs = ap count_of (counted_sum eq s.store lawful.counted fits)

    -- and the root has slots within the limits
    slots_most : slots_of s.store ≤ 2 ^ 32
    slots_most = of_table (table_of s.store.words.tables s.store.words.root) refl
      where
        of_table : (o : Option TableWords) → table_of s.store.words.tables s.store.words.root ≡ o → slots_in o ≤ 2 ^ 32
        of_table None is = omega arith
        of_table (Some t) is = (lawful.lawful.core.sizes s.store.words.root t is).most

    module _ (store : StoreState K V S) (z : Resizer) (ask : CopyAsk) (answer : Answer) (store' : StoreState K V S) (asked : ask_of z ≡ Some ask)
        (performs : PerformsCopy eq hash false ask store answer store') (now : IsGoing store z) where
      -- the answer is within the limits
      pub resizing_fit : IsFit answer
      resizing_fit = (performed_copy eq hash false ask store answer store'
          (unnumbered store.words.tables (now.came.lone (asking_goes z ask asked)).lawful.core.sizes) (resizer_fits z now.valid ask asked) performs).fit

      -- less is left
      pub resizing_nears : resizer_left store' (after z answer) < resizer_left store z
      resizing_nears = resize_nears eq input build write finish classes respects s resize now.call lawful store z ask answer store' asked performs now.came

      -- and it continues
      pub resizing_more : IsValidResizer (after z answer) → IsGoing store' (after z answer)
      resizing_more valid = record {
        call = now.call;
        came = resize_more eq input build write finish classes respects s resize now.call lawful store z ask answer store' asked performs now.came;
        causes = caused_more eq hash s resize pairs slots_most store z ask answer store' asked performs
            (resize_grown eq input build write finish classes respects s resize now.call lawful store z ask answer store' asked performs now.came)
            (resize_caused eq input build write finish classes respects s resize now.call lawful store z ask answer store' asked performs now.came)
            now.came.resize_is now.came.initial_is now.came.logs now.causes;
        valid = valid;
      }

    module _ (store : StoreState K V S) (z : Resizer) (now : IsGoing store z) where
      module _ (reply : Reply) (told : reply_of z ≡ Some reply) where
        -- it was made alone
        over : IsOver eq hash s now.call.call store reply
        over = resize_over eq input build write finish classes respects s resize now.call lawful store z reply told now.came

        -- so the map is in order
        pub resized_lawful : IsLawfulMap eq (hash store.hasher) store s.mode s.initial
        resized_lawful = map_lawful eq input build write finish classes respects s now.call.call reply store lawful over

        pub resized_answered : IsAnswered eq now.call.call (map_in eq s.store) reply (map_in eq store)
        resized_answered = map_answered eq input build write finish classes respects s now.call.call reply store lawful over

        pub resized_made : IsMadeAlone eq hash s now.call.call reply (record s { store = store })
        resized_made = record { runs = over.ran }

        pub resized_keeps : Keeps s (record s { store = store })
        resized_keeps = record {
          hasher = map_hasher eq input build write finish classes respects s now.call.call reply store lawful over;
          mode = refl;
          initial = refl;
          pairs = (map_logged eq input build write finish classes respects s now.call.call reply store lawful over).1;
        }

      -- so the resize alone was done or refused
      alone_by : {R : Type 0} (y : Resize) → IsCallFor y now.call.call → (answer : Result R Refused)
          → IsDoneAlone eq hash s now.call.call answer (record s { store = store }) → IsResizedAlone eq hash y s answer (record s { store = store })
      alone_by (resizes.Reserve more) is answer made = subst (λ call. IsDoneAlone eq hash s call answer (record s { store = store })) is made
      alone_by resizes.CopyAll is answer made = subst (λ call. IsDoneAlone eq hash s call answer (record s { store = store })) is made
      alone_by resizes.Chunk is answer made = tt

      pub resized_done_alone : reply_of z ≡ Some Reply_done → IsResizedAlone eq hash {R = Unit {0}} resize s (Ok tt) (record s { store = store })
      resized_done_alone told = alone_by {R = Unit {0}} resize now.call.call_is (Ok (tt {0}))
          (made_done eq hash s (record s { store = store }) now.call.call Reply_done (resized_made Reply_done told) (tt {0}))

      pub resized_refused_alone : (refused : Refused) → reply_of z ≡ Some (Reply_refused refused)
          → IsResizedAlone eq hash {R = Unit {0}} resize s (Err refused) (record s { store = store })
      resized_refused_alone refused told = alone_by {R = Unit {0}} resize now.call.call_is (Err refused)
          (made_refused eq hash s (record s { store = store }) now.call.call (Reply_refused refused) (resized_made (Reply_refused refused) told) refused refl)

      -- the root's table is there, and has slots within the limits
      root_table : IsLawfulMap eq (hash store.hasher) store s.mode s.initial → 0 < store.words.root → (t : TableWords)
          × (table_of store.words.tables store.words.root ≡ Some t) × (length t.slots ≤ 2 ^ 32)
      root_table orderly some =
          let (t, there) = core_root_there eq (hash store.hasher) [] s.mode store orderly.lawful
          (keys_lawful eq input build write finish classes respects store.hasher) (λ none. absurd (omega (arith, some, none))) in
          (t, there, (orderly.lawful.core.sizes store.words.root t there).most)

      has_room : (more : ℕ) → IsLawfulMap eq (hash store.hasher) store s.mode s.initial → IsResized (resizes.Reserve more) store
          → HasRoomFor eq s.store more store
      has_room more orderly (some, enough) =
          let (t, there, most) = root_table orderly some in
          let counted : count_of store.count.sum ≡ length (content eq s.store) = ap (λ (y : StoreState K V S). count_of y.count.sum) now.came.logs ∙ pairs in
          let slots : slots_of store ≡ length t.slots = ap slots_in there in
          let kept_slots : kept.slots_in (table_of store.words.tables store.words.root) ≡ length t.slots = ap kept.slots_in there in
          let le : entries_of (length (content eq s.store) + more) ≤ slots_of store = subst (λ n. entries_of (n + more) ≤ slots_of store) counted
          (subst (λ n. entries_of (count_of store.count.sum + more) ≤ n) (kept_slots ∙ sym slots) enough) in
          room_is (length (content eq s.store) + more) (slots_of store) (subst (λ n. n ≤ 2 ^ 32) (sym slots) most) le

      -- the root has no next table, or there is no root
      whole : IsWhole (word_at store.words) → next_of store ≡ 0
      whole (inl none) = ap (λ r. next_in (table_of store.words.tables r)) none
      whole (inr last) = sym (next_is store.words.tables store.words.root) ∙ last

      by_resize : (y : Resize) → IsLawfulMap eq (hash store.hasher) store s.mode s.initial → IsResized y store → IsResizedTo eq y s.store store
      by_resize (resizes.Reserve more) orderly h = has_room more orderly h
      by_resize resizes.CopyAll orderly h = whole h
      by_resize resizes.Chunk orderly h = tt

      -- the resize is done, if the reply is `Done`
      pub resized_done : reply_of z ≡ Some Reply_done → IsResizedTo eq resize s.store store
      resized_done told = by_resize resize (resized_lawful Reply_done told) (now.came.done told)

      -- a refusal has a cause
      refusal : (y : Resize) → resize ≡ y → (refused : Refused) → reply_of z ≡ Some (Reply_refused refused)
          → IsCauseOf eq hash s resize y refused (record s { store = store }) → IsResizeRefusal eq y s refused (record s { store = store })
      refusal (resizes.Reserve more) is refused told because = because
      refusal resizes.CopyAll is refused told because = (by_next (cases_eq (next_of s.store) 0), because)
        where
          by_next : ((next_of s.store ≡ 0) ⊎ (next_of s.store ≡ 0 → ⊥)) → IsResizing s
          by_next (inl last) = absurd (calm_unrefused s.store.words.root z.state refused told (now.causes.calm is last).1)
          by_next (inr moves) = moves
      refusal resizes.Chunk is refused told because = tt

      pub resized_refused : (refused : Refused) → reply_of z ≡ Some (Reply_refused refused) → IsResizeRefusal eq resize s refused (record s { store = store })
      resized_refused refused told = refusal resize refl refused told (now.causes.caused refused told)

      -- if no table is large enough for this many pairs, it ends so, and nothing was done
      pub resized_past : IsPastLimit eq resize s.store → ask_of z ≡ None → (reply_of z ≡ Some (Reply_refused Capacity)) × (store ≡ s.store)
      resized_past late none = let early = now.causes.early late in (early_ends z.state none early.1, early.0)

      -- if there is already room for them, it ends so, and nothing was done
      pub resized_idle : IsRoomThere eq resize s.store → ask_of z ≡ None → (reply_of z ≡ Some Reply_done) × (store ≡ s.store)
      resized_idle there none = let idle = now.causes.idle there in (idle_ends s.store.words.root (slots_of s.store) z.state none idle.1, idle.0)

      -- a call that resizes the map leaves it
      same_by : (IsLeftBy now.call.call (map_in eq s.store) (map_in eq store) → Same (map_in eq s.store) (map_in eq store))
          × (IsDoneBy now.call.call (map_in eq s.store) (map_in eq store) → Same (map_in eq s.store) (map_in eq store))
      same_by = resized_same (λ k. 0) s.mode s.initial 0 now.call.call (begun resize s.mode.resize s.initial 0)
          (now.call.begins (λ k. 0) s.mode s.initial 0) (map_in eq s.store) (map_in eq store)

      -- no pair of the map changes
      pub resized_unchanged : ask_of z ≡ None → Unchanged eq s.store store
      resized_unchanged none = ⊎_elim
          (λ (told : reply_of z ≡ Some Reply_done). same_by.1 (resized_answered Reply_done told).1)
          (λ (told : (refused : Refused) × (reply_of z ≡ Some (Reply_refused refused))). same_by.0 (resized_answered (Reply_refused told.0) told.1).0)
          (ends_so z none)

      -- it has replied
      pub resized_replied : ask_of z ≡ None → (reply : Reply) × (reply_of z ≡ Some reply)
      resized_replied none = ⊎_elim
          (λ (told : reply_of z ≡ Some Reply_done). (Reply_done, told))
          (λ (told : (refused : Refused) × (reply_of z ≡ Some (Reply_refused refused))). (Reply_refused told.0, told.1))
          (ends_so z none)
