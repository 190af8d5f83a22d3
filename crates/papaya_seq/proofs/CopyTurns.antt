-- A copy by a loop: each iteration advances the machine of a copy.
use Rattle.std.proofs.Common.{le-ltb, lt-ltb, ◌≡◌, ℕ, zero, suc, ◌+◌, ◌^◌, ◌<◌, ◌≤◌, ◌==◌, nat_lt, Bool, true}
use Rattle.std.proofs.Common.{false, cond, List, [], ◌∷◌, ◌++◌, Option, Some, refl, sym, ◌∙◌, ap}
use Rattle.std.proofs.Common.{subst}
use Rattle.papaya_words.specs.Word.{kind_of, pair_of as number_of, hint_of, live_word, may_hold, shut_hint}
use Rattle.papaya_words.specs.declared.word.Kind.{Kind}
use Rattle.papaya_words.specs.declared.resize_mode.ResizeMode.{ResizeMode}
use Rattle.papaya_call.specs.declared.ask.Answer.{Answer as Call_answer}
use Rattle.papaya_call.specs.declared.ask.Answer.TheVariants.{Word as Word_read, Exchanged, Found as Found_instead, Size, Ok as Ok_done}
use Rattle.papaya_call.specs.declared.ask.At.{At}
use Rattle.papaya_call.specs.declared.ask.At.TheVariants.{Slot as Slot_at}
use Rattle.papaya_call.specs.declared.copy_ask.CopyAsk.{CopyAsk}
use Rattle.papaya_call.specs.declared.copy_ask.CopyAsk.TheVariants.{Exchange, WriteHint}
use Rattle.papaya_call.specs.declared.search.Place.{Place}
use Rattle.papaya_call.specs.declared.search.Search.TheVariants as searches
use Rattle.papaya_call.specs.declared.search.ProbeStep.{ProbeStep}
use Rattle.papaya_call.specs.declared.search.ProbeStep.TheVariants as seen
use Rattle.papaya_call.specs.Search as search_specs
use Rattle.papaya_call.specs.Search.{first_place, next_place}
use Rattle.papaya_call.specs.Carry as carries
use Rattle.papaya_call.specs.Copying.{leads}
use Rattle.papaya_call.specs.Settle.{at_exchanged, at_found, at_hash, at_ok, at_size, at_word}
use Rattle.papaya_call.specs.Settle.{copied_as, finishes as settle_finishes, look_at as settle_look}
use Rattle.papaya_call.specs.Settle.{marked_as, settle_ask, settled_by}
use Rattle.papaya_call.specs.Step.{next_in, next_slot, settled_to, slot_of}
use Rattle.papaya_call.specs.declared.copy.carry.Carried.TheVariants.{On as Carry_on}
use Rattle.papaya_call.specs.declared.copy.carry.Carry.{Carry}
use Rattle.papaya_call.specs.declared.copy.carry.Carry.TheVariants.{Hashing, Sizing, Looking, Reading, Placing, Placed}
use Rattle.papaya_call.specs.declared.copy.copying.Aim.{Aim}
use Rattle.papaya_call.specs.declared.copy.copying.Copied.{Copied}
use Rattle.papaya_call.specs.declared.copy.copying.Copied.TheVariants as copied_to
use Rattle.papaya_call.specs.declared.copy.copying.Copying.{Copying}
use Rattle.papaya_call.specs.declared.copy.copying.Copying.TheVariants.{Stepping}
use Rattle.papaya_call.specs.declared.copy.settle.Settle.{Settle}
use Rattle.papaya_call.specs.declared.copy.settle.Settle.TheVariants as settles
use Rattle.papaya_call.specs.declared.copy.settle.Settled.{Settled}
use Rattle.papaya_call.specs.declared.copy.settle.Settled.TheVariants.{On, Settled as Was_settled}
use Rattle.papaya_call.specs.declared.copy.settle.SlotToCopy.{SlotToCopy}
use Rattle.papaya_call.specs.declared.copy.step.Chunk.{Chunk}
use Rattle.papaya_call.specs.declared.copy.step.Step.TheVariants.{Settling, Advancing}
use Rattle.papaya_call.specs.declared.copy.step.Stepped.TheVariants as stepped
use Rattle.papaya_call.specs.declared.chain.ask.Answer.{Answer}
use Rattle.papaya_call.specs.declared.chain.ask.Answer.TheVariants.{Call, Hash}
use Rattle.papaya_call.specs.declared.chain.machine.Machine.{Machine}
use Rattle.papaya_call.specs.declared.chain.machine.Phase.TheVariants.{Copying as Copying_root}
use Rattle.papaya_call.specs.declared.chain.ask.Ask.{Ask}
use Rattle.papaya_call.specs.declared.chain.ask.Ask.TheVariants as asks
use Rattle.papaya_call.specs.declared.chain.resizer.Resizer.{Resizer}
use Rattle.papaya_call.specs.ChainMachine.{after, after_copied, copying_after}
use Rattle.papaya_call.specs.Resizer as resizers
use Rattle.papaya_core_store.specs.CopyAsks.{PerformsCopy, hash_in}
use Rattle.papaya_core_store.specs.Performs.{Exchanges, size_of}
use Rattle.papaya_core_store.specs.Store.{StoreState, Stored, pair_of}
use Rattle.papaya_core_store.specs.Tables.{hint_at, note, put, table_of, word_at}
use Rattle.papaya_core_timeline.proofs.StoreLemmas.{matched, numbered, performed_copy, unnumbered}
use Rattle.papaya_seq.specs.Copies.{Comes, Copies, IsSized, Settles, asked_in, copy_in, copy_of, led_on}
use Rattle.papaya_seq.specs.Searches.{passed_by, passed_on, seen_at}
use Rattle.papaya_seq.proofs.Exchanging.{exchange_done, exchange_made}

-- if the search for a place passes by a hint, so does a search for a key
pub looks_on : (hash : ℕ) (at next : Place) (mode : ResizeMode) (hint : ℕ) → search_specs.hinted at hash hint ≡ seen.On (searches.Looking next)
    → carries.hinted hash at mode hint ≡ Carry_on (Looking hash next)
looks_on hash at next mode hint = go (may_hold hint hash) (nat_lt at.probe.len at.limit)
  where
    go : (held more : Bool) → cond held (seen.On (searches.Reading at)) (cond more (seen.On (searches.Looking (next_place at))) (seen.Over at.table))
        ≡ seen.On (searches.Looking next) → cond held (Carry_on (Reading hash at))
        (cond more (Carry_on (Looking hash (next_place at))) (Carry_on (carries.fills hash at.table mode))) ≡ Carry_on (Looking hash next)
    go true more e = absurd cc
    go false true e = let same : next_place at ≡ next = cc e in ap (λ p. Carry_on (Looking hash p)) same
    go false false e = absurd cc

pub reads_on : (hash : ℕ) (at other : Place) (mode : ResizeMode) (hint : ℕ) → search_specs.hinted at hash hint ≡ seen.On (searches.Reading other)
    → carries.hinted hash at mode hint ≡ Carry_on (Reading hash other)
reads_on hash at other mode hint = go (may_hold hint hash) (nat_lt at.probe.len at.limit)
  where
    go : (held more : Bool) → cond held (seen.On (searches.Reading at)) (cond more (seen.On (searches.Looking (next_place at))) (seen.Over at.table))
        ≡ seen.On (searches.Reading other) → cond held (Carry_on (Reading hash at))
        (cond more (Carry_on (Looking hash (next_place at))) (Carry_on (carries.fills hash at.table mode))) ≡ Carry_on (Reading hash other)
    go true more e = let same : at ≡ other = cc e in ap (λ p. Carry_on (Reading hash p)) same
    go false true e = absurd cc
    go false false e = absurd cc

module _ {K V S : Type 0} (eq : K → K → Bool) (hash : S → K → ℕ) where
  -- one run of answers after another
  copies_then : {M : Type 0} (asks : M → Option CopyAsk) (leads_on : M → Answer → M) (first rest : List Answer) (s : StoreState K V S) (m : M)
      (s' : StoreState K V S) (m' : M) (s'' : StoreState K V S) (m'' : M) → Copies eq hash asks leads_on first s m s' m'
      → Copies eq hash asks leads_on rest s' m' s'' m'' → Copies eq hash asks leads_on (first ++ rest) s m s'' m''
  copies_then asks leads_on [] rest s m s' m' s'' m'' (store, machine) more = subst (λ x. Copies eq hash asks leads_on rest x m s'' m'') store
      (subst (λ x. Copies eq hash asks leads_on rest s' x s'' m'') machine more)
  copies_then asks leads_on (answer ∷ first) rest s m s' m' s'' m'' (ask, is, middle, performs, led)
      more = (ask, is, middle, performs, copies_then asks leads_on first rest middle (leads_on m answer) s' m' s'' m'' led more)

  module _ (mode : ResizeMode) where
    pub comes_then : (s : StoreState K V S) (from : Copied) (s' : StoreState K V S) (to : Copied) (s'' : StoreState K V S) (end : Copied)
        → Comes eq hash mode s from s' to → Comes eq hash mode s' to s'' end → Comes eq hash mode s from s'' end
    comes_then s from s' to s'' end first rest initial number =
        let (told, led) = first initial number in
        let (more, later) = rest initial number in
        (told ++ more, copies_then asked_in (led_on mode initial number) told more s from s' to s'' end led later)

    module _ (slot : SlotToCopy) where
      pub settles_none : (s : StoreState K V S) (at : Settled) → Settles eq hash mode slot s at s at
      settles_none s at aim chunk is initial number = ([], (refl, refl))

      pub settles_then : (s : StoreState K V S) (from : Settled) (s' : StoreState K V S) (to : Settled) (s'' : StoreState K V S) (end : Settled)
          → Settles eq hash mode slot s from s' to → Settles eq hash mode slot s' to s'' end → Settles eq hash mode slot s from s'' end
      settles_then s from s' to s'' end first rest aim chunk is = comes_then s (leads aim mode (settled_to chunk from)) s'
          (leads aim mode (settled_to chunk to)) s'' (leads aim mode (settled_to chunk end)) (first aim chunk is) (rest aim chunk is)

      module _ (s s' : StoreState K V S) (settle : Settle) where
        -- one ask is answered
        one : (answer : Answer) (to : SlotToCopy → Settled) → PerformsCopy eq hash false (settle_ask settle slot) s answer s'
            → ((aim : Aim) (chunk : Chunk) (initial number : ℕ)
            → leads aim mode (settled_to chunk (to (slot_of chunk))) ≡ copying_after (Stepping aim (Settling chunk settle)) mode initial number answer)
            → Settles eq hash mode slot s (On settle) s' (to slot)
        one answer to performs led aim chunk is initial number = (
          answer ∷ [],
          (
            settle_ask settle (slot_of chunk),
            refl,
            s',
            subst (λ y. PerformsCopy eq hash false (settle_ask settle y) s answer s') (sym is) performs,
            (refl, ap (λ y. leads aim mode (settled_to chunk (to y))) (sym is) ∙ led aim chunk initial number),
          ),
        )

        pub told_word : (word : ℕ) → PerformsCopy eq hash false (settle_ask settle slot) s (Call (Word_read word)) s'
            → Settles eq hash mode slot s (On settle) s' (at_word settle slot mode word)
        told_word word performs = one (Call (Word_read word)) (λ y. at_word settle y mode word) performs (λ aim chunk initial number. refl)

        pub told_exchanged : PerformsCopy eq hash false (settle_ask settle slot) s (Call Exchanged) s'
            → Settles eq hash mode slot s (On settle) s' (at_exchanged settle slot mode)
        told_exchanged performs = one (Call Exchanged) (λ y. at_exchanged settle y mode) performs (λ aim chunk initial number. refl)

        pub told_found : (word : ℕ) → PerformsCopy eq hash false (settle_ask settle slot) s (Call (Found_instead word)) s'
            → Settles eq hash mode slot s (On settle) s' (at_found settle slot mode word)
        told_found word performs = one (Call (Found_instead word)) (λ y. at_found settle y mode word) performs (λ aim chunk initial number. refl)

        pub told_ok : PerformsCopy eq hash false (settle_ask settle slot) s (Call Ok_done) s' → Settles eq hash mode slot s (On settle) s' (at_ok settle mode)
        told_ok performs = one (Call Ok_done) (λ y. at_ok settle mode) performs (λ aim chunk initial number. refl)

        pub told_hash : (hashed : ℕ) → PerformsCopy eq hash false (settle_ask settle slot) s (Hash hashed) s'
            → Settles eq hash mode slot s (On settle) s' (On (at_hash settle hashed))
        told_hash hashed performs = one (Hash hashed) (λ y. On (at_hash settle hashed)) performs (λ aim chunk initial number. refl)

        pub told_size : (len limit : ℕ) → PerformsCopy eq hash false (settle_ask settle slot) s (Call (Size len limit)) s'
            → Settles eq hash mode slot s (On settle) s' (On (at_size settle len limit))
        told_size len limit performs = one (Call (Size len limit)) (λ y. On (at_size settle len limit)) performs (λ aim chunk initial number. refl)

      module _ (s : StoreState K V S) (marked : ℕ) where
        -- the move of a pair
        abbrev pub carried : Carry → Settled
        carried carry = On (settles.Carrying marked carry)

        pub carry_then : (from to end : Carry) → Settles eq hash mode slot s (carried from) s (carried to)
            → Settles eq hash mode slot s (carried to) s (carried end) → Settles eq hash mode slot s (carried from) s (carried end)
        carry_then from to end = settles_then s (carried from) s (carried to) s (carried end)

        pub hashes : (table hashed : ℕ) (p : Stored K V) → pair_of s (number_of marked) ≡ Some p → hash s.hasher p.key ≡ hashed → hashed < 2 ^ 64
            → Settles eq hash mode slot s (carried (Hashing table)) s (carried (Sizing hashed table))
        hashes table hashed p there is fits =
            told_hash s s (settles.Carrying marked (Hashing table)) hashed
            (sym (ap (hash_in (hash s.hasher)) there ∙ ap Hash is), fits, refl)

        pub sizes : (table hashed len limit : ℕ) → size_of (table_of s.words.tables table) ≡ Size len limit
            → Settles eq hash mode slot s (carried (Sizing hashed table)) s (carried (Looking hashed (first_place hashed table len limit)))
        sizes table hashed len limit is = told_size s s (settles.Carrying marked (Sizing hashed table)) len limit (ap Call (sym is), refl)

        module _ (hashed : ℕ) (at : Place) where
          -- the hint of a place
          hinted_so : (to : Carry) → carries.hinted hashed at mode (hint_at s.words at.table at.probe.i) ≡ Carry_on to
              → Settles eq hash mode slot s (carried (Looking hashed at)) s (carried to)
          hinted_so to is =
              subst (λ x. Settles eq hash mode slot s (carried (Looking hashed at)) s (settled_by marked mode x)) is
              (told_word s s (settles.Carrying marked (Looking hashed at)) (hint_at s.words at.table at.probe.i) (refl, refl))

          looks_further : (next : Place) → search_specs.hinted at hashed (hint_at s.words at.table at.probe.i) ≡ seen.On (searches.Looking next)
              → Settles eq hash mode slot s (carried (Looking hashed at)) s (carried (Looking hashed next))
          looks_further next is = hinted_so (Looking hashed next) (looks_on hashed at next mode (hint_at s.words at.table at.probe.i) is)

          reads : (other : Place) → search_specs.hinted at hashed (hint_at s.words at.table at.probe.i) ≡ seen.On (searches.Reading other)
              → Settles eq hash mode slot s (carried (Looking hashed at)) s (carried (Reading hashed other))
          reads other is = hinted_so (Reading hashed other) (reads_on hashed at other mode (hint_at s.words at.table at.probe.i) is)

          -- and its word, if the place is empty
          pub finds : word_at s.words (Slot_at at.table at.probe.i) ≡ 0
              → Settles eq hash mode slot s (carried (Reading hashed at)) s (carried (Placing hashed at))
          finds empty =
              subst (λ x. Settles eq hash mode slot s (carried (Reading hashed at)) s (settled_by marked mode (carries.look hashed at mode x))) empty
              (told_word s s (settles.Carrying marked (Reading hashed at)) (word_at s.words (Slot_at at.table at.probe.i)) (refl, refl))

        -- a search for a place passed by others
        pub reads_passed : (hashed n : ℕ) (at place : Place) → passed_by s hashed n at ≡ seen.On (searches.Reading place)
            → Settles eq hash mode slot s (carried (Looking hashed at)) s (carried (Reading hashed place))
        reads_passed hashed zero at place is = reads hashed at place is
        reads_passed hashed (suc n) at place is = go (seen_at s hashed at) refl is (λ next. reads_passed hashed n next place)
          where
            go : (told : ProbeStep) → seen_at s hashed at ≡ told → passed_on (λ next. passed_by s hashed n next) told ≡ seen.On (searches.Reading place)
                → ((next : Place) → passed_by s hashed n next ≡ seen.On (searches.Reading place)
                → Settles eq hash mode slot s (carried (Looking hashed next)) s (carried (Reading hashed place)))
                → Settles eq hash mode slot s (carried (Looking hashed at)) s (carried (Reading hashed place))
            go (seen.On (searches.Sizing t)) tells e rest = absurd cc
            go (seen.On (searches.Looking next)) tells e rest =
                carry_then (Looking hashed at) (Looking hashed next) (Reading hashed place) (looks_further hashed at next tells) (rest next e)
            go (seen.On (searches.Reading other)) tells e rest = reads hashed at place (tells ∙ e)
            go (seen.On (searches.Comparing other word)) tells e rest = absurd cc
            go (seen.Empty other) tells e rest = absurd cc
            go (seen.Here other word) tells e rest = absurd cc
            go (seen.Over t) tells e rest = absurd cc

      -- the word of the slot
      module _ (s : StoreState K V S) where
        pub looks : (word : ℕ) → word_at s.words (Slot_at slot.from slot.index) ≡ word
            → Settles eq hash mode slot s (On settles.Looking) s (at_word settles.Looking slot mode word)
        looks word is = subst (λ x. Settles eq hash mode slot s (On settles.Looking) s (at_word settles.Looking slot mode x)) is
            (told_word s s settles.Looking (word_at s.words (Slot_at slot.from slot.index)) (refl, refl))

        pub looks_at : (word : ℕ) (kind : Kind) → word_at s.words (Slot_at slot.from slot.index) ≡ word → kind_of word ≡ kind
            → Settles eq hash mode slot s (On settles.Looking) s (settle_look kind slot word)
        looks_at word kind is says = subst (λ x. Settles eq hash mode slot s (On settles.Looking) s (settle_look x slot word)) says (looks word is)

      module _ (s s' : StoreState K V S) (told : Call_answer) where
        -- an exchange that finds its expected word
        made : (settle : Settle) (at : At) (old new : ℕ) → settle_ask settle slot ≡ Exchange at old new → word_at s.words at ≡ old
            → Exchanges (word_at s.words at) old (put s.words at new) told s s' → Settles eq hash mode slot s (On settle) s' (at_exchanged settle slot mode)
        made settle at old new asks stands exchanges =
            told_exchanged s s' settle (subst (λ a. PerformsCopy eq hash false a s (Call Exchanged) s') (sym asks) (
              Exchanged,
              refl,
              subst (λ x. Exchanges (word_at s.words at) old (put s.words at new) Exchanged s x)
                  (sym (exchange_done s at old new stands s' told exchanges)) (exchange_made s at old new stands),
            ))

        pub closes : word_at s.words (Slot_at slot.from slot.index) ≡ 0
            → Exchanges (word_at s.words (Slot_at slot.from slot.index)) 0 (put s.words (Slot_at slot.from slot.index) 5) told s s'
            → Settles eq hash mode slot s (On settles.Closing) s' (On settles.Shutting)
        closes = made settles.Closing (Slot_at slot.from slot.index) 0 5 refl

        pub marks : (word : ℕ) → word_at s.words (Slot_at slot.from slot.index) ≡ word
            → Exchanges (word_at s.words (Slot_at slot.from slot.index)) word (put s.words (Slot_at slot.from slot.index) (marked_as word)) told s s'
            → Settles eq hash mode slot s (On (settles.Marking word)) s' (On (settles.Carrying (marked_as word) (Hashing slot.to)))
        marks word = made (settles.Marking word) (Slot_at slot.from slot.index) word (marked_as word) refl

        pub places : (marked hashed : ℕ) (at : Place) → word_at s.words (Slot_at at.table at.probe.i) ≡ 0
            → Exchanges (word_at s.words (Slot_at at.table at.probe.i)) 0 (put s.words (Slot_at at.table at.probe.i) (live_word (number_of marked)))
            told s s' → Settles eq hash mode slot s (On (settles.Carrying marked (Placing hashed at))) s' (On (settles.Carrying marked (Placed hashed at)))
        places marked hashed at = made (settles.Carrying marked (Placing hashed at)) (Slot_at at.table at.probe.i) 0 (live_word (number_of marked)) refl

        -- a slot whose word was to be finished has been migrated, whatever word is in it
        pub finishes : (marked : ℕ) → Exchanges (word_at s.words (Slot_at slot.from slot.index)) marked
            (put s.words (Slot_at slot.from slot.index) (copied_as marked)) told s s' → Settles eq hash mode slot s (On (settles.Finishing marked)) s' Was_settled
        finishes marked exchanges =
            matched (Settles eq hash mode slot s (On (settles.Finishing marked)) s' Was_settled)
            (word_at s.words (Slot_at slot.from slot.index) == marked) _ _ exchanges
            (λ same done. told_exchanged s s' (settles.Finishing marked) (told, ap Call (sym done.0), exchanges))
            (λ other lost. told_found s s' (settles.Finishing marked) (word_at s.words (Slot_at slot.from slot.index)) (told, ap Call (sym lost.0), exchanges))

      module _ (s s' : StoreState K V S) where
        -- a hint is written
        pub shuts : s' ≡ record s { words = note s.words slot.from slot.index shut_hint } → Settles eq hash mode slot s (On settles.Shutting) s' Was_settled
        shuts is = told_ok s s' settles.Shutting (refl, is)

        pub notes : (marked hashed : ℕ) (at : Place) → s' ≡ record s { words = note s.words at.table at.probe.i (hint_of hashed) }
            → Settles eq hash mode slot s (On (settles.Carrying marked (Placed hashed at))) s' (settle_finishes marked mode)
        notes marked hashed at is = told_ok s s' (settles.Carrying marked (Placed hashed at)) (refl, is)

-- the next slot of a chunk, or none
pub next_slots : (chunk : Chunk) → chunk.at + 1 < chunk.end → next_in (next_slot chunk) ≡ stepped.On (Settling (next_slot chunk) settles.Looking)
next_slots chunk more = ap (λ b. cond b (stepped.On (Settling (next_slot chunk) settles.Looking)) (stepped.On (Advancing chunk.cursor)))
    (lt-ltb (chunk.at + 1) chunk.end more)

pub last_slot : (chunk : Chunk) → chunk.end ≤ chunk.at + 1 → next_in (next_slot chunk) ≡ stepped.On (Advancing chunk.cursor)
last_slot chunk none = ap (λ b. cond b (stepped.On (Settling (next_slot chunk) settles.Looking)) (stepped.On (Advancing chunk.cursor)))
    (le-ltb (chunk.at + 1) chunk.end none)

-- a call that copies asks just that
pub copy_asked : (ask : Ask) (copy : CopyAsk) → copy_in ask ≡ Some copy → ask ≡ asks.Copy copy
copy_asked (asks.Call call) copy e = absurd (cc e)
copy_asked (asks.Copy other) copy e = let same : other ≡ copy = cc e in ap asks.Copy same

-- the next state of a call after a copy does not depend on who asks
same_copied : (m : Machine) (copying : Copying) (to : Copied) → after_copied (record m { phase = Copying_root copying }) to ≡ after_copied m to
same_copied m copying (copied_to.On other) = refl
same_copied m copying (copied_to.Search table) = refl
same_copied m copying (copied_to.Root root) = refl
same_copied m copying copied_to.Chunk = refl
same_copied m copying (copied_to.Refused refused) = refl

module _ {K V S : Type 0} (eq : K → K → Bool) (hash : S → K → ℕ) where
  -- the tables keep the sizes of tables
  pub exchange_sized : (s s' : StoreState K V S) (at : At) (old new : ℕ) (told : Call_answer)
      → Exchanges (word_at s.words at) old (put s.words at new) told s s' → IsSized s → IsSized s'
  exchange_sized s s' at old new told exchanges sized = numbered s'.words.tables
      (performed_copy eq hash false (Exchange at old new) s (Call told) s' (unnumbered s.words.tables sized) tt (told, refl, exchanges)).sized

  pub note_sized : (s s' : StoreState K V S) (n i hint : ℕ) → s' ≡ record s { words = note s.words n i hint } → IsSized s → IsSized s'
  note_sized s s' n i hint is sized = numbered s'.words.tables
      (performed_copy eq hash false (WriteHint n i hint) s (Call Ok_done) s' (unnumbered s.words.tables sized) tt (refl, is)).sized

  -- the copy of the root is that of a call
  pub calls_so : (m : Machine) (told : List Answer) (s : StoreState K V S) (from : Copied) (s' : StoreState K V S) (to : Copied)
      → Copies eq hash asked_in (led_on m.call.mode m.call.initial m.number) told s from s' to
      → Copies eq hash copy_of after told s (after_copied m from) s' (after_copied m to)
  calls_so m [] s from s' to (store, copied) = (store, ap (after_copied m) copied)
  calls_so m (answer ∷ rest) s (copied_to.On copying) s' to (ask, is, middle, performs, more) = (
    ask,
    is,
    middle,
    performs,
    subst (λ x. Copies eq hash copy_of after rest middle x s' (after_copied m to))
        (sym (same_copied m copying (copying_after copying m.call.mode m.call.initial m.number answer)))
        (calls_so m rest middle (copying_after copying m.call.mode m.call.initial m.number answer) s' to more),
  )
  calls_so m (answer ∷ rest) s (copied_to.Search table) s' to (ask, is, middle, performs, more) = absurd (cc is)
  calls_so m (answer ∷ rest) s (copied_to.Root root) s' to (ask, is, middle, performs, more) = absurd (cc is)
  calls_so m (answer ∷ rest) s copied_to.Chunk s' to (ask, is, middle, performs, more) = absurd (cc is)
  calls_so m (answer ∷ rest) s (copied_to.Refused refused) s' to (ask, is, middle, performs, more) = absurd (cc is)

  -- the same for a call that resizes the map
  pub resizes_so : (z : Resizer) (root : ℕ) (told : List Answer) (s : StoreState K V S) (from : Copied) (s' : StoreState K V S) (to : Copied)
      → Copies eq hash asked_in (led_on z.mode z.initial z.number) told s from s' to
      → Copies eq hash resizers.ask_of resizers.after told s (record z { state = resizers.copied z.resize root from }) s'
      (record z { state = resizers.copied z.resize root to })
  resizes_so z root [] s from s' to (store, copied) = (store, ap (λ x. record z { state = resizers.copied z.resize root x }) copied)
  resizes_so z root (answer ∷ rest) s (copied_to.On copying) s' to (ask, is, middle, performs, more) =
      (ask, is, middle, performs, resizes_so z root rest middle (copying_after copying z.mode z.initial z.number answer) s' to more)
  resizes_so z root (answer ∷ rest) s (copied_to.Search table) s' to (ask, is, middle, performs, more) = absurd (cc is)
  resizes_so z root (answer ∷ rest) s (copied_to.Root other) s' to (ask, is, middle, performs, more) = absurd (cc is)
  resizes_so z root (answer ∷ rest) s copied_to.Chunk s' to (ask, is, middle, performs, more) = absurd (cc is)
  resizes_so z root (answer ∷ rest) s (copied_to.Refused refused) s' to (ask, is, middle, performs, more) = absurd (cc is)
