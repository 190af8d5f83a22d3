-- An insertion of a map for one caller while no pairs are being moved: it stays in the root, or its key is absent.
use Rattle.std.proofs.Common.{◌≡◌, ◌⊎◌, inl, inr, ℕ, ◌^◌, ◌<◌, ◌==◌, Bool, true, false, None, Some, refl, sym, ◌∙◌, ap, cond, subst}
use Rattle.std.proofs.lemmas.Bool.{eqb-true}
use Rattle.papaya_words.specs.declared.refused.Refused.{Refused}
use Rattle.papaya_call.specs.declared.ask.Answer.{Answer as Call_answer}
use Rattle.papaya_call.specs.declared.ask.Answer.TheVariants.{Word as Word_read, Exchanged}
use Rattle.papaya_call.specs.declared.ask.Answer.TheVariants.{Found as Found_instead, Yes, Op, Size}
use Rattle.papaya_call.specs.declared.ask.Answer.TheVariants.{Made as Made_number, Ok as Ok_done}
use Rattle.papaya_call.specs.declared.ask.Answer.TheVariants.{Refused as Was_refused}
use Rattle.papaya_call.specs.declared.ask.At.TheVariants.{Slot}
use Rattle.papaya_call.specs.declared.call.Reply.TheVariants.{Absent, Found, Inserted, Replaced}
use Rattle.papaya_call.specs.declared.call.Reply.TheVariants.{Occupied, Removed, Kept, Aborted, Done}
use Rattle.papaya_call.specs.declared.call.Reply.TheVariants.{Refused as Reply_refused}
use Rattle.papaya_call.specs.declared.call.Task.TheVariants.{Insert}
use Rattle.papaya_call.specs.declared.search.Search.TheVariants.{Sizing}
use Rattle.papaya_call.specs.declared.machine.Machine.{Machine as Call_machine}
use Rattle.papaya_call.specs.declared.machine.State.{State}
use Rattle.papaya_call.specs.declared.machine.State.TheVariants.{AtRoot, Making, Opening, Searching}
use Rattle.papaya_call.specs.declared.machine.State.TheVariants.{Writing, Offering, Showing}
use Rattle.papaya_call.specs.declared.machine.State.TheVariants.{Pairing, Putting, Burying}
use Rattle.papaya_call.specs.declared.machine.State.TheVariants.{Counting, Noting, Uncounting}
use Rattle.papaya_call.specs.declared.machine.State.TheVariants.{Leaving, Growing, Ended}
use Rattle.papaya_call.specs.declared.need.Need.{Need}
use Rattle.papaya_call.specs.declared.write.Claimed.{Claimed}
use Rattle.papaya_call.specs.declared.made.Made.{Made}
use Rattle.papaya_call.specs.declared.write.Write.{Write}
use Rattle.papaya_call.specs.Write.{serves}
use Rattle.papaya_call.specs.Machine as calls
use Rattle.papaya_call.specs.Machine.{at_root, needed}
use Rattle.papaya_call.specs.declared.chain.ask.Answer.{Answer}
use Rattle.papaya_call.specs.declared.chain.ask.Answer.TheVariants as answers
use Rattle.papaya_call.specs.declared.chain.ask.Ask.TheVariants as asks
use Rattle.papaya_call.specs.declared.chain.machine.Machine.{Machine}
use Rattle.papaya_call.specs.declared.chain.machine.Phase.TheVariants.{Calling}
use Rattle.papaya_call.specs.ChainMachine.{after, ask_of, asks_in}
use Rattle.papaya_call_law.specs.Goes.{IsOwnStep}
use Rattle.papaya_call_law.specs.ChainRelies.{left_by}
use Rattle.papaya_call_law.specs.Alone.{IsRead}
use Rattle.papaya_call_law.specs.Relies.{change_in}
use Rattle.papaya_call_law.proofs.Makings.{write_holds}
use Rattle.papaya_call_alone.specs.Ahead.{IsPhaseRead}
use Rattle.papaya_call_alone.specs.Rank.{table_of}
use Rattle.papaya_core_store.specs.Asks.{PerformsAsk}
use Rattle.papaya_core_store.specs.Performs.{Performs, own_key}
use Rattle.papaya_core_store.specs.Store.{StoreState}
use Rattle.papaya_core_store.specs.Tables.{word_at}
use Rattle.papaya_core_store.specs.declared.pairs.Running.{Running}
use Rattle.papaya_core_timeline.specs.Advances.{goes_on, reply_in}
use Rattle.papaya_core_timeline.specs.Callers.{as_work, call_in, running}
use Rattle.papaya_core_timeline.specs.Content.{map_in}
use Rattle.papaya_core_timeline.specs.Core.{CoreState}
use Rattle.papaya_core_timeline.specs.Solo.{whatever}
use Rattle.papaya_core_timeline.proofs.KeptSettings.{IsLawfulKeys}
use Rattle.papaya_seq.specs.Map.{IsLawfulMap, MapState, next_of}
use Rattle.papaya_seq.proofs.Causes.{IsLogRefusal}
use Rattle.papaya_seq.proofs.Inserting.{HasWritten, IsIn, counts_on, notes_on, searches_in, writes_on}
use Rattle.papaya_seq.proofs.InsertingSteps.{search_stays, write_unbeaten}
use Rattle.papaya_seq.proofs.KeyCalls.{KeyCall, keyed_insertion}
use Rattle.papaya_seq.proofs.NoPlace as places
use Rattle.papaya_seq.proofs.StepsOfOwn.{leaves_none, own_performs, own_step}
use Rattle.papaya_seq.proofs.Steps.{HasCome, came_more, made_goes, made_unchanged, seated, stepped, still}

-- a machine that asks for itself continues, in these states
asking : (m : Machine) (state : State) → m.phase ≡ Calling → m.call.state ≡ state
    → reply_in (ask_of m) ≡ reply_in (asks_in (record m.call { state = state }) Calling)
asking m state calling e = ap (λ p. reply_in (asks_in m.call p)) calling ∙ ap (λ x. reply_in (asks_in (record m.call { state = x }) Calling)) e

writing_goes : (made : Made) (call : Call_machine) (write : Write) → reply_in (asks_in (record call { made = made; state = Writing write }) Calling) ≡ None
writing_goes made call write = write_holds (λ ask. reply_in (asks.Call ask) ≡ None)
    (record { loads = refl; takes = λ count. refl; key = refl; value = refl; pair = refl; pair_of = λ n. refl }) write (λ n. refl) made

module _ {K V S : Type 0} (eq : K → K → Bool) (hash : S → K → ℕ) (s : MapState K V S) (replace : Bool) (k : K) (value : V) where
  abbrev call : KeyCall K V
  call = keyed_insertion replace k value

  -- The insertion is at the root, which has no next table, or searches it, or writes if it may
  -- replace. From there it is refused only if the arena has no room, and only if it may replace.
  abbrev pub IsRootStage : StoreState K V S → State → Type 0
  IsRootStage store AtRoot = next_of store ≡ 0
  IsRootStage store (Searching search) = (table_of search ≡ store.words.root) × (next_of store ≡ 0)
  IsRootStage store (Writing write) = replace ≡ true
  IsRootStage store (Counting n) = Unit {0}
  IsRootStage store (Noting n) = Unit {0}
  IsRootStage store (Ended (Reply_refused refused)) = (replace ≡ true) × IsLogRefusal s refused
  IsRootStage store (Ended reply) = Unit {0}
  IsRootStage store _ = ⊥

  pub record IsInRoot (store : StoreState K V S) (m : Machine) : Type 0 where
    pub calling : m.phase ≡ Calling
    pub stage : IsRootStage store m.call.state

  abbrev pub IsRelying : StoreState K V S → Machine → Type 0
  IsRelying store m = (map_in eq s.store k ≡ None) ⊎ IsInRoot store m

  -- a write that was made in the root is still there
  written_stage : (store : StoreState K V S) (state : State) → replace ≡ true → HasWritten state
      → ((refused : Refused) → state ≡ Ended (Reply_refused refused) → IsLogRefusal s refused) → IsRootStage store state
  written_stage store (Writing write) only written caused = only
  written_stage store (Counting n) only written caused = tt
  written_stage store (Noting n) only written caused = tt
  written_stage store (Ended (Reply_refused refused)) only written caused = (only, caused refused refl)
  written_stage store (Ended Absent) only written caused = tt
  written_stage store (Ended (Found n)) only written caused = tt
  written_stage store (Ended (Inserted n)) only written caused = tt
  written_stage store (Ended (Replaced m n)) only written caused = tt
  written_stage store (Ended (Occupied n)) only written caused = tt
  written_stage store (Ended (Removed n)) only written caused = tt
  written_stage store (Ended (Kept n)) only written caused = tt
  written_stage store (Ended (Aborted n)) only written caused = tt
  written_stage store (Ended Done) only written caused = tt
  written_stage store AtRoot only written caused = absurd written
  written_stage store Making only written caused = absurd written
  written_stage store (Opening t) only written caused = absurd written
  written_stage store (Searching search) only written caused = absurd written
  written_stage store (Offering gap) only written caused = absurd written
  written_stage store (Showing removal) only written caused = absurd written
  written_stage store (Pairing purpose) only written caused = absurd written
  written_stage store (Putting put) only written caused = absurd written
  written_stage store (Burying removal) only written caused = absurd written
  written_stage store (Uncounting n) only written caused = absurd written
  written_stage store (Leaving t) only written caused = absurd written
  written_stage store (Growing need) only written caused = absurd written

  -- an insertion that counts is not refused
  counted_stage : (store : StoreState K V S) (m : Call_machine) (n : Claimed) (told : Call_answer)
      → IsRootStage store (calls.after (record m { state = Counting n }) told).state
  counted_stage store m n (Word_read word) = tt
  counted_stage store m n Exchanged = tt
  counted_stage store m n (Found_instead word) = tt
  counted_stage store m n (Yes agrees) = tt
  counted_stage store m n (Op kind) = tt
  counted_stage store m n (Size slots limit) = tt
  counted_stage store m n (Made_number number) = tt
  counted_stage store m n Ok_done = tt
  counted_stage store m n (Was_refused refused) = tt

  -- nor is one that writes its hint
  noted_stage : (store : StoreState K V S) (m : Call_machine) (n : Claimed) (told : Call_answer)
      → IsRootStage store (calls.after (record m { state = Noting n }) told).state
  noted_stage store m n (Word_read word) = tt
  noted_stage store m n Exchanged = tt
  noted_stage store m n (Found_instead word) = tt
  noted_stage store m n (Yes agrees) = tt
  noted_stage store m n (Op kind) = tt
  noted_stage store m n (Size slots limit) = tt
  noted_stage store m n (Made_number number) = tt
  noted_stage store m n Ok_done = tt
  noted_stage store m n (Was_refused refused) = tt

  module _ (keys : IsLawfulKeys eq (hash s.store.hasher)) (lawful : IsLawfulMap eq (hash s.store.hasher) s.store s.mode s.initial)
      (fits : hash s.store.hasher k < 2 ^ 64) where
    module _ (store : StoreState K V S) (r : Running K V (Unit {0})) (came : HasCome eq hash s call store r) (going : reply_in (ask_of r.machine) ≡ None) where
      abbrev now_core : CoreState K V S (Unit {0})
      now_core = seated store (still r) s.mode s.initial

      goes : running now_core.callers 0 ≡ Some r
      goes = ap (λ o. call_in (as_work (goes_on o r))) going

      -- a key that is absent now was absent, while the call has changed nothing
      was_absent : change_in r.machine.call.state ≡ None → (other : K) → own_key store r ≡ Some other → map_in eq store other ≡ None
          → map_in eq s.store k ≡ None
      was_absent none other own absent =
          let same : other ≡ k = let f : Some other ≡ Some k = sym own ∙ came.own in cc f in
          sym ((made_unchanged eq hash s call keys lawful fits store r going none came).0 k) ∙ subst (λ (x : K). map_in eq store x ≡ None) same absent

      rootless : r.machine.call.state ≡ AtRoot → store.words.root ≡ 0 → map_in eq s.store k ≡ None
      rootless state none =
          let (es, (call_traces, kept)) = came.lawful.law in
          let own = places.call eq (hash s.store.hasher) keys now_core came.lawful.core es call_traces kept 0 r goes in
          was_absent (ap change_in state) own.key own.own
          (places.rootless_absent eq (hash s.store.hasher) keys now_core came.lawful.core es call_traces kept 0 r goes none)

      -- a write finds its expected word
      has_read : (write : Write) → r.machine.phase ≡ Calling → r.machine.call.state ≡ Writing write
          → word_at store.words (Slot write.place.table write.place.probe.i) ≡ write.old
      has_read write calling state = subst (IsRead (word_at store.words)) state
          (subst (IsPhaseRead r.machine.call.mode (word_at store.words) r.machine.call.state) calling (came.lone going).current.read).0

      writes : (write : Write) → r.machine.call.task ≡ Insert false → r.machine.phase ≡ Calling → r.machine.call.state ≡ Writing write
          → write.place.table ≡ store.words.root → map_in eq s.store k ≡ None
      writes write task calling state here =
          let (es, (call_traces, kept)) = came.lawful.law in
          let own = places.call eq (hash s.store.hasher) keys now_core came.lawful.core es call_traces kept 0 r goes in
          was_absent (ap change_in state) own.key own.own
          (places.writing_absent eq (hash s.store.hasher) keys now_core came.lawful.core es call_traces kept 0 r goes write task state here
          (has_read write calling state))

      grows : (need : Need) → r.machine.call.state ≡ Growing need → needed need ≡ store.words.root → next_of store ≡ 0 → map_in eq s.store k ≡ None
      grows need state here last =
          let (es, (call_traces, kept)) = came.lawful.law in
          let own = places.call eq (hash s.store.hasher) keys now_core came.lawful.core es call_traces kept 0 r goes in
          was_absent (ap change_in state) own.key own.own
          (places.growing_absent eq (hash s.store.hasher) keys now_core came.lawful.core es call_traces kept 0 r goes last need state here)

    module _ (store : StoreState K V S) (r : Running K V (Unit {0})) (answer : Answer) (store' : StoreState K V S) (later : Running K V (Unit {0}))
        (going : reply_in (ask_of r.machine) ≡ None) (performs : PerformsAsk eq whatever hash false (ask_of r.machine) store r answer store' later)
        (same : later.machine ≡ r.machine) (came : HasCome eq hash s call store r) where
      abbrev next : Running K V (Unit {0})
      next = stepped later r.machine answer

      task : r.machine.call.task ≡ Insert replace
      task = came.task

      next_came : HasCome eq hash s call store' next
      next_came = came_more eq hash s call store r answer store' later going performs same keys came

      next_task : next.machine.call.task ≡ Insert replace
      next_task = next_came.task

      module _ (calling : r.machine.phase ≡ Calling) (unleft : left_by r.machine.call.state ≡ None) where
        own : IsOwnStep r.machine answer
        own = own_step r.machine answer (made_goes eq hash s call store r answer store' later going performs same keys came)
            (leaves_none (left_by r.machine.call.state) unleft)

        told_performs : Performs eq whatever false (calls.ask_of r.machine.call) store r own.told store' later
        told_performs = own_performs eq whatever hash store r answer store' later own.told calling own.is performs

        -- the state after the answer, from this one
        led : (state : State) → r.machine.call.state ≡ state → next.machine.call.state ≡ (calls.after (record r.machine.call { state = state }) own.told).state
        led state e = ap (λ (y : Call_machine). y.state) own.call ∙ ap (λ x. (calls.after (record r.machine.call { state = x }) own.told).state) e

        -- a search of the root continues there, or the key is absent
        searched : (state : State) → next.machine.call.state ≡ state → store' ≡ store → next_of store ≡ 0 → IsIn store.words.root state
            → IsRelying store' next.machine
        searched (Searching search) e stays last here = inr
            (record {
              calling = own.goes_on;
              stage = subst (IsRootStage store') (sym e)
                  (here ∙ ap (λ (y : StoreState K V S). y.words.root) (sym stays), ap next_of stays ∙ last);
            })
        searched (Writing write) e stays last here = by_replace replace refl
          where
            by_replace : (b : Bool) → replace ≡ b → IsRelying store' next.machine
            by_replace true is = inr (record { calling = own.goes_on; stage = subst (IsRootStage store') (sym e) is })
            by_replace false is = inl (writes store' next next_came
                (asking next.machine (Writing write) own.goes_on e ∙ writing_goes next.machine.call.made next.machine.call write) write
                (next_task ∙ ap Insert is) own.goes_on e (here ∙ ap (λ (y : StoreState K V S). y.words.root) (sym stays)))
        searched (Growing need) e stays last here = inl
            (grows store' next next_came (asking next.machine (Growing need) own.goes_on e) need e
            (here ∙ ap (λ (y : StoreState K V S). y.words.root) (sym stays)) (ap next_of stays ∙ last))
        searched (Ended (Occupied n)) e stays last here = inr (record { calling = own.goes_on; stage = subst (IsRootStage store') (sym e) tt })
        searched (Ended Absent) e stays last here = absurd here
        searched (Ended (Found n)) e stays last here = absurd here
        searched (Ended (Inserted n)) e stays last here = absurd here
        searched (Ended (Replaced m n)) e stays last here = absurd here
        searched (Ended (Removed n)) e stays last here = absurd here
        searched (Ended (Kept n)) e stays last here = absurd here
        searched (Ended (Aborted n)) e stays last here = absurd here
        searched (Ended Done) e stays last here = absurd here
        searched (Ended (Reply_refused refused)) e stays last here = absurd here
        searched AtRoot e stays last here = absurd here
        searched Making e stays last here = absurd here
        searched (Opening t) e stays last here = absurd here
        searched (Offering gap) e stays last here = absurd here
        searched (Showing removal) e stays last here = absurd here
        searched (Pairing purpose) e stays last here = absurd here
        searched (Putting put) e stays last here = absurd here
        searched (Burying removal) e stays last here = absurd here
        searched (Counting n) e stays last here = absurd here
        searched (Noting n) e stays last here = absurd here
        searched (Uncounting n) e stays last here = absurd here
        searched (Leaving t) e stays last here = absurd here

        -- the root was loaded
        rooted : (b : Bool) → (store.words.root == 0) ≡ b → r.machine.call.state ≡ AtRoot
            → next.machine.call.state ≡ cond b Making (Searching (Sizing store.words.root)) → store' ≡ store → next_of store ≡ 0 → IsRelying store' next.machine
        rooted true none state e stays last = inl (rootless store r came going state (eqb-true store.words.root 0 none))
        rooted false some state e stays last = searched (Searching (Sizing store.words.root)) e stays last refl

        -- a write stays in the root
        wrote : (state : State) → next.machine.call.state ≡ state → replace ≡ true → HasWritten state
            → ((refused : Refused) → state ≡ Ended (Reply_refused refused) → IsLogRefusal s refused) → IsRelying store' next.machine
        wrote state e only written refuses = inr
            (record { calling = own.goes_on; stage = subst (IsRootStage store') (sym e) (written_stage store' state only written refuses) })

      -- no other word is in the slot where it writes
      pub unbeaten : (write : Write) → r.machine.phase ≡ Calling → r.machine.call.state ≡ Writing write → (told : Call_answer)
          → answer ≡ answers.Call told → (n word : ℕ) → serves r.machine.call.made write ≡ Some n → told ≡ Found_instead word → ⊥
      unbeaten write calling e told is n word serves_so found =
          write_unbeaten eq whatever store r told store' later r.machine.call.made write (has_read store r came going write calling e) n serves_so
          (subst (λ x. Performs eq whatever false (calls.asks r.machine.call.made r.machine.call.hash x) store r told store' later) e
          (own_performs eq whatever hash store r answer store' later told calling is performs)) word found

      -- a write continues, is made or refused
      pub written_more : (state : State) → r.machine.phase ≡ Calling → r.machine.call.state ≡ state → HasWritten state
          → (next.machine.phase ≡ Calling) × HasWritten next.machine.call.state
      written_more (Writing write) calling e written =
          let unleft : left_by r.machine.call.state ≡ None = ap left_by e in
          let told = (own calling unleft).told in (
            (own calling unleft).goes_on,
            subst HasWritten (sym (led calling unleft (Writing write) e))
                (writes_on r.machine.call r.machine.call.made write told (unbeaten write calling e told (own calling unleft).is)),
          )
      written_more (Counting n) calling e written =
          let unleft : left_by r.machine.call.state ≡ None = ap left_by e in (
            (own calling unleft).goes_on,
            subst HasWritten (sym (led calling unleft (Counting n) e))
                (counts_on r.machine.call r.machine.call.made n (own calling unleft).told),
          )
      written_more (Noting n) calling e written =
          let unleft : left_by r.machine.call.state ≡ None = ap left_by e in (
            (own calling unleft).goes_on,
            subst HasWritten (sym (led calling unleft (Noting n) e))
                (notes_on r.machine.call r.machine.call.made n (own calling unleft).told),
          )
      written_more (Ended reply) calling e written = let f : Some reply ≡ None = sym (asking r.machine (Ended reply) calling e) ∙ going in absurd cc
      written_more AtRoot calling e written = absurd written
      written_more Making calling e written = absurd written
      written_more (Opening t) calling e written = absurd written
      written_more (Searching search) calling e written = absurd written
      written_more (Offering gap) calling e written = absurd written
      written_more (Showing removal) calling e written = absurd written
      written_more (Pairing purpose) calling e written = absurd written
      written_more (Putting put) calling e written = absurd written
      written_more (Burying removal) calling e written = absurd written
      written_more (Uncounting n) calling e written = absurd written
      written_more (Leaving t) calling e written = absurd written
      written_more (Growing need) calling e written = absurd written

      module _ (caused : (write : Write) → r.machine.phase ≡ Calling → r.machine.call.state ≡ Writing write → (refused : Refused)
          → reply_in (ask_of (after r.machine answer)) ≡ Some (Reply_refused refused) → IsLogRefusal s refused) where
        -- the call stays in the root, or the key is absent
        in_root_more : (state : State) → r.machine.phase ≡ Calling → r.machine.call.state ≡ state → IsRootStage store state → IsRelying store' next.machine
        in_root_more AtRoot calling e last =
            let unleft : left_by r.machine.call.state ≡ None = ap left_by e in
            let (is, (stays, kept)) = subst (λ x. Performs eq whatever false (calls.asks r.machine.call.made r.machine.call.hash x) store r
            (own calling unleft).told store' later) e (told_performs calling unleft) in
            rooted calling unleft (store.words.root == 0) refl e
            (led calling unleft AtRoot e
            ∙ ap (λ a. (calls.after (record r.machine.call { state = AtRoot }) a).state) is
            ∙ ap (λ t. at_root t r.machine.call.remembered.fill store.words.root) task)
            stays last
        in_root_more (Searching search) calling e (here, last) =
            let unleft : left_by r.machine.call.state ≡ None = ap left_by e in
            let told = (own calling unleft).told in
            searched calling unleft next.machine.call.state refl
            (search_stays eq whatever store r told store' later
            search (subst (λ x. Performs eq whatever false (calls.asks r.machine.call.made r.machine.call.hash x) store r told store' later) e
            (told_performs calling unleft)))
            last
            (subst (IsIn store.words.root) (sym (led calling unleft (Searching search) e))
            (searches_in r.machine.call r.machine.call.made replace store.words.root search told task here))
        in_root_more (Writing write) calling e only =
            let on = written_more (Writing write) calling e tt in
            wrote calling (ap left_by e) next.machine.call.state refl only on.1
            (λ refused ends. caused write calling e refused (asking next.machine (Ended (Reply_refused refused)) on.0 ends))
        in_root_more (Counting n) calling e stage =
            let unleft : left_by r.machine.call.state ≡ None = ap left_by e in
            inr (record {
              calling = (own calling unleft).goes_on;
              stage = subst (IsRootStage store') (sym (led calling unleft (Counting n) e))
                  (counted_stage store' r.machine.call n (own calling unleft).told);
            })
        in_root_more (Noting n) calling e stage =
            let unleft : left_by r.machine.call.state ≡ None = ap left_by e in
            inr (record {
              calling = (own calling unleft).goes_on;
              stage = subst (IsRootStage store') (sym (led calling unleft (Noting n) e))
                  (noted_stage store' r.machine.call n (own calling unleft).told);
            })
        in_root_more (Ended reply) calling e stage = let f : Some reply ≡ None = sym (asking r.machine (Ended reply) calling e) ∙ going in absurd cc
        in_root_more Making calling e stage = absurd stage
        in_root_more (Opening t) calling e stage = absurd stage
        in_root_more (Offering gap) calling e stage = absurd stage
        in_root_more (Showing removal) calling e stage = absurd stage
        in_root_more (Pairing purpose) calling e stage = absurd stage
        in_root_more (Putting put) calling e stage = absurd stage
        in_root_more (Burying removal) calling e stage = absurd stage
        in_root_more (Uncounting n) calling e stage = absurd stage
        in_root_more (Leaving t) calling e stage = absurd stage
        in_root_more (Growing need) calling e stage = absurd stage

        pub relying_more : IsRelying store r.machine → IsRelying store' next.machine
        relying_more (inl absent) = inl absent
        relying_more (inr root) = in_root_more r.machine.call.state root.calling refl root.stage
