-- A call that resizes a map for one caller, as the steps of a core with one seat.
use Rattle.std.proofs.Common.{◌≡◌, ℕ, suc, ◌^◌, ◌<◌, ◌≤◌, Bool, true, false, Option, None, Some}
use Rattle.std.proofs.Common.{List, [], ◌∷◌, length, inl, inr, refl, sym, ◌∙◌, ap, subst, arith}
use Rattle.std.specs.Cmp.{IsEquivalence}
use Rattle.papaya_words.specs.declared.refused.Refused.{Refused}
use Rattle.papaya_core_store.specs.declared.store.Mode.{Mode}
use Rattle.papaya_call.specs.declared.call.Call.{Call}
use Rattle.papaya_call.specs.declared.call.Call.TheVariants as calls
use Rattle.papaya_call.specs.declared.call.Reply.{Reply}
use Rattle.papaya_call.specs.declared.call.Reply.TheVariants.{Done as Reply_done, Refused as Reply_refused}
use Rattle.papaya_call.specs.declared.ask.At.TheVariants.{Made}
use Rattle.papaya_call.specs.declared.copy_ask.CopyAsk.{CopyAsk}
use Rattle.papaya_call.specs.declared.copy_ask.CopyAsk.TheVariants.{Exchange}
use Rattle.papaya_call_alone.specs.Resizers.{resizer_measure}
use Rattle.papaya_call.specs.declared.chain.ask.Ask.TheVariants as asks
use Rattle.papaya_call.specs.declared.chain.ask.Answer.{Answer}
use Rattle.papaya_call.specs.declared.chain.resizer.Resize.{Resize}
use Rattle.papaya_call.specs.declared.chain.resizer.Resize.TheVariants as resizes
use Rattle.papaya_call.specs.declared.chain.resizer.Resizer.{Resizer}
use Rattle.papaya_call.specs.declared.chain.resizer.ResizerState.{ResizerState}
use Rattle.papaya_call.specs.declared.chain.resizer.ResizerState.TheVariants as stages
use Rattle.papaya_call.specs.Resizer.{after, ask_of, asks_in, begun, begun_in, kind_of_ask, reply_in, reply_of}
use Rattle.papaya_call_law.specs.Resizers.{IsResizeCause}
use Rattle.papaya_words_law.specs.Exchange.{run, start as first_state}
use Rattle.papaya_words_law.specs.Meaning.{map_left}
use Rattle.papaya_words_law.proofs.OneMap.{keeping}
use Rattle.papaya_words_keys.specs.Hashes.{hash_of}
use Rattle.papaya_core_store.specs.CopyAsks.{PerformsCopy}
use Rattle.papaya_core_store.specs.Store.{StoreState}
use Rattle.papaya_core_timeline.specs.declared.seat.Seat.{Seat}
use Rattle.papaya_core_timeline.specs.declared.seat.Work.{Work}
use Rattle.papaya_core_timeline.specs.declared.seat.Work.TheVariants as works
use Rattle.papaya_core_timeline.specs.declared.trace.Entry.{Entry}
use Rattle.papaya_core_timeline.specs.declared.trace.Event.{Event}
use Rattle.papaya_core_timeline.specs.declared.trace.Event.TheVariants.{Begun, Replied}
use Rattle.papaya_core_timeline.specs.Advances.{event_of, goes_on}
use Rattle.papaya_core_timeline.specs.Begins.{begun_work}
use Rattle.papaya_core_timeline.specs.Callers.{resizing}
use Rattle.papaya_core_timeline.specs.Core.{CoreState}
use Rattle.papaya_core_timeline.specs.Ends.{budget_of}
use Rattle.papaya_core_timeline.specs.Kept.{coding_of, low, setting_of, told_call_traces}
use Rattle.papaya_core_timeline.specs.Maps.{key_of}
use Rattle.papaya_core_timeline.specs.Resized.{IsLoneResizer, IsLoneWork, IsNearerResized, IsResized, lone_resizer_measure}
use Rattle.papaya_core_timeline.specs.Resizes.{Resizes}
use Rattle.papaya_core_timeline.specs.Runs.{History, StepsRun, with_event, with_step}
use Rattle.papaya_core_timeline.specs.Solo.{whatever}
use Rattle.papaya_core_timeline.proofs.CallersLemmas.{same_item}
use Rattle.papaya_core_timeline.proofs.KeptCore.{keys_lawful}
use Rattle.papaya_core_timeline.proofs.HeadlineLemmas.{resize-core}
use Rattle.papaya_core_timeline.proofs.KeptResized.{left as resize_left, resize_kept, stage_left}
use Rattle.papaya_core_timeline.proofs.KeptSettings.{IsLawfulKeys, tables_hashed}
use Rattle.papaya_core_timeline.proofs.KeptTables.{HasMoreTables}
use Rattle.papaya_core_timeline.proofs.ResizerLaws.{resizer_names, resizer_refused}
use Rattle.papaya_core_timeline.proofs.SoloEnds.{lone_begin}
use Rattle.papaya_core_timeline.proofs.SoloResizes.{resizer_done, resizer_nears}
use Rattle.papaya_seq.specs.Map.{IsLawfulMap, MapState, core_of}
use Rattle.papaya_seq.proofs.Ending.{left_to}
use Rattle.papaya_seq.proofs.ResizerLengths.{IsLongResize, resize_long_begun, resize_long_left, resize_long_more}
use Rattle.papaya_seq.proofs.Numbered.{copied_made}
use Rattle.papaya_seq.proofs.RootStays.{root_stays}
use Rattle.papaya_seq.proofs.SeekTurns.{turn_words}
use Rattle.papaya_seq.proofs.Turns.{IsOver, begins_so, last_entry, made_over, seated_work, start}

-- the call that resizes the map in this way
abbrev pub IsCallFor : {K V : Type 0} → Resize → Call K V (Unit {0}) → Type 0
IsCallFor resizes.Chunk call = Unit {0}
IsCallFor resizes.CopyAll call = call ≡ calls.CopyAll
IsCallFor (resizes.Reserve more) call = call ≡ calls.Reserve more

-- a call that resizes the map in this way, and begins at the root
pub record ResizeCall (K V : Type 0) (resize : Resize) : Type 0 where
  pub call : Call K V (Unit {0})
  pub call_is : IsCallFor resize call
  pub no_key : key_of call ≡ None
  pub begins : (hash : K → ℕ) (mode : Mode) (initial number : ℕ)
      → begun_work hash mode initial number call ≡ works.Resize (begun resize mode.resize initial number)
  pub at_root : begun_in resize ≡ stages.AtRoot

pub call_for : {K V : Type 0} (resize : Resize) → (resize ≡ resizes.Chunk → ⊥) → ResizeCall K V resize
call_for resizes.Chunk whole = absurd (whole refl)
call_for resizes.CopyAll whole = record { call = calls.CopyAll; call_is = refl; no_key = refl; begins = λ hash mode initial number. refl; at_root = refl }
call_for (resizes.Reserve more) whole = record {
  call = calls.Reserve more;
  call_is = refl;
  no_key = refl;
  begins = λ hash mode initial number. refl;
  at_root = refl;
}

-- one that asks has not replied
goes_in : (stage : ResizerState) (ask : CopyAsk) → asks_in stage ≡ Some ask → reply_in stage ≡ None
goes_in stages.Done ask e = let f : None ≡ Some ask = e in absurd cc
goes_in (stages.Refused refused) ask e = let f : None ≡ Some ask = e in absurd cc
goes_in _ ask e = refl

pub asking_goes : (z : Resizer) (ask : CopyAsk) → ask_of z ≡ Some ask → reply_of z ≡ None
asking_goes z ask e = goes_in z.state ask e

-- at most this many answers are left to it alone
abbrev pub resizer_left : {K V S : Type 0} → StoreState K V S → Resizer → ℕ
resizer_left store z = left_to (reply_of z) (resizer_measure (budget_of store) store.words.root z)

-- it is under way until it has replied
abbrev pub still_resizing : {K V A : Type 0} → Resizer → Option (Work K V A)
still_resizing z = goes_on (reply_of z) (works.Resize z)

module _ {K V S : Type 0} (eq : K → K → Bool) (hash : S → K → ℕ) (s : MapState K V S) (resize : Resize) (call : ResizeCall K V resize) where
  -- The call came to this by steps of the core, which is in order while it is under way; if it has
  -- replied, the last of them gave the reply.
  pub record HasResizedTo (store : StoreState K V S) (z : Resizer) : Type 0 where
    pub number : ℕ
    pub steps : ℕ
    pub history : History
    pub runs : StepsRun eq whatever hash 1 0 steps (start eq hash s call.call number) (with_event 0 0 Begun [])
        (seated_work store (still_resizing z) s.mode s.initial) history
    pub replied : (reply : Reply) → reply_of z ≡ Some reply → (last : Entry) × (before : History) × (history ≡ last ∷ before) × (last.event ≡ Replied reply)
    -- until then it is alone, and a word that it has read is unchanged
    pub lone : reply_of z ≡ None → IsLoneResizer eq hash (seated_work {A = Unit {0}} store (Some (works.Resize z)) s.mode s.initial) z
    -- and then the resize is done
    pub done : reply_of z ≡ Some Reply_done → IsResized resize store
    pub resize_is : z.resize ≡ resize
    pub initial_is : z.initial ≡ s.initial
    -- nothing but the words is another
    pub logs : store ≡ record s.store { words = store.words }
    -- no number was taken for a pair
    pub taken : store.words.made ≡ s.store.words.made
    -- no table is shorter than the initial capacity
    pub long : IsLongResize s store z

module _ {K V S H : Type 0} (eq : K → K → Bool) (input : K → List (List ℕ)) (build : S → H) (write : H → List ℕ → H) (finish : H → ℕ)
    (classes : IsEquivalence eq) (respects : (x y : K) → eq x y ≡ true → input x ≡ input y) (s : MapState K V S) (resize : Resize)
    (call : ResizeCall K V resize) where
  -- the hash of a key
  abbrev hash : S → K → ℕ
  hash = hash_of input build write finish

  abbrev HasCome : StoreState K V S → Resizer → Type 0
  HasCome store z = HasResizedTo eq hash s resize call store z

  -- the call has no key, so a fact about its key holds
  hashed : (k : K) → key_of call.call ≡ Some k → hash s.store.hasher k < 2 ^ 64
  hashed k e = let f : None ≡ Some k = sym call.no_key ∙ e in absurd cc

  module _ (lawful : IsLawfulMap eq (hash s.store.hasher) s.store s.mode s.initial) where
    -- as it begins
    begun_going : (number : ℕ) → reply_of (begun resize s.mode.resize s.initial number) ≡ None
    begun_going number = ap reply_in call.at_root

    pub resize_begun : (number : ℕ) → HasCome s.store (begun resize s.mode.resize s.initial number)
    resize_begun number = record {
      number = number;
      steps = 0;
      history = with_event 0 0 Begun [];
      runs = (
        ap (λ o. seated_work s.store o s.mode s.initial)
            (ap (λ o. goes_on o (works.Resize (begun resize s.mode.resize s.initial number))) (begun_going number)
            ∙ ap (λ w. Some w) (sym (call.begins (hash s.store.hasher) s.mode s.initial number))),
        refl,
      );
      replied = λ reply e. let f : None ≡ Some reply = sym (begun_going number) ∙ e in absurd cc;
      lone = λ going. subst (λ w. IsLoneWork eq hash (seated_work {A = Unit {0}} s.store (Some w) s.mode s.initial) w)
          (call.begins (hash s.store.hasher) s.mode s.initial number)
          (lone_begin eq hash (core_of s) (keys_lawful eq input build write finish classes respects s.store.hasher) call.call
          (start eq hash s call.call number) refl lawful.lawful (begins_so eq hash s call.call number hashed lawful.power));
      done = λ e. let f : None ≡ Some Reply_done = sym (begun_going number) ∙ e in absurd cc;
      resize_is = refl;
      initial_is = refl;
      logs = refl;
      taken = refl;
      long = resize_long_begun s lawful.long (begun resize s.mode.resize s.initial number) call.at_root;
    }

    -- it has replied: it was made alone
    pub resize_over : (store : StoreState K V S) (z : Resizer) (reply : Reply) → reply_of z ≡ Some reply → HasCome store z
        → IsOver eq hash s call.call store reply
    resize_over store z reply told came =
        let ends = came.replied reply told in
        made_over eq hash s call.call came.number hashed lawful.power came.steps store came.history
        (subst (λ (o : Option Reply). StepsRun eq whatever hash 1 0 came.steps (start eq hash s call.call came.number) (with_event 0 0 Begun [])
        (seated_work store (goes_on o (works.Resize z)) s.mode s.initial) came.history) told came.runs)
        reply ends.0 ends.1 ends.2 ends.3 (resize_long_left s store z came.long)
        (λ most limit.
        subst (λ n. n ≤ store.words.made) (sym (ap (λ (y : StoreState K V S). length y.pairs) came.logs))
        (subst (λ n. length s.store.pairs ≤ n) (sym came.taken) (lawful.numbered most limit)))

    module _ (store : StoreState K V S) (z : Resizer) (ask : CopyAsk) (answer : Answer) (store' : StoreState K V S) (asked : ask_of z ≡ Some ask)
        (performs : PerformsCopy eq hash false ask store answer store') (came : HasCome store z) where
      going : reply_of z ≡ None
      going = asking_goes z ask asked

      -- the core with the call under way
      abbrev now : CoreState K V S (Unit {0})
      now = seated_work store (Some (works.Resize z)) s.mode s.initial

      lone : IsLoneResizer eq hash now z
      lone = came.lone going

      keys_now : IsLawfulKeys eq (hash store.hasher)
      keys_now = keys_lawful eq input build write finish classes respects store.hasher

      under_way : still_resizing {K = K} {V = V} {A = Unit {0}} z ≡ Some (works.Resize z)
      under_way = ap (λ o. goes_on o (works.Resize z)) going

      -- the call after the answer
      abbrev next : Resizer
      next = after z answer

      abbrev reply : Option Reply
      reply = reply_of (after z answer)

      abbrev event : Event
      event = event_of (kind_of_ask z) (asks.Copy ask) answer

      -- each table stays, with its slots
      pub resize_grown : HasMoreTables store.words.tables store'.words.tables
      resize_grown =
          let (es, (call_traces, kept)) = lone.lawful.law in
          (stage_left eq (hash store.hasher) keys_now hash false now es (call_traces 0) lone.lawful.core z refl kept.allowed kept.coded kept.made
          kept.hints (kept.resizers 0 z refl) z.state refl ask asked answer store' performs).grown

      -- it takes no number for a pair
      resize_taken : store'.words.made ≡ store.words.made
      resize_taken =
          let (es, (call_traces, kept)) = lone.lawful.law in
          let g = setting_of eq (low (hash store.hasher)) s.mode store.words.tables in
          let placed = tables_hashed eq (hash store.hasher) keys_now s.mode store.words.tables lone.lawful.core.sizes in
          copied_made store store' eq hash false ask answer
          (λ old new is. resizer_names g (coding_of (low (hash store.hasher))) placed (run es first_state) (map_left g es)
          (keeping g placed.lawful es kept.allowed) z (call_traces 0).loaded (kept.resizers 0 z refl).relies (Exchange Made old new) (asked ∙ ap Some is))
          performs

      -- a refusal has a cause
      pub resize_caused : (refused : Refused) → reply ≡ Some (Reply_refused refused) → IsResizeCause z answer refused
      resize_caused refused e =
          let (es, (call_traces, kept)) = lone.lawful.law in
          let relies = kept.resizers 0 z refl in
          let left = stage_left eq (hash store.hasher) keys_now hash false now es (call_traces 0) lone.lawful.core z refl kept.allowed kept.coded
          kept.made kept.hints relies z.state refl ask asked answer store' performs in
          resizer_refused (setting_of eq (low (hash store.hasher)) s.mode store.words.tables) (coding_of (low (hash store.hasher)))
          (run es first_state) z (call_traces 0).loaded relies.relies answer left.made left.loaded' left.told refused e

      -- it is a step of the core
      made_step : Resizes eq hash false now 0 (seated_work store' (goes_on reply (works.Resize next)) s.mode s.initial) event reply
      made_step = record {
        before = z;
        was = refl;
        ask = ask;
        asked = asked;
        answer = answer;
        performs = performs;
        event_is = refl;
        reply_is = refl;
        callers = refl;
        mode = refl;
        initial = refl;
        cause = resize_caused;
      }

      -- a root stays
      root_kept : 0 < store.words.root → 0 < store'.words.root
      unfolding made_step
      root_kept =
          let (es, (call_traces, kept)) = lone.lawful.law in
          let then : CoreState K V S (Unit {0}) = seated_work store' (goes_on reply (works.Resize next)) s.mode s.initial in
          let left = resize_left eq (hash store.hasher) keys_now false now 0 then event reply made_step refl es call_traces lone.lawful.core kept in
          root_stays eq (hash store.hasher) keys_now s.mode store store' now.callers then.callers es left.made call_traces
          (told_call_traces call_traces 0 left.made left.loaded') kept
          (resize-core eq hash false now 0 then event reply made_step lone.lawful.core)
          (resize_kept eq (hash store.hasher) keys_now false now 0 then event reply made_step refl es call_traces lone.lawful.core kept)

      -- which comes nearer its end
      stepped_to : (o : Option Reply) → reply ≡ o → Resizes eq hash false now 0 (seated_work store' (goes_on o (works.Resize next)) s.mode s.initial) event o
      stepped_to o e = subst (λ p. Resizes eq hash false now 0 (seated_work store' (goes_on p (works.Resize next)) s.mode s.initial) event p) e made_step

      nearer : reply ≡ None → IsNearerResized eq hash now z (seated_work store' (Some (works.Resize next)) s.mode s.initial)
      nearer none = resizer_nears eq input build write finish classes respects false now
          (seated_work store' (Some (works.Resize next)) s.mode s.initial) event z lone (stepped_to None none)

      -- the call that is alone after the step is this one
      nearer_is : (near : IsNearerResized eq hash now z (seated_work store' (Some (works.Resize next)) s.mode s.initial)) → near.later ≡ next
      nearer_is near = same_item near.later next (sym (ap (λ (l : List (Seat K V (Unit {0}))). resizing l 0) near.lone.callers))

      pub resize_nears : resizer_left store' (after z answer) < resizer_left store z
      resize_nears = by_reply reply refl
        where
          far : resizer_left store z ≡ suc (lone_resizer_measure now z)
          far = ap (λ o. left_to o (lone_resizer_measure now z)) going

          by_reply : (o : Option Reply) → reply ≡ o → resizer_left store' (after z answer) < resizer_left store z
          by_reply None e =
              let near = nearer e in
              let less : lone_resizer_measure (seated_work {A = Unit {0}} store' (Some (works.Resize next)) s.mode s.initial) next <
              lone_resizer_measure now z = subst (λ q.
              lone_resizer_measure (seated_work {A = Unit {0}} store' (Some (works.Resize next)) s.mode s.initial) q < lone_resizer_measure now z)
              (nearer_is near) near.less in
              let near_is : resizer_left store' (after z answer) ≡ suc
              (lone_resizer_measure (seated_work {A = Unit {0}} store' (Some (works.Resize next)) s.mode s.initial) next) = ap
              (λ o. left_to o (lone_resizer_measure (seated_work {A = Unit {0}} store' (Some (works.Resize next)) s.mode s.initial) next)) e in
              let from = far in
              omega (arith, less, near_is, from)
          by_reply (Some told) e =
              let near_is : resizer_left store' (after z answer) ≡ 0 = ap
              (λ o. left_to o (lone_resizer_measure (seated_work {A = Unit {0}} store' (Some (works.Resize next)) s.mode s.initial) next)) e in
              let from = far in
              omega (arith, near_is, from)

      -- the call came there
      pub resize_more : HasCome store' (after z answer)
      resize_more = record {
        number = came.number;
        steps = suc came.steps;
        history = with_step 1 0 event reply came.history;
        runs = (
          now,
          came.history,
          subst (λ o. StepsRun eq whatever hash 1 0 came.steps (start eq hash s call.call came.number)
              (with_event 0 0 Begun []) (seated_work store o s.mode s.initial) came.history) under_way came.runs,
          inl (event, reply, inr (inl made_step), refl),
        );
        replied = λ x e. last_entry event reply came.history x e;
        lone = λ none. let near = nearer none in
            subst (IsLoneResizer eq hash (seated_work store' (Some (works.Resize next)) s.mode s.initial)) (nearer_is near) near.lone;
        done = λ e. subst (λ y. IsResized y store') came.resize_is
            (resizer_done eq input build write finish classes respects false now (seated_work store' None s.mode s.initial) event z lone
            (stepped_to (Some Reply_done) e));
        resize_is = came.resize_is;
        initial_is = came.initial_is;
        taken = resize_taken ∙ came.taken;
        logs = turn_words eq hash store (asks.Copy ask) answer store' performs ∙ ap (λ (y : StoreState K V S). record y { words = store'.words }) came.logs;
        long = resize_long_more s eq hash store z ask answer store' asked performs came.initial_is root_kept came.long;
      }
