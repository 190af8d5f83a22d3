-- After a step of one caller the words of a core obey the law of exchanges.
use Rattle.std.proofs.Common.{◌≡◌, ◌≢◌, ℕ, ◌%◌, ◌^◌, ◌<◌, Bool, List, ◌++◌, length, Option, Some}
use Rattle.std.proofs.Common.{None, ◌⊎◌, inl, inr, refl, sym, ◌∙◌, ap, subst, arith, append_assoc}
use Rattle.papaya_call.specs.Answers.{Says}
use Rattle.papaya_call.specs.declared.ask.Ask.TheVariants.{Exchange as Ask_exchange}
use Rattle.papaya_call.specs.declared.ask.At.TheVariants.{Root}
use Rattle.papaya_call.specs.declared.copy.link.Link.TheVariants.{Linking}
use Rattle.papaya_call.specs.declared.chain.ask.Ask.{Ask}
use Rattle.papaya_call.specs.declared.chain.ask.Ask.TheVariants as asks
use Rattle.papaya_call.specs.declared.chain.ask.Answer.{Answer}
use Rattle.papaya_words_law.specs.Allows.{AllAllowed}
use Rattle.papaya_words_law.specs.Code.{Coding}
use Rattle.papaya_words_law.specs.Exchange.{Setting, Exchange, run, start}
use Rattle.papaya_words_law.specs.Invariant.{named}
use Rattle.papaya_words_law.specs.Meaning.{map_left}
use Rattle.papaya_call.specs.Machine.{HasClosure}
use Rattle.papaya_call.specs.ChainMachine.{after, ask_of, follows_of, kind_of_ask}
use Rattle.papaya_call_law.specs.Relies.{change_in}
use Rattle.papaya_call_law.specs.TrueAnswers.{IsOneOf}
use Rattle.papaya_call_law.specs.Goes.{IsInOrder, link_in}
use Rattle.papaya_call_law.specs.ChainRelies.{Relies}
use Rattle.papaya_call_law.specs.ChainAnswers.{IsTrueOf, LoadedPairs}
use Rattle.papaya_words_law.specs.Code.{IsHashed}
use Rattle.papaya_call_law.proofs.Learns.{all_learns}
use Rattle.papaya_call_law.proofs.Order.{in_order}
use Rattle.papaya_call_law.proofs.Goes.{machine_goes}
use Rattle.papaya_call_law.proofs.Replies.{chain_said, chain_shows, chain_task}
use Rattle.papaya_core_store.specs.declared.pairs.Running.{Running}
use Rattle.papaya_core_timeline.specs.Callers.{as_work, running, with_call}
use Rattle.papaya_core_timeline.specs.Core.{CoreState, IsCore}
use Rattle.papaya_core_timeline.specs.Kept.{IsConsistent, IsCall, IsInArena, IsMade, IsMadeFor, CallTrace, setting_of, coding_of, low, told_call_traces}
use Rattle.papaya_core_store.specs.Asks.{PerformsAsk}
use Rattle.papaya_core_store.specs.Store.{Stored, pair_of}
use Rattle.papaya_core_timeline.proofs.CallersLemmas.{call-put, no-resizer, no-scanner}
use Rattle.papaya_core_timeline.proofs.KeptOthers as others
use Rattle.papaya_core_timeline.proofs.KeptAnswer.{IsAnswered, Stands}
use Rattle.papaya_core_timeline.proofs.KeptClosures.{answers_asked}
use Rattle.papaya_core_timeline.proofs.KeptCopied.{answered_copy}
use Rattle.papaya_core_store.proofs.Logs.{pair_below}
use Rattle.papaya_core_timeline.proofs.KeptPerformed.{answered_call}
use Rattle.papaya_core_timeline.proofs.KeptSettings.{IsLawfulKeys, tables_hashed}
use Rattle.papaya_call_law.proofs.LinkMade.{is_made, made_is, machine_made}
use Rattle.papaya_core_timeline.proofs.LinkWords.{link_words}
use Rattle.papaya_core_timeline.proofs.MadeTables.{chain_opens, copy_made}
use Rattle.papaya_call.specs.declared.ask.Ask.TheVariants.{MakePairOf}
use Rattle.papaya_call.specs.declared.ask.Answer.TheVariants.{Made as Made_number}
use Rattle.papaya_call.specs.declared.chain.ask.Answer.TheVariants as answers
use Rattle.papaya_call.specs.ChainMachine.{asks_in}
use Rattle.papaya_call_law.specs.Says.{IsAnswered as IsAnsweredStage, Makes, ActsOn}
use Rattle.papaya_call_law.proofs.ReliesCopied.{machine_copied}
use Rattle.papaya_call_law.proofs.Names.{call_asks}
use Rattle.papaya_core_store.specs.declared.pairs.Part.{Part}
use Rattle.papaya_core_store.specs.declared.pairs.Part.TheVariants.{Own}
use Rattle.papaya_core_store.specs.Pairs.{value_at, value_in}
use Rattle.papaya_core_store.specs.Performs.{own_value}
use Rattle.papaya_core_timeline.proofs.CallersLemmas.{same_item}
use Rattle.papaya_core_timeline.proofs.MadePairs.{IsMadeNow, MakesOver, pair_made_now}
use Rattle.papaya_core_timeline.proofs.Waits.{chain_answered, chain_waits}

module _ {K V S A : Type 0} (eq : K → K → Bool) (hash : K → ℕ) (law : IsLawfulKeys eq hash) (says : Says K V A) (hashes : S → K → ℕ) (refuse : Bool)
    (s : CoreState K V S A) (caller : ℕ) (s' : CoreState K V S A)
    (before : Running K V A) (a : Answer) (later : Running K V A) (was : running s.callers caller ≡ Some before)
    (performs : PerformsAsk eq says hashes refuse (ask_of before.machine) s.store before a s'.store later) (hasher : hashes s.store.hasher ≡ hash)
    (mode_is : s'.mode ≡ s.mode) (es : List (Exchange (Stored K V))) (call_traces : ℕ → CallTrace K V) (core : IsCore s.store s.callers s.mode)
    (kept : IsConsistent eq hash s.mode s.store s.callers es call_traces) where
  -- the setting before and after the step, and the coding
  abbrev g : Setting K (Stored K V)
  g = setting_of eq (low hash) s.mode s.store.words.tables

  -- the setting after it
  abbrev g' : Setting K (Stored K V)
  g' = setting_of eq (low hash) s'.mode s'.store.words.tables

  -- the coding
  abbrev c : Coding K (Stored K V)
  c = coding_of (low hash)

  -- the call that steps
  abbrev pub call : IsCall eq hash s.mode s.store before es (call_traces caller)
  call = kept.calls caller before was

  -- keys are placed by their hashes
  hashed : IsHashed g c
  hashed = tables_hashed eq hash law s.mode s.store.words.tables core.sizes

  -- the exchanges in the trace of a call were allowed
  may : (call_trace : CallTrace K V) → call_trace.begun ++ call_trace.since ≡ es → AllAllowed g start (call_trace.begun ++ call_trace.since)
  may call_trace split = subst (AllAllowed g start) (sym split) kept.allowed

  -- the effect of its answer
  pub left : IsAnswered g c s.store before es (call_traces caller) (Some call.key) call.key (ask_of before.machine) a s'.store later
  left = by_ask (ask_of before.machine) refl performs
    where
      by_ask : (ask : Ask) → ask_of before.machine ≡ ask → PerformsAsk eq says hashes refuse ask s.store before a s'.store later
          → IsAnswered g c s.store before es (call_traces caller) (Some call.key) call.key ask a s'.store later
      by_ask (asks.Call ask) e (told, is, h) =
          subst (λ y. IsAnswered g c s.store before es (call_traces caller) (Some call.key) call.key (asks.Call ask) y s'.store later) (sym is)
          (answered_call eq says hash s.mode s.store before es (call_traces caller) hashed call.key call.split (may (call_traces caller) call.split)
          call.relies kept.coded kept.made kept.hints call.last call.valued call.opens call.links call.own refuse ask e told s'.store later h)
      by_ask (asks.Copy ask) e (h, same) =
          answered_copy eq hashes g c s.store before es (call_traces caller) (Some call.key) hashed call.key call.split
          (may (call_traces caller) call.split) call.relies kept.coded kept.made kept.hints call.last call.carried call.opens call.links call.own
          (record {
            sizes = λ t. refl;
            places = λ t. refl;
            chunks = λ t. refl;
            numbers = λ p. refl;
            hashes_of = λ p.
                ap (λ (f : K → ℕ). f p.key % 2 ^ 64) (sym hasher);
            sames = λ p q. refl;
          }) refuse ask e a s'.store later h same

  -- the exchanges after it
  abbrev pub es' : List (Exchange (Stored K V))
  es' = es ++ left.made

  -- and the exchanges of the step come after it
  longer_split : (call_trace : CallTrace K V) → call_trace.begun ++ call_trace.since ≡ es → call_trace.begun ++ (call_trace.since ++ left.made) ≡ es'
  longer_split call_trace split = sym (append_assoc call_trace.begun call_trace.since left.made) ∙ ap (λ l. l ++ left.made) split

  -- the machine relies on its new record, and the exchanges were allowed
  learnt : AllAllowed g start ((call_traces caller).begun ++ ((call_traces caller).since ++ left.made))
      × Relies g c (call_traces caller).begun ((call_traces caller).since ++ left.made) call.key (after before.machine a) left.loaded
  learnt = all_learns g c hashed (call_traces caller).begun (call_traces caller).since (may (call_traces caller) call.split) call.key before.machine
      (call_traces caller).loaded call.relies a (λ _. link_words g s.store (λ t. refl) (link_in before.machine.phase) call.links) left.made left.loaded
      (subst (λ l. IsTrueOf g c call.key (run l start) (kind_of_ask before.machine) (follows_of before.machine) (call_traces caller).loaded
      (ask_of before.machine) a left.made left.loaded) (sym call.split) left.told)

  -- all exchanges were allowed
  all : AllAllowed g start es'
  all = subst (AllAllowed g start) (longer_split (call_traces caller) call.split) learnt.0

  -- the effect of the step on the core
  pub leaving : others.IsLeaving eq hash law s caller s' mode_is es call_traces core kept left.made left.loaded (IsOneOf (call_traces caller).loaded.call.made)
  leaving = record {
    allowed = all;
    keys = left.keys;
    values = left.values;
    logged = left.logged;
    few = left.few;
    tables_few = left.tables_few;
    grown = left.grown;
    coded = left.coded;
    hints = left.hints;
    there = left.there;
    slots = left.slots;
    mine_logged = λ p mine. left.logged p.number p (call.made p mine);
    mine_apart = λ d r runs differ p p' mine other. kept.apart caller d before r was runs (λ same. differ (sym same)) p p' mine other;
  }

  -- the answer was for the call itself, or the call was set aside
  order : IsInOrder before.machine a before.machine.phase
  order = in_order g c (call_traces caller).begun (call_traces caller).since call.key before.machine (call_traces caller).loaded (run es start) a
      left.made left.loaded call.relies left.told

  -- the stepping call's task stays
  same_task : (after before.machine a).call.task ≡ before.machine.call.task
  same_task = (chain_task before.machine a order).0

  -- the facts on which its call relies, in the grown setting
  grown_relies : (call_trace : CallTrace K V) (split : call_trace.begun ++ call_trace.since ≡ es) (k : K) (m : _) (loaded : LoadedPairs (Stored K V))
      → Relies g c call_trace.begun (call_trace.since ++ left.made) k m loaded → Relies g' c call_trace.begun (call_trace.since ++ left.made) k m loaded
  grown_relies = others.grown_relies eq hash law s caller s' mode_is es call_traces core kept left.made left.loaded leaving

  -- the map is the same in the grown setting
  pub same_map : (k : K) → map_left g' es k ≡ map_left g es k
  same_map = others.same_map eq hash law s caller s' mode_is es call_traces core kept left.made left.loaded leaving

  -- a table that was made is still there
  still_there : (t : ℕ) → IsMade s.store t → IsMade s'.store t
  still_there = others.still_there eq hash law s caller s' mode_is es call_traces core kept left.made left.loaded leaving

  -- and has as many words for chunks
  still_made : (t chunks : ℕ) → IsMadeFor s.store t chunks → IsMadeFor s'.store t chunks
  still_made = others.still_made eq hash law s caller s' mode_is es call_traces core kept left.made left.loaded leaving

  -- a pair of the arena has a number below its length
  below : (p : Stored K V) → IsInArena s.store p → p.number < length s.store.pairs
  below p logged = pair_below s.store p.number p logged

  -- a pair that was in a slot is in the arena
  stood_logged : (p : Stored K V) → Stands (run es start) p → IsInArena s'.store p
  stood_logged p (t, x, names) = left.logged p.number p (kept.logged t x p names)

  -- the stepping call's own facts
  own_last : (p : Stored K V) → (((call_traces caller).loaded.call.last ≡ Some p) ⊎ Stands (run es start) p) → IsInArena s'.store p
  own_last p (inl old) = left.logged p.number p (call.last p old)
  own_last p (inr stood) = stood_logged p stood

  own_carried : (p : Stored K V) → (((call_traces caller).loaded.kept ≡ Some p) ⊎ ((call_traces caller).loaded.call.last ≡ Some p)) → IsInArena s'.store p
  own_carried p (inl old) = left.logged p.number p (call.carried p old)
  own_carried p (inr told) = left.logged p.number p (call.last p told)

  -- each pair that it made is in the arena
  own_made : (p : Stored K V) → (IsOneOf (call_traces caller).loaded.call.made p
      ⊎ ((p.number ≡ length s.store.pairs) × (own_value s.store before ≡ Some p.value) × (pair_of s'.store p.number ≡ Some p))) → IsInArena s'.store p
  own_made p (inl old) = left.logged p.number p (call.made p old)
  own_made p (inr (number, value, there)) = there

  -- the table that it is about to open is there
  own_opens : (t : ℕ) → ask_of (after before.machine a) ≡ asks.Call (Ask_exchange Root 0 t) → IsMade s'.store t
  own_opens t opening = elim (chain_opens before.machine a t opening order) [
    | inl old ↦ still_there t (call.opens t old)
    | inr (is, slots, limit, chunks, making) ↦ left.opens t is (inl (slots, limit, chunks, making))
  ]

  -- and so is the one that it is about to link
  own_links : (behind t chunks : ℕ) → link_in (after before.machine a).phase ≡ Some (Linking behind t chunks) → IsMadeFor s'.store t chunks
  own_links =
      is_made (IsMadeFor s'.store) (link_in (after before.machine a).phase)
      (machine_made (IsMadeFor s'.store) before.machine a
      (λ n behind slots limit chunks aside is making.
      copy_made eq says hashes refuse s.store before a s'.store later before.machine behind slots limit chunks making performs n is)
      (made_is (IsMadeFor s'.store) (link_in before.machine.phase) (λ behind t chunks linking. still_made t chunks (call.links behind t chunks linking))))

  -- a pair that it made and did not write is in no slot
  own_unwritten : (p : Stored K V) → IsOneOf left.loaded.call.made p → change_in (after before.machine a).call.state ≡ None
      → (t x : ℕ) (q : Stored K V) → named ((run es' start).slot t x) ≡ Some q → q.number ≢ p.number
  own_unwritten p made none t x q names =
      let u = left.unchanged none in
      let (v, y, stood) = u.1 t x q names in
      elim (left.new p made) [
        | inl old ↦ call.unwritten p old u.0 v y q stood
        | inr (number, value, there) ↦ (λ same. let lt : q.number < length s.store.pairs = below q (kept.logged v y q stood) in omega arith)
      ]

  -- its value is in the call itself or in the arena
  own_valued : (part : Part V) → later.value ≡ Some part → (v : V) × (value_in s'.store.pairs part ≡ Some v)
  own_valued part is = elim left.value [
    | inl keeps ↦
        let (old, had) = keeps.had part is in
        let (v, there) = call.valued old had in
        (v, sym (ap (value_at s'.store.pairs) is) ∙ keeps.same v (ap (value_at s.store.pairs) had ∙ there))
    | inr said ↦ (said.value, ap (value_in s'.store.pairs) (same_item part (Own said.value) (sym is ∙ said.is)))
  ]

  -- if a pair is to be made with the key of another pair, that other pair is in the arena
  as_loaded : (i : ℕ) → ask_of before.machine ≡ asks.Call (MakePairOf i) → (p : Stored K V) × (pair_of s.store i ≡ Some p)
  as_loaded i asking =
      let of = machine_copied g c hashed (call_traces caller).begun (call_traces caller).since call.key (call_traces caller).loaded.call
      before.machine.call call.relies.call i (call_asks before.machine (MakePairOf i) asking).1 in
      (of.0, subst (λ j. pair_of s.store j ≡ Some of.0) of.2 (call.last of.0 of.1))

  -- a pair that is made in the step has the value of the call
  pub made_now : (n : ℕ) → MakesOver (ask_of before.machine) → a ≡ answers.Call (Made_number n) → IsMadeNow s.store before s'.store later n
  made_now n makes told = pair_made_now eq says refuse s.store before s'.store later hashes (ask_of before.machine) a performs makes n told call.key
      call.own call.valued as_loaded

  -- so has a pair that is to replace another, unless a newer result waits
  own_again : (i n : ℕ) → ActsOn (after before.machine a).call (Makes (Some i) n) → IsAnsweredStage (after before.machine a).call.state
      ⊎ ((p : Stored K V) × (pair_of s'.store n ≡ Some p) × (own_value s'.store later ≡ Some p.value))
  own_again i n stands = elim (chain_said before.machine a order (core.valid caller before was).call call.shows (Makes (Some i) n) stands) [
    | inl stood ↦ elim (call.again i n stood) [
      | inl waits ↦ elim (chain_waits before.machine a (machine_goes before.machine a order) waits i n stands) [
        | inl still ↦ inl still
        | inr (makes, told) ↦ (let m = made_now n makes told in inr (m.pair, m.there, m.after))
      ]
      | inr (p, there, value) ↦ elim left.value [
        | inl keeps ↦ inr (p, left.logged n p there, keeps.same p.value value)
        | inr said ↦ inl (chain_answered before.machine a (machine_goes before.machine a order) said.told said.shown)
      ]
    ]
    | inr (own, (said, makes, told)) ↦ (let m = made_now n (subst MakesOver (sym (ap (λ p. asks_in before.machine.call p) own.phase)) makes)
        (own.is ∙ ap answers.Call told) in inr (m.pair, m.there, m.after))
  ]

  -- so it relies on its trace after the step
  pub own_call : (loaded : LoadedPairs (Stored K V)) → left.loaded ≡ loaded
      → IsCall eq hash s'.mode s'.store (record later { machine = after before.machine a }) es'
      (record { begun = (call_traces caller).begun; since = (call_traces caller).since ++ left.made; loaded = loaded; scan = (call_traces caller).scan })
  own_call loaded e = record {
    key = call.key;
    own = left.own_is;
    answers = λ asks. answers_asked eq says hashes refuse (ask_of before.machine) s.store before a s'.store later performs
        (call.answers (subst HasClosure same_task asks));
    split = longer_split (call_traces caller) call.split;
    relies = subst (Relies g' c (call_traces caller).begun ((call_traces caller).since ++ left.made) call.key (after before.machine a)) e
        (grown_relies (call_traces caller) call.split call.key (after before.machine a) left.loaded learnt.1);
    last = λ p l. own_last p (left.last p (ap (λ (y : LoadedPairs (Stored K V)). y.call.last) e ∙ l));
    carried = λ p l. own_carried p (left.carried p (ap (λ (y : LoadedPairs (Stored K V)). y.kept) e ∙ l));
    made = λ p l. own_made p (left.new p (subst (λ (y : LoadedPairs (Stored K V)). IsOneOf y.call.made p) (sym e) l));
    opens = own_opens;
    links = own_links;
    unwritten = λ p l. own_unwritten p (subst (λ (y : LoadedPairs (Stored K V)). IsOneOf y.call.made p) (sym e) l);
    shows = chain_shows before.machine a order call.shows;
    valued = own_valued;
    again = own_again;
  }

  -- with the key that it had
  pub own_call-key : (loaded : LoadedPairs (Stored K V)) (e : left.loaded ≡ loaded) → (own_call loaded e).key ≡ call.key
  unfolding own_call
  own_call-key loaded e = refl

  -- the traces after the step
  abbrev pub call_traces' : ℕ → CallTrace K V
  call_traces' = told_call_traces call_traces caller left.made left.loaded

  -- the stepping call's trace has the record of its answer
  pub own_loaded : (d : ℕ) → d ≡ caller → left.loaded ≡ (call_traces' d).loaded
  own_loaded = others.own_loaded eq hash law s caller s' mode_is es call_traces core kept left.made left.loaded leaving

  -- the stepping call's pairs are not another's
  own_apart : (d : ℕ) (r : Running K V A) → running s.callers d ≡ Some r → d ≢ caller → (p p' : Stored K V) → IsOneOf left.loaded.call.made p
      → IsOneOf (call_traces d).loaded.call.made p' → p.number ≢ p'.number
  own_apart d r runs differ p p' mine other = elim (left.new p mine) [
    | inl old ↦ kept.apart caller d before r was runs (λ same. differ (sym same)) p p' old other
    | inr (number, value, there) ↦ (λ same. let lt : p'.number < length s.store.pairs = below p' ((kept.calls d r runs).made p' other) in omega arith)
  ]

  module _ (goes : Option (Running K V A)) (callers : s'.callers ≡ with_call s.callers caller goes)
      (goes_is : (q : Running K V A) → goes ≡ Some q → record later { machine = after before.machine a } ≡ q) where
    -- the core after the step
    pub step_kept : IsConsistent eq hash s'.mode s'.store s'.callers es' call_traces'
    step_kept = others.leaves_kept eq hash law s caller s' mode_is es call_traces core kept left.made left.loaded leaving (as_work goes) callers
        (λ r e. subst (λ y. IsCall eq hash s'.mode s'.store y es' (call_traces' caller)) (goes_is r (call-put goes r e))
        (own_call (call_traces' caller).loaded (own_loaded caller refl)))
        (λ z e. absurd (no-resizer goes z e))
        (λ v e. absurd (no-scanner goes v e))
        (λ r e d q runs differ. own_apart d q runs differ)
