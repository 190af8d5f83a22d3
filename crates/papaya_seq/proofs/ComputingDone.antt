-- The map after a compute that has replied; and a compute on the fast path is a run of its machine.
use Rattle.std.proofs.Common.{◌≡◌, ℕ, ◌^◌, ◌<◌, Bool, true, List, [], ◌∷◌, Option, None, Some, Result, IfOk, option_map, refl, sym, ◌∙◌, ap, subst}
use Rattle.std.specs.Prelude.{MatchOption}
use denote.Ref.{Bor}
use Rattle.std.specs.Cmp.{IsEquivalence}
use Rattle.papaya_words.specs.Word.{kind_of, pair_of as number_of}
use Rattle.papaya_words.specs.declared.refused.Refused.{Refused}
use Rattle.papaya_words.specs.declared.word.Kind.{Kind}
use Rattle.papaya_words.specs.declared.word.Kind.TheVariants.{Live}
use Rattle.papaya_call.specs.declared.ask.Answer.{Answer as Call_answer}
use Rattle.papaya_call.specs.declared.ask.Answer.TheVariants.{Op}
use Rattle.papaya_call.specs.declared.ask.Ask.TheVariants.{ShowNone, ShowPair}
use Rattle.papaya_call.specs.declared.call.Reply.{Reply}
use Rattle.papaya_call.specs.declared.call.Task.TheVariants.{Compute}
use Rattle.papaya_call.specs.declared.answers.Operation.{Operation}
use Rattle.papaya_call.specs.declared.answers.Operation.TheVariants as ops
use Rattle.papaya_call.specs.declared.compute.Gap.TheVariants.{At}
use Rattle.papaya_call.specs.declared.machine.Machine.{Machine}
use Rattle.papaya_call.specs.declared.machine.State.TheVariants.{Offering, Showing}
use Rattle.papaya_call.specs.Compute.{nothing}
use Rattle.papaya_call.specs.Machine as calls
use Rattle.papaya_call.specs.Machine.{computes as finds, started}
use Rattle.papaya_call.specs.declared.chain.ask.Answer.{Answer}
use Rattle.papaya_call.specs.declared.chain.ask.Answer.TheVariants as answers
use Rattle.papaya_call.specs.declared.chain.ask.Ask.TheVariants as asks
use Rattle.papaya_call.specs.ChainMachine.{IsValid, after, ask_of}
use Rattle.papaya_call_law.proofs.ChainStanding.{chain_stands}
use Rattle.papaya_words_keys.specs.Hashes.{hash_of}
use Rattle.papaya_words_keys.specs.declared.results.Computed.{Computed}
use Rattle.papaya_core_store.specs.declared.pairs.Part.{Part}
use Rattle.papaya_core_store.specs.declared.pairs.Part.TheVariants.{Own}
use Rattle.papaya_core_store.specs.declared.pairs.Running.{Running}
use Rattle.papaya_core_store.specs.Store.{StoreState, Stored, pair_of}
use Rattle.papaya_core_timeline.specs.Advances.{reply_in}
use Rattle.papaya_core_timeline.specs.Content.{map_in}
use Rattle.papaya_core_timeline.specs.Solo.{whatever}
use Rattle.papaya_core_timeline.proofs.KeptCore.{keys_lawful}
use Rattle.papaya_core_timeline.proofs.KeptSettings.{IsLawfulKeys}
use Rattle.papaya_seq.specs.ComputeRuns.{IsComputedFrom, IsInArena, TakesAt, ended_by, show_of, told_by, value_by}
use Rattle.papaya_seq.specs.Computes.{AreOf, ComputesBy, Says, Takes}
use Rattle.papaya_seq.specs.Computing.{IsComputed, IsKept, Replies}
use Rattle.papaya_seq.specs.Drives.{Drives, IsOfStore, at_hand}
use Rattle.papaya_seq.specs.Looks.{Comes}
use Rattle.papaya_seq.specs.MadeAlone.{IsComputedAlone}
use Rattle.papaya_seq.specs.Map.{IsLawfulMap, KeepsAndGrows, MapState, deref_pair, entry_of}
use Rattle.papaya_seq.specs.Searches.{IsRootHit}
use Rattle.papaya_seq.specs.declared.search.ProbeHit.{ProbeHit}
use Rattle.papaya_seq.specs.declared.search.ProbeHit.TheVariants as turns
use Rattle.papaya_seq.proofs.Alone.{map_answered, map_hasher, map_lawful, map_logged}
use Rattle.papaya_seq.proofs.FastPath.{call_answers, comes_drives}
use Rattle.papaya_seq.proofs.ComputeAsked.{none_held, none_went, pair_held, pair_went}
use Rattle.papaya_seq.proofs.ComputeReply.{over_computes, over_replies, over_shown}
use Rattle.papaya_seq.proofs.ComputeRun.{IsComputing, computing_begin}
use Rattle.papaya_seq.proofs.ComputeShown.{asking, compute_of}
use Rattle.papaya_seq.proofs.ComputeSteps.{computing_went, unreplied_ask}
use Rattle.papaya_seq.proofs.ComputesDone.{told_refused}
use Rattle.papaya_seq.proofs.KeyCalls.{keyed_compute}
use Rattle.papaya_seq.proofs.Steps.{made_alone, made_tables}
use Rattle.papaya_seq.proofs.Turns.{IsOver}

-- the part of a closure's result that is kept
kept_by : {V T : Type 0} (o : Operation V T) → IsKept o (Op (told_by o)) None (option_map (λ v. Own v) (value_by o)) None (ended_by o)
kept_by (ops.Insert v) = (refl, refl, refl)
kept_by ops.Remove = (refl, refl, refl)
kept_by (ops.Abort t) = (refl, refl, refl)

-- the argument of a closure for an absent entry, and for a pair of the arena
shown_none : {K V : Type 0} (entry : Option (Bor K × Bor V)) → AreOf entry None → entry ≡ None
shown_none None are = refl
shown_none (Some entry) are = absurd (cc are)

shown_of : {K V S : Type 0} (s : StoreState K V S) (p : Stored K V) (entry : Option (Bor K × Bor V)) → pair_of s p.number ≡ Some p
    → AreOf entry (Some p) → MatchOption entry (pair_of s p.number ≡ None)
    (λ q. pair_of s p.number ≡ Some (record { number = p.number; key = q.0.now; value = q.1.now }))
shown_of s p None logged are = absurd (cc are)
shown_of {K} {V} s p (Some entry) logged are =
    let same : deref_pair entry ≡ entry_of p = cc are in
    logged ∙ ap (λ (e : K × V). Some (record { number = p.number; key = e.0; value = e.1 })) (sym same)

-- The map after a compute, with the number of the pair with which its closure was called, and the
-- closure's result.
pub record ComputationDone {K V S T : Type 0} (eq : K → K → Bool) (hash : S → K → ℕ) (s : MapState K V S) (k : K)
    (said : Option (Stored K V) → Operation V T → Type 0) (shown : Option ℕ) (result : Result (Computed ℕ T) Refused) (s' : MapState K V S) : Type 0 where
  pub shown_is : IfOk result (λ _. shown ≡ option_map (λ p. p.number) (map_in eq s.store k))
  pub computes : ComputesBy eq k (λ p. p.number) said s result s'
  pub alone : IsComputedAlone eq hash s k result s'
  pub orderly : IsLawfulMap eq (hash s'.store.hasher) s'.store s'.mode s'.initial

module _ {K V S H F T : Type 0} (eq : K → K → Bool) (input : K → List (List ℕ)) (build : S → H) (write : H → List ℕ → H) (finish : H → ℕ)
    (classes : IsEquivalence eq) (respects : (x y : K) → eq x y ≡ true → input x ≡ input y)
    (s : MapState K V S) (lawful : IsLawfulMap eq (hash_of input build write finish s.store.hasher) s.store s.mode s.initial) (k : K)
    (fits : hash_of input build write finish s.store.hasher k < 2 ^ 64)
    (post : F → Option (Bor K × Bor V) → Operation V T → Type 0) (f : F) where
  abbrev hash : S → K → ℕ
  hash = hash_of input build write finish

  keys : IsLawfulKeys eq (hash s.store.hasher)
  keys = keys_lawful eq input build write finish classes respects s.store.hasher

  module _ {A : Type 0} (store : StoreState K V S) (r : Running K V A) (closure : Option F) (shown : Option ℕ) (aborted : Option T) (reply : Reply)
      (told : reply_in (ask_of r.machine) ≡ Some reply) (now : IsComputing eq hash s k post f store r closure shown aborted) where
    -- one that has replied was made alone
    over : IsOver eq hash s (compute_of k) store reply
    over = made_alone eq hash s (keyed_compute k) keys lawful fits store (asking r) reply told now.steps

    abbrev left : MapState K V S
    left = record s { store = store }

    keeps : KeepsAndGrows s left
    keeps = (
      record {
        hasher = map_hasher eq input build write finish classes respects s (compute_of k) reply store lawful over;
        mode = refl;
        initial = refl;
        pairs = (map_logged eq input build write finish classes respects s (compute_of k) reply store lawful over).1;
      },
      made_tables eq hash s (keyed_compute k) keys lawful fits store (asking r) now.steps,
    )

    -- its reply has the result of the compute
    pub computation_replies : Replies reply aborted
    computation_replies = over_replies eq classes hash s left keeps k post f r closure shown aborted reply told now
        (map_answered eq input build write finish classes respects s (compute_of k) reply store lawful over)

    -- and leaves this map
    pub computation_over : (result : Result (Computed ℕ T) Refused) → IsComputed reply aborted result
        → ComputationDone eq hash s k (Says (post f)) shown result left
    computation_over result is =
        let answered = map_answered eq input build write finish classes respects s (compute_of k) reply store lawful over in
        record {
          shown_is = over_shown eq classes hash s left keeps k post f r closure shown aborted reply told now answered result is;
          computes = over_computes eq classes hash s left keeps k post f r closure shown aborted reply told now answered
              (map_logged eq input build write finish classes respects s (compute_of k) reply store lawful over).0 result is;
          alone = record { reply = reply; alone = record { runs = over.ran }; refused = told_refused reply aborted result is };
          orderly = map_lawful eq input build write finish classes respects s (compute_of k) reply store lawful over;
        }

  -- a compute continues after each answer of the store
  computing_drives : (told : List Answer) (store : StoreState K V S) (r : Running K V (Unit {0})) (store' : StoreState K V S)
      (r' : Running K V (Unit {0})) → Drives eq hash told store r store' r' → (closure : Option F) (shown : Option ℕ) (aborted : Option T)
      → IsComputing eq hash s k post f store r closure shown aborted → IsComputing eq hash s k post f store' r' closure shown aborted
  computing_drives [] store r store' r' (same, also) closure shown aborted now =
      subst (λ x. IsComputing eq hash s k post f x r' closure shown aborted) (sym same)
      (subst (λ x. IsComputing eq hash s k post f store x closure shown aborted) (sym also) now)
  computing_drives (answer ∷ rest) store r store' r' (middle, later, step, more) closure shown aborted now =
      let went = computing_went eq hash s k whatever store r answer middle later
      (unreplied_ask (ask_of r.machine) (λ reply e. subst IsOfStore e step.asked)) (λ e. subst IsOfStore e step.asked)
      (λ n e. subst IsOfStore e step.asked) step.performs step.same post f closure shown aborted keys lawful fits now step.fit in
      computing_drives rest middle (record later { machine = after r.machine answer }) store' r' more closure shown aborted
      (went.goes (chain_stands r.machine now.valid answer went.fit))

  -- a compute that continues for itself: no closure was called, or its closure was called with this
  abbrev Waits : Machine → Type 0
  Waits m = IsComputing eq hash s k post f s.store (at_hand {A = Unit {0}} m k None) (Some f) None None

  abbrev HasDecided : Machine → Operation V T → Option ℕ → Type 0
  HasDecided m operation shown = IsComputing eq hash s k post f s.store
      (at_hand {A = Unit {0}} (calls.after m (Op (told_by operation))) k (value_by operation)) None shown (ended_by operation)

  none_decided : (m : Machine) → Waits m → calls.ask_of m ≡ ShowNone → (operation : Operation V T) → Says (post f) None operation → HasDecided m operation None
  none_decided m now asked operation (entry, are, said) =
      let went = none_went eq input build write finish classes respects s lawful k fits post f s.store (at_hand {A = Unit {0}} m k None) (Some f) None
      None now (Op (told_by operation)) (option_map (λ v. Own v) (value_by operation)) None (ended_by operation) entry f operation refl said
      (kept_by operation) (ap asks.Call asked) (shown_none entry are) in
      went.goes (chain_stands (at_hand {V = V} {A = Unit {0}} m k None).machine now.valid (answers.Call (Op (told_by operation))) went.fit)

  pair_decided : (m : Machine) → Waits m → (p : Stored K V) → calls.ask_of m ≡ ShowPair p.number → pair_of s.store p.number ≡ Some p
      → (operation : Operation V T) → Says (post f) (Some p) operation → HasDecided m operation (Some p.number)
  pair_decided m now p asked logged operation (entry, are, said) =
      let went = pair_went eq input build write finish classes respects s lawful k fits post f s.store (at_hand {A = Unit {0}} m k None) (Some f) None
      None now (Op (told_by operation)) (option_map (λ v. Own v) (value_by operation)) None (ended_by operation) entry f operation refl said
      (kept_by operation) p.number (ap asks.Call asked) (shown_of s.store p entry logged are) in
      went.goes (chain_stands (at_hand {V = V} {A = Unit {0}} m k None).machine now.valid (answers.Call (Op (told_by operation))) went.fit)

  module _ (free : s.mode.limit ≡ None) (valid : IsValid
      (at_hand {V = V} {A = Unit {0}} (started Compute (hash s.store.hasher k) s.mode.resize s.initial None) k None).machine) where
    abbrev begun : Machine
    begun = started Compute (hash s.store.hasher k) s.mode.resize s.initial None

    -- one that begins, and searches the root
    begins : Waits begun
    begins =
        computing_begin eq hash s k post f (at_hand {V = V} {A = Unit {0}} begun k None).machine (hash s.store.hasher k) 0 None
        (ap (λ limit. (at_hand {V = V} {A = Unit {0}} (started Compute (hash s.store.hasher k) s.mode.resize s.initial limit) k None).machine)
        (sym free)) refl valid

    searches : (loads : List Call_answer) (m : Machine) → Comes (eq k) s.store begun loads m → Waits m
    searches loads m comes = computing_drives (call_answers loads) s.store (at_hand begun k None) s.store (at_hand m k None)
        (comes_drives eq hash s.store k None 0 loads begun m comes) (Some f) None None begins

    -- its closure may be called with the pair that the search found
    pub computation_takes : (pre : Option (Bor K × Bor V) → Type 0) → Takes pre (map_in eq s.store k) → (turn : ProbeHit)
        → IsRootHit (eq k) s.store (hash s.store.hasher k) turn → TakesAt pre s.store turn
    computation_takes pre takes (turns.Empty place) root =
        let came = root.sees begun in
        let m : Machine = record begun { state = Offering (At place) } in
        subst (Takes pre) (none_held eq input build write finish classes respects s lawful k fits post f s.store (at_hand {A = Unit {0}} m k None)
        (Some f) None None (searches came.0 m came.1) refl) takes
    computation_takes pre takes (turns.Here place word) root = λ live.
        let came = root.sees begun in
        let m : Machine = record begun { state = Showing (record { place = place; word = word }) } in
        let comes = subst (λ (kind : Kind). Comes (eq k) s.store begun came.0 (record begun { state = finds kind nothing place word })) live came.1 in
        let (q, here, number, logged) = pair_held eq input build write finish classes respects s lawful k fits post f s.store
        (at_hand {A = Unit {0}} m k None) (Some f) None None (searches came.0 m comes) (number_of word) refl in
        subst (Takes pre) (here ∙ sym logged) takes
    computation_takes pre takes turn root = tt

    -- one that was made at once leaves what its machine does
    pub computation_done : (shown : Option ℕ) (result : Result (Computed ℕ T) Refused) (store : StoreState K V S)
        → IsComputedFrom eq hash k (Says (post f)) s.store begun shown result store
        → ComputationDone eq hash s k (Says (post f)) shown result (record s { store = store })
    computation_done shown result store run =
        computation_over store run.replied.end None shown (ended_by run.operation) run.reply (sym (ap reply_in run.replied.replied))
        (computing_drives run.replied.answers s.store (at_hand (calls.after run.shows (Op (told_by run.operation))) k (value_by run.operation)) store
        run.replied.end run.replied.drives None shown (ended_by run.operation)
        (subst (HasDecided run.shows run.operation) (sym run.shown_is) (decides run.held run.asked run.logged run.answered)))
        result run.computed
      where
        now : Waits run.shows
        now = searches run.loads run.shows run.comes

        decides : (held : Option (Stored K V)) → calls.ask_of run.shows ≡ show_of held → IsInArena s.store held → Says (post f) held run.operation
            → HasDecided run.shows run.operation (option_map (λ p. p.number) held)
        decides None asked logged said = none_decided run.shows now asked run.operation said
        decides (Some p) asked logged said = pair_decided run.shows now p asked logged run.operation said
