-- A removal under way: if a pair of the arena matches, it is the removal by that pair's key; if
-- none does, it finds nothing.
use Rattle.std.proofs.Common.{Some, ◌≡◌, ⊎_elim, ◌⊎◌, inl, inr, ℕ, ◌^◌, ◌<◌, Bool, true, None, [], refl, sym, ◌∙◌, subst}
use denote.Ref.{Bor}
use Rattle.std.specs.Fn.{Mut}
use Rattle.papaya_words.specs.declared.refused.Refused.{Refused}
use Rattle.papaya_call.specs.declared.ask.Ask.{Ask as Call_ask}
use Rattle.papaya_call.specs.declared.ask.Ask.TheVariants.{ShowPair, Done as Ask_done}
use Rattle.papaya_seq.specs.Removes.{IsRemovalAsk}
use Rattle.papaya_call.specs.declared.call.Reply.{Reply}
use Rattle.papaya_call.specs.declared.call.Reply.TheVariants.{Refused as Reply_refused}
use Rattle.papaya_call.specs.declared.call.Task.TheVariants.{RemoveIf}
use Rattle.papaya_call.specs.declared.chain.ask.Answer.{Answer}
use Rattle.papaya_call.specs.declared.chain.ask.Ask.TheVariants as asks
use Rattle.papaya_call.specs.declared.chain.machine.Machine.{Machine}
use Rattle.papaya_call.specs.declared.chain.machine.Phase.{Phase}
use Rattle.papaya_call.specs.declared.chain.machine.Phase.TheVariants.{Calling, Linking, Copying as Copying_root}
use Rattle.papaya_call.specs.ChainMachine.{IsFit, IsFitAsk, IsValid, after, ask_of, asks_in, started}
use Rattle.papaya_call.specs.Machine.{IsValidState, ask_of as call_ask_of}
use Rattle.papaya_call_law.specs.Relies.{IsNumberAsk}
use Rattle.papaya_core_store.specs.Store.{StoreState}
use Rattle.papaya_core_store.specs.Tables.{word_at}
use Rattle.papaya_call_alone.specs.Ahead.{IsPhaseRead}
use Rattle.papaya_core_timeline.specs.Advances.{reply_in}
use Rattle.papaya_core_timeline.proofs.KeptLemmas.{IsLawfulKeys}
use Rattle.papaya_seq.specs.Map.{IsLawfulMap, MapState, next_of, slots_of}
use Rattle.papaya_seq.proofs.Ending.{left_of}
use Rattle.papaya_seq.proofs.Lawful.{IsMatched, MatchesNone, decided}
use Rattle.papaya_call_law.specs.Goes.{IsCause}
use Rattle.papaya_seq.proofs.Causes.{IsNoTableRefusal}
use Rattle.papaya_seq.proofs.RemovalRefused.{IsCounting, cause_table, counting_begun, counting_more}
use Rattle.papaya_seq.proofs.RemovalRoot.{IsInRoot, IsRootStage, in_root_begun, in_root_more}
use Rattle.papaya_seq.proofs.RemovalRun.{IsKey, IsMatchedRun, ended_at, matched_begun, matched_caused, matched_fit, matched_more, matched_nears, matched_stands}
use Rattle.papaya_seq.proofs.SeekLaw.{seek_caused, seek_core, seek_fit, seek_more, seek_nears}
use Rattle.papaya_seq.proofs.Seeking.{IsSeeking, seek_begin}
use Rattle.papaya_seq.proofs.RemovalTurns.{yet_uncalled}
use Rattle.papaya_seq.proofs.SeekTurns.{IsAnswered}
use Rattle.papaya_seq.proofs.Removing.{IsLogOf, answered_going, answered_log, log_more, removal_asks, removal_numbers, same_log}
use Rattle.papaya_seq.proofs.Unmarked.{unmarked}

-- an ask of the call is the machine's own
own_ask : (m : Machine) (ask : Call_ask) → ask_of m ≡ asks.Call ask → call_ask_of m.call ≡ ask
own_ask m ask e = by_phase m.phase e
  where
    by_phase : (phase : Phase) → asks_in m.call phase ≡ asks.Call ask → call_ask_of m.call ≡ ask
    by_phase Calling is = cc is
    by_phase (Linking link) is = absurd cc
    by_phase (Copying_root copying) is = absurd cc

module _ {K V S F : Type 0} (g : Mut F (Bor K × (Bor V × Unit {0})) Bool) (eq : K → K → Bool) (hash : S → K → ℕ) (matches : K → Bool) (hashed : ℕ)
    (map : MapState K V S) (agrees : F) where
  -- The map is in order, and what matches a key matches as that key is equal, and hashes as it does.
  pub record IsQuery : Type 0 where
    pub keys : IsLawfulKeys eq (hash map.store.hasher)
    pub lawful : IsLawfulMap eq (hash map.store.hasher) map.store map.mode map.initial
    pub alike : (k : K) → matches k ≡ true → (l : K) → matches l ≡ eq k l
    pub hashes : (k : K) → matches k ≡ true → hash map.store.hasher k ≡ hashed
    pub fits : hashed < 2 ^ 64

  -- so the call by a key that matches is the same removal
  pub key_by : IsQuery → (k : K) → matches k ≡ true → IsKey g eq hash matches hashed map agrees k
  key_by query k matched = record {
    keys = query.keys;
    lawful = query.lawful;
    alike = query.alike k matched;
    hashes = query.hashes k matched;
    fits = query.fits;
  }

  pub key_of : IsQuery → (one : IsMatched map.store matches) → IsKey g eq hash matches hashed map agrees one.pair.key
  key_of query one = key_by query one.pair.key one.matched

  -- A pair of the arena matches.
  pub record HasMatch (s : StoreState K V S) (f : F) (m : Machine) : Type 0 where
    pub one : IsMatched map.store matches
    pub run : IsMatchedRun g eq hash matches hashed map agrees one.pair.key s f m

  -- No pair of the arena matches. While no pairs are being moved, the removal is in the root table.
  pub record HasNoMatch (s : StoreState K V S) (f : F) (m : Machine) : Type 0 where
    pub none : MatchesNone map.store matches
    pub seeking : IsSeeking eq hash map hashed s m
    pub rooted : next_of map.store ≡ 0 → IsInRoot map.store s m
    pub uncalled : f ≡ agrees

  -- The facts that hold between two asks.
  pub record IsUnderWay (s : StoreState K V S) (f : F) (m : Machine) : Type 0 where
    pub log : IsLogOf map.store s
    pub way : (query : IsQuery) → HasMatch s f m ⊎ HasNoMatch s f m
    -- it came there as one by each key that matches
    pub keyed : IsQuery → (k : K) → matches k ≡ true → IsMatchedRun g eq hash matches hashed map agrees k s f m
    pub counting : IsCounting eq hash g matches map s m
    pub refusal : IsQuery → (refused : Refused) → reply_in (ask_of m) ≡ Some (Reply_refused refused) → IsNoTableRefusal (record map { store = s }) refused

  -- as it begins
  pub under_way : (number : ℕ) → IsUnderWay map.store agrees (started RemoveIf hashed map.mode.resize map.initial number map.mode.limit)
  under_way number = record {
    log = same_log map.store map.store refl;
    way = λ query. ⊎_elim
        (λ (one : IsMatched map.store matches). inl
        (record { one = one; run = matched_begun g eq hash matches hashed map agrees number one.pair.key (key_of query one) }))
        (λ (none : MatchesNone map.store matches).
        inr (record {
          none = none;
          seeking = seek_begin eq hash map hashed query.keys query.fits number query.lawful;
          rooted = λ single.
              in_root_begun map.store hashed map.mode.resize map.initial number map.mode.limit;
          uncalled = refl;
        }))
        (decided map.store matches);
    keyed = λ query k matched. matched_begun g eq hash matches hashed map agrees number k (key_by query k matched);
    counting = counting_begun eq hash g matches map hashed number;
    refusal = λ query refused e. absurd cc;
  }

  module _ (s : StoreState K V S) (f : F) (m : Machine) (now : IsUnderWay s f m) (answer : Answer) (s' : StoreState K V S) (f' : F)
      (told : IsAnswered eq hash g matches (ask_of m) s f answer s' f') where
    -- it has not replied
    going : reply_in (ask_of m) ≡ None
    going = answered_going g eq hash matches (ask_of m) s f answer s' f' told

    -- if none matches, it stays in the root table
    rooted_more : IsQuery → HasNoMatch s f m → next_of map.store ≡ 0 → IsInRoot map.store s' (after m answer)
    rooted_more query lacks single =
        let seeking = lacks.seeking in
        in_root_more g eq hash matches map.store s f s' f' m answer single seeking.task
        (unmarked eq (hash s.hasher) [] map.mode s (subst (λ y. IsLawfulKeys eq (hash y)) (sym now.log.hasher) query.keys)
        (seek_core eq hash map hashed s m seeking))
        (λ calling. (subst (IsPhaseRead m.call.mode (word_at s.words) m.call.state) calling seeking.current.read).0) (lacks.rooted single) told

    -- a refusal has a cause
    caused : IsQuery → (refused : Refused) → reply_in (ask_of (after m answer)) ≡ Some (Reply_refused refused) → IsCause m answer refused
    caused query refused e = ⊎_elim
        (λ (has : HasMatch s f m). matched_caused g eq hash matches hashed map agrees has.one.pair.key (key_of query has.one) s f m has.run now.log
        answer s' f' told refused e)
        (λ (lacks : HasNoMatch s f m). seek_caused eq hash g matches map hashed query.keys query.fits lacks.none s m f answer s' f' lacks.seeking going
        told refused e)
        (now.way query)

    -- it does not ask for numbers for pairs
    unnumbered : IsQuery → IsNumberAsk (call_ask_of m.call) → ⊥
    unnumbered query = removal_numbers m.call.made m.call.hash m.call.state (⊎_elim
        (λ (has : HasMatch s f m). matched_stands g eq hash matches hashed map agrees has.one.pair.key (key_of query has.one) s f m has.run now.log
        answer s' f' told)
        (λ (lacks : HasNoMatch s f m). subst (λ t. IsValidState t m.call.state) lacks.seeking.task lacks.seeking.valid.call.state)
        (now.way query))

    -- after an answer
    pub under_way_more : IsUnderWay s' f' (after m answer)
    under_way_more = record {
      log = log_more map.store s s' now.log (answered_log g eq hash matches (ask_of m) s f answer s' f' told);
      way = λ query. ⊎_elim
          (λ (has : HasMatch s f m). inl (record {
            one = has.one;
            run = matched_more g eq hash matches hashed map agrees has.one.pair.key (key_of query has.one) s f m has.run now.log answer s' f' told;
          }))
          (λ (lacks : HasNoMatch s f m). inr (record {
            none = lacks.none;
            seeking = (seek_more eq hash g matches map hashed query.keys query.fits lacks.none s m f answer s' f' lacks.seeking going told).0;
            rooted = λ single. rooted_more query lacks single;
            uncalled = (seek_more eq hash g matches map hashed query.keys query.fits lacks.none s m f answer s' f' lacks.seeking going told).1
                ∙ lacks.uncalled;
          }))
          (now.way query);
      keyed = λ query k matched. matched_more g eq hash matches hashed map agrees k (key_by query k matched) s f m (now.keyed query k matched) now.log
          answer s' f' told;
      counting = counting_more eq hash g matches map s f m answer s' f' told now.counting;
      refusal = λ query refused e. cause_table eq hash g matches map s f m answer s' f' told now.counting refused (unnumbered query) (caused query refused e);
    }

    -- it is nearer its end
    pub under_way_nears : IsQuery → left_of s' (after m answer) < left_of s m
    under_way_nears query = ⊎_elim
        (λ (has : HasMatch s f m). matched_nears g eq hash matches hashed map agrees has.one.pair.key (key_of query has.one) s f m has.run now.log
        answer s' f' told)
        (λ (lacks : HasNoMatch s f m). seek_nears eq hash g matches map hashed query.keys query.fits lacks.none s m f answer s' f' lacks.seeking going told)
        (now.way query)

    -- and the answer is within the limits
    pub under_way_fit : IsQuery → IsFitAsk (ask_of m) → IsFit answer
    under_way_fit query fit = ⊎_elim
        (λ (has : HasMatch s f m). matched_fit g eq hash matches hashed map agrees has.one.pair.key (key_of query has.one) s f m has.run now.log
        answer s' f' told fit)
        (λ (lacks : HasNoMatch s f m). seek_fit eq hash g matches map hashed query.keys query.fits lacks.none s m f answer s' f' lacks.seeking going told)
        (now.way query)

  -- it is a removal, whose own asks are those of removals
  pub asked_so : IsQuery → (s : StoreState K V S) (f : F) (m : Machine) → IsUnderWay s f m → IsValid m → (ask : Call_ask)
      → ask_of m ≡ asks.Call ask → ((reply : Reply) → ask ≡ Ask_done reply → ⊥) → IsRemovalAsk ask
  asked_so query s f m now stands ask e going =
      let task : m.call.task ≡ RemoveIf = ⊎_elim (λ (has : HasMatch s f m). has.run.came.task) (λ (lacks : HasNoMatch s f m). lacks.seeking.task)
      (now.way query) in
      let is : call_ask_of m.call ≡ ask = own_ask m ask e in
      subst IsRemovalAsk is (removal_asks m.call.made m.call.hash m.call.state (subst (λ t. IsValidState t m.call.state) task stands.call.state)
      (λ reply done. going reply (sym is ∙ done)))

  -- if it asks to call its closure with a pair, it has not called it before
  pub shows_first : IsQuery → (s : StoreState K V S) (f : F) (m : Machine) → IsUnderWay s f m → IsValid m → (n : ℕ)
      → ask_of m ≡ asks.Call (ShowPair n) → f ≡ agrees
  shows_first query s f m now stands n e = ⊎_elim
      (λ (has : HasMatch s f m). yet_uncalled g matches map.store agrees m.call.made m.call.hash m.call.state n
      (subst (λ t. IsValidState t m.call.state) has.run.came.task stands.call.state) (own_ask m (ShowPair n) e) f has.run.judged)
      (λ (lacks : HasNoMatch s f m). lacks.uncalled)
      (now.way query)

  module _ (s : StoreState K V S) (f : F) (m : Machine) (now : IsUnderWay s f m) (query : IsQuery) (single : next_of map.store ≡ 0) where
    -- while no pairs are being moved, it is in the root table
    in_root : IsInRoot map.store s m
    in_root = ⊎_elim (λ (has : HasMatch s f m). has.run.rooted single) (λ (lacks : HasNoMatch s f m). lacks.rooted single) (now.way query)

    -- which keeps its slots, and none are moved then
    pub slots_kept : (slots_of s ≡ slots_of map.store) × (next_of s ≡ 0)
    slots_kept = let kept = in_root.kept in (kept.slots, kept.next ∙ single)

    -- and it isn't refused
    pub unrefused : (refused : Refused) → ask_of m ≡ asks.Call (Ask_done (Reply_refused refused)) → ⊥
    unrefused refused ends = subst (IsRootStage map.store.words.root) (ended_at m (Reply_refused refused) ends) in_root.stage
