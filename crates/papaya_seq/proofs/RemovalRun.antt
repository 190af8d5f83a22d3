-- A removal by a query that matches a pair of the arena is the removal by that pair's key, made
-- alone.
use Rattle.std.proofs.Common.{Some, ◌≡◌, ℕ, ◌^◌, ◌<◌, Bool, false, None, refl, sym, ap, subst}
use denote.Ref.{Bor}
use Rattle.std.specs.Fn.{Mut}
use Rattle.papaya_call.specs.declared.ask.Ask.TheVariants.{Done as Ask_done}
use Rattle.papaya_call.specs.declared.call.Reply.{Reply}
use Rattle.papaya_call.specs.declared.call.Reply.TheVariants.{Refused as Reply_refused}
use Rattle.papaya_words.specs.declared.refused.Refused.{Refused}
use Rattle.papaya_call_law.specs.Goes.{IsCause}
use Rattle.papaya_call.specs.declared.call.Task.TheVariants.{RemoveIf}
use Rattle.papaya_call_alone.specs.Ahead.{IsPhaseRead}
use Rattle.papaya_call.specs.Machine.{IsValidState}
use Rattle.papaya_call.specs.declared.machine.State.TheVariants.{Ended}
use Rattle.papaya_call.specs.declared.chain.ask.Answer.{Answer}
use Rattle.papaya_call.specs.declared.chain.ask.Ask.TheVariants as asks
use Rattle.papaya_call.specs.declared.chain.machine.Machine.{Machine}
use Rattle.papaya_call.specs.declared.chain.machine.Phase.{Phase}
use Rattle.papaya_call.specs.declared.chain.machine.Phase.TheVariants.{Calling, Linking, Copying as Copying_root}
use Rattle.papaya_call.specs.ChainMachine.{IsFit, IsFitAsk, IsValid, after, ask_of, asks_in, started}
use Rattle.papaya_call_law.specs.Alone.{IsRead}
use Rattle.papaya_call_law.specs.Says.{result_in, result_of_removal}
use Rattle.papaya_call_law.proofs.ReliesHeld.{ended_in}
use Rattle.papaya_core_store.specs.Asks.{PerformsAsk}
use Rattle.papaya_core_store.specs.Store.{StoreState}
use Rattle.papaya_core_store.specs.Tables.{word_at}
use Rattle.papaya_core_timeline.specs.Advances.{reply_in}
use Rattle.papaya_core_timeline.specs.Solo.{whatever}
use Rattle.papaya_core_timeline.proofs.KeptLemmas.{IsLawfulKeys}
use Rattle.papaya_core_timeline.proofs.StoreLemmas.{performed_ask, unnumbered}
use Rattle.papaya_seq.specs.Map.{IsLawfulMap, MapState, next_of}
use Rattle.papaya_seq.proofs.Ending.{left_of}
use Rattle.papaya_seq.proofs.RemovalRoot.{IsInRoot, in_root_begun, in_root_more}
use Rattle.papaya_seq.proofs.RemovalTurns.{IsJudged, judged_more}
use Rattle.papaya_seq.proofs.SeekTurns.{IsAnswered}
use Rattle.papaya_seq.proofs.Removing.{IsLogOf, answered_going, log_kept, performed, removal_by, removing}
use Rattle.papaya_seq.proofs.Steps.{HasCome, came_more, came_nears, made_alone, made_caused, made_goes, made_none}
use Rattle.papaya_seq.proofs.Turns.{IsOver}
use Rattle.papaya_seq.proofs.KeyCalls.{keyed_removal}
use Rattle.papaya_seq.proofs.Unmarked.{unmarked}

-- a machine that has replied has ended
pub ended_at : (m : Machine) (reply : Reply) → ask_of m ≡ asks.Call (Ask_done reply) → m.call.state ≡ Ended reply
ended_at m reply e = by_phase m.phase e
  where
    by_phase : (phase : Phase) → asks_in m.call phase ≡ asks.Call (Ask_done reply) → m.call.state ≡ Ended reply
    by_phase Calling is = ended_in m.call.made m.call.hash m.call.state reply cc
    by_phase (Linking link) is = absurd cc
    by_phase (Copying_root copying) is = absurd cc

module _ {K V S F : Type 0} (g : Mut F (Bor K × (Bor V × Unit {0})) Bool) (eq : K → K → Bool) (hash : S → K → ℕ) (matches : K → Bool) (hashed : ℕ)
    (map : MapState K V S) (agrees : F) where
  -- The map is in order, and this key is equal to those that match, and has this hash.
  pub record IsKey (k : K) : Type 0 where
    pub keys : IsLawfulKeys eq (hash map.store.hasher)
    pub lawful : IsLawfulMap eq (hash map.store.hasher) map.store map.mode map.initial
    pub alike : (l : K) → matches l ≡ eq k l
    pub hashes : hash map.store.hasher k ≡ hashed
    pub fits : hashed < 2 ^ 64

  -- The removal came there as one by this key, and its closure was called at most once. While no
  -- pairs are being moved, it is in the root table.
  pub record IsMatchedRun (k : K) (s : StoreState K V S) (f : F) (m : Machine) : Type 0 where
    pub came : HasCome eq hash map (keyed_removal k) s (removing m k)
    pub judged : IsJudged g matches map.store agrees (result_in RemoveIf m.call.state) f
    pub rooted : next_of map.store ≡ 0 → IsInRoot map.store s m

  -- as it begins
  pub matched_begun : (number : ℕ) (k : K) → IsKey k
      → IsMatchedRun k map.store agrees (started RemoveIf hashed map.mode.resize map.initial number map.mode.limit)
  matched_begun number k key = record {
    came = subst (λ h. HasCome eq hash map (keyed_removal k) map.store
        (removing (started RemoveIf h map.mode.resize map.initial number map.mode.limit) k)) key.hashes
        (made_none eq hash map (keyed_removal k) number key.keys key.lawful (subst (λ h. h < 2 ^ 64) (sym key.hashes) key.fits));
    judged = refl;
    rooted = λ single. in_root_begun map.store hashed map.mode.resize map.initial number map.mode.limit;
  }

  module _ (k : K) (key : IsKey k) (s : StoreState K V S) (f : F) (m : Machine) (now : IsMatchedRun k s f m) (log : IsLogOf map.store s)
      (answer : Answer) (s' : StoreState K V S) (f' : F) (told : IsAnswered eq hash g matches (ask_of m) s f answer s' f') where
    going : reply_in (ask_of m) ≡ None
    going = answered_going g eq hash matches (ask_of m) s f answer s' f' told

    -- the key's own removal gets the same answer
    performs : PerformsAsk eq whatever hash false (ask_of m) s (removing m k) answer s' (removing m k)
    performs = performed g eq hash matches k key.alike m now.came.task (ask_of m) s f answer s' f' told

    -- it is still valid, and a word that it has read is unchanged
    stands : IsValid m
    stands = (now.came.lone going).lawful.core.valid 0 (removing m k) refl

    pub matched_stands : IsValidState RemoveIf m.call.state
    matched_stands = subst (λ t. IsValidState t m.call.state) now.came.task stands.call.state

    read : m.phase ≡ Calling → IsRead (word_at s.words) m.call.state
    read is = (subst (IsPhaseRead m.call.mode (word_at s.words) m.call.state) is (now.came.lone going).current.read).0

    -- the answer is within the limits
    pub matched_fit : IsFitAsk (ask_of m) → IsFit answer
    matched_fit fit = (performed_ask eq hash whatever false (ask_of m) s (removing m k) answer s' (removing m k)
        (unnumbered s.words.tables now.came.lawful.core.sizes) fit performs).fit

    -- a refusal has a cause
    pub matched_caused : (refused : Refused) → reply_in (ask_of (after m answer)) ≡ Some (Reply_refused refused) → IsCause m answer refused
    matched_caused refused e = made_caused eq hash map (keyed_removal k) s (removing m k) answer s' (removing m k) going performs refl key.keys
        now.came refused e

    -- after it
    pub matched_more : IsMatchedRun k s' f' (after m answer)
    matched_more = record {
      came = came_more eq hash map (keyed_removal k) s (removing m k) answer s' (removing m k) going performs refl key.keys now.came;
      judged = judged_more g matches map.store agrees eq hash s f s' f' (log_kept map.store s log) m now.came.task answer
          (made_goes eq hash map (keyed_removal k) s (removing m k) answer s' (removing m k) going performs refl key.keys now.came) stands.call.state
          read now.judged told;
      rooted = λ single. in_root_more g eq hash matches map.store s f s' f' m answer single now.came.task
          (unmarked eq (hash map.store.hasher) _ map.mode s key.keys now.came.lawful) read (now.rooted single) told;
    }

    -- and nearer its end
    pub matched_nears : left_of s' (after m answer) < left_of s m
    matched_nears = came_nears eq hash map (keyed_removal k) s (removing m k) answer s' (removing m k) going performs refl key.keys now.came

  module _ (k : K) (key : IsKey k) (s : StoreState K V S) (f : F) (m : Machine) (now : IsMatchedRun k s f m) (reply : Reply)
      (ends : ask_of m ≡ asks.Call (Ask_done reply)) where
    -- it was made alone
    pub matched_over : IsOver eq hash map (removal_by k) s reply
    matched_over = made_alone eq hash map (keyed_removal k) key.keys key.lawful (subst (λ h. h < 2 ^ 64) (sym key.hashes) key.fits) s (removing m k)
        reply (ap reply_in ends) (λ _ _ _. now.came)

    -- its reply has the result of its closure
    pub matched_judged : IsJudged g matches map.store agrees (result_of_removal reply) f
    matched_judged = subst (λ st. IsJudged g matches map.store agrees (result_in RemoveIf st) f) (ended_at m reply ends) now.judged
