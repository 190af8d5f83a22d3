-- A removal whose asks are answered by a store and by a closure, and the same removal as a call
-- with an owned key.
use Rattle.std.proofs.Common.{◌≡◌, inl, inr, ℕ, Bool, false, Option, Some, None, refl, sym, ◌∙◌, ap, subst, slice_get}
use denote.Ref.{Bor}
use Rattle.std.specs.Fn.{Mut}
use Rattle.std.specs.Prelude.{◌==◌}
use Rattle.papaya_call.specs.declared.machine.State.{State}
use Rattle.papaya_call.specs.declared.machine.State.TheVariants.{AtRoot, Making, Opening, Searching}
use Rattle.papaya_call.specs.declared.machine.State.TheVariants.{Writing, Offering, Showing}
use Rattle.papaya_call.specs.declared.machine.State.TheVariants.{Pairing, Putting, Burying}
use Rattle.papaya_call.specs.declared.machine.State.TheVariants.{Counting, Noting, Uncounting}
use Rattle.papaya_call.specs.declared.machine.State.TheVariants.{Leaving, Growing, Ended}
use Rattle.papaya_call.specs.Machine.{IsValidState, asks as call_asks}
use Rattle.papaya_call.specs.declared.made.Made.{Made}
use Rattle.papaya_call.specs.declared.ask.Answer.{Answer as Call_answer}
use Rattle.papaya_call.specs.declared.ask.Answer.TheVariants.{Yes}
use Rattle.papaya_call.specs.declared.ask.Ask.{Ask as Call_ask}
use Rattle.papaya_call.specs.declared.ask.Ask.TheVariants.{Load, Exchange, LoadHint, WriteHint}
use Rattle.papaya_call.specs.declared.ask.Ask.TheVariants.{SameKey, ShowNone, ShowPair, SizeOf}
use Rattle.papaya_call.specs.declared.ask.Ask.TheVariants.{MakeKey, MakeValue, MakePair, MakePairOf}
use Rattle.papaya_call.specs.declared.ask.Ask.TheVariants.{MakeTable, AddToShard, Done as Ask_done}
use Rattle.papaya_call.specs.declared.call.Call.{Call}
use Rattle.papaya_call.specs.declared.call.Call.TheVariants.{RemoveIf as RemoveIf_call}
use Rattle.papaya_call.specs.declared.call.Reply.{Reply}
use Rattle.papaya_call.specs.declared.call.Task.TheVariants.{RemoveIf}
use Rattle.papaya_call.specs.declared.copy_ask.CopyAsk.{CopyAsk}
use Rattle.papaya_call.specs.declared.copy_ask.CopyAsk.TheVariants as copies
use Rattle.papaya_call.specs.declared.search.Search.TheVariants.{Sizing, Looking, Reading, Comparing}
use Rattle.papaya_call.specs.declared.chain.ask.Answer.{Answer}
use Rattle.papaya_call.specs.declared.chain.ask.Answer.TheVariants as answers
use Rattle.papaya_call.specs.declared.chain.ask.Ask.{Ask}
use Rattle.papaya_call.specs.declared.chain.ask.Ask.TheVariants as asks
use Rattle.papaya_call.specs.declared.chain.machine.Machine.{Machine}
use Rattle.papaya_call.specs.ChainMachine.{ask_of}
use Rattle.papaya_call_law.specs.Relies.{IsNumberAsk}
use Rattle.papaya_core_store.specs.Asks.{PerformsAsk}
use Rattle.papaya_core_store.specs.CopyAsks.{PerformsCopy}
use Rattle.papaya_core_store.specs.Performs.{Exchanges, Judges, Performs, ShowsPair, same}
use Rattle.papaya_core_store.specs.Store.{StoreState, Stored, pair_of, stored_in}
use Rattle.papaya_core_store.specs.Tables.{Tables}
use Rattle.papaya_core_store.specs.declared.pairs.Part.TheVariants.{Own}
use Rattle.papaya_core_store.specs.declared.pairs.Running.{Running}
use Rattle.papaya_core_timeline.specs.Advances.{reply_in}
use Rattle.papaya_core_timeline.specs.Solo.{whatever}
use Rattle.papaya_core_timeline.proofs.StoreLemmas.{matched}
use Rattle.papaya_seq.specs.Looks.{matches_in}
use Rattle.papaya_seq.specs.Removes.{IsRemovalAnswer, IsRemovalAsk, IsShown}
use Rattle.papaya_seq.proofs.SeekTurns.{IsAnswered}

-- the removal by a key of the map's own type, for any result of a closure
abbrev pub removal_by : {K V : Type 0} → K → Call K V (Unit {0})
removal_by k = RemoveIf_call k tt

-- and as a call under way
abbrev pub removing : {K V : Type 0} → Machine → K → Running K V (Unit {0})
removing m k = record { machine = m; key = Own k; value = None; answers = Some tt }

-- the arena and the hasher are as they were
pub record IsLogOf {K V S : Type 0} (s s' : StoreState K V S) : Type 0 where
  pub pairs : s'.pairs ≡ s.pairs
  pub hasher : s'.hasher ≡ s.hasher

pub same_log : {K V S : Type 0} (s s' : StoreState K V S) → s' ≡ s → IsLogOf s s'
same_log {K} {V} {S} s s' same = record {
  pairs = ap (λ (y : StoreState K V S). y.pairs) same;
  hasher = ap (λ (y : StoreState K V S). y.hasher) same;
}

-- one after the other
pub log_more : {K V S : Type 0} (first s s' : StoreState K V S) → IsLogOf first s → IsLogOf s s' → IsLogOf first s'
log_more first s s' log more = record { pairs = more.pairs ∙ log.pairs; hasher = more.hasher ∙ log.hasher }

-- so each pair is in the arena as it was
pub log_kept : {K V S : Type 0} (s s' : StoreState K V S) → IsLogOf s s' → (n : ℕ) → pair_of s' n ≡ pair_of s n
log_kept s s' log n = ap (λ pairs. stored_in pairs n (slice_get pairs n)) log.pairs

-- a key that matches as k is equal compares as k does
same_matches : {K V : Type 0} (eq : K → K → Bool) (matches : K → Bool) (k : K) → ((l : K) → matches l ≡ eq k l) → (o : Option (Stored K V))
    → matches_in matches o ≡ same eq (Some k) o
same_matches eq matches k alike None = refl
same_matches eq matches k alike (Some p) = alike p.key

-- a removal's own asks, in each state of its machine: it makes nothing, and calls its closure only
-- with a pair
pub removal_asks : (made : Made) (hash : ℕ) (state : State) → IsValidState RemoveIf state
    → ((reply : Reply) → call_asks made hash state ≡ Ask_done reply → ⊥) → IsRemovalAsk (call_asks made hash state)
removal_asks made hash AtRoot stands going = tt
removal_asks made hash Making stands going = absurd stands
removal_asks made hash (Opening t) stands going = absurd stands
removal_asks made hash (Searching (Sizing t)) stands going = tt
removal_asks made hash (Searching (Looking at)) stands going = tt
removal_asks made hash (Searching (Reading at)) stands going = tt
removal_asks made hash (Searching (Comparing at word)) stands going = tt
removal_asks made hash (Writing write) stands going = absurd stands.0
removal_asks made hash (Offering gap) stands going = absurd stands.0
removal_asks made hash (Showing removal) stands going = tt
removal_asks made hash (Pairing purpose) stands going = absurd stands.0
removal_asks made hash (Putting put) stands going = absurd stands.0
removal_asks made hash (Burying removal) stands going = tt
removal_asks made hash (Counting n) stands going = absurd stands
removal_asks made hash (Noting n) stands going = absurd stands
removal_asks made hash (Uncounting n) stands going = tt
removal_asks made hash (Leaving t) stands going = tt
removal_asks made hash (Growing need) stands going = tt
removal_asks made hash (Ended reply) stands going = absurd (going reply refl)

-- and it does not ask for numbers for pairs
pub removal_numbers : (made : Made) (hash : ℕ) (state : State) → IsValidState RemoveIf state → IsNumberAsk (call_asks made hash state) → ⊥
removal_numbers made hash AtRoot stands asks = asks
removal_numbers made hash Making stands asks = asks
removal_numbers made hash (Opening t) stands asks = asks
removal_numbers made hash (Searching (Sizing t)) stands asks = asks
removal_numbers made hash (Searching (Looking at)) stands asks = asks
removal_numbers made hash (Searching (Reading at)) stands asks = asks
removal_numbers made hash (Searching (Comparing at word)) stands asks = asks
removal_numbers made hash (Writing write) stands asks = stands.0
removal_numbers made hash (Offering gap) stands asks = asks
removal_numbers made hash (Showing removal) stands asks = asks
removal_numbers made hash (Pairing purpose) stands asks = stands.0
removal_numbers made hash (Putting put) stands asks = stands.0
removal_numbers made hash (Burying removal) stands asks = asks
removal_numbers made hash (Counting n) stands asks = asks
removal_numbers made hash (Noting n) stands asks = asks
removal_numbers made hash (Uncounting n) stands asks = asks
removal_numbers made hash (Leaving t) stands asks = asks
removal_numbers made hash (Growing need) stands asks = asks
removal_numbers made hash (Ended reply) stands asks = asks

module _ {K V S F : Type 0} (g : Mut F (Bor K × (Bor V × Unit {0})) Bool) (eq : K → K → Bool) (hash : S → K → ℕ) (matches : K → Bool) where
  -- an ask of the call with this answer, and one of a copy, in the terms of a driver
  pub answered_call : (m : Machine) (ask : Call_ask) → asks.Call ask ≡ ask_of m
      → (s : StoreState K V S) (f : F) (told : Call_answer) (y : StoreState K V S) (h : F) → IsRemovalAnswer g matches ask s f told y h
      → (answer : Answer) (s' : StoreState K V S) (f' : F) → answer ≡ answers.Call told → s' ≡ y → f' ≡ h
      → IsAnswered eq hash g matches (ask_of m) s f answer s' f'
  answered_call m ask asked s f told y h is answer s' f' e same alike =
      subst (λ a. IsAnswered eq hash g matches a s f answer s' f') asked (
        told,
        e,
        subst (λ (z : StoreState K V S). IsRemovalAnswer g matches ask s f told z f') (sym same)
            (subst (λ (z : F). IsRemovalAnswer g matches ask s f told y z) (sym alike) is),
      )

  pub answered_copy : (m : Machine) (ask : CopyAsk) → asks.Copy ask ≡ ask_of m → (s : StoreState K V S) (f : F) (told : Answer) (y : StoreState K V S)
      → PerformsCopy eq hash false ask s told y
      → (answer : Answer) (s' : StoreState K V S) (f' : F) → answer ≡ told → s' ≡ y → f' ≡ f → IsAnswered eq hash g matches (ask_of m) s f answer s' f'
  answered_copy m ask asked s f told y is answer s' f' e same alike =
      subst (λ a. IsAnswered eq hash g matches a s f answer s' f') asked (
        subst (λ (z : StoreState K V S). PerformsCopy eq hash false ask s answer z) (sym same) (subst (λ a. PerformsCopy eq hash false ask s a y) (sym e) is),
        alike,
      )

  -- a call that was answered has not replied
  going_call : (ask : Call_ask) (s : StoreState K V S) (f : F) (answer : Call_answer) (s' : StoreState K V S) (f' : F)
      → IsRemovalAnswer g matches ask s f answer s' f' → reply_in (asks.Call ask) ≡ None
  going_call (Load at) s f answer s' f' told = refl
  going_call (Exchange at old new) s f answer s' f' told = refl
  going_call (LoadHint t x) s f answer s' f' told = refl
  going_call (SameKey n) s f answer s' f' told = refl
  going_call (ShowPair n) s f answer s' f' told = refl
  going_call (SizeOf t) s f answer s' f' told = refl
  going_call (AddToShard by) s f answer s' f' told = refl
  going_call (WriteHint t x hint) s f answer s' f' told = absurd told
  going_call MakeKey s f answer s' f' told = absurd told
  going_call ShowNone s f answer s' f' told = absurd told
  going_call MakePair s f answer s' f' told = absurd told
  going_call MakeValue s f answer s' f' told = absurd told
  going_call (MakePairOf i) s f answer s' f' told = absurd told
  going_call (MakeTable slots limit chunks) s f answer s' f' told = absurd told
  going_call (Ask_done reply) s f answer s' f' told = absurd told

  pub answered_going : (ask : Ask) (s : StoreState K V S) (f : F) (answer : Answer) (s' : StoreState K V S) (f' : F)
      → IsAnswered eq hash g matches ask s f answer s' f' → reply_in ask ≡ None
  answered_going (asks.Call ask) s f answer s' f' (told, is, done) = going_call ask s f told s' f' done
  answered_going (asks.Copy ask) s f answer s' f' done = refl

  -- nothing is stored in the arena
  log_exchanged : (found old : ℕ) (after : Tables) (answer : Call_answer) (s s' : StoreState K V S) → Exchanges found old after answer s s' → IsLogOf s s'
  log_exchanged found old after answer s s' made =
      matched (IsLogOf s s') (found == old) _ _ made
      (λ _ done. let log = same_log (record s { words = after }) s' done.1 in record { pairs = log.pairs; hasher = log.hasher })
      (λ _ lost. same_log s s' lost.1)

  log_call : (ask : Call_ask) (s : StoreState K V S) (f : F) (answer : Call_answer) (s' : StoreState K V S) (f' : F)
      → IsRemovalAnswer g matches ask s f answer s' f' → IsLogOf s s'
  log_call (Load at) s f answer s' f' (_, same, _) = same_log s s' same
  log_call (Exchange at old new) s f answer s' f' (made, _) = log_exchanged _ old _ answer s s' made
  log_call (LoadHint t x) s f answer s' f' (_, same, _) = same_log s s' same
  log_call (SameKey n) s f answer s' f' (_, same, _) = same_log s s' same
  log_call (ShowPair n) s f answer s' f' (_, same) = same_log s s' same
  log_call (SizeOf t) s f answer s' f' (_, same, _) = same_log s s' same
  log_call (AddToShard by) s f answer s' f' (_, (number, is), _) = record {
    pairs = ap (λ (y : StoreState K V S). y.pairs) is;
    hasher = ap (λ (y : StoreState K V S). y.hasher) is;
  }
  log_call (WriteHint t x hint) s f answer s' f' told = absurd told
  log_call MakeKey s f answer s' f' told = absurd told
  log_call ShowNone s f answer s' f' told = absurd told
  log_call MakePair s f answer s' f' told = absurd told
  log_call MakeValue s f answer s' f' told = absurd told
  log_call (MakePairOf i) s f answer s' f' told = absurd told
  log_call (MakeTable slots limit chunks) s f answer s' f' told = absurd told
  log_call (Ask_done reply) s f answer s' f' told = absurd told

  log_copy : (ask : CopyAsk) (s : StoreState K V S) (answer : Answer) (s' : StoreState K V S) → PerformsCopy eq hash false ask s answer s' → IsLogOf s s'
  log_copy (copies.Load at) s answer s' (_, same) = same_log s s' same
  log_copy (copies.Exchange at old new) s answer s' (told, _, made) = log_exchanged _ old _ told s s' made
  log_copy (copies.LoadHint t x) s answer s' (_, same) = same_log s s' same
  log_copy (copies.WriteHint t x hint) s answer s' (_, is) = record {
    pairs = ap (λ (y : StoreState K V S). y.pairs) is;
    hasher = ap (λ (y : StoreState K V S). y.hasher) is;
  }
  log_copy (copies.SizeOf n) s answer s' (_, same) = same_log s s' same
  log_copy (copies.HashOf n) s answer s' (_, _, same) = same_log s s' same
  log_copy (copies.SamePair m n) s answer s' (_, same) = same_log s s' same
  log_copy copies.Count s answer s' (_, same) = same_log s s' same
  log_copy (copies.MakeTable slots limit chunks) s answer s' (told, _, inl (_, same)) = same_log s s' same
  log_copy (copies.MakeTable slots limit chunks) s answer s' (told, _, inr (_, _, is)) = record {
    pairs = ap (λ (y : StoreState K V S). y.pairs) is;
    hasher = ap (λ (y : StoreState K V S). y.hasher) is;
  }

  pub answered_log : (ask : Ask) (s : StoreState K V S) (f : F) (answer : Answer) (s' : StoreState K V S) (f' : F)
      → IsAnswered eq hash g matches ask s f answer s' f' → IsLogOf s s'
  answered_log (asks.Call ask) s f answer s' f' (told, is, done) = log_call ask s f told s' f' done
  answered_log (asks.Copy ask) s f answer s' f' (done, same) = log_copy ask s answer s' done

  -- and a core with the owned key gives the same answer
  performed_call : (k : K) → ((l : K) → matches l ≡ eq k l) → (m : Machine) → m.call.task ≡ RemoveIf
      → (ask : Call_ask) (s : StoreState K V S) (f : F) (answer : Call_answer) (s' : StoreState K V S) (f' : F)
      → IsRemovalAnswer g matches ask s f answer s' f' → Performs eq whatever false ask s (removing m k) answer s' (removing m k)
  performed_call k alike m is_removal (Load at) s f answer s' f' (e, stays, _) = (e, (stays, refl))
  performed_call k alike m is_removal (Exchange at old new) s f answer s' f' (done, _) = (done, refl)
  performed_call k alike m is_removal (LoadHint t x) s f answer s' f' (e, stays, _) = (e, (stays, refl))
  performed_call k alike m is_removal (SameKey n) s f answer s' f' (e, stays, _) = (e ∙ ap Yes (same_matches eq matches k alike (pair_of s n)), (stays, refl))
  performed_call k alike m is_removal (ShowPair n) s f answer s' f'
      (shown, stays) = subst (λ task. ShowsPair task whatever n s (removing m k) answer s' (removing m k)) (sym is_removal) (shows (pair_of s n) refl shown)
    where
      shows : (o : Option (Stored K V)) → pair_of s n ≡ o → IsShown g o f answer f' → Judges whatever n s (removing m k) answer s' (removing m k)
      shows None is (e, _) = inl (inr is, (e, (stays, refl)))
      shows (Some p) is (key, value, agrees, _, _, e, _) = inr (tt, p, agrees, tt, refl, is, tt, e, stays, refl)
  performed_call k alike m is_removal (SizeOf t) s f answer s' f' (e, stays, _) = (e, (stays, refl))
  performed_call k alike m is_removal (AddToShard by) s f answer s' f' (e, added, _) = (e, added, refl)
  performed_call k alike m is_removal (WriteHint t x hint) s f answer s' f' told = absurd told
  performed_call k alike m is_removal MakeKey s f answer s' f' told = absurd told
  performed_call k alike m is_removal ShowNone s f answer s' f' told = absurd told
  performed_call k alike m is_removal MakePair s f answer s' f' told = absurd told
  performed_call k alike m is_removal MakeValue s f answer s' f' told = absurd told
  performed_call k alike m is_removal (MakePairOf i) s f answer s' f' told = absurd told
  performed_call k alike m is_removal (MakeTable slots limit chunks) s f answer s' f' told = absurd told
  performed_call k alike m is_removal (Ask_done reply) s f answer s' f' told = absurd told

  pub performed : (k : K) → ((l : K) → matches l ≡ eq k l) → (m : Machine) → m.call.task ≡ RemoveIf
      → (ask : Ask) (s : StoreState K V S) (f : F) (answer : Answer) (s' : StoreState K V S) (f' : F)
      → IsAnswered eq hash g matches ask s f answer s' f' → PerformsAsk eq whatever hash false ask s (removing m k) answer s' (removing m k)
  performed k alike m is_removal (asks.Call ask) s f answer s' f' (told, is, done) = (told, is, performed_call k alike m is_removal ask s f told s' f' done)
  performed k alike m is_removal (asks.Copy ask) s f answer s' f' (done, same) = (done, refl)
