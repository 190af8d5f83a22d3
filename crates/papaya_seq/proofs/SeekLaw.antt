-- The law of a removal by a query that matches no pair of the arena.
use Rattle.std.proofs.Common.{◌≡◌, ◌⊎◌, ℕ, ◌^◌, ◌<◌, ◌≤◌, Bool, None, Some, [], ◌++◌, pos, ◌+ℤ◌, length, sym, ◌∙◌, ap, subst}
use denote.Ref.{Bor}
use Rattle.std.specs.Fn.{Mut}
use Rattle.std.specs.Int.{int_wrap, w64}
use Rattle.papaya_words_law.proofs.FiniteMaps.{one_length}
use Rattle.papaya_words.specs.declared.refused.Refused.{Refused}
use Rattle.papaya_call.specs.declared.call.Reply.{Reply}
use Rattle.papaya_call.specs.declared.call.Reply.TheVariants.{Absent, Refused as Reply_refused}
use Rattle.papaya_call.specs.declared.search.Search.TheVariants.{Sizing, Looking, Reading, Comparing}
use Rattle.papaya_call.specs.declared.machine.State.{State}
use Rattle.papaya_call.specs.declared.machine.State.TheVariants.{AtRoot, Searching, Leaving, Ended}
use Rattle.papaya_call.specs.declared.made.Made.{Made}
use Rattle.papaya_call.specs.Machine as calls
use Rattle.papaya_call.specs.declared.chain.ask.Ask.TheVariants as asks
use Rattle.papaya_call.specs.declared.chain.ask.Answer.{Answer}
use Rattle.papaya_call.specs.declared.chain.machine.Machine.{Machine}
use Rattle.papaya_call.specs.ChainMachine.{IsFit, after, ask_of}
use Rattle.papaya_call_law.proofs.Names.{call_asks}
use Rattle.papaya_core_store.specs.Store.{StoreState, pair_of}
use Rattle.papaya_core_timeline.specs.Advances.{reply_in}
use Rattle.papaya_core_timeline.specs.Kept.{IsLawfulCore}
use Rattle.papaya_core_timeline.specs.Content.{content}
use Rattle.papaya_core_timeline.proofs.CountedContent.{content_apart}
use Rattle.papaya_core_timeline.proofs.CoreLemmas.{reply_asked}
use Rattle.papaya_core_timeline.proofs.KeptSettings.{IsLawfulKeys}
use Rattle.papaya_seq.specs.Map.{IsLawfulMap, MapState}
use Rattle.papaya_seq.proofs.Ending.{left_of}
use Rattle.papaya_seq.proofs.Lawful.{MatchesNone}
use Rattle.papaya_seq.proofs.Seeking.{IsSeeking, Seeks, own_hashed, own_setting}
use Rattle.papaya_seq.proofs.SeekTurns.{IsAnswered, IsTurn, turn_caused, turned}
use Rattle.papaya_call_law.specs.Goes.{IsCause}
use Rattle.papaya_seq.proofs.SeekSteps as steps
use Rattle.papaya_seq.proofs.CallLengths.{long_left}
use Rattle.papaya_seq.proofs.SeekSteps.{turn_nears}

-- the reply of such a call
ends_in : (made : Made) (hash : ℕ) (st : State) → Seeks st → (reply : Reply) → reply_in (asks.Call (calls.asks made hash st)) ≡ Some reply
    → (reply ≡ Absent) ⊎ ((refused : Refused) × (reply ≡ Reply_refused refused))
ends_in made hash AtRoot seeks reply e = let f : None ≡ Some reply = e in absurd cc
ends_in made hash (Searching (Sizing t)) seeks reply e = let f : None ≡ Some reply = e in absurd cc
ends_in made hash (Searching (Looking at)) seeks reply e = let f : None ≡ Some reply = e in absurd cc
ends_in made hash (Searching (Reading at)) seeks reply e = let f : None ≡ Some reply = e in absurd cc
ends_in made hash (Searching (Comparing at word)) seeks reply e = let f : None ≡ Some reply = e in absurd cc
ends_in made hash (Leaving t) seeks reply e = let f : None ≡ Some reply = e in absurd cc
ends_in made hash (Ended told) seeks reply e = let same : told ≡ reply = cc in
    subst (λ y. (y ≡ Absent) ⊎ ((refused : Refused) × (y ≡ Reply_refused refused))) same seeks
ends_in made hash st seeks reply e = absurd seeks

module _ {K V S F : Type 0} (eq : K → K → Bool) (hash : S → K → ℕ) (g : Mut F (Bor K × (Bor V × Unit {0})) Bool) (matches : K → Bool)
    (s : MapState K V S) (h : ℕ) where
  -- it replies that there is none, or is refused
  pub seek_ends : (store : StoreState K V S) (m : Machine) → IsSeeking eq hash s h store m → (reply : Reply) → reply_in (ask_of m) ≡ Some reply
      → (reply ≡ Absent) ⊎ ((refused : Refused) × (reply ≡ Reply_refused refused))
  seek_ends store m seeking reply e =
      let asking = (call_asks m _ (reply_asked (ask_of m) reply e)).1 in
      ends_in m.call.made m.call.hash m.call.state seeking.seeks reply (ap (λ y. reply_in (asks.Call y)) asking)

  module _ (keys : IsLawfulKeys eq (hash s.store.hasher)) (fits : h < 2 ^ 64) (none : MatchesNone s.store matches)
      (store : StoreState K V S) (m : Machine) (f : F) (answer : Answer) (store' : StoreState K V S) (f' : F)
      (seeking : IsSeeking eq hash s h store m) (going : reply_in (ask_of m) ≡ None)
      (answered : IsAnswered eq hash g matches (ask_of m) store f answer store' f') where
    -- still no pair of the arena matches
    none_now : MatchesNone store matches
    none_now n p is = none n p (sym (ap (λ (y : StoreState K V S). pair_of y n) seeking.logs) ∙ is)

    turn : IsTurn eq hash store (ask_of m) answer store' × (f' ≡ f)
    turn = turned eq hash g matches store m none_now seeking.seeks going f answer store' f' answered

    -- an answer is within limits, leaves the call in order and the closure as it was, and brings it
    -- nearer its end
    pub seek_fit : IsFit answer
    seek_fit = steps.seek_fit eq hash s h keys fits store m answer store' seeking going turn.0

    pub seek_more : IsSeeking eq hash s h store' (after m answer) × (f' ≡ f)
    seek_more = (steps.seek_turn eq hash s h keys fits store m answer store' seeking going turn.0, turn.1)

    -- a refusal has a cause
    pub seek_caused : (refused : Refused) → reply_in (ask_of (after m answer)) ≡ Some (Reply_refused refused) → IsCause m answer refused
    seek_caused refused e = turn_caused eq hash s h keys fits store m answer store' seeking going turn.0 refused e

    pub seek_nears : left_of store' (after m answer) < left_of store m
    seek_nears = turn_nears eq hash s h keys fits store m answer store' seeking going turn.0

-- its words keep to the law, as a core's that nobody calls
pub seek_core : {K V S : Type 0} (eq : K → K → Bool) (hash : S → K → ℕ) (s : MapState K V S) (h : ℕ) (store : StoreState K V S) (m : Machine)
    → IsSeeking eq hash s h store m → IsLawfulCore {A = Unit {0}} eq (hash store.hasher) store [] s.mode
seek_core {K = K} {V = V} {S = S} eq hash s h store m seeking =
    subst (λ y. IsLawfulCore {A = Unit {0}} eq (hash y) store [] s.mode) (sym (ap (λ (y : StoreState K V S). y.hasher) seeking.logs))
    (record { core = seeking.core; law = (seeking.call_trace.begun ++ seeking.call_trace.since, ((λ d. seeking.call_trace), seeking.kept)) })

-- and those of a map that is in order: it has as many pairs as before
pub seek_lawful : {K V S : Type 0} (eq : K → K → Bool) (hash : S → K → ℕ) (s : MapState K V S) (h : ℕ) (keys : IsLawfulKeys eq (hash s.store.hasher))
    (fits : h < 2 ^ 64) (lawful : IsLawfulMap eq (hash s.store.hasher) s.store s.mode s.initial) (store : StoreState K V S) (m : Machine)
    → IsSeeking eq hash s h store m → IsLawfulMap eq (hash store.hasher) store s.mode s.initial
seek_lawful {K = K} {V = V} {S = S} eq hash s h keys fits lawful store m seeking =
    let (es, (call_traces, kept)) = lawful.lawful.law in
    let first = own_hashed eq hash s h keys fits s.store lawful.lawful.core in
    let later = own_hashed eq hash s h keys fits store seeking.core in
    let same : length (content eq store) ≡ length (content eq s.store) =
    one_length (own_setting eq hash s h store.words.tables) later.lawful (content eq store) (content eq s.store)
    (content_apart eq (hash s.store.hasher) s.mode store later [] (seeking.call_trace.begun ++ seeking.call_trace.since) (λ d. seeking.call_trace) seeking.kept)
    (content_apart eq (hash s.store.hasher) s.mode s.store first [] es call_traces kept) seeking.same in
    record {
      lawful = seek_core eq hash s h store m seeking;
      counted = ap (λ (y : StoreState K V S). int_wrap w64 (y.count.sum +ℤ pos 0)) seeking.logs ∙ lawful.counted ∙ ap pos (sym same);
      power = lawful.power;
      most = lawful.most;
      long = long_left s store m seeking.long;
      numbered = λ most limit.
          subst (λ n. n ≤ store.words.made) (sym (ap (λ (y : StoreState K V S). length y.pairs) seeking.logs))
          (subst (λ n. length s.store.pairs ≤ n) (sym seeking.taken) (lawful.numbered most limit));
    }
