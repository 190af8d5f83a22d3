-- One answer to a removal that meets no pair: its effect on the words, the arena and the map.
use Rattle.std.proofs.Common.{◌≡◌, ◌⊎◌, inl, inr, ℕ, ◌%◌, ◌^◌, ◌<◌, ◌≤◌, ◌==◌, Bool, false, Option}
use Rattle.std.proofs.Common.{None, Some, List, [], ◌∷◌, ◌++◌, append_assoc, append-nil, refl, sym}
use Rattle.std.proofs.Common.{◌∙◌, ap, subst}
use denote.Ref.{Bor}
use Rattle.std.specs.Fn.{Mut}
use Rattle.papaya_call.specs.declared.ask.At.{At}
use Rattle.papaya_call.specs.declared.ask.At.TheVariants.{Root, Next, Aborted, Done, Slot, Made as Made_word}
use Rattle.papaya_call.specs.declared.ask.Ask.{Ask as Call_ask}
use Rattle.papaya_call.specs.declared.ask.Ask.TheVariants.{Load, Exchange as Ask_exchange, LoadHint, SameKey, SizeOf, MakeTable}
use Rattle.papaya_call.specs.declared.ask.Answer.{Answer as Call_answer}
use Rattle.papaya_call.specs.declared.ask.Answer.TheVariants.{Word as Word_read, Yes, Size}
use Rattle.papaya_call.specs.declared.ask.StepKind.{StepKind}
use Rattle.papaya_call.specs.declared.ask.StepKind.TheVariants as kinds
use Rattle.papaya_call.specs.declared.copy_ask.CopyAsk.TheVariants as copies
use Rattle.papaya_call.specs.declared.search.Search.TheVariants.{Sizing, Looking, Reading, Comparing}
use Rattle.papaya_call.specs.declared.machine.State.{State}
use Rattle.papaya_call.specs.declared.machine.State.TheVariants.{AtRoot, Searching, Leaving, Ended}
use Rattle.papaya_call.specs.declared.made.Made.{Made}
use Rattle.papaya_call.specs.Machine as calls
use Rattle.papaya_call.specs.declared.chain.ask.Ask.{Ask}
use Rattle.papaya_call.specs.declared.chain.ask.Ask.TheVariants as asks
use Rattle.papaya_call.specs.declared.chain.ask.Answer.{Answer}
use Rattle.papaya_call.specs.declared.chain.ask.Answer.TheVariants as answers
use Rattle.papaya_call.specs.declared.chain.machine.Machine.{Machine}
use Rattle.papaya_call.specs.ChainMachine.{after, ask_of, follows_of, kind_of_ask}
use Rattle.papaya_call_law.specs.ChainRelies.{Relies}
use Rattle.papaya_call_law.specs.ChainAnswers.{IsTrueOf}
use Rattle.papaya_call_law.proofs.Learns.{all_learns}
use Rattle.papaya_call_law.proofs.Names.{call_asks, copies_there}
use Rattle.papaya_call_law.proofs.Stable.{all_carries as relies_carries}
use Rattle.papaya_words_law.specs.Allows.{AllAllowed}
use Rattle.papaya_words_law.specs.Class.{IsOn}
use Rattle.papaya_words_law.specs.Code.{Coding, IsHashed}
use Rattle.papaya_words_law.specs.Exchange.{Exchange, Setting, State as Words, run, start}
use Rattle.papaya_words_law.specs.Grows.{Agrees, Comes}
use Rattle.papaya_words_law.specs.Meaning.{map_after, map_left, map_of}
use Rattle.papaya_words_law.proofs.Alike.{alike_back, all_alike}
use Rattle.papaya_words_law.proofs.Further.{key_agrees, key_alike}
use Rattle.papaya_words_law.proofs.Grows.{all_carries, map_of_carries}
use Rattle.papaya_words_law.proofs.Logs.{on_comes}
use Rattle.papaya_words_law.proofs.Moments.{allowed_rest, map_of-append, run-append}
use Rattle.papaya_words_law.proofs.OneMap.{start_keeps}
use Rattle.papaya_words_law.specs.Hints.{IsHint}
use Rattle.papaya_words_law.specs.Invariant.{named}
use Rattle.papaya_words_law.specs.Later.{IsLater}
use Rattle.papaya_words_law.proofs.Hints.{hint_agrees, hint_lasts}
use Rattle.papaya_words_law.proofs.Later.{later_run}
use Rattle.papaya_call_law.specs.Copier.{HasWords, IsCopyAsked}
use Rattle.papaya_call_law.specs.Relies.{change_after, change_in}
use Rattle.papaya_call_law.specs.TrueAnswers.{IsTrueOf as IsTrueOfCall, LoadedPairs as Call_loaded, told_of, word_of}
use Rattle.papaya_call_law.proofs.ReliesNames.{IsNamed, ask_named}
use Rattle.papaya_core_store.specs.CopyAsks.{IsCallAnswer, PerformsCopy}
use Rattle.papaya_core_store.specs.Performs.{own_key, size_of}
use Rattle.papaya_core_store.specs.Store.{StoreState, Stored, pair_of}
use Rattle.papaya_core_store.specs.Tables.{hint_at, table_of, word_at}
use Rattle.papaya_core_store.specs.declared.pairs.Part.TheVariants.{Logged}
use Rattle.papaya_core_store.specs.declared.pairs.Running.{Running}
use Rattle.papaya_core_timeline.specs.Advances.{reply_in}
use Rattle.papaya_core_timeline.specs.Content.{map_in}
use Rattle.papaya_core_timeline.specs.Core.{IsCore}
use Rattle.papaya_core_timeline.specs.Kept.{CallTrace, IsConsistent, IsInArena, IsMade, IsMadeFor, places_in, slots_in}
use Rattle.papaya_core_timeline.proofs.KeptAnswer.{IsAnswered as IsLeft, Stands, own_told, quiet, told_last, told_made}
use Rattle.papaya_call.specs.declared.call.Reply.TheVariants.{Refused as Reply_refused}
use Rattle.papaya_words.specs.declared.refused.Refused.{Refused}
use Rattle.papaya_call_law.specs.Goes.{IsCause, link_in}
use Rattle.papaya_call_law.proofs.Order.{in_order}
use Rattle.papaya_call_law.proofs.Refusals.{chain_refused}
use Rattle.papaya_core_timeline.proofs.CoreLemmas.{reply_asked}
use Rattle.papaya_core_timeline.proofs.KeptCopied.{Suits, answered_copy}
use Rattle.papaya_core_timeline.proofs.KeptMap.{kept_map}
use Rattle.papaya_core_timeline.proofs.KeptSettings.{IsLawfulKeys, grown_agrees}
use Rattle.papaya_core_timeline.proofs.KeptWritten.{on_there}
use Rattle.papaya_core_timeline.proofs.LinkWords.{link_words}
use Rattle.papaya_core_timeline.proofs.StepEvents.{copy_told}
use Rattle.papaya_core_timeline.proofs.StoreLemmas.{matched}
use Rattle.papaya_seq.specs.Looks.{matches_in}
use Rattle.papaya_seq.specs.Map.{MapState}
use Rattle.papaya_seq.specs.Removes.{IsRemovalAnswer}
use Rattle.papaya_seq.proofs.Lawful.{MatchesNone}
use Rattle.papaya_seq.proofs.Numbered.{copied_made}
use Rattle.papaya_seq.proofs.Seeking.{IsSeeking, Seeks, own_coding, own_hashed, own_hint}
use Rattle.papaya_seq.proofs.Seeking.{own_setting, sought_coding, sought_hashed, sought_hint}
use Rattle.papaya_seq.proofs.Seeking.{sought_setting, sought_word}

-- an ask of a search
abbrev pub IsLook : Call_ask → Type 0
IsLook (Load at) = Unit {0}
IsLook (LoadHint t x) = Unit {0}
IsLook (SameKey n) = Unit {0}
IsLook (SizeOf t) = Unit {0}
IsLook _ = ⊥

-- a call that seeks asks for nothing else
looks_in : (made : Made) (hash : ℕ) (st : State) → Seeks st → reply_in (asks.Call (calls.asks made hash st)) ≡ None → IsLook (calls.asks made hash st)
looks_in made hash AtRoot seeks going = tt
looks_in made hash (Searching (Sizing t)) seeks going = tt
looks_in made hash (Searching (Looking at)) seeks going = tt
looks_in made hash (Searching (Reading at)) seeks going = tt
looks_in made hash (Searching (Comparing at word)) seeks going = tt
looks_in made hash (Leaving t) seeks going = tt
looks_in made hash (Ended reply) seeks going = let f : Some reply ≡ None = going in absurd cc
looks_in made hash st seeks going = absurd seeks

pub asked_look : (m : Machine) → Seeks m.call.state → reply_in (ask_of m) ≡ None → (ask : Call_ask) → ask_of m ≡ asks.Call ask → IsLook ask
asked_look m seeks going ask e =
    let c = (call_asks m ask e).1 in
    subst IsLook c (looks_in m.call.made m.call.hash m.call.state seeks (ap (λ y. reply_in (asks.Call y)) c ∙ sym (ap reply_in e) ∙ going))

module _ {K V S : Type 0} where
  -- each comparison has `false` as its answer
  abbrev pub Looks : StoreState K V S → Call_ask → Call_answer → Type 0
  Looks store (Load at) told = told ≡ Word_read (word_at store.words at)
  Looks store (LoadHint t x) told = told ≡ Word_read (hint_at store.words t x)
  Looks store (SameKey n) told = told ≡ Yes false
  Looks store (SizeOf t) told = told ≡ size_of (table_of store.words.tables t)
  Looks store _ told = ⊥

  -- one of its asks has this answer
  abbrev pub IsTurn : (K → K → Bool) → (S → K → ℕ) → StoreState K V S → Ask → Answer → StoreState K V S → Type 0
  IsTurn eq hash store (asks.Call ask) answer store' = (told : Call_answer) × (answer ≡ answers.Call told) × Looks store ask told × (store' ≡ store)
  IsTurn eq hash store (asks.Copy ask) answer store' = PerformsCopy eq hash false ask store answer store'

  -- nothing but the words is another
  words_only : (store store' : StoreState K V S) (w : _) → store' ≡ record store { words = w } → store' ≡ record store { words = store'.words }
  words_only store store' w e = e ∙ ap (λ (y : StoreState K V S). record store { words = y.words }) (sym e)

  pub turn_words : (eq : K → K → Bool) (hash : S → K → ℕ) (store : StoreState K V S) (ask : Ask) (answer : Answer) (store' : StoreState K V S)
      → IsTurn eq hash store ask answer store' → store' ≡ record store { words = store'.words }
  turn_words eq hash store (asks.Call ask) answer store' (told, is, looks, same) = words_only store store' store.words same
  turn_words eq hash store (asks.Copy (copies.Load at)) answer store' (is, same) = words_only store store' store.words same
  turn_words eq hash store (asks.Copy (copies.Exchange at old new)) answer store' (told, is, h) =
      matched (store' ≡ record store { words = store'.words }) (word_at store.words at == old) _ _ h
      (λ _ done. words_only store store' _ done.1) (λ _ lost. words_only store store' store.words lost.1)
  turn_words eq hash store (asks.Copy (copies.LoadHint t x)) answer store' (is, same) = words_only store store' store.words same
  turn_words eq hash store (asks.Copy (copies.WriteHint t x hint)) answer store' (is, same) = words_only store store' _ same
  turn_words eq hash store (asks.Copy (copies.SizeOf n)) answer store' (is, same) = words_only store store' store.words same
  turn_words eq hash store (asks.Copy (copies.HashOf n)) answer store' (is, fits, same) = words_only store store' store.words same
  turn_words eq hash store (asks.Copy (copies.SamePair m n)) answer store' (is, same) = words_only store store' store.words same
  turn_words eq hash store (asks.Copy copies.Count) answer store' (is, same) = words_only store store' store.words same
  turn_words eq hash store (asks.Copy (copies.MakeTable slots limit chunks)) answer store' (told, is, makes) = elim makes [
    | inl none ↦ words_only store store' store.words none.1
    | inr made ↦ words_only store store' _ made.2
  ]

module _ {K V S F : Type 0} (eq : K → K → Bool) (hash : S → K → ℕ) (g : Mut F (Bor K × (Bor V × Unit {0})) Bool) (matches : K → Bool) where
  -- an answer to a removal's ask over the chain
  abbrev pub IsAnswered : Ask → StoreState K V S → F → Answer → StoreState K V S → F → Type 0
  IsAnswered (asks.Call ask) s f answer s' f' = IsCallAnswer answer (λ told. IsRemovalAnswer g matches ask s f told s' f')
  IsAnswered (asks.Copy ask) s f answer s' f' = PerformsCopy eq hash false ask s answer s' × (f' ≡ f)

  -- if no pair of the arena matches, each comparison has `false` as its answer
  none_in : (store : StoreState K V S) → MatchesNone store matches → (n : ℕ) (o : Option (Stored K V)) → pair_of store n ≡ o → matches_in matches o ≡ false
  none_in store none n None is = refl
  none_in store none n (Some p) is = none n p is

  looked : (store : StoreState K V S) → MatchesNone store matches → (ask : Call_ask) → IsLook ask
      → (f : F) (told : Call_answer) (store' : StoreState K V S) (f' : F) → IsRemovalAnswer g matches ask store f told store' f' → Looks store ask told
      × (store' ≡ store) × (f' ≡ f)
  looked store none (Load at) look f told store' f' (e, stays, kept) = (e, stays, kept)
  looked store none (LoadHint t x) look f told store' f' (e, stays, kept) = (e, stays, kept)
  looked store none (SameKey n) look f told store' f' (e, stays, kept) = (e ∙ ap Yes (none_in store none n (pair_of store n) refl), stays, kept)
  looked store none (SizeOf t) look f told store' f' (e, stays, kept) = (e, stays, kept)
  looked store none ask look f told store' f' h = absurd look

  -- so the closure is as it was
  pub turned : (store : StoreState K V S) (m : Machine) → MatchesNone store matches → Seeks m.call.state → reply_in (ask_of m) ≡ None
      → (f : F) (answer : Answer) (store' : StoreState K V S) (f' : F) → IsAnswered (ask_of m) store f answer store' f'
      → IsTurn eq hash store (ask_of m) answer store' × (f' ≡ f)
  turned store m none seeks going f answer store' f' h = by_ask (ask_of m) refl h
    where
      by_ask : (ask : Ask) → ask_of m ≡ ask → IsAnswered ask store f answer store' f' → IsTurn eq hash store ask answer store' × (f' ≡ f)
      by_ask (asks.Call ask) e (told, is, answered) = let l = looked store none ask (asked_look m seeks going ask e) f told store' f' answered in
          ((told, is, l.0, l.1), l.2)
      by_ask (asks.Copy ask) e (copied, kept) = (copied, kept)

-- no exchange of a copy changes the map
copy_still : {K P Q : Type 0} (g : Setting K P) (c : Coding Q P) (kind : Option StepKind) (at : At) (new : ℕ) (s : Words P) (kept : Option P)
    (e : Exchange P) → IsCopyAsked c kind at new s kept e → (m : K → Option P) (k : K) → map_after g m e k ≡ m k
copy_still g c (Some kinds.Link) (Next t) new s kept e is m k = ap (λ y. map_after g m y k) is
copy_still g c (Some kinds.Mark) (Slot t x) new s kept e (p, live, is) m k = ap (λ y. map_after g m y k) is
copy_still g c (Some kinds.Close) (Slot t x) new s kept e is m k = ap (λ y. map_after g m y k) is
copy_still g c (Some kinds.Place) (Slot t x) new s kept e (p, own, number, is) m k = ap (λ y. map_after g m y k) is
copy_still g c (Some kinds.Finish) (Slot t x) new s kept e (p, marked, is) m k = ap (λ y. map_after g m y k) is
copy_still g c (Some kinds.Advance) (Done n chunk) new s kept e is m k = ap (λ y. map_after g m y k) is
copy_still g c (Some kinds.Promote) Root new s kept e is m k = ap (λ y. map_after g m y k) is
copy_still g c (Some kinds.Abort) (Aborted n) new s kept e is m k = ap (λ y. map_after g m y k) is
copy_still g c _ _ new s kept e is m k = absurd is

module _ {K V S : Type 0} (eq : K → K → Bool) (hash : S → K → ℕ) (s : MapState K V S) (h : ℕ) (keys : IsLawfulKeys eq (hash s.store.hasher)) (fits : h < 2 ^ 64)
    (store : StoreState K V S) (m : Machine) (answer : Answer) (store' : StoreState K V S) (seeking : IsSeeking eq hash s h store m)
    (going : reply_in (ask_of m) ≡ None) (turn : IsTurn eq hash store (ask_of m) answer store') where
  -- the settings and the coding, before the answer
  abbrev pub g : Setting K (Stored K V)
  g = own_setting eq hash s h store.words.tables

  abbrev pub c : Coding K (Stored K V)
  c = own_coding eq hash s h

  abbrev pub gq : Setting (Option K) (Stored K V)
  gq = sought_setting eq hash s h store.words.tables

  abbrev pub cq : Coding (Option K) (Stored K V)
  cq = sought_coding eq hash s h

  -- and the setting after it
  abbrev pub g' : Setting K (Stored K V)
  g' = own_setting eq hash s h store'.words.tables

  abbrev pub gq' : Setting (Option K) (Stored K V)
  gq' = sought_setting eq hash s h store'.words.tables

  abbrev pub call_trace : CallTrace K V
  call_trace = seeking.call_trace

  abbrev pub es : List (Exchange (Stored K V))
  es = call_trace.begun ++ call_trace.since

  -- the call as one of a core, which has no key there
  abbrev pub r : Running K V (Unit {0})
  r = record { machine = m; key = Logged 0; value = None; answers = None }

  pub hashed : IsHashed gq cq
  hashed = sought_hashed eq hash s h keys fits store seeking.core

  own_law : IsHashed g c
  own_law = own_hashed eq hash s h keys fits store seeking.core

  pub may : AllAllowed gq start es
  may = all_alike g gq (key_alike g (λ k. false) h) es start seeking.kept.allowed

  pub coded : (at : At) → word_of gq cq (run es start) at ≡ word_at store.words at
  coded at = sought_word eq hash s h store.words.tables (run es start) at ∙ seeking.kept.coded at

  hints : (t x : ℕ) → IsHint gq cq (run es start) t x (hint_at store.words t x)
  hints t x = sought_hint eq hash s h store.words.tables ((run es start).slot t x) (hint_at store.words t x) (seeking.kept.hints t x)

  pub no_open : (t : ℕ) → ask_of m ≡ asks.Call (Ask_exchange Root 0 t) → IsMade store t
  no_open t e = absurd (asked_look m seeking.seeks going (Ask_exchange Root 0 t) e)

  suits : Suits eq hash gq cq store
  suits = record {
    sizes = λ t. refl;
    places = λ t. refl;
    chunks = λ t. refl;
    numbers = λ p. refl;
    hashes_of = λ p. ap (λ (y : StoreState K V S). hash y.hasher p.key % 2 ^ 64) (sym seeking.logs);
    sames = λ p q. refl;
  }

  -- the effect of an answer, given the ask
  abbrev Leaves : Ask → Answer → Type 0
  Leaves ask a = IsLeft gq cq store r es call_trace (own_key store r) None ask a store' r

  -- an ask of a search leaves the words
  answered_quietly : (ask : Call_ask) → ask_of m ≡ asks.Call ask → (told : Call_answer) (loaded : Call_loaded (Stored K V)) → store' ≡ store
      → IsTrueOfCall gq cq None (run es start) (kind_of_ask m) call_trace.loaded.call ask told [] loaded
      → IsLook ask → ((p : Stored K V) → loaded.last ≡ Some p → (call_trace.loaded.call.last ≡ Some p) ⊎ Stands (run es start) p)
      → loaded.made ≡ call_trace.loaded.call.made → Leaves (asks.Call ask) (answers.Call told)
  answered_quietly ask e told loaded same tells look stood made =
      quiet gq cq store r es call_trace (own_key store r) hashed None seeking.relies coded seeking.kept.made refl (asks.Call ask) e
      (answers.Call told) store' r (record call_trace.loaded { call = loaded }) store.count same refl
      (own_told gq cq store r es call_trace (own_key store r) hashed None seeking.relies coded seeking.kept.made ask told [] loaded tells)
      (unmoved ask look) stood (λ p l. inl l) made
      (λ t is which. elim which [
        | inl (slots, limit, chunks, f) ↦ (let asked : ask ≡ MakeTable slots limit chunks = cc in subst IsLook asked look)
        | inr (slots, limit, chunks, f) ↦ absurd cc
      ])
    where
      unmoved : (ask : Call_ask) → IsLook ask → change_after (kind_of_ask m) ask told (change_in m.call.state) ≡ change_in m.call.state
      unmoved (Load at) look = refl
      unmoved (LoadHint t x) look = refl
      unmoved (SameKey n) look = refl
      unmoved (SizeOf t) look = refl
      unmoved other look = absurd look

  answered_look : (ask : Call_ask) → ask_of m ≡ asks.Call ask → (told : Call_answer) → Looks store ask told → store' ≡ store
      → Leaves (asks.Call ask) (answers.Call told)
  answered_look (Load at) e told is same =
      answered_quietly (Load at) e told (told_of (run es start) at call_trace.loaded.call) same (is ∙ ap Word_read (sym (coded at)), refl, refl) tt
      (told_last gq cq store r es call_trace (own_key store r) at) (told_made gq cq store r es call_trace (own_key store r) at)
  answered_look (LoadHint t x) e told is same = answered_quietly (LoadHint t x) e told call_trace.loaded.call same
      ((hint_at store.words t x, hints t x, is), (refl, refl)) tt (λ p l. inl l) refl
  answered_look (SameKey n) e told is same = answered_quietly (SameKey n) e told call_trace.loaded.call same ((λ p l number. is), (refl, refl)) tt
      (λ p l. inl l) refl
  answered_look (SizeOf n) e told is same =
      let call = m.call in
      let on : IsOn (run es start).first (run es start).next n = subst (IsNamed gq cq hashed call_trace.begun call_trace.since may None)
      (call_asks m (SizeOf n) e).1 (ask_named gq cq hashed call_trace.begun call_trace.since may None call_trace.loaded.call call.task call.hash
      call.made call.state seeking.relies.call.stage) in
      let words = on_there gq cq store r es call_trace (own_key store r) hashed None refl may seeking.relies coded seeking.kept.made no_open
      seeking.links refl (λ t. refl) (λ t. refl) n on in
      answered_quietly (SizeOf n) e told call_trace.loaded.call same (
        (words.0.limit, sym (ap places_in words.1), is ∙ ap size_of words.1 ∙ ap (λ y. Size y words.0.limit) (sym (ap slots_in words.1))),
        (refl, refl),
      ) tt (λ p l. inl l) refl
  answered_look ask e told is same = absurd is

  -- the effect of the answer
  pub left : Leaves (ask_of m) answer
  left = by_ask (ask_of m) refl turn
    where
      by_ask : (ask : Ask) → ask_of m ≡ ask → IsTurn eq hash store ask answer store' → Leaves ask answer
      by_ask (asks.Call ask) e (told, is, looks, same) = subst (Leaves (asks.Call ask)) (sym is) (answered_look ask e told looks same)
      by_ask (asks.Copy ask) e copied =
          answered_copy eq hash gq cq store r es call_trace (own_key store r) hashed None refl may seeking.relies coded seeking.kept.made hints
          seeking.last seeking.carried no_open seeking.links refl suits false ask e answer store' r copied refl

  -- the exchanges after it
  abbrev pub since' : List (Exchange (Stored K V))
  since' = call_trace.since ++ left.made

  abbrev pub es' : List (Exchange (Stored K V))
  es' = call_trace.begun ++ since'

  assoc : es ++ left.made ≡ es'
  assoc = append_assoc call_trace.begun call_trace.since left.made

  abbrev pub call_trace' : CallTrace K V
  call_trace' = record { begun = call_trace.begun; since = since'; loaded = left.loaded; scan = call_trace.scan }

  -- a table that is about to be linked has its words
  pub has_words : HasWords gq (link_in m.phase)
  has_words = link_words gq store (λ t. refl) (link_in m.phase) seeking.links

  -- they were allowed, and the machine relies on them
  pub learnt : AllAllowed gq start es' × Relies gq cq call_trace.begun since' None (after m answer) left.loaded
  learnt = all_learns gq cq hashed call_trace.begun call_trace.since may None m call_trace.loaded seeking.relies answer (λ _. has_words) left.made
      left.loaded left.told

  all_own : AllAllowed g start es'
  all_own = all_alike gq g (alike_back g gq (key_alike g (λ k. false) h)) es' start learnt.0

  -- the tables that have come are as they were
  abbrev On : ℕ → Type 0
  On = IsOn (run es' start).first (run es' start).next

  agrees : Agrees On g g'
  agrees = grown_agrees eq (hash s.store.hasher) s.mode s.mode store.words.tables store'.words.tables refl left.grown On
      (λ t on. left.there t on.0 (subst (λ l. Comes (run l start) t) (sym assoc) (on_comes (run es' start) t on)))

  pub relies' : Relies gq' cq call_trace.begun since' None (after m answer) left.loaded
  relies' = relies_carries gq gq' cq hashed call_trace.begun since' learnt.0 (key_agrees On g g' agrees (λ k. false) h) None (after m answer)
      left.loaded learnt.1

  pub still_there : (t : ℕ) → IsMade store t → IsMade store' t
  still_there t w = let grown = left.grown t w.0 w.1 in (grown.0, grown.1)

  pub still_made : (t chunks : ℕ) → IsMadeFor store t chunks → IsMadeFor store' t chunks
  still_made t chunks w = let grown = left.grown t w.0 w.1 in (grown.0, grown.1, subst (λ n. chunks ≤ n) (sym grown.4) w.2)

  pub stood_logged : (p : Stored K V) → Stands (run es start) p → IsInArena store' p
  stood_logged p (t, x, names) = left.logged p.number p (seeking.kept.logged t x p names)

  -- a hint stays true
  hint_later : (t x n : ℕ) → IsHint g c (run es start) t x n → IsHint g' c (run es' start) t x n
  hint_later t x n is =
      let split : run es' start ≡ run left.made (run es start) = ap (λ l. run l start) (sym assoc) ∙ run-append es left.made start in
      let allowed : AllAllowed g (run es start) left.made = allowed_rest g es left.made start (subst (AllAllowed g start) (sym assoc) all_own) in
      let later : IsLater g (run es start) (run es' start) = subst (IsLater g (run es start)) (sym split)
      (later_run g own_law.lawful left.made (run es start) allowed) in
      hint_agrees g g' c (λ p. refl) ((run es' start).slot t x) n (hint_lasts g c own_law.coding (run es start) (run es' start) later t x n is)

  hints_later : (t x : ℕ) → IsHint g' c (run es' start) t x (hint_at store'.words t x)
  hints_later t x = elim (left.hints t x) [
    | inl same ↦ hint_later t x (hint_at store'.words t x) (subst (IsHint g c (run es start) t x) (sym same) (seeking.kept.hints t x))
    | inr may ↦ hint_later t x (hint_at store'.words t x) (own_hint eq hash s h store.words.tables ((run es start).slot t x) (hint_at store'.words t x) may)
  ]

  -- the words keep to the law
  pub kept' : IsConsistent {A = Unit {0}} eq (hash s.store.hasher) s.mode store' [] es' (λ d. call_trace')
  kept' = record {
    allowed = all_carries g own_law.lawful g' es' start (λ k. None) (start_keeps g own_law.lawful) all_own agrees;
    coded = λ at. ap (λ l. word_of g c (run l start) at) (sym assoc)
        ∙ sym (sought_word eq hash s h store.words.tables (run (es ++ left.made) start) at) ∙ left.coded at;
    hints = hints_later;
    made = λ t some comes. still_there t (left.there t some (subst (λ l. Comes (run l start) t) (sym assoc) comes));
    logged = λ t x p names. elim (left.slots t x p (subst (λ l. named ((run l start).slot t x) ≡ Some p) (sym assoc) names))
        [ inl stood ↦ stood_logged p stood | inr mine ↦ left.logged p.number p (seeking.made p mine) ];
    few = left.few seeking.kept.few;
    tables_few = left.tables_few seeking.kept.tables_few;
    calls = λ d q e. absurd cc;
    resizers = λ d z e. absurd cc;
    scanners = λ d v e. absurd cc;
    apart = λ d e q q' x. absurd cc;
  }

  -- it takes no number for a pair
  pub turn_taken : store'.words.made ≡ store.words.made
  turn_taken = by_ask (ask_of m) refl turn
    where
      by_ask : (ask : Ask) → ask_of m ≡ ask → IsTurn eq hash store ask answer store' → store'.words.made ≡ store.words.made
      by_ask (asks.Call ask) e (told, is, looks, same) = ap (λ (y : StoreState K V S). y.words.made) same
      by_ask (asks.Copy ask) e copied =
          copied_made store store' eq hash false ask answer
          (λ old new is. copies_there gq cq hashed call_trace.begun call_trace.since may None m call_trace.loaded seeking.relies
          (copies.Exchange Made_word old new) (e ∙ ap asks.Copy is)) copied

  -- a refusal has a cause
  pub turn_caused : (refused : Refused) → reply_in (ask_of (after m answer)) ≡ Some (Reply_refused refused) → IsCause m answer refused
  turn_caused refused e =
      chain_refused gq cq None (run es start) m answer refused call_trace.loaded left.made left.loaded left.told
      (in_order gq cq call_trace.begun call_trace.since None m call_trace.loaded (run es start) answer left.made left.loaded seeking.relies left.told)
      (λ reply done. let f : Some reply ≡ None = sym (ap reply_in done) ∙ going in absurd cc) (reply_asked (ask_of (after m answer)) (Reply_refused refused) e)

  -- no exchange of the answer changes the map
  unmoved_map : (made : List (Exchange (Stored K V))) → left.made ≡ made → (made ≡ [])
      ⊎ ((kind : Option StepKind) × (at : At) × (new : ℕ) × (by : Exchange (Stored K V))
      × IsCopyAsked cq kind at new (run es start) call_trace.loaded.kept by × (made ≡ by ∷ [])) → (k : K) → map_left g es' k ≡ map_left g es k
  unmoved_map made is (inl none) k = ap (λ l. map_left g (call_trace.begun ++ (call_trace.since ++ l)) k) (is ∙ none)
      ∙ ap (λ l. map_left g (call_trace.begun ++ l) k) (append-nil call_trace.since)
  unmoved_map made is (inr (kind, at, new, by, asked, one)) k =
      ap (λ l. map_left g l k) (sym assoc)
      ∙ ap (λ f. f k) (map_of-append g es left.made (λ j. None))
      ∙ ap (λ l. map_of g (map_left g es) l k) (is ∙ one)
      ∙ copy_still g cq kind at new (run es start) call_trace.loaded.kept by asked (map_left g es) k

  no_exchange : (ask : Ask) → ask_of m ≡ ask → IsTurn eq hash store ask answer store' → (left.made ≡ [])
      ⊎ ((kind : Option StepKind) × (at : At) × (new : ℕ) × (by : Exchange (Stored K V))
      × IsCopyAsked cq kind at new (run es start) call_trace.loaded.kept by × (left.made ≡ by ∷ []))
  no_exchange (asks.Call ask) e looks = inl
      (look_made ask (asked_look m seeking.seeks going ask e)
      (subst (λ y. IsTrueOf gq cq None (run es start) (kind_of_ask m) (follows_of m) call_trace.loaded y answer left.made left.loaded) e left.told))
    where
      look_made : (ask : Call_ask) → IsLook ask
          → IsTrueOf gq cq None (run es start) (kind_of_ask m) (follows_of m) call_trace.loaded (asks.Call ask) answer left.made left.loaded → left.made ≡ []
      look_made (Load at) look told = told.tells.1
      look_made (LoadHint t x) look told = told.tells.1.0
      look_made (SameKey n) look told = told.tells.1.0
      look_made (SizeOf n) look told = told.tells.1.0
      look_made other look told = absurd look
  no_exchange (asks.Copy ask) e copied = elim (copy_told gq cq (run es start) (kind_of_ask m) (follows_of m) call_trace.loaded ask answer left.made
      left.loaded (subst (λ y. IsTrueOf gq cq None (run es start) (kind_of_ask m) (follows_of m) call_trace.loaded y answer left.made left.loaded) e left.told)) [
        | inl none ↦ inl none
        | inr one ↦ inr (kind_of_ask m, one.at, one.new, one.by, one.asked, one.made)
      ]

  -- so the map is as it was
  pub map_stays : (core' : IsCore {A = Unit {0}} store' [] s.mode) (k : K) → map_in eq store' k ≡ map_in eq store k
  map_stays core' k =
      kept_map eq (hash s.store.hasher) s.mode store' (own_hashed eq hash s h keys fits store' core') [] es' (λ d. call_trace') kept' k
      ∙ ap (λ f. f k) (map_of_carries g g' On agrees es' (λ y. None))
      ∙ unmoved_map left.made refl (no_exchange (ask_of m) refl turn) k
      ∙ sym (kept_map eq (hash s.store.hasher) s.mode store own_law [] es (λ d. call_trace) seeking.kept k)
