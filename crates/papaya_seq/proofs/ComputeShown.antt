-- The closure of a compute is called with the pair that the map holds: the same call could also
-- continue with a removal, whose reply would name that pair.
use Rattle.std.proofs.Common.{◌≡◌, ℕ, ◌^◌, ◌<◌, negsuc, Bool, true, Option, None, Some, List, inr, refl, ◌∙◌, ap, subst}
use Rattle.std.specs.Cmp.{IsEquivalence}
use Rattle.papaya_words.specs.Counter.{added}
use Rattle.papaya_words.specs.Word.{pair_of as number_of}
use Rattle.papaya_words.specs.declared.refused.Refused.TheVariants.{RemoveNothing}
use Rattle.papaya_call.specs.declared.answers.Operation.TheVariants as ops
use Rattle.papaya_call.specs.declared.ask.Answer.TheVariants.{Exchanged, Op, Ok as Ok_done}
use Rattle.papaya_call.specs.declared.ask.Ask.TheVariants.{ShowNone, ShowPair}
use Rattle.papaya_call.specs.declared.ask.At.{At}
use Rattle.papaya_call.specs.declared.ask.At.TheVariants.{Slot}
use Rattle.papaya_call.specs.declared.ask.OpKind.TheVariants as kinds
use Rattle.papaya_call.specs.declared.call.Call.{Call}
use Rattle.papaya_call.specs.declared.call.Call.TheVariants.{Compute as Compute_call}
use Rattle.papaya_call.specs.declared.call.Reply.{Reply}
use Rattle.papaya_call.specs.declared.call.Reply.TheVariants.{Removed, Refused as Reply_refused}
use Rattle.papaya_call.specs.declared.call.Task.TheVariants.{Compute}
use Rattle.papaya_call.specs.declared.compute.Gap.{Gap}
use Rattle.papaya_call.specs.declared.machine.Machine.{Machine}
use Rattle.papaya_call.specs.declared.machine.State.{State}
use Rattle.papaya_call.specs.declared.machine.State.TheVariants.{Searching, Writing, Offering, Showing, Pairing}
use Rattle.papaya_call.specs.declared.remove.Removal.{Removal}
use Rattle.papaya_call.specs.declared.search.Search.TheVariants.{Sizing, Looking, Reading, Comparing}
use Rattle.papaya_call.specs.declared.made.Made.{Made}
use Rattle.papaya_call.specs.Compute.{in_place_of}
use Rattle.papaya_call.specs.Machine.{asks}
use Rattle.papaya_call.specs.Remove.{grave_word}
use Rattle.papaya_call.specs.declared.chain.ask.Ask.TheVariants as asked
use Rattle.papaya_call.specs.declared.chain.ask.Answer.TheVariants as answers
use Rattle.papaya_call.specs.declared.chain.machine.Machine.{Machine as Chain_machine}
use Rattle.papaya_call.specs.declared.chain.machine.Phase.TheVariants.{Calling}
use Rattle.papaya_call.specs.ChainMachine.{ask_of}
use Rattle.papaya_call_law.proofs.Names.{call_asks}
use Rattle.papaya_call_law.proofs.Makings.{HoldsOfPairAsks, pair_holds, write_holds}
use Rattle.papaya_core_timeline.proofs.KeptCore.{keys_lawful}
use Rattle.papaya_core_timeline.proofs.KeptSettings.{IsLawfulKeys, tables_hashed}
use Rattle.papaya_core_timeline.proofs.MachineLemmas.{machine_shows}
use Rattle.papaya_core_timeline.specs.Advances.{reply_in}
use Rattle.papaya_core_timeline.specs.Content.{map_in}
use Rattle.papaya_core_timeline.specs.Kept.{coding_of, low, setting_of}
use Rattle.papaya_core_timeline.specs.Maps.{Does, Map}
use Rattle.papaya_core_timeline.specs.Solo.{IsAnswered}
use Rattle.papaya_core_store.specs.Store.{StoreState, Stored, pair_of}
use Rattle.papaya_words_keys.specs.Hashes.{hash_of}
use Rattle.papaya_core_store.specs.Tables.{put, word_at}
use Rattle.papaya_core_store.specs.declared.pairs.Part.{Part}
use Rattle.papaya_core_store.specs.declared.pairs.Running.{Running}
use Rattle.papaya_seq.specs.Map.{IsLawfulMap, MapState}
use Rattle.papaya_seq.proofs.Alone.{map_answered}
use Rattle.papaya_seq.proofs.Answered.{logged_there}
use Rattle.papaya_seq.proofs.Answering.{answering}
use Rattle.papaya_seq.proofs.Exchanging.{exchange_made}
use Rattle.papaya_seq.proofs.KeyCalls.{keyed_compute}
use Rattle.papaya_seq.proofs.Steps.{HasCome, came_more, made_alone, made_unchanged, stepped}

-- the compute of a key, for any result of a closure
abbrev pub compute_of : {K V : Type 0} → K → Call K V (Unit {0})
compute_of k = Compute_call k tt

-- a call under way, for any result of its closure
abbrev pub asking : {K V A : Type 0} → Running K V A → Running K V (Unit {0})
asking r = answering (Some tt) r

-- a call that makes a pair calls no closure
pair_offers : HoldsOfPairAsks (λ ask. ask ≡ ShowNone → ⊥)
pair_offers = record { loads = λ e. cc e; takes = λ count e. cc e; key = λ e. cc e; value = λ e. cc e; pair = λ e. cc e; pair_of = λ i e. cc e }

pair_shows : (n : ℕ) → HoldsOfPairAsks (λ ask. ask ≡ ShowPair n → ⊥)
pair_shows n = record { loads = λ e. cc e; takes = λ count e. cc e; key = λ e. cc e; value = λ e. cc e; pair = λ e. cc e; pair_of = λ i e. cc e }

-- a machine calls its closure with `None` only if it would fill a gap
pub offering : (made : Made) (h : ℕ) (state : State) → asks made h state ≡ ShowNone → (gap : Gap) × (state ≡ Offering gap)
offering made h (Searching (Sizing t)) e = absurd cc
offering made h (Searching (Looking at)) e = absurd cc
offering made h (Searching (Reading at)) e = absurd cc
offering made h (Searching (Comparing at word)) e = absurd cc
offering made h (Writing write) e = absurd (write_holds (λ ask. ask ≡ ShowNone → ⊥) pair_offers write (λ n f. cc f) made e)
offering made h (Offering gap) e = (gap, refl)
offering made h (Pairing purpose) e = absurd (pair_holds (λ ask. ask ≡ ShowNone → ⊥) pair_offers made (in_place_of purpose) e)
offering made h state e = absurd cc

-- and with a pair only if it found that pair
pub showing : (made : Made) (h n : ℕ) (state : State) → asks made h state ≡ ShowPair n → (removal : Removal) × (state ≡ Showing removal)
    × (number_of removal.word ≡ n)
showing made h n (Searching (Sizing t)) e = absurd cc
showing made h n (Searching (Looking at)) e = absurd cc
showing made h n (Searching (Reading at)) e = absurd cc
showing made h n (Searching (Comparing at word)) e = absurd cc
showing made h n (Writing write) e = absurd (write_holds (λ ask. ask ≡ ShowPair n → ⊥) (pair_shows n) write (λ i f. cc f) made e)
showing made h n (Showing removal) e = (removal, refl, cc)
showing made h n (Pairing purpose) e = absurd (pair_holds (λ ask. ask ≡ ShowPair n → ⊥) (pair_shows n) made (in_place_of purpose) e)
showing made h n state e = absurd cc

module _ {K V S H : Type 0} (eq : K → K → Bool) (input : K → List (List ℕ)) (build : S → H) (write : H → List ℕ → H) (finish : H → ℕ)
    (classes : IsEquivalence eq) (respects : (x y : K) → eq x y ≡ true → input x ≡ input y)
    (s : MapState K V S) (lawful : IsLawfulMap eq (hash_of input build write finish s.store.hasher) s.store s.mode s.initial) (k : K)
    (fits : hash_of input build write finish s.store.hasher k < 2 ^ 64) where
  -- the call came there
  abbrev Came : StoreState K V S → Running K V (Unit {0}) → Type 0
  Came store r = HasCome eq (hash_of input build write finish) s (keyed_compute k) store r

  -- keys hash alike
  keys : IsLawfulKeys eq (hash_of input build write finish s.store.hasher)
  keys = keys_lawful eq input build write finish classes respects s.store.hasher

  -- its effect is the one of its reply
  pub came_answered : (store : StoreState K V S) (r : Running K V (Unit {0})) (reply : Reply) → reply_in (ask_of r.machine) ≡ Some reply
      → Came store r → IsAnswered eq (compute_of k) (map_in eq s.store) reply (map_in eq store)
  came_answered store r reply told came =
      map_answered eq input build write finish classes respects s (compute_of k) reply store lawful
      (made_alone eq (hash_of input build write finish) s (keyed_compute k) keys lawful fits store r reply told (λ _ _ _. came))

  -- a removal that is refused for an absent entry called its closure with `None`
  none_there : (o : Option (Stored K V)) → Does (compute_of k) o (Reply_refused RemoveNothing) o → o ≡ None
  none_there None does = refl
  none_there (Some p) does = absurd does

  -- and if a pair is removed, it is there
  pair_went : (n : ℕ) (went came : Option (Stored K V)) → Does (compute_of k) went (Removed n) came → (p : Stored K V) × (went ≡ Some p) × (p.number ≡ n)
  pair_went n None came does = absurd does
  pair_went n (Some p) came does = (p, refl, does.0)

  pair_there : (n : ℕ) (left : Map K V) → IsAnswered eq (compute_of k) (map_in eq s.store) (Removed n) left → (p : Stored K V)
      × (map_in eq s.store k ≡ Some p) × (p.number ≡ n)
  pair_there n left done = let (q, went, number) = pair_went n done.went done.came done.does in (q, done.update.before ∙ went, number)

  module _ (store : StoreState K V S) (call : Machine) (number : ℕ) (helped : Bool) (key : Part K) (left : Option (Part V)) where
    -- the call in a state
    abbrev at_state : State → Running K V (Unit {0})
    at_state state = record {
      machine = record {
        call = record call { task = Compute; state = state };
        number = number;
        helped = helped;
        phase = Calling;
      };
      key = key;
      value = left;
      answers = Some tt;
    }

    none_shown : (gap : Gap) → Came store (at_state (Offering gap)) → map_in eq s.store k ≡ None
    none_shown gap came =
        let r : Running K V (Unit {0}) = at_state (Offering gap) in
        let refused = came_more eq (hash_of input build write finish) s (keyed_compute k) store r (answers.Call (Op kinds.Remove)) store r refl
        (Op kinds.Remove, refl, inr (tt, ops.Remove, tt, refl, tt, refl, refl, refl)) refl keys came in
        none_there (map_in eq s.store k) ((came_answered store (stepped r r.machine (answers.Call (Op kinds.Remove))) (Reply_refused RemoveNothing)
        refl refused).1 refl)

    -- the pair with which the closure is called is in the arena
    shown_logged : (removal : Removal) → Came store (at_state (Showing removal)) → (p : Stored K V) × (pair_of store (number_of removal.word) ≡ Some p)
    shown_logged removal came =
        let lone = came.lone refl in
        let (es, (call_traces, kept)) = lone.lawful.law in
        let call_kept = kept.calls 0 (at_state (Showing removal)) refl in
        let g = setting_of eq (low (hash_of input build write finish store.hasher)) s.mode store.words.tables in
        let c = coding_of (low (hash_of input build write finish store.hasher)) in
        let hashed = tables_hashed {V = V} eq (hash_of input build write finish store.hasher)
        (keys_lawful eq input build write finish classes respects store.hasher) s.mode store.words.tables lone.lawful.core.sizes in
        let (p, last, number, alike, moment) = machine_shows g c (call_traces 0).begun (call_traces 0).since call_kept.key hashed
        (at_state (Showing removal)).machine.call (call_traces 0).loaded.call call_kept.relies.call (number_of removal.word) refl in
        (p, subst (λ i. pair_of store i ≡ Some p) number (call_kept.last p last))

    pair_shown : (removal : Removal) → Came store (at_state (Showing removal)) → (q : Stored K V) × (map_in eq s.store k ≡ Some q)
        × (q.number ≡ number_of removal.word) × (pair_of store (number_of removal.word) ≡ Some q)
    pair_shown removal came =
        let n : ℕ = number_of removal.word in
        let place : At = Slot removal.place.table removal.place.probe.i in
        let (p, logged) = shown_logged removal came in
        let r : Running K V (Unit {0}) = at_state (Showing removal) in
        let read : word_at store.words place ≡ removal.word = (came.lone refl).current.read.0 in
        let chosen = came_more eq (hash_of input build write finish) s (keyed_compute k) store r (answers.Call (Op kinds.Remove)) store r refl
        (Op kinds.Remove, refl, inr (p, logged, (tt, ops.Remove, tt, refl, tt, refl, refl, refl))) refl keys came in
        let r1 : Running K V (Unit {0}) = stepped r r.machine (answers.Call (Op kinds.Remove)) in
        let store1 : StoreState K V S = record store { words = put store.words place (grave_word removal.word) } in
        let buried = came_more eq (hash_of input build write finish) s (keyed_compute k) store r1 (answers.Call Exchanged) store1 r1 refl
        (Exchanged, refl, (exchange_made store place removal.word (grave_word removal.word) read, refl)) refl keys chosen in
        let r2 : Running K V (Unit {0}) = stepped r1 r1.machine (answers.Call Exchanged) in
        let store2 : StoreState K V S = record store1 { count = added store1.count 0 (negsuc 0) } in
        let counted = came_more eq (hash_of input build write finish) s (keyed_compute k) store1 r2 (answers.Call Ok_done) store2 r2 refl
        (Ok_done, refl, (refl, (0, refl), refl)) refl keys buried in
        let (q, here, number) = pair_there n (map_in eq store2)
        (came_answered store2 (stepped r2 r2.machine (answers.Call Ok_done)) (Removed n) refl counted) in
        let keeps = (made_unchanged eq (hash_of input build write finish) s (keyed_compute k) keys lawful fits store r refl refl came).1 in
        (q, here, number, keeps n q (logged_there eq classes s.store k n q here number))

  module _ {A : Type 0} (store : StoreState K V S) (r : Running K V A) (came : Came store (asking r)) where
    -- the same for a call that is known to be in this state
    fast_path : (state : State) → r.machine.phase ≡ Calling → r.machine.call.state ≡ state
        → Came store (at_state store r.machine.call r.machine.number r.machine.helped r.key r.value state)
    fast_path state phase is =
        subst (λ (m : Chain_machine). Came store (record { machine = m; key = r.key; value = r.value; answers = Some tt }))
        (ap (λ (p : _). record r.machine { phase = p }) phase
        ∙ ap (λ (t : _). record { call = record r.machine.call { task = t }; number = r.machine.number; helped = r.machine.helped; phase = Calling }) came.task
        ∙ ap (λ (x : State). record {
          call = record r.machine.call { task = Compute; state = x };
          number = r.machine.number;
          helped = r.machine.helped;
          phase = Calling;
        }) is)
        came

    -- its closure is called with `None` if the map has none
    pub shows_none : ask_of r.machine ≡ asked.Call ShowNone → map_in eq s.store k ≡ None
    shows_none e =
        let own = call_asks r.machine ShowNone e in
        let (gap, is) = offering r.machine.call.made r.machine.call.hash r.machine.call.state own.1 in
        none_shown store r.machine.call r.machine.number r.machine.helped r.key r.value gap (fast_path (Offering gap) own.0 is)

    -- or with the pair that the map has
    pub shows_pair : (n : ℕ) → ask_of r.machine ≡ asked.Call (ShowPair n) → (q : Stored K V) × (map_in eq s.store k ≡ Some q) × (q.number ≡ n)
        × (pair_of store n ≡ Some q)
    shows_pair n e =
        let own = call_asks r.machine (ShowPair n) e in
        let (removal, is, number) = showing r.machine.call.made r.machine.call.hash n r.machine.call.state own.1 in
        subst (λ i. (q : Stored K V) × (map_in eq s.store k ≡ Some q) × (q.number ≡ i) × (pair_of store i ≡ Some q)) number
        (pair_shown store r.machine.call r.machine.number r.machine.helped r.key r.value removal (fast_path (Showing removal) own.0 is))
