-- An insertion on the fast path is a run of its machine.
use Rattle.std.proofs.Common.{◌≡◌, ℕ, ◌^◌, ◌<◌, Bool, true, false, List, [], ◌∷◌, Option, None, Some, refl, sym, ◌∙◌, ap, subst}
use Rattle.std.specs.Cmp.{IsEquivalence}
use Rattle.papaya_words.specs.declared.refused.Refused.{Refused}
use Rattle.papaya_call.specs.declared.ask.Ask.TheVariants.{Done as Ask_done}
use Rattle.papaya_call.specs.declared.call.Reply as replies
use Rattle.papaya_call.specs.declared.call.Reply.TheVariants.{Occupied, Refused as Reply_refused}
use Rattle.papaya_call.specs.declared.call.Task.TheVariants.{Insert}
use Rattle.papaya_call.specs.declared.machine.State.{State}
use Rattle.papaya_call.specs.Machine.{started}
use Rattle.papaya_call.specs.declared.chain.ask.Answer.{Answer}
use Rattle.papaya_call.specs.declared.chain.ask.Ask.{Ask}
use Rattle.papaya_call.specs.declared.chain.ask.Ask.TheVariants as asks
use Rattle.papaya_call.specs.declared.chain.machine.Machine.{Machine}
use Rattle.papaya_call.specs.ChainMachine as chain
use Rattle.papaya_call.specs.ChainMachine.{IsValid, after, ask_of}
use Rattle.papaya_call_law.proofs.ChainStanding.{chain_stands}
use Rattle.papaya_words_keys.specs.Hashes.{hash_of}
use Rattle.papaya_core_store.specs.declared.pairs.Part.TheVariants.{Own}
use Rattle.papaya_core_store.specs.declared.pairs.Running.{Running}
use Rattle.papaya_core_store.specs.Store.{StoreState}
use Rattle.papaya_core_timeline.specs.Content.{map_in}
use Rattle.papaya_core_timeline.specs.Solo.{IsAnswered, IsNewIn, whatever}
use Rattle.papaya_core_timeline.proofs.KeptSettings.{IsLawfulKeys}
use Rattle.papaya_seq.specs.Drives.{Drives, IsLedTo, IsOfStore, IsReplied, at_hand, value_left}
use Rattle.papaya_seq.specs.MadeAlone.{IsMadeAlone}
use Rattle.papaya_seq.specs.Map.{IsLawfulMap, IsTryCause, IsWriteCauseAt, KeepsAndGrows, PushesOne, MapState, insertion}
use Rattle.papaya_seq.proofs.FastPath.{call_answers, comes_drives, under_way_by}
use Rattle.papaya_seq.proofs.Alone.{map_answered, map_hasher, map_lawful, map_logged}
use Rattle.papaya_seq.proofs.InsertingRun.{inserting_absent, inserting_alone, inserting_begin}
use Rattle.papaya_seq.proofs.InsertingRun.{inserting_cause, inserting_fit, inserting_left}
use Rattle.papaya_seq.proofs.InsertingRun.{inserting_more, inserting_tables, IsInserting}
use Rattle.papaya_seq.proofs.Turns.{IsOver}

-- an ask that the store answers is no reply
still_asks : (ask : Ask) → IsOfStore ask → (reply : replies.Reply) → ask ≡ asks.Call (Ask_done reply) → ⊥
still_asks ask asked reply e = subst IsOfStore e asked

-- The map after an insertion, with its reply and the value that is left.
pub record InsertionDone {K V S : Type 0} (eq : K → K → Bool) (hash : S → K → ℕ) (s : MapState K V S) (replace : Bool) (k : K) (value : V)
    (reply : replies.Reply) (left : Option V) (s' : MapState K V S) : Type 0 where
  pub answers : IsAnswered {A = Unit {0}} eq (insertion replace k value) (map_in eq s.store) reply (map_in eq s'.store)
  pub fresh : IsNewIn s.store reply
  pub cause : (refused : Refused) → reply ≡ Reply_refused refused → IsWriteCauseAt s (map_in eq s.store k) refused s'
  pub absent : replace ≡ false → (refused : Refused) → reply ≡ Reply_refused refused → IsTryCause s (map_in eq s.store k) refused s'
  pub left_is : (n : ℕ) → reply ≡ Occupied n → left ≡ Some value
  pub alone : IsMadeAlone eq hash s (insertion replace k value) reply s'
  pub keeps : KeepsAndGrows s s'
  pub logs : PushesOne s.store s'.store
  pub orderly : IsLawfulMap eq (hash s'.store.hasher) s'.store s'.mode s'.initial

module _ {K V S : Type 0} (eq : K → K → Bool) (hash : S → K → ℕ) (s : MapState K V S) (replace : Bool) (k : K) (value : V)
    (keys : IsLawfulKeys eq (hash s.store.hasher)) (lawful : IsLawfulMap eq (hash s.store.hasher) s.store s.mode s.initial)
    (fits : hash s.store.hasher k < 2 ^ 64) where
  -- it continues after each answer
  inserting_drives : (told : List Answer) (store : StoreState K V S) (r : Running K V (Unit {0})) (store' : StoreState K V S)
      (r' : Running K V (Unit {0})) → Drives eq hash told store r store' r' → IsInserting eq hash s replace k value store r
      → IsInserting eq hash s replace k value store' r'
  inserting_drives [] store r store' r' (same, also) now = subst (λ x. IsInserting eq hash s replace k value x r') (sym same)
      (subst (IsInserting eq hash s replace k value store) (sym also) now)
  inserting_drives (answer ∷ rest) store r store' r' (middle, later, step, more) now =
      let open_still = still_asks (ask_of r.machine) step.asked in
      let fit = inserting_fit eq hash s replace k value keys lawful fits whatever store r answer middle later (ask_of r.machine) refl open_still
      step.performs step.same now step.fit in
      inserting_drives rest middle (record later { machine = after r.machine answer }) store' r' more
      (inserting_more eq hash s replace k value keys lawful fits whatever store r answer middle later (ask_of r.machine) refl open_still step.performs
      step.same now (chain_stands r.machine now.valid answer fit))

  -- for any answers of its closures
  inserting_as : {A : Type 0} (store : StoreState K V S) (m : Machine)
      → IsInserting {A = Unit {0}} eq hash s replace k value store (record { machine = m; key = Own k; value = Some (Own value); answers = None })
      → IsInserting {A = A} eq hash s replace k value store (record { machine = m; key = Own k; value = Some (Own value); answers = None })
  inserting_as store m now = record {
    steps = now.steps;
    silence = refl;
    valid = now.valid;
    hand = now.hand;
    relying = now.relying;
    unlogged = now.unlogged;
    served = now.served;
    logs = now.logs;
    caused = now.caused;
  }

  -- it begins in the state after the search of the root
  pub inserting_led : {A : Type 0} (m : Machine) (hashed number : ℕ) (state : State)
      → m ≡ chain.started (Insert replace) hashed s.mode.resize s.initial number s.mode.limit → hashed ≡ hash s.store.hasher k → IsValid m
      → IsLedTo (eq k) s.store (hash s.store.hasher k) replace state
      → IsInserting {A = A} eq hash s replace k value s.store
      (record { machine = record m { call = record m.call { state = state } }; key = Own k; value = Some (Own value); answers = None })
  inserting_led {A} m hashed number state is hash_same valid led =
      let begun = started (Insert replace) (hash s.store.hasher k) s.mode.resize s.initial s.mode.limit in
      let machine : m ≡ chain.started (Insert replace) (hash s.store.hasher k) s.mode.resize s.initial number s.mode.limit = is
      ∙ ap (λ n. chain.started (Insert replace) n s.mode.resize s.initial number s.mode.limit) hash_same in
      let first = inserting_begin {A = Unit {0}} eq hash s replace k value
      (chain.started (Insert replace) (hash s.store.hasher k) s.mode.resize s.initial number s.mode.limit) (hash s.store.hasher k) number refl refl
      (subst IsValid machine valid) in
      let came = led s.mode.resize s.initial s.mode.limit in
      let drives = comes_drives eq hash s.store k (Some value) number came.0 begun (record begun { state = state }) came.1 in
      let now = inserting_drives (call_answers came.0) s.store (under_way_by number begun (Own k) (Some (Own value))) s.store
      (under_way_by number (record begun { state = state }) (Own k) (Some (Own value))) drives first in
      subst (λ (x : Machine). IsInserting {A = A} eq hash s replace k value s.store
      (record { machine = record x { call = record x.call { state = state } }; key = Own k; value = Some (Own value); answers = None }))
      (sym machine) (inserting_as s.store (under_way_by number (record begun { state = state }) (Own k) (Some (Own value))).machine now)

module _ {K V S H : Type 0} (eq : K → K → Bool) (input : K → List (List ℕ)) (build : S → H) (write : H → List ℕ → H) (finish : H → ℕ)
    (classes : IsEquivalence eq) (respects : (x y : K) → eq x y ≡ true → input x ≡ input y)
    (s : MapState K V S) (replace : Bool) (k : K) (value : V) (keys : IsLawfulKeys eq (hash_of input build write finish s.store.hasher))
    (lawful : IsLawfulMap eq (hash_of input build write finish s.store.hasher) s.store s.mode s.initial)
    (fits : hash_of input build write finish s.store.hasher k < 2 ^ 64) where
  abbrev hash : S → K → ℕ
  hash = hash_of input build write finish

  -- an insertion that has replied at once leaves what its machine does
  pub insertion_done : (reply : replies.Reply) (left : Option V) (store : StoreState K V S)
      → IsValid (at_hand {A = Unit {0}} (started (Insert replace) (hash s.store.hasher k) s.mode.resize s.initial s.mode.limit) k
      (Some value)).machine → IsReplied eq hash s.store
      (at_hand (started (Insert replace) (hash s.store.hasher k) s.mode.resize s.initial s.mode.limit) k (Some value)) reply left store
      → InsertionDone eq hash s replace k value reply left (record s { store = store })
  insertion_done reply left store valid done =
      let begun = at_hand {A = Unit {0}} (started (Insert replace) (hash s.store.hasher k) s.mode.resize s.initial s.mode.limit) k (Some value) in
      let first : IsInserting eq hash s replace k value s.store begun = inserting_begin eq hash s replace k value begun.machine
      (hash s.store.hasher k) 0 refl refl valid in
      let ended = inserting_drives eq hash s replace k value keys lawful fits done.answers s.store begun store done.end done.drives first in
      let over : IsOver eq hash s (insertion replace k value) store reply = inserting_alone eq hash s replace k value keys lawful fits store done.end
      reply done.replied ended in
      record {
        answers = map_answered eq input build write finish classes respects s (insertion replace k value) reply store lawful over;
        fresh = (map_logged eq input build write finish classes respects s (insertion replace k value) reply store lawful over).0;
        cause = inserting_cause eq hash s replace k value keys lawful fits store done.end reply done.replied ended;
        absent = inserting_absent eq hash s replace k value keys lawful fits store done.end reply done.replied ended;
        left_is = λ n e. sym done.value ∙ ap value_left (inserting_left eq hash s replace k value keys lawful fits store done.end reply done.replied ended n e);
        alone = record { runs = over.ran };
        keeps = (
          record {
            hasher = map_hasher eq input build write finish classes respects s (insertion replace k value) reply store lawful over;
            mode = refl;
            initial = refl;
            pairs = (map_logged eq input build write finish classes respects s (insertion replace k value) reply store lawful over).1;
          },
          inserting_tables eq hash s replace k value keys lawful fits store done.end reply done.replied ended,
        );
        logs = ended.logs;
        orderly = map_lawful eq input build write finish classes respects s (insertion replace k value) reply store lawful over;
      }
