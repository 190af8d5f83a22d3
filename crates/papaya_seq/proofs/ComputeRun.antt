-- A compute of a map for one caller: the facts that hold between two answers.
use Rattle.std.proofs.Common.{◌≡◌, ◌⊎◌, ℕ, ◌<◌, Bool, Option, None, Some, option_map, inl, inr, refl, sym, ◌∙◌, ap, subst}
use denote.Ref.{Bor}
use Rattle.papaya_words.specs.declared.refused.Refused.TheVariants.{RemoveNothing}
use Rattle.papaya_words.specs.declared.resize_mode.ResizeMode.{ResizeMode}
use Rattle.papaya_call.specs.Answers.{op_kind}
use Rattle.papaya_call.specs.declared.answers.Operation.{Operation}
use Rattle.papaya_call.specs.declared.answers.Operation.TheVariants as ops
use Rattle.papaya_call.specs.declared.ask.Ask.TheVariants.{Done as Ask_done}
use Rattle.papaya_call.specs.declared.ask.Answer.{Answer}
use Rattle.papaya_call.specs.declared.ask.Answer.TheVariants.{Op}
use Rattle.papaya_call.specs.declared.call.Reply.{Reply}
use Rattle.papaya_call.specs.declared.call.Reply.TheVariants.{Inserted, Replaced, Removed, Aborted, Refused as Reply_refused}
use Rattle.papaya_call.specs.declared.call.Task.TheVariants.{Compute}
use Rattle.papaya_call.specs.declared.machine.State.TheVariants.{Ended}
use Rattle.papaya_call.specs.declared.chain.ask.Answer.{Answer as Chain_answer}
use Rattle.papaya_call.specs.declared.chain.machine.Machine.{Machine}
use Rattle.papaya_call.specs.declared.chain.machine.Phase.TheVariants.{Calling}
use Rattle.papaya_call.specs.ChainMachine.{IsFit, IsValid, after, ask_of, started}
use Rattle.papaya_call_law.proofs.Names.{call_asks}
use Rattle.papaya_call_law.proofs.ReliesHeld.{ended_in}
use Rattle.papaya_call_law.specs.Says.{HasCalledNone, Inserts, Makes, ClosureResult, ActsOn}
use Rattle.papaya_core_store.specs.declared.pairs.Part.{Part}
use Rattle.papaya_core_store.specs.declared.pairs.Part.TheVariants.{Own}
use Rattle.papaya_core_store.specs.declared.pairs.Running.{Running}
use Rattle.papaya_core_store.specs.Performs.{own_value, value_answered}
use Rattle.papaya_core_store.specs.Store.{StoreState, Stored, pair_of}
use Rattle.papaya_core_timeline.specs.Advances.{reply_in}
use Rattle.papaya_core_timeline.specs.Content.{map_in}
use Rattle.papaya_core_timeline.proofs.CoreLemmas.{reply_asked}
use Rattle.papaya_seq.specs.Computes.{Says}
use Rattle.papaya_seq.specs.Computing.{IsKept}
use Rattle.papaya_seq.specs.Map.{IsResizing, IsWriteCause, IsWriteCauseAt, MapState, next_of}
use Rattle.papaya_seq.proofs.Causes.{IsNotStored, unlogged_none}
use Rattle.papaya_seq.proofs.ComputeShown.{asking}
use Rattle.papaya_seq.proofs.ComputeStages.{IsInRoot, IsRemoving, IsReplacing}
use Rattle.papaya_seq.proofs.Ending.{left_of}
use Rattle.papaya_seq.proofs.KeyCalls.{keyed_compute}
use Rattle.papaya_seq.proofs.Steps.{IsMade, made_none}

-- only a machine that has ended replies
pub ended_by : (m : Machine) (reply : Reply) → reply_in (ask_of m) ≡ Some reply → (m.phase ≡ Calling) × (m.call.state ≡ Ended reply)
ended_by m reply told =
    let own = call_asks m (Ask_done reply) (reply_asked (ask_of m) reply told) in
    (own.0, ended_in m.call.made m.call.hash m.call.state reply own.1)

-- an operation without the value with which it ends a call
abbrev pub as_number : {V T : Type 0} → Operation V T → Operation V ℕ
as_number (ops.Insert v) = ops.Insert v
as_number ops.Remove = ops.Remove
as_number (ops.Abort t) = ops.Abort 0

-- the value with which a call is ended is left
abbrev pub IsLeft : {V T : Type 0} → Operation V T → Option T → Type 0
IsLeft (ops.Insert v) aborted = Unit {0}
IsLeft ops.Remove aborted = Unit {0}
IsLeft (ops.Abort t) aborted = aborted ≡ Some t

-- the part of a result that is kept
pub kept_as : {V T : Type 0} (o : Operation V T) (answer : Answer) (value value' : Option (Part V)) (aborted aborted' : Option T)
    → IsKept o answer value value' aborted aborted' → (answer ≡ Op (op_kind (as_number o))) × (value' ≡ value_answered (as_number o) value) × IsLeft o aborted'
kept_as (ops.Insert v) answer value value' aborted aborted' (e, has, stays) = (e, has, tt)
kept_as ops.Remove answer value value' aborted aborted' (e, has, stays) = (e, has, tt)
kept_as (ops.Abort t) answer value value' aborted aborted' (e, has, left_is) = (e, has, left_is)

module _ {K V S : Type 0} where
  -- the pair of this number has this value
  abbrev pub HasPair : V → StoreState K V S → ℕ → Type 0
  HasPair v store n = (p : Stored K V) × (pair_of store n ≡ Some p) × (p.value ≡ v)

  -- the map with this store
  abbrev pub map_at : MapState K V S → StoreState K V S → MapState K V S
  map_at s store = record { store = store; mode = s.mode; initial = s.initial }

  -- the reply if the closure was not called: the call was refused, for a cause, and pairs are being
  -- moved
  abbrev pub IsFirstEnd : MapState K V S → StoreState K V S → Reply → Type 0
  IsFirstEnd s store (Reply_refused refused) = IsResizing s × IsWriteCause s refused (map_at s store)
  IsFirstEnd s store (Inserted n) = ⊥
  IsFirstEnd s store (Replaced m n) = ⊥
  IsFirstEnd s store (Removed n) = ⊥
  IsFirstEnd s store (Aborted t) = ⊥
  IsFirstEnd s store _ = Unit {0}

  -- and if it was called with this and returned a value: a pair of it was stored, or it was refused
  -- for a cause
  abbrev pub IsInsertEnd : MapState K V S → Option (Stored K V) → V → StoreState K V S → Reply → Type 0
  IsInsertEnd s held v store (Inserted n) = HasPair v store n
  IsInsertEnd s held v store (Replaced m n) = HasPair v store n
  IsInsertEnd s held v store (Reply_refused refused) = IsWriteCauseAt s held refused (map_at s store)
  IsInsertEnd s held v store (Removed n) = ⊥
  IsInsertEnd s held v store (Aborted t) = ⊥
  IsInsertEnd s held v store _ = Unit {0}

module _ {K V : Type 0} where
  -- its closure was called with this
  abbrev pub IsShown : Option (Stored K V) → Option ℕ → Type 0
  IsShown held shown = shown ≡ option_map (λ p. p.number) held

  -- its closure is not called again: it was called with `None`, or the call is at the place of the
  -- pair
  abbrev pub IsOnWay : Option (Stored K V) → Machine → Type 0
  IsOnWay None m = HasCalledNone m.call.remembered.fill m.call.state
  IsOnWay (Some p) m = (m.phase ≡ Calling) × IsReplacing m.call.state

  -- if it would have a pair removed
  abbrev pub IsToRemove : Option (Stored K V) → Machine → Type 0
  IsToRemove None m = reply_in (ask_of m) ≡ Some (Reply_refused RemoveNothing)
  IsToRemove (Some p) m = (m.phase ≡ Calling) × IsRemoving m.call.state

module _ {K V S A : Type 0} where
  -- the only result on which the machine acts then: until a pair is made, the value; then a pair
  -- that has it
  abbrev pub IsInsertSaid : Option (Stored K V) → V → StoreState K V S → Running K V A → ClosureResult → Type 0
  IsInsertSaid held v store r (Inserts shown) = IsShown held shown × ((other : ClosureResult) → ActsOn r.machine.call other → other ≡ Inserts shown)
  IsInsertSaid held v store r (Makes shown n) = IsShown held shown × HasPair v store n
  IsInsertSaid held v store r _ = ⊥

  pub record IsInserting (s : MapState K V S) (held : Option (Stored K V)) (v : V) (store : StoreState K V S) (r : Running K V A) : Type 0 where
    -- the call has the value
    pub value : own_value store r ≡ Some v
    pub said : (said : ClosureResult) → ActsOn r.machine.call said → IsInsertSaid held v store r said
    pub ends : (reply : Reply) → reply_in (ask_of r.machine) ≡ Some reply → IsInsertEnd s held v store reply
    pub way : IsOnWay held r.machine

  -- the facts for each result of the closure
  abbrev pub IsAsked : {T : Type 0} → MapState K V S → Option (Stored K V) → Operation V T → StoreState K V S → Running K V A → Type 0
  IsAsked s held (ops.Insert v) store r = IsInserting s held v store r
  IsAsked s held ops.Remove store r = IsToRemove held r.machine
  IsAsked s held (ops.Abort t) store r = reply_in (ask_of r.machine) ≡ Some (Aborted 0)

-- a machine that begins acts on no result
begins_silent : (mode : ResizeMode) (initial number hashed : ℕ) (limit : Option ℕ) (said : ClosureResult)
    → ActsOn (started Compute hashed mode initial number limit).call said → ⊥
begins_silent mode initial number hashed limit said (inl e) = cc e
begins_silent mode initial number hashed limit said (inr (inl e)) = cc e
begins_silent mode initial number hashed limit said (inr (inr e)) = cc e

module _ {K V S A F T : Type 0} (eq : K → K → Bool) (hash : S → K → ℕ) (s : MapState K V S) (k : K)
    (post : F → Option (Bor K × Bor V) → Operation V T → Type 0) (f : F) where
  -- its closure was not called; while no pairs are being moved the call is in the root, and nothing was changed
  pub record IsWaiting (store : StoreState K V S) (r : Running K V A) (closure : Option F) (shown : Option ℕ) : Type 0 where
    pub closure_is : closure ≡ Some f
    pub unshown : shown ≡ None
    pub silent : (said : ClosureResult) → ActsOn r.machine.call said → ⊥
    pub ends : (reply : Reply) → reply_in (ask_of r.machine) ≡ Some reply → IsFirstEnd s store reply
    pub rooted : next_of s.store ≡ 0 → (store ≡ s.store) × (r.machine.phase ≡ Calling) × IsInRoot store.words.root r.machine.call.state

  -- its closure was called with the pair that the map held, and returned
  pub record IsDoing (store : StoreState K V S) (r : Running K V A) (shown : Option ℕ) (aborted : Option T) : Type 0 where
    pub operation : Operation V T
    pub said : Says (post f) (map_in eq s.store k) operation
    pub shown_is : shown ≡ option_map (λ p. p.number) (map_in eq s.store k)
    pub kept : IsLeft operation aborted
    pub asked : IsAsked s (map_in eq s.store k) operation store r

  -- A compute between two answers: it came there by steps of the core.
  pub record IsComputing (store : StoreState K V S) (r : Running K V A) (closure : Option F) (shown : Option ℕ) (aborted : Option T) : Type 0 where
    pub steps : IsMade eq hash s (keyed_compute k) store (asking r)
    pub silence : r.answers ≡ None
    pub valid : IsValid r.machine
    pub unlogged : IsNotStored eq hash s (keyed_compute k) store (asking r)
    pub phase : IsWaiting store r closure shown ⊎ IsDoing store r shown aborted

  -- it begins
  pub computing_begin : (m : Machine) (hashed number : ℕ) (aborted : Option T)
      → m ≡ started Compute hashed s.mode.resize s.initial number s.mode.limit → hashed ≡ hash s.store.hasher k → IsValid m
      → IsComputing s.store (record { machine = m; key = Own k; value = None; answers = None }) (Some f) None aborted
  computing_begin m hashed number aborted is hash_same valid =
      let begun : m ≡ started Compute (hash s.store.hasher k) s.mode.resize s.initial number s.mode.limit = is
      ∙ ap (λ n. started Compute n s.mode.resize s.initial number s.mode.limit) hash_same in
      subst (λ (x : Machine). IsComputing s.store (record { machine = x; key = Own k; value = None; answers = None }) (Some f) None aborted)
      (sym begun) (record {
        steps = made_none eq hash s (keyed_compute k) number;
        silence = refl;
        valid = subst IsValid begun valid;
        unlogged = unlogged_none eq hash s (keyed_compute k) number;
        phase = inl (record {
          closure_is = refl;
          unshown = refl;
          silent = begins_silent s.mode.resize s.initial number (hash s.store.hasher k)
              s.mode.limit;
          ends = λ reply e. absurd cc;
          rooted = λ zero. (refl, refl, tt);
        });
      })

  -- an answer that fits left the call under way, and nearer its end
  pub record Went (store : StoreState K V S) (m : Machine) (answer : Chain_answer) (store' : StoreState K V S) (later : Running K V A)
      (closure : Option F) (shown : Option ℕ) (aborted : Option T) : Type 0 where
    pub fit : IsFit answer
    pub same : later.machine ≡ m
    pub nears : left_of store' (after m answer) < left_of store m
    pub goes : IsValid (after m answer) → IsComputing store' (record later { machine = after m answer }) closure shown aborted

  -- the same in other words
  pub went_so : (store : StoreState K V S)
      (m : Machine) {answer told : Chain_answer} {store' store1 : StoreState K V S} {r r1 : Running K V A} {closure closure1 : Option F} {shown shown1 :
      Option ℕ} {aborted aborted1 : Option T}
      → answer ≡ told → store' ≡ store1 → r ≡ r1 → closure ≡ closure1 → shown ≡ shown1 → aborted ≡ aborted1
      → Went store m told store1 r1 closure1 shown1 aborted1 → Went store m answer store' r closure shown aborted
  went_so store m {answer} {told} {store'} {store1} {r} {r1} {closure} {closure1} {shown} {shown1} {aborted} {aborted1} e s_is r_is c_is n_is a_is went =
      subst (λ a. Went store m a store' r closure shown aborted) (sym e)
      (subst (λ (y : StoreState K V S). Went store m told y r closure shown aborted) (sym s_is)
      (subst (λ (q : Running K V A). Went store m told store1 q closure shown aborted) (sym r_is)
      (subst (λ (x : Option F). Went store m told store1 r1 x shown aborted) (sym c_is)
      (subst (λ (x : Option ℕ). Went store m told store1 r1 closure1 x aborted) (sym n_is)
      (subst (λ (x : Option T). Went store m told store1 r1 closure1 shown1 x) (sym a_is) went)))))
