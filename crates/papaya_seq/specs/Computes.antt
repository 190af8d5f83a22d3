-- What a compute does, and what the calls do that are made as computes.
use Rattle.std.specs.Prelude.{◌≡◌, ◌⊎◌, Bool, Option, Some, None, Result, Ok, Err, option_map}
use denote.Ref.{Bor}
use Rattle.papaya_words.specs.declared.refused.Refused.{Refused}
use Rattle.papaya_words.specs.declared.refused.Refused.TheVariants.{RemoveNothing}
use Rattle.papaya_call.specs.declared.answers.Operation.{Operation}
use Rattle.papaya_call.specs.declared.answers.Operation.TheVariants.{Insert, Remove, Abort}
use Rattle.papaya_core_timeline.specs.Content.{map_in}
use Rattle.papaya_core_timeline.specs.Maps.{IsUpdate}
use Rattle.papaya_core_store.specs.Store.{StoreState, Stored, pair_of}
use Rattle.papaya_seq.specs.Map.{Inserts, IsOccupied, IsResizing, IsWriteCause, IsWriteCauseAt, KeepsAndGrows, MapState, Unchanged, deref_pair, entry_of}
use Rattle.papaya_words_keys.specs.declared.results.Compute.{Compute}
use Rattle.papaya_words_keys.specs.declared.results.Compute.TheVariants as shown
use Rattle.papaya_words_keys.specs.declared.results.Computed.{Computed}
use Rattle.papaya_words_keys.specs.declared.results.Computed.TheVariants.{Inserted, Updated, Removed, Aborted}

-- `shown` are references to the key and the value of `held`, the pair of a class, or both are None
abbrev pub AreOf : {K V : Type 0} → Option (Bor K × Bor V) → Option (Stored K V) → Type 0
AreOf shown held = option_map deref_pair shown ≡ option_map entry_of held

-- a closure with the precondition `pre` may be called with references to `held`
abbrev pub Takes : {K V : Type 0} → (Option (Bor K × Bor V) → Type 0) → Option (Stored K V) → Type 0
Takes {K = K} {V = V} pre held = (shown : Option (Bor K × Bor V)) → AreOf shown held → pre shown

-- a closure with the postcondition `post` may return `operation` when it is called with references
-- to `held`
abbrev pub Says : {K V T : Type 0} → (Option (Bor K × Bor V) → Operation V T → Type 0)
    → Option (Stored K V) → Operation V T → Type 0
Says {K = K} {V = V} post held operation = (shown : Option (Bor K × Bor V)) × AreOf shown held
    × post shown operation

-- q has the key k and the value v, no pair of s has its number, and it is in the arena of s'
pub record IsNew {K V S : Type 0} (k : K) (v : V) (s s' : StoreState K V S)
    (q : Stored K V) : Type 0 where
  pub key : q.key ≡ k
  pub value : q.value ≡ v
  pub fresh : pair_of s q.number ≡ None
  pub logged : pair_of s' q.number ≡ Some q

module _ {K V S T : Type 0} (k : K) where
  -- What a compute does if the class of its key has `held` and its closure returned this operation:
  -- its result, and the pair `next` that the class has afterwards. A pair that replaces another one
  -- has the key of that one.
  abbrev pub Operates : MapState K V S → MapState K V S → Option (Stored K V) → Operation V T
      → Result (Computed (Stored K V) T) Refused → Option (Stored K V) → Type 0
  Operates s s' None (Insert v) (Ok (Inserted q)) next = IsNew k v s.store s'.store q
      × (next ≡ Some q)
  Operates s s' (Some p) (Insert v) (Ok (Updated old q)) next = (old ≡ p)
      × IsNew p.key v s.store s'.store q × (next ≡ Some q)
  Operates s s' held (Insert v) (Err refused) next = IsWriteCauseAt s held refused s'
      × (next ≡ held)
  Operates s s' None Remove (Err refused) next = (refused ≡ RemoveNothing) × (next ≡ None)
  Operates s s' (Some p) Remove (Ok (Removed old)) next = (old ≡ p) × (next ≡ None)
  Operates s s' held (Abort t) (Ok (Aborted u)) next = (u ≡ t) × (next ≡ held)
  Operates _ _ _ _ _ _ = ⊥

-- a compute is refused for a cause, and the finite map does not change
abbrev pub IsComputeRefusal : {K V S : Type 0} → (K → K → Bool) → MapState K V S → Refused
    → MapState K V S → Type 0
IsComputeRefusal eq s refused s' = IsWriteCause s refused s' × Unchanged eq s.store s'.store
    × KeepsAndGrows s s'

module _ {K V S T : Type 0} (eq : K → K → Bool) (k : K) where
  -- A compute whose closure was called once and returned `operation`. `said held operation` states
  -- that the closure may return `operation` when it is called with `held`.
  pub record CallsOnce (said : Option (Stored K V) → Operation V T → Type 0) (s : MapState K V S)
      (answer : Result (Computed (Stored K V) T) Refused) (s' : MapState K V S) : Type 0 where
    pub held : Option (Stored K V)
    pub operation : Operation V T
    pub answered : said held operation
    pub next : Option (Stored K V)
    pub operates : Operates k s s' held operation answer next
    pub update : IsUpdate eq k held next (map_in eq s.store) (map_in eq s'.store)
    pub keeps : KeepsAndGrows s s'

  -- a compute that was refused before it called its closure, which happens only while pairs are
  -- being moved
  abbrev pub IsRefusedFirst : MapState K V S → Result (Computed (Stored K V) T) Refused
      → MapState K V S → Type 0
  IsRefusedFirst s answer s' = IsResizing s × ((refused : Refused) × (answer ≡ Err refused)
      × IsComputeRefusal eq s refused s')

  abbrev pub Computes : (Option (Stored K V) → Operation V T → Type 0) → MapState K V S
      → Result (Computed (Stored K V) T) Refused → MapState K V S → Type 0
  Computes said s answer s' = CallsOnce said s answer s' ⊎ IsRefusedFirst s answer s'

-- what a compute did, with `shows p` in place of each pair p
abbrev pub computed_map : {P R T : Type 0} → (P → R) → Computed P T → Computed R T
computed_map shows (Inserted q) = Inserted (shows q)
computed_map shows (Updated p q) = Updated (shows p) (shows q)
computed_map shows (Removed p) = Removed (shows p)
computed_map shows (Aborted t) = Aborted t

-- the same for a result, which may be a refusal
abbrev pub answer_map : {P R T : Type 0} → (P → R) → Result (Computed P T) Refused
    → Result (Computed R T) Refused
answer_map shows (Ok done) = Ok (computed_map shows done)
answer_map shows (Err refused) = Err refused

-- a compute whose result has `shows p` in place of each pair p, such as the number of p
abbrev pub ComputesBy : {K V S T R : Type 0} → (K → K → Bool) → K → (Stored K V → R)
    → (Option (Stored K V) → Operation V T → Type 0) → MapState K V S
    → Result (Computed R T) Refused → MapState K V S → Type 0
ComputesBy {K = K} {V = V} {T = T} eq k shows said s answer s' =
    (done : Result (Computed (Stored K V) T) Refused) × (answer ≡ answer_map shows done)
    × Computes eq k said s done s'

module _ {K V S : Type 0} (eq : K → K → Bool) (k : K) where
  -- The result of an update: the value that was computed from the key's value; None if the key is
  -- absent; or a refusal. `computes old v` states that the closure may return v for the value
  -- `old`.
  abbrev pub IsUpdated : (V → V → Type 0) → MapState K V S → Result (Option V) Refused
      → MapState K V S → Type 0
  IsUpdated computes s (Ok None) s' = (map_in eq s.store k ≡ None) × Unchanged eq s.store s'.store
      × KeepsAndGrows s s'
  IsUpdated computes s (Ok (Some v)) s' = (old : V) × computes old v
      × Inserts eq k v s.store (Some old) s'.store × KeepsAndGrows s s'
  IsUpdated computes s (Err refused) s' =
      (((p : Stored K V) × (map_in eq s.store k ≡ Some p)) ⊎ IsResizing s)
      × IsComputeRefusal eq s refused s'

  -- The result of an update that inserts a value if the key is absent: the value that the key has
  -- after the call, or a refusal. `makes v` states that v may be the inserted value.
  abbrev pub IsUpdatedOrInserted : (V → V → Type 0) → (V → Type 0) → MapState K V S
      → Result V Refused → MapState K V S → Type 0
  IsUpdatedOrInserted computes makes s (Ok v) s' =
      (((old : V) × computes old v × Inserts eq k v s.store (Some old) s'.store)
      ⊎ (makes v × Inserts eq k v s.store None s'.store)) × KeepsAndGrows s s'
  IsUpdatedOrInserted computes makes s (Err refused) s' = IsComputeRefusal eq s refused s'

  -- The result of an insertion of an absent key whose value a closure makes: the value that was
  -- inserted, the value that was already there, or a refusal. `makes v` states that the closure may
  -- return v.
  abbrev pub IsTriedWith : (V → Type 0) → MapState K V S → Result (Result V V) Refused
      → MapState K V S → Type 0
  IsTriedWith makes s (Ok (Ok v)) s' = makes v × Inserts eq k v s.store None s'.store
      × KeepsAndGrows s s'
  IsTriedWith makes s (Ok (Err current)) s' = IsOccupied eq k s.store current s'.store
      × KeepsAndGrows s s'
  IsTriedWith makes s (Err refused) s' = ((map_in eq s.store k ≡ None) ⊎ IsResizing s)
      × IsComputeRefusal eq s refused s'

  -- the same for a result that does not say whether the value was inserted or was already there
  abbrev pub HasValueOf : (V → Type 0) → MapState K V S → Result V Refused → MapState K V S → Type 0
  HasValueOf makes s (Ok v) s' = IsTriedWith makes s (Ok (Ok v)) s'
      ⊎ IsTriedWith makes s (Ok (Err v)) s'
  HasValueOf makes s (Err refused) s' = IsTriedWith makes s (Err refused) s'

-- a result with the values in place of the references: the value that was inserted, the value that
-- was already there, or a refusal
abbrev pub tried_answered : {V : Type 0} → Result (Result (Bor V) (Bor V)) Refused
    → Result (Result V V) Refused
tried_answered (Ok (Ok stored)) = Ok (Ok stored.now)
tried_answered (Ok (Err current)) = Ok (Err current.now)
tried_answered (Err refused) = Err refused

-- the result of a compute with entries in place of the references to them, or a refusal
abbrev pub compute_answered : {K V T : Type 0} → Result (Compute K V T) Refused
    → Result (Computed (K × V) T) Refused
compute_answered (Ok (shown.Inserted key value)) = Ok (Inserted (key.now, value.now))
compute_answered (Ok (shown.Updated old new)) = Ok (Updated (deref_pair old) (deref_pair new))
compute_answered (Ok (shown.Removed key value)) = Ok (Removed (key.now, value.now))
compute_answered (Ok (shown.Aborted t)) = Ok (Aborted t)
compute_answered (Err refused) = Err refused
