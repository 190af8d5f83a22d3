-- A call under way whose driver answers several of its asks at once, each by the store.
use Rattle.std.specs.Prelude.{◌≡◌, ◌==◌, ℕ, Bool, false, if◌then◌else◌, Option, Some, None, option_map, List, [], ◌∷◌}
use Rattle.papaya_words.specs.declared.resize_mode.ResizeMode.{ResizeMode}
use Rattle.papaya_call.specs.declared.ask.Answer.{Answer as Call_answer}
use Rattle.papaya_call.specs.declared.ask.Ask.TheVariants.{Done, ShowNone, ShowPair}
use Rattle.papaya_call.specs.declared.call.Reply.{Reply}
use Rattle.papaya_call.specs.declared.call.Task.TheVariants.{Insert}
use Rattle.papaya_call.specs.declared.machine.Machine.{Machine as Call_machine}
use Rattle.papaya_call.specs.declared.machine.State.{State}
use Rattle.papaya_call.specs.declared.machine.State.TheVariants.{AtRoot, Growing}
use Rattle.papaya_call.specs.declared.need.Need.TheVariants.{Room}
use Rattle.papaya_call.specs.Machine.{started}
use Rattle.papaya_call.specs.declared.chain.ask.Answer.{Answer}
use Rattle.papaya_call.specs.declared.chain.ask.Ask.{Ask}
use Rattle.papaya_call.specs.declared.chain.ask.Ask.TheVariants as asks
use Rattle.papaya_call.specs.declared.chain.machine.Phase.TheVariants.{Calling}
use Rattle.papaya_call.specs.ChainMachine.{IsFitAsk, after, ask_of}
use Rattle.papaya_core_store.specs.Asks.{PerformsAsk}
use Rattle.papaya_core_store.specs.declared.pairs.Part.{Part}
use Rattle.papaya_core_store.specs.declared.pairs.Part.TheVariants.{Own, Logged}
use Rattle.papaya_core_store.specs.declared.pairs.Running.{Running}
use Rattle.papaya_core_store.specs.Store.{StoreState}
use Rattle.papaya_core_timeline.specs.Solo.{whatever}
use Rattle.papaya_seq.specs.Looks.{Comes}

-- a call that is not set aside for a copy and owns its key, and its value if it has one
abbrev pub at_hand : {K V A : Type 0} → Call_machine → K → Option V → Running K V A
at_hand m key value = record {
  machine = record { call = m; number = 0; helped = false; phase = Calling };
  key = Own key;
  value = option_map (λ v. Own v) value;
  answers = None;
}

-- an ask that the store answers: it is no reply, and calls no closure
abbrev pub IsOfStore : Ask → Type 0
IsOfStore (asks.Call ShowNone) = ⊥
IsOfStore (asks.Call (ShowPair n)) = ⊥
IsOfStore (asks.Call (Done reply)) = ⊥
IsOfStore ask = Unit {0}

-- the value that a call still owns, because no pair of the arena has it yet
abbrev pub value_left : {V : Type 0} → Option (Part V) → Option V
value_left (Some (Own value)) = Some value
value_left (Some (Logged n)) = None
value_left None = None

-- the state in which a call goes on: it needs the table after table `full`, or begins at the root
-- if `full` is 0
abbrev pub led_state : (full : ℕ) → State
led_state full = if full == 0 then AtRoot else Growing (Room full)

-- An insertion with this hash comes to `state`, whatever the map's resize mode, initial capacity
-- and pair limit are, when its asks are answered by what is in the tables.
abbrev pub IsLedTo : {K V S : Type 0} → (matches : K → Bool) → StoreState K V S → (hashed : ℕ)
    → Bool → State → Type 0
IsLedTo matches store hashed replace state = (mode : ResizeMode) (initial : ℕ) (limit : Option ℕ)
    → (answers : List Call_answer)
    × Comes matches store (started (Insert replace) hashed mode initial limit) answers
    (record (started (Insert replace) hashed mode initial limit) { state = state })

module _ {K V S : Type 0} (eq : K → K → Bool) (hash : S → K → ℕ) where
  -- the store answered one ask of the call
  pub record IsDriven (s : StoreState K V S) (r : Running K V (Unit {0})) (answer : Answer)
      (s' : StoreState K V S) (later : Running K V (Unit {0})) : Type 0 where
    pub asked : IsOfStore (ask_of r.machine)
    pub fit : IsFitAsk (ask_of r.machine)
    pub performs : PerformsAsk eq whatever hash false (ask_of r.machine) s r answer s' later
    pub same : later.machine ≡ r.machine

  -- the store gave these answers to the asks of the call, one after the other
  abbrev pub Drives : List Answer → StoreState K V S → Running K V (Unit {0}) → StoreState K V S
      → Running K V (Unit {0}) → Type 0
  Drives [] s r s' r' = (s' ≡ s) × (r' ≡ r)
  Drives (answer ∷ rest) s r s' r' = (middle : StoreState K V S)
      × (later : Running K V (Unit {0})) × IsDriven s r answer middle later
      × Drives rest middle (record later { machine = after r.machine answer }) s' r'

  -- after some answers the call has replied `reply`, and `left` is the value that it still owns
  pub record IsReplied (s : StoreState K V S) (r : Running K V (Unit {0})) (reply : Reply)
      (left : Option V) (s' : StoreState K V S) : Type 0 where
    pub answers : List Answer
    pub end : Running K V (Unit {0})
    pub drives : Drives answers s r s' end
    pub replied : asks.Call (Done reply) ≡ ask_of end.machine
    pub value : value_left end.value ≡ left

  -- an insertion into a map without a pair limit has replied, whatever the map's resize mode and
  -- initial capacity are
  abbrev pub IsInsertedFast : (hashed : ℕ) → Bool → K → V → StoreState K V S
      → Reply × Option V → StoreState K V S → Type 0
  IsInsertedFast hashed replace key value s done s' = (mode : ResizeMode) (initial : ℕ)
      → IsReplied s (at_hand (started (Insert replace) hashed mode initial None) key (Some value))
      done.0 done.1 s'
