-- A removal whose driver answers several of its asks at once.
use Rattle.std.specs.Prelude.{◌≡◌, ℕ, Bool, false, List, [], ◌∷◌, Option}
use denote.Ref.{Bor}
use Rattle.std.specs.Fn.{Mut}
use Rattle.papaya_words.specs.declared.resize_mode.ResizeMode.{ResizeMode}
use Rattle.papaya_call.specs.declared.ask.Answer.{Answer}
use Rattle.papaya_call.specs.declared.ask.Ask.{Ask}
use Rattle.papaya_call.specs.declared.ask.Ask.TheVariants.{Done}
use Rattle.papaya_call.specs.declared.call.Reply.{Reply}
use Rattle.papaya_call.specs.declared.call.Task.TheVariants.{RemoveIf}
use Rattle.papaya_call.specs.declared.machine.Machine.{Machine as Call_machine}
use Rattle.papaya_call.specs.declared.machine.State.TheVariants.{Showing}
use Rattle.papaya_call.specs.declared.remove.Removal.{Removal}
use Rattle.papaya_call.specs.Machine.{started}
use Rattle.papaya_call.specs.declared.chain.ask.Answer.TheVariants as answers
use Rattle.papaya_call.specs.declared.chain.ask.Ask.TheVariants as asks
use Rattle.papaya_call.specs.declared.chain.machine.Machine.{Machine}
use Rattle.papaya_call.specs.declared.chain.machine.Phase.TheVariants.{Calling}
use Rattle.papaya_call.specs.ChainMachine.{after, ask_of}
use Rattle.papaya_core_store.specs.Store.{StoreState}
use Rattle.papaya_seq.specs.Removes.{IsRemovalAnswer}

-- a call that is not set aside for a copy
abbrev pub itself : Call_machine → Machine
itself m = record { call = m; number = 0; helped = false; phase = Calling }

module _ {K V S F : Type 0} (g : Mut F (Bor K × (Bor V × Unit {0})) Bool) (matches : K → Bool) where
  -- one ask of the removal was answered, by the store or by its closure
  pub record IsCallStep (s : StoreState K V S) (f : F) (m : Machine) (answer : Answer)
      (s' : StoreState K V S) (f' : F) : Type 0 where
    pub ask : Ask
    pub asked : asks.Call ask ≡ ask_of m
    pub answered : IsRemovalAnswer g matches ask s f answer s' f'

  -- these answers were given to its asks, one after the other
  abbrev pub StepsTo : List Answer → StoreState K V S → F → Machine → StoreState K V S → F → Machine
      → Type 0
  StepsTo [] s f m s' f' m' = (s' ≡ s) × (f' ≡ f) × (m' ≡ m)
  StepsTo (answer ∷ rest) s f m s' f' m' = (middle : StoreState K V S) × (later : F)
      × IsCallStep s f m answer middle later
      × StepsTo rest middle later (after m (answers.Call answer)) s' f' m'

  -- after some answers the removal has replied `reply`
  pub record IsRemovedFrom (s : StoreState K V S) (f : F) (m : Machine) (reply : Reply)
      (s' : StoreState K V S) (f' : F) : Type 0 where
    pub answers : List Answer
    pub end : Machine
    pub leads : StepsTo answers s f m s' f' end
    pub replied : ask_of end ≡ asks.Call (Done reply)

  -- any removal that is about to call its closure with the pair of `removal` comes to this reply
  abbrev pub IsBuried : Removal → StoreState K V S → F → Reply → StoreState K V S → F → Type 0
  IsBuried removal s f reply s' f' = (m : Call_machine)
      → IsRemovedFrom s f (itself (record m { task = RemoveIf; state = Showing removal })) reply s' f'

  -- a removal with this hash comes to this reply, whatever the map's resize mode, initial capacity
  -- and pair limit are
  abbrev pub IsRemovedFast : (hashed : ℕ) → StoreState K V S → F → Reply → StoreState K V S → F
      → Type 0
  IsRemovedFast hashed s f reply s' f' = (mode : ResizeMode) (initial : ℕ) (limit : Option ℕ)
      → IsRemovedFrom s f (itself (started RemoveIf hashed mode initial limit)) reply s' f'
