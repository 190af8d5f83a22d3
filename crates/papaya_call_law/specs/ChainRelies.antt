-- What a call over a chain of tables relies on, while others exchange words between its asks.
use Rattle.std.specs.Prelude.{◌≡◌, ◌⊎◌, ℕ, ◌<◌, true, false, Option, None, Some, List, ◌++◌}
use Rattle.papaya_call.specs.declared.machine.State.{State as Stage}
use Rattle.papaya_call.specs.declared.machine.State.TheVariants.{Leaving, Growing}
use Rattle.papaya_call.specs.Machine.{IsChanger, needed}
use Rattle.papaya_call.specs.declared.copy.copying.Aim.TheVariants.{All}
use Rattle.papaya_call.specs.declared.copy.copying.Copying.{Copying}
use Rattle.papaya_call.specs.declared.copy.link.Link.{Link}
use Rattle.papaya_call.specs.Link.{follows}
use Rattle.papaya_call.specs.declared.chain.machine.Machine.{Machine}
use Rattle.papaya_call.specs.declared.chain.machine.Phase.{Phase}
use Rattle.papaya_call.specs.declared.chain.machine.Phase.TheVariants.{Calling, Linking, Copying as Copying_root}
use Rattle.papaya_call.specs.ChainMachine.{aim_for}
use Rattle.papaya_words_law.specs.Code.{Coding}
use Rattle.papaya_words_law.specs.Exchange.{Setting, State, Exchange, run, start}
use Rattle.papaya_call_law.specs.Copier.{ReliesCopying, ReliesLink, aim_of}
use Rattle.papaya_call_law.specs.Relies as calls
use Rattle.papaya_call_law.specs.ChainAnswers.{LoadedPairs}

-- the table from which a call in this state goes on, if it is set aside
abbrev pub left_by : Stage → Option ℕ
left_by (Leaving t) = Some t
left_by (Growing need) = Some (needed need)
left_by _ = None

-- The exchanges when the call began are `begun`, and those since then `since`.
module _ {K P : Type 0} (g : Setting K P) (c : Coding K P) (begun since : List (Exchange P))
    (k : K) where
  -- the state after all exchanges
  abbrev pub now : State P
  now = run (begun ++ since) start

  -- without blocking: a call that may change the map is set aside while its next table is made
  pub record IsLinking (m : Machine) (link : Link) : Type 0 where
    pub mode : g.blocking ≡ false
    pub changes : IsChanger m.call.task
    pub left : left_by m.call.state ≡ Some (follows link)
    pub relies : ReliesLink g c now link

  -- or it is set aside while it copies a chunk, or its own slot, and then goes on in the next table
  pub record IsHelping (m : Machine) (loaded : LoadedPairs P) (copying : Copying) : Type 0 where
    pub mode : g.blocking ≡ false
    pub changes : IsChanger m.call.task
    pub table : ℕ
    pub left : left_by m.call.state ≡ Some table
    pub next : 0 < now.next table
    pub aim : aim_of copying ≡ aim_for m.call.state (now.next table)
    pub relies : ReliesCopying g c now loaded.call.last loaded.kept copying

  -- with blocking it copies all, and then begins again
  pub record IsCopyingAll (m : Machine) (loaded : LoadedPairs P) (copying : Copying) : Type 0 where
    pub mode : g.blocking ≡ true
    pub changes : IsChanger m.call.task
    pub table : ℕ
    pub left : left_by m.call.state ≡ Some table
    pub met : ℕ
    pub aim : aim_of copying ≡ All met
    pub relies : ReliesCopying g c now loaded.call.last loaded.kept copying

  abbrev pub ReliesPhase : Machine → LoadedPairs P → Phase → Type 0
  ReliesPhase m loaded Calling = Unit {0}
  ReliesPhase m loaded (Linking link) = IsLinking m link
  ReliesPhase m loaded (Copying_root copying) = IsHelping m loaded copying
      ⊎ IsCopyingAll m loaded copying

  pub record Relies (m : Machine) (loaded : LoadedPairs P) : Type 0 where
    pub cut : calls.IsCutAs m.call.mode g.chunk_of
    pub call : calls.Relies g c begun since k m.call loaded.call
    pub phase : ReliesPhase m loaded m.phase
