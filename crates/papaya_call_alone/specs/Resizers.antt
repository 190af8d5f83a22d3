-- A call that resizes the map, with no other caller beside it: how far it is from its end, what it
-- has read, and what holds when it has ended.
use Rattle.std.specs.Prelude.{◌≡◌, ◌⊎◌, ℕ, ◌+◌, ◌*◌, ◌^◌, ◌<◌, ◌≤◌, ◌==◌, ◌||◌, if◌then◌else◌, Option, None}
use Rattle.papaya_words.specs.declared.resize_mode.ResizeMode.{ResizeMode}
use Rattle.papaya_call.specs.declared.ask.At.{At}
use Rattle.papaya_call.specs.declared.ask.At.TheVariants as words_at
use Rattle.papaya_call.specs.declared.copy.copying.Aim.TheVariants.{All}
use Rattle.papaya_call.specs.declared.copy.copying.Copying.{Copying}
use Rattle.papaya_call.specs.Link.{follows}
use Rattle.papaya_call.specs.declared.chain.ask.Answer.{Answer}
use Rattle.papaya_call.specs.declared.chain.ask.Answer.TheVariants as answers
use Rattle.papaya_call.specs.declared.chain.resizer.Resize.{Resize}
use Rattle.papaya_call.specs.declared.chain.resizer.Resize.TheVariants.{Chunk, CopyAll, Reserve}
use Rattle.papaya_call.specs.declared.chain.resizer.Resizer.{Resizer}
use Rattle.papaya_call.specs.declared.chain.resizer.TableSize.{TableSize}
use Rattle.papaya_call.specs.declared.chain.resizer.ResizerState.{ResizerState}
use Rattle.papaya_call.specs.declared.chain.resizer.ResizerState.TheVariants as stages
use Rattle.papaya_call.specs.TableSize.{entries_of}
use Rattle.papaya_call_law.specs.Copier.{aim_of}
use Rattle.papaya_call_alone.specs.Budget.{Budget}
use Rattle.papaya_call_alone.specs.Current.{IsCopyingRead, IsLinkRead}
use Rattle.papaya_call_alone.specs.Measure.{left_of_copying, left_of_link}

-- A copy of all that began at a table which is no longer the root begins again when it is over, so
-- more is left to it than to one that begins now.
abbrev pub left_of_from : (from root left : ℕ) → ℕ
left_of_from from root left = if from == 0 || root == from then left else left + 2 ^ 121

abbrev pub left_of_stage : (root : ℕ) → ResizerState → ℕ
left_of_stage root stages.AtRoot = 2 ^ 120 + 6
left_of_stage root (stages.Making room) = 2
left_of_stage root (stages.Opening table) = 1
left_of_stage root (stages.Sizing table) = 2 ^ 120 + 5
left_of_stage root (stages.Counting table len) = 2 ^ 120 + 4
left_of_stage root (stages.Looking table len room) = 2 ^ 120 + 3
left_of_stage root (stages.Linking link) = left_of_link link
left_of_stage root (stages.Copying from copying) =
    left_of_from from root (left_of_copying copying)
left_of_stage root _ = 0

-- The measure of a resizer, by its budget and its state: it falls with each answer.
abbrev pub resizer_measure : Budget → (root : ℕ) → Resizer → ℕ
resizer_measure budget root resizer = (budget.tables * 2 ^ 128 + budget.exchanges) * 2 ^ 192
    + left_of_stage root resizer.state

-- the call reserves room
abbrev pub IsReserve : Resize → Type 0
IsReserve (Reserve more) = Unit {0}
IsReserve _ = ⊥

-- a reserve looks up the next table with a size that it needs
abbrev pub IsRoomFor : Resize → Option TableSize → Type 0
IsRoomFor (Reserve more) None = ⊥
IsRoomFor _ _ = Unit {0}

module _ (words : At → ℕ) where
  -- a copy of all began at a root that has a next table
  pub record IsFrom (from : ℕ) (copying : Copying) : Type 0 where
    pub some : 0 < from
    pub aim : aim_of copying ≡ All from
    pub next : 0 < words (words_at.Next from)

  -- the copy is one of a chunk, or one of all that began at `from`
  abbrev pub IsBegunFrom : Resize → (from : ℕ) → Copying → Type 0
  IsBegunFrom resize from copying = ((resize ≡ Chunk) × (from ≡ 0)) ⊎ IsFrom from copying

-- this table is the root
abbrev pub IsRoot : (At → ℕ) → (root : ℕ) → Type 0
IsRoot words root = (words words_at.Root ≡ root) × (0 < root)

module _ (mode : ResizeMode) (words : At → ℕ) where
  abbrev pub IsStageRead : Resize → ResizerState → Type 0
  IsStageRead resize (stages.Making room) = words words_at.Root ≡ 0
  IsStageRead resize (stages.Opening table) = words words_at.Root ≡ 0
  IsStageRead resize (stages.Sizing root) = IsRoot words root × IsReserve resize
  IsStageRead resize (stages.Counting root len) = IsRoot words root × IsReserve resize
  IsStageRead resize (stages.Looking root len room) = IsRoot words root × IsRoomFor resize room
  IsStageRead resize (stages.Linking link) = IsRoot words (follows link) × IsLinkRead words link
  IsStageRead resize (stages.Copying from copying) = IsCopyingRead mode words copying
      × IsBegunFrom words resize from copying
  IsStageRead resize _ = Unit {0}

-- the words that it has read are unchanged
abbrev pub IsResizerRead : (At → ℕ) → Resizer → Type 0
IsResizerRead words resizer = IsStageRead resizer.mode words resizer.resize resizer.state

-- there is no root, or it has no next table
abbrev pub IsWhole : (At → ℕ) → Type 0
IsWhole words = (words words_at.Root ≡ 0) ⊎ (words (words_at.Next (words words_at.Root)) ≡ 0)

-- the root has enough slots for the pairs that were counted and for `more` others
abbrev pub HasRoom : (At → ℕ) → (size : ℕ → ℕ) → Answer → (more : ℕ) → Type 0
HasRoom words size answer more = (count : ℕ) × (answer ≡ answers.Count count)
    × (0 < words words_at.Root) × (entries_of (count + more) ≤ size (words words_at.Root))

-- what the call is for is done, after this answer
abbrev pub HasResized : (At → ℕ) → (size : ℕ → ℕ) → Answer → Resize → Type 0
HasResized words size answer Chunk = Unit {0}
HasResized words size answer CopyAll = IsWhole words
HasResized words size answer (Reserve more) = HasRoom words size answer more
