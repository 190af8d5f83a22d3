-- Where a call alone is in the chain: at the root, or behind it if it goes from table to table. The
-- words that it has read are unchanged.
use Rattle.std.specs.Prelude.{◌≡◌, ℕ, ◌≤◌, Some}
use Rattle.papaya_words.specs.declared.resize_mode.ResizeMode.{ResizeMode}
use Rattle.papaya_words.specs.declared.resize_mode.ResizeMode.TheVariants.{Incremental, Blocking}
use Rattle.papaya_call.specs.declared.ask.At.{At}
use Rattle.papaya_call.specs.declared.ask.At.TheVariants as words_at
use Rattle.papaya_call.specs.declared.compute.Gap.{Gap}
use Rattle.papaya_call.specs.declared.compute.Gap.TheVariants.{NoRoot, At as At_place, After}
use Rattle.papaya_call.specs.declared.compute.Purpose.{Purpose}
use Rattle.papaya_call.specs.declared.compute.Purpose.TheVariants.{Fill, Replace, Again}
use Rattle.papaya_call.specs.declared.machine.State.{State}
use Rattle.papaya_call.specs.declared.machine.State.TheVariants.{Searching, Offering, Pairing, Leaving, Growing}
use Rattle.papaya_call.specs.Machine.{needed}
use Rattle.papaya_call.specs.declared.chain.machine.Machine.{Machine}
use Rattle.papaya_call.specs.declared.chain.machine.Phase.{Phase}
use Rattle.papaya_call.specs.declared.chain.machine.Phase.TheVariants.{Calling, Linking, Copying as Copying_root}
use Rattle.papaya_call.specs.declared.copy.copying.Copying.{Copying}
use Rattle.papaya_call.specs.declared.copy.copying.Copying.TheVariants as copyings
use Rattle.papaya_call_law.specs.Alone.{IsNumberRead, IsRead}
use Rattle.papaya_call_law.specs.ChainRelies.{left_by}
use Rattle.papaya_call_alone.specs.Current.{IsCopyingRead, IsIncremental, IsLinkRead}
use Rattle.papaya_call_alone.specs.Rank.{table_of}

-- the table is the root or, without blocking, a later one
abbrev pub IsAhead : ResizeMode → (At → ℕ) → ℕ → Type 0
IsAhead (Incremental chunk) words t = words words_at.Root ≤ t
IsAhead Blocking words t = words words_at.Root ≡ t

module _ (mode : ResizeMode) (words : At → ℕ) where
  -- the same for the table where a key is absent
  abbrev pub IsGapAhead : Gap → Type 0
  IsGapAhead NoRoot = Unit {0}
  IsGapAhead (At_place at) = IsAhead mode words at.table
  IsGapAhead (After t) = IsAhead mode words t

  abbrev pub IsPurposeAhead : Purpose → Type 0
  IsPurposeAhead (Fill gap) = IsGapAhead gap
  IsPurposeAhead (Replace write) = Unit {0}
  IsPurposeAhead (Again write) = Unit {0}

  -- the same for the table that a call is in; only without blocking does a call leave one for the
  -- next
  abbrev pub IsAheadIn : State → Type 0
  IsAheadIn (Searching search) = IsAhead mode words (table_of search)
  IsAheadIn (Offering gap) = IsGapAhead gap
  IsAheadIn (Pairing purpose) = IsPurposeAhead purpose
  IsAheadIn (Leaving t) = IsIncremental mode × IsAhead mode words t
  IsAheadIn (Growing need) = IsAhead mode words (needed need)
  IsAheadIn _ = Unit {0}

  -- the same for the table in which a call was set aside, while the root is copied, and then for
  -- the next one
  abbrev pub IsAsideAhead : State → Copying → Type 0
  IsAsideAhead state (copyings.Stepping aim step) = (t : ℕ) → IsIncremental mode
      → left_by state ≡ Some t → words words_at.Root ≤ t
  IsAsideAhead state (copyings.Lone slot settle) = words words_at.Root ≤ slot.to

  abbrev pub IsPhaseRead : State → Phase → Type 0
  IsPhaseRead state Calling = IsRead words state × IsAheadIn state
  IsPhaseRead state (Linking link) = IsIncremental mode × IsLinkRead words link
      × ((t : ℕ) → left_by state ≡ Some t → words words_at.Root ≤ t)
  IsPhaseRead state (Copying_root copying) = IsCopyingRead mode words copying
      × IsAsideAhead state copying

-- the words of tables that a call, or the copy for which it is set aside, has read are unchanged
abbrev pub IsCallRead : (At → ℕ) → Machine → Type 0
IsCallRead words m = IsPhaseRead m.call.mode words m.call.state m.phase

-- the same, and as many numbers are taken for pairs as it has read
pub record IsCurrent (words : At → ℕ) (m : Machine) : Type 0 where
  pub number : IsNumberRead words m.call.made.number
  pub read : IsCallRead words m
