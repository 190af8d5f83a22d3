-- The outcome for a pair that was stored in the arena for a place that a search had found.
use Rattle.std.specs.Prelude.{◌≡◌, ℕ, ◌==◌, Bool, true, false, Option, None, Some, List}
use Rattle.papaya_call.specs.declared.ask.StepKind.TheVariants.{Bury}
use Rattle.papaya_call.specs.declared.machine.State.{State}
use Rattle.papaya_call.specs.Remove.{grave_word}
use Rattle.papaya_map_book.specs.declared.keyed.Keyed as keyed
use Rattle.papaya_map_book.specs.declared.rule.entry.Event.{Event}
use Rattle.papaya_map_book.specs.declared.window.Window.{Window}
use Rattle.papaya_map_book.specs.Logs.{Stored}
use Rattle.papaya_map_book.specs.Sheets.{Sheet}
use Rattle.papaya_map_book.specs.Windows.{CanTrySlot, TriesSlot}
use Rattle.papaya_map_lookup.specs.Drivers.{past}
use Rattle.papaya_map_lookup.specs.History.{history_of}
use Rattle.papaya_map_lookup.specs.declared.lookup.Met.{Met}
use Rattle.papaya_map_change.specs.Changes.{IsChangeOf}
use Rattle.papaya_map_change.specs.Seeking.{Computes, at_live, next_state, met_by}
use Rattle.papaya_map_change.specs.Window.Seeking.{IsInsertingAt, IsSeekingAt}
use Rattle.papaya_map_change.specs.ClosureCalls.{IsSamePair}
use Rattle.papaya_map_change.specs.declared.fast_path.Tried.{Tried}
use Rattle.papaya_map_change.specs.declared.fast_path.Tried.TheVariants.{Put, Lost, Back}
use Rattle.papaya_map_change.specs.declared.fast_path.ProbeHit.{ProbeHit}

-- The pair that was stored in the arena, if any.
abbrev pub pair_in : {K V B : Type 0} → Tried K V B → Option (Stored K V)
pair_in (Put q) = Some q
pair_in (Lost q) = Some q
pair_in (Back b) = None

-- Whether that pair was put into the map.
abbrev pub is_put : {K V B : Type 0} → Tried K V B → Bool
is_put (Put q) = true
is_put (Lost q) = false
is_put (Back b) = false

-- `taken` is the very pair that a search met, or both are `None`.
abbrev pub AreSame : {K V : Type 0} → (met taken : Option (Stored K V)) → Type 0
AreSame met None = met ≡ None
AreSame {K} {V} met (Some p) = (q : Stored K V) × (met ≡ Some q) × IsSamePair q p

module _ {K V S H : Type 0} {d : keyed.Ghosts S K H} where
  -- Each call that this outcome led to its state has put in the pair `q`, in place of the one that
  -- it met, if any.
  abbrev pub Offers : (w w' : Window K V S H d) → K → Sheet → ProbeHit (Met K V) → Stored K V → Type 0
  Offers w w' key table turn q = (begun : List (Event K V S)) (state : State)
      → next_state turn ≡ Some state → IsInsertingAt w key begun state (met_by turn) table
      → (taken : Option (Stored K V)) × AreSame (met_by turn) taken
      × IsChangeOf (d.keys.eq key) (history_of begun) (past w') taken (Some q)

  -- A compute that began at the log `begun` is about to call its closure with the live pair that
  -- its search met.
  abbrev pub CallsWith : Window K V S H d → K → List (Event K V S) → Sheet → Met K V → Type 0
  CallsWith w key begun table met = IsSeekingAt Computes w key begun
      (at_live Computes met.place met.word) (Some met.stored) table

  -- Each such compute has taken out that very pair.
  abbrev pub TakesOut : (w w' : Window K V S H d) → K → Sheet → Met K V → Type 0
  TakesOut w w' key table met = (begun : List (Event K V S)) → CallsWith w key begun table met
      → (taken : Stored K V) × IsSamePair met.stored taken
      × IsChangeOf (d.keys.eq key) (history_of begun) (past w') (Some taken) None

  -- The deletion of the pair that a search met may be tried.
  abbrev pub CanBury : Window K V S H d → Met K V → Type 0
  CanBury w met = CanTrySlot w met.place.table met.place.probe.i (Some Bury)
      (met.word, grave_word met.word)

  -- The deletion of the pair that a search met was tried. If it succeeded, the pair that it took
  -- out is the very one that was met.
  pub record TriesBurial (w w' : Window K V S H d) (met : Met K V) (went : Bool) : Type 0 where
    pub found : ℕ
    pub before : Option (Stored K V)
    pub tried : TriesSlot w w' met.place.table met.place.probe.i (Some Bury)
        (met.word, grave_word met.word) found before
    pub went_is : went ≡ (found == met.word)
    pub same : went ≡ true → (taken : Stored K V) × (before ≡ Some taken)
        × IsSamePair met.stored taken
