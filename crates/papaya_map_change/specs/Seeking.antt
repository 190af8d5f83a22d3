-- The search of an insertion's or a compute's fast path. The machines of these calls, which nothing
-- runs, exist in the proof alone.
use Rattle.std.specs.Prelude.{◌≡◌, ℕ, ◌+◌, ◌-◌, Bool, true, false, Option, None, Some, List, []}
use denote.Bor.{Bor}
use Rattle.logbook.specs.Pages.{Book}
use Rattle.papaya_words.specs.declared.resize_mode.ResizeMode.{ResizeMode}
use Rattle.papaya_call.specs.declared.call.Task.{Task}
use Rattle.papaya_call.specs.declared.call.Task.TheVariants.{Insert, Compute}
use Rattle.papaya_call.specs.declared.search.Place.{Place}
use Rattle.papaya_call.specs.declared.search.Search.TheVariants.{Looking}
use Rattle.papaya_call.specs.declared.search.ProbeStep.{ProbeStep}
use Rattle.papaya_call.specs.declared.search.ProbeStep.TheVariants.{On, Empty as Seen_empty}
use Rattle.papaya_call.specs.declared.search.ProbeStep.TheVariants.{Over as Seen_over}
use Rattle.papaya_call.specs.declared.compute.Gap.TheVariants.{At as At_place}
use Rattle.papaya_call.specs.declared.machine.State.{State}
use Rattle.papaya_call.specs.declared.machine.State.TheVariants.{Growing, Offering, Searching}
use Rattle.papaya_call.specs.declared.machine.State.TheVariants.{Showing, Writing}
use Rattle.papaya_call.specs.declared.need.Need.TheVariants.{Room}
use Rattle.papaya_call.specs.declared.made.Made.{Made}
use Rattle.papaya_call.specs.Made.{nothing_made}
use Rattle.papaya_call.specs.Machine.{started}
use Rattle.papaya_call.specs.declared.chain.machine.Machine.{Machine}
use Rattle.papaya_call.specs.declared.chain.machine.Phase.TheVariants.{Calling}
use Rattle.papaya_map_book.specs.declared.rule.entry.Begun.{Begun}
use Rattle.papaya_map_book.specs.declared.rule.entry.Event.{Event}
use Rattle.papaya_map_book.specs.Logs.{Stored}
use Rattle.papaya_map_book.specs.Sheets.{Sheet}
use Rattle.papaya_map_change.specs.Changing.{IsCalling}
use Rattle.papaya_map_change.specs.declared.fast_path.ProbeHit.{ProbeHit}
use Rattle.papaya_map_change.specs.declared.fast_path.ProbeHit.TheVariants.{Next, Empty, Over, Else}
use Rattle.papaya_map_change.specs.declared.fast_path.ProbeHit.TheVariants.{Met as Met_pair}
use Rattle.papaya_map_lookup.specs.declared.lookup.Met.{Met}

-- The calls that such a search serves.
pub data Seeker : Type 0 where
  Inserts : Seeker
  Computes : Seeker

abbrev pub task_of : Seeker → Task
task_of Inserts = Insert true
task_of Computes = Compute

-- The machine of a call that has made `made` and is in this state, on a map of this initial
-- capacity.
abbrev pub seeker_at : Seeker → (hash : ℕ) → ResizeMode → (initial : ℕ) → Made → State → Machine
seeker_at who hash mode initial made state = record {
  call = record (started (task_of who) hash mode initial made.limit) { made = made; state = state };
  number = 0;
  helped = false;
  phase = Calling;
}

abbrev pub insertion_at : (hash : ℕ) → ResizeMode → (initial : ℕ) → Made → State → Machine
insertion_at hash mode initial made state = seeker_at Inserts hash mode initial made state

-- The outcome of a place at which no pair of the key was met, by the search's next step.
abbrev pub hit_of : {M : Type 0} → ProbeStep → ProbeHit M
hit_of (On (Looking at)) = Next at
hit_of (Seen_empty at) = Empty at
hit_of (Seen_over table) = Over table
hit_of _ = Else

-- The state in which a call continues at an empty place, and (`at_live`) at a live pair of the key.
abbrev pub at_empty : Seeker → Place → State
at_empty Inserts at = Writing (record { place = at; old = 0 })
at_empty Computes at = Offering (At_place at)

abbrev pub at_live : Seeker → Place → (word : ℕ) → State
at_live Inserts at word = Writing (record { place = at; old = word })
at_live Computes at word = Showing (record { place = at; word = word })

-- The state in which an insertion continues that found no place in a table: it asks for a further
-- table. A compute has none.
abbrev pub at_over : Seeker → (table : ℕ) → Option State
at_over Inserts table = Some (Growing (Room table))
at_over Computes table = None

-- The state to which an outcome leads a call's machine, if it leads to a place or to a request for
-- a table.
abbrev pub leads : {K V : Type 0} → Seeker → ProbeHit (Met K V) → Option State
leads who (Next at) = Some (Searching (Looking at))
leads who (Empty at) = Some (at_empty who at)
leads who (Met_pair met) = Some (at_live who met.place met.word)
leads who (Over table) = at_over who table
leads who Else = None

abbrev pub next_state : {K V : Type 0} → ProbeHit (Met K V) → Option State
next_state turn = leads Inserts turn

-- The pair that the search met, if any.
abbrev pub met_by : {K V : Type 0} → ProbeHit (Met K V) → Option (Stored K V)
met_by (Met_pair met) = Some met.stored
met_by _ = None

-- How many places a search has left.
abbrev pub left_at : Place → ℕ
left_at at = at.limit + 1 - at.probe.len

abbrev pub left_to : {M : Type 0} → ProbeHit M → ℕ
left_to (Next at) = left_at at
left_to _ = 0

-- A call of this key that began at the log `begun` would be in this state now, and has loaded the
-- pair `met` last, if there is one. It has made no pair yet, and relies on this table.
abbrev pub IsSeekingAt : {K V S : Type 0} → Seeker → (K → K → Bool) → (S → K → ℕ) → Begun K V S
    → Book → K → (begun log : List (Event K V S)) → State → Option (Stored K V) → Sheet → Type 0
IsSeekingAt {K} {V} who eq hash b name key begun log state met table = (lent : Bor Sheet)
    × (lent.now ≡ table) × (last : Option (Stored K V))
    × ((p : Stored K V) → met ≡ Some p → last ≡ Some p)
    × IsCalling eq hash b name (eq key) (hash b.hasher key) (Some key) begun log
    (seeker_at who (hash b.hasher key) b.mode 1 (nothing_made b.limit) state) (Some lent) last None
    [] None None None

-- The same for an insertion.
abbrev pub IsInsertingAt : {K V S : Type 0} → (K → K → Bool) → (S → K → ℕ) → Begun K V S → Book → K
    → (begun log : List (Event K V S)) → State → Option (Stored K V) → Sheet → Type 0
IsInsertingAt eq hash b name key begun log state met table =
    IsSeekingAt Inserts eq hash b name key begun log state met table
