-- A call that resizes the shared map: what it holds and relies on, and why it is refused.
use Rattle.std.specs.Prelude.{◌≡◌, ◌⊎◌, ℕ, ◌+◌, ◌<◌, ◌≤◌, ◌^◌, Bool, Option, None, Some, List, [], ◌∷◌}
use Rattle.logbook.specs.Pages.{Book}
use Rattle.papaya_words.specs.declared.refused.Refused.{Refused as Cause}
use Rattle.papaya_words.specs.declared.refused.Refused.TheVariants.{Capacity, Memory}
use Rattle.papaya_call.specs.declared.call.Reply.TheVariants.{Refused}
use Rattle.papaya_call.specs.declared.copy.link.Link.TheVariants as links
use Rattle.papaya_call.specs.declared.chain.resizer.Resize.{Resize}
use Rattle.papaya_call.specs.declared.chain.resizer.Resize.TheVariants.{Reserve}
use Rattle.papaya_call.specs.declared.chain.resizer.Resizer.{Resizer}
use Rattle.papaya_call.specs.declared.chain.resizer.ResizerState.{ResizerState as Stage}
use Rattle.papaya_call.specs.declared.chain.resizer.TableSize.{TableSize}
use Rattle.papaya_call.specs.declared.chain.resizer.ResizerState.TheVariants.{Opening, Counting, Looking, Done}
use Rattle.papaya_call.specs.Resizer.{reply_of}
use Rattle.papaya_call.specs.TableSize.{entries_of}
use Rattle.papaya_call_law.specs.Resizers.{ReliesResizer, link_of}
use Rattle.papaya_map_book.specs.declared.rule.entry.Begun.{Begun}
use Rattle.papaya_map_book.specs.declared.rule.entry.Event.{Event}
use Rattle.papaya_map_book.specs.declared.rule.own.CapacityCause.{CapacityCause}
use Rattle.papaya_map_book.specs.declared.rule.own.CapacityCause.TheVariants.{Sum}
use Rattle.papaya_map_book.specs.Limits.{HasNoRoom, tables_of}
use Rattle.papaya_map_book.specs.Logs.{Member, coding_of, pair_named, setting_of, state_of}
use Rattle.papaya_map_book.specs.Rule.{IsLawfulLog, IsPlaced}
use Rattle.papaya_map_change.specs.declared.copier.Copier.{Copier}
use Rattle.papaya_map_change.specs.Changing.{HasChunks, IsFresh, IsSizedBy, loaded_with}

-- Room was requested for more pairs than a table may have slots for: for `more` beside as many as
-- the sum of the count, or beside none if there is no table.
pub record IsTooMuch (more : ℕ) (given : List CapacityCause) : Type 0 where
  pub count : ℕ
  pub counted : (count ≡ 0) ⊎ (given ≡ Sum count ∷ [])
  pub long : 2 ^ 32 < entries_of (count + more)

-- There is no room for `more` further pairs.
abbrev pub HasNoRoomAhead : (initial more : ℕ) → (tables : List ℕ) → List CapacityCause → Type 0
HasNoRoomAhead initial more tables given = HasNoRoom initial tables given ⊎ IsTooMuch more given

abbrev pub HasNoRoomFor : (initial : ℕ) → Resize → (tables : List ℕ) → List CapacityCause → Type 0
HasNoRoomFor initial (Reserve more) tables given = HasNoRoomAhead initial more tables given
HasNoRoomFor initial _ tables given = HasNoRoom initial tables given

-- There is room for `more` further pairs: one of the tables has slots for them beside as many pairs
-- as the sum of the count.
pub record HasRoomAhead (more : ℕ) (tables : List ℕ) (given : List CapacityCause) : Type 0 where
  pub count : ℕ
  pub counted : given ≡ Sum count ∷ []
  pub len : ℕ
  pub there : Member len tables
  pub room : entries_of (count + more) ≤ len

-- The request is met: if room was requested, there is that room.
abbrev pub HasRoomFor : Resize → (tables : List ℕ) → List CapacityCause → Type 0
HasRoomFor (Reserve more) tables given = HasRoomAhead more tables given
HasRoomFor _ tables given = Unit {0}

-- If room was requested, its size is known.
abbrev pub IsWantedBy : Resize → Option TableSize → Type 0
IsWantedBy (Reserve more) None = ⊥
IsWantedBy _ room = Unit {0}

-- At this stage the resizer knows the length of the root, or the size of the room that was
-- requested; once it is done, the request is met.
abbrev pub IsRoomIn : Resize → (tables : List ℕ) → List CapacityCause → Stage → Type 0
IsRoomIn resize tables given (Counting root len) = Member len tables
IsRoomIn resize tables given (Looking root len room) = IsWantedBy resize room
IsRoomIn resize tables given Done = HasRoomFor resize tables given
IsRoomIn resize tables given _ = Unit {0}

-- Why the resizer is refused: memory ran out, or there is no room for what was requested.
abbrev pub IsResizeEnd : (initial : ℕ) → Resize → (tables : List ℕ) → List CapacityCause → Cause
    → Type 0
IsResizeEnd initial resize tables given cause = (cause ≡ Memory)
    ⊎ ((cause ≡ Capacity) × HasNoRoomFor initial resize tables given)

-- A call that resizes relies on the log, and holds the pair that it loaded last and the one that it
-- carries. It holds a table that it made until it has tried to open or link it.
pub record IsResizing {K V S H : Type 0} (eq : K → K → Bool) (hash : S → K → ℕ) (b : Begun K V S)
    (name : Book) (log : List (Event K V S)) (m : Resizer) (h : Copier K V S H) : Type 0 where
  pub lawful : IsLawfulLog eq hash b log
  pub relies : ReliesResizer (setting_of eq (hash b.hasher) b.mode b.limit log)
      (coding_of (hash b.hasher)) (state_of log) m (loaded_with h.last h.kept [])
  pub last_placed : IsPlaced b (Some name) (pair_named h.last)
  pub kept_placed : IsPlaced b (Some name) (pair_named h.kept)
  pub opens : (n : ℕ) → m.state ≡ Opening n → IsFresh b name log n h.fresh
  pub brings : (behind n chunks : ℕ) → link_of m.state ≡ Some (links.Linking behind n chunks)
      → IsFresh b name log n h.fresh × HasChunks h.fresh chunks
  pub counts : IsSizedBy (tables_of log) (link_of m.state)
  pub room : IsRoomIn m.resize (tables_of log) h.given.done m.state
  pub ends : (cause : Cause) → reply_of m ≡ Some (Refused cause)
      → IsResizeEnd m.initial m.resize (tables_of log) h.given.done cause
