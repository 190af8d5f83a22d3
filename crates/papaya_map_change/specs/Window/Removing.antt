-- A removal on the shared map: what it holds and relies on, by what it searches for and what it has
-- observed of the map.
use Rattle.std.specs.Prelude.{Bool, Option}
use Rattle.papaya_call.specs.declared.ask.Answer.{Answer}
use Rattle.papaya_call.specs.declared.call.Reply.{Reply}
use Rattle.papaya_map_book.specs.declared.keyed.Keyed as keyed
use Rattle.papaya_map_book.specs.declared.window.Window.{Window}
use Rattle.papaya_map_book.specs.Keys.{Query}
use Rattle.papaya_map_book.specs.Logs.{Stored}
use Rattle.papaya_map_book.specs.Parts.{begun_of}
use Rattle.papaya_map_change.specs.declared.removal.Removal.{Removal}
use Rattle.papaya_map_change.specs.Removing as removing

module _ {K V S H F : Type 0} {d : keyed.Ghosts S K H} (query : Query K S)
    (judges : F → Stored K V → Bool → F → Type 0) where
  abbrev pub CanRemove : Window K V S H d → Removal K V S H → F → Type 0
  CanRemove w x f = removing.CanRemove d.keys.eq d.keys.hash (begun_of w.book.now.parts)
      w.book.now.begun.book query.matches (query.hash w.book.now.parts.hasher) judges w.sight.log x
      f

  abbrev pub Removes : Window K V S H d → Removal K V S H → F → Window K V S H d → Removal K V S H
      → F → Option Answer → Type 0
  Removes w x f w' x' f' answer = removing.Removes d.keys.eq d.keys.hash (begun_of w.book.now.parts)
      w.book.now.begun.book query.matches (query.hash w.book.now.parts.hasher) judges w.sight.log x
      f w'.sight.log x' f' answer

module _ {K V S H : Type 0} {d : keyed.Ghosts S K H} where
  -- A removal with this reply holds the pairs that its result needs.
  abbrev pub HoldsResult : Window K V S H d → Removal K V S H → Reply → Type 0
  HoldsResult w = removing.HoldsResult (begun_of w.book.now.parts) w.book.now.begun.book
