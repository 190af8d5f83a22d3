-- An insertion on the shared map: what it holds and relies on, by what it has observed of the map.
use Rattle.std.specs.Prelude.{Option}
use denote.Bor.{Bor}
use Rattle.papaya_call.specs.declared.ask.Answer.{Answer}
use Rattle.papaya_map_book.specs.declared.keyed.Keyed as keyed
use Rattle.papaya_map_book.specs.declared.window.Window.{Window}
use Rattle.papaya_map_book.specs.Parts.{begun_of}
use Rattle.papaya_map_change.specs.declared.insertion.Insertion.{Insertion}
use Rattle.papaya_map_change.specs.Inserting as inserting

module _ {K V S H : Type 0} {d : keyed.Ghosts S K H} where
  abbrev pub CanInsert : Window K V S H d → Insertion K V S H → Type 0
  CanInsert w x = inserting.CanInsert d.keys.eq d.keys.hash (begun_of w.book.now.parts)
      w.book.now.begun.book w.sight.log x

  abbrev pub Inserts : Window K V S H d → Insertion K V S H → Window K V S H d → Insertion K V S H
      → Option Answer → Type 0
  Inserts w x w' x' answer = inserting.Inserts d.keys.eq d.keys.hash (begun_of w.book.now.parts)
      w.book.now.begun.book w.sight.log x w'.sight.log x' answer

  abbrev pub HasPut : Window K V S H d → Insertion K V S H → Option (Bor V) → Type 0
  HasPut w x answer = inserting.HasPut d.keys.eq d.keys.hash (begun_of w.book.now.parts)
      w.book.now.begun.book w.sight.log x answer

  abbrev pub HasPutSince : Window K V S H d → Insertion K V S H → Window K V S H d
      → Option (Bor V) → Type 0
  HasPutSince w x w' answer = inserting.HasPutSince d.keys.eq d.keys.hash
      (begun_of w.book.now.parts) w.book.now.begun.book w.sight.log x w'.sight.log answer
