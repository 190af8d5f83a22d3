-- The resources that a token of the arena owns, apart from its bytes.
use Rattle.std.specs.Prelude.{◌≡◌}
use base.Fml.{Fml, fsep, fex}
use denote.RattleType.{RattleType}
use Rattle.boxcar.specs.Slot.{written}
use Rattle.boxcar.specs.Table.{Where}
use Rattle.papaya_map_cells.specs.contracts.arena_slot.ArenaSlot as Slot
use Rattle.std.specs.contracts.alloc.Global as Global
use Rattle.std.specs.contracts.impls.GlobalAllocator.TheImpl as GlobalAllocator
use Rattle.std.specs.contracts.vec.Vec as Vec
use Rattle.papaya_map_arena.specs.Rows.{IsAt, row_of}
use Rattle.papaya_map_arena.specs.contracts.token.Pushed as Pushed
use Rattle.papaya_map_arena.specs.contracts.token.Pushed.TheInside as Inside

abbrev pub token_row : RattleType → RattleType
token_row R = Pushed.the_row R

abbrev pub fields_row : RattleType → RattleType
fields_row R = Inside.the_row R

-- The type of the row that has a slot.
abbrev pub row_row : RattleType → RattleType
row_row R = Vec.the_row (Slot.the_row R) Global.the_row GlobalAllocator.ghosts

-- The private fields of a token that contracts see as `w`, and what holds of them.
abbrev pub Fields : (R : RattleType) → Where R.Denot → Type 0
Fields R w = (a : (fields_row R).Denot) × ((record {
  index = a.number;
  value = a.item.value;
  bucket = row_of a.number;
  row = a.row.of;
  item = a.item.of;
} ≡ w) × IsAt a.number a.row.value.items a.item.of)

abbrev pub stands : (R : RattleType) → Where R.Denot → Fml
stands R w = fex (Fields R w) (λ x. fsep (written (row_row R) x.0.row.of x.0.row.value)
    (written R x.0.item.of x.0.item.value))
