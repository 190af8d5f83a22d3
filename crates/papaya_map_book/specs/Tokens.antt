-- The resources that a token of a `boxcar` vector owns, apart from its bytes.
use Rattle.std.specs.Prelude.{◌≡◌}
use base.Fml.{Fml, fsep, fex}
use denote.RattleType.{RattleType}
use Rattle.boxcar.specs.Slot.{written}
use Rattle.boxcar.specs.Table.{Where, IsAt, id_at}
use Rattle.boxcar.specs.contracts.table.Placed as Placed
use Rattle.boxcar.specs.contracts.table.Placed.TheInside as Inside
use Rattle.boxcar.specs.contracts.table.Entry as Entry
use Rattle.boxcar.specs.contracts.slot.OnceSlot as OnceSlot
use Rattle.boxcar.specs.contracts.table.EntrySlotRule.TheImpl as EntrySlotRule
use Rattle.boxcar.specs.contracts.vec.Anything as Anything
use Rattle.boxcar.specs.contracts.vec.AnythingKeeps.TheImpl as AnythingKeeps
use Rattle.std.specs.contracts.alloc.Global as Global
use Rattle.std.specs.contracts.impls.GlobalAllocator.TheImpl as GlobalAllocator
use Rattle.std.specs.contracts.vec.Vec as Vec

abbrev pub token_row : RattleType → RattleType
token_row R = Placed.the_row R Anything.the_row Global.the_row (AnythingKeeps.ghosts R)
    GlobalAllocator.ghosts

abbrev pub fields_row : RattleType → RattleType
fields_row R = Inside.the_row R Anything.the_row Global.the_row (AnythingKeeps.ghosts R)
    GlobalAllocator.ghosts

-- The type of the bucket that has a slot.
abbrev pub bucket_row : RattleType → RattleType
bucket_row R = Vec.the_row (OnceSlot.the_row R (Entry.the_row Anything.the_row)
    (EntrySlotRule.ghosts R Anything.the_row (AnythingKeeps.ghosts R) EntrySlotRule.no_dict))
    Global.the_row GlobalAllocator.ghosts

-- The private fields of a token that contracts see as `w`, and what holds of them.
abbrev pub Fields : (R : RattleType) → Where R.Denot → Type 0
Fields R w = (a : (fields_row R).Denot) × ((record {
  index = a.index;
  value = a.item.value;
  bucket = a.bucket;
  row = a.row.of;
  item = a.item.of;
} ≡ w) × (IsAt a.index a.bucket a.slot
    × (a.item.of ≡ id_at a.row.value.items a.slot)))

abbrev pub stands : (R : RattleType) → Where R.Denot → Fml
stands R w = fex (Fields R w) (λ x. fsep (written (bucket_row R) x.0.row.of x.0.row.value)
    (written R x.0.item.of x.0.item.value))
