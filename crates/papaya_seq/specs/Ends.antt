-- The map after the borrow in a call's result has ended.
use Rattle.std.specs.Prelude.{⊤}
use Rattle.std.specs.Borrow.{Fml, RattleType, MutBor, follows_so}
use Rattle.std.specs.HashMap.Lent.{HashMembers}
use Rattle.std.specs.declared.hash.Hasher as hasher
use Rattle.std.specs.declared.hash.BuildHasher as builder
use mathlib.Core.Option.{none}
use Rattle.papaya_seq.specs.Map.{MapState}
use Rattle.papaya_seq.specs.contracts.seq.HashMap.{the_row}

module _ (K V S H : RattleType) (key : HashMembers K.Denot) (build : builder.Ghosts S.Denot H.Denot)
    (hash : hasher.Ghosts H.Denot) where
  -- the type of the map in the logic
  abbrev pub map_row : RattleType
  map_row = the_row K V S H (record { hash_input = key.hash_input }) (record { eq = key.eq }) build
      hash

  -- P holds of the map once the borrow in the call's result has ended
  abbrev pub ends_so : MutBor (MapState K.Denot V.Denot S.Denot)
      → (MapState K.Denot V.Denot S.Denot → Type 0) → Fml
  ends_so m P = follows_so map_row map_row m.ghost_name none (λ _ _. ⊤) P
