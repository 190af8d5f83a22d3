-- The parts of a pair that is to be stored in the arena: a key and a value, each its own or that of
-- a stored pair.
use Rattle.boxcar.specs.Table.{Shows}
use Rattle.papaya_map_book.specs.Pairs.{IsKeyIn, IsValueIn}
use Rattle.papaya_map_book.specs.declared.book.Book.{Book}
use Rattle.papaya_map_book.specs.declared.book.pairs.KeyPart.{KeyPart}
use Rattle.papaya_map_book.specs.declared.book.pairs.KeyPart.TheVariants as keys
use Rattle.papaya_map_book.specs.declared.book.pairs.ValuePart.{ValuePart}
use Rattle.papaya_map_book.specs.declared.book.pairs.ValuePart.TheVariants as values

abbrev pub key_in : {K V : Type 0} → KeyPart K V → K
key_in (keys.Own k) = k
key_in (keys.Of p) = p.value.key.value

abbrev pub value_in : {K V : Type 0} → ValuePart K V → V
value_in (values.Own v) = v
value_in (values.Of p) = p.value.value

-- If the key is taken from a pair, that pair and its key are stored in the arena of the book.
abbrev pub IsKeyPartIn : {K V S H : Type 0} → Book K V S H → KeyPart K V → Type 0
IsKeyPartIn book (keys.Own k) = Unit {0}
IsKeyPartIn book (keys.Of p) = Shows book.parts.pairs p × IsKeyIn book.parts.pairs p.value.key

-- The same for a value.
abbrev pub IsValuePartIn : {K V S H : Type 0} → Book K V S H → ValuePart K V → Type 0
IsValuePartIn book (values.Own v) = Unit {0}
IsValuePartIn book (values.Of p) = Shows book.parts.pairs p × IsValueIn book.parts.pairs p.value
