-- How refusals are reported.
use Rattle.std.specs.Prelude.{ℕ, List, codes}
use Rattle.papaya_words.specs.declared.refused.Refused.{Refused}
use Rattle.papaya_words.specs.declared.refused.Refused.TheVariants.{Memory, Capacity, WrongGuard, RemoveNothing, ZeroChunk, Shape, KeyClash, Item, Limit}

-- the number by which a refusal is reported
abbrev pub number_of : Refused → ℕ
number_of Memory = 1
number_of Capacity = 2
number_of WrongGuard = 3
number_of RemoveNothing = 4
number_of ZeroChunk = 5
number_of Shape = 6
number_of KeyClash = 7
number_of Item = 8
number_of Limit = 9

-- the name by which a refusal is reported
abbrev pub name_of : Refused → List ℕ
name_of Memory = codes "Memory"
name_of Capacity = codes "Capacity"
name_of WrongGuard = codes "WrongGuard"
name_of RemoveNothing = codes "RemoveNothing"
name_of ZeroChunk = codes "ZeroChunk"
name_of Shape = codes "Shape"
name_of KeyClash = codes "KeyClash"
name_of Item = codes "Item"
name_of Limit = codes "Limit"

-- the reason in words, which a refusal prints
abbrev pub reason_of : Refused → List ℕ
reason_of Memory = codes "out of memory"
reason_of Capacity = codes "no capacity: a size would exceed a limit of the map"
reason_of WrongGuard = codes "wrong guard: it belongs to another collector than the map's"
reason_of RemoveNothing = codes "nothing to remove: the key has no entry"
reason_of ZeroChunk = codes "a chunk of a resize needs at least one slot"
reason_of Shape = codes "wrong JSON: a map is read from an object, and a set from an array"
reason_of KeyClash = codes "two keys have the same JSON text"
reason_of Item = codes "an item was not converted to JSON or from it"
reason_of Limit = codes "pair limit reached: reclaim the map, or build it with a larger limit"
