-- The parts with which a book was opened, as its log records them.
use Rattle.papaya_map_book.specs.declared.rule.entry.Begun.{Begun}
use Rattle.papaya_map_book.specs.declared.book.parts.Parts.{Parts}

abbrev pub begun_of : {K V S H : Type 0} → Parts K V S H → Begun K V S
begun_of p = record {
  hasher = p.hasher;
  mode = p.mode;
  limit = p.limit;
  pairs = p.pairs;
  tables = p.tables;
}
