-- The rule of a hint as one of `logbook`'s: the same, except that an untracked word has the rule of a hint beside this word.
use mir.Syntax.{Body, seq, skip}
use Rattle.logbook.specs.Pages.{Named}
use Rattle.logbook.specs.declared.tokens.Rule.{Ghosts as Rule}
use Rattle.papaya_map_cells.specs.declared.hint.Hinting.{Ghosts as Hinting}
use Rattle.papaya_map_cells.specs.Untracked.{Says}

module _ {P E A : Type 0} (g : Rule P E A) (h : Hinting P E) where
  abbrev pub beside_word : Named → Rule P E A
  beside_word w = record {
    holds = g.holds;
    first = g.first;
    hinted = Says h.hinted_beside w.tracked w.key;
    shows = g.shows;
    keeps = g.keeps;
    moves = g.moves;
  }

-- the rest of a body after its first statement
abbrev pub after_first : Body → Body
after_first (seq first rest) = rest
after_first other = skip
