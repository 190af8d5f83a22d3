use Rattle.std.proofs.Common.{◌≡◌, take}
use Rattle.std.specs.List.{count_by}
use Rattle.papaya_uses.specs.Words.{count_in}
use Rattle.papaya_uses.proofs.words.count_words.Given as goal

-- the map has the counts of the words so far
abbrev pub invariant-loop-word : goal.invariant-loop-word
invariant-loop-word g l = (w : _) → count_in g.W.PartialEq.eq l.counts.store w ≡ count_by (g.W.PartialEq.eq w) (take l.word-index l.fn.words)
