-- A `&` to a hint is made as one to an untracked word whose rule is the hint's rule beside this word.
use Prim.Native.Nat.{ℕ}
use seplogic.Ra.Ura.{Ura}
use base.Fraction.{full_share}
use base.Logic.{ent}
use types.Logic.{Logic, sem}
use denote.Memory.{part_at, part_of}
use denote.Model.Laws.{Lends-as}
use denote.Param.Laws.{Laws}
use denote.RattleType.{RattleType}
use denote.Written.Laws.{laid_out, Laid-in}
use Rattle.logbook.specs.contracts.word.Word as Word
use Rattle.logbook.specs.declared.tokens.Rule.{Ghosts as Rule}
use Rattle.logbook.specs.Pages.{Named, named_coded}
use Rattle.logbook.proofs.word.Word.TheLaws.{the_row_laws}
use Rattle.papaya_map_cells.specs.contracts.hint.Hint.{the_written}
use Rattle.papaya_map_cells.specs.declared.hint.Hinting.{Ghosts as Hinting}
use Rattle.papaya_map_cells.specs.Untracked.{untracked}
use Rattle.papaya_map_cells.proofs.Keyed.{beside_word}
use Rattle.papaya_map_cells.proofs.hint.Hint.TheLaw.Statement.{statement}

module _ (E A P : RattleType) (g : Rule P.Denot E.Denot A.Denot) (h : Hinting P.Denot E.Denot)
    (L : Laws E) (L' : Laws A) (L'' : Laws P) (d : Named) where
  abbrev hint : RattleType
  hint = the_written E A P g h

  abbrev word : RattleType
  word = Word.the_written E A P (beside_word g h d)

  abbrev laws : Laws (Word.the_row E A P (beside_word g h d))
  laws = the_row_laws E A P (beside_word g h d) L L' L''

  module _ {M : Type 1} {𝓤 : Ura M} (𝓛 : Logic 𝓤) (b o : ℕ) where
    -- the two have the same layout in memory and own the same
    opens : ent 𝓤 (sem 𝓛 (part_at hint full_share d b o))
        (sem 𝓛 (part_at (Word.the_row E A P (beside_word g h d)) full_share (untracked d) b o))
    unfolding part_of
    opens = Laid-in word Named named_coded (λ x. x) word.shr_at 𝓛 (untracked d) b o laws.one

    closes : ent 𝓤
        (sem 𝓛 (part_at (Word.the_row E A P (beside_word g h d)) full_share (untracked d) b o))
        (sem 𝓛 (part_at hint full_share d b o))
    unfolding part_of
    closes = laid_out word Named named_coded (λ x. x) word.shr_at 𝓛 (untracked d) b o laws.one

pub shares : (E A P : RattleType) (g : Rule P.Denot E.Denot A.Denot) (h : Hinting P.Denot E.Denot)
    (L : Laws E) (L' : Laws A) (L'' : Laws P) → statement E A P g h L L' L''
shares E A P g h L L' L'' = record {
  shr_laws = λ d b o. (laws E A P g h L L' L'' d).shr_laws (untracked d) b o;
  shares = λ M 𝓤 𝓛 d κ ts b o. let row = Word.the_row E A P (beside_word g h d) in
      Lends-as 𝓛 (part_at (hint E A P g h L L' L'' d) full_share d b o)
      (part_at row full_share (untracked d) b o)
      (row.shr_at (untracked d) b o) row.lives
      (opens E A P g h L L' L'' d 𝓛 b o) (closes E A P g h L L' L'' d 𝓛 b o)
      (λ κ' ts'. (laws E A P g h L L' L'' d).shares 𝓛 (untracked d) κ' ts' b o) κ ts;
}
