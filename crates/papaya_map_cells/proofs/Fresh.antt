-- A fresh word, which holds 0 and has no other rule, becomes another word. Assumes `Logic`.
use Rattle.std.proofs.Common.{◌≡◌, ℕ, Bool, false, List, [], ◌∷◌, refl}
use seplogic.Ra.Ura.{Ura}
use mir.Val.{Val}
use base.Logic.{ent, sep}
use base.Fml.{fsep}
use types.Logic.{Logic, sem}
use types.Kit.{‵, ◌$◌, ◌∵◌, !, qed, move, drop, fsplit, fjoin, fpick, fpack, rewrite, done}
use denote.RattleType.{RattleType}
use Rattle.logbook.specs.Pages.{Named}
use Rattle.logbook.specs.Kept.{beside, inner}
use Rattle.logbook.specs.declared.tokens.Rule.{Ghosts as Rule}
use Rattle.logbook.specs.contracts.word.Word as Word
use Rattle.logbook.specs.contracts.word.Word.TheInside as Inside

module _ {M : Type 1} {𝓤 : Ura M} (𝓛 : Logic 𝓤) (E A P : RattleType)
    (g g' : Rule P.Denot E.Denot A.Denot) where
  abbrev Fields : RattleType
  Fields = Inside.the_row E A P g

  -- requires that the word's number is 0, and the resource that the other word has beside it
  pub becomes : (w w' : Named) (vs : List Val) → w.tracked ≡ false
      → ((number : ℕ) (log : List E.Denot) → g.hinted number log → number ≡ 0)
      → ent 𝓤
      (sep 𝓤 (sem 𝓛 ((Word.the_row E A P g).own_val w vs)) (sem 𝓛 (inner E.coded.code g'.hinted w' 0)))
      (sem 𝓛 ((Word.the_row E A P g').own_val w' vs))
  becomes w w' vs fresh nought =
      let bits : ℕ → Fields.Denot = λ n. record { bits = n; marker = record {} } in
      qed 𝓛 (‵ ((Word.the_row E A P g).own_val w vs) ∷ ‵ (inner E.coded.code g'.hinted w' 0) ∷ []) ∵
      fsplit ! $ move ! (1 ∷ []) $ fpick ! (λ n. fsplit ! $ move ! (1 ∷ []) $
      rewrite ! 0 (λ (t : Bool). ‵ (beside E.coded.code g.hinted t w.key w.book n)) fresh refl $
      fpick ! (λ log. fsplit ! $ drop ! $ fpick ! (λ said. drop ! $
      rewrite ! 0 (λ (m : ℕ). ‵ (Fields.own_val (bits m) vs)) (nought n log said) refl $
      -- [the field; that it fits; the resource beside the other word]
      move ! (0 ∷ 2 ∷ []) $ fjoin ! $
      fpack ! ℕ (λ m. fsep (Fields.own_val (bits m) vs) (inner E.coded.code g'.hinted w' m)) 0 $
      move ! (1 ∷ 0 ∷ []) $ fjoin ! $ done !)))
