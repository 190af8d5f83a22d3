use Rattle.std.proofs.Common.{inr, refl, sym, subst}
use Rattle.papaya_words.specs.Word.{shut_hint}
use Rattle.papaya_words_law.specs.Hints.{IsHintOf}
use Rattle.papaya_words_law.proofs.exchanges.hints.Goals as goal
use Rattle.papaya_words_law.proofs.Hints.{hint_fills, hint_lasts, hint_none, hint_passes}

pub returns-clause-none : goal.returns-clause-none
returns-clause-none g c = λ h d w. hint_none h d w

pub returns-clause-lasts : goal.returns-clause-lasts
returns-clause-lasts g c = λ h d law s s' later t x n is. hint_lasts h d law s s' later t x n is

pub returns-clause-passes : goal.returns-clause-passes
returns-clause-passes g c = λ h d law k w n is other. hint_passes h d law k w n is other

pub returns-clause-fills : goal.returns-clause-fills
returns-clause-fills g c = λ h d law k w p e same. hint_fills h d law k w p e same

pub returns-clause-shut : goal.returns-clause-shut
returns-clause-shut g c = λ h d w e. subst (λ v. IsHintOf h d v shut_hint) (sym e) (inr refl)
