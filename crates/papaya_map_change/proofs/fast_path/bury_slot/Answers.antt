use Rattle.std.proofs.Common.{◌≡◌, ap, eqb-true, ◌∙◌, rules, sym}
use Rattle.papaya_words.specs.Word.{buried_word}
use Rattle.papaya_call.specs.Remove.{grave_word}
use Rattle.papaya_map_change.proofs.fast_path.bury_slot.Goals.{then-found-word+in-Some, else-found-word}
use Rattle.papaya_map_change.proofs.fast_path.bury_slot.Goals as goal

pub exchange_slot-found-requires-clause-can : goal.exchange_slot-found-requires-clause-can
exchange_slot-found-requires-clause-can g c =
    let word : c.buried-grave.result.0 ≡ grave_word c.args.word = c.buried-grave.ensures ∙ ap buried_word c.pair.ensures in
    rw word c.requires.can

pub returns-clause-tried : goal.returns-clause-tried
returns-clause-tried g c =
    let word : c.buried-grave.result.0 ≡ grave_word c.args.word = c.buried-grave.ensures ∙ ap buried_word c.pair.ensures in
    rw (sym word) c.exchange_slot-found.ensures.tried

pub returns-clause-same : goal.returns-clause-same
returns-clause-same g c = λ is. elim c.if-found-word.branch [
  | then-found-word+in-Some w ↦
      let number : c.args.shown.now.index ≡ w.in-Some.taken.index = search rules in
      (w.in-Some.taken, w.in-Some.is, (number, w.agrees.ensures))
  | else-found-word w ↦ absurd (w.if-found-word.false (eqb-true c.exchange_slot-found.result.0 c.args.word is))
]
