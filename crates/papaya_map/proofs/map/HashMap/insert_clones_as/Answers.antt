use Rattle.std.proofs.Common.{◌++◌, ◌∷◌, [], List, refl, sym, ◌∙◌, subst}
use Rattle.std.proofs.lemmas.Slice.Zip.{all_zipped_more}
use Rattle.papaya_seq.specs.Clones.{Clones}
use Rattle.papaya_map.specs.Collected.{AreClonedBy}
use Rattle.papaya_map.proofs.Collected.{prefix_itself, stored_by_more}
use Rattle.papaya_map.proofs.Yielded.{are_yielded, none_yielded, one_yielded}
use Rattle.papaya_map.proofs.map.HashMap.insert_clones_as.Goals as goal

pub loop-key-init : goal.loop-key-init
loop-key-init g c = (
  none_yielded g.K.PartialEq.eq c.args.pairs.now c.requires.new,
  c.requires.book,
  subst
      (λ (ps : List (g.row.K.Denot × g.row.V.Denot)). AreClonedBy g.K.PartialEq.eq g.K.Clone.is_clone g.V.Clone.is_clone ps c.args.pass.now.history
      c.args.pass.now.history c.args.pass.now.made c.args.pass.now.made) (sym c.requires.new) ([], tt, (prefix_itself c.args.pass.now.history, refl)),
)

pub loop-key-preserved : goal.loop-key-preserved
loop-key-preserved g c =
    let l = c.loop-key in let copied = l.invariant.2 in let clones = Clones g.K.Clone.is_clone g.V.Clone.is_clone in
    let steps = c.in-Some.ensures.steps in
    let more = copied.0 ++ (c.in-Ok.own_key, c.in-Ok-clone.own_value) ∷ [] in (
      one_yielded g.K.PartialEq.eq c.args.pairs.now l.pairs c.next.new.self l.invariant.0 (c.in-Some.key, c.in-Some.value) steps,
      c.insert_as.ensures.book ∙ l.invariant.1,
      subst
          (λ (ps : List (g.row.K.Denot × g.row.V.Denot)). AreClonedBy g.K.PartialEq.eq g.K.Clone.is_clone g.V.Clone.is_clone ps c.args.pass.now.history
          c.insert_as.new.pass.history c.args.pass.now.made c.insert_as.new.pass.made) (sym steps.3) (
            more,
            all_zipped_more clones l.pairs.given copied.0 (c.in-Some.key.now, c.in-Some.value.now) (c.in-Ok.own_key, c.in-Ok-clone.own_value) copied.1
                (c.in-Ok.ensures.cases, c.in-Ok-clone.ensures.cases),
            stored_by_more g.K.PartialEq.eq copied.0 c.args.pass.now.history l.pass.history c.insert_as.new.pass.history c.args.pass.now.made l.pass.made
                c.insert_as.new.pass.made (c.in-Ok.own_key, c.in-Ok-clone.own_value) c.in-Ok-insert_as.field-0 copied.2 c.in-Ok-insert_as.ensures.put
                c.in-Ok-insert_as.ensures.made,
          ),
    )

pub returns-clause-yielded : goal.returns-clause-yielded
returns-clause-yielded g c = are_yielded g.K.PartialEq.eq c.args.pairs.now c.loop-key.pairs c.next.new.self c.loop-key.invariant.0 c.in_default.ensures.steps
