use Rattle.std.proofs.Common.{ap, ◌∙◌}
use Rattle.papaya_map_lookup.specs.History.{Past, history_of}
use Rattle.papaya_map.proofs.Lives.{event_within, law_within, named_within, step_within}
use Rattle.papaya_map.proofs.OwnEntries.{history_by}
use Rattle.papaya_map.proofs.pass.Pass.tell.Goals as goal

pub tell-requires : goal.tell-requires
tell-requires g c κs is =
    let n = is.1.1.1.1 in let l = n.1.1 in let s = l.1.1.1 in (
      is.0,
      (
        event_within g.row.K g.row.V is.1.0 is.1.1.0 g.row.S is.1.1.1.0,
        (
          named_within g.row.K g.row.V n.0 n.1.0,
          (law_within g.row.K g.row.V l.0 l.1.0 g.row.S l.1.1.0, step_within g.row.K g.row.V s.0 s.1),
        ),
      ),
    )

pub returns-clause-made : goal.returns-clause-made
returns-clause-made g c = ap history_of c.tell.ensures.4 ∙ history_by g.row.K.Denot g.row.V.Denot g.row.S.Denot c.self.inside.own.done
    ∙ ap (λ (z : Past g.row.K.Denot g.row.V.Denot). z.made) c.self.view_is
