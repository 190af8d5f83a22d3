use Rattle.std.proofs.Common.{◌≡◌, subst, sym}
use denote.Bor.{Bor}
use Rattle.papaya_map_book.specs.Logs.{Stored}
use Rattle.papaya_map.specs.Frozen.{FindsKey}
use Rattle.papaya_map.proofs.Frozen.{finds_key}
use Rattle.papaya_map.proofs.map.read_only.ReadOnly.contains_key.Goals as goal

pub returns : goal.returns
returns g c = subst (FindsKey g.K.PartialEq.eq c.args.self.now.history (g.Q.Equivalent.matches c.args.key.now)) (sym c.is_some.ensures)
    (finds_key (λ (value : Bor g.row.V.Denot) (p : Stored g.row.K.Denot g.row.V.Denot). value.now ≡ p.value.value) g.K.PartialEq.eq
    (g.Q.Equivalent.matches c.args.key.now) c.args.self.now.history c.get.result c.get.ensures)
