use Rattle.std.proofs.Common.{◌≡◌, ap}
use denote.Bor.{Bor}
use Rattle.papaya_map_book.specs.Logs.{Stored}
use Rattle.papaya_map_lookup.specs.History.{history_of, key_of}
use Rattle.papaya_map.specs.Frozen.{Frozen}
use Rattle.papaya_map.proofs.Frozen.{finds}
use Rattle.papaya_map.proofs.map.read_only.ReadOnly.get_key_value.Goals as goal

pub returns : goal.returns
returns g c =
    let now = ap (λ (z : Frozen g.row.K.Denot g.row.V.Denot g.row.S.Denot). z.history) c.self.view_is in
    let w = c.look_up_pair-found.new.window in
    finds (λ (entry : Bor g.row.K.Denot × Bor g.row.V.Denot) (p : Stored g.row.K.Denot g.row.V.Denot). (entry.0.now ≡ key_of p) × (entry.1.now ≡ p.value.value)) g.K.PartialEq.eq _ c.args.self.now.history c.self.inside.sight.log w.sight.log c.see_all.new.sight.log now c.see_all.ensures.seen
    c.see_all.ensures.all c.look_up_pair-found.result (rw (ap (λ (z : _). history_of z.log) c.new-window.ensures.sight) at c.look_up_pair-found.ensures.answered)
