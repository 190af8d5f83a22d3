use Rattle.std.specs.Fn.{FnReturnsAt}
use Rattle.papaya_json.proofs.ReadBack.{set_back}
use Rattle.papaya_json.proofs.laws.sets_read_back.Goals as goal

pub returns : goal.returns
returns g c = λ s v t items apart written read.
    set_back g.K.PartialEq.eq g.met.K.Eq.laws (FnReturnsAt g.T.Fn c.args.item.now) (FnReturnsAt g.R.Fn c.args.key.now) items s t apart v written read
