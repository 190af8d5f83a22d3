use Rattle.std.specs.Fn.{FnReturnsAt}
use Rattle.papaya_json.proofs.ReadBack.{map_back}
use Rattle.papaya_json.proofs.laws.maps_read_back.Goals as goal

pub returns : goal.returns
returns g c = λ same s v t texts values apart written read.
    map_back g.K.PartialEq.eq g.met.K.Eq.laws (FnReturnsAt g.T.Fn c.args.text.now) (FnReturnsAt g.W.Fn c.args.member.now)
    (FnReturnsAt g.R.Fn c.args.key.now) (FnReturnsAt g.U.Fn c.args.value.now) same texts values s t apart v written read
