use Rattle.std.proofs.Common.{[], refl}
use Rattle.papaya_call_law.proofs.chain.begins.Goals as goal
use Rattle.papaya_call_law.proofs.ReliesLearnPairs.{wanted_relies}

pub returns : goal.returns
returns g c = λ s c' begun k task mode initial number limit resizes most cut. record {
  cut = cut;
  call = record {
    hash = refl;
    mode = resizes;
    made = record {
      keys = λ q one. absurd one;
      limit = most;
      number_is = wanted_relies s c' begun [] k limit;
      own_is = tt;
      of_is = tt;
      fill_is = tt;
      choice_is = tt;
    };
    stage = tt;
  };
  phase = tt;
}
