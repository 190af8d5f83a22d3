use Rattle.std.proofs.Common.{ℕ, Option, None, Some}
use Rattle.papaya_call.specs.declared.ask.At.{At}
use Rattle.papaya_call.specs.Made.{wanted}
use Rattle.papaya_call_law.specs.Alone.{IsNumberRead}
use Rattle.papaya_call_alone.proofs.ChainLaw.{call_current, call_nears}
use Rattle.papaya_call_alone.proofs.alone.alone_calls.Goals as goal

-- a number that is yet to be taken was not read
wanted_read : (words : At → ℕ) (limit : Option ℕ) → IsNumberRead words (wanted limit)
wanted_read words None = tt
wanted_read words (Some most) = tt

pub returns-clause-begins : goal.returns-clause-begins
returns-clause-begins g c = λ words task hash mode initial number limit. record { number = wanted_read words limit; read = (tt, tt) }

pub returns-clause-nearer : goal.returns-clause-nearer
returns-clause-nearer g c = λ h d hashed begun since may bounded k m loaded r made current answer es loaded' told served before later spends few valid.
    call_nears h d hashed begun since may bounded k m loaded r made current answer es loaded' told served before later spends few valid

pub returns-clause-current : goal.returns-clause-current
returns-clause-current g c = λ h d hashed begun since may bounded k m loaded r made current answer es loaded' told served.
    call_current h d hashed begun since may bounded k m loaded r made current answer es loaded' told served
