-- An answer changes neither how the map grows nor its initial capacity.
use Rattle.std.proofs.Common.{◌≡◌, refl}
use Rattle.papaya_call.specs.declared.ask.Answer.{Answer}
use Rattle.papaya_call.specs.declared.ask.Answer.TheVariants.{Word, Exchanged, Found, Yes, Op, Size, Made, Ok, Refused}
use Rattle.papaya_call.specs.declared.machine.Machine.{Machine}
use Rattle.papaya_call.specs.Machine.{after}

pub settings_stable : (m : Machine) (answer : Answer) → ((after m answer).mode ≡ m.mode) × ((after m answer).initial ≡ m.initial)
settings_stable m (Word word) = (refl, refl)
settings_stable m Exchanged = (refl, refl)
settings_stable m (Found word) = (refl, refl)
settings_stable m (Yes same) = (refl, refl)
settings_stable m (Op kind) = (refl, refl)
settings_stable m (Size slots limit) = (refl, refl)
settings_stable m (Made n) = (refl, refl)
settings_stable m Ok = (refl, refl)
settings_stable m (Refused refused) = (refl, refl)
