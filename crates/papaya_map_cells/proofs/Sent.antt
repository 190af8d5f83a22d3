-- The resources that a counter and a slot own and share name no token of one thread.
use Rattle.std.proofs.Common.{ℕ, zero, suc}
use base.Fraction.{full_share}
use base.Shift.{Keyless}
use types.Keyed.{token, entry_keyless, entries_keyless}
use denote.RattleType.{RattleType}
use denote.Param.Send.{IsSend, IsSync, part_keyless}
use Rattle.boxcar.specs.Slot.{Phase, free, busy, full, Turn}
use Rattle.papaya_map_cells.specs.Counted.{held}
use Rattle.papaya_map_cells.specs.Slots.{Named, at, told, tie, lent}

pub held_keyless : (name n back : ℕ) → Keyless (held name n back)
held_keyless name n zero = entries_keyless token name n (λ _. tt)
held_keyless name n (suc back) = (entry_keyless token name n tt, held_keyless name (suc n) back)

module _ (R : RattleType) (l : Named) where
  pub told_keyless : (s : Phase R.Denot) → Keyless (told R l s)
  told_keyless free = tt
  told_keyless busy = entry_keyless token l.counter l.number tt
  told_keyless (full x) = (entry_keyless token l.counter l.number tt, tt)

  pub tie_keyless : (t : Turn) (b o : ℕ) (s : Phase R.Denot) → Keyless (tie R l t b o s)
  tie_keyless t b o free = λ v. tt
  tie_keyless t b o busy = tt
  tie_keyless t b o (full x) = tt

  pub lent_keyless : IsSend R → IsSync R → (t : Turn) (b o : ℕ) (s : Phase R.Denot) → Keyless (lent R l t b o s)
  lent_keyless send sync t b o free = λ u. (part_keyless R send full_share u b (at R o), tt)
  lent_keyless send sync t b o busy = tt
  lent_keyless send sync t b o (full x) = sync.shared x b (at R o) t.0
