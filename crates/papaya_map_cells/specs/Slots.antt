-- The resources that a slot owns and shares. It follows boxcar's `OnceSlot`, but has no word: the
-- thread that writes it brings the ticket of its number. The ticket stays with the slot, so it is
-- brought once.
-- Each time that the slot is shared, it takes a turn: a lifetime, and a name that tracks the value.
use Rattle.core.specs.Prelude.{◌≡◌, ℕ, ◌+◌}
use base.Stored.{Gv, Coded, gnil, gnum, gcons, coded×, coded_ℕ, coded_via}
use base.Fml.{Lft, GName, Fml, ftrue, ffalse, fsep, fex, fobs, fauth, fres, fbor, finv}
use base.Before.{before}
use prog.Memory.{up, align}
use types.Keyed.{ticket}
use types.SemTy.{Body}
use denote.RattleType.{RattleType}
use denote.Memory.{mem, lone, shared_of}
use denote.RawPtr.{Ptr, block_ptr, null_ptr}
use Rattle.boxcar.specs.Slot.{Phase, free, busy, full, Turn, fact, written}

-- A slot as contracts see it.
pub record Named : Type 0 where
  pub id : GName
  pub counter : GName
  pub number : ℕ

abbrev pub named_coded : Coded Named
named_coded = coded_via (coded× coded_ℕ (coded× coded_ℕ coded_ℕ))
    (λ (l : Named). (l.id, (l.counter, l.number)))
    (λ x y e i. record { id = (e i).0; counter = (e i).1.0; number = (e i).1.1 })

-- The field's value, and the slot's phase.
abbrev pub Rest : Type 0 → Type 0
Rest X = X × Phase X

module _ (R : RattleType) where
  -- The code of a phase. At `full x`, `written R γ x` is the part of it that lasts.
  abbrev pub mark : Phase R.Denot → Gv
  mark free = gnil
  mark busy = gnum 0
  mark (full x) = gcons (R.coded.code x) gnil

  abbrev pub Lies : R.Denot → Phase R.Denot → Type 0
  Lies v free = Unit {0}
  Lies v busy = Unit {0}
  Lies v (full x) = v ≡ x

  -- The offset of the field of a slot that is at offset `o`.
  abbrev pub at : ℕ → ℕ
  at o = o + up (align (lone R.mir)) 0

  module _ (l : Named) where
    abbrev pub told : Phase R.Denot → Fml
    told free = fobs l.id gnil
    told busy = ticket l.counter l.number
    told (full x) = fsep (ticket l.counter l.number) (written R l.id x)

    abbrev pub resting : Rest R.Denot → Fml
    resting s = fsep (fauth l.id (mark s.1)) (fsep (told s.1) (fact (Lies s.0 s.1)))

    module _ (t : Turn) (b o : ℕ) where
      abbrev pub Value : Fml
      Value = Body (mem R) b (at o) t.1

      abbrev pub tie : Phase R.Denot → Fml
      tie free = fex R.Denot (λ v. fobs t.1 (R.coded.code v))
      tie busy = ftrue
      tie (full x) = fres t.1 (R.coded.code x)

      abbrev pub lent : Phase R.Denot → Fml
      lent free = fbor t.0 Value
      lent busy = ftrue
      lent (full x) = shared_of R x b (at o) t.0

      abbrev pub tied : Phase R.Denot → Fml
      tied s = fsep (fauth l.id (mark s)) (fsep (told s) (tie s))

      abbrev pub standing : Phase R.Denot → Fml
      standing s = fsep (fauth l.id (mark s)) (fsep (told s) (fsep (tie s) (lent s)))

      abbrev pub Cell : Fml
      Cell = fex (Phase R.Denot) standing

      abbrev pub kept : Lft → Fml
      kept κ = fsep (before κ t.0) (finv (fbor t.0 Cell))

    abbrev pub shared_at : ℕ → ℕ → Lft → Fml
    shared_at b o κ = fex Turn (λ t. kept t b o κ)

    abbrev pub shared : Ptr → Lft → Fml
    shared (block_ptr b o) κ = shared_at b o κ
    shared null_ptr κ = ffalse
