-- The resources of a counter: its word, and the ticket of each number that it has not given out or
-- that came back.
use Rattle.core.specs.Prelude.{ℕ, zero, suc}
use base.Fml.{Lft, Fml, ffalse, fsep, fex, fbor, finv}
use base.Before.{before}
use types.Keyed.{ticket, tickets_from}
use denote.RawPtr.{Ptr, block_ptr, null_ptr}
use Rattle.core.specs.Sync.RawAtomic.{word}

module _ (name : ℕ) where
  -- The tickets from `n` on. The first `back` of them were given out and came back.
  abbrev pub held : ℕ → ℕ → Fml
  held n zero = tickets_from name n
  held n (suc back) = fsep (ticket name n) (held (suc n) back)

  abbrev pub left : ℕ → Fml
  left n = fex ℕ (held n)

  abbrev pub counting : ℕ → ℕ → ℕ → Fml
  counting b o n = fsep (word b o n) (left n)

  abbrev pub counts : ℕ → ℕ → Fml
  counts b o = fex ℕ (counting b o)

  abbrev pub counts_while : ℕ → ℕ → Lft → Lft → Fml
  counts_while b o κ α = fsep (before κ α) (finv (fbor α (counts b o)))

  abbrev pub counter_shares : Ptr → Lft → Fml
  counter_shares (block_ptr b o) κ = fex Lft (counts_while b o κ)
  counter_shares null_ptr κ = ffalse
