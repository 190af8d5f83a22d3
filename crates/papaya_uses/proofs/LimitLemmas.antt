-- The reasons why a map without a limit fails to store an entry.
use Rattle.std.proofs.Common.{◌≡◌, ℕ, Option, None, Some, inl, inr, sym, ◌∙◌}
use Rattle.papaya.specs.Types.{Refused}
use Rattle.papaya.specs.Threads.{IsMemoryOrCapacity, IsWriteRefusal}

pub unlimited : (limit : Option ℕ) (taken : ℕ) (refused : Refused) → limit ≡ None → IsWriteRefusal limit taken refused → IsMemoryOrCapacity refused
unlimited limit taken refused none (inl plain) = plain
unlimited limit taken refused none (inr (is, spent)) = absurd (let e : None ≡ Some taken = sym none ∙ spent in cc e)
