-- A count that was increased or started, and a count that was read.
use Rattle.std.proofs.Common.{◌≡◌, ◌==◌, ◌+◌, ◌-◌, ◌^◌, min, ℕ, Option, None, Some, Ok, inl, inr, option_map, refl, sym, ◌∙◌, ap, subst}
use Rattle.std.specs.Fn.{FnReturnsAt, Shared}
use Rattle.std.specs.Prelude.{Result, IfOk}
use Rattle.std.specs.Borrow.{Bor}
use mathlib.Core.List.{IsPrefix}
use Rattle.papaya.specs.Types.{Refused}
use Rattle.papaya.specs.Threads.{IsAnsweredBetween, IsLegalHistory, IsUpserted, key_of}
use Rattle.papaya_uses.specs.Hits.{HasCounted, IsCountOf, Seen}
use Rattle.papaya_uses.proofs.PutLemmas.{put_at}

-- an update by a closure that counts one more, or a first count of 1
module _ {F : Type 0} (g : Shared F (Bor ℕ × Unit {0}) ℕ) (f : F)
    (more : (shown : Bor ℕ) (n : ℕ) → g.post f (shown, tt) n → n ≡ min (shown.now + 1) (2 ^ 64 - 1)) (page : ℕ) where
  abbrev HasStored : Seen → Seen → Bor ℕ → Type 0
  HasStored old new v = IsUpserted (λ a b. a == b) page old new (FnReturnsAt g f) (λ w. w ≡ 1) v

  counts : (old new : Seen) (v : Bor ℕ) → IsLegalHistory (λ a b. a == b) key_of new → HasStored old new v → HasCounted page old new v.now
  counts old new v legal (inl (p, q, change, key_is, says, is)) = (
    Some p,
    q,
    change,
    put_at page old new (Some p) q change legal,
    sym is,
    is
        ∙ more says.shown q.value.value says.says.met ∙ ap (λ n. min (n + 1) (2 ^ 64 - 1)) says.shows,
  )
  counts old new v legal (inr (q, change, key_is, first, is)) = (None, q, change, key_is, sym is, is ∙ first)

  pub counted : (old new : Seen) (r : Result (Bor ℕ) Refused) → IsLegalHistory (λ a b. a == b) key_of new → IfOk r (HasStored old new) → (v : Bor ℕ)
      → r ≡ Ok v → HasCounted page old new v.now
  counted old new r legal stored v is = counts old new v legal (subst (λ z. IfOk z (HasStored old new)) is stored)

-- a lookup's result since a pin was correct in some history
pub read_of : (page : ℕ) (seen : Seen) (answer : Option (Bor ℕ)) → ((h : Seen) × (IsLegalHistory (λ a b. a == b) key_of h × IsPrefix seen h
    × IsAnsweredBetween (λ a b. a == b) (λ key. page == key) seen h answer)) → IsCountOf page (option_map (λ v. v.now) answer)
read_of page seen answer (h, (legal, since, told)) = (
  answer,
  refl,
  record {
    history = h;
    legal = legal;
    told = record { seen = told.seen; since = (told.seen, refl); until = told.until; is = told.is };
  },
)
