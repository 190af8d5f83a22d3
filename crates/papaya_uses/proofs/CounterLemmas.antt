-- The result of a compute whose closure adds to a counter.
use Rattle.std.proofs.Common.{◌≡◌, ◌==◌, ℕ, Option, None, Some, Ok, List, [], ◌∷◌, inl, sym, ◌∙◌, ap, subst, arith, refl}
use Rattle.std.specs.Prelude.{Result, option_map}
use Rattle.std.specs.Borrow.{Bor}
use Rattle.std.specs.Fn.{Called, Mut}
use Rattle.papaya.specs.Types.{Compute, Inserted, Updated, Removed, Aborted, Operation, Insert, Remove, Abort, Refused}
use Rattle.papaya.specs.Threads.{AreRefsTo, IsComputeBy, IsLegalHistory, IsOperated, Member, Operates, Stored, WasLast, key_of}
use Rattle.papaya_uses.specs.Counters.{HasAdded, Seen, next_count}
use Rattle.papaya_uses.proofs.PutLemmas.{put_at}
use Rattle.papaya_uses.proofs.Said.{said_each}

-- the number that an operation inserts, and which of the three it is
abbrev inserted : Operation ℕ (Unit {0}) → ℕ
inserted (Insert v) = v
inserted Remove = 0
inserted (Abort t) = 0

abbrev kind : Operation ℕ (Unit {0}) → ℕ
kind (Insert v) = 0
kind Remove = 1
kind (Abort t) = 2

-- the operation that the closure returns for an entry, or for none
abbrev answer_to : ℕ → Option (Stored ℕ ℕ) → Operation ℕ (Unit {0})
answer_to by held = Insert (next_count by (option_map (λ p. p.value.value) held))

-- the same by references
answer_by : (by : ℕ) (shown : Option (Bor ℕ × Bor ℕ)) (held : Option (Stored ℕ ℕ)) → AreRefsTo shown held
    → Insert (next_count by (option_map (λ p. p.1.now) shown)) ≡ answer_to by held
answer_by by None None are = refl
answer_by by (Some entry) (Some p) are = ap (λ v. Insert (next_count by (Some v))) are.1
answer_by by None (Some p) are = absurd are
answer_by by (Some entry) None are = absurd are

-- a compute whose closure adds `by`
module _ {F : Type 0} (called : Mut F (Option (Bor ℕ × Bor ℕ) × Unit {0}) (Operation ℕ (Unit {0}))) (k by : ℕ) (old new : Seen) (first : F)
    (answer : Result (Compute ℕ ℕ (Unit {0})) Refused) (h : IsComputeBy (λ a b. a == b) k old new (Operates called) first answer)
    (holds : F → Type 0) (at_first : holds first)
    (adds : (f : F) (shown : Option (Bor ℕ × Bor ℕ)) (done : Operation ℕ (Unit {0})) (g : F) → holds f → Called called f (shown, tt) done g → holds g
    × (done ≡ Insert (next_count by (option_map (λ p. p.1.now) shown)))) where
  said_so : (held : Option (Stored ℕ ℕ)) (done : Operation ℕ (Unit {0})) → Member (held, done) h.said → done ≡ answer_to by held
  said_so = said_each (Operates called) holds (λ held done. done ≡ answer_to by held)
      (λ f held done g is says. let next = adds f says.0 done g is says.2 in (next.0, next.1 ∙ answer_by by says.0 held says.1)) first at_first h.said
      h.left h.has_said

  abbrev Operated : Result (Compute ℕ ℕ (Unit {0})) Refused → Type 0
  Operated r = IsOperated (λ a b. a == b) k old new h.said r

  -- it removes nothing
  pub not_removed : (key value : Bor ℕ) → answer ≡ Ok (Removed key value) → ⊥
  not_removed key value is =
      let (p, change, (shown, same, member), of) : Operated (Ok (Removed key value)) = subst Operated is h.operated in
      let e : 1 ≡ 0 = ap kind (said_so (Some shown) Remove member) in omega (arith, e)

  last_said : (held : Option (Stored ℕ ℕ)) (done : Operation ℕ (Unit {0})) (said : List (Option (Stored ℕ ℕ) × Operation ℕ (Unit {0})))
      → WasLast held done said → Member (held, done) said
  last_said held done [] was = absurd was
  last_said held done (last ∷ before) was = inl (sym was)

  -- it does not abort
  pub not_aborted : (t : Unit {0}) → answer ≡ Ok (Aborted t) → ⊥
  not_aborted t is =
      let (held, last) : Operated (Ok (Aborted t)) = subst Operated is h.operated in
      let e : 2 ≡ 0 = ap kind (said_so held (Abort t) (last_said held (Abort t) h.said last)) in omega (arith, e)

  -- if there was no counter, it is the amount added
  pub begun : (key value : Bor ℕ) → answer ≡ Ok (Inserted key value) → HasAdded k by old new value.now
  begun key value is =
      let (q, change, key_is, member, of) : Operated (Ok (Inserted key value)) = subst Operated is h.operated in
      let next : q.value.value ≡ next_count by None = ap inserted (said_so None (Insert q.value.value) member) in
      (None, q, change, key_is, sym of.1, of.1 ∙ next)

  -- else it is the sum
  pub added : IsLegalHistory (λ a b. a == b) key_of new → (before after : Bor ℕ × Bor ℕ) → answer ≡ Ok (Updated before after)
      → HasAdded k by old new after.1.now
  added legal before after is =
      let (p, q, change, key_is, (shown, same, member), of_old, of_new) : Operated (Ok (Updated before after)) = subst Operated is h.operated in
      let next : q.value.value ≡ next_count by (Some shown.value.value) = ap inserted (said_so (Some shown) (Insert q.value.value) member) in
      (Some p, q, change, put_at k old new (Some p) q change legal, sym of_new.1, of_new.1 ∙ next ∙ ap (λ v. next_count by (Some v.value)) same.1)
