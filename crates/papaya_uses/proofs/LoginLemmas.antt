-- The logins that a `retain` leaves and takes out whose closure keeps those that have not ended.
use Rattle.std.proofs.Common.{◌≡◌, ◌==◌, ◌<◌, ◌≤◌, ℕ, Bool, true, Ok, Err, List, [], ◌∷◌, inl, inr, ⊎_elim, ltb, ltb→lt, T, sym, ◌∙◌, ap, subst, arith, refl}
use Rattle.std.proofs.lemmas.Bool.{ltb-false}
use Rattle.std.proofs.lemmas.List.Elements.{All-push}
use Rattle.std.specs.Prelude.{Result, IfOk}
use Rattle.std.specs.Borrow.{Bor}
use Rattle.std.specs.Fn.{Called, Mut}
use Rattle.std.specs.List.{All}
use Rattle.papaya.specs.Types.{Refused}
use Rattle.papaya.specs.Threads.{AreDropped, HasKept, IsLastAnswer, IsRetained, Judges, Member, Stored}
use Rattle.papaya_uses.specs.Logins.{AreEndedGone, DropsEnded, Seen, TakesEnded}
use Rattle.papaya_uses.specs.declared.logins.Login.{Login}
use Rattle.papaya_uses.proofs.Said.{said_each}

-- the last result for an entry is one of the results
answered : {P : Type 0} (said : List (P × Bool)) (p : P) (stays : Bool) → IsLastAnswer said p stays → Member (p, stays) said
answered [] p stays h = absurd h
answered (one ∷ older) p stays (inl e) =
    inl (subst (λ x. (x, stays) ≡ one) e.0 (subst (λ y. (one.0, y) ≡ one) e.1 refl))
answered (one ∷ older) p stays (inr r) = inr (answered older p stays r.1)

-- a consequence of a result that is Ok
if_ok : {A P Q : Type 0} (answer : Result A Refused) → (P → Q) → IfOk answer (λ _. P) → IfOk answer (λ _. Q)
if_ok (Ok done) f h = f h
if_ok (Err refused) f h = tt

-- each change after the closure returned that a login is dropped took out one that had ended
each_ended : (now : ℕ) (said : List (Stored ℕ Login × Bool))
    → ((p : Stored ℕ Login) (stays : Bool) → Member (p, stays) said → stays ≡ ltb now p.value.value.until) → (changes : Seen)
    → AreDropped said changes → All (TakesEnded now) changes
each_ended now [] so changes none = subst (λ (cs : Seen). All (TakesEnded now) cs) (sym none) (λ k d lt. absurd (omega (arith, lt)))
each_ended now (last ∷ before) so changes (inl same) = each_ended now before (λ p stays m. so p stays (inr m)) changes same
each_ended now (last ∷ before) so changes (inr (gone, earlier, change, is, (q, taken, none, same), dropped)) =
    let over : last.0.value.value.until ≤ now = ltb-false now last.0.value.value.until (sym (so last.0 last.1 (inl refl)) ∙ gone) in
    let ended : q.value.value.until ≤ now = subst (λ v. v.value.until ≤ now) (sym same.1) over in
    subst (λ (cs : Seen). All (TakesEnded now) cs) (sym is)
    (All-push (TakesEnded now) earlier change (each_ended now before (λ p stays m. so p stays (inr m)) earlier dropped) (q, taken, none, ended))

module _ {F A : Type 0} (called : Mut F (Bor ℕ × (Bor Login × Unit {0})) Bool) (now : ℕ) (old new made made' : Seen) (first : F)
    (answer : Result A Refused) (h : HasKept (λ a b. a == b) old new made made' (Judges called) first answer)
    (holds : F → Type 0) (at_first : holds first)
    (judges : (f : F) (key : Bor ℕ) (login : Bor Login) (stays : Bool) (g : F) → holds f → Called called f (key, (login, tt)) stays g → holds g
    × (stays ≡ ltb now login.now.until)) where
  -- it returned `true` for the logins that have not ended, and for no other
  said_so : (p : Stored ℕ Login) (stays : Bool) → Member (p, stays) h.said → stays ≡ ltb now p.value.value.until
  said_so = said_each (Judges called) holds (λ p stays. stays ≡ ltb now p.value.value.until)
      (λ f p stays g is says. let next = judges f says.0 says.1 stays g is says.3 in (next.0, next.1 ∙ ap (λ v. ltb now v.until) says.2.1)) first at_first
      h.said h.left h.shown.has_said

  gone_of : IsRetained (λ a b. a == b) old new h.said → AreEndedGone now old new
  gone_of retained token p there ended = ⊎_elim (λ gone. gone) (λ kept.
      let on : now < p.value.value.until = ltb→lt now p.value.value.until (subst T (said_so p true (answered h.said p true kept)) tt) in
      let no : ⊥ = omega (arith, ended, on) in absurd no) (retained token p there)

  -- so those that had ended were taken out
  pub ended_gone : IfOk answer (λ _. AreEndedGone now old new)
  ended_gone = if_ok answer gone_of h.leaves

  -- and no other was
  pub drops_ended : DropsEnded now made made'
  drops_ended = record {
    changes = h.shown.changes;
    made_is = h.shown.made_is;
    each = each_ended now h.said said_so h.shown.changes h.shown.dropped;
  }
