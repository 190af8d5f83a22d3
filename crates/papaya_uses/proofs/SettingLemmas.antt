-- The result of a lookup if nothing was changed since an insertion.
use Rattle.std.proofs.Common.{◌≡◌, ◌==◌, ℕ, Bool, Option, None, Some, List, [], ◌∷◌, ◌++◌, refl, sym, ap, ◌∙◌, append_assoc}
use Rattle.std.proofs.lemmas.Bool.{cond-true, eq-eqb, eqb-true}
use Rattle.std.proofs.lemmas.List.{append-nil, append_cancel_left}
use Rattle.std.specs.Prelude.{option_map}
use Rattle.std.specs.Borrow.{Bor}
use mathlib.Core.List.{IsPrefix}
use Rattle.papaya.specs.Threads.{Change, IsAnsweredBetween, IsPut, Stored, changed, key_of, replay, replay_from}
use Rattle.papaya_uses.specs.Settings.{Seen}

-- if two lists together are empty, the first one is
nothing_before : {A : Type 0} (xs ys : List A) → xs ++ ys ≡ [] → xs ≡ []
nothing_before [] ys e = refl
nothing_before (x ∷ xs) ys e = absurd (cc e)

same_between : {A : Type 0} (xs ys zs : List A) → IsPrefix xs ys → IsPrefix ys zs → xs ≡ zs → ys ≡ xs
same_between xs ys zs p q e =
    let whole : xs ++ (p.0 ++ q.0) ≡ xs ++ [] = sym (append_assoc xs p.0 q.0) ∙ (ap (λ (w : List _). w ++ q.0) p.1 ∙ (q.1 ∙ (sym e ∙ sym (append-nil xs)))) in
    let none : p.0 ≡ [] = nothing_before p.0 q.0 (append_cancel_left xs (p.0 ++ q.0) [] whole) in
    sym p.1 ∙ (ap (λ (w : List _). xs ++ w) none ∙ append-nil xs)

-- a replay ends with the last change
replay_last : {K P : Type 0} (same : K → K → Bool) (m : K → Option P) (before : List (Change K P)) (c : Change K P) (k : K)
    → replay_from same m (before ++ c ∷ []) k ≡ changed same (replay_from same m before) c k
replay_last same m [] c k = refl
replay_last same m (d ∷ before) c k = replay_last same (changed same m d) before c k

module _ (setting value : ℕ) (old own : Seen) (before : Option (Bor ℕ)) (put : IsPut (λ a b. a == b) setting value old own before) where
  -- after the insertion the setting has its value
  stored : (k : ℕ) → k ≡ setting → (q : Stored ℕ ℕ) × (replay (λ a b. a == b) own k ≡ Some q) × (q.value.value ≡ value)
  stored k is =
      let (q, put_is, key_is, value_is) = put.put_is in
      let class : k ≡ put.change.class = is ∙ sym (eqb-true put.change.class setting put.class_is) in (
        q,
        ap (λ h. replay (λ a b. a == b) h k) put.is
            ∙ (replay_last (λ a b. a == b) (λ _. None) put.before put.change k
            ∙ (cond-true (k == put.change.class) put.change.put (replay (λ a b. a == b) put.before k) (eq-eqb k put.change.class class) ∙ put_is)),
        value_is,
      )

  -- so it has if nothing was changed since
  pub read_alone : (new : Seen) (found : Option (Bor ℕ)) → IsAnsweredBetween (λ a b. a == b) (λ key. setting == key) own new found → own ≡ new
      → option_map (λ v. v.now) found ≡ Some value
  read_alone new None answered e =
      let seen : answered.seen ≡ own = same_between own answered.seen new answered.since answered.until e in
      let (q, has, value_is) = stored setting refl in
      let none : replay (λ a b. a == b) own setting ≡ None = ap (λ h. replay (λ a b. a == b) h setting) (sym seen)
      ∙ answered.is setting (eq-eqb setting setting refl) in
      absurd (let e : None ≡ Some q = sym none ∙ has in cc e)
  read_alone new (Some v) answered e =
      let seen : answered.seen ≡ own = same_between own answered.seen new answered.since answered.until e in
      let (p, matches, has, of) = answered.is in
      let (q, stored_is, value_is) = stored (key_of p) (sym (eqb-true setting (key_of p) matches)) in
      let one : Some p ≡ Some q = sym has ∙ (ap (λ h. replay (λ a b. a == b) h (key_of p)) seen ∙ stored_is) in
      let same : p ≡ q = cc one in
      ap (λ n. Some n) (of ∙ (ap (λ z. z.value.value) same ∙ value_is))
