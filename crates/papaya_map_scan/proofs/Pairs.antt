-- A pair that was in a slot is still there, or an exchange took it out; and no two slots of a table have pairs of one key.
use Rattle.std.proofs.Common.{◌≡◌, ◌⊎◌, inl, inr, ⊎_elim, ℕ, ◌<◌, true, Option, None, Some, List, [], ◌∷◌, ◌++◌, refl, sym, ap, ◌∙◌, subst}
use Rattle.std.proofs.lemmas.Bool.{cond-true}
use Rattle.papaya_words_law.specs.Allows.{Allows, AllAllowed}
use Rattle.papaya_words_law.specs.Class.{IsBase, IsOn}
use Rattle.papaya_words_law.specs.Code.{kind}
use Rattle.papaya_words_law.specs.Exchange.{Word, Live, Marked, Copied, Buried, Closed, Setting, State}
use Rattle.papaya_words_law.specs.Exchange.{Exchange, Open, Claim, Replace, Bury, Link, Mark, Close}
use Rattle.papaya_words_law.specs.Exchange.{Place, Finish, Advance, Promote, Abort, Take, after, run}
use Rattle.papaya_words_law.specs.Invariant.{IsKeeping, named}
use Rattle.papaya_words_law.specs.Later.{Becomes}
use Rattle.papaya_words_law.specs.Meaning.{IsLawful}
use Rattle.papaya_words_law.specs.View.{Foreign, Here, Leaving, Gone, active, look, view}
use Rattle.papaya_words_law.proofs.Base.{own_place}
use Rattle.papaya_words_law.proofs.Later.{later_run}
use Rattle.papaya_words_law.proofs.OneMap.{keeping_sound}
use Rattle.papaya_words_law.proofs.Slots.{slot_cases}
use Rattle.papaya_map_lookup.specs.History.{Change, change_of}
use Rattle.papaya_map_scan.specs.Meeting.{has_pair}
use Rattle.papaya_map_scan.specs.Taking.{Holds}

-- the exchange takes out this pair
abbrev pub TakesIt : {P : Type 0} → Exchange P → P → Type 0
TakesIt (Replace t x q r) p = q ≡ p
TakesIt (Bury t x q) p = q ≡ p
TakesIt _ p = ⊥

-- one of these exchanges does
pub record IsPairOut {P : Type 0} (fs : List (Exchange P)) (p : P) : Type 0 where
  pub so_far : List (Exchange P)
  pub by : Exchange P
  pub rest : List (Exchange P)
  pub is : so_far ++ by ∷ rest ≡ fs
  pub out : TakesIt by p

-- a table has the pair with this word, or had it until it was copied
abbrev pub HasIt : {P : Type 0} → Word P → P → Type 0
HasIt w p = (w ≡ Live p) ⊎ (w ≡ Marked p) ⊎ (w ≡ Copied p)

pub it_named : {P : Type 0} (w : Word P) (p : P) → HasIt w p → named w ≡ Some p
it_named w p (inl e) = ap named e
it_named w p (inr (inl e)) = ap named e
it_named w p (inr (inr e)) = ap named e

pub it_kind : {P : Type 0} (w : Word P) (p : P) → HasIt w p → has_pair (kind w) ≡ true
it_kind w p (inl e) = ap (λ u. has_pair (kind u)) e
it_kind w p (inr (inl e)) = ap (λ u. has_pair (kind u)) e
it_kind w p (inr (inr e)) = ap (λ u. has_pair (kind u)) e

-- an exchange that takes a pair out is a change that does
pub change_out : {K P : Type 0} (key : P → K) (p : P) (e : Exchange P) → TakesIt e p → (c : Change K P) × (change_of key e ≡ c ∷ []) × (c.taken ≡ Some p)
change_out key p (Replace t x q r) out = (record { class = key q; taken = Some q; put = Some r }, refl, ap Some out)
change_out key p (Bury t x q) out = (record { class = key q; taken = Some q; put = None }, refl, ap Some out)
change_out key p (Open t) out = absurd out
change_out key p (Claim t x q) out = absurd out
change_out key p (Link t n) out = absurd out
change_out key p (Mark t x q) out = absurd out
change_out key p (Close t x) out = absurd out
change_out key p (Place n x q) out = absurd out
change_out key p (Finish t x q) out = absurd out
change_out key p (Advance n c) out = absurd out
change_out key p (Promote t n) out = absurd out
change_out key p (Abort n) out = absurd out
change_out key p (Take n) out = absurd out

module _ {P : Type 0} (e : Exchange P) (fs : List (Exchange P)) (p : P) where
  -- a pair is taken out by the first of the exchanges, or by a later one
  first_out : TakesIt e p → IsPairOut (e ∷ fs) p
  first_out out = record { so_far = []; by = e; rest = fs; is = refl; out = out }

  later_out : IsPairOut fs p → IsPairOut (e ∷ fs) p
  later_out r = record { so_far = e ∷ r.so_far; by = r.by; rest = r.rest; is = ap (λ l. e ∷ l) r.is; out = r.out }

module _ {K P : Type 0} (g : Setting K P) (law : IsLawful g) where
  -- an exchange leaves the Live word, takes its pair out, or marks it
  one : (s : State P) (t x : ℕ) (p : P) (e : Exchange P) → Allows g s e → s.slot t x ≡ Live p → ((after s e).slot t x ≡ Live p) ⊎ TakesIt e p
      ⊎ ((after s e).slot t x ≡ Marked p)
  one s t x p (Open u) may live = inl live
  one s t x p (Link u n) may live = inl live
  one s t x p (Advance n c) may live = inl live
  one s t x p (Promote u n) may live = inl live
  one s t x p (Abort n) may live = inl live
  one s t x p (Take n) may live = inl live
  one s t x p (Claim u y q) may live = ⊎_elim (λ h. inl (h.0 ∙ live))
      (λ h. absurd (let a = h.0 in let b = h.1 in let m = may.empty in cc (a, b, m, live))) (slot_cases s u y (Live q) t x)
  one s t x p (Close u y) may live = ⊎_elim (λ h. inl (h.0 ∙ live))
      (λ h. absurd (let a = h.0 in let b = h.1 in let m = may.empty in cc (a, b, m, live))) (slot_cases s u y Closed t x)
  one s t x p (Place u y q) may live = ⊎_elim (λ h. inl (h.0 ∙ live))
      (λ h. absurd (let a = h.0 in let b = h.1 in let m = may.empty in cc (a, b, m, live))) (slot_cases s u y (Live q) t x)
  one s t x p (Finish u y q) may live = ⊎_elim (λ h. inl (h.0 ∙ live))
      (λ h. absurd (let a = h.0 in let b = h.1 in let m = may.marked in cc (a, b, m, live))) (slot_cases s u y (Copied q) t x)
  one s t x p (Replace u y q r) may live =
      ⊎_elim (λ h. inl (h.0 ∙ live)) (λ h. let a = h.0 in let b = h.1 in let m = may.live in let is : q ≡ p = cc (a, b, m, live) in inr (inl is))
      (slot_cases s u y (Live r) t x)
  one s t x p (Bury u y q) may live = ⊎_elim (λ h. inl (h.0 ∙ live))
      (λ h. let a = h.0 in let b = h.1 in let m = may.live in let is : q ≡ p = cc (a, b, m, live) in inr (inl is)) (slot_cases s u y (Buried q) t x)
  one s t x p (Mark u y q) may live = ⊎_elim (λ h. inl (h.0 ∙ live))
      (λ h. let a = h.0 in let b = h.1 in let m = may.live in let is : q ≡ p = cc (a, b, m, live) in inr (inr (h.2 ∙ ap Marked is)))
      (slot_cases s u y (Marked q) t x)

  marked_then : (t x : ℕ) (p : P) (fs : List (Exchange P)) (s : State P) → AllAllowed g s fs → s.slot t x ≡ Marked p
      → ((run fs s).slot t x ≡ Marked p) ⊎ ((run fs s).slot t x ≡ Copied p)
  marked_then t x p fs s may marked = subst (λ w. Becomes g w ((run fs s).slot t x)) marked ((later_run g law fs s may).words t x)

  -- a pair that was live in a slot is there in one form or the other, or it was taken out
  live_then : (t x : ℕ) (p : P) (fs : List (Exchange P)) (s : State P) → AllAllowed g s fs → s.slot t x ≡ Live p → HasIt ((run fs s).slot t x) p
      ⊎ IsPairOut fs p
  live_then t x p [] s may live = inl (inl live)
  live_then t x p (e ∷ fs) s may live =
      ⊎_elim
      (λ live'. ⊎_elim (λ has. inl has) (λ out. inr (later_out e fs p out)) (live_then t x p fs (after s e) may.1 live'))
      (⊎_elim (λ out. inr (first_out e fs p out)) (λ marked. inl (inr (marked_then t x p fs (after s e) may.1 marked))))
      (one s t x p e may.0 live)

  -- so is one that the map had
  pub pair_then : (t x : ℕ) (p : P) (fs : List (Exchange P)) (s : State P) → AllAllowed g s fs → Holds (s.slot t x) p → HasIt ((run fs s).slot t x) p
      ⊎ IsPairOut fs p
  pair_then t x p fs s may (inl live) = live_then t x p fs s may live
  pair_then t x p fs s may (inr marked) = inl (inr (marked_then t x p fs s may marked))

  -- a search finds a pair that the map has
  pub held_seen : (k : K) (w : Word P) (p : P) → Holds w p → g.same k (g.key p) ≡ true → (view g k w ≡ Here p) ⊎ (view g k w ≡ Leaving p)
  held_seen k w p (inl e) same = inl (ap (view g k) e ∙ cond-true (g.same k (g.key p)) (Here p) Foreign same)
  held_seen k w p (inr e) same = inr (ap (view g k) e ∙ cond-true (g.same k (g.key p)) (Leaving p) Foreign same)

  module _ (s : State P) (m : K → Option P) (keeps : IsKeeping g s m) where
    it_active : (k : K) (w : Word P) (p : P) → HasIt w p → g.same k (g.key p) ≡ true → active (view g k w) ≡ true
    it_active k w p (inl e) same = ap (λ v. active (view g k v)) e ∙ ap active (cond-true (g.same k (g.key p)) (Here p) Foreign same)
    it_active k w p (inr (inl e)) same = ap (λ v. active (view g k v)) e ∙ ap active (cond-true (g.same k (g.key p)) (Leaving p) Foreign same)
    it_active k w p (inr (inr e)) same = ap (λ v. active (view g k v)) e ∙ ap active (cond-true (g.same k (g.key p)) (Gone p) Foreign same)

    -- a pair is at a place of each key that is equal to its own
    its_place : (t x : ℕ) (p : P) → HasIt (s.slot t x) p → (k : K) → g.same k (g.key p) ≡ true → (j : ℕ) × (j < g.places t) × (g.place k t j ≡ x)
        × (active (look g s k t j) ≡ true)
    its_place t x p h k same =
        let (j, within, is) = own_place g s (keeping_sound g s m keeps) law k t x p same (it_named (s.slot t x) p h) in
        (j, within, is, ap (λ y. active (view g k (s.slot t y))) is ∙ it_active k (s.slot t x) p h same)

    -- no two slots of a table have pairs of equal keys
    pub its_slot : (t x y : ℕ) (p q : P) → HasIt (s.slot t x) p → HasIt (s.slot t y) q → g.same (g.key q) (g.key p) ≡ true → x ≡ y
    its_slot t x y p q hx hy same =
        let base : IsBase (IsOn s.first s.next) g.places (g.place (g.key q)) (look g s (g.key q)) =
        ⊎_elim (λ h. (h.1.class (g.key q)).base) (λ h. (h.1.class (g.key q)).base) keeps in
        let a = its_place t x p hx (g.key q) same in
        let b = its_place t y q hy (g.key q) (law.itself (g.key q)) in
        sym a.2 ∙ (base.one t a.0 b.0 a.1 b.1 a.3 b.3 ∙ b.2)
