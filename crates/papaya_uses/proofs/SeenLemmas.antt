-- If two changes of one history put in an item and took out none, the item was taken out between them.
use Rattle.std.proofs.Common.{◌≡◌, ◌==◌, ◌⊎◌, ℕ, Bool, true, false, Option, None, Some, List, [], ◌∷◌, ◌++◌, inl, inr, refl, sym, ap, ◌∙◌, append_assoc, subst}
use Rattle.std.proofs.lemmas.Bool.{cond-true, eq-eqb, eqb-true}
use Rattle.std.specs.Prelude.{cond}
use mathlib.Core.List.{IsPrefix}
use Rattle.papaya.specs.Threads.{AllLegalChanges, Change, IsLegalHistory, Stored, changed, key_of, replay, replay_from}
use Rattle.papaya_uses.specs.Seen.{IsMet, Seen, WasForgotten}

-- two places in a list: one comes first, or they are the same
module _ {A : Type 0} where
  abbrev OneFirst : List A → A → List A → A → Type 0
  OneFirst xs x ys y = ((xs ≡ ys) × (x ≡ y)) ⊎ (((s : List A) × (ys ≡ xs ++ x ∷ s)) ⊎ ((s : List A) × (xs ≡ ys ++ y ∷ s)))

  further : (z w : A) (xs ys : List A) (x y : A) → z ≡ w → OneFirst xs x ys y → OneFirst (z ∷ xs) x (w ∷ ys) y
  further z w xs ys x y is (inl same) = inl (cc (is, same.0), same.1)
  further z w xs ys x y is (inr (inl (s, e))) = inr (inl (s, cc (is, e)))
  further z w xs ys x y is (inr (inr (s, e))) = inr (inr (s, cc (is, e)))

  one_first : (xs ys rs ss : List A) (x y : A) → xs ++ x ∷ rs ≡ ys ++ y ∷ ss → OneFirst xs x ys y
  one_first [] [] rs ss x y e = inl (refl, cc e)
  one_first [] (w ∷ ys) rs ss x y e = inr (inl (ys, cc e))
  one_first (z ∷ xs) [] rs ss x y e = inr (inr (xs, cc e))
  one_first (z ∷ xs) (w ∷ ys) rs ss x y e = further z w xs ys x y (cc e) (one_first xs ys rs ss x y (cc e))

  -- an element after the one place and before the other
  spans : (xs b a s ys one other : List A) (x c y : A) → one ≡ xs ++ x ∷ [] → ys ≡ xs ++ x ∷ s → other ≡ ys ++ y ∷ [] → s ≡ b ++ c ∷ a
      → ((one ++ b) ++ c ∷ []) ++ (a ++ y ∷ []) ≡ other
  spans xs b a s ys one other x c y is e is' at =
      let t : List A = a ++ y ∷ [] in
      let tail : b ++ c ∷ t ≡ s ++ y ∷ [] = sym (append_assoc b (c ∷ a) (y ∷ [])) ∙ ap (λ (z : List A). z ++ y ∷ []) (sym at) in
      let from_one : one ++ (b ++ c ∷ t) ≡ xs ++ x ∷ (b ++ c ∷ t) = ap (λ (z : List A). z ++ (b ++ c ∷ t)) is ∙ append_assoc xs (x ∷ []) (b ++ c ∷ t) in
      let to_other : xs ++ x ∷ (s ++ y ∷ []) ≡ other = sym (append_assoc xs (x ∷ s) (y ∷ [])) ∙ (ap (λ (z : List A). z ++ y ∷ []) (sym e) ∙ sym is') in
      append_assoc (one ++ b) (c ∷ []) t ∙ (append_assoc one b (c ∷ t) ∙ (from_one ∙ (ap (λ (z : List A). xs ++ x ∷ z) tail ∙ to_other)))

abbrev same : ℕ → ℕ → Bool
same a b = a == b

abbrev Item : Type 0
Item = Stored ℕ (Unit {0})

abbrev Step : Type 0
Step = Change ℕ Item

replay_on : (m : ℕ → Option Item) (before after : Seen) (k : ℕ) → replay_from same m (before ++ after) k ≡ replay_from same (replay_from same m before) after k
replay_on m [] after k = refl
replay_on m (c ∷ before) after k = replay_on (changed same m c) before after k

-- a legal change takes out the entry that the replay has
taken_at : (m : ℕ → Option Item) (before : Seen) (c : Step) (after : Seen) → AllLegalChanges same key_of m (before ++ c ∷ after)
    → replay_from same m before c.class ≡ c.taken
taken_at m [] c after legal = legal.0.taken_is
taken_at m (d ∷ before) c after legal = taken_at (changed same m d) before c after legal.1

module _ (item : ℕ) where
  -- a change that took the item out and put none in, with those before it and after it
  abbrev Lost : Seen → Type 0
  Lost cs = (before : Seen) × (c : Step) × (after : Seen) × (cs ≡ before ++ c ∷ after) × (c.class ≡ item) × (c.put ≡ None)

  later : (d : Step) (cs : Seen) → Lost cs → Lost (d ∷ cs)
  later d cs (before, c, after, is, class, put) = (d ∷ before, c, after, ap (λ (z : Seen). d ∷ z) is, class, put)

  -- if the item was there and is there no longer, such a change was made
  lost : (m : ℕ → Option Item) (cs : Seen) (p : Item) → m item ≡ Some p → replay_from same m cs item ≡ None → Lost cs
  lost m [] p there gone = absurd (let e : None ≡ Some p = sym gone ∙ there in cc e)
  lost m (c ∷ cs) p there gone = by (item == c.class) refl (λ q has. later c cs (lost (changed same m c) cs q has gone))
    where
      by_put : (put : Option Item) → c.put ≡ put → (item == c.class) ≡ true → ((q : Item) → changed same m c item ≡ Some q → Lost (c ∷ cs)) → Lost (c ∷ cs)
      by_put None none is on = ([], c, cs, refl, sym (eqb-true item c.class is), none)
      by_put (Some q) some is on = on q (ap (λ (b : Bool). cond b c.put (m item)) is ∙ some)

      by : (b : Bool) → (item == c.class) ≡ b → ((q : Item) → changed same m c item ≡ Some q → Lost (c ∷ cs)) → Lost (c ∷ cs)
      by true is on = by_put c.put refl is on
      by false is on = on p (ap (λ (b : Bool). cond b c.put (m item)) is ∙ there)

  module _ (all : Seen) where
    -- the last change of this part of the history put the item in and took none out
    record IsFirst (moment : Seen) : Type 0 where
      before : Seen
      change : Step
      rest : Seen
      is : moment ≡ before ++ change ∷ []
      whole : before ++ change ∷ rest ≡ all
      of_item : change.class ≡ item
      put : (q : Item) × (change.put ≡ Some q)
      none : change.taken ≡ None

    first_of : (old one : Seen) → IsMet item old one true → IsPrefix one all → IsFirst one
    first_of old one (Some taken, is_new, p) pre = absurd (cc is_new)
    first_of old one (None, is_new, p) pre = record {
      before = p.before;
      change = p.change;
      rest = pre.0;
      is = p.is;
      whole = sym (append_assoc p.before (p.change ∷ []) pre.0) ∙ (ap (λ (z : Seen). z ++ pre.0) (sym p.is) ∙ pre.1);
      of_item = eqb-true p.change.class item p.class_is;
      put = (p.put_is.0, p.put_is.1);
      none = p.taken_is;
    }

    module _ (legal : IsLegalHistory same key_of all) where
      between : (one other : Seen) (f : IsFirst one) (g : IsFirst other) (s : Seen) → g.before ≡ f.before ++ f.change ∷ s → WasForgotten item one other
      between one other f g s e =
          let was : replay same g.before item ≡ None = ap (λ (k : ℕ). replay same g.before k) (sym g.of_item)
          ∙ (taken_at (λ k. None) g.before g.change g.rest (subst (λ (z : Seen). AllLegalChanges same key_of (λ k. None) z) (sym g.whole) legal) ∙ g.none) in
          let gone : replay_from same (changed same (replay same f.before) f.change) s item ≡ None = sym
          (replay_on (λ k. None) f.before (f.change ∷ s) item) ∙ (ap (λ (z : Seen). replay same z item) (sym e) ∙ was) in
          let there : changed same (replay same f.before) f.change item ≡ Some f.put.0 = cond-true (item == f.change.class) f.change.put
          (replay same f.before item) (eq-eqb item f.change.class (sym f.of_item)) ∙ f.put.1 in
          let (b, c, a, at, class, put) : Lost s = lost (changed same (replay same f.before) f.change) s f.put.0 there gone in
          record {
            before = one ++ b;
            change = c;
            since = (b, refl);
            until = (a ++ g.change ∷ [], spans f.before b a s g.before one other f.change c g.change f.is e g.is at);
            of_item = class;
            is = put;
          }

      pub once : (old one old' other : Seen) → IsMet item old one true → IsPrefix one all → IsMet item old' other true → IsPrefix other all
          → (one ≡ other) ⊎ (WasForgotten item one other ⊎ WasForgotten item other one)
      once old one old' other met pre met' pre' = by (one_first f.before g.before f.rest g.rest f.change g.change (f.whole ∙ sym g.whole))
        where
          f : IsFirst one
          f = first_of old one met pre

          g : IsFirst other
          g = first_of old' other met' pre'

          by : OneFirst f.before f.change g.before g.change → (one ≡ other) ⊎ (WasForgotten item one other ⊎ WasForgotten item other one)
          by (inl (e, d)) = inl (f.is ∙ (cc (e, d) ∙ sym g.is))
          by (inr (inl (s, e))) = inr (inl (between one other f g s e))
          by (inr (inr (s, e))) = inr (inr (between other one g f s e))
