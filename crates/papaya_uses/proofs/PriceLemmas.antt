-- Prices over 0: one more, and one of several. The price that a lookup finds is the map's.
use Rattle.std.proofs.Common.{◌≡◌, ◌==◌, inl, inr, ℕ, ◌<◌, Option, None, Some, List, [], ◌∷◌, ◌++◌, refl, ap, ◌∙◌, subst, sym}
use Rattle.std.specs.Prelude.{option_map}
use Rattle.std.proofs.lemmas.Bool.{eq-eqb, eqb-true}
use denote.Bor.{Bor}
use Rattle.papaya.specs.Threads.{FindsValue, HasAll, Member, Stored, key_of, replay}
use Rattle.papaya_uses.specs.Prices.{HasNoZero, Seen, price_of}

-- each of these entries has a value over 0
abbrev pub AllOver : List (ℕ × ℕ) → Type 0
AllOver [] = Unit {0}
AllOver (e ∷ es) = (0 < e.1) × AllOver es

pub over_more : (es : List (ℕ × ℕ)) (e : ℕ × ℕ) → AllOver es → 0 < e.1 → AllOver (es ++ e ∷ [])
over_more [] e over is = (is, tt)
over_more (d ∷ es) e over is = (over.0, over_more es e over.1 is)

over_among : (es : List (ℕ × ℕ)) (e : ℕ × ℕ) → AllOver es → Member e es → 0 < e.1
over_among [] e over there = absurd there
over_among (d ∷ es) e over (inl is) = subst (λ (d : ℕ × ℕ). 0 < d.1) (sym is) over.0
over_among (d ∷ es) e over (inr there) = over_among es e over.1 there

-- if each entry of the map is among these, no price is 0
pub no_zero : (history : Seen) (es : List (ℕ × ℕ)) → AllOver es → HasAll (λ a b. a == b) history es → HasNoZero history
no_zero history es over all = λ article p has. over_among es (key_of p, p.value.value) over (all article p has)

-- a lookup finds the price of the article
pub found_price : (history : Seen) (article : ℕ) (found : Option (Bor ℕ)) → FindsValue (λ a b. a == b) history (λ key. article == key) found
    → price_of history article ≡ option_map (λ v. v.now) found
found_price history article None none = ap (option_map (λ (p : Stored ℕ ℕ). p.value.value)) (none article (eq-eqb article article refl))
found_price history article (Some v) (p, is, there, of) =
    let here = subst (λ (key : ℕ). replay (λ a b. a == b) history key ≡ Some p) (sym (eqb-true article (key_of p) is)) there in
    ap (option_map (λ (p : Stored ℕ ℕ). p.value.value)) here ∙ ap Some (sym of)
