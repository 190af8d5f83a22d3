-- A pair as contracts see it.
use Rattle.std.specs.Prelude.{◌≡◌, ℕ, MatchOption, Option}
use Rattle.std.specs.Coded.{coded_option}
use base.Stored.{Coded, coded×, coded_ℕ, coded_via}
use Rattle.boxcar.specs.Table.{Shelves, id_at}

-- A key, and where it is stored: `None` if beside its pair's value. If it is stored at the pair
-- that brought it, `at` has that pair's bucket in the arena of pairs, and the bucket's name.
pub record KeyHeld (K : Type 0) : Type 0 where
  pub value : K
  pub at : Option (ℕ × ℕ)

-- A pair. In the same way `value_at` states where its value is stored: it is `None` if this pair
-- brought it.
pub record Pair (K V : Type 0) : Type 0 where
  pub key : KeyHeld K
  pub value : V
  pub value_at : Option (ℕ × ℕ)

abbrev pub pair_coded : {K V : Type 0} → Coded K → Coded V → Coded (Pair K V)
pair_coded {K} {V} k v = coded_via
    (coded× (coded× k (coded_option (coded× coded_ℕ coded_ℕ)))
    (coded× v (coded_option (coded× coded_ℕ coded_ℕ))))
    (λ (p : Pair K V). ((p.key.value, p.key.at), (p.value, p.value_at)))
    (λ x y e i. record {
      key = record { value = (e i).0.0; at = (e i).0.1 };
      value = (e i).1.0;
      value_at = (e i).1.1;
    })

-- If something is stored at another pair, that pair's bucket is one of this arena.
abbrev pub LiesIn : Shelves → Option (ℕ × ℕ) → Type 0
LiesIn log at = MatchOption at (Unit {0}) (λ at. at.1 ≡ id_at log.buckets at.0)

abbrev pub IsKeyIn : {K : Type 0} → Shelves → KeyHeld K → Type 0
IsKeyIn log key = LiesIn log key.at

abbrev pub IsValueIn : {K V : Type 0} → Shelves → Pair K V → Type 0
IsValueIn log pair = LiesIn log pair.value_at
