-- The results of the rules, in the calls that store a value under a condition.
use Rattle.std.specs.Prelude.{◌≡◌, MatchOption, Option, None, Some}
use Rattle.papaya_map_compute.specs.declared.rules.Giving.{Giving}
use Rattle.papaya_map_compute.specs.declared.rules.Updating.{Updating}
use Rattle.papaya_map_compute.specs.declared.rules.Upserting.{Upserting}

-- The value that a supply gives, if there is a supply.
abbrev pub IsGiven : {G V : Type 0} → (G → V → Type 0) → Option G → Option V → Type 0
IsGiven {V = V} gives supply answer = MatchOption supply (answer ≡ None)
    (λ s. (v : V) × gives s v × (answer ≡ Some v))

-- If the key has no value, the supply gives one once, which is stored. If it has one, nothing is
-- stored.
abbrev pub Gives : {G V : Type 0} → (G → V → Type 0) → Giving G → Option V → Option V → Giving G
    → Type 0
Gives gives d None answer e = (e.supply ≡ None) × IsGiven gives d.supply answer
Gives gives d (Some v) answer e = (e ≡ d) × (answer ≡ None)

-- The key's value is replaced by the one that is computed from it. If it has none, nothing is
-- stored.
abbrev pub Updates : {F V : Type 0} → (F → V → V → Type 0) → Updating F → Option V → Option V
    → Updating F → Type 0
Updates computes d None answer e = (e ≡ d) × (answer ≡ None)
Updates {V = V} computes d (Some v) answer e = (e ≡ d)
    × ((w : V) × computes d.update v w × (answer ≡ Some w))

-- The key's value is replaced by the one that is computed from it. If it has none, the supply gives
-- one.
abbrev pub Upserts : {F G V : Type 0} → (F → V → V → Type 0) → (G → V → Type 0) → Upserting F G
    → Option V → Option V → Upserting F G → Type 0
Upserts computes gives d None answer e = (e.update ≡ d.update) × (e.supply ≡ None)
    × IsGiven gives d.supply answer
Upserts {V = V} computes gives d (Some v) answer e = (e.update ≡ d.update)
    × (e.supply ≡ d.supply) × ((w : V) × computes d.update v w × (answer ≡ Some w))
