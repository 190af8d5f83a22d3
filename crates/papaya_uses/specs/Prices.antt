-- The prices that a list may have, and how many pieces money buys by them.
use Rattle.std.specs.Prelude.{◌≡◌, ◌==◌, ◌/◌, ◌<◌, ℕ, Bool, true, false, Option, Some, List, option_map}
use mathlib.Core.List.{IsPrefix}
use Rattle.papaya.specs.Threads.{Change, HasEntry, Stored, replay}

-- The history of a map from articles to prices.
abbrev pub Seen : Type 0
Seen = List (Change ℕ (Stored ℕ ℕ))

-- The price of an article by the map's history, if it has one.
abbrev pub price_of : Seen → (article : ℕ) → Option ℕ
price_of history article = option_map (λ p. p.value.value) (replay (λ a b. a == b) history article)

-- How many pieces of the article this money buys, if the article has a price.
abbrev pub pieces_of : Seen → (article money : ℕ) → Option ℕ
pieces_of history article money = option_map (λ price. money / price) (price_of history article)

-- No price is 0.
abbrev pub HasNoZero : Seen → Type 0
HasNoZero history = (article : ℕ) (p : Stored ℕ ℕ) → replay (λ a b. a == b) history article ≡ Some p
    → 0 < p.value.value

-- The answer is whether each price is over 0.
abbrev pub AreChecked : Seen → Bool → Type 0
AreChecked history true = HasNoZero history
AreChecked history false = (p : Stored ℕ ℕ) × HasEntry (λ a b. a == b) history p
    × (p.value.value ≡ 0)

-- Some article has the price 0 in a history that begins with `seen`.
abbrev pub HasZeroSince : (seen : Seen) → Type 0
HasZeroSince seen = (history : Seen) × IsPrefix seen history × AreChecked history false
