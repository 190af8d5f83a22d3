-- Which exchanges take a key's pair out of the map.
use Rattle.std.specs.Prelude.{◌≡◌, ◌++◌, Bool, true, false, List, ◌∷◌}
use Rattle.papaya_words_law.specs.Exchange.{Setting, Exchange, Open, Claim, Replace, Bury, Link, Mark, Close, Place, Finish, Advance, Promote, Abort, Take}

-- the exchange takes out the key's pair
abbrev pub takes_out : {K P : Type 0} → Setting K P → Exchange P → K → Bool
takes_out g (Replace t x p q) k = g.same k (g.key p)
takes_out g (Bury t x p) k = g.same k (g.key p)
takes_out g (Open t) k = false
takes_out g (Claim t x p) k = false
takes_out g (Link t n) k = false
takes_out g (Mark t x p) k = false
takes_out g (Close t x) k = false
takes_out g (Place n x p) k = false
takes_out g (Finish t x p) k = false
takes_out g (Advance n chunk) k = false
takes_out g (Promote t n) k = false
takes_out g (Abort n) k = false
takes_out g (Take m) k = false

-- some exchange of fs takes out the key's pair
pub record IsTakenOut {K P : Type 0} (g : Setting K P) (fs : List (Exchange P))
    (k : K) : Type 0 where
  pub so_far : List (Exchange P)
  pub by : Exchange P
  pub rest : List (Exchange P)
  pub is : so_far ++ by ∷ rest ≡ fs
  pub out : takes_out g by k ≡ true
