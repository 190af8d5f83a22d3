use Rattle.papaya_core_store.proofs.pairs.numbers_mean.Goals as goal
use Rattle.papaya_core_store.proofs.Logs.{of_logged, own_logged, pair-more}

-- a number names the same pair in a longer arena
pub returns-clause-stays : goal.returns-clause-stays
returns-clause-stays g c = λ s more n p h. pair-more s more n p h

-- a pair of the call's own key
pub returns-clause-own : goal.returns-clause-own
returns-clause-own g c = λ s s' r r' a k v key value logs. let l = own_logged s r s' r' a k v key value logs in (l.0.pair, l.1, l.0.value)

-- a pair of another's key
pub returns-clause-of : goal.returns-clause-of
returns-clause-of g c = λ s s' r r' a k n p v key there value logs. let l = of_logged s r s' r' a n p v there value logs in (l.0.pair, l.1 k key, l.0.value)
