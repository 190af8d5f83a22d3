use Rattle.papaya_words_law.proofs.exchanges.further_keys.Goals as goal
use Rattle.papaya_words_law.specs.Class.{IsOn}
use Rattle.papaya_words_law.specs.Further.{with_key}
use Rattle.papaya_words_law.proofs.Alike.{alike_back, allows_alike, all_alike}
use Rattle.papaya_words_law.proofs.Further.{key_alike, key_code, key_lawful, own_key_lawful, key_agrees, key_planned}
use Rattle.papaya_words_law.proofs.FurtherMap.{key_legal, key_all_legal, key_map, key_left, key_moment}

pub returns-clause-itself : goal.returns-clause-itself
returns-clause-itself g c = λ h d law k. own_key_lawful h d law k

pub returns-clause-lawful : goal.returns-clause-lawful
returns-clause-lawful g c = λ h d law slots matches hash form. key_lawful h matches hash d law form slots

pub returns-clause-planned : goal.returns-clause-planned
returns-clause-planned g c = λ blocking chunk_of most key same hash_of size places chunks matches hash.
    key_planned blocking chunk_of most key same hash_of size places chunks matches hash

pub returns-clause-agrees : goal.returns-clause-agrees
returns-clause-agrees g c = λ h h' s agrees matches hash. key_agrees (IsOn s.first s.next) h h' agrees matches hash

pub returns-clause-allows : goal.returns-clause-allows
returns-clause-allows g c = λ h matches hash s e. (
  allows_alike h (with_key h matches hash) (key_alike h matches hash) s e,
  allows_alike (with_key h matches hash) h (alike_back h (with_key h matches hash) (key_alike h matches hash)) s e,
)

pub returns-clause-list : goal.returns-clause-list
returns-clause-list g c = λ h matches hash s es. (
  all_alike h (with_key h matches hash) (key_alike h matches hash) es s,
  all_alike (with_key h matches hash) h (alike_back h (with_key h matches hash) (key_alike h matches hash)) es s,
)

pub returns-clause-code : goal.returns-clause-code
returns-clause-code g c = λ h d matches hash w. key_code h matches hash d w

pub returns-clause-legal : goal.returns-clause-legal
returns-clause-legal g c = λ h matches hash m m' own e. key_legal h matches hash m m' own e

pub returns-clause-all_legal : goal.returns-clause-all_legal
returns-clause-all_legal g c = λ h matches hash m m' own es. key_all_legal h matches hash es m m' own

pub returns-clause-map : goal.returns-clause-map
returns-clause-map g c = λ h d matches hash form m m' holds s es may. key_map h matches hash d form m m' holds s es may

pub returns-clause-left : goal.returns-clause-left
returns-clause-left g c = λ h d matches hash form es may. key_left h matches hash d form es may

pub returns-clause-moment : goal.returns-clause-moment
returns-clause-moment g c = λ h d matches hash form begun since may value r. key_moment h matches hash d form begun since may value r
