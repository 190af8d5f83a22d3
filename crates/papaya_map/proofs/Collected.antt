-- Entries that are stored one after the other; and a map that has observed them has the same
-- settings.
use Rattle.std.proofs.Common.{◌≡◌, ◌<◌, ◌≤◌, ℕ, Bool, true, Option, List, [], ◌∷◌, ◌++◌, map, append-nil, sym, ap, ◌∙◌, subst}
use Rattle.std.specs.Int.{IsNextPowerOfTwo}
use mathlib.Core.List.{IsPrefix}
use denote.Bor.{Bor}
use Rattle.papaya_words.specs.Probe.{IsEntriesFor}
use Rattle.papaya_words.specs.declared.resize_mode.ResizeMode.{ResizeMode}
use Rattle.papaya_map_book.specs.Limits.{HasTableFrom}
use Rattle.papaya_map_book.specs.Logs.{Stored}
use Rattle.papaya_map_book.specs.Own.{last_if}
use Rattle.papaya_map_book.specs.declared.rule.entry.Begun.{Begun}
use Rattle.papaya_map_book.proofs.Lengths.{member_since}
use Rattle.papaya_map_book.proofs.Logs.{prefix_trans}
use Rattle.papaya_map_change.specs.Changes.{IsPut}
use Rattle.papaya_map_lookup.specs.History.{Change}
use Rattle.papaya_seq.proofs.Walked.{map_push}
use Rattle.papaya_map.specs.Collected.{AreStored, AreStoredBy}
use Rattle.papaya_map.specs.Fixed.{Fixed, HasFirstTable, HasLearned, HasSettingsOf, IsFor}

-- a list begins with itself
pub prefix_itself : {A : Type 0} (xs : List A) → IsPrefix xs xs
prefix_itself xs = ([], append-nil xs)

module _ {K V : Type 0} (eq : K → K → Bool) where
  -- a history that continues a later one continues an earlier one
  put_later : (key : K) (value : V) (old mid new : List (Change K (Stored K V))) (answer : Option (Bor V)) → IsPrefix old mid
      → IsPut eq key value mid new answer → IsPut eq key value old new answer
  put_later key value old mid new answer pre put = record {
    before = put.before;
    change = put.change;
    since = prefix_trans old mid put.before pre put.since;
    is = put.is;
    class_is = put.class_is;
    put_is = put.put_is;
    taken_is = put.taken_is;
  }

  -- a put's new history continues the old one
  put_on : (key : K) (value : V) (old new : List (Change K (Stored K V))) (answer : Option (Bor V)) → IsPut eq key value old new answer → IsPrefix old new
  put_on key value old new answer put = prefix_trans old put.before new put.since (put.change ∷ [], sym put.is)

  pub stored_on : (es : List (K × V)) (old new : List (Change K (Stored K V))) → AreStored eq es old new → IsPrefix old new
  stored_on [] old new stored = stored
  stored_on (e ∷ es) old new stored = prefix_trans old stored.0 new (put_on e.0 e.1 old stored.0 stored.1 stored.2) (stored_on es stored.0 new stored.3)

  -- one more
  pub stored_more : (es : List (K × V)) (old mid new : List (Change K (Stored K V))) (e : K × V) (answer : Option (Bor V)) → AreStored eq es old mid
      → IsPut eq e.0 e.1 mid new answer → AreStored eq (es ++ e ∷ []) old new
  stored_more [] old mid new e answer stored put = (new, answer, put_later e.0 e.1 old mid new answer stored put, prefix_itself new)
  stored_more (d ∷ es) old mid new e answer stored put = (stored.0, stored.1, stored.2, stored_more es stored.0 mid new e answer stored.3 put)

  -- the same for items that are mapped to entries
  pub stored_next : {A : Type 0} (shows : A → K × V) (items : List A) (old mid new : List (Change K (Stored K V))) (item : A) (answer : Option (Bor V))
      → AreStored eq (map shows items) old mid → IsPut eq (shows item).0 (shows item).1 mid new answer
      → AreStored eq (map shows (items ++ item ∷ [])) old new
  stored_next shows items old mid new item answer stored put = subst (λ (es : List (K × V)). AreStored eq es old new) (sym (map_push shows items item))
      (stored_more (map shows items) old mid new (shows item) answer stored put)

  -- entries that were stored by a history were stored by each longer one
  pub stored_until : (es : List (K × V)) (old mid new : List (Change K (Stored K V))) → AreStored eq es old mid → IsPrefix mid new → AreStored eq es old new
  stored_until [] old mid new stored more = prefix_trans old mid new stored more
  stored_until (e ∷ es) old mid new stored more = (stored.0, stored.1, stored.2, stored_until es stored.0 mid new stored.3 more)

  -- entries that one pass stored were stored
  pub stored_by : (es : List (K × V)) (old new made made' : List (Change K (Stored K V))) → AreStoredBy eq es old new made made' → AreStored eq es old new
  stored_by [] old new made made' by = by.0
  stored_by (e ∷ es) old new made made' by = (by.0, by.1, by.2, stored_by es by.0 new (made ++ last_if true by.0) made' by.3)

  -- one more
  pub stored_by_more : (es : List (K × V)) (old mid new made m made' : List (Change K (Stored K V))) (e : K × V) (answer : Option (Bor V))
      → AreStoredBy eq es old mid made m → IsPut eq e.0 e.1 mid new answer → made' ≡ m ++ last_if true new
      → AreStoredBy eq (es ++ e ∷ []) old new made made'
  stored_by_more [] old mid new made m made' e answer by put made_is = (
    new,
    answer,
    put_later e.0 e.1 old mid new answer by.0 put,
    (prefix_itself new, made_is ∙ ap (λ (cs : List (Change K (Stored K V))). cs ++ last_if true new) by.1),
  )
  stored_by_more (d ∷ es) old mid new made m made' e answer by put made_is =
      (by.0, by.1, by.2, stored_by_more es by.0 mid new (made ++ last_if true by.0) m made' e answer by.3 put made_is)

module _ {K V S : Type 0} (old new : Fixed K V S) (same : HasLearned old new) where
  table_learned : HasTableFrom old.initial old.opened → HasTableFrom new.initial new.opened
  table_learned there = (
    there.0,
    subst (λ (n : ℕ). n ≤ there.0) (sym same.initial) there.1,
    member_since there.0 old.opened new.opened same.opened there.2,
  )

  pub for_learned : (mode : ResizeMode) (capacity shards : ℕ) (limit : Option ℕ) → IsFor mode capacity shards limit old → IsFor mode capacity shards limit new
  for_learned mode capacity shards limit is = (
    ap (λ (b : Begun K V S). b.mode) same.begun ∙ is.0,
    subst (IsEntriesFor capacity) (sym same.initial) is.1,
    subst (IsNextPowerOfTwo shards) (sym same.shards) is.2,
    λ some. table_learned (is.3 some),
    ap (λ (b : Begun K V S). b.limit) same.begun ∙ is.4,
  )

  pub first_learned : HasFirstTable old → HasFirstTable new
  first_learned first = λ more. table_learned (first (subst (λ (n : ℕ). 1 < n) same.initial more))

  pub settings_learned : (base : Fixed K V S) → HasSettingsOf base old → HasSettingsOf base new
  settings_learned base is = (
    ap (λ (b : Begun K V S). b.mode) same.begun ∙ is.0,
    ap (λ (b : Begun K V S). b.limit) same.begun ∙ is.1,
    same.initial ∙ is.2,
    same.shards ∙ is.3,
    same.collector ∙ is.4,
  )

  -- and has that hasher
  pub hasher_learned : (so : S → Type 0) → so old.begun.hasher → so new.begun.hasher
  hasher_learned so is = subst (λ (b : Begun K V S). so b.hasher) (sym same.begun) is
