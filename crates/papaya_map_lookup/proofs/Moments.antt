-- An entry that the map had at some point of a call is the map's in some history between the two that the call's pass has observed.
use Rattle.std.proofs.Common.{◌≡◌, ℕ, Bool, true, Option, None, Some, List, ◌++◌, append_assoc, sym, ap, ◌∙◌, subst}
use Rattle.std.specs.Cmp.{IsEquivalence}
use mathlib.Core.List.{IsPrefix}
use Rattle.papaya_words_law.specs.Allows.{AllAllowed}
use Rattle.papaya_words_law.specs.Exchange.{Exchange, Setting, start}
use Rattle.papaya_words_law.specs.Further.{IsMapWith, IsMatchedAtMoment, with_key}
use Rattle.papaya_words_law.specs.Meaning.{map_left, map_of}
use Rattle.papaya_call_law.specs.Relies.{WasAtMoment}
use Rattle.papaya_words_law.proofs.Further.{own_key_lawful}
use Rattle.papaya_words_law.proofs.FurtherMap.{key_left, key_moment}
use Rattle.papaya_words_law.proofs.Moments.{allowed_first, map_of-append}
use Rattle.papaya_map_book.specs.declared.rule.entry.Begun.{Begun}
use Rattle.papaya_map_book.specs.declared.rule.entry.Event.{Event}
use Rattle.papaya_map_book.specs.Hashes.{hash_of}
use Rattle.papaya_map_lookup.specs.History.{Change, changes_of, history_of, key_of, replay}
use Rattle.papaya_map_book.specs.Logs.{Stored, coding_of, exchanges_of, setting_of}
use Rattle.papaya_map_book.specs.Rule.{IsLawfulLog}
use Rattle.papaya_map_lookup.proofs.Histories.{changes_begin, replay_left}
use Rattle.papaya_map_book.proofs.Logs.{exchanges_of-append}
use Rattle.papaya_map_lookup.proofs.Readings.{IsQuery, coding, fed, key_form, setting}
use Rattle.papaya_map_book.proofs.Settings.{is_hashed}

-- A history between those of two logs, in which the keys that match had this value. If it is a
-- pair, the pair's key is one of them.
pub record IsHistory {K V S : Type 0} (eq : K → K → Bool) (matches : K → Bool) (old log : List (Event K V S)) (value : Option (Stored K V)) : Type 0 where
  pub seen : List (Change K (Stored K V))
  pub since : IsPrefix (history_of old) seen
  pub until : IsPrefix seen (history_of log)
  pub had : (k : K) → matches k ≡ true → replay eq seen k ≡ value
  pub found : (p : Stored K V) → value ≡ Some p → matches (key_of p) ≡ true

module _ {K V S H : Type 0} (eq : K → K → Bool) (input : K → List (List ℕ)) (build : S → H) (write : H → List ℕ → H) (finish : H → ℕ)
    (classes : IsEquivalence eq) (respects : (x y : K) → eq x y ≡ true → input x ≡ input y)
    (b : Begun K V S) (matches : K → Bool) (query : List (List ℕ)) (lawful : IsQuery eq input matches query) (old began : List (Event K V S))
    (pre : IsPrefix old began)
    (log : List (Event K V S)) (l : IsLawfulLog eq (hash_of input build write finish) b log) (since : List (Exchange (Stored K V)))
    (is : exchanges_of began ++ since ≡ exchanges_of log) where
  abbrev hash : K → ℕ
  hash = hash_of input build write finish b.hasher

  -- the setting without the further key, and with it
  abbrev plain : Setting K (Stored K V)
  plain = setting_of eq hash b.mode b.limit log

  abbrev wide : Setting (Option K) (Stored K V)
  wide = setting eq input build write finish classes respects b matches query lawful log

  abbrev begun : List (Exchange (Stored K V))
  begun = exchanges_of began

  abbrev Was : Option K → Option (Stored K V) → Type 0
  Was k value = WasAtMoment wide (coding eq input build write finish classes respects b matches query lawful) begun since k value

  may : AllAllowed plain start (begun ++ since)
  may = subst (AllAllowed plain start) (sym is) l.allowed

  form : Rattle.papaya_words_law.specs.Further.IsLawfulKey plain (coding_of hash) matches (fed eq input build write finish classes respects b matches query lawful)
  form = key_form eq input build write finish classes respects b matches query lawful log

  module _ (so_far rest : List (Exchange (Stored K V))) (parts : so_far ++ rest ≡ since) where
    abbrev es : List (Exchange (Stored K V))
    es = begun ++ so_far

    early : exchanges_of old ++ (exchanges_of pre.0 ++ so_far) ≡ es
    early = sym (append_assoc (exchanges_of old) (exchanges_of pre.0) so_far)
        ∙ ap (λ (z : List (Exchange (Stored K V))). z ++ so_far) (sym (exchanges_of-append old pre.0) ∙ ap exchanges_of pre.1)

    late : es ++ rest ≡ exchanges_of log
    late = append_assoc begun so_far rest ∙ (ap (λ (z : List (Exchange (Stored K V))). begun ++ z) parts ∙ is)

    -- a state of the map during the call is that of a history between the two
    history_at : (those : K → Bool) (value : Option (Stored K V)) → ((k : K) → those k ≡ true → map_left plain es k ≡ value)
        → ((p : Stored K V) → value ≡ Some p → those (key_of p) ≡ true) → IsHistory eq those old log value
    history_at those value had found = record {
      seen = changes_of plain.key es;
      since = changes_begin plain.key (exchanges_of old) (exchanges_of pre.0 ++ so_far) es early;
      until = changes_begin plain.key es rest (exchanges_of log) late;
      had = λ k h. ap (λ (z : K → Option (Stored K V)). z k) (replay_left plain es) ∙ had k h;
      found = found;
    }

    -- the exchanges up to it were allowed
    allowed_then : AllAllowed plain start es
    allowed_then = allowed_first plain es rest start (subst (AllAllowed plain start) (sym late) l.allowed)

  -- the map at some point, from the map when the call began
  then_left : (so_far : List (Exchange (Stored K V))) (k : K) → map_left plain (begun ++ so_far) k ≡ map_of plain (map_left plain begun) so_far k
  then_left so_far k = ap (λ (z : K → Option (Stored K V)). z k) (map_of-append plain begun so_far (λ i. None))

  -- a value that the further key had at some point, the keys that it matches had in a history
  pub matched_history : (value : Option (Stored K V)) → Was None value → IsHistory eq matches old log value
  matched_history value was =
      let f = fed eq input build write finish classes respects b matches query lawful in
      let moment : IsMatchedAtMoment plain matches (map_left plain begun) since value = key_moment plain matches f (coding_of hash) form begun since
      may value was in
      history_at moment.so_far moment.rest moment.is matches value (λ k h. then_left moment.so_far k ∙ moment.value_is k h) moment.found

  -- a value that a key of the map had at some point, the keys that equal it had in a history
  pub own_history : (key : K) (value : Option (Stored K V)) → Was (Some key) value → IsHistory eq (eq key) old log value
  own_history key value was =
      let f = fed eq input build write finish classes respects b matches query lawful in
      let so_far = was.so_far in
      let then = begun ++ so_far in
      let allowed : AllAllowed plain start then = allowed_then so_far was.rest was.is in
      let left : IsMapWith plain matches (map_left plain then) (map_left wide then) = key_left plain matches f (coding_of hash) form then allowed in
      let had : map_left plain then key ≡ value = sym (left.own key)
      ∙ (ap (λ (z : Option K → Option (Stored K V)). z (Some key)) (map_of-append wide begun so_far (λ i. None)) ∙ was.value_is) in
      -- the key is a further key that matches those that equal it
      let own = own_key_lawful plain (coding_of hash) (is_hashed eq input build write finish classes respects b log l) key in
      let class : IsMapWith plain (eq key) (map_left plain then) (map_left (with_key plain (eq key) (hash key)) then) = key_left plain (eq key)
      (hash key) (coding_of hash) own then allowed in
      let further : map_left (with_key plain (eq key) (hash key)) then None ≡ value = class.matched key (classes.refl key) ∙ had in
      history_at so_far was.rest was.is (eq key) value (λ k h. sym (class.matched k h) ∙ further) (λ p e. class.found p (further ∙ e))
