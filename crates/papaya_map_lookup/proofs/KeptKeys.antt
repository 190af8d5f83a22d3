-- The key that is in a slot stays there, however long the log grows.
use Rattle.std.proofs.Common.{◌≡◌, ℕ, Bool, true, Option, Some, List, ◌++◌, refl, sym, ap, ◌∙◌, subst}
use Rattle.std.specs.Cmp.{IsEquivalence}
use mathlib.Core.List.{IsPrefix}
use Rattle.papaya_call.specs.declared.search.Place.{Place}
use Rattle.papaya_words_law.specs.Allows.{AllAllowed}
use Rattle.papaya_words_law.specs.Exchange.{Exchange, Setting, Word, run, start}
use Rattle.papaya_words_law.specs.Invariant.{named}
use Rattle.papaya_words_law.specs.Later.{Becomes, IsLater, IsOfKey}
use Rattle.papaya_words_law.proofs.Kept.{becomes_keeps, key_stable}
use Rattle.papaya_words_law.proofs.Later.{later_run}
use Rattle.papaya_words_law.proofs.Moments.{allowed_rest, run-append}
use Rattle.papaya_call_law.specs.Relies.{HasMet}
use Rattle.papaya_map_book.specs.declared.rule.entry.Begun.{Begun}
use Rattle.papaya_map_book.specs.declared.rule.entry.Event.{Event}
use Rattle.papaya_map_book.specs.Hashes.{hash_of}
use Rattle.papaya_map_book.specs.Logs.{Stored, exchanges_of, setting_of, state_of}
use Rattle.papaya_map_book.specs.Rule.{IsLawfulLog}
use Rattle.papaya_map_book.proofs.Logs.{exchanges_of-append}
use Rattle.papaya_map_book.proofs.Settings.{is_hashed}
use Rattle.papaya_map_lookup.specs.History.{key_of}
use Rattle.papaya_map_lookup.specs.Lookups.{coding_for, setting_for}

-- slot x of table t has a pair of just this key
abbrev pub HasKeyAt : {K V S : Type 0} → List (Event K V S) → (t x : ℕ) → K → Type 0
HasKeyAt {K} {V} log t x key = (p : Stored K V) × (named ((state_of log).slot t x) ≡ Some p) × (key_of p ≡ key)

module _ {K V S H : Type 0} (eq : K → K → Bool) (input : K → List (List ℕ)) (build : S → H) (write : H → List ℕ → H) (finish : H → ℕ)
    (classes : IsEquivalence eq) (respects : (x y : K) → eq x y ≡ true → input x ≡ input y)
    (b : Begun K V S) where
  abbrev hash : S → K → ℕ
  hash = hash_of input build write finish

  abbrev plain : List (Event K V S) → Setting K (Stored K V)
  plain log = setting_of eq (hash b.hasher) b.mode b.limit log

  -- the words of a longer log come from those of the shorter one
  later_state : (log log' : List (Event K V S)) → IsLawfulLog eq hash b log' → IsPrefix log log' → IsLater (plain log') (state_of log) (state_of log')
  later_state log log' l' pre =
      let more = exchanges_of pre.0 in
      let is : exchanges_of log ++ more ≡ exchanges_of log' = sym (exchanges_of-append log pre.0) ∙ ap exchanges_of pre.1 in
      let law = (is_hashed eq input build write finish classes respects b log' l').lawful in
      let may = subst (AllAllowed (plain log') start) (sym is) l'.allowed in
      let to : run more (state_of log) ≡ state_of log' = sym (run-append (exchanges_of log) more start)
      ∙ ap (λ (z : List (Exchange (Stored K V))). run z start) is in
      subst (IsLater (plain log') (state_of log)) to
      (later_run (plain log') law more (state_of log) (allowed_rest (plain log') (exchanges_of log) more start may))

  pub key_at_stays : (log log' : List (Event K V S)) → IsLawfulLog eq hash b log' → IsPrefix log log' → (t x : ℕ) (key : K) → HasKeyAt log t x key
      → HasKeyAt log' t x key
  key_at_stays log log' l' pre t x key h = key_stable (plain log') (state_of log) (state_of log') (later_state log log' l' pre) t x key h

-- The key of a pair that a machine met is still in the slot.
module _ {K V S : Type 0} (eq : K → K → Bool) (hash : S → K → ℕ) (b : Begun K V S) (matches : K → Bool) (fed : ℕ)
    (begun since : List (Exchange (Stored K V))) (k : Option K) (log : List (Event K V S)) (is : begun ++ since ≡ exchanges_of log) where
  abbrev wide : Setting (Option K) (Stored K V)
  wide = setting_for eq hash b matches fed log

  own_key : (w : Word (Stored K V)) (key : K) → IsOfKey wide w (Some key) → (p : Stored K V) × (named w ≡ Some p) × (key_of p ≡ key)
  own_key w key h = let both : Some (key_of h.0) ≡ Some key = h.2 in (h.0, h.1, cc both)

  pub met_key : (at : Place) (word : ℕ) (p : Stored K V) → HasMet wide (coding_for hash b.hasher fed) begun since k at word p
      → HasKeyAt log at.table at.probe.i (key_of p)
  met_key at word p met =
      let w = (state_of log).slot at.table at.probe.i in
      let became = subst (λ (z : List (Exchange (Stored K V))). Becomes wide met.was ((run z start).slot at.table at.probe.i)) is met.became in
      own_key w (key_of p) (becomes_keeps wide met.was w (Some (key_of p)) became (p, met.names, refl))
