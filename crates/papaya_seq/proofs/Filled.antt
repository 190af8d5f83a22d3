-- A map that is being filled, after one more pair.
use Rattle.std.proofs.Common.{◌≡◌, ℕ, ⊎_elim, Bool, true, false, cond, List, [], ◌∷◌, ◌++◌, Option, None, Some, Ok, Err, option_map, refl, sym, ap, ◌∙◌, subst}
use Rattle.std.proofs.lemmas.Bool.{cases_Bool, cond-true, cond-false}
use Rattle.std.proofs.lemmas.List.Sums.{fold_push}
use Rattle.papaya_words.specs.Probe.{IsEntriesFor}
use Rattle.papaya_words.specs.declared.limits.TheConstants.{DEFAULT_CHUNK}
use Rattle.papaya_words.specs.declared.refused.Refused.{Refused}
use Rattle.papaya_words.specs.declared.resize_mode.ResizeMode.{ResizeMode}
use Rattle.papaya_words.specs.declared.resize_mode.ResizeMode.TheVariants.{Incremental}
use Rattle.papaya_core_timeline.specs.Content.{content}
use Rattle.papaya_core_timeline.specs.New.{IsNew}
use Rattle.papaya_core_store.specs.Store.{StoreState, Stored}
use Rattle.papaya_words_law.specs.Content.{lookup}
use Rattle.papaya_seq.specs.Entries.{Entries, Fills, HasJust, IsCut, IsPut, entries_in, kept, nothing, put, put_all}
use Rattle.papaya_seq.specs.Map.{Inserts, Keeps, MapState, core_of, entry_of, kept_key, slots_of}

-- a fact that two calls keep
pub keeps_on : {K V S : Type 0} (a b c : MapState K V S) → Keeps a b → Keeps b c → Keeps a c
keeps_on a b c first next = record {
  hasher = next.hasher ∙ first.hasher;
  mode = next.mode ∙ first.mode;
  initial = next.initial ∙ first.initial;
  pairs = λ n p logged. next.pairs n p (first.pairs n p logged);
}

pub keeps_itself : {K V S : Type 0} (a : MapState K V S) → Keeps a a
keeps_itself a = record { hasher = refl; mode = refl; initial = refl; pairs = λ n p logged. logged }

-- maps that agree, after the same pairs
pub put_all_alike : {K V A : Type 0} (eq : K → K → Bool) (shows : A → K × V) (items : List A) (m n : Entries K V) → ((k : K) → m k ≡ n k) → (k : K)
    → put_all eq shows m items k ≡ put_all eq shows n items k
put_all_alike eq shows [] m n same k = same k
put_all_alike {K} {V} eq shows (x ∷ xs) m n same k = put_all_alike eq shows xs (put eq m (shows x)) (put eq n (shows x))
    (λ j i. cond (eq j (shows x).0) (Some (kept (same (shows x).0 i) (shows x))) (same j i)) k

-- a list to which an item was added is not empty
pub not_empty : {A P : Type 0} (xs : List A) (x : A) → xs ++ x ∷ [] ≡ [] → P
not_empty [] x e = absurd cc
not_empty (y ∷ ys) x e = absurd cc

-- a new map has the hasher that it was made with
pub new_with_own : {K V S : Type 0} (mode : ResizeMode) (capacity shards : ℕ) (hasher : S) (s : MapState K V S)
    → IsNew {A = Unit {0}} mode capacity shards hasher (core_of s) → IsNew {A = Unit {0}} mode capacity shards s.store.hasher (core_of s)
new_with_own mode capacity shards hasher s new = subst (λ h. IsNew {A = Unit {0}} mode capacity shards h (core_of s)) (sym new.store_is.hasher_is) new

-- a pair that is put into a class has the key that is there
kept_entry : {K V : Type 0} (k : K) (v : V) (old : Option (Stored K V)) → (kept_key k old, v) ≡ kept (option_map entry_of old) (k, v)
kept_entry k v None = refl
kept_entry k v (Some p) = refl

module _ {K V S : Type 0} (eq : K → K → Bool) where
  -- an insertion puts its pair in
  pub entries_put : (k : K) (v : V) (s : StoreState K V S) (went : Option V) (s' : StoreState K V S) → Inserts eq k v s went s' → (j : K)
      → entries_in eq s' j ≡ put eq (entries_in eq s) (k, v) j
  entries_put k v s went s' inserts j =
      ⊎_elim
      (λ (y : eq j k ≡ true).
      let new : entries_in eq s' j ≡ Some (entry_of inserts.new) = ap (option_map entry_of) (inserts.update.class j y) in
      let pair : entry_of inserts.new ≡ (kept_key k inserts.old, v) = λ i. (inserts.key i, inserts.value i) in
      let was : kept (option_map entry_of inserts.old) (k, v) ≡ kept (entries_in eq s k) (k, v) = ap
      (λ (o : Option (Stored K V)). kept (option_map entry_of o) (k, v)) (sym inserts.update.before) in
      new ∙ ap (λ (e : K × V). Some e) (pair ∙ kept_entry k v inserts.old ∙ was)
      ∙ sym (cond-true (eq j k) (Some (kept (entries_in eq s k) (k, v))) (entries_in eq s j) y))
      (λ (n : eq j k ≡ false). ap (option_map entry_of) (inserts.update.others j n)
      ∙ sym (cond-false (eq j k) (Some (kept (entries_in eq s k) (k, v))) (entries_in eq s j) n))
      (cases_Bool (eq j k))

  -- a new map has no entries
  pub empty_entries : (s : StoreState K V S) → content eq s ≡ [] → (k : K) → entries_in eq s k ≡ nothing k
  empty_entries s none k = ap (λ (ps : List (Stored K V)). option_map entry_of (lookup eq (λ p. p.key) ps k)) none

  module _ {A : Type 0} (shows : A → K × V) (s : MapState K V S) where
    pub fills_none : Fills eq shows s [] s
    fills_none = record { entries = λ k. refl; keeps = keeps_itself s; idle = λ none. refl }

    module _ (items : List A) (at : MapState K V S) (fills : Fills eq shows s items at) where
      module _ (item : A) where
        pub fills_more : (absent : Bool) (s' : MapState K V S) → IsPut eq (shows item).0 (shows item).1 at (Ok absent) s'
            → Fills eq shows s (items ++ item ∷ []) s'
        fills_more absent s' (went, is, inserts, keeps) = record {
          entries = λ j. entries_put (shows item).0 (shows item).1 at.store went s'.store inserts j
              ∙ (λ i. cond (eq j (shows item).0) (Some (kept (fills.entries (shows item).0 i) (shows item))) (fills.entries j i))
              ∙ ap (λ (m : Entries K V). m j) (sym (fold_push (λ (n : Entries K V) (x : A). put eq n (shows x)) (entries_in eq s.store) items item));
          keeps = keeps_on s at s' fills.keeps keeps.0;
          idle = λ none. not_empty items item none;
        }

        pub cut : (refused : Refused) (s' : MapState K V S) → IsPut eq (shows item).0 (shows item).1 at (Err refused) s'
            → IsCut eq shows s items item refused s'
        cut refused s' (cause, unchanged, keeps) = record { at = at; fills = fills; cause = cause; unchanged = unchanged; keeps = keeps }

      -- a new map that was filled has only the entries with which it was filled
      pub just : (hasher : S) → content eq s.store ≡ [] → IsNew {A = Unit {0}} (Incremental DEFAULT_CHUNK) 0 1 hasher (core_of s) → HasJust eq shows items at
      just hasher none new = record {
        entries = λ k. fills.entries k ∙ put_all_alike eq shows items (entries_in eq s.store) nothing (empty_entries s.store none) k;
        no_table = λ idle. ap (λ (m : MapState K V S). slots_of m.store) (fills.idle idle)
            ∙ ap (λ words. slots_of (record s.store { words = words })) new.store_is.words;
        mode = fills.keeps.mode ∙ new.mode_is;
        initial = subst (λ n. IsEntriesFor 0 n) (sym fills.keeps.initial) new.store_is.initial;
      }
