-- A pair that is stored in the arena for one place, and written there.
use Rattle.std.proofs.Common.{◌≡◌, ℕ, ◌<◌, ◌==◌, slice_get, Bool, true, false}
use Rattle.std.proofs.Common.{[], ◌∷◌, ◌++◌, None, Some, length, refl, ◌∙◌}
use Rattle.std.proofs.Common.{ap, subst, eq-eqb}
use Rattle.std.proofs.lemmas.Bool.{ne_eqb}
use Rattle.std.specs.Prelude.{MatchBool, pos}
use Rattle.papaya_words.specs.Counter.{added}
use Rattle.papaya_words.specs.Word.{hint_of, live_word, pair_of as number_of}
use Rattle.papaya_words.specs.declared.limits.TheConstants.{MAX_LOG_LEN}
use Rattle.papaya_call.specs.declared.ask.Answer.{Answer}
use Rattle.papaya_call.specs.declared.call.Reply.TheVariants.{Inserted, Replaced}
use Rattle.papaya_call.specs.declared.write.Write.{Write}
use Rattle.papaya_core_store.specs.declared.pairs.Pair.{Pair}
use Rattle.papaya_core_store.specs.declared.pairs.Pair.TheVariants as pairs
use Rattle.papaya_core_store.specs.declared.pairs.Part.{Part}
use Rattle.papaya_core_store.specs.declared.pairs.Part.TheVariants.{Own, Logged}
use Rattle.papaya_core_store.specs.Pairs.{key_from, pair_with}
use Rattle.papaya_core_store.specs.Performs.{Exchanges, IsPushed}
use Rattle.papaya_core_store.specs.Store.{StoreState}
use Rattle.papaya_core_store.specs.Tables.{note, put, word_at}
use Rattle.papaya_seq.specs.Writes.{IsKeyFor, IsStored, IsWritten, slot_of, storing}
use Rattle.papaya_seq.proofs.Exchanging.{exchange_done}

module _ {K V S : Type 0} where
  -- a pair of this key and this value was stored in the arena
  module _ (s : StoreState K V S) (key : K) (value : V) (s' : StoreState K V S) where
    -- the pair that was stored for such a place, which is an empty one or not
    abbrev IsPairFor : (empty : Bool) → ℕ → Pair K V → Type 0
    IsPairFor true old p = p ≡ pairs.Own key value
    IsPairFor false old p = (first : ℕ) × (key_from (number_of old) (slice_get s.pairs (number_of old)) ≡ Some first) × (p ≡ pairs.Keyed first value)

    -- it has this number
    pub record PairLogged (old n : ℕ) : Type 0 where
      pub number : n ≡ length s.pairs
      pub few : length s.pairs < MAX_LOG_LEN
      pub pair : Pair K V
      pub is : IsPairFor (old == 0) old pair
      pub store : s' ≡ record s { pairs = s.pairs ++ pair ∷ [] }

    pub pair_was_logged : (old n : ℕ) (part : Part K) → IsKeyFor s old key part → IsPushed n part (Own value) s s' → PairLogged old n
    pair_was_logged old n part for_it (number, few, store) = record {
      number = number;
      few = few;
      pair = pair_with part (Own value);
      is = by_old (old == 0) for_it;
      store = store;
    }
      where
        by_old : (empty : Bool) → MatchBool empty (part ≡ Own key) ((first : ℕ)
            × (key_from (number_of old) (slice_get s.pairs (number_of old)) ≡ Some first) × (part ≡ Logged first))
            → IsPairFor empty old (pair_with part (Own value))
        by_old true own = ap (λ k. pair_with k (Own value)) own
        by_old false (first, from, named) = (first, from, ap (λ k. pair_with k (Own value)) named)

    -- its word was written
    module _ (write : Write) (n : ℕ) (logged : PairLogged write.old n) (stands : word_at s.words (slot_of write.place) ≡ write.old) (word : ℕ)
        (word_is : word ≡ live_word n) (told : Answer) (s3 : StoreState K V S)
        (exchanges : Exchanges (word_at s'.words (slot_of write.place)) write.old (put s'.words (slot_of write.place) word) told s' s3) where
      stored : IsStored s n None
      stored = record { number = logged.number; few = logged.few; left_is = refl }

      written_so : (p : Pair K V) → logged.pair ≡ p → s3 ≡ storing s write.place p
      written_so p is =
          exchange_done s' (slot_of write.place) write.old word
          (ap (λ (x : StoreState K V S). word_at x.words (slot_of write.place)) logged.store ∙ stands) s3 told exchanges
          ∙ ap (λ (x : StoreState K V S). record x { words = put x.words (slot_of write.place) word }) logged.store
          ∙ ap (λ z. record (storing s write.place logged.pair) { words = put s.words (slot_of write.place) z }) (word_is ∙ ap live_word logged.number)
          ∙ ap (storing s write.place) is

      -- an empty place was claimed
      pub was_inserted : write.old ≡ 0 → (hashed : ℕ) (counted noted : StoreState K V S) → counted ≡ record s3 { count = added s3.count 0 (pos 1) }
          → (hint : ℕ) → hint ≡ hint_of hashed → noted ≡ record counted { words = note counted.words write.place.table write.place.probe.i hint }
          → IsWritten s hashed write key value (Inserted n) None noted
      was_inserted empty hashed counted noted counts hint hint_is notes = (
        empty,
        stored,
        notes ∙ ap (λ h. record counted { words = note counted.words write.place.table write.place.probe.i h }) hint_is
            ∙ ap (λ (x : StoreState K V S). record x { words = note x.words write.place.table write.place.probe.i (hint_of hashed) }) counts
            ∙ ap (λ (x : StoreState K V S). record x {
              words = note x.words write.place.table write.place.probe.i (hint_of hashed);
              count = added
                  x.count 0 (pos 1);
            }) (written_so (pairs.Own key value) own_pair),
      )
        where
          own_pair : logged.pair ≡ pairs.Own key value
          own_pair = subst (λ b. IsPairFor b write.old logged.pair) (eq-eqb write.old 0 empty) logged.is

      -- or a pair took the place of the one that was there
      pub was_replaced : (write.old ≡ 0 → ⊥) → (hashed gone : ℕ) → gone ≡ number_of write.old → IsWritten s hashed write key value (Replaced gone n) None s3
      was_replaced some hashed gone gone_is =
          let (first, from, is) = subst (λ b. IsPairFor b write.old logged.pair) (ne_eqb write.old 0 some) logged.is in
          (some, stored, gone_is, (first, from, written_so (pairs.Keyed first value) is))
