-- Writes at one place of a table: a pair is stored there, or the pair that is there is removed.
use Rattle.std.specs.Prelude.{◌≡◌, ◌≢◌, ◌<◌, ◌==◌, MatchBool, ℕ, pos, negsuc, [], ◌∷◌, ◌++◌, length, slice_get, Option, Some, None}
use Rattle.papaya_words.specs.Counter.{added}
use Rattle.papaya_words.specs.Word.{hint_of, live_word, pair_of as number_of}
use Rattle.papaya_words.specs.declared.limits.TheConstants.{MAX_LOG_LEN}
use Rattle.papaya_call.specs.declared.ask.Answer.TheVariants.{Refused as Was_refused}
use Rattle.papaya_call.specs.declared.ask.At.{At}
use Rattle.papaya_call.specs.declared.ask.At.TheVariants.{Slot}
use Rattle.papaya_call.specs.declared.call.Reply.{Reply}
use Rattle.papaya_call.specs.declared.call.Reply.TheVariants.{Inserted, Replaced, Refused}
use Rattle.papaya_call.specs.declared.search.Place.{Place}
use Rattle.papaya_call.specs.Remove.{grave_word}
use Rattle.papaya_call.specs.declared.remove.Removal.{Removal}
use Rattle.papaya_call.specs.declared.write.Write.{Write}
use Rattle.papaya_core_store.specs.declared.pairs.Pair.{Pair}
use Rattle.papaya_core_store.specs.declared.pairs.Pair.TheVariants.{Own, Keyed}
use Rattle.papaya_core_store.specs.declared.pairs.Part.{Part}
use Rattle.papaya_core_store.specs.declared.pairs.Part.TheVariants.{Own as Own_part, Logged}
use Rattle.papaya_core_store.specs.Pairs.{key_from}
use Rattle.papaya_core_store.specs.Performs.{Refuses}
use Rattle.papaya_core_store.specs.Store.{StoreState}
use Rattle.papaya_core_store.specs.Tables.{note, put}

-- the slot of a place
abbrev pub slot_of : Place → At
slot_of place = Slot place.table place.probe.i

module _ {K V S : Type 0} (s : StoreState K V S) where
  -- the store after the pair p was added to the arena and its word written to the place
  abbrev pub storing : Place → Pair K V → StoreState K V S
  storing place p = record s {
    pairs = s.pairs ++ p ∷ [];
    words = put s.words (slot_of place) (live_word (length s.pairs));
  }

  -- the same for an empty place: the pair is also counted, and its hint is written
  abbrev pub claiming : (hashed : ℕ) → Place → Pair K V → StoreState K V S
  claiming hashed place p = record (storing place p) {
    words = note (storing place p).words place.table place.probe.i (hint_of hashed);
    count = added s.count 0 (pos 1);
  }

  -- the store after a removal wrote its tombstone and took 1 from the count
  abbrev pub burying : Removal → StoreState K V S
  burying removal = record s {
    words = put s.words (slot_of removal.place) (grave_word removal.word);
    count = added s.count 0 (negsuc 0);
  }

  -- n is the next number of the arena, which is not full, and nothing is left of the pair's value
  pub record IsStored (n : ℕ) (left : Option V) : Type 0 where
    pub number : n ≡ length s.pairs
    pub few : length s.pairs < MAX_LOG_LEN
    pub left_is : left ≡ None

  -- The key part of a pair that is stored at a place with the word `old`: the key that was passed
  -- in if the place is empty, and otherwise the number of the pair that owns the key of the pair
  -- which `old` names.
  abbrev pub IsKeyFor : (old : ℕ) → K → Part K → Type 0
  IsKeyFor old key part = MatchBool (old == 0) (part ≡ Own_part key) ((first : ℕ)
      × (key_from (number_of old) (slice_get s.pairs (number_of old)) ≡ Some first)
      × (part ≡ Logged first))

  -- The effect of storing a key and a value at a place. At an empty place the pair gets the key
  -- that was passed in; otherwise it replaces the pair that is there and has its key. If the arena
  -- refuses the pair, nothing changes.
  abbrev pub IsWritten : (hashed : ℕ) → Write → K → V → Reply → Option V → StoreState K V S → Type 0
  IsWritten hashed write key value (Inserted n) left s' = (write.old ≡ 0) × IsStored n left
      × (s' ≡ claiming hashed write.place (Own key value))
  IsWritten hashed write key value (Replaced m n) left s' = (write.old ≢ 0) × IsStored n left
      × (m ≡ number_of write.old) × ((first : ℕ)
      × (key_from (number_of write.old) (slice_get s.pairs (number_of write.old)) ≡ Some first)
      × (s' ≡ storing write.place (Keyed first value)))
  IsWritten hashed write key value (Refused refused) left s' =
      Refuses MAX_LOG_LEN (length s.pairs) (Was_refused refused) × (left ≡ Some value) × (s' ≡ s)
  IsWritten hashed write key value reply left s' = ⊥
