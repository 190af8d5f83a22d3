-- The removal of the pair that a word names: the closure is called with it, and its word becomes
-- Buried.
use Rattle.std.specs.Prelude.{ℕ}
use Rattle.papaya_words.specs.Word.{pair_of, buried_word}
use Rattle.papaya_call.specs.declared.ask.At.TheVariants.{Slot}
use Rattle.papaya_call.specs.declared.ask.Ask.{Ask}
use Rattle.papaya_call.specs.declared.ask.Ask.TheVariants.{Exchange, ShowPair}
use Rattle.papaya_call.specs.declared.remove.Removal.{Removal}

-- the ask to call the closure with the pair
abbrev pub show_ask : Removal → Ask
show_ask removal = ShowPair (pair_of removal.word)

-- the word of a removed pair, which keeps the pair's number
abbrev pub grave_word : ℕ → ℕ
grave_word word = buried_word (pair_of word)

-- the exchange that removes the pair
abbrev pub removal_ask : Removal → Ask
removal_ask removal = Exchange (Slot removal.place.table removal.place.probe.i) removal.word
    (grave_word removal.word)
