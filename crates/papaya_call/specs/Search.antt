-- The search of one table for a key: its asks, and the state after each answer.
use Rattle.std.specs.Prelude.{ℕ, ◌+◌, ◌%◌, ◌^◌, ◌<◌, ◌≤◌, nat_lt, Bool, true, false, if◌then◌else◌}
use Rattle.std.specs.Int.{IsPowerOfTwo}
use Rattle.papaya_words.specs.Word.{kind_of, pair_of, may_hold}
use Rattle.papaya_words.specs.Probe.{place}
use Rattle.papaya_words.specs.declared.word.Kind.{Kind}
use Rattle.papaya_words.specs.declared.word.Kind.TheVariants.{Empty as Is_empty, Copied, Buried, Closed}
use Rattle.papaya_call.specs.declared.ask.At.TheVariants.{Slot}
use Rattle.papaya_call.specs.declared.ask.Ask.{Ask}
use Rattle.papaya_call.specs.declared.ask.Ask.TheVariants.{Load, LoadHint, SameKey, SizeOf}
use Rattle.papaya_call.specs.declared.search.Place.{Place}
use Rattle.papaya_call.specs.declared.search.Search.{Search}
use Rattle.papaya_call.specs.declared.search.Search.TheVariants.{Sizing, Looking, Reading, Comparing}
use Rattle.papaya_call.specs.declared.search.ProbeStep.{ProbeStep}
use Rattle.papaya_call.specs.declared.search.ProbeStep.TheVariants.{On, Empty, Here, Over}

-- the size of a table: `slots` is its length, a power of two, and `last` its probe limit
pub record IsSize (slots last : ℕ) : Type 0 where
  pub power : IsPowerOfTwo slots
  pub most : slots ≤ 2 ^ 32
  pub few : last < 2 ^ 32

-- the place is within its table
pub record IsWithin (at : Place) : Type 0 where
  pub size : IsSize at.len at.limit
  pub len : at.probe.len ≤ at.limit
  pub i : at.probe.i < at.len

-- the search is within its table
abbrev pub IsSearching : Search → Type 0
IsSearching (Sizing table) = Unit {0}
IsSearching (Looking at) = IsWithin at
IsSearching (Reading at) = IsWithin at
IsSearching (Comparing at word) = IsWithin at

abbrev pub IsProbed : ProbeStep → Type 0
IsProbed (On search) = IsSearching search
IsProbed (Empty at) = IsWithin at
IsProbed (Here at word) = IsWithin at
IsProbed (Over table) = Unit {0}

-- the ask of a search
abbrev pub ask_of : Search → Ask
ask_of (Sizing table) = SizeOf table
ask_of (Looking at) = LoadHint at.table at.probe.i
ask_of (Reading at) = Load (Slot at.table at.probe.i)
ask_of (Comparing at word) = SameKey (pair_of word)

-- the first place of a key in a table
abbrev pub first_place : (hash table slots limit : ℕ) → Place
first_place hash table slots limit = record {
  table = table;
  len = slots;
  limit = limit;
  probe = record { i = place hash slots 0; len = 0 };
}

-- the place after this one
abbrev pub next_place : Place → Place
next_place at = record at {
  probe = record {
    i = (at.probe.i + at.probe.len + 1) % at.len;
    len = at.probe.len + 1;
  };
}

-- the step if the key is not at this place: the search goes on, or is over
abbrev pub go_on : Place → ProbeStep
go_on at = if nat_lt at.probe.len at.limit then On (Looking (next_place at)) else Over at.table

-- the step after the hint of a place: the word is loaded if the hint says nothing or is the key's
abbrev pub hinted : Place → (hash hint : ℕ) → ProbeStep
hinted at hash hint = if may_hold hint hash then On (Reading at) else go_on at

-- the step after a word of this kind
abbrev pub look_at : Kind → Place → (word : ℕ) → ProbeStep
look_at Is_empty at word = Empty at
look_at Buried at word = go_on at
look_at Closed at word = go_on at
look_at _ at word = On (Comparing at word)

-- the step after the word of a place
abbrev pub look : Place → (word : ℕ) → ProbeStep
look at word = look_at (kind_of word) at word

-- the step after a comparison with a matching key: a pair that was copied is searched for in the
-- next table
abbrev pub match_at : Kind → Place → ℕ → ProbeStep
match_at Copied at word = Over at.table
match_at _ at word = Here at word

-- the search after an answer; an answer that was not asked for changes nothing
abbrev pub at_size : Search → (hash slots limit : ℕ) → Search
at_size (Sizing table) hash slots limit = Looking (first_place hash table slots limit)
at_size (Looking at) hash slots limit = Looking at
at_size (Reading at) hash slots limit = Reading at
at_size (Comparing at word) hash slots limit = Comparing at word

abbrev pub at_word : Search → (hash word : ℕ) → ProbeStep
at_word (Looking at) hash word = hinted at hash word
at_word (Reading at) hash word = look at word
at_word (Sizing table) hash word = On (Sizing table)
at_word (Comparing at found) hash word = On (Comparing at found)

abbrev pub at_yes : Search → Bool → ProbeStep
at_yes (Comparing at word) true = match_at (kind_of word) at word
at_yes (Comparing at word) false = go_on at
at_yes (Sizing table) same = On (Sizing table)
at_yes (Looking at) same = On (Looking at)
at_yes (Reading at) same = On (Reading at)
