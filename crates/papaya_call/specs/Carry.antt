-- The carry of the pair of a marked word into another table: its asks, and the state after each
-- answer.
use Rattle.std.specs.Prelude.{ℕ, ◌==◌, nat_lt, Bool, true, false, if◌then◌else◌, Option, Some, None}
use Rattle.papaya_words.specs.Word.{kind_of, pair_of, hint_of, may_hold, live_word}
use Rattle.papaya_words.specs.declared.refused.Refused.{Refused}
use Rattle.papaya_words.specs.declared.resize_mode.ResizeMode.{ResizeMode}
use Rattle.papaya_words.specs.declared.resize_mode.ResizeMode.TheVariants.{Incremental, Blocking}
use Rattle.papaya_words.specs.declared.word.Kind.{Kind}
use Rattle.papaya_words.specs.declared.word.Kind.TheVariants as word_kinds
use Rattle.papaya_call.specs.declared.ask.At.TheVariants.{Next, Aborted, Slot}
use Rattle.papaya_call.specs.declared.ask.StepKind.{StepKind}
use Rattle.papaya_call.specs.declared.ask.StepKind.TheVariants as kinds
use Rattle.papaya_call.specs.declared.copy.carry.Carried.{Carried}
use Rattle.papaya_call.specs.declared.copy.carry.Carried.TheVariants.{On, Carried as Was_carried, Unfit, Refused as Was_refused}
use Rattle.papaya_call.specs.declared.copy.carry.Carry.{Carry}
use Rattle.papaya_call.specs.declared.copy.carry.Carry.TheVariants.{Hashing, Sizing, Looking, Reading, Comparing, Placing, Placed, Passing, Linking, Aborting}
use Rattle.papaya_call.specs.declared.copy_ask.CopyAsk.{CopyAsk}
use Rattle.papaya_call.specs.declared.copy_ask.CopyAsk.TheVariants.{Load, Exchange, LoadHint, WriteHint, SizeOf, HashOf, SamePair}
use Rattle.papaya_call.specs.declared.copy.link.Link.TheVariants.{Sizing as Link_sizing}
use Rattle.papaya_call.specs.declared.copy.link.Linked.{Linked}
use Rattle.papaya_call.specs.declared.copy.link.Linked.TheVariants.{On as Link_on, Table, Refused as Link_refused}
use Rattle.papaya_call.specs.declared.search.Place.{Place}
use Rattle.papaya_call.specs.Link as links
use Rattle.papaya_call.specs.Link.{IsValidLink, link_ask, link_kind, follows}
use Rattle.papaya_call.specs.Search.{IsWithin, first_place, next_place}

-- the carry is within its table
abbrev pub IsValidCarry : Carry → Type 0
IsValidCarry (Looking hash at) = IsWithin at
IsValidCarry (Reading hash at) = IsWithin at
IsValidCarry (Comparing hash at word) = IsWithin at
IsValidCarry (Placing hash at) = IsWithin at
IsValidCarry (Placed hash at) = IsWithin at
IsValidCarry (Linking hash link) = IsValidLink link
IsValidCarry _ = Unit {0}

abbrev pub IsValidCarried : Carried → Type 0
IsValidCarried (On carry) = IsValidCarry carry
IsValidCarried _ = Unit {0}

-- its ask, while it carries the pair of the word `marked`
abbrev pub carry_ask : Carry → (marked : ℕ) → CopyAsk
carry_ask (Hashing table) marked = HashOf (pair_of marked)
carry_ask (Sizing hash table) marked = SizeOf table
carry_ask (Looking hash at) marked = LoadHint at.table at.probe.i
carry_ask (Reading hash at) marked = Load (Slot at.table at.probe.i)
carry_ask (Comparing hash at word) marked = SamePair (pair_of marked) (pair_of word)
carry_ask (Placing hash at) marked = Exchange (Slot at.table at.probe.i) 0
    (live_word (pair_of marked))
carry_ask (Placed hash at) marked = WriteHint at.table at.probe.i (hint_of hash)
carry_ask (Passing hash table) marked = Load (Next table)
carry_ask (Linking hash link) marked = link_ask link
carry_ask (Aborting table) marked = Exchange (Aborted table) 0 1

-- the kind of the exchange that it asks for, if it asks for one
abbrev pub carry_kind : Carry → Option StepKind
carry_kind (Placing hash at) = Some kinds.Place
carry_kind (Linking hash link) = link_kind link
carry_kind (Aborting table) = Some kinds.Abort
carry_kind _ = None

-- the table after which a table is being made, 0 if none is
abbrev pub carry_follows : Carry → ℕ
carry_follows (Linking hash link) = follows link
carry_follows _ = 0

-- the state if no place is left: without blocking the next table is looked up, and with blocking
-- this table is aborted
abbrev pub fills : (hash table : ℕ) → ResizeMode → Carry
fills hash table (Incremental chunk) = Passing hash table
fills hash table Blocking = Aborting table

-- the state if the pair's key is not at this place
abbrev pub goes_on : (hash : ℕ) → Place → ResizeMode → Carried
goes_on hash at mode = if nat_lt at.probe.len at.limit then On (Looking hash (next_place at))
    else On (fills hash at.table mode)

-- the state after the hint of a place: the word is loaded if the hint says nothing or is the key's
abbrev pub hinted : (hash : ℕ) → Place → ResizeMode → (hint : ℕ) → Carried
hinted hash at mode hint = if may_hold hint hash then On (Reading hash at) else goes_on hash at mode

-- the state after a word of this kind: each pair is compared, even that of a Buried word
abbrev pub look_at : Kind → (hash : ℕ) → Place → ResizeMode → ℕ → Carried
look_at word_kinds.Empty hash at mode word = On (Placing hash at)
look_at word_kinds.Closed hash at mode word = goes_on hash at mode
look_at word_kinds.Buried hash at mode word = On (Comparing hash at word)
look_at _ hash at mode word = On (Comparing hash at word)

abbrev pub look : (hash : ℕ) → Place → ResizeMode → ℕ → Carried
look hash at mode word = look_at (kind_of word) hash at mode word

-- the state after the number of the next table was loaded: if it is 0, a next table is made
abbrev pub passed : (hash table next : ℕ) → Carry
passed hash table next = if next == 0 then Linking hash (Link_sizing table table true)
    else Sizing hash next

-- the state after a step of the making of the next table
abbrev pub carried_on : (hash : ℕ) → Linked → Carried
carried_on hash (Link_on link) = On (Linking hash link)
carried_on hash (Table table) = On (Sizing hash table)
carried_on hash (Link_refused refused) = Was_refused refused

-- the state after an answer; an answer that was not asked for changes nothing
abbrev pub at_hash : Carry → ℕ → Carry
at_hash (Hashing table) hash = Sizing hash table
at_hash carry hash = carry

abbrev pub at_size : Carry → (slots limit : ℕ) → Carry
at_size (Sizing hash table) slots limit = Looking hash (first_place hash table slots limit)
at_size (Linking hash link) slots limit = Linking hash (links.at_size link slots)
at_size carry slots limit = carry

abbrev pub at_word : Carry → ResizeMode → ℕ → Carried
at_word (Looking hash at) mode word = hinted hash at mode word
at_word (Reading hash at) mode word = look hash at mode word
at_word (Passing hash table) mode word = On (passed hash table word)
at_word carry mode word = On carry

abbrev pub compared : (hash : ℕ) → Place → ResizeMode → Bool → Carried
compared hash at mode true = Was_carried
compared hash at mode false = goes_on hash at mode

abbrev pub at_yes : Carry → ResizeMode → Bool → Carried
at_yes (Comparing hash at word) mode same = compared hash at mode same
at_yes carry mode same = On carry

abbrev pub at_exchanged : Carry → Carried
at_exchanged (Placing hash at) = On (Placed hash at)
at_exchanged (Linking hash link) = carried_on hash (links.at_exchanged link)
at_exchanged (Aborting table) = Unfit table
at_exchanged carry = On carry

abbrev pub at_ok : Carry → Carried
at_ok (Placed hash at) = Was_carried
at_ok carry = On carry

abbrev pub at_found : Carry → ResizeMode → ℕ → Carried
at_found (Placing hash at) mode word = look hash at mode word
at_found (Linking hash link) mode word = carried_on hash (links.at_found link word)
at_found (Aborting table) mode word = Unfit table
at_found carry mode word = On carry

abbrev pub at_count : Carry → ResizeMode → (count initial : ℕ) → Carried
at_count (Linking hash link) mode count initial = carried_on hash
    (links.at_count link mode count initial)
at_count carry mode count initial = On carry

abbrev pub at_made : Carry → ℕ → Carry
at_made (Linking hash link) number = Linking hash (links.at_made link number)
at_made carry number = carry

abbrev pub at_refused : Carry → Refused → Carried
at_refused (Linking hash link) refused = carried_on hash (links.at_refused link refused)
at_refused carry refused = On carry
