-- The contents of a log: its exchanges, with the setting that they make; the tables that were
-- brought in, with the keys of their words; and the tables for which words of the row were dealt.
use Rattle.std.specs.Prelude.{◌≡◌, ◌⊎◌, ℕ, ◌+◌, ◌-◌, ◌==◌, Bool, true, false, cond, Option, None, Some, List, [], ◌∷◌, ◌++◌, length, map, replicate, slice_get}
use Rattle.boxcar.specs.Table.{Where}
use Rattle.logbook.specs.Pages.{Book}
use Rattle.papaya_words.specs.Chunks.{chunk_len, chunk_of}
use Rattle.papaya_words.specs.declared.resize_mode.ResizeMode.{ResizeMode}
use Rattle.papaya_words.specs.declared.resize_mode.ResizeMode.TheVariants.{Incremental, Blocking}
use Rattle.papaya_call.specs.declared.ask.At.{At}
use Rattle.papaya_call.specs.declared.ask.At.TheVariants.{Root, Next, Aborted, Done, Slot, Made}
use Rattle.papaya_call.specs.declared.ask.StepKind.{StepKind}
use Rattle.papaya_words_law.specs.Exchange as law
use Rattle.papaya_words_law.specs.Exchange.{Setting, Exchange, State, at_put, run, start}
use Rattle.papaya_words_law.specs.Grows.{Entry, Plan, exchanges, setting_in}
use Rattle.papaya_words_law.specs.Hashing.{hashed}
use Rattle.papaya_words_law.specs.Code.{Coding}
use Rattle.papaya_words_law.specs.Invariant.{named}
use Rattle.papaya_map_book.specs.Sheets.{Sheet}
use Rattle.papaya_map_book.specs.Pairs.{Pair}
use Rattle.papaya_map_book.specs.declared.rule.entry.Named.{Named}
use Rattle.papaya_map_book.specs.declared.rule.entry.Named.TheVariants as names
use Rattle.papaya_map_book.specs.declared.rule.entry.Step.{Step}
use Rattle.papaya_map_book.specs.declared.rule.entry.Step.TheVariants as steps
use Rattle.papaya_map_book.specs.declared.rule.entry.Event.{Event}
use Rattle.papaya_map_book.specs.declared.rule.entry.Event.TheVariants.{Wish, Called, Dealt, Stepped}

-- A pair as it is stored in the arena: with its number and its place there.
abbrev pub Stored : Type 0 → Type 0 → Type 0
Stored K V = Where (Pair K V)

-- The number of a table, counted from 1.
abbrev pub number_of : Where Sheet → ℕ
number_of w = w.index + 1

-- Whether the map's resizes block.
abbrev pub is_blocking : ResizeMode → Bool
is_blocking (Incremental chunk) = false
is_blocking Blocking = true

-- How the keys' places and the chunks of slots are found, and how many pairs may be made.
abbrev pub plan_of : {K V : Type 0} → (K → K → Bool) → (K → ℕ) → ResizeMode → (most : Option ℕ)
    → Plan K (Stored K V)
plan_of eq hash mode most = hashed (is_blocking mode) (chunk_of (chunk_len mode)) most
    (λ p. p.value.key.value) eq hash

-- The first of two options if it has a value, else the second.
abbrev pub or_else : {X : Type 0} → Option X → Option X → Option X
or_else (Some x) y = Some x
or_else None y = y

abbrev pub first_in : {X : Type 0} → List X → Option X
first_in [] = None
first_in (x ∷ xs) = Some x

abbrev pub Member : {X : Type 0} → X → List X → Type 0
Member x [] = ⊥
Member x (y ∷ ys) = (x ≡ y) ⊎ Member x ys

abbrev pub in_table : {X : Type 0} → (Sheet → Option X) → Option (Where Sheet) → Option X
in_table f None = None
in_table f (Some w) = f w.value

module _ {K V : Type 0} where
  -- The exchange of the law that this step is.
  abbrev pub exchange_of : Step K V → Exchange (Stored K V)
  exchange_of (steps.Open w) = law.Open (number_of w)
  exchange_of (steps.Claim t x p) = law.Claim t x p
  exchange_of (steps.Replace t x p q) = law.Replace t x p q
  exchange_of (steps.Bury t x p) = law.Bury t x p
  exchange_of (steps.Link t w) = law.Link t (number_of w)
  exchange_of (steps.Mark t x p) = law.Mark t x p
  exchange_of (steps.Close t x) = law.Close t x
  exchange_of (steps.Place t x p) = law.Place t x p
  exchange_of (steps.Finish t x p) = law.Finish t x p
  exchange_of (steps.Advance t c) = law.Advance t c
  exchange_of (steps.Promote t n) = law.Promote t n
  exchange_of (steps.Abort t) = law.Abort t
  exchange_of (steps.Take m) = law.Take m

  -- The new pair or the table that an exchange brings into the book, if any.
  abbrev pub comes : Step K V → Named K V
  comes (steps.Open w) = names.Table w
  comes (steps.Claim t x p) = names.Pair p
  comes (steps.Replace t x p q) = names.Pair q
  comes (steps.Link t w) = names.Table w
  comes _ = names.Nothing

  -- The number of slots of the table that is brought in; 1 if there is none.
  abbrev pub slots_of : Named K V → ℕ
  slots_of names.Nothing = 1
  slots_of (names.Pair p) = 1
  slots_of (names.Table w) = length w.value.slots

  -- The number of places at which a search of that table looks; 1 if there is none.
  abbrev pub places_of : Named K V → ℕ
  places_of names.Nothing = 1
  places_of (names.Pair p) = 1
  places_of (names.Table w) = w.value.limit + 1

  -- The number of words that it has for chunks of the table before it; 0 if there is none.
  abbrev pub chunks_of : Named K V → ℕ
  chunks_of names.Nothing = 0
  chunks_of (names.Pair p) = 0
  chunks_of (names.Table w) = length w.value.done

  abbrev pub entry_of : Step K V → Entry (Stored K V)
  entry_of e = record {
    by = exchange_of e;
    size = slots_of (comes e);
    places = places_of (comes e);
    chunks = chunks_of (comes e);
  }

  -- The table that is brought in, if it has this number.
  abbrev pub table_if : Named K V → ℕ → Option (Where Sheet)
  table_if names.Nothing t = None
  table_if (names.Pair p) t = None
  table_if (names.Table w) t = cond (number_of w == t) (Some w) None

  -- The table of this number, if it was brought in.
  abbrev pub table_in : List (Step K V) → ℕ → Option (Where Sheet)
  table_in [] t = None
  table_in (e ∷ es) t = or_else (table_if (comes e) t) (table_in es t)

  -- The key of the word at a place, if it was brought in.
  abbrev pub key_at : List (Step K V) → At → Option ℕ
  key_at es Root = Some 0
  key_at es (Next t) = in_table (λ s. Some s.next) (table_in es t)
  key_at es (Aborted t) = in_table (λ s. Some s.seal) (table_in es t)
  key_at es (Done t c) = in_table (λ s. slice_get s.done c) (table_in es t)
  key_at es (Slot t x) = in_table (λ s. slice_get s.slots x) (table_in es t)
  key_at es Made = Some 2

-- The pair or the table that a word names, if any.
abbrev pub pair_named : {K V : Type 0} → Option (Stored K V) → Named K V
pair_named None = names.Nothing
pair_named (Some p) = names.Pair p

abbrev pub table_named : {K V : Type 0} → Option (Where Sheet) → Named K V
table_named None = names.Nothing
table_named (Some w) = names.Table w

abbrev pub word_names : {K V : Type 0} → List (Step K V) → State (Stored K V) → At → Named K V
word_names es s Root = table_named (table_in es s.root)
word_names es s (Next t) = table_named (table_in es (s.next t))
word_names es s (Aborted t) = names.Nothing
word_names es s (Done t c) = names.Nothing
word_names es s (Slot t x) = pair_named (named (s.slot t x))
word_names es s Made = names.Nothing

module _ {K V S : Type 0} where
  -- The pair or the table that an event of the log brings into the book, if any.
  abbrev pub brought : Event K V S → Named K V
  brought (Wish at kind made n) = n
  brought (Stepped e) = comes e
  brought _ = names.Nothing

  -- The place of the word that an update asks for.
  abbrev pub place_of : Event K V S → At
  place_of (Wish at kind made n) = at
  place_of _ = Root

  -- The kind of exchange that it asks for.
  abbrev pub kind_of : Event K V S → Option StepKind
  kind_of (Wish at kind made n) = kind
  kind_of _ = None

  -- The pair that the asking call has made.
  abbrev pub made_of : Event K V S → Option (Stored K V)
  made_of (Wish at kind made n) = made
  made_of _ = None

  -- Some event of the log brought it in.
  abbrev pub Entered : Named K V → List (Event K V S) → Type 0
  Entered n [] = ⊥
  Entered n (e ∷ es) = (brought e ≡ n) ⊎ Entered n es

  abbrev pub step_of : Event K V S → List (Step K V)
  step_of (Stepped e) = e ∷ []
  step_of _ = []

  -- The exchanges of a log.
  abbrev pub steps_of : List (Event K V S) → List (Step K V)
  steps_of [] = []
  steps_of (e ∷ es) = step_of e ++ steps_of es

  abbrev pub entries_of : List (Event K V S) → List (Entry (Stored K V))
  entries_of log = map entry_of (steps_of log)

  -- The exchanges of the law that a log records.
  abbrev pub exchanges_of : List (Event K V S) → List (Exchange (Stored K V))
  exchanges_of log = exchanges (entries_of log)

  abbrev pub state_of : List (Event K V S) → State (Stored K V)
  state_of log = run (exchanges_of log) start

  -- The setting that a log makes.
  abbrev pub setting_of : (K → K → Bool) → (K → ℕ) → ResizeMode → (most : Option ℕ)
      → List (Event K V S) → Setting K (Stored K V)
  setting_of eq hash mode most log = setting_in (plan_of eq hash mode most) (entries_of log)

  -- The setting in which an exchange is asked for that brings this in. If it is a table, the
  -- setting also has its number of words for chunks, which no event of the log states yet.
  abbrev pub setting_with : (K → K → Bool) → (K → ℕ) → ResizeMode → (most : Option ℕ) → Named K V
      → List (Event K V S) → Setting K (Stored K V)
  setting_with eq hash mode most names.Nothing log = setting_of eq hash mode most log
  setting_with eq hash mode most (names.Pair p) log = setting_of eq hash mode most log
  setting_with eq hash mode most (names.Table w) log = record (setting_of eq hash mode most log) {
    chunks = at_put (setting_of eq hash mode most log).chunks (number_of w) (length w.value.done);
  }

  -- The name of the book that an event records, and (in `name_in`) the first one of a log.
  abbrev pub name_of : Event K V S → Option Book
  name_of (Called b) = Some b
  name_of _ = None

  abbrev pub name_in : List (Event K V S) → Option Book
  name_in [] = None
  name_in (e ∷ es) = or_else (name_of e) (name_in es)

  -- The seals of the tables for which words of the row were dealt, one for each word.
  abbrev pub seal_of : Event K V S → List ℕ
  seal_of (Dealt seal count) = replicate count seal
  seal_of _ = []

  abbrev pub seals_of : List (Event K V S) → List ℕ
  seals_of [] = []
  seals_of (e ∷ es) = seal_of e ++ seals_of es

  -- How many words of the row were dealt.
  abbrev pub dealt : List (Event K V S) → ℕ
  dealt log = length (seals_of log)

  -- The seal of the table that this word of the row is for; the row's keys begin at 3.
  abbrev pub owner : ℕ → List (Event K V S) → Option ℕ
  owner k log = slice_get (seals_of log) (k - 3)

-- The coding in which words name pairs by their numbers.
abbrev pub coding_of : {K V : Type 0} → (K → ℕ) → Coding K (Stored K V)
coding_of hash = record { number = λ p. p.index; hash = hash }
