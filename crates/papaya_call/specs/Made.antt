-- What a call has made for its pairs, and what its next pair still needs.
use Rattle.std.specs.Prelude.{ℕ, ◌+◌, ◌<◌, ◌^◌, ◌==◌, ◌&&◌, nat_lt, Bool, true, false, if◌then◌else◌, Option, Some, None}
use Rattle.papaya_words.specs.Word.{pair_of}
use Rattle.papaya_call.specs.declared.ask.At.TheVariants.{Made as Made_word}
use Rattle.papaya_call.specs.declared.ask.Ask.{Ask}
use Rattle.papaya_call.specs.declared.ask.Ask.TheVariants.{Load, Exchange, MakeKey, MakeValue, MakePair, MakePairOf}
use Rattle.papaya_call.specs.declared.ask.OpKind.{OpKind}
use Rattle.papaya_call.specs.declared.ask.OpKind.TheVariants.{Insert, Remove, Abort}
use Rattle.papaya_call.specs.declared.ask.StepKind.{StepKind}
use Rattle.papaya_call.specs.declared.ask.StepKind.TheVariants.{Take}
use Rattle.papaya_call.specs.declared.made.Grown.{Grown}
use Rattle.papaya_call.specs.declared.made.Grown.TheVariants.{On, Pair}
use Rattle.papaya_call.specs.declared.made.Made.{Made}
use Rattle.papaya_call.specs.declared.made.Number.{Number}
use Rattle.papaya_call.specs.declared.made.Number.TheVariants.{Wanted, Free, Taken}
use Rattle.papaya_call.specs.declared.made.Of.{Of}

-- whether a number has to be taken for a pair: only if there is a pair limit
abbrev pub wanted : Option ℕ → Number
wanted None = Taken
wanted (Some most) = Wanted

-- a call that has made nothing yet
abbrev pub nothing_made : Option ℕ → Made
nothing_made limit = record {
  limit = limit;
  number = wanted limit;
  keyed = false;
  valued = false;
  own = None;
  of = None;
}

-- a pair that was made with the key of a slot serves only in that slot
abbrev pub serves_at : Of → (table x : ℕ) → Bool
serves_at of table x = (of.table == table) && (of.index == x)

-- the ask for what is made next for a pair of the call's key; `of_ask` is for a pair with the key
-- of the pair that a word names
abbrev pub own_ask : (keyed valued : Bool) → Ask
own_ask false valued = MakeKey
own_ask true false = MakeValue
own_ask true true = MakePair

abbrev pub of_ask : (valued : Bool) → (old : ℕ) → Ask
of_ask false old = MakeValue
of_ask true old = MakePairOf (pair_of old)

abbrev pub make_ask : Made → (old : ℕ) → Ask
make_ask made old = if old == 0 then own_ask made.keyed made.valued else of_ask made.valued old

-- what a pair asks next: for a number, if it needs one, and then for what is made next
abbrev pub number_ask : Number → Made → (old : ℕ) → Ask
number_ask Wanted made old = Load Made_word
number_ask (Free count) made old = Exchange Made_word count (count + 1)
number_ask Taken made old = make_ask made old

abbrev pub pair_ask : Made → (old : ℕ) → Ask
pair_ask made old = number_ask made.number made old

-- the kind of the exchange that it asks for, if it asks for one
abbrev pub number_kind : Number → Option StepKind
number_kind (Free count) = Some Take
number_kind _ = None

-- what a call has made after the count of taken numbers was loaded: the next number is free if it
-- is below the limit, and otherwise there is none
abbrev pub told_limit : Made → Option ℕ → (count : ℕ) → Option Made
told_limit made None count = Some (record made { number = Taken })
told_limit made (Some most) count = if nat_lt count most
    then Some (record made { number = Free count }) else None

abbrev pub told_as : Made → Number → (count : ℕ) → Option Made
told_as made Taken count = Some made
told_as made _ count = told_limit made made.limit count

abbrev pub told : Made → (count : ℕ) → Option Made
told made count = told_as made made.number count

-- what a call has made after it has taken the number
abbrev pub taken_as : Made → Number → Made
taken_as made (Free count) = record made { number = Taken }
taken_as made _ = made

abbrev pub taken : Made → Made
taken made = taken_as made made.number

-- what a call has made after its pair: the next one needs a number again
abbrev pub paired : Made → Made
paired made = record made { number = wanted made.limit }

-- what a call has made after it made the key, then the value, then the pair
abbrev pub own_grown : (keyed valued : Bool) → Made → Grown
own_grown false valued made = On (record made { keyed = true })
own_grown true false made = On (record made { valued = true })
own_grown true true made = Pair (paired made)

abbrev pub of_grown : (valued : Bool) → Made → Grown
of_grown false made = On (record made { valued = true })
of_grown true made = Pair (paired made)

abbrev pub grown_as : Number → Made → (old : ℕ) → Grown
grown_as Taken made old = if old == 0 then own_grown made.keyed made.valued made
    else of_grown made.valued made
grown_as _ made old = On made

abbrev pub grown : Made → (old : ℕ) → Grown
grown made old = grown_as made.number made old

-- what a call has made after its closure returned an operation: the value of an insertion is yet to
-- be stored
abbrev pub answered : OpKind → Made → Made
answered Insert made = record made { valued = false }
answered Remove made = made
answered (Abort t) made = made

-- a free number has a next one that is a number of 64 bits; the number of a pair fits a word
abbrev pub IsNumber : Number → Type 0
IsNumber (Free count) = count + 1 < 2 ^ 64
IsNumber _ = Unit {0}

abbrev pub IsOwn : Option ℕ → Type 0
IsOwn None = Unit {0}
IsOwn (Some n) = n < 2 ^ 48

abbrev pub IsOf : Option Of → Type 0
IsOf None = Unit {0}
IsOf (Some of) = of.pair < 2 ^ 48

-- a pair limit is a number of 64 bits
abbrev pub IsLimit : Option ℕ → Type 0
IsLimit None = Unit {0}
IsLimit (Some most) = most < 2 ^ 64

pub record IsMade (made : Made) : Type 0 where
  pub limit : IsLimit made.limit
  pub number : IsNumber made.number
  pub own : IsOwn made.own
  pub of : IsOf made.of

abbrev pub IsMadeOrNone : Option Made → Type 0
IsMadeOrNone None = Unit {0}
IsMadeOrNone (Some made) = IsMade made

abbrev pub IsGrown : Grown → Type 0
IsGrown (On made) = IsMade made
IsGrown (Pair made) = IsMade made
