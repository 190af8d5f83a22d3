-- A lookup whose asks are answered by the words of the tables.
use Rattle.std.specs.Prelude.{◌≡◌, Bool, false, Option, Some, None, List, [], ◌∷◌}
use Rattle.papaya_call.specs.declared.ask.Ask.{Ask}
use Rattle.papaya_call.specs.declared.ask.Ask.TheVariants.{Load, LoadHint, SameKey, SizeOf, Done}
use Rattle.papaya_call.specs.declared.ask.Answer.{Answer}
use Rattle.papaya_call.specs.declared.ask.Answer.TheVariants.{Word, Yes}
use Rattle.papaya_call.specs.declared.ask.At.TheVariants.{Root, Slot}
use Rattle.papaya_call.specs.declared.call.Reply.{Reply}
use Rattle.papaya_call.specs.declared.call.Reply.TheVariants.{Absent, Found}
use Rattle.papaya_call.specs.declared.machine.Machine.{Machine}
use Rattle.papaya_call.specs.Machine.{after, ask_of}
use Rattle.papaya_core_store.specs.Performs.{size_of}
use Rattle.papaya_core_store.specs.Store.{StoreState, Stored, pair_of}
use Rattle.papaya_core_store.specs.Tables.{hint_at, table_of, word_at}
use Rattle.papaya_seq.specs.Map.{HasNone, Holds}

-- whether there is a pair and its key matches
abbrev pub matches_in : {K V : Type 0} → (K → Bool) → Option (Stored K V) → Bool
matches_in matches None = false
matches_in matches (Some p) = matches p.key

-- an ask of the search of a table, or the load of the root
abbrev pub IsSearchAsk : Ask → Type 0
IsSearchAsk (Load Root) = Unit {0}
IsSearchAsk (Load (Slot t i)) = Unit {0}
IsSearchAsk (LoadHint t i) = Unit {0}
IsSearchAsk (SameKey n) = Unit {0}
IsSearchAsk (SizeOf t) = Unit {0}
IsSearchAsk _ = ⊥

module _ {K V S : Type 0} (matches : K → Bool) (store : StoreState K V S) where
  -- `answer` is true of the store: a load is answered by the word or the hint that is there, a size
  -- by the table, and a comparison by whether the pair's key matches
  abbrev pub IsTrueOfStore : Ask → Answer → Type 0
  IsTrueOfStore (Load at) answer = answer ≡ Word (word_at store.words at)
  IsTrueOfStore (LoadHint t i) answer = answer ≡ Word (hint_at store.words t i)
  IsTrueOfStore (SameKey n) answer = answer ≡ Yes (matches_in matches (pair_of store n))
  IsTrueOfStore (SizeOf t) answer = answer ≡ size_of (table_of store.words.tables t)
  IsTrueOfStore _ answer = ⊥

  -- the machine replies `reply` when these answers are given to its asks, and each is true of the
  -- store
  abbrev pub Replies : Machine → List Answer → Reply → Type 0
  Replies m [] reply = ask_of m ≡ Done reply
  Replies m (answer ∷ rest) reply = IsTrueOfStore (ask_of m) answer × Replies (after m answer) rest reply

  -- the machine m becomes m' when these answers are given to its asks, which are asks of a search,
  -- and each is true of the store
  abbrev pub Comes : Machine → List Answer → Machine → Type 0
  Comes m [] m' = m' ≡ m
  Comes m (answer ∷ rest) m' = IsSearchAsk (ask_of m) × IsTrueOfStore (ask_of m) answer
      × Comes (after m answer) rest m'

-- the reply to a lookup that found this: the number of the pair, or `Absent`
abbrev pub reply_of : {K V : Type 0} → Option (Stored K V) → Reply
reply_of None = Absent
reply_of (Some p) = Found p.number

module _ {K V S : Type 0} (eq : K → K → Bool) (matches : K → Bool) (store : StoreState K V S) where
  -- the pair is the map's pair whose key matches, or no pair of the map matches
  abbrev pub IsFound : Option (Stored K V) → Type 0
  IsFound None = HasNone eq matches store
  IsFound (Some p) = Holds eq matches store p × (pair_of store p.number ≡ Some p)

  -- A lookup by the machine m finds `found`, the map's pair or None, and the machine gives that
  -- reply when its asks are answered by what is in the tables.
  abbrev pub LooksUp : Machine → Option (Stored K V) → Type 0
  LooksUp m found = IsFound found × ((answers : List Answer)
      × Replies matches store m answers (reply_of found))
