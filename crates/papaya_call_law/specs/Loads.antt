-- The asks of a machine for a list of answers, and the tables that a lookup goes through.
use Rattle.std.specs.Prelude.{◌≡◌, ◌⊎◌, ℕ, ◌+◌, ◌<◌, ◌≤◌, ◌==◌, Bool, Option, None, Some, List, [], ◌∷◌}
use Rattle.std.specs.List.{All, Contains, count_by, filter_map}
use Rattle.std.specs.List.Sorted.{IsStrictlyIncreasing}
use Rattle.papaya_call.specs.declared.ask.At.{At}
use Rattle.papaya_call.specs.declared.ask.At.TheVariants.{Next, Slot}
use Rattle.papaya_call.specs.declared.ask.Ask.{Ask}
use Rattle.papaya_call.specs.declared.ask.Ask.TheVariants.{Load, LoadHint, SameKey, SizeOf}
use Rattle.papaya_call.specs.declared.ask.Answer.{Answer}
use Rattle.papaya_call.specs.declared.ask.Answer.TheVariants.{Word, Yes, Size}
use Rattle.papaya_call.specs.declared.machine.Machine.{Machine}
use Rattle.papaya_call.specs.Machine.{IsLookup, ask_of, after}

-- the asks of a machine, oldest first, if it is given these answers one after another
abbrev pub asked : Machine → List Answer → List Ask
asked m [] = []
asked m (answer ∷ rest) = ask_of m ∷ asked (after m answer) rest

-- if the number of a next table is loaded, it is 0 or greater than that of its table
abbrev pub IsRising : At → ℕ → Type 0
IsRising (Next t) word = (word ≡ 0) ⊎ (t < word)
IsRising _ word = Unit {0}

-- An answer fits an ask. Each table has one probe limit, and a next table has a greater number;
-- apart from that any word or hint may be loaded.
abbrev pub IsAnswer : (ℕ → ℕ) → Ask → Answer → Type 0
IsAnswer limit (Load at) answer = (word : ℕ) × (answer ≡ Word word) × IsRising at word
IsAnswer limit (LoadHint t x) answer = (hint : ℕ) × (answer ≡ Word hint)
IsAnswer limit (SizeOf t) answer = (slots : ℕ) × (answer ≡ Size slots (limit t))
IsAnswer limit (SameKey n) answer = (same : Bool) × (answer ≡ Yes same)
-- a lookup asks nothing else until it replies
IsAnswer limit _ answer = Unit {0}

-- each answer fits the ask to which it is given
abbrev pub AreAnswers : (ℕ → ℕ) → Machine → List Answer → Type 0
AreAnswers limit m [] = Unit {0}
AreAnswers limit m (answer ∷ rest) = IsAnswer limit (ask_of m) answer
    × AreAnswers limit (after m answer) rest

-- the table that an ask enters
abbrev pub table_entered : Ask → Option ℕ
table_entered (SizeOf t) = Some t
table_entered _ = None

-- the table of the slot whose word an ask loads
abbrev pub table_of_slot : At → Option ℕ
table_of_slot (Slot t x) = Some t
table_of_slot _ = None

abbrev pub table_loaded : Ask → Option ℕ
table_loaded (Load at) = table_of_slot at
table_loaded _ = None

-- the table of the slot whose hint an ask loads
abbrev pub table_hinted : Ask → Option ℕ
table_hinted (LoadHint t x) = Some t
table_hinted _ = None

-- the tables that are entered, in their order
abbrev pub tables_entered : List Ask → List ℕ
tables_entered asks = filter_map table_entered asks

-- the tables whose slots are loaded, each as often as a slot of it is loaded
abbrev pub tables_loaded : List Ask → List ℕ
tables_loaded asks = filter_map table_loaded asks

-- the tables whose hints are loaded, each as often as a hint of it is loaded
abbrev pub tables_hinted : List Ask → List ℕ
tables_hinted asks = filter_map table_hinted asks

-- The asks of a lookup, if table t has the probe limit `limit t`.
pub record IsBounded (limit : ℕ → ℕ) (asks : List Ask) : Type 0 where
  -- no table has more slot words loaded than its probe limit plus one
  pub loads : (t : ℕ) → count_by (λ u. u == t) (tables_loaded asks) ≤ limit t + 1
  -- nor more hints
  pub hints : (t : ℕ) → count_by (λ u. u == t) (tables_hinted asks) ≤ limit t + 1
  -- no table is entered twice
  pub rising : IsStrictlyIncreasing (tables_entered asks)
  -- each table whose slots or hints are loaded was entered
  pub entered : All (Contains (tables_entered asks)) (tables_loaded asks)
  pub entered_hinted : All (Contains (tables_entered asks)) (tables_hinted asks)
  -- nothing is changed or made
  pub quiet : All IsLookup asks
