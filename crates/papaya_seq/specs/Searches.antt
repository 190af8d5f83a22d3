-- The search of one table by plain code: the state to which each of its steps would bring the
-- machine of a call, which is never run.
use Rattle.std.specs.Prelude.{◌≡◌, ℕ, zero, suc, ◌+◌, ◌*◌, ◌-◌, ◌≤◌, Bool, true, List, Some, length}
use Rattle.papaya_words.specs.Table.{TableWords}
use Rattle.papaya_words.specs.Word.{kind_of, pair_of as number_of}
use Rattle.papaya_words.specs.declared.word.Kind.TheVariants.{Empty as Is_empty}
use Rattle.papaya_call.specs.declared.ask.Answer.{Answer}
use Rattle.papaya_call.specs.declared.ask.At.{At}
use Rattle.papaya_call.specs.declared.ask.At.TheVariants.{Slot}
use Rattle.papaya_call.specs.declared.search.Place.{Place}
use Rattle.papaya_call.specs.declared.search.Search.TheVariants.{Sizing, Looking, Reading, Comparing}
use Rattle.papaya_call.specs.declared.search.ProbeStep.{ProbeStep}
use Rattle.papaya_call.specs.declared.search.ProbeStep.TheVariants.{On, Empty, Here, Over}
use Rattle.papaya_call.specs.Search.{IsProbed, hinted}
use Rattle.papaya_call.specs.declared.machine.Machine.{Machine}
use Rattle.papaya_call.specs.declared.machine.State.{State}
use Rattle.papaya_call.specs.declared.machine.State.TheVariants.{AtRoot, Searching}
use Rattle.papaya_call.specs.Machine.{goes}
use Rattle.papaya_core_store.specs.Store.{StoreState, pair_of}
use Rattle.papaya_core_store.specs.Tables.{hint_at, table_of, word_at}
use Rattle.papaya_seq.specs.Looks.{Comes, matches_in}
use Rattle.papaya_seq.specs.declared.search.ProbeHit.{ProbeHit}
use Rattle.papaya_seq.specs.declared.search.ProbeHit.TheVariants as turns

-- after this step the search has no word to load, no key to compare and no size to ask for
abbrev pub HasStopped : ProbeStep → Type 0
HasStopped (On (Sizing t)) = ⊥
HasStopped (On (Looking at)) = Unit {0}
HasStopped (On (Reading at)) = ⊥
HasStopped (On (Comparing at word)) = ⊥
HasStopped (Empty at) = Unit {0}
HasStopped (Here at word) = Unit {0}
HasStopped (Over t) = Unit {0}

-- the outcome of one place, as a step of the machine's search
abbrev pub seen_by : ProbeHit → ProbeStep
seen_by (turns.Next at) = On (Looking at)
seen_by (turns.Empty at) = Empty at
seen_by (turns.Here at word) = Here at word
seen_by (turns.Over t) = Over t

-- How many answers a search at this place needs at most before it ends: three for each place that
-- is left, for its hint, its word and a comparison.
abbrev pub left_at : Place → ℕ
left_at at = 3 * (at.limit + 1 - at.probe.len) + 1

-- the same bound after the outcome of a place, 0 if the search is over
abbrev pub left_to : ProbeHit → ℕ
left_to (turns.Next at) = left_at at
left_to _ = 0

-- If the search stopped at an empty place, the word of that place is that of an empty slot. If it
-- found a pair or is to compare one, the word of the place is the one that it loaded.
abbrev pub HoldsWord : (At → ℕ) → ProbeStep → Type 0
HoldsWord words (Empty at) = kind_of (words (Slot at.table at.probe.i)) ≡ Is_empty
HoldsWord words (Here at word) = words (Slot at.table at.probe.i) ≡ word
HoldsWord words (On (Comparing at word)) = words (Slot at.table at.probe.i) ≡ word
HoldsWord words _ = Unit {0}

-- there is a table of this number, and it has `slots` slots
abbrev pub IsThere : {K V S : Type 0} → StoreState K V S → (number slots : ℕ) → Type 0
IsThere store number slots =
    (t : TableWords) × (table_of store.words.tables number ≡ Some t) × (length t.slots ≡ slots)

-- a search that goes on at a place is in a table whose number and length satisfy `so`
abbrev pub ContinuesIn : ((number slots : ℕ) → Type 0) → ProbeStep → Type 0
ContinuesIn so (On (Sizing t)) = Unit {0}
ContinuesIn so (On (Looking at)) = so at.table at.len
ContinuesIn so (On (Reading at)) = so at.table at.len
ContinuesIn so (On (Comparing at word)) = so at.table at.len
ContinuesIn so (Empty at) = Unit {0}
ContinuesIn so (Here at word) = Unit {0}
ContinuesIn so (Over t) = Unit {0}

module _ {K V S : Type 0} (matches : K → Bool) (store : StoreState K V S) (hash : ℕ) where
  -- a pair that was found has a key that matches
  abbrev pub IsMatchedBy : ProbeStep → Type 0
  IsMatchedBy (Here at word) = matches_in matches (pair_of store (number_of word)) ≡ true
  IsMatchedBy _ = Unit {0}

  -- Any call with this hash that is in `state` comes to the state that follows from `seen`, if its
  -- asks are answered by what is in the tables.
  abbrev pub SeesFrom : State → ProbeStep → Type 0
  SeesFrom state seen = (m : Machine) → (answers : List Answer)
      × Comes matches store (record m { hash = hash; state = state }) answers
      (record m { hash = hash; state = goes m seen })

  -- the same for a call that is about to load the hint of this place
  abbrev pub Sees : Place → ProbeStep → Type 0
  Sees at seen = SeesFrom (Searching (Looking at)) seen

  -- One step of the search brings a call in `state` to the outcome `turn`, and what the outcome
  -- names is in the tables.
  pub record IsHitFrom (state : State) (turn : ProbeHit) : Type 0 where
    pub sees : SeesFrom state (seen_by turn)
    pub within : IsProbed (seen_by turn)
    pub there : ContinuesIn (IsThere store) (seen_by turn)
    pub stands : HoldsWord (λ at. word_at store.words at) (seen_by turn)
    pub matched : IsMatchedBy (seen_by turn)

  -- One step from the place `at`: `IsProbeHit` begins with its hint, and loads its word if the hint
  -- says nothing or is the key's; `IsReadHit` begins with its word.
  abbrev pub IsProbeHit : Place → ProbeHit → Type 0
  IsProbeHit at turn = IsHitFrom (Searching (Looking at)) turn

  abbrev pub IsReadHit : Place → ProbeHit → Type 0
  IsReadHit at turn = IsHitFrom (Searching (Reading at)) turn

  -- The search of the root brings a call that begins to the outcome `turn`.
  pub record IsRootHit (turn : ProbeHit) : Type 0 where
    pub sees : SeesFrom AtRoot (seen_by turn)
    pub stands : HoldsWord (λ at. word_at store.words at) (seen_by turn)
    pub matched : IsMatchedBy (seen_by turn)

-- A search skipped the places of other keys, from `first` on: it is about to load the word of a
-- place that is no further from the end than `first`, or it has passed the whole table.
abbrev pub IsPassedTo : Place → ProbeStep → Type 0
IsPassedTo first (On (Reading at)) = left_at at ≤ left_at first
IsPassedTo first (Over n) = Unit {0}
IsPassedTo first _ = ⊥

-- the search continued by `rest` if it looks at another place next; any other step stays as it is
abbrev pub passed_on : (Place → ProbeStep) → ProbeStep → ProbeStep
passed_on rest (On (Looking next)) = rest next
passed_on rest seen = seen

module _ {K V S : Type 0} (store : StoreState K V S) (hash : ℕ) where
  -- the step to which the hint of a place leads
  abbrev pub seen_at : Place → ProbeStep
  seen_at at = hinted at hash (hint_at store.words at.table at.probe.i)

  -- the step to which the hints of this place and of up to n places after it lead, while each leads
  -- to the next place
  abbrev pub passed_by : ℕ → Place → ProbeStep
  passed_by zero at = seen_at at
  passed_by (suc n) at = passed_on (λ next. passed_by n next) (seen_at at)

  -- A search skipped places from `at` on by their hints alone, and came to the step `seen`.
  pub record IsPassed (at : Place) (seen : ProbeStep) : Type 0 where
    pub hints : (n : ℕ) × (seen ≡ passed_by n at)
    pub within : IsProbed seen
    pub there : ContinuesIn (IsThere store) seen
    pub led : IsPassedTo at seen
