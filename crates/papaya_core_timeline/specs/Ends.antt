-- The end of a call while no other call is under way: how many tables may still be made and words
-- exchanged, and what holds of the core until the call ends.
use Rattle.std.specs.Prelude.{◌≡◌, ◌⊎◌, ℕ, ◌+◌, ◌-◌, ◌^◌, ◌<◌, ◌==◌, if◌then◌else◌, Bool, List, [], ◌∷◌, length, Option, Some, sum_by, take}
use Rattle.papaya_words.specs.Table.{TableWords}
use Rattle.papaya_words.specs.Word.{kind_of}
use Rattle.papaya_words.specs.declared.word.Kind.{Kind}
use Rattle.papaya_words.specs.declared.word.Kind.TheVariants.{Empty, Live, Marked}
use Rattle.papaya_call.specs.declared.call.Task.{Task}
use Rattle.papaya_call.specs.declared.call.Task.TheVariants.{Insert}
use Rattle.papaya_call.specs.declared.compute.Choice.TheVariants.{Replace as To_replace}
use Rattle.papaya_call.specs.declared.compute.Purpose.{Purpose}
use Rattle.papaya_call.specs.declared.machine.Machine.{Machine}
use Rattle.papaya_call.specs.declared.machine.State.TheVariants.{Pairing}
use Rattle.papaya_call.specs.declared.made.Of.{Of}
use Rattle.papaya_call_alone.specs.Ahead.{IsCurrent}
use Rattle.papaya_call_alone.specs.Budget.{Budget}
use Rattle.papaya_call_alone.specs.Rank.{measure}
use Rattle.papaya_core_store.specs.declared.pairs.Part.{Part}
use Rattle.papaya_core_store.specs.declared.pairs.Running.{Running}
use Rattle.papaya_core_store.specs.Store.{StoreState}
use Rattle.papaya_core_store.specs.Tables.{Tables, word_at}
use Rattle.papaya_core_timeline.specs.declared.seat.Work.TheVariants.{Call}
use Rattle.papaya_core_timeline.specs.Core.{CoreState}
use Rattle.papaya_core_timeline.specs.Kept.{IsLawfulCore}

-- how often a slot of this kind may still change, not counting pairs that replace others
abbrev pub changes_of : Kind → ℕ
changes_of Empty = 3
changes_of Live = 2
changes_of Marked = 1
changes_of _ = 0

abbrev pub changes_of_word : ℕ → ℕ
changes_of_word word = changes_of (kind_of word)

-- how often the `next` word of a table may still change: once if there is no next table
abbrev pub links_of : ℕ → ℕ
links_of next = if next == 0 then 1 else 0

-- how often a chunk's word may still change; `ends_of` says how often a table may still be aborted
abbrev pub copies_of : ℕ → ℕ
copies_of done = 1 - done

-- how often the words of a table's chunks may still change; a table has no more chunks than it may
-- have slots
unfoldable pub copies_in : List ℕ → ℕ
copies_in done = sum_by copies_of (take (2 ^ 32) done)

abbrev pub ends_of : ℕ → ℕ
ends_of aborted = 1 - aborted

-- how often the words of a table may still change
abbrev pub exchanges_of : TableWords → ℕ
exchanges_of t = sum_by changes_of_word t.slots + links_of t.next + copies_in t.done
    + ends_of t.aborted

-- how often the words of all tables and the root may still change; the root only goes to later
-- tables
abbrev pub exchanges_in : Tables → ℕ
exchanges_in w = sum_by exchanges_of w.tables + (length w.tables - w.root)

abbrev pub budget_in : Tables → Budget
budget_in w = record { tables = 2 ^ 32 - length w.tables; exchanges = exchanges_in w }

abbrev pub budget_of : {K V S : Type 0} → StoreState K V S → Budget
budget_of store = budget_in store.words

-- the option has a value
abbrev pub IsThere : {X : Type 0} → Option X → Type 0
IsThere {X = X} o = (x : X) × (o ≡ Some x)

-- an insertion has its value
abbrev pub HasValue : {V : Type 0} → Task → Option (Part V) → Type 0
HasValue (Insert replace) value = IsThere value
HasValue task value = Unit {0}

-- a compute has to make a pair of the value that its closure returned, now or perhaps again
abbrev pub IsToPair : Machine → Type 0
IsToPair m = ((purpose : Purpose) × (m.state ≡ Pairing purpose))
    ⊎ ((old : ℕ) × (new : Of) × (m.remembered.choice ≡ Some (To_replace old new)))

-- a call has the value of which it has yet to make something
pub record IsMaker {K V A : Type 0} (r : Running K V A) : Type 0 where
  pub value : HasValue r.machine.call.task r.value
  pub answered : IsToPair r.machine.call → IsThere r.value

-- The only caller has this call under way, the core's invariant holds, the words that the call has
-- read are unchanged, and the call has the value that it is to store.
pub record IsLone {K V S A : Type 0} (eq : K → K → Bool) (hash : S → K → ℕ)
    (s : CoreState K V S A) (r : Running K V A) : Type 0 where
  pub callers : s.callers ≡ record { caller = 0; work = Some (Call r) } ∷ []
  pub lawful : IsLawfulCore eq (hash s.store.hasher) s.store s.callers s.mode
  pub maker : IsMaker r
  pub current : IsCurrent (word_at s.store.words) r.machine

-- a bound on how far such a call is from its end
abbrev pub lone_measure : {K V S A : Type 0} → CoreState K V S A → Running K V A → ℕ
lone_measure s r = measure (budget_of s.store) s.store.words.root r.machine

-- after a step the call is still under way, and its bound is smaller
pub record IsNearer {K V S A : Type 0} (eq : K → K → Bool) (hash : S → K → ℕ)
    (s : CoreState K V S A) (r : Running K V A) (s' : CoreState K V S A) : Type 0 where
  pub later : Running K V A
  pub lone : IsLone eq hash s' later
  pub less : lone_measure s' later < lone_measure s r
