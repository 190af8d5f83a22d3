-- A changing call on the shared map: what it holds and relies on, and what it changes.
use Rattle.std.specs.Prelude.{◌≡◌, ℕ, Bool, true, MatchOption, Option, None, Some, List, [], ◌∷◌, ◌++◌, length}
use mathlib.Core.List.{IsPrefix}
use denote.Bor.{Bor}
use Rattle.logbook.specs.Pages.{Book}
use Rattle.logbook.specs.Pages.{nib, may_write}
use Rattle.logbook.specs.declared.tokens.Pen.{Pen}
use Rattle.boxcar.specs.Table.{Where}
use Rattle.papaya_call.specs.declared.ask.Ask.TheVariants as asks
use Rattle.papaya_call.specs.declared.ask.At.TheVariants.{Root, Next}
use Rattle.papaya_call.specs.declared.copy_ask.CopyAsk.TheVariants as copies
use Rattle.papaya_call.specs.declared.copy.link.Link.{Link}
use Rattle.papaya_call.specs.declared.copy.link.Link.TheVariants.{Counting, Linking, Measuring}
use Rattle.papaya_call.specs.declared.chain.ask.Ask.{Ask}
use Rattle.papaya_call.specs.declared.chain.ask.Ask.TheVariants.{Call, Copy}
use Rattle.papaya_call.specs.declared.chain.machine.Machine.{Machine}
use Rattle.papaya_call.specs.declared.chain.machine.Phase.TheVariants.{Calling}
use Rattle.papaya_call.specs.ChainMachine.{ask_of}
use Rattle.papaya_call_law.specs.Goes.{link_in}
use Rattle.papaya_call_law.specs.ChainRelies.{Relies}
use Rattle.papaya_call_law.specs.ChainAnswers.{LoadedPairs}
use Rattle.papaya_call_law.specs.Followed.{IsAtTable}
use Rattle.papaya_words_law.specs.Exchange.{Exchange}
use Rattle.papaya_words_law.specs.Further.{IsLawfulKey}
use Rattle.papaya_call_law.specs.Relies.{change_in}
use Rattle.papaya_call_law.specs.TrueAnswers.{IsOneOf}
use Rattle.papaya_map_book.specs.Sheets.{Sheet}
use Rattle.papaya_map_book.specs.declared.rule.entry.Begun.{Begun}
use Rattle.papaya_map_book.specs.declared.rule.entry.Event.{Event}
use Rattle.papaya_map_book.specs.Calls.{IsTable}
use Rattle.papaya_map_lookup.specs.History.{change_of, key_of}
use Rattle.papaya_map_book.specs.declared.rule.entry.Named.TheVariants.{Table}
use Rattle.papaya_map_book.specs.Logs.{Member, Stored, coding_of, exchanges_of, number_of, pair_named, setting_of}
use Rattle.papaya_map_book.specs.Limits.{tables_of}
use Rattle.papaya_map_book.specs.Makers.{IsMade}
use Rattle.papaya_map_change.specs.declared.driver.Driver.{Driver}
use Rattle.papaya_map_lookup.specs.Lookups.{coding_for, setting_for}
use Rattle.papaya_map_book.specs.Rule.{IsLawfulLog, IsPlaced}

-- The record of the pairs that a call holds: the one that it loaded last, the one that its copy
-- carries, and those that it made.
abbrev pub loaded_with : {P : Type 0} → (last kept : Option P) (made : List P) → LoadedPairs P
loaded_with last kept made = record { call = record { last = last; made = made }; kept = kept }

-- The ask is an exchange that brings in the table `n`: it is opened as the root, or linked.
abbrev pub IsBringing : Ask → ℕ → Type 0
IsBringing (Call (asks.Exchange Root old new)) n = (old ≡ 0) × (new ≡ n)
IsBringing (Copy (copies.Exchange (Next t) old new)) n = (old ≡ 0) × (new ≡ n)
IsBringing _ n = ⊥

-- If the link has learned the length by which the next table is sized, that is the length of one of
-- these tables.
abbrev pub IsSizedLink : (tables : List ℕ) → Link → Type 0
IsSizedLink tables (Measuring behind copied unfit len) = Member len tables
IsSizedLink tables (Counting behind unfit len copied) = Member len tables
IsSizedLink tables _ = Unit {0}

abbrev pub IsSizedBy : (tables : List ℕ) → Option Link → Type 0
IsSizedBy tables None = Unit {0}
IsSizedBy tables (Some link) = IsSizedLink tables link

abbrev pub IsCountingOf : (tables : List ℕ) → Machine → Type 0
IsCountingOf tables m = IsSizedBy tables (link_in m.phase)

-- The call holds the table `n`, which was made, and the pen of its seal.
pub record IsFresh {K V S : Type 0} (b : Begun K V S) (name : Book) (log : List (Event K V S))
    (n : ℕ) (fresh : Option (Where Sheet × Pen)) : Type 0 where
  pub table : Where Sheet
  pub seal : Pen
  pub is : fresh ≡ Some (table, seal)
  pub number_is : number_of table ≡ n
  pub made : IsMade table.value log
  pub placed : IsPlaced b (Some name) (Table table)
  pub seal_book : seal.book ≡ name
  pub seal_nib : seal.nib ≡ nib may_write table.value.seal 0

-- The call holds a table that was made, which has `chunks` words for chunks.
abbrev pub HasChunks : Option (Where Sheet × Pen) → ℕ → Type 0
HasChunks fresh chunks = MatchOption fresh ⊥ (λ f. length f.0.value.done ≡ chunks)

-- The call holds the table `n`, which was made, and which has `chunks` words for chunks.
abbrev pub IsReadyAs : {K V S : Type 0} → Begun K V S → Book → List (Event K V S)
    → Option (Where Sheet × Pen) → (n chunks : ℕ) → Type 0
IsReadyAs b name log fresh n chunks = IsFresh b name log n fresh × HasChunks fresh chunks

-- A table that is about to be linked has as many words for chunks as the link asks for.
abbrev pub HasAskedWords : Option Link → Option (Where Sheet × Pen) → Type 0
HasAskedWords link fresh = (behind n chunks : ℕ) → link ≡ Some (Linking behind n chunks)
    → HasChunks fresh chunks

-- The key `other` is equal to the call's own key, if the call has one.
abbrev pub IsOfCall : {K : Type 0} → (K → K → Bool) → Option K → K → Type 0
IsOfCall eq k other = MatchOption k (Unit {0}) (λ key. eq key other ≡ true)

-- A pair that replaces none has the call's own key, and any other has the key of the pair that it
-- replaces. In both cases this key is equal to the call's own, if the call has one.
pub record HasItsKey {K V : Type 0} (eq : K → K → Bool) (k : Option K) (taken : Option (Stored K V))
    (q : Stored K V) : Type 0 where
  pub is : MatchOption taken (Some (key_of q) ≡ k) (λ p. key_of q ≡ key_of p)
  pub same : IsOfCall eq k (key_of q)

-- The log's last exchange is the call's change, which was made after the log `begun`. The pairs
-- that it takes out and puts in have the numbers that the machine keeps in `change`.
pub record HasChanged {K V S : Type 0} (eq : K → K → Bool) (k : Option K)
    (begun log : List (Event K V S)) (taken put : Option (Stored K V))
    (change : Option ℕ × Option ℕ) : Type 0 where
  pub before : List (Event K V S)
  pub since : IsPrefix begun before
  pub by : Exchange (Stored K V)
  pub is : exchanges_of log ≡ exchanges_of before ++ by ∷ []
  pub class : K
  pub change_is : change_of key_of by ≡ record { class = class; taken = taken; put = put } ∷ []
  pub taken_is : MatchOption taken (change.0 ≡ None)
      (λ p. (change.0 ≡ Some p.index) × (class ≡ key_of p))
  pub put_is : MatchOption put (change.1 ≡ None)
      (λ q. (change.1 ≡ Some q.index) × (eq class (key_of q) ≡ true)
      × HasItsKey eq k taken q)

-- A call by the key `k`, or by the further key if `k` is `None`, relies on the log since it began,
-- and on the copy for which it is set aside. It holds the table and the pair that it loaded last,
-- the pair that its copy carries, the pairs that it has made, and those that its change took out
-- and put in. It holds a table that it made until it has tried to open or link it.
pub record IsCalling {K V S : Type 0} (eq : K → K → Bool) (hash : S → K → ℕ) (b : Begun K V S)
    (name : Book) (matches : K → Bool) (fed : ℕ) (k : Option K) (begun log : List (Event K V S))
    (m : Machine) (table : Option (Bor Sheet)) (last kept : Option (Stored K V))
    (made : List (Stored K V)) (taken put : Option (Stored K V))
    (fresh : Option (Where Sheet × Pen)) : Type 0 where
  pub lawful : IsLawfulLog eq hash b log
  pub seen : IsPrefix begun log
  pub since : List (Exchange (Stored K V))
  pub is : exchanges_of begun ++ since ≡ exchanges_of log
  pub relies : Relies (setting_for eq hash b matches fed log) (coding_for hash b.hasher fed)
      (exchanges_of begun) since k m (loaded_with last kept made)
  pub number : ℕ
  pub at_table : m.phase ≡ Calling → IsAtTable number m.call.state
  pub holds_table : MatchOption table (number ≡ 0) (λ r. IsTable log number r.now)
  pub last_placed : IsPlaced b (Some name) (pair_named last)
  pub kept_placed : IsPlaced b (Some name) (pair_named kept)
  pub made_placed : (q : Stored K V) → IsOneOf made q → IsPlaced b (Some name) (pair_named (Some q))
  pub taken_placed : IsPlaced b (Some name) (pair_named taken)
  pub changed : (change : Option ℕ × Option ℕ) → change_in m.call.state ≡ Some change
      → HasChanged eq k begun log taken put change
  pub brings : (n : ℕ) → IsBringing (ask_of m) n → IsFresh b name log n fresh
  pub words : HasAskedWords (link_in m.phase) fresh
  pub counts : IsCountingOf (tables_of log) m

-- The further key that a call may search for, given by `matches` and the hash `fed`, is lawful.
abbrev pub IsForm : {K V S : Type 0} → (K → K → Bool) → (S → K → ℕ) → Begun K V S → (K → Bool) → ℕ
    → Type 0
IsForm {V = V} {S = S} eq hash b matches fed = IsLawfulKey
    (setting_of {V = V} {S = S} eq (hash b.hasher) b.mode b.limit []) (coding_of {V = V} (hash b.hasher))
    matches fed

module _ {K V S H : Type 0} (eq : K → K → Bool) (hash : S → K → ℕ) (b : Begun K V S)
    (name : Book) where
  -- The same for what the driver of a call under way holds.
  abbrev pub IsDriven : (K → Bool) → ℕ → Option K → List (Event K V S) → List (Event K V S)
      → List (Stored K V) → Driver K V S H → Type 0
  IsDriven matches fed k begun log made c = IsCalling eq hash b name matches fed k begun log c.machine
      c.table c.copier.last c.copier.kept made c.taken c.put c.copier.fresh

  -- Some call is under way with this driver.
  abbrev pub CanGoOn : List (Event K V S) → Driver K V S H → Type 0
  CanGoOn log c = (matches : K → Bool) × (fed : ℕ) × IsForm eq hash b matches fed × (k : Option K)
      × (begun : List (Event K V S)) × (made : List (Stored K V))
      × IsDriven matches fed k begun log made c

  -- Each call that was under way with `c` is under way at the log `log'` with `c'`.
  abbrev pub Continues : List (Event K V S) → Driver K V S H → List (Event K V S) → Driver K V S H
      → Type 0
  Continues log c log' c' = (matches : K → Bool) (fed : ℕ) → IsForm eq hash b matches fed → (k : Option K)
      (begun : List (Event K V S)) (made : List (Stored K V))
      → IsDriven matches fed k begun log made c → IsDriven matches fed k begun log' made c'
