-- The history of a map: its changes, oldest first. A change names no slot, word or table.
use Rattle.std.specs.Prelude.{◌≡◌, ℕ, Bool, true, cond, Option, None, Some, List, [], ◌∷◌, ◌++◌, map}
use Rattle.logbook.specs.Pages.{Book}
use Rattle.papaya_words_law.specs.Exchange as law
use Rattle.papaya_words_law.specs.Exchange.{Exchange}
use Rattle.papaya_map_book.specs.declared.rule.entry.Event.{Event}
use Rattle.papaya_map_book.specs.declared.rule.entry.Step.{Step}
use Rattle.papaya_map_book.specs.declared.rule.own.CapacityCause.{CapacityCause}
use Rattle.papaya_map_book.specs.Logs.{Stored, exchange_of, exchanges_of}
use Rattle.papaya_map_book.specs.Own.{last_if}

-- A change to the entry of one class of equal keys, named by a key of the class. `taken` is the
-- entry that the change takes out, if any, and `put` is the one that it puts in, if any.
pub record Change (K P : Type 0) : Type 0 where
  pub class : K
  pub taken : Option P
  pub put : Option P

module _ {K P : Type 0} where
  module _ (key : P → K) where
    -- The changes that an exchange makes: a claim, a replacement or a deletion makes one change,
    -- and any other exchange makes none.
    abbrev pub change_of : Exchange P → List (Change K P)
    change_of (law.Claim t x p) = record { class = key p; taken = None; put = Some p } ∷ []
    change_of (law.Replace t x p q) = record { class = key p; taken = Some p; put = Some q } ∷ []
    change_of (law.Bury t x p) = record { class = key p; taken = Some p; put = None } ∷ []
    change_of _ = []

    abbrev pub changes_of : List (Exchange P) → List (Change K P)
    changes_of [] = []
    changes_of (e ∷ es) = change_of e ++ changes_of es

  module _ (same : K → K → Bool) where
    -- The map after a change to the map `m`. A map gives each key its entry, if it has one.
    abbrev pub changed : (K → Option P) → Change K P → K → Option P
    changed m c k = cond (same k c.class) c.put (m k)

    abbrev pub replay_from : (K → Option P) → List (Change K P) → K → Option P
    replay_from m [] = m
    replay_from m (c ∷ cs) = replay_from (changed m c) cs

    -- The map that the changes, in this order, make of the empty map.
    abbrev pub replay : List (Change K P) → K → Option P
    replay cs = replay_from (λ k. None) cs

    -- The change is legal for the map `m`: it takes out the entry that `m` has for the class, if
    -- any; it takes out or puts in at least one entry; and it puts in only an entry of its class.
    -- An entry that replaces another keeps the stored key.
    pub record IsLegalChange (key : P → K) (m : K → Option P) (c : Change K P) : Type 0 where
      pub taken_is : m c.class ≡ c.taken
      pub some : c.taken ≡ None → c.put ≡ None → ⊥
      pub of_class : (q : P) → c.put ≡ Some q → same c.class (key q) ≡ true
      pub kept : (p q : P) → c.taken ≡ Some p → c.put ≡ Some q → key q ≡ key p

    abbrev pub AllLegalChanges : (P → K) → (K → Option P) → List (Change K P) → Type 0
    AllLegalChanges key m [] = Unit {0}
    AllLegalChanges key m (c ∷ cs) = IsLegalChange key m c × AllLegalChanges key (changed m c) cs

    -- Each change is legal for the map that the changes before it make of the empty map.
    abbrev pub IsLegalHistory : (P → K) → List (Change K P) → Type 0
    IsLegalHistory key cs = AllLegalChanges key (λ k. None) cs

-- The key of a stored entry.
abbrev pub key_of : {K V : Type 0} → Stored K V → K
key_of p = p.value.key.value

-- The history that a log records: the changes that its exchanges make.
abbrev pub history_of : {K V S : Type 0} → List (Event K V S) → List (Change K (Stored K V))
history_of log = changes_of key_of (exchanges_of log)

-- The changes that these exchanges make.
abbrev pub changes_by : {K V : Type 0} → List (Step K V) → List (Change K (Stored K V))
changes_by es = changes_of key_of (map exchange_of es)

-- A pass as contracts see it: the book of the map that it belongs to, the history that it has
-- observed, and the changes of that history that the pass itself made, oldest first. `tables` has
-- the number of slots of each table that it has observed, oldest first. If its last changing call
-- was refused because there was no room, `given` has the number that an arena returned or the sum
-- that the count returned. `taken` is how many numbers were taken for entries.
pub record Past (K V : Type 0) : Type 0 where
  pub book : Book
  pub history : List (Change K (Stored K V))
  pub made : List (Change K (Stored K V))
  pub tables : List ℕ
  pub given : List CapacityCause
  pub taken : ℕ

-- The changes of a pass were `old` and are `new`. A call that changed the map added one change, the
-- last of the observed `history`; any other call added none.
abbrev pub Makes : {K V : Type 0} → Bool → (old new history : List (Change K (Stored K V))) → Type 0
Makes changed old new history = new ≡ old ++ last_if changed history
