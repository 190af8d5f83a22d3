-- The results of the calls of a book that was opened with `b`.
use Rattle.std.specs.Prelude.{◌≡◌, ◌⊎◌, ℕ, ◌==◌, Bool, MatchBool, MatchOption, Option, None, Some, List, [], ◌∷◌, ◌++◌}
use mathlib.Core.List.{IsPrefix}
use denote.Bor.{Bor}
use Rattle.boxcar.specs.Table.{Where}
use Rattle.logbook.specs.Pages.{Book}
use Rattle.papaya_call.specs.declared.ask.At.{At}
use Rattle.papaya_call.specs.declared.ask.At.TheVariants.{Slot}
use Rattle.papaya_call.specs.declared.ask.StepKind.{StepKind}
use Rattle.papaya_words_law.specs.Invariant.{named}
use Rattle.papaya_map_book.specs.Sheets.{Sheet}
use Rattle.papaya_map_book.specs.declared.rule.entry.Named.{Named}
use Rattle.papaya_map_book.specs.declared.rule.entry.Named.TheVariants as names
use Rattle.papaya_words.specs.Word.{kind_of, pair_of}
use Rattle.papaya_words.specs.declared.word.Kind.TheVariants as word_kinds
use Rattle.papaya_map_book.specs.declared.rule.entry.Begun.{Begun}
use Rattle.papaya_map_book.specs.declared.rule.entry.Step.{Step}
use Rattle.papaya_map_book.specs.declared.rule.entry.Event.{Event}
use Rattle.papaya_map_book.specs.declared.rule.entry.Event.TheVariants.{Stepped}
use Rattle.papaya_map_book.specs.Logs.{Stored, pair_named, state_of, steps_of, table_in, word_names}
use Rattle.papaya_map_book.specs.Plays.{IsMeant}
use Rattle.papaya_map_book.specs.Rule.{IsLawfulLog, IsPlaced, word_in}

-- The pair of a token that is lent, if there is one.
abbrev pub pair_seen : {P : Type 0} → Option (Bor P) → Option P
pair_seen None = None
pair_seen (Some r) = Some r.now

-- The table `t` is in the log, and it is `sheet`.
abbrev pub IsTable : {K V S : Type 0} → List (Event K V S) → ℕ → Sheet → Type 0
IsTable log t sheet = (w : Where Sheet) × (table_in (steps_of log) t ≡ Some w) × (w.value ≡ sheet)

-- The table `t` is in the log.
abbrev pub HasCome : {K V S : Type 0} → List (Event K V S) → ℕ → Type 0
HasCome log t = (w : Where Sheet) × (table_in (steps_of log) t ≡ Some w)

-- The table of the number `found` is in the log and belongs to this book; or there is no table, and
-- the number is 0.
abbrev pub IsTableOf : {K V S : Type 0} → Book → ℕ → List (Event K V S) → Option (Bor Sheet)
    → Type 0
IsTableOf name found log table = MatchOption table (found ≡ 0)
    (λ r. IsTable log found r.now × (r.now.book ≡ name))

-- If the word names a pair, that pair is `state`, and the word has its number.
abbrev pub NamesPair : {K V : Type 0} → ℕ → Option (Named K V) → Type 0
NamesPair {K} {V} found state = (kind_of found ≡ word_kinds.Empty → ⊥)
    → (kind_of found ≡ word_kinds.Closed → ⊥) → (p : Stored K V) × (state ≡ Some (names.Pair p))
    × (pair_of found ≡ p.index)

module _ {K V S : Type 0} (eq : K → K → Bool) (hash : S → K → ℕ) (b : Begun K V S) where
  -- After the log, `found` is the word at this place, and `state` is what it names.
  pub record IsRead (at : At) (found : ℕ) (log : List (Event K V S))
      (state : Option (Named K V)) : Type 0 where
    pub lawful : IsLawfulLog eq hash b log
    pub is : word_in eq hash b log at ≡ found
    pub state_is : state ≡ Some (word_names (steps_of log) (state_of log) at)

  -- After the log, `found` is the word at this place.
  pub record IsWord (at : At) (found : ℕ) (log : List (Event K V S)) : Type 0 where
    pub lawful : IsLawfulLog eq hash b log
    pub is : word_in eq hash b log at ≡ found

  -- An exchange was tried at a log that extends `seen`: it succeeded and is the next step, or it
  -- found another word.
  pub record IsTried (at : At) (kind : Option StepKind) (old new : ℕ) (made : Option (Stored K V))
      (brings : Named K V) (seen : List (Event K V S)) (found : ℕ) (log : List (Event K V S))
      (state : Option (Named K V)) : Type 0 where
    pub before : List (Event K V S)
    pub since : IsPrefix seen before
    pub lawful : IsLawfulLog eq hash b before
    pub now : IsLawfulLog eq hash b log
    pub is : word_in eq hash b before at ≡ found
    pub state_is : state ≡ Some (word_names (steps_of before) (state_of before) at)
    pub after : MatchBool (found == old) ((e : Step K V)
        × IsMeant eq hash at kind new made brings before e × (log ≡ before ++ Stepped e ∷ []))
        (log ≡ before)

  -- `found` is the word of this slot, and `pair` is what it names, which is stored in the arena.
  pub record IsSlot (name : Book) (t x found : ℕ) (log : List (Event K V S))
      (pair : Option (Stored K V)) : Type 0 where
    pub lawful : IsLawfulLog eq hash b log
    pub is : word_in eq hash b log (Slot t x) ≡ found
    pub names : named ((state_of log).slot t x) ≡ pair
    pub placed : IsPlaced b (Some name) (pair_named pair)

  -- `found` is the word of this slot, and `state` has the pair that it names, which is stored in
  -- the arena.
  pub record IsSlotWord (name : Book) (t x found : ℕ) (log : List (Event K V S))
      (state : Option (Named K V)) : Type 0 where
    pub read : IsRead (Slot t x) found log state
    pub some : NamesPair found state
    pub placed : IsPlaced b (Some name) (pair_named (named ((state_of log).slot t x)))

  -- `found` is the number of the root, and `table` is that table.
  pub record IsRoot (name : Book) (found : ℕ) (log : List (Event K V S))
      (table : Option (Bor Sheet)) : Type 0 where
    pub lawful : IsLawfulLog eq hash b log
    pub is : (state_of log).root ≡ found
    pub names : IsTableOf name found log table

  -- `found` is the number of the table after `t`, and `table` is that table.
  pub record IsNext (name : Book) (t found : ℕ) (log : List (Event K V S))
      (table : Option (Bor Sheet)) : Type 0 where
    pub lawful : IsLawfulLog eq hash b log
    pub is : (state_of log).next t ≡ found
    pub names : IsTableOf name found log table

  -- An exchange of a slot was tried. `pair` is what the slot named before, and is stored in the
  -- arena.
  pub record IsSlotTried (name : Book) (t x : ℕ) (kind : Option StepKind) (old new : ℕ)
      (made : Option (Stored K V)) (brings : Named K V) (seen : List (Event K V S)) (found : ℕ)
      (log : List (Event K V S)) (pair : Option (Stored K V)) : Type 0 where
    pub state : Option (Named K V)
    pub tried : IsTried (Slot t x) kind old new made brings seen found log state
    pub names : named ((state_of tried.before).slot t x) ≡ pair
    pub placed : IsPlaced b (Some name) (pair_named pair)

-- `pair` is the pair that the word names, if it names one.
pub record IsPairOf {K V : Type 0} (found : ℕ) (state : Option (Named K V))
    (pair : Option (Stored K V)) : Type 0 where
  pub none : (kind_of found ≡ word_kinds.Empty) ⊎ (kind_of found ≡ word_kinds.Closed) → pair ≡ None
  pub some : (p : Stored K V) → state ≡ Some (names.Pair p) → (kind_of found ≡ word_kinds.Empty → ⊥)
      → (kind_of found ≡ word_kinds.Closed → ⊥) → pair ≡ Some p
