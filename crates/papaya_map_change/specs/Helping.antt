-- A call that was set aside for a copy: where it continues, and what each answer to the copy's asks
-- leaves it with.
use Rattle.std.specs.Prelude.{◌≡◌, ◌⊎◌, ℕ, ◌==◌, Bool, MatchBool, MatchOption, Option, None, Some, List, [], ◌∷◌, ◌++◌}
use mathlib.Core.List.{IsPrefix}
use Rattle.logbook.specs.Pages.{Book}
use Rattle.logbook.specs.declared.tokens.Pen.{Pen}
use Rattle.boxcar.specs.Table.{Where}
use Rattle.papaya_words.specs.declared.refused.Refused.{Refused}
use Rattle.papaya_words.specs.declared.refused.Refused.TheVariants.{Capacity, Memory}
use Rattle.papaya_call.specs.declared.ask.At.{At}
use Rattle.papaya_call.specs.declared.ask.At.TheVariants.{Slot}
use Rattle.papaya_call.specs.declared.ask.Answer.TheVariants.{Word, Refused as Was_refused}
use Rattle.papaya_call.specs.declared.ask.StepKind.{StepKind}
use Rattle.papaya_call.specs.declared.call.Reply.TheVariants.{Refused as Reply_refused}
use Rattle.papaya_call.specs.declared.search.Search.TheVariants.{Sizing}
use Rattle.papaya_call.specs.declared.machine.State.TheVariants.{AtRoot, Searching, Ended}
use Rattle.papaya_call.specs.Machine as calls
use Rattle.papaya_call.specs.declared.chain.ask.Answer.{Answer}
use Rattle.papaya_call.specs.declared.chain.ask.Answer.TheVariants as answers
use Rattle.papaya_call.specs.declared.chain.machine.Machine.{Machine}
use Rattle.papaya_call.specs.declared.chain.machine.Phase.TheVariants.{Calling}
use Rattle.papaya_call.specs.ChainMachine.{after, ask_of}
use Rattle.papaya_call_law.specs.Goes.{link_in}
use Rattle.papaya_call_law.specs.ChainRelies.{Relies, left_by}
use Rattle.papaya_words_law.specs.Exchange.{Exchange, State}
use Rattle.papaya_words_law.specs.Invariant.{named}
use Rattle.papaya_call_law.specs.Copier.{told_last}
use Rattle.papaya_call_law.specs.Relies.{change_in}
use Rattle.papaya_call_law.specs.TrueAnswers.{IsOneOf}
use Rattle.papaya_map_book.specs.declared.rule.entry.Begun.{Begun}
use Rattle.papaya_map_book.specs.declared.rule.entry.Event.{Event}
use Rattle.papaya_map_book.specs.declared.rule.entry.Event.TheVariants.{Stepped}
use Rattle.papaya_map_book.specs.declared.rule.entry.Named.{Named}
use Rattle.papaya_map_book.specs.declared.rule.entry.Named.TheVariants as names
use Rattle.papaya_map_book.specs.declared.rule.entry.Step.{Step}
use Rattle.papaya_map_book.specs.declared.rule.own.CapacityCause.{CapacityCause}
use Rattle.papaya_map_book.specs.declared.rule.own.CapacityCause.TheVariants.{Sum}
use Rattle.papaya_map_book.specs.Limits.{HasNoRoom, IsFull, tables_of}
use Rattle.papaya_map_book.specs.Logs.{Stored, comes, exchange_of, exchanges_of, pair_named, state_of}
use Rattle.papaya_map_book.specs.Plays.{IsWished}
use Rattle.papaya_map_book.specs.Rule.{IsLawfulLog, IsPlaced, word_in}
use Rattle.papaya_map_book.specs.Sheets.{Sheet}
use Rattle.papaya_map_lookup.specs.Lookups.{coding_for, setting_for}
use Rattle.papaya_map_change.specs.declared.driver.Driver.{Driver}
use Rattle.papaya_map_change.specs.Changing.{HasAskedWords, IsBringing, IsCountingOf, IsDriven, IsForm, IsFresh, loaded_with}

-- The call that was set aside now searches a next table for its key.
pub record HasGoneOn (m m' : Machine) : Type 0 where
  pub from : ℕ
  pub left : left_by m.call.state ≡ Some from
  pub table : ℕ
  pub call : m'.call ≡ record m.call { state = Searching (Sizing table) }

-- The call that was set aside begins again: it has just loaded the root, as a call that begins
-- does.
pub record HasRestarted (m m' : Machine) : Type 0 where
  pub from : ℕ
  pub left : left_by m.call.state ≡ Some from
  pub root : ℕ
  pub call : m'.call ≡ calls.after (record m.call { state = AtRoot }) (Word root)

-- The call that was set aside has ended, because a table could not be made: memory or room for it
-- ran out.
pub record WasRefused (m m' : Machine) (tables : List ℕ) (given : List CapacityCause) : Type 0 where
  pub from : ℕ
  pub left : left_by m.call.state ≡ Some from
  pub refused : Refused
  pub call : m'.call ≡ record m.call { state = Ended (Reply_refused refused) }
  pub cause : (refused ≡ Memory) ⊎ ((refused ≡ Capacity) × HasNoRoom m.call.initial tables given)

-- The call was not set aside, or it has continued in one of these ways.
abbrev pub HasHelped : Machine → Machine → (tables : List ℕ) → List CapacityCause → Type 0
HasHelped m m' tables given = (m' ≡ m) ⊎ HasGoneOn m m' ⊎ HasRestarted m m'
    ⊎ WasRefused m m' tables given

-- The call is still set aside.
pub record IsAside (m m' : Machine) : Type 0 where
  pub from : ℕ
  pub left : left_by m.call.state ≡ Some from
  pub call : m'.call ≡ m.call
  pub busy : m'.phase ≡ Calling → ⊥

-- The call is no longer set aside, and has continued in one of these ways.
pub record HasResumed (m m' : Machine) (tables : List ℕ) (given : List CapacityCause) : Type 0 where
  pub calling : m'.phase ≡ Calling
  pub where_to : HasGoneOn m m' ⊎ HasRestarted m m' ⊎ WasRefused m m' tables given

-- The call is about to search the table `n` for its key.
abbrev pub IsEntering : Machine → ℕ → Type 0
IsEntering m n = (m.phase ≡ Calling) × (m.call.state ≡ Searching (Sizing n))

-- The cause that an answer to a copy's ask leaves in `given`: the sum of the count, or why no table
-- was made.
abbrev pub IsGivenBy : Answer → List CapacityCause → Type 0
IsGivenBy (answers.Count sum) given = given ≡ Sum sum ∷ []
IsGivenBy (answers.Call (Was_refused refused)) given = (refused ≡ Memory)
    ⊎ ((refused ≡ Capacity) × IsFull given)
IsGivenBy _ given = Unit {0}

-- The pair that the word of a slot names.
abbrev pub pair_at : {P : Type 0} → State P → At → Option P
pair_at s (Slot t x) = named (s.slot t x)
pair_at s _ = None

-- If an exchange brings in a table, it is the one that the call holds.
abbrev pub IsOwnTable : {K V : Type 0} → Option (Where Sheet × Pen) → Named K V → Type 0
IsOwnTable fresh (names.Table w) = MatchOption fresh ⊥ (λ f. f.0 ≡ w)
IsOwnTable fresh _ = Unit {0}

-- A call that is set aside: what it relies on and holds. It may have no table yet in which to
-- search for its key.
pub record IsSetAside {K V S : Type 0} (eq : K → K → Bool) (hash : S → K → ℕ) (b : Begun K V S)
    (name : Book) (matches : K → Bool) (fed : ℕ) (k : Option K) (begun log : List (Event K V S))
    (m : Machine) (last kept : Option (Stored K V)) (made : List (Stored K V))
    (taken put : Option (Stored K V)) (fresh : Option (Where Sheet × Pen)) : Type 0 where
  pub lawful : IsLawfulLog eq hash b log
  pub seen : IsPrefix begun log
  pub since : List (Exchange (Stored K V))
  pub is : exchanges_of begun ++ since ≡ exchanges_of log
  pub relies : Relies (setting_for eq hash b matches fed log) (coding_for hash b.hasher fed)
      (exchanges_of begun) since k m (loaded_with last kept made)
  pub last_placed : IsPlaced b (Some name) (pair_named last)
  pub kept_placed : IsPlaced b (Some name) (pair_named kept)
  pub made_placed : (q : Stored K V) → IsOneOf made q → IsPlaced b (Some name) (pair_named (Some q))
  pub taken_placed : IsPlaced b (Some name) (pair_named taken)
  pub unchanged : change_in m.call.state ≡ None
  pub brings : (n : ℕ) → IsBringing (ask_of m) n → IsFresh b name log n fresh
  pub words : HasAskedWords (link_in m.phase) fresh
  pub counts : IsCountingOf (tables_of log) m

module _ {K V S : Type 0} (eq : K → K → Bool) (hash : S → K → ℕ) (b : Begun K V S)
    (name : Book) where
  -- The word of a place was loaded, and the pair that it names, if any, is now the one loaded last.
  pub record IsLoadedFor (at : At) (word : ℕ) (log : List (Event K V S))
      (last last' : Option (Stored K V)) : Type 0 where
    pub lawful : IsLawfulLog eq hash b log
    pub is : word_in eq hash b log at ≡ word
    pub last_is : last' ≡ told_last (state_of log) at last
    pub placed : IsPlaced b (Some name) (pair_named last)
        → IsPlaced b (Some name) (pair_named last')

  -- An exchange was tried for a copy, at a log that extends `seen`: it succeeded and is the next
  -- step, or it found another word. A table that it brought in was the one held. `pair` is the pair
  -- that the found word named, if any.
  pub record IsTriedFor (at : At) (kind : Option StepKind) (old new : ℕ)
      (kept : Option (Stored K V)) (fresh : Option (Where Sheet × Pen))
      (seen : List (Event K V S)) (found : ℕ) (log : List (Event K V S))
      (pair : Option (Stored K V)) : Type 0 where
    pub before : List (Event K V S)
    pub since : IsPrefix seen before
    pub lawful : IsLawfulLog eq hash b before
    pub now : IsLawfulLog eq hash b log
    pub is : word_in eq hash b before at ≡ found
    pub names : pair_at (state_of before) at ≡ pair
    pub placed : IsPlaced b (Some name) (pair_named pair)
    pub after : MatchBool (found == old) ((e : Step K V)
        × IsWished kind at new (state_of before) kept (exchange_of e)
        × IsOwnTable fresh (comes e) × (log ≡ before ++ Stepped e ∷ [])) (log ≡ before)

module _ {K V S H : Type 0} (eq : K → K → Bool) (hash : S → K → ℕ) (b : Begun K V S)
    (name : Book) where
  -- A call that was set aside, after this answer to what it asked for its copy.
  pub record HasCopied (matches : K → Bool) (fed : ℕ) (k : Option K) (begun : List (Event K V S))
      (made : List (Stored K V)) (log : List (Event K V S)) (c c' : Driver K V S H)
      (answer : Answer) : Type 0 where
    pub relies : IsSetAside eq hash b name matches fed k begun log (after c.machine answer)
        c'.copier.last c'.copier.kept made c'.taken c'.put c'.copier.fresh
    pub leads : IsAside c.machine (after c.machine answer)
        ⊎ HasResumed c.machine (after c.machine answer) (tables_of log) c'.copier.given.done

  -- This answer takes each call that was under way with `c` on to `c'`.
  abbrev pub Copies : List (Event K V S) → Driver K V S H → List (Event K V S) → Driver K V S H
      → Answer → Type 0
  Copies log c log' c' answer = (matches : K → Bool) (fed : ℕ) → IsForm eq hash b matches fed
      → (k : Option K) (begun : List (Event K V S)) (made : List (Stored K V))
      → IsDriven eq hash b name matches fed k begun log made c
      → HasCopied matches fed k begun made log' c c' answer
