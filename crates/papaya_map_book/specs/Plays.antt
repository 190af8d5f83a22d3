-- The results of the steps on words.
use Rattle.std.specs.Prelude.{◌≡◌, ◌⊎◌, ℕ, ◌==◌, Bool, MatchBool, Option, None, Some, List, [], ◌∷◌, ◌++◌, filter}
use mathlib.Core.List.{IsPrefix}
use Rattle.logbook.specs.Pages.{View, Step as Book_step}
use Rattle.papaya_call.specs.declared.ask.At.{At}
use Rattle.papaya_call.specs.declared.ask.At.TheVariants as places
use Rattle.papaya_call.specs.declared.ask.StepKind.{StepKind}
use Rattle.papaya_call.specs.declared.ask.StepKind.TheVariants as kinds
use Rattle.papaya_words_law.specs.Allows.{Allows}
use Rattle.papaya_words_law.specs.Code.{Coding}
use Rattle.papaya_words_law.specs.Exchange.{Exchange, Open, Claim, Replace, Bury, Take, Live, State, after}
use Rattle.papaya_call_law.specs.Copier.{IsCopyAsked}
use Rattle.papaya_call_law.specs.TrueAnswers.{IsOwnWord, IsWritten, LoadedPairs}
use Rattle.papaya_map_book.specs.declared.rule.entry.Named.{Named}
use Rattle.papaya_map_book.specs.declared.rule.entry.Begun.{Begun}
use Rattle.papaya_map_book.specs.declared.rule.entry.Step.{Step}
use Rattle.papaya_map_book.specs.declared.rule.entry.Event.{Event}
use Rattle.papaya_map_book.specs.declared.rule.entry.Event.TheVariants.{Stepped}
use Rattle.papaya_map_book.specs.Logs.{Stored, brought, coding_of, comes, exchange_of, kind_of, made_of}
use Rattle.papaya_map_book.specs.Logs.{place_of, setting_of, setting_with, state_of, steps_of}
use Rattle.papaya_map_book.specs.Logs.{word_names}
use Rattle.papaya_map_book.specs.Changes.{is_change}
use Rattle.papaya_map_book.specs.Own.{last_if}
use Rattle.papaya_map_book.specs.Rule.{IsLawfulLog, word_in}

-- The pair that a call made, if any, as a list.
abbrev pub made_list : {P : Type 0} → Option P → List P
made_list None = []
made_list (Some q) = q ∷ []

-- The record of the pairs of a call that has made this one, if any.
abbrev pub loaded_of : {P : Type 0} → Option P → LoadedPairs P
loaded_of made = record { last = None; made = made_list made }

-- An exchange of this kind puts a pair in.
abbrev pub IsPutting : Option StepKind → Type 0
IsPutting kind = (kind ≡ Some kinds.Claim) ⊎ (kind ≡ Some kinds.Replace)

-- The coding in which words name pairs by their numbers.
abbrev pub Numbered : {K V : Type 0} → Coding K (Stored K V)
Numbered = coding_of (λ k. 0)

-- The exchange of the law that a call asks for, whatever the call's key. A pair that is put in is
-- one that the call made, and has the key of the one that it replaces, if any.
abbrev pub IsCallAsked : {K V : Type 0} → Option StepKind → At → ℕ → State (Stored K V)
    → LoadedPairs (Stored K V) → Exchange (Stored K V) → Type 0
IsCallAsked (Some kinds.Open) places.Root new s loaded e = e ≡ Open new
IsCallAsked {K} {V} (Some kinds.Claim) (places.Slot t x) new s loaded e = (q : Stored K V)
    × IsOwnWord Numbered loaded new q × (e ≡ Claim t x q)
IsCallAsked {K} {V} (Some kinds.Replace) (places.Slot t x) new s loaded e = (p : Stored K V)
    × (q : Stored K V) × (s.slot t x ≡ Live p) × IsOwnWord Numbered loaded new q
    × (q.value.key.value ≡ p.value.key.value) × (e ≡ Replace t x p q)
IsCallAsked {K} {V} (Some kinds.Bury) (places.Slot t x) new s loaded e = (p : Stored K V)
    × (s.slot t x ≡ Live p) × (e ≡ Bury t x p)
IsCallAsked (Some kinds.Take) places.Made new s loaded e = e ≡ Take s.made
IsCallAsked _ _ new s loaded e = ⊥

-- The exchange of the law that is asked for: by a call, with a pair that it made, or for a copy,
-- with the pair that is carried.
abbrev pub IsWished : {K V : Type 0} → Option StepKind → At → ℕ → State (Stored K V)
    → Option (Stored K V) → Exchange (Stored K V) → Type 0
IsWished kind at new s made e = IsCallAsked kind at new s (loaded_of made) e
    ⊎ IsCopyAsked Numbered kind at new s made e

module _ {K V S : Type 0} (eq : K → K → Bool) (hash : S → K → ℕ) where
  -- A load returns the word at the place, and what it names.
  pub record Looked (at : At) (found : ℕ) (log : List (Event K V S))
      (state : Option (Named K V)) : Type 0 where
    pub begun : Begun K V S
    pub lawful : IsLawfulLog eq hash begun log
    pub is : word_in eq hash begun log at ≡ found
    pub state_is : state ≡ Some (word_names (steps_of log) (state_of log) at)

  abbrev pub Looks : Book_step (Event K V S) → View (Event K V S) (Named K V) → ℕ
      → View (Event K V S) (Named K V) → Type 0
  Looks s v found w = Looked (place_of s.ask) found w.0 w.1.1

  -- The exchange is of the kind that was asked for, with the pair that the call made or carries,
  -- and it brings in what was passed in.
  pub record IsMeant (at : At) (kind : Option StepKind) (new : ℕ) (made : Option (Stored K V))
      (brings : Named K V) (before : List (Event K V S)) (e : Step K V) : Type 0 where
    pub asked : IsWished kind at new (state_of before) made (exchange_of e)
    pub with_it : comes e ≡ brings

  -- After this log the exchange may be made: some step is meant by it, which the law allows with
  -- what it brings in, and which writes just this word.
  pub record MayStep (b : Begun K V S) (at : At) (kind : Option StepKind) (new : ℕ)
      (made : Option (Stored K V)) (brings : Named K V) (log : List (Event K V S)) : Type 0 where
    pub step : Step K V
    pub meant : IsMeant at kind new made brings log step
    pub allowed : Allows (setting_with eq (hash b.hasher) b.mode b.limit brings log) (state_of log)
        (exchange_of step)
    pub written : IsWritten (setting_of eq (hash b.hasher) b.mode b.limit log)
        (coding_of (hash b.hasher)) (state_of log) at new (after (state_of log) (exchange_of step))

  -- The exchange may be made after any log that extends `seen` and at which the place has the old
  -- word.
  abbrev pub CanExchange : Begun K V S → At → Option StepKind → (old new : ℕ) → Option (Stored K V)
      → Named K V → List (Event K V S) → Type 0
  CanExchange b at kind old new made brings seen = (log : List (Event K V S)) → IsPrefix seen log
      → IsLawfulLog eq hash b log → word_in eq hash b log at ≡ old
      → MayStep b at kind new made brings log

  -- An exchange was tried at a log that extends `seen`: it succeeded and is the next step, or it
  -- found another word.
  pub record Tried (at : At) (kind : Option StepKind) (old new : ℕ) (made : Option (Stored K V))
      (brings : Named K V) (seen : List (Event K V S)) (found : ℕ) (log : List (Event K V S))
      (state : Option (Named K V)) : Type 0 where
    pub before : List (Event K V S)
    pub since : IsPrefix seen before
    pub begun : Begun K V S
    pub lawful : IsLawfulLog eq hash begun before
    pub now : IsLawfulLog eq hash begun log
    pub is : word_in eq hash begun before at ≡ found
    pub state_is : state ≡ Some (word_names (steps_of before) (state_of before) at)
    pub after : MatchBool (found == old) ((e : Step K V) × IsMeant at kind new made brings before e
        × (log ≡ before ++ Stepped e ∷ [])) (log ≡ before)

  abbrev pub Tries : Book_step (Event K V S) → View (Event K V S) (Named K V) → ℕ
      → View (Event K V S) (Named K V) → Type 0
  Tries s v found w = Tried (place_of s.ask) (kind_of s.ask) s.old s.new (made_of s.ask)
      (brought s.ask) v.0 found w.0 w.1.1

  -- The same for an exchange that pays with the gate. Of what it added it tells the entry that
  -- changes the map.
  abbrev pub TriesPaid : Book_step (Event K V S) → List (Event K V S) → Option (Named K V) → ℕ
      → List (Event K V S) → List (Event K V S) → Option (Named K V) → Type 0
  TriesPaid s seen state found added log state' = Tried (place_of s.ask) (kind_of s.ask) s.old s.new
      (made_of s.ask) (brought s.ask) seen found log state'
      × (added ≡ filter is_change (last_if (found == s.old) log))
