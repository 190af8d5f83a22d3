-- The answer to one ask of a copier.
use Rattle.std.specs.Prelude.{◌≡◌, ◌⊎◌, ℕ, ◌<◌, ◌^◌, Bool, false, Option, Some, None, MatchBool, length}
use Rattle.papaya_words.specs.Counter.{count_of}
use Rattle.papaya_words.specs.declared.limits.TheConstants.{MAX_TABLES}
use Rattle.papaya_words.specs.declared.refused.Refused.TheVariants.{Memory}
use Rattle.papaya_call.specs.declared.ask.Answer.{Answer as Call_answer}
use Rattle.papaya_call.specs.declared.ask.Answer.TheVariants.{Word as Word_read, Yes, Ok as Ok_done, Refused as Was_refused}
use Rattle.papaya_call.specs.declared.copy_ask.CopyAsk.{CopyAsk}
use Rattle.papaya_call.specs.declared.copy_ask.CopyAsk.TheVariants.{Load, Exchange, LoadHint, WriteHint, SizeOf, HashOf, SamePair, Count, MakeTable}
use Rattle.papaya_call.specs.declared.chain.ask.Answer.{Answer}
use Rattle.papaya_call.specs.declared.chain.ask.Answer.TheVariants as answers
use Rattle.papaya_core_store.specs.Performs.{Exchanges, MakesTable, Refuses, size_of}
use Rattle.papaya_core_store.specs.Store.{StoreState, Stored, pair_of}
use Rattle.papaya_core_store.specs.Tables.{hint_at, note, put, table_of, word_at}

-- whether both pairs are there and have equal keys
abbrev pub same_keys : {K V : Type 0} → (K → K → Bool) → Option (Stored K V) → Option (Stored K V)
    → Bool
same_keys eq (Some p) (Some q) = eq p.key q.key
same_keys eq _ _ = false

-- the answer with the hash of a pair's key; it says nothing if there is no such pair
abbrev pub hash_in : {K V : Type 0} → (K → ℕ) → Option (Stored K V) → Answer
hash_in hash None = answers.Call Ok_done
hash_in hash (Some p) = answers.Hash (hash p.key)

-- if the answer is a hash, it is a number of 64 bits
abbrev pub IsHash : Answer → Type 0
IsHash (answers.Hash hash) = hash < 2 ^ 64
IsHash _ = Unit {0}

-- the answer is one that a call may be given, and `Is` holds of it
abbrev pub IsCallAnswer : Answer → (Call_answer → Type 0) → Type 0
IsCallAnswer answer Is = (told : Call_answer) × (answer ≡ answers.Call told) × Is told

module _ {K V S : Type 0} where
  -- exactly one ask is answered: a load or an exchange by the word or the hint that is there, a
  -- size by the table, and a hash or a comparison by the pairs of the arena
  abbrev pub PerformsCopy : (K → K → Bool) → (S → K → ℕ) → Bool → CopyAsk → StoreState K V S
      → Answer → StoreState K V S → Type 0
  PerformsCopy eq hash refuse (Load at) s answer s' =
      (answer ≡ answers.Call (Word_read (word_at s.words at))) × (s' ≡ s)
  PerformsCopy eq hash refuse (Exchange at old new) s answer s' =
      IsCallAnswer answer
      (λ told. Exchanges (word_at s.words at) old (put s.words at new) told s s')
  PerformsCopy eq hash refuse (LoadHint n i) s answer s' =
      (answer ≡ answers.Call (Word_read (hint_at s.words n i))) × (s' ≡ s)
  PerformsCopy eq hash refuse (WriteHint n i hint) s answer s' =
      (answer ≡ answers.Call Ok_done) × (s' ≡ record s { words = note s.words n i hint })
  PerformsCopy eq hash refuse (SizeOf n) s answer s' =
      (answer ≡ answers.Call (size_of (table_of s.words.tables n))) × (s' ≡ s)
  PerformsCopy eq hash refuse (HashOf n) s answer s' =
      (answer ≡ hash_in (hash s.hasher) (pair_of s n)) × IsHash answer × (s' ≡ s)
  PerformsCopy eq hash refuse (SamePair m n) s answer s' =
      (answer ≡ answers.Call (Yes (same_keys eq (pair_of s m) (pair_of s n)))) × (s' ≡ s)
  PerformsCopy eq hash refuse Count s answer s' =
      (answer ≡ answers.Count (count_of s.count.sum)) × (s' ≡ s)
  PerformsCopy eq hash refuse (MakeTable slots limit chunks) s answer s' =
      IsCallAnswer answer (λ told. MatchBool refuse
      ((told ≡ Was_refused Memory) × (s' ≡ s))
      ((Refuses MAX_TABLES (length s.words.tables) told × (s' ≡ s))
      ⊎ MakesTable told slots limit chunks s s'))
