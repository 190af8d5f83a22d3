-- A compute that plain code makes at once, described as a run of its machine.
use Rattle.std.specs.Prelude.{◌≡◌, ◌≢◌, ◌⊎◌, ℕ, Bool, Option, Some, None, List, Result, Ok, Err, option_map}
use denote.Ref.{Bor}
use Rattle.papaya_words.specs.Word.{kind_of, pair_of as number_of}
use Rattle.papaya_words.specs.declared.refused.Refused.{Refused}
use Rattle.papaya_words.specs.declared.refused.Refused.TheVariants.{RemoveNothing}
use Rattle.papaya_words.specs.declared.resize_mode.ResizeMode.{ResizeMode}
use Rattle.papaya_words.specs.declared.word.Kind.TheVariants.{Live}
use Rattle.papaya_call.specs.declared.ask.Answer.{Answer}
use Rattle.papaya_call.specs.declared.ask.Answer.TheVariants.{Op}
use Rattle.papaya_call.specs.declared.ask.Ask.{Ask}
use Rattle.papaya_call.specs.declared.ask.Ask.TheVariants.{ShowNone, ShowPair}
use Rattle.papaya_call.specs.declared.ask.OpKind.{OpKind}
use Rattle.papaya_call.specs.declared.ask.OpKind.TheVariants as kinds
use Rattle.papaya_call.specs.declared.call.Reply.{Reply}
use Rattle.papaya_call.specs.declared.call.Task.TheVariants.{Compute}
use Rattle.papaya_call.specs.declared.answers.Operation.{Operation}
use Rattle.papaya_call.specs.declared.answers.Operation.TheVariants.{Insert, Remove, Abort}
use Rattle.papaya_call.specs.declared.machine.Machine.{Machine}
use Rattle.papaya_call.specs.declared.write.Write.{Write}
use Rattle.papaya_call.specs.Machine.{after, ask_of, started}
use Rattle.papaya_words_keys.specs.declared.results.Computed.{Computed}
use Rattle.papaya_words_keys.specs.declared.results.Computed.TheVariants.{Removed, Aborted}
use Rattle.papaya_core_store.specs.Store.{StoreState, Stored, pair_of}
use Rattle.papaya_seq.specs.Computes.{Takes}
use Rattle.papaya_seq.specs.Computing.{IsComputed}
use Rattle.papaya_seq.specs.Drives.{IsReplied, at_hand}
use Rattle.papaya_seq.specs.Looks.{Comes}
use Rattle.papaya_seq.specs.Writes.{IsWritten, burying}
use Rattle.papaya_seq.specs.declared.search.ProbeHit.{ProbeHit}
use Rattle.papaya_seq.specs.declared.search.ProbeHit.TheVariants as turns

-- the kind of the operation that a closure returned, the value to insert (`value_by`), and the
-- value to abort with (`ended_by`)
abbrev pub told_by : {V T : Type 0} → Operation V T → OpKind
told_by (Insert v) = kinds.Insert
told_by Remove = kinds.Remove
told_by (Abort t) = kinds.Abort 0

abbrev pub value_by : {V T : Type 0} → Operation V T → Option V
value_by (Insert v) = Some v
value_by Remove = None
value_by (Abort t) = None

abbrev pub ended_by : {V T : Type 0} → Operation V T → Option T
ended_by (Insert v) = None
ended_by Remove = None
ended_by (Abort t) = Some t

-- the ask to call the closure with this pair, or with None
abbrev pub show_of : {K V : Type 0} → Option (Stored K V) → Ask
show_of None = ShowNone
show_of (Some p) = ShowPair p.number

-- the pair, if there is one, is in the arena under its number
abbrev pub IsInArena : {K V S : Type 0} → StoreState K V S → Option (Stored K V) → Type 0
IsInArena s None = Unit {0}
IsInArena s (Some p) = pair_of s p.number ≡ Some p

-- What a compute does at the place `at` after its closure returned this operation. The closure was
-- called with the pair that the old word names, or with None if the place is empty.
abbrev pub IsOperated : {K V S T : Type 0} → StoreState K V S → (hashed : ℕ) → Write → K
    → Operation V T → Result (Computed ℕ T) Refused → StoreState K V S → Type 0
IsOperated {V = V} s hashed at key (Insert v) result s' = (reply : Reply) × (left : Option V)
    × IsWritten s hashed at key v reply left s' × IsComputed reply None result
IsOperated s hashed at key Remove result s' =
    ((at.old ≡ 0) × (result ≡ Err RemoveNothing) × (s' ≡ s))
    ⊎ ((at.old ≢ 0) × (result ≡ Ok (Removed (number_of at.old)))
    × (s' ≡ burying s (record { place = at.place; word = at.old })))
IsOperated s hashed at key (Abort t) result s' = (result ≡ Ok (Aborted t)) × (s' ≡ s)

-- a closure with the precondition `pre` may be called with what a search found: the pair of a Live
-- word, or None at an empty place
abbrev pub TakesAt : {K V S : Type 0} → (Option (Bor K × Bor V) → Type 0) → StoreState K V S → ProbeHit
    → Type 0
TakesAt pre s (turns.Empty at) = Takes pre None
TakesAt pre s (turns.Here at word) = kind_of word ≡ Live → Takes pre (pair_of s (number_of word))
TakesAt pre s turn = Unit {0}

module _ {K V S T : Type 0} (eq : K → K → Bool) (hash : S → K → ℕ) (key : K)
    (said : Option (Stored K V) → Operation V T → Type 0) where
  -- A compute has searched the root, called its closure with what it found, acted on what the
  -- closure returned, and replied. `said held operation` states that the closure may return
  -- `operation` when it is called with `held`.
  pub record IsComputedFrom (s : StoreState K V S) (begun : Machine) (shown : Option ℕ)
      (result : Result (Computed ℕ T) Refused) (s' : StoreState K V S) : Type 0 where
    pub loads : List Answer
    pub shows : Machine
    pub comes : Comes (eq key) s begun loads shows
    pub held : Option (Stored K V)
    pub asked : ask_of shows ≡ show_of held
    pub logged : IsInArena s held
    pub shown_is : shown ≡ option_map (λ p. p.number) held
    pub operation : Operation V T
    pub answered : said held operation
    pub reply : Reply
    pub left : Option V
    pub replied : IsReplied eq hash s
        (at_hand (after shows (Op (told_by operation))) key (value_by operation)) reply left s'
    pub computed : IsComputed reply (ended_by operation) result

  -- the same for a map without a pair limit, whatever its resize mode and initial capacity are
  abbrev pub IsComputedFast : (hashed : ℕ) → StoreState K V S
      → Option ℕ × Result (Computed ℕ T) Refused → StoreState K V S → Type 0
  IsComputedFast hashed s done s' = (mode : ResizeMode) (initial : ℕ)
      → IsComputedFrom s (started Compute hashed mode initial None) done.0 done.1 s'
