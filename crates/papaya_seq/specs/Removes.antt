-- What a removal does.
use Rattle.std.specs.Prelude.{◌≡◌, ℕ, Bool, true, false, Option, Some, None, Result, Ok, Err}
use denote.Ref.{Bor}
use Rattle.std.specs.Fn.{Called, Mut}
use Rattle.papaya_words.specs.declared.refused.Refused as words
use Rattle.papaya_call.specs.declared.ask.Answer.{Answer}
use Rattle.papaya_call.specs.declared.ask.Answer.TheVariants.{Word as Word_read, Yes, Ok as Ok_done}
use Rattle.papaya_call.specs.declared.ask.Ask.{Ask}
use Rattle.papaya_call.specs.declared.ask.Ask.TheVariants.{Load, Exchange, LoadHint, WriteHint}
use Rattle.papaya_call.specs.declared.ask.Ask.TheVariants.{SameKey, ShowNone, ShowPair, SizeOf}
use Rattle.papaya_call.specs.declared.ask.Ask.TheVariants.{MakeKey, MakeValue, MakePair, MakePairOf}
use Rattle.papaya_call.specs.declared.ask.Ask.TheVariants.{MakeTable, AddToShard, Done as Ask_done}
use Rattle.papaya_call.specs.declared.call.Reply.{Reply}
use Rattle.papaya_call.specs.declared.call.Reply.TheVariants.{Absent, Removed, Kept, Refused}
use Rattle.papaya_core_store.specs.Performs.{Exchanges, size_of}
use Rattle.papaya_core_store.specs.Store.{StoreState, Stored, pair_of}
use Rattle.papaya_core_store.specs.Tables.{hint_at, put, table_of, word_at}
use Rattle.papaya_words.specs.Counter.{added}
use Rattle.papaya_seq.specs.Looks.{matches_in}
use Rattle.papaya_seq.specs.Map.{HasNone, Holds, KeepsRemoving, MapState, Removes, Unchanged, entry_of}
use Rattle.papaya_seq.specs.Resizes.{IsCopyCause}

-- called with the pair p, the closure in state f may return `agrees`
abbrev pub Judges : {F K V : Type 0} → Mut F (Bor K × (Bor V × Unit {0})) Bool → F → Stored K V
    → Bool → Type 0
Judges {F = F} {K = K} {V = V} g f p agrees = (key : Bor K) × (value : Bor V) × (f' : F)
    × (key.now ≡ p.key) × (value.now ≡ p.value) × Called g f (key, (value, tt)) agrees f'

-- the same, and the call leaves the closure in state f'
abbrev pub JudgesTo : {F K V : Type 0} → Mut F (Bor K × (Bor V × Unit {0})) Bool → F → F
    → Stored K V → Bool → Type 0
JudgesTo {K = K} {V = V} g f f' p agrees = (key : Bor K) × (value : Bor V) × (key.now ≡ p.key)
    × (value.now ≡ p.value) × Called g f (key, (value, tt)) agrees f'

-- When a removal has replied, its closure is in state f': it was called once, with the pair of the
-- number in the reply, or not at all.
abbrev pub IsCalledFor : {F K V S : Type 0} → Mut F (Bor K × (Bor V × Unit {0})) Bool
    → StoreState K V S → Reply → F → F → Type 0
IsCalledFor {K = K} {V = V} g s (Removed n) f f' = (p : Stored K V) × (pair_of s n ≡ Some p)
    × JudgesTo g f f' p true
IsCalledFor {K = K} {V = V} g s (Kept n) f f' = (p : Stored K V) × (pair_of s n ≡ Some p)
    × JudgesTo g f f' p false
IsCalledFor g s _ f f' = f' ≡ f

-- if there is a pair, the closure is called with it once and `answer` is what it returned;
-- otherwise it is not called
abbrev pub IsShown : {F K V : Type 0} → Mut F (Bor K × (Bor V × Unit {0})) Bool
    → Option (Stored K V) → F → Answer → F → Type 0
IsShown g None f answer f' = (answer ≡ Ok_done) × (f' ≡ f)
IsShown {K = K} {V = V} g (Some p) f answer f' = (key : Bor K) × (value : Bor V) × (agrees : Bool)
    × (key.now ≡ p.key) × (value.now ≡ p.value) × (answer ≡ Yes agrees)
    × Called g f (key, (value, tt)) agrees f'

-- an ask of a removal: it calls its closure only with a pair, makes nothing, writes no hint and is
-- no reply
abbrev pub IsRemovalAsk : Ask → Type 0
IsRemovalAsk (WriteHint t i hint) = ⊥
IsRemovalAsk ShowNone = ⊥
IsRemovalAsk MakeKey = ⊥
IsRemovalAsk MakeValue = ⊥
IsRemovalAsk MakePair = ⊥
IsRemovalAsk (MakePairOf n) = ⊥
IsRemovalAsk (MakeTable slots limit chunks) = ⊥
IsRemovalAsk (Ask_done reply) = ⊥
IsRemovalAsk _ = Unit {0}

module _ {K V S F : Type 0} (g : Mut F (Bor K × (Bor V × Unit {0})) Bool) (matches : K → Bool) where
  -- an ask of a removal is answered by the store, and a call of the closure by the closure
  abbrev pub IsRemovalAnswer : Ask → StoreState K V S → F → Answer → StoreState K V S → F → Type 0
  IsRemovalAnswer (Load at) s f answer s' f' = (answer ≡ Word_read (word_at s.words at)) × (s' ≡ s)
      × (f' ≡ f)
  IsRemovalAnswer (Exchange at old new) s f answer s' f' =
      Exchanges (word_at s.words at) old (put s.words at new) answer s s' × (f' ≡ f)
  IsRemovalAnswer (LoadHint t i) s f answer s' f' =
      (answer ≡ Word_read (hint_at s.words t i)) × (s' ≡ s) × (f' ≡ f)
  IsRemovalAnswer (SameKey n) s f answer s' f' =
      (answer ≡ Yes (matches_in matches (pair_of s n))) × (s' ≡ s) × (f' ≡ f)
  IsRemovalAnswer (ShowPair n) s f answer s' f' = IsShown g (pair_of s n) f answer f' × (s' ≡ s)
  IsRemovalAnswer (SizeOf t) s f answer s' f' = (answer ≡ size_of (table_of s.words.tables t))
      × (s' ≡ s) × (f' ≡ f)
  IsRemovalAnswer (AddToShard by) s f answer s' f' = (answer ≡ Ok_done)
      × ((number : ℕ) × (s' ≡ record s { count = added s.count number by })) × (f' ≡ f)
  IsRemovalAnswer ask s f answer s' f' = ⊥

module _ {K V S : Type 0} (eq : K → K → Bool) (matches : K → Bool) where
  -- p is the map's pair whose key matches, and n is its number
  pub record IsHeld (n : ℕ) (s : StoreState K V S) (p : Stored K V) : Type 0 where
    pub held : Holds eq matches s p
    pub logged : pair_of s n ≡ Some p

  -- What a removal did that replied `reply`: it removed the pair for which the closure returned
  -- `true`, or left the finite map as it was. `said p agrees` states that the closure returned
  -- `agrees` for the pair p.
  abbrev pub IsRemoval : (Stored K V → Bool → Type 0) → StoreState K V S → Reply → StoreState K V S
      → Type 0
  IsRemoval said s Absent s' = HasNone eq matches s × Unchanged eq s s'
  IsRemoval said s (Removed n) s' = (p : Stored K V) × IsHeld n s p × Removes eq matches s p s'
      × said p true
  IsRemoval said s (Kept n) s' = (p : Stored K V) × IsHeld n s p × Unchanged eq s s' × said p false
  IsRemoval said s (Refused refused) s' = Unchanged eq s s'
  IsRemoval said s _ s' = ⊥

-- the same as a record, so that a proof can read `said` off its type
pub record IsRemovalBy {K V S : Type 0} (eq : K → K → Bool) (matches : K → Bool)
    (said : Stored K V → Bool → Type 0) (s : StoreState K V S) (reply : Reply)
    (s' : StoreState K V S) : Type 0 where
  pub removal : IsRemoval eq matches said s reply s'

-- The result of a removal: `shows p` for the removed pair p, None if no key matches, or a refusal,
-- whose cause is a resize that could not be completed.
abbrev pub IsRemoved : {K V S R : Type 0} → (K → K → Bool) → (K → Bool) → (Stored K V → R)
    → MapState K V S → Result (Option R) words.Refused → MapState K V S → Type 0
IsRemoved eq matches shows s (Ok None) s' = HasNone eq matches s.store
    × Unchanged eq s.store s'.store × KeepsRemoving s s'
IsRemoved {K = K} {V = V} eq matches shows s (Ok (Some shown)) s' = (p : Stored K V)
    × (shows p ≡ shown) × Removes eq matches s.store p s'.store × KeepsRemoving s s'
IsRemoved eq matches shows s (Err refused) s' = IsCopyCause s refused s'
    × Unchanged eq s.store s'.store × KeepsRemoving s s'

module _ {K V S : Type 0} (eq : K → K → Bool) (matches : K → Bool)
    (said : Stored K V → Bool → Type 0) where
  -- The result of a removal with a closure: the removed entry, for which the closure returned
  -- `true`; None if no key matches; the entry that stays, for which it returned `false`; or a
  -- refusal. `said p agrees` states that the closure returned `agrees` for the pair p.
  abbrev pub IsJudged : MapState K V S → Result (Result (Option (K × V)) (K × V)) words.Refused
      → MapState K V S → Type 0
  IsJudged s (Ok (Ok None)) s' = HasNone eq matches s.store × Unchanged eq s.store s'.store
      × KeepsRemoving s s'
  IsJudged s (Ok (Ok (Some entry))) s' = (p : Stored K V) × (entry_of p ≡ entry)
      × Removes eq matches s.store p s'.store × said p true × KeepsRemoving s s'
  IsJudged s (Ok (Err entry)) s' = (p : Stored K V) × (entry_of p ≡ entry)
      × Holds eq matches s.store p × said p false × Unchanged eq s.store s'.store × KeepsRemoving s s'
  IsJudged s (Err refused) s' = IsCopyCause s refused s' × Unchanged eq s.store s'.store
      × KeepsRemoving s s'
