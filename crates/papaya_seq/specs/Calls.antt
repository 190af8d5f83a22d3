-- Calls that are passed in as values and made one after the other.
use Rattle.std.specs.Prelude.{◌≡◌, ◌⊎◌, ℕ, cond, Bool, true, false, Option, Some, List, [], ◌∷◌, map, option_map}
use Rattle.papaya_words.specs.declared.refused.Refused as words
use Rattle.papaya_words.specs.declared.refused.Refused.TheVariants as refusals
use Rattle.papaya_call.specs.Answers.{Says}
use Rattle.papaya_call.specs.declared.answers.Operation.{Operation}
use Rattle.papaya_call.specs.declared.answers.Operation.TheVariants as ops
use Rattle.papaya_call.specs.declared.call.Call.{Call}
use Rattle.papaya_call.specs.declared.call.Call.TheVariants.{Get, Insert, TryInsert, RemoveIf, Compute, Reserve, CopyAll, Clear, Retain, Walk}
use Rattle.papaya_call.specs.declared.call.Reply.{Reply}
use Rattle.papaya_call.specs.declared.call.Reply.TheVariants.{Inserted, Replaced, Removed, Kept, Aborted, Done, Refused}
use Rattle.papaya_words_law.specs.Content.{AreApart, lookup}
use Rattle.papaya_core_timeline.specs.Content.{content, map_in}
use Rattle.papaya_core_timeline.specs.Maps.{key_of}
use Rattle.papaya_core_timeline.specs.Outcomes.{reply_told}
use Rattle.papaya_core_timeline.specs.Solo.{IsAnswered, IsNewIn}
use Rattle.papaya_core_timeline.specs.declared.outcome.Outcome.{Outcome}
use Rattle.papaya_core_timeline.specs.declared.outcome.Outcome.TheVariants.{Replied, Walked}
use Rattle.papaya_core_store.specs.Store.{StoreState, Stored, pair_of}
use Rattle.papaya_seq.specs.MadeAlone.{IsRepliedAlone}
use Rattle.papaya_seq.specs.Map.{IsResizing, IsTryCause, IsWriteCauseAt, Grows, Keeps, MapState, entry_of, next_of}
use Rattle.papaya_seq.specs.Resizes.{HasRoomFor, IsCopyCause, IsReserveCause}

-- called with the pair of number n in s, a closure that has the answers `a` returns `agrees`
abbrev pub Gives : {K V S A : Type 0} → Says K V A → A → StoreState K V S → ℕ → Bool → Type 0
Gives {K = K} {V = V} {A = A} says a s n agrees = (p : Stored K V) × (a' : A)
    × (pair_of s n ≡ Some p) × says.yes a p.key p.value agrees a'

-- called with the pair `held`, or with None, such a closure returns `operation`
abbrev pub Answers : {K V A : Type 0} → Says K V A → A → Option (Stored K V) → Operation V ℕ
    → Type 0
Answers {A = A} says a held operation = (a' : A) × says.op a (option_map entry_of held) operation a'

module _ {K V S A : Type 0} (says : Says K V A) (a : A) (s : MapState K V S)
    (held : Option (Stored K V)) (s' : StoreState K V S) where
  -- the closure returned an insertion of the value that the pair of number n has in s'
  abbrev GivesValue : ℕ → Type 0
  GivesValue n = (q : Stored K V) × (pair_of s' n ≡ Some q)
      × Answers says a held (ops.Insert q.value)

  -- A compute's reply follows from what its closure returned when it was called with `held`, the
  -- pair of its key's class. While pairs are being moved, the compute may be refused before it
  -- calls the closure.
  abbrev pub IsOperated : Reply → Type 0
  IsOperated (Inserted n) = GivesValue n
  IsOperated (Replaced m n) = GivesValue n
  IsOperated (Removed n) = Answers says a held ops.Remove
  IsOperated (Aborted t) = Answers says a held (ops.Abort t)
  IsOperated (Refused refusals.RemoveNothing) = Answers says a held ops.Remove
  IsOperated (Refused refused) = ((v : V) × Answers says a held (ops.Insert v)) ⊎ IsResizing s
  IsOperated _ = ⊥

-- if a removal replies `Removed n`, its closure returned `true` for that pair, and if it replies
-- `Kept n`, its closure returned `false`
abbrev pub IsJudged : {K V S A : Type 0} → Says K V A → A → Reply → StoreState K V S → Type 0
IsJudged says a (Removed n) s = Gives says a s n true
IsJudged says a (Kept n) s = Gives says a s n false
IsJudged says a _ s = Unit {0}

-- the reply of a call with a closure follows from what its closure returned
abbrev pub FollowsResult : {K V S A : Type 0} → (K → K → Bool) → Says K V A → Call K V A → MapState K V S
    → Reply → StoreState K V S → Type 0
FollowsResult eq says (RemoveIf k a) s reply s' = IsJudged says a reply s.store
FollowsResult eq says (Compute k a) s reply s' = IsOperated says a s (map_in eq s.store k) s' reply
FollowsResult eq says _ s reply s' = Unit {0}

-- When a call may be refused. A lookup never is. An insertion and a compute are refused for a cause
-- of `IsWriteCauseAt`, a `TryInsert` for a cause of `IsTryCause`, and a compute also if its closure
-- would remove an absent entry. `Reserve` is refused for a cause of `IsReserveCause`. A removal,
-- `CopyAll`, a clear and a retain are refused only while pairs are being moved. An iteration is
-- refused only if memory runs out for its list, and leaves the map as it was.
abbrev pub MayRefuse : {K V S A : Type 0} → (K → K → Bool) → MapState K V S → Call K V A
    → words.Refused → MapState K V S → Type 0
MayRefuse eq s (Get k) refused s' = ⊥
MayRefuse eq s (Insert k v) refused s' = IsWriteCauseAt s (map_in eq s.store k) refused s'
MayRefuse eq s (TryInsert k v) refused s' = IsTryCause s (map_in eq s.store k) refused s'
MayRefuse eq s (RemoveIf k a) refused s' = IsCopyCause s refused s'
MayRefuse eq s (Compute k a) refused s' = IsWriteCauseAt s (map_in eq s.store k) refused s'
    ⊎ (refused ≡ refusals.RemoveNothing)
MayRefuse eq s (Reserve more) refused s' = IsReserveCause eq s more refused s'
MayRefuse eq s CopyAll refused s' = IsCopyCause s refused s'
MayRefuse eq s Clear refused s' = IsCopyCause s refused s'
MayRefuse eq s (Retain a) refused s' = IsCopyCause s refused s'
MayRefuse eq s Walk refused s' = (refused ≡ refusals.Memory) × (s' ≡ s)

-- a closure with the answers `a` is called with each pair of `shown`, in order; `left` has those
-- for which it returned `true`, and `a'` is what is left of the answers
abbrev pub Sifts : {K V A : Type 0} → Says K V A → A → (shown left : List (Stored K V)) → A → Type 0
Sifts says a [] left a' = (left ≡ []) × (a' ≡ a)
Sifts {K = K} {V = V} {A = A} says a (p ∷ ps) left a' = (stays : Bool) × (later : A)
    × (rest : List (Stored K V)) × says.yes a p.key p.value stays later
    × Sifts says later ps rest a' × (left ≡ cond stays (p ∷ rest) rest)

-- the closure was called with each pair of s, and s' has those for which it returned `true`
pub record IsSifted {K V S A : Type 0} (eq : K → K → Bool) (says : Says K V A) (a : A)
    (s s' : StoreState K V S) : Type 0 where
  pub shown : List (Stored K V)
  pub later : A
  pub sifts : Sifts says a shown (content eq s') later
  pub pairs : (k : K) → lookup eq (λ p. p.key) shown k ≡ map_in eq s k
  -- no key occurs twice
  pub once : AreApart eq (λ p. p.key) shown

-- What holds when a call replies `Done`: there is room for `more` pairs, no pairs are being moved,
-- the map is empty, it has the pairs for which the closure returned `true`, or, after an iteration,
-- it is unchanged. A call on a key never replies `Done`.
abbrev pub IsDone : {K V S A : Type 0} → (K → K → Bool) → Says K V A → Call K V A → StoreState K V S
    → StoreState K V S → Type 0
IsDone eq says (Reserve more) s s' = HasRoomFor eq s more s'
IsDone eq says CopyAll s s' = next_of s' ≡ 0
IsDone eq says Clear s s' = content eq s' ≡ []
IsDone eq says (Retain a) s s' = IsSifted eq says a s s'
IsDone eq says Walk s s' = s' ≡ s
IsDone eq says _ s s' = ⊥

-- An iteration returns the numbers of the map's pairs in the order of its content, or is refused
-- with `Memory`. No other call returns a list.
abbrev pub IsListed : {K V S A : Type 0} → (K → K → Bool) → Call K V A → StoreState K V S → Outcome
    → Type 0
IsListed eq Walk s (Walked list) = list.items ≡ map (λ p. p.number) (content eq s)
IsListed eq call s (Walked list) = ⊥
IsListed eq Walk s (Replied reply) = reply ≡ Refused refusals.Memory
IsListed eq call s (Replied reply) = Unit {0}

module _ {K V S A : Type 0} (eq : K → K → Bool) (says : Says K V A) where
  -- The call `call` on the map s replies `reply` and leaves the map s'. It does what it does to the
  -- finite map, or is refused for one of its causes. A call on a key makes tables by the rule of
  -- sizes.
  pub record IsCalled (s : MapState K V S) (call : Call K V A) (reply : Reply)
      (s' : MapState K V S) : Type 0 where
    pub answered : IsAnswered eq call (map_in eq s.store) reply (map_in eq s'.store)
    pub fresh : IsNewIn s.store reply
    pub said : FollowsResult eq says call s reply s'.store
    pub cause : (refused : words.Refused) → reply ≡ Refused refused
        → MayRefuse eq s call refused s'
    pub done : reply ≡ Done → IsDone eq says call s.store s'.store
    pub keeps : Keeps s s'
    pub tables : (k : K) → key_of call ≡ Some k → Grows s s'

module _ {K V S A : Type 0} (eq : K → K → Bool) (hash : S → K → ℕ) where
  -- The map that a call leaves is the one that the core's own call leaves, made alone on s, with
  -- its tables, words, arena, numbers and count. A lookup and an iteration leave s itself. About
  -- what a clear and a retain leave this states nothing.
  abbrev pub IsLeftAlone : MapState K V S → Call K V A → Reply → MapState K V S → Type 0
  IsLeftAlone s (Get k) reply s' = s' ≡ s
  IsLeftAlone s (Insert k v) reply s' = IsRepliedAlone eq hash s (Insert k v) reply s'
  IsLeftAlone s (TryInsert k v) reply s' = IsRepliedAlone eq hash s (TryInsert k v) reply s'
  IsLeftAlone s (RemoveIf k a) reply s' = IsRepliedAlone eq hash s (RemoveIf k tt) reply s'
  IsLeftAlone s (Compute k a) reply s' = IsRepliedAlone eq hash s (Compute k tt) reply s'
  IsLeftAlone s (Reserve more) reply s' = IsRepliedAlone eq hash s (Reserve more) reply s'
  IsLeftAlone s CopyAll reply s' = IsRepliedAlone eq hash s CopyAll reply s'
  IsLeftAlone s Clear reply s' = Unit {0}
  IsLeftAlone s (Retain a) reply s' = Unit {0}
  IsLeftAlone s Walk reply s' = s' ≡ s

  module _ (says : Says K V A) where
    -- the calls are made one after the other from s to s', each with its outcome
    abbrev pub AreCalled : MapState K V S → List (Call K V A) → List Outcome → MapState K V S
        → Type 0
    AreCalled s [] [] s' = s' ≡ s
    AreCalled s [] (outcome ∷ outcomes) s' = ⊥
    AreCalled s (call ∷ calls) [] s' = ⊥
    AreCalled s (call ∷ calls) (outcome ∷ outcomes) s' = (middle : MapState K V S)
        × IsCalled eq says s call (reply_told outcome) middle
        × IsLeftAlone s call (reply_told outcome) middle × IsListed eq call s.store outcome
        × AreCalled middle calls outcomes s'
