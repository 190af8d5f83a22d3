-- What a machine relies on: facts about the words that stay true whatever exchanges follow, and
-- facts about some moment since its call began.
use Rattle.std.specs.Prelude.{◌≡◌, ◌⊎◌, ℕ, ◌+◌, ◌<◌, ◌≤◌, ◌==◌, Bool, true, false, MatchBool, Option, None, Some, MatchOption, List, ◌++◌}
use Rattle.papaya_words.specs.Chunks.{chunk_len, chunk_of}
use Rattle.papaya_words.specs.Word.{hint_of, kind_of, pair_of}
use Rattle.papaya_words.specs.declared.word.Kind.TheVariants as word_kinds
use Rattle.papaya_words.specs.declared.resize_mode.ResizeMode.{ResizeMode}
use Rattle.papaya_words.specs.declared.resize_mode.ResizeMode.TheVariants.{Incremental, Blocking}
use Rattle.papaya_call.specs.declared.ask.Ask.{Ask}
use Rattle.papaya_call.specs.declared.ask.At.TheVariants.{Made as Made_word}
use Rattle.papaya_call.specs.declared.ask.Ask.TheVariants.{Load, Exchange as Ask_exchange}
use Rattle.papaya_call.specs.declared.ask.Answer.{Answer}
use Rattle.papaya_call.specs.declared.ask.Answer.TheVariants.{Word as Word_read, Exchanged, Found as Found_instead}
use Rattle.papaya_call.specs.declared.ask.StepKind.{StepKind}
use Rattle.papaya_call.specs.declared.ask.StepKind.TheVariants as kinds
use Rattle.papaya_call.specs.declared.call.Reply.{Reply}
use Rattle.papaya_call.specs.declared.call.Reply.TheVariants.{Absent, Found, Inserted, Replaced, Occupied, Removed, Kept, Aborted, Refused as Reply_refused}
use Rattle.papaya_call.specs.declared.call.Task.{Task}
use Rattle.papaya_call.specs.declared.call.Task.TheVariants.{Get, Insert, RemoveIf, Compute}
use Rattle.papaya_call.specs.declared.compute.Choice.{Choice}
use Rattle.papaya_call.specs.declared.compute.Choice.TheVariants.{Replace as To_replace, Remove as To_remove}
use Rattle.papaya_call.specs.declared.compute.Gap.{Gap}
use Rattle.papaya_call.specs.declared.compute.Gap.TheVariants.{NoRoot, At as At_place, After}
use Rattle.papaya_call.specs.declared.compute.Purpose.{Purpose}
use Rattle.papaya_call.specs.declared.compute.Purpose.TheVariants.{Fill, Replace as For_replace, Again}
use Rattle.papaya_call.specs.declared.compute.Remembered.{Remembered}
use Rattle.papaya_call.specs.declared.need.Need.{Need}
use Rattle.papaya_call.specs.declared.need.Need.TheVariants.{Room, Pair as Pair_at}
use Rattle.papaya_call.specs.declared.remove.Removal.{Removal}
use Rattle.papaya_call.specs.declared.search.Place.{Place}
use Rattle.papaya_call.specs.declared.search.Search.{Search}
use Rattle.papaya_call.specs.declared.search.Search.TheVariants.{Sizing, Looking, Reading, Comparing}
use Rattle.papaya_call.specs.declared.write.Claimed.{Claimed}
use Rattle.papaya_call.specs.declared.made.Made.{Made}
use Rattle.papaya_call.specs.declared.made.Number.{Number}
use Rattle.papaya_call.specs.declared.made.Number.TheVariants.{Free}
use Rattle.papaya_call.specs.declared.made.Of.{Of}
use Rattle.papaya_call.specs.declared.write.Write.{Write}
use Rattle.papaya_call.specs.declared.machine.State.{State as Stage}
use Rattle.papaya_call.specs.declared.machine.State.TheVariants.{AtRoot, Making, Opening, Searching}
use Rattle.papaya_call.specs.declared.machine.State.TheVariants.{Writing, Offering, Showing}
use Rattle.papaya_call.specs.declared.machine.State.TheVariants.{Pairing, Putting, Burying}
use Rattle.papaya_call.specs.declared.machine.State.TheVariants.{Counting, Noting, Uncounting}
use Rattle.papaya_call.specs.declared.machine.State.TheVariants.{Leaving, Growing, Ended}
use Rattle.papaya_call.specs.declared.machine.Machine.{Machine}
use Rattle.papaya_words_law.specs.Exchange.{Word, Setting, State, Exchange, run, start}
use Rattle.papaya_words_law.specs.View.{Leaving as View_leaving, Gone, view, look, held, beyond, IsPassed, IsReached}
use Rattle.papaya_words_law.specs.Meaning.{IsAtMoment, map_left}
use Rattle.papaya_words_law.specs.Invariant.{named}
use Rattle.papaya_words_law.specs.Later.{Becomes, IsOfKey}
use Rattle.papaya_words_law.specs.Code.{Coding, code}
use Rattle.papaya_words_law.specs.Hints.{IsHint}
use Rattle.papaya_call.specs.Machine.{HasClosure, IsComputer, MayInsert, ask_of}
use Rattle.papaya_call_law.specs.TrueAnswers.{IsOneOf, LoadedPairs}

-- the machine resizes as the setting does
abbrev pub IsModeOf : ResizeMode → Bool → Type 0
IsModeOf (Incremental chunk) blocking = blocking ≡ false
IsModeOf Blocking blocking = blocking ≡ true

-- the machine copies each slot in the same chunk as the setting does
abbrev pub IsCutAs : ResizeMode → (ℕ → ℕ) → Type 0
IsCutAs mode of_slot = (x : ℕ) → of_slot x ≡ chunk_of (chunk_len mode) x

-- a call that may insert needs room or its pair, and a removal only its pair
abbrev pub MayNeed : Task → Need → Type 0
MayNeed Get need = ⊥
MayNeed (Insert replace) need = Unit {0}
MayNeed RemoveIf (Room t) = ⊥
MayNeed RemoveIf (Pair_at t x) = Unit {0}
MayNeed Compute need = Unit {0}

-- The exchanges when the call began are `begun`, and those since then `since`.
module _ {K P : Type 0} (g : Setting K P) (c : Coding K P) (begun since : List (Exchange P))
    (k : K) where
  -- the state after all exchanges
  abbrev pub now : State P
  now = run (begun ++ since) start

  -- at some moment of the call the map had `value` for the key
  abbrev pub WasAtMoment : Option P → Type 0
  WasAtMoment value = IsAtMoment g (map_left g begun) since k value

  -- The search for the key has come to table t. With blocking t was the root at some moment of the
  -- call; without blocking t is reached.
  pub record HasComeTo (t : ℕ) : Type 0 where
    pub some : 0 < t
    pub is : ((g.blocking ≡ false) × IsReached g now k t)
        ⊎ ((g.blocking ≡ true) × ((es : List (Exchange P)) × (fs : List (Exchange P))
        × (es ++ fs ≡ since) × ((run (begun ++ es) start).root ≡ t)))

  -- the search is at this place of its table, and has passed the places before it
  pub record IsAt (at : Place) : Type 0 where
    pub come : HasComeTo at.table
    pub len : at.len ≡ g.size at.table
    pub limit : at.limit + 1 ≡ g.places at.table
    pub slot : at.probe.i ≡ g.place k at.table at.probe.len
    pub within : at.probe.len < g.places at.table
    pub before : (i : ℕ) → i < at.probe.len → beyond (look g now k at.table i) ≡ true

  -- the word that was loaded at this place named the pair p
  pub record HasMet (at : Place) (word : ℕ) (p : P) : Type 0 where
    pub stands : IsAt at
    pub was : Word P
    pub as_loaded : word ≡ code g c was
    pub names : named was ≡ Some p
    -- a Buried word isn't compared
    pub undeleted : kind_of word ≡ word_kinds.Buried → ⊥
    -- it was there at some moment of the call
    pub stood : (so_far : List (Exchange P)) × ((rest : List (Exchange P))
        × (so_far ++ rest ≡ since) × ((run (begun ++ so_far) start).slot at.table at.probe.i ≡ was))
    -- the word that is there now came from it
    pub became : Becomes g was (now.slot at.table at.probe.i)
    -- if p is the key's pair and was held there, the map had it at some moment of the call
    pub had : held (view g k was) ≡ true → WasAtMoment (Some p)

  -- the pair learned of last is the key's, and was Live at the removal's place
  pub record MayRemove (loaded : LoadedPairs P) (removal : Removal) : Type 0 where
    pub pair : P
    pub last : loaded.last ≡ Some pair
    pub met : HasMet removal.place removal.word pair
    pub live : kind_of removal.word ≡ word_kinds.Live
    pub same : g.same k (g.key pair) ≡ true

  -- a write fills an empty place or, if it may replace, replaces a Live word of the key, whose pair
  -- was learned of last
  pub record MayWrite (loaded : LoadedPairs P) (replace : Bool) (write : Write) : Type 0 where
    pub stands : IsAt write.place
    pub old : (write.old ≡ 0) ⊎ ((replace ≡ true)
        × MayRemove loaded (record { place = write.place; word = write.old }))

  abbrev pub ReliesWriting : LoadedPairs P → Task → Write → Type 0
  ReliesWriting loaded (Insert replace) write = MayWrite loaded replace write
  ReliesWriting loaded _ write = ⊥

  -- pair n is one that the call made
  abbrev pub IsMadePair : LoadedPairs P → ℕ → Type 0
  IsMadePair loaded n = (q : P) × IsOneOf loaded.made q × (c.number q ≡ n)

  -- pair n is one that the call made, and has the call's key
  abbrev pub IsOwnPair : LoadedPairs P → ℕ → Type 0
  IsOwnPair loaded n = (q : P) × IsOneOf loaded.made q × (c.number q ≡ n) × (g.key q ≡ k)

  -- pair n is one that the call made, and has the key that is in slot x of table t
  abbrev pub IsPairAt : LoadedPairs P → ℕ → (t x : ℕ) → Type 0
  IsPairAt loaded n t x = (q : P) × IsOneOf loaded.made q × (c.number q ≡ n)
      × IsOfKey g (now.slot t x) (g.key q)

  -- pair n has the key that it needs at the place where it is to be written
  abbrev pub IsPairFor : LoadedPairs P → Write → ℕ → Type 0
  IsPairFor loaded write n = MatchBool (write.old == 0) (IsOwnPair loaded n)
      (IsPairAt loaded n write.place.table write.place.probe.i)

  -- the pair is one that the call made, and its key's hint may be written at its place
  pub record HasClaimed (loaded : LoadedPairs P) (claimed : Claimed) : Type 0 where
    pub pair : IsOwnPair loaded claimed.pair
    pub stands : IsAt claimed.place
    pub hint : IsHint g c now claimed.place.table claimed.place.probe.i (hint_of (c.hash k))

  -- a number that is free is below the limit
  abbrev pub ReliesNumber : Number → Type 0
  ReliesNumber (Free count) = MatchOption g.most (Unit {0}) (λ most. count < most)
  ReliesNumber _ = Unit {0}

  -- the pair, if there is one, is one that the call made, and has the call's key
  abbrev pub ReliesFill : LoadedPairs P → Option ℕ → Type 0
  ReliesFill loaded None = Unit {0}
  ReliesFill loaded (Some n) = IsOwnPair loaded n

  -- the pair, if there is one, is one that the call made, and has the key of the slot that it was
  -- made for
  abbrev pub ReliesOf : LoadedPairs P → Option Of → Type 0
  ReliesOf loaded None = Unit {0}
  ReliesOf loaded (Some of) = IsPairAt loaded of.pair of.table of.index

  abbrev pub ReliesChoice : LoadedPairs P → Option Choice → Type 0
  ReliesChoice loaded None = Unit {0}
  ReliesChoice loaded (Some (To_replace old new)) = ReliesOf loaded (Some new)
  ReliesChoice loaded (Some (To_remove old)) = Unit {0}

  -- the call has made only pairs of its own class, and what it remembers is about them
  pub record ReliesLoaded (loaded : LoadedPairs P) (made : Made) (held : Remembered) : Type 0 where
    pub keys : (q : P) → IsOneOf loaded.made q → g.same k (g.key q) ≡ true
    pub limit : made.limit ≡ g.most
    pub number_is : ReliesNumber made.number
    pub own_is : ReliesFill loaded made.own
    pub of_is : ReliesOf loaded made.of
    pub fill_is : ReliesFill loaded held.fill
    pub choice_is : ReliesChoice loaded held.choice

  abbrev pub ReliesSearch : LoadedPairs P → Search → Type 0
  ReliesSearch loaded (Sizing t) = HasComeTo t
  ReliesSearch loaded (Looking at) = IsAt at
  ReliesSearch loaded (Reading at) = IsAt at
  ReliesSearch loaded (Comparing at word) = (p : P) × (loaded.last ≡ Some p) × HasMet at word p

  -- the key's pair is being copied from slot x of table t, or was
  abbrev pub IsMovingFrom : ℕ → ℕ → Type 0
  IsMovingFrom t x = (j : ℕ) × (p : P) × (j < g.places t) × (g.place k t j ≡ x)
      × ((look g now k t j ≡ View_leaving p) ⊎ (look g now k t j ≡ Gone p))

  -- a call that looks for its key leaves only a table that its search has passed
  abbrev pub ReliesLeaving : Task → ℕ → Type 0
  ReliesLeaving (Insert replace) t = ⊥
  ReliesLeaving _ t = (g.blocking ≡ false) × HasComeTo t × IsPassed g.places (look g now k) t

  -- the search has passed the table, so the key has no place in it; or the key's pair is being
  -- copied
  abbrev pub ReliesNeed : Need → Type 0
  ReliesNeed (Room t) = HasComeTo t × IsPassed g.places (look g now k) t
  ReliesNeed (Pair_at t x) = HasComeTo t × IsMovingFrom t x

  -- a call may need a next table, and for this reason
  abbrev pub ReliesGrowing : Task → Need → Type 0
  ReliesGrowing task need = MayNeed task need × ReliesNeed need

  -- the place where a compute would put a pair of an absent key
  abbrev pub ReliesGap : Gap → Type 0
  ReliesGap NoRoot = Unit {0}
  ReliesGap (At_place at) = IsAt at
  ReliesGap (After t) = HasComeTo t × IsPassed g.places (look g now k) t

  abbrev pub ReliesPurpose : LoadedPairs P → Purpose → Type 0
  ReliesPurpose loaded (Fill gap) = ReliesGap gap
  ReliesPurpose loaded (For_replace write) =
      MayRemove loaded (record { place = write.place; word = write.old })
  ReliesPurpose loaded (Again write) =
      MayRemove loaded (record { place = write.place; word = write.old })

  -- at some moment of the call the map had a pair of number n for the key
  abbrev pub HadPair : ℕ → Type 0
  HadPair n = (p : P) × (c.number p ≡ n) × WasAtMoment (Some p)

  -- A reply that fits the task: what a call found was the map's at some moment of the call, and a
  -- pair that it put into the map is one that it made.
  abbrev pub IsReply : LoadedPairs P → Task → Reply → Type 0
  IsReply loaded Get Absent = WasAtMoment None
  IsReply loaded Get (Found n) = HadPair n
  IsReply loaded (Insert replace) (Inserted n) = IsOwnPair loaded n
  IsReply loaded (Insert true) (Replaced m n) = IsMadePair loaded n
  IsReply loaded (Insert false) (Occupied n) = HadPair n
  IsReply loaded (Insert replace) (Reply_refused refused) = Unit {0}
  IsReply loaded RemoveIf Absent = WasAtMoment None
  IsReply loaded RemoveIf (Kept n) = HadPair n
  IsReply loaded RemoveIf (Removed n) = Unit {0}
  IsReply loaded RemoveIf (Reply_refused refused) = Unit {0}
  IsReply loaded Compute (Inserted n) = IsOwnPair loaded n
  IsReply loaded Compute (Replaced m n) = IsMadePair loaded n
  IsReply loaded Compute (Removed n) = Unit {0}
  IsReply loaded Compute (Aborted t) = Unit {0}
  IsReply loaded Compute (Reply_refused refused) = Unit {0}
  IsReply loaded _ _ = ⊥

  abbrev pub ReliesStage : LoadedPairs P → Task → Stage → Type 0
  ReliesStage loaded task AtRoot = Unit {0}
  ReliesStage loaded task Making = MayInsert task
  ReliesStage loaded task (Opening t) = MayInsert task × (0 < t)
  ReliesStage loaded task (Searching search) = ReliesSearch loaded search
  ReliesStage loaded task (Writing write) = ReliesWriting loaded task write
  ReliesStage loaded task (Offering gap) = IsComputer task × ReliesGap gap × WasAtMoment None
  ReliesStage loaded task (Showing removal) = HasClosure task × MayRemove loaded removal
  ReliesStage loaded task (Pairing purpose) = IsComputer task × ReliesPurpose loaded purpose
  ReliesStage loaded task (Putting put) = IsComputer task × MayWrite loaded true put.write
      × IsPairFor loaded put.write put.pair
  ReliesStage loaded task (Burying removal) = HasClosure task × MayRemove loaded removal
  ReliesStage loaded task (Counting claimed) = MayInsert task × HasClaimed loaded claimed
  ReliesStage loaded task (Noting claimed) = MayInsert task × HasClaimed loaded claimed
  ReliesStage loaded task (Uncounting n) = HasClosure task
  ReliesStage loaded task (Leaving t) = ReliesLeaving task t
  ReliesStage loaded task (Growing need) = ReliesGrowing task need
  ReliesStage loaded task (Ended reply) = IsReply loaded task reply

  -- what the machine of a call with this key relies on
  pub record Relies (m : Machine) (loaded : LoadedPairs P) : Type 0 where
    pub hash : m.hash ≡ c.hash k
    pub mode : IsModeOf m.mode g.blocking
    pub made : ReliesLoaded loaded m.made m.remembered
    pub stage : ReliesStage loaded m.task m.state

-- the ask loads the count of taken numbers, or takes a number
abbrev pub IsNumberAsk : Ask → Type 0
IsNumberAsk (Load Made_word) = Unit {0}
IsNumberAsk (Ask_exchange Made_word old new) = Unit {0}
IsNumberAsk _ = ⊥

-- the answer says that as many numbers are taken as the limit allows, or more
abbrev pub IsAtLimit : Machine → Answer → Type 0
IsAtLimit m answer = (most : ℕ) × (count : ℕ) × (m.made.limit ≡ Some most) × (most ≤ count)
    × IsNumberAsk (ask_of m) × ((answer ≡ Word_read count) ⊎ (answer ≡ Found_instead count))

-- the change that a call has made to the map, if any: the pair that went and the pair that came
abbrev pub Change : Type 0
Change = Option (Option ℕ × Option ℕ)

-- the change that a call with this reply made
abbrev pub change_of_reply : Reply → Change
change_of_reply (Inserted n) = Some (None, Some n)
change_of_reply (Replaced m n) = Some (Some m, Some n)
change_of_reply (Removed n) = Some (Some n, None)
change_of_reply _ = None

-- the change that a machine in this stage has made
abbrev pub change_in : Stage → Change
change_in (Counting claimed) = Some (None, Some claimed.pair)
change_in (Noting claimed) = Some (None, Some claimed.pair)
change_in (Uncounting n) = Some (Some n, None)
change_in (Ended reply) = change_of_reply reply
change_in _ = None

-- the change that an exchange of this kind makes
abbrev pub change_of_kind : Option StepKind → (old new : ℕ) → Change
change_of_kind (Some kinds.Claim) old new = Some (None, Some (pair_of new))
change_of_kind (Some kinds.Replace) old new = Some (Some (pair_of old), Some (pair_of new))
change_of_kind (Some kinds.Bury) old new = Some (Some (pair_of old), None)
change_of_kind _ old new = None

-- the change that a call has made after an answer to one of its asks, if `before` was its change
-- until then
abbrev pub change_after : Option StepKind → Ask → Answer → Change → Change
change_after kind (Ask_exchange at old new) Exchanged before = change_of_kind kind old new
change_after kind _ _ before = before
