-- What a copier relies on: facts about the words alone, which no exchange undoes.
use Rattle.std.specs.Prelude.{◌≡◌, ◌⊎◌, ℕ, ◌+◌, ◌*◌, ◌<◌, ◌≤◌, true, false, Option, None, Some, MatchBool}
use Rattle.papaya_words.specs.Chunks.{chunk_of}
use Rattle.papaya_words.specs.Word.{hint_of, kind_of, pair_of}
use Rattle.papaya_words.specs.declared.word.Kind.TheVariants as word_kinds
use Rattle.papaya_call.specs.declared.ask.At.{At}
use Rattle.papaya_call.specs.declared.ask.At.TheVariants.{Root, Next, Aborted, Done, Slot as Slot_word, Made}
use Rattle.papaya_call.specs.declared.ask.StepKind.{StepKind}
use Rattle.papaya_call.specs.declared.ask.StepKind.TheVariants as kinds
use Rattle.papaya_call.specs.declared.copy.carry.Carried.{Carried}
use Rattle.papaya_call.specs.declared.copy.carry.Carried.TheVariants as carried
use Rattle.papaya_call.specs.declared.copy.carry.Carry.{Carry}
use Rattle.papaya_call.specs.declared.copy.carry.Carry.TheVariants as carries
use Rattle.papaya_call.specs.declared.copy_ask.CopyAsk.{CopyAsk}
use Rattle.papaya_call.specs.declared.copy_ask.CopyAsk.TheVariants as asks
use Rattle.papaya_call.specs.declared.copy.copying.Aim.{Aim}
use Rattle.papaya_call.specs.declared.copy.copying.Aim.TheVariants as aims
use Rattle.papaya_call.specs.declared.copy.copying.Copied.{Copied as Copied_end}
use Rattle.papaya_call.specs.declared.copy.copying.Copied.TheVariants as copied
use Rattle.papaya_call.specs.declared.copy.copying.Copying.{Copying}
use Rattle.papaya_call.specs.declared.copy.copying.Copying.TheVariants as copyings
use Rattle.papaya_call.specs.declared.copy.link.Link.{Link}
use Rattle.papaya_call.specs.declared.copy.link.Link.TheVariants as links
use Rattle.papaya_call.specs.declared.copy.link.Linked.{Linked}
use Rattle.papaya_call.specs.declared.copy.link.Linked.TheVariants as linked
use Rattle.papaya_call.specs.declared.search.Place.{Place}
use Rattle.papaya_call.specs.declared.copy.settle.Settle.{Settle}
use Rattle.papaya_call.specs.declared.copy.settle.Settle.TheVariants as settles
use Rattle.papaya_call.specs.declared.copy.settle.Settled.{Settled}
use Rattle.papaya_call.specs.declared.copy.settle.Settled.TheVariants as settled
use Rattle.papaya_call.specs.declared.copy.settle.SlotToCopy.{SlotToCopy}
use Rattle.papaya_call.specs.declared.copy.step.Chunk.{Chunk}
use Rattle.papaya_call.specs.declared.copy.step.Cursor.{Cursor}
use Rattle.papaya_call.specs.declared.copy.step.Step.{Step}
use Rattle.papaya_call.specs.declared.copy.step.Step.TheVariants as steps
use Rattle.papaya_call.specs.declared.copy.step.Stepped.{Stepped}
use Rattle.papaya_call.specs.declared.copy.step.Stepped.TheVariants as stepped
use Rattle.papaya_call.specs.Link.{follows}
use Rattle.papaya_call.specs.Step.{slot_of}
use Rattle.papaya_words_law.specs.Class.{IsOn}
use Rattle.papaya_words_law.specs.Code.{Coding, code}
use Rattle.papaya_words_law.specs.Copying.{IsLinking, IsPutting, IsSettled, IsTaker, IsTarget}
use Rattle.papaya_words_law.specs.Hints.{IsHint}
use Rattle.papaya_words_law.specs.Exchange.{Word, Closed, Live, Marked, Copied, Setting, State, Exchange}
use Rattle.papaya_words_law.specs.Exchange.{Link as Link_to, Mark, Close, Place as Place_pair, Finish}
use Rattle.papaya_words_law.specs.Exchange.{Advance, Promote, Abort}
use Rattle.papaya_words_law.specs.Invariant.{named}
use Rattle.papaya_words_law.specs.Later.{Becomes}
use Rattle.papaya_words_law.specs.View.{look, HasWord}
use Rattle.papaya_call_law.specs.TrueAnswers.{or_last}

-- a table that was made has a greater number than the one before it
abbrev pub Rises_to : Link → Type 0
Rises_to (links.Linking after table chunks) = after < table
Rises_to _ = Unit {0}

-- the making of a table that is under way in a copy, if there is one
abbrev pub link_in_carry : Carry → Option Link
link_in_carry (carries.Linking hash link) = Some link
link_in_carry _ = None

abbrev pub link_in_settle : Settle → Option Link
link_in_settle (settles.Carrying word carry) = link_in_carry carry
link_in_settle _ = None

abbrev pub link_in_step : Step → Option Link
link_in_step (steps.Linking from link) = Some link
link_in_step (steps.Settling chunk settle) = link_in_settle settle
link_in_step _ = None

abbrev pub link_in_copying : Copying → Option Link
link_in_copying (copyings.Stepping aim step) = link_in_step step
link_in_copying (copyings.Lone slot settle) = link_in_settle settle

-- a table that was made to be linked has as many words for chunks as were asked for
abbrev pub HasWords : {K P : Type 0} → Setting K P → Option Link → Type 0
HasWords g (Some (links.Linking after table chunks)) = chunks ≤ g.chunks table
HasWords g _ = Unit {0}

-- each slot of the table `from` is in one of the first `chunks` chunks
abbrev pub IsCutInto : {K P : Type 0} → Setting K P → (from chunks : ℕ) → Type 0
IsCutInto g from chunks = (x : ℕ) → x < g.size from → g.chunk_of x < chunks

-- what the making of a table knows about the table that is copied to it
abbrev pub Measures : {K P : Type 0} → Setting K P → (from : ℕ) → Link → Type 0
Measures g from (links.Sizing after copied unfit) = copied ≡ from
Measures g from (links.Measuring after copied unfit len) = copied ≡ from
Measures g from (links.Counting after unfit len copied) = copied ≡ g.size from
Measures g from (links.Making after len limit chunks) = IsCutInto g from chunks
Measures g from (links.Linking after table chunks) = IsCutInto g from chunks

-- the cursor has passed the word of this chunk
abbrev pub IsPassedBy : Cursor → (chunk : ℕ) → Type 0
IsPassedBy cursor chunk = MatchBool cursor.wrapped ((cursor.start ≤ chunk) ⊎ (chunk < cursor.at))
    ((cursor.start ≤ chunk) × (chunk < cursor.at))

-- the table that a carry is in
abbrev pub carried_to : Carry → ℕ
carried_to (carries.Hashing table) = table
carried_to (carries.Sizing hash table) = table
carried_to (carries.Looking hash at) = at.table
carried_to (carries.Reading hash at) = at.table
carried_to (carries.Comparing hash at word) = at.table
carried_to (carries.Placing hash at) = at.table
carried_to (carries.Placed hash at) = at.table
carried_to (carries.Passing hash table) = table
carried_to (carries.Linking hash link) = follows link
carried_to (carries.Aborting table) = table

module _ {K P : Type 0} (g : Setting K P) (c : Coding K P) (s : State P) where
  -- the table that is to get a next one is on the chain
  pub record ReliesLink (link : Link) : Type 0 where
    pub on : IsOn s.first s.next (follows link)
    pub rises : Rises_to link
    pub from : ℕ
    pub linking : IsLinking g s from (follows link)
    pub measures : Measures g from link

  -- `from` was the root, and its copies go to n
  pub record IsSource (from n : ℕ) : Type 0 where
    pub was : s.was_root from ≡ true
    pub target : IsTarget g s from n

  -- `from` was the root, and its copies go behind this table: `from` itself, or a table that was
  -- aborted
  pub record IsAimed (from behind : ℕ) : Type 0 where
    pub was : s.was_root from ≡ true
    pub given_up : (behind ≡ from) ⊎ ((g.blocking ≡ true) × IsTarget g s from behind
        × (s.aborted behind ≡ true))

  -- each chunk whose word the cursor has passed is copied, and the chunk whose word is loaded has
  -- at least one slot
  pub record IsCursor (cursor : Cursor) : Type 0 where
    pub source : IsSource cursor.from cursor.to
    pub len : cursor.len ≡ g.size cursor.from
    pub some : 0 < cursor.slots
    pub cut : (x : ℕ) → g.chunk_of x ≡ chunk_of cursor.slots x
    pub begun : cursor.begun ≡ cursor.at * cursor.slots
    pub within : cursor.begun < cursor.len
    pub done : (x : ℕ) → x < g.size cursor.from → IsPassedBy cursor (g.chunk_of x)
        → s.done cursor.to (g.chunk_of x) ≡ true

  -- the slots of the chunk before this one are settled
  pub record IsChunk (chunk : Chunk) : Type 0 where
    pub cursor : IsCursor chunk.cursor
    pub at : chunk.at < chunk.end
    pub within : chunk.end ≤ chunk.cursor.len
    pub whole : (x : ℕ) → x < chunk.cursor.len → g.chunk_of x ≡ chunk.cursor.at → x < chunk.end
    pub settled : (x : ℕ) → x < chunk.at → g.chunk_of x ≡ chunk.cursor.at
        → IsSettled g s chunk.cursor.to (s.slot chunk.cursor.from x)

  -- all slots of the chunk are settled
  pub record IsSettledChunk (cursor : Cursor) : Type 0 where
    pub chunk_read : IsCursor cursor
    pub settled : (x : ℕ) → x < g.size cursor.from → g.chunk_of x ≡ cursor.at
        → IsSettled g s cursor.to (s.slot cursor.from x)

  -- the words of all chunks of `from` say that they are copied to `to`
  abbrev pub IsAllDone : (from to : ℕ) → Type 0
  IsAllDone from to = (x : ℕ) → x < g.size from → s.done to (g.chunk_of x) ≡ true

  -- without blocking: the pair of the slot is marked or copied, and is copied first to the next
  -- table
  pub record IsMoving (slot : SlotToCopy) : Type 0 where
    pub mode : g.blocking ≡ false
    pub on : IsOn s.first s.next slot.from
    pub within : slot.index < g.size slot.from
    pub target : IsTarget g s slot.from slot.to
    pub pair : P
    pub stood : (s.slot slot.from slot.index ≡ Marked pair)
        ⊎ (s.slot slot.from slot.index ≡ Copied pair)

  -- the place is one of p's key
  pub record IsFor (p : P) (hash : ℕ) (at : Place) : Type 0 where
    pub hashed : hash ≡ c.hash (g.key p)
    pub len : at.len ≡ g.size at.table
    pub limit : at.limit + 1 ≡ g.places at.table
    pub slot : at.probe.i ≡ g.place (g.key p) at.table at.probe.len
    pub within : at.probe.len < g.places at.table

  -- the pair of the marked word is in a table that takes it; with blocking that is the target
  pub record HasCarried (slot : SlotToCopy) (word : ℕ) : Type 0 where
    pub pair : P
    pub table : ℕ
    pub marked : word ≡ code g c (Marked pair)
    pub stood : (s.slot slot.from slot.index ≡ Marked pair)
        ⊎ (s.slot slot.from slot.index ≡ Copied pair)
    pub taker : IsTaker g s (g.key pair) slot.from table
    pub has : HasWord g.places (look g s (g.key pair)) table
    pub here : g.blocking ≡ true → table ≡ slot.to

  -- p was written at this place of a table that takes it, and its key's hint may be written there
  pub record HasPlaced (slot : SlotToCopy) (p : P) (hash : ℕ) (at : Place) : Type 0 where
    pub fits : IsFor p hash at
    pub stood : (s.slot slot.from slot.index ≡ Marked p)
        ⊎ (s.slot slot.from slot.index ≡ Copied p)
    pub taker : IsTaker g s (g.key p) slot.from at.table
    pub has : HasWord g.places (look g s (g.key p)) at.table
    pub hint : IsHint g c s at.table at.probe.i (hint_of (c.hash (g.key p)))

-- `last` is the pair learned of last, and `kept` the one that is carried.
module _ {K P : Type 0} (g : Setting K P) (c : Coding K P) (s : State P)
    (last kept : Option P) where
  -- the word that was loaded at the place named the pair learned of last
  pub record HasCompared (at : Place) (word : ℕ) : Type 0 where
    pub pair : P
    pub told : last ≡ Some pair
    pub was : Word P
    pub as_loaded : word ≡ code g c was
    pub names : named was ≡ Some pair
    pub became : Becomes g was (s.slot at.table at.probe.i)

  -- what the carry of p relies on in this state
  abbrev pub ReliesCarry : SlotToCopy → P → Carry → Type 0
  ReliesCarry slot p (carries.Hashing table) = (last ≡ Some p)
      × IsPutting g s slot.from slot.index p table 0
  ReliesCarry slot p (carries.Sizing hash table) = (kept ≡ Some p) × (hash ≡ c.hash (g.key p))
      × IsPutting g s slot.from slot.index p table 0
  ReliesCarry slot p (carries.Looking hash at) = (kept ≡ Some p) × IsFor g c s p hash at
      × IsPutting g s slot.from slot.index p at.table at.probe.len
  ReliesCarry slot p (carries.Reading hash at) = (kept ≡ Some p) × IsFor g c s p hash at
      × IsPutting g s slot.from slot.index p at.table at.probe.len
  ReliesCarry slot p (carries.Comparing hash at word) = (kept ≡ Some p) × IsFor g c s p hash at
      × IsPutting g s slot.from slot.index p at.table at.probe.len × HasCompared at word
  ReliesCarry slot p (carries.Placing hash at) = (kept ≡ Some p) × IsFor g c s p hash at
      × IsPutting g s slot.from slot.index p at.table at.probe.len
  ReliesCarry slot p (carries.Placed hash at) = (kept ≡ Some p) × HasPlaced g c s slot p hash at
  ReliesCarry slot p (carries.Passing hash table) = (g.blocking ≡ false) × (kept ≡ Some p)
      × (hash ≡ c.hash (g.key p)) × IsPutting g s slot.from slot.index p table (g.places table)
  ReliesCarry slot p (carries.Linking hash link) = (g.blocking ≡ false) × (kept ≡ Some p)
      × (hash ≡ c.hash (g.key p)) × IsPutting g s slot.from slot.index p (follows link)
      (g.places (follows link)) × ReliesLink g c s link
  ReliesCarry slot p (carries.Aborting table) = (g.blocking ≡ true) × (kept ≡ Some p)
      × IsPutting g s slot.from slot.index p table (g.places table)

  -- the marked word names the pair that is carried; with blocking it is carried only to the target
  pub record IsCarrying (slot : SlotToCopy) (word : ℕ) (carry : Carry) : Type 0 where
    pub pair : P
    pub marked : word ≡ code g c (Marked pair)
    pub here : g.blocking ≡ true → carried_to carry ≡ slot.to
    pub relies : ReliesCarry slot pair carry

  abbrev pub ReliesSettle : SlotToCopy → Settle → Type 0
  ReliesSettle slot settles.Looking = Unit {0}
  ReliesSettle slot settles.Closing = Unit {0}
  ReliesSettle slot settles.Shutting = s.slot slot.from slot.index ≡ Closed
  ReliesSettle slot (settles.Marking word) = kind_of word ≡ word_kinds.Live
  ReliesSettle slot (settles.Carrying word carry) = IsCarrying slot word carry
  ReliesSettle slot (settles.Finishing word) = (g.blocking ≡ false) × HasCarried g c s slot word

  abbrev pub ReliesStep : Step → Type 0
  ReliesStep steps.AtRoot = Unit {0}
  ReliesStep (steps.Aiming from behind) = IsAimed g c s from behind
  ReliesStep (steps.Linking from link) = (g.blocking ≡ true) × IsAimed g c s from (follows link)
      × ReliesLink g c s link
  ReliesStep (steps.Judging from to) = (g.blocking ≡ true) × IsSource g c s from to
  ReliesStep (steps.Sizing from to) = IsSource g c s from to
  ReliesStep (steps.AtChunk cursor) = IsCursor g c s cursor
  ReliesStep (steps.Settling chunk settle) = IsChunk g c s chunk
      × ReliesSettle (slot_of chunk) settle
  ReliesStep (steps.Advancing cursor) = IsSettledChunk g c s cursor
  ReliesStep (steps.Promoting from to) = IsSource g c s from to × IsAllDone g c s from to

  -- what a copy relies on for its aim: the slot in which the call met its key's pair is one that is
  -- moving
  abbrev pub ReliesAim : Aim → Type 0
  ReliesAim (aims.Settle slot) = IsMoving g c s slot
  ReliesAim _ = Unit {0}

  abbrev pub ReliesCopying : Copying → Type 0
  ReliesCopying (copyings.Stepping aim step) = ReliesAim aim × ReliesStep step
  ReliesCopying (copyings.Lone slot settle) = IsMoving g c s slot × ReliesSettle slot settle

  -- what holds after a step of the making of the table after table `after`
  abbrev pub ReliesLinked : (after : ℕ) → Linked → Type 0
  ReliesLinked after (linked.On link) = (follows link ≡ after) × ReliesLink g c s link
  ReliesLinked after (linked.Table table) = (s.next after ≡ table) × (0 < table)
  ReliesLinked after (linked.Refused refused) = Unit {0}

  -- with blocking, the table to which copies went was aborted
  abbrev pub IsUnfit : SlotToCopy → ℕ → Type 0
  IsUnfit slot table = (table ≡ slot.to) × (g.blocking ≡ true) × (s.aborted table ≡ true)

  -- what holds after a step of the carry of the pair of this word
  abbrev pub ReliesCarried : SlotToCopy → ℕ → Carried → Type 0
  ReliesCarried slot word (carried.On carry) = IsCarrying slot word carry
  ReliesCarried slot word carried.Carried = HasCarried g c s slot word
  ReliesCarried slot word (carried.Unfit table) = IsUnfit slot table
  ReliesCarried slot word (carried.Refused refused) = Unit {0}

  -- what holds after a step of the copy of this slot
  abbrev pub ReliesSettled : SlotToCopy → Settled → Type 0
  ReliesSettled slot (settled.On settle) = ReliesSettle slot settle
  ReliesSettled slot settled.Settled = IsSettled g s slot.to (s.slot slot.from slot.index)
  ReliesSettled slot (settled.Unfit table) = IsUnfit slot table
  ReliesSettled slot (settled.Refused refused) = Unit {0}

  -- what holds after a step of the copy of a chunk
  abbrev pub ReliesStepped : Stepped → Type 0
  ReliesStepped (stepped.On step) = ReliesStep step
  ReliesStepped (stepped.Root table) = s.root ≡ table
  ReliesStepped (stepped.Further chunk) = IsChunk g c s chunk
  ReliesStepped (stepped.Last table) = (s.was_root table ≡ true) × (s.next table ≡ 0)
  ReliesStepped stepped.Over = Unit {0}
  ReliesStepped (stepped.Refused refused) = Unit {0}

-- what a call copies for
abbrev pub aim_of : Copying → Aim
aim_of (copyings.Stepping aim step) = aim
aim_of (copyings.Lone slot settle) = aims.Settle slot

-- the aim of a copy after a step: the same one, or again a copy of all
abbrev pub IsStillAimed : Aim → Aim → Type 0
IsStillAimed (aims.All met) aim = (root : ℕ) × (aim ≡ aims.All root)
IsStillAimed old aim = aim ≡ old

module _ {K P : Type 0} (g : Setting K P) (c : Coding K P) (s : State P)
    (last kept : Option P) where
  -- the call goes on in table n: the one that it was to search, or the one to which the pair of a
  -- slot went, which is settled
  abbrev pub IsLedTo : Aim → ℕ → Type 0
  IsLedTo (aims.Search table) n = n ≡ table
  IsLedTo (aims.Settle slot) n = (n ≡ slot.to) × IsSettled g s slot.to (s.slot slot.from slot.index)
  IsLedTo _ n = ⊥

  -- what holds after a step of a copy that had this aim
  abbrev pub ReliesCopied : Aim → Copied_end → Type 0
  ReliesCopied aim (copied.On copying) = IsStillAimed aim (aim_of copying)
      × ReliesCopying g c s last kept copying
  ReliesCopied aim (copied.Search table) = IsLedTo aim table
  ReliesCopied aim (copied.Root table) = (s.root ≡ table) × ((met : ℕ) × (aim ≡ aims.All met))
  ReliesCopied aim copied.Chunk = aim ≡ aims.Chunk
  ReliesCopied aim (copied.Refused refused) = Unit {0}

-- the pair learned of last, once the word at a place was loaded
abbrev pub told_last : {P : Type 0} → State P → At → Option P → Option P
told_last s (Slot_word t x) last = or_last (named (s.slot t x)) last
told_last s _ last = last

-- the exchange of the law for which a copier asks, by its kind
abbrev pub IsCopyAsked : {K P : Type 0} → Coding K P → Option StepKind → At → ℕ → State P → Option P
    → Exchange P → Type 0
IsCopyAsked c (Some kinds.Link) (Next t) new s kept e = e ≡ Link_to t new
IsCopyAsked {P = P} c (Some kinds.Mark) (Slot_word t x) new s kept e = (p : P)
    × (s.slot t x ≡ Live p) × (e ≡ Mark t x p)
IsCopyAsked c (Some kinds.Close) (Slot_word t x) new s kept e = e ≡ Close t x
IsCopyAsked {P = P} c (Some kinds.Place) (Slot_word t x) new s kept e = (p : P) × (kept ≡ Some p)
    × (c.number p ≡ pair_of new) × (e ≡ Place_pair t x p)
IsCopyAsked {P = P} c (Some kinds.Finish) (Slot_word t x) new s kept e = (p : P)
    × (s.slot t x ≡ Marked p) × (e ≡ Finish t x p)
IsCopyAsked c (Some kinds.Advance) (Done n chunk) new s kept e = e ≡ Advance n chunk
IsCopyAsked c (Some kinds.Promote) Root new s kept e = e ≡ Promote s.root new
IsCopyAsked c (Some kinds.Abort) (Aborted n) new s kept e = e ≡ Abort n
IsCopyAsked c _ _ new s kept e = ⊥

-- the pair learned of last, after an exchange: the pair of the slot, if it was marked
abbrev pub last_after : {P : Type 0} → Exchange P → Option P → Option P
last_after (Mark t x p) last = Some p
last_after _ last = last

module _ {K P : Type 0} (g : Setting K P) (c : Coding K P) (s : State P)
    (last kept : Option P) where
  -- the word is one of a table on the chain, and of a slot or a chunk that the table has
  abbrev pub IsThere : At → Type 0
  IsThere Root = Unit {0}
  IsThere (Next t) = IsOn s.first s.next t
  IsThere (Aborted t) = IsOn s.first s.next t
  IsThere (Done t chunk) = IsOn s.first s.next t × (chunk < g.chunks t)
  IsThere (Slot_word t x) = IsOn s.first s.next t × (x < g.size t)
  IsThere Made = ⊥

  -- what an ask names is there: its word, the pair learned of last, and the pair that is carried
  abbrev pub AreThere : CopyAsk → Type 0
  AreThere (asks.Load at) = IsThere at
  AreThere (asks.Exchange at old new) = IsThere at
  AreThere (asks.LoadHint t x) = IsThere (Slot_word t x)
  AreThere (asks.WriteHint t x hint) = IsThere (Slot_word t x)
  AreThere (asks.SizeOf t) = IsOn s.first s.next t
  AreThere (asks.HashOf n) = (p : P) × (last ≡ Some p) × (c.number p ≡ n)
  AreThere (asks.SamePair i n) = (o : P) × (q : P) × (kept ≡ Some o) × (last ≡ Some q)
      × (c.number o ≡ i) × (c.number q ≡ n)
  AreThere _ = Unit {0}
