-- The words that a copy has read are unchanged if nobody else changes the words, so each exchange
-- finds the word that it expects.
use Rattle.std.specs.Prelude.{◌≡◌, ℕ, ◌<◌}
use Rattle.papaya_words.specs.Word.{kind_of}
use Rattle.papaya_words.specs.declared.resize_mode.ResizeMode.{ResizeMode}
use Rattle.papaya_words.specs.declared.resize_mode.ResizeMode.TheVariants.{Incremental, Blocking}
use Rattle.papaya_words.specs.declared.word.Kind.TheVariants as word_kinds
use Rattle.papaya_call.specs.declared.ask.At.{At}
use Rattle.papaya_call.specs.declared.ask.At.TheVariants as words_at
use Rattle.papaya_call.specs.declared.copy.carry.Carried.{Carried}
use Rattle.papaya_call.specs.declared.copy.carry.Carried.TheVariants as carried
use Rattle.papaya_call.specs.declared.copy.carry.Carry.{Carry}
use Rattle.papaya_call.specs.declared.copy.carry.Carry.TheVariants as carries
use Rattle.papaya_call.specs.declared.copy.copying.Aim.{Aim}
use Rattle.papaya_call.specs.declared.copy.copying.Aim.TheVariants as aims
use Rattle.papaya_call.specs.declared.copy.copying.Copied.{Copied}
use Rattle.papaya_call.specs.declared.copy.copying.Copied.TheVariants as copied
use Rattle.papaya_call.specs.declared.copy.copying.Copying.{Copying}
use Rattle.papaya_call.specs.declared.copy.copying.Copying.TheVariants as copyings
use Rattle.papaya_call.specs.declared.copy.link.Link.{Link}
use Rattle.papaya_call.specs.declared.copy.link.Linked.{Linked}
use Rattle.papaya_call.specs.declared.copy.link.Linked.TheVariants as linked
use Rattle.papaya_call.specs.declared.copy.settle.Settle.{Settle}
use Rattle.papaya_call.specs.declared.copy.settle.Settle.TheVariants as settles
use Rattle.papaya_call.specs.declared.copy.settle.Settled.{Settled}
use Rattle.papaya_call.specs.declared.copy.settle.Settled.TheVariants as settled
use Rattle.papaya_call.specs.declared.copy.settle.SlotToCopy.{SlotToCopy}
use Rattle.papaya_call.specs.declared.copy.step.Cursor.{Cursor}
use Rattle.papaya_call.specs.declared.copy.step.Step.{Step}
use Rattle.papaya_call.specs.declared.copy.step.Step.TheVariants as steps
use Rattle.papaya_call.specs.declared.copy.step.Stepped.{Stepped}
use Rattle.papaya_call.specs.declared.copy.step.Stepped.TheVariants as stepped
use Rattle.papaya_call.specs.Link.{follows}
use Rattle.papaya_call.specs.Step.{slot_of}

-- the map resizes without blocking
abbrev pub IsIncremental : ResizeMode → Type 0
IsIncremental (Incremental chunk) = Unit {0}
IsIncremental Blocking = ⊥

-- with blocking, the table was not aborted
abbrev pub IsAlive : ResizeMode → (At → ℕ) → ℕ → Type 0
IsAlive (Incremental chunk) words t = Unit {0}
IsAlive Blocking words t = words (words_at.Aborted t) ≡ 0

-- with blocking, a pair is carried only to the target
abbrev pub IsAtTarget : ResizeMode → SlotToCopy → ℕ → Type 0
IsAtTarget (Incremental chunk) slot t = Unit {0}
IsAtTarget Blocking slot t = t ≡ slot.to

-- the table behind which another is linked has no next one
abbrev pub IsLinkRead : (At → ℕ) → Link → Type 0
IsLinkRead words link = words (words_at.Next (follows link)) ≡ 0

abbrev pub IsLinkedRead : (At → ℕ) → Linked → Type 0
IsLinkedRead words (linked.On link) = IsLinkRead words link
IsLinkedRead words _ = Unit {0}

module _ (mode : ResizeMode) (words : At → ℕ) where
  -- the place for a pair is empty, and a table that is to be aborted was not aborted yet
  abbrev pub IsCarryRead : SlotToCopy → Carry → Type 0
  IsCarryRead slot (carries.Hashing table) = IsAtTarget mode slot table
  IsCarryRead slot (carries.Sizing hash table) = IsAtTarget mode slot table
  IsCarryRead slot (carries.Looking hash at) = IsAtTarget mode slot at.table
  IsCarryRead slot (carries.Reading hash at) = IsAtTarget mode slot at.table
  IsCarryRead slot (carries.Comparing hash at word) = IsAtTarget mode slot at.table
  IsCarryRead slot (carries.Placing hash at) = words (words_at.Slot at.table at.probe.i) ≡ 0
  IsCarryRead slot (carries.Placed hash at) = Unit {0}
  IsCarryRead slot (carries.Passing hash table) = IsIncremental mode
  IsCarryRead slot (carries.Linking hash link) = IsIncremental mode × IsLinkRead words link
  IsCarryRead slot (carries.Aborting table) = words (words_at.Aborted table) ≡ 0

  -- the word of the slot that is copied
  abbrev pub word_in : SlotToCopy → ℕ
  word_in slot = words (words_at.Slot slot.from slot.index)

  -- the pair of the marked word is being carried, and the slot still has that word
  pub record IsCarrying (slot : SlotToCopy) (word : ℕ) : Type 0 where
    pub alive : IsAlive mode words slot.to
    pub stands : word_in slot ≡ word
    pub marked : kind_of word ≡ word_kinds.Marked

  abbrev pub IsCarriedRead : SlotToCopy → ℕ → Carried → Type 0
  IsCarriedRead slot word (carried.On carry) = IsCarrying slot word × IsCarryRead slot carry
  IsCarriedRead slot word carried.Carried = IsCarrying slot word
  IsCarriedRead slot word _ = Unit {0}

  abbrev pub IsSettleRead : SlotToCopy → Settle → Type 0
  IsSettleRead slot settles.Looking = IsAlive mode words slot.to
  IsSettleRead slot settles.Closing = IsAlive mode words slot.to × (word_in slot ≡ 0)
  IsSettleRead slot settles.Shutting = IsAlive mode words slot.to
  IsSettleRead slot (settles.Marking word) = IsAlive mode words slot.to × (word_in slot ≡ word)
  IsSettleRead slot (settles.Carrying word carry) = IsCarrying slot word × IsCarryRead slot carry
  IsSettleRead slot (settles.Finishing word) = IsAlive mode words slot.to × (word_in slot ≡ word)

  abbrev pub IsSettledRead : SlotToCopy → Settled → Type 0
  IsSettledRead slot (settled.On settle) = IsSettleRead slot settle
  IsSettledRead slot settled.Settled = IsAlive mode words slot.to
  IsSettledRead slot _ = Unit {0}

  -- the table whose chunks' words are loaded is the root
  pub record IsCursorRead (cursor : Cursor) : Type 0 where
    pub some : 0 < cursor.slots
    pub root : words words_at.Root ≡ cursor.from
    pub alive : IsAlive mode words cursor.to

  -- the same, and the word of this chunk says that it is not copied
  pub record IsDueRead (cursor : Cursor) : Type 0 where
    pub some : 0 < cursor.slots
    pub root : words words_at.Root ≡ cursor.from
    pub due : words (words_at.Done cursor.to cursor.at) ≡ 0

  -- the table that is copied is the root, and the chunk that is copied was not copied before
  abbrev pub IsStepRead : Step → Type 0
  IsStepRead steps.AtRoot = Unit {0}
  IsStepRead (steps.Aiming from behind) = words words_at.Root ≡ from
  IsStepRead (steps.Linking from link) = (words words_at.Root ≡ from) × IsLinkRead words link
  IsStepRead (steps.Judging from to) = words words_at.Root ≡ from
  IsStepRead (steps.Sizing from to) = (words words_at.Root ≡ from) × IsAlive mode words to
  IsStepRead (steps.AtChunk cursor) = IsCursorRead cursor
  IsStepRead (steps.Settling chunk settle) = IsDueRead chunk.cursor
      × IsSettleRead (slot_of chunk) settle
  IsStepRead (steps.Advancing cursor) = IsDueRead cursor × IsAlive mode words cursor.to
  IsStepRead (steps.Promoting from to) = words words_at.Root ≡ from

  abbrev pub IsSteppedRead : Stepped → Type 0
  IsSteppedRead (stepped.On step) = IsStepRead step
  IsSteppedRead (stepped.Root root) = words words_at.Root ≡ root
  IsSteppedRead (stepped.Further chunk) = IsDueRead chunk.cursor
      × IsAlive mode words chunk.cursor.to
  IsSteppedRead _ = Unit {0}

  -- only without blocking does a call copy a slot of its own
  abbrev pub IsAimRead : Aim → Type 0
  IsAimRead (aims.Settle slot) = IsIncremental mode
  IsAimRead _ = Unit {0}

  abbrev pub IsCopyingRead : Copying → Type 0
  IsCopyingRead (copyings.Stepping aim step) = IsAimRead aim × IsStepRead step
  IsCopyingRead (copyings.Lone slot settle) = IsSettleRead slot settle

  abbrev pub IsCopiedRead : Copied → Type 0
  IsCopiedRead (copied.On copying) = IsCopyingRead copying
  IsCopiedRead _ = Unit {0}
