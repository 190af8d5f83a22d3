-- A caller alone that copies chunks. Each copy ends the pending resize, or copies one more chunk
-- and leaves some that are not copied. So the resize ends after as many copies as the root has
-- chunks.
use Rattle.std.specs.Prelude.{◌≡◌, ◌⊎◌, ℕ, zero, suc, ◌+◌, ◌<◌, ◌≤◌, ◌==◌, if◌then◌else◌, MatchBool}
use Rattle.papaya_words.specs.Chunks.{chunk_count, chunk_len}
use Rattle.papaya_words.specs.declared.resize_mode.ResizeMode.TheVariants.{Incremental}
use Rattle.papaya_call.specs.declared.ask.At.{At}
use Rattle.papaya_call.specs.declared.ask.At.TheVariants as words_at
use Rattle.papaya_call.specs.declared.copy.copying.Aim.TheVariants as aims
use Rattle.papaya_call.specs.declared.copy.copying.Copying.TheVariants.{Stepping}
use Rattle.papaya_call.specs.declared.copy.step.Step.{Step}
use Rattle.papaya_call.specs.declared.copy.step.Step.TheVariants as steps
use Rattle.papaya_call.specs.declared.chain.resizer.Resize.TheVariants.{Chunk}
use Rattle.papaya_call.specs.declared.chain.resizer.Resizer.{Resizer}
use Rattle.papaya_call.specs.declared.chain.resizer.ResizerState.{ResizerState}
use Rattle.papaya_call.specs.declared.chain.resizer.ResizerState.TheVariants as stages

-- the root is the table `from`, and it is being copied to the table `to`
pub record IsPending (words : At → ℕ) (from to : ℕ) : Type 0 where
  pub root : words words_at.Root ≡ from
  pub next : words (words_at.Next from) ≡ to
  pub some : 0 < from
  pub more : 0 < to

-- how many of the first `chunks` chunks are not copied: their words are 0
abbrev pub due_of : (words : At → ℕ) (to chunks : ℕ) → ℕ
due_of words to zero = 0
due_of words to (suc n) = if words (words_at.Done to n) == 0 then due_of words to n + 1
    else due_of words to n

-- the resize is pending, and at most `due` of the first `chunks` chunks are not copied
pub record IsDue (words : At → ℕ) (from to chunks due : ℕ) : Type 0 where
  pub pending : IsPending words from to
  pub within : due_of words to chunks ≤ due

-- the resize is still pending, and fewer than `due` chunks are not copied, but at least one
pub record IsFewer (words : At → ℕ) (from to chunks due : ℕ) : Type 0 where
  pub pending : IsPending words from to
  pub fewer : due_of words to chunks < due
  pub some : 0 < due_of words to chunks

-- the resize is over, since another table is the root, or fewer than `due` chunks are left
abbrev pub HasCopied : (words : At → ℕ) (from to chunks due : ℕ) → Type 0
HasCopied words from to chunks due = (words words_at.Root ≡ from → ⊥)
    ⊎ IsFewer words from to chunks due

module _ (words : At → ℕ) (to chunks due : ℕ) where
  -- a copy at this step goes to table `to`; once it has copied a chunk, fewer than `due` are left
  abbrev pub WillCopyStep : Step → Type 0
  WillCopyStep steps.AtRoot = Unit {0}
  WillCopyStep (steps.Aiming t behind) = Unit {0}
  WillCopyStep (steps.Sizing t n) = n ≡ to
  WillCopyStep (steps.AtChunk cursor) = (cursor.to ≡ to)
      × MatchBool cursor.copied (due_of words to chunks < due) (Unit {0})
  WillCopyStep (steps.Settling chunk settle) = chunk.cursor.to ≡ to
  WillCopyStep (steps.Advancing cursor) = cursor.to ≡ to
  WillCopyStep (steps.Promoting t n) = n ≡ to
  WillCopyStep _ = ⊥

-- the same for a resizer in this state; at its end it has copied a chunk, unless it was refused
abbrev pub WillCopyIn : (words : At → ℕ) (from to chunks due : ℕ) → ResizerState → Type 0
WillCopyIn words from to chunks due (stages.Copying began (Stepping aims.Chunk step)) =
    IsDue words from to chunks due × WillCopyStep words to chunks due step
WillCopyIn words from to chunks due stages.Done = HasCopied words from to chunks due
WillCopyIn words from to chunks due (stages.Refused refused) = Unit {0}
WillCopyIn words from to chunks due _ = ⊥

-- how many chunks of `slots` slots a table of length `len` has
abbrev pub chunks_of : (len slots : ℕ) → ℕ
chunks_of len slots = chunk_count len (chunk_len (Incremental slots))

-- a copy of one chunk of `slots` slots: when it is over, the resize is over or fewer than `due`
-- chunks are left
pub record WillCopy (words : At → ℕ) (size : ℕ → ℕ) (from to slots due : ℕ)
    (resizer : Resizer) : Type 0 where
  pub mode : resizer.mode ≡ Incremental slots
  pub resize : resizer.resize ≡ Chunk
  pub stage : WillCopyIn words from to (chunks_of (size from) slots) due resizer.state

-- each of `copies` copies of a chunk left fewer chunks than there were before it, and at least one
abbrev pub AllFallShort : (left : ℕ → ℕ) (copies : ℕ) → Type 0
AllFallShort left copies = (i : ℕ) → i < copies → (left (i + 1) < left i) × (0 < left (i + 1))

-- each of `copies` copies of a chunk, one after the other, has copied a chunk, and the root is
-- still `from`
abbrev pub AllLeaveRoot : (words : ℕ → At → ℕ) (from to chunks copies : ℕ) → Type 0
AllLeaveRoot words from to chunks copies = (i : ℕ) → i < copies
    → (words (i + 1) words_at.Root ≡ from)
    × HasCopied (words (i + 1)) from to chunks (due_of (words i) to chunks)
