-- How much is left to the copy of the root after each answer.
use Rattle.std.proofs.Common.{◌≡◌, cond, ℕ, ◌+◌, ◌*◌, ◌^◌, ◌≤◌, ◌==◌, ◌||◌, sym, subst, arith}
use Rattle.std.proofs.lemmas.Bool.{cond_both}
use Rattle.papaya_words.specs.declared.resize_mode.ResizeMode.{ResizeMode}
use Rattle.papaya_words.specs.declared.resize_mode.ResizeMode.TheVariants.{Incremental, Blocking}
use Rattle.papaya_call.specs.declared.ask.At.{At}
use Rattle.papaya_call.specs.declared.ask.At.TheVariants as words_at
use Rattle.papaya_call.specs.declared.copy.copying.Aim.{Aim}
use Rattle.papaya_call.specs.declared.copy.copying.Aim.TheVariants as aims
use Rattle.papaya_call.specs.declared.copy.copying.Copied.{Copied}
use Rattle.papaya_call.specs.declared.copy.copying.Copied.TheVariants as copied
use Rattle.papaya_call.specs.declared.copy.copying.Copying.{Copying}
use Rattle.papaya_call.specs.declared.copy.copying.Copying.TheVariants as copyings
use Rattle.papaya_call.specs.declared.copy.settle.Settled.{Settled}
use Rattle.papaya_call.specs.declared.copy.settle.Settled.TheVariants as settled
use Rattle.papaya_call.specs.declared.copy.settle.SlotToCopy.{SlotToCopy}
use Rattle.papaya_call.specs.declared.copy.settle.Settle.TheVariants as settles
use Rattle.papaya_call.specs.declared.copy.step.Chunk.{Chunk}
use Rattle.papaya_call.specs.declared.copy.step.Step.TheVariants as steps
use Rattle.papaya_call.specs.declared.copy.step.Stepped.{Stepped}
use Rattle.papaya_call.specs.declared.copy.step.Stepped.TheVariants as stepped
use Rattle.papaya_call.specs.Copying.{all_of, at_root, copying_ask, further as further_of, last, leads, lone, over}
use Rattle.papaya_call.specs.declared.chain.ask.Answer.{Answer}
use Rattle.papaya_call.specs.ChainMachine.{copying_after}
use Rattle.papaya_call_law.specs.Alone.{IsBare}
use Rattle.papaya_call_alone.specs.Prompt.{IsCopyPrompt}
use Rattle.papaya_call_alone.specs.Measure.{left_of_chunk, left_of_copied, left_of_copying, left_of_settle, left_of_settled, left_of_step, left_of_stepped}
use Rattle.papaya_call_alone.specs.Current.{IsAimRead, IsAlive, IsCopiedRead, IsCopyingRead, IsIncremental, IsSettledRead, IsSteppedRead}
use Rattle.papaya_call_alone.proofs.Afters.{copying_settles, copying_steps, settle_after, step_after}
use Rattle.papaya_call_alone.proofs.SettleEnds.{settle_ends}
use Rattle.papaya_call_alone.proofs.StepEnds.{step_ends}
use Rattle.papaya_call_alone.proofs.Telling.{Nears, nearer}

module _ (mode : ResizeMode) (words : At → ℕ) where
  -- no more is left than this, and the words that were read are unchanged
  abbrev Within : ℕ → Copied → Type 0
  Within most end = (left_of_copied end ≤ most) × IsCopiedRead mode words end

  -- without blocking no table is given up
  pub any_alive : (how : ResizeMode) (t : ℕ) → IsIncremental how → IsAlive how words t
  any_alive (Incremental chunk) t inc = tt
  any_alive Blocking t inc = absurd inc

  -- a chunk is over
  over_within : (aim : Aim) → IsAimRead mode words aim → Within (2 * 2 ^ 102) (over aim)
  over_within (aims.Search table) read = (omega arith, tt)
  over_within (aims.Settle slot) read = (omega arith, any_alive mode slot.to read)
  over_within aims.Chunk read = (omega arith, tt)
  over_within (aims.All met) read = (omega arith, (tt, tt))

  -- the root has no next table
  last_within : (aim : Aim) (table : ℕ) → IsAimRead mode words aim → Within (2 ^ 102) (last aim table)
  last_within (aims.Search t) table read = (omega arith, tt)
  last_within (aims.Settle slot) table read = (omega arith, any_alive mode slot.to read)
  last_within aims.Chunk table read = (omega arith, tt)
  last_within (aims.All met) table read = (omega arith, tt)

  -- a chunk was copied, and this one was not
  further_within : (aim : Aim) (chunk : Chunk) → IsAimRead mode words aim → IsSteppedRead mode words (stepped.Further chunk)
      → Within (left_of_chunk chunk settles.Looking) (further_of aim chunk)
  further_within (aims.Search table) chunk read there = (omega arith, tt)
  further_within (aims.Settle slot) chunk read there = (omega arith, any_alive mode slot.to read)
  further_within aims.Chunk chunk read there = (omega arith, tt)
  further_within (aims.All met) chunk read there = (omega arith, (tt, there))

  -- a root is to be copied, or there is none
  one_within : (aim : Aim) (root : ℕ) → IsAimRead mode words aim → words words_at.Root ≡ root → Within (2 ^ 102) (over aim)
      → Within (2 ^ 102 + 6 + 2 * 2 ^ 32) (cond (root == 0) (over aim) (copied.On (copyings.Stepping aim (steps.Aiming root root))))
  one_within aim root read is none =
      cond_both (root == 0) (over aim) (copied.On (copyings.Stepping aim (steps.Aiming root root))) (Within (2 ^ 102 + 6 + 2 * 2 ^ 32))
      (λ e. let l = none.0 in (omega (arith, l), none.1))
      (λ e. (omega arith, (read, is)))

  -- all of the root is to be copied
  all_within : (how : ResizeMode) (met root : ℕ) → words words_at.Root ≡ root → Within (2 ^ 102 + 6 + 2 * 2 ^ 32) (all_of met how root)
  all_within (Incremental chunk) met root is = (omega arith, (tt, is))
  all_within Blocking met root is =
      cond_both ((met == 0) || (met == root)) (copied.On (copyings.Stepping (aims.All root) (steps.Aiming root root))) (copied.Root root)
      (Within (2 ^ 102 + 6 + 2 * 2 ^ 32))
      (λ e. (omega arith, (tt, is)))
      (λ e. (omega arith, tt))

  -- the number of the root was read
  root_within : (how : ResizeMode) (aim : Aim) (root : ℕ) → IsAimRead mode words aim → words words_at.Root ≡ root
      → Within (2 ^ 102 + 6 + 2 * 2 ^ 32) (at_root aim how root)
  root_within how (aims.Search table) root read is = one_within (aims.Search table) root read is (last_within (aims.Search table) root read)
  root_within how (aims.Settle slot) root read is = one_within (aims.Settle slot) root read is (last_within (aims.Settle slot) root read)
  root_within how aims.Chunk root read is = one_within aims.Chunk root read is (last_within aims.Chunk root read)
  root_within how (aims.All met) root read is =
      cond_both (root == 0) (copied.Root 0) (all_of met how root) (Within (2 ^ 102 + 6 + 2 * 2 ^ 32))
      (λ e. (omega arith, tt))
      (λ e. all_within how met root is)

  -- the copy of a chunk continues
  leads_within : (aim : Aim) (end : Stepped) → IsAimRead mode words aim → IsSteppedRead mode words end → Within (left_of_stepped end) (leads aim mode end)
  leads_within aim (stepped.On step) read there = (omega arith, (read, there))
  leads_within aim (stepped.Root root) read there = root_within mode aim root read there
  leads_within aim (stepped.Last table) read there = last_within aim table read
  leads_within aim (stepped.Further chunk) read there = further_within aim chunk read there
  leads_within aim stepped.Over read there = over_within aim read
  leads_within aim (stepped.Refused refused) read there = (omega arith, tt)

  -- and that of one slot more
  lone_within : (slot : SlotToCopy) (end : Settled) → IsSettledRead mode words slot end → Within (left_of_settled end) (lone slot end)
  lone_within slot (settled.On settle) there = (omega arith, there)
  lone_within slot settled.Settled there = (omega arith, tt)
  lone_within slot (settled.Unfit table) there = (omega arith, tt)
  lone_within slot (settled.Refused refused) there = (omega arith, tt)

module _ (mode : ResizeMode) (initial number : ℕ) (words words' : At → ℕ) (bare : IsBare words') where
  -- after this answer
  abbrev pub CopyEnds : Copying → Answer → Type 0
  CopyEnds copying answer = Nears answer (left_of_copied (copying_after copying mode initial number answer)) (left_of_copying copying)
      × IsCopiedRead mode words' (copying_after copying mode initial number answer)

  -- an aim is of a mode whatever the words are
  pub same_aim : (aim : Aim) → IsAimRead mode words aim → IsAimRead mode words' aim
  same_aim (aims.Search table) read = tt
  same_aim (aims.Settle slot) read = read
  same_aim aims.Chunk read = tt
  same_aim (aims.All met) read = tt

  -- in each state
  pub copying_ends : (copying : Copying) (answer : Answer) → IsCopyingRead mode words copying → IsCopyPrompt words (copying_ask copying) answer words'
      → CopyEnds copying answer
  copying_ends (copyings.Stepping aim step) answer read told =
      let e = step_ends mode initial number words words' bare step answer read.1 told in
      let end : Stepped = step_after step mode initial number answer in
      let f = leads_within mode words' aim end (same_aim aim read.0) e.1 in
      subst (λ y. Nears answer (left_of_copied y) (left_of_step step) × IsCopiedRead mode words' y) (sym (copying_steps mode initial number aim step answer))
      (nearer answer (left_of_stepped end) (left_of_step step) _ _ e.0 (λ less. let l = f.0 in omega (arith, l, less)), f.1)
  copying_ends (copyings.Lone slot settle) answer read told =
      let e = settle_ends mode initial words words' bare slot settle answer read told in
      let end : Settled = settle_after settle slot mode initial answer in
      let f = lone_within mode words' slot end e.1 in
      subst (λ y. Nears answer (left_of_copied y) (left_of_settle settle) × IsCopiedRead mode words' y)
      (sym (copying_settles mode initial number slot settle answer))
      (nearer answer (left_of_settled end) (left_of_settle settle) _ _ e.0 (λ less. let l = f.0 in omega (arith, l, less)), f.1)
