-- A machine over a chain is within its tables after each answer within the limits, and asks only
-- for tables of sizes that tables may have.
use Rattle.std.proofs.Common.{ℕ, ◌==◌, Bool, true, false, Option, None, Some, sym, subst}
use Rattle.std.proofs.lemmas.Bool.{cond_both}
use Rattle.std.specs.Int.{IsPowerOfTwo}
use Rattle.papaya_words.specs.Mode.{IsChunked}
use Rattle.papaya_words.specs.declared.refused.Refused.{Refused}
use Rattle.papaya_words.specs.declared.resize_mode.ResizeMode.{ResizeMode}
use Rattle.papaya_words.specs.declared.resize_mode.ResizeMode.TheVariants.{Incremental, Blocking}
use Rattle.papaya_call.specs.declared.ask.Answer.{Answer as Call_answer}
use Rattle.papaya_call.specs.declared.ask.Answer.TheVariants.{Word as Word_read}
use Rattle.papaya_call.specs.declared.call.Task.{Task}
use Rattle.papaya_call.specs.declared.call.Task.TheVariants.{Get}
use Rattle.papaya_call.specs.declared.machine.State.{State}
use Rattle.papaya_call.specs.declared.machine.State.TheVariants.{AtRoot, Leaving, Growing}
use Rattle.papaya_call.specs.declared.need.Need.{Need}
use Rattle.papaya_call.specs.Machine as calls
use Rattle.papaya_call.specs.Machine.{needed}
use Rattle.papaya_call.specs.declared.copy.copying.Aim.{Aim}
use Rattle.papaya_call.specs.declared.copy.copying.Aim.TheVariants as aims
use Rattle.papaya_call.specs.declared.copy.copying.Copied.{Copied}
use Rattle.papaya_call.specs.declared.copy.copying.Copied.TheVariants as copied
use Rattle.papaya_call.specs.declared.copy.link.Link.TheVariants as links
use Rattle.papaya_call.specs.declared.copy.link.Linked.{Linked}
use Rattle.papaya_call.specs.declared.copy.link.Linked.TheVariants as linked
use Rattle.papaya_call.specs.Copying.{IsValidCopied}
use Rattle.papaya_call.specs.Link.{IsValidLinked}
use Rattle.papaya_call.specs.declared.chain.ask.Answer.{Answer}
use Rattle.papaya_call.specs.declared.chain.ask.Answer.TheVariants as answers
use Rattle.papaya_call.specs.declared.chain.machine.Machine.{Machine}
use Rattle.papaya_call.specs.declared.chain.machine.Phase.{Phase}
use Rattle.papaya_call.specs.declared.chain.machine.Phase.TheVariants.{Calling, Linking, Copying as Copying_root}
use Rattle.papaya_call.specs.Made.{IsLimit, IsNumber, wanted}
use Rattle.papaya_call.specs.ChainMachine.{IsFit, IsFitAsk, IsValid, IsValidPhase, after}
use Rattle.papaya_call.specs.ChainMachine.{after_copied, after_in, after_linked, aim_for, ask_of}
use Rattle.papaya_call.specs.ChainMachine.{asks_in, restarted, called, copying_after, enters, goes_on}
use Rattle.papaya_call.specs.ChainMachine.{grows_as, leaves, link_after, onward, refuses, started}
use Rattle.papaya_call.specs.ChainMachine.{stepped, told_next}
use Rattle.papaya_call.proofs.Settings.{settings_stable}
use Rattle.papaya_call_law.proofs.Standing.{machine_ask_fits, machine_stands}
use Rattle.papaya_call_law.proofs.CopyStanding.{copying_fits, copying_stands, link_fits, link_stands}

module _ (m : Machine) (stands : IsValid m) where
  -- another phase, and another valid state of its call
  in_phase : (phase : Phase) → IsValidPhase phase → IsValid (record m { phase = phase })
  in_phase phase is = record { call = stands.call; chunked = stands.chunked; initial = stands.initial; phase = is }

  -- the call continues in phase `Calling`, looks in a next table, starts again, or fails
  steps_stand : (told : Call_answer) → calls.IsFit told → IsValid (stepped m told)
  steps_stand told fit =
      let same = settings_stable m.call told in
      record {
        call = machine_stands m.call told stands.call fit;
        chunked = subst IsChunked (sym same.0) stands.chunked;
        initial = subst IsPowerOfTwo
            (sym same.1) stands.initial;
        phase = stands.phase;
      }

  enters_stand : (table : ℕ) → IsValid (enters m table)
  enters_stand table = record {
    call = record { made = stands.call.made; remembered = stands.call.remembered; state = tt };
    chunked = stands.chunked;
    initial = stands.initial;
    phase = tt;
  }

  anew_stand : (root : ℕ) → IsValid (restarted m root)
  anew_stand root = record {
    call = machine_stands (record m.call { state = AtRoot }) (Word_read root)
        (record { made = stands.call.made; remembered = stands.call.remembered; state = tt }) tt;
    chunked = stands.chunked;
    initial = stands.initial;
    phase = tt;
  }

  refuses_stand : (refused : Refused) → IsValid (refuses m refused)
  refuses_stand refused = record {
    call = record { made = stands.call.made; remembered = stands.call.remembered; state = tt };
    chunked = stands.chunked;
    initial = stands.initial;
    phase = tt;
  }

  -- it continues in the next table
  goes_stand : (helped : Bool) (aim : Aim) (next : ℕ) → IsValid (goes_on m helped aim next)
  goes_stand false aim next = record { call = stands.call; chunked = stands.chunked; initial = stands.initial; phase = tt }
  goes_stand true (aims.Settle slot) next = in_phase _ tt
  goes_stand true (aims.Search table) next = enters_stand next
  goes_stand true aims.Chunk next = enters_stand next
  goes_stand true (aims.All met) next = enters_stand next

  onward_stand : (next : ℕ) → IsValid (onward m next)
  onward_stand next = goes_stand m.helped (aim_for m.call.state next) next

  grows_stand : (mode : ResizeMode) (need : Need) (next : ℕ) → IsValid (grows_as m mode need next)
  grows_stand Blocking need next = in_phase _ tt
  grows_stand (Incremental chunk) need next = cond_both (next == 0) (record m { phase = Linking (links.Sizing (needed need) (needed need) false) })
      (onward m next) IsValid (λ _. in_phase _ tt) (λ _. onward_stand next)

  -- it received the number of the next table
  leaves_stand : (task : Task) (next : ℕ) → IsValid (leaves m task next)
  leaves_stand Get next = steps_stand (Word_read next) tt
  leaves_stand task next = cond_both (next == 0) (stepped m (Word_read next)) (onward m next) IsValid (λ _. steps_stand (Word_read next) tt)
      (λ _. onward_stand next)

  next_stand : (state : State) (next : ℕ) → IsValid (told_next m state next)
  next_stand (Leaving t) next = leaves_stand m.call.task next
  next_stand (Growing need) next = grows_stand m.call.mode need next
  next_stand state next = steps_stand (Word_read next) tt

  called_stand : (told : Call_answer) → calls.IsFit told → IsValid (called m told)
  called_stand (Word_read word) fit = next_stand m.call.state word
  called_stand told fit = steps_stand told fit

  -- the state after the making of a table, or after the copy of the root
  linked_stand : (end : Linked) → IsValidLinked end → IsValid (after_linked m end)
  linked_stand (linked.On link) is = in_phase (Linking link) is
  linked_stand (linked.Table table) is = onward_stand table
  linked_stand (linked.Refused refused) is = refuses_stand refused

  copied_stand : (end : Copied) → IsValidCopied end → IsValid (after_copied m end)
  copied_stand (copied.On copying) is = in_phase (Copying_root copying) is
  copied_stand (copied.Search table) is = enters_stand table
  copied_stand (copied.Root root) is = anew_stand root
  copied_stand copied.Chunk is = in_phase Calling tt
  copied_stand (copied.Refused refused) is = refuses_stand refused

  after_stand : (answer : Answer) → IsFit answer → (phase : Phase) → IsValidPhase phase → IsValid (after_in m answer phase)
  after_stand (answers.Call told) fit Calling is = called_stand told fit
  after_stand (answers.Hash hash) fit Calling is = stands
  after_stand (answers.Count count) fit Calling is = stands
  after_stand answer fit (Linking link) is = linked_stand (link_after link m.call.mode m.call.initial answer)
      (link_stands link m.call.mode m.call.initial answer stands.initial fit is)
  after_stand answer fit (Copying_root copying) is = copied_stand (copying_after copying m.call.mode m.call.initial m.number answer)
      (copying_stands copying m.call.mode m.call.initial m.number answer stands.initial fit is)

  -- it is valid after an answer
  pub chain_stands : (answer : Answer) → IsFit answer → IsValid (after m answer)
  chain_stands answer fit = after_stand answer fit m.phase stands.phase

  -- and asks for no other tables
  fits_in : (phase : Phase) → IsValidPhase phase → IsFitAsk (asks_in m.call phase)
  fits_in Calling is = machine_ask_fits m.call
  fits_in (Linking link) is = link_fits link is
  fits_in (Copying_root copying) is = copying_fits copying is

  pub chain_ask_fits : IsFitAsk (ask_of m)
  chain_ask_fits = fits_in m.phase stands.phase

-- a number that is yet to be taken fits
wanted_stands : (limit : Option ℕ) → IsNumber (wanted limit)
wanted_stands None = tt
wanted_stands (Some most) = tt

-- a call that begins is valid
pub started_stands : (task : Task) (hash : ℕ) (mode : ResizeMode) (initial number : ℕ) (limit : Option ℕ) → IsLimit limit → IsChunked mode
    → IsPowerOfTwo initial → IsValid (started task hash mode initial number limit)
started_stands task hash mode initial number limit fits chunked
    power = record {
      call = record {
        made = record { limit = fits; number = wanted_stands limit; own = tt; of = tt };
        remembered = record { fill = tt; choice = tt };
        state = tt;
      };
      chunked = chunked;
      initial = power;
      phase = tt;
    }
