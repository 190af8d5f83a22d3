-- A resizer is within its tables after each answer within the limits, and asks only for tables of
-- sizes that tables may have.
use Rattle.std.proofs.Common.{◌≡◌, ⊎_elim, ℕ, zero, suc, ◌+◌, ◌*◌, ◌^◌, ◌/◌, ◌-◌, ◌<◌, ◌≤◌, ◌==◌}
use Rattle.std.proofs.Common.{nat_le, max, Option, None, Some, refl, sym, subst, arith, leb-true}
use Rattle.std.proofs.Common.{pow-suc}
use Rattle.std.proofs.lemmas.Bool.{cases_lt, cond_both}
use Rattle.std.specs.Int.{IsPowerOfTwo}
use Rattle.papaya_words.specs.Probe.{log_upto}
use Rattle.papaya_words.specs.declared.resize_mode.ResizeMode.{ResizeMode}
use Rattle.papaya_call.specs.declared.ask.Answer.{Answer as Call_answer}
use Rattle.papaya_call.specs.declared.ask.Answer.TheVariants as told
use Rattle.papaya_call.specs.declared.copy_ask.CopyAsk.{CopyAsk}
use Rattle.papaya_call.specs.declared.copy.copying.Copied.{Copied}
use Rattle.papaya_call.specs.declared.copy.copying.Copied.TheVariants as copied_to
use Rattle.papaya_call.specs.declared.copy.link.Linked.{Linked}
use Rattle.papaya_call.specs.declared.copy.link.Linked.TheVariants as linked_to
use Rattle.papaya_call.specs.Copying.{IsValidCopied}
use Rattle.papaya_call.specs.Link.{IsFitCopyAsk, IsValidLinked, follows}
use Rattle.papaya_call.specs.declared.chain.ask.Answer.{Answer}
use Rattle.papaya_call.specs.declared.chain.ask.Answer.TheVariants as answers
use Rattle.papaya_call.specs.declared.chain.resizer.Resize.{Resize}
use Rattle.papaya_call.specs.declared.chain.resizer.Resize.TheVariants as resizes
use Rattle.papaya_call.specs.declared.chain.resizer.Resizer.{Resizer}
use Rattle.papaya_call.specs.declared.chain.resizer.TableSize.{TableSize}
use Rattle.papaya_call.specs.declared.chain.resizer.ResizerState.{ResizerState}
use Rattle.papaya_call.specs.declared.chain.resizer.ResizerState.TheVariants as stages
use Rattle.papaya_call.specs.ChainMachine.{IsFit, copying_after, link_after}
use Rattle.papaya_call.specs.Resizer.{IsValidIn, IsValidResizer, after, after_in, ask_of}
use Rattle.papaya_call.specs.Resizer.{asks_in, at_count, at_last, at_next, at_root, called, copied}
use Rattle.papaya_call.specs.Resizer.{counted, copies, judges, linked, makes, over, told_root}
use Rattle.papaya_call.specs.TableSize.{IsValidRoom, entries_of, room_of, room_of_len}
use Rattle.papaya_call_law.proofs.CopyStanding.{copying_fits, copying_stands, link_fits, link_stands}
use Rattle.papaya_core_timeline.proofs.CallersLemmas.{same_item}

-- a logarithm is at most the limit of its search
log_most : (most n : ℕ) → log_upto most n ≤ most
unfolding log_upto
log_most zero n = omega arith
log_most (suc most) n = cond_both (nat_le (2 ^ suc most) n) (suc most) (log_upto most n) (λ l. l ≤ suc most) (λ _. omega arith)
    (λ _. let below = log_most most n in omega (arith, below))

-- the number of slots for this many pairs is a power of two
entries_power : (pairs : ℕ) → IsPowerOfTwo (entries_of pairs)
entries_power pairs = cond_both (nat_le (pairs * 8 / 6) 1) 1 (2 * 2 ^ log_upto 63 (pairs * 8 / 6 - 1)) IsPowerOfTwo (λ _. (0, refl))
    (λ _. (suc (log_upto 63 (pairs * 8 / 6 - 1)), omega (arith, pow-suc 2 (log_upto 63 (pairs * 8 / 6 - 1)))))

-- a room that may be is of a size of tables
room_stands : (pairs : ℕ) → IsValidRoom (room_of pairs)
room_stands pairs = cond_both (nat_le (entries_of pairs) (2 ^ 32)) (Some (room_of_len (max (entries_of pairs) 8))) None IsValidRoom
    (λ short. record {
      power = ⊎_elim (λ (lt : entries_of pairs < 8). let e : max (entries_of pairs) 8 ≡ 8 = omega (arith, lt) in (3, e))
          (λ (le : 8 ≤ entries_of pairs). let e : max (entries_of pairs) 8 ≡ entries_of pairs = omega (arith, le) in
          subst IsPowerOfTwo (sym e) (entries_power pairs)) (cases_lt (entries_of pairs) 8);
      most = let le : entries_of pairs ≤ 2 ^ 32 = leb-true (entries_of pairs) (2 ^ 32) short in omega (arith, le);
      few = let most : log_upto 63 (max (entries_of pairs) 8) ≤ 63 = log_most 63 (max (entries_of pairs) 8) in omega (arith, most);
    })
    (λ _. tt)

-- it makes a first table
makes_stands : (room : Option TableSize) → IsValidRoom room → IsValidIn (makes room)
makes_stands None stands = tt
makes_stands (Some room) stands = stands

judges_stands : (root len : ℕ) (room : Option TableSize) → IsValidRoom room → IsValidIn (judges root len room)
judges_stands root len None stands = tt
judges_stands root len (Some room) stands = cond_both (nat_le room.len len) stages.Done (stages.Looking root len (Some room)) IsValidIn (λ _. tt)
    (λ _. stands)

last_stands : (mode : ResizeMode) (root len : ℕ) (room : Option TableSize) → IsValidRoom room → IsValidIn (at_last mode root len room)
last_stands mode root len None stands = tt
last_stands mode root len (Some room) stands = stands

next_stands : (mode : ResizeMode) (root len : ℕ) (room : Option TableSize) (next : ℕ) → IsValidRoom room → IsValidIn (at_next mode root len room next)
next_stands mode root len room next stands = cond_both (next == 0) (at_last mode root len room) (copies root) IsValidIn
    (λ _. last_stands mode root len room stands) (λ _. tt)

root_stands : (resize : Resize) (root : ℕ) → IsValidIn (at_root resize root)
root_stands (resizes.Reserve more) root = cond_both (root == 0) (makes (room_of more)) (stages.Sizing root) IsValidIn
    (λ _. makes_stands (room_of more) (room_stands more)) (λ _. tt)
root_stands resizes.Chunk root = cond_both (root == 0) stages.Done (stages.Looking root 0 None) IsValidIn (λ _. tt) (λ _. tt)
root_stands resizes.CopyAll root = cond_both (root == 0) stages.Done (stages.Looking root 0 None) IsValidIn (λ _. tt) (λ _. tt)

count_stands : (resize : Resize) (root len count : ℕ) → IsValidIn (at_count resize root len count)
count_stands (resizes.Reserve more) root len count = judges_stands root len (room_of (count + more)) (room_stands (count + more))
count_stands resizes.Chunk root len count = tt
count_stands resizes.CopyAll root len count = tt

-- the state after an answer while nothing is linked or copied
told_stands : (resize : Resize) (mode : ResizeMode) (stage : ResizerState) (a : Call_answer) → IsValidIn stage → IsValidIn (told_root resize mode stage a)
told_stands resize mode stages.AtRoot (told.Word root) stands = root_stands resize root
told_stands resize mode (stages.Making room) (told.Made table) stands = tt
told_stands resize mode (stages.Making room) (told.Refused refused) stands = tt
told_stands resize mode (stages.Opening table) told.Exchanged stands = tt
told_stands resize mode (stages.Opening table) (told.Found word) stands = tt
told_stands resize mode (stages.Sizing root) (told.Size slots limit) stands = tt
told_stands resize mode (stages.Looking root len room) (told.Word next) stands = next_stands mode root len room next stands
told_stands resize mode stage a stands = stands

counted_stands : (resize : Resize) (stage : ResizerState) (count : ℕ) → IsValidIn stage → IsValidIn (counted resize stage count)
counted_stands resize (stages.Counting root len) count stands = count_stands resize root len count
counted_stands resize stage count stands = stands

called_stands : (resize : Resize) (mode : ResizeMode) (stage : ResizerState) (a : Answer) → IsValidIn stage → IsValidIn (called resize mode stage a)
called_stands resize mode stage (answers.Call a) stands = told_stands resize mode stage a stands
called_stands resize mode stage (answers.Count count) stands = counted_stands resize stage count stands
called_stands resize mode stage (answers.Hash hash) stands = stands

-- the state after the end of a link or of a copy
linked_stands : (root : ℕ) (end : Linked) → IsValidLinked end → IsValidIn (linked root end)
linked_stands root (linked_to.On link) stands = stands
linked_stands root (linked_to.Table table) stands = tt
linked_stands root (linked_to.Refused refused) stands = tt

over_stands : (resize : Resize) → IsValidIn (over resize)
over_stands resizes.Chunk = tt
over_stands resizes.CopyAll = tt
over_stands (resizes.Reserve more) = tt

copied_stands : (resize : Resize) (from : ℕ) (end : Copied) → IsValidCopied end → IsValidIn (copied resize from end)
copied_stands resize from (copied_to.On copying) stands = stands
copied_stands resize from (copied_to.Refused refused) stands = tt
copied_stands resize from (copied_to.Search table) stands = over_stands resize
copied_stands resize from (copied_to.Root root) stands = over_stands resize
copied_stands resize from copied_to.Chunk stands = over_stands resize

after_stands : (resize : Resize) (mode : ResizeMode) (initial number : ℕ) (a : Answer) (stage : ResizerState) → IsPowerOfTwo initial → IsFit a
    → IsValidIn stage → IsValidIn (after_in resize mode initial number a stage)
after_stands resize mode initial number a (stages.Linking link) power fit stands = linked_stands (follows link) (link_after link mode initial a)
    (link_stands link mode initial a power fit stands)
after_stands resize mode initial number a (stages.Copying from copying) power fit stands = copied_stands resize from
    (copying_after copying mode initial number a) (copying_stands copying mode initial number a power fit stands)
after_stands resize mode initial number a stages.AtRoot power fit stands = called_stands resize mode stages.AtRoot a stands
after_stands resize mode initial number a (stages.Making room) power fit stands = called_stands resize mode (stages.Making room) a stands
after_stands resize mode initial number a (stages.Opening table) power fit stands = called_stands resize mode (stages.Opening table) a stands
after_stands resize mode initial number a (stages.Sizing root) power fit stands = called_stands resize mode (stages.Sizing root) a stands
after_stands resize mode initial number a (stages.Counting root len) power fit stands = called_stands resize mode (stages.Counting root len) a stands
after_stands resize mode initial number a (stages.Looking root len room) power fit stands = called_stands resize mode (stages.Looking root len room) a stands
after_stands resize mode initial number a stages.Done power fit stands = called_stands resize mode stages.Done a stands
after_stands resize mode initial number a (stages.Refused refused) power fit stands = called_stands resize mode (stages.Refused refused) a stands

-- it is valid after an answer
pub resizer_stands : (z : Resizer) (a : Answer) → IsValidResizer z → IsFit a → IsValidResizer (after z a)
resizer_stands z a stands fit = record {
  chunked = stands.chunked;
  initial = stands.initial;
  state = after_stands z.resize z.mode z.initial z.number a
      z.state stands.initial fit stands.state;
}

-- and asks for no other tables
fits_in : (stage : ResizerState) → IsValidIn stage → (ask : CopyAsk) → asks_in stage ≡ Some ask → IsFitCopyAsk ask
fits_in stages.AtRoot stands ask e = subst IsFitCopyAsk (same_item _ ask e) tt
fits_in (stages.Making room) stands ask e = subst IsFitCopyAsk (same_item _ ask e) stands
fits_in (stages.Opening table) stands ask e = subst IsFitCopyAsk (same_item _ ask e) tt
fits_in (stages.Sizing root) stands ask e = subst IsFitCopyAsk (same_item _ ask e) tt
fits_in (stages.Counting root len) stands ask e = subst IsFitCopyAsk (same_item _ ask e) tt
fits_in (stages.Looking root len room) stands ask e = subst IsFitCopyAsk (same_item _ ask e) tt
fits_in (stages.Linking link) stands ask e = subst IsFitCopyAsk (same_item _ ask e) (link_fits link stands)
fits_in (stages.Copying from copying) stands ask e = subst IsFitCopyAsk (same_item _ ask e) (copying_fits copying stands)
fits_in stages.Done stands ask e = let f : None ≡ Some ask = e in absurd cc
fits_in (stages.Refused refused) stands ask e = let f : None ≡ Some ask = e in absurd cc

pub resizer_fits : (z : Resizer) → IsValidResizer z → (ask : CopyAsk) → ask_of z ≡ Some ask → IsFitCopyAsk ask
resizer_fits z stands ask e = fits_in z.state stands.state ask e
