-- A machine is within its table after each answer within the limits, and asks only for tables of
-- sizes that tables may have.
use Rattle.std.proofs.Common.{ℕ, ◌+◌, ◌==◌, ◌<◌, ◌^◌, nat_lt, Bool, true, false, Option, None, Some, refl, arith}
use Rattle.std.proofs.Math.Nat.{mod-lt}
use Rattle.std.proofs.lemmas.Bool.{cond_both, ltb-true}
use Rattle.std.proofs.lemmas.Nat.{pow_pos}
use Rattle.papaya_words.specs.Word.{kind_of, pair_of, may_hold}
use Rattle.papaya_words.specs.Probe.{triangular}
use Rattle.papaya_words.specs.declared.word.Kind.{Kind}
use Rattle.papaya_words.specs.declared.word.Kind.TheVariants as word_kinds
use Rattle.papaya_words.specs.declared.resize_mode.ResizeMode.{ResizeMode}
use Rattle.papaya_words.specs.declared.resize_mode.ResizeMode.TheVariants.{Incremental, Blocking}
use Rattle.papaya_call.specs.declared.ask.Answer.{Answer}
use Rattle.papaya_call.specs.declared.ask.Answer.TheVariants.{Word as Word_read, Exchanged}
use Rattle.papaya_call.specs.declared.ask.Answer.TheVariants.{Found as Found_instead, Yes, Op, Size}
use Rattle.papaya_call.specs.declared.ask.Answer.TheVariants.{Made as Made_number, Ok as Ok_done}
use Rattle.papaya_call.specs.declared.ask.Answer.TheVariants.{Refused as Was_refused}
use Rattle.papaya_call.specs.declared.ask.OpKind.{OpKind}
use Rattle.papaya_call.specs.declared.ask.OpKind.TheVariants as ops
use Rattle.papaya_call.specs.declared.call.Reply.TheVariants.{Absent, Replaced}
use Rattle.papaya_call.specs.declared.call.Task.{Task}
use Rattle.papaya_call.specs.declared.call.Task.TheVariants.{Get, Insert, RemoveIf, Compute}
use Rattle.papaya_call.specs.declared.compute.Choice.{Choice}
use Rattle.papaya_call.specs.declared.compute.Choice.TheVariants.{Replace as To_replace, Remove as To_remove}
use Rattle.papaya_call.specs.declared.compute.Gap.{Gap}
use Rattle.papaya_call.specs.declared.compute.Gap.TheVariants.{NoRoot, At, After}
use Rattle.papaya_call.specs.declared.compute.Purpose.{Purpose}
use Rattle.papaya_call.specs.declared.compute.Purpose.TheVariants.{Fill, Replace, Again}
use Rattle.papaya_call.specs.declared.compute.Remembered.{Remembered}
use Rattle.papaya_call.specs.declared.remove.Removal.{Removal}
use Rattle.papaya_call.specs.declared.search.Place.{Place}
use Rattle.papaya_call.specs.declared.search.Search.{Search}
use Rattle.papaya_call.specs.declared.search.Search.TheVariants.{Sizing, Looking, Reading, Comparing}
use Rattle.papaya_call.specs.declared.search.ProbeStep.{ProbeStep}
use Rattle.papaya_call.specs.declared.search.ProbeStep.TheVariants as seen
use Rattle.papaya_call.specs.declared.made.Made.{Made}
use Rattle.papaya_call_law.proofs.Makings.{HoldsOfPairAsks, exchanged_leads, lost_leads, numbered_leads, pair_holds, refuses_leads, told_leads, write_holds}
use Rattle.papaya_call.specs.declared.machine.Machine.{Machine}
use Rattle.papaya_call.specs.declared.machine.State.{State}
use Rattle.papaya_call.specs.declared.machine.State.TheVariants.{AtRoot, Making, Opening, Searching}
use Rattle.papaya_call.specs.declared.machine.State.TheVariants.{Writing, Offering, Showing}
use Rattle.papaya_call.specs.declared.machine.State.TheVariants.{Pairing, Putting, Burying}
use Rattle.papaya_call.specs.declared.machine.State.TheVariants.{Counting, Noting, Uncounting}
use Rattle.papaya_call.specs.declared.machine.State.TheVariants.{Leaving, Growing, Ended}
use Rattle.papaya_call.specs.Search.{IsSize, IsWithin, IsSearching, IsProbed, next_place, go_on}
use Rattle.papaya_call.specs.Search.{look_at, look, match_at, at_word as search_loaded}
use Rattle.papaya_call.specs.Search.{at_yes as search_compared, hinted}
use Rattle.papaya_call.specs.declared.made.Grown.{Grown}
use Rattle.papaya_call.specs.declared.made.Grown.TheVariants.{On, Pair}
use Rattle.papaya_call.specs.declared.made.Number.{Number}
use Rattle.papaya_call.specs.declared.made.Number.TheVariants.{Wanted, Free, Taken}
use Rattle.papaya_call.specs.declared.write.Write.{Write}
use Rattle.papaya_call.specs.Made.{IsGrown, IsLimit, IsMade, IsNumber, IsMadeOrNone, answered, grown}
use Rattle.papaya_call.specs.Made.{grown_as, of_grown, own_grown, serves_at, taken, taken_as, told}
use Rattle.papaya_call.specs.Made.{told_as, told_limit, wanted}
use Rattle.papaya_call.specs.Write.{claimed_by, made_of, made_to_write, serves, with_pair_at, write_grown}
use Rattle.papaya_call.specs.Compute.{IsChoice, IsFill, IsGap, IsPurpose, IsRemembered, chosen}
use Rattle.papaya_call.specs.Compute.{fills, in_place_of, lacks, offered, provides, recalled}
use Rattle.papaya_call.specs.Compute.{recalls, with_choice, with_pair}
use Rattle.papaya_call.specs.Machine.{IsComputer, IsValid, IsValidState, IsWriter, MayInsert}
use Rattle.papaya_call.specs.Machine.{IsFit, IsFitAsk, ask_of, asks, after, absent, at_root}
use Rattle.papaya_call.specs.Machine.{beaten_as, beaten_by, computes, decided, decided_held}
use Rattle.papaya_call.specs.Machine.{held_at_op, held_in, judged, left, paired, paired_held}
use Rattle.papaya_call.specs.Machine.{passes, removes, replaces, goes_as, made_at_exchanged}
use Rattle.papaya_call.specs.Machine.{made_at_op, made_at_word, made_decided, made_in, made_to_pair}
use Rattle.papaya_call.specs.Machine.{number_told, state_in, write_made, write_taken, at_op}
use Rattle.papaya_call.specs.Machine.{at_word, at_exchanged, at_found, at_yes, at_size, at_ok}
use Rattle.papaya_call.specs.Machine.{at_refused, written}
use Rattle.papaya_call_law.proofs.Leads.{occupies_leads}

-- a table with a size has a slot
pub some_slots : (slots last : ℕ) → IsSize slots last → 0 < slots
some_slots slots last size = let some = pow_pos size.power.0 in let is = size.power.1 in omega arith

-- the place after one that is not the last is within the table
pub next_within : (at : Place) → IsWithin at → at.probe.len < at.limit → IsWithin (next_place at)
next_within at within more = record {
  size = within.size;
  len = omega arith;
  i = mod-lt (at.probe.i + at.probe.len + 1) (some_slots at.len at.limit within.size);
}

-- a search continues within the table
go_on_seen : (at : Place) → IsWithin at → IsProbed (go_on at)
go_on_seen at within = cond_both (nat_lt at.probe.len at.limit) (seen.On (Looking (next_place at))) (seen.Over at.table) IsProbed
    (λ more. next_within at within (ltb-true at.probe.len at.limit more)) (λ _. tt)

hinted_seen : (at : Place) (hash hint : ℕ) → IsWithin at → IsProbed (hinted at hash hint)
hinted_seen at hash hint within = cond_both (may_hold hint hash) (seen.On (Reading at)) (go_on at) IsProbed (λ _. within) (λ _. go_on_seen at within)

look_seen : (kind : Kind) (at : Place) (word : ℕ) → IsWithin at → IsProbed (look_at kind at word)
look_seen word_kinds.Empty at word within = within
look_seen word_kinds.Live at word within = within
look_seen word_kinds.Marked at word within = within
look_seen word_kinds.Copied at word within = within
look_seen word_kinds.Buried at word within = go_on_seen at within
look_seen word_kinds.Closed at word within = go_on_seen at within

match_seen : (kind : Kind) (at : Place) (word : ℕ) → IsWithin at → IsProbed (match_at kind at word)
match_seen word_kinds.Empty at word within = within
match_seen word_kinds.Live at word within = within
match_seen word_kinds.Marked at word within = within
match_seen word_kinds.Copied at word within = tt
match_seen word_kinds.Buried at word within = within
match_seen word_kinds.Closed at word within = within

loaded_seen : (search : Search) (hash word : ℕ) → IsSearching search → IsProbed (search_loaded search hash word)
loaded_seen (Sizing table) hash word within = tt
loaded_seen (Looking at) hash word within = hinted_seen at hash word within
loaded_seen (Reading at) hash word within = look_seen (kind_of word) at word within
loaded_seen (Comparing at other) hash word within = within

compared_seen : (search : Search) (same : Bool) → IsSearching search → IsProbed (search_compared search same)
compared_seen (Sizing table) same within = tt
compared_seen (Looking at) same within = within
compared_seen (Reading at) same within = within
compared_seen (Comparing at word) true within = match_seen (kind_of word) at word within
compared_seen (Comparing at word) false within = go_on_seen at within

-- the machine is valid after a search
replaces_stands : (kind : Kind) (at : Place) (word : ℕ) → IsWithin at → IsValidState (Insert true) (replaces kind at word)
replaces_stands word_kinds.Empty at word within = tt
replaces_stands word_kinds.Live at word within = (tt, within)
replaces_stands word_kinds.Marked at word within = tt
replaces_stands word_kinds.Copied at word within = tt
replaces_stands word_kinds.Buried at word within = tt
replaces_stands word_kinds.Closed at word within = tt

removes_stands : (kind : Kind) (at : Place) (word : ℕ) → IsWithin at → IsValidState RemoveIf (removes kind at word)
removes_stands word_kinds.Empty at word within = tt
removes_stands word_kinds.Live at word within = (tt, within)
removes_stands word_kinds.Marked at word within = tt
removes_stands word_kinds.Copied at word within = tt
removes_stands word_kinds.Buried at word within = tt
removes_stands word_kinds.Closed at word within = tt

-- a pair is put where its key is absent
fills_stands : (gap : Gap) (n : ℕ) → IsGap gap → n < 2 ^ 48 → IsValidState Compute (fills gap n)
fills_stands NoRoot n gap fit = tt
fills_stands (At place) n gap fit = (tt, record { within = gap; pair = fit })
fills_stands (After table) n gap fit = tt

lacks_stands : (fill : Option ℕ) (gap : Gap) → IsFill fill → IsGap gap → IsValidState Compute (lacks fill gap)
lacks_stands None gap held is = (tt, is)
lacks_stands (Some n) gap held is = fills_stands gap n is held

-- a remembered result is acted on
recalls_stands : (choice : Option Choice) (at : Place) (word n : ℕ) → IsChoice choice → IsWithin at → IsValidState Compute (recalls choice at word n)
recalls_stands None at word n held within = (tt, within)
recalls_stands (Some (To_replace old new)) at word n held within =
    cond_both (old == n) (recalled new at word) (Showing (record { place = at; word = word })) (IsValidState Compute)
    (λ _. cond_both (serves_at new at.table at.probe.i) (Putting (record { write = record { place = at; old = word }; pair = new.pair }))
    (Pairing (Again (record { place = at; old = word }))) (IsValidState Compute) (λ _. (tt, record { within = within; pair = held })) (λ _. (tt, within)))
    (λ _. (tt, within))
recalls_stands (Some (To_remove old)) at word n held within = cond_both (old == n) (Burying (record { place = at; word = word }))
    (Showing (record { place = at; word = word })) (IsValidState Compute) (λ _. (tt, within)) (λ _. (tt, within))

computes_stands : (kind : Kind) (held : Remembered) (at : Place) (word : ℕ) → IsRemembered held → IsWithin at
    → IsValidState Compute (computes kind held at word)
computes_stands word_kinds.Empty held at word is within = tt
computes_stands word_kinds.Live held at word is within = recalls_stands held.choice at word (pair_of word) is.choice within
computes_stands word_kinds.Marked held at word is within = tt
computes_stands word_kinds.Copied held at word is within = tt
computes_stands word_kinds.Buried held at word is within = tt
computes_stands word_kinds.Closed held at word is within = tt

absent_stands : (task : Task) (fill : Option ℕ) (gap : Gap) → IsFill fill → IsGap gap → IsValidState task (absent task fill gap)
absent_stands Get fill gap held is = tt
absent_stands (Insert replace) fill gap held is = tt
absent_stands RemoveIf fill gap held is = tt
absent_stands Compute fill gap held is = lacks_stands fill gap held is

passes_stands : (task : Task) (mode : ResizeMode) (fill : Option ℕ) (t : ℕ) → IsFill fill → IsValidState task (passes task mode fill t)
passes_stands task (Incremental chunk) fill t held = tt
passes_stands task Blocking fill t held = absent_stands task fill (After t) held tt

goes_stands : (task : Task) (mode : ResizeMode) (held : Remembered) (s : ProbeStep) → IsRemembered held → IsProbed s
    → IsValidState task (goes_as task mode held s)
goes_stands task mode held (seen.On search) is within = within
goes_stands Get mode held (seen.Here at word) is within = tt
goes_stands (Insert false) mode held (seen.Here at word) is within = occupies_leads (IsValidState (Insert false)) (kind_of word) at word tt tt
goes_stands (Insert true) mode held (seen.Here at word) is within = replaces_stands (kind_of word) at word within
goes_stands RemoveIf mode held (seen.Here at word) is within = removes_stands (kind_of word) at word within
goes_stands Compute mode held (seen.Here at word) is within = computes_stands (kind_of word) held at word is within
goes_stands Get mode held (seen.Empty at) is within = tt
goes_stands RemoveIf mode held (seen.Empty at) is within = tt
goes_stands Compute mode held (seen.Empty at) is within = lacks_stands held.fill (At at) is.fill within
goes_stands (Insert replace) mode held (seen.Empty at) is within = (tt, within)
goes_stands Get mode held (seen.Over t) is within = passes_stands Get mode held.fill t is.fill
goes_stands RemoveIf mode held (seen.Over t) is within = passes_stands RemoveIf mode held.fill t is.fill
goes_stands Compute mode held (seen.Over t) is within = passes_stands Compute mode held.fill t is.fill
goes_stands (Insert replace) mode held (seen.Over t) is within = tt

root_stands : (task : Task) (fill : Option ℕ) (word : ℕ) → IsFill fill → IsValidState task (at_root task fill word)
root_stands Get fill word held = cond_both (word == 0) (Ended Absent) (Searching (Sizing word)) (IsValidState Get) (λ _. tt) (λ _. tt)
root_stands RemoveIf fill word held = cond_both (word == 0) (Ended Absent) (Searching (Sizing word)) (IsValidState RemoveIf) (λ _. tt) (λ _. tt)
root_stands Compute fill word held = cond_both (word == 0) (lacks fill NoRoot) (Searching (Sizing word)) (IsValidState Compute)
    (λ _. lacks_stands fill NoRoot held tt) (λ _. tt)
root_stands (Insert replace) fill word held = cond_both (word == 0) Making (Searching (Sizing word)) (IsValidState (Insert replace)) (λ _. tt) (λ _. tt)

next_stands : (task : Task) (fill : Option ℕ) (table word : ℕ) → IsFill fill → IsValidState task (left task fill table word)
next_stands task fill table word held = cond_both (word == 0) (absent task fill (After table)) (Searching (Sizing word)) (IsValidState task)
    (λ _. absent_stands task fill (After table) held tt) (λ _. tt)

-- the machine continues after the closure of a compute, and the closure's result is remembered
offered_stands : (gap : Gap) (kind : OpKind) → IsGap gap → IsValidState Compute (offered gap kind)
offered_stands gap ops.Insert is = (tt, is)
offered_stands gap ops.Remove is = tt
offered_stands gap (ops.Abort t) is = tt

chosen_stands : (shown : Removal) (kind : OpKind) → IsWithin shown.place → IsValidState Compute (chosen shown kind)
chosen_stands shown ops.Insert within = (tt, within)
chosen_stands shown ops.Remove within = (tt, within)
chosen_stands shown (ops.Abort t) within = tt

choice_stands : (held : Remembered) (shown : Removal) (kind : OpKind) → IsRemembered held → IsRemembered (with_choice held shown kind)
choice_stands held shown ops.Insert is = is
choice_stands held shown ops.Remove is = record { fill = is.fill; choice = tt }
choice_stands held shown (ops.Abort t) is = is

provides_stands : (purpose : Purpose) (n : ℕ) → IsPurpose purpose → n < 2 ^ 48 → IsValidState Compute (provides purpose n)
provides_stands (Fill gap) n is fit = fills_stands gap n is fit
provides_stands (Replace write) n is fit = (tt, record { within = is; pair = fit })
provides_stands (Again write) n is fit = (tt, record { within = is; pair = fit })

pair_stands : (held : Remembered) (purpose : Purpose) (n : ℕ) → IsRemembered held → n < 2 ^ 48 → IsRemembered (with_pair held purpose n)
pair_stands held (Fill gap) n is fit = record { fill = fit; choice = tt }
pair_stands held (Replace write) n is fit = record { fill = is.fill; choice = fit }
pair_stands held (Again write) n is fit = record { fill = is.fill; choice = fit }

-- a write that was made is counted, or was all there was to do
written_stands : (task : Task) (write : _) (n : ℕ) → MayInsert task → IsValidState task (written write n)
written_stands task write n may = cond_both (write.old == 0) (Counting (claimed_by write n)) (Ended (Replaced _ n)) (IsValidState task) (λ _. may) (λ _. tt)

-- an insertion may insert
pub writer_inserts : (task : Task) → IsWriter task → MayInsert task
writer_inserts Get is = is
writer_inserts (Insert replace) is = is
writer_inserts RemoveIf is = is
writer_inserts Compute is = absurd is

pub computer_inserts : (task : Task) → IsComputer task → MayInsert task
computer_inserts Get is = is
computer_inserts (Insert replace) is = absurd is
computer_inserts RemoveIf is = is
computer_inserts Compute is = is

-- the state of the pair's parts stays within the limits of numbers
with_number : (made : Made) → IsMade made → (number : Number) → IsNumber number → IsMade (record made { number = number })
with_number made is number fit = record { limit = is.limit; number = fit; own = is.own; of = is.of }

wanted_fits : (limit : Option ℕ) → IsNumber (wanted limit)
wanted_fits None = tt
wanted_fits (Some most) = tt

limit_fits : (made : Made) → IsMade made → (limit : Option ℕ) → IsLimit limit → (count : ℕ) → IsMadeOrNone (told_limit made limit count)
limit_fits made is None fit count = with_number made is Taken tt
limit_fits made is (Some most) fit count =
    cond_both (nat_lt count most) (Some (record made { number = Free count })) None IsMadeOrNone
    (λ less. with_number made is (Free count) (let below : count < most = ltb-true count most less in omega (arith, below, fit))) (λ _. tt)

told_fits_by : (made : Made) → IsMade made → (number : Number) (count : ℕ) → IsMadeOrNone (told_as made number count)
told_fits_by made is Taken count = is
told_fits_by made is Wanted count = limit_fits made is made.limit is.limit count
told_fits_by made is (Free n) count = limit_fits made is made.limit is.limit count

told_fits : (made : Made) → IsMade made → (count : ℕ) → IsMadeOrNone (told made count)
told_fits made is count = told_fits_by made is made.number count

told_is_made : (made : Made) → IsMade made → (o : Option Made) → IsMadeOrNone o → IsMade (number_told o made)
told_is_made made is None fit = is
told_is_made made is (Some next) fit = fit

taken_fits_by : (made : Made) → IsMade made → (number : Number) → IsMade (taken_as made number)
taken_fits_by made is Taken = is
taken_fits_by made is Wanted = is
taken_fits_by made is (Free n) = with_number made is Taken tt

taken_fits : (made : Made) → IsMade made → IsMade (taken made)
taken_fits made is = taken_fits_by made is made.number

own_fits : (made : Made) → IsMade made → (keyed valued : Bool) → IsGrown (own_grown keyed valued made)
own_fits made is false valued = record { limit = is.limit; number = is.number; own = is.own; of = is.of }
own_fits made is true false = record { limit = is.limit; number = is.number; own = is.own; of = is.of }
own_fits made is true true = with_number made is (wanted made.limit) (wanted_fits made.limit)

of_fits : (made : Made) → IsMade made → (valued : Bool) → IsGrown (of_grown valued made)
of_fits made is false = record { limit = is.limit; number = is.number; own = is.own; of = is.of }
of_fits made is true = with_number made is (wanted made.limit) (wanted_fits made.limit)

grown_fits_by : (made : Made) → IsMade made → (number : Number) (old : ℕ) → IsGrown (grown_as number made old)
grown_fits_by made is Wanted old = is
grown_fits_by made is (Free n) old = is
grown_fits_by made is Taken old = cond_both (old == 0) (own_grown made.keyed made.valued made) (of_grown made.valued made) IsGrown
    (λ _. own_fits made is made.keyed made.valued) (λ _. of_fits made is made.valued)

grown_fits : (made : Made) → IsMade made → (old : ℕ) → IsGrown (grown made old)
grown_fits made is old = grown_fits_by made is made.number old

grown_is_made : (G : Grown) → IsGrown G → IsMade (made_to_pair G)
grown_is_made (On made) fit = fit
grown_is_made (Pair made) fit = fit

pair_fits : (made : Made) → IsMade made → (write : Write) (n : ℕ) → n < 2 ^ 48 → IsMade (with_pair_at made write n)
pair_fits made is write n fit =
    cond_both (write.old == 0) (record made { own = Some n }) (record made { of = Some (made_of write n) }) IsMade
    (λ _. record { limit = is.limit; number = is.number; own = fit; of = is.of })
    (λ _. record { limit = is.limit; number = is.number; own = is.own; of = fit })

write_fits : (write : Write) (n : ℕ) → n < 2 ^ 48 → (G : Grown) → IsGrown G → IsMade (made_to_write G write n)
write_fits write n fit (On made) is = is
write_fits write n fit (Pair made) is = pair_fits made is write n fit

write_grown_fits : (made : Made) → IsMade made → (write : Write) (n : ℕ) → n < 2 ^ 48 → (served : Option ℕ) → IsMade (write_grown served made write n)
write_grown_fits made is write n fit None = write_fits write n fit (grown made write.old) (grown_fits made is write.old)
write_grown_fits made is write n fit (Some i) = is

module _ (m : Machine) (held : IsRemembered m.remembered) where
  word_stands : (word : ℕ) (state : State) → IsValidState m.task state → IsValidState m.task (at_word m word state)
  word_stands word AtRoot stands = root_stands m.task m.remembered.fill word held.fill
  word_stands word (Searching search) stands = goes_stands m.task m.mode m.remembered (search_loaded search m.hash word) held
      (loaded_seen search m.hash word stands)
  word_stands word (Leaving table) stands = next_stands m.task m.remembered.fill table word held.fill
  word_stands word (Growing table) stands = tt
  word_stands word Making stands = stands
  word_stands word (Opening table) stands = stands
  word_stands word (Writing write) stands = told_leads (IsValidState m.task) tt write stands (serves m.made write) m.made word
  word_stands word (Counting pair) stands = stands
  word_stands word (Noting pair) stands = stands
  word_stands word (Showing removal) stands = stands
  word_stands word (Burying removal) stands = stands
  word_stands word (Uncounting pair) stands = stands
  word_stands word (Offering gap) stands = stands
  word_stands word (Pairing purpose) stands = numbered_leads (IsValidState m.task) tt (Pairing purpose) stands (told m.made word)
  word_stands word (Putting put) stands = stands
  word_stands word (Ended reply) stands = stands

  exchanged_stands : (made : Made) (state : State) → IsValidState m.task state → IsValidState m.task (at_exchanged made state)
  exchanged_stands made (Opening table) stands = tt
  exchanged_stands made (Writing write) stands = exchanged_leads (IsValidState m.task) write stands
      (λ n. written_stands m.task write n (writer_inserts m.task stands.0)) (serves made write)
  exchanged_stands made (Putting put) stands = written_stands m.task put.write put.pair (computer_inserts m.task stands.0)
  exchanged_stands made (Burying removal) stands = stands.0
  exchanged_stands made AtRoot stands = stands
  exchanged_stands made Making stands = stands
  exchanged_stands made (Searching search) stands = stands
  exchanged_stands made (Counting pair) stands = stands
  exchanged_stands made (Noting pair) stands = stands
  exchanged_stands made (Leaving table) stands = stands
  exchanged_stands made (Showing removal) stands = stands
  exchanged_stands made (Uncounting pair) stands = stands
  exchanged_stands made (Offering gap) stands = stands
  exchanged_stands made (Pairing purpose) stands = stands
  exchanged_stands made (Growing table) stands = stands
  exchanged_stands made (Ended reply) stands = stands

  -- a call that lost an exchange continues from its place
  look_goes : (at : Place) (word : ℕ) → IsWithin at → IsValidState m.task (goes_as m.task m.mode m.remembered (look at word))
  look_goes at word within = goes_stands m.task m.mode m.remembered (look at word) held (look_seen (kind_of word) at word within)

  -- a removal that was beaten continues from its place, or has ended
  beaten_stands : (kind : Kind) (removal : Removal) (word : ℕ) → IsWithin removal.place → IsValidState m.task (beaten_by kind m removal.place word)
  beaten_stands word_kinds.Buried removal word within = tt
  beaten_stands word_kinds.Empty removal word within = look_goes removal.place word within
  beaten_stands word_kinds.Live removal word within = look_goes removal.place word within
  beaten_stands word_kinds.Marked removal word within = look_goes removal.place word within
  beaten_stands word_kinds.Copied removal word within = look_goes removal.place word within
  beaten_stands word_kinds.Closed removal word within = look_goes removal.place word within

  beaten_stands_as : (task : Task) (removal : Removal) (word : ℕ) → IsWithin removal.place → IsValidState m.task (beaten_as task m removal.place word)
  beaten_stands_as Get removal word within = beaten_stands (kind_of word) removal word within
  beaten_stands_as (Insert replace) removal word within = beaten_stands (kind_of word) removal word within
  beaten_stands_as RemoveIf removal word within = beaten_stands (kind_of word) removal word within
  beaten_stands_as Compute removal word within = look_goes removal.place word within

  found_stands : (word : ℕ) (state : State) → IsValidState m.task state → IsValidState m.task (at_found m word state)
  found_stands word (Opening table) stands = tt
  found_stands word (Writing write) stands = lost_leads (IsValidState m.task) tt write stands m word (look_goes write.place word stands.1)
      (serves m.made write)
  found_stands word (Putting put) stands = look_goes put.write.place word stands.1.within
  found_stands word (Burying removal) stands = beaten_stands_as m.task removal word stands.1
  found_stands word AtRoot stands = stands
  found_stands word Making stands = stands
  found_stands word (Searching search) stands = stands
  found_stands word (Counting pair) stands = stands
  found_stands word (Noting pair) stands = stands
  found_stands word (Leaving table) stands = stands
  found_stands word (Showing removal) stands = stands
  found_stands word (Uncounting pair) stands = stands
  found_stands word (Offering gap) stands = stands
  found_stands word (Pairing purpose) stands = numbered_leads (IsValidState m.task) tt (Pairing purpose) stands (told m.made word)
  found_stands word (Growing table) stands = stands
  found_stands word (Ended reply) stands = stands

  judged_stands : (task : Task) (removal : Removal) (agrees : Bool) → IsValidState task (Showing removal) → IsValidState task (judged task removal agrees)
  judged_stands Get removal agrees stands = stands
  judged_stands (Insert replace) removal agrees stands = stands
  judged_stands RemoveIf removal true stands = stands
  judged_stands RemoveIf removal false stands = tt
  judged_stands Compute removal agrees stands = stands

  decided_stands : (task : Task) (removal : Removal) (kind : OpKind) → IsValidState task (Showing removal) → IsValidState task (decided task removal kind)
  decided_stands Get removal kind stands = stands
  decided_stands (Insert replace) removal kind stands = stands
  decided_stands RemoveIf removal kind stands = stands
  decided_stands Compute removal kind stands = chosen_stands removal kind stands.1

  offering_stands : (task : Task) (gap : Gap) (kind : OpKind) → IsComputer task → IsGap gap → IsValidState task (offered gap kind)
  offering_stands Get gap kind is within = absurd is
  offering_stands (Insert replace) gap kind is within = absurd is
  offering_stands RemoveIf gap kind is within = absurd is
  offering_stands Compute gap kind is within = offered_stands gap kind within

  providing_stands : (task : Task) (purpose : Purpose) (n : ℕ) → IsComputer task → IsPurpose purpose → n < 2 ^ 48 → IsValidState task (provides purpose n)
  providing_stands Get purpose n is within fit = absurd is
  providing_stands (Insert replace) purpose n is within fit = absurd is
  providing_stands RemoveIf purpose n is within fit = absurd is
  providing_stands Compute purpose n is within fit = provides_stands purpose n within fit

  paired_stands : (grown : Grown) (purpose : Purpose) (n : ℕ) → n < 2 ^ 48 → IsValidState m.task (Pairing purpose)
      → IsValidState m.task (paired grown purpose n)
  paired_stands (On made) purpose n fit stands = stands
  paired_stands (Pair made) purpose n fit stands = providing_stands m.task purpose n stands.0 stands.1 fit

  paired_fits : (grown : Grown) (purpose : Purpose) (n : ℕ) → n < 2 ^ 48 → IsRemembered (paired_held grown m.remembered purpose n)
  paired_fits (On made) purpose n fit = held
  paired_fits (Pair made) purpose n fit = pair_stands m.remembered purpose n held fit

  yes_stands : (same : Bool) (state : State) → IsValidState m.task state → IsValidState m.task (at_yes m same state)
  yes_stands same (Searching search) stands = goes_stands m.task m.mode m.remembered (search_compared search same) held (compared_seen search same stands)
  yes_stands same (Showing removal) stands = judged_stands m.task removal same stands
  yes_stands same AtRoot stands = stands
  yes_stands same Making stands = stands
  yes_stands same (Opening table) stands = stands
  yes_stands same (Writing write) stands = stands
  yes_stands same (Counting pair) stands = stands
  yes_stands same (Noting pair) stands = stands
  yes_stands same (Leaving table) stands = stands
  yes_stands same (Burying removal) stands = stands
  yes_stands same (Uncounting pair) stands = stands
  yes_stands same (Offering gap) stands = stands
  yes_stands same (Pairing purpose) stands = stands
  yes_stands same (Putting put) stands = stands
  yes_stands same (Growing table) stands = stands
  yes_stands same (Ended reply) stands = stands

  size_stands : (slots limit : ℕ) → IsSize slots limit → (state : State) → IsValidState m.task state
      → IsValidState m.task (at_size m.hash slots limit state)
  size_stands slots limit size (Searching (Sizing table))
      stands = record { size = size; len = omega arith; i = mod-lt (m.hash + triangular 0) (some_slots slots limit size) }
  size_stands slots limit size (Searching (Looking at)) stands = stands
  size_stands slots limit size (Searching (Reading at)) stands = stands
  size_stands slots limit size (Searching (Comparing at word)) stands = stands
  size_stands slots limit size AtRoot stands = stands
  size_stands slots limit size Making stands = stands
  size_stands slots limit size (Opening table) stands = stands
  size_stands slots limit size (Writing write) stands = stands
  size_stands slots limit size (Counting pair) stands = stands
  size_stands slots limit size (Noting pair) stands = stands
  size_stands slots limit size (Leaving table) stands = stands
  size_stands slots limit size (Showing removal) stands = stands
  size_stands slots limit size (Burying removal) stands = stands
  size_stands slots limit size (Uncounting pair) stands = stands
  size_stands slots limit size (Offering gap) stands = stands
  size_stands slots limit size (Pairing purpose) stands = stands
  size_stands slots limit size (Putting put) stands = stands
  size_stands slots limit size (Growing table) stands = stands
  size_stands slots limit size (Ended reply) stands = stands

  ok_stands : (state : State) → IsValidState m.task state → IsValidState m.task (at_ok state)
  ok_stands (Counting pair) stands = stands
  ok_stands (Noting pair) stands = tt
  ok_stands (Uncounting pair) stands = tt
  ok_stands (Offering gap) stands = stands
  ok_stands (Pairing purpose) stands = stands
  ok_stands (Putting put) stands = stands
  ok_stands AtRoot stands = stands
  ok_stands Making stands = stands
  ok_stands (Opening table) stands = stands
  ok_stands (Searching search) stands = stands
  ok_stands (Writing write) stands = stands
  ok_stands (Leaving table) stands = stands
  ok_stands (Showing removal) stands = stands
  ok_stands (Burying removal) stands = stands
  ok_stands (Growing table) stands = stands
  ok_stands (Ended reply) stands = stands

  refused_stands : (made : Made) (refused : _) (state : State) → IsValidState m.task state → IsValidState m.task (at_refused made refused state)
  refused_stands made refused Making stands = tt
  refused_stands made refused (Writing write) stands = refuses_leads (IsValidState m.task) write refused stands tt (serves made write)
  refused_stands made refused AtRoot stands = stands
  refused_stands made refused (Opening table) stands = stands
  refused_stands made refused (Searching search) stands = stands
  refused_stands made refused (Counting pair) stands = stands
  refused_stands made refused (Noting pair) stands = stands
  refused_stands made refused (Leaving table) stands = stands
  refused_stands made refused (Showing removal) stands = stands
  refused_stands made refused (Burying removal) stands = stands
  refused_stands made refused (Uncounting pair) stands = stands
  refused_stands made refused (Offering gap) stands = stands
  refused_stands made refused (Pairing purpose) stands = tt
  refused_stands made refused (Putting put) stands = stands
  refused_stands made refused (Growing table) stands = stands
  refused_stands made refused (Ended reply) stands = stands

  -- the pairs that were made have numbers within the limits
  made_fits : (made : Made) (n : ℕ) (state : State) → n < 2 ^ 48 → IsMade made → IsMade (made_in made n state)
  made_fits made n (Writing write) fit is = write_grown_fits made is write n fit (serves made write)
  made_fits made n (Pairing purpose) fit is = grown_is_made (grown made (in_place_of purpose)) (grown_fits made is (in_place_of purpose))
  made_fits made n AtRoot fit is = is
  made_fits made n Making fit is = is
  made_fits made n (Opening table) fit is = is
  made_fits made n (Searching search) fit is = is
  made_fits made n (Counting pair) fit is = is
  made_fits made n (Noting pair) fit is = is
  made_fits made n (Leaving table) fit is = is
  made_fits made n (Showing removal) fit is = is
  made_fits made n (Burying removal) fit is = is
  made_fits made n (Uncounting pair) fit is = is
  made_fits made n (Offering gap) fit is = is
  made_fits made n (Putting put) fit is = is
  made_fits made n (Growing table) fit is = is
  made_fits made n (Ended reply) fit is = is

  -- so it is if numbers were counted
  word_fits : (made : Made) (word : ℕ) (state : State) → IsMade made → IsMade (made_at_word made word state)
  word_fits made word (Writing write) is = by_served (serves made write)
    where
      by_served : (served : Option ℕ) → IsMade (write_made served made word)
      by_served None = told_is_made made is (told made word) (told_fits made is word)
      by_served (Some n) = is
  word_fits made word (Pairing purpose) is = told_is_made made is (told made word) (told_fits made is word)
  word_fits made word AtRoot is = is
  word_fits made word Making is = is
  word_fits made word (Opening table) is = is
  word_fits made word (Searching search) is = is
  word_fits made word (Counting pair) is = is
  word_fits made word (Noting pair) is = is
  word_fits made word (Leaving table) is = is
  word_fits made word (Showing removal) is = is
  word_fits made word (Burying removal) is = is
  word_fits made word (Uncounting pair) is = is
  word_fits made word (Offering gap) is = is
  word_fits made word (Putting put) is = is
  word_fits made word (Growing table) is = is
  word_fits made word (Ended reply) is = is

  -- or taken
  exchange_fits : (made : Made) (state : State) → IsMade made → IsMade (made_at_exchanged made state)
  exchange_fits made (Writing write) is = by_served (serves made write)
    where
      by_served : (served : Option ℕ) → IsMade (write_taken served made)
      by_served None = taken_fits made is
      by_served (Some n) = is
  exchange_fits made (Pairing purpose) is = taken_fits made is
  exchange_fits made AtRoot is = is
  exchange_fits made Making is = is
  exchange_fits made (Opening table) is = is
  exchange_fits made (Searching search) is = is
  exchange_fits made (Counting pair) is = is
  exchange_fits made (Noting pair) is = is
  exchange_fits made (Leaving table) is = is
  exchange_fits made (Showing removal) is = is
  exchange_fits made (Burying removal) is = is
  exchange_fits made (Uncounting pair) is = is
  exchange_fits made (Offering gap) is = is
  exchange_fits made (Putting put) is = is
  exchange_fits made (Growing table) is = is
  exchange_fits made (Ended reply) is = is

  -- and if a closure returned
  answered_fits : (made : Made) (kind : OpKind) → IsMade made → IsMade (answered kind made)
  answered_fits made ops.Insert is = record { limit = is.limit; number = is.number; own = is.own; of = is.of }
  answered_fits made ops.Remove is = is
  answered_fits made (ops.Abort t) is = is

  decided_made_fits : (task : Task) (made : Made) (kind : OpKind) → IsMade made → IsMade (made_decided task kind made)
  decided_made_fits Get made kind is = is
  decided_made_fits (Insert replace) made kind is = is
  decided_made_fits RemoveIf made kind is = is
  decided_made_fits Compute made kind is = answered_fits made kind is

  op_made_fits : (made : Made) (kind : OpKind) (state : State) → IsMade made → IsMade (made_at_op m.task kind made state)
  op_made_fits made kind (Offering gap) is = answered_fits made kind is
  op_made_fits made kind (Showing removal) is = decided_made_fits m.task made kind is
  op_made_fits made kind (Writing write) is = is
  op_made_fits made kind (Pairing purpose) is = is
  op_made_fits made kind AtRoot is = is
  op_made_fits made kind Making is = is
  op_made_fits made kind (Opening table) is = is
  op_made_fits made kind (Searching search) is = is
  op_made_fits made kind (Counting pair) is = is
  op_made_fits made kind (Noting pair) is = is
  op_made_fits made kind (Leaving table) is = is
  op_made_fits made kind (Burying removal) is = is
  op_made_fits made kind (Uncounting pair) is = is
  op_made_fits made kind (Putting put) is = is
  op_made_fits made kind (Growing table) is = is
  op_made_fits made kind (Ended reply) is = is

  made_stands : (n : ℕ) → n < 2 ^ 48 → (state : State) → IsValidState m.task state → IsValidState m.task (state_in m.made n state)
  made_stands n fit Making stands = stands
  made_stands n fit AtRoot stands = stands
  made_stands n fit (Opening table) stands = stands
  made_stands n fit (Searching search) stands = stands
  made_stands n fit (Writing write) stands = stands
  made_stands n fit (Counting pair) stands = stands
  made_stands n fit (Noting pair) stands = stands
  made_stands n fit (Leaving table) stands = stands
  made_stands n fit (Showing removal) stands = stands
  made_stands n fit (Burying removal) stands = stands
  made_stands n fit (Uncounting pair) stands = stands
  made_stands n fit (Offering gap) stands = stands
  made_stands n fit (Pairing purpose) stands = paired_stands (grown m.made (in_place_of purpose)) purpose n fit stands
  made_stands n fit (Putting put) stands = stands
  made_stands n fit (Growing table) stands = stands
  made_stands n fit (Ended reply) stands = stands

  op_stands : (kind : OpKind) (state : State) → IsValidState m.task state → IsValidState m.task (at_op m.task kind state)
  op_stands kind AtRoot stands = stands
  op_stands kind Making stands = stands
  op_stands kind (Opening table) stands = stands
  op_stands kind (Searching search) stands = stands
  op_stands kind (Writing write) stands = stands
  op_stands kind (Offering gap) stands = offering_stands m.task gap kind stands.0 stands.1
  op_stands kind (Showing removal) stands = decided_stands m.task removal kind stands
  op_stands kind (Pairing purpose) stands = stands
  op_stands kind (Putting put) stands = stands
  op_stands kind (Burying removal) stands = stands
  op_stands kind (Counting pair) stands = stands
  op_stands kind (Noting pair) stands = stands
  op_stands kind (Uncounting pair) stands = stands
  op_stands kind (Leaving table) stands = stands
  op_stands kind (Growing table) stands = stands
  op_stands kind (Ended reply) stands = stands

  decided_fits : (task : Task) (removal : Removal) (kind : OpKind) → IsRemembered (decided_held task m.remembered removal kind)
  decided_fits Get removal kind = held
  decided_fits (Insert replace) removal kind = held
  decided_fits RemoveIf removal kind = held
  decided_fits Compute removal kind = choice_stands m.remembered removal kind held

  op_fits : (kind : OpKind) (state : State) → IsRemembered (held_at_op m.task m.remembered kind state)
  op_fits kind AtRoot = held
  op_fits kind Making = held
  op_fits kind (Opening table) = held
  op_fits kind (Searching search) = held
  op_fits kind (Writing write) = held
  op_fits kind (Offering gap) = held
  op_fits kind (Showing removal) = decided_fits m.task removal kind
  op_fits kind (Pairing purpose) = held
  op_fits kind (Putting put) = held
  op_fits kind (Burying removal) = held
  op_fits kind (Counting pair) = held
  op_fits kind (Noting pair) = held
  op_fits kind (Uncounting pair) = held
  op_fits kind (Leaving table) = held
  op_fits kind (Growing table) = held
  op_fits kind (Ended reply) = held

  held_fits : (n : ℕ) → n < 2 ^ 48 → (state : State) → IsRemembered (held_in m.made m.remembered n state)
  held_fits n fit AtRoot = held
  held_fits n fit Making = held
  held_fits n fit (Opening table) = held
  held_fits n fit (Searching search) = held
  held_fits n fit (Writing write) = held
  held_fits n fit (Offering gap) = held
  held_fits n fit (Showing removal) = held
  held_fits n fit (Pairing purpose) = paired_fits (grown m.made (in_place_of purpose)) purpose n fit
  held_fits n fit (Putting put) = held
  held_fits n fit (Burying removal) = held
  held_fits n fit (Counting pair) = held
  held_fits n fit (Noting pair) = held
  held_fits n fit (Uncounting pair) = held
  held_fits n fit (Leaving table) = held
  held_fits n fit (Growing table) = held
  held_fits n fit (Ended reply) = held

-- after each answer
pub machine_stands : (m : Machine) (answer : Answer) → IsValid m → IsFit answer → IsValid (after m answer)
machine_stands m (Word_read word) stands
    fit = record {
      made = word_fits m stands.remembered m.made word m.state stands.made;
      remembered = stands.remembered;
      state = word_stands m
          stands.remembered word m.state stands.state;
    }
machine_stands m Exchanged stands fit = record {
  made = exchange_fits m stands.remembered m.made m.state stands.made;
  remembered = stands.remembered;
  state = exchanged_stands m stands.remembered m.made m.state stands.state;
}
machine_stands m (Found_instead word) stands
    fit = record {
      made = word_fits m stands.remembered m.made word m.state stands.made;
      remembered = stands.remembered;
      state = found_stands m
          stands.remembered word m.state stands.state;
    }
machine_stands m (Yes same) stands fit =
    record { made = stands.made; remembered = stands.remembered; state = yes_stands m stands.remembered same m.state stands.state }
machine_stands m (Op kind) stands fit = record {
  made = op_made_fits m stands.remembered m.made kind m.state stands.made;
  remembered = op_fits m
      stands.remembered kind m.state;
  state = op_stands m stands.remembered kind m.state stands.state;
}
machine_stands m (Size slots limit) stands
    fit = record { made = stands.made; remembered = stands.remembered; state = size_stands m stands.remembered slots limit fit m.state stands.state }
machine_stands m (Made_number n) stands fit =
    record {
      made = made_fits m stands.remembered m.made n m.state fit stands.made;
      remembered = held_fits m stands.remembered n fit m.state;
      state = made_stands m stands.remembered n fit m.state stands.state;
    }
machine_stands m Ok_done stands fit = record { made = stands.made; remembered = stands.remembered; state = ok_stands m stands.remembered m.state stands.state }
machine_stands m (Was_refused refused) stands
    fit = record { made = stands.made; remembered = stands.remembered; state = refused_stands m stands.remembered m.made refused m.state stands.state }

-- the asks for a pair make no table
pairs_fit : HoldsOfPairAsks IsFitAsk
pairs_fit = record { loads = tt; takes = λ count. tt; key = tt; value = tt; pair = tt; pair_of = λ n. tt }

-- each table that a machine asks for has a size of tables
asks_fit : (made : Made) (hash : ℕ) (state : State) → IsFitAsk (asks made hash state)
asks_fit made hash AtRoot = tt
asks_fit made hash Making = record { power = (5, refl); most = omega arith; few = omega arith }
asks_fit made hash (Opening table) = tt
asks_fit made hash (Searching (Sizing table)) = tt
asks_fit made hash (Searching (Looking at)) = tt
asks_fit made hash (Searching (Reading at)) = tt
asks_fit made hash (Searching (Comparing at word)) = tt
asks_fit made hash (Writing write) = write_holds IsFitAsk pairs_fit write (λ n. tt) made
asks_fit made hash (Counting pair) = tt
asks_fit made hash (Noting pair) = tt
asks_fit made hash (Leaving table) = tt
asks_fit made hash (Offering gap) = tt
asks_fit made hash (Showing removal) = tt
asks_fit made hash (Pairing purpose) = pair_holds IsFitAsk pairs_fit made (in_place_of purpose)
asks_fit made hash (Putting put) = tt
asks_fit made hash (Burying removal) = tt
asks_fit made hash (Uncounting pair) = tt
asks_fit made hash (Growing table) = tt
asks_fit made hash (Ended reply) = tt

pub machine_ask_fits : (m : Machine) → IsFitAsk (ask_of m)
machine_ask_fits m = asks_fit m.made m.hash m.state
