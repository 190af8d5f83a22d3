-- The states of an insertion's machine after the root, and after its write.
use Rattle.std.proofs.Common.{◌≡◌, ℕ, ◌==◌, Bool, true, false, Option, None, Some, refl, sym, subst}
use Rattle.std.proofs.lemmas.Bool.{cond_both}
use Rattle.papaya_words.specs.Word.{kind_of, pair_of}
use Rattle.papaya_words.specs.declared.resize_mode.ResizeMode.{ResizeMode}
use Rattle.papaya_words.specs.declared.word.Kind.{Kind}
use Rattle.papaya_words.specs.declared.word.Kind.TheVariants as kinds
use Rattle.papaya_call.specs.declared.ask.Answer.{Answer}
use Rattle.papaya_call.specs.declared.ask.Answer.TheVariants.{Word as Word_read, Exchanged}
use Rattle.papaya_call.specs.declared.ask.Answer.TheVariants.{Found as Found_instead, Yes, Op, Size}
use Rattle.papaya_call.specs.declared.ask.Answer.TheVariants.{Made as Made_number, Ok as Ok_done}
use Rattle.papaya_call.specs.declared.ask.Answer.TheVariants.{Refused as Was_refused}
use Rattle.papaya_call.specs.declared.call.Reply.TheVariants.{Replaced, Occupied}
use Rattle.papaya_call.specs.declared.call.Task.{Task}
use Rattle.papaya_call.specs.declared.call.Task.TheVariants.{Insert}
use Rattle.papaya_call.specs.declared.search.Place.{Place}
use Rattle.papaya_call.specs.declared.search.Search.{Search}
use Rattle.papaya_call.specs.declared.search.Search.TheVariants.{Sizing, Looking, Reading, Comparing}
use Rattle.papaya_call.specs.declared.search.ProbeStep.{ProbeStep}
use Rattle.papaya_call.specs.declared.search.ProbeStep.TheVariants as seen
use Rattle.papaya_call.specs.Search.{at_word as search_loaded, at_yes as search_compared}
use Rattle.papaya_call.specs.declared.compute.Remembered.{Remembered}
use Rattle.papaya_call.specs.declared.machine.Machine.{Machine}
use Rattle.papaya_call.specs.declared.machine.State.{State}
use Rattle.papaya_call.specs.declared.machine.State.TheVariants.{Searching, Writing, Counting, Noting, Growing, Ended}
use Rattle.papaya_call.specs.declared.write.Claimed.{Claimed}
use Rattle.papaya_call.specs.declared.made.Made.{Made}
use Rattle.papaya_call.specs.declared.write.Write.{Write}
use Rattle.papaya_call.specs.Made.{told as told_made}
use Rattle.papaya_call.specs.Write.{claimed_by, serves}
use Rattle.papaya_call_law.proofs.Makings.{exchanged_leads, numbered_leads, refuses_leads, told_leads, write_then, write_then_is}
use Rattle.papaya_call.specs.Machine.{after, found, goes_as, needed, occupies, replaces}
use Rattle.papaya_call_alone.specs.Rank.{table_of}
use Rattle.papaya_seq.proofs.TableSearch.{IsSeenIn, MayCompare, compared_in, loaded_in, sized_in}

-- an insertion's search is in this table, or has ended there
abbrev pub IsIn : ℕ → State → Type 0
IsIn t (Searching search) = table_of search ≡ t
IsIn t (Writing write) = write.place.table ≡ t
IsIn t (Growing need) = needed need ≡ t
IsIn t (Ended (Occupied n)) = Unit {0}
IsIn t _ = ⊥

-- a write is under way, or was made or refused
abbrev pub HasWritten : State → Type 0
HasWritten (Writing write) = Unit {0}
HasWritten (Counting claimed) = Unit {0}
HasWritten (Noting claimed) = Unit {0}
HasWritten (Ended (Occupied n)) = ⊥
HasWritten (Ended reply) = Unit {0}
HasWritten _ = ⊥

-- it may compare any word
abbrev Anything : ℕ → Type 0
Anything word = Unit {0}

compares : (search : Search) → MayCompare Anything search
compares (Sizing table) = tt
compares (Looking at) = tt
compares (Reading at) = tt
compares (Comparing at word) = tt

module _ (t : ℕ) where
  -- a pair with the key was met
  replaces_in : (kind : Kind) (at : Place) (word : ℕ) → at.table ≡ t → IsIn t (replaces kind at word)
  replaces_in kinds.Empty at word is = is
  replaces_in kinds.Live at word is = is
  replaces_in kinds.Marked at word is = is
  replaces_in kinds.Copied at word is = is
  replaces_in kinds.Buried at word is = is
  replaces_in kinds.Closed at word is = is

  occupies_in : (kind : Kind) (at : Place) (word : ℕ) → at.table ≡ t → IsIn t (occupies kind at word)
  occupies_in kinds.Empty at word is = is
  occupies_in kinds.Live at word is = tt
  occupies_in kinds.Marked at word is = is
  occupies_in kinds.Copied at word is = is
  occupies_in kinds.Buried at word is = is
  occupies_in kinds.Closed at word is = is

  found_in : (replace : Bool) (held : Remembered) (at : Place) (word : ℕ) → at.table ≡ t → IsIn t (found (Insert replace) held at word)
  found_in true held at word is = replaces_in (kind_of word) at word is
  found_in false held at word is = occupies_in (kind_of word) at word is

  -- the state after an insertion's search
  goes_in : (replace : Bool) (mode : ResizeMode) (held : Remembered) (saw : ProbeStep) → IsSeenIn Anything t saw → IsIn t (goes_as (Insert replace) mode held saw)
  goes_in replace mode held (seen.On search) is = is.0
  goes_in replace mode held (seen.Here at word) is = found_in replace held at word is.0
  goes_in replace mode held (seen.Empty at) is = is
  goes_in replace mode held (seen.Over table) is = is

module _ (m : Machine) (made : Made) where
  -- the machine in this state
  abbrev in_state : State → Machine
  in_state state = record m { made = made; state = state }

  -- an insertion that searches a table stays in it, or ends there
  pub searches_in : (replace : Bool) (t : ℕ) (search : Search) (told : Answer) → m.task ≡ Insert replace → table_of search ≡ t
      → IsIn t (after (in_state (Searching search)) told).state
  searches_in replace t search (Word_read word) task
      is = subst (λ (y : Task). IsIn t (goes_as y m.mode m.remembered (search_loaded search m.hash word))) (sym task)
      (goes_in t replace m.mode m.remembered (search_loaded search m.hash word) (loaded_in Anything t search m.hash word (is, compares search) (λ _. tt)))
  searches_in replace t search Exchanged task is = is
  searches_in replace t search (Found_instead word) task is = is
  searches_in replace t search (Yes same) task is = subst (λ (y : Task). IsIn t (goes_as y m.mode m.remembered (search_compared search same)))
      (sym task) (goes_in t replace m.mode m.remembered (search_compared search same) (compared_in Anything t search same (is, compares search)))
  searches_in replace t search (Op kind) task is = is
  searches_in replace t search (Size slots limit) task is = (sized_in Anything t search m.hash slots limit (is, compares search)).0
  searches_in replace t search (Made_number n) task is = is
  searches_in replace t search Ok_done task is = is
  searches_in replace t search (Was_refused refused) task is = is

  -- a write that is not beaten stays one, is made or refused
  pub writes_on : (write : Write) (told : Answer) → ((n word : ℕ) → serves made write ≡ Some n → told ≡ Found_instead word → ⊥)
      → HasWritten (after (in_state (Writing write)) told).state
  writes_on write told unbeaten = subst HasWritten (sym (write_then_is m made write told)) (by_served (serves made write) refl told unbeaten)
    where
      by_served : (served : Option ℕ) → serves made write ≡ served → (told : Answer)
          → ((n word : ℕ) → serves made write ≡ Some n → told ≡ Found_instead word → ⊥) → HasWritten (write_then m served made write told)
      by_served served is (Word_read word) unbeaten = told_leads HasWritten tt write tt served made word
      by_served served is Exchanged unbeaten = exchanged_leads HasWritten write tt
          (λ n. cond_both (write.old == 0) (Counting (claimed_by write n)) (Ended (Replaced (pair_of write.old) n)) HasWritten (λ _. tt) (λ _. tt)) served
      by_served None is (Found_instead word) unbeaten = numbered_leads HasWritten tt (Writing write) tt (told_made made word)
      by_served (Some n) is (Found_instead word) unbeaten = absurd (unbeaten n word is refl)
      by_served served is (Yes same) unbeaten = tt
      by_served served is (Op kind) unbeaten = tt
      by_served served is (Size slots limit) unbeaten = tt
      by_served served is (Made_number n) unbeaten = tt
      by_served served is Ok_done unbeaten = tt
      by_served served is (Was_refused refused) unbeaten = refuses_leads HasWritten write refused tt tt served

  -- the claim is counted, and its hint written
  pub counts_on : (claimed : Claimed) (told : Answer) → HasWritten (after (in_state (Counting claimed)) told).state
  counts_on claimed (Word_read word) = tt
  counts_on claimed Exchanged = tt
  counts_on claimed (Found_instead word) = tt
  counts_on claimed (Yes same) = tt
  counts_on claimed (Op kind) = tt
  counts_on claimed (Size slots limit) = tt
  counts_on claimed (Made_number k) = tt
  counts_on claimed Ok_done = tt
  counts_on claimed (Was_refused refused) = tt

  pub notes_on : (claimed : Claimed) (told : Answer) → HasWritten (after (in_state (Noting claimed)) told).state
  notes_on claimed (Word_read word) = tt
  notes_on claimed Exchanged = tt
  notes_on claimed (Found_instead word) = tt
  notes_on claimed (Yes same) = tt
  notes_on claimed (Op kind) = tt
  notes_on claimed (Size slots limit) = tt
  notes_on claimed (Made_number k) = tt
  notes_on claimed Ok_done = tt
  notes_on claimed (Was_refused refused) = tt
