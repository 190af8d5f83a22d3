-- A fact that holds of each state to which a load or a search may lead holds of the state after it.
use Rattle.std.proofs.Common.{ℕ, ◌==◌, true, false, Option, None, Some}
use Rattle.std.proofs.lemmas.Bool.{cond_both}
use Rattle.papaya_words.specs.Word.{kind_of, pair_of}
use Rattle.papaya_words.specs.declared.resize_mode.ResizeMode.{ResizeMode}
use Rattle.papaya_words.specs.declared.resize_mode.ResizeMode.TheVariants.{Incremental, Blocking}
use Rattle.papaya_words.specs.declared.word.Kind.{Kind}
use Rattle.papaya_words.specs.declared.word.Kind.TheVariants as word_kinds
use Rattle.papaya_call.specs.declared.call.Reply.TheVariants.{Absent, Found, Occupied}
use Rattle.papaya_call.specs.declared.call.Task.{Task}
use Rattle.papaya_call.specs.declared.call.Task.TheVariants.{Get, Insert, RemoveIf, Compute}
use Rattle.papaya_call.specs.declared.compute.Choice.{Choice}
use Rattle.papaya_call.specs.declared.compute.Choice.TheVariants.{Replace as To_replace, Remove as To_remove}
use Rattle.papaya_call.specs.declared.compute.Gap.{Gap}
use Rattle.papaya_call.specs.declared.compute.Gap.TheVariants.{NoRoot, At as At_place, After}
use Rattle.papaya_call.specs.declared.compute.Purpose.{Purpose}
use Rattle.papaya_call.specs.declared.compute.Purpose.TheVariants.{Fill, Replace as For_replace, Again}
use Rattle.papaya_call.specs.declared.compute.Put.{Put}
use Rattle.papaya_call.specs.declared.compute.Remembered.{Remembered}
use Rattle.papaya_call.specs.declared.remove.Removal.{Removal}
use Rattle.papaya_call.specs.declared.search.Place.{Place}
use Rattle.papaya_call.specs.declared.search.Search.{Search}
use Rattle.papaya_call.specs.declared.search.Search.TheVariants.{Sizing}
use Rattle.papaya_call.specs.declared.search.ProbeStep.{ProbeStep}
use Rattle.papaya_call.specs.declared.search.ProbeStep.TheVariants as seen
use Rattle.papaya_call.specs.declared.write.Write.{Write}
use Rattle.papaya_call.specs.declared.machine.Machine.{Machine}
use Rattle.papaya_call.specs.declared.machine.State.{State}
use Rattle.papaya_call.specs.declared.machine.State.TheVariants.{Making, Searching, Writing}
use Rattle.papaya_call.specs.declared.machine.State.TheVariants.{Offering, Showing, Pairing}
use Rattle.papaya_call.specs.declared.machine.State.TheVariants.{Putting, Burying, Leaving}
use Rattle.papaya_call.specs.declared.machine.State.TheVariants.{Growing, Ended}
use Rattle.papaya_call.specs.declared.made.Of.{Of}
use Rattle.papaya_call.specs.Made.{serves_at}
use Rattle.papaya_call.specs.Compute.{fills, lacks, provides, recalled, recalls}
use Rattle.papaya_call.specs.Machine.{absent, at_root, beaten, beaten_as, beaten_by, computes}
use Rattle.papaya_call.specs.Machine.{found, copied_from, goes_as, left, occupies, passes, removes}
use Rattle.papaya_call.specs.Machine.{replaces}
use Rattle.papaya_call.specs.Search.{look as look_seen}
use Rattle.papaya_call.specs.declared.need.Need.{Need}
use Rattle.papaya_call.specs.declared.need.Need.TheVariants.{Room, Pair as Pair_at}

-- it holds of each state that a load or a search leads to
pub record HoldsOfLeads (Holds : State → Type 0) : Type 0 where
  pub ended_absent : Holds (Ended Absent)
  pub ended_found : (n : ℕ) → Holds (Ended (Found n))
  pub ended_occupied : (n : ℕ) → Holds (Ended (Occupied n))
  pub making : Holds Making
  pub searching : (search : Search) → Holds (Searching search)
  pub writing : (write : Write) → Holds (Writing write)
  pub offering : (gap : Gap) → Holds (Offering gap)
  pub showing : (removal : Removal) → Holds (Showing removal)
  pub pairing : (purpose : Purpose) → Holds (Pairing purpose)
  pub putting : (put : Put) → Holds (Putting put)
  pub burying : (removal : Removal) → Holds (Burying removal)
  pub leaving : (t : ℕ) → Holds (Leaving t)
  pub growing : (need : Need) → Holds (Growing need)

-- a property of the reply `Occupied`, and of the state that needs the next table, holds after an
-- insertion that replaces nothing met its key's pair
pub occupies_leads : (Holds : State → Type 0) (kd : Kind) (at : Place) (word : ℕ) → Holds (Ended (Occupied (pair_of word))) → Holds (copied_from at)
    → Holds (occupies kd at word)
occupies_leads Holds word_kinds.Empty at word answered needed = needed
occupies_leads Holds word_kinds.Live at word answered needed = answered
occupies_leads Holds word_kinds.Marked at word answered needed = needed
occupies_leads Holds word_kinds.Copied at word answered needed = needed
occupies_leads Holds word_kinds.Buried at word answered needed = needed
occupies_leads Holds word_kinds.Closed at word answered needed = needed

module _ (Holds : State → Type 0) (each : HoldsOfLeads Holds) where
  -- a pair for an absent key
  pub fills_leads : (gap : Gap) (n : ℕ) → Holds (fills gap n)
  fills_leads NoRoot n = each.making
  fills_leads (At_place at) n = each.putting (record { write = record { place = at; old = 0 }; pair = n })
  fills_leads (After t) n = each.growing (Room t)

  -- a pair, by the purpose for which it was made
  pub provides_leads : (purpose : Purpose) (n : ℕ) → Holds (provides purpose n)
  provides_leads (Fill gap) n = fills_leads gap n
  provides_leads (For_replace write) n = each.putting (record { write = write; pair = n })
  provides_leads (Again write) n = each.putting (record { write = write; pair = n })

  -- a compute whose key is absent
  lacks_leads : (fill : Option ℕ) (gap : Gap) → Holds (lacks fill gap)
  lacks_leads None gap = each.offering gap
  lacks_leads (Some n) gap = fills_leads gap n

  -- a call whose key is absent
  pub absent_leads : (task : Task) (fill : Option ℕ) (gap : Gap) → Holds (absent task fill gap)
  absent_leads Get fill gap = each.ended_absent
  absent_leads (Insert replace) fill gap = each.ended_absent
  absent_leads RemoveIf fill gap = each.ended_absent
  absent_leads Compute fill gap = lacks_leads fill gap

  -- the number of a root
  pub root_leads : (task : Task) (fill : Option ℕ) (word : ℕ) → Holds (at_root task fill word)
  root_leads Get fill word = cond_both (word == 0) (absent Get fill NoRoot) (Searching (Sizing word)) Holds (λ _. absent_leads Get fill NoRoot)
      (λ _. each.searching (Sizing word))
  root_leads RemoveIf fill word = cond_both (word == 0) (absent RemoveIf fill NoRoot) (Searching (Sizing word)) Holds
      (λ _. absent_leads RemoveIf fill NoRoot) (λ _. each.searching (Sizing word))
  root_leads Compute fill word = cond_both (word == 0) (absent Compute fill NoRoot) (Searching (Sizing word)) Holds
      (λ _. absent_leads Compute fill NoRoot) (λ _. each.searching (Sizing word))
  root_leads (Insert replace) fill word = cond_both (word == 0) Making (Searching (Sizing word)) Holds (λ _. each.making) (λ _. each.searching (Sizing word))

  -- the number of a next table
  pub left_leads : (task : Task) (fill : Option ℕ) (t word : ℕ) → Holds (left task fill t word)
  left_leads task fill t word = cond_both (word == 0) (absent task fill (After t)) (Searching (Sizing word)) Holds
      (λ _. absent_leads task fill (After t)) (λ _. each.searching (Sizing word))

  -- a table that was passed
  passes_leads : (task : Task) (mode : ResizeMode) (fill : Option ℕ) (t : ℕ) → Holds (passes task mode fill t)
  passes_leads task (Incremental chunk) fill t = each.leaving t
  passes_leads task Blocking fill t = absent_leads task fill (After t)

  -- a pair that an insertion replaces
  replaces_leads : (kd : Kind) (at : Place) (word : ℕ) → Holds (replaces kd at word)
  replaces_leads word_kinds.Empty at word = each.growing (Pair_at at.table at.probe.i)
  replaces_leads word_kinds.Live at word = each.writing (record { place = at; old = word })
  replaces_leads word_kinds.Marked at word = each.growing (Pair_at at.table at.probe.i)
  replaces_leads word_kinds.Copied at word = each.growing (Pair_at at.table at.probe.i)
  replaces_leads word_kinds.Buried at word = each.growing (Pair_at at.table at.probe.i)
  replaces_leads word_kinds.Closed at word = each.growing (Pair_at at.table at.probe.i)

  -- a pair that a removal calls its closure with
  removes_leads : (kd : Kind) (at : Place) (word : ℕ) → Holds (removes kd at word)
  removes_leads word_kinds.Empty at word = each.growing (Pair_at at.table at.probe.i)
  removes_leads word_kinds.Live at word = each.showing (record { place = at; word = word })
  removes_leads word_kinds.Marked at word = each.growing (Pair_at at.table at.probe.i)
  removes_leads word_kinds.Copied at word = each.growing (Pair_at at.table at.probe.i)
  removes_leads word_kinds.Buried at word = each.growing (Pair_at at.table at.probe.i)
  removes_leads word_kinds.Closed at word = each.growing (Pair_at at.table at.probe.i)

  -- a pair for which one was made before
  recalled_leads : (new : Of) (at : Place) (word : ℕ) → Holds (recalled new at word)
  recalled_leads new at word =
      cond_both (serves_at new at.table at.probe.i) (Putting (record { write = record { place = at; old = word }; pair = new.pair }))
      (Pairing (Again (record { place = at; old = word }))) Holds
      (λ _. each.putting (record { write = record { place = at; old = word }; pair = new.pair }))
      (λ _. each.pairing (Again (record { place = at; old = word })))

  -- a pair for which a compute may have a result
  recalls_leads : (choice : Option Choice) (at : Place) (word n : ℕ) → Holds (recalls choice at word n)
  recalls_leads None at word n = each.showing (record { place = at; word = word })
  recalls_leads (Some (To_replace old new)) at word n =
      cond_both (old == n) (recalled new at word) (Showing (record { place = at; word = word })) Holds
      (λ _. recalled_leads new at word)
      (λ _. each.showing (record { place = at; word = word }))
  recalls_leads (Some (To_remove old)) at word n =
      cond_both (old == n) (Burying (record { place = at; word = word })) (Showing (record { place = at; word = word })) Holds
      (λ _. each.burying (record { place = at; word = word }))
      (λ _. each.showing (record { place = at; word = word }))

  -- a pair that a compute meets
  computes_leads : (kd : Kind) (held : Remembered) (at : Place) (word : ℕ) → Holds (computes kd held at word)
  computes_leads word_kinds.Empty held at word = each.growing (Pair_at at.table at.probe.i)
  computes_leads word_kinds.Live held at word = recalls_leads held.choice at word (pair_of word)
  computes_leads word_kinds.Marked held at word = each.growing (Pair_at at.table at.probe.i)
  computes_leads word_kinds.Copied held at word = each.growing (Pair_at at.table at.probe.i)
  computes_leads word_kinds.Buried held at word = each.growing (Pair_at at.table at.probe.i)
  computes_leads word_kinds.Closed held at word = each.growing (Pair_at at.table at.probe.i)

  -- a pair with a matching key
  found_leads : (task : Task) (held : Remembered) (at : Place) (word : ℕ) → Holds (found task held at word)
  found_leads Get held at word = each.ended_found (pair_of word)
  found_leads (Insert false) held at word = occupies_leads Holds (kind_of word) at word (each.ended_occupied (pair_of word))
      (each.growing (Pair_at at.table at.probe.i))
  found_leads (Insert true) held at word = replaces_leads (kind_of word) at word
  found_leads RemoveIf held at word = removes_leads (kind_of word) at word
  found_leads Compute held at word = computes_leads (kind_of word) held at word

  -- the outcome of a probe
  pub goes_leads : (task : Task) (mode : ResizeMode) (held : Remembered) (s : ProbeStep) → Holds (goes_as task mode held s)
  goes_leads task mode held (seen.On search) = each.searching search
  goes_leads task mode held (seen.Here at word) = found_leads task held at word
  goes_leads Get mode held (seen.Empty at) = absent_leads Get held.fill (At_place at)
  goes_leads Get mode held (seen.Over t) = passes_leads Get mode held.fill t
  goes_leads RemoveIf mode held (seen.Empty at) = absent_leads RemoveIf held.fill (At_place at)
  goes_leads RemoveIf mode held (seen.Over t) = passes_leads RemoveIf mode held.fill t
  goes_leads Compute mode held (seen.Empty at) = absent_leads Compute held.fill (At_place at)
  goes_leads Compute mode held (seen.Over t) = passes_leads Compute mode held.fill t
  goes_leads (Insert replace) mode held (seen.Empty at) = each.writing (record { place = at; old = 0 })
  goes_leads (Insert replace) mode held (seen.Over t) = each.growing (Room t)

  -- a word that a deletion found in place of the expected one, by its kind
  beaten_by_leads : (kd : Kind) (m : Machine) (at : Place) (word : ℕ) → Holds (beaten_by kd m at word)
  beaten_by_leads word_kinds.Buried m at word = each.ended_absent
  beaten_by_leads word_kinds.Empty m at word = goes_leads m.task m.mode m.remembered (look_seen at word)
  beaten_by_leads word_kinds.Live m at word = goes_leads m.task m.mode m.remembered (look_seen at word)
  beaten_by_leads word_kinds.Marked m at word = goes_leads m.task m.mode m.remembered (look_seen at word)
  beaten_by_leads word_kinds.Copied m at word = goes_leads m.task m.mode m.remembered (look_seen at word)
  beaten_by_leads word_kinds.Closed m at word = goes_leads m.task m.mode m.remembered (look_seen at word)

  -- and by the task
  beaten_as_leads : (task : Task) (m : Machine) (at : Place) (word : ℕ) → Holds (beaten_as task m at word)
  beaten_as_leads Get m at word = beaten_by_leads (kind_of word) m at word
  beaten_as_leads (Insert replace) m at word = beaten_by_leads (kind_of word) m at word
  beaten_as_leads RemoveIf m at word = beaten_by_leads (kind_of word) m at word
  beaten_as_leads Compute m at word = goes_leads m.task m.mode m.remembered (look_seen at word)

  -- for the whole machine
  pub beaten_leads : (m : Machine) (removal : Removal) (word : ℕ) → Holds (beaten m removal word)
  beaten_leads m removal word = beaten_as_leads m.task m removal.place word
