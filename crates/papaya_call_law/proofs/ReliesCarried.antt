-- The facts that a machine relies on, by their parts: if each part carries over to another state,
-- all of them do.
use Rattle.std.proofs.Common.{◌≡◌, inl, inr, ⊎_elim, ℕ, ◌<◌, ◌==◌, MatchBool, MatchOption, Bool, true, false, Option, None, Some, List, sym, ap, ◌∙◌, subst}
use Rattle.papaya_call.specs.declared.call.Reply.{Reply}
use Rattle.papaya_call.specs.declared.call.Reply.TheVariants.{Absent, Found, Inserted, Replaced}
use Rattle.papaya_call.specs.declared.call.Reply.TheVariants.{Occupied, Removed, Kept, Aborted}
use Rattle.papaya_call.specs.declared.call.Reply.TheVariants.{Done as Reply_done}
use Rattle.papaya_call.specs.declared.call.Reply.TheVariants.{Refused as Reply_refused}
use Rattle.papaya_call.specs.declared.call.Task.{Task}
use Rattle.papaya_call.specs.declared.call.Task.TheVariants.{Get, Insert, RemoveIf, Compute}
use Rattle.papaya_call.specs.declared.compute.Choice.{Choice}
use Rattle.papaya_call.specs.declared.compute.Choice.TheVariants.{Replace as To_replace, Remove as To_remove}
use Rattle.papaya_call.specs.declared.compute.Gap.{Gap}
use Rattle.papaya_call.specs.declared.compute.Gap.TheVariants.{NoRoot, At as At_place, After}
use Rattle.papaya_call.specs.declared.compute.Purpose.{Purpose}
use Rattle.papaya_call.specs.declared.compute.Purpose.TheVariants.{Fill, Replace as For_replace, Again}
use Rattle.papaya_call.specs.declared.compute.Remembered.{Remembered}
use Rattle.papaya_call.specs.declared.remove.Removal.{Removal}
use Rattle.papaya_call.specs.declared.search.Place.{Place}
use Rattle.papaya_call.specs.declared.search.Search.{Search}
use Rattle.papaya_call.specs.declared.search.Search.TheVariants.{Sizing, Looking, Reading, Comparing}
use Rattle.papaya_call.specs.declared.made.Made.{Made}
use Rattle.papaya_call.specs.declared.made.Number.{Number}
use Rattle.papaya_call.specs.declared.made.Number.TheVariants.{Wanted, Free, Taken}
use Rattle.papaya_call.specs.declared.made.Of.{Of}
use Rattle.papaya_call.specs.declared.write.Write.{Write}
use Rattle.papaya_call.specs.declared.machine.State.{State as Stage}
use Rattle.papaya_call.specs.declared.machine.State.TheVariants.{AtRoot, Making, Opening, Searching}
use Rattle.papaya_call.specs.declared.machine.State.TheVariants.{Writing, Offering, Showing}
use Rattle.papaya_call.specs.declared.machine.State.TheVariants.{Pairing, Putting, Burying}
use Rattle.papaya_call.specs.declared.machine.State.TheVariants.{Counting, Noting, Uncounting}
use Rattle.papaya_call.specs.declared.machine.State.TheVariants.{Leaving, Growing, Ended}
use Rattle.papaya_call.specs.declared.machine.Machine.{Machine}
use Rattle.papaya_words_law.specs.Exchange.{Setting, Exchange}
use Rattle.papaya_words_law.specs.View.{look, IsPassed}
use Rattle.papaya_words_law.specs.Code.{Coding}
use Rattle.papaya_words_law.specs.Later.{IsOfKey}
use Rattle.papaya_call_law.specs.TrueAnswers.{LoadedPairs}
use Rattle.papaya_call_law.specs.Relies.{now, IsModeOf, HasComeTo, IsAt, HasMet, MayRemove}
use Rattle.papaya_call_law.specs.Relies.{MayWrite, WasAtMoment, IsOwnPair, IsPairAt, IsPairFor}
use Rattle.papaya_call_law.specs.Relies.{ReliesWriting, ReliesNumber, ReliesFill, ReliesOf}
use Rattle.papaya_call_law.specs.Relies.{ReliesChoice, ReliesLoaded, ReliesGap, ReliesPurpose}
use Rattle.papaya_call_law.specs.Relies.{ReliesSearch, ReliesLeaving, ReliesNeed, HadPair, IsReply}
use Rattle.papaya_call_law.specs.Relies.{ReliesStage, Relies, HasClaimed}
use Rattle.papaya_call.specs.declared.need.Need.{Need}
use Rattle.papaya_call.specs.declared.write.Claimed.{Claimed}

-- each part carries over from one setting, and the exchanges of a call so far, to another setting
-- and more exchanges
pub record AreCarried {K P : Type 0} (g g' : Setting K P) (c : Coding K P) (begun since since' : List (Exchange P)) (k : K) (loaded : LoadedPairs P) :
    Type 0 where
  pub mode : g'.blocking ≡ g.blocking
  pub most : g'.most ≡ g.most
  pub key : (p : P) → g'.key p ≡ g.key p
  pub same : (k k' : K) → g'.same k k' ≡ g.same k k'
  pub moment : (value : Option P) → WasAtMoment g c begun since k value → WasAtMoment g' c begun since' k value
  pub come : (t : ℕ) → HasComeTo g c begun since k t → HasComeTo g' c begun since' k t
  pub stands : (at : Place) → IsAt g c begun since k at → IsAt g' c begun since' k at
  pub met : (at : Place) (word : ℕ) (p : P) → HasMet g c begun since k at word p → HasMet g' c begun since' k at word p
  pub of_key : (t x : ℕ) (key : K) → IsOfKey g ((now g c begun since k).slot t x) key → IsOfKey g' ((now g' c begun since' k).slot t x) key
  pub passed : (t : ℕ) → HasComeTo g c begun since k t → IsPassed g.places (look g (now g c begun since k) k) t
      → IsPassed g'.places (look g' (now g' c begun since' k) k) t
  pub leaving : (task : Task) (t : ℕ) → ReliesLeaving g c begun since k task t → ReliesLeaving g' c begun since' k task t
  pub need : (need : Need) → ReliesNeed g c begun since k need → ReliesNeed g' c begun since' k need
  pub claimed : (claimed : Claimed) → HasClaimed g c begun since k loaded claimed → HasClaimed g' c begun since' k loaded claimed

module _ {K P : Type 0} (g g' : Setting K P) (c : Coding K P) (begun since since' : List (Exchange P)) (k : K) (loaded : LoadedPairs P)
    (carried : AreCarried g g' c begun since since' k loaded) where
  -- the search
  search_carried : (search : Search) → ReliesSearch g c begun since k loaded search → ReliesSearch g' c begun since' k loaded search
  search_carried (Sizing t) r = carried.come t r
  search_carried (Looking at) r = carried.stands at r
  search_carried (Reading at) r = carried.stands at r
  search_carried (Comparing at word) r = (r.0, r.1, carried.met at word r.0 r.2)

  -- the gap where the key is absent
  gap_carried : (gap : Gap) → ReliesGap g c begun since k gap → ReliesGap g' c begun since' k gap
  gap_carried NoRoot r = r
  gap_carried (At_place at) r = carried.stands at r
  gap_carried (After t) r = (carried.come t r.0, carried.passed t r.0 r.1)

  -- the removal of a pair
  removal_carried : (removal : Removal) → MayRemove g c begun since k loaded removal → MayRemove g' c begun since' k loaded removal
  removal_carried removal r = record {
    pair = r.pair;
    last = r.last;
    met = carried.met removal.place removal.word r.pair r.met;
    live = r.live;
    same = same_carried r.pair ∙ r.same;
  }
    where
      same_carried : (p : P) → g'.same k (g'.key p) ≡ g.same k (g.key p)
      same_carried p = carried.same k (g'.key p) ∙ ap (λ key. g.same k key) (carried.key p)

  -- the word that a write replaces
  write_carried : (replace : Bool) (write : Write) → MayWrite g c begun since k loaded replace write → MayWrite g' c begun since' k loaded replace write
  write_carried replace write r = record {
    stands = carried.stands write.place r.stands;
    old = ⊎_elim (λ e. inl e) (λ h. inr (h.0, removal_carried (record { place = write.place; word = write.old }) h.1)) r.old;
  }

  -- the write of a task
  writing_carried : (task : Task) (write : Write) → ReliesWriting g c begun since k loaded task write → ReliesWriting g' c begun since' k loaded task write
  writing_carried Get write r = r
  writing_carried (Insert replace) write r = write_carried replace write r
  writing_carried RemoveIf write r = r
  writing_carried Compute write r = r

  -- the purpose for which a pair is made
  purpose_carried : (purpose : Purpose) → ReliesPurpose g c begun since k loaded purpose → ReliesPurpose g' c begun since' k loaded purpose
  purpose_carried (Fill gap) r = gap_carried gap r
  purpose_carried (For_replace write) r = removal_carried (record { place = write.place; word = write.old }) r
  purpose_carried (Again write) r = removal_carried (record { place = write.place; word = write.old }) r

  -- the call's own pairs
  own_carried : (n : ℕ) → IsOwnPair g c begun since k loaded n → IsOwnPair g' c begun since' k loaded n
  own_carried n r = (r.0, r.1, r.2, carried.key r.0 ∙ r.3)

  -- and those of a key that was met in a slot
  at_carried : (n t x : ℕ) → IsPairAt g c begun since k loaded n t x → IsPairAt g' c begun since' k loaded n t x
  at_carried n t x r = (r.0, r.1, r.2, subst (IsOfKey g' ((now g' c begun since' k).slot t x)) (sym (carried.key r.0)) (carried.of_key t x (g.key r.0) r.3))

  -- a pair that was made for a place
  for_carried : (write : Write) (n : ℕ) → IsPairFor g c begun since k loaded write n → IsPairFor g' c begun since' k loaded write n
  for_carried write n r = by_old (write.old == 0) r
    where
      by_old : (b : Bool) → MatchBool b (IsOwnPair g c begun since k loaded n) (IsPairAt g c begun since k loaded n write.place.table write.place.probe.i)
          → MatchBool b (IsOwnPair g' c begun since' k loaded n) (IsPairAt g' c begun since' k loaded n write.place.table write.place.probe.i)
      by_old true h = own_carried n h
      by_old false h = at_carried n write.place.table write.place.probe.i h

  -- the map had the pair
  had_carried : (n : ℕ) → HadPair g c begun since k n → HadPair g' c begun since' k n
  had_carried n r = (r.0, r.1, carried.moment (Some r.0) r.2)

  -- a reply still fits
  reply_carried : (task : Task) (reply : Reply) → IsReply g c begun since k loaded task reply → IsReply g' c begun since' k loaded task reply
  reply_carried Get Absent r = carried.moment None r
  reply_carried Get (Found n) r = had_carried n r
  reply_carried Get (Inserted n) r = r
  reply_carried Get (Replaced m n) r = r
  reply_carried Get (Occupied n) r = r
  reply_carried Get (Removed n) r = r
  reply_carried Get (Kept n) r = r
  reply_carried Get (Aborted t) r = r
  reply_carried Get Reply_done r = absurd r
  reply_carried Get (Reply_refused refused) r = r
  reply_carried (Insert replace) Absent r = r
  reply_carried (Insert replace) (Found n) r = r
  reply_carried (Insert replace) (Inserted n) r = own_carried n r
  reply_carried (Insert true) (Replaced m n) r = r
  reply_carried (Insert false) (Replaced m n) r = r
  reply_carried (Insert true) (Occupied n) r = r
  reply_carried (Insert false) (Occupied n) r = had_carried n r
  reply_carried (Insert replace) (Removed n) r = r
  reply_carried (Insert replace) (Kept n) r = r
  reply_carried (Insert replace) (Aborted t) r = r
  reply_carried (Insert replace) Reply_done r = absurd r
  reply_carried (Insert replace) (Reply_refused refused) r = r
  reply_carried RemoveIf Absent r = carried.moment None r
  reply_carried RemoveIf (Found n) r = r
  reply_carried RemoveIf (Inserted n) r = r
  reply_carried RemoveIf (Replaced m n) r = r
  reply_carried RemoveIf (Occupied n) r = r
  reply_carried RemoveIf (Removed n) r = r
  reply_carried RemoveIf (Kept n) r = had_carried n r
  reply_carried RemoveIf (Aborted t) r = r
  reply_carried RemoveIf Reply_done r = absurd r
  reply_carried RemoveIf (Reply_refused refused) r = r
  reply_carried Compute Absent r = r
  reply_carried Compute (Found n) r = r
  reply_carried Compute (Inserted n) r = own_carried n r
  reply_carried Compute (Replaced m n) r = r
  reply_carried Compute (Occupied n) r = r
  reply_carried Compute (Removed n) r = r
  reply_carried Compute (Kept n) r = r
  reply_carried Compute (Aborted t) r = r
  reply_carried Compute Reply_done r = absurd r
  reply_carried Compute (Reply_refused refused) r = r

  -- each stage
  stage_carried : (task : Task) (stage : Stage) → ReliesStage g c begun since k loaded task stage → ReliesStage g' c begun since' k loaded task stage
  stage_carried task AtRoot r = r
  stage_carried task Making r = r
  stage_carried task (Opening t) r = r
  stage_carried task (Searching search) r = search_carried search r
  stage_carried task (Writing write) r = writing_carried task write r
  stage_carried task (Offering gap) r = (r.0, gap_carried gap r.1, carried.moment None r.2)
  stage_carried task (Showing removal) r = (r.0, removal_carried removal r.1)
  stage_carried task (Pairing purpose) r = (r.0, purpose_carried purpose r.1)
  stage_carried task (Putting put) r = (r.0, write_carried true put.write r.1, for_carried put.write put.pair r.2)
  stage_carried task (Burying removal) r = (r.0, removal_carried removal r.1)
  stage_carried task (Counting claimed) r = (r.0, carried.claimed claimed r.1)
  stage_carried task (Noting claimed) r = (r.0, carried.claimed claimed r.1)
  stage_carried task (Uncounting n) r = r
  stage_carried task (Leaving t) r = carried.leaving task t r
  stage_carried task (Growing need) r = (r.0, carried.need need r.1)
  stage_carried task (Ended reply) r = reply_carried task reply r

  -- a number that is free
  number_carried : (number : Number) → ReliesNumber g c begun since k number → ReliesNumber g' c begun since' k number
  number_carried Wanted r = r
  number_carried (Free count) r = subst (λ o. MatchOption o (Unit {0}) (λ most. count < most)) (sym carried.most) r
  number_carried Taken r = r

  -- the pair for an absent key
  fill_carried : (fill : Option ℕ) → ReliesFill g c begun since k loaded fill → ReliesFill g' c begun since' k loaded fill
  fill_carried None r = r
  fill_carried (Some n) r = own_carried n r

  -- the one for a slot
  of_carried : (of : Option Of) → ReliesOf g c begun since k loaded of → ReliesOf g' c begun since' k loaded of
  of_carried None r = r
  of_carried (Some of) r = at_carried of.pair of.table of.index r

  -- the choice of a closure
  choice_carried : (choice : Option Choice) → ReliesChoice g c begun since k loaded choice → ReliesChoice g' c begun since' k loaded choice
  choice_carried None r = r
  choice_carried (Some (To_replace old new)) r = of_carried (Some new) r
  choice_carried (Some (To_remove old)) r = r

  -- the pairs that the call made have keys equal to its key
  loaded_carried : (made : Made) (held : Remembered) → ReliesLoaded g c begun since k loaded made held → ReliesLoaded g' c begun since' k loaded made held
  loaded_carried made held r = record {
    keys = λ q one. (carried.same k (g'.key q) ∙ ap (λ key. g.same k key) (carried.key q)) ∙ r.keys q one;
    limit = r.limit ∙ sym carried.most;
    number_is = number_carried made.number r.number_is;
    own_is = fill_carried made.own r.own_is;
    of_is = of_carried made.of r.of_is;
    fill_is = fill_carried held.fill r.fill_is;
    choice_is = choice_carried held.choice r.choice_is;
  }

  -- all of them
  pub relies_carried : (m : Machine) → Relies g c begun since k m loaded → Relies g' c begun since' k m loaded
  relies_carried m r = record {
    hash = r.hash;
    mode = subst (IsModeOf m.mode) (sym carried.mode) r.mode;
    made = loaded_carried m.made m.remembered
        r.made;
    stage = stage_carried m.task m.state r.stage;
  }
