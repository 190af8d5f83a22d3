-- The fast path of a removal: its ghost machine is in the state in which the lookup's search met
-- the pair.
use Rattle.std.proofs.Common.{◌≡◌, inl, inr, ℕ, zero, suc, ◌<◌, ◌==◌, Bool, true, false, MatchBool}
use Rattle.std.proofs.Common.{Option, None, Some, Result, Ok, Err, List, [], ◌∷◌, ◌++◌, append-nil}
use Rattle.std.proofs.Common.{length, refl, sym, ap, ◌∙◌, subst, arith}
use Rattle.std.specs.Cmp.{IsEquivalence}
use mathlib.Core.List.{IsPrefix}
use denote.Bor.{Bor}
use Rattle.logbook.specs.Pages.{Book}
use Rattle.papaya_words.specs.Word.{kind_of, pair_of}
use Rattle.papaya_words.specs.Mode.{IsChunked}
use Rattle.papaya_words.specs.declared.refused.Refused.{Refused}
use Rattle.papaya_words.specs.declared.resize_mode.ResizeMode.{ResizeMode}
use Rattle.papaya_words.specs.declared.word.Kind.TheVariants.{Live}
use Rattle.papaya_call.specs.declared.ask.Answer.TheVariants.{Exchanged, Found as Found_instead, Ok as Ok_done, Yes}
use Rattle.papaya_call.specs.declared.ask.At.TheVariants.{Slot}
use Rattle.papaya_call.specs.declared.ask.StepKind.TheVariants as steps
use Rattle.papaya_call.specs.declared.call.Reply.TheVariants.{Kept, Removed}
use Rattle.papaya_call.specs.declared.call.Task.TheVariants.{RemoveIf}
use Rattle.papaya_call.specs.declared.machine.State.{State}
use Rattle.papaya_call.specs.declared.machine.State.TheVariants.{Burying, Showing, Uncounting}
use Rattle.papaya_call.specs.declared.remove.Removal.{Removal as Shown}
use Rattle.papaya_call.specs.Machine.{IsValidState, started}
use Rattle.papaya_call.specs.Remove.{grave_word}
use Rattle.papaya_call.specs.declared.chain.ask.Answer.TheVariants as answers
use Rattle.papaya_call.specs.declared.chain.machine.Machine.{Machine}
use Rattle.papaya_call.specs.declared.chain.machine.Phase.TheVariants.{Calling}
use Rattle.papaya_call.specs.ChainMachine.{IsValid, after}
use Rattle.papaya_call_law.specs.Relies.{change_in}
use Rattle.papaya_call_law.specs.Says.{Agrees, ActsOn}
use Rattle.papaya_call_law.specs.TrueAnswers.{or_last}
use Rattle.papaya_map_book.specs.declared.rule.entry.Begun.{Begun}
use Rattle.papaya_map_book.specs.declared.rule.entry.Event.{Event}
use Rattle.papaya_map_book.specs.declared.rule.entry.Named.TheVariants as names
use Rattle.papaya_map_book.specs.declared.rule.own.CapacityCause.{CapacityCause}
use Rattle.papaya_map_book.specs.declared.rule.own.OwnSteps.{OwnSteps}
use Rattle.papaya_map_book.specs.Calls.{IsSlotTried, IsTable}
use Rattle.papaya_map_book.specs.Hashes.{hash_of}
use Rattle.papaya_map_book.specs.Logs.{Member, Stored, exchanges_of}
use Rattle.papaya_map_book.specs.Plays.{CanExchange}
use Rattle.papaya_map_book.specs.Sheets.{Sheet}
use Rattle.papaya_map_lookup.specs.History.{Change, history_of}
use Rattle.papaya_map_lookup.specs.Lookups.{HasHit}
use Rattle.papaya_map_lookup.specs.declared.lookup.Met.{Met}
use Rattle.papaya_map_lookup.proofs.Readings.{IsQuery, fed}
use Rattle.papaya_map_change.specs.declared.removal.Removal.{Removal}
use Rattle.papaya_map_change.specs.Changing.{HasChanged, IsCalling}
use Rattle.papaya_map_change.specs.RemovalAnswers.{HasCalled, IsJudged, IsRemovalBy}
use Rattle.papaya_map_change.specs.ClosureCalls.{AllArguments, AreOf, HasReturned, WasHeld}
use Rattle.papaya_call.specs.Made.{IsLimit, IsNumber, wanted}
use Rattle.papaya_call_law.proofs.ReliesLearnPairs.{wanted_relies}
use Rattle.papaya_map_lookup.specs.Lookups.{coding_for, setting_for}
use Rattle.papaya_map_change.proofs.Changing.{mode_is}
use Rattle.papaya_map_change.proofs.Removing.{Removing, counted_on, bury_can, bury_held, bury_on, shown_on}
use Rattle.papaya_map_change.proofs.RemovingReplies.{answered, removal_since}
use Rattle.papaya_map_change.proofs.ClosureCalls.{all_shown, held_wider, shown_each}

-- the machine of a removal in this state
abbrev pub removal_at : (hash : ℕ) → ResizeMode → (limit : Option ℕ) → State → Machine
removal_at hash mode limit state = record {
  call = record (started RemoveIf hash mode 1 limit) { state = state };
  number = 0;
  helped = false;
  phase = Calling;
}

-- a number that is yet to be taken fits
wanted_stands : (limit : Option ℕ) → IsNumber (wanted limit)
wanted_stands None = tt
wanted_stands (Some most) = tt

-- it lacked no room so far
abbrev nothing_given : OwnSteps CapacityCause
nothing_given = record { marker = record {}; done = [] }

-- a live word is no empty one
live_some : (word : ℕ) → kind_of word ≡ Live → 0 < word
live_some zero live = absurd (cc live)
live_some (suc n) live = omega arith

module _ {K V S H F : Type 0} (eq : K → K → Bool) (input : K → List (List ℕ)) (build : S → H) (write : H → List ℕ → H) (finish : H → ℕ)
    (classes : IsEquivalence eq) (respects : (x y : K) → eq x y ≡ true → input x ≡ input y)
    (b : Begun K V S) (name : Book) (matches : K → Bool) (query : List (List ℕ)) (lawful : IsQuery eq input matches query)
    (judges : F → Stored K V → Bool → F → Type 0) (first : F) (begun log : List (Event K V S)) where
  abbrev hash : S → K → ℕ
  hash = hash_of input build write finish

  abbrev by : ℕ
  by = fed eq input build write finish classes respects b matches query lawful

  module _ (seen : IsPrefix begun log) (chunked : IsChunked b.mode) (limited : IsLimit b.limit) (lent : Bor Sheet) (met : Met K V)
      (hit : HasHit eq hash b name matches by (exchanges_of begun) log lent.now met) (live : kind_of met.word ≡ Live) where
    abbrev p : Stored K V
    p = met.stored

    abbrev place : Shown
    place = record { place = met.place; word = met.word }

    abbrev Under : State → Type 0
    Under state = IsCalling eq hash b name matches by None begun log (removal_at by b.mode b.limit state) (Some lent) (Some p) None [] None None None

    -- it is to call the closure with the pair
    calling : Under (Showing place)
    calling = record {
      lawful = hit.lawful;
      seen = seen;
      since = hit.since;
      is = hit.is;
      relies = record {
        cut = λ x. refl;
        call = record {
          hash = refl;
          mode = mode_is b.mode;
          made = record {
            keys = λ q none. absurd none;
            limit = refl;
            number_is = wanted_relies (setting_for eq hash b matches by log)
                (coding_for hash b.hasher by) (exchanges_of begun) hit.since None b.limit;
            own_is = tt;
            of_is = tt;
            fill_is = tt;
            choice_is = tt;
          };
          stage = (tt, record { pair = p; last = refl; met = hit.met; live = live; same = hit.same });
        };
        phase = tt;
      };
      number = met.place.table;
      at_table = λ still. refl;
      holds_table = hit.holds;
      last_placed = hit.placed;
      kept_placed = tt;
      made_placed = λ q none. absurd none;
      taken_placed = tt;
      changed = λ change e. absurd (cc e);
      brings = λ n e. absurd e;
      words = λ behind n chunks e. absurd (cc e);
      counts = tt;
    }

    -- the removal with this machine, whose closure was called with this pair, and which took out
    -- this one
    abbrev pub removal_with : Machine → (shown taken : Option (Stored K V)) → Removal K V S H
    removal_with m shown taken = record {
      call = record { machine = m; table = Some lent; copier = record { last = Some p; kept = None; fresh = None; given = nothing_given }; taken = taken; put = None };
      shown = shown;
    }

    abbrev showing : Removal K V S H
    showing = removal_with (removal_at by b.mode b.limit (Showing place)) None None

    abbrev Goes : List (Event K V S) → Removal K V S H → F → Type 0
    Goes log' x f = Removing eq input build write finish classes respects b name matches query lawful judges first begun log' x f

    nothing_said : {n : ℕ} {agrees : Bool} → ActsOn showing.call.machine.call (Agrees n agrees) → ⊥
    nothing_said (inl e) = cc e
    nothing_said (inr (inl e)) = cc e
    nothing_said (inr (inr e)) = cc e

    shows : Goes log showing first
    shows = record {
      calling = calling;
      task_is = refl;
      words = live_some met.word live;
      shown_placed = tt;
      said = [];
      has_said = refl;
      held = tt;
      stood = λ n agrees stands. absurd (nothing_said stands);
      refuses = λ cause e. absurd (cc e);
      crowded = λ e. absurd (cc e);
    }

    valid : (state : State) → IsValidState RemoveIf state → IsValid (removal_at by b.mode b.limit state)
    valid state stands = record {
      call = record {
        made = record { limit = limited; number = wanted_stands b.limit; own = tt; of = tt };
        remembered = record { fill = tt; choice = tt };
        state = stands;
      };
      chunked = chunked;
      initial = (0, refl);
      phase = tt;
    }

    -- the closure returned this for the pair
    module _ (agreed : Bool) (g : F) (judged : judges first p agreed g) where
      abbrev asked : Removal K V S H
      asked = removal_with (after (removal_at by b.mode b.limit (Showing place)) (answers.Call (Yes agreed))) (Some p) None

      said : Goes log asked g
      said = (shown_on eq input build write finish classes respects b name matches query lawful judges first begun log showing first shows
          (valid (Showing place) (tt, hit.within)) (pair_of met.word) p agreed g refl judged refl).0

    -- it returned `false`
    pub stays : (g : F) → judges first p false g → (entry : Bor K × Bor V) → AreOf entry p
        → IsRemovalBy eq matches (history_of begun) (history_of log) judges first (Ok (Err entry))
    stays g judged entry are =
        answered eq input build write finish classes respects b name matches query lawful judges first begun log (asked false g judged) g
        (said false g judged) (Kept (pair_of met.word)) refl (Ok (Err entry)) (p, entry, refl, are, refl)

    -- it returned `true`
    module _ (g : F) (judged : judges first p true g) where
      abbrev buries : Removal K V S H
      buries = asked true g judged

      abbrev t : ℕ
      t = met.place.table

      abbrev i : ℕ
      i = met.place.probe.i

      stands : IsValid buries.call.machine
      stands = valid (Burying place) (tt, hit.within)

      -- the pair may be deleted
      pub hit_can : CanExchange eq hash b (Slot t i) (Some steps.Bury) met.word (grave_word met.word) None names.Nothing log
      hit_can = bury_can eq input build write finish classes respects b name matches query lawful judges first begun log buries g
          (said true g judged) stands t i met.word (grave_word met.word) refl

      -- the table has its slot
      pub hit_held : IsTable log t lent.now × (i < length lent.now.slots)
      hit_held = bury_held eq input build write finish classes respects b name matches query lawful judges first begun log buries g
          (said true g judged) stands t i met.word (grave_word met.word) refl

      -- it was held since the search began
      pub hit_was : WasHeld eq matches (history_of begun) (history_of log) (Some p)
      hit_was =
          let r = said true g judged in
          let s = r.stood (pair_of met.word) true (inl refl) in
          let one : s.0 ≡ p = let same = sym s.1 in cc same in
          subst (λ (z : Stored K V). WasHeld eq matches (history_of begun) (history_of log) (Some z)) one
          (shown_each (λ q. WasHeld eq matches (history_of begun) (history_of log) (Some q)) r.said r.held s.0 true s.3)

      -- it was deleted
      module _ (log' : List (Event K V S)) (pre : IsPrefix log log') (found : ℕ) (pair : Option (Stored K V))
          (s : IsSlotTried eq hash b name t i (Some steps.Bury) met.word (grave_word met.word) None names.Nothing log found log' pair)
          (is : (found == met.word) ≡ true) where
        abbrev buried : Removal K V S H
        buried = removal_with (after buries.call.machine (answers.Call Exchanged)) (Some p) pair

        went : Goes log' buried g
        went = (bury_on eq input build write finish classes respects b name matches query lawful judges first begun log buries g
            (said true g judged) stands t i met.word (grave_word met.word) refl log' pre found pair s (record buries.call { taken = pair; put = None }) Exchanged
            (subst (λ (z : Bool). MatchBool z ((Exchanged ≡ Exchanged)
            × (record buries.call { taken = pair; put = None } ≡ record buries.call { taken = pair; put = None }))
            ((Exchanged ≡ Found_instead found) × (record buries.call { taken = pair; put = None }
            ≡ record buries.call { copier = record buries.call.copier { last = or_last pair (Some p) } }))) (sym is) (refl, refl))).0

        abbrev pub ended : Removal K V S H
        ended = removal_with (after buried.call.machine (answers.Call Ok_done)) (Some p) pair

        counted : Goes log' ended g
        counted = (counted_on eq input build write finish classes respects b name matches query lawful judges first begun log' buried g went
            (valid (Uncounting (pair_of met.word)) tt) _ refl).0

        -- this is the call's change
        pub hit_changed : (change : Option ℕ × Option ℕ) → change_in ended.call.machine.call.state ≡ Some change
            → HasChanged eq None begun log' pair None change
        hit_changed = counted.calling.changed

        -- the pair that was taken out is the one that was met
        pub hit_went : (taken : Stored K V) → pair ≡ Some taken → p.value ≡ taken.value → (entry : Bor K × Bor V) → AreOf entry p
            → IsRemovalBy eq matches (history_of begun) (history_of log') judges first (Ok (Ok (Some entry)))
        hit_went taken took value entry are =
            answered eq input build write finish classes respects b name matches query lawful judges first begun log' ended g counted
            (Removed (pair_of met.word)) refl (Ok (Ok (Some entry)))
            (p, taken, entry, refl, took, value, (are.0 ∙ ap (λ z. z.key.value) value, are.1 ∙ ap (λ z. z.value) value), refl)

-- A closure was called with pairs before a removal began.
module _ {K V F : Type 0} (eq : K → K → Bool) (matches : K → Bool) (judges : F → Stored K V → Bool → F → Type 0) (first g : F) where
  abbrev Shows : Type 0
  Shows = List (Stored K V × Bool)

  module _ (before : Shows) (has_said : HasReturned judges first before g) where
    said_first : (shown : Shows) (left : F) → HasReturned judges g shown left → HasReturned judges first (shown ++ before) left
    said_first [] left h = subst (HasReturned judges first before) (sym h) has_said
    said_first (last ∷ rest) left h = (h.0, said_first rest h.0 h.1, h.2)

    shown_all : (P : Stored K V → Type 0) → AllArguments P before → (shown : Shows) → AllArguments P shown → AllArguments P (shown ++ before)
    shown_all P own [] all = own
    shown_all P own (last ∷ rest) all = (all.0, shown_all P own rest all.1)

    member_on : (x : Stored K V × Bool) (shown : Shows) → Member x shown → Member x (shown ++ before)
    member_on x [] m = absurd m
    member_on x (last ∷ rest) (inl is) = inl is
    member_on x (last ∷ rest) (inr m) = inr (member_on x rest m)

    judged_on : (old new : List (Change K (Stored K V))) (shown : Shows) (answer : Result (Result (Option (Bor K × Bor V)) (Bor K × Bor V)) Refused)
        → IsJudged eq matches old new shown answer → IsJudged eq matches old new (shown ++ before) answer
    judged_on old new shown (Ok (Ok None)) h = h
    judged_on old new shown (Ok (Ok (Some entry))) h = (h.0, h.1, (h.2.0, h.2.1, member_on (h.2.0, true) shown h.2.2), h.3)
    judged_on old new shown (Ok (Err entry)) h = (h.0, member_on (h.0, false) shown h.1, h.2)
    judged_on old new shown (Err cause) h = h

  pub removal_shown : (older old new : List (Change K (Stored K V))) → IsPrefix older old → IsPrefix old new
      → HasCalled eq matches older old judges first g → (answer : Result (Result (Option (Bor K × Bor V)) (Bor K × Bor V)) Refused)
      → IsRemovalBy eq matches old new judges g answer → IsRemovalBy eq matches older new judges first answer
  removal_shown older old new pre more s answer r =
      let w = removal_since eq matches older old new pre judges g answer r in
      let wider : (p : Stored K V) → WasHeld eq matches older old (Some p)
      → WasHeld eq matches older new (Some p) = λ p h. held_wider eq matches older older old new ([], append-nil older) more (Some p) h in record {
        said = w.said ++ s.said;
        left = w.left;
        has_said = said_first s.said s.has_said w.said w.left w.has_said;
        held = shown_all s.said s.has_said (λ q. WasHeld eq matches older new (Some q))
            (all_shown (λ q. WasHeld eq matches older old (Some q)) (λ q. WasHeld eq matches older new (Some q)) wider s.said s.held) w.said w.held;
        answered = judged_on s.said s.has_said older new w.said answer w.answered;
      }

-- the postcondition of a removal on its fast path, for a longer observed history
module _ {K V F : Type 0} (eq : K → K → Bool) (matches : K → Bool) (older old new : List (Change K (Stored K V)))
    (judges : F → Stored K V → Bool → F → Type 0) (first left : F) where
  -- it has called its closure once
  pub one_shown : (p : Stored K V) (agreed : Bool) → judges first p agreed left → WasHeld eq matches old new (Some p) → IsPrefix older old
      → HasCalled eq matches older new judges first left
  one_shown p agreed judged held pre = record {
    said = (p, agreed) ∷ [];
    has_said = (first, refl, judged);
    held = (held_wider eq matches older old new new pre ([], append-nil new) (Some p) held, tt);
  }
