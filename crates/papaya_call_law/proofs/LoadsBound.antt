-- A lookup's loads are bounded: by induction over the answers.
use Rattle.std.proofs.Common.{◌≡◌, ⊎_elim, ℕ, ◌≤◌, Option, None, List, [], ◌∷◌, sym, subst, refl, arith, true, false}
use Rattle.std.specs.List.{All}
use Rattle.std.proofs.lemmas.List.Elements.{All-cons, All-nil}
use Rattle.papaya_words.specs.Word.{kind_of, may_hold}
use Rattle.papaya_words.specs.declared.resize_mode.ResizeMode.{ResizeMode}
use Rattle.papaya_call.specs.declared.ask.Ask.{Ask}
use Rattle.papaya_call.specs.declared.ask.Answer.{Answer}
use Rattle.papaya_call.specs.declared.ask.Answer.TheVariants as answers
use Rattle.papaya_call.specs.declared.call.Task.TheVariants.{Get}
use Rattle.papaya_call.specs.declared.search.Search.TheVariants.{Sizing, Looking, Reading, Comparing}
use Rattle.papaya_call.specs.declared.made.Made.{Made}
use Rattle.papaya_call.specs.Made.{nothing_made}
use Rattle.papaya_call.specs.declared.machine.State.{State}
use Rattle.papaya_call.specs.declared.machine.State.TheVariants.{AtRoot, Making, Opening, Searching}
use Rattle.papaya_call.specs.declared.machine.State.TheVariants.{Writing, Offering, Showing}
use Rattle.papaya_call.specs.declared.machine.State.TheVariants.{Pairing, Putting, Burying}
use Rattle.papaya_call.specs.declared.machine.State.TheVariants.{Counting, Noting, Uncounting}
use Rattle.papaya_call.specs.declared.machine.State.TheVariants.{Leaving, Growing, Ended}
use Rattle.papaya_call.specs.declared.machine.Machine.{Machine}
use Rattle.papaya_call.specs.Compute.{nothing}
use Rattle.papaya_call.specs.Machine.{IsLookup, ask_of, after, started, at_root, left as state_left, goes_as}
use Rattle.papaya_call.specs.Search.{first_place, go_on, hinted, look_at, at_yes as search_compared}
use Rattle.papaya_call_law.specs.Loads.{IsAnswer, AreAnswers, IsBounded, asked, tables_entered, tables_hinted, tables_loaded}
use Rattle.papaya_call.specs.declared.ask.Ask.TheVariants.{LoadHint}
use Rattle.papaya_call.specs.declared.search.ProbeStep.TheVariants.{On}
use Rattle.papaya_call_law.proofs.LoadsLeft.{chosen}
use Rattle.papaya_call_law.proofs.LoadsLists.{count, IsFrom, from_nil}
use Rattle.papaya_call_law.proofs.LoadsSteps.{lookup, IsReader, IsBelow, left, AreKnown, IsStep}
use Rattle.papaya_call_law.proofs.LoadsSteps.{leads_look, leads_on, leads_compared, step_root}
use Rattle.papaya_call_law.proofs.LoadsSteps.{step_next, step_size, step_hint, step_read, step_load}
use Rattle.papaya_call_law.proofs.LoadsSteps.{step_compare, step_ended}
use Rattle.papaya_call.specs.declared.search.Place.{Place}

module _ (limit : ℕ → ℕ) (hash initial : ℕ) (mode : ResizeMode) where
  -- the lookup in a state
  abbrev pub valid : Made → State → Machine
  valid made s = lookup hash initial mode made s

  -- after a hint its word is loaded, or the place is passed
  hint_step : (at : Place) (hint : ℕ) → at.probe.len ≤ at.limit
      → IsStep limit (Searching (Looking at)) (goes_as Get mode nothing (hinted at hash hint)) (LoadHint at.table at.probe.i)
  hint_step at hint le =
      chosen (λ seen. IsStep limit (Searching (Looking at)) (goes_as Get mode nothing seen) (LoadHint at.table at.probe.i)) (may_hold hint hash)
      (On (Reading at)) (go_on at)
      (λ _. step_read limit at le)
      (λ _. step_hint limit at (goes_as Get mode nothing (go_on at)) le (leads_on limit mode at le))

  -- one answer leads the lookup to a further state
  record IsStepBy (made : Made) (s : State) (answer : Answer) : Type 0 where
    pub then_made : Made
    pub to : State
    pub is : after (valid made s) answer ≡ valid then_made to
    pub step : IsStep limit s to (ask_of (valid made s))

  step_by : (made : Made) (s : State) (answer : Answer) → IsReader s → IsAnswer limit (ask_of (valid made s)) answer → IsStepBy made s answer
  step_by made AtRoot answer reader (word, e, _) =
      subst (IsStepBy made AtRoot) (sym e) (record { then_made = made; to = at_root Get None word; is = refl; step = step_root limit word })
  step_by made (Searching (Sizing u)) answer reader (slots, e) =
      subst (IsStepBy made (Searching (Sizing u))) (sym e)
      (record { then_made = made; to = Searching (Looking (first_place hash u slots (limit u))); is = refl; step = step_size limit hash u slots })
  step_by made (Searching (Looking at)) answer reader (hint, e) =
      subst (IsStepBy made (Searching (Looking at))) (sym e)
      (record { then_made = made; to = goes_as Get mode nothing (hinted at hash hint); is = refl; step = hint_step at hint reader })
  step_by made (Searching (Reading at)) answer reader (word, e, _) =
      subst (IsStepBy made (Searching (Reading at))) (sym e)
      (record {
        then_made = made;
        to = goes_as Get mode nothing (look_at (kind_of word) at word);
        is = refl;
        step = step_load limit at
            (goes_as Get mode nothing (look_at (kind_of word) at word)) reader (leads_look limit mode at reader (kind_of word) word);
      })
  step_by made (Searching (Comparing at found)) answer reader (same, e) =
      subst (IsStepBy made (Searching (Comparing at found))) (sym e)
      (record {
        then_made = made;
        to = goes_as Get mode nothing (search_compared (Comparing at found) same);
        is = refl;
        step = step_compare limit at
            found (goes_as Get mode nothing (search_compared (Comparing at found) same)) (leads_compared limit mode at reader found same);
      })
  step_by made (Leaving u) answer reader (word, e, rises) =
      subst (IsStepBy made (Leaving u)) (sym e) (record { then_made = made; to = state_left Get None u word; is = refl; step = step_next limit u word rises })
  step_by made (Ended reply) answer reader fits = record { then_made = made; to = Ended reply; is = stable answer; step = step_ended limit reply }
    where
      stable : (answer : Answer) → after (valid made (Ended reply)) answer ≡ valid made (Ended reply)
      stable (answers.Word word) = refl
      stable answers.Exchanged = refl
      stable (answers.Found word) = refl
      stable (answers.Yes same) = refl
      stable (answers.Op kind) = refl
      stable (answers.Size slots last) = refl
      stable (answers.Made n) = refl
      stable answers.Ok = refl
      stable (answers.Refused refused) = refl
  step_by made Making answer reader fits = absurd reader
  step_by made (Opening u) answer reader fits = absurd reader
  step_by made (Writing write) answer reader fits = absurd reader
  step_by made (Offering gap) answer reader fits = absurd reader
  step_by made (Showing removal) answer reader fits = absurd reader
  step_by made (Pairing purpose) answer reader fits = absurd reader
  step_by made (Putting put) answer reader fits = absurd reader
  step_by made (Burying removal) answer reader fits = absurd reader
  step_by made (Counting pair) answer reader fits = absurd reader
  step_by made (Noting pair) answer reader fits = absurd reader
  step_by made (Uncounting pair) answer reader fits = absurd reader
  step_by made (Growing u) answer reader fits = absurd reader

  -- the number of loads from a state on is bounded
  record IsRun (s : State) (asks : List Ask) : Type 0 where
    pub loads : (t : ℕ) → count t (tables_loaded asks) ≤ left limit true t s
    pub hints : (t : ℕ) → count t (tables_hinted asks) ≤ left limit false t s
    pub enters : (n : ℕ) → IsBelow n s → IsFrom n (tables_entered asks)
    pub known : AreKnown limit s (tables_entered asks) (tables_loaded asks)
    pub known_hinted : AreKnown limit s (tables_entered asks) (tables_hinted asks)
    pub quiet : All IsLookup asks

  run_more : (s s' : State) (ask : Ask) (asks : List Ask) → IsStep limit s s' ask → IsRun s' asks → IsRun s (ask ∷ asks)
  run_more s s' ask asks step run = record {
    loads = λ t. step.loads true t (tables_loaded asks) (run.loads t);
    hints = λ t. step.loads false t (tables_hinted asks) (run.hints t);
    enters = λ n below. step.enters n below (tables_entered asks) run.enters;
    known = step.known true (tables_entered asks) (tables_loaded asks) run.known;
    known_hinted = step.known false (tables_entered asks) (tables_hinted asks) run.known_hinted;
    quiet = All-cons IsLookup ask asks step.quiet run.quiet;
  }

  runs : (given : List Answer) (made : Made) (s : State) → IsReader s → AreAnswers limit (valid made s) given → IsRun s (asked (valid made s) given)
  runs [] made s reader fit = record {
    loads = λ t. omega arith;
    hints = λ t. omega arith;
    enters = λ n below. from_nil n;
    known = λ k d lt. absurd (omega (arith, lt));
    known_hinted = λ k d lt. absurd (omega (arith, lt));
    quiet = All-nil IsLookup;
  }
  runs (answer ∷ given) made s reader (fits, fit) =
      let by = step_by made s answer reader fits in
      let further : IsRun by.to (asked (valid by.then_made by.to) given) = runs given by.then_made by.to by.step.reader
      (subst (λ m. AreAnswers limit m given) by.is fit) in
      run_more s by.to (ask_of (valid made s)) (asked (after (valid made s) answer) given) by.step
      (subst (λ m. IsRun by.to (asked m given)) (sym by.is) further)

  -- a lookup from its start
  pub lookup_bounded : (most : Option ℕ) (given : List Answer) → AreAnswers limit (started Get hash mode initial most) given
      → IsBounded limit (asked (started Get hash mode initial most) given)
  lookup_bounded most given fit =
      let run : IsRun AtRoot (asked (valid (nothing_made most) AtRoot) given) = runs given (nothing_made most) AtRoot tt fit in
      record {
        loads = run.loads;
        hints = run.hints;
        rising = (run.enters 0 (omega arith)).up;
        entered = λ k d lt. ⊎_elim (λ c. c) (λ i. absurd i) (run.known k d lt);
        entered_hinted = λ k d lt. ⊎_elim (λ c. c) (λ i. absurd i) (run.known_hinted k d lt);
        quiet = run.quiet;
      }
