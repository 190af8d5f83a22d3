-- The closure of a removal, over one step: it is as it was passed in, or it was called once and is
-- not called again.
use Rattle.std.proofs.Common.{◌≡◌, inl, inr, ℕ, ◌==◌, Bool, true, false, Option, Some, None, refl, sym, ◌∙◌, ap, subst}
use denote.Ref.{Bor}
use Rattle.std.specs.Fn.{Called, Mut}
use Rattle.std.proofs.lemmas.Bool.{cond_both}
use Rattle.papaya_words.specs.Table.{TableWords}
use Rattle.papaya_words.specs.Word.{kind_of, pair_of as number_of}
use Rattle.papaya_words.specs.declared.resize_mode.ResizeMode.{ResizeMode}
use Rattle.papaya_words.specs.declared.resize_mode.ResizeMode.TheVariants.{Incremental, Blocking}
use Rattle.papaya_words.specs.declared.word.Kind.{Kind}
use Rattle.papaya_words.specs.declared.word.Kind.TheVariants as kinds
use Rattle.papaya_call.specs.Machine.{IsValidState, after as call_after, agreed, asks as call_asks, ask_of as call_ask_of, at_root, goes_as, left, passes, removes}
use Rattle.papaya_call.specs.declared.compute.Remembered.{Remembered}
use Rattle.papaya_call.specs.declared.machine.Machine.{Machine as Call_machine}
use Rattle.papaya_call.specs.declared.machine.State.{State}
use Rattle.papaya_call.specs.declared.machine.State.TheVariants.{AtRoot, Making, Opening, Searching}
use Rattle.papaya_call.specs.declared.machine.State.TheVariants.{Writing, Offering, Showing}
use Rattle.papaya_call.specs.declared.machine.State.TheVariants.{Pairing, Putting, Burying}
use Rattle.papaya_call.specs.declared.machine.State.TheVariants.{Counting, Noting, Uncounting}
use Rattle.papaya_call.specs.declared.machine.State.TheVariants.{Leaving, Growing, Ended}
use Rattle.papaya_call.specs.declared.remove.Removal.{Removal}
use Rattle.papaya_call.specs.declared.made.Made.{Made}
use Rattle.papaya_call.specs.Search.{at_yes as search_compared, hinted, look}
use Rattle.papaya_call.specs.declared.ask.Answer.{Answer as Call_answer}
use Rattle.papaya_call.specs.declared.ask.Answer.TheVariants.{Word as Word_read}
use Rattle.papaya_call.specs.declared.ask.Ask.TheVariants.{ShowPair}
use Rattle.papaya_call.specs.declared.ask.At.TheVariants.{Next, Root, Slot}
use Rattle.papaya_call.specs.declared.call.Reply.TheVariants.{Absent}
use Rattle.papaya_call.specs.declared.call.Task.{Task}
use Rattle.papaya_call.specs.declared.call.Task.TheVariants.{RemoveIf}
use Rattle.papaya_call.specs.declared.search.Search.TheVariants.{Sizing, Looking, Reading, Comparing}
use Rattle.papaya_call.specs.declared.search.ProbeStep.{ProbeStep}
use Rattle.papaya_call.specs.declared.search.ProbeStep.TheVariants as seen
use Rattle.papaya_call.specs.declared.chain.ask.Answer.{Answer}
use Rattle.papaya_call.specs.declared.chain.ask.Answer.TheVariants as answers
use Rattle.papaya_call.specs.declared.chain.machine.Machine.{Machine}
use Rattle.papaya_call.specs.declared.chain.machine.Phase.{Phase}
use Rattle.papaya_call.specs.declared.chain.machine.Phase.TheVariants.{Calling, Linking, Copying as Copying_root}
use Rattle.papaya_call.specs.ChainMachine.{after, ask_of, asks_in}
use Rattle.papaya_call_law.specs.Goes.{Goes, IsOwnStep}
use Rattle.papaya_call_law.specs.ChainRelies.{left_by}
use Rattle.papaya_call_law.specs.Alone.{IsRead}
use Rattle.papaya_call_law.specs.Says.{ClosureResult, Agrees, Inserts, Makes, Removes, result_in}
use Rattle.papaya_call_law.proofs.AloneSteps.{exchange_done}
use Rattle.papaya_core_store.specs.Performs.{size_of}
use Rattle.papaya_core_store.specs.Store.{StoreState, Stored, pair_of}
use Rattle.papaya_core_store.specs.Tables.{hint_at, table_of, word_at}
use Rattle.papaya_seq.specs.Looks.{matches_in}
use Rattle.papaya_seq.specs.Removes.{IsRemovalAnswer, IsShown, JudgesTo}
use Rattle.papaya_seq.proofs.SeekTurns.{IsAnswered}

-- A state of a removal that depends on no result of its closure.
abbrev pub IsWithoutResult : State → Type 0
IsWithoutResult state = result_in RemoveIf state ≡ None

passes_unsaid : (mode : ResizeMode) (fill : Option ℕ) (t : ℕ) → IsWithoutResult (passes RemoveIf mode fill t)
passes_unsaid (Incremental chunk) fill t = refl
passes_unsaid Blocking fill t = refl

removes_unsaid : (kind : Kind) (at : _) (word : ℕ) → IsWithoutResult (removes kind at word)
removes_unsaid kinds.Empty at word = refl
removes_unsaid kinds.Live at word = refl
removes_unsaid kinds.Marked at word = refl
removes_unsaid kinds.Copied at word = refl
removes_unsaid kinds.Buried at word = refl
removes_unsaid kinds.Closed at word = refl

-- the state after a search is one
goes_unsaid : (mode : ResizeMode) (held : Remembered) (sight : ProbeStep) → IsWithoutResult (goes_as RemoveIf mode held sight)
goes_unsaid mode held (seen.On search) = refl
goes_unsaid mode held (seen.Empty at) = refl
goes_unsaid mode held (seen.Here at word) = removes_unsaid (kind_of word) at word
goes_unsaid mode held (seen.Over t) = passes_unsaid mode held.fill t

-- and so does the root
root_unsaid : (fill : Option ℕ) (word : ℕ) → IsWithoutResult (at_root RemoveIf fill word)
root_unsaid fill word = cond_both (word == 0) (Ended Absent) (Searching (Sizing word)) IsWithoutResult (λ _. refl) (λ _. refl)

-- and a next table
left_unsaid : (fill : Option ℕ) (t word : ℕ) → IsWithoutResult (left RemoveIf fill t word)
left_unsaid fill t word = cond_both (word == 0) (Ended Absent) (Searching (Sizing word)) IsWithoutResult (λ _. refl) (λ _. refl)

-- a call that is set aside is in one
aside_unsaid : (state : State) (t : ℕ) → left_by state ≡ Some t → IsWithoutResult state
aside_unsaid (Leaving u) t e = refl
aside_unsaid (Growing need) t e = refl
aside_unsaid AtRoot t e = absurd cc
aside_unsaid Making t e = absurd cc
aside_unsaid (Opening u) t e = absurd cc
aside_unsaid (Searching search) t e = absurd cc
aside_unsaid (Writing write) t e = absurd cc
aside_unsaid (Offering gap) t e = absurd cc
aside_unsaid (Showing removal) t e = absurd cc
aside_unsaid (Pairing purpose) t e = absurd cc
aside_unsaid (Putting given) t e = absurd cc
aside_unsaid (Burying removal) t e = absurd cc
aside_unsaid (Counting n) t e = absurd cc
aside_unsaid (Noting n) t e = absurd cc
aside_unsaid (Uncounting n) t e = absurd cc
aside_unsaid (Ended reply) t e = absurd cc

module _ {K V S F : Type 0} (g : Mut F (Bor K × (Bor V × Unit {0})) Bool) (matches : K → Bool) (first : StoreState K V S) (agrees : F) where
  -- the closure is as it was passed in, or was called once, with the pair for which it returned
  abbrev pub IsJudged : Option ClosureResult → F → Type 0
  IsJudged None f = f ≡ agrees
  IsJudged (Some (Agrees n answered)) f = (p : Stored K V) × (pair_of first n ≡ Some p) × JudgesTo g agrees f p answered
  IsJudged (Some (Inserts shown)) f = ⊥
  IsJudged (Some (Makes shown n)) f = ⊥
  IsJudged (Some (Removes n)) f = ⊥

  -- as a state of a removal has it
  abbrev pub IsJudgedIn : State → F → Type 0
  IsJudgedIn state f = IsJudged (result_in RemoveIf state) f

  -- one that asks to call its closure with a pair has not called it before
  pub yet_uncalled : (made : Made) (hashed : ℕ) (state : State) (n : ℕ) → IsValidState RemoveIf state → call_asks made hashed state ≡ ShowPair n
      → (f : F) → IsJudgedIn state f → f ≡ agrees
  yet_uncalled made hashed AtRoot n stands asks f judged = judged
  yet_uncalled made hashed Making n stands asks f judged = absurd stands
  yet_uncalled made hashed (Opening t) n stands asks f judged = absurd stands
  yet_uncalled made hashed (Searching search) n stands asks f judged = judged
  yet_uncalled made hashed (Writing write) n stands asks f judged = absurd stands.0
  yet_uncalled made hashed (Offering gap) n stands asks f judged = absurd stands.0
  yet_uncalled made hashed (Showing removal) n stands asks f judged = judged
  yet_uncalled made hashed (Pairing purpose) n stands asks f judged = absurd stands.0
  yet_uncalled made hashed (Putting put) n stands asks f judged = absurd stands.0
  yet_uncalled made hashed (Burying removal) n stands asks f judged = absurd cc
  yet_uncalled made hashed (Counting m) n stands asks f judged = absurd stands
  yet_uncalled made hashed (Noting m) n stands asks f judged = absurd stands
  yet_uncalled made hashed (Uncounting m) n stands asks f judged = absurd cc
  yet_uncalled made hashed (Leaving t) n stands asks f judged = judged
  yet_uncalled made hashed (Growing need) n stands asks f judged = judged
  yet_uncalled made hashed (Ended reply) n stands asks f judged = absurd cc

  unjudged : (state : State) (f f' : F) → IsWithoutResult state → f' ≡ f → f ≡ agrees → IsJudgedIn state f'
  unjudged state f f' unsaid same alike = subst (λ said. IsJudged said f') (sym unsaid) (same ∙ alike)

  module _ (eq : K → K → Bool) (hash : S → K → ℕ) (s : StoreState K V S) (f : F) (s' : StoreState K V S) (f' : F)
      (log : (n : ℕ) → pair_of s n ≡ pair_of first n) where
    module _ (made : Made) (hashed : ℕ) (mode : ResizeMode) (initial : ℕ) (held : Remembered) where
      -- the call in a state
      abbrev at : State → Call_machine
      at st = record { task = RemoveIf; hash = hashed; mode = mode; initial = initial; made = made; remembered = held; state = st }

      -- the size of a table
      sized_unsaid : (t : ℕ) (o : Option TableWords) → IsWithoutResult (call_after (at (Searching (Sizing t))) (size_of o)).state
      sized_unsaid t None = refl
      sized_unsaid t (Some table) = refl

      -- the closure is called with a pair
      shown_judged : (removal : Removal) (answer : Call_answer) (o : Option (Stored K V)) → pair_of s (number_of removal.word) ≡ o → f ≡ agrees
          → IsShown g o f answer f' → IsJudgedIn (call_after (at (Showing removal)) answer).state f'
      shown_judged removal answer None is alike (e, same) = subst (λ a. IsJudgedIn (call_after (at (Showing removal)) a).state f') (sym e) (same ∙ alike)
      shown_judged removal answer (Some p) is alike (key, value, answered, key_is, value_is, e, called) =
          subst (λ a. IsJudgedIn (call_after (at (Showing removal)) a).state f') (sym e)
          (by_answer answered (
            p,
            sym (log (number_of removal.word))
                ∙ is,
            (key, value, key_is, value_is, subst (λ (y : F). Called g y (key, (value, tt)) answered f') alike called),
          ))
        where
          by_answer : (b : Bool) → IsJudged (Some (Agrees (number_of removal.word) b)) f' → IsJudgedIn (agreed removal b) f'
          by_answer true judged = judged
          by_answer false judged = judged

      -- a step of the call itself
      own_judged : (st : State) (answer : Call_answer) → IsValidState RemoveIf st → IsRead (word_at s.words) st → IsJudgedIn st f
          → IsRemovalAnswer g matches (call_ask_of (at st)) s f answer s' f' → IsJudgedIn (call_after (at st) answer).state f'
      own_judged AtRoot answer stands read alike (e, _, same) =
          subst (λ a. IsJudgedIn (call_after (at AtRoot) a).state f') (sym e)
          (unjudged (at_root RemoveIf held.fill (word_at s.words Root)) f f' (root_unsaid held.fill (word_at s.words Root)) same alike)
      own_judged (Searching (Sizing t)) answer stands read alike (e, _, same) =
          subst (λ a. IsJudgedIn (call_after (at (Searching (Sizing t))) a).state f') (sym e)
          (unjudged (call_after (at (Searching (Sizing t))) (size_of (table_of s.words.tables t))).state f f'
          (sized_unsaid t (table_of s.words.tables t)) same alike)
      own_judged (Searching (Looking place)) answer stands read alike (e, _, same) =
          subst (λ a. IsJudgedIn (call_after (at (Searching (Looking place))) a).state f') (sym e)
          (unjudged (goes_as RemoveIf mode held (hinted place hashed (hint_at s.words place.table place.probe.i))) f f'
          (goes_unsaid mode held (hinted place hashed (hint_at s.words place.table place.probe.i))) same alike)
      own_judged (Searching (Reading place)) answer stands read alike (e, _, same) =
          subst (λ a. IsJudgedIn (call_after (at (Searching (Reading place))) a).state f') (sym e)
          (unjudged (goes_as RemoveIf mode held (look place (word_at s.words (Slot place.table place.probe.i)))) f f'
          (goes_unsaid mode held (look place (word_at s.words (Slot place.table place.probe.i)))) same alike)
      own_judged (Searching (Comparing place word)) answer stands read alike (e, _, same) =
          subst (λ a. IsJudgedIn (call_after (at (Searching (Comparing place word))) a).state f') (sym e)
          (unjudged (goes_as RemoveIf mode held (search_compared (Comparing place word) (matches_in matches (pair_of s (number_of word))))) f f'
          (goes_unsaid mode held (search_compared (Comparing place word) (matches_in matches (pair_of s (number_of word))))) same alike)
      own_judged (Showing removal) answer stands read alike (shown, _) = shown_judged removal answer (pair_of s (number_of removal.word)) refl alike shown
      own_judged (Burying removal) answer stands read judged (exchanges, same) =
          let done = exchange_done _ _ (word_at s.words (Slot removal.place.table removal.place.probe.i)) removal.word read exchanges in
          subst (λ a. IsJudgedIn (call_after (at (Burying removal)) a).state f') (sym done.0)
          (subst (λ (y : F). IsJudgedIn (Burying removal) y) (sym same) judged)
      own_judged (Uncounting n) answer stands read judged (e, _, same) = subst (λ a. IsJudgedIn (call_after (at (Uncounting n)) a).state f') (sym e)
          (subst (λ (y : F). IsJudgedIn (Uncounting n) y) (sym same) judged)
      own_judged (Leaving t) answer stands read alike (e, _, same) =
          subst (λ a. IsJudgedIn (call_after (at (Leaving t)) a).state f') (sym e)
          (unjudged (left RemoveIf held.fill t (word_at s.words (Next t))) f f' (left_unsaid held.fill t (word_at s.words (Next t))) same alike)
      own_judged (Growing need) answer stands read alike (e, _, same) = subst (λ a. IsJudgedIn (call_after (at (Growing need)) a).state f') (sym e)
          (same ∙ alike)
      own_judged (Ended reply) answer stands read judged told = absurd told
      own_judged Making answer stands read judged told = absurd stands
      own_judged (Opening t) answer stands read judged told = absurd stands
      own_judged (Writing write) answer stands read judged told = absurd stands.0
      own_judged (Offering gap) answer stands read judged told = absurd stands.0
      own_judged (Pairing purpose) answer stands read judged told = absurd stands.0
      own_judged (Putting given) answer stands read judged told = absurd stands.0
      own_judged (Counting n) answer stands read judged told = absurd stands
      own_judged (Noting n) answer stands read judged told = absurd stands

    -- a call that is set aside calls no closure
    aside_call : (made : Made) (hashed : ℕ) (state : State) (t : ℕ) (answer : Call_answer) → left_by state ≡ Some t
        → IsRemovalAnswer g matches (call_ask_of
        (record {
          task = RemoveIf;
          hash = hashed;
          mode = Blocking;
          initial = 0;
          made = made;
          remembered = record { fill = None; choice = None };
          state = state;
        })) s f answer s' f' → f' ≡ f
    aside_call made hashed (Leaving u) t answer e told = told.2
    aside_call made hashed (Growing need) t answer e told = told.2
    aside_call made hashed AtRoot t answer e told = absurd cc
    aside_call made hashed Making t answer e told = absurd cc
    aside_call made hashed (Opening u) t answer e told = absurd cc
    aside_call made hashed (Searching search) t answer e told = absurd cc
    aside_call made hashed (Writing write) t answer e told = absurd cc
    aside_call made hashed (Offering gap) t answer e told = absurd cc
    aside_call made hashed (Showing removal) t answer e told = absurd cc
    aside_call made hashed (Pairing purpose) t answer e told = absurd cc
    aside_call made hashed (Putting given) t answer e told = absurd cc
    aside_call made hashed (Burying removal) t answer e told = absurd cc
    aside_call made hashed (Counting n) t answer e told = absurd cc
    aside_call made hashed (Noting n) t answer e told = absurd cc
    aside_call made hashed (Uncounting n) t answer e told = absurd cc
    aside_call made hashed (Ended reply) t answer e told = absurd cc

    aside_same : (call : Call_machine) (phase : Phase) (t : ℕ) (answer : Answer) → left_by call.state ≡ Some t
        → IsAnswered eq hash g matches (asks_in call phase) s f answer s' f' → f' ≡ f
    aside_same call Calling t answer e (told, is, answers) = aside_call call.made call.hash call.state t told e answers
    aside_same call (Linking link) t answer e (performs, same) = same
    aside_same call (Copying_root copying) t answer e (performs, same) = same

    -- a step of the call, or of the copy that it is set aside for
    pub judged_more : (m : Machine) → m.call.task ≡ RemoveIf → (answer : Answer) → Goes m answer → IsValidState m.call.task m.call.state
        → (m.phase ≡ Calling → IsRead (word_at s.words) m.call.state) → IsJudgedIn m.call.state f
        → IsAnswered eq hash g matches (ask_of m) s f answer s' f' → IsJudgedIn (after m answer).call.state f'
    judged_more m task answer goes stands read judged told = by_way goes
      where
        -- if it is set aside
        aside : (t : ℕ) → left_by m.call.state ≡ Some t → (call : Call_machine) → IsWithoutResult call.state → (after m answer).call ≡ call
            → IsJudgedIn (after m answer).call.state f'
        aside t left call unsaid is =
            let alike : f ≡ agrees = subst (λ said. IsJudged said f) (aside_unsaid m.call.state t left) judged in
            subst (λ (c : Call_machine). IsJudgedIn c.state f') (sym is) (unjudged call.state f f' unsaid (aside_same m.call m.phase t answer left told) alike)

        by_itself : (own : IsOwnStep m answer) → IsJudgedIn (after m answer).call.state f'
        by_itself own =
            let asked : IsAnswered eq hash g matches (asks_in m.call Calling) s f answer s'
            f' = subst (λ phase. IsAnswered eq hash g matches (asks_in m.call phase) s f answer s' f') own.phase told in
            let same : answers.Call asked.0 ≡ answers.Call own.told = sym asked.1 ∙ own.is in
            let is : asked.0 ≡ own.told = cc same in
            let answered : IsRemovalAnswer g matches (call_ask_of m.call) s f own.told s'
            f' = subst (λ a. IsRemovalAnswer g matches (call_ask_of m.call) s f a s' f') is asked.2 in
            let c = m.call in
            let it : c ≡ at c.made c.hash c.mode c.initial c.remembered c.state = ap (λ t. record c { task = t }) task in
            subst (λ (d : Call_machine). IsJudgedIn d.state f') (sym own.call)
            (subst (λ (d : Call_machine). IsJudgedIn (call_after d own.told).state f') (sym it)
            (own_judged c.made c.hash c.mode c.initial c.remembered c.state own.told (subst (λ t. IsValidState t c.state) task stands)
            (read own.phase) judged answered))

        by_way : Goes m answer → IsJudgedIn (after m answer).call.state f'
        by_way (inl waiting) = aside waiting.from waiting.left m.call (aside_unsaid m.call.state waiting.from waiting.left) waiting.call
        by_way (inr (inl step)) = by_itself step
        by_way (inr (inr (inl entered))) = aside entered.from entered.left (record m.call { state = Searching (Sizing entered.table) }) refl entered.call
        by_way (inr (inr (inr (inl anew)))) =
            aside anew.from anew.left (call_after (record m.call { state = AtRoot }) (Word_read anew.root))
            (subst (λ (t : Task). IsWithoutResult (at_root t m.call.remembered.fill anew.root)) (sym task) (root_unsaid m.call.remembered.fill anew.root)) anew.call
        by_way (inr (inr (inr (inr refused)))) = aside refused.from refused.left (record m.call { state = Ended _ }) refl refused.call
