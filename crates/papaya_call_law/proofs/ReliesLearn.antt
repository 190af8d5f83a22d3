-- The facts that a machine relies on hold again after an answer that is true of the words.
use Rattle.std.proofs.Common.{◌≡◌, ◌⊎◌, ⊎_elim, ℕ, ◌<◌, ◌≤◌, ◌==◌, eqb-true, Bool, true, false}
use Rattle.std.proofs.Common.{cond, MatchBool, MatchOption, Option, None, Some, List, [], ◌∷◌, ◌++◌}
use Rattle.std.proofs.Common.{append-nil, refl, sym, ap, ◌∙◌, subst, arith}
use Rattle.std.proofs.lemmas.Bool.{cases_lt, cond_both, eqb-false}
use Rattle.papaya_words.specs.Word.{pair_of, live_word}
use Rattle.papaya_words.specs.declared.refused.Refused.{Refused}
use Rattle.papaya_words.specs.declared.refused.Refused.TheVariants.{Capacity, Limit}
use Rattle.papaya_call.specs.declared.ask.Ask.TheVariants.{Exchange as Ask_exchange}
use Rattle.papaya_call.specs.declared.ask.Answer.{Answer}
use Rattle.papaya_call.specs.declared.ask.Answer.TheVariants.{Word as Word_read, Exchanged}
use Rattle.papaya_call.specs.declared.ask.Answer.TheVariants.{Found as Found_instead, Yes, Op, Size}
use Rattle.papaya_call.specs.declared.ask.Answer.TheVariants.{Made as Made_number, Ok as Ok_done}
use Rattle.papaya_call.specs.declared.ask.Answer.TheVariants.{Refused as Was_refused}
use Rattle.papaya_call.specs.declared.ask.OpKind.{OpKind}
use Rattle.papaya_call.specs.declared.call.Reply.TheVariants.{Absent, Inserted, Removed, Refused as Reply_refused}
use Rattle.papaya_call.specs.declared.call.Task.{Task}
use Rattle.papaya_call.specs.declared.call.Task.TheVariants.{Get, Insert, RemoveIf, Compute}
use Rattle.papaya_call.specs.declared.compute.Gap.TheVariants.{NoRoot, After}
use Rattle.papaya_call.specs.declared.compute.Purpose.{Purpose}
use Rattle.papaya_call.specs.declared.compute.Remembered.{Remembered}
use Rattle.papaya_call.specs.declared.search.Place.{Place}
use Rattle.papaya_call.specs.declared.search.Search.TheVariants.{Sizing, Looking, Reading, Comparing}
use Rattle.papaya_call.specs.declared.made.Made.{Made}
use Rattle.papaya_call.specs.declared.remove.Removal.{Removal}
use Rattle.papaya_call.specs.declared.write.Write.{Write}
use Rattle.papaya_call.specs.declared.machine.Machine.{Machine}
use Rattle.papaya_call.specs.declared.machine.State.{State as Stage}
use Rattle.papaya_call.specs.declared.machine.State.TheVariants.{AtRoot, Making, Opening, Searching}
use Rattle.papaya_call.specs.declared.machine.State.TheVariants.{Writing, Offering, Showing}
use Rattle.papaya_call.specs.declared.machine.State.TheVariants.{Pairing, Putting, Burying}
use Rattle.papaya_call.specs.declared.machine.State.TheVariants.{Counting, Noting, Uncounting}
use Rattle.papaya_call.specs.declared.machine.State.TheVariants.{Leaving, Growing, Ended}
use Rattle.papaya_words_law.specs.Exchange.{Setting, State, Exchange, Take, run, start}
use Rattle.papaya_words_law.specs.Allows.{AllAllowed}
use Rattle.papaya_call.specs.declared.ask.At.TheVariants.{Root, Slot}
use Rattle.papaya_call.specs.declared.ask.StepKind.{StepKind}
use Rattle.papaya_call.specs.declared.ask.StepKind.TheVariants as kinds
use Rattle.papaya_words_law.specs.Code.{Coding, code}
use Rattle.papaya_call.specs.Compute.{in_place_of, lacks, offered, provides, with_pair}
use Rattle.papaya_call.specs.declared.made.Grown.{Grown}
use Rattle.papaya_call.specs.declared.made.Grown.TheVariants.{On, Pair}
use Rattle.papaya_call.specs.declared.made.Number.{Number}
use Rattle.papaya_call.specs.declared.made.Number.TheVariants.{Wanted, Free, Taken}
use Rattle.papaya_call.specs.Made.{answered as answered_made, grown, number_ask, number_kind, of_ask, own_ask, pair_ask, paired, taken, told}
use Rattle.papaya_call.specs.Machine.{IsComputer, MayInsert, after, ask_of, asks, at_root, beaten}
use Rattle.papaya_call.specs.Machine.{decided, decided_held, exchanged, goes_as, judged, kind_asked}
use Rattle.papaya_call.specs.Machine.{kind_of_ask, left, made_decided, made_to_pair, number_told}
use Rattle.papaya_call.specs.Machine.{numbered, paired as paired_state, paired_held, refuses}
use Rattle.papaya_call.specs.Machine.{served_kind, write_lost, write_made, write_taken, write_told}
use Rattle.papaya_call.specs.Machine.{written}
use Rattle.papaya_call.specs.Search.{first_place, hinted, look as look_seen, at_yes}
use Rattle.papaya_call_law.specs.TrueAnswers.{IsAsked, IsOfLast, IsClosureAnswer, IsTrueOf, IsUnmade, LoadedPairs}
use Rattle.papaya_words_law.specs.Code.{IsHashed}
use Rattle.papaya_call.specs.Write.{made_to_write, served_ask, serves, with_pair_at, write_grown, write_kind}
use Rattle.papaya_call.specs.Remove.{grave_word}
use Rattle.papaya_call_law.specs.Relies.{IsAt, IsModeOf, Relies, ReliesFill, MayNeed, ReliesLoaded}
use Rattle.papaya_call_law.specs.Relies.{ReliesNumber, ReliesLeaving, ReliesStage, ReliesWriting}
use Rattle.papaya_call_law.specs.Relies.{HasComeTo, HasMet, HasClaimed}
use Rattle.papaya_words_law.proofs.Codes.{code_pair}
use Rattle.papaya_call_law.proofs.ReliesLearnMoments.{no_root, next_come, over_last, root_come}
use Rattle.papaya_call_law.proofs.ReliesLearnPlaces.{first}
use Rattle.papaya_call_law.proofs.ReliesLearnLook.{compared, hints, looks, told_word}
use Rattle.papaya_call_law.proofs.ReliesLearnGoes.{goes_relies}
use Rattle.papaya_call_law.proofs.ReliesLearnLoaded.{KeysLast, loaded_answered, loaded_keyed, loaded_later, loaded_more, loaded_told, loaded_valued}
use Rattle.papaya_call_law.proofs.ReliesLearnPairs.{IsNewFor, ReliesTold, grown_is, paired_relies, taken_relies, told_relies, writing_more, writing_paired}
use Rattle.papaya_call_law.proofs.ReliesServed.{served_pair}
use Rattle.papaya_call_law.proofs.ReliesStable.{relies_stable, state_later}
use Rattle.papaya_words_law.proofs.Kept.{key_stable}
use Rattle.papaya_call_law.proofs.ReliesLearnComputes.{decided_loaded, decided_relies, lacks_relies}
use Rattle.papaya_call_law.proofs.ReliesLearnComputes.{offered_relies, pair_relies, provides_relies}
use Rattle.papaya_call_law.proofs.ReliesLearnComputes.{purpose_more, purpose_new}
use Rattle.papaya_call_law.proofs.ReliesLearnWrites.{IsSlotAsked, one_more, opens, puts, writes}
use Rattle.papaya_call_law.proofs.ReliesLearnRemovals.{beaten_relies, buries, judged_relies, uncounted}
use Rattle.papaya_call.specs.declared.need.Need.{Need}
use Rattle.papaya_call.specs.Machine.{needed}
use Rattle.papaya_call.specs.declared.write.Claimed.{Claimed}

-- by a test's outcome
pub by_test : (b : Bool) (A B R : Type 0) → MatchBool b A B → (b ≡ true → A → R) → (b ≡ false → B → R) → R
by_test true A B R h yes_so not_so = yes_so refl h
by_test false A B R h yes_so not_so = not_so refl h

-- a number that isn't 0 is more
pub more_than_none : (n : ℕ) → (n == 0) ≡ false → 0 < n
more_than_none n e = let differs = eqb-false n 0 e in ⊎_elim (λ (some : 0 < n). some) (λ (none : n ≤ 0). absurd (differs (omega arith))) (cases_lt 0 n)

module _ {K P : Type 0} (g : Setting K P) (c : Coding K P) (hashed : IsHashed g c) (begun since : List (Exchange P))
    (may : AllAllowed g start (begun ++ since)) (k : K) where
  -- the state after all exchanges
  abbrev now : State P
  now = run (begun ++ since) start

  -- the number of a table was loaded: the search continues there, or there is none
  looked : (loaded : LoadedPairs P) (task : Task) (word : ℕ) (none : Stage) → (word ≡ 0 → ReliesStage g c begun since k loaded task none)
      → (0 < word → HasComeTo g c begun since k word)
      → ReliesStage g c begun since k loaded task (cond (word == 0) none (Searching (Sizing word)))
  looked loaded task word none missing come =
      cond_both (word == 0) none (Searching (Sizing word)) (ReliesStage g c begun since k loaded task) (λ is. missing (eqb-true word 0 is))
      (λ some. come (more_than_none word some))

  -- the root that was loaded
  root_relies : (loaded : LoadedPairs P) (fill : Option ℕ) → ReliesFill g c begun since k loaded fill → (task : Task)
      → ReliesStage g c begun since k loaded task (at_root task fill now.root)
  root_relies loaded fill own Get = looked loaded Get now.root (Ended Absent) (no_root g c hashed.lawful begun since may k)
      (root_come g c hashed.lawful begun since may k)
  root_relies loaded fill own RemoveIf = looked loaded RemoveIf now.root (Ended Absent) (no_root g c hashed.lawful begun since may k)
      (root_come g c hashed.lawful begun since may k)
  root_relies loaded fill own (Insert replace) = looked loaded (Insert replace) now.root Making (λ none. tt) (root_come g c hashed.lawful begun since may k)
  root_relies loaded fill own Compute =
      looked loaded Compute now.root (lacks fill NoRoot)
      (λ none. lacks_relies g c begun since k loaded fill own NoRoot tt (no_root g c hashed.lawful begun since may k none))
      (root_come g c hashed.lawful begun since may k)

  -- the next table that was loaded
  next_relies : (loaded : LoadedPairs P) (fill : Option ℕ) → ReliesFill g c begun since k loaded fill → (task : Task) (t : ℕ)
      → ReliesLeaving g c begun since k task t → ReliesStage g c begun since k loaded task (left task fill t (now.next t))
  next_relies loaded fill own Get t r = looked loaded Get (now.next t) (Ended Absent) (over_last g c hashed.lawful begun since may k t r.1 r.0 r.2)
      (next_come g c hashed.lawful begun since may k t r.1 r.0 r.2)
  next_relies loaded fill own (Insert replace) t r = absurd r
  next_relies loaded fill own RemoveIf t r = looked loaded RemoveIf (now.next t) (Ended Absent)
      (over_last g c hashed.lawful begun since may k t r.1 r.0 r.2) (next_come g c hashed.lawful begun since may k t r.1 r.0 r.2)
  next_relies loaded fill own Compute t r =
      looked loaded Compute (now.next t) (lacks fill (After t))
      (λ none. lacks_relies g c begun since k loaded fill own (After t) (r.1, r.2) (over_last g c hashed.lawful begun since may k t r.1 r.0 r.2 none))
      (next_come g c hashed.lawful begun since may k t r.1 r.0 r.2)

  -- a call that needs a next table may fail
  growing_refused : (loaded : LoadedPairs P) (task : Task) (need : Need) → MayNeed task need → (refused : _)
      → ReliesStage g c begun since k loaded task (Ended (Reply_refused refused))
  growing_refused loaded Get need r refused = absurd r
  growing_refused loaded (Insert replace) need r refused = tt
  growing_refused loaded RemoveIf need r refused = tt
  growing_refused loaded Compute need r refused = tt

  -- a call that may insert may fail
  refusal_relies : (loaded : LoadedPairs P) (task : Task) → MayInsert task → (refused : _)
      → ReliesStage g c begun since k loaded task (Ended (Reply_refused refused))
  refusal_relies loaded Get w refused = absurd w
  refusal_relies loaded (Insert replace) w refused = tt
  refusal_relies loaded RemoveIf w refused = absurd w
  refusal_relies loaded Compute w refused = tt

  -- a call that writes inserts
  writer : (loaded : LoadedPairs P) (task : Task) (write : Write) → ReliesWriting g c begun since k loaded task write → MayInsert task
  writer loaded Get write r = r
  writer loaded (Insert replace) write r = tt
  writer loaded RemoveIf write r = r
  writer loaded Compute write r = absurd r

  -- a compute may
  computer : (task : Task) → IsComputer task → MayInsert task
  computer Get is = is
  computer (Insert replace) is = tt
  computer RemoveIf is = is
  computer Compute is = tt

  -- the word at a place of the search
  abbrev word_at : Place → ℕ
  word_at at = code g c (now.slot at.table at.probe.i)

  -- the pairs that the machine has loaded after it read that word
  abbrev told_at : Place → LoadedPairs P → LoadedPairs P
  told_at at loaded = told_word (now.slot at.table at.probe.i) loaded

  -- the word that was found at a place
  look_relies : (m : Machine) → m.hash ≡ c.hash k → IsModeOf m.mode g.blocking → (loaded : LoadedPairs P)
      → ReliesLoaded g c begun since k loaded m.made m.remembered → (at : Place) → IsAt g c begun since k at
      → ReliesStage g c begun since k (told_at at loaded) m.task (goes_as m.task m.mode m.remembered (look_seen at (word_at at)))
  look_relies m hash mode loaded own at r =
      let own' = loaded_told g c begun since k loaded m.made m.remembered own (told_at at loaded).last in
      goes_relies g c hashed begun since may k (told_at at loaded) m.remembered own'.fill_is own'.choice_is m.task m.mode mode
      (look_seen at (word_at at)) (looks g c hashed begun since may k at r loaded)

  -- an insertion that writes is valid at its place
  write_stands : (loaded : LoadedPairs P) (task : Task) (write : Write) → ReliesWriting g c begun since k loaded task write → IsAt g c begun since k write.place
  write_stands loaded Get write r = absurd r
  write_stands loaded (Insert replace) write r = r.stands
  write_stands loaded RemoveIf write r = absurd r
  write_stands loaded Compute write r = absurd r

  -- a claimed pair whose hint was written is the reply
  noted : (loaded : LoadedPairs P) (task : Task) (claimed : Claimed) → MayInsert task × HasClaimed g c begun since k loaded claimed
      → ReliesStage g c begun since k loaded task (Ended (Inserted claimed.pair))
  noted loaded Get claimed r = absurd r.0
  noted loaded (Insert replace) claimed r = r.1.pair
  noted loaded RemoveIf claimed r = absurd r.0
  noted loaded Compute claimed r = r.1.pair

  -- the key of a slot stays
  keys_last : (es : List (Exchange P)) → AllAllowed g start (begun ++ (since ++ es)) → KeysLast g c begun since k (since ++ es)
  keys_last es all t x key r = key_stable g now (run (begun ++ (since ++ es)) start) (state_later g c hashed begun since es all k) t x key r

  -- the proof obligation after an answer
  abbrev pub Learned : Machine → Answer → List (Exchange P) → LoadedPairs P → Type 0
  Learned m answer es loaded' = AllAllowed g start (begun ++ (since ++ es)) × Relies g c begun (since ++ es) k (after m answer) loaded'

  -- by an equal answer, and equal loaded pairs
  answered : (m : Machine) (answer answer' : Answer) (es : List (Exchange P)) (loaded' loaded'' : LoadedPairs P) → answer ≡ answer'
      → loaded' ≡ loaded'' → Learned m answer' es loaded'' → Learned m answer es loaded'
  answered m answer answer' es loaded' loaded'' a h r = subst (λ y. Learned m y es loaded') (sym a) (subst (λ y. Learned m answer' es y) (sym h) r)

  -- if nothing was exchanged
  quiet : (m : Machine) (answer answer' : Answer) (es : List (Exchange P)) (loaded' loaded'' : LoadedPairs P) → answer ≡ answer' → es ≡ []
      → loaded' ≡ loaded'' → Relies g c begun since k (after m answer') loaded'' → Learned m answer es loaded'
  quiet m answer answer' es loaded' loaded'' a e h r =
      let same : since ≡ since ++ es = sym (ap (λ l. since ++ l) e ∙ append-nil since) in
      answered m answer answer' es loaded' loaded'' a h
      (subst (λ l. AllAllowed g start (begun ++ l)) same may, subst (λ l. Relies g c begun l k (after m answer') loaded'') same r)

  module _ (m : Machine) (hash : m.hash ≡ c.hash k) (mode : IsModeOf m.mode g.blocking) (loaded : LoadedPairs P) where
    -- the machine in a stage
    abbrev in_stage : Made → Stage → Machine
    in_stage made stage = record m { made = made; state = stage }

    -- the facts that the machine relies on in a stage, if it may remember something else
    relies_held : (loaded' : LoadedPairs P) (made : Made) (held : Remembered) → ReliesLoaded g c begun since k loaded' made held → (stage : Stage)
        → ReliesStage g c begun since k loaded' m.task stage
        → Relies g c begun since k (record m { made = made; remembered = held; state = stage }) loaded'
    relies_held loaded' made held r stage s = record { hash = hash; mode = mode; made = r; stage = s }

    -- the facts about the pairs that it has made, and about those that it remembers
    abbrev Own : LoadedPairs P → Made → Type 0
    Own loaded' made = ReliesLoaded g c begun since k loaded' made m.remembered

    -- if it remembers the same
    relies : (loaded' : LoadedPairs P) (made : Made) → Own loaded' made → (stage : Stage) → ReliesStage g c begun since k loaded' m.task stage
        → Relies g c begun since k (in_stage made stage) loaded'
    relies loaded' made r stage s = relies_held loaded' made m.remembered r stage s

    -- a failure is the reply
    refusal : (made : Made) → Own loaded made → MayInsert m.task → (refused : _)
        → Relies g c begun since k (in_stage made (Ended (Reply_refused refused))) loaded
    refusal made r may_insert refused = relies loaded made r (Ended (Reply_refused refused)) (refusal_relies loaded m.task may_insert refused)

    -- making a part failed, or there was nothing to make
    unmade : (made : Made) (stage : Stage) (answer : Answer) (es : List (Exchange P)) (loaded' : LoadedPairs P) → IsUnmade g c k answer → es ≡ []
        → loaded' ≡ loaded
        → ((refused : _) → Relies g c begun since k (after (in_stage made stage) (Was_refused refused)) loaded)
        → Relies g c begun since k (after (in_stage made stage) Ok_done) loaded
        → Learned (in_stage made stage) answer es loaded'
    unmade made stage answer es loaded' h e s refused ok =
        ⊎_elim
        (λ (n : (refused : _) × (answer ≡ Was_refused refused)). quiet (in_stage made stage) answer (Was_refused n.0) es loaded' loaded n.1 e s (refused n.0))
        (λ (n : answer ≡ Ok_done). quiet (in_stage made stage) answer Ok_done es loaded' loaded n e s ok)
        h

    -- a closure returned, or there was none
    said : (made : Made) (stage : Stage) (answer : Answer) (es : List (Exchange P)) (loaded' : LoadedPairs P) → IsClosureAnswer g c k answer → es ≡ []
        → loaded' ≡ loaded
        → ((agrees : Bool) → Relies g c begun since k (after (in_stage made stage) (Yes agrees)) loaded)
        → ((kind : OpKind) → Relies g c begun since k (after (in_stage made stage) (Op kind)) loaded)
        → Relies g c begun since k (after (in_stage made stage) Ok_done) loaded
        → Learned (in_stage made stage) answer es loaded'
    said made stage answer es loaded' h e s agrees chose ok =
        ⊎_elim
        (λ (y : (agrees : Bool) × (answer ≡ Yes agrees)). quiet (in_stage made stage) answer (Yes y.0) es loaded' loaded y.1 e s (agrees y.0))
        (λ (other : ((kind : OpKind) × (answer ≡ Op kind)) ⊎ (answer ≡ Ok_done)).
        ⊎_elim
        (λ (o : (kind : OpKind) × (answer ≡ Op kind)). quiet (in_stage made stage) answer (Op o.0) es loaded' loaded o.1 e s (chose o.0))
        (λ (n : answer ≡ Ok_done). quiet (in_stage made stage) answer Ok_done es loaded' loaded n e s ok)
        other)
        h

    -- if an exchange was made that changes nothing of the pairs made
    later_relies : (es : List (Exchange P)) → AllAllowed g start (begun ++ (since ++ es)) → (made : Made) → Own loaded made → (stage : Stage)
        → ReliesStage g c begun (since ++ es) k loaded m.task stage → Relies g c begun (since ++ es) k (in_stage made stage) loaded
    later_relies es all made own stage r = record {
      hash = hash;
      mode = mode;
      made = loaded_later g c begun since k (since ++ es) (keys_last es all)
          loaded made m.remembered own;
      stage = r;
    }

    -- a slot's word was exchanged, or another one was found there
    slot_exchanged : (made : Made) → Own loaded made → (stage : Stage) (kind : Option StepKind) (at : Place) (old new : ℕ) → IsAt g c begun since k at
        → (answer : Answer) (es : List (Exchange P)) (loaded' : LoadedPairs P)
        → IsTrueOf g c k now kind loaded (Ask_exchange (Slot at.table at.probe.i) old new) answer es loaded'
        → (word_at at ≡ old → IsSlotAsked g c hashed begun since may k kind at new loaded es → AllAllowed g start (begun ++ (since ++ es))
        × Relies g c begun (since ++ es) k (after (in_stage made stage) Exchanged) loaded)
        → (ReliesStage g c begun since k (told_at at loaded) m.task (goes_as m.task m.mode m.remembered (look_seen at (word_at at)))
        → Relies g c begun since k (after (in_stage made stage) (Found_instead (word_at at))) (told_at at loaded))
        → Learned (in_stage made stage) answer es loaded'
    slot_exchanged made own stage kind at old new r answer es loaded' h done beaten =
        by_test (word_at at == old)
        ((answer ≡ Exchanged) × IsSlotAsked g c hashed begun since may k kind at new loaded es × (loaded' ≡ loaded))
        ((answer ≡ Found_instead (word_at at)) × (es ≡ []) × (loaded' ≡ told_at at loaded))
        (Learned (in_stage made stage) answer es loaded') h
        (λ there h'. answered (in_stage made stage) answer Exchanged es loaded' loaded h'.0 h'.2 (done (eqb-true (word_at at) old there) h'.1))
        (λ other h'. quiet (in_stage made stage) answer (Found_instead (word_at at)) es loaded' (told_at at loaded) h'.0 h'.1 h'.2
        (beaten (look_relies (in_stage made stage) hash mode loaded own at r)))

    -- another word was found, and the pairs made are as before
    told_relies_at : (made : Made) → Own loaded made → (at : Place) (stage : Stage) → ReliesStage g c begun since k (told_at at loaded) m.task stage
        → Relies g c begun since k (in_stage made stage) (told_at at loaded)
    told_relies_at made own at stage r = relies (told_at at loaded) made
        (loaded_told g c begun since k loaded made m.remembered own (told_at at loaded).last) stage r

    -- the facts about the pairs made, after the closure's result
    decided_made : (made : Made) → Own loaded made → (removal : Removal) (kind : OpKind)
        → ReliesLoaded g c begun since k loaded (made_decided m.task kind made) (decided_held m.task m.remembered removal kind)
    decided_made made own removal kind = decided_loaded g c begun since k loaded (made_decided m.task kind made) m.remembered (answered_of m.task)
        m.task removal kind
      where
        answered_of : (task : Task) → ReliesLoaded g c begun since k loaded (made_decided task kind made) m.remembered
        answered_of Get = own
        answered_of (Insert replace) = own
        answered_of RemoveIf = own
        answered_of Compute = loaded_answered g c begun since k loaded made m.remembered own kind

    module _ (made : Made) (own : Own loaded made) (stage : Stage) (r : ReliesStage g c begun since k loaded m.task stage) (inserts : MayInsert m.task) where
      -- `count` numbers were taken for pairs: a further one is free, or the call ends
      numbered_relies : (count : ℕ) → Relies g c begun since k (in_stage (number_told (told made count) made) (numbered (told made count) stage)) loaded
      numbered_relies count = by_told (told made count) (told_relies g c begun since k loaded made m.remembered own count)
        where
          by_told : (o : Option Made) → ReliesTold g c begun since k loaded made m.remembered own o
              → Relies g c begun since k (in_stage (number_told o made) (numbered o stage)) loaded
          by_told None is = refusal made own inserts Limit
          by_told (Some next) is = relies loaded next is stage r

      -- one was taken
      taken_learned : (answer : Answer) (es : List (Exchange P)) (loaded' : LoadedPairs P) → ((e : Exchange P) × (e ≡ Take now.made) × (es ≡ e ∷ []))
          → MatchOption g.most (Unit {0}) (λ most. now.made < most)
          → (machine : Machine) → Relies g c begun since k machine loaded → AllAllowed g start (begun ++ (since ++ es))
          × Relies g c begun (since ++ es) k machine loaded
      taken_learned answer es loaded' (e, is, one) free machine s =
          let all : AllAllowed g start (begun ++ (since ++ Take now.made ∷ [])) = one_more g c hashed begun since may k (Take now.made) (refl, free) in
          subst (λ l. AllAllowed g start (begun ++ (since ++ l)) × Relies g c begun (since ++ l) k machine loaded) (sym (one ∙ ap (λ y. y ∷ []) is))
          (all, relies_stable g c hashed begun since (Take now.made ∷ []) all k machine loaded s)

      module _ (old : ℕ) (answer : Answer) (es : List (Exchange P)) (loaded' : LoadedPairs P)
          (as_loaded : (count : ℕ) → Relies g c begun since k (after (in_stage made stage) (Word_read count)) loaded)
          (found : (count : ℕ) → Relies g c begun since k (after (in_stage made stage) (Found_instead count)) loaded)
          (took : Relies g c begun since k (after (in_stage made stage) Exchanged) loaded)
          (refused : (refused : Refused) → Relies g c begun since k (after (in_stage made stage) (Was_refused refused)) loaded)
          (ok : Relies g c begun since k (after (in_stage made stage) Ok_done) loaded)
          (logged : (next : Made) → grown made old ≡ On next → Own loaded next → (n : ℕ)
          → Relies g c begun since k (after (in_stage made stage) (Made_number n)) loaded)
          (paired_so : grown made old ≡ Pair (paired made) → (q : P) → IsNewFor g c hashed begun since k loaded old q
          → Relies g c begun since k (after (in_stage made stage) (Made_number (c.number q))) (record loaded { made = q ∷ loaded.made })) where
        -- the key or the value is stored in the arena
        logs : (next : Made) → grown made old ≡ On next → Own loaded next → (IsUnmade g c k answer ⊎ ((n : ℕ) × (answer ≡ Made_number n)))
            × ((es ≡ []) × (loaded' ≡ loaded)) → Learned (in_stage made stage) answer es loaded'
        logs next is own' h =
            ⊎_elim
            (λ u. unmade made stage answer es loaded' u h.1.0 h.1.1 refused ok)
            (λ (i : (n : ℕ) × (answer ≡ Made_number n)).
            quiet (in_stage made stage) answer (Made_number i.0) es loaded' loaded i.1 h.1.0 h.1.1 (logged next is own' i.0))
            h.0

        -- the pair is
        pairs : grown made old ≡ Pair (paired made) → (New : P → Type 0) → ((q : P) → New q → IsNewFor g c hashed begun since k loaded old q)
            → (IsUnmade g c k answer × ((es ≡ []) × (loaded' ≡ loaded)))
            ⊎ ((q : P) × New q × ((answer ≡ Made_number (c.number q)) × (es ≡ []) × (loaded' ≡ record loaded { made = q ∷ loaded.made })))
            → Learned (in_stage made stage) answer es loaded'
        pairs is New so h =
            ⊎_elim
            (λ u. unmade made stage answer es loaded' u.0 u.1.0 u.1.1 refused ok)
            (λ (q : (q : P) × New q × ((answer ≡ Made_number (c.number q)) × (es ≡ []) × (loaded' ≡ record loaded { made = q ∷ loaded.made }))).
            quiet (in_stage made stage) answer (Made_number (c.number q.0)) es loaded' (record loaded { made = q.0 ∷ loaded.made }) q.2.0 q.2.1 q.2.2
            (paired_so is q.0 (so q.0 q.1)))
            h

        -- for the call's own key
        own_learns : made.number ≡ Taken → (old == 0) ≡ true → (keyed valued : Bool) → made.keyed ≡ keyed → made.valued ≡ valued
            → IsTrueOf g c k now (number_kind made.number) loaded (own_ask keyed valued) answer es loaded' → Learned (in_stage made stage) answer es loaded'
        own_learns t b false valued ke va h = logs (record made { keyed = true }) (grown_is made old true false valued t b ke va)
            (loaded_keyed g c begun since k loaded made m.remembered own) h
        own_learns t b true false ke va h = logs (record made { valued = true }) (grown_is made old true true false t b ke va)
            (loaded_valued g c begun since k loaded made m.remembered own) h
        own_learns t b true true ke va h = pairs (grown_is made old true true true t b ke va) (λ q. g.key q ≡ k)
            (λ q mine. subst (λ y. MatchBool y (g.key q ≡ k) (IsOfLast g c k loaded (pair_of old) q)) (sym b) mine) h

        -- for the key of a pair that was met
        of_learns : made.number ≡ Taken → (old == 0) ≡ false → (valued : Bool) → made.valued ≡ valued
            → IsTrueOf g c k now (number_kind made.number) loaded (of_ask valued old) answer es loaded' → Learned (in_stage made stage) answer es loaded'
        of_learns t b false va h = logs (record made { valued = true }) (grown_is made old false made.keyed false t b refl va)
            (loaded_valued g c begun since k loaded made m.remembered own) h
        of_learns t b true va h = pairs (grown_is made old false made.keyed true t b refl va) (λ q. IsOfLast g c k loaded (pair_of old) q)
            (λ q last. subst (λ y. MatchBool y (g.key q ≡ k) (IsOfLast g c k loaded (pair_of old) q)) (sym b) last) h

        make_learns : made.number ≡ Taken → (b : Bool) → (old == 0) ≡ b
            → IsTrueOf g c k now (number_kind made.number) loaded (cond b (own_ask made.keyed made.valued) (of_ask made.valued old)) answer es loaded'
            → Learned (in_stage made stage) answer es loaded'
        make_learns t true b h = own_learns t b made.keyed made.valued refl refl h
        make_learns t false b h = of_learns t b made.valued refl h

        -- the number is taken first
        number_learns : (number : Number) → made.number ≡ number → ReliesNumber g c begun since k number
            → IsTrueOf g c k now (number_kind number) loaded (number_ask number made old) answer es loaded' → Learned (in_stage made stage) answer es loaded'
        number_learns Wanted t f h = quiet (in_stage made stage) answer (Word_read now.made) es loaded' loaded h.0 h.1 h.2 (as_loaded now.made)
        number_learns (Free count) t f h =
            by_test (now.made == count)
            ((answer ≡ Exchanged) × ((e : Exchange P) × (e ≡ Take now.made) × (es ≡ e ∷ [])) × (loaded' ≡ loaded))
            ((answer ≡ Found_instead now.made) × (es ≡ []) × (loaded' ≡ loaded))
            (Learned (in_stage made stage) answer es loaded') h
            (λ there h'.
            answered (in_stage made stage) answer Exchanged es loaded' loaded h'.0 h'.2
            (taken_learned answer es loaded' h'.1 (subst (λ n. MatchOption g.most (Unit {0}) (λ most. n < most)) (sym (eqb-true now.made count there))
            f) (after (in_stage made stage) Exchanged) took))
            (λ other h'. quiet (in_stage made stage) answer (Found_instead now.made) es loaded' loaded h'.0 h'.1 h'.2 (found now.made))
        number_learns Taken t f h = make_learns t (old == 0) refl
            (subst (λ n. IsTrueOf g c k now (number_kind n) loaded (cond (old == 0) (own_ask made.keyed made.valued) (of_ask made.valued old)) answer es
            loaded') (sym t) h)

        pair_learns : IsTrueOf g c k now (number_kind made.number) loaded (pair_ask made old) answer es loaded' → Learned (in_stage made stage) answer es loaded'
        pair_learns h = number_learns made.number refl own.number_is h

    -- a compute makes a pair of its closure's result
    pairing_learns : (made : Made) → Own loaded made → (purpose : Purpose) → ReliesStage g c begun since k loaded m.task (Pairing purpose)
        → (answer : Answer) (es : List (Exchange P)) (loaded' : LoadedPairs P)
        → IsTrueOf g c k now (number_kind made.number) loaded (pair_ask made (in_place_of purpose)) answer es loaded'
        → Learned (in_stage made (Pairing purpose)) answer es loaded'
    pairing_learns made own purpose r answer es loaded' h =
        pair_learns made own (Pairing purpose) r (computer m.task r.0) (in_place_of purpose) answer es loaded'
        (numbered_relies made own (Pairing purpose) r (computer m.task r.0))
        (numbered_relies made own (Pairing purpose) r (computer m.task r.0))
        (relies loaded (taken made) (taken_relies g c begun since k loaded made m.remembered own) (Pairing purpose) r)
        (refusal made own (computer m.task r.0))
        (relies loaded made own (Pairing purpose) r)
        (λ next is own' n. subst (λ G. Relies g c begun since k (paired_machine G n) loaded) (sym is) (relies loaded next own' (Pairing purpose) r))
        (λ is q new.
        let told_loaded : LoadedPairs P = record loaded { made = q ∷ loaded.made } in
        let to = purpose_new g c hashed begun since k loaded q purpose r.1 new in
        let more = loaded_more g c begun since k loaded (paired made) m.remembered (paired_relies g c begun since k loaded made m.remembered own) q to.0 in
        subst (λ G. Relies g c begun since k (paired_machine G (c.number q)) told_loaded) (sym is)
        (relies_held told_loaded (paired made) (with_pair m.remembered purpose (c.number q))
        (pair_relies g c begun since k told_loaded (paired made) m.remembered more purpose (c.number q) to.1)
        (provides purpose (c.number q)) (provides_relies g c begun since k told_loaded m.task r.0 purpose
        (purpose_more g c hashed begun since k loaded q purpose r.1) (c.number q) to.1)))
        h
      where
        paired_machine : Grown → ℕ → Machine
        paired_machine G n = record m { made = made_to_pair G; remembered = paired_held G m.remembered purpose n; state = paired_state G purpose n }

    -- an insertion makes its pair and writes it
    write_learns : (made : Made) → Own loaded made → (write : Write) → ReliesWriting g c begun since k loaded m.task write → (served : Option ℕ)
        → serves made write ≡ served → (answer : Answer) (es : List (Exchange P)) (loaded' : LoadedPairs P)
        → IsTrueOf g c k now (kind_asked made (Writing write)) loaded (asks made m.hash (Writing write)) answer es loaded'
        → Learned (in_stage made (Writing write)) answer es loaded'
    write_learns made own write r None is answer es loaded' h =
        let inserts : MayInsert m.task = writer loaded m.task write r in
        pair_learns made own (Writing write) r inserts write.old answer es loaded'
        (λ count. subst (λ o. Relies g c begun since k (record m { made = write_made o made count; state = write_told o made write count }) loaded)
        (sym is) (numbered_relies made own (Writing write) r inserts count))
        (λ count. subst (λ o. Relies g c begun since k
        (record m { made = write_made o made count; state = write_lost o (in_stage made (Writing write)) write count }) loaded) (sym is)
        (numbered_relies made own (Writing write) r inserts count))
        (subst (λ o. Relies g c begun since k (record m { made = write_taken o made; state = exchanged o write }) loaded) (sym is)
        (relies loaded (taken made) (taken_relies g c begun since k loaded made m.remembered own) (Writing write) r))
        (λ refused. subst (λ o. Relies g c begun since k (record m { made = made; state = refuses o refused write }) loaded) (sym is)
        (refusal made own inserts refused))
        (relies loaded made own (Writing write) r)
        (λ next grows own' n. subst (λ o. Relies g c begun since k (record m { made = write_grown o made write n; state = Writing write }) loaded)
        (sym is) (subst (λ G. Relies g c begun since k (record m { made = made_to_write G write n; state = Writing write }) loaded) (sym grows)
        (relies loaded next own' (Writing write) r)))
        (λ grows q new.
        let told_loaded : LoadedPairs P = record loaded { made = q ∷ loaded.made } in
        let n : ℕ = c.number q in
        subst (λ o. Relies g c begun since k (record m { made = write_grown o made write n; state = Writing write }) told_loaded) (sym is)
        (subst (λ G. Relies g c begun since k (record m { made = made_to_write G write n; state = Writing write }) told_loaded) (sym grows)
        (relies told_loaded (with_pair_at (paired made) write n)
        (writing_paired g c hashed begun since k loaded q (paired made) m.remembered (paired_relies g c begun since k loaded made m.remembered own)
        m.task write r new) (Writing write) (writing_more g c hashed begun since k loaded q m.task write r))))
        (subst (λ o. IsTrueOf g c k now (served_kind o made write) loaded (served_ask o write made) answer es loaded') is h)
    write_learns made own write r (Some i) is answer es loaded' h =
        slot_exchanged made own (Writing write) (Some (write_kind write)) write.place write.old (live_word i) (write_stands loaded m.task write r)
        answer es loaded'
        (subst (λ o. IsTrueOf g c k now (served_kind o made write) loaded (served_ask o write made) answer es loaded') is h)
        (λ there asked.
        let done = writes g c hashed begun since may k loaded i (live_word i) m.task write
        (served_pair g c begun since k loaded made m.remembered own write i is) r there es asked in (
          done.0,
          subst (λ o. Relies g c begun (since ++ es) k (record m { made = write_taken o made; state = exchanged o write }) loaded) (sym is)
              (later_relies es done.0 made own (written write i) done.1),
        ))
        (λ on.
        subst (λ o. Relies g c begun since k (record m {
          made = write_made o made (word_at write.place);
          state = write_lost o
              (in_stage made (Writing write)) write (word_at write.place);
        }) (told_at write.place loaded)) (sym is)
        (told_relies_at made own write.place (goes_as m.task m.mode m.remembered (look_seen write.place (word_at write.place))) on))

    -- in each stage
    learns_in : (made : Made) → Own loaded made → (stage : Stage) → ReliesStage g c begun since k loaded m.task stage
        → (answer : Answer) (es : List (Exchange P)) (loaded' : LoadedPairs P)
        → IsTrueOf g c k now (kind_asked made stage) loaded (asks made m.hash stage) answer es loaded' → Learned (in_stage made stage) answer es loaded'
    learns_in made n AtRoot r answer es loaded' h =
        quiet (in_stage made AtRoot) answer (Word_read now.root) es loaded' loaded h.0 h.1 h.2
        (relies loaded made n (at_root m.task m.remembered.fill now.root) (root_relies loaded m.remembered.fill n.fill_is m.task))
    learns_in made n Making r answer es loaded' h =
        ⊎_elim
        (λ u. unmade made Making answer es loaded' u h.1.0 h.1.1 (refusal made n r) (relies loaded made n Making r))
        (λ t. quiet (in_stage made Making) answer (Made_number t.0) es loaded' loaded t.2 h.1.0 h.1.1 (relies loaded made n (Opening t.0) (r, t.1)))
        h.0
    learns_in made n (Opening t) r answer es loaded' h =
        by_test (now.root == 0)
        ((answer ≡ Exchanged) × ((e : Exchange P) × IsAsked g c k (Some kinds.Open) Root t now loaded e × (es ≡ e ∷ [])) × (loaded' ≡ loaded))
        ((answer ≡ Found_instead now.root) × (es ≡ []) × (loaded' ≡ loaded))
        (Learned (in_stage made (Opening t)) answer es loaded') h
        (λ none h'.
        let done = opens g c hashed begun since may k t r.1 (eqb-true now.root 0 none) loaded es h'.1 in
        answered (in_stage made (Opening t)) answer Exchanged es loaded' loaded h'.0 h'.2 (
          done.0,
          record {
            hash = hash;
            mode = mode;
            made = loaded_later g c begun since k (since ++ es) (keys_last es done.0) loaded made
                m.remembered n;
            stage = done.1;
          },
        ))
        (λ some h'. quiet (in_stage made (Opening t)) answer (Found_instead now.root) es loaded' loaded h'.0 h'.1 h'.2
        (relies loaded made n (Searching (Sizing now.root)) (root_come g c hashed.lawful begun since may k (more_than_none now.root some))))
    learns_in made n (Searching (Sizing t)) r answer es loaded' h =
        let size = h.0 in
        quiet (in_stage made (Searching (Sizing t))) answer (Size (g.size t) size.0) es loaded' loaded size.2 h.1.0 h.1.1
        (relies loaded made n (Searching (Looking (first_place m.hash t (g.size t) size.0))) (first g c hashed begun since k t size.0 m.hash r size.1 hash))
    learns_in made n (Searching (Looking at)) r answer es loaded' h =
        let hint : ℕ = h.0.0 in
        quiet (in_stage made (Searching (Looking at))) answer (Word_read hint) es loaded' loaded h.0.2 h.1.0 h.1.1
        (relies loaded made n (goes_as m.task m.mode m.remembered (hinted at m.hash hint))
        (goes_relies g c hashed begun since may k loaded m.remembered n.fill_is n.choice_is m.task m.mode mode (hinted at m.hash hint)
        (hints g c hashed begun since may k at r loaded m.hash hint hash h.0.1)))
    learns_in made n (Searching (Reading at)) r answer es loaded' h =
        quiet (in_stage made (Searching (Reading at))) answer (Word_read (word_at at)) es loaded' (told_at at loaded) h.0 h.1 h.2
        (relies (told_at at loaded) made (loaded_told g c begun since k loaded made m.remembered n (told_at at loaded).last)
        (goes_as m.task m.mode m.remembered (look_seen at (word_at at))) (look_relies (in_stage made (Searching (Reading at))) hash mode loaded n at r))
    learns_in made n (Searching (Comparing at word)) r answer es loaded' h =
        let p : P = r.0 in
        let met : HasMet g c begun since k at word p = r.2 in
        let same : Bool = g.same k (g.key p) in
        let number : c.number p ≡ pair_of word = sym (ap pair_of met.as_loaded ∙ (code_pair g c hashed.coding met.was p met.names)) in
        quiet (in_stage made (Searching (Comparing at word))) answer (Yes same) es loaded' loaded (h.0 p r.1 number) h.1.0 h.1.1
        (relies loaded made n (goes_as m.task m.mode m.remembered (at_yes (Comparing at word) same))
        (goes_relies g c hashed begun since may k loaded m.remembered n.fill_is n.choice_is m.task m.mode mode (at_yes (Comparing at word) same)
        (compared g c hashed begun since may k at word p met loaded r.1 same refl)))
    learns_in made n (Writing write) r answer es loaded' h = write_learns made n write r (serves made write) refl answer es loaded' h
    learns_in made n (Offering gap) r answer es loaded' h =
        said made (Offering gap) answer es loaded' h.0 h.1.0 h.1.1
        (λ agrees. relies loaded made n (Offering gap) r)
        (λ kind. relies loaded (answered_made kind made) (loaded_answered g c begun since k loaded made m.remembered n kind) (offered gap kind)
        (offered_relies g c begun since k loaded m.task r.0 gap r.1 kind))
        (relies loaded made n (Offering gap) r)
    learns_in made n (Showing removal) r answer es loaded' h =
        said made (Showing removal) answer es loaded' h.0 h.1.0 h.1.1
        (λ agrees. relies loaded made n (judged m.task removal agrees) (judged_relies g c hashed begun since may k loaded removal r.1 m.task r.0 agrees))
        (λ kind.
        relies_held loaded (made_decided m.task kind made) (decided_held m.task m.remembered removal kind) (decided_made made n removal kind)
        (decided m.task removal kind) (decided_relies g c begun since k loaded removal r.1 m.task r.0 kind))
        (relies loaded made n (Showing removal) r)
    learns_in made n (Pairing purpose) r answer es loaded' h = pairing_learns made n purpose r answer es loaded' h
    learns_in made n (Putting put) r answer es loaded' h =
        slot_exchanged made n (Putting put) (Some (write_kind put.write)) put.write.place put.write.old (live_word put.pair) r.1.stands answer es loaded' h
        (λ there asked. let done = puts g c hashed begun since may k loaded m.task r.0 put r.2 (live_word put.pair) r.1 there es asked in
        (done.0, later_relies es done.0 made n (written put.write put.pair) done.1))
        (told_relies_at made n put.write.place (goes_as m.task m.mode m.remembered (look_seen put.write.place (word_at put.write.place))))
    learns_in made n (Burying removal) r answer es loaded' h =
        slot_exchanged made n (Burying removal) (Some kinds.Bury) removal.place removal.word (grave_word removal.word) r.1.met.stands answer es loaded' h
        (λ there asked. let all = buries g c hashed begun since may k loaded removal r.1 (grave_word removal.word) es asked in
        (all, later_relies es all made n (Uncounting (pair_of removal.word)) r.0))
        (λ on.
        told_relies_at made n removal.place (beaten (in_stage made (Burying removal)) removal (word_at removal.place))
        (beaten_relies g c hashed begun since may k loaded removal r.1 (in_stage made (Burying removal)) (told_at removal.place loaded)
        (word_at removal.place) refl m.task r.0 on))
    learns_in made n (Uncounting i) r answer es loaded' h = quiet (in_stage made (Uncounting i)) answer Ok_done es loaded' loaded h.0 h.1.0 h.1.1
        (relies loaded made n (Ended (Removed i)) (uncounted g c hashed begun since may k loaded m.task i r))
    learns_in made n (Counting i) r answer es loaded' h = quiet (in_stage made (Counting i)) answer Ok_done es loaded' loaded h.0 h.1.0 h.1.1
        (relies loaded made n (Noting i) r)
    learns_in made n (Noting i) r answer es loaded' h = quiet (in_stage made (Noting i)) answer Ok_done es loaded' loaded h.0 h.1.0 h.1.1
        (relies loaded made n (Ended (Inserted i.pair)) (noted loaded m.task i r))
    learns_in made n (Leaving t) r answer es loaded' h =
        quiet (in_stage made (Leaving t)) answer (Word_read (now.next t)) es loaded' loaded h.0 h.1 h.2
        (relies loaded made n (left m.task m.remembered.fill t (now.next t)) (next_relies loaded m.remembered.fill n.fill_is m.task t r))
    learns_in made n (Growing need) r answer es loaded' h = quiet (in_stage made (Growing need)) answer (Word_read (now.next (needed need))) es
        loaded' loaded h.0 h.1 h.2 (relies loaded made n (Ended (Reply_refused Capacity)) (growing_refused loaded m.task need r.0 Capacity))
    learns_in made n (Ended reply) r answer es loaded' h = quiet (in_stage made (Ended reply)) answer Ok_done es loaded' loaded h.0 h.1.0 h.1.1
        (relies loaded made n (Ended reply) r)

  -- for the whole machine
  pub machine_learns : (m : Machine) (loaded : LoadedPairs P) → Relies g c begun since k m loaded
      → (answer : Answer) (es : List (Exchange P)) (loaded' : LoadedPairs P) → IsTrueOf g c k now (kind_of_ask m) loaded (ask_of m) answer es loaded'
      → Learned m answer es loaded'
  machine_learns m loaded r answer es loaded' h = learns_in m r.hash r.mode loaded m.made r.made m.state r.stage answer es loaded' h
