-- The facts that a call over a chain relies on hold again after an answer that is true of the
-- words.
use Rattle.std.proofs.Common.{◌≡◌, inl, inr, ℕ, ◌<◌, ◌==◌, Bool, false, cond, Option, Some, List}
use Rattle.std.proofs.Common.{[], ◌∷◌, ◌++◌, append-nil, refl, sym, ap, ◌∙◌, subst, append_assoc}
use Rattle.std.proofs.lemmas.Bool.{cond_both}
use Rattle.papaya_words.specs.declared.resize_mode.ResizeMode.{ResizeMode}
use Rattle.papaya_words.specs.declared.resize_mode.ResizeMode.TheVariants.{Incremental, Blocking}
use Rattle.papaya_call.specs.declared.ask.Answer.{Answer as Call_answer}
use Rattle.papaya_call.specs.declared.ask.Answer.TheVariants.{Word as Word_read, Exchanged}
use Rattle.papaya_call.specs.declared.ask.Answer.TheVariants.{Found as Found_instead, Yes, Op, Size}
use Rattle.papaya_call.specs.declared.ask.Answer.TheVariants.{Made as Made_number, Ok as Ok_done}
use Rattle.papaya_call.specs.declared.ask.Answer.TheVariants.{Refused as Was_refused}
use Rattle.papaya_call.specs.declared.ask.StepKind.{StepKind}
use Rattle.papaya_call.specs.declared.call.Task.{Task}
use Rattle.papaya_call.specs.declared.call.Task.TheVariants.{Get, Insert, RemoveIf, Compute}
use Rattle.papaya_call.specs.declared.machine.Machine.{Machine as Call_machine}
use Rattle.papaya_call.specs.declared.machine.State.{State as Stage}
use Rattle.papaya_call.specs.declared.machine.State.TheVariants.{Leaving, Growing}
use Rattle.papaya_call.specs.declared.need.Need.{Need}
use Rattle.papaya_call.specs.Machine.{IsChanger, needed}
use Rattle.papaya_call.specs.Machine as call_machine
use Rattle.papaya_call.specs.declared.copy_ask.CopyAsk.{CopyAsk}
use Rattle.papaya_call.specs.declared.copy_ask.CopyAsk.TheVariants.{Load, Exchange as Ask_exchange}
use Rattle.papaya_call.specs.declared.copy_ask.CopyAsk.TheVariants.{SizeOf, HashOf, SamePair, Count}
use Rattle.papaya_call.specs.declared.copy_ask.CopyAsk.TheVariants.{MakeTable, LoadHint, WriteHint}
use Rattle.papaya_call.specs.declared.copy.copying.Aim.TheVariants as aims
use Rattle.papaya_call.specs.declared.copy.copying.Copying.{Copying}
use Rattle.papaya_call.specs.declared.copy.copying.Copying.TheVariants.{Stepping}
use Rattle.papaya_call.specs.declared.copy.step.Step.TheVariants.{AtRoot}
use Rattle.papaya_call.specs.declared.copy.link.Link.{Link}
use Rattle.papaya_call.specs.declared.copy.link.Link.TheVariants as links
use Rattle.papaya_call.specs.Copying.{copying_ask, copying_follows, copying_kind}
use Rattle.papaya_call.specs.Link.{follows, link_ask, link_kind}
use Rattle.papaya_call.specs.declared.chain.ask.Answer.{Answer}
use Rattle.papaya_call.specs.declared.chain.ask.Answer.TheVariants as answers
use Rattle.papaya_call.specs.declared.chain.machine.Machine.{Machine}
use Rattle.papaya_call.specs.declared.chain.machine.Phase.{Phase}
use Rattle.papaya_call.specs.declared.chain.machine.Phase.TheVariants.{Calling, Linking, Copying as Copying_root}
use Rattle.papaya_call.specs.ChainMachine.{after, aim_for, answered, ask_of, asks_in, called}
use Rattle.papaya_call.specs.ChainMachine.{copying_after, follows_in, follows_of, grows_as, kind_in}
use Rattle.papaya_call.specs.ChainMachine.{kind_of_ask, leaves, link_after, onward, stepped}
use Rattle.papaya_words_law.specs.Allows.{AllAllowed}
use Rattle.papaya_words_law.specs.Code.{Coding, IsHashed}
use Rattle.papaya_words_law.specs.Meaning.{map_left}
use Rattle.papaya_words_law.proofs.Moments.{allowed_append, run-append}
use Rattle.papaya_words_law.proofs.OneMap.{keeping}
use Rattle.papaya_words_law.specs.Exchange.{Setting, State, Exchange, run, start}
use Rattle.papaya_call_law.specs.Copier.{HasWords, IsCopyAsked, ReliesCopied, ReliesCopying, aim_of, last_after, link_in_copying, told_last}
use Rattle.papaya_call_law.specs.Relies as calls
use Rattle.papaya_call_law.specs.TrueAnswers.{word_of}
use Rattle.papaya_call_law.specs.TrueAnswers as call_told
use Rattle.papaya_call_law.proofs.ReliesLearn.{by_test, machine_learns, more_than_none}
use Rattle.papaya_call_law.proofs.ReliesLearnLoaded.{loaded_told}
use Rattle.papaya_call_law.proofs.ReliesNames.{come_on}
use Rattle.papaya_call_law.proofs.ReliesStable.{relies_stable}
use Rattle.papaya_call.proofs.Settings.{settings_stable}
use Rattle.papaya_call_law.specs.Goes.{link_in}
use Rattle.papaya_call_law.specs.ChainRelies.{IsCopyingAll, IsHelping, IsLinking, Relies, ReliesPhase, left_by}
use Rattle.papaya_call_law.specs.ChainAnswers.{IsTrueOfCopy, IsTrueOf, LoadedPairs, told_of}
use Rattle.papaya_call_law.proofs.Aside.{left_come}
use Rattle.papaya_call_law.proofs.CopyTold.{copying_learns}
use Rattle.papaya_call_law.proofs.Making.{link_learns_all}
use Rattle.papaya_call_law.proofs.Onward.{onward_relies}
use Rattle.papaya_call_law.proofs.Outcomes.{all_relies, copied_relies, linked_relies}
use Rattle.papaya_call_law.proofs.Stable.{next_stable}

-- a call that is set aside relies on no pair that it has loaded
aside_stage : {K P : Type 0} (g : Setting K P) (c : Coding K P) (begun since : List (Exchange P)) (k : K) (loaded loaded' : call_told.LoadedPairs P)
    (task : Task) (stage : Stage) (t : ℕ) → left_by stage ≡ Some t → calls.ReliesStage g c begun since k loaded task stage
    → calls.ReliesStage g c begun since k loaded' task stage
aside_stage g c begun since k loaded loaded' task (Leaving u) t e r = r
aside_stage g c begun since k loaded loaded' task (Growing need) t e r = r
aside_stage g c begun since k loaded loaded' task stage t e r = absurd cc

-- an answer of a copy loads at most a pair
copy_loaded : {K P : Type 0} (g : Setting K P) (c : Coding K P) (s : State P) (kind : Option StepKind) (n : ℕ) (loaded : LoadedPairs P)
    (ask : CopyAsk) (answer : Answer) (es : List (Exchange P)) (loaded' : LoadedPairs P) → IsTrueOfCopy g c s kind n loaded ask answer es loaded'
    → (last : Option P) × (loaded'.call ≡ record loaded.call { last = last })
copy_loaded g c s kind n loaded (Load at) answer es loaded' h = (told_last s at loaded.call.last, ap (λ y. y.call) h.2)
copy_loaded {P = P} g c s kind n loaded (Ask_exchange at old new) answer es loaded' h =
    by_test (word_of g c s at == old)
    ((answer ≡ answers.Call Exchanged) × ((e : Exchange P) × IsCopyAsked c kind at new s loaded.kept e × (es ≡ e ∷ [])
    × (loaded' ≡ told_of (last_after e loaded.call.last) loaded)))
    ((answer ≡ answers.Call (Found_instead (word_of g c s at))) × (es ≡ []) × (loaded' ≡ told_of (told_last s at loaded.call.last) loaded))
    ((last : Option P) × (loaded'.call ≡ record loaded.call { last = last })) h
    (λ stands (a, (e, asked, one, h')). (last_after e loaded.call.last, ap (λ y. y.call) h'))
    (λ other (a, none, h'). (told_last s at loaded.call.last, ap (λ y. y.call) h'))
copy_loaded g c s kind n loaded (LoadHint t x) answer es loaded' h = (loaded.call.last, ap (λ y. y.call) h.1.1)
copy_loaded g c s kind n loaded (WriteHint t x hint) answer es loaded' h = (loaded.call.last, ap (λ y. y.call) h.1.1)
copy_loaded g c s kind n loaded (SizeOf t) answer es loaded' h = (loaded.call.last, ap (λ y. y.call) h.1.1)
copy_loaded g c s kind n loaded (HashOf i) answer es loaded' h = (loaded.call.last, ap (λ y. y.call) h.2)
copy_loaded g c s kind n loaded (SamePair i j) answer es loaded' h = (loaded.call.last, ap (λ y. y.call) h.1.1)
copy_loaded g c s kind n loaded Count answer es loaded' h = (loaded.call.last, ap (λ y. y.call) h.1.1)
copy_loaded g c s kind n loaded (MakeTable slots limit chunks) answer es loaded' h = (loaded.call.last, ap (λ y. y.call) h.1.1)

-- a call that needs a next table may change the map
needing_changes : (task : Task) (need : Need) → calls.MayNeed task need → IsChanger task
needing_changes Get need r = r
needing_changes (Insert replace) need r = tt
needing_changes RemoveIf need r = tt
needing_changes Compute need r = tt

module _ {K P : Type 0} (g : Setting K P) (c : Coding K P) (hashed : IsHashed g c) (begun since : List (Exchange P))
    (may : AllAllowed g start (begun ++ since)) (k : K) (loaded : LoadedPairs P) (number : ℕ) (helped : Bool) where
  -- the state after all exchanges
  abbrev now : State P
  now = run (begun ++ since) start

  -- the proof obligation for the machine after an answer
  abbrev pub Learned : Machine → List (Exchange P) → LoadedPairs P → Type 0
  Learned m es loaded' = AllAllowed g start (begun ++ (since ++ es)) × Relies g c begun (since ++ es) k m loaded'

  -- if nothing was exchanged, and no pair was loaded
  quiet : (m : Machine) (es : List (Exchange P)) (loaded' : LoadedPairs P) → es ≡ [] → loaded' ≡ loaded → Relies g c begun since k m loaded
      → Learned m es loaded'
  quiet m es loaded' none same r =
      let later : since ≡ since ++ es = sym (ap (λ l. since ++ l) none ∙ append-nil since) in (
        subst (λ l. AllAllowed g start (begun ++ l)) later may,
        subst (λ h. Relies g c begun (since ++ es) k m h) (sym same)
            (subst (λ l. Relies g c begun l k m loaded) later r),
      )

  -- a call that leaves a table does so without blocking
  leaving_mode : (task : Task) (t : ℕ) → calls.ReliesLeaving g c begun since k task t → g.blocking ≡ false
  leaving_mode Get t r = r.0
  leaving_mode (Insert replace) t r = absurd r
  leaving_mode RemoveIf t r = r.0
  leaving_mode Compute t r = r.0

  -- the machine in a phase
  abbrev at_phase : Call_machine → Phase → Machine
  at_phase call phase = record { call = call; number = number; helped = helped; phase = phase }

  module _ (call : Call_machine) (cut : calls.IsCutAs call.mode g.chunk_of) where
    -- its call in a stage
    abbrev in_stage : Stage → Machine
    in_stage stage = at_phase (record call { state = stage }) Calling

    -- the call continues in phase `Calling`
    steps_on : (stage : Stage) (told : Call_answer) (es : List (Exchange P)) (call' : call_told.LoadedPairs P) (loaded' : LoadedPairs P)
        → loaded' ≡ record loaded { call = call' }
        → AllAllowed g start (begun ++ (since ++ es))
        × calls.Relies g c begun (since ++ es) k (call_machine.after (record call { state = stage }) told) call'
        → Learned (stepped (in_stage stage) told) es loaded'
    steps_on stage told es call' loaded' handed (allowed, r) = (
      allowed,
      subst (λ h. Relies g c begun (since ++ es) k (stepped (in_stage stage) told) h) (sym handed)
          (record {
            cut = subst (λ mode. calls.IsCutAs mode g.chunk_of) (sym (settings_stable (record call { state = stage }) told).0) cut;
            call = r;
            phase = tt;
          }),
    )

    module _ (stage : Stage) (r : calls.Relies g c begun since k (record call { state = stage }) loaded.call) (es : List (Exchange P))
        (call' : call_told.LoadedPairs P) (loaded' : LoadedPairs P) (handed : loaded' ≡ record loaded { call = call' }) (none : es ≡ [])
        (same : call' ≡ loaded.call) (word : ℕ) (inner : Learned (stepped (in_stage stage) (Word_read word)) es loaded') where
      -- no pair was loaded
      as_before : loaded' ≡ loaded
      as_before = handed ∙ ap (λ h. record loaded { call = h }) same

      -- if the next table is there, the call continues in it
      goes_next : g.blocking ≡ false → IsChanger call.task → (t : ℕ) → left_by stage ≡ Some t → word ≡ now.next t → 0 < word
          → Learned (onward (in_stage stage) word) es loaded'
      goes_next inc changes t left is some =
          quiet (onward (in_stage stage) word) es loaded' none as_before
          (subst (λ n. Relies g c begun since k (onward (in_stage stage) n) loaded) (sym is)
          (onward_relies g c hashed begun since may k inc (in_stage stage) loaded cut r changes t left (subst (λ n. 0 < n) is some)))

      -- there is none, or the call continues in it
      either : g.blocking ≡ false → IsChanger call.task → (t : ℕ) → left_by stage ≡ Some t → word ≡ now.next t
          → Learned (cond (word == 0) (stepped (in_stage stage) (Word_read word)) (onward (in_stage stage) word)) es loaded'
      either inc changes t left is =
          cond_both (word == 0) (stepped (in_stage stage) (Word_read word)) (onward (in_stage stage) word) (λ m. Learned m es loaded')
          (λ _. inner)
          (λ more. goes_next inc changes t left is (more_than_none word more))

      -- a call that looks for its key
      leaves_relies : (task : Task) → call.task ≡ task → g.blocking ≡ false → (t : ℕ) → left_by stage ≡ Some t → word ≡ now.next t
          → Learned (leaves (in_stage stage) task word) es loaded'
      leaves_relies Get e inc t left is = inner
      leaves_relies (Insert replace) e inc t left is = either inc (subst IsChanger (sym e) tt) t left is
      leaves_relies RemoveIf e inc t left is = either inc (subst IsChanger (sym e) tt) t left is
      leaves_relies Compute e inc t left is = either inc (subst IsChanger (sym e) tt) t left is

      -- a call that needs the next table
      grows_relies : (mode : ResizeMode) → calls.IsModeOf mode g.blocking → IsChanger call.task → (need : Need) → left_by stage ≡ Some (needed need)
          → word ≡ now.next (needed need) → Learned (grows_as (in_stage stage) mode need word) es loaded'
      grows_relies Blocking blocks changes need left is =
          quiet (record (in_stage stage) { phase = Copying_root (Stepping (aims.All (needed need)) AtRoot) }) es loaded' none as_before
          (record {
            cut = cut;
            call = r;
            phase = inr (record { mode = blocks; changes = changes; table = needed need; left = left; met = needed need; aim = refl; relies = (tt, tt) });
          })
      grows_relies (Incremental chunk) inc changes need left is =
          cond_both (word == 0) (record (in_stage stage) { phase = Linking (links.Sizing (needed need) (needed need) false) })
          (onward (in_stage stage) word) (λ m. Learned m es loaded')
          (λ _. quiet (record (in_stage stage) { phase = Linking (links.Sizing (needed need) (needed need) false) }) es loaded' none as_before
          (record {
            cut = cut;
            call = r;
            phase = record {
              mode = inc;
              changes = changes;
              left = left;
              relies = record {
                on = come_on g c hashed begun since may k (needed need)
                    (left_come g c hashed begun since may k loaded.call call.task stage r.stage (needed need) left);
                rises = tt;
                from = needed need;
                linking = inl (refl, λ b. absurd (cc (b, inc)));
                measures = refl;
              };
            };
          }))
          (λ more. goes_next inc changes (needed need) left is (more_than_none word more))

    -- the call received an answer, in each stage
    called_learns : (stage : Stage) → calls.Relies g c begun since k (record call { state = stage }) loaded.call
        → (told : Call_answer) (es : List (Exchange P)) (call' : call_told.LoadedPairs P) (loaded' : LoadedPairs P) → loaded' ≡ record loaded { call = call' }
        → call_told.IsTrueOf g c k now (call_machine.kind_asked call.made stage) loaded.call (call_machine.asks call.made call.hash stage) told es call'
        → ((answer : Call_answer) → told ≡ answer → Learned (stepped (in_stage stage) answer) es loaded') → Learned (called (in_stage stage) told) es loaded'
    called_learns stage r Exchanged es call' loaded' handed h inner = inner Exchanged refl
    called_learns stage r (Found_instead word) es call' loaded' handed h inner = inner (Found_instead word) refl
    called_learns stage r (Yes same) es call' loaded' handed h inner = inner (Yes same) refl
    called_learns stage r (Op kind) es call' loaded' handed h inner = inner (Op kind) refl
    called_learns stage r (Size slots limit) es call' loaded' handed h inner = inner (Size slots limit) refl
    called_learns stage r (Made_number n) es call' loaded' handed h inner = inner (Made_number n) refl
    called_learns stage r Ok_done es call' loaded' handed h inner = inner Ok_done refl
    called_learns stage r (Was_refused refused) es call' loaded' handed h inner = inner (Was_refused refused) refl
    called_learns (Leaving t) r (Word_read word) es call' loaded' handed h inner =
        let is : word ≡ now.next t = cc h.0 in
        leaves_relies (Leaving t) r es call' loaded' handed h.1 h.2 word (inner (Word_read word) refl) call.task refl
        (leaving_mode call.task t r.stage) t refl is
    called_learns (Growing need) r (Word_read word) es call' loaded' handed h inner =
        let is : word ≡ now.next (needed need) = cc h.0 in
        grows_relies (Growing need) r es call' loaded' handed h.1 h.2 word (inner (Word_read word) refl) call.mode r.mode
        (needing_changes call.task need (r.stage).0) need refl is
    called_learns stage r (Word_read word) es call' loaded' handed h inner = inner (Word_read word) refl

    -- the call relies again on the facts after an answer to the making of the next table, or to the
    -- copy
    module _ (r : calls.Relies g c begun since k call loaded.call) (es : List (Exchange P)) (loaded' : LoadedPairs P) where
      -- the call is still set aside, whatever it loaded last
      aside_later : AllAllowed g start (begun ++ (since ++ es)) → (t : ℕ) → left_by call.state ≡ Some t → (last : Option P)
          → loaded'.call ≡ record loaded.call { last = last } → calls.Relies g c begun (since ++ es) k call loaded'.call
      aside_later allowed t left last told =
          let later = relies_stable g c hashed begun since es allowed k call loaded.call r in
          subst (λ h. calls.Relies g c begun (since ++ es) k call h) (sym told)
          (record {
            hash = later.hash;
            mode = later.mode;
            made = loaded_told g c begun (since ++ es) k loaded.call call.made call.remembered
                later.made last;
            stage = aside_stage g c begun (since ++ es) k loaded.call (record loaded.call { last = last }) call.task call.state t
                left later.stage;
          })

      link_relies : (link : Link) → IsLinking g c begun since k (at_phase call (Linking link)) link → (answer : Answer)
          → (answer ≡ answers.Call Exchanged → HasWords g (Some link))
          → IsTrueOfCopy g c now (link_kind link) (follows link) loaded (link_ask link) answer es loaded'
          → Learned (after (at_phase call (Linking link)) answer) es loaded'
      link_relies link at answer words h =
          let out = link_learns_all g c hashed begun since may call.mode cut call.initial loaded link at.relies answer words es loaded' h in
          let told = copy_loaded g c now (link_kind link) (follows link) loaded (link_ask link) answer es loaded' h in (
            out.0,
            linked_relies g c hashed begun (since ++ es) out.0 k at.mode (at_phase call (Linking link)) loaded' cut
                (aside_later out.0 (follows link) at.left told.0 told.1) at.changes (follows link) at.left (link_after link call.mode call.initial answer) out.1,
          )

      -- the facts of a copier after an answer, after all exchanges
      copied_in_all : (copying : Copying) → ReliesCopying g c now loaded.call.last loaded.kept copying → (answer : Answer)
          → (answer ≡ answers.Call Exchanged → HasWords g (link_in_copying copying))
          → IsTrueOfCopy g c now (copying_kind copying) (copying_follows copying) loaded (copying_ask copying) answer es loaded'
          → AllAllowed g start (begun ++ (since ++ es))
          × ReliesCopied g c (run (begun ++ (since ++ es)) start) loaded'.call.last loaded'.kept (aim_of copying)
          (copying_after copying call.mode call.initial number answer)
      copied_in_all copying relies answer words h =
          let out = copying_learns g c hashed now (map_left g (begun ++ since)) (keeping g hashed.lawful (begun ++ since) may) call.mode r.mode cut
          call.initial number loaded copying relies answer words es loaded' h in
          let reaches : run es now ≡ run (begun ++ (since ++ es)) start = sym (run-append (begun ++ since) es start)
          ∙ ap (λ l. run l start) (append_assoc begun since es) in (
            subst (AllAllowed g start) (append_assoc begun since es) (allowed_append g (begun ++ since) es start may out.0),
            subst (λ s. ReliesCopied g c s loaded'.call.last loaded'.kept (aim_of copying)
                (copying_after copying call.mode call.initial number answer)) reaches out.1,
          )

      helping_relies : (copying : Copying) → IsHelping g c begun since k (at_phase call (Copying_root copying)) loaded copying → (answer : Answer)
          → (answer ≡ answers.Call Exchanged → HasWords g (link_in_copying copying))
          → IsTrueOfCopy g c now (copying_kind copying) (copying_follows copying) loaded (copying_ask copying) answer es loaded'
          → Learned (after (at_phase call (Copying_root copying)) answer) es loaded'
      helping_relies copying at answer words h =
          let out = copied_in_all copying at.relies answer words h in
          let told = copy_loaded g c now (copying_kind copying) (copying_follows copying) loaded (copying_ask copying) answer es loaded' h in
          let same : (run (begun ++ (since ++ es)) start).next at.table ≡ now.next at.table = next_stable g c hashed begun since es out.0 k at.table
          at.next in (
            out.0,
            copied_relies g c hashed begun (since ++ es) out.0 k at.mode (at_phase call (Copying_root copying)) loaded' cut
                (aside_later out.0 at.table at.left told.0 told.1) at.changes at.table at.left (subst (λ n. 0 < n) (sym same) at.next)
                (copying_after copying call.mode call.initial number answer)
                (subst (λ aim. ReliesCopied g c (run (begun ++ (since ++ es)) start) loaded'.call.last loaded'.kept aim
                (copying_after copying call.mode call.initial number answer)) (at.aim ∙ ap (aim_for call.state) (sym same)) out.1),
          )

      copying_all_relies : (copying : Copying) → IsCopyingAll g c begun since k (at_phase call (Copying_root copying)) loaded copying
          → (answer : Answer) → (answer ≡ answers.Call Exchanged → HasWords g (link_in_copying copying))
          → IsTrueOfCopy g c now (copying_kind copying) (copying_follows copying) loaded (copying_ask copying) answer es loaded'
          → Learned (after (at_phase call (Copying_root copying)) answer) es loaded'
      copying_all_relies copying at answer words h =
          let out = copied_in_all copying at.relies answer words h in
          let told = copy_loaded g c now (copying_kind copying) (copying_follows copying) loaded (copying_ask copying) answer es loaded' h in (
            out.0,
            all_relies g c hashed begun (since ++ es) out.0 k (at_phase call (Copying_root copying)) loaded' cut
                (aside_later out.0 at.table at.left told.0 told.1) at.changes at.mode at.table at.left at.met
                (copying_after copying call.mode call.initial number answer)
                (subst (λ aim. ReliesCopied g c (run (begun ++ (since ++ es)) start) loaded'.call.last loaded'.kept aim
                (copying_after copying call.mode call.initial number answer)) at.aim out.1),
          )

  -- in each phase
  learns_in : (call : Call_machine) → calls.IsCutAs call.mode g.chunk_of → calls.Relies g c begun since k call loaded.call → (phase : Phase)
      → ReliesPhase g c begun since k (at_phase call phase) loaded phase → (answer : Answer)
      → (answer ≡ answers.Call Exchanged → HasWords g (link_in phase)) → (es : List (Exchange P)) (loaded' : LoadedPairs P)
      → IsTrueOf g c k now (kind_in call phase) (follows_in phase) loaded (asks_in call phase) answer es loaded'
      → Learned (after (at_phase call phase) answer) es loaded'
  learns_in call cut r Calling at answer words es loaded' h =
      subst (λ a. Learned (answered (at_phase call Calling) a) es loaded') (sym h.is)
      (called_learns call cut call.state r h.told es h.call loaded' h.handed h.tells
      (λ told is. steps_on call cut call.state told es h.call loaded' h.handed
      (machine_learns g c hashed begun since may k call loaded.call r told es h.call
      (subst (λ a. call_told.IsTrueOf g c k now (call_machine.kind_of_ask call) loaded.call (call_machine.ask_of call) a es h.call) is h.tells))))
  learns_in call cut r (Linking link) at answer words es loaded' h = link_relies call cut r es loaded' link at answer words h
  learns_in call cut r (Copying_root copying) (inl at) answer words es loaded' h = helping_relies call cut r es loaded' copying at answer words h
  learns_in call cut r (Copying_root copying) (inr at) answer words es loaded' h = copying_all_relies call cut r es loaded' copying at answer words h

module _ {K P : Type 0} (g : Setting K P) (c : Coding K P) (hashed : IsHashed g c) (begun since : List (Exchange P))
    (may : AllAllowed g start (begun ++ since)) (k : K) where
  -- for the whole machine
  pub all_learns : (m : Machine) (loaded : LoadedPairs P) → Relies g c begun since k m loaded → (answer : Answer)
      → (answer ≡ answers.Call Exchanged → HasWords g (link_in m.phase)) → (es : List (Exchange P)) (loaded' : LoadedPairs P)
      → IsTrueOf g c k (run (begun ++ since) start) (kind_of_ask m) (follows_of m) loaded (ask_of m) answer es loaded'
      → AllAllowed g start (begun ++ (since ++ es)) × Relies g c begun (since ++ es) k (after m answer) loaded'
  all_learns m loaded r answer words es loaded' h = learns_in g c hashed begun since may k loaded m.number m.helped m.call r.cut r.call m.phase
      r.phase answer words es loaded' h
