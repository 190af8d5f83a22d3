-- A call over a chain of tables, with no other caller beside it, comes nearer its end with each answer.
use Rattle.std.proofs.Common.{◌≡◌, ◌⊎◌, inl, inr, ⊎_elim, ℕ, suc, ◌<◌, ◌≤◌, Bool, true, false, Some, List, ◌++◌, refl, sym, ap, ◌∙◌, subst, arith}
use Rattle.std.proofs.lemmas.Bool.{cases_lt, cases_order}
use Rattle.papaya_words.specs.declared.resize_mode.ResizeMode.{ResizeMode}
use Rattle.papaya_words.specs.declared.resize_mode.ResizeMode.TheVariants.{Incremental, Blocking}
use Rattle.papaya_call.specs.declared.ask.At.{At}
use Rattle.papaya_call.specs.declared.ask.At.TheVariants as words_at
use Rattle.papaya_call.specs.declared.copy_ask.CopyAsk.{CopyAsk}
use Rattle.papaya_call.specs.declared.copy_ask.CopyAsk.TheVariants.{Exchange}
use Rattle.papaya_call.specs.declared.machine.Machine.{Machine as Call_machine}
use Rattle.papaya_call.specs.Machine as call_machine
use Rattle.papaya_call.specs.declared.copy.copying.Aim.TheVariants as aims
use Rattle.papaya_call.specs.declared.copy.copying.Copying.{Copying}
use Rattle.papaya_call.specs.declared.copy.copying.Copying.TheVariants as copyings
use Rattle.papaya_call.specs.declared.copy.link.Link.{Link}
use Rattle.papaya_call.specs.declared.copy.step.Step.TheVariants as steps
use Rattle.papaya_call.specs.Link.{follows, link_ask, link_kind}
use Rattle.papaya_call.specs.Copying.{copying_ask, copying_follows, copying_kind}
use Rattle.papaya_call.specs.declared.chain.ask.Answer.{Answer}
use Rattle.papaya_call.specs.declared.chain.ask.Answer.TheVariants as answers
use Rattle.papaya_call.specs.declared.chain.machine.Machine.{Machine}
use Rattle.papaya_call.specs.declared.chain.machine.Phase.{Phase}
use Rattle.papaya_call.specs.declared.chain.machine.Phase.TheVariants.{Calling, Linking, Copying as Copying_root}
use Rattle.papaya_call.specs.ChainMachine.{after, ask_of, follows_of, kind_of_ask}
use Rattle.papaya_words_law.specs.Allows.{AllAllowed}
use Rattle.papaya_words_law.specs.Class.{IsOn}
use Rattle.papaya_words_law.specs.Code.{Coding, IsHashed}
use Rattle.papaya_words_law.specs.Copying.{IsTarget}
use Rattle.papaya_words_law.specs.Exchange.{Setting, State, Exchange as Exchange_made, run, start, walk}
use Rattle.papaya_words_law.specs.Invariant.{IsKeeping, IsSound}
use Rattle.papaya_words_law.specs.Meaning.{map_left}
use Rattle.papaya_words_law.proofs.Chain.{has_next, none_between, pos_before}
use Rattle.papaya_words_law.proofs.OneMap.{keeping, keeping_sound}
use Rattle.papaya_call_law.specs.Alone.{IsNumberRead}
use Rattle.papaya_call_law.specs.Copier.{AreThere, HasWords, IsThere, ReliesCopying, ReliesLinked, aim_of, link_in_copying}
use Rattle.papaya_call_law.specs.Relies as calls
use Rattle.papaya_call_law.specs.Relies.{IsCutAs, IsModeOf}
use Rattle.papaya_call_law.specs.TrueAnswers.{word_of}
use Rattle.papaya_call_law.specs.TrueAnswers as call_told
use Rattle.papaya_call_law.proofs.CopierCopies.{copying_there, link_there}
use Rattle.papaya_call_law.proofs.CopierExchange.{copying_may, link_may}
use Rattle.papaya_call_law.proofs.ReliesNames.{come_on}
use Rattle.papaya_call_law.specs.Goes.{link_in}
use Rattle.papaya_call_law.specs.ChainRelies.{IsLinking, ReliesPhase, left_by}
use Rattle.papaya_call_law.specs.ChainAnswers.{IsTrueOfCopy, IsTrueOf, LoadedPairs}
use Rattle.papaya_call_law.proofs.Aside.{left_come}
use Rattle.papaya_call_law.proofs.Making.{link_learns_all}
use Rattle.papaya_call_law.proofs.Replies.{aside_asks}
use Rattle.papaya_call_alone.specs.Ahead.{IsAsideAhead, IsPhaseRead}
use Rattle.papaya_call_alone.specs.Budget.{Budget, Spends, SpendsCopy}
use Rattle.papaya_call_alone.specs.Current.{IsCopyingRead, IsIncremental}
use Rattle.papaya_call_alone.specs.Prompt.{IsBounded, IsCopyPrompt, IsServedAsk}
use Rattle.papaya_call_alone.specs.Rank.{rank_of_phase}
use Rattle.papaya_call_alone.proofs.AsideCopies.{IsFor, IsKnown, aims_one, copying_lowers}
use Rattle.papaya_call_alone.proofs.AsideRanks.{Lowers, linking_lowers}
use Rattle.papaya_call_alone.proofs.CallLaw.{call_lowers}
use Rattle.papaya_call_alone.proofs.CallPrompts.{asked_number, call_prompt}
use Rattle.papaya_call_alone.proofs.CopyPrompts.{told_prompt, words_bare}
use Rattle.papaya_call_alone.proofs.Onwards.{AimsAt, aims_at}
use Rattle.papaya_call_alone.proofs.Telling.{IsPutAt, stays_at}

module _ {K P : Type 0} (g : Setting K P) (s : State P) (sound : IsSound g s) where
  -- if a table is on the chain there is a root
  pub root_on : (t : ℕ) → IsOn s.first s.next t → IsOn s.first s.next s.root
  root_on t (some, (k, is)) =
      ⊎_elim
      (λ (none : (s.root ≡ 0) × (s.first ≡ 0)).
      let first : 0 < s.first = pos_before s.next sound.rises 0 k s.first (omega arith) (subst (λ n. 0 < n) (sym is) some) in let z = none.1 in
      absurd (omega (arith, first, z)))
      (λ (on : IsOn s.first s.next s.root). on)
      sound.root

  -- the root's next table is no later than that of a table behind it
  pub root_next : (t : ℕ) → IsOn s.first s.next t → s.root ≤ t → 0 < s.next t → (0 < s.next s.root) × (s.next s.root ≤ s.next t)
  root_next t on least some =
      ⊎_elim
      (λ (same : s.root ≡ t). (subst (λ y. 0 < s.next y) (sym same) some, let e : s.next s.root ≡ s.next t = ap s.next same in omega (arith, e)))
      (⊎_elim
      (λ (less : s.root < t).
      let up : (s.next t ≡ 0) ⊎ ((0 < t) × (t < s.next t)) = sound.rises t in
      let more : t < s.next t = ⊎_elim (λ (none : s.next t ≡ 0). absurd (omega (arith, none, some))) (λ (h : (0 < t) × (t < s.next t)). h.1) up in (
        has_next s.next sound.rises s.first s.root t (root_on t on) on less,
        ⊎_elim
            (λ (h : s.next s.root ≤ t). omega (arith, h, more))
            (λ (h : t < s.next s.root). absurd (none_between s.next sound.rises s.first s.root t (root_on t on) on less h))
            (at_most (s.next s.root) t),
      ))
      (λ (more : t < s.root). absurd (omega (arith, more, least))))
      (cases_order s.root t)
    where
      at_most : (a b : ℕ) → (a ≤ b) ⊎ (b < a)
      at_most a b = ⊎_elim (λ (h : b < a). inr h) (λ (h : a ≤ b). inl h) (cases_lt b a)

-- a mode without blocking, and with it
pub incremental : (how : ResizeMode) (blocking : Bool) → IsModeOf how blocking → blocking ≡ false → IsIncremental how
incremental (Incremental chunk) blocking is e = tt
incremental Blocking blocking is e = absurd (cc (is, e))

pub blocks : (how : ResizeMode) (blocking : Bool) → IsModeOf how blocking → blocking ≡ true → how ≡ Blocking
blocks (Incremental chunk) blocking is e = absurd (cc (is, e))
blocks Blocking blocking is e = refl

module _ {K P : Type 0} (g : Setting K P) (c : Coding K P) (hashed : IsHashed g c) (begun since : List (Exchange_made P))
    (may : AllAllowed g start (begun ++ since)) (k : K) (bounded : IsBounded g (run (begun ++ since) start)) (loaded : LoadedPairs P) (number : ℕ)
    (helped : Bool) (call : Call_machine) (r : calls.Relies g c begun since k call loaded.call) (cut : IsCutAs call.mode g.chunk_of) (answer : Answer)
    (es : List (Exchange_made P)) (loaded' : LoadedPairs P) (before later : Budget) where
  -- the state, and the words before the answer and after it
  abbrev now : State P
  now = run (begun ++ since) start

  abbrev words : At → ℕ
  words = word_of g c now

  abbrev words' : At → ℕ
  words' = word_of g c (run es now)

  -- the state preserves the map
  keeps : IsKeeping g now (map_left g (begun ++ since))
  keeps = keeping g hashed.lawful (begun ++ since) may

  -- and is sound
  sound : IsSound g now
  sound = keeping_sound g now (map_left g (begun ++ since)) keeps

  -- the machine in a phase
  abbrev at_phase : Phase → Machine
  at_phase phase = record { call = call; number = number; helped = helped; phase = phase }

  -- the budget is spent, or less is left; and the words that were read are unchanged
  abbrev pub Falls : Phase → Type 0
  Falls phase = Lowers words words' before later (at_phase phase) (rank_of_phase now.root call phase) (after (at_phase phase) answer)

  -- the table in which a call was set aside is on the chain
  left_on : (t : ℕ) → left_by call.state ≡ Some t → IsOn now.first now.next t
  left_on t e = come_on g c hashed begun since may k t (left_come g c hashed begun since may k loaded.call call.task call.state r.stage t e)

  -- the machine is in phase `Calling`
  calling_falls : IsNumberRead words call.made.number → IsPhaseRead call.mode words call.state Calling
      → IsTrueOf g c k now (kind_of_ask (at_phase Calling)) (follows_of (at_phase Calling)) loaded (ask_of (at_phase Calling)) answer es loaded'
      → IsServedAsk call.task (ask_of (at_phase Calling)) answer
      → Spends (kind_of_ask (at_phase Calling)) (ask_of (at_phase Calling)) answer before later → Falls Calling
  calling_falls known read told served spends =
      let is : answer ≡ answers.Call told.told = told.is in
      subst (λ a. IsServedAsk call.task (ask_of (at_phase Calling)) a
      → Spends (kind_of_ask (at_phase Calling)) (ask_of (at_phase Calling)) a before later
      → Lowers words words' before later (at_phase Calling) (rank_of_phase now.root call Calling) (after (at_phase Calling) a)) (sym is)
      (λ serves spent. call_lowers words words' (words_bare g c now) before later number helped call known read.0 read.1
      (asked_number g c hashed begun since may k bounded call loaded.call r) told.told
      (call_prompt g c hashed begun since may k bounded call loaded.call r told.told es told.call serves told.tells) spent)
      served spends

  -- no copy takes a number for a pair
  takes_none : (ask : CopyAsk) → AreThere g c now loaded.call.last loaded.kept ask → IsPutAt ask words_at.Made → ⊥
  takes_none (Exchange at old new) there is = subst (IsThere g c now loaded.call.last loaded.kept) (sym is) there
  takes_none ask there is = is

  -- it makes the next table
  module _ (link : Link) (made : HasWords g (Some link)) (at : IsLinking g c begun since k (at_phase (Linking link)) link)
      (told : IsTrueOfCopy g c now (link_kind link) (follows link) loaded (link_ask link) answer es loaded') where
    link_named : AreThere g c now loaded.call.last loaded.kept (link_ask link)
    link_named = link_there g c hashed now (map_left g (begun ++ since)) keeps loaded.call.last loaded.kept link at.relies

    -- an answer about the words is the one that they determine
    link_prompt : IsCopyPrompt words (link_ask link) answer words'
    link_prompt = told_prompt g c hashed now (map_left g (begun ++ since)) keeps bounded loaded (link_kind link) (follows link) (link_ask link) link_named
        (link_may g c hashed now (map_left g (begun ++ since)) keeps loaded.call.last loaded.kept link at.relies made) answer es loaded' told

    -- as many numbers are taken as before
    link_counts : words' words_at.Made ≡ words words_at.Made
    link_counts = stays_at words words' answer (link_ask link) link_prompt words_at.Made (takes_none (link_ask link) link_named)

    linking_falls : IsPhaseRead call.mode words call.state (Linking link) → SpendsCopy (link_ask link) answer before later → Falls (Linking link)
    linking_falls read spends =
        let out = link_learns_all g c hashed begun since may call.mode cut call.initial loaded link at.relies answer (λ _. made) es loaded' told in
        let later_sound : IsSound g (run (begun ++ (since ++ es)) start) = keeping_sound g (run (begun ++ (since ++ es)) start)
        (map_left g (begun ++ (since ++ es))) (keeping g hashed.lawful (begun ++ (since ++ es)) out.0) in
        linking_lowers words words' before later (at_phase (Linking link)) read.0 link read.1 read.2 at.left answer link_prompt spends
        (λ table e.
        let led : ((run (begun ++ (since ++ es)) start).next (follows link) ≡ table)
        × (0 < table) = subst (ReliesLinked g c (run (begun ++ (since ++ es)) start) loaded'.call.last loaded'.kept (follows link)) e out.1 in
        let next = led.0 in
        let some = led.1 in
        ⊎_elim
        (λ (none : (run (begun ++ (since ++ es)) start).next (follows link) ≡ 0). absurd (omega (arith, none, next, some)))
        (λ (h : (0 < follows link) × (follows link < (run (begun ++ (since ++ es)) start).next (follows link))). let up = h.1 in omega (arith, up, next))
        (later_sound.rises (follows link)))

  -- it copies the root
  module _ (copying : Copying) (relies : ReliesCopying g c now loaded.call.last loaded.kept copying) (made : HasWords g (link_in_copying copying))
      (told : IsTrueOfCopy g c now (copying_kind copying) (copying_follows copying) loaded (copying_ask copying) answer es loaded') where
    copy_named : AreThere g c now loaded.call.last loaded.kept (copying_ask copying)
    copy_named = copying_there g c hashed now (map_left g (begun ++ since)) keeps loaded.call.last loaded.kept copying relies

    -- an answer about the words is the one that they determine
    copy_prompt : IsCopyPrompt words (copying_ask copying) answer words'
    copy_prompt =
        told_prompt g c hashed now (map_left g (begun ++ since)) keeps bounded loaded (copying_kind copying) (copying_follows copying)
        (copying_ask copying) copy_named
        (copying_may g c hashed now (map_left g (begun ++ since)) keeps loaded.call.last loaded.kept copying relies made) answer es loaded' told

    -- as many numbers are taken as before
    copy_counts : words' words_at.Made ≡ words words_at.Made
    copy_counts = stays_at words words' answer (copying_ask copying) copy_prompt words_at.Made (takes_none (copying_ask copying) copy_named)

    -- a fact about the words after that
    copying_falls : IsFor (at_phase (Copying_root copying)) (aim_of copying) → IsPhaseRead call.mode words call.state (Copying_root copying)
        → IsKnown call.mode words copying → SpendsCopy (copying_ask copying) answer before later → Falls (Copying_root copying)
    copying_falls which read known spends = copying_lowers words words' (words_bare g c now) (words_bare g c (run es now)) before later
        (at_phase (Copying_root copying)) copying answer which read.1 read.0 known copy_prompt spends

  -- a table that copies go to without blocking is the next one
  target_next : g.blocking ≡ false → (from to : ℕ) → IsTarget g now from to → now.next from ≡ to
  target_next inc from to target =
      ⊎_elim
      (λ (one : target.links ≡ 0). subst (λ n. walk now.next (suc n) from ≡ to) one target.is)
      (λ (b : g.blocking ≡ true). absurd (cc (b, inc)))
      target.mode

  -- without blocking the root has a next table, no later than the one where the call continues
  known_helping : (how : ResizeMode) → IsIncremental how → g.blocking ≡ false → (copying : Copying)
      → ReliesCopying g c now loaded.call.last loaded.kept copying → IsCopyingRead how words copying → IsAsideAhead how words call.state copying
      → (t : ℕ) → left_by call.state ≡ Some t → 0 < now.next t → AimsAt (aim_of copying) (now.next t)
      → IsKnown how words copying
  known_helping (Incremental chunk) how inc (copyings.Stepping aim steps.AtRoot) relies read ahead t left some is = (root_on g now sound t (left_on t left)).0
  known_helping (Incremental chunk) how inc (copyings.Stepping aim (steps.Aiming from behind)) relies read ahead t left some is =
      let same : behind ≡ from = ⊎_elim (λ (e : behind ≡ from). e) (λ h. absurd (cc (h.0, inc))) relies.1.given_up in
      let root : now.root ≡ behind = read.1 ∙ sym same in
      subst (λ y. 0 < now.next y) root (root_next g now sound t (left_on t left) (ahead t tt left) some).0
  known_helping (Incremental chunk) how inc (copyings.Stepping aim (steps.Linking from link)) relies read ahead t left some is = tt
  known_helping (Incremental chunk) how inc (copyings.Stepping aim (steps.Judging from to)) relies read ahead t left some is = tt
  known_helping (Incremental chunk) how inc (copyings.Stepping aim (steps.Sizing from to)) relies read ahead t left some is = tt
  known_helping (Incremental chunk) how inc (copyings.Stepping aim (steps.AtChunk cursor)) relies read ahead t left some is = tt
  known_helping (Incremental chunk) how inc (copyings.Stepping aim (steps.Settling slots settle)) relies read ahead t left some is = tt
  known_helping (Incremental chunk) how inc (copyings.Stepping aim (steps.Advancing cursor)) relies read ahead t left some is = tt
  known_helping (Incremental chunk) how inc (copyings.Stepping aim (steps.Promoting from to)) relies read ahead t left some is = λ n aims.
      let one : n ≡ now.next t = aims_one aim n (now.next t) aims is in
      let to_is : now.next from ≡ to = target_next inc from to relies.1.0.target in
      let root : now.next now.root ≡ now.next from = ap now.next read.1 in
      let l = (root_next g now sound t (left_on t left) (ahead t tt left) some).1 in
      omega (arith, one, to_is, root, l)
  known_helping (Incremental chunk) how inc (copyings.Lone slot settle) relies read ahead t left some is = tt
  known_helping Blocking how inc copying relies read ahead t left some is = absurd how

  -- with blocking there is a root
  known_all : (how : ResizeMode) → how ≡ Blocking → (copying : Copying) (met : ℕ) → aim_of copying ≡ aims.All met → (t : ℕ)
      → left_by call.state ≡ Some t → IsKnown how words copying
  known_all (Incremental chunk) e copying met is t left = absurd (cc e)
  known_all Blocking e (copyings.Stepping aim steps.AtRoot) met is t left = (root_on g now sound t (left_on t left)).0
  known_all Blocking e (copyings.Stepping aim (steps.Aiming from behind)) met is t left = tt
  known_all Blocking e (copyings.Stepping aim (steps.Linking from link)) met is t left = tt
  known_all Blocking e (copyings.Stepping aim (steps.Judging from to)) met is t left = tt
  known_all Blocking e (copyings.Stepping aim (steps.Sizing from to)) met is t left = tt
  known_all Blocking e (copyings.Stepping aim (steps.AtChunk cursor)) met is t left = tt
  known_all Blocking e (copyings.Stepping aim (steps.Settling slots settle)) met is t left = tt
  known_all Blocking e (copyings.Stepping aim (steps.Advancing cursor)) met is t left = tt
  known_all Blocking e (copyings.Stepping aim (steps.Promoting from to)) met is t left = λ n aims. absurd (subst (λ a. AimsAt a n) is aims)
  known_all Blocking e (copyings.Lone slot settle) met is t left = tt

  -- the root is copied for a call
  helping_falls : (copying : Copying) → HasWords g (link_in_copying copying)
      → ReliesPhase g c begun since k (at_phase (Copying_root copying)) loaded (Copying_root copying)
      → IsPhaseRead call.mode words call.state (Copying_root copying)
      → IsTrueOfCopy g c now (copying_kind copying) (copying_follows copying) loaded (copying_ask copying) answer es loaded'
      → SpendsCopy (copying_ask copying) answer before later → Falls (Copying_root copying)
  helping_falls copying made (inl at) read told spends =
      let inc : IsIncremental call.mode = incremental call.mode g.blocking r.mode at.mode in
      let is : AimsAt (aim_of copying) (now.next at.table) = subst (λ a. AimsAt a (now.next at.table)) (sym at.aim) (aims_at call.state (now.next at.table)) in
      let some = at.next in
      let up : at.table < now.next at.table = ⊎_elim (λ (none : now.next at.table ≡ 0). absurd (omega (arith, none, some)))
      (λ (h : (0 < at.table) × (at.table < now.next at.table)). h.1) (sound.rises at.table) in
      copying_falls copying at.relies made told (inl (inc, (now.next at.table, is, (at.table, at.left, up)))) read
      (known_helping call.mode inc at.mode copying at.relies read.0 read.1 at.table at.left at.next is) spends
  helping_falls copying made (inr at) read told spends =
      let e : call.mode ≡ Blocking = blocks call.mode g.blocking r.mode at.mode in
      copying_falls copying at.relies made told (inr (e, (at.met, at.aim))) read (known_all call.mode e copying at.met at.aim at.table at.left) spends

  -- in each phase
  pub phase_falls : (phase : Phase) → HasWords g (link_in phase) → ReliesPhase g c begun since k (at_phase phase) loaded phase
      → IsNumberRead words call.made.number → IsPhaseRead call.mode words call.state phase
      → IsTrueOf g c k now (kind_of_ask (at_phase phase)) (follows_of (at_phase phase)) loaded (ask_of (at_phase phase)) answer es loaded'
      → IsServedAsk call.task (ask_of (at_phase phase)) answer → Spends (kind_of_ask (at_phase phase)) (ask_of (at_phase phase)) answer before later → Falls phase
  phase_falls Calling made at known read told served spends = calling_falls known read told served spends
  phase_falls (Linking link) made at known read told served spends = linking_falls link made at told read spends
  phase_falls (Copying_root copying) made at known read told served spends = helping_falls copying made at read told spends

  -- if the call is set aside, as many numbers are taken as before
  pub aside_counts : (t : ℕ) → left_by call.state ≡ Some t → (phase : Phase) → HasWords g (link_in phase)
      → ReliesPhase g c begun since k (at_phase phase) loaded phase
      → IsTrueOf g c k now (kind_of_ask (at_phase phase)) (follows_of (at_phase phase)) loaded (ask_of (at_phase phase)) answer es loaded'
      → words' words_at.Made ≡ words words_at.Made
  aside_counts t left Calling made at told =
      let tells = subst (λ a. call_told.IsTrueOf g c k now (call_machine.kind_of_ask call) loaded.call a told.told es told.call)
      (aside_asks call.made call.hash call.state t left) told.tells in
      ap (λ l. word_of g c (run l now) words_at.Made) tells.1
  aside_counts t left (Linking link) made at told = link_counts link made at told
  aside_counts t left (Copying_root copying) made (inl at) told = copy_counts copying at.relies made told
  aside_counts t left (Copying_root copying) made (inr at) told = copy_counts copying at.relies made told
