-- The facts that a call that resizes the map relies on.
use Rattle.std.proofs.Common.{◌≡◌, inl, ⊎_elim, ℕ, ◌+◌, ◌==◌, ◌<◌, nat_le, eqb-true, true, Option, None, Some, List, [], ◌∷◌, refl, sym, ◌∙◌, subst}
use Rattle.std.proofs.lemmas.Bool.{cond_both, eqb-false}
use Rattle.papaya_words.specs.declared.refused.Refused.{Refused}
use Rattle.papaya_words.specs.declared.resize_mode.ResizeMode.{ResizeMode}
use Rattle.papaya_call.specs.declared.ask.Answer.TheVariants.{Word as Word_read, Exchanged}
use Rattle.papaya_call.specs.declared.ask.Answer.TheVariants.{Found as Found_instead, Size}
use Rattle.papaya_call.specs.declared.ask.Answer.TheVariants.{Made as Made_number}
use Rattle.papaya_call.specs.declared.ask.Answer.TheVariants.{Refused as Was_refused}
use Rattle.papaya_call.specs.declared.ask.At.{At}
use Rattle.papaya_call.specs.declared.ask.At.TheVariants.{Root, Next}
use Rattle.papaya_call.specs.declared.copy_ask.CopyAsk.{CopyAsk}
use Rattle.papaya_call.specs.declared.copy_ask.CopyAsk.TheVariants.{Load, Exchange as Ask_exchange, SizeOf, Count, MakeTable, WriteHint}
use Rattle.papaya_call.specs.declared.copy.copying.Aim.{Aim}
use Rattle.papaya_call.specs.declared.copy.copying.Aim.TheVariants as aims
use Rattle.papaya_call.specs.declared.copy.copying.Copied.{Copied}
use Rattle.papaya_call.specs.declared.copy.copying.Copied.TheVariants as copied_to
use Rattle.papaya_call.specs.declared.copy.link.Linked.{Linked}
use Rattle.papaya_call.specs.declared.copy.link.Linked.TheVariants as linked_to
use Rattle.papaya_call.specs.Copying.{copying_ask}
use Rattle.papaya_call.specs.Link.{follows, link_ask}
use Rattle.papaya_call.specs.declared.chain.ask.Answer.{Answer}
use Rattle.papaya_call.specs.declared.chain.ask.Answer.TheVariants as answers
use Rattle.papaya_call.specs.declared.chain.resizer.Resize.{Resize}
use Rattle.papaya_call.specs.declared.chain.resizer.Resize.TheVariants.{Chunk, CopyAll, Reserve}
use Rattle.papaya_call.specs.declared.chain.resizer.TableSize.{TableSize}
use Rattle.papaya_call.specs.declared.chain.resizer.ResizerState.{ResizerState as Stage}
use Rattle.papaya_call.specs.declared.chain.resizer.ResizerState.TheVariants.{AtRoot, Making, Opening, Sizing}
use Rattle.papaya_call.specs.declared.chain.resizer.ResizerState.TheVariants.{Counting, Looking, Linking}
use Rattle.papaya_call.specs.declared.chain.resizer.ResizerState.TheVariants.{Copying, Done}
use Rattle.papaya_call.specs.declared.chain.resizer.ResizerState.TheVariants.{Refused as Ended_refused}
use Rattle.papaya_call.specs.ChainMachine.{copying_after, link_after}
use Rattle.papaya_call.specs.Resizer.{after_in, asks_in, at_count, at_last, at_next, at_root}
use Rattle.papaya_call.specs.Resizer.{begun_in, copied, copies, follows_in, judges, kind_in}
use Rattle.papaya_call.specs.Resizer.{linked, makes, over}
use Rattle.papaya_call.specs.TableSize.{room_of}
use Rattle.papaya_words_law.specs.Allows.{AllAllowed, Allows}
use Rattle.papaya_words_law.specs.Class.{IsOn}
use Rattle.papaya_words_law.specs.Code.{Coding, IsHashed}
use Rattle.papaya_words_law.specs.Exchange.{Setting, State, Exchange, Open, after as state_after, run}
use Rattle.papaya_words_law.specs.Grows.{Agrees}
use Rattle.papaya_words_law.specs.Invariant.{IsKeeping}
use Rattle.papaya_words_law.proofs.Chain.{next_zero}
use Rattle.papaya_words_law.proofs.Grows.{on_run}
use Rattle.papaya_words_law.proofs.Later.{later_run}
use Rattle.papaya_words_law.proofs.OneMap.{keeping_sound}
use Rattle.papaya_call_law.specs.Copier.{AreThere, HasWords, IsStillAimed, ReliesCopied, ReliesLinked, aim_of}
use Rattle.papaya_call_law.specs.Relies.{IsCutAs, IsModeOf}
use Rattle.papaya_call_law.specs.TrueAnswers.{IsWritten, word_of}
use Rattle.papaya_call_law.proofs.CopierCopies.{copying_there, link_there, copying_noted}
use Rattle.papaya_call_law.proofs.CopierExchange.{copying_may, link_may}
use Rattle.papaya_call_law.proofs.CopierLinks.{cut_into}
use Rattle.papaya_call_law.proofs.CopierStable.{copying_stable, link_stable}
use Rattle.papaya_call_law.proofs.CopierTables.{copying_carries, link_carries}
use Rattle.papaya_call_law.proofs.ReliesLearn.{by_test}
use Rattle.papaya_call_law.specs.Resizers.{IsOwnAim, IsStageAsked, IsTrueOfStage, ReliesStage, link_of}
use Rattle.papaya_call_law.specs.ChainAnswers.{IsTrueOfCopy, LoadedPairs, Quiet}
use Rattle.papaya_call_law.proofs.CopyTold.{copying_learns}
use Rattle.papaya_call_law.proofs.Making.{link_learns}
use Rattle.papaya_call_law.proofs.CopierCarries.{no_note}
use Rattle.papaya_words_law.specs.Hints.{IsHint}

-- it continues to copy a chunk, or all
still_own : (aim aim' : Aim) → IsOwnAim aim → IsStillAimed aim aim' → IsOwnAim aim'
still_own aims.Chunk aim' own still = subst IsOwnAim (sym still) tt
still_own (aims.All met) aim' own still = subst IsOwnAim (sym still.1) tt
still_own (aims.Search table) aim' own still = absurd own
still_own (aims.Settle slot) aim' own still = absurd own

module _ {K P : Type 0} (g : Setting K P) (c : Coding K P) where
  pub stage_begins : (s : State P) (loaded : LoadedPairs P) (resize : Resize) → ReliesStage g c s loaded (begun_in resize)
  stage_begins s loaded Chunk = (tt, (tt, tt))
  stage_begins s loaded CopyAll = tt
  stage_begins s loaded (Reserve more) = tt

  pub stage_stable : IsHashed g c → (s : State P) (m : K → Option P) → IsKeeping g s m → (es : List (Exchange P)) → AllAllowed g s es
      → (loaded : LoadedPairs P) (stage : Stage) → ReliesStage g c s loaded stage → ReliesStage g c (run es s) loaded stage
  stage_stable hashed s m keeps es may loaded AtRoot r = tt
  stage_stable hashed s m keeps es may loaded (Making room) r = tt
  stage_stable hashed s m keeps es may loaded (Opening table) r = r
  stage_stable hashed s m keeps es may loaded (Sizing root)
      r = (on_run g hashed.lawful es s m keeps may root r.0, (later_run g hashed.lawful es s may).was root r.1)
  stage_stable hashed s m keeps es may loaded (Counting root len)
      r = (on_run g hashed.lawful es s m keeps may root r.0, (later_run g hashed.lawful es s may).was root r.1, r.2)
  stage_stable hashed s m keeps es may loaded (Looking root len None) r = on_run g hashed.lawful es s m keeps may root r
  stage_stable hashed s m keeps es may loaded (Looking root len (Some room))
      r = (on_run g hashed.lawful es s m keeps may root r.0, (later_run g hashed.lawful es s may).was root r.1, r.2)
  stage_stable hashed s m keeps es may loaded (Linking link) r =
      link_stable g c hashed s (run es s) (next_zero s.next (keeping_sound g s m keeps).rises) (later_run g hashed.lawful es s may)
      (on_run g hashed.lawful es s m keeps may) loaded.call.last loaded.kept link r
  stage_stable hashed s m keeps es may loaded (Copying from copying) (own, r) = (
    own,
    copying_stable g c hashed s (run es s) (next_zero s.next (keeping_sound g s m keeps).rises) (later_run g hashed.lawful es s may)
        (on_run g hashed.lawful es s m keeps may) loaded.call.last loaded.kept copying r,
  )
  stage_stable hashed s m keeps es may loaded Done r = tt
  stage_stable hashed s m keeps es may loaded (Ended_refused refused) r = tt

  pub stage_carries : (g' : Setting K P) (s : State P) (m : K → Option P) → IsKeeping g s m → Agrees (IsOn s.first s.next) g g'
      → (loaded : LoadedPairs P) (stage : Stage) → ReliesStage g c s loaded stage → ReliesStage g' c s loaded stage
  stage_carries g' s m keeps agrees loaded AtRoot r = tt
  stage_carries g' s m keeps agrees loaded (Making room) r = tt
  stage_carries g' s m keeps agrees loaded (Opening table) r = r
  stage_carries g' s m keeps agrees loaded (Sizing root) r = r
  stage_carries g' s m keeps agrees loaded (Counting root len) r = (r.0, r.1, r.2 ∙ sym (agrees.size root r.0))
  stage_carries g' s m keeps agrees loaded (Looking root len None) r = r
  stage_carries g' s m keeps agrees loaded (Looking root len (Some room)) r = (r.0, r.1, r.2 ∙ sym (agrees.size root r.0))
  stage_carries g' s m keeps agrees loaded (Linking link) r = link_carries g g' c s (keeping_sound g s m keeps) agrees loaded.call.last loaded.kept link r
  stage_carries g' s m keeps agrees loaded (Copying from copying)
      (own, r) = (own, copying_carries g g' c s (keeping_sound g s m keeps) agrees loaded.call.last loaded.kept copying r)
  stage_carries g' s m keeps agrees loaded Done r = tt
  stage_carries g' s m keeps agrees loaded (Ended_refused refused) r = tt

  module _ (hashed : IsHashed g c) (s : State P) (m : K → Option P) (keeps : IsKeeping g s m) (loaded : LoadedPairs P) where
    -- the words that it names are there
    abbrev There : CopyAsk → Type 0
    There = AreThere g c s loaded.call.last loaded.kept

    pub stage_there : (stage : Stage) → ReliesStage g c s loaded stage → (ask : CopyAsk) → asks_in stage ≡ Some ask → There ask
    stage_there AtRoot r ask e = let is : Load Root ≡ ask = cc e in subst There is tt
    stage_there (Making room) r ask e = let is : MakeTable room.len room.limit 0 ≡ ask = cc e in subst There is tt
    stage_there (Opening table) r ask e = let is : Ask_exchange Root 0 table ≡ ask = cc e in subst There is tt
    stage_there (Sizing root) r ask e = let is : SizeOf root ≡ ask = cc e in subst There is r.0
    stage_there (Counting root len) r ask e = let is : Count ≡ ask = cc e in subst There is tt
    stage_there (Looking root len None) r ask e = let is : Load (Next root) ≡ ask = cc e in subst There is r
    stage_there (Looking root len (Some room)) r ask e = let is : Load (Next root) ≡ ask = cc e in subst There is r.0
    stage_there (Linking link) r ask e = let is : link_ask link ≡ ask = cc e in
        subst There is (link_there g c hashed s m keeps loaded.call.last loaded.kept link r)
    stage_there (Copying from copying) (own, r) ask e = let is : copying_ask copying ≡ ask = cc e in
        subst There is (copying_there g c hashed s m keeps loaded.call.last loaded.kept copying r)
    stage_there Done r ask e = absurd cc
    stage_there (Ended_refused refused) r ask e = absurd cc

    -- its exchange is allowed
    abbrev May : Stage → At → (old new : ℕ) → Type 0
    May stage at old new = word_of g c s at ≡ old → (e : Exchange P) × IsStageAsked g c s stage at new loaded e × Allows g s e
        × IsWritten g c s at new (state_after s e)

    -- a table is opened if there is no root
    opens : (table : ℕ) → ReliesStage g c s loaded (Opening table) → May (Opening table) Root 0 table
    opens table r none = (Open table, refl, (none, r), record { here = refl; others = others })
      where
        others : (other : At) → (other ≡ Root → ⊥) → word_of g c (state_after s (Open table)) other ≡ word_of g c s other
        others Root different = absurd (different refl)
        others _ different = refl

    pub stage_may : (stage : Stage) → ReliesStage g c s loaded stage → HasWords g (link_of stage) → (at : At) (old new : ℕ)
        → asks_in stage ≡ Some (Ask_exchange at old new) → May stage at old new
    stage_may (Opening table) r words at old new e =
        let same_at : Root ≡ at = cc e in
        let same_old : 0 ≡ old = cc e in
        let same_new : table ≡ new = cc e in
        subst (λ y. May (Opening table) y old new) same_at
        (subst (λ y. May (Opening table) Root y new) same_old (subst (May (Opening table) Root 0) same_new (opens table r)))
    stage_may (Linking link) r words at old new e = let is : link_ask link ≡ Ask_exchange at old new = cc e in
        link_may g c hashed s m keeps loaded.call.last loaded.kept link r words at old new is
    stage_may (Copying from copying) (own, r) words at old new e = let is : copying_ask copying ≡ Ask_exchange at old new = cc e in
        copying_may g c hashed s m keeps loaded.call.last loaded.kept copying r words at old new is
    stage_may stage r words at old new e = absurd cc

    -- and a hint that it writes may be there
    pub stage_may_hint : (mode : ResizeMode) → IsModeOf mode g.blocking → (stage : Stage) → ReliesStage g c s loaded stage → (t x n : ℕ)
        → asks_in stage ≡ Some (WriteHint t x n) → IsHint g c s t x n
    stage_may_hint mode moded (Linking link) r t x n e = let is : link_ask link ≡ WriteHint t x n = cc e in absurd (no_note link t x n is)
    stage_may_hint mode moded (Copying from copying) (own, r) t x n e = let is : copying_ask copying ≡ WriteHint t x n = cc e in
        (copying_noted g c hashed s m keeps mode moded loaded.call.last loaded.kept copying r t x n is).0
    stage_may_hint mode moded stage r t x n e = absurd cc

  module _ (s : State P) (loaded : LoadedPairs P) where
    -- the answer is true of its ask, if that is one of a copy
    pub told_of_ask : (stage : Stage) (is : CopyAsk) → asks_in stage ≡ Some is → (answer : Answer) (es : List (Exchange P)) (loaded' : LoadedPairs P)
        → (ask : CopyAsk) × (asks_in stage ≡ Some ask) × IsTrueOfCopy g c s (kind_in stage) (follows_in stage) loaded ask answer es loaded'
        → IsTrueOfCopy g c s (kind_in stage) (follows_in stage) loaded is answer es loaded'
    told_of_ask stage is asks answer es loaded' (ask, asked, told) = let same : ask ≡ is = cc (asks, asked) in
        subst (λ a. IsTrueOfCopy g c s (kind_in stage) (follows_in stage) loaded a answer es loaded') same told

    -- after a copy, or after a first table was made
    over_relies : (resize : Resize) → ReliesStage g c s loaded (over resize)
    over_relies Chunk = tt
    over_relies CopyAll = tt
    over_relies (Reserve more) = tt

    makes_relies : (room : Option TableSize) → ReliesStage g c s loaded (makes room)
    makes_relies None = tt
    makes_relies (Some room) = tt

    -- after the root was read
    root_relies : (root : ℕ) → ((root ≡ 0 → ⊥) → IsOn s.first s.next root × (s.was_root root ≡ true)) → (resize : Resize)
        → ReliesStage g c s loaded (at_root resize root)
    root_relies root on Chunk = cond_both (root == 0) Done (Looking root 0 None) (ReliesStage g c s loaded) (λ _. tt) (λ some. (on (eqb-false root 0 some)).0)
    root_relies root on CopyAll = cond_both (root == 0) Done (Looking root 0 None) (ReliesStage g c s loaded) (λ _. tt) (λ some. (on (eqb-false root 0 some)).0)
    root_relies root on (Reserve more) = cond_both (root == 0) (makes (room_of more)) (Sizing root) (ReliesStage g c s loaded)
        (λ _. makes_relies (room_of more)) (λ some. on (eqb-false root 0 some))

    -- and after a count
    judges_relies : (root len : ℕ) → ReliesStage g c s loaded (Counting root len) → (room : Option TableSize) → ReliesStage g c s loaded (judges root len room)
    judges_relies root len r None = tt
    judges_relies root len r (Some room) = cond_both (nat_le room.len len) Done (Looking root len (Some room)) (ReliesStage g c s loaded) (λ _. tt) (λ _. r)

    count_relies : (root len count : ℕ) → ReliesStage g c s loaded (Counting root len) → (resize : Resize)
        → ReliesStage g c s loaded (at_count resize root len count)
    count_relies root len count r Chunk = tt
    count_relies root len count r CopyAll = tt
    count_relies root len count r (Reserve more) = judges_relies root len r (room_of (count + more))

    -- and after the next table was read
    last_relies : (mode : ResizeMode) → IsCutAs mode g.chunk_of → (root len : ℕ) (room : Option TableSize)
        → ReliesStage g c s loaded (Looking root len room) → ReliesStage g c s loaded (at_last mode root len room)
    last_relies mode cut root len None r = tt
    last_relies mode cut root len (Some room) r = record {
      on = r.0;
      rises = tt;
      from = root;
      linking = inl (refl, λ b. r.1);
      measures = cut_into g mode cut len root r.2;
    }

    next_relies : (mode : ResizeMode) → IsCutAs mode g.chunk_of → (root len : ℕ) (room : Option TableSize)
        → ReliesStage g c s loaded (Looking root len room) → (next : ℕ) → ReliesStage g c s loaded (at_next mode root len room next)
    next_relies mode cut root len room r next = cond_both (next == 0) (at_last mode root len room) (copies root) (ReliesStage g c s loaded)
        (λ _. last_relies mode cut root len room r) (λ _. (tt, (tt, tt)))

    -- after the making of a table
    linked_relies : (root : ℕ) (end : Linked) → ReliesLinked g c s loaded.call.last loaded.kept root end → ReliesStage g c s loaded (linked root end)
    linked_relies root (linked_to.On link) r = r.1
    linked_relies root (linked_to.Table table) r = (tt, (tt, tt))
    linked_relies root (linked_to.Refused refused) r = tt

    -- and after the copy
    copied_relies : (resize : Resize) (from : ℕ) (aim : Aim) → IsOwnAim aim → (end : Copied) → ReliesCopied g c s loaded.call.last loaded.kept aim end
        → ReliesStage g c s loaded (copied resize from end)
    copied_relies resize from aim own (copied_to.On copying) is = (still_own aim (aim_of copying) own is.0, is.1)
    copied_relies resize from aim own (copied_to.Search table) is = over_relies resize
    copied_relies resize from aim own (copied_to.Root root) is = over_relies resize
    copied_relies resize from aim own copied_to.Chunk is = over_relies resize
    copied_relies resize from aim own (copied_to.Refused refused) is = tt

  module _ (hashed : IsHashed g c) (s : State P) (m : K → Option P) (keeps : IsKeeping g s m) (resize : Resize) (mode : ResizeMode)
      (initial number : ℕ) (loaded : LoadedPairs P) where
    -- the exchange was allowed, and it relies on facts that hold in the state after the answer
    abbrev HasGone : Stage → Answer → List (Exchange P) → LoadedPairs P → Type 0
    HasGone stage answer es loaded' = AllAllowed g s es × ReliesStage g c (run es s) loaded' (after_in resize mode initial number answer stage)

    -- if nothing was exchanged
    quiet : (stage : Stage) (answer answer' : Answer) (es : List (Exchange P)) (loaded' : LoadedPairs P) → answer ≡ answer' → es ≡ []
        → ReliesStage g c s loaded' (after_in resize mode initial number answer' stage) → HasGone stage answer es loaded'
    quiet stage answer answer' es loaded' a e r = subst (λ y. HasGone stage y es loaded') (sym a) (subst (λ y. HasGone stage answer' y loaded') (sym e) (tt, r))

    -- the root is on the chain, if there is one
    on_root : (s.root ≡ 0 → ⊥) → IsOn s.first s.next s.root × (s.was_root s.root ≡ true)
    on_root some =
        let sound = keeping_sound g s m keeps in
        ⊎_elim (λ none. absurd (some none.0)) (λ on. (on, sound.root_was on.0)) sound.root

    -- after each answer
    pub stage_learns : IsModeOf mode g.blocking → IsCutAs mode g.chunk_of → (stage : Stage) → ReliesStage g c s loaded stage → (answer : Answer)
        → (answer ≡ answers.Call Exchanged → HasWords g (link_of stage)) → (es : List (Exchange P)) (loaded' : LoadedPairs P)
        → IsTrueOfStage g c s stage loaded answer es loaded' → HasGone stage answer es loaded'
    stage_learns moded cut AtRoot r answer words es loaded' told =
        let h = told_of_ask s loaded AtRoot (Load Root) refl answer es loaded' told in
        quiet AtRoot answer (answers.Call (Word_read s.root)) es loaded' h.0 h.1 (root_relies s loaded' s.root on_root resize)
    stage_learns moded cut (Making room) r answer words es loaded' told =
        let h = told_of_ask s loaded (Making room) (MakeTable room.len room.limit 0) refl answer es loaded' told in
        ⊎_elim
        (λ (u : (refused : Refused) × (answer ≡ answers.Call (Was_refused refused))).
        quiet (Making room) answer (answers.Call (Was_refused u.0)) es loaded' u.1 h.1.0 tt)
        (λ (n : (n : ℕ) × (0 < n) × (answer ≡ answers.Call (Made_number n))).
        quiet (Making room) answer (answers.Call (Made_number n.0)) es loaded' n.2 h.1.0 n.1)
        h.0
    stage_learns moded cut (Opening table) r answer words es loaded' told =
        by_test (s.root == 0)
        ((answer ≡ answers.Call Exchanged) × (es ≡ Open table ∷ []) × (loaded' ≡ loaded))
        ((answer ≡ answers.Call (Found_instead s.root)) × Quiet g c loaded es loaded')
        (HasGone (Opening table) answer es loaded') told
        (λ none (a, e, h). subst (λ y. HasGone (Opening table) y es loaded') (sym a)
        (subst (λ y. HasGone (Opening table) (answers.Call Exchanged) y loaded') (sym e) (((eqb-true s.root 0 none, r), tt), tt)))
        (λ some (a, h). quiet (Opening table) answer (answers.Call (Found_instead s.root)) es loaded' a h.0 tt)
    stage_learns moded cut (Sizing root) r answer words es loaded' told =
        let h = told_of_ask s loaded (Sizing root) (SizeOf root) refl answer es loaded' told in
        quiet (Sizing root) answer (answers.Call (Size (g.size root) h.0.0)) es loaded' h.0.2 h.1.0 (r.0, r.1, refl)
    stage_learns moded cut (Counting root len) r answer words es loaded' told =
        let h = told_of_ask s loaded (Counting root len) Count refl answer es loaded' told in
        quiet (Counting root len) answer (answers.Count h.0.0) es loaded' h.0.1 h.1.0 (count_relies s loaded' root len h.0.0 r resize)
    stage_learns moded cut (Looking root len None) r answer words es loaded' told =
        let h = told_of_ask s loaded (Looking root len None) (Load (Next root)) refl answer es loaded' told in
        quiet (Looking root len None) answer (answers.Call (Word_read (s.next root))) es loaded' h.0 h.1
        (next_relies s loaded' mode cut root len None r (s.next root))
    stage_learns moded cut (Looking root len (Some room)) r answer words es loaded' told =
        let h = told_of_ask s loaded (Looking root len (Some room)) (Load (Next root)) refl answer es loaded' told in
        quiet (Looking root len (Some room)) answer (answers.Call (Word_read (s.next root))) es loaded' h.0 h.1
        (next_relies s loaded' mode cut root len (Some room) r (s.next root))
    stage_learns moded cut (Linking link) r answer words es loaded' told =
        let h = told_of_ask s loaded (Linking link) (link_ask link) refl answer es loaded' told in
        let out = link_learns g c s m keeps mode cut initial loaded link r answer words es loaded' h in
        (out.0, linked_relies (run es s) loaded' (follows link) (link_after link mode initial answer) out.1)
    stage_learns moded cut (Copying from copying) (own, r) answer words es loaded' told =
        let h = told_of_ask s loaded (Copying from copying) (copying_ask copying) refl answer es loaded' told in
        let out = copying_learns g c hashed s m keeps mode moded cut initial number loaded copying r answer words es loaded' h in
        (out.0, copied_relies (run es s) loaded' resize from (aim_of copying) own (copying_after copying mode initial number answer) out.1)
    stage_learns moded cut Done r answer words es loaded' told = let e = told.1 in absurd cc
    stage_learns moded cut (Ended_refused refused) r answer words es loaded' told = let e = told.1 in absurd cc
