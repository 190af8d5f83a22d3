-- The law of one call that is made alone.
use Rattle.std.proofs.Common.{◌≡◌, ℕ, Bool, true, List, [], ◌∷◌, sym, subst}
use Rattle.std.specs.Cmp.{IsEquivalence}
use Rattle.papaya_call.specs.declared.call.Call.{Call}
use Rattle.papaya_call.specs.declared.call.Reply.{Reply}
use Rattle.papaya_core_timeline.specs.declared.trace.Turn.TheVariants.{Begin, Finish}
use Rattle.papaya_core_timeline.specs.Content.{content, map_of}
use Rattle.papaya_core_timeline.specs.Core.{CoreState}
use Rattle.papaya_core_timeline.specs.Counted.{IsCounted}
use Rattle.papaya_core_timeline.specs.Headline.{HasTimeline}
use Rattle.papaya_core_timeline.specs.Kept.{IsLawfulCore}
use Rattle.papaya_core_timeline.specs.Runs.{History}
use Rattle.papaya_core_timeline.specs.Solo.{IsAnswered, IsNewIn, RunsAlone, whatever}
use Rattle.papaya_core_store.specs.Store.{KeepsPairs, Stored}
use Rattle.papaya_words_keys.specs.Hashes.{hash_of}
use Rattle.papaya_core_timeline.specs.Timeline.{Timeline}
use Rattle.papaya_core_timeline.proofs.HeadlineLemmas.{lawful_timeline}
use Rattle.papaya_core_timeline.proofs.KeptCore.{keys_lawful}
use Rattle.papaya_core_timeline.proofs.SoloRun.{IsOver, over_core, over_counted, runs_over}
use Rattle.papaya_core_timeline.proofs.SoloTimeline.{lookup_alike}
use Rattle.papaya_core_timeline.proofs.SoloScans.{timeline_answered}

module _ {K V S A H : Type 0} (eq : K → K → Bool) (input : K → List (List ℕ)) (build : S → H) (write : H → List ℕ → H) (finish : H → ℕ)
    (classes : IsEquivalence eq) (respects : (x y : K) → eq x y ≡ true → input x ≡ input y)
    (s s' : CoreState K V S A) (call : Call K V A) (reply : Reply)
    (lawful : IsLawfulCore eq (hash_of input build write finish s.store.hasher) s.store s.callers s.mode)
    (alone : RunsAlone eq (hash_of input build write finish) s call reply s') where
  -- the call is over
  over : IsOver eq (hash_of input build write finish) s (keys_lawful eq input build write finish classes respects s.store.hasher) whatever s'
      (alone.last ∷ alone.before) reply
  over = runs_over eq (hash_of input build write finish) s (keys_lawful eq input build write finish classes respects s.store.hasher) call reply s' lawful alone

  -- its run has a timeline
  timeline : HasTimeline eq whatever (Begin 0 call ∷ Finish 0 alone.steps ∷ []) s (alone.last ∷ alone.before) s'
  timeline = lawful_timeline eq input build write finish classes respects whatever (Begin 0 call ∷ Finish 0 alone.steps ∷ []) 2 s s'
      (alone.last ∷ alone.before) lawful alone.runs

  -- its effect is that of the finite map
  pub alone_answered : IsAnswered eq call (map_of eq s) reply (map_of eq s')
  alone_answered =
      timeline_answered eq alone.steps (map_of eq s) (lookup_alike eq classes (λ (p : Stored K V). p.key) (content eq s.store)) over.events
      over.of_steps reply timeline.last (map_of eq s') call timeline.maps timeline.said
      (subst (λ (h : History). Timeline eq (Begin 0 call ∷ Finish 0 alone.steps ∷ []) (map_of eq s) h (timeline.last ∷ timeline.maps) timeline.said)
      over.history timeline.timeline)
      (λ j. sym (timeline.is_last j))

  -- it stored only a new pair, and every pair stays in the arena
  pub alone_logged : IsNewIn s.store reply × KeepsPairs s.store s'.store
  alone_logged = (over.unlogged, over.follows.keeps)

  -- it leaves the core in order, also without its idle seat
  pub alone_lawful : IsCounted eq s.store s.callers → IsLawfulCore {A = A} eq (hash_of input build write finish s'.store.hasher) s'.store [] s'.mode
      × IsCounted {A = A} eq s'.store [] × (s'.store.hasher ≡ s.store.hasher) × (s'.mode ≡ s.mode) × (s'.initial ≡ s.initial)
  alone_lawful counted =
      let law = keys_lawful eq input build write finish classes respects s.store.hasher in (
        over_core eq (hash_of input build write finish) s law s' (alone.last ∷ alone.before) reply over,
        over_counted eq (hash_of input build write finish) s law s' (alone.last ∷ alone.before) reply over counted,
        over.follows.hasher_is,
        over.follows.mode_is,
        over.follows.initial_is,
      )
