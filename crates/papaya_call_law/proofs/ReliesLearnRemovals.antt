-- A removal: the pair with which its closure was called may be removed. If it is kept, the map had
-- it, and if another call removed it, the map had none at some point. A compute that was to remove
-- the pair continues in that case.
use Rattle.std.proofs.Common.{◌≡◌, inl, ℕ, Bool, true, false, None, Some, List, ◌++◌, refl, sym, ap, ◌∙◌, subst}
use Rattle.papaya_words.specs.Word.{kind_of}
use Rattle.papaya_words.specs.declared.word.Kind.{Kind}
use Rattle.papaya_words.specs.declared.word.Kind.TheVariants as word_kinds
use Rattle.papaya_call.specs.declared.ask.StepKind.TheVariants as kinds
use Rattle.papaya_call.specs.declared.call.Reply.TheVariants.{Removed}
use Rattle.papaya_call.specs.declared.call.Task.{Task}
use Rattle.papaya_call.specs.declared.call.Task.TheVariants.{Get, Insert, RemoveIf, Compute}
use Rattle.papaya_call.specs.declared.remove.Removal.{Removal}
use Rattle.papaya_call.specs.declared.machine.Machine.{Machine}
use Rattle.papaya_call.specs.declared.machine.State.TheVariants.{Ended}
use Rattle.papaya_words_law.specs.Exchange.{Live, Setting, State, Exchange, run, start}
use Rattle.papaya_words_law.specs.Allows.{AllAllowed, Allows}
use Rattle.papaya_words_law.specs.Code.{Coding, IsOfKind, code}
use Rattle.papaya_words_law.specs.Invariant.{named}
use Rattle.papaya_words_law.specs.Later.{Becomes}
use Rattle.papaya_call.specs.Machine.{HasClosure, agreed, beaten_as, beaten_by, goes, judged}
use Rattle.papaya_call.specs.Search.{look as look_seen}
use Rattle.papaya_call_law.specs.TrueAnswers.{LoadedPairs}
use Rattle.papaya_words_law.specs.Code.{IsHashed}
use Rattle.papaya_call_law.specs.Relies.{MayRemove, ReliesStage, WasAtMoment}
use Rattle.papaya_words_law.proofs.CodeViews.{word_of_kind}
use Rattle.papaya_call_law.proofs.ReliesExchange.{may_bury}
use Rattle.papaya_call_law.proofs.ReliesLearnGoes.{had_pair}
use Rattle.papaya_call_law.proofs.ReliesLearnLook.{became_of}
use Rattle.papaya_call_law.proofs.ReliesLearnMoments.{buried_here}
use Rattle.papaya_call_law.proofs.ReliesLearnWrites.{IsSlotAsked, one_more}

module _ {K P : Type 0} (g : Setting K P) (c : Coding K P) (hashed : IsHashed g c) (begun since : List (Exchange P))
    (may : AllAllowed g start (begun ++ since)) (k : K) where
  -- the state after all exchanges
  abbrev now : State P
  now = run (begun ++ since) start

  -- a pair that was deleted and counted is the reply
  pub uncounted : (loaded : LoadedPairs P) (task : Task) (n : ℕ) → HasClosure task → ReliesStage g c begun since k loaded task (Ended (Removed n))
  uncounted loaded Get n is = absurd is
  uncounted loaded (Insert replace) n is = absurd is
  uncounted loaded RemoveIf n is = tt
  uncounted loaded Compute n is = tt

  module _ (loaded : LoadedPairs P) (removal : Removal) (r : MayRemove g c begun since k loaded removal) where
    -- the word that was loaded was Live
    was_live : r.met.was ≡ Live r.pair
    was_live =
        let live : IsOfKind word_kinds.Live r.met.was = subst (λ y. IsOfKind y r.met.was) (ap kind_of (sym r.met.as_loaded) ∙ r.live)
        (word_of_kind g c r.met.was) in
        let names = ap named (sym live.1) ∙ r.met.names in
        let is : live.0 ≡ r.pair = cc names in
        live.1 ∙ ap Live is

    -- the word that is there now came from the pair
    became : Becomes g (Live r.pair) (now.slot removal.place.table removal.place.probe.i)
    became = became_of g c hashed begun since may k removal.place removal.word r.pair r.met (Live r.pair) was_live

    -- a Live word there is still the key's
    same_now : (q : P) → now.slot removal.place.table removal.place.probe.i ≡ Live q → g.same k (g.key q) ≡ true
    same_now q is = let kept : g.key q ≡ g.key r.pair = subst (Becomes g (Live r.pair)) is became in subst (λ l. g.same k l ≡ true) (sym kept) r.same

    -- the deletion that was requested is allowed
    pub buries : (new : ℕ) (es : List (Exchange P)) → IsSlotAsked g c hashed begun since may k (Some kinds.Bury) removal.place new loaded es
        → AllAllowed g start (begun ++ (since ++ es))
    buries new es h =
        let p : P = (h.1).0 in
        let allows : Allows g now h.0 = subst (Allows g now) (sym (h.1).2)
        (may_bury g c hashed begun since may k removal.place r.met.stands p (h.1).1 (same_now p (h.1).1)) in
        subst (λ l. AllAllowed g start (begun ++ (since ++ l))) (sym h.2) (one_more g c hashed begun since may k h.0 allows)

    -- if the closure returns `true` the pair is to be deleted, and otherwise the map had the pair
    agreed_relies : (agrees : Bool) → ReliesStage g c begun since k loaded RemoveIf (agreed removal agrees)
    agreed_relies true = (tt, r)
    agreed_relies false = had_pair g c hashed begun since may k removal.place removal.word r.pair r.met r.same (inl was_live)

    -- the closure of a compute has no such result
    pub judged_relies : (task : Task) → HasClosure task → (agrees : Bool) → ReliesStage g c begun since k loaded task (judged task removal agrees)
    judged_relies Get is agrees = absurd is
    judged_relies (Insert replace) is agrees = absurd is
    judged_relies RemoveIf is agrees = agreed_relies agrees
    judged_relies Compute is agrees = (tt, r)

    -- another call deleted the pair
    buried_absent : IsOfKind word_kinds.Buried (now.slot removal.place.table removal.place.probe.i) → WasAtMoment g c begun since k None
    buried_absent b =
        let m = r.met.stood in
        buried_here g c hashed.lawful begun since may k m.0 (m.1).0 (m.1).1 removal.place.table removal.place.probe.i r.pair b.0
        ((m.1).2 ∙ was_live) r.same b.1

    module _ (m : Machine) (loaded' : LoadedPairs P) (word : ℕ) (is : word ≡ code g c (now.slot removal.place.table removal.place.probe.i)) where
      -- so if another word is there, a removal is over if that is Buried, and otherwise continues
      -- as its search does
      by_kind : ReliesStage g c begun since k loaded' RemoveIf (goes m (look_seen removal.place word)) → (y : Kind) → kind_of word ≡ y
          → ReliesStage g c begun since k loaded' RemoveIf (beaten_by y m removal.place word)
      by_kind on word_kinds.Buried e = buried_absent
          (subst (λ y. IsOfKind y (now.slot removal.place.table removal.place.probe.i)) (ap kind_of (sym is) ∙ e)
          (word_of_kind g c (now.slot removal.place.table removal.place.probe.i)))
      by_kind on word_kinds.Empty e = on
      by_kind on word_kinds.Live e = on
      by_kind on word_kinds.Marked e = on
      by_kind on word_kinds.Copied e = on
      by_kind on word_kinds.Closed e = on

      -- and a compute continues in any case
      pub beaten_relies : (task : Task) → HasClosure task → ReliesStage g c begun since k loaded' task (goes m (look_seen removal.place word))
          → ReliesStage g c begun since k loaded' task (beaten_as task m removal.place word)
      beaten_relies Get closure on = absurd closure
      beaten_relies (Insert replace) closure on = absurd closure
      beaten_relies RemoveIf closure on = by_kind on (kind_of word) refl
      beaten_relies Compute closure on = on
