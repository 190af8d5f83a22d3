-- When a search ends, the machine relies on the outcome of the search.
use Rattle.std.proofs.Common.{◌≡◌, ◌⊎◌, inl, inr, ⊎_elim, ℕ, true, false, cond, None, Some, List, ◌++◌, refl, sym, ap, ◌∙◌, subst}
use Rattle.papaya_words.specs.Word.{kind_of, pair_of}
use Rattle.papaya_words.specs.declared.word.Kind.TheVariants as kinds
use Rattle.papaya_words.specs.declared.resize_mode.ResizeMode.{ResizeMode}
use Rattle.papaya_words.specs.declared.resize_mode.ResizeMode.TheVariants.{Incremental, Blocking}
use Rattle.papaya_call.specs.declared.call.Task.{Task}
use Rattle.papaya_call.specs.declared.call.Task.TheVariants.{Get, Insert, RemoveIf, Compute}
use Rattle.papaya_call.specs.declared.compute.Gap.TheVariants.{At, After}
use Rattle.papaya_call.specs.declared.compute.Remembered.{Remembered}
use Rattle.papaya_call.specs.declared.search.Place.{Place}
use Rattle.papaya_call.specs.declared.search.ProbeStep.{ProbeStep}
use Rattle.papaya_call.specs.declared.search.ProbeStep.TheVariants as seen
use Rattle.papaya_words_law.specs.Exchange.{Word, Live, Marked, Copied, Setting, State, Exchange, run, start}
use Rattle.papaya_words_law.specs.View.{Foreign, Here, Leaving, Gone, own, held, view}
use Rattle.papaya_words_law.specs.Allows.{AllAllowed}
use Rattle.papaya_words_law.specs.Code.{Coding, code}
use Rattle.papaya_call.specs.Machine.{goes_as, computes, found, occupies, removes, replaces}
use Rattle.papaya_call_law.specs.TrueAnswers.{LoadedPairs}
use Rattle.papaya_words_law.specs.Code.{IsHashed}
use Rattle.papaya_call_law.specs.Relies.{HadPair, HasMet, IsAt, IsMovingFrom, IsModeOf, MayRemove, ReliesChoice, ReliesFill, ReliesStage, WasAtMoment}
use Rattle.papaya_words_law.proofs.Codes.{code_kind, code_pair}
use Rattle.papaya_call_law.proofs.ReliesLearnComputes.{lacks_relies, recalls_relies, replaceable}
use Rattle.papaya_call_law.proofs.ReliesLearnMoments.{empty_here, over_blocking}
use Rattle.papaya_call_law.proofs.ReliesLearnPlaces.{ReliesProbed, sees}
use Rattle.papaya_call_law.proofs.ReliesLearnLook.{became_of}

module _ {K P : Type 0} (g : Setting K P) (c : Coding K P) (hashed : IsHashed g c) (begun since : List (Exchange P))
    (may : AllAllowed g start (begun ++ since)) (k : K) where
  -- the state after all exchanges
  abbrev now : State P
  now = run (begun ++ since) start

  module _ (at : Place) (word : ℕ) (p : P) (h : HasMet g c begun since k at word p) (same : g.same k (g.key p) ≡ true) where
    -- the key's search finds a pair of the key that was Live
    shows_live : h.was ≡ Live p → view g k h.was ≡ Here p
    shows_live e = ap (view g k) e ∙ ap (λ b. cond b (Here p) Foreign) same

    -- and one that was Marked
    shows_marked : h.was ≡ Marked p → view g k h.was ≡ Leaving p
    shows_marked e = ap (view g k) e ∙ ap (λ b. cond b (Leaving p) Foreign) same

    -- the map had the pair at some point
    pub had_pair : (h.was ≡ Live p) ⊎ (h.was ≡ Marked p) → HadPair g c begun since k (pair_of word)
    had_pair e = (
      p,
      sym (ap pair_of h.as_loaded ∙ (code_pair g c hashed.coding h.was p h.names)),
      h.had (⊎_elim (λ l. ap held (shows_live l)) (λ m. ap held (shows_marked m)) e),
    )

    -- if it was Marked the pair is being copied, or was
    moving : h.was ≡ Marked p → IsMovingFrom g c begun since k at.table at.probe.i
    moving e =
        ⊎_elim
        (λ m. (
          at.probe.len,
          p,
          h.stands.within,
          sym h.stands.slot,
          inl
              (sees g c hashed begun since k at h.stands (Marked p) m ∙ ap (λ b. cond b (Leaving p) Foreign) same),
        ))
        (λ m. (
          at.probe.len,
          p,
          h.stands.within,
          sym h.stands.slot,
          inr
              (sees g c hashed begun since k at h.stands (Copied p) m ∙ ap (λ b. cond b (Gone p) Foreign) same),
        ))
        (became_of g c hashed begun since may k at word p h (Marked p) e)

    -- the number determines the kind of the word at that point
    live_kind : h.was ≡ Live p → kind_of word ≡ kinds.Live
    live_kind e = ap kind_of (h.as_loaded ∙ ap (code g c) e) ∙ code_kind g c (Live p)

    -- and so it does for a Marked one
    marked_kind : h.was ≡ Marked p → kind_of word ≡ kinds.Marked
    marked_kind e = ap kind_of (h.as_loaded ∙ ap (code g c) e) ∙ code_kind g c (Marked p)

    -- its pair may be removed
    removable : (loaded : LoadedPairs P) → loaded.last ≡ Some p → h.was ≡ Live p → MayRemove g c begun since k loaded (record { place = at; word = word })
    removable loaded last e = record { pair = p; last = last; met = h; live = live_kind e; same = same }

    -- an insertion that replaces
    replacing : (loaded : LoadedPairs P) → loaded.last ≡ Some p → (h.was ≡ Live p) ⊎ (h.was ≡ Marked p)
        → ReliesStage g c begun since k loaded (Insert true) (replaces (kind_of word) at word)
    replacing loaded last (inl e) = subst (λ y. ReliesStage g c begun since k loaded (Insert true) (replaces y at word)) (sym (live_kind e))
        (replaceable g c begun since k loaded (record { place = at; old = word }) (removable loaded last e))
    replacing loaded last (inr e) =
        subst (λ y. ReliesStage g c begun since k loaded (Insert true) (replaces y at word)) (sym (marked_kind e)) (tt, (h.stands.come, moving e))

    -- one that replaces nothing
    trying : (loaded : LoadedPairs P) → (h.was ≡ Live p) ⊎ (h.was ≡ Marked p)
        → ReliesStage g c begun since k loaded (Insert false) (occupies (kind_of word) at word)
    trying loaded (inl e) = subst (λ y. ReliesStage g c begun since k loaded (Insert false) (occupies y at word)) (sym (live_kind e)) (had_pair (inl e))
    trying loaded (inr e) =
        subst (λ y. ReliesStage g c begun since k loaded (Insert false) (occupies y at word)) (sym (marked_kind e)) (tt, (h.stands.come, moving e))

    -- a removal
    removing : (loaded : LoadedPairs P) → loaded.last ≡ Some p → (h.was ≡ Live p) ⊎ (h.was ≡ Marked p)
        → ReliesStage g c begun since k loaded RemoveIf (removes (kind_of word) at word)
    removing loaded last (inl e) = subst (λ y. ReliesStage g c begun since k loaded RemoveIf (removes y at word)) (sym (live_kind e))
        (tt, removable loaded last e)
    removing loaded last (inr e) =
        subst (λ y. ReliesStage g c begun since k loaded RemoveIf (removes y at word)) (sym (marked_kind e)) (tt, (h.stands.come, moving e))

    -- a compute
    computing : (loaded : LoadedPairs P) → loaded.last ≡ Some p → (held : Remembered) → ReliesChoice g c begun since k loaded held.choice
        → (h.was ≡ Live p) ⊎ (h.was ≡ Marked p)
        → ReliesStage g c begun since k loaded Compute (computes (kind_of word) held at word)
    computing loaded last held own (inl e) =
        subst (λ y. ReliesStage g c begun since k loaded Compute (computes y held at word)) (sym (live_kind e))
        (recalls_relies g c begun since k loaded at word (removable loaded last e) held.choice own (pair_of word))
    computing loaded last held own (inr e) =
        subst (λ y. ReliesStage g c begun since k loaded Compute (computes y held at word)) (sym (marked_kind e)) (tt, (h.stands.come, moving e))

    -- each task
    finds : (loaded : LoadedPairs P) → loaded.last ≡ Some p → (held : Remembered) → ReliesChoice g c begun since k loaded held.choice → (task : Task)
        → (h.was ≡ Live p) ⊎ (h.was ≡ Marked p)
        → ReliesStage g c begun since k loaded task (found task held at word)
    finds loaded last held own Get e = had_pair e
    finds loaded last held own (Insert false) e = trying loaded e
    finds loaded last held own (Insert true) e = replacing loaded last e
    finds loaded last held own RemoveIf e = removing loaded last e
    finds loaded last held own Compute e = computing loaded last held own e

  -- a call that looks for its key comes to an Empty place
  empty_relies : (at : Place) → IsAt g c begun since k at → now.slot at.table at.probe.i ≡ Word.Empty → WasAtMoment g c begun since k None
  empty_relies at r e = empty_here g c hashed.lawful begun since may k at.table at.probe.len r.come r.within r.before
      (sees g c hashed begun since k at r Word.Empty e)

  module _ (loaded : LoadedPairs P) (held : Remembered) (fill : ReliesFill g c begun since k loaded held.fill)
      (choice : ReliesChoice g c begun since k loaded held.choice) where
    -- after the outcome of a search the machine relies on facts that hold
    pub goes_relies : (task : Task) (mode : ResizeMode) → IsModeOf mode g.blocking → (s : ProbeStep) → ReliesProbed g c hashed begun since k loaded s
        → ReliesStage g c begun since k loaded task (goes_as task mode held s)
    goes_relies task mode is (seen.On _) r = r
    goes_relies task mode is (seen.Here at word) r = finds at word r.0 r.2 r.3 loaded r.1 held choice task r.4
    goes_relies Get mode is (seen.Empty at) r = empty_relies at r.0 r.1
    goes_relies RemoveIf mode is (seen.Empty at) r = empty_relies at r.0 r.1
    goes_relies Compute mode is (seen.Empty at) r = lacks_relies g c begun since k loaded held.fill fill (At at) r.0 (empty_relies at r.0 r.1)
    goes_relies (Insert replace) mode is (seen.Empty at) r = record { stands = r.0; old = inl refl }
    goes_relies Get (Incremental chunk) is (seen.Over t) r = (is, r.0, r.1)
    goes_relies Get Blocking is (seen.Over t) r = over_blocking g c hashed.lawful begun since may k t r.0 is r.1
    goes_relies RemoveIf (Incremental chunk) is (seen.Over t) r = (is, r.0, r.1)
    goes_relies RemoveIf Blocking is (seen.Over t) r = over_blocking g c hashed.lawful begun since may k t r.0 is r.1
    goes_relies Compute (Incremental chunk) is (seen.Over t) r = (is, r.0, r.1)
    goes_relies Compute Blocking is (seen.Over t) r = lacks_relies g c begun since k loaded held.fill fill (After t) r
        (over_blocking g c hashed.lawful begun since may k t r.0 is r.1)
    goes_relies (Insert replace) mode is (seen.Over t) r = (tt, r)
