-- With blocking: after each list of allowed exchanges the words represent one map.
use Rattle.std.proofs.Common.{◌≡◌, ◌⊎◌, ⊎_elim, ℕ, ◌<◌, true, Option, List, [], ◌∷◌, sym, subst}
use Rattle.papaya_words_law.specs.Exchange.{Setting, State, Exchange, Open, Claim, Replace, Bury, Link}
use Rattle.papaya_words_law.specs.Exchange.{Mark, Close, Place, Finish, Advance, Promote, Abort, Take}
use Rattle.papaya_words_law.specs.Exchange.{after, run}
use Rattle.papaya_words_law.specs.View.{Free, Here, Leaving, look, beyond, IsPassed}
use Rattle.papaya_words_law.specs.Allows.{Allows, AllAllowed}
use Rattle.papaya_words_law.specs.Meaning.{map_after, map_of, IsLegal, IsLawful, IsMeaning}
use Rattle.papaya_words_law.specs.Class.{IsOn}
use Rattle.papaya_words_law.specs.Invariant.{IsBlockingState}
use Rattle.papaya_words_law.proofs.Class.{passed_not_held}
use Rattle.papaya_words_law.proofs.Blocking.ClassSteps.{root_found, root_none, root_empty}
use Rattle.papaya_words_law.proofs.Views.{held-active, active-own}
use Rattle.papaya_words_law.proofs.Blocking.SlotSteps.{claim_blocking, replace_blocking, bury_blocking, mark_blocking, close_blocking, place_blocking}
use Rattle.papaya_words_law.proofs.Base.{take_sound}
use Rattle.papaya_words_law.proofs.Blocking.TableSteps.{open_blocking, link_blocking, advance_blocking, promote_blocking, abort_blocking, none_own}

module _ {K P : Type 0} (g : Setting K P) (law : IsLawful g) (blocks : g.blocking ≡ true) where
  -- the law of one step
  pub step_blocking : (s : State P) (m : K → Option P) → IsBlockingState g s m → (e : Exchange P) → Allows g s e → IsLegal g m e
      × IsBlockingState g (after s e) (map_after g m e)
  step_blocking s m holds (Open t) may = (tt, open_blocking g s m holds t may.0 may.1)
  step_blocking s m holds (Claim t x p) may = claim_blocking g law blocks s m holds t x p may
  step_blocking s m holds (Replace t x p q) may = replace_blocking g law blocks s m holds t x p q may
  step_blocking s m holds (Bury t x p) may = bury_blocking g law blocks s m holds t x p may
  step_blocking s m holds (Link t n) may = (tt, link_blocking g s m holds blocks t n may)
  step_blocking s m holds (Mark t x p) may = (tt, mark_blocking g law blocks s m holds t x p may)
  step_blocking s m holds (Close t x) may = (tt, close_blocking g law blocks s m holds t x may)
  step_blocking s m holds (Place n x p) may = (tt, place_blocking g law blocks s m holds n x p may)
  step_blocking s m holds (Finish t x p) may = absurd (let b = may.mode in cc (b, blocks))
  step_blocking s m holds (Advance n c) may = (tt, advance_blocking g s m holds n c may)
  step_blocking s m holds (Promote t n) may = (tt, promote_blocking g s m holds law t n may)
  step_blocking s m holds (Abort n) may = (tt, abort_blocking g s m holds law n may)
  step_blocking s m holds (Take k) may = (
    tt,
    record {
      sound = take_sound g s holds.sound k;
      alive = holds.alive;
      frozen = holds.frozen;
      fresh = holds.fresh;
      copied = holds.copied;
      given_up = λ u a lt. let v = holds.given_up u a lt in
          record { on = v.on; between = v.between; slot = v.slot; pair = v.pair; marked = v.marked; full = v.full };
      done_to = λ u c lt h. let v = holds.done_to u c lt h in record { between = v.between; settled = v.settled };
      linked_by = holds.linked_by;
      covered = λ t n was r. holds.covered t n was (record { links = r.links; is = r.is; made = r.made; mode = r.mode; over = r.over });
      class = holds.class;
    },
  )

  -- the invariant gives the meaning of the words
  pub meaning_blocking : (s : State P) (m : K → Option P) → IsBlockingState g s m → (k : K) → IsMeaning g s k (m k)
  meaning_blocking s m holds k = record {
    no_root = λ e. root_none (IsOn s.first s.next) s.was_root s.aborted s.root g.places (g.place k) (look g s k) (m k) (holds.class k)
        (λ j lt h. none_own g s m holds e k s.root j (active-own (look g s k s.root j) (held-active (look g s k s.root j) h)));
    found = λ t j p r at lt h.
        let e : t ≡ s.root = sym (at blocks) in
        root_found (IsOn s.first s.next) s.was_root s.aborted s.root g.places (g.place k) (look g s k) (m k) (holds.class k) j p
        (subst (λ y. j < g.places y) e lt)
        (subst (λ y. (look g s k y j ≡ Here p) ⊎ (look g s k y j ≡ Leaving p)) e h);
    empty = λ t j r at lt before free.
        let e : t ≡ s.root = sym (at blocks) in
        root_empty (IsOn s.first s.next) s.was_root s.aborted s.root g.places (g.place k) (look g s k) (m k) (holds.class k) j
        (subst (λ y. j < g.places y) e lt)
        (subst (λ y. (i : ℕ) → i < j → beyond (look g s k y i) ≡ true) e before) (subst (λ y. look g s k y j ≡ Free) e free);
    over = λ t r pass last. ⊎_elim
        (λ h.
        root_none (IsOn s.first s.next) s.was_root s.aborted s.root g.places (g.place k) (look g s k) (m k) (holds.class k)
        (λ j lt e. passed_not_held (IsOn s.first s.next) g.places (g.place k) (look g s k) (holds.class k).base s.root j
        (subst (IsPassed g.places (look g s k)) (sym h.1) pass) lt e))
        (λ h. absurd (let b = h.0 in cc (b, blocks)))
        last;
  }

  -- every point of an allowed list, and every change in it, from a state that keeps a map
  pub run_blocking : (es : List (Exchange P)) (s : State P) (m : K → Option P) → IsBlockingState g s m → AllAllowed g s es
      → IsBlockingState g (run es s) (map_of g m es)
  run_blocking [] s m holds may = holds
  run_blocking (e ∷ es) s m holds may = run_blocking es (after s e) (map_after g m e) (step_blocking s m holds e may.0).1 may.1
