-- Without blocking: after each list of allowed exchanges the words represent one map.
use Rattle.std.proofs.Common.{◌≡◌, ⊎_elim, ℕ, true, false, Option, None, List, [], ◌∷◌, arith}
use Rattle.papaya_words_law.specs.Exchange.{Setting, State, Exchange, Open, Claim, Replace, Bury, Link}
use Rattle.papaya_words_law.specs.Exchange.{Mark, Close, Place, Finish, Advance, Promote, Abort, Take}
use Rattle.papaya_words_law.specs.Exchange.{after, run}
use Rattle.papaya_words_law.specs.View.{look, held}
use Rattle.papaya_words_law.specs.Allows.{Allows, AllAllowed}
use Rattle.papaya_words_law.specs.Meaning.{map_after, map_of, IsLegal, IsLawful, IsMeaning}
use Rattle.papaya_words_law.specs.Class.{IsOn}
use Rattle.papaya_words_law.specs.Invariant.{IsIncrementalState}
use Rattle.papaya_words_law.proofs.Class.{found_is, empty_is, over_is, none_is}
use Rattle.papaya_words_law.proofs.Views.{held-active, active-own}
use Rattle.papaya_words_law.proofs.Chain.{has_next}
use Rattle.papaya_words_law.proofs.Incremental.States.{reached_front, claim_incremental}
use Rattle.papaya_words_law.proofs.Incremental.SlotSteps.{replace_incremental, bury_incremental}
use Rattle.papaya_words_law.proofs.Incremental.SlotSteps.{mark_incremental, close_incremental}
use Rattle.papaya_words_law.proofs.Incremental.SlotSteps.{place_incremental, finish_incremental}
use Rattle.papaya_words_law.proofs.Incremental.TableSteps.{open_incremental, link_incremental, advance_incremental, promote_incremental}
use Rattle.papaya_words_law.proofs.Base.{take_sound}
use Rattle.papaya_words_law.proofs.Base.{no_root}

module _ {K P : Type 0} (g : Setting K P) (law : IsLawful g) (inc : g.blocking ≡ false) where
  -- the law of one step
  pub step_incremental : (s : State P) (m : K → Option P) → IsIncrementalState g s m → (e : Exchange P) → Allows g s e → IsLegal g m e
      × IsIncrementalState g (after s e) (map_after g m e)
  step_incremental s m holds (Open t) may = (tt, open_incremental g inc s m holds t may.0 may.1)
  step_incremental s m holds (Claim t x p) may = claim_incremental g law inc s m holds t x p may
  step_incremental s m holds (Replace t x p q) may = replace_incremental g law inc s m holds t x p q may
  step_incremental s m holds (Bury t x p) may = bury_incremental g law inc s m holds t x p may
  step_incremental s m holds (Link t n) may = (tt, link_incremental g inc s m holds t n may)
  step_incremental s m holds (Mark t x p) may = (tt, mark_incremental g law inc s m holds t x p may)
  step_incremental s m holds (Close t x) may = (tt, close_incremental g law inc s m holds t x may)
  step_incremental s m holds (Place n x p) may = (tt, place_incremental g law inc s m holds n x p may)
  step_incremental s m holds (Finish t x p) may = (tt, finish_incremental g law inc s m holds t x p may)
  step_incremental s m holds (Advance n c) may = (tt, advance_incremental g inc s m holds n c may)
  step_incremental s m holds (Promote t n) may = (tt, promote_incremental g inc s m holds t n may)
  step_incremental s m holds (Abort n) may = absurd (let b = may.mode in cc (b, inc))
  step_incremental s m holds (Take k) may =
      (tt, record { sound = take_sound g s holds.sound k; settled = holds.settled; done = holds.done; covered = holds.covered; class = holds.class })

  -- the invariant gives the meaning of the words
  pub meaning_incremental : (s : State P) (m : K → Option P) → IsIncrementalState g s m → (k : K) → IsMeaning g s k (m k)
  meaning_incremental s m holds k = record {
    no_root = λ e. over_none e;
    found = λ t j p r at lt h. let f = reached_front g law inc s m holds k t r in
        found_is (IsOn s.first s.next) g.places (g.place k) (look g s k) (m k) (holds.class k) t j p f.0 f.1 lt h;
    empty = λ t j r at lt before free. let f = reached_front g law inc s m holds k t r in
        empty_is (IsOn s.first s.next) g.places (g.place k) (look g s k) (m k) (holds.class k) t j f.0 f.1 lt before free;
    over = λ t r pass last. let f = reached_front g law inc s m holds k t r in
        over_is (IsOn s.first s.next) g.places (g.place k) (look g s k) (m k) (holds.class k) t f.1 pass
        (λ u on lt. ⊎_elim (λ b. cc (b.0, inc)) (λ e. let h = has_next s.next holds.rises s.first t u f.0 on lt in let z = e.1 in omega arith) last);
  }
    where
      over_none : s.root ≡ 0 → m k ≡ None
      over_none e = none_is (IsOn s.first s.next) g.places (g.place k) (look g s k) (m k) (holds.class k) 0 (λ l on lt. absurd (omega arith))
          (λ i lt h. away 0 i h) (λ u j on lt l h f. away u j h)
        where
          away : (u j : ℕ) → held (look g s k u j) ≡ true → ⊥
          away u j h = no_root g s holds.sound e u ((holds.class k).base.on u j (active-own (look g s k u j) (held-active (look g s k u j) h)))

  -- every point of an allowed list, and every change in it, from a state that keeps a map
  pub run_incremental : (es : List (Exchange P)) (s : State P) (m : K → Option P) → IsIncrementalState g s m → AllAllowed g s es
      → IsIncrementalState g (run es s) (map_of g m es)
  run_incremental [] s m holds may = holds
  run_incremental (e ∷ es) s m holds may = run_incremental es (after s e) (map_after g m e) (step_incremental s m holds e may.0).1 may.1
