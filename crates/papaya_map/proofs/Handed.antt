-- A call that returns the result of another call with its evidence meets its contract if it passes on the evidence of the log. Assumes `Logic`.
use Rattle.std.proofs.Common.{◌≡◌, ℕ, List, [], ◌∷◌, refl, ap}
use seplogic.Ra.Ura.{Ura}
use mir.Syntax.{Callee, Fn, Ty}
use mir.Val.{Val}
use base.Logic.{SProp, ent, ex, sep, emp, id⊢, via, mono_r, emp∗, fst∗, snd∗}
use prog.Model.{Model}
use prog.Wp.{Closed}
use types.Logic.{Logic, sem}
use types.Kit.{‵, raw, ◌⊛◌, some, later, ◌$◌, ◌∵◌, !, qed, by, move, drop, split, pick, show, use0}
use types.Kit.{use1, await, updating, now, done, frame, fjoin, fpack, rewrite}
use contract.Lifetimes.{Lfts}
use contract.Monad.{fact, fact_i, fact_use}
use contract.Running.{Running, tables}
use denote.RattleType.{RattleType, Denots, Valss, flat}
use denote.Laws.{Are, Ises}
use denote.Signature.{Slot, type_at, types_at, plain}
use denote.Exit.{Kept, left}
use base.Stored.{Gv}
use base.Fml.{ftrue, fex, fsep}
use denote.Steps.{nothing, heard, only}
use denote.Param.{layout}
use denote.Param.Laws.{Laws}
use denote.Triple.Bound.{Bound}
use denote.Triple.Clauses.{Ended, Clauses, Lasts, at_exit, lasts, closing}
use denote.Triple.End.{Kepts, Fins}
use denote.Triple.Entry.{Args, Res, alive, on_entry}
use denote.Triple.Spec.{Meets, triple_of}
use denote.Triple.Walked.{Stays, stay_dropped, AllGo, Silent, Goes-dropped, walk_of, fits_of, has_of, says as so}
use Rattle.std.proofs.raw_atomic.Walks.{proved_at, leaves}
use Rattle.logbook.specs.Pages.{Book}
use Rattle.logbook.specs.Kept.{Rules, seen_owns, fact as said}
use Rattle.logbook.specs.declared.tokens.Rule.{Ghosts}
use Rattle.papaya_map.proofs.Telling.{Good, Observed, held, seen, told_out}
use Rattle.papaya_map.proofs.ToldWalks.{Walk}

-- no resource is left of any parameter at exit
module _ {n : ℕ} where
  abbrev pub dropped : (ss : List (Slot n)) (ks : Kepts ss) → Stays ss ks
  dropped [] ks = tt
  dropped (s ∷ ss) ks = (stay_dropped s ks.0, dropped ss ks.1)

  abbrev pub AllSilent : {M : Type 1} {𝓤 : Ura M} → Logic 𝓤 → (ss : List (Slot n)) (ks : Kepts ss) → Type 1
  AllSilent 𝓛 [] ks = Unit {1}
  AllSilent 𝓛 (s ∷ ss) ks = Silent 𝓛 n s ks.0 × AllSilent 𝓛 ss ks.1

  pub all_go : {M : Type 1} {𝓤 : Ura M} (𝓛 : Logic 𝓤) (ss : List (Slot n)) (ks : Kepts ss) → AllSilent 𝓛 ss ks → AllGo 𝓛 n ss ks (dropped ss ks)
  all_go 𝓛 [] ks q = tt
  all_go 𝓛 (s ∷ ss) ks q = (Goes-dropped 𝓛 n s ks.0 q.0, all_go 𝓛 ss ks.1 q.1)

  pub all_fit : (κs : Lfts n) (ss : List (Slot n)) (ks : Kepts ss) (a : Denots (types_at ss κs)) (ws : Fins κs ss ks a) → fits_of κs ss ks (dropped ss ks) a ws
  all_fit κs [] ks a ws = tt
  all_fit κs (s ∷ ss) ks a ws = (tt, all_fit κs ss ks.1 a.1 ws.1)

  pub none_left : {M : Type 1} {𝓤 : Ura M} (𝓛 : Logic 𝓤) (κs : Lfts n) (ss : List (Slot n)) (ks : Kepts ss) (a : Denots (types_at ss κs))
      (ws : Fins κs ss ks a) (vss : Valss (types_at ss κs))
      → ent 𝓤 (emp 𝓤) (sem 𝓛 (has_of κs ss ks (dropped ss ks) a ws vss))
  none_left {𝓤 = 𝓤} 𝓛 κs [] ks a ws vss = id⊢ 𝓤 (emp 𝓤)
  none_left {𝓤 = 𝓤} 𝓛 κs (s ∷ ss) ks a ws vss = via 𝓤 (sep 𝓤 (emp 𝓤) (emp 𝓤)) (emp∗ 𝓤 (emp 𝓤)) (mono_r 𝓤 (emp 𝓤) (none_left 𝓛 κs ss ks.1 a.1 ws.1 vss.1))

module _ (E A P : RattleType) (g : Ghosts P.Denot E.Denot A.Denot) (T : Ended) where
  abbrev pub Answer : Lfts T.signature.lifetimes → RattleType
  Answer κs = type_at T.signature.result κs

  abbrev pub Tells : Lfts T.signature.lifetimes → RattleType
  Tells κs = Observed (Answer κs) E A P g

  -- the callee's postcondition: the call's, with the evidence of the log beside the result
  abbrev pub asked : Ended
  asked = record {
    signature = record {
      lifetimes = T.signature.lifetimes;
      outlives = T.signature.outlives;
      params = T.signature.params;
      result = plain Tells;
    };
    kept = T.kept;
  }

  abbrev pub none : Stays T.signature.params T.kept
  none = dropped T.signature.params T.kept

  module _ {M : Type 1} {𝓤 : Ura M} (𝓛 : Logic 𝓤) (𝓜 : Model 𝓤 𝓛.H) (𝓡 : Running 𝓤 𝓛.H 𝓜) (c : Clauses 𝓤 T) (ck : Clauses 𝓤 asked)
      (F : (κs : Lfts T.signature.lifetimes) → Args T.signature κs → (Tells κs).Denot → Type 0)
      (asks : (κs : Lfts T.signature.lifetimes) (a : Args T.signature κs) (u : (c κs a).ghost) → (w : (ck κs a).ghost)
      × ent 𝓤 ((c κs a).requires u) ((ck κs a).requires w))
      (tells : (κs : Lfts T.signature.lifetimes) (a : Args T.signature κs) (w : (ck κs a).ghost) (r : (Tells κs).Denot) (ws : Lasts T κs a)
      → ent 𝓤 ((ck κs a).ensures w r (at_exit T κs a ws)) (fact 𝓤 (F κs a r)))
      (loaded : (κs : Lfts T.signature.lifetimes) (a : Args T.signature κs) (u : (c κs a).ghost) (r : (Tells κs).Denot) (ws : Lasts T κs a) → F κs a r
      → ent 𝓤 (sem 𝓛 (seen (Answer κs) E A P g r)) ((c κs a).ensures u r.answer (at_exit T κs a ws)))
      (L : (κs : Lfts T.signature.lifetimes) → Laws (Answer κs)) where
    module _ (y : (walk_of 𝓛 T none c).Ghost) where
      abbrev κs : Lfts T.signature.lifetimes
      κs = y.0.0

      abbrev a : Args T.signature κs
      a = y.0.3

      abbrev z : (triple_of 𝓛 asked.signature (closing 𝓛 asked ck)).Ghost
      z = (y.0, (asks κs a y.1).0)

      -- the resources that the callee leaves
      abbrev Rest : Val → (Tells κs).Denot → Lasts T κs a → SProp 𝓤
      Rest w r ws = sep 𝓤 (alive 𝓛 T.signature κs y.0.1)
          (sep 𝓤 (sem 𝓛 ((Answer κs).own_val r.answer (w ∷ []))) (sep 𝓤 (sem 𝓛 (seen (Answer κs) E A P g r)) (fact 𝓤 (F κs a r))))

      abbrev Left : Val → SProp 𝓤
      Left w = ex 𝓤 (λ (r : (Tells κs).Denot). ex 𝓤 (λ (ws : Lasts T κs a). Rest w r ws))

      gives : (v : Val) → ent 𝓤 ((triple_of 𝓛 asked.signature (closing 𝓛 asked ck)).post z v)
          (𝓛.H.⇛ (ex 𝓤 (λ (w : Val). sep 𝓤 (fact 𝓤 (Good (layout (Answer κs)) w × (v ≡ held w))) (Left w))))
      gives v =
          qed 𝓛 (later (some (λ (r : (Tells κs).Denot).
          (raw (alive 𝓛 T.signature κs y.0.1) ⊛ ‵ ((Tells κs).own_val r (v ∷ []))) ⊛ some
          (λ (ws : Lasts T κs a). ‵ (lasts T κs a ws) ⊛ raw ((ck κs a).ensures z.1 r (at_exit T κs a ws))))) ∷ []) ∵
          updating ! $ await ! tt $ pick ! (λ r. split ! $ move ! (1 ∷ []) $ pick !
          (λ ws. split ! $ drop ! $ use1 𝓛 (raw (fact 𝓤 (F κs a r))) (tells κs a z.1 r ws) $ heard ! _ (λ says. split ! $ move ! (1 ∷ []) $
          told_out (Answer κs) E A P g ! (L κs) r (v ∷ []) (λ w good ev. now ! $
          show ! (λ (x : Val). sep 𝓤 (fact 𝓤 (Good (layout (Answer κs)) x × (v ≡ held x))) (Left x)) w $ use0 𝓛
          (raw (fact 𝓤 (Good (layout (Answer κs)) w × (v ≡ held w)))) (fact_i 𝓤 _ (emp 𝓤) (good, ap only ev)) $ frame ! $
          show ! (λ (q : (Tells κs).Denot). ex 𝓤 (λ (us : Lasts T κs a). Rest w q us)) r $ show ! (λ (us : Lasts T κs a). Rest w r us) ws $ move !
          (2 ∷ []) $ frame ! $ frame ! $ so ! says $ done !))))

      ends : (w : Val) → ent 𝓤 (Left w) ((walk_of 𝓛 T none c).post y w)
      ends w = qed 𝓛 (some (λ (r : (Tells κs).Denot).
          some (λ (ws : Lasts T κs a). raw (alive 𝓛 T.signature κs y.0.1) ⊛ ‵ ((Answer κs).own_val r.answer (w ∷ [])) ⊛ ‵ (seen (Answer κs) E A P g r) ⊛
          raw (fact 𝓤 (F κs a r)))) ∷ []) ∵
          pick ! (λ r. pick ! (λ ws. split ! $ move ! (1 ∷ []) $ split ! $ move ! (1 ∷ []) $ split ! $ move ! (1 ∷ []) $ heard ! _ (λ says.
          use1 𝓛 (raw ((c κs a).ensures y.1 r.answer (at_exit T κs a ws))) (loaded κs a y.1 r ws says) $
          use0 𝓛 (‵ (has_of κs T.signature.params T.kept none a ws y.0.4)) (none_left 𝓛 κs T.signature.params T.kept a ws y.0.4) $
          move ! (3 ∷ 0 ∷ 2 ∷ 1 ∷ []) $ by ! (leaves 𝓛 T none c y w r.answer ws (all_fit κs T.signature.params T.kept a ws)))))

    pub meets : AllSilent 𝓛 T.signature.params T.kept → (k f : Callee) (fn : Fn) → Closed 𝓤 𝓛.H (tables 𝓤 𝓛.H 𝓜 𝓡 𝓡.env).C (tables 𝓤 𝓛.H 𝓜 𝓡 𝓡.env).Λ k fn
        → Meets 𝓛 asked.signature ((tables 𝓤 𝓛.H 𝓜 𝓡 𝓡.env).C f) (closing 𝓛 asked ck)
        → ((y : (walk_of 𝓛 T none c).Ghost) → Are (types_at T.signature.params y.0.0) (Ises (types_at T.signature.params y.0.0)) y.0.3 y.0.4
        → Walk 𝓤 𝓛 𝓜 𝓡 fn f (layout (Answer y.0.0)) (flat (types_at T.signature.params y.0.0) y.0.4))
        → Meets 𝓛 T.signature ((tables 𝓤 𝓛.H 𝓜 𝓡 𝓡.env).C k) (closing 𝓛 T c)
    meets silent k f fn closed met walk = proved_at 𝓛 T none c 𝓜 𝓡 (all_go 𝓛 T.signature.params T.kept silent) k fn closed (λ y are.
        let Pre : SProp 𝓤 = on_entry 𝓛 T.signature y.0.0 y.0.1 y.0.3 y.0.4 in
        (walk y are).runs ((walk_of 𝓛 T none c).pre y) ((triple_of 𝓛 asked.signature (closing 𝓛 asked ck)).post (z y)) (Left y) ((walk_of 𝓛 T none c).post y)
        (via 𝓤 ((triple_of 𝓛 asked.signature (closing 𝓛 asked ck)).pre (z y)) (mono_r 𝓤 Pre (asks y.0.0 y.0.3 y.1).1) (met (z y))) (gives y)
        (λ w good. ends y w))

-- Evidence of a log with this property gives evidence that there is one, beside no other clause and
-- beside one, two or three.
module _ {M : Type 1} {𝓤 : Ura M} (𝓛 : Logic 𝓤) {E : Type 0} (code : E → Gv) (rule : Rules E) {b : Book} (names : List ℕ) (log : List E)
    (φ : List E → Type 0) where
  pub handed : {b' : Book} → b ≡ b' → φ log
      → ent 𝓤 (sem 𝓛 (seen_owns code rule b names log)) (sem 𝓛 (fex (List ℕ × List E) (λ s. fsep (seen_owns code rule b' s.0 s.1) (said (φ s.1)))))
  handed {b'} same is = qed 𝓛 (‵ (seen_owns code rule b names log) ∷ []) ∵ rewrite ! 0 (λ (c : Book). ‵ (seen_owns code rule c names log)) same refl $
      nothing ! $ fpack ! (φ log) (λ _. ftrue) is $ move ! (1 ∷ 0 ∷ []) $ fjoin ! $ fpack ! (List ℕ × List E)
      (λ s. fsep (seen_owns code rule b' s.0 s.1) (said (φ s.1))) (names, log) $ done !

  pub handed_1 : {b' : Book} → b ≡ b' → φ log → {φ₁ : Type 0} → φ₁
      → ent 𝓤 (sem 𝓛 (seen_owns code rule b names log))
      (sep 𝓤 (sem 𝓛 (fex (List ℕ × List E) (λ s. fsep (seen_owns code rule b' s.0 s.1) (said (φ s.1))))) (fact 𝓤 φ₁))
  handed_1 {b'} same is x = qed 𝓛 (‵ (seen_owns code rule b names log) ∷ []) ∵ so ! x $ by ! (handed same is)

  pub handed_2 : {b' : Book} → b ≡ b' → φ log → {φ₁ φ₂ : Type 0} → φ₁ → φ₂
      → ent 𝓤 (sem 𝓛 (seen_owns code rule b names log))
      (sep 𝓤 (sem 𝓛 (fex (List ℕ × List E) (λ s. fsep (seen_owns code rule b' s.0 s.1) (said (φ s.1))))) (sep 𝓤 (fact 𝓤 φ₁) (fact 𝓤 φ₂)))
  handed_2 {b'} same is {φ₁} {φ₂} x₁ x₂ = qed 𝓛 (‵ (seen_owns code rule b names log) ∷ []) ∵
      use1 𝓛 (‵ (fex (List ℕ × List E) (λ s. fsep (seen_owns code rule b' s.0 s.1) (said (φ s.1))))) (handed same is) $ frame ! $ so ! x₂ $ use0 𝓛
      (raw (fact 𝓤 φ₁)) (fact_i 𝓤 φ₁ (emp 𝓤) x₁) $ done !

  pub handed_3 : {b' : Book} → b ≡ b' → φ log → {φ₁ φ₂ φ₃ : Type 0} → φ₁ → φ₂ → φ₃
      → ent 𝓤 (sem 𝓛 (seen_owns code rule b names log))
      (sep 𝓤 (sem 𝓛 (fex (List ℕ × List E) (λ s. fsep (seen_owns code rule b' s.0 s.1) (said (φ s.1))))) (sep 𝓤 (fact 𝓤 φ₁) (sep 𝓤 (fact 𝓤 φ₂) (fact 𝓤 φ₃))))
  handed_3 {b'} same is {φ₁} {φ₂} {φ₃} x₁ x₂ x₃ = qed 𝓛 (‵ (seen_owns code rule b names log) ∷ []) ∵
      use1 𝓛 (‵ (fex (List ℕ × List E) (λ s. fsep (seen_owns code rule b' s.0 s.1) (said (φ s.1))))) (handed same is) $ frame ! $ use0 𝓛
      (raw (fact 𝓤 φ₁)) (fact_i 𝓤 φ₁ (emp 𝓤) x₁) $ frame ! $ so ! x₃ $ use0 𝓛 (raw (fact 𝓤 φ₂)) (fact_i 𝓤 φ₂ (emp 𝓤) x₂) $ done !

-- four clauses of facts, as one
pub four_facts : {M : Type 1} (𝓤 : Ura M) {φ₁ φ₂ φ₃ φ₄ : Type 0}
    → ent 𝓤 (sep 𝓤 (fact 𝓤 φ₁) (sep 𝓤 (fact 𝓤 φ₂) (sep 𝓤 (fact 𝓤 φ₃) (fact 𝓤 φ₄)))) (fact 𝓤 (φ₁ × φ₂ × φ₃ × φ₄))
four_facts 𝓤 {φ₁} {φ₂} {φ₃} {φ₄} = let rest₃ : SProp 𝓤 = sep 𝓤 (fact 𝓤 φ₃) (fact 𝓤 φ₄) in let rest₂ : SProp 𝓤 = sep 𝓤 (fact 𝓤 φ₂) rest₃ in
    fact_use 𝓤 φ₁ (fst∗ 𝓤 (fact 𝓤 φ₁) rest₂)
    (λ x₁. via 𝓤 rest₂ (snd∗ 𝓤 (fact 𝓤 φ₁) rest₂) (fact_use 𝓤 φ₂ (fst∗ 𝓤 (fact 𝓤 φ₂) rest₃) (λ x₂. via 𝓤 rest₃ (snd∗ 𝓤 (fact 𝓤 φ₂) rest₃)
    (fact_use 𝓤 φ₃ (fst∗ 𝓤 (fact 𝓤 φ₃) (fact 𝓤 φ₄))
    (λ x₃. via 𝓤 (fact 𝓤 φ₄) (snd∗ 𝓤 (fact 𝓤 φ₃) (fact 𝓤 φ₄))
    (fact_use 𝓤 φ₄ (id⊢ 𝓤 (fact 𝓤 φ₄)) (λ x₄. fact_i 𝓤 (φ₁ × φ₂ × φ₃ × φ₄) (fact 𝓤 φ₄) (x₁, x₂, x₃, x₄))))))))

-- five
pub five_facts : {M : Type 1} (𝓤 : Ura M) {φ₁ φ₂ φ₃ φ₄ φ₅ : Type 0}
    → ent 𝓤 (sep 𝓤 (fact 𝓤 φ₁) (sep 𝓤 (fact 𝓤 φ₂) (sep 𝓤 (fact 𝓤 φ₃) (sep 𝓤 (fact 𝓤 φ₄) (fact 𝓤 φ₅))))) (fact 𝓤 (φ₁ × φ₂ × φ₃ × φ₄ × φ₅))
five_facts 𝓤 {φ₁} {φ₂} {φ₃} {φ₄} {φ₅} = let rest : SProp 𝓤 = sep 𝓤 (fact 𝓤 φ₂) (sep 𝓤 (fact 𝓤 φ₃) (sep 𝓤 (fact 𝓤 φ₄) (fact 𝓤 φ₅))) in
    fact_use 𝓤 φ₁ (fst∗ 𝓤 (fact 𝓤 φ₁) rest) (λ x₁.
    via 𝓤 rest (snd∗ 𝓤 (fact 𝓤 φ₁) rest) (fact_use 𝓤 (φ₂ × φ₃ × φ₄ × φ₅) (four_facts 𝓤)
    (λ x. fact_i 𝓤 (φ₁ × φ₂ × φ₃ × φ₄ × φ₅) rest (x₁, x.0, x.1, x.2, x.3))))

-- and six
pub six_facts : {M : Type 1} (𝓤 : Ura M) {φ₁ φ₂ φ₃ φ₄ φ₅ φ₆ : Type 0}
    → ent 𝓤 (sep 𝓤 (fact 𝓤 φ₁) (sep 𝓤 (fact 𝓤 φ₂) (sep 𝓤 (fact 𝓤 φ₃) (sep 𝓤 (fact 𝓤 φ₄) (sep 𝓤 (fact 𝓤 φ₅) (fact 𝓤 φ₆))))))
    (fact 𝓤 (φ₁ × φ₂ × φ₃ × φ₄ × φ₅ × φ₆))
six_facts 𝓤 {φ₁} {φ₂} {φ₃} {φ₄} {φ₅} {φ₆} = let rest : SProp 𝓤 = sep 𝓤 (fact 𝓤 φ₂) (sep 𝓤 (fact 𝓤 φ₃) (sep 𝓤 (fact 𝓤 φ₄) (sep 𝓤 (fact 𝓤 φ₅) (fact 𝓤 φ₆)))) in
    fact_use 𝓤 φ₁ (fst∗ 𝓤 (fact 𝓤 φ₁) rest) (λ x₁.
    via 𝓤 rest (snd∗ 𝓤 (fact 𝓤 φ₁) rest) (fact_use 𝓤 (φ₂ × φ₃ × φ₄ × φ₅ × φ₆) (five_facts 𝓤)
    (λ x. fact_i 𝓤 (φ₁ × φ₂ × φ₃ × φ₄ × φ₅ × φ₆) rest (x₁, x.0, x.1, x.2, x.3, x.4))))

-- the clauses after the first, which states the changes that the callee made
pub past_first : {M : Type 1} (𝓤 : Ura M) (made : Type 0) {rest said : SProp 𝓤} → ent 𝓤 rest said → ent 𝓤 (sep 𝓤 (fact 𝓤 made) rest) said
past_first 𝓤 made {rest} says = via 𝓤 rest (snd∗ 𝓤 (fact 𝓤 made) rest) says
