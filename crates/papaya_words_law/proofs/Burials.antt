-- If a word was Live and is Buried now, its pair was removed in between: after that exchange the
-- map had no pair of its key.
use Rattle.std.proofs.Common.{◌≡◌, ⊎_elim, ℕ, true, Option, None, List, [], ◌∷◌, refl, ap, ◌∙◌, sym, subst}
use Rattle.std.proofs.lemmas.Bool.{cond-true}
use Rattle.papaya_words_law.specs.Exchange.{Word, Empty, Closed, Live, Marked, Copied, Buried, Setting}
use Rattle.papaya_words_law.specs.Exchange.{State, Exchange, Open, Claim, Replace, Bury, Link, Mark}
use Rattle.papaya_words_law.specs.Exchange.{Close, Place, Finish, Advance, Promote, Abort, Take, slot_put}
use Rattle.papaya_words_law.specs.Exchange.{after, run}
use Rattle.papaya_words_law.specs.Allows.{Allows, AllAllowed}
use Rattle.papaya_words_law.specs.Meaning.{map_after, IsAtMoment, IsLawful}
use Rattle.papaya_words_law.specs.Later.{Becomes}
use Rattle.papaya_words_law.proofs.Later.{later_run}
use Rattle.papaya_words_law.proofs.Slots.{slot_cases}

-- a word that is not Buried is put into a slot: it deletes nothing
put_undeleted : {P : Type 0} → (s : State P) (t x : ℕ) (w : Word P) → ((q : P) → w ≡ Buried q → ⊥) → (u y : ℕ) (p q : P) → s.slot u y ≡ Live p
    → (slot_put s t x w).slot u y ≡ Buried q → ⊥
put_undeleted s t x w other u y p q live buried =
    ⊎_elim
    (λ h. let same = h.0 in cc (same, live, buried))
    (λ h. other q (sym h.2 ∙ buried))
    (slot_cases s t x w u y)

module _ {K P : Type 0} (g : Setting K P) where
  -- the exchange that deletes a word takes its pair out of the map
  buries : (s : State P) (m : K → Option P) (e : Exchange P) → Allows g s e → (u y : ℕ) (p q : P) → s.slot u y ≡ Live p
      → (after s e).slot u y ≡ Buried q → (k : K) → g.same k (g.key p) ≡ true → map_after g m e k ≡ None
  buries s m (Open t) may u y p q live buried k same = absurd cc
  buries s m (Claim t x r) may u y p q live buried k same = absurd (put_undeleted s t x (Live r) (λ o d. cc) u y p q live buried)
  buries s m (Replace t x r o) may u y p q live buried k same = absurd (put_undeleted s t x (Live o) (λ z d. cc) u y p q live buried)
  buries s m (Bury t x r) may u y p q live buried k same =
      ⊎_elim
      (λ h. absurd (let stays = h.0 in cc (stays, live, buried)))
      (λ h. let old = may.live in let is : r ≡ p = cc (h.0, h.1, live, old) in
      cond-true (g.same k (g.key r)) None (m k) (ap (λ o. g.same k (g.key o)) is ∙ same))
      (slot_cases s t x (Buried r) u y)
  buries s m (Link t n) may u y p q live buried k same = absurd cc
  buries s m (Mark t x r) may u y p q live buried k same = absurd (put_undeleted s t x (Marked r) (λ o d. cc) u y p q live buried)
  buries s m (Close t x) may u y p q live buried k same = absurd (put_undeleted s t x Closed (λ o d. cc) u y p q live buried)
  buries s m (Place t x r) may u y p q live buried k same = absurd (put_undeleted s t x (Live r) (λ o d. cc) u y p q live buried)
  buries s m (Finish t x r) may u y p q live buried k same = absurd (put_undeleted s t x (Copied r) (λ o d. cc) u y p q live buried)
  buries s m (Advance n c) may u y p q live buried k same = absurd cc
  buries s m (Promote t n) may u y p q live buried k same = absurd cc
  buries s m (Abort n) may u y p q live buried k same = absurd cc
  buries s m (Take n) may u y p q live buried k same = absurd cc

  -- a point after a first exchange is one of the whole list
  moment_after : (m : K → Option P) (e : Exchange P) (fs : List (Exchange P)) (k : K) (v : Option P) → IsAtMoment g (map_after g m e) fs k v
      → IsAtMoment g m (e ∷ fs) k v
  moment_after m e fs k v r = record { so_far = e ∷ r.so_far; rest = r.rest; is = ap (λ l. e ∷ l) r.is; value_is = r.value_is }

  module _ (law : IsLawful g) (t x : ℕ) (q : P) (k : K) where
    -- if a slot had a Live pair of the key and is Buried after the list, the map had none at some
    -- point of the list
    pub buried_between : (fs : List (Exchange P)) (s : State P) (m : K → Option P) → AllAllowed g s fs → (p : P) → s.slot t x ≡ Live p
        → g.same k (g.key p) ≡ true → (run fs s).slot t x ≡ Buried q → IsAtMoment g m fs k None
    buried_between [] s m may p live same buried = absurd cc
    buried_between (e ∷ fs) s m may p live same buried =
        by_next (λ r is mine. buried_between fs (after s e) (map_after g m e) may.1 r is mine buried) ((after s e).slot t x) refl
      where
        -- the word after the first exchange
        became : (w : Word P) → (after s e).slot t x ≡ w → Becomes g (Live p) w
        became w is = subst (λ v. Becomes g v w) live (subst (Becomes g (s.slot t x)) is ((later_run g law (e ∷ []) s (may.0, tt)).words t x))

        -- and after the others
        became_then : (w : Word P) → (after s e).slot t x ≡ w → Becomes g w (Buried q)
        became_then w is = subst (λ v. Becomes g v (Buried q)) is
            (subst (Becomes g ((after s e).slot t x)) buried ((later_run g law fs (after s e) may.1).words t x))

        -- it is deleted later, or was by this one
        by_next : ((r : P) → (after s e).slot t x ≡ Live r → g.same k (g.key r) ≡ true → IsAtMoment g (map_after g m e) fs k None) → (w : Word P)
            → (after s e).slot t x ≡ w → IsAtMoment g m (e ∷ fs) k None
        by_next ih Empty is = absurd (became Empty is)
        by_next ih Closed is = absurd (became Closed is)
        by_next ih (Live r) is = moment_after m e fs k None (ih r is (subst (λ y. g.same k y ≡ true) (sym (became (Live r) is)) same))
        by_next ih (Marked r) is = absurd (⊎_elim (λ d. cc) (λ d. cc) (became_then (Marked r) is))
        by_next ih (Copied r) is = absurd (let d = became_then (Copied r) is in cc d)
        by_next ih (Buried r) is = record { so_far = e ∷ []; rest = fs; is = refl; value_is = buries s m e may.0 t x p r live is k same }
