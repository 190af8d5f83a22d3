-- The setting that is given by a log: later entries change nothing about the tables that earlier
-- entries put on the chain.
use Rattle.std.proofs.Common.{◌≡◌, ◌⊎◌, inl, inr, ⊎_elim, ℕ, zero, suc, ◌<◌, ◌==◌, true, None, List, [], ◌∷◌, ◌++◌, refl, sym, ap, ◌∙◌, subst, arith, eq-eqb}
use Rattle.std.proofs.lemmas.Bool.{cases_Bool, cond-true, cond-false, or_cases, or_left, or_right}
use Rattle.papaya_words_law.specs.Exchange.{Exchange, Open, Claim, Replace, Bury, Link, Mark, Close}
use Rattle.papaya_words_law.specs.Exchange.{Place, Finish, Advance, Promote, Abort, Take, State, start}
use Rattle.papaya_words_law.specs.Exchange.{after, run, walk}
use Rattle.papaya_words_law.specs.Allows.{Allows, AllAllowed}
use Rattle.papaya_words_law.specs.Meaning.{IsLawful}
use Rattle.papaya_words_law.specs.Class.{IsOn}
use Rattle.papaya_words_law.specs.Grows.{Agrees, Plan, IsLawfulPlan, planned, Comes, Entry, exchanges}
use Rattle.papaya_words_law.specs.Grows.{brings, is_brought, size_in, places_in, chunks_in, setting_in}
use Rattle.papaya_words_law.specs.Grows.{AllSized}
use Rattle.papaya_words_law.proofs.Moments.{allowed_append}
use Rattle.papaya_words_law.proofs.OneMap.{start_keeps}
use Rattle.papaya_words_law.proofs.Grows.{all_carries}

-- a table comes onto the chain by the exchange that brings it
pub comes_after : {P : Type 0} (s : State P) (e : Exchange P) (t : ℕ) → Comes (after s e) t → (brings e t ≡ true) ⊎ Comes s t
comes_after s (Open u) t (inl e) = inl (eq-eqb u t e)
comes_after s (Open u) t (inr c) = inr (inr c)
comes_after s (Claim u x p) t c = inr c
comes_after s (Replace u x p q) t c = inr c
comes_after s (Bury u x p) t c = inr c
comes_after s (Link u n) t (inl e) = inr (inl e)
comes_after s (Link u n) t (inr (v, e)) =
    ⊎_elim (λ h. inl (eq-eqb n t (sym (cond-true (v == u) n (s.next v) h) ∙ e))) (λ h. inr (inr (v, sym (cond-false (v == u) n (s.next v) h) ∙ e)))
    (cases_Bool (v == u))
comes_after s (Mark u x p) t c = inr c
comes_after s (Close u x) t c = inr c
comes_after s (Place n x p) t c = inr c
comes_after s (Finish u x p) t c = inr c
comes_after s (Advance n d) t c = inr c
comes_after s (Promote u n) t c = inr c
comes_after s (Abort n) t c = inr c
comes_after s (Take n) t c = inr c

-- a table of the chain is the first root or some table's next
pub on_comes : {P : Type 0} (s : State P) (t : ℕ) → IsOn s.first s.next t → Comes s t
on_comes s t (some, (zero, e)) = inl e
on_comes s t (some, (suc k, e)) = inr (walk s.next k s.first, e)

-- a table that has come in a state came by an entry, or had come before
brought : {P : Type 0} (es : List (Entry P)) (s : State P) (t : ℕ) → Comes (run (exchanges es) s) t → (is_brought es t ≡ true) ⊎ Comes s t
brought [] s t c = inr c
brought (e ∷ es) s t c =
    ⊎_elim
    (λ h. inl (or_right (brings e.by t) (is_brought es t) h))
    (λ c'. ⊎_elim (λ h. inl (or_left (brings e.by t) (is_brought es t) h)) (λ c''. inr c'') (comes_after s e.by t c'))
    (brought es (after s e.by) t c)

-- no table comes before the first exchange
none_at_start : (P : Type 0) (t : ℕ) → 0 < t → Comes {P = P} start t → ⊥
none_at_start P t some (inl e) = omega arith
none_at_start P t some (inr (u, e)) = omega arith

-- each table of the chain came by an entry
on_brought : {P : Type 0} (es : List (Entry P)) (t : ℕ) → IsOn (run (exchanges es) start).first (run (exchanges es) start).next t → is_brought es t ≡ true
on_brought {P = P} es t on = ⊎_elim (λ h. h) (λ c. absurd (none_at_start P t on.0 c)) (brought es start t (on_comes (run (exchanges es) start) t on))

-- a later entry does not change the size that an earlier one gives a table
size_stable : {P : Type 0} (es fs : List (Entry P)) (t : ℕ) → is_brought es t ≡ true → size_in (es ++ fs) t ≡ size_in es t
size_stable [] fs t h = absurd cc
size_stable (e ∷ es) fs t h =
    ⊎_elim
    (λ b. cond-true (brings e.by t) e.size (size_in (es ++ fs) t) b ∙ sym (cond-true (brings e.by t) e.size (size_in es t) b))
    (λ b. cond-false (brings e.by t) e.size (size_in (es ++ fs) t) b
    ∙ (size_stable es fs t (⊎_elim (λ c. absurd (cc (b, c))) (λ c. c) (or_cases (brings e.by t) (is_brought es t) h))
    ∙ sym (cond-false (brings e.by t) e.size (size_in es t) b)))
    (cases_Bool (brings e.by t))

-- the same for its number of places
places_stay : {P : Type 0} (es fs : List (Entry P)) (t : ℕ) → is_brought es t ≡ true → places_in (es ++ fs) t ≡ places_in es t
places_stay [] fs t h = absurd cc
places_stay (e ∷ es) fs t h =
    ⊎_elim
    (λ b. cond-true (brings e.by t) e.places (places_in (es ++ fs) t) b ∙ sym (cond-true (brings e.by t) e.places (places_in es t) b))
    (λ b. cond-false (brings e.by t) e.places (places_in (es ++ fs) t) b
    ∙ (places_stay es fs t (⊎_elim (λ c. absurd (cc (b, c))) (λ c. c) (or_cases (brings e.by t) (is_brought es t) h))
    ∙ sym (cond-false (brings e.by t) e.places (places_in es t) b)))
    (cases_Bool (brings e.by t))

-- the same for its number of words for chunks
chunks_stay : {P : Type 0} (es fs : List (Entry P)) (t : ℕ) → is_brought es t ≡ true → chunks_in (es ++ fs) t ≡ chunks_in es t
chunks_stay [] fs t h = absurd cc
chunks_stay (e ∷ es) fs t h =
    ⊎_elim
    (λ b. cond-true (brings e.by t) e.chunks (chunks_in (es ++ fs) t) b ∙ sym (cond-true (brings e.by t) e.chunks (chunks_in es t) b))
    (λ b. cond-false (brings e.by t) e.chunks (chunks_in (es ++ fs) t) b
    ∙ (chunks_stay es fs t (⊎_elim (λ c. absurd (cc (b, c))) (λ c. c) (or_cases (brings e.by t) (is_brought es t) h))
    ∙ sym (cond-false (brings e.by t) e.chunks (chunks_in es t) b)))
    (cases_Bool (brings e.by t))

-- the exchanges of two logs
exchanges-append : {P : Type 0} (es fs : List (Entry P)) → exchanges (es ++ fs) ≡ exchanges es ++ exchanges fs
exchanges-append [] fs = refl
exchanges-append (e ∷ es) fs = ap (λ l. e.by ∷ l) (exchanges-append es fs)

module _ {K P : Type 0} (h : Plan K P) where
  -- settings of one plan agree if their sizes and numbers of places do
  pub planned_agrees : (On : ℕ → Type 0) (size size' places places' chunks chunks' : ℕ → ℕ) → ((t : ℕ) → On t → size' t ≡ size t)
      → ((t : ℕ) → On t → places' t ≡ places t) → ((t : ℕ) → On t → chunks' t ≡ chunks t)
      → Agrees On (planned h size places chunks) (planned h size' places' chunks')
  planned_agrees On size size' places places' chunks chunks' a b
      d = record {
        blocking = refl;
        key = λ p. refl;
        same = λ k l. refl;
        size = a;
        chunk_of = λ x.
            refl;
        chunks = d;
        most = refl;
        places = b;
        place = λ k t j on. ap (λ n. h.probe k n j) (a t on);
      }

  -- and are lawful if each table has a slot and a place
  pub planned_lawful : IsLawfulPlan h → (size places chunks : ℕ → ℕ) → ((t : ℕ) → 0 < size t) → ((t : ℕ) → 0 < places t)
      → IsLawful (planned h size places chunks)
  planned_lawful law size places chunks a b = record {
    itself = law.itself;
    back = law.back;
    through = law.through;
    places_same = λ k l e t j. law.probe_same k l e (size t) j;
    within = λ k t j lt. law.within k (size t) j (a t);
    some_place = b;
    some_slot = a;
  }

  -- the setting of a log is lawful
  pub lawful_in : IsLawfulPlan h → (es : List (Entry P)) → AllSized es → IsLawful (setting_in h es)
  lawful_in law es sized = planned_lawful law (size_in es) (places_in es) (chunks_in es) (slots es sized) (some_places es sized)
    where
      slots : (es : List (Entry P)) → AllSized es → (t : ℕ) → 0 < size_in es t
      slots [] sized t = omega arith
      slots (e ∷ es) sized t = ⊎_elim (λ b. subst (λ y. 0 < y) (sym (cond-true (brings e.by t) e.size (size_in es t) b)) (sized.0 t b).0)
          (λ b. subst (λ y. 0 < y) (sym (cond-false (brings e.by t) e.size (size_in es t) b)) (slots es sized.1 t)) (cases_Bool (brings e.by t))

      some_places : (es : List (Entry P)) → AllSized es → (t : ℕ) → 0 < places_in es t
      some_places [] sized t = omega arith
      some_places (e ∷ es) sized t = ⊎_elim (λ b. subst (λ y. 0 < y) (sym (cond-true (brings e.by t) e.places (places_in es t) b)) (sized.0 t b).1)
          (λ b. subst (λ y. 0 < y) (sym (cond-false (brings e.by t) e.places (places_in es t) b)) (some_places es sized.1 t)) (cases_Bool (brings e.by t))

  -- the setting of a log and that of a longer one agree on the chain
  pub log_agrees : (es fs : List (Entry P))
      → Agrees (IsOn (run (exchanges es) start).first (run (exchanges es) start).next) (setting_in h es) (setting_in h (es ++ fs))
  log_agrees es fs =
      planned_agrees (IsOn (run (exchanges es) start).first (run (exchanges es) start).next) (size_in es) (size_in (es ++ fs)) (places_in es)
      (places_in (es ++ fs)) (chunks_in es) (chunks_in (es ++ fs))
      (λ t on. size_stable es fs t (on_brought es t on)) (λ t on. places_stay es fs t (on_brought es t on)) (λ t on. chunks_stay es fs t (on_brought es t on))

  -- A log grows by an entry that is allowed under the setting with its own table: the longer log is
  -- allowed as a whole.
  pub log_grows : (es : List (Entry P)) (e : Entry P) → IsLawful (setting_in h es) → AllAllowed (setting_in h es) start (exchanges es)
      → Allows (setting_in h (es ++ e ∷ [])) (run (exchanges es) start) e.by
      → AllAllowed (setting_in h (es ++ e ∷ [])) start (exchanges (es ++ e ∷ []))
  log_grows es e law all may =
      subst (AllAllowed (setting_in h (es ++ e ∷ [])) start) (sym (exchanges-append es (e ∷ [])))
      (allowed_append (setting_in h (es ++ e ∷ [])) (exchanges es) (e.by ∷ []) start
      (all_carries (setting_in h es) law (setting_in h (es ++ e ∷ [])) (exchanges es) start (λ k. None) (start_keeps (setting_in h es) law) all
      (log_agrees es (e ∷ [])))
      (may, tt))
