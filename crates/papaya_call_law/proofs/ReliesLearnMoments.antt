-- A search's result in the table to which it has come is the map's at some point of the call.
use Rattle.std.proofs.Common.{◌≡◌, ◌⊎◌, inl, inr, ⊎_elim, ℕ, ◌<◌, true, false, Option, None, Some}
use Rattle.std.proofs.Common.{List, [], ◌++◌, append_assoc, append-nil, refl, sym, ap, ◌∙◌, subst}
use Rattle.std.proofs.lemmas.Bool.{cases_Bool}
use Rattle.papaya_words_law.specs.Exchange.{Live, Buried, Setting, State, Exchange, run, start}
use Rattle.papaya_words_law.specs.View.{Free, Here, Leaving, look, beyond, IsPassed, IsReached}
use Rattle.papaya_words_law.specs.Allows.{AllAllowed}
use Rattle.papaya_words_law.specs.Code.{Coding}
use Rattle.papaya_words_law.specs.Meaning.{map_left, map_of, IsAtMoment, IsLawful}
use Rattle.papaya_call_law.specs.Relies.{HasComeTo, WasAtMoment}
use Rattle.papaya_words_law.proofs.Burials.{buried_between}
use Rattle.papaya_words_law.proofs.Moments.{run-append, map_of-append, allowed_first, allowed_rest}
use Rattle.papaya_words_law.proofs.Onward.{next_reached}
use Rattle.papaya_words_law.proofs.OneMap.{means_map, root_is_reached, lasting, reader_found, reader_empty, reader_over}

module _ {K P : Type 0} (g : Setting K P) (c : Coding K P) (law : IsLawful g) (begun since : List (Exchange P))
    (may : AllAllowed g start (begun ++ since)) (k : K) where
  -- the state after all exchanges
  abbrev now : State P
  now = run (begun ++ since) start

  -- the map's current value is its value at some point
  pub at_now : (v : Option P) → map_left g (begun ++ since) k ≡ v → WasAtMoment g c begun since k v
  at_now v e = record { so_far = since; rest = []; is = append-nil since; value_is = ap (λ m. m k) (sym (map_of-append g begun since (λ l. None))) ∙ e }

  -- with blocking: the search is in the table that was the root after es, and fs came since
  module _ (es fs : List (Exchange P)) (e : es ++ fs ≡ since) where
    -- the exchanges before the root was loaded, and since
    split : begun ++ since ≡ (begun ++ es) ++ fs
    split = ap (λ l. begun ++ l) (sym e) ∙ sym (append_assoc begun es fs)

    -- they're allowed
    may-split : AllAllowed g start ((begun ++ es) ++ fs)
    may-split = subst (AllAllowed g start) split may

    -- a value that the map had at some point after es, it had at some point of the call
    at_deeper : (v : Option P) → IsAtMoment g (map_left g (begun ++ es)) fs k v → WasAtMoment g c begun since k v
    at_deeper v m = record {
      so_far = es ++ m.so_far;
      rest = m.rest;
      is = append_assoc es m.so_far m.rest ∙ (ap (λ l. es ++ l) m.is ∙ e);
      value_is =
          ap (λ f. f k) (map_of-append g es m.so_far (map_left g begun))
          ∙ (ap (λ f. map_of g f m.so_far k) (sym (map_of-append g begun es (λ l. None))) ∙ m.value_is);
    }

    -- the root of then is still reached
    root_then : (t : ℕ) → 0 < t → (run (begun ++ es) start).root ≡ t → IsReached g now k t
    root_then t some root =
        let first : AllAllowed g start (begun ++ es) = allowed_first g (begun ++ es) fs start may-split in
        let at : IsReached g (run (begun ++ es) start) k t = subst (IsReached g (run (begun ++ es) start) k) root
        (root_is_reached g law (begun ++ es) first k (subst (λ y. 0 < y) (sym root) some)) in
        subst (λ l. IsReached g (run l start) k t) (sym split) ((lasting g law (begun ++ es) fs may-split).reached k t at)

  -- a table to which a search has come is reached, in both modes
  pub come_reached : (t : ℕ) → HasComeTo g c begun since k t → IsReached g now k t
  come_reached t r = ⊎_elim (λ h. h.1) (λ h. let m = h.1 in root_then m.0 m.1 m.2 t r.some m.3) r.is

  -- a pair that is found
  pub found_here : (t j : ℕ) (p : P) → HasComeTo g c begun since k t → j < g.places t → (look g now k t j ≡ Here p) ⊎ (look g now k t j ≡ Leaving p)
      → WasAtMoment g c begun since k (Some p)
  found_here t j p r lt h =
      ⊎_elim
      (λ a. at_now (Some p) ((means_map g law (begun ++ since) may k).found t j p a.1 (λ b. absurd (let d = a.0 in cc (b, d))) lt h))
      (λ a. let m = a.1 in at_deeper m.0 m.1 m.2 (Some p) (reader_found g law (begun ++ m.0) m.1 (may-split m.0 m.1 m.2) a.0 t m.3 r.some k j p lt
      (subst (λ l. (look g (run l start) k t j ≡ Here p) ⊎ (look g (run l start) k t j ≡ Leaving p)) (split m.0 m.1 m.2) h)))
      r.is

  -- an Empty place
  pub empty_here : (t j : ℕ) → HasComeTo g c begun since k t → j < g.places t → ((i : ℕ) → i < j → beyond (look g now k t i) ≡ true)
      → look g now k t j ≡ Free → WasAtMoment g c begun since k None
  empty_here t j r lt all h =
      ⊎_elim
      (λ a. at_now None ((means_map g law (begun ++ since) may k).empty t j a.1 (λ b. absurd (let d = a.0 in cc (b, d))) lt all h))
      (λ a. let m = a.1 in at_deeper m.0 m.1 m.2 None (reader_empty g law (begun ++ m.0) m.1 (may-split m.0 m.1 m.2) a.0 t m.3 r.some k j lt
      (subst (λ l. (i : ℕ) → i < j → beyond (look g (run l start) k t i) ≡ true) (split m.0 m.1 m.2) all)
      (subst (λ l. look g (run l start) k t j ≡ Free) (split m.0 m.1 m.2) h)))
      r.is

  -- a pair of the key that was Live in a slot at some point, and is Buried there now
  pub buried_here : (es fs : List (Exchange P)) → es ++ fs ≡ since → (t x : ℕ) (p q : P) → (run (begun ++ es) start).slot t x ≡ Live p
      → g.same k (g.key p) ≡ true → now.slot t x ≡ Buried q → WasAtMoment g c begun since k None
  buried_here es fs e t x p q live same buried =
      at_deeper es fs e None (buried_between g law t x q k fs (run (begun ++ es) start) (map_left g (begun ++ es))
      (allowed_rest g (begun ++ es) fs start (may-split es fs e)) p live same
      (ap (λ s. s.slot t x) (sym (run-append (begun ++ es) fs start)) ∙ (ap (λ l. (run l start).slot t x) (sym (split es fs e)) ∙ buried)))

  -- with blocking, a passed table
  pub over_blocking : (t : ℕ) → HasComeTo g c begun since k t → g.blocking ≡ true → IsPassed g.places (look g now k) t → WasAtMoment g c begun since k None
  over_blocking t r b h =
      ⊎_elim
      (λ a. absurd (let d = a.0 in cc (b, d)))
      (λ a. let m = a.1 in at_deeper m.0 m.1 m.2 None (reader_over g law (begun ++ m.0) m.1 (may-split m.0 m.1 m.2) a.0 t m.3 r.some k
      (subst (λ l. IsPassed g.places (look g (run l start) k) t) (split m.0 m.1 m.2) h)))
      r.is

  -- without blocking, a passed table with no next one
  pub over_last : (t : ℕ) → HasComeTo g c begun since k t → g.blocking ≡ false → IsPassed g.places (look g now k) t → now.next t ≡ 0
      → WasAtMoment g c begun since k None
  over_last t r inc pass last = at_now None ((means_map g law (begun ++ since) may k).over t (come_reached t r) pass (inr (inc, last)))

  -- no root
  pub no_root : now.root ≡ 0 → WasAtMoment g c begun since k None
  no_root e = at_now None ((means_map g law (begun ++ since) may k).no_root e)

  -- a search comes to the root
  pub root_come : 0 < now.root → HasComeTo g c begun since k now.root
  root_come some = record {
    some = some;
    is = ⊎_elim (λ b. inr (b, (since, [], append-nil since, refl))) (λ b. inl (b, root_is_reached g law (begun ++ since) may k some)) (cases_Bool g.blocking);
  }

  -- without blocking, it continues from a passed table
  pub next_come : (t : ℕ) → HasComeTo g c begun since k t → g.blocking ≡ false → IsPassed g.places (look g now k) t → 0 < now.next t
      → HasComeTo g c begun since k (now.next t)
  next_come t r inc pass some = record { some = some; is = inl (inc, next_reached g now inc k t (come_reached t r) pass some) }
