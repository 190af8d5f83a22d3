-- The map in a setting with one further key: the map itself and, for that key, the pair of the keys
-- that it matches.
use Rattle.std.proofs.Common.{◌≡◌, ◌↔◌, ℕ, Bool, true, false, cond, Option, None, Some, List, [], ◌∷◌, ◌++◌, refl, sym, ap, ◌∙◌, subst}
use Rattle.papaya_words_law.specs.Exchange.{Setting, State, Exchange, Open, Claim, Replace, Bury, Link}
use Rattle.papaya_words_law.specs.Exchange.{Mark, Close, Place, Finish, Advance, Promote, Abort, Take}
use Rattle.papaya_words_law.specs.Exchange.{after, run, start}
use Rattle.papaya_words_law.specs.Allows.{Allows, AllAllowed}
use Rattle.papaya_words_law.specs.Meaning.{AllLegal, IsAtMoment, IsLegal, map_after, map_of, map_left}
use Rattle.papaya_words_law.specs.Code.{Coding}
use Rattle.papaya_words_law.specs.Further.{with_key, IsLawfulKey, IsMapWith, IsMatchedAtMoment}
use Rattle.papaya_words_law.proofs.Moments.{allowed_first, allowed_rest}

module _ {K P : Type 0} (g : Setting K P) (matches : K → Bool) (hash : ℕ) where
  -- the map's own keys, after an exchange
  own_after : (m : K → Option P) (m' : Option K → Option P) → ((k : K) → m' (Some k) ≡ m k) → (e : Exchange P) (k : K)
      → map_after (with_key g matches hash) m' e (Some k) ≡ map_after g m e k
  own_after m m' own (Open t) k = own k
  own_after m m' own (Claim t x p) k = ap (cond (g.same k (g.key p)) (Some p)) (own k)
  own_after m m' own (Replace t x p q) k = ap (cond (g.same k (g.key p)) (Some q)) (own k)
  own_after m m' own (Bury t x p) k = ap (cond (g.same k (g.key p)) None) (own k)
  own_after m m' own (Link t n) k = own k
  own_after m m' own (Mark t x p) k = own k
  own_after m m' own (Close t x) k = own k
  own_after m m' own (Place n x p) k = own k
  own_after m m' own (Finish t x p) k = own k
  own_after m m' own (Advance n c) k = own k
  own_after m m' own (Promote t n) k = own k
  own_after m m' own (Abort n) k = own k
  own_after m m' own (Take n) k = own k

  -- after a list
  own_of : (es : List (Exchange P)) (m : K → Option P) (m' : Option K → Option P) → ((k : K) → m' (Some k) ≡ m k) → (k : K)
      → map_of (with_key g matches hash) m' es (Some k) ≡ map_of g m es k
  own_of [] m m' own k = own k
  own_of (e ∷ es) m m' own k = own_of es (map_after g m e) (map_after (with_key g matches hash) m' e) (own_after m m' own e) k

  -- an exchange is legal with the further key if it is without
  pub key_legal : (m : K → Option P) (m' : Option K → Option P) → ((k : K) → m' (Some k) ≡ m k) → (e : Exchange P)
      → IsLegal g m e ↔ IsLegal (with_key g matches hash) m' e
  key_legal m m' own (Open t) = (λ h. h, λ h. h)
  key_legal m m' own (Claim t x p) = (λ h. own (g.key p) ∙ h, λ h. sym (own (g.key p)) ∙ h)
  key_legal m m' own (Replace t x p q) = (λ h. own (g.key p) ∙ h, λ h. sym (own (g.key p)) ∙ h)
  key_legal m m' own (Bury t x p) = (λ h. own (g.key p) ∙ h, λ h. sym (own (g.key p)) ∙ h)
  key_legal m m' own (Link t n) = (λ h. h, λ h. h)
  key_legal m m' own (Mark t x p) = (λ h. h, λ h. h)
  key_legal m m' own (Close t x) = (λ h. h, λ h. h)
  key_legal m m' own (Place n x p) = (λ h. h, λ h. h)
  key_legal m m' own (Finish t x p) = (λ h. h, λ h. h)
  key_legal m m' own (Advance n c) = (λ h. h, λ h. h)
  key_legal m m' own (Promote t n) = (λ h. h, λ h. h)
  key_legal m m' own (Abort n) = (λ h. h, λ h. h)
  key_legal m m' own (Take n) = (λ h. h, λ h. h)

  -- so is a list
  pub key_all_legal : (es : List (Exchange P)) (m : K → Option P) (m' : Option K → Option P) → ((k : K) → m' (Some k) ≡ m k)
      → AllLegal g m es ↔ AllLegal (with_key g matches hash) m' es
  key_all_legal [] m m' own = (λ h. h, λ h. h)
  key_all_legal (e ∷ es) m m' own =
      let one = key_legal m m' own e in
      let rest = key_all_legal es (map_after g m e) (map_after (with_key g matches hash) m' e) (own_after m m' own e) in
      (λ h. (one.0 h.0, rest.0 h.1), λ h. (one.1 h.0, rest.1 h.1))

  module _ (c : Coding K P) (form : IsLawfulKey g c matches hash) where
    -- a matched key has the pair of the further one, after an exchange
    matched_after : (m : K → Option P) (m' : Option K → Option P) (k : K) → matches k ≡ true → m' None ≡ m k → (e : Exchange P)
        → map_after (with_key g matches hash) m' e None ≡ map_after g m e k
    matched_after m m' k h is (Open t) = is
    matched_after m m' k h is (Claim t x p) = ap (λ b. cond b (Some p) (m' None)) (form.class k h (g.key p)) ∙ ap (cond (g.same k (g.key p)) (Some p)) is
    matched_after m m' k h is (Replace t x p q) = ap (λ b. cond b (Some q) (m' None)) (form.class k h (g.key p)) ∙ ap (cond (g.same k (g.key p)) (Some q)) is
    matched_after m m' k h is (Bury t x p) = ap (λ b. cond b None (m' None)) (form.class k h (g.key p)) ∙ ap (cond (g.same k (g.key p)) None) is
    matched_after m m' k h is (Link t n) = is
    matched_after m m' k h is (Mark t x p) = is
    matched_after m m' k h is (Close t x) = is
    matched_after m m' k h is (Place n x p) = is
    matched_after m m' k h is (Finish t x p) = is
    matched_after m m' k h is (Advance n c) = is
    matched_after m m' k h is (Promote t n) = is
    matched_after m m' k h is (Abort n) = is
    matched_after m m' k h is (Take n) = is

    -- after a list
    matched_of : (es : List (Exchange P)) (m : K → Option P) (m' : Option K → Option P) (k : K) → matches k ≡ true → m' None ≡ m k
        → map_of (with_key g matches hash) m' es None ≡ map_of g m es k
    matched_of [] m m' k h is = is
    matched_of (e ∷ es) m m' k h is = matched_of es (map_after g m e) (map_after (with_key g matches hash) m' e) k h (matched_after m m' k h is e)

    -- the further key's pair is one whose key it matches
    abbrev IsFinding : Option P → Type 0
    IsFinding value = (p : P) → value ≡ Some p → matches (g.key p) ≡ true

    -- for either of two values, if each is one
    finding_cond : (b : Bool) (v w : Option P) → (b ≡ true → IsFinding v) → IsFinding w → IsFinding (cond b v w)
    finding_cond true v w f h = f refl
    finding_cond false v w f h = h

    -- after an exchange that is allowed
    found_after : (s : State P) (m' : Option K → Option P) → IsFinding (m' None) → (e : Exchange P) → Allows g s e
        → IsFinding (map_after (with_key g matches hash) m' e None)
    found_after s m' f (Open t) may = f
    found_after s m' f (Claim t x p) may = finding_cond (matches (g.key p)) (Some p) (m' None)
        (λ h q e. let is : p ≡ q = cc e in ap (λ r. matches (g.key r)) (sym is) ∙ h) f
    found_after s m' f (Replace t x p q) may = finding_cond (matches (g.key p)) (Some q) (m' None)
        (λ h r e. let is : q ≡ r = cc e in ap (λ y. matches (g.key y)) (sym is) ∙ (form.class (g.key p) h (g.key q) ∙ may.same)) f
    found_after s m' f (Bury t x p) may = finding_cond (matches (g.key p)) None (m' None) (λ h q e. absurd (cc e)) f
    found_after s m' f (Link t n) may = f
    found_after s m' f (Mark t x p) may = f
    found_after s m' f (Close t x) may = f
    found_after s m' f (Place n x p) may = f
    found_after s m' f (Finish t x p) may = f
    found_after s m' f (Advance n c) may = f
    found_after s m' f (Promote t n) may = f
    found_after s m' f (Abort n) may = f
    found_after s m' f (Take n) may = f

    -- after a list
    found_of : (es : List (Exchange P)) (s : State P) (m' : Option K → Option P) → IsFinding (m' None) → AllAllowed g s es
        → IsFinding (map_of (with_key g matches hash) m' es None)
    found_of [] s m' f may = f
    found_of (e ∷ es) s m' f may = found_of es (after s e) (map_after (with_key g matches hash) m' e) (found_after s m' f e may.0) may.1

    -- a map with the further key stays one
    pub key_map : (m : K → Option P) (m' : Option K → Option P) → IsMapWith g matches m m' → (s : State P) (es : List (Exchange P))
        → AllAllowed g s es → IsMapWith g matches (map_of g m es) (map_of (with_key g matches hash) m' es)
    key_map m m' holds s es may = record {
      own = own_of es m m' holds.own;
      matched = λ k h. matched_of es m m' k h (holds.matched k h);
      found = found_of es s m' holds.found may;
    }

    -- so the map that a list leaves
    pub key_left : (es : List (Exchange P)) → AllAllowed g start es → IsMapWith g matches (map_left g es) (map_left (with_key g matches hash) es)
    key_left es may = key_map (λ k. None) (λ k. None) (record { own = λ k. refl; matched = λ k h. refl; found = λ p e. absurd (cc e) }) start es may

    -- the value of the further key at some point is that of the keys that it matches
    pub key_moment : (begun since : List (Exchange P)) → AllAllowed g start (begun ++ since) → (value : Option P)
        → IsAtMoment (with_key g matches hash) (map_left (with_key g matches hash) begun) since None value
        → IsMatchedAtMoment g matches (map_left g begun) since value
    key_moment begun since may value r =
        let early : AllAllowed g (run begun start) r.so_far = allowed_first g r.so_far r.rest (run begun start)
        (subst (AllAllowed g (run begun start)) (sym r.is) (allowed_rest g begun since start may)) in
        let left = key_left begun (allowed_first g begun since start may) in
        let now = key_map (map_left g begun) (map_left (with_key g matches hash) begun) left (run begun start) r.so_far early in
        record {
          so_far = r.so_far;
          rest = r.rest;
          is = r.is;
          value_is = λ k h. sym (now.matched k h)
              ∙ r.value_is;
          found = λ p e. now.found p (r.value_is ∙ e);
        }
