-- The facts that a search gains from the word at its place, and from comparing the key of the pair
-- that it met.
use Rattle.std.proofs.Common.{◌≡◌, ◌⊎◌, inl, inr, ⊎_elim, ℕ, Bool, true, false, cond, Some, List, [], ◌++◌, append-nil, refl, sym, ap, ◌∙◌, subst}
use Rattle.std.proofs.lemmas.Bool.{cond_both}
use Rattle.papaya_words.specs.Word.{kind_of, may_hold}
use Rattle.papaya_words.specs.declared.word.Kind.TheVariants as kinds
use Rattle.papaya_call.specs.declared.search.Place.{Place}
use Rattle.papaya_call.specs.declared.search.Search.TheVariants.{Comparing, Reading}
use Rattle.papaya_call.specs.declared.search.ProbeStep.TheVariants as seen
use Rattle.papaya_words_law.specs.Exchange.{Word, Empty, Closed, Live, Marked, Copied, Buried, Setting, State, Exchange, run, start}
use Rattle.papaya_words_law.specs.View.{View, Foreign, Here, Leaving, Gone, look, held, beyond, view}
use Rattle.papaya_words_law.specs.Allows.{AllAllowed}
use Rattle.papaya_words_law.specs.Code.{Coding, code, kind}
use Rattle.papaya_words_law.specs.Invariant.{named}
use Rattle.papaya_words_law.specs.Later.{Becomes}
use Rattle.papaya_call.specs.Search.{go_on, hinted, look_at, look as look_seen, match_at, at_yes}
use Rattle.papaya_call_law.specs.TrueAnswers.{LoadedPairs, or_last}
use Rattle.papaya_words_law.specs.Code.{IsHashed}
use Rattle.papaya_call_law.specs.Relies.{HasMet, IsAt}
use Rattle.papaya_words_law.proofs.Codes.{code_kind}
use Rattle.papaya_words_law.proofs.CodeViews.{other_key, past_buried}
use Rattle.papaya_words_law.proofs.Later.{Sees, later_itself, sees_later}
use Rattle.papaya_call_law.proofs.ReliesLearnMoments.{found_here}
use Rattle.papaya_call_law.proofs.ReliesLearnPlaces.{ReliesProbed, goes_on, sees}
use Rattle.papaya_words_law.specs.Hints.{IsHint}
use Rattle.papaya_words_law.proofs.Hints.{hint_passes}

-- the machine has loaded the pair that a word names
abbrev pub told_word : {P : Type 0} → Word P → LoadedPairs P → LoadedPairs P
told_word w loaded = record loaded { last = or_last (named w) loaded.last }

-- if a choice between a view and Foreign is held, it is the view
one_held : {P : Type 0} → (b : Bool) (v : View P) → held (cond b v Foreign) ≡ true → cond b v Foreign ≡ v
one_held true v h = refl
one_held false v h = absurd cc

module _ {K P : Type 0} (g : Setting K P) (k : K) where
  -- a held word that names p has p
  held_pair : (w : Word P) (p : P) → named w ≡ Some p → held (view g k w) ≡ true → (view g k w ≡ Here p) ⊎ (view g k w ≡ Leaving p)
  held_pair Empty p n h = absurd cc
  held_pair Closed p n h = absurd cc
  held_pair (Live q) p n h = let is : q ≡ p = cc n in inl (one_held (g.same k (g.key q)) (Here q) h ∙ ap Here is)
  held_pair (Marked q) p n h = let is : q ≡ p = cc n in inr (one_held (g.same k (g.key q)) (Leaving q) h ∙ ap Leaving is)
  held_pair (Copied q) p n h = let e = one_held (g.same k (g.key q)) (Gone q) h in let no : held (Gone q) ≡ true = subst (λ v. held v ≡ true) e h in absurd cc
  held_pair (Buried q) p n h = let e = one_held (g.same k (g.key q)) (View.Grave q) h in
      let no : held (View.Grave q) ≡ true = subst (λ v. held v ≡ true) e h in absurd cc

module _ {K P : Type 0} (g : Setting K P) (c : Coding K P) (hashed : IsHashed g c) (begun since : List (Exchange P))
    (may : AllAllowed g start (begun ++ since)) (k : K) where
  -- the state after all exchanges
  abbrev now : State P
  now = run (begun ++ since) start

  module _ (at : Place) (r : IsAt g c begun since k at) where
    -- the pair that the word at the place names is met
    met : (w : Word P) (p : P) → now.slot at.table at.probe.i ≡ w → named w ≡ Some p → (kind w ≡ kinds.Buried → ⊥)
        → HasMet g c begun since k at (code g c w) p
    met w p e n undeleted = record {
      stands = r;
      was = w;
      as_loaded = refl;
      names = n;
      undeleted = λ b. undeleted (sym (code_kind g c w) ∙ b);
      stood = (since, ([], append-nil since, e));
      became = subst (λ v. Becomes g v (now.slot at.table at.probe.i)) e ((later_itself g hashed.lawful now).words at.table at.probe.i);
      had = λ h.
          let there = sees g c hashed begun since k at r w e in
          found_here g c hashed.lawful begun since may k at.table at.probe.len p r.come r.within
          (⊎_elim (λ q. inl (there ∙ q)) (λ q. inr (there ∙ q)) (held_pair g k w p n h));
    }

    -- a filled word is compared
    compares : (w : Word P) (p : P) → now.slot at.table at.probe.i ≡ w → named w ≡ Some p → (kind w ≡ kinds.Buried → ⊥) → (loaded : LoadedPairs P)
        → ReliesProbed g c hashed begun since k (told_word w loaded) (seen.On (Comparing at (code g c w)))
    compares w p e n undeleted loaded = (p, ap (λ o. or_last o loaded.last) n, met w p e n undeleted)

    -- a hint that may be there: the word is loaded next, or the place is passed
    pub hints : (loaded : LoadedPairs P) (hash n : ℕ) → hash ≡ c.hash k → IsHint g c now at.table at.probe.i n
        → ReliesProbed g c hashed begun since k loaded (hinted at hash n)
    hints loaded hash n same is =
        let w : Word P = now.slot at.table at.probe.i in
        cond_both (may_hold n hash) (seen.On (Reading at)) (go_on at) (ReliesProbed g c hashed begun since k loaded)
        (λ may. r)
        (λ other.
        let foreign : view g k w ≡ Foreign = hint_passes g c hashed.coding k w n is (ap (may_hold n) (sym same) ∙ other) in
        goes_on g c hashed begun since k at r (ap beyond (sees g c hashed begun since k at r w refl ∙ foreign)) loaded)

    -- a word that is passed whatever its key
    passes : (w : Word P) → now.slot at.table at.probe.i ≡ w → beyond (view g k w) ≡ true → (loaded : LoadedPairs P)
        → ReliesProbed g c hashed begun since k (told_word w loaded) (go_on at)
    passes w e past loaded = goes_on g c hashed begun since k at r (ap beyond (sees g c hashed begun since k at r w e) ∙ past) (told_word w loaded)

    -- by the word's kind
    by_kind : (w : Word P) → now.slot at.table at.probe.i ≡ w → (loaded : LoadedPairs P)
        → ReliesProbed g c hashed begun since k (told_word w loaded) (look_at (kind w) at (code g c w))
    by_kind Empty e loaded = (r, e)
    by_kind Closed e loaded = passes Closed e refl loaded
    by_kind (Live p) e loaded = compares (Live p) p e refl (λ q. cc) loaded
    by_kind (Marked p) e loaded = compares (Marked p) p e refl (λ q. cc) loaded
    by_kind (Copied p) e loaded = compares (Copied p) p e refl (λ q. cc) loaded
    by_kind (Buried p) e loaded = passes (Buried p) e (past_buried g c k (Buried p) (code_kind g c (Buried p))) loaded

    -- by the word that is there
    pub looks : (loaded : LoadedPairs P) → ReliesProbed g c hashed begun since k (told_word (now.slot at.table at.probe.i) loaded)
        (look_seen at (code g c (now.slot at.table at.probe.i)))
    looks loaded =
        let w : Word P = now.slot at.table at.probe.i in
        subst (λ y. ReliesProbed g c hashed begun since k (told_word w loaded) (look_at y at (code g c w))) (sym (code_kind g c w)) (by_kind w refl loaded)

  module _ (at : Place) (word : ℕ) (p : P) (h : HasMet g c begun since k at word p) where
    -- the number is that of the word that was loaded
    kind_then : (w : Word P) → h.was ≡ w → kind_of word ≡ kind w
    kind_then w e = ap kind_of (h.as_loaded ∙ ap (code g c) e) ∙ code_kind g c w

    -- the pair that the word names is the one that was met
    same_pair : (w : Word P) (q : P) → named w ≡ Some q → h.was ≡ w → q ≡ p
    same_pair w q n e = let names = h.names in let there : named h.was ≡ Some q = ap named e ∙ n in cc (names, there)

    -- the word that is there now came from it
    pub became_of : (w : Word P) → h.was ≡ w → Becomes g w (now.slot at.table at.probe.i)
    became_of w e = subst (λ v. Becomes g v (now.slot at.table at.probe.i)) e h.became

    -- the key's pair
    matches : g.same k (g.key p) ≡ true → (loaded : LoadedPairs P) → loaded.last ≡ Some p → (w : Word P) → h.was ≡ w
        → ReliesProbed g c hashed begun since k loaded (match_at (kind w) at word)
    matches same loaded last Empty e = absurd (let n = h.names in let there = ap named e in cc (n, there))
    matches same loaded last Closed e = absurd (let n = h.names in let there = ap named e in cc (n, there))
    matches same loaded last (Live q) e = (p, last, h, same, inl (e ∙ ap Live (same_pair (Live q) q refl e)))
    matches same loaded last (Marked q) e = (p, last, h, same, inr (e ∙ ap Marked (same_pair (Marked q) q refl e)))
    matches same loaded last (Copied q) e =
        let mine : g.same k (g.key q) ≡ true = subst (λ y. g.same k (g.key y) ≡ true) (sym (same_pair (Copied q) q refl e)) same in
        let gone : look g now k at.table at.probe.len ≡ Gone q = sees g c hashed begun since k at h.stands (Copied q) (became_of (Copied q) e)
        ∙ ap (λ b. cond b (Gone q) Foreign) mine in
        (h.stands.come, inl (at.probe.len, q, h.stands.within, gone))
    matches same loaded last (Buried q) e = absurd (h.undeleted (kind_then (Buried q) e))

    -- another key's pair
    differs : g.same k (g.key p) ≡ false → (loaded : LoadedPairs P) → ReliesProbed g c hashed begun since k loaded (go_on at)
    differs other loaded =
        let then' : view g k h.was ≡ Foreign = other_key g k h.was p h.names other in
        let still : Sees (view g k h.was) (view g k (now.slot at.table at.probe.i)) = sees_later g hashed.lawful k h.was
        (now.slot at.table at.probe.i) h.became in
        let foreign : view g k (now.slot at.table at.probe.i) ≡ Foreign = subst (λ v. Sees v (view g k (now.slot at.table at.probe.i))) then' still in
        goes_on g c hashed begun since k at h.stands
        (ap beyond (sees g c hashed begun since k at h.stands (now.slot at.table at.probe.i) refl ∙ foreign)) loaded

    -- by the comparison
    pub compared : (loaded : LoadedPairs P) → loaded.last ≡ Some p → (same : Bool) → g.same k (g.key p) ≡ same
        → ReliesProbed g c hashed begun since k loaded (at_yes (Comparing at word) same)
    compared loaded last true e = subst (λ y. ReliesProbed g c hashed begun since k loaded (match_at y at word)) (sym (kind_then h.was refl))
        (matches e loaded last h.was refl)
    compared loaded last false e = differs e loaded
