-- The replay of the changes of a log is the map that its exchanges leave, and its history is legal.
use Rattle.std.proofs.Common.{◌≡◌, ℕ, Bool, true, Option, None, List, [], ◌∷◌, ◌++◌, append_assoc, refl, sym, ap, ◌∙◌, subst}
use Rattle.std.specs.Cmp.{IsEquivalence}
use mathlib.Core.List.{IsPrefix}
use Rattle.papaya_words_law.specs.Exchange.{Claim, Replace, Bury, Open, Link, Mark, Close, Place}
use Rattle.papaya_words_law.specs.Exchange.{Finish, Advance, Promote, Abort, Take, Exchange, Setting}
use Rattle.papaya_words_law.specs.Exchange.{State, after, start}
use Rattle.papaya_words_law.specs.Allows.{AllAllowed}
use Rattle.papaya_words_law.specs.Meaning.{AllLegal, IsLawful, map_after, map_left, map_of}
use Rattle.papaya_words_law.proofs.OneMap.{legal_changes as all_legal}
use Rattle.papaya_map_book.specs.declared.rule.entry.Begun.{Begun}
use Rattle.papaya_map_book.specs.declared.rule.entry.Event.{Event}
use Rattle.papaya_map_book.specs.Hashes.{hash_of}
use Rattle.papaya_map_lookup.specs.History.{Change, AllLegalChanges, IsLegalHistory, changes_of, change_of, history_of, key_of, replay, replay_from}
use Rattle.papaya_map_book.specs.Logs.{exchanges_of, setting_of}
use Rattle.papaya_map_book.specs.Rule.{IsLawfulLog}
use Rattle.papaya_map_book.proofs.Logs.{exchanges_of-append}
use Rattle.papaya_map_book.proofs.Settings.{is_hashed}

module _ {K P : Type 0} (key : P → K) where
  -- the changes of two lists
  pub changes-append : (es fs : List (Exchange P)) → changes_of key (es ++ fs) ≡ changes_of key es ++ changes_of key fs
  changes-append [] fs = refl
  changes-append (e ∷ es) fs = ap (λ (cs : List (Change K P)). change_of key e ++ cs) (changes-append es fs)
      ∙ sym (append_assoc (change_of key e) (changes_of key es) (changes_of key fs))

  -- a beginning of a list has a beginning of its changes
  pub changes_begin : (es fs gs : List (Exchange P)) → es ++ fs ≡ gs → IsPrefix (changes_of key es) (changes_of key gs)
  changes_begin es fs gs e = (changes_of key fs, sym (changes-append es fs) ∙ ap (changes_of key) e)

module _ {K P : Type 0} (g : Setting K P) where
  -- the changes of a list act on a map as its exchanges do
  pub replay_is : (m : K → Option P) (es : List (Exchange P)) → replay_from g.same m (changes_of g.key es) ≡ map_of g m es
  replay_is m [] = refl
  replay_is m (Open t ∷ es) = replay_is m es
  replay_is m (Claim t x p ∷ es) = replay_is (map_after g m (Claim t x p)) es
  replay_is m (Replace t x p q ∷ es) = replay_is (map_after g m (Replace t x p q)) es
  replay_is m (Bury t x p ∷ es) = replay_is (map_after g m (Bury t x p)) es
  replay_is m (Link t n ∷ es) = replay_is m es
  replay_is m (Mark t x p ∷ es) = replay_is m es
  replay_is m (Close t x ∷ es) = replay_is m es
  replay_is m (Place n x p ∷ es) = replay_is m es
  replay_is m (Finish t x p ∷ es) = replay_is m es
  replay_is m (Advance n a ∷ es) = replay_is m es
  replay_is m (Promote t n ∷ es) = replay_is m es
  replay_is m (Abort n ∷ es) = replay_is m es
  replay_is m (Take n ∷ es) = replay_is m es

  -- so the replay from the empty map
  pub replay_left : (es : List (Exchange P)) → replay g.same (changes_of g.key es) ≡ map_left g es
  replay_left es = replay_is (λ k. None) es

  -- the changes of exchanges that are legal and allowed are legal
  pub legal_changes : IsLawful g → (s : State P) (m : K → Option P) (es : List (Exchange P)) → AllAllowed g s es → AllLegal g m es
      → AllLegalChanges g.same g.key m (changes_of g.key es)
  legal_changes law s m [] may legal = tt
  legal_changes law s m (Open t ∷ es) may legal = legal_changes law (after s (Open t)) m es may.1 legal.1
  legal_changes law s m (Claim t x p ∷ es) may legal = (
    record {
      taken_is = legal.0;
      some = λ a b. cc b;
      of_class = λ q e. let is : p ≡ q = cc e in subst (λ r. g.same (g.key p) (g.key r) ≡ true) is (law.itself (g.key p));
      kept = λ r q e f. absurd (cc e);
    },
    legal_changes law (after s (Claim t x p)) (map_after g m (Claim t x p)) es may.1 legal.1,
  )
  legal_changes law s m (Replace t x p q ∷ es) may legal = (
    record {
      taken_is = legal.0;
      some = λ a b. cc b;
      of_class = λ r e. let is : q ≡ r = cc e in subst (λ z. g.same (g.key p) (g.key z) ≡ true) is may.0.same;
      kept = λ r z e f. let gone : p ≡ r = cc e in let came : q ≡ z = cc f in sym (ap g.key came) ∙ (may.0.kept ∙ ap g.key gone);
    },
    legal_changes law (after s (Replace t x p q)) (map_after g m (Replace t x p q)) es may.1 legal.1,
  )
  legal_changes law s m (Bury t x p ∷ es) may legal = (
    record { taken_is = legal.0; some = λ a b. cc a; of_class = λ q e. absurd (cc e); kept = λ r q e f. absurd (cc f) },
    legal_changes law (after s (Bury t x p)) (map_after g m (Bury t x p)) es may.1 legal.1,
  )
  legal_changes law s m (Link t n ∷ es) may legal = legal_changes law (after s (Link t n)) m es may.1 legal.1
  legal_changes law s m (Mark t x p ∷ es) may legal = legal_changes law (after s (Mark t x p)) m es may.1 legal.1
  legal_changes law s m (Close t x ∷ es) may legal = legal_changes law (after s (Close t x)) m es may.1 legal.1
  legal_changes law s m (Place n x p ∷ es) may legal = legal_changes law (after s (Place n x p)) m es may.1 legal.1
  legal_changes law s m (Finish t x p ∷ es) may legal = legal_changes law (after s (Finish t x p)) m es may.1 legal.1
  legal_changes law s m (Advance n a ∷ es) may legal = legal_changes law (after s (Advance n a)) m es may.1 legal.1
  legal_changes law s m (Promote t n ∷ es) may legal = legal_changes law (after s (Promote t n)) m es may.1 legal.1
  legal_changes law s m (Abort n ∷ es) may legal = legal_changes law (after s (Abort n)) m es may.1 legal.1
  legal_changes law s m (Take n ∷ es) may legal = legal_changes law (after s (Take n)) m es may.1 legal.1

-- the history of a longer log begins as that of the shorter one
pub history_since : {K V S : Type 0} (log log' : List (Event K V S)) → IsPrefix log log' → IsPrefix (history_of log) (history_of log')
history_since log log' pre = changes_begin key_of (exchanges_of log) (exchanges_of pre.0) (exchanges_of log')
    (sym (exchanges_of-append log pre.0) ∙ ap exchanges_of pre.1)

-- the history of a log that keeps to the rule is legal
pub history_legal : {K V S H : Type 0} (eq : K → K → Bool) (input : K → List (List ℕ)) (build : S → H) (write : H → List ℕ → H) (finish : H → ℕ)
    → IsEquivalence eq → ((x y : K) → eq x y ≡ true → input x ≡ input y) → (b : Begun K V S) (log : List (Event K V S))
    → IsLawfulLog eq (hash_of input build write finish) b log → IsLegalHistory eq key_of (history_of log)
history_legal eq input build write finish classes respects b log l =
    let g = setting_of eq (hash_of input build write finish b.hasher) b.mode b.limit log in
    let law = (is_hashed eq input build write finish classes respects b log l).lawful in
    legal_changes g law start (λ k. None) (exchanges_of log) l.allowed (all_legal g law (exchanges_of log) l.allowed)
