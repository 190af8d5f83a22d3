-- An iteration has passed each entry that the map had as it began: it was returned, was taken out since, or is ahead.
use Rattle.std.proofs.Common.{◌≡◌, ◌⊎◌, inl, inr, ⊎_elim, ℕ, suc, ◌-◌, ◌<◌, ◌≤◌, Bool, true, false, MatchOption, Option, None, Some, is_some, List, [], ◌∷◌, ◌++◌, length}
use Rattle.std.proofs.Common.{refl, sym, ap, ◌∙◌, subst, arith}
use Rattle.std.proofs.lemmas.Bool.{cases_lt}
use Rattle.std.specs.Cmp.{IsEquivalence}
use mathlib.Core.List.{IsPrefix}
use denote.Bor.{Bor}
use Rattle.logbook.specs.Pages.{Named as Word}
use Rattle.papaya_words.specs.Word.{kind_of}
use Rattle.papaya_call.specs.declared.ask.At.TheVariants.{Slot}
use Rattle.papaya_words_law.specs.Invariant.{named}
use Rattle.papaya_map_book.specs.declared.rule.entry.Begun.{Begun}
use Rattle.papaya_map_book.specs.declared.rule.entry.Event.{Event}
use Rattle.papaya_map_book.specs.Calls.{IsTable}
use Rattle.papaya_map_book.specs.Logs.{Member, Stored, state_of}
use Rattle.papaya_map_book.specs.Rule.{IsLawfulLog, word_in}
use Rattle.papaya_map_book.specs.Sheets.{Sheet}
use Rattle.papaya_map_book.proofs.Logs.{prefix_trans}
use Rattle.papaya_map_lookup.specs.History.{history_of, key_of, replay}
use Rattle.papaya_map_lookup.proofs.Histories.{history_since}
use Rattle.papaya_map_change.specs.ClosureCalls.{AreOf}
use Rattle.papaya_map_change.proofs.ResizingRelies.{hash}
use Rattle.papaya_map_scan.specs.Leaving.{WasTakenOut}
use Rattle.papaya_map_scan.specs.Meeting.{has_pair}
use Rattle.papaya_map_scan.specs.Taking.{Holds, IsTaken, IsTakenAt}
use Rattle.papaya_map_scan.specs.Walked.{ArePassed, IsAhead, IsAmong, IsPassed, with_found}
use Rattle.papaya_map_scan.proofs.Leaving.{out_earlier, out_later}
use Rattle.papaya_map_scan.proofs.Taken.{past_out, named_out, retained_rootless, stood_or_out}

-- a member of a list is one of a longer list, and so is the one at its end
member_before : {X : Type 0} (x : X) (xs ys : List X) → Member x xs → Member x (xs ++ ys)
member_before x [] ys h = absurd h
member_before x (y ∷ xs) ys (inl is) = inl is
member_before x (y ∷ xs) ys (inr later) = inr (member_before x xs ys later)

member_last : {X : Type 0} (x : X) (xs : List X) → Member x (xs ++ x ∷ [])
member_last x [] = inl refl
member_last x (y ∷ xs) = inr (member_last x xs)

module _ {K V : Type 0} (entries : List (K × V)) (p : Stored K V) where
  -- a member of some entries is one of these and one more
  among_with : (found : Option (Bor K × Bor V)) → IsAmong entries p → IsAmong (with_found entries found) p
  among_with None is = is
  among_with (Some entry) is = member_before (key_of p, p.value.value) entries ((entry.0.now, entry.1.now) ∷ []) is

  among_last : (entry : Bor K × Bor V) → AreOf entry p → IsAmong (with_found entries (Some entry)) p
  among_last entry are = subst (λ (e : K × V). Member e (entries ++ (entry.0.now, entry.1.now) ∷ []))
      (ap (λ (k : K). (k, entry.1.now)) are.0 ∙ ap (λ (v : V). (key_of p, v)) are.1) (member_last (entry.0.now, entry.1.now) entries)

module _ {K V S : Type 0} (eq : K → K → Bool) (b : Begun K V S) (began log log' : List (Event K V S)) (pre : IsPrefix log log') (t len : ℕ) where
  -- a pair that is ahead stays so over a longer log, up to its place
  ahead_later : (from from' : ℕ) (p : Stored K V) (a : IsAhead b began log t from len p) → from' ≤ a.place → IsAhead b began log' t from' len p
  ahead_later from from' p a le = record {
    at = a.at;
    taken = record {
      since = a.taken.since;
      until = prefix_trans a.at log log' a.taken.until pre;
      root = a.taken.root;
      some = a.taken.some;
      last = a.taken.last;
    };
    place = a.place;
    since = le;
    until = a.until;
    stood = a.stood;
  }

  -- the slot to which the iteration has come is passed
  pub passed_next : (x : ℕ) (given : List (K × V)) (found : Option (Bor K × Bor V))
      → ((at : List (Event K V S)) → IsTakenAt b began log t at → IsPassed at log' t x found)
      → ArePassed eq b began log t x len given → ArePassed eq b began log' t (suc x) len (with_found given found)
  passed_next x given found here so k p has =
      ⊎_elim
      (λ out. inl (out_later p (history_of began) (history_of log) (history_of log') (history_since log log' pre) out))
      (⊎_elim (λ is. inr (inl (among_with given p found is)))
      (λ (a : IsAhead b began log t x len p).
      ⊎_elim
      (λ (lower : x < a.place). let le : suc x ≤ a.place = omega (arith, lower) in inr (inr (ahead_later x (suc x) p a le)))
      (λ (le : a.place ≤ x).
      let from = a.since in
      let is : a.place ≡ x = omega (arith, le, from) in
      ⊎_elim
      (λ out. inl (out_earlier p (history_of began) (history_of a.at) (history_of log') (history_since began a.at a.taken.since) out))
      (λ it. inr (inl (subst (λ (f : Option (Bor K × Bor V)). IsAmong (with_found given f) p) (sym it.1) (among_last given p it.0 it.2))))
      (here a.at a.taken p (subst (λ (y : ℕ). Holds ((state_of a.at).slot t y) p) is a.stood)))
      (cases_lt x a.place)))
      (so k p has)

-- if none was found, there is no further entry
pub none_found : {K V : Type 0} (given : List (K × V)) (found : Option (Bor K × Bor V)) → is_some found ≡ false → with_found given found ≡ given
none_found given None is = refl
none_found given (Some entry) is = absurd (cc is)

-- at the end of the table none is ahead
pub passed_all : {K V S : Type 0} (eq : K → K → Bool) (b : Begun K V S) (began log : List (Event K V S)) (t from len : ℕ) (given : List (K × V))
    → len ≤ from → ArePassed eq b began log t from len given → (k : K) (p : Stored K V) → replay eq (history_of began) k ≡ Some p
    → WasTakenOut (history_of began) (history_of log) p ⊎ IsAmong given p
passed_all eq b began log t from len given over so k p has =
    ⊎_elim (λ out. inl out) (⊎_elim (λ is. inr is) (λ a. let since = a.since in let until = a.until in absurd (omega (arith, since, until, over)))) (so k p has)

-- so if an iteration is over
pub over_leaves : {K V S : Type 0} (eq : K → K → Bool) (b : Begun K V S) (began log : List (Event K V S)) (t from len : ℕ)
    (given : List (K × V)) (found : Option (Bor K × Bor V)) → MatchOption found (len ≤ from) (λ entry. Unit {0})
    → ArePassed eq b began log t from len given
    → MatchOption found ((k : K) (p : Stored K V) → replay eq (history_of began) k ≡ Some p
    → WasTakenOut (history_of began) (history_of log) p ⊎ IsAmong given p) (λ entry. Unit {0})
over_leaves eq b began log t from len given (Some entry) over so = tt
over_leaves eq b began log t from len given None over so = passed_all eq b began log t from len given over so

module _ {K V S H : Type 0} (eq : K → K → Bool) (input : K → List (List ℕ)) (build : S → H) (write : H → List ℕ → H) (finish : H → ℕ)
    (classes : IsEquivalence eq) (respects : (x y : K) → eq x y ≡ true → input x ≡ input y) (b : Begun K V S)
    (began log : List (Event K V S)) (l : IsLawfulLog eq (hash eq input build write finish classes respects b) b log) where
  -- as the iteration begins, all pairs are ahead
  pub passed_none : (t : ℕ) (sheet : Sheet) → IsTable log t sheet → (r : IsTaken b began log t)
      → ArePassed eq b began log t 0 (length sheet.slots) []
  passed_none t sheet table r k p has =
      ⊎_elim (λ out. inl out)
      (λ stood. inr (inr (record {
        at = r.at;
        taken = record { since = r.since; until = r.until; root = r.root; some = r.some; last = r.last };
        place = stood.0;
        since = omega arith;
        until = stood.1;
        stood = stood.2;
      })))
      (stood_or_out eq input build write finish classes respects b began log l t r sheet table k p has)

  -- or there is none
  pub passed_rootless : IsPrefix began log → (state_of log).root ≡ 0 → (t from len : ℕ) → ArePassed eq b began log t from len []
  passed_rootless pre zero t from len k p has =
      ⊎_elim (λ out. inl out) (λ kept. absurd kept) (retained_rootless eq input build write finish classes respects b began log pre l zero [] k p has)

  module _ (t x word : ℕ) (stands : word_in eq (hash eq input build write finish classes respects b) b log (Slot t x) ≡ word)
      (v at : List (Event K V S)) (pre : IsPrefix v log) (taken : IsTakenAt b began v t at) where
    abbrev moment : IsTaken b began log t
    moment = record { at = at; since = taken.since; until = prefix_trans at v log taken.until pre; root = taken.root; some = taken.some; last = taken.last }

    -- no pair is in the slot, or this one
    pub passed_empty : has_pair (kind_of word) ≡ false → (found : Option (Bor K × Bor V)) → IsPassed at log t x found
    passed_empty none found p had = inl (past_out eq input build write finish classes respects b began log l t moment x p had word stands none)

    pub passed_found : (q : Stored K V) → named ((state_of log).slot t x) ≡ Some q → (entry : Bor K × Bor V) → AreOf entry q
        → IsPassed at log t x (Some entry)
    passed_found q names entry are p had =
        ⊎_elim (λ is. inr (entry, refl, subst (λ (z : Stored K V). AreOf entry z) is are)) (λ out. inl out)
        (named_out eq input build write finish classes respects b began log l t moment x p had q names)
