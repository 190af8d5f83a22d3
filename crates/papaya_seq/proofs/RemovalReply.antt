-- The effect of a removal that has replied on the finite map is the one of its reply.
use Rattle.std.proofs.Common.{◌≡◌, ⊎_elim, ◌⊎◌, ℕ, Bool, true, false, Option, Some, None, refl, sym, ◌∙◌, ap, subst}
use denote.Ref.{Bor}
use Rattle.std.proofs.lemmas.Bool.{cases_Bool}
use Rattle.std.specs.Cmp.{IsEquivalence}
use Rattle.std.specs.Fn.{Mut}
use Rattle.papaya_call_law.specs.Says.{Agrees, result_of_removal}
use Rattle.papaya_words.specs.declared.refused.Refused.{Refused as Refused_words}
use Rattle.papaya_call.specs.declared.call.Reply.{Reply}
use Rattle.papaya_call.specs.declared.call.Reply.TheVariants.{Absent, Found, Inserted, Replaced, Occupied, Removed, Kept, Aborted, Done, Refused}
use Rattle.papaya_core_timeline.specs.Content.{content, map_in}
use Rattle.papaya_core_timeline.specs.Maps.{Does, IsUpdate}
use Rattle.papaya_core_timeline.specs.Solo.{IsAnswered}
use Rattle.papaya_core_store.specs.Store.{StoreState, Stored, pair_of}
use Rattle.papaya_core_timeline.proofs.SoloTimeline.{lookup_alike}
use Rattle.papaya_seq.specs.Map.{Removes, Unchanged}
use Rattle.papaya_seq.specs.Removes.{IsCalledFor, IsHeld, IsRemoval, Judges}
use Rattle.papaya_seq.proofs.Lawful.{MatchesNone, logged_content, lookup_has_none, lookup_holds, none_held}
use Rattle.papaya_seq.proofs.RemovalTurns.{IsJudged}
use Rattle.papaya_seq.proofs.Removing.{removal_by}

-- a reply that there is none, or a refusal
abbrev pub IsAbsentOrRefused : Reply → Type 0
IsAbsentOrRefused reply = (reply ≡ Absent) ⊎ ((refused : Refused_words) × (reply ≡ Refused refused))

-- a removal that found no pair
pub removal_none : {K V S : Type 0} (eq : K → K → Bool) (matches : K → Bool) (said : Stored K V → Bool → Type 0) (s s' : StoreState K V S)
    (reply : Reply) → MatchesNone s matches → IsAbsentOrRefused reply → Unchanged eq s s' → IsRemoval eq matches said s reply s'
removal_none eq matches said s s' reply none ends same =
    ⊎_elim
    (λ (absent : reply ≡ Absent). subst (λ r. IsRemoval eq matches said s r s') (sym absent) (none_held s matches eq none, same))
    (λ (refused : (why : Refused_words) × (reply ≡ Refused why)). subst (λ r. IsRemoval eq matches said s r s') (sym refused.1) same)
    ends

module _ {K V S F : Type 0} (g : Mut F (Bor K × (Bor V × Unit {0})) Bool) (eq : K → K → Bool) (classes : IsEquivalence eq) (matches : K → Bool)
    (k : K) (alike : (l : K) → matches l ≡ eq k l) (s s' : StoreState K V S) (agrees f : F) where
  -- equal keys have one pair
  one_pair : (i j : K) → eq i j ≡ true → map_in eq s i ≡ map_in eq s j
  one_pair i j = lookup_alike eq classes (λ (p : Stored K V). p.key) (content eq s) i j

  -- a class that keeps its pair
  unchanged : (o : Option (Stored K V)) → IsUpdate eq k o o (map_in eq s) (map_in eq s') → Unchanged eq s s'
  unchanged o update j =
      ⊎_elim
      (λ (y : eq j k ≡ true). update.class j y ∙ sym (one_pair j k y ∙ update.before))
      (λ (n : eq j k ≡ false). update.others j n)
      (cases_Bool (eq j k))

  -- the pair that the key has
  held : (p : Stored K V) (n : ℕ) → map_in eq s k ≡ Some p → p.number ≡ n → IsHeld eq matches n s p
  held p n here number =
      let holds = lookup_holds eq matches k alike s p here in
      record { held = holds; logged = ap (pair_of s) (sym number) ∙ logged_content s eq p holds.there }

  -- the closure was called with that pair
  said : (p : Stored K V) (n : ℕ) (answered : Bool) → pair_of s n ≡ Some p → IsJudged g matches s agrees (Some (Agrees n answered)) f
      → Judges g agrees p answered
  said p n answered logged (q, there, judges) =
      let (key, value, key_is, value_is, called) = judges in
      let is : Some q ≡ Some p = sym there ∙ logged in let same : q ≡ p = cc in
      subst (λ (y : Stored K V). Judges g agrees y answered) same (key, value, f, key_is, value_is, called)

  -- it was removed
  removes : (p : Stored K V) → IsUpdate eq k (Some p) None (map_in eq s) (map_in eq s') → Removes eq matches s p s'
  removes p update =
      let holds = lookup_holds eq matches k alike s p update.before in
      let same : eq k p.key ≡ true = sym (alike p.key) ∙ holds.key in
      let back : eq p.key k ≡ true = classes.symm p.key k ∙ same in
      record {
        held = holds;
        update = record {
          before = one_pair p.key k back ∙ update.before;
          class = λ j e. update.class j (classes.congr j p.key k e ∙ back);
          others = λ j e. update.others j (apart j e back);
        };
      }
    where
      apart : (j : K) → eq j p.key ≡ false → eq p.key k ≡ true → eq j k ≡ false
      apart j differ back =
          ⊎_elim
          (λ (y : eq j k ≡ true). let f : eq j p.key ≡ true = classes.congr j k p.key y ∙ sym (classes.symm p.key k) ∙ back in absurd cc)
          (λ (n : eq j k ≡ false). n)
          (cases_Bool (eq j k))

  -- no pair, and none came
  absent : (went came : Option (Stored K V)) → Does (removal_by k) went Absent came → (went ≡ None) × (came ≡ None)
  absent None came does = (refl, does)
  absent (Some p) came does = absurd does

  removed : (n : ℕ) (went came : Option (Stored K V)) → Does (removal_by k) went (Removed n) came → (p : Stored K V) × (went ≡ Some p)
      × (p.number ≡ n) × (came ≡ None)
  removed n None came does = absurd does
  removed n (Some p) came (number, next) = (p, refl, number, next)

  kept : (n : ℕ) (went came : Option (Stored K V)) → Does (removal_by k) went (Kept n) came → (p : Stored K V) × (went ≡ Some p) × (p.number ≡ n)
      × (came ≡ Some p)
  kept n None came does = absurd does
  kept n (Some p) came (number, next) = (p, refl, number, next)

  found_not : (n : ℕ) (went came : Option (Stored K V)) → Does (removal_by k) went (Found n) came → ⊥
  found_not n None came does = does
  found_not n (Some p) came does = does

  inserted_not : (n : ℕ) (went came : Option (Stored K V)) → Does (removal_by k) went (Inserted n) came → ⊥
  inserted_not n None came does = does
  inserted_not n (Some p) came does = does

  replaced_not : (m n : ℕ) (went came : Option (Stored K V)) → Does (removal_by k) went (Replaced m n) came → ⊥
  replaced_not m n None came does = does
  replaced_not m n (Some p) came does = does

  occupied_not : (n : ℕ) (went came : Option (Stored K V)) → Does (removal_by k) went (Occupied n) came → ⊥
  occupied_not n None came does = does
  occupied_not n (Some p) came does = does

  aborted_not : (t : ℕ) (went came : Option (Stored K V)) → Does (removal_by k) went (Aborted t) came → ⊥
  aborted_not t None came does = does
  aborted_not t (Some p) came does = does

  -- the effect on the finite map of the removal of an owned key
  pub removal_done : (reply : Reply) → IsAnswered eq (removal_by k) (map_in eq s) reply (map_in eq s')
      → IsJudged g matches s agrees (result_of_removal reply) f → IsRemoval eq matches (Judges g agrees) s reply s'
  removal_done Absent answered judged =
      let none = absent answered.went answered.came answered.does in
      let update = subst (λ o. IsUpdate eq k o answered.came (map_in eq s) (map_in eq s')) none.0 answered.update in
      (lookup_has_none eq matches k alike s update.before, unchanged None (subst (λ o. IsUpdate eq k None o (map_in eq s) (map_in eq s')) none.1 update))
  removal_done (Removed n) answered judged =
      let (p, went, number, came) = removed n answered.went answered.came answered.does in
      let update = subst (λ o. IsUpdate eq k o answered.came (map_in eq s) (map_in eq s')) went answered.update in
      let holds = held p n update.before number in
      (p, holds, removes p (subst (λ o. IsUpdate eq k (Some p) o (map_in eq s) (map_in eq s')) came update), said p n true holds.logged judged)
  removal_done (Kept n) answered judged =
      let (p, went, number, came) = kept n answered.went answered.came answered.does in
      let update = subst (λ o. IsUpdate eq k o answered.came (map_in eq s) (map_in eq s')) went answered.update in
      let holds = held p n update.before number in
      (p, holds, unchanged (Some p) (subst (λ o. IsUpdate eq k (Some p) o (map_in eq s) (map_in eq s')) came update), said p n false holds.logged judged)
  removal_done (Refused refused) answered judged = answered.0
  removal_done (Aborted t) answered judged = absurd (aborted_not t answered.went answered.came answered.does)
  removal_done Done answered judged = let f : Some k ≡ None = answered.0 in absurd cc
  removal_done (Found n) answered judged = absurd (found_not n answered.went answered.came answered.does)
  removal_done (Inserted n) answered judged = absurd (inserted_not n answered.went answered.came answered.does)
  removal_done (Replaced m n) answered judged = absurd (replaced_not m n answered.went answered.came answered.does)
  removal_done (Occupied n) answered judged = absurd (occupied_not n answered.went answered.came answered.does)

-- the closure was called for the reply
pub called_for : {K V S F : Type 0} (g : Mut F (Bor K × (Bor V × Unit {0})) Bool) (matches : K → Bool) (s : StoreState K V S) (agrees f : F)
    (reply : Reply) → IsJudged g matches s agrees (result_of_removal reply) f → IsCalledFor g s reply agrees f
called_for g matches s agrees f Absent judged = judged
called_for g matches s agrees f (Removed n) judged = judged
called_for g matches s agrees f (Kept n) judged = judged
called_for g matches s agrees f (Refused refused) judged = judged
called_for g matches s agrees f (Aborted t) judged = judged
called_for g matches s agrees f Done judged = judged
called_for g matches s agrees f (Found n) judged = judged
called_for g matches s agrees f (Inserted n) judged = judged
called_for g matches s agrees f (Replaced m n) judged = judged
called_for g matches s agrees f (Occupied n) judged = judged

-- and if no pair was found, it was not called
pub called_none : {K V S F : Type 0} (g : Mut F (Bor K × (Bor V × Unit {0})) Bool) (s : StoreState K V S) (agrees f : F) (reply : Reply)
    → IsAbsentOrRefused reply → f ≡ agrees → IsCalledFor g s reply agrees f
called_none g s agrees f reply ends same =
    ⊎_elim
    (λ (absent : reply ≡ Absent). subst (λ r. IsCalledFor g s r agrees f) (sym absent) same)
    (λ (refused : (why : Refused_words) × (reply ≡ Refused why)). subst (λ r. IsCalledFor g s r agrees f) (sym refused.1) same)
    ends
