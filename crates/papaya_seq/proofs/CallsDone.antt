-- The effect of lookups and removals by an owned key, as calls have it.
use Rattle.std.proofs.Common.{◌≡◌, ⊎_elim, inl, inr, ℕ, zero, suc, Bool, true, false, List, [], ◌∷◌}
use Rattle.std.proofs.Common.{◌++◌, Option, Some, None, Result, Ok, Err, MatchResult, OnOk, IfErr}
use Rattle.std.proofs.Common.{refl, sym, ◌∙◌, ap, subst, arith}
use Rattle.std.proofs.lemmas.Bool.{cases_Bool, cond-true, cond-false}
use Rattle.std.specs.Cmp.{IsEquivalence}
use Rattle.std.specs.List.{All, Contains}
use Rattle.papaya_words.specs.declared.refused.Refused as words
use Rattle.papaya_words.specs.declared.refused.Refused.TheVariants.{Memory, Capacity, RemoveNothing}
use Rattle.papaya_call.specs.Answers.{Says}
use Rattle.papaya_words_law.specs.Content.{AreApart, lookup}
use Rattle.papaya_call.specs.declared.call.Call.{Call}
use Rattle.papaya_call.specs.declared.call.Call.TheVariants.{Get, RemoveIf}
use Rattle.papaya_call.specs.declared.call.Reply.{Reply}
use Rattle.papaya_call.specs.declared.call.Reply.TheVariants.{Absent, Found, Inserted, Replaced, Occupied, Removed, Kept, Aborted, Done, Refused}
use Rattle.papaya_core_timeline.specs.Content.{content, map_in}
use Rattle.papaya_core_timeline.specs.Maps.{IsUpdate, Map, key_of}
use Rattle.papaya_core_timeline.specs.Outcomes.{reply_told}
use Rattle.papaya_core_timeline.specs.Solo.{IsAnswered, IsDoneBy, IsLeftBy, IsNewIn}
use Rattle.papaya_core_timeline.specs.declared.outcome.Outcome.{Outcome}
use Rattle.papaya_core_store.specs.Store.{StoreState, Stored}
use Rattle.papaya_core_store.proofs.Logs.{pair_number}
use Rattle.papaya_core_timeline.proofs.SoloTimeline.{lookup_alike}
use Rattle.papaya_seq.specs.Calls.{AreCalled, IsCalled, IsDone, IsJudged, IsLeftAlone, IsListed, FollowsResult, MayRefuse}
use Rattle.papaya_seq.specs.Map.{Grows, HasNone, Holds, IsMakeRefusal, Keeps, MapState, Unchanged}
use Rattle.papaya_seq.specs.Removes.{IsRemoval, IsRemovalBy}
use Rattle.papaya_seq.specs.Resizes.{IsCopyCause, IsReserveCause}

module _ {K V : Type 0} (eq : K → K → Bool) (classes : IsEquivalence eq) where
  -- if keys are distinct, a pair is found by each key that equals its own
  pub found_apart : (ps : List (Stored K V)) → AreApart eq (λ p. p.key) ps → (k : K) (p : Stored K V) → Contains ps p → eq k p.key ≡ true
      → lookup eq (λ q. q.key) ps k ≡ Some p
  found_apart [] apart k p (i, within, is) same = absurd (omega (arith, within))
  found_apart (q ∷ ps) apart k p (zero, within, is) same =
      cond-true (eq k q.key) (Some q) (lookup eq (λ (r : Stored K V). r.key) ps k) (subst (λ (r : Stored K V). eq k r.key ≡ true) (sym is) same) ∙ ap Some is
  found_apart (q ∷ ps) (alone, apart) k p (suc i, within, is) same =
      let rest : lookup eq (λ (r : Stored K V). r.key) ps k ≡ Some p = found_apart ps apart k p (i, omega (arith, within), is) same in
      ⊎_elim
      (λ (y : eq k q.key ≡ true). let twice : None ≡ Some p = sym alone
      ∙ lookup_alike eq classes (λ (r : Stored K V). r.key) ps q.key k (classes.symm q.key k ∙ y) ∙ rest in absurd cc)
      (λ (n : eq k q.key ≡ false). cond-false (eq k q.key) (Some q) (lookup eq (λ (r : Stored K V). r.key) ps k) n ∙ rest)
      (cases_Bool (eq k q.key))

  -- if no key equals it, none is found
  pub found_none : (ps : List (Stored K V)) (k : K) → All (λ p. eq k p.key ≡ false) ps → lookup eq (λ q. q.key) ps k ≡ None
  found_none [] k none = refl
  found_none (q ∷ ps) k none =
      cond-false (eq k q.key) (Some q) (lookup eq (λ (r : Stored K V). r.key) ps k) (none 0 q (omega arith))
      ∙ found_none ps k (λ i d within. none (suc i) d (omega (arith, within)))

module _ {K V S : Type 0} (eq : K → K → Bool) (classes : IsEquivalence eq) (s : StoreState K V S) (apart : AreApart eq (λ p. p.key) (content eq s))
    (k : K) where
  -- a class that keeps its pair
  stays : (s' : StoreState K V S) → Unchanged eq s s' → (o : Option (Stored K V)) → map_in eq s k ≡ o → IsUpdate eq k o o (map_in eq s) (map_in eq s')
  stays s' unchanged o here = record {
    before = here;
    class = λ j e. unchanged j ∙ lookup_alike eq classes (λ (p : Stored K V). p.key) (content eq s) j k e ∙ here;
    others = λ j e. unchanged j;
  }

  -- the class of a key that holds a pair
  held_here : (p : Stored K V) → Holds eq (eq k) s p → map_in eq s k ≡ Some p
  held_here p holds = found_apart eq classes (content eq s) apart k p holds.there holds.key

  none_here : HasNone eq (eq k) s → map_in eq s k ≡ None
  none_here none = found_none eq classes (content eq s) k none

  -- a lookup that found a pair
  pub get_found : (A : Type 0) (p : Stored K V) (n : ℕ) → Holds eq (eq k) s p → p.number ≡ n
      → IsAnswered {A = A} eq (Get k) (map_in eq s) (Found n) (map_in eq s)
  get_found A p n holds number = record { went = Some p; came = Some p; update = stays s (λ j. refl) (Some p) (held_here p holds); does = (number, refl) }

  -- and one that found none
  pub get_absent : (A : Type 0) → HasNone eq (eq k) s → IsAnswered {A = A} eq (Get k) (map_in eq s) Absent (map_in eq s)
  get_absent A none = record { went = None; came = None; update = stays s (λ j. refl) None (none_here none); does = refl }

  module _ (said : Stored K V → Bool → Type 0) (s' : StoreState K V S) where
    -- the pair of another equal key was removed
    went : (p : Stored K V) → eq k p.key ≡ true → IsUpdate eq p.key (Some p) None (map_in eq s) (map_in eq s')
        → IsUpdate eq k (Some p) None (map_in eq s) (map_in eq s')
    went p same update = record {
      before = lookup_alike eq classes (λ (q : Stored K V). q.key) (content eq s) k p.key same ∙ update.before;
      class = λ j e. update.class j (classes.congr j k p.key e ∙ same);
      others = λ j e. update.others j (other j e);
    }
      where
        other : (j : K) → eq j k ≡ false → eq j p.key ≡ false
        other j e =
            ⊎_elim
            (λ (y : eq j p.key ≡ true). let f : eq j k ≡ true = classes.congr j p.key k y ∙ classes.symm p.key k ∙ same in absurd cc)
            (λ (n : eq j p.key ≡ false). n)
            (cases_Bool (eq j p.key))

    -- a removal has the effect that it has on the finite map
    pub remove_answered : {A : Type 0} (a : A) (reply : Reply) → ((refused : words.Refused) → reply ≡ Refused refused → refused ≡ RemoveNothing → ⊥)
        → IsRemoval eq (eq k) said s reply s' → IsAnswered eq (RemoveIf k a) (map_in eq s) reply (map_in eq s')
    remove_answered a Absent never (none, unchanged) = record { went = None; came = None; update = stays s' unchanged None (none_here none); does = refl }
    remove_answered a (Removed n) never (p, holds, removes, judged) =
        record { went = Some p; came = None; update = went p holds.held.key removes.update; does = (pair_number s n p holds.logged, refl) }
    remove_answered a (Kept n) never (p, holds, unchanged, judged) =
        record { went = Some p; came = Some p; update = stays s' unchanged (Some p) (held_here p holds.held); does = (pair_number s n p holds.logged, refl) }
    remove_answered a (Refused refused) never unchanged = (unchanged, λ nothing. absurd (never refused refl nothing))
    remove_answered a (Aborted t) never removal = absurd removal
    remove_answered a Done never removal = absurd removal
    remove_answered a (Found n) never removal = absurd removal
    remove_answered a (Inserted n) never removal = absurd removal
    remove_answered a (Replaced m n) never removal = absurd removal
    remove_answered a (Occupied n) never removal = absurd removal

    -- it makes no pair
    pub remove_fresh : (reply : Reply) → IsRemoval eq (eq k) said s reply s' → IsNewIn s reply
    remove_fresh Absent removal = tt
    remove_fresh (Removed n) removal = tt
    remove_fresh (Kept n) removal = tt
    remove_fresh (Refused refused) removal = tt
    remove_fresh (Aborted t) removal = absurd removal
    remove_fresh Done removal = absurd removal
    remove_fresh (Found n) removal = absurd removal
    remove_fresh (Inserted n) removal = absurd removal
    remove_fresh (Replaced m n) removal = absurd removal
    remove_fresh (Occupied n) removal = absurd removal

    -- and its closure's answers gave this result
    pub remove_said : {A : Type 0} (says : Says K V A) (a : A)
        → ((p : Stored K V) (agrees : Bool) → said p agrees → (a' : A) × says.yes a p.key p.value agrees a') → (reply : Reply)
        → IsRemoval eq (eq k) said s reply s' → IsJudged says a reply s
    remove_said says a gives Absent removal = tt
    remove_said says a gives (Removed n) (p, holds, removes, judged) = let answers = gives p true judged in (p, answers.0, holds.logged, answers.1)
    remove_said says a gives (Kept n) (p, holds, unchanged, judged) = let answers = gives p false judged in (p, answers.0, holds.logged, answers.1)
    remove_said says a gives (Refused refused) removal = tt
    remove_said says a gives (Aborted t) removal = absurd removal
    remove_said says a gives Done removal = absurd removal
    remove_said says a gives (Found n) removal = absurd removal
    remove_said says a gives (Inserted n) removal = absurd removal
    remove_said says a gives (Replaced m n) removal = absurd removal
    remove_said says a gives (Occupied n) removal = absurd removal

-- a call on a key has another reply than one that resizes the map
pub keyed_undone : {K V A : Type 0} (eq : K → K → Bool) (call : Call K V A) (k : K) → key_of call ≡ Some k → (reply : Reply) (m m' : Map K V)
    → IsAnswered eq call m reply m' → reply ≡ Done → ⊥
keyed_undone eq call k keyed reply m m' answered is =
    let done : IsAnswered eq call m Done m' = subst (λ r. IsAnswered eq call m r m') is answered in
    let f : None ≡ Some k = sym done.0 ∙ keyed in
    absurd cc

-- a refusal because memory ran out, or at a limit, is no removal of nothing
pub removes_something : (refused : words.Refused) → IsMakeRefusal refused → refused ≡ RemoveNothing → ⊥
removes_something refused (inl memory) nothing = let f : Memory ≡ RemoveNothing = sym memory ∙ nothing in absurd cc
removes_something refused (inr full) nothing = let f : Capacity ≡ RemoveNothing = sym full ∙ nothing in absurd cc

-- a reservation, and the end of a resize, are refused because memory ran out or at a limit
pub reserve_makes : {K V S : Type 0} (eq : K → K → Bool) (s : MapState K V S) (more : ℕ) (refused : words.Refused) (s' : MapState K V S)
    → IsReserveCause eq s more refused s' → IsMakeRefusal refused
reserve_makes eq s more refused s' (inl memory) = inl memory
reserve_makes eq s more refused s' (inr (capacity, full)) = inr capacity

pub copy_makes : {K V S : Type 0} (s : MapState K V S) (refused : words.Refused) (s' : MapState K V S) → IsCopyCause s refused s' → IsMakeRefusal refused
copy_makes s refused s' (moving, inl memory) = inl memory
copy_makes s refused s' (moving, inr (capacity, none)) = inr capacity

module _ {K V S A : Type 0} (eq : K → K → Bool) (classes : IsEquivalence eq) (s : MapState K V S)
    (apart : AreApart eq (λ p. p.key) (content eq s.store)) (k : K) (a : A) (says : Says K V A) where
  -- a removal by an owned key is a call
  pub remove_called : {said : Stored K V → Bool → Type 0} (reply : Reply) (s' : MapState K V S) → IsRemovalBy eq (eq k) said s.store reply s'.store
      → ((refused : words.Refused) → reply ≡ Refused refused → IsCopyCause s refused s') → Keeps s s' → Grows s s'
      → ((p : Stored K V) (agrees : Bool) → said p agrees → (a' : A) × says.yes a p.key p.value agrees a') → IsCalled eq says s (RemoveIf k a) reply s'
  remove_called {said} reply s' whole because keeps grows gives = let ordered = λ (refused : words.Refused) (is : reply ≡ Refused refused).
      removes_something refused (copy_makes s refused s' (because refused is)) in record {
        answered = remove_answered eq classes s.store apart k said s'.store a reply ordered whole.removal;
        fresh = remove_fresh eq classes s.store apart k said s'.store reply whole.removal;
        said = remove_said eq classes s.store apart k said s'.store says a gives reply whole.removal;
        cause = because;
        done = λ is. keyed_undone eq (RemoveIf k a) k refl reply (map_in eq s.store) (map_in eq s'.store)
            (remove_answered eq classes s.store apart k said s'.store a reply ordered whole.removal) is;
        keeps = keeps;
        tables = λ j is. grows;
      }

module _ {K V S A : Type 0} (eq : K → K → Bool) (hash : S → K → ℕ) (says : Says K V A) (outcome : Outcome) (call : Call K V A) (now s' : MapState K V S)
    (called : IsCalled eq says now call (reply_told outcome) s') (alone : IsLeftAlone eq hash now call (reply_told outcome) s')
    (lists : IsListed eq call now.store outcome) where
  -- one more call is made
  pub called_more : (s : MapState K V S) (calls : List (Call K V A)) (outcomes : List Outcome) → AreCalled eq hash says s calls outcomes now
      → AreCalled eq hash says s (calls ++ call ∷ []) (outcomes ++ outcome ∷ []) s'
  called_more s [] [] e = (
    s',
    subst (λ (y : MapState K V S). IsCalled eq says y call (reply_told outcome) s') e called,
    subst (λ (y : MapState K V S). IsLeftAlone eq hash y call (reply_told outcome) s') e alone,
    subst (λ (y : MapState K V S). IsListed eq call y.store outcome) e lists,
    refl,
  )
  called_more s [] (o ∷ outcomes) e = absurd e
  called_more s (c ∷ calls) [] e = absurd e
  called_more s (c ∷ calls) (o ∷ outcomes) (middle, first, left, listed, rest) = (middle, first, left, listed, called_more middle calls outcomes rest)

module _ {K V S A : Type 0} (eq : K → K → Bool) (says : Says K V A) (call : Call K V A) (no_key : key_of call ≡ None) (s s' : MapState K V S)
    (keeps : Keeps s s') (said : (reply : Reply) → FollowsResult eq says call s reply s'.store)
    (makes : (refused : words.Refused) → MayRefuse eq s call refused s' → IsMakeRefusal refused) where
  -- a call on no key that had this effect was made, with this reply
  pub resized_called : (done : Result (Unit {0}) words.Refused) (reply : Reply) → MatchResult done (λ _. reply ≡ Done) (λ e. reply ≡ Refused e)
      → OnOk done (IsDone eq says call s.store s'.store) → IfErr done (λ e. MayRefuse eq s call e s')
      → OnOk done (IsDoneBy call (map_in eq s.store) (map_in eq s'.store)) → IfErr done (λ e. IsLeftBy call (map_in eq s.store) (map_in eq s'.store))
      → IsCalled eq says s call reply s'
  resized_called (Ok u) reply is ok err does left = subst (λ r. IsCalled eq says s call r s') (sym is) (record {
    answered = (no_key, does);
    fresh = tt;
    said = said Done;
    cause = λ refused e. let f : Done ≡ Refused refused = e in absurd cc;
    done = λ e. ok;
    keeps = keeps;
    tables = λ j is. let f : None ≡ Some j = sym no_key ∙ is in absurd cc;
  })
  resized_called (Err refused) reply is ok err does left = subst (λ r. IsCalled eq says s call r s') (sym is) (record {
    answered = (left, λ nothing. absurd (removes_something refused (makes refused err) nothing));
    fresh = tt;
    said = said (Refused refused);
    cause = λ other e. let same : refused ≡ other = let f : Refused refused ≡ Refused other = e in cc f in subst (λ r. MayRefuse eq s call r s') same err;
    done = λ e. let f : Refused refused ≡ Done = e in absurd cc;
    keeps = keeps;
    tables = λ j is. let f : None ≡ Some j = sym no_key ∙ is in absurd cc;
  })
