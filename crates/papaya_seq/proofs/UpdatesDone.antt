-- The results of the calls that are made as computes, by what their closures return.
use Rattle.std.proofs.Common.{◌≡◌, ⊎_elim, inl, inr, ℕ, Bool, Option, Some, None, Result, Ok, Err}
use Rattle.std.proofs.Common.{IfOk, IsSome, MatchOption, option_map, refl, sym, ◌∙◌, ap, subst}
use denote.Ref.{Bor}
use Rattle.std.specs.Cmp.{IsEquivalence}
use Rattle.papaya_words.specs.declared.refused.Refused.{Refused}
use Rattle.papaya_call.specs.declared.answers.Operation.{Operation}
use Rattle.papaya_call.specs.declared.answers.Operation.TheVariants.{Insert, Remove, Abort}
use Rattle.papaya_core_timeline.specs.Content.{map_in}
use Rattle.papaya_core_store.specs.Store.{Stored, pair_of}
use Rattle.papaya_seq.specs.Computes.{ComputesBy, IsComputeRefusal, IsTriedWith, IsUpdated, IsUpdatedOrInserted, Says}
use Rattle.papaya_seq.specs.Map.{IsOccupied, IsStoreRefusal, KeepsAndGrows, MapState, Unchanged}
use Rattle.papaya_words_keys.specs.declared.results.Computed.{Computed}
use Rattle.papaya_words_keys.specs.declared.results.Computed.TheVariants.{Inserted, Updated, Removed, Aborted}
use Rattle.papaya_seq.proofs.Answered.{logged_there, store_refusal, write_cause}
use Rattle.papaya_seq.proofs.ComputesDone.{IsFirst, IsRefused, Leaves, Refuses, facts_of, said_none, said_some, value_stored}

module _ {K V T : Type 0} (post : Option (Bor K × Bor V) → Operation V T → Type 0) where
  -- the closure computes a value of a pair
  abbrev pub ComputesOf : (V → V → Type 0) → Type 0
  ComputesOf computes = (q : Bor K × Bor V) (o : Operation V T) → post (Some q) o → (v : V) × computes q.1.now v × (o ≡ Insert v)

  -- it makes a value of `None`
  abbrev pub MakesOfNone : (V → Type 0) → Type 0
  MakesOfNone makes = (o : Operation V T) → post None o → (v : V) × makes v × (o ≡ Insert v)

  -- it aborts for a pair
  abbrev pub AbortsOfSome : T → Type 0
  AbortsOfSome t = (q : Bor K × Bor V) (o : Operation V T) → post (Some q) o → o ≡ Abort t

  -- it aborts for `None`
  abbrev pub AbortsOfNone : T → Type 0
  AbortsOfNone t = (o : Operation V T) → post None o → o ≡ Abort t

  -- the value that it inserted of a pair is the one that it computed
  computed_of : (computes : V → V → Type 0) (p : Stored K V) (w : V) → Says post (Some p) (Insert w) → ComputesOf computes → computes p.value w
  computed_of computes p w says law = said_some post (λ v. computes v w) p (Insert w) says at
    where
      at : (q : Bor K × Bor V) → post (Some q) (Insert w) → computes q.1.now w
      at q said =
          let i = law q (Insert w) said in
          let e : i.0 ≡ w = let j : Insert w ≡ Insert i.0 = i.2 in cc in
          subst (λ (v : V). computes q.1.now v) e i.1

  made_of : (makes : V → Type 0) (w : V) → Says post None (Insert w) → MakesOfNone makes → makes w
  made_of makes w says law =
      let i = law (Insert w) (said_none post (Insert w) says) in
      let e : i.0 ≡ w = let j : Insert w ≡ Insert i.0 = i.2 in cc in
      subst makes e i.1

  -- a closure that computes neither aborts nor removes
  computing_no_abort : (computes : V → V → Type 0) (p : Stored K V) (t : T) → Says post (Some p) (Abort t) → ComputesOf computes → ⊥
  computing_no_abort computes p t says law = said_some post (λ _. ⊥) p (Abort t) says
      (λ q said. let i = law q (Abort t) said in let f : Abort t ≡ Insert i.0 = i.2 in absurd cc)

  computing_no_remove : (computes : V → V → Type 0) (p : Stored K V) → Says post (Some p) Remove → ComputesOf computes → ⊥
  computing_no_remove computes p says law = said_some post (λ _. ⊥) p Remove says
      (λ q said. let i = law q Remove said in let f : Remove ≡ Insert i.0 = i.2 in absurd cc)

  making_no_abort : (makes : V → Type 0) (t : T) → Says post None (Abort t) → MakesOfNone makes → ⊥
  making_no_abort makes t says law = let i = law (Abort t) (said_none post (Abort t) says) in let f : Abort t ≡ Insert i.0 = i.2 in absurd cc

  making_no_remove : (makes : V → Type 0) → Says post None Remove → MakesOfNone makes → ⊥
  making_no_remove makes says law = let i = law Remove (said_none post Remove says) in let f : Remove ≡ Insert i.0 = i.2 in absurd cc

  -- a closure that aborts neither inserts nor removes
  none_no_insert : (t : T) (v : V) → Says post None (Insert v) → AbortsOfNone t → ⊥
  none_no_insert t v says law = let f : Insert v ≡ Abort t = law (Insert v) (said_none post (Insert v) says) in absurd cc

  none_no_remove : (t : T) → Says post None Remove → AbortsOfNone t → ⊥
  none_no_remove t says law = let f : Remove ≡ Abort t = law Remove (said_none post Remove says) in absurd cc

  some_no_insert : (t : T) (p : Stored K V) (v : V) → Says post (Some p) (Insert v) → AbortsOfSome t → ⊥
  some_no_insert t p v says law = said_some post (λ _. ⊥) p (Insert v) says (λ q said. let f : Insert v ≡ Abort t = law q (Insert v) said in absurd cc)

  some_no_remove : (t : T) (p : Stored K V) → Says post (Some p) Remove → AbortsOfSome t → ⊥
  some_no_remove t p says law = said_some post (λ _. ⊥) p Remove says (λ q said. let f : Remove ≡ Abort t = law q Remove said in absurd cc)

-- a value of the pair of this number is returned
abbrev pub IsShownOf : {K V S : Type 0} → MapState K V S → ℕ → V → Type 0
IsShownOf {K = K} {V = V} s n w = (p : Stored K V) → pair_of s.store n ≡ Some p → w ≡ p.value

-- the key's pair has this number, and the map is as it was
pub record IsFoundBy {K V S : Type 0} (eq : K → K → Bool) (k : K) (s s' : MapState K V S) (m : ℕ) : Type 0 where
  pub pair : Stored K V
  pub there : map_in eq s.store k ≡ Some pair
  pub logged : pair_of s'.store m ≡ Some pair
  pub same : Unchanged eq s.store s'.store
  pub keeps : KeepsAndGrows s s'

-- the value that is returned of the pair that was found is the one that the key has
pub tried_there : {K V S : Type 0} (eq : K → K → Bool) (k : K) (s s' : MapState K V S) (m : ℕ) (w : V) → IsFoundBy eq k s s' m → IsShownOf s' m w
    → (IsOccupied eq k s.store w s'.store × KeepsAndGrows s s') × ((p : Stored K V) × (map_in eq s.store k ≡ Some p) × (p.value ≡ w))
tried_there eq k s s' m w f shown =
    let is : f.pair.value ≡ w = sym (shown f.pair f.logged) in
    ((record { pair = f.pair; there = f.there; value = is; unchanged = f.same }, f.keeps), (f.pair, f.there, is))

module _ {K V S T : Type 0} {post : Option (Bor K × Bor V) → Operation V T → Type 0} (eq : K → K → Bool) (law : IsEquivalence eq) (k : K)
    (s s' : MapState K V S) (result : Result (Computed ℕ T) Refused) where
  -- a pair that was stored, new or in the place of one, is in the arena
  pub inserted_logged : (n : ℕ) → result ≡ Ok (Inserted n) → ComputesBy eq k (λ p. p.number) (Says post) s result s' → IsSome (pair_of s'.store n)
  inserted_logged n is c = let f = facts_of post eq law k s s' result (Ok (Inserted n)) is c in
      subst (λ (o : Option (Stored K V)). IsSome o) (sym f.logged) refl

  pub updated_logged : (m n : ℕ) → result ≡ Ok (Updated m n) → ComputesBy eq k (λ p. p.number) (Says post) s result s' → IsSome (pair_of s'.store m)
      × IsSome (pair_of s'.store n)
  updated_logged m n is c =
      let f = facts_of post eq law k s s' result (Ok (Updated m n)) is c in (
        subst (λ (o : Option (Stored K V)). IsSome o) (sym (f.2.stores.keeps.0.pairs m f.0 f.1.logged)) refl,
        subst (λ (o : Option (Stored K V)). IsSome o) (sym f.2.logged) refl,
      )

  -- so is one that was removed
  pub removed_logged : (m : ℕ) → result ≡ Ok (Removed m) → ComputesBy eq k (λ p. p.number) (Says post) s result s' → IsSome (pair_of s'.store m)
  removed_logged m is c =
      let f = facts_of post eq law k s s' result (Ok (Removed m)) is c in
      subst (λ (o : Option (Stored K V)). IsSome o) (sym (f.3.0.pairs m f.0 f.1.logged)) refl

  -- a value that was computed took the place of the key's
  pub update_stored : (computes : V → V → Type 0) (m n : ℕ) (w : V) → result ≡ Ok (Updated m n)
      → ComputesBy eq k (λ p. p.number) (Says post) s result s' → IsShownOf s' n w → ComputesOf post computes
      → IsUpdated eq k computes s (Ok (Some w)) s' × ((p : Stored K V) × (map_in eq s.store k ≡ Some p) × computes p.value w)
  update_stored computes m n w is c shown computing =
      let f = facts_of post eq law k s s' result (Ok (Updated m n)) is c in
      let stores = value_stored post eq law k s s' (Some f.0) n w f.2 shown in
      let computed = computed_of post computes f.0 w stores.says computing in
      ((f.0.value, computed, stores.inserts, stores.keeps), (f.0, stores.before, computed))

  -- an update that aborted found no pair
  pub update_absent : (computes : V → V → Type 0) (t : T) → result ≡ Ok (Aborted t) → ComputesBy eq k (λ p. p.number) (Says post) s result s'
      → ComputesOf post computes → IsUpdated eq k computes s (Ok None) s'
  update_absent computes t is c computing = let f = facts_of post eq law k s s' result (Ok (Aborted t)) is c in go f.0 f.1
    where
      go : (held : Option (Stored K V)) → Leaves post eq law k s s' held (Abort t) → IsUpdated eq k computes s (Ok None) s'
      go None l = (l.before, l.same, l.keeps)
      go (Some p) l = absurd (computing_no_abort post computes p t l.says computing)

  -- a refused update found one
  pub update_refused : (computes : V → V → Type 0) (t : T) (refused : Refused) → result ≡ Err refused
      → ComputesBy eq k (λ p. p.number) (Says post) s result s' → ComputesOf post computes → AbortsOfNone post t
      → IsUpdated eq k computes s (Err refused) s' × IsStoreRefusal s refused
  update_refused computes t refused is c computing aborting =
      ⊎_elim
      (λ (f : IsRefused post eq law k s s' refused). go f.held f.operation f.leaves f.refuses)
      (λ (f : IsFirst post eq law k s s' refused). ((inr f.0, f.1), store_refusal s s' refused f.1.0))
      (facts_of post eq law k s s' result (Err refused) is c)
    where
      go : (held : Option (Stored K V)) (o : Operation V T) → Leaves post eq law k s s' held o → Refuses post eq law k s s' held o refused
          → IsUpdated eq k computes s (Err refused) s' × IsStoreRefusal s refused
      go (Some p) (Insert v) l r = let cause = write_cause s s' (Some p) refused r in
          ((inl (p, l.before), (cause, l.same, l.keeps)), store_refusal s s' refused cause)
      go (Some p) Remove l r = absurd (computing_no_remove post computes p l.says computing)
      go None (Insert v) l r = absurd (none_no_insert post t v l.says aborting)
      go None Remove l r = absurd (none_no_remove post t l.says aborting)
      go held (Abort u) l r = absurd r

  -- the value of an absent key is the one that the closure made
  pub upsert_inserted : (computes : V → V → Type 0) (makes : V → Type 0) (n : ℕ) (w : V) → result ≡ Ok (Inserted n)
      → ComputesBy eq k (λ p. p.number) (Says post) s result s' → IsShownOf s' n w → MakesOfNone post makes
      → IsUpdatedOrInserted eq k computes makes s (Ok w) s' × MatchOption (map_in eq s.store k) (makes w) (λ p. computes p.value w)
  upsert_inserted computes makes n w is c shown making =
      let f = facts_of post eq law k s s' result (Ok (Inserted n)) is c in
      let stores = value_stored post eq law k s s' None n w f shown in
      let made = made_of post makes w stores.says making in (
        (inr (made, stores.inserts), stores.keeps),
        subst (λ (o : Option (Stored K V)). MatchOption o (makes w) (λ p. computes p.value w))
            (sym stores.before) made,
      )

  -- and of one that has a value, the one that it computed
  pub upsert_updated : (computes : V → V → Type 0) (makes : V → Type 0) (m n : ℕ) (w : V) → result ≡ Ok (Updated m n)
      → ComputesBy eq k (λ p. p.number) (Says post) s result s' → IsShownOf s' n w → ComputesOf post computes
      → IsUpdatedOrInserted eq k computes makes s (Ok w) s' × MatchOption (map_in eq s.store k) (makes w) (λ p. computes p.value w)
  upsert_updated computes makes m n w is c shown computing =
      let f = facts_of post eq law k s s' result (Ok (Updated m n)) is c in
      let stores = value_stored post eq law k s s' (Some f.0) n w f.2 shown in
      let computed = computed_of post computes f.0 w stores.says computing in (
        (inl (f.0.value, computed, stores.inserts), stores.keeps),
        subst (λ (o : Option (Stored K V)). MatchOption o (makes w) (λ p. computes p.value w)) (sym stores.before) computed,
      )

  pub upsert_refused : (computes : V → V → Type 0) (makes : V → Type 0) (refused : Refused) → result ≡ Err refused
      → ComputesBy eq k (λ p. p.number) (Says post) s result s' → ComputesOf post computes → MakesOfNone post makes
      → IsUpdatedOrInserted eq k computes makes s (Err refused) s' × IsStoreRefusal s refused
  upsert_refused computes makes refused is c computing making =
      ⊎_elim
      (λ (f : IsRefused post eq law k s s' refused). go f.held f.operation f.leaves f.refuses)
      (λ (f : IsFirst post eq law k s s' refused). (f.1, store_refusal s s' refused f.1.0))
      (facts_of post eq law k s s' result (Err refused) is c)
    where
      go : (held : Option (Stored K V)) (o : Operation V T) → Leaves post eq law k s s' held o → Refuses post eq law k s s' held o refused
          → IsComputeRefusal eq s refused s' × IsStoreRefusal s refused
      go held (Insert v) l r = let cause = write_cause s s' held refused r in ((cause, l.same, l.keeps), store_refusal s s' refused cause)
      go (Some p) Remove l r = absurd (computing_no_remove post computes p l.says computing)
      go None Remove l r = absurd (making_no_remove post makes l.says making)
      go held (Abort u) l r = absurd r

  -- a value was made and stored if the key was absent
  pub tried_stored : (makes : V → Type 0) (n : ℕ) (w : V) → result ≡ Ok (Inserted n) → ComputesBy eq k (λ p. p.number) (Says post) s result s'
      → IsShownOf s' n w → MakesOfNone post makes
      → IsTriedWith eq k makes s (Ok (Ok w)) s' × (makes w × (map_in eq s.store k ≡ None))
  tried_stored makes n w is c shown making =
      let f = facts_of post eq law k s s' result (Ok (Inserted n)) is c in
      let stores = value_stored post eq law k s s' None n w f shown in
      let made = made_of post makes w stores.says making in
      ((made, stores.inserts, stores.keeps), (made, stores.before))

  -- a call that aborted found the key's pair
  pub tried_found : (makes : V → Type 0) (t : T) (m : ℕ) (number : Option ℕ) → result ≡ Ok (Aborted t) → number ≡ Some m
      → IfOk result (λ _. number ≡ option_map (λ p. p.number) (map_in eq s.store k)) → ComputesBy eq k (λ p. p.number) (Says post) s result s'
      → MakesOfNone post makes → IsFoundBy eq k s s' m
  tried_found makes t m number is some shown c making = let f = facts_of post eq law k s s' result (Ok (Aborted t)) is c in go f.0 f.1
    where
      names : number ≡ option_map (λ p. p.number) (map_in eq s.store k)
      names = subst (λ (r : Result (Computed ℕ T) Refused). IfOk r (λ _. number ≡ option_map (λ p. p.number) (map_in eq s.store k))) is shown

      go : (held : Option (Stored K V)) → Leaves post eq law k s s' held (Abort t) → IsFoundBy eq k s s' m
      go None l = absurd (making_no_abort post makes t l.says making)
      go (Some p) l =
          let both : Some m ≡ Some p.number = sym some ∙ names ∙ ap (option_map (λ (y : Stored K V). y.number)) l.before in
          let same : p.number ≡ m = cc both in
          let logged : pair_of s.store p.number ≡ Some p = logged_there eq law s.store k p.number p l.before refl in
          record {
            pair = p;
            there = l.before;
            logged = subst (λ (j : ℕ). pair_of s'.store j ≡ Some p) same (l.keeps.0.pairs p.number p logged);
            same = l.same;
            keeps = l.keeps;
          }

  pub tried_refused : (makes : V → Type 0) (t : T) (refused : Refused) → result ≡ Err refused
      → ComputesBy eq k (λ p. p.number) (Says post) s result s' → AbortsOfSome post t → MakesOfNone post makes
      → IsTriedWith eq k makes s (Err refused) s' × IsStoreRefusal s refused
  tried_refused makes t refused is c aborting making =
      ⊎_elim
      (λ (f : IsRefused post eq law k s s' refused). go f.held f.operation f.leaves f.refuses)
      (λ (f : IsFirst post eq law k s s' refused). ((inr f.0, f.1), store_refusal s s' refused f.1.0))
      (facts_of post eq law k s s' result (Err refused) is c)
    where
      go : (held : Option (Stored K V)) (o : Operation V T) → Leaves post eq law k s s' held o → Refuses post eq law k s s' held o refused
          → IsTriedWith eq k makes s (Err refused) s' × IsStoreRefusal s refused
      go None (Insert v) l r = let cause = write_cause s s' None refused r in ((inl l.before, (cause, l.same, l.keeps)), store_refusal s s' refused cause)
      go (Some p) (Insert v) l r = absurd (some_no_insert post t p v l.says aborting)
      go (Some p) Remove l r = absurd (some_no_remove post t p l.says aborting)
      go None Remove l r = absurd (making_no_remove post makes l.says making)
      go held (Abort u) l r = absurd r
