-- The effect of a compute on the map, by its result.
use Rattle.std.proofs.Common.{◌≡◌, ◌⊎◌, inl, inr, ℕ, Bool, Option, Some, None, Result, Ok, Err, refl, sym, ◌∙◌, ap, subst}
use denote.Ref.{Bor}
use Rattle.std.specs.Cmp.{IsEquivalence}
use Rattle.papaya_words.specs.declared.refused.Refused.{Refused}
use Rattle.papaya_words.specs.declared.refused.Refused.TheVariants.{RemoveNothing}
use Rattle.papaya_call.specs.declared.answers.Operation.{Operation}
use Rattle.papaya_call.specs.declared.answers.Operation.TheVariants.{Insert, Remove, Abort}
use Rattle.papaya_core_timeline.specs.Content.{map_in}
use Rattle.papaya_core_timeline.specs.Maps.{IsUpdate}
use Rattle.papaya_core_store.specs.Store.{Stored, pair_of}
use Rattle.papaya_call.specs.declared.call.Reply.{Reply}
use Rattle.papaya_call.specs.declared.call.Reply.TheVariants as replies
use Rattle.papaya_call.specs.declared.call.Reply.TheVariants.{Refused as Refused_reply}
use Rattle.papaya_seq.specs.Answered.{IsParted}
use Rattle.papaya_seq.specs.Computing.{IsComputed}
use Rattle.papaya_seq.specs.Computes.{Computes, ComputesBy, IsComputeRefusal, IsNew, IsRefusedFirst, Operates, Says, answer_map}
use Rattle.papaya_seq.specs.Map.{Inserts, IsResizing, IsWriteCauseAt, KeepsAndGrows, MapState, Unchanged, deref_pair, entry_of, kept_key, value_of}
use Rattle.papaya_words_keys.specs.declared.results.Computed.{Computed}
use Rattle.papaya_words_keys.specs.declared.results.Computed.TheVariants.{Inserted, Updated, Removed, Aborted}
use Rattle.papaya_seq.proofs.Answered.{logged_there, update_leaves}

module _ {K V T : Type 0} (post : Option (Bor K × Bor V) → Operation V T → Type 0) where
  -- a result of a closure for a pair is a result for references to it
  pub said_some : (P : V → Type 0) (p : Stored K V) (o : Operation V T) → Says post (Some p) o → ((q : Bor K × Bor V) → post (Some q) o → P q.1.now) → P p.value
  said_some P p o (Some q, are, said) law =
      let e : deref_pair q ≡ entry_of p = cc in
      let v : q.1.now ≡ p.value = ap (λ (y : K × V). y.1) e in
      subst P v (law q said)
  said_some P p o (None, are, said) law = let f : None ≡ Some (entry_of p) = are in absurd cc

  -- a result for an absent entry is a result for `None`
  pub said_none : (o : Operation V T) → Says post None o → post None o
  said_none o (None, are, said) = said
  said_none o (Some q, are, said) = let f : Some (deref_pair q) ≡ None = are in absurd cc

module _ {K V S T : Type 0} (post : Option (Bor K × Bor V) → Operation V T → Type 0) (eq : K → K → Bool) (law : IsEquivalence eq) (k : K)
    (s s' : MapState K V S) where
  -- the class of the key had `held`, and has this value now, which the closure returned
  pub record StoresValue (held : Option (Stored K V)) (v : V) : Type 0 where
    pub before : map_in eq s.store k ≡ held
    pub says : Says post held (Insert v)
    pub inserts : Inserts eq k v s.store (value_of held) s'.store
    pub keeps : KeepsAndGrows s s'

  -- and has this pair
  pub record StoresPair (held : Option (Stored K V)) (n : ℕ) : Type 0 where
    pub pair : Stored K V
    pub logged : pair_of s'.store n ≡ Some pair
    pub stores : StoresValue held pair.value

  -- the map is as it was, and the closure returned this
  pub record Leaves (held : Option (Stored K V)) (operation : Operation V T) : Type 0 where
    pub before : map_in eq s.store k ≡ held
    pub says : Says post held operation
    pub same : Unchanged eq s.store s'.store
    pub keeps : KeepsAndGrows s s'

  -- the pair that the class had, by its number in the arena
  pub record Held (p : Stored K V) (n : ℕ) : Type 0 where
    pub there : map_in eq s.store k ≡ Some p
    pub logged : pair_of s.store n ≡ Some p

  -- the refusals of the closure's result, if the class had `held`
  abbrev pub Refuses : Option (Stored K V) → Operation V T → Refused → Type 0
  Refuses held (Insert v) refused = IsWriteCauseAt s held refused s'
  Refuses held Remove refused = refused ≡ RemoveNothing
  Refuses held (Abort t) refused = ⊥

  -- the closure's result was refused
  pub record IsRefused (refused : Refused) : Type 0 where
    pub held : Option (Stored K V)
    pub operation : Operation V T
    pub leaves : Leaves held operation
    pub refuses : Refuses held operation refused

  -- the call was refused before its closure was called
  abbrev pub IsFirst : Refused → Type 0
  IsFirst refused = IsResizing s × IsComputeRefusal eq s refused s'

  -- the facts of each result
  abbrev pub Facts : Result (Computed ℕ T) Refused → Type 0
  Facts (Ok (Inserted n)) = StoresPair None n
  Facts (Ok (Updated m n)) = (p : Stored K V) × Held p m × StoresPair (Some p) n
  Facts (Ok (Removed m)) = (p : Stored K V) × Held p m × Says post (Some p) Remove × KeepsAndGrows s s'
  Facts (Ok (Aborted t)) = (held : Option (Stored K V)) × Leaves held (Abort t)
  Facts (Err refused) = IsRefused refused ⊎ IsFirst refused

  -- each pair of the result is in the arena
  abbrev pub Logged : Result (Computed (Stored K V) T) Refused → Type 0
  Logged (Ok (Inserted q)) = pair_of s'.store q.number ≡ Some q
  Logged (Ok (Updated p q)) = (pair_of s'.store p.number ≡ Some p) × (pair_of s'.store q.number ≡ Some q)
  Logged (Ok (Removed p)) = pair_of s'.store p.number ≡ Some p
  Logged (Ok (Aborted t)) = Unit {0}
  Logged (Err refused) = Unit {0}

  -- a new pair was stored
  stored : (held next : Option (Stored K V)) (v : V) (q : Stored K V) → Says post held (Insert v) → IsNew (kept_key k held) v s.store s'.store q
      → next ≡ Some q → IsUpdate eq k held next (map_in eq s.store) (map_in eq s'.store) → KeepsAndGrows s s' → StoresPair held q.number
  stored held next v q says new comes u keeps =
      let update : IsUpdate eq k held (Some q) (map_in eq s.store)
      (map_in eq s'.store) = subst (λ (o : Option (Stored K V)). IsUpdate eq k held o (map_in eq s.store) (map_in eq s'.store)) comes u in
      let said : Says post held (Insert q.value) = subst (λ (w : V). Says post held (Insert w)) (sym new.value) says in
      record {
        pair = q;
        logged = new.logged;
        stores = record {
          before = u.before;
          says = said;
          inserts = record { old = held; old_is = refl; new = q; key = new.key; value = refl; fresh = new.fresh; update = update };
          keeps = keeps;
        };
      }

  -- nothing was stored
  leaves : (held next : Option (Stored K V)) (o : Operation V T) → Says post held o → next ≡ held
      → IsUpdate eq k held next (map_in eq s.store) (map_in eq s'.store) → KeepsAndGrows s s' → Leaves held o
  leaves held next o says is u keeps =
      let update : IsUpdate eq k held held (map_in eq s.store)
      (map_in eq s'.store) = subst (λ (o : Option (Stored K V)). IsUpdate eq k held o (map_in eq s.store) (map_in eq s'.store)) is u in
      record { before = u.before; says = says; same = update_leaves eq law s.store s'.store k held update; keeps = keeps }

  -- the pair of before is in the arena under its number
  held_by : (p : Stored K V) → map_in eq s.store k ≡ Some p → Held p p.number
  held_by p there = record { there = there; logged = logged_there eq law s.store k p.number p there refl }

  facts : (done : Result (Computed (Stored K V) T) Refused) (held : Option (Stored K V)) (o : Operation V T) (next : Option (Stored K V))
      → Says post held o → Operates k s s' held o done next → IsUpdate eq k held next (map_in eq s.store) (map_in eq s'.store) → KeepsAndGrows s s'
      → Facts (answer_map (λ p. p.number) done) × Logged done
  facts (Ok (Inserted q)) None (Insert v) next says does u keeps = (stored None next v q says does.0 does.1 u keeps, does.0.logged)
  facts (Ok (Updated old q)) (Some p) (Insert v) next says does u keeps =
      let same : p ≡ old = sym does.0 in
      let held = held_by p u.before in
      subst (λ (y : Stored K V). Facts (Ok (Updated y.number q.number)) × Logged (Ok (Updated y q))) same
      ((p, held, stored (Some p) next v q says does.1 does.2 u keeps), (keeps.0.pairs p.number p held.logged, does.1.logged))
  facts (Ok (Removed old)) (Some p) Remove next says does u keeps =
      let same : p ≡ old = sym does.0 in
      let held = held_by p u.before in
      subst (λ (y : Stored K V). Facts (Ok (Removed y.number)) × Logged (Ok (Removed y))) same ((p, held, says, keeps), keeps.0.pairs p.number p held.logged)
  facts (Ok (Aborted t)) None (Abort u') next says does u keeps =
      (subst (λ (y : T). Facts (Ok (Aborted y))) (sym does.0) (None, leaves None next (Abort u') says does.1 u keeps), tt)
  facts (Ok (Aborted t)) (Some p) (Abort u') next says does u keeps =
      (subst (λ (y : T). Facts (Ok (Aborted y))) (sym does.0) (Some p, leaves (Some p) next (Abort u') says does.1 u keeps), tt)
  facts (Err refused) None (Insert v) next says does u
      keeps = (inl (record { held = None; operation = Insert v; leaves = leaves None next (Insert v) says does.1 u keeps; refuses = does.0 }), tt)
  facts (Err refused) (Some p) (Insert v) next says does u
      keeps = (inl (record { held = Some p; operation = Insert v; leaves = leaves (Some p) next (Insert v) says does.1 u keeps; refuses = does.0 }), tt)
  facts (Err refused) None Remove next says does u
      keeps = (inl (record { held = None; operation = Remove; leaves = leaves None next Remove says does.1 u keeps; refuses = does.0 }), tt)
  facts (Ok (Inserted q)) (Some p) (Insert v) next says does u keeps = absurd does
  facts (Ok (Inserted q)) None Remove next says does u keeps = absurd does
  facts (Ok (Inserted q)) (Some p) Remove next says does u keeps = absurd does
  facts (Ok (Inserted q)) None (Abort t) next says does u keeps = absurd does
  facts (Ok (Inserted q)) (Some p) (Abort t) next says does u keeps = absurd does
  facts (Ok (Updated old q)) None (Insert v) next says does u keeps = absurd does
  facts (Ok (Updated old q)) None Remove next says does u keeps = absurd does
  facts (Ok (Updated old q)) (Some p) Remove next says does u keeps = absurd does
  facts (Ok (Updated old q)) None (Abort t) next says does u keeps = absurd does
  facts (Ok (Updated old q)) (Some p) (Abort t) next says does u keeps = absurd does
  facts (Ok (Removed old)) None (Insert v) next says does u keeps = absurd does
  facts (Ok (Removed old)) (Some p) (Insert v) next says does u keeps = absurd does
  facts (Ok (Removed old)) None Remove next says does u keeps = absurd does
  facts (Ok (Removed old)) None (Abort t) next says does u keeps = absurd does
  facts (Ok (Removed old)) (Some p) (Abort t) next says does u keeps = absurd does
  facts (Ok (Aborted t)) None (Insert v) next says does u keeps = absurd does
  facts (Ok (Aborted t)) (Some p) (Insert v) next says does u keeps = absurd does
  facts (Ok (Aborted t)) None Remove next says does u keeps = absurd does
  facts (Ok (Aborted t)) (Some p) Remove next says does u keeps = absurd does
  facts (Err refused) (Some p) Remove next says does u keeps = absurd does
  facts (Err refused) None (Abort t) next says does u keeps = absurd does
  facts (Err refused) (Some p) (Abort t) next says does u keeps = absurd does

  -- so does one that was refused before its closure was called
  facts_first : (done : Result (Computed (Stored K V) T) Refused) → IsRefusedFirst eq k s done s' → Facts (answer_map (λ p. p.number) done) × Logged done
  facts_first done (resizing, (refused, is, refusal)) =
      subst (λ (d : Result (Computed (Stored K V) T) Refused). Facts (answer_map (λ p. p.number) d) × Logged d) (sym is) (inr (resizing, refusal), tt)

  facts_all : (done : Result (Computed (Stored K V) T) Refused) → Computes eq k (Says post) s done s' → Facts (answer_map (λ p. p.number) done) × Logged done
  facts_all done (inl c) = facts done c.held c.operation c.next c.answered c.operates c.update c.keeps
  facts_all done (inr first) = facts_first done first

  -- the facts of a compute's result that is known to be this one
  pub facts_of : (result answer : Result (Computed ℕ T) Refused) → result ≡ answer → ComputesBy eq k (λ p. p.number) (Says post) s result s' → Facts answer
  facts_of result answer is (done, names, c) =
      subst (λ (a : Result (Computed ℕ T) Refused). Facts a) (sym names ∙ is) (facts_all done c).0

  -- the value in the entry of the stored pair is the one that was stored
  pub value_stored : (held : Option (Stored K V)) (n : ℕ) (w : V) → StoresPair held n → ((p : Stored K V) → pair_of s'.store n ≡ Some p → w ≡ p.value)
      → StoresValue held w
  value_stored held n w stores shows = subst (λ (v : V). StoresValue held v) (sym (shows stores.pair stores.logged)) stores.stores

  -- the entry of a pair that is in the arena
  abbrev pub IsEntry : ℕ → K × V → Type 0
  IsEntry n e = pair_of s'.store n ≡ Some (record { number = n; key = e.0; value = e.1 })

  -- the same result with entries in the place of numbers
  abbrev pub Shows : Result (Computed ℕ T) Refused → Result (Computed (K × V) T) Refused → Type 0
  Shows (Ok (Inserted n)) (Ok (Inserted e)) = IsEntry n e
  Shows (Ok (Updated m n)) (Ok (Updated d e)) = IsEntry m d × IsEntry n e
  Shows (Ok (Removed m)) (Ok (Removed d)) = IsEntry m d
  Shows (Ok (Aborted t)) (Ok (Aborted u)) = t ≡ u
  Shows (Err refused) (Err e) = refused ≡ e
  Shows _ _ = ⊥

  entry_shown : (q : Stored K V) (e : K × V) → pair_of s'.store q.number ≡ Some q → IsEntry q.number e → (e.0, e.1) ≡ entry_of q
  entry_shown q e logged is =
      let both : Some (record { number = q.number; key = e.0; value = e.1 }) ≡ Some q = sym is ∙ logged in
      let same : record { number = q.number; key = e.0; value = e.1 } ≡ q = cc both in
      ap entry_of same

  shown_as : (done : Result (Computed (Stored K V) T) Refused) (shown : Result (Computed (K × V) T) Refused) → Logged done
      → Shows (answer_map (λ p. p.number) done) shown → shown ≡ answer_map entry_of done
  shown_as (Ok (Inserted q)) (Ok (Inserted e)) l is = ap (λ (y : K × V). Ok (Inserted y)) (entry_shown q e l is)
  shown_as (Ok (Updated p q)) (Ok (Updated d e)) l is =
      ap (λ (y : K × V). Ok (Updated y e)) (entry_shown p d l.0 is.0) ∙ ap (λ (y : K × V). Ok (Updated (entry_of p) y)) (entry_shown q e l.1 is.1)
  shown_as (Ok (Removed p)) (Ok (Removed d)) l is = ap (λ (y : K × V). Ok (Removed y)) (entry_shown p d l is)
  shown_as (Ok (Aborted t)) (Ok (Aborted u)) l is = ap (λ (y : T). Ok (Aborted y)) (sym is)
  shown_as (Err refused) (Err e) l is = ap Err (sym is)
  shown_as (Ok (Inserted q)) (Ok (Updated d e)) l is = absurd is
  shown_as (Ok (Inserted q)) (Ok (Removed d)) l is = absurd is
  shown_as (Ok (Inserted q)) (Ok (Aborted u)) l is = absurd is
  shown_as (Ok (Inserted q)) (Err e) l is = absurd is
  shown_as (Ok (Updated p q)) (Ok (Inserted e)) l is = absurd is
  shown_as (Ok (Updated p q)) (Ok (Removed d)) l is = absurd is
  shown_as (Ok (Updated p q)) (Ok (Aborted u)) l is = absurd is
  shown_as (Ok (Updated p q)) (Err e) l is = absurd is
  shown_as (Ok (Removed p)) (Ok (Inserted e)) l is = absurd is
  shown_as (Ok (Removed p)) (Ok (Updated d e)) l is = absurd is
  shown_as (Ok (Removed p)) (Ok (Aborted u)) l is = absurd is
  shown_as (Ok (Removed p)) (Err e) l is = absurd is
  shown_as (Ok (Aborted t)) (Ok (Inserted e)) l is = absurd is
  shown_as (Ok (Aborted t)) (Ok (Updated d e)) l is = absurd is
  shown_as (Ok (Aborted t)) (Ok (Removed d)) l is = absurd is
  shown_as (Ok (Aborted t)) (Err e) l is = absurd is
  shown_as (Err refused) (Ok (Inserted e)) l is = absurd is
  shown_as (Err refused) (Ok (Updated d e)) l is = absurd is
  shown_as (Err refused) (Ok (Removed d)) l is = absurd is
  shown_as (Err refused) (Ok (Aborted u)) l is = absurd is

  -- a compute that returns the entries of its pairs
  pub computes_shown : (result named : Result (Computed ℕ T) Refused) (shown : Result (Computed (K × V) T) Refused) → result ≡ named
      → ComputesBy eq k (λ p. p.number) (Says post) s result s' → Shows named shown → ComputesBy eq k entry_of (Says post) s shown s'
  computes_shown result named shown is (done, names, c) shows =
      let logged = (facts_all done c).1 in
      let told : Shows (answer_map (λ p. p.number) done) shown = subst (λ (a : Result (Computed ℕ T) Refused). Shows a shown) (sym is ∙ names) shows in
      (done, shown_as done shown logged told, c)

-- the whole result, from its part for the caller and the value that is left
abbrev pub IsWhole : {R T : Type 0} → Result (Computed R (Unit {0})) Refused → Option T → Result (Computed R T) Refused → Type 0
IsWhole (Ok (Inserted q)) left answer = answer ≡ Ok (Inserted q)
IsWhole (Ok (Updated p q)) left answer = answer ≡ Ok (Updated p q)
IsWhole (Ok (Removed p)) left answer = answer ≡ Ok (Removed p)
IsWhole {T = T} (Ok (Aborted u)) left answer = (t : T) × (left ≡ Some t) × (answer ≡ Ok (Aborted t))
IsWhole (Err refused) left answer = answer ≡ Err refused

-- the two parts make the result whole
pub parted_whole : {R T : Type 0} (answer : Result (Computed R T) Refused) (shown known : Result (Computed R (Unit {0})) Refused) (left : Option T)
    → shown ≡ known → IsParted answer shown None left → IsWhole known left answer
parted_whole (Ok (Inserted q)) shown known left is (e, was) = subst (λ x. IsWhole x left (Ok (Inserted q))) (sym e ∙ is) refl
parted_whole (Ok (Updated p q)) shown known left is (e, was) = subst (λ x. IsWhole x left (Ok (Updated p q))) (sym e ∙ is) refl
parted_whole (Ok (Removed p)) shown known left is (e, was) = subst (λ x. IsWhole x left (Ok (Removed p))) (sym e ∙ is) refl
parted_whole (Ok (Aborted t)) shown known left is (e, was) = subst (λ x. IsWhole x left (Ok (Aborted t))) (sym e ∙ is) (t, was, refl)
parted_whole (Err refused) shown known left is (e, was) = subst (λ x. IsWhole x left (Err refused)) (sym e ∙ is) refl

-- a machine that was refused has this reply
pub told_refused : {T : Type 0} (reply : Reply) (aborted : Option T) (answer : Result (Computed ℕ T) Refused) → IsComputed reply aborted answer
    → (refused : Refused) → answer ≡ Err refused → reply ≡ Refused_reply refused
told_refused (Refused_reply other) aborted answer is refused e = let same : other ≡ refused = let f : Err other ≡ Err refused = sym is ∙ e in cc f in
    ap Refused_reply same
told_refused (replies.Aborted u) aborted answer (t, kept, is) refused e = let f : Ok (Aborted t) ≡ Err refused = sym is ∙ e in absurd cc
told_refused (replies.Inserted n) aborted answer is refused e = let f : Ok (Inserted n) ≡ Err refused = sym is ∙ e in absurd cc
told_refused (replies.Replaced m n) aborted answer is refused e = let f : Ok (Updated m n) ≡ Err refused = sym is ∙ e in absurd cc
told_refused (replies.Removed n) aborted answer is refused e = let f : Ok (Removed n) ≡ Err refused = sym is ∙ e in absurd cc
told_refused reply aborted answer is refused e = absurd is
