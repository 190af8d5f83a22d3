-- The results of the calls that store a value only under a condition, by the results that their
-- rule may return.
use Rattle.std.proofs.Common.{◌≡◌, ◌⊎◌, inl, inr, ⊎_elim, Bool, MatchOption, Option, None, Some}
use Rattle.std.proofs.Common.{Result, Ok, Err, List, [], ◌∷◌, option_map, refl, sym, ap, ◌∙◌, subst}
use denote.Bor.{Bor}
use Rattle.papaya_words.specs.declared.refused.Refused.{Refused as Cause}
use Rattle.papaya_call.specs.declared.answers.Operation.{Operation}
use Rattle.papaya_call.specs.declared.answers.Operation.TheVariants as operation
use Rattle.papaya_map_book.specs.Logs.{Member, Stored}
use Rattle.papaya_map_lookup.specs.History.{Change, key_of}
use Rattle.papaya_map_change.specs.Changes.{IsChangeOf}
use Rattle.papaya_map_change.specs.ClosureCalls.{HasNoNone, HasReturned, IsNoneOnce, IsSamePair, WasHeld, WasLast}
use Rattle.papaya_map_change.specs.Writing.{IsMemoryCapacityOrLimit}
use Rattle.papaya_map_change.proofs.ClosureCalls.{said_so, shown_each}
use Rattle.papaya_map_compute.specs.Computing.{value_in}
use Rattle.papaya_map_compute.specs.Deciding.{IsDecided, IsDecidedOf, Wishes}
use Rattle.papaya_map_compute.specs.declared.deciding.Decided.{Decided}
use Rattle.papaya_map_compute.specs.declared.deciding.Decided.TheVariants.{Put, Replaced, Left}
use Rattle.papaya_map_compute.specs.declared.rules.Giving.{Giving}
use Rattle.papaya_map_compute.specs.declared.rules.Updating.{Updating}
use Rattle.papaya_map_compute.specs.declared.rules.Upserting.{Upserting}
use Rattle.papaya_map_compute.specs.Rules.{Gives, IsGiven, Updates, Upserts}
use Rattle.papaya_map_compute.specs.declared.rules.Ready.{Ready}
use Rattle.papaya_words_keys.specs.declared.results.NotInserted.{NotInserted}
use Rattle.papaya_words_keys.specs.declared.results.NotInserted.TheVariants.{Value, Logged}
use Rattle.papaya_map.specs.Storing.{IsBack, IsCurrent, IsInPlace, IsStored}
use Rattle.papaya_map_compute.proofs.ComputeShows.{none_unsaid}

-- the result of a rule
abbrev pub Wish : Type 0 → Type 0
Wish V = Operation V (Unit {0})

-- the last argument is one of the arguments
last_member : {X A : Type 0} (x : X) (a : A) (heard : List (X × A)) → WasLast x a heard → Member (x, a) heard
last_member x a [] last = absurd last
last_member x a (said ∷ before) last = inl (sym last)

-- the rule was called with no entry, or it was not
none_or : {P A : Type 0} (heard : List (Option P × A)) → HasNoNone heard ⊎ ((a : A) × Member (None, a) heard)
none_or [] = inl tt
none_or ((None, a) ∷ before) = inr (a, inl refl)
none_or ((Some p, a) ∷ before) = ⊎_elim (λ none. inl none) (λ m. inr (m.0, inr m.1)) (none_or before)

stored_of : {V : Type 0} (w v : V) → Some w ≡ Some v → ◌≡◌ {A = Wish V} (operation.Insert w) (operation.Insert v)
stored_of w v e = let same : w ≡ v = cc e in ap (λ z. operation.Insert z) same

-- A rule that returns the value to store if the key has none, and takes it from a supply that it
-- has until then.
module _ {K V F G : Type 0} (says : F → Option (Stored K V) → Wish V → F → Type 0) (gives : G → V → Type 0) (supply : F → Option G)
    (keeps : (f g : F) (p : Stored K V) (op : Wish V) → says f (Some p) op g → supply g ≡ supply f)
    (spends : (f g : F) (op : Wish V) (s : G) → supply f ≡ Some s → says f None op g → (supply g ≡ None)
    × ((v : V) × gives s v × (op ≡ operation.Insert v))) where
  unasked : (f g : F) (heard : List (Option (Stored K V) × Wish V)) → HasReturned says f heard g → HasNoNone heard → supply g ≡ supply f
  unasked f g [] has none = ap supply has
  unasked f g ((None, op) ∷ before) has none = absurd none
  unasked f g ((Some p, op) ∷ before) has none = keeps has.0 g p op has.2 ∙ unasked f has.0 before has.1 none

  asked_once : (f g : F) (s : G) → supply f ≡ Some s → (heard : List (Option (Stored K V) × Wish V)) → HasReturned says f heard g → IsNoneOnce heard
      → (op : Wish V) → Member (None, op) heard → (supply g ≡ None) × ((v : V) × gives s v × (op ≡ operation.Insert v))
  asked_once f g s has_s [] has once op m = absurd m
  asked_once f g s has_s ((None, done) ∷ before) has once op (inl e) =
      let first = unasked f has.0 before has.1 once in
      let same : op ≡ done = ap (λ z. z.1) e in
      let h = spends has.0 g done s (first ∙ has_s) has.2 in (h.0, (h.1.0, h.1.1, same ∙ h.1.2))
  asked_once f g s has_s ((None, done) ∷ before) has once op (inr m) = absurd (none_unsaid before once op m)
  asked_once f g s has_s ((Some p, done) ∷ before) has once op (inl e) = let none : None ≡ Some p = ap (λ z. z.0) e in absurd (cc none)
  asked_once f g s has_s ((Some p, done) ∷ before) has once op (inr m) = let h = asked_once f has.0 s has_s before has.1 once op m in
      (keeps has.0 g p done has.2 ∙ h.0, h.1)

module _ {V G : Type 0} (gives : G → V → Type 0) where
  -- a supply that is there yields the value returned
  given : (s : G) (o : Option G) → o ≡ Some s → (v : V) → IsGiven gives o (Some v) → (w : V) × gives s w
      × ◌≡◌ {A = Wish V} (operation.Insert v) (operation.Insert w)
  given s o is v h = let m = subst (λ z. IsGiven gives z (Some v)) is h in (m.0, m.1, stored_of v m.0 m.2)

  ungiven : (s : G) (o : Option G) → o ≡ Some s → IsGiven gives o None → ⊥
  ungiven s o is h = let m = subst (λ z. IsGiven gives z None) is h in let e = m.2 in cc e

module _ (K : Type 0) {V G : Type 0} (gives : G → V → Type 0) where
  abbrev GiveSays : Giving G → Option (Stored K V) → Wish V → Giving G → Type 0
  GiveSays = Wishes (Gives gives)

  give_keeps : (f g : Giving G) (p : Stored K V) (op : Wish V) → GiveSays f (Some p) op g → g.supply ≡ f.supply
  give_keeps f g p (operation.Insert v) h = ap (λ z. z.supply) h.0
  give_keeps f g p operation.Remove h = absurd h
  give_keeps f g p (operation.Abort t) h = ap (λ z. z.supply) h.0

  give_spends : (f g : Giving G) (op : Wish V) (s : G) → f.supply ≡ Some s → GiveSays f None op g → (g.supply ≡ None)
      × ((v : V) × gives s v × (op ≡ operation.Insert v))
  give_spends f g (operation.Insert v) s is h = (h.0, given gives s f.supply is v h.1)
  give_spends f g operation.Remove s is h = absurd h
  give_spends f g (operation.Abort t) s is h = absurd (ungiven gives s f.supply is h.1)

  -- it never replaces a value
  abbrev NoReplacing : Option (Stored K V) → Wish V → Type 0
  NoReplacing (Some p) (operation.Insert v) = ⊥
  NoReplacing _ _ = Unit {0}

  give_leaves : (f : Giving G) (x : Option (Stored K V)) (op : Wish V) (g : Giving G) → Unit {0} → GiveSays f x op g → NoReplacing x op × Unit {0}
  give_leaves f None op g is h = (tt, tt)
  give_leaves f (Some p) (operation.Insert v) g is h = let e = h.1 in absurd (cc e)
  give_leaves f (Some p) operation.Remove g is h = (tt, tt)
  give_leaves f (Some p) (operation.Abort t) g is h = (tt, tt)

  module _ (eq : K → K → Bool) (key : K) (old new : List (Change K (Stored K V))) (first left : Giving G) (s : G) (has : first.supply ≡ Some s)
      (answer : Result (Decided V) Cause) (d : IsDecided eq key old new (Gives gives) first left answer) where
    once : (op : Wish V) → Member (None, op) d.heard → (left.supply ≡ None) × ((v : V) × gives s v × (op ≡ operation.Insert v))
    once op m = asked_once GiveSays gives (λ z. z.supply) give_keeps give_spends first left s has d.heard d.has_said d.done.none_once op m

    decided_as : (a : Result (Decided V) Cause) → answer ≡ a → IsDecidedOf eq key old new d.heard a
    decided_as a is = subst (IsDecidedOf eq key old new d.heard) is d.done.decided

    -- it was stored
    pub give_put : (v : Bor V) → answer ≡ Ok (Put v) → IsStored eq key old new (gives s) v
    give_put v is =
        let h = decided_as (Ok (Put v)) is in
        let o = (once (operation.Insert h.0.value.value) h.3).1 in
        let same : h.0.value.value ≡ o.0 = let e = o.2 in cc e in
        (h.0, h.1, h.2, subst (gives s) (sym same) o.1, h.4)

    pub give_replaced : (v : Bor V) → answer ≡ Ok (Replaced v) → ⊥
    give_replaced v is =
        let h = decided_as (Ok (Replaced v)) is in
        said_so GiveSays (λ z. Unit {0}) NoReplacing give_leaves first tt d.heard left d.has_said (Some h.4.0) (operation.Insert h.1.value.value) h.4.2

    module _ (current spare : Option (Bor V)) (is : answer ≡ Ok (Left current spare)) where
      lefts : IsDecidedOf eq key old new d.heard (Ok (Left current spare))
      lefts = decided_as (Ok (Left current spare)) is

      was_there : (held : Option (Stored K V)) → WasLast held (operation.Abort tt) d.heard → option_map (λ v. v.now) current ≡ value_in held
          → (r : Bor V) × (current ≡ Some r) × IsCurrent eq key old new r
      was_there None last same = let o = (once (operation.Abort tt) (last_member None (operation.Abort tt) d.heard last)).1 in let e = o.2 in absurd (cc e)
      was_there (Some p) last same = by_current current same
        where
          by_current : (o : Option (Bor V)) → option_map (λ v. v.now) o ≡ value_in (Some p) → (r : Bor V) × (o ≡ Some r) × IsCurrent eq key old new r
          by_current None e = absurd (cc e)
          by_current (Some r) e = (
            r,
            refl,
            (
              p,
              shown_each (WasHeld eq (eq key) old new) d.heard d.done.held (Some p) (operation.Abort tt)
                  (last_member (Some p) (operation.Abort tt) d.heard last),
              let v : r.now ≡ p.value.value = cc e in v,
            ),
          )

      -- the key had a value
      pub give_current : (r : Bor V) × (current ≡ Some r) × IsCurrent eq key old new r
      give_current = was_there lefts.0 lefts.1 lefts.2

      -- the supply is as it was, or the value that it gave is stored in the arena, as `spare`
      pub give_back : (left.supply ≡ Some s) ⊎ ((left.supply ≡ None) × ((r : Bor V) × (spare ≡ Some r) × gives s r.now))
      give_back = ⊎_elim
          (λ none. inl (unasked GiveSays gives (λ z. z.supply) give_keeps give_spends first left d.heard d.has_said none ∙ has))
          (λ m.
          let o = once m.0 m.1 in
          let r = lefts.3 o.1.0 (subst (λ (z : Wish V). Member (None, z) d.heard) o.1.2 m.1) in
          inr (o.0, (r.0, r.1, subst (gives s) (sym r.2) o.1.1)))
          (none_or d.heard)

    pub give_refused : (cause : Cause) → answer ≡ Err cause → IsMemoryCapacityOrLimit cause
    give_refused cause is = decided_as (Err cause) is

-- an entry took the place of another, with the value computed from the entry that the rule was
-- called with
in_place : {K V F : Type 0} (eq : K → K → Bool) (key : K) (old new : List (Change K (Stored K V))) (computes : F → V → V → Type 0) (f : F)
    (p q shown : Stored K V) → IsSamePair shown p → (w : V) × computes f shown.value.value w
    × ◌≡◌ {A = Wish V} (operation.Insert q.value.value) (operation.Insert w) → IsChangeOf (eq key) old new (Some p) (Some q) → key_of q ≡ key_of p
    → (v : Bor V) → v.now ≡ q.value.value → IsInPlace eq key old new (computes f) v
in_place eq key old new computes f p q shown same said change own v is =
    let value : q.value.value ≡ said.0 = let e = said.2 in cc e in
    (p, q, change, own, subst (λ z. computes f z q.value.value) (ap (λ z. z.value) same.1) (subst (computes f shown.value.value) (sym value) said.1), is)

module _ (K : Type 0) {V F : Type 0} (computes : F → V → V → Type 0) where
  abbrev UpdateSays : Updating F → Option (Stored K V) → Wish V → Updating F → Type 0
  UpdateSays = Wishes (Updates computes)

  -- it replaces a value by one that it computes from it, and stores nothing else
  abbrev Computed : F → Option (Stored K V) → Wish V → Type 0
  Computed f None op = op ≡ operation.Abort tt
  Computed f (Some p) op = (w : V) × computes f p.value.value w × (op ≡ operation.Insert w)

  update_says : (first f : Updating F) (x : Option (Stored K V)) (op : Wish V) (g : Updating F) → f ≡ first → UpdateSays f x op g
      → Computed first.update x op × (g ≡ first)
  update_says first f None (operation.Insert v) g is h = let e = h.1 in absurd (cc e)
  update_says first f None operation.Remove g is h = absurd h
  update_says first f None (operation.Abort tt) g is h = (refl, h.0 ∙ is)
  update_says first f (Some p) (operation.Insert v) g is
      h = ((h.1.0, subst (λ (z : Updating F). computes z.update p.value.value h.1.0) is h.1.1, stored_of v h.1.0 h.1.2), h.0 ∙ is)
  update_says first f (Some p) operation.Remove g is h = absurd h
  update_says first f (Some p) (operation.Abort t) g is h = let e = h.1.2 in absurd (cc e)

  module _ (eq : K → K → Bool) (key : K) (old new : List (Change K (Stored K V))) (first left : Updating F) (answer : Result (Decided V) Cause)
      (d : IsDecided eq key old new (Updates computes) first left answer) where
    computed : (x : Option (Stored K V)) (op : Wish V) → Member (x, op) d.heard → Computed first.update x op
    computed x op m = said_so UpdateSays (λ f. f ≡ first) (Computed first.update) (update_says first) first refl d.heard left d.has_said x op m

    update_as : (a : Result (Decided V) Cause) → answer ≡ a → IsDecidedOf eq key old new d.heard a
    update_as a is = subst (IsDecidedOf eq key old new d.heard) is d.done.decided

    pub update_put : (v : Bor V) → answer ≡ Ok (Put v) → ⊥
    update_put v is = let h = update_as (Ok (Put v)) is in let e = computed None (operation.Insert h.0.value.value) h.3 in cc e

    pub update_replaced : (v : Bor V) → answer ≡ Ok (Replaced v) → IsInPlace eq key old new (computes first.update) v
    update_replaced v is =
        let h = update_as (Ok (Replaced v)) is in
        in_place eq key old new computes first.update h.0 h.1 h.4.0 h.4.1 (computed (Some h.4.0) (operation.Insert h.1.value.value) h.4.2) h.2 h.3 v h.5

    pub update_left : (current spare : Option (Bor V)) → answer ≡ Ok (Left current spare) → WasHeld eq (eq key) old new None
    update_left current spare is =
        let h = update_as (Ok (Left current spare)) is in
        let member = last_member h.0 (operation.Abort tt) d.heard h.1 in
        held_none h.0 (computed h.0 (operation.Abort tt) member) (shown_each (WasHeld eq (eq key) old new) d.heard d.done.held h.0 (operation.Abort tt) member)
      where
        held_none : (held : Option (Stored K V)) → Computed first.update held (operation.Abort tt) → WasHeld eq (eq key) old new held
            → WasHeld eq (eq key) old new None
        held_none None said was = was
        held_none (Some p) said was = let e = said.2 in absurd (cc e)

    pub update_refused : (cause : Cause) → answer ≡ Err cause → IsMemoryCapacityOrLimit cause
    update_refused cause is = update_as (Err cause) is

module _ (K : Type 0) {V F G : Type 0} (computes : F → V → V → Type 0) (gives : G → V → Type 0) where
  abbrev UpsertSays : Upserting F G → Option (Stored K V) → Wish V → Upserting F G → Type 0
  UpsertSays = Wishes (Upserts computes gives)

  upsert_keeps : (f g : Upserting F G) (p : Stored K V) (op : Wish V) → UpsertSays f (Some p) op g → g.supply ≡ f.supply
  upsert_keeps f g p (operation.Insert v) h = h.1
  upsert_keeps f g p operation.Remove h = absurd h
  upsert_keeps f g p (operation.Abort t) h = h.1

  upsert_spends : (f g : Upserting F G) (op : Wish V) (s : G) → f.supply ≡ Some s → UpsertSays f None op g → (g.supply ≡ None)
      × ((v : V) × gives s v × (op ≡ operation.Insert v))
  upsert_spends f g (operation.Insert v) s is h = (h.1, given gives s f.supply is v h.2)
  upsert_spends f g operation.Remove s is h = absurd h
  upsert_spends f g (operation.Abort t) s is h = absurd (ungiven gives s f.supply is h.2)

  -- it replaces a value by one that it computes from it
  abbrev Replaces : F → Option (Stored K V) → Wish V → Type 0
  Replaces f None op = Unit {0}
  Replaces f (Some p) op = (w : V) × computes f p.value.value w × (op ≡ operation.Insert w)

  upsert_says : (first f : Upserting F G) (x : Option (Stored K V)) (op : Wish V) (g : Upserting F G) → f.update ≡ first.update → UpsertSays f x op g
      → Replaces first.update x op × (g.update ≡ first.update)
  upsert_says first f None (operation.Insert v) g is h = (tt, h.0 ∙ is)
  upsert_says first f None operation.Remove g is h = absurd h
  upsert_says first f None (operation.Abort t) g is h = (tt, h.0 ∙ is)
  upsert_says first f (Some p) (operation.Insert v) g is
      h = ((h.2.0, subst (λ (z : F). computes z p.value.value h.2.0) is h.2.1, stored_of v h.2.0 h.2.2), h.0 ∙ is)
  upsert_says first f (Some p) operation.Remove g is h = absurd h
  upsert_says first f (Some p) (operation.Abort t) g is h = let e = h.2.2 in absurd (cc e)

  module _ (eq : K → K → Bool) (key : K) (old new : List (Change K (Stored K V))) (first left : Upserting F G) (s : G) (has : first.supply ≡ Some s)
      (answer : Result (Decided V) Cause) (d : IsDecided eq key old new (Upserts computes gives) first left answer) where
    upserted_once : (op : Wish V) → Member (None, op) d.heard → (left.supply ≡ None) × ((v : V) × gives s v × (op ≡ operation.Insert v))
    upserted_once op m = asked_once UpsertSays gives (λ z. z.supply) upsert_keeps upsert_spends first left s has d.heard d.has_said d.done.none_once op m

    replaces : (x : Option (Stored K V)) (op : Wish V) → Member (x, op) d.heard → Replaces first.update x op
    replaces x op m = said_so UpsertSays (λ f. f.update ≡ first.update) (Replaces first.update) (upsert_says first) first refl d.heard left d.has_said x op m

    upsert_as : (a : Result (Decided V) Cause) → answer ≡ a → IsDecidedOf eq key old new d.heard a
    upsert_as a is = subst (IsDecidedOf eq key old new d.heard) is d.done.decided

    pub upsert_put : (v : Bor V) → answer ≡ Ok (Put v) → IsStored eq key old new (gives s) v
    upsert_put v is =
        let h = upsert_as (Ok (Put v)) is in
        let o = (upserted_once (operation.Insert h.0.value.value) h.3).1 in
        let same : h.0.value.value ≡ o.0 = let e = o.2 in cc e in
        (h.0, h.1, h.2, subst (gives s) (sym same) o.1, h.4)

    pub upsert_replaced : (v : Bor V) → answer ≡ Ok (Replaced v) → IsInPlace eq key old new (computes first.update) v
    upsert_replaced v is =
        let h = upsert_as (Ok (Replaced v)) is in
        in_place eq key old new computes first.update h.0 h.1 h.4.0 h.4.1 (replaces (Some h.4.0) (operation.Insert h.1.value.value) h.4.2) h.2 h.3 v h.5

    -- it always stores a value
    pub upsert_left : (current spare : Option (Bor V)) → answer ≡ Ok (Left current spare) → ⊥
    upsert_left current spare is =
        let h = upsert_as (Ok (Left current spare)) is in
        never h.0 (last_member h.0 (operation.Abort tt) d.heard h.1)
      where
        never : (held : Option (Stored K V)) → Member (held, operation.Abort tt) d.heard → ⊥
        never None m = let o = (upserted_once (operation.Abort tt) m).1 in let e = o.2 in cc e
        never (Some p) m = let o = replaces (Some p) (operation.Abort tt) m in let e = o.2 in cc e

    pub upsert_refused : (cause : Cause) → answer ≡ Err cause → IsMemoryCapacityOrLimit cause
    upsert_refused cause is = upsert_as (Err cause) is

-- the value that was passed in, after the call
module _ {V : Type 0} (value : V) (supply : Option (Ready V)) (spare : Option (Bor V))
    (back : (supply ≡ Some (record { value = value })) ⊎ ((supply ≡ None) × ((r : Bor V) × (spare ≡ Some r) × (r.now ≡ value)))) where
  pub spare_there : supply ≡ None → MatchOption spare ⊥ (λ r. Unit {0})
  spare_there none = ⊎_elim (λ is. let e = sym none ∙ is in absurd (cc e)) (λ h. subst (λ z. MatchOption z ⊥ (λ r. Unit {0})) (sym h.1.1) tt) back

  pub back_is : (result : NotInserted V) → MatchOption supply (MatchOption spare ⊥ (λ r. result ≡ Logged r)) (λ s. result ≡ Value s.value) → IsBack value result
  back_is result said = ⊎_elim
      (λ is. let e : result ≡ Value value = subst (λ z. MatchOption z (MatchOption spare ⊥ (λ r. result ≡ Logged r)) (λ s. result ≡ Value s.value)) is
      said in subst (IsBack value) (sym e) refl)
      (λ h.
      let lost = subst (λ z. MatchOption z (MatchOption spare ⊥ (λ r. result ≡ Logged r)) (λ s. result ≡ Value s.value)) h.0 said in
      let e : result ≡ Logged h.1.0 = subst (λ z. MatchOption z ⊥ (λ r. result ≡ Logged r)) h.1.1 lost in
      subst (IsBack value) (sym e) h.1.2)
      back
