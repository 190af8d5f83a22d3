-- The outcome of a call that stores a value under a condition, by how its compute has ended.
use Rattle.std.proofs.Common.{◌≡◌, inl, ⊎_elim, Bool, Option, None, Some, Result, Ok, Err, List, [], ◌∷◌, append-nil, option_map, refl, sym, ap, subst}
use mathlib.Core.List.{IsPrefix}
use denote.Bor.{Bor}
use Rattle.papaya_words.specs.declared.refused.Refused.{Refused as Cause}
use Rattle.papaya_call.specs.declared.answers.Operation.{Operation}
use Rattle.papaya_call.specs.declared.answers.Operation.TheVariants as operation
use Rattle.papaya_words_keys.specs.declared.results.Compute.{Compute as Computed}
use Rattle.papaya_words_keys.specs.declared.results.Compute.TheVariants.{Inserted, Updated, Removed, Aborted}
use Rattle.papaya_map_book.specs.Logs.{Member, Stored}
use Rattle.papaya_map_lookup.specs.History.{Change}
use Rattle.papaya_map_change.specs.ClosureCalls.{AreRefsTo, HasReturned, WasHeld, WasLast}
use Rattle.papaya_map_change.proofs.ClosureCalls.{all_shown, held_wider, said_only}
use Rattle.papaya_map_compute.specs.ComputeAnswers.{IsOperated, changes}
use Rattle.papaya_map_compute.specs.Computing.{value_in}
use Rattle.papaya_map_compute.specs.Deciding.{AsksRule, HasNoRemoval, IsDecided, IsDecidedOf, Wishes, WishesOf, answer_of, puts}
use Rattle.papaya_map_compute.specs.Operating.{HasEnded, CallsClosure}
use Rattle.papaya_map_compute.specs.declared.deciding.Decided.{Decided}
use Rattle.papaya_map_compute.specs.declared.deciding.Decided.TheVariants.{Put, Replaced, Left}
use Rattle.papaya_map_compute.specs.declared.operating.Ended.{Ended}
use Rattle.papaya_map_compute.proofs.ComputeReplies.{change_since}
use Rattle.papaya_map_compute.proofs.FastPath.{once}

module _ {K V F : Type 0} (decides : F → Option V → Option V → F → Type 0) where
  -- the value behind the references to a pair
  shown_value : (shown : Option (Bor K × Bor V)) (held : Option (Stored K V)) → AreRefsTo shown held → option_map (λ e. e.1.now) shown ≡ value_in held
  shown_value None None are = refl
  shown_value (Some entry) (Some p) are = ap (λ v. Some v) are.1
  shown_value None (Some p) are = absurd are
  shown_value (Some entry) None are = absurd are

  wishes : (first : F) (heard : List (Option (Stored K V) × Operation V (Unit {0}))) (left : F) → HasReturned (CallsClosure (AsksRule decides)) first heard left
      → HasReturned (Wishes decides) first heard left
  wishes first [] left has = has
  wishes first ((held, done) ∷ before) left has = (
    has.0,
    wishes first before has.0 has.1,
    subst (λ v. WishesOf decides has.0 v done left) (shown_value has.2.0 held has.2.1) has.2.2,
  )

  -- a rule removes no pair
  none_removed : (first left : F) (heard : List (Option (Stored K V) × Operation V (Unit {0}))) → HasReturned (Wishes decides) first heard left
      → HasNoRemoval heard
  none_removed first left heard has held m = let e : operation.Remove ≡ operation.Remove
      → ⊥ = said_only (Wishes decides) (λ op. op ≡ operation.Remove → ⊥) stays first heard left has held operation.Remove m in e refl
    where
      stays : (f : _) (x : Option (Stored K V)) (op : Operation V (Unit {0})) (g : _) → Wishes decides f x op g → op ≡ operation.Remove → ⊥
      stays f x (operation.Insert v) g h e = cc e
      stays f x operation.Remove g h e = h
      stays f x (operation.Abort t) g h e = cc e

-- its compute failed with the same cause
pub refused_as : {K V : Type 0} (answer : Result (Computed K V (Unit {0})) Cause) (current spare : Option (Bor V)) (cause : Cause)
    → answer_of answer current spare ≡ Err cause → answer ≡ Err cause
refused_as (Ok (Inserted k v)) current spare cause e = absurd (cc e)
refused_as (Ok (Updated before after)) current spare cause e = absurd (cc e)
refused_as (Ok (Removed k v)) current spare cause e = absurd (cc e)
refused_as (Ok (Aborted t)) current spare cause e = absurd (cc e)
refused_as (Err other) current spare cause e = let same : other ≡ cause = cc e in ap (λ (z : Cause). Err z) same

module _ {K V F : Type 0} (eq : K → K → Bool) (key : K) (old new : List (Change K (Stored K V))) (decides : F → Option V → Option V → F → Type 0)
    (first left : F) (ended : Ended K V (Unit {0})) (h : HasEnded eq key old new (CallsClosure (AsksRule decides)) first left ended) where
  said : HasReturned (Wishes decides) first h.heard left
  said = wishes decides first h.heard left h.has_said

  removes : HasNoRemoval h.heard
  removes = none_removed decides first left h.heard said

  operated_as : (a : Result (Computed K V (Unit {0})) Cause) → ended.answer ≡ a → IsOperated eq key old new h.heard a
  operated_as a is = subst (IsOperated eq key old new h.heard) is h.replied.operated

  pub unremoved : (k : Bor K) (v : Bor V) → ended.answer ≡ Ok (Removed k v) → ⊥
  unremoved k v is = let o = operated_as (Ok (Removed k v)) is in removes (Some o.2.0) o.2.2

  last_in : (heard : List (Option (Stored K V) × Operation V (Unit {0}))) → WasLast None operation.Remove heard → Member (None, operation.Remove) heard
  last_in [] last = absurd last
  last_in (last ∷ before) is = inl (sym is)

  decided_of : (a : Result (Computed K V (Unit {0})) Cause) → ended.answer ≡ a
      → IsDecidedOf eq key old new h.heard (answer_of a ended.current ended.spare)
  decided_of (Ok (Inserted k v)) is = let o = operated_as (Ok (Inserted k v)) is in (o.0, o.1, o.2, o.3, o.4.1)
  decided_of (Ok (Updated before after)) is = let o = operated_as (Ok (Updated before after)) is in (o.0, o.1, o.2, o.3, o.4, o.6.1)
  decided_of (Ok (Removed k v)) is = absurd (unremoved k v is)
  decided_of (Ok (Aborted t)) is = h.is_left t is
  decided_of (Err cause) is = ⊎_elim (λ o. o) (λ o. absurd (removes None (last_in h.heard o.1))) (operated_as (Err cause) is)

  pub decided_by : IsDecided eq key old new decides first left (answer_of ended.answer ended.current ended.spare)
  decided_by = record {
    heard = h.heard;
    has_said = said;
    done = record { held = h.replied.held; none_once = h.replied.none_once; decided = decided_of ended.answer refl };
  }

  -- it has stored a value if its compute has changed the map
  puts_of : (a : Result (Computed K V (Unit {0})) Cause) → ended.answer ≡ a → changes a ≡ puts (answer_of a ended.current ended.spare)
  puts_of (Ok (Inserted k v)) is = refl
  puts_of (Ok (Updated before after)) is = refl
  puts_of (Ok (Removed k v)) is = absurd (unremoved k v is)
  puts_of (Ok (Aborted t)) is = refl
  puts_of (Err cause) is = refl

  pub puts_by : changes ended.answer ≡ puts (answer_of ended.answer ended.current ended.spare)
  puts_by = puts_of ended.answer refl

-- a history before such a call began comes before its end
module _ {K V : Type 0} (eq : K → K → Bool) (key : K) (older old new : List (Change K (Stored K V))) (pre : IsPrefix older old) where
  since_of : (heard : List (Option (Stored K V) × Operation V (Unit {0}))) (answer : Result (Decided V) Cause) → IsDecidedOf eq key old new heard answer
      → IsDecidedOf eq key older new heard answer
  since_of heard (Ok (Put v)) h = (h.0, change_since eq key older old new pre None (Some h.0) h.1, h.2, h.3, h.4)
  since_of heard (Ok (Replaced v)) h = (h.0, h.1, change_since eq key older old new pre (Some h.0) (Some h.1) h.2, h.3, h.4, h.5)
  since_of heard (Ok (Left current spare)) h = h
  since_of heard (Err cause) h = h

  pub decided_since : {F : Type 0} (decides : F → Option V → Option V → F → Type 0) (first left : F) (answer : Result (Decided V) Cause)
      → IsDecided eq key old new decides first left answer → IsDecided eq key older new decides first left answer
  decided_since decides first left answer d = record {
    heard = d.heard;
    has_said = d.has_said;
    done = record {
      held = all_shown (WasHeld eq (eq key) old new) (WasHeld eq (eq key) older new)
          (λ held h. held_wider eq (eq key) older old new new pre ([], append-nil new) held h) d.heard d.done.held;
      none_once = d.done.none_once;
      decided = since_of d.heard answer d.done.decided;
    };
  }

-- a call whose rule was called once with the entry that a search had found
module _ {K V F : Type 0} (eq : K → K → Bool) (key : K) (old new : List (Change K (Stored K V))) (decides : F → Option V → Option V → F → Type 0)
    (first left : F) (held : Option (Stored K V)) (was : WasHeld eq (eq key) old new held) where
  pub decided_once : (done : Operation V (Unit {0})) → Wishes decides first held done left → (answer : Result (Decided V) Cause)
      → IsDecidedOf eq key old new ((held, done) ∷ []) answer → IsDecided eq key old new decides first left answer
  decided_once done said answer decided = record {
    heard = (held, done) ∷ [];
    has_said = (first, refl, said);
    done = record { held = (was, tt); none_once = once held done; decided = decided };
  }

  -- and left the map unchanged
  pub left_once : Wishes decides first held (operation.Abort tt) left → (current : Option (Bor V)) → option_map (λ v. v.now) current ≡ value_in held
      → IsDecided eq key old new decides first left (Ok (Left current None))
  left_once said current is = decided_once (operation.Abort tt) said (Ok (Left current None)) (
    held,
    refl,
    is,
    λ v member.
        ⊎_elim (λ e. let f : operation.Insert v ≡ operation.Abort tt = ap (λ z. z.1) e in absurd (cc f)) (λ none. absurd none) member,
  )
