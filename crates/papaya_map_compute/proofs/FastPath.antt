-- The result of a compute that ended on its fast path: its closure was called once, with the entry
-- of the key or with None.
use Rattle.std.proofs.Common.{◌≡◌, ℕ, inl, inr, ⊎_elim, Bool, false, Option, None, Some, Result, Ok}
use Rattle.std.proofs.Common.{Err, List, [], ◌∷◌, ◌++◌, refl, sym, ap, ◌∙◌, subst}
use denote.Bor.{Bor}
use Rattle.papaya_words.specs.declared.refused.Refused.{Refused as Cause}
use Rattle.papaya_words.specs.declared.refused.Refused.TheVariants.{Capacity, Limit, RemoveNothing}
use Rattle.papaya_call.specs.declared.answers.Operation.{Operation}
use Rattle.papaya_call.specs.declared.answers.Operation.TheVariants as operation
use Rattle.papaya_words_keys.specs.declared.results.Compute.{Compute as Computed}
use Rattle.papaya_words_keys.specs.declared.results.Compute.TheVariants.{Inserted, Updated, Removed, Aborted}
use Rattle.papaya_map_book.specs.declared.keyed.Keyed as keyed
use Rattle.papaya_map_book.specs.declared.window.Window.{Window}
use Rattle.papaya_map_book.specs.Logs.{Stored, steps_of}
use Rattle.papaya_map_book.specs.Own.{last_if}
use Rattle.papaya_map_book.specs.declared.rule.own.CapacityCause.{CapacityCause}
use Rattle.papaya_map_book.specs.Sheets.{Sheet}
use Rattle.papaya_map_book.specs.Windows.{Does, IsLawful, Observes}
use Rattle.papaya_map_book.proofs.Windows.{observed, sees_trans}
use Rattle.papaya_map_lookup.specs.Drivers.{own, past}
use Rattle.papaya_map_lookup.specs.History.{Change, Makes, changes_by, key_of}
use Rattle.papaya_map_change.specs.Changes.{IsChangeOf}
use Rattle.papaya_map_change.specs.ClosureCalls.{AreOf, IsNoneOnce, IsSamePair, WasHeld}
use Rattle.papaya_map_change.specs.Writing.{IsMemoryOrCapacity}
use Rattle.papaya_map_change.specs.Seeking.{met_by}
use Rattle.papaya_map_change.specs.Window.Ends.{Ends, HasCause}
use Rattle.papaya_map_change.specs.declared.fast_path.ProbeHit.{ProbeHit}
use Rattle.papaya_map_change.proofs.Doing.{idles}
use Rattle.papaya_map_change.proofs.Logged.{makes_since}
use Rattle.papaya_map_lookup.specs.declared.lookup.Met.{Met}
use Rattle.papaya_map_compute.specs.FastPath.{ComesTo, DoesAtOnce, IfOn, IfOver, IsAtOnce, IsSearchEnd, IsOnItsWay}
use Rattle.papaya_map_compute.specs.ComputeAnswers.{IsOperated, changes}
use Rattle.papaya_map_compute.specs.declared.fast_path.Start.{Start}
use Rattle.papaya_map_compute.specs.Computing.{IsReplied}
use Rattle.papaya_map_compute.specs.declared.fast_path.Attempt.{Attempt}
use Rattle.papaya_map_compute.specs.declared.fast_path.Attempt.TheVariants.{Over, On}

-- a call that has done nothing since a window has done nothing since an earlier one with the same
-- own steps
pub does_since : {K V S H : Type 0} {d : keyed.Ghosts S K H} (a w w' : Window K V S H d) → w.own ≡ a.own → Does false w w' → Does false a w'
does_since a w w' same does = subst (λ (o : _). w'.own.done ≡ o.done ++ last_if false (steps_of w'.sight.log)) same does

pub once : {P A : Type 0} (held : Option P) (answer : A) → IsNoneOnce ((held, answer) ∷ [])
once None answer = tt
once (Some p) answer = tt

-- a first probe fails neither for lack of room nor at a limit
pub no_room : {P : Type 0} → IsAtOnce Capacity → P
no_room at = ⊎_elim (λ e. absurd (cc e)) (λ e. absurd (cc e)) at

pub no_limit : {P : Type 0} → IsAtOnce Limit → P
no_limit at = ⊎_elim (λ e. absurd (cc e)) (λ e. absurd (cc e)) at

-- a property of the outcome, derived from another one
module _ {C A : Type 0} where
  pub if_over : (P Q : A → Type 0) (x : Attempt C A) → ((a : A) → P a → Q a) → IfOver x P → IfOver x Q
  if_over P Q (Over a) f h = f a h
  if_over P Q (On x) f h = tt

  pub over_any : (P : Type 0) (x : Attempt C A) → P → IfOver x (λ a. P)
  over_any P (Over a) h = h
  over_any P (On x) h = tt

  pub if_on : (P Q : C → Type 0) (x : Attempt C A) → ((y : C) → P y → Q y) → IfOn x P → IfOn x Q
  if_on P Q (Over a) f h = tt
  if_on P Q (On x) f h = f x h

module _ {K V T : Type 0} (eq : K → K → Bool) (key : K) (old new : List (Change K (Stored K V))) (held : Option (Stored K V))
    (was : WasHeld eq (eq key) old new held) (done : Operation V T) where
  abbrev Replies : Result (Computed K V T) Cause → Type 0
  Replies answer = IsReplied eq key old new ((held, done) ∷ []) answer

  replies : (answer : Result (Computed K V T) Cause) → IsOperated eq key old new ((held, done) ∷ []) answer → Replies answer
  replies answer operated = record { held = (was, tt); none_once = once held done; operated = operated }

  pub inserts : held ≡ None → (q : Stored K V) → done ≡ operation.Insert q.value.value → IsChangeOf (eq key) old new None (Some q) → key_of q ≡ key
      → (k : Bor K) (v : Bor V) → AreOf (k, v) q → Replies (Ok (Inserted k v))
  inserts none q is change key_is k v are = replies (Ok (Inserted k v)) (q, change, key_is, inl (λ i. (sym none i, sym is i)), are)

  pub updates : (p taken q : Stored K V) → held ≡ Some p → done ≡ operation.Insert q.value.value → IsSamePair p taken
      → IsChangeOf (eq key) old new (Some taken) (Some q) → (before after : Bor K × Bor V) → AreOf before p → AreOf after q → Replies (Ok (Updated before after))
  updates p taken q some is same change before after of_p of_q =
      replies (Ok (Updated before after)) (
        taken,
        q,
        change,
        change.kept taken q refl refl,
        (p, same, inl (λ i. (sym some i, sym is i))),
        (of_p.0 ∙ ap (λ z. z.key.value) same.1, of_p.1 ∙ ap (λ z. z.value) same.1),
        of_q,
      )

  pub removed : (p taken : Stored K V) → held ≡ Some p → done ≡ operation.Remove → IsSamePair p taken → IsChangeOf (eq key) old new (Some taken) None
      → (k : Bor K) (v : Bor V) → AreOf (k, v) p → Replies (Ok (Removed k v))
  removed p taken some is same change k v of_p =
      replies (Ok (Removed k v)) (
        taken,
        change,
        (p, same, inl (λ i. (sym some i, sym is i))),
        (of_p.0 ∙ ap (λ z. z.key.value) same.1, of_p.1 ∙ ap (λ z. z.value) same.1),
      )

  pub aborts : (t : T) → done ≡ operation.Abort t → Replies (Ok (Aborted t))
  aborts t is = replies (Ok (Aborted t)) (held, λ i. (held, is i))

  pub removes_nothing : held ≡ None → done ≡ operation.Remove → Replies (Err RemoveNothing)
  removes_nothing none is = replies (Err RemoveNothing) (inr (refl, λ i. (none i, is i)))

  pub refuses : (cause : Cause) → IsMemoryOrCapacity cause → Replies (Err cause)
  refuses cause is = replies (Err cause) (inl (inl is))

-- a call that has made no request yet
module _ {K V S H A C : Type 0} {d : keyed.Ghosts S K H} (changed : Result A Cause → Bool) (w : Window K V S H d) where
  pub comes_asked_nothing : (is_right : Result A Cause → Type 0) (may_start : C → Type 0) (w' : Window K V S H d) (x : C) → Observes w w' → may_start x
      → ComesTo changed is_right may_start w w' (On x)
  comes_asked_nothing is_right may_start w' x looked h = record {
    sees = observed looked;
    lawful = tt;
    made = tt;
    refused = λ cause e. absurd (cc e);
    right = tt;
    idle = idles w w' looked.own;
    starts = h;
  }

  -- and one that has probed before
  pub comes_since : (is_right is_right' : Result A Cause → Type 0) (may_start may_start' : C → Type 0) (mid w' : Window K V S H d)
      (x : Attempt C (Result A Cause)) → Observes w mid → ((a : Result A Cause) → is_right a → is_right' a) → ((y : C) → may_start y → may_start' y)
      → ComesTo changed is_right may_start mid w' x → ComesTo changed is_right' may_start' w w' x
  comes_since is_right is_right' may_start may_start' mid w' x looked f h c = record {
    sees = sees_trans w mid w' (observed looked) c.sees;
    lawful = c.lawful;
    made = subst (λ o. IfOver x (λ a. Makes (changed a) (changes_by o.done) (own w') (past w'))) looked.own c.made;
    refused = c.refused;
    right = if_over is_right is_right' x f c.right;
    idle = if_on _ _ x (λ y i. does_since w mid w' looked.own i) c.idle;
    starts = if_on may_start may_start' x h c.starts;
  }

-- a call that has observed the current log, and then looked for its key
module _ {K V S H A C : Type 0} {d : keyed.Ghosts S K H} (changed : Result A Cause → Bool) (before first w : Window K V S H d) (learned : Observes before first)
    (is_right : Result A Cause → Type 0) (may_start : C → Type 0) (x : Attempt C (Result A Cause))
    (c : ComesTo changed is_right may_start first w x) where
  -- it is over
  module _ (answer : Result A Cause) (is : x ≡ Over answer) where
    pub over_right : is_right answer
    over_right = subst (λ (z : Attempt C (Result A Cause)). IfOver z is_right) is c.right

    pub over_ends : Ends (changed answer) before w
    over_ends = record {
      sees = sees_trans _ _ _ (observed learned) c.sees;
      lawful = subst (λ (z : Attempt C (Result A Cause)). IfOver z (λ a. IsLawful w)) is c.lawful;
      made = makes_since (changed answer) before first w (idles before first learned.own)
          (subst (λ (z : Attempt C (Result A Cause)). IfOver z (λ a. Makes (changed a) (own first) (own w) (past w))) is c.made);
    }

    pub over_tells : (initial : ℕ) (given : List CapacityCause) → HasCause initial w given (λ cause. answer ≡ Err cause)
    over_tells initial given = record {
      crowded = λ e. no_room (c.refused Capacity (is ∙ ap (λ z. Over z) e));
      spent = λ e. no_limit (c.refused Limit (is ∙ ap (λ z. Over z) e));
    }

  -- its machine continues
  module _ (start : C) (is : x ≡ On start) where
    pub on_starts : may_start start
    on_starts = subst (λ (z : Attempt C (Result A Cause)). IfOn z may_start) is c.starts

    pub on_ends : (b : Bool) (w' : Window K V S H d) → Ends b w w' → Ends b before w'
    on_ends b w' e = record {
      sees = sees_trans _ _ _ (sees_trans _ _ _ (observed learned) c.sees) e.sees;
      lawful = e.lawful;
      made = makes_since b before w w' (does_since before first w learned.own (subst (λ (z : Attempt C (Result A Cause)). IfOn z (λ s. Does false first w)) is c.idle)) e.made;
    }

-- A call whose closure was called once with the entry that the search found, and has returned: it
-- is right if that follows from its reply.
module _ {K V S T H O : Type 0} {d : keyed.Ghosts S K H} (w mid then : Window K V S H d) (looked : Observes w mid) (key : K) (hash : ℕ) (table : Sheet)
    (turn : ProbeHit (Met K V)) (led : IsSearchEnd mid key hash w.sight.log table turn) (says : O → Option (Stored K V) → Operation V T → O → Type 0)
    (first left : O) (done : Operation V T) (said : says first (met_by turn) done left) where
  pub comes_once : (is_right : Result (Computed K V T) Cause → Type 0)
      → ((answer : Result (Computed K V T) Cause) → IsReplied d.keys.eq key (past w) (past then) ((met_by turn, done) ∷ []) answer → is_right answer)
      → (x : Attempt (Start K V) (Result (Computed K V T) Cause)) → DoesAtOnce mid then key table turn done x
      → ComesTo changes is_right (IsOnItsWay w then key says first left) w then x
  comes_once is_right right x does = comes_since changes w _ _ _ _ mid then x looked (λ a h. right a (h w.sight.log led.found))
      (λ y h. ((met_by turn, done) ∷ [], h w.sight.log led.found, (first, refl, said))) does
