-- A pair that was stored in the arena for a place that a search had found: the call's own steps if
-- it was put in, and the machine's first state if not.
use Rattle.std.proofs.Common.{◌≡◌, ℕ, inl, Bool, true, false, Option, None, Some, Result, Ok, Err, List, [], ◌∷◌, append-nil, refl, sym, ap, ◌∙◌, subst}
use Rattle.std.specs.Cmp.{IsEquivalence}
use Rattle.papaya_words.specs.declared.refused.Refused.{Refused as Cause}
use Rattle.papaya_words.specs.declared.refused.Refused.TheVariants.{Memory}
use Rattle.papaya_call.specs.declared.search.Place.{Place}
use Rattle.papaya_call.specs.declared.answers.Operation.{Operation}
use Rattle.papaya_call.specs.declared.answers.Operation.TheVariants as operation
use Rattle.papaya_call.specs.declared.compute.Gap.TheVariants.{At}
use Rattle.papaya_call.specs.declared.machine.State.TheVariants.{Offering, Showing, Writing}
use Rattle.papaya_map_book.specs.declared.keyed.Keyed as keyed
use Rattle.papaya_map_book.specs.declared.rule.entry.Event.{Event}
use Rattle.papaya_map_book.specs.declared.rule.entry.Named.TheVariants as names
use Rattle.papaya_map_book.specs.declared.window.Window.{Window}
use Rattle.papaya_map_book.specs.Hashes.{hash_of}
use Rattle.papaya_map_book.specs.Logs.{Stored}
use Rattle.papaya_map_book.specs.Parts.{begun_of}
use Rattle.papaya_map_book.specs.Sheets.{Sheet}
use Rattle.papaya_map_book.specs.Windows.{Does, IsIn, IsLawful, IsStoredAs, Sees}
use Rattle.papaya_map_book.proofs.Logs.{prefix_trans}
use Rattle.papaya_map_lookup.specs.Drivers.{own, past}
use Rattle.papaya_map_lookup.specs.History.{Makes, history_of, key_of}
use Rattle.papaya_map_lookup.specs.declared.lookup.Met.{Met}
use Rattle.papaya_map_lookup.proofs.Histories.{history_since}
use Rattle.papaya_map_lookup.proofs.KeptKeys.{key_at_stays}
use Rattle.papaya_map_change.specs.Changes.{IsChangeOf}
use Rattle.papaya_map_change.specs.Seeking.{Computes, Inserts}
use Rattle.papaya_map_change.specs.ClosureCalls.{IsSamePair, WasHeld}
use Rattle.papaya_map_change.specs.Tries.{Offers, is_put}
use Rattle.papaya_map_change.specs.Window.Ends.{HasTried}
use Rattle.papaya_map_change.specs.Writing.{HasKeyAt}
use Rattle.papaya_map_change.specs.declared.fast_path.Tried.{Tried}
use Rattle.papaya_map_change.specs.declared.fast_path.ProbeHit.TheVariants.{Empty, Met as MetPair}
use Rattle.papaya_map_change.proofs.Replacing.{live_full, met_key_there, met_same}
use Rattle.papaya_map_change.proofs.ClosureCalls.{held_wider}
use Rattle.papaya_map_change.proofs.Trading.{met_none, met_some}
use Rattle.papaya_map_compute.specs.FastPath.{ComesTo, CanStartSince, IsFoundAt}
use Rattle.papaya_map_compute.specs.declared.fast_path.Attempt.TheVariants.{Over, On}
use Rattle.papaya_map_compute.specs.declared.fast_path.Start.TheVariants.{Filled, Replaced}
use Rattle.papaya_map_compute.proofs.Found.{none_found, pair_found, pair_live, pair_placed}

-- a window observes no less than itself
pub unseen : {K V S H : Type 0} {d : keyed.Ghosts S K H} (w : Window K V S H d) → Sees w w
unseen w = record { book = refl; log = ([], append-nil w.sight.log) }

-- the outcome of a call that has tried to put in such a pair
module _ {K V S H A B C : Type 0} {d : keyed.Ghosts S K H} (changed : Result A Cause → Bool) (is_right : Result A Cause → Type 0) (may_start : C → Type 0)
    (w then : Window K V S H d) (key : K) (value : V) (x : Tried K V B) (tried : HasTried key value w then x) where
  -- the call is over, and has put it in or has not
  pub comes_over : (b : Bool) → is_put x ≡ b → (answer : Result A Cause) → changed answer ≡ b → ((cause : Cause) → answer ≡ Err cause → cause ≡ Memory)
      → is_right answer → ComesTo changed is_right may_start w then (Over answer)
  comes_over b put answer is memory right = record {
    sees = tried.sees;
    lawful = tried.lawful;
    made = subst (λ (z : Bool). Makes z (own w) (own then) (past then)) (put ∙ sym is) tried.made;
    refused = λ cause e. let same : answer ≡ Err cause = cc e in inl (memory cause same);
    right = right;
    idle = tt;
    starts = tt;
  }

  -- its machine continues
  pub comes_lost : is_put x ≡ false → (start : C) → may_start start → ComesTo changed is_right may_start w then (On start)
  comes_lost put start may = record {
    sees = tried.sees;
    lawful = tt;
    made = tt;
    refused = λ cause e. absurd (cc e);
    right = tt;
    idle = subst (λ (z : Bool). Does z w then) put tried.does;
    starts = may;
  }

-- nothing was tried
pub comes_idle : {K V S H A C : Type 0} {d : keyed.Ghosts S K H} (changed : Result A Cause → Bool) (is_right : Result A Cause → Type 0)
    (may_start : C → Type 0) (w : Window K V S H d) → IsLawful w → (answer : A) → changed (Ok answer) ≡ false → is_right (Ok answer)
    → ComesTo changed is_right may_start w w (Over (Ok answer))
comes_idle changed is_right may_start w lawful answer is right = record {
  sees = unseen w;
  lawful = lawful;
  made = subst (λ (z : Bool). Makes z (own w) (own w) (past w)) (sym is) (sym (append-nil (own w)));
  refused = λ cause e. absurd (cc e);
  right = right;
  idle = tt;
  starts = tt;
}

-- the operations that a map takes from its keys' type and its hasher's
abbrev given : {K S H : Type 0} → (K → K → Bool) → (K → List (List ℕ)) → (S → H) → (H → List ℕ → H) → (H → ℕ) → keyed.Ghosts S K H
given eq input build write finish = record { keys = record { eq = eq; hash = hash_of input build write finish } }

module _ {K V S H : Type 0} (eq : K → K → Bool) (input : K → List (List ℕ)) (build : S → H) (write : H → List ℕ → H) (finish : H → ℕ)
    (classes : IsEquivalence eq) (respects : (x y : K) → eq x y ≡ true → input x ≡ input y) where
  module _ (w then : Window K V S H (given eq input build write finish)) (sees : Sees w then) (key : K) (table : Sheet) (begun : List (Event K V S)) where
    abbrev Held : Option (Stored K V) → Type 0
    Held held = WasHeld eq (eq key) (history_of begun) (past then) held

    held_since : (held : Option (Stored K V)) → WasHeld eq (eq key) (history_of begun) (past w) held → Held held
    held_since held was = held_wider eq (eq key) (history_of begun) (history_of begun) (past w) (past then) ([], append-nil (history_of begun))
        (history_since w.sight.log then.sight.log sees.log) held was

    -- if the search found an empty place
    module _ (at : Place) (found : IsFoundAt w key begun table (Empty at)) where
      pub none_since : Held None
      none_since = held_since None (none_found eq input build write finish classes respects (begun_of w.book.now.parts) w.book.now.begun.book key begun
          w.sight.log table at (found Computes (Offering (At at)) refl))

      pub put_there : (q : Stored K V) → Offers w then key table (Empty at) q → IsChangeOf (eq key) (history_of begun) (past then) None (Some q)
      put_there q offers =
          let write_at = Writing (record { place = at; old = 0 }) in let t = offers begun write_at refl (found Inserts write_at refl) in
          subst (λ (o : Option (Stored K V)). IsChangeOf (eq key) (history_of begun) (past then) o (Some q)) (met_none t.0 t.1) t.2

      pub starts_filled : {T : Type 0} (hash : ℕ) (value : V) (q : Stored K V) → hash ≡ hash_of input build write finish w.book.now.parts.hasher key
          → IsLawful then → IsStoredAs then key value q → (done : Operation V T) → done ≡ operation.Insert value
          → CanStartSince then key begun (Filled hash q) ((None, done) ∷ [])
      starts_filled hash value q hashed lawful l done is =
          let there = found Computes (Offering (At at)) refl in (
            (
              record {
                lawful = lawful;
                hashed = rw sees.book hashed;
                placed = l.placed;
                number = l.number;
                same = ap (eq key) l.key_is ∙ classes.refl key;
              },
              l.key_is,
              ap (λ (o : Operation _ _). (None, o) ∷ []) (is ∙ ap (λ v. operation.Insert v) (sym l.value_is)),
            ),
            prefix_trans begun w.sight.log then.sight.log there.4.seen sees.log,
            (none_since, tt),
          )

    -- if it met a live pair
    module _ (met : Met K V) (found : IsFoundAt w key begun table (MetPair met)) where
      pub met_placed : IsIn w (names.Pair met.stored)
      met_placed = pair_placed eq input build write finish classes respects (begun_of w.book.now.parts) w.book.now.begun.book key begun w.sight.log table
          met.place met.word met.stored (found Computes (Showing (record { place = met.place; word = met.word })) refl)

      pub pair_since : Held (Some met.stored)
      pair_since = held_since (Some met.stored) (pair_found eq input build write finish classes respects (begun_of w.book.now.parts) w.book.now.begun.book key
          begun w.sight.log table met.place met.word met.stored (found Computes (Showing (record { place = met.place; word = met.word })) refl))

      pub put_over : (q : Stored K V) → Offers w then key table (MetPair met) q → (taken : Stored K V) × IsSamePair met.stored taken
          × IsChangeOf (eq key) (history_of begun) (past then) (Some taken) (Some q)
      put_over q offers =
          let write_at = Writing (record { place = met.place; old = met.word }) in
          let t = offers begun write_at refl (found Inserts write_at refl) in let z = met_some met.stored t.0 t.1 in
          (z.0, z.2, subst (λ (o : Option (Stored K V)). IsChangeOf (eq key) (history_of begun) (past then) o (Some q)) z.1 t.2)

      pub starts_replaced : {T : Type 0} (hash : ℕ) (value : V) (q : Stored K V) → hash ≡ hash_of input build write finish w.book.now.parts.hasher key
          → IsLawful then → IsStoredAs then (key_of met.stored) value q → (done : Operation V T) → done ≡ operation.Insert value
          → CanStartSince then key begun (Replaced key hash met q) ((Some met.stored, done) ∷ [])
      starts_replaced hash value q hashed lawful l done is =
          let b = begun_of w.book.now.parts in let name = w.book.now.begun.book in let log = w.sight.log in let p = met.stored in
          let there = found Computes (Showing (record { place = met.place; word = met.word })) refl in
          let first = found Inserts (Writing (record { place = met.place; old = met.word })) refl in
          let full = live_full met.word (pair_live eq input build write finish classes respects b name key begun log table met.place met.word p there) in
          let same = ap (eq key) l.key_is ∙ met_same eq input build write finish classes respects b name key begun log met.place met.word full p table first in
          let key_there = subst (HasKeyAt then.sight.log met.place.table met.place.probe.i) (sym l.key_is)
          (key_at_stays eq input build write finish classes respects b log then.sight.log (rw (sym sees.book) lawful) sees.log met.place.table
          met.place.probe.i (key_of p) (met_key_there eq input build write finish classes respects b name key begun log met.place met.word full p table first)) in (
            (
              refl,
              record { lawful = lawful; hashed = rw sees.book hashed; placed = l.placed; number = l.number; same = same },
              record { shown = rw sees.book met_placed; kept = l.key_is; there = key_there },
              ap (λ (o : Operation _ _). (Some p, o) ∷ []) (is ∙ ap (λ v. operation.Insert v) (sym l.value_is)),
            ),
            prefix_trans begun log then.sight.log there.4.seen sees.log,
            (pair_since, tt),
          )
