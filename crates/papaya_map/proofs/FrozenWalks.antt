-- An iteration over a read-only map: nothing is taken out meanwhile, so it yields each entry, and no other.
use Rattle.std.proofs.Common.{◌≡◌, ◌⊎◌, inl, inr, Bool, Option, None, Some, List, [], ◌∷◌, ◌++◌, length, refl, sym, ap, ◌∙◌, subst, arith, length-append}
use mathlib.Core.List.{IsPrefix}
use denote.Bor.{Bor}
use Rattle.papaya_map_book.specs.Logs.{Stored}
use Rattle.papaya_map_lookup.specs.History.{Change, key_of, replay}
use Rattle.papaya_map_scan.specs.Leaving.{WasTakenOut}
use Rattle.papaya_map_scan.specs.Meeting.{HadPair}
use Rattle.papaya_map_scan.specs.Walked.{Gives, IsAmong, LeavesNone, Walked, Walks}
use Rattle.papaya_map.specs.Frozen.{HasEntry}
use Rattle.papaya_map.specs.FrozenWalks.{FrozenWalk, HasAll, Yields}
use Rattle.papaya_map.proofs.Frozen.{one_of_two}

module _ {K V : Type 0} where
  -- between a history and itself no change was made
  none_out : (h : List (Change K (Stored K V))) (p : Stored K V) → WasTakenOut h h p → ⊥
  none_out h p out = omega (
    arith,
    ap length out.since.1,
    ap length out.until.1,
    length-append h out.since.0,
    length-append (out.before ++ out.change ∷ []) out.until.0,
    length-append out.before (out.change ∷ []),
  )

  -- an entry that the map had between a history and itself it has
  has_entry : (eq : K → K → Bool) (h : List (Change K (Stored K V))) (p : Stored K V) → HadPair eq h h p → HasEntry eq h p
  has_entry eq h p had = subst (λ (s : List (Change K (Stored K V))). replay eq s (key_of p) ≡ Some p) (sym (one_of_two h had.seen had.since had.until)) had.is

  -- what an iteration left, if nothing was taken out
  all_given : (eq : K → K → Bool) (h : List (Change K (Stored K V))) (w : Walked K V) → w.began ≡ h → w.history ≡ h → LeavesNone eq w → HasAll eq h w.given
  all_given eq h w began now left k p has = among (left k p (subst (λ (s : List (Change K (Stored K V))). replay eq s k ≡ Some p) (sym began) has))
    where
      among : WasTakenOut w.began w.history p ⊎ IsAmong w.given p → IsAmong w.given p
      among (inl out) = absurd (none_out h p (subst (λ (s : List (Change K (Stored K V))). WasTakenOut h s p) now
          (subst (λ (s : List (Change K (Stored K V))). WasTakenOut s w.history p) began out)))
      among (inr there) = there

  -- an iterator that has advanced has observed as much
  pub walks : (eq : K → K → Bool) (before : Walked K V) (answer : Option (Bor K × Bor V)) (after : Walked K V) → Gives eq before answer after
      → Walks eq before after
  walks eq before None after gives = gives.0
  walks eq before (Some entry) after gives = gives.0

  -- what is observed between a history and itself
  pub still : (h now : List (Change K (Stored K V))) → IsPrefix h now → IsPrefix now h → now ≡ h
  still h now since until = sym (one_of_two h now since until)

  -- an iterator of a map that threads change, as one of a read-only map
  abbrev pub walk_of : (h : List (Change K (Stored K V))) → Walked K V → FrozenWalk K V
  walk_of h w = record { history = h; given = w.given; left = w.left }

  pub yields : (eq : K → K → Bool) (h : List (Change K (Stored K V))) (before after : Walked K V) → before.began ≡ h → after.history ≡ h
      → (answer : Option (Bor K × Bor V)) → Gives eq before answer after → Yields eq (walk_of h before) answer (walk_of h after)
  yields eq h before after began now None (on, same, left) = (refl, same, all_given eq h after (on.began ∙ began) now left)
  yields eq h before after began now (Some entry) (on, (p, of, had), legal, more) = (
    refl,
    more,
    p,
    has_entry eq h p (subst (λ (s : List (Change K (Stored K V))). HadPair eq h s p) now
        (subst (λ (s : List (Change K (Stored K V))). HadPair eq s after.history p) began had)),
    of,
  )
