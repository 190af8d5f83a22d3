-- The result of `retain` on the shared map whose closure passes keys on to another closure.
use Rattle.std.proofs.Common.{◌≡◌, Bool, List, [], ◌∷◌, Result, ap, subst}
use denote.Ref.{Bor}
use Rattle.std.specs.Fn.{Called, Mut}
use Rattle.papaya_words.specs.declared.refused.Refused.{Refused}
use Rattle.papaya_map_book.specs.Logs.{Stored}
use Rattle.papaya_map_change.specs.ClosureCalls.{HasReturned, Judges}
use Rattle.papaya_map_lookup.specs.History.{Change}
use Rattle.papaya_map_scan.specs.Leaving.{HasKept}
use Rattle.papaya_set.specs.Shared.{JudgesKey}

-- the closure of a map, `w`, calls the closure of keys that it holds
module _ {F W K : Type 0} (g : Mut F (Bor K × Unit {0}) Bool) (h : Mut W (Bor K × (Bor (Unit {0}) × Unit {0})) Bool) (of : W → F)
    (asks : (w w' : W) (key : Bor K) (value : Bor (Unit {0})) (agrees : Bool) → Called h w (key, (value, tt)) agrees w'
    → Called g (of w) (key, tt) agrees (of w')) where
  -- both closures returned the same results
  said_of : (first : W) (said : List (Stored K (Unit {0}) × Bool)) (left : W) → HasReturned (Judges h) first said left
      → HasReturned (JudgesKey g) (of first) said (of left)
  said_of first [] left is = ap of is
  said_of first (last ∷ before) left (w, earlier, (key, value, are, called)) =
      (of w, said_of first before w earlier, (key, are.0, asks w left key value last.1 called))

  kept : {A : Type 0} (eq : K → K → Bool) (old new made made' : List (Change K (Stored K (Unit {0})))) (first : W) (result : Result A Refused)
      → HasKept eq old new made made' (Judges h) first result → HasKept eq old new made made' (JudgesKey g) (of first) result
  kept eq old new made made' first result k = record {
    left = of k.left;
    said = k.said;
    shown = record {
      has_said = said_of first k.said k.left k.shown.has_said;
      had = k.shown.had;
      changes = k.shown.changes;
      made_is = k.shown.made_is;
      dropped = k.shown.dropped;
    };
    leaves = k.leaves;
  }

  -- for a pass that had made no change
  pub kept_since : {A : Type 0} (eq : K → K → Bool) (old new made made' : List (Change K (Stored K (Unit {0})))) (first : W)
      (result : Result A Refused) → made ≡ [] → HasKept eq old new made made' (Judges h) first result
      → HasKept eq old new [] made' (JudgesKey g) (of first) result
  kept_since eq old new made made' first result none
      k = subst (λ z. HasKept eq old new z made' (JudgesKey g) (of first) result) none (kept eq old new made made' first result k)
