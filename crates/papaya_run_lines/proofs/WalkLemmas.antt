-- The entries that an iteration over the shared map has returned so far.
use Rattle.std.proofs.Common.{◌≡◌, ◌==◌, ℕ, Option, None, Some, List, [], ◌∷◌, ◌++◌, sym, ◌∙◌, ap, subst, refl}
use Rattle.std.specs.Borrow.{Bor}
use Rattle.std.specs.List.{All}
use Rattle.std.proofs.lemmas.List.Elements.{All-append, All-cons, All-nil, All-weaker}
use Rattle.std.proofs.lemmas.List.Sorted.{All-permutation}
use Rattle.std.proofs.lemmas.List.{append-nil}
use mathlib.Core.List.{IsPrefix}
use Rattle.papaya_map_book.proofs.Logs.{prefix_trans}
use Rattle.papaya_map_lookup.specs.History.{key_of}
use Rattle.papaya_map_scan.specs.Meeting.{HadPair}
use Rattle.papaya_map_scan.specs.Walked.{Gives, Walked, Walks}
use Rattle.papaya_run_lines.specs.Walk.{IsByKey}
use Rattle.papaya_run_lines.specs.Shared.{Had, Seen}

-- an entry that the map had by one history it had by a later one
had_later : (old seen later : Seen) → IsPrefix seen later → (pair : ℕ × ℕ) → Had old seen pair → Had old later pair
had_later old seen later pre pair (p, same, had) =
    (p, same, record { seen = had.seen; since = had.since; until = prefix_trans had.seen seen later had.until pre; is = had.is })

-- an iteration that began at the first position returned these entries, and is here now
pub record HasGiven (first : Walked ℕ ℕ) (pairs : List (ℕ × ℕ)) (now : Walked ℕ ℕ) : Type 0 where
  pub book : now.book ≡ first.book
  pub began : now.began ≡ first.began
  pub since : IsPrefix first.history now.history
  pub had : All (Had first.began now.history) pairs

-- none yet
pub none_given : (first : Walked ℕ ℕ) → HasGiven first [] first
none_given first = record { book = refl; began = refl; since = ([], append-nil first.history); had = All-nil (Had first.began first.history) }

-- the entries that were returned so far, by the history that the iteration has observed after a
-- further call
pub still_given : (first before after : Walked ℕ ℕ) (pairs : List (ℕ × ℕ)) (answer : Option (Bor ℕ × Bor ℕ)) → HasGiven first pairs before
    → Gives (λ a b. a == b) before answer after → HasGiven first pairs after
still_given first before after pairs answer given gives = by answer gives
  where
    on : Walks (λ a b. a == b) before after → HasGiven first pairs after
    on walks = record {
      book = walks.book ∙ given.book;
      began = walks.began ∙ given.began;
      since = prefix_trans first.history before.history after.history given.since walks.since;
      had = All-weaker (Had first.began before.history) (Had first.began after.history)
          (had_later first.began before.history after.history walks.since) pairs given.had;
    }

    by : (answer : Option (Bor ℕ × Bor ℕ)) → Gives (λ a b. a == b) before answer after → HasGiven first pairs after
    by None gives = on gives.0
    by (Some entry) gives = on gives.0

-- one more
pub one_given : (first before after : Walked ℕ ℕ) (pairs : List (ℕ × ℕ)) (entry : Bor ℕ × Bor ℕ) → HasGiven first pairs before
    → Gives (λ a b. a == b) before (Some entry) after → HasGiven first (pairs ++ (entry.0.now, entry.1.now) ∷ []) after
one_given first before after pairs entry given gives =
    let p = gives.1.0 in let of = gives.1.1 in let here = gives.1.2 in
    let same : (key_of p, p.value.value) ≡ (entry.0.now, entry.1.now) = ap (λ (k : ℕ). (k, p.value.value)) (sym of.0)
    ∙ ap (λ (v : ℕ). (entry.0.now, v)) (sym of.1) in
    let mine : HadPair (λ a b. a == b) first.began after.history p = subst (λ (old : Seen). HadPair (λ a b. a == b) old after.history p) given.began here in
    let still : HasGiven first pairs after = still_given first before after pairs (Some entry) given gives in
    record {
      book = still.book;
      began = still.began;
      since = still.since;
      had = All-append (Had first.began after.history) pairs ((entry.0.now, entry.1.now) ∷ []) still.had
          (All-cons (Had first.began after.history) (entry.0.now, entry.1.now) [] (p, same, mine) (All-nil (Had first.began after.history)));
    }

-- by rising key, and by the history that the session has observed since
pub by_key : (old seen later : Seen) (given pairs : List (ℕ × ℕ)) → IsPrefix seen later → IsByKey given pairs → All (Had old seen) given
    → All (Had old later) pairs
by_key old seen later given pairs pre sorted had =
    All-permutation (Had old later) given pairs sorted.0 (All-weaker (Had old seen) (Had old later) (had_later old seen later pre) given had)
