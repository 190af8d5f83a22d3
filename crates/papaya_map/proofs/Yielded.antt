-- The entries that an iteration over a map has yielded so far, and at its end.
use Rattle.std.proofs.Common.{◌≡◌, ◌⊎◌, Bool, Option, None, Some, List, [], ◌∷◌, ◌++◌, append-nil, inl, inr, refl, sym, ◌∙◌, ap, subst}
use Rattle.std.specs.List.{All}
use Rattle.std.proofs.lemmas.List.Elements.{All-append, All-cons, All-nil, All-weaker}
use mathlib.Core.List.{IsPrefix}
use denote.Bor.{Bor}
use Rattle.papaya_map_book.specs.Logs.{Stored}
use Rattle.papaya_map_book.proofs.Logs.{prefix_trans}
use Rattle.papaya_map_lookup.specs.History.{Change, key_of, replay}
use Rattle.papaya_map_scan.specs.Leaving.{WasTakenOut}
use Rattle.papaya_map_scan.specs.Meeting.{HadPair}
use Rattle.papaya_map_scan.specs.Walked.{Gives, IsAmong, LeavesNone, Walked, Walks}
use Rattle.papaya_map.specs.Collected.{AreYielded, Had}

module _ {K V : Type 0} (eq : K → K → Bool) where
  -- an entry that the map had by one history it had by a later one
  had_later : (old seen later : List (Change K (Stored K V))) → IsPrefix seen later → (pair : K × V) → Had eq old seen pair → Had eq old later pair
  had_later old seen later pre pair (p, same, had) =
      (p, same, record { seen = had.seen; since = had.since; until = prefix_trans had.seen seen later had.until pre; is = had.is })

  pub all_later : (old seen later : List (Change K (Stored K V))) (pairs : List (K × V)) → IsPrefix seen later → All (Had eq old seen) pairs
      → All (Had eq old later) pairs
  all_later old seen later pairs pre = All-weaker (Had eq old seen) (Had eq old later) (had_later old seen later pre) pairs

  -- what an iteration yielded, by a longer history
  pub yielded_later : (old seen later : List (Change K (Stored K V))) (pairs : List (K × V)) → IsPrefix seen later → AreYielded eq old seen pairs
      → AreYielded eq old later pairs
  yielded_later old seen later pairs pre are = record {
    none_left = λ k p has. on_or_out (are.none_left k p has);
    each_had = all_later old seen later pairs pre are.each_had;
  }
    where
      on_or_out : {p : Stored K V} → WasTakenOut old seen p ⊎ IsAmong pairs p → WasTakenOut old later p ⊎ IsAmong pairs p
      on_or_out (inl out) = inl (record {
        before = out.before;
        change = out.change;
        since = out.since;
        until = prefix_trans (out.before ++ out.change ∷ []) seen later out.until pre;
        is = out.is;
      })
      on_or_out (inr among) = inr among

  -- an iteration that was `first`, and had yielded nothing then, is `now`
  pub record HasYielded (first now : Walked K V) : Type 0 where
    pub book : now.book ≡ first.book
    pub began : now.began ≡ first.began
    pub since : IsPrefix first.history now.history
    pub had : All (Had eq first.began now.history) now.given

  -- nothing yet
  pub none_yielded : (first : Walked K V) → first.given ≡ [] → HasYielded first first
  none_yielded first none = record {
    book = refl;
    began = refl;
    since = ([], append-nil first.history);
    had = subst (All (Had eq first.began first.history)) (sym none) (All-nil (Had eq first.began first.history));
  }

  module _ (first before after : Walked K V) (so_far : HasYielded first before) where
    on : Walks eq before after → after.given ≡ before.given → HasYielded first after
    on walks same = record {
      book = walks.book ∙ so_far.book;
      began = walks.began ∙ so_far.began;
      since = prefix_trans first.history before.history after.history so_far.since walks.since;
      had = subst (All (Had eq first.began after.history)) (sym same)
          (all_later first.began before.history after.history before.given walks.since so_far.had);
    }

    -- one more entry
    pub one_yielded : (entry : Bor K × Bor V) → Gives eq before (Some entry) after → HasYielded first after
    one_yielded entry gives =
        let walks = gives.0 in let p = gives.1.0 in let of = gives.1.1 in let here = gives.1.2 in
        let same : (key_of p, p.value.value) ≡ (entry.0.now, entry.1.now) = ap (λ (k : K). (k, p.value.value)) (sym of.0)
        ∙ ap (λ (v : V). (entry.0.now, v)) (sym of.1) in
        let mine : HadPair eq first.began after.history p = subst
        (λ (old : List (Change K (Stored K V))). HadPair eq old after.history p) so_far.began here in
        record {
          book = walks.book ∙ so_far.book;
          began = walks.began ∙ so_far.began;
          since = prefix_trans first.history before.history after.history so_far.since walks.since;
          had = subst (All (Had eq first.began after.history)) (sym gives.3)
              (All-append (Had eq first.began after.history) before.given ((entry.0.now, entry.1.now) ∷ [])
              (all_later first.began before.history after.history before.given walks.since so_far.had)
              (All-cons (Had eq first.began after.history) (entry.0.now, entry.1.now) [] (p, same, mine) (All-nil (Had eq first.began after.history))));
        }

    -- the end
    pub all_yielded : Gives eq before None after → HasYielded first after
    all_yielded gives = on gives.0 gives.1

    pub are_yielded : Gives eq before None after → AreYielded eq first.began after.history after.given
    are_yielded gives =
        let end : HasYielded first after = all_yielded gives in
        let left : LeavesNone eq after = gives.2 in
        record {
          none_left = λ k p has. subst
              (λ (old : List (Change K (Stored K V))). WasTakenOut old after.history p ⊎ IsAmong after.given p) end.began
              (left k p (subst (λ (old : List (Change K (Stored K V))). replay eq old k ≡ Some p) (sym end.began) has));
          each_had = end.had;
        }
