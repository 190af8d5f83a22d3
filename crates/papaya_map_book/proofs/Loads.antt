-- A load leaves the book unchanged, and returns the word at the place.
use Rattle.std.proofs.Common.{◌≡◌, ℕ, true, false, None, Some, List, [], ◌++◌, slice_set, inl, inr, refl, sym, ap, ◌∙◌, subst, Bool}
use Rattle.std.proofs.lemmas.List.{append-nil, set-get_or}
use mathlib.Core.List.{IsPrefix}
use Rattle.logbook.specs.Pages.{Cell, cell, keeps, no_nib, step, Moves}
use Rattle.papaya_call.specs.declared.ask.At.{At}
use Rattle.papaya_gate.specs.Paid.{Leaves}
use Rattle.papaya_map_book.specs.declared.rule.entry.Event.{Event}
use Rattle.papaya_map_book.specs.declared.rule.entry.Event.TheVariants.{Begin, Called, Dealt, Draw, Stepped, Wish}
use Rattle.papaya_map_book.specs.Changes.{is_change}
use Rattle.papaya_map_book.specs.Logs.{dealt, key_at, name_in, place_of, setting_of, state_of, steps_of, word_names}
use Rattle.papaya_map_book.specs.Rule.{AreCodes, word_in}
use Rattle.papaya_map_book.specs.Offer.{Answered, LeavesRow, MovesRow, Moved}
use Rattle.papaya_map_book.specs.Plays.{Looked, Looks}
use Rattle.papaya_map_book.proofs.Changes.{changes_left}
use Rattle.papaya_map_book.proofs.Logs.{key_later, steps-append}
use Rattle.papaya_map_book.proofs.Names.{word_answer}

-- clients see the whole log
abbrev pub shows : {E : Type 0} → List E → List E
shows log = log

-- writing the word that is there changes nothing
pub same_cells : (cs : List Cell) (k : ℕ) → (cell cs k).1 ≡ true → slice_set cs k ((cell cs k).0, true) ≡ cs
same_cells cs k home = let c : ((cell cs k).0, true) ≡ cell cs k = λ i. ((cell cs k).0, sym home i) in
    ap (λ (z : Cell). slice_set cs k z) c ∙ set-get_or cs k (0, false)

module _ {K V S : Type 0} where
  -- an update that has nothing to do with the row leaves it
  pub row_left : (ask : Event K V S) (xs ys : List (Event K V S)) → LeavesRow ask → name_in ys ≡ name_in xs → dealt ys ≡ dealt xs → MovesRow ask xs ys
  row_left (Wish at kind made n) xs ys l e f = (e, f)
  row_left (Draw book first count) xs ys l e f = absurd l
  row_left (Begin b) xs ys l e f = (e, f)
  row_left (Called b) xs ys l e f = absurd l
  row_left (Dealt seal count) xs ys l e f = (e, f)
  row_left (Stepped e) xs ys l f g = (f, g)

  -- if nothing is added it stays
  pub row_still : (ask : Event K V S) (log : List (Event K V S)) → LeavesRow ask → MovesRow ask log (log ++ [])
  row_still ask log l = row_left ask log (log ++ []) l (ap name_in (append-nil log)) (ap dealt (append-nil log))

  -- a key that was observed is the key in each longer log
  pub key_since : (v log : List (Event K V S)) (at : At) (k : ℕ) → IsPrefix v log → key_at (steps_of v) at ≡ Some k → key_at (steps_of log) at ≡ Some k
  key_since v log at k pre e =
      ap (λ (l : List (Event K V S)). key_at (steps_of l) at) (sym pre.1)
      ∙ (ap (λ l. key_at l at) (steps-append v pre.0) ∙ key_later (steps_of v) (steps_of pre.0) at k e)

  module _ (eq : K → K → Bool) (hash : S → K → ℕ) where
    pub looks_moves : (v : List (Event K V S)) (ask : Event K V S) (k : ℕ) → LeavesRow ask → key_at (steps_of v) (place_of ask) ≡ Some k
        → Moves (AreCodes eq hash) shows (Leaves is_change (Moved ask)) k (v, (no_nib, None)) (λ n. n) (Looks eq hash (step k 0 0 ask) (v, (no_nib, None)))
    looks_moves v ask k leaves at_k cs log h pre away =
        let at = place_of ask in
        let named = word_names (steps_of log) (state_of log) at in
        let key : key_at (steps_of log) at ≡ Some k = key_since v log at k pre at_k in
        let stands : cell cs k ≡ (word_in eq hash h.begun log at, true) = h.coded at k key in
        let home : (cell cs k).1 ≡ true = ap (λ (z : Cell). z.1) stands in
        let nil : log ++ [] ≡ log = append-nil log in
        let told : Answered log named = word_answer (setting_of eq (hash h.begun.hasher) h.begun.mode h.begun.limit log) log h.lawful.allowed at in (
          (h.counted at k key).0,
          home,
          (
            keeps,
            [],
            Some named,
            tt,
            subst (λ (z : List Cell × List (Event K V S)). AreCodes eq hash z.0 z.1) (λ i. (sym (same_cells cs k home) i, sym nil i)) h,
            inr (
              named,
              refl,
              refl,
              ((inl nil, subst (λ (l : List (Event K V S)). Answered l named) (sym nil) told, row_still ask log leaves), changes_left log [] refl),
            ),
            subst (λ (l : List (Event K V S)). Looked eq hash at (cell cs k).0 l (Some named)) (sym nil)
                (record { begun = h.begun; lawful = h.lawful; is = sym (ap (λ (z : Cell). z.0) stands); state_is = refl }),
          ),
        )
