-- Slots that no table has yet.
use Rattle.std.proofs.Common.{◌≡◌, ℕ, ◌+◌, ◌<◌, ⊎_elim, false, List, [], ◌∷◌, ◌++◌, length, slice_index_or, sym, ap, ◌∙◌, subst, arith, length-append}
use Rattle.std.proofs.Math.ListN.{get_or-append}
use Rattle.std.proofs.Math.Seq.{get_or-append_seam}
use Rattle.std.proofs.lemmas.Bool.{cases_order}
use Rattle.logbook.specs.Pages.{Named}
use Rattle.papaya_map_book.specs.Sheets.{AreFresh}

-- one more is fresh
pub fresh_more : (ws : List Named) (w : Named) → AreFresh ws → w.tracked ≡ false → AreFresh (ws ++ w ∷ [])
fresh_more ws w all is place d within =
    let long : place < length ws + 1 = subst (λ n. place < n) (length-append ws (w ∷ [])) within in
    let IsFresh : ℕ → Type 0 = λ n. (slice_index_or (ws ++ w ∷ []) n d).tracked ≡ false in
    let last : IsFresh (length ws) = ap (λ (x : Named). x.tracked) (get_or-append_seam ws w [] d) ∙ is in
    let before : place < length ws → IsFresh place = λ lt. ap (λ (x : Named). x.tracked) (get_or-append ws (w ∷ []) d place lt) ∙ all place d lt in
    ⊎_elim (λ e. subst IsFresh (sym e) last) (⊎_elim before (λ past. absurd (omega arith))) (cases_order place (length ws))
