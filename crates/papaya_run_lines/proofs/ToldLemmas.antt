-- Lines that print the replies of their turns, one after the other.
use Rattle.std.proofs.Common.{◌≡◌, ◌≢◌, ℕ, suc, ◌+◌, ◌<◌, Bool, true, false, eqb, eq-eqb, ne_eqb}
use Rattle.std.proofs.Common.{None, Some, List, [], ◌∷◌, ◌++◌, drop, drop-cons, get_or, length, inl}
use Rattle.std.proofs.Common.{inr, refl, reverse, sym, ap, subst, ◌∙◌, arith, append_assoc}
use Rattle.std.specs.Prelude.{Option}
use Rattle.std.proofs.lemmas.Bool.{false≢true}
use Rattle.std.proofs.lemmas.List.{append-nil}
use Rattle.papaya_call.specs.declared.call.Reply.{Reply}
use Rattle.std.specs.Io.KnownBytes.{Appends}
use Rattle.papaya_core_store.specs.Store.{StoreState}
use Rattle.papaya_core_timeline.specs.declared.trace.Entry.{Entry}
use Rattle.papaya_run_lines.specs.LineOutput.{IsLineOutput, PrintsLines, behind, call_of, gave_to, own_of, reply_among, with_call}
use Rattle.papaya_run_lines.specs.declared.script.Line.{Line}
use Rattle.papaya_run_lines.specs.declared.script.LinePart.{LinePart}
use Rattle.papaya_run_lines.proofs.WriteLemmas.{appends_both}

-- a list whose length is 0, or not
pub is_none : (xs : List Entry) (b : Bool) → b ≡ eqb (length xs) 0 → b ≡ true → xs ≡ []
is_none [] b tells is = refl
is_none (x ∷ xs) b tells is = absurd (false≢true (sym (ne_eqb (length (x ∷ xs)) 0 (λ e. let clash : ⊥ = omega (arith, e) in clash)) ∙ sym tells ∙ is))

pub is_some : (xs : List Entry) (b : Bool) → b ≡ eqb (length xs) 0 → b ≡ false → xs ≢ []
is_some xs b tells is empty = false≢true (sym is ∙ tells ∙ eq-eqb (length xs) 0 (ap length empty))

-- the line of this turn and those behind it
pub line_at : (lines : List Line) (turn : ℕ) (d : Line) → turn < length lines → drop turn lines ≡ get_or lines turn d ∷ drop (turn + 1) lines
line_at lines turn d h = let next : suc turn ≡ turn + 1 = omega arith in drop-cons lines turn d h ∙ ap (λ n. get_or lines turn d ∷ drop n lines) next

module _ {S : Type 0} (store : StoreState ℕ ℕ S) (trace : List Entry) (lines : List Line) where
  -- The lines of the first `turn` turns have printed this. It becomes whole with the text that the
  -- lines behind them print of the entries that are left.
  pub record SoFar (none calls : List LinePart) (turn : ℕ) (left : List Entry) (old new : Option (List ℕ)) : Type 0 where
    pub printed : List ℕ
    pub appended : Appends old new printed
    pub tells : (text : List ℕ) (passed : Option ℕ) → PrintsLines store trace calls (drop turn lines) turn left text passed
        → PrintsLines store trace none lines 0 trace (printed ++ text) passed

  pub none_told : (none : List LinePart) (old : Option (List ℕ)) → Appends old old [] → SoFar none none 0 trace old old
  none_told none old kept = record { printed = []; appended = kept; tells = λ text passed h. h }

  pub one_told : (none calls : List LinePart) (turn : ℕ) (left : List Entry) (old now next : Option (List ℕ)) (line : Line) (text : List ℕ)
      → SoFar none calls turn left old now
      → drop turn lines ≡ line ∷ drop (turn + 1) lines → own_of turn left ≢ []
      → IsLineOutput store (call_of calls line) line (gave_to line.caller turn (reverse trace)) (reply_among (own_of turn left)) text
      → Appends now next text → SoFar none (with_call calls line) (turn + 1) (behind turn left) old next
  one_told none calls turn left old now next line text far is some told appended = record {
    printed = far.printed ++ text;
    appended = appends_both old now next far.printed text far.appended appended;
    tells = λ rest passed h. subst (λ l. PrintsLines store trace none lines 0 trace l passed) (sym (append_assoc far.printed text rest))
        (far.tells (text ++ rest) passed (subst (λ l. PrintsLines store trace calls l turn left (text ++ rest) passed) (sym is)
        (inr (some, text, rest, told, h, refl))));
  }

  -- a turn was passed over
  pub passed_told : (none calls : List LinePart) (turn : ℕ) (left : List Entry) (old now : Option (List ℕ)) (line : Line) → SoFar none calls turn left old now
      → drop turn lines ≡ line ∷ drop (turn + 1) lines → own_of turn left ≡ []
      → (text : List ℕ) × PrintsLines store trace none lines 0 trace text (Some line.number) × Appends old now text
  passed_told none calls turn left old now line far is missing = (
    far.printed,
    subst (λ l. PrintsLines store trace none lines 0 trace l (Some line.number)) (append-nil far.printed)
        (far.tells [] (Some line.number) (subst (λ l. PrintsLines store trace calls l turn left [] (Some line.number)) (sym is)
        (inl (missing, refl, refl)))),
    far.appended,
  )

  -- all turns have been printed
  pub all_told : (none calls : List LinePart) (turn : ℕ) (left : List Entry) (old now : Option (List ℕ)) → SoFar none calls turn left old now → drop turn lines ≡ []
      → (text : List ℕ) × PrintsLines store trace none lines 0 trace text None × Appends old now text
  all_told none calls turn left old now far is = (
    far.printed,
    subst (λ l. PrintsLines store trace none lines 0 trace l None) (append-nil far.printed)
        (far.tells [] None (subst (λ l. PrintsLines store trace calls l turn left [] None) (sym is) (refl, refl))),
    far.appended,
  )

  -- the text of a line, in other words
  pub told_so : (line : Line) (turn : ℕ) (kind kind' : LinePart) (entries : List Entry) (reply reply' : Option Reply) (text : List ℕ) → kind ≡ kind'
      → entries ≡ trace → reply ≡ reply'
      → IsLineOutput store kind line (gave_to line.caller turn (reverse entries)) reply text
      → IsLineOutput store kind' line (gave_to line.caller turn (reverse trace)) reply' text
  told_so line turn kind kind' entries reply reply' text same_kind same_entries same_reply told =
      subst (λ k. IsLineOutput store k line (gave_to line.caller turn (reverse trace)) reply' text) same_kind
      (subst (λ l. IsLineOutput store kind line (gave_to line.caller turn (reverse l)) reply' text) same_entries
      (subst (λ r. IsLineOutput store kind line (gave_to line.caller turn (reverse entries)) r text) same_reply told))
