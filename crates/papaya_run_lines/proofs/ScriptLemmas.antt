-- A script that is read line by line.
use Rattle.std.proofs.Common.{◌≡◌, ◌≢◌, ℕ, ◌+◌, Bool, true, false, None, Some, IfSome, List, [], ◌∷◌, ◌++◌, inl, inr, refl, sym, ap, subst, ◌∙◌, append_assoc}
use Rattle.std.specs.Prelude.{IsSome, Option}
use Rattle.std.proofs.lemmas.Bool.{false≢true}
use Rattle.std.proofs.lemmas.List.{append-nil}
use Rattle.papaya_core_timeline.specs.declared.trace.Turn.{Turn}
use Rattle.papaya_run_lines.specs.declared.closures.Answering.{Answering}
use Rattle.papaya_run_lines.specs.declared.script.Line.{Line}
use Rattle.papaya_run_lines.specs.declared.script.Script.{Script}
use Rattle.papaya_run_lines.specs.Lines.{IsNextLine, lines_of}
use Rattle.papaya_run_lines.specs.Script.{Adds, AsksNone, IsScript, line_of}
use Rattle.papaya_run_lines.specs.Turns.{WritesTurn}

abbrev pub Turns : Type 0
Turns = List (Turn ℕ ℕ Answering)

-- If the script so far has a bad line, it is the script of the text. Otherwise it becomes whole
-- with the script of the lines that are left, the first of which has this number.
abbrev pub Reads : List ℕ → Script → ℕ → (left : List ℕ) → Option ℕ → Type 0
Reads text script number left (Some bad) = IsScript (lines_of text) 1 script.turns.items script.lines.items (Some bad)
Reads text script number left None = (turns : Turns) (rows : List Line) (bad : Option ℕ) → IsScript (lines_of left) number turns rows bad
    → IsScript (lines_of text) 1 (script.turns.items ++ turns) (script.lines.items ++ rows) bad

-- the same for the text that a reader has left
pub record SoFar (script : Script) (number : ℕ) (left : Option (List ℕ)) (text : List ℕ) : Type 0 where
  pub rest : List ℕ
  pub left_is : left ≡ Some rest
  pub reads : Reads text script number rest script.bad_line

-- none yet
pub none_read : (script : Script) (known : Option (List ℕ)) → script.turns.items ≡ [] → script.lines.items ≡ [] → script.bad_line ≡ None
    → IfSome known (SoFar script 1 known)
none_read script None turns rows bad = tt
none_read script (Some text) no_turns no_rows bad = record {
  rest = text;
  left_is = refl;
  reads = subst (Reads text script 1 text) (sym bad)
      (λ turns rows b is. subst (λ l. IsScript (lines_of text) 1 (l ++ turns) (script.lines.items ++ rows) b) (sym no_turns)
      (subst (λ l. IsScript (lines_of text) 1 turns (l ++ rows) b) (sym no_rows) is));
}

-- a line that is not empty, in front of others
put_turn : (line : List ℕ) (lines : List (List ℕ)) (number : ℕ) (turn : Turn ℕ ℕ Answering) (turns : Turns) (rows : List Line) (bad : Option ℕ)
    → line ≢ [] → WritesTurn line turn → IsScript lines (number + 1) turns rows bad
    → IsScript (line ∷ lines) number (turn ∷ turns) (line_of number turn ∷ rows) bad
put_turn [] lines number turn turns rows bad some writes is = absurd (some refl)
put_turn (b ∷ bs) lines number turn turns rows bad some writes is = inl (turn, turns, rows, writes, refl, refl, is)

put_bad : (line : List ℕ) (lines : List (List ℕ)) (number : ℕ) → line ≢ [] → AsksNone line → IsScript (line ∷ lines) number [] [] (Some number)
put_bad [] lines number some none = absurd (some refl)
put_bad (b ∷ bs) lines number some none = inr (none, refl, refl, refl)

-- a text that is left, if it is known
told : (P : List ℕ → Type 0) (left : Option (List ℕ)) (rest : List ℕ) → left ≡ Some rest → IfSome left P → P rest
told P left rest is h = subst (λ o. IfSome o P) is h

-- a script to which a line is added
adds : (text : List ℕ) (old new : Script) (number : ℕ) (here rest line : List ℕ) → lines_of here ≡ line ∷ lines_of rest → (bad : Option ℕ)
    → old.bad_line ≡ bad → Reads text old number here bad
    → Adds old number line new → Reads text new (number + 1) rest new.bad_line
adds text old new number here rest line split (Some k) bad reads (inl (why, same)) = subst (λ z. Reads text z (number + 1) rest z.bad_line) (sym same)
    (subst (Reads text old (number + 1) rest) (sym bad) reads)
adds text old new number here rest line split (Some k) bad reads (inr (none, some, added)) = absurd (no_bad (sym bad ∙ none))
  where
    no_bad : {n : ℕ} → Some n ≡ None → ⊥
    no_bad is = false≢true (subst (λ o. IsSome o) is refl)
adds text old new number here rest line split None bad reads (inl (inl was, same)) = absurd (false≢true (subst IsSome bad was))
adds text old new number here rest line split None bad reads (inl (inr empty, same)) =
    subst (λ z. Reads text z (number + 1) rest z.bad_line) (sym same) (subst (Reads text old (number + 1) rest) (sym bad)
    (λ turns rows b is. reads turns rows b (subst (λ l. IsScript l number turns rows b) (sym (split ∙ ap (λ l. l ∷ lines_of rest) empty)) is)))
adds text old new number here rest line split None bad reads (inr (none, some, inl (turn, (writes, new_turns, new_rows, same)))) =
    subst (Reads text new (number + 1) rest) (sym (same ∙ bad))
    (λ turns rows b is. subst (λ l. IsScript (lines_of text) 1 l (new.lines.items ++ rows) b)
    (sym (ap (λ l. l ++ turns) new_turns ∙ append_assoc old.turns.items (turn ∷ []) turns))
    (subst (λ l. IsScript (lines_of text) 1 (old.turns.items ++ turn ∷ turns) l b)
    (sym (ap (λ l. l ++ rows) new_rows ∙ append_assoc old.lines.items (line_of number turn ∷ []) rows))
    (reads (turn ∷ turns) (line_of number turn ∷ rows) b
    (subst (λ l. IsScript l number (turn ∷ turns) (line_of number turn ∷ rows) b) (sym split)
    (put_turn line (lines_of rest) number turn turns rows b some writes is)))))
adds text old new number here rest line split None bad reads (inr (none, some, inr (asks, new_turns, new_rows, noted))) =
    subst (Reads text new (number + 1) rest) (sym noted)
    (subst (λ l. IsScript (lines_of text) 1 l new.lines.items (Some number)) (append-nil old.turns.items ∙ sym new_turns)
    (subst (λ l. IsScript (lines_of text) 1 (old.turns.items ++ []) l (Some number)) (append-nil old.lines.items ∙ sym new_rows)
    (reads [] [] (Some number) (subst (λ l. IsScript l number [] [] (Some number)) (sym split) (put_bad line (lines_of rest) number some asks)))))

-- a line was read, and added
pub one_read : (old new : Script) (number : ℕ) (known left left' : Option (List ℕ)) (line : List ℕ) (more : Bool)
    → IfSome known (SoFar old number left) → IfSome left (λ text. IsNextLine text more line left') → more ≡ true
    → Adds old number line new → IfSome known (SoFar new (number + 1) left')
one_read old new number None left left' line more far read was added = tt
one_read old new number (Some text) left left' line more far read was added =
    let (rest, left_is, split) : IsNextLine far.rest true line left' = subst (λ b. IsNextLine far.rest b line left') was
    (told (λ text. IsNextLine text more line left') left far.rest far.left_is read) in
    record { rest = rest; left_is = left_is; reads = adds text old new number far.rest rest line split old.bad_line refl far.reads added }

-- no line is left
ends : (text : List ℕ) (script : Script) (number : ℕ) (rest : List ℕ) → lines_of rest ≡ [] → (bad : Option ℕ) → Reads text script number rest bad
    → IsScript (lines_of text) 1 script.turns.items script.lines.items bad
ends text script number rest none (Some k) reads = reads
ends text script number rest none None reads =
    subst (λ l. IsScript (lines_of text) 1 l script.lines.items None) (append-nil script.turns.items)
    (subst (λ l. IsScript (lines_of text) 1 (script.turns.items ++ []) l None) (append-nil script.lines.items)
    (reads [] [] None (subst (λ l. IsScript l number [] [] None) (sym none) (refl, refl, refl))))

pub all_read : (script : Script) (number : ℕ) (known left left' : Option (List ℕ)) (line : List ℕ) (more : Bool)
    → IfSome known (SoFar script number left) → IfSome left (λ text. IsNextLine text more line left') → more ≡ false
    → IfSome known (λ text. IsScript (lines_of text) 1 script.turns.items script.lines.items script.bad_line)
all_read script number None left left' line more far read was = tt
all_read script number (Some text) left left' line more far read was =
    ends text script number far.rest (subst (λ b. IsNextLine far.rest b line left') was
    (told (λ text. IsNextLine text more line left') left far.rest far.left_is read)) script.bad_line far.reads
