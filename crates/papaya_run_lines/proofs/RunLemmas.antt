-- Lines that are run one after the other, and the text that they print.
use Rattle.std.proofs.Common.{◌≡◌, ◌≢◌, ℕ, ◌+◌, Bool, true, false, cond, eqb, None, Some, IfSome}
use Rattle.std.proofs.Common.{Ok, Err, List, [], ◌∷◌, ◌++◌, length, inl, inr, refl, sym, ap, subst}
use Rattle.std.proofs.Common.{◌∙◌, arith, append_assoc, length-append}
use Rattle.std.specs.Prelude.{◌⊎◌, IfOk, IsErrAnd, MatchResult, Option, Result}
use Rattle.std.proofs.lemmas.List.{append-nil}
use Rattle.std.specs.Io.KnownBytes.{prepend_known}
use Rattle.papaya_run_shell.specs.Failure.{without_memory}
use Rattle.papaya_run_shell.specs.declared.failure.Failure.{Failure}
use Rattle.papaya_run_shell.specs.declared.failure.Failure.TheVariants as failure
use Rattle.papaya_run_lines.specs.Lines.{IsNextLine, lines_of}
use Rattle.papaya_run_lines.specs.Printed.{text_of}
use Rattle.papaya_run_lines.specs.Runs.{HasBad, IsRun, Prints, Wrote}
use Rattle.papaya_run_lines.specs.declared.printed.Printed.{Printed}

module _ {S : Type 0} (does : S → List ℕ → Printed → S → Type 0) where
  -- some lines, then others
  pub prints_both : (s m s' : S) (xs ys : List (List ℕ)) (t u : List ℕ) → Prints does s xs t m → Prints does m ys u s' → Prints does s (xs ++ ys) (t ++ u) s'
  prints_both s m s' [] ys t u (none, same) then = subst (λ l. Prints does s ys (l ++ u) s') (sym none) (subst (λ z. Prints does z ys u s') same then)
  prints_both s m s' ([] ∷ lines) ys t u first then = prints_both s m s' lines ys t u first then
  prints_both s m s' ((b ∷ bs) ∷ lines) ys t u (reply, middle, rest, done, first, is) then =
      (reply, middle, rest ++ u, done, prints_both middle m s' lines ys rest u first then, ap (λ l. l ++ u) is ∙ append_assoc (text_of reply) (10 ∷ rest) u)

  -- `n` lines of a text were done since the first state, and the text that they print was written.
  -- The rest is left.
  pub record SoFar (first now : S) (wrote : List ℕ → Type 0) (n : ℕ) (left : Option (List ℕ)) (text : List ℕ) : Type 0 where
    pub rest : List ℕ
    pub left_is : left ≡ Some rest
    pub done : List (List ℕ)
    pub parts : lines_of text ≡ done ++ lines_of rest
    pub number : length done + 1 ≡ n
    pub printed : List ℕ
    pub prints : Prints does first done printed now
    pub written : wrote printed

  pub none_done : (s : S) (wrote : List ℕ → Type 0) (known : Option (List ℕ)) → wrote [] → IfSome known (SoFar s s wrote 1 known)
  none_done s wrote None none = tt
  none_done s wrote (Some text) none = record {
    rest = text;
    left_is = refl;
    done = [];
    parts = refl;
    number = refl;
    printed = [];
    prints = (refl, refl);
    written = none;
  }

  -- a text that is left, if it is known
  told : (P : List ℕ → Type 0) (left : Option (List ℕ)) (rest : List ℕ) → left ≡ Some rest → IfSome left P → P rest
  told P left rest is h = subst (λ o. IfSome o P) is h

  -- a line was read and done
  pub one_done : (first now next : S) (wrote wrote_now : List ℕ → Type 0) (n : ℕ) (known left left' : Option (List ℕ)) (line : List ℕ) (more : Bool)
      → IfSome known (SoFar first now wrote n left) → IfSome left (λ text. IsNextLine text more line left') → more ≡ true
      → (text : List ℕ) × Prints does now (line ∷ []) text next × ((before : List ℕ) → wrote before → wrote_now (before ++ text))
      → IfSome known (SoFar first next wrote_now (n + 1) left')
  one_done first now next wrote wrote_now n None left left' line more far read was one = tt
  one_done first now next wrote wrote_now n (Some known) left left' line more far read was (text, prints, written) =
      let (rest, left_is, split) : IsNextLine far.rest true line left' = subst (λ b. IsNextLine far.rest b line left') was
      (told (λ text. IsNextLine text more line left') left far.rest far.left_is read) in
      record {
        rest = rest;
        left_is = left_is;
        done = far.done ++ line ∷ [];
        parts = far.parts ∙ ap (λ l. far.done ++ l) split ∙ sym (append_assoc far.done (line ∷ []) (lines_of rest));
        number = omega (arith, length-append far.done (line ∷ []), far.number);
        printed = far.printed ++ text;
        prints = prints_both first now next far.done (line ∷ []) far.printed text far.prints prints;
        written = written far.printed far.written;
      }

  -- no line is left
  pub all_done : (is_bad : List ℕ → Type 0) (first now : S) (wrote wrote_now : List ℕ → Type 0) (n : ℕ) (known left left' : Option (List ℕ))
      (line : List ℕ) (more : Bool)
      → IfSome known (SoFar first now wrote n left) → IfSome left (λ text. IsNextLine text more line left') → more ≡ false
      → ((before : List ℕ) → wrote before → wrote_now before)
      → IfSome known (λ text. IsRun (λ s. s ≡ first) does is_bad (lines_of text) wrote_now (Ok tt))
  all_done is_bad first now wrote wrote_now n None left left' line more far read was kept = tt
  all_done is_bad first now wrote wrote_now n (Some known) left left' line more far read was kept =
      let none : lines_of far.rest ≡ [] = subst (λ b. IsNextLine far.rest b line left') was
      (told (λ text. IsNextLine text more line left') left far.rest far.left_is read) in
      let whole : far.done ≡ lines_of known = sym (append-nil far.done) ∙ ap (λ l. far.done ++ l) (sym none) ∙ sym far.parts in
      (first, now, far.printed, refl, subst (λ l. Prints does first l far.printed now) whole far.prints, kept far.printed far.written)

  -- a line was not done
  pub one_failed : (is_bad : List ℕ → Type 0) (first now : S) (wrote wrote_now : List ℕ → Type 0) (n : ℕ) (known left left' : Option (List ℕ))
      (line : List ℕ) (more : Bool) (why : Failure) (ended : Result (Unit {0}) Failure)
      → IfSome known (SoFar first now wrote n left) → IfSome left (λ text. IsNextLine text more line left') → more ≡ true
      → (why ≡ failure.Output) ⊎ ((why ≡ without_memory)
      ⊎ ((why ≡ failure.Line n) × (line ≢ []) × is_bad line × ((before : List ℕ) → wrote before → wrote_now before)))
      → IsErrAnd ended (λ told. told ≡ why)
      → IfSome known (λ text. IsRun (λ s. s ≡ first) does is_bad (lines_of text) wrote_now ended)
  one_failed is_bad first now wrote wrote_now n None left left' line more why ended far read was one is = tt
  one_failed is_bad first now wrote wrote_now n (Some known) left left' line more why (Ok done) far read was one is = absurd is
  one_failed is_bad first now wrote wrote_now n (Some known) left left' line more why (Err told_why) far read was (inl why_is)
      is = subst (λ f. IsRun (λ s. s ≡ first) does is_bad (lines_of known) wrote_now (Err f)) (sym (is ∙ why_is)) tt
  one_failed is_bad first now wrote wrote_now n (Some known) left left' line more why (Err told_why) far read was (inr (inl why_is))
      is = subst (λ f. IsRun (λ s. s ≡ first) does is_bad (lines_of known) wrote_now (Err f)) (sym (is ∙ why_is)) tt
  one_failed is_bad first now wrote wrote_now n (Some known) left left' line more why (Err told_why) far read was (inr (inr (why_is, some, bad, kept))) is =
      let (rest, left_is, split) : IsNextLine far.rest true line left' = subst (λ b. IsNextLine far.rest b line left') was
      (told (λ text. IsNextLine text more line left') left far.rest far.left_is read) in
      let here : HasBad is_bad (lines_of known) far.done
      n = record { line = line; after = lines_of rest; parts = far.parts ∙ ap (λ l. far.done ++ l) split; number = far.number; some = some; bad = bad } in
      subst (λ f. IsRun (λ s. s ≡ first) does is_bad (lines_of known) wrote_now (Err f)) (sym (is ∙ why_is))
      (far.done, here, (first, now, far.printed, refl, far.prints, kept far.printed far.written))

  -- the reason why a line was not done, with the text that was written before
  pub why_failed : (is_bad : List ℕ → Type 0) (n : ℕ) (line : List ℕ) (why : Failure) (wrote wrote_now : List ℕ → Type 0) {B W : Type 0} (b b' : B) (w w' : W)
      → (why ≡ failure.Output) ⊎ ((why ≡ without_memory) ⊎ ((why ≡ failure.Line n) × (line ≢ []) × is_bad line × (b' ≡ b) × (w' ≡ w)))
      → (w' ≡ w → (before : List ℕ) → wrote before → wrote_now before)
      → (why ≡ failure.Output) ⊎ ((why ≡ without_memory)
      ⊎ ((why ≡ failure.Line n) × (line ≢ []) × is_bad line × ((before : List ℕ) → wrote before → wrote_now before)))
  why_failed is_bad n line why wrote wrote_now b b' w w' (inl is) kept = inl is
  why_failed is_bad n line why wrote wrote_now b b' w w' (inr (inl is)) kept = inr (inl is)
  why_failed is_bad n line why wrote wrote_now b b' w w' (inr (inr (is, some, bad, same, left))) kept = inr (inr (is, some, bad, kept left))

  -- a run whose lines are written further
  pub run_later : (is_bad : List ℕ → Type 0) (first : S → Type 0) (lines : List (List ℕ)) (wrote wrote_now : List ℕ → Type 0)
      (ended : Result (Unit {0}) Failure)
      → ((text : List ℕ) → wrote text → wrote_now text) → IsRun first does is_bad lines wrote ended → IsRun first does is_bad lines wrote_now ended
  run_later is_bad first lines wrote wrote_now (Ok done) later (s, s', text, begins, prints, written) = (s, s', text, begins, prints, later text written)
  run_later is_bad first lines wrote wrote_now (Err (failure.Line n)) later
      (before, here, (s, s', text, begins, prints, written)) = (before, here, (s, s', text, begins, prints, later text written))
  run_later is_bad first lines wrote wrote_now (Err failure.Arguments) later run = run
  run_later is_bad first lines wrote wrote_now (Err (failure.Refused why)) later run = run
  run_later is_bad first lines wrote wrote_now (Err failure.Disagreement) later run = run
  run_later is_bad first lines wrote wrote_now (Err failure.Clock) later run = run
  run_later is_bad first lines wrote wrote_now (Err failure.Input) later run = run
  run_later is_bad first lines wrote wrote_now (Err failure.Output) later run = run

  pub run_known : (is_bad : List ℕ → Type 0) (first : S → Type 0) (wrote wrote_now : List ℕ → Type 0) (ended : Result (Unit {0}) Failure)
      (known : Option (List ℕ))
      → ((text : List ℕ) → wrote text → wrote_now text) → IfSome known (λ text. IsRun first does is_bad (lines_of text) wrote ended)
      → IfSome known (λ text. IsRun first does is_bad (lines_of text) wrote_now ended)
  run_known is_bad first wrote wrote_now ended None later run = tt
  run_known is_bad first wrote wrote_now ended (Some text) later run = run_later is_bad first (lines_of text) wrote wrote_now ended later run

-- a fact about a value still holds if its failure is described in other words
pub ok_kept : {T E F : Type 0} (r : Result T E) (told : Result T F) (x : T) (P : T → Type 0) (Q : E → Type 0)
    → told ≡ Ok x → MatchResult r (λ y. told ≡ Ok y) Q → ((e : E) → Q e → ⊥) → IfOk r P → P x
ok_kept {F = F} (Ok y) told x P Q is was never h = subst (λ (o : Result _ F). IfOk o P) (sym was ∙ is) h
ok_kept (Err e) told x P Q is was never h = absurd (never e was)

-- a reader with an empty buffer before it
pub behind_buffer : (capacity : ℕ) (buffer : List ℕ) (known left : Option (List ℕ)) → capacity ≡ 8192 → buffer ≡ [] → left ≡ known
    → cond (eqb capacity 0) None (prepend_known buffer left) ≡ known
behind_buffer capacity buffer None left some none is = ap (λ n. cond (eqb n 0) None (prepend_known buffer left)) some ∙ ap (prepend_known buffer) is
behind_buffer capacity buffer (Some xs) left some none is = ap (λ n. cond (eqb n 0) None (prepend_known buffer left)) some
    ∙ ap (λ l. prepend_known l left) none ∙ ap (prepend_known []) is

-- lines that are done, in another view of the state
module _ {S T : Type 0} (see : S → T) (does : S → List ℕ → Printed → S → Type 0) (shows : T → List ℕ → Printed → T → Type 0)
    (each : (s : S) (line : List ℕ) (reply : Printed) (s' : S) → does s line reply s' → shows (see s) line reply (see s')) where
  prints_as : (s : S) (lines : List (List ℕ)) (text : List ℕ) (s' : S) → Prints does s lines text s' → Prints shows (see s) lines text (see s')
  prints_as s [] text s' (none, same) = (none, ap see same)
  prints_as s ([] ∷ lines) text s' h = prints_as s lines text s' h
  prints_as s ((b ∷ bs) ∷ lines) text s' (reply, middle, rest, done, later, is) =
      (reply, see middle, rest, each s (b ∷ bs) reply middle done, prints_as middle lines rest s' later, is)

  module _ (first : S → Type 0) (begins : T → Type 0) (begun : (s : S) → first s → begins (see s)) where
    wrote_as : (lines : List (List ℕ)) (wrote : List ℕ → Type 0) → Wrote first does lines wrote → Wrote begins shows lines wrote
    wrote_as lines wrote (s, s', text, at_first, prints, written) = (see s, see s', text, begun s at_first, prints_as s lines text s' prints, written)

    run_as : (is_bad : List ℕ → Type 0) (lines : List (List ℕ)) (wrote : List ℕ → Type 0) (ended : Result (Unit {0}) Failure)
        → IsRun first does is_bad lines wrote ended → IsRun begins shows is_bad lines wrote ended
    run_as is_bad lines wrote (Ok done) run = wrote_as lines wrote run
    run_as is_bad lines wrote (Err (failure.Line n)) (before, here, run) = (before, here, wrote_as before wrote run)
    run_as is_bad lines wrote (Err failure.Arguments) run = run
    run_as is_bad lines wrote (Err (failure.Refused why)) run = run
    run_as is_bad lines wrote (Err failure.Disagreement) run = run
    run_as is_bad lines wrote (Err failure.Clock) run = run
    run_as is_bad lines wrote (Err failure.Input) run = run
    run_as is_bad lines wrote (Err failure.Output) run = run

    pub known_as : (is_bad : List ℕ → Type 0) (wrote : List ℕ → Type 0) (ended : Result (Unit {0}) Failure) (known : Option (List ℕ))
        → IfSome known (λ text. IsRun first does is_bad (lines_of text) wrote ended)
        → IfSome known (λ text. IsRun begins shows is_bad (lines_of text) wrote ended)
    known_as is_bad wrote ended None run = tt
    known_as is_bad wrote ended (Some text) run = run_as is_bad (lines_of text) wrote ended run
