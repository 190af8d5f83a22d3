-- The bytes that were written to a writer, whether its bytes are known or not.
use Rattle.std.proofs.Common.{ℕ, None, Some, List, [], ◌++◌, refl, sym, ap, ◌∙◌, append_assoc}
use Rattle.std.specs.Prelude.{Option}
use Rattle.std.proofs.lemmas.List.{append-nil}
use Rattle.std.specs.Io.KnownBytes.{Appends, Keeps}

-- a writer that keeps its bytes has written nothing
pub appends_none : (a b : Option (List ℕ)) → Keeps a b → Appends a b []
appends_none None b kept = tt
appends_none (Some xs) None kept = absurd kept
appends_none (Some xs) (Some ys) kept = kept ∙ sym (append-nil xs)

pub keeps_same : (a : Option (List ℕ)) → Keeps a a
keeps_same None = tt
keeps_same (Some xs) = refl

-- two texts that were written one after the other
pub appends_both : (a b c : Option (List ℕ)) (t u : List ℕ) → Appends a b t → Appends b c u → Appends a c (t ++ u)
appends_both None b c t u first then = tt
appends_both (Some xs) None c t u first then = absurd first
appends_both (Some xs) (Some ys) None t u first then = absurd then
appends_both (Some xs) (Some ys) (Some zs) t u first then = then ∙ ap (λ l. l ++ u) first ∙ append_assoc xs t u

pub keeps_then : (a b c : Option (List ℕ)) (t : List ℕ) → Appends a b t → Keeps b c → Appends a c t
keeps_then None b c t first kept = tt
keeps_then (Some xs) None c t first kept = absurd first
keeps_then (Some xs) (Some ys) None t first kept = absurd kept
keeps_then (Some xs) (Some ys) (Some zs) t first kept = kept ∙ first
