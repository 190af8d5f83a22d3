-- The text of a reply.
use Rattle.std.specs.Prelude.{List, ℕ, ◌∷◌, ◌++◌, codes}
use Rattle.std.specs.Fmt.{decimal}
use Rattle.papaya_words.specs.Refusals.{number_of, name_of}
use Rattle.papaya_run_lines.specs.Walk.{pairs_text}
use Rattle.papaya_run_lines.specs.declared.printed.Printed.{Printed}
use Rattle.papaya_run_lines.specs.declared.printed.Printed.TheVariants as printed

-- A word, followed by what the reply has: a number in decimal digits, the entries of an iteration,
-- or the cause of a refusal.
abbrev pub text_of : Printed → List ℕ
text_of printed.Absent = codes "none"
text_of (printed.Found value) = codes "some " ++ decimal value
text_of (printed.Old value) = codes "old " ++ decimal value
text_of (printed.New value) = codes "new " ++ decimal value
text_of (printed.Removed value) = codes "removed " ++ decimal value
text_of (printed.Length count) = codes "len " ++ decimal count
text_of (printed.Slots count) = codes "slots " ++ decimal count
text_of (printed.Walk pairs) = codes "walk" ++ pairs_text pairs
text_of printed.Done = codes "ok"
text_of (printed.Refused refused) = codes "refused " ++ decimal (number_of refused) ++ 32
    ∷ name_of refused
