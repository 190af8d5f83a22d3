-- The printed form of the results of maps' calls.
use Rattle.std.specs.Prelude.{ℕ, Option, Some, None, Result, Ok, Err}
use Rattle.papaya_words.specs.declared.refused.Refused.{Refused}
use Rattle.papaya_run_lines.specs.declared.printed.Printed.{Printed}
use Rattle.papaya_run_lines.specs.declared.printed.Printed.TheVariants as printed

-- The printed form of an insertion's result: the value that the key had, if any, or the refusal.
abbrev pub of_insertion : Result (Option ℕ) Refused → Printed
of_insertion (Ok None) = printed.Absent
of_insertion (Ok (Some value)) = printed.Old value
of_insertion (Err refused) = printed.Refused refused

-- The printed form of a lookup's result: the value that the key has, if any.
abbrev pub of_lookup : Option ℕ → Printed
of_lookup None = printed.Absent
of_lookup (Some value) = printed.Found value

-- The printed form of a removal's result: the value that the key had, if any, or the refusal.
abbrev pub of_removal : Result (Option ℕ) Refused → Printed
of_removal (Ok None) = printed.Absent
of_removal (Ok (Some value)) = printed.Removed value
of_removal (Err refused) = printed.Refused refused

-- The printed form of an update's result: the value that it stored, if the key was there, or the
-- refusal.
abbrev pub of_update : Result (Option ℕ) Refused → Printed
of_update (Ok None) = printed.Absent
of_update (Ok (Some value)) = printed.New value
of_update (Err refused) = printed.Refused refused

-- The printed form of the result of a call that returns nothing: that it is done, or the refusal.
abbrev pub of_end : Result (Unit {0}) Refused → Printed
of_end (Ok done) = printed.Done
of_end (Err refused) = printed.Refused refused
