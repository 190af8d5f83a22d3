-- The printed form of a core's replies.
use Rattle.std.specs.Prelude.{ℕ, Bool, true, false, Option, Some, option_map}
use Rattle.papaya_call.specs.declared.call.Reply.{Reply}
use Rattle.papaya_call.specs.declared.call.Reply.TheVariants.{Absent, Found, Inserted, Replaced, Occupied, Removed, Kept, Aborted, Done, Refused}
use Rattle.papaya_core_store.specs.Store.{StoreState, pair_of}
use Rattle.papaya_run_lines.specs.declared.printed.Printed.{Printed}
use Rattle.papaya_run_lines.specs.declared.printed.Printed.TheVariants as printed

-- The value of the pair of this number, if there is one.
abbrev pub value_in : {S : Type 0} → StoreState ℕ ℕ S → ℕ → Option ℕ
value_in s n = option_map (λ p. p.value) (pair_of s n)

-- The printed form of a replacement: the new value for an update, and the old one for any other
-- call.
abbrev pub replaced_by : {S : Type 0} → StoreState ℕ ℕ S → Bool → (old new : ℕ) → Option Printed
replaced_by s true old new = option_map (λ v. printed.New v) (value_in s new)
replaced_by s false old new = option_map (λ v. printed.Old v) (value_in s old)

-- The printed form of a reply of an update or of another call, with the entries of this store.
abbrev pub printed_of : {S : Type 0} → StoreState ℕ ℕ S → Bool → Reply → Option Printed
printed_of s is_update Absent = Some printed.Absent
printed_of s is_update (Inserted n) = Some printed.Absent
printed_of s is_update (Kept n) = Some printed.Absent
printed_of s is_update (Aborted t) = Some printed.Absent
printed_of s is_update (Found n) = option_map (λ v. printed.Found v) (value_in s n)
printed_of s is_update (Occupied n) = option_map (λ v. printed.Found v) (value_in s n)
printed_of s is_update (Replaced old new) = replaced_by s is_update old new
printed_of s is_update (Removed n) = option_map (λ v. printed.Removed v) (value_in s n)
printed_of s is_update (Refused refused) = Some (printed.Refused refused)
printed_of s is_update Done = Some printed.Done
