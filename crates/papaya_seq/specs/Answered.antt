-- The results of calls that borrow the map, with values in place of the references.
use Rattle.std.specs.Prelude.{◌≡◌, Option, Some, Result, Ok, Err, option_map}
use Rattle.std.specs.Borrow.{Bor}
use Rattle.papaya_words.specs.declared.refused.Refused.{Refused}
use Rattle.papaya_seq.specs.Map.{deref_pair}
use Rattle.papaya_words_keys.specs.declared.results.Computed.{Computed}
use Rattle.papaya_words_keys.specs.declared.results.Computed.TheVariants.{Inserted, Updated, Removed, Aborted}

-- the value that the result refers to, or the refusal
abbrev pub value_answered : {V : Type 0} → Result (Bor V) Refused → Result V Refused
value_answered (Ok shown) = Ok shown.now
value_answered (Err refused) = Err refused

-- the value that the result refers to, if there is one, or the refusal
abbrev pub old_answered : {V : Type 0} → Result (Option (Bor V)) Refused → Result (Option V) Refused
old_answered (Ok shown) = Ok (option_map (λ v. v.now) shown)
old_answered (Err refused) = Err refused

-- the entry that the result refers to, if there is one, or the refusal
abbrev pub entry_answered : {K V : Type 0} → Result (Option (Bor K × Bor V)) Refused
    → Result (Option (K × V)) Refused
entry_answered (Ok shown) = Ok (option_map deref_pair shown)
entry_answered (Err refused) = Err refused

-- the entry that was removed, if there was one, the entry that stays, or the refusal
abbrev pub judged_answered : {K V : Type 0} → Result
    (Result (Option (Bor K × Bor V)) (Bor K × Bor V)) Refused
    → Result (Result (Option (K × V)) (K × V)) Refused
judged_answered (Ok (Ok removed)) = Ok (Ok (option_map deref_pair removed))
judged_answered (Ok (Err kept)) = Ok (Err (deref_pair kept))
judged_answered (Err refused) = Err refused

-- the result of a compute, without the value that its closure aborted with
abbrev pub answer_without : {R T : Type 0} → Result (Computed R T) Refused
    → Result (Computed R (Unit {0})) Refused
answer_without (Ok (Inserted q)) = Ok (Inserted q)
answer_without (Ok (Updated p q)) = Ok (Updated p q)
answer_without (Ok (Removed p)) = Ok (Removed p)
answer_without (Ok (Aborted t)) = Ok (Aborted tt)
answer_without (Err refused) = Err refused

-- what a compute leaves in the place for the value of an abort: that value if its closure aborted,
-- and otherwise what was there
abbrev pub left_in : {R T : Type 0} → Result (Computed R T) Refused → Option T → Option T
left_in (Ok (Inserted q)) was = was
left_in (Ok (Updated p q)) was = was
left_in (Ok (Removed p)) was = was
left_in (Ok (Aborted t)) was = Some t
left_in (Err refused) was = was

-- the result of a compute is split in two: `shown` is the result without the value of an abort, and
-- `now` is what is left in the place for that value
abbrev pub IsParted : {R T : Type 0} → Result (Computed R T) Refused
    → Result (Computed R (Unit {0})) Refused → Option T → Option T → Type 0
IsParted answer shown was now = (shown ≡ answer_without answer) × (now ≡ left_in answer was)
