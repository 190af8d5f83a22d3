-- The write of an insertion at one place.
use Rattle.std.specs.Prelude.{ℕ, ◌==◌, if◌then◌else◌, Option, Some, None}
use Rattle.papaya_words.specs.Word.{hint_of, live_word}
use Rattle.papaya_call.specs.declared.ask.At.TheVariants.{Slot}
use Rattle.papaya_call.specs.declared.ask.Ask.{Ask}
use Rattle.papaya_call.specs.declared.ask.Ask.TheVariants.{Exchange, WriteHint}
use Rattle.papaya_call.specs.declared.ask.StepKind.{StepKind}
use Rattle.papaya_call.specs.declared.ask.StepKind.TheVariants.{Claim, Replace}
use Rattle.papaya_call.specs.declared.search.Place.{Place}
use Rattle.papaya_call.specs.declared.made.Grown.{Grown}
use Rattle.papaya_call.specs.declared.made.Grown.TheVariants.{On, Pair}
use Rattle.papaya_call.specs.declared.made.Made.{Made}
use Rattle.papaya_call.specs.declared.made.Of.{Of}
use Rattle.papaya_call.specs.declared.write.Claimed.{Claimed}
use Rattle.papaya_call.specs.declared.write.Write.{Write}
use Rattle.papaya_call.specs.Made.{grown, pair_ask, serves_at}

-- pair n, which was made with the key that is at the write's place
abbrev pub made_of : Write → ℕ → Of
made_of write n = record { pair = n; table = write.place.table; index = write.place.probe.i }

-- the pair that was made with the key at this place, if there is one
abbrev pub served_of : Option Of → Place → Option ℕ
served_of None at = None
served_of (Some of) at = if serves_at of at.table at.probe.i then Some of.pair else None

-- the pair that an insertion made and may write at the place, if there is one
abbrev pub serves : Made → Write → Option ℕ
serves made write = if write.old == 0 then made.own else served_of made.of write.place

-- the exchange that writes pair n at the place
abbrev pub put_ask : Write → ℕ → Ask
put_ask write n = Exchange (Slot write.place.table write.place.probe.i) write.old (live_word n)

-- what a write asks next: for what its pair still needs, and then for the exchange
abbrev pub served_ask : Option ℕ → Write → Made → Ask
served_ask None write made = pair_ask made write.old
served_ask (Some n) write made = put_ask write n

abbrev pub write_ask : Write → Made → Ask
write_ask write made = served_ask (serves made write) write made

-- what a call has made once pair n was made for the place
abbrev pub with_pair_at : Made → Write → ℕ → Made
with_pair_at made write n = if write.old == 0 then record made { own = Some n }
    else record made { of = Some (made_of write n) }

-- what an insertion has made after one more thing was made: a key, a value, or pair n for its place
abbrev pub made_to_write : Grown → Write → ℕ → Made
made_to_write (On made) write n = made
made_to_write (Pair made) write n = with_pair_at made write n

abbrev pub write_grown : Option ℕ → Made → Write → ℕ → Made
write_grown None made write n = made_to_write (grown made write.old) write n
write_grown (Some m) made write n = made

-- the kind of a write: an empty slot is claimed, and a pair is replaced
abbrev pub write_kind : Write → StepKind
write_kind write = if write.old == 0 then Claim else Replace

-- pair n was claimed at the place of the write
abbrev pub claimed_by : Write → ℕ → Claimed
claimed_by write n = record { place = write.place; pair = n }

-- the ask to write the hint of a claimed pair, whose key has this hash
abbrev pub note_ask : Claimed → ℕ → Ask
note_ask claimed hash = WriteHint claimed.place.table claimed.place.probe.i (hint_of hash)
