-- The effect of a changing call on the words of slots, whose exchanges its window records.
use Rattle.std.specs.Prelude.{◌≡◌, Bool, true, false, is_some, Option, Some}
use Rattle.papaya_call.specs.declared.ask.Answer.{Answer}
use Rattle.papaya_call.specs.declared.ask.Answer.TheVariants.{Exchanged}
use Rattle.papaya_call.specs.declared.ask.Ask.{Ask}
use Rattle.papaya_call.specs.declared.ask.Ask.TheVariants.{Exchange}
use Rattle.papaya_call.specs.declared.ask.At.TheVariants.{Slot}
use Rattle.papaya_call.specs.declared.chain.machine.Machine.{Machine}
use Rattle.papaya_call_law.specs.Followed.{IsCounting}
use Rattle.papaya_call_law.specs.Relies.{change_in}
use Rattle.papaya_map_book.specs.declared.keyed.Keyed as keyed
use Rattle.papaya_map_book.specs.declared.window.Window.{Window}
use Rattle.papaya_map_book.specs.Windows.{Does}

-- Whether the exchange succeeded.
abbrev pub was_made : Answer → Bool
was_made Exchanged = true
was_made _ = false

-- Whether an exchange of a slot succeeded.
abbrev pub exchanged : Ask → Option Answer → Bool
exchanged (Exchange (Slot t x) old new) (Some answer) = was_made answer
exchanged _ _ = false

-- Whether the call has changed the map.
abbrev pub has_changed : Machine → Bool
has_changed m = is_some (change_in m.call.state)

module _ {K V S H : Type 0} {d : keyed.Ghosts S K H} where
  -- The effect of a call whose machine asks `ask` and gets `answer`: one exchange of a slot, if the
  -- ask was one that succeeded, and else none. If only the count is left to update, the call
  -- observes no more of the log.
  pub record Answers (ask : Ask) (answer : Option Answer)
      (old new : Window K V S H d) : Type 0 where
    pub does : Does (exchanged ask answer) old new
    pub still : IsCounting ask → new.sight.log ≡ old.sight.log
