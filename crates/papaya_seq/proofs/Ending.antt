-- How far a call of a map for one caller is from its end.
use Rattle.std.proofs.Common.{ℕ, suc, Option, None, Some}
use Rattle.papaya_call.specs.declared.call.Reply.{Reply}
use Rattle.papaya_call_alone.specs.Rank.{measure}
use Rattle.papaya_call.specs.declared.chain.machine.Machine.{Machine}
use Rattle.papaya_call.specs.ChainMachine.{ask_of}
use Rattle.papaya_core_timeline.specs.Advances.{reply_in}
use Rattle.papaya_core_timeline.specs.Ends.{budget_of}
use Rattle.papaya_core_store.specs.Store.{StoreState}

-- nothing is left to a call that has replied
abbrev pub left_to : Option Reply → ℕ → ℕ
left_to None n = suc n
left_to (Some reply) n = 0

-- at most this many answers are left to a call alone
abbrev pub left_of : {K V S : Type 0} → StoreState K V S → Machine → ℕ
left_of store m = left_to (reply_in (ask_of m)) (measure (budget_of store) store.words.root m)
