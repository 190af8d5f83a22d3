-- How many tables may still be made and words exchanged, as a backend counts it.
use Rattle.std.specs.Prelude.{◌≡◌, ◌⊎◌, ℕ, ◌<◌, Option, Some}
use Rattle.papaya_call.specs.declared.ask.Answer.{Answer as Call_answer}
use Rattle.papaya_call.specs.declared.ask.Ask.{Ask as Call_ask}
use Rattle.papaya_call.specs.declared.ask.Ask.TheVariants as call_asks
use Rattle.papaya_call.specs.declared.ask.StepKind.{StepKind}
use Rattle.papaya_call.specs.declared.ask.StepKind.TheVariants.{Replace, Take}
use Rattle.papaya_call.specs.declared.ask.Answer.TheVariants.{Exchanged, Made as Made_number}
use Rattle.papaya_call.specs.declared.copy_ask.CopyAsk.{CopyAsk}
use Rattle.papaya_call.specs.declared.copy_ask.CopyAsk.TheVariants.{Exchange, MakeTable}
use Rattle.papaya_call.specs.declared.chain.ask.Ask.{Ask}
use Rattle.papaya_call.specs.declared.chain.ask.Ask.TheVariants as asks
use Rattle.papaya_call.specs.declared.chain.ask.Answer.{Answer}
use Rattle.papaya_call.specs.declared.chain.ask.Answer.TheVariants as answers

pub record Budget : Type 0 where
  pub tables : ℕ
  pub exchanges : ℕ

-- fewer tables are left, or as many tables and fewer exchanges
abbrev pub IsSpent : Budget → Budget → Type 0
IsSpent before later = (later.tables < before.tables)
    ⊎ ((later.tables ≡ before.tables) × (later.exchanges < before.exchanges))

-- what an answer to an ask of a copy spends: a table if one was made, an exchange if one succeeded,
-- and otherwise nothing
abbrev pub SpendsCopy : CopyAsk → Answer → Budget → Budget → Type 0
SpendsCopy (MakeTable slots limit chunks) (answers.Call (Made_number n)) before later =
    later.tables < before.tables
SpendsCopy (Exchange at old new) (answers.Call Exchanged) before later =
    (later.tables ≡ before.tables) × (later.exchanges < before.exchanges)
SpendsCopy ask answer before later = later ≡ before

-- an exchange of a call spends one, unless a pair replaces another, or a number is taken for a pair
abbrev pub SpendsExchange : Option StepKind → Budget → Budget → Type 0
SpendsExchange (Some Replace) before later = later ≡ before
SpendsExchange (Some Take) before later = later ≡ before
SpendsExchange _ before later = (later.tables ≡ before.tables)
    × (later.exchanges < before.exchanges)

abbrev pub SpendsCall : Option StepKind → Call_ask → Call_answer → Budget → Budget → Type 0
SpendsCall kind (call_asks.MakeTable slots limit chunks) (Made_number n) before later =
    later.tables < before.tables
SpendsCall kind (call_asks.Exchange at old new) Exchanged before later =
    SpendsExchange kind before later
SpendsCall kind ask answer before later = later ≡ before

-- what an answer spends: nothing, unless a table was made or an exchange succeeded
abbrev pub Spends : Option StepKind → Ask → Answer → Budget → Budget → Type 0
Spends kind (asks.Call ask) (answers.Call told) before later = SpendsCall kind ask told before later
Spends kind (asks.Copy ask) answer before later = SpendsCopy ask answer before later
Spends kind ask answer before later = later ≡ before
