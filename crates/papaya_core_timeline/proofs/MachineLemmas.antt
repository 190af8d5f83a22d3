-- The laws of machines that are not about words, for every machine.
use Rattle.std.proofs.Common.{rules, ◌≡◌, ◌⊎◌, inl, inr, ℕ, true, Option, None, Some, sym, ◌∙◌, ap, subst, List}
use Rattle.papaya_words.specs.Word.{pair_of}
use Rattle.papaya_call.specs.declared.ask.At.{At}
use Rattle.papaya_call.specs.declared.ask.At.TheVariants.{Root}
use Rattle.papaya_call.specs.declared.ask.Ask.TheVariants.{Exchange as Ask_exchange, ShowNone, ShowPair, MakeTable, Done as Ask_done}
use Rattle.papaya_call.specs.declared.ask.Answer.{Answer}
use Rattle.papaya_call.specs.declared.ask.Answer.TheVariants.{Made as Made_number}
use Rattle.papaya_call.specs.declared.ask.StepKind.{StepKind}
use Rattle.papaya_call.specs.declared.ask.StepKind.TheVariants as kinds
use Rattle.papaya_call.specs.declared.call.Reply.{Reply}
use Rattle.papaya_call.specs.declared.call.Task.{Task}
use Rattle.papaya_call.specs.declared.call.Task.TheVariants.{Insert, Compute}
use Rattle.papaya_call.specs.declared.machine.Machine.{Machine}
use Rattle.papaya_call.specs.declared.remove.Removal.{Removal}
use Rattle.papaya_call.specs.declared.machine.State.TheVariants.{Burying}
use Rattle.papaya_words_law.specs.Exchange.{Setting, Exchange}
use Rattle.papaya_words_law.specs.Code.{Coding, IsLawfulCoding}
use Rattle.papaya_call.specs.Machine.{HasClosure, IsValid, IsChanger, MayInsert, ask_of, kind_of_ask, after}
use Rattle.papaya_call_law.specs.Relies.{Relies, ReliesStage, IsReply, WasAtMoment, change_in, change_of_reply}
use Rattle.papaya_call_law.specs.Says.{result_in, result_in_reply}
use Rattle.papaya_call_law.specs.TrueAnswers.{LoadedPairs}
use Rattle.papaya_words_law.specs.Code.{IsHashed}
use Rattle.papaya_words_law.proofs.Codes.{code_pair}
use Rattle.papaya_call_law.proofs.ReliesHeld.{machine_replies as replied}
use Rattle.papaya_call_law.proofs.ReliesOpened.{machine_opened}
use Rattle.papaya_core_timeline.specs.declared.trace.Event.TheVariants.{Changed}
use Rattle.papaya_core_timeline.specs.Advances.{call_event}

-- an exchange comes before any change
pub machine_once : (m : Machine) (at : At) (old new : ℕ) → ask_of m ≡ Ask_exchange at old new → change_in m.state ≡ None
machine_once m at old new e = search rules

-- a machine that asks to open a table asked for that before, or the table was just made at its
-- request
pub machine_opens : (m : Machine) (answer : Answer) (t : ℕ) → ask_of (after m answer) ≡ Ask_exchange Root 0 t → (ask_of m ≡ Ask_exchange Root 0 t)
    ⊎ ((answer ≡ Made_number t) × (slots : ℕ) × (limit : ℕ) × (chunks : ℕ) × (ask_of m ≡ MakeTable slots limit chunks))
machine_opens m answer t e = swapped (machine_opened m t answer e)
  where
    swapped : ((answer ≡ Made_number t) × ((slots : ℕ) × (limit : ℕ) × (ask_of m ≡ MakeTable slots limit 0))) ⊎ (ask_of m ≡ Ask_exchange Root 0 t)
        → (ask_of m ≡ Ask_exchange Root 0 t) ⊎ ((answer ≡ Made_number t) × (slots : ℕ) × (limit : ℕ) × (chunks : ℕ) × (ask_of m ≡ MakeTable slots limit chunks))
    swapped (inl (is, (slots, limit, making))) = inr (is, slots, limit, 0, making)
    swapped (inr opens) = inl opens

-- a call asks for a deletion only if its closure agreed
machine_burying : (m : Machine) (at : At) (old new : ℕ) → kind_of_ask m ≡ Some kinds.Bury → ask_of m ≡ Ask_exchange at old new
    → (removal : Removal) × (m.state ≡ Burying removal) × (removal.word ≡ old)
machine_burying m at old new kind e = search rules

-- a reply depends on the result of the closure, if it contains one
pub machine_says : (m : Machine) (reply : Reply) → ask_of m ≡ Ask_done reply → result_in m.task m.state ≡ result_in_reply m.task reply
machine_says m reply e = search rules

module _ {K P : Type 0} (g : Setting K P) (c : Coding K P) (begun since : List (Exchange P)) (k : K) where
  -- if a machine has replied, the reply is one of its task
  pub machine_replies : (m : Machine) (loaded : LoadedPairs P) → Relies g c begun since k m loaded → (reply : Reply) → ask_of m ≡ Ask_done reply
      → IsReply g c begun since k loaded m.task reply × (change_in m.state ≡ change_of_reply reply)
  machine_replies m loaded relies reply e = replied g c begun since k loaded m relies reply e

  -- a pair with which a closure is called is the last one loaded, has the call's key, and was in
  -- the map at some point of the call
  pub machine_shows : (hashed : IsHashed g c) (m : Machine) (loaded : LoadedPairs P) → Relies g c begun since k m loaded → (n : ℕ)
      → ask_of m ≡ ShowPair n → (p : P) × (loaded.last ≡ Some p) × (c.number p ≡ n) × (g.same k (g.key p) ≡ true) × WasAtMoment g c begun since k (Some p)
  machine_shows hashed m loaded relies n e = search rules

  -- the closure is called with `None` if its key was absent at some point of the call
  pub machine_shows_none : (m : Machine) (loaded : LoadedPairs P) → Relies g c begun since k m loaded → ask_of m ≡ ShowNone → WasAtMoment g c begun since k None
  machine_shows_none m loaded relies e = search rules

  -- and only the closure of a compute
  pub machine_offers : (m : Machine) (loaded : LoadedPairs P) → Relies g c begun since k m loaded → ask_of m ≡ ShowNone → m.task ≡ Compute
  machine_offers m loaded relies e = search rules

  -- only an insertion that replaces and a compute ask to put a pair in place of another
  pub machine_replaces : (m : Machine) (loaded : LoadedPairs P) → Relies g c begun since k m loaded → kind_of_ask m ≡ Some kinds.Replace
      → (m.task ≡ Insert true) ⊎ (m.task ≡ Compute)
  machine_replaces m loaded relies e = search rules

  -- only a removal and a compute ask to delete a pair, and that is their key's
  pub record IsTaken (loaded : LoadedPairs P) (task : Task) (old : ℕ) : Type 0 where
    pub removes : HasClosure task
    pub pair : P
    pub last : loaded.last ≡ Some pair
    pub number : c.number pair ≡ pair_of old
    pub same : g.same k (g.key pair) ≡ true

  pub machine_takes : (coding : IsLawfulCoding g c) (m : Machine) (loaded : LoadedPairs P) → Relies g c begun since k m loaded
      → kind_of_ask m ≡ Some kinds.Bury → (at : At) (old new : ℕ) → ask_of m ≡ Ask_exchange at old new → IsTaken loaded m.task old
  machine_takes coding m loaded relies kind at old new e =
      let (removal, is, word) = machine_burying m at old new kind e in
      let (removes, r) = subst (ReliesStage g c begun since k loaded m.task) is relies.stage in
      record {
        removes = removes;
        pair = r.pair;
        last = r.last;
        number = sym (code_pair g c coding r.met.was r.pair r.met.names) ∙ sym (ap pair_of r.met.as_loaded) ∙ ap pair_of word;
        same = r.same;
      }

-- an exchange that changes the map is that of a call that may
pub machine_changes : (m : Machine) → IsValid m → (kind : StepKind) (old new : Option ℕ) (answer : Answer)
    → call_event (kind_of_ask m) (ask_of m) answer ≡ Changed kind old new → IsChanger m.task
machine_changes m stands kind old new answer e = search rules

-- and if it puts in a pair, that of one that inserts
pub machine_inserts : (m : Machine) → IsValid m → (kind : StepKind) (old : Option ℕ) (n : ℕ) (answer : Answer)
    → call_event (kind_of_ask m) (ask_of m) answer ≡ Changed kind old (Some n) → MayInsert m.task
machine_inserts m stands kind old n answer e = search rules
