-- Each call that is set aside continues after an answer to its copy's ask, with the table that it
-- then enters.
use Rattle.std.proofs.Common.{◌≡◌, ℕ, Bool, true, MatchOption, List, refl, sym, ap, ◌∙◌, subst}
use Rattle.std.specs.Cmp.{IsEquivalence}
use mathlib.Core.List.{IsPrefix}
use Rattle.logbook.specs.Pages.{Book}
use Rattle.papaya_call.specs.declared.copy_ask.CopyAsk.{CopyAsk}
use Rattle.papaya_call.specs.declared.machine.Machine.{Machine as Call_machine}
use Rattle.papaya_call.specs.declared.chain.ask.Answer.{Answer}
use Rattle.papaya_call.specs.declared.chain.ask.Ask.TheVariants.{Copy}
use Rattle.papaya_call.specs.declared.chain.machine.Machine.{Machine}
use Rattle.papaya_call.specs.declared.chain.machine.Phase.{Phase}
use Rattle.papaya_call.specs.declared.chain.machine.Phase.TheVariants.{Calling, Linking, Copying as Copying_root}
use Rattle.papaya_call.specs.ChainMachine.{after, ask_of, asks_in}
use Rattle.papaya_map_book.specs.declared.rule.entry.Begun.{Begun}
use Rattle.papaya_map_book.specs.declared.rule.entry.Event.{Event}
use Rattle.papaya_map_book.specs.declared.rule.own.CapacityCause.{CapacityCause}
use Rattle.papaya_map_book.specs.Calls.{HasCome, IsTable}
use Rattle.papaya_map_book.specs.Hashes.{hash_of}
use Rattle.papaya_map_book.specs.Limits.{tables_of}
use Rattle.papaya_map_book.specs.Rule.{IsLawfulLog}
use Rattle.papaya_map_book.proofs.Lengths.{tables_since}
use Rattle.papaya_map_change.specs.declared.driver.Driver.{Driver}
use Rattle.papaya_map_change.specs.Changing.{CanGoOn, Continues, IsDriven}
use Rattle.papaya_map_change.specs.Helping.{Copies, HasCopied, IsEntering}
use Rattle.papaya_map_change.proofs.HelpingArrives.{HasReached, arrived, entering_came, reached_past, reached_since}
use Rattle.papaya_map_change.proofs.HelpingLeads.{busy}

module _ {K V S H : Type 0} (eq : K → K → Bool) (input : K → List (List ℕ)) (build : S → H) (write : H → List ℕ → H) (finish : H → ℕ)
    (classes : IsEquivalence eq) (respects : (x y : K) → eq x y ≡ true → input x ≡ input y)
    (b : Begun K V S) (name : Book) (v₀ v : List (Event K V S)) (c₀ c : Driver K V S H)
    (goes : Continues eq (hash_of input build write finish) b name v₀ c₀ v c) (can : CanGoOn eq (hash_of input build write finish) b name v₀ c₀) where
  abbrev hash : S → K → ℕ
  hash = hash_of input build write finish

  -- the call is under way now
  driven : IsDriven eq hash b name can.0 can.1 can.3 can.4 v can.5 c
  driven = goes can.0 can.1 can.2 can.3 can.4 can.5 can.6

  pub goes_now : CanGoOn eq hash b name v c
  goes_now = (can.0, can.1, can.2, can.3, can.4, can.5, driven)

  module _ (log : List (Event K V S)) (c₁ : Driver K V S H) (answer : Answer) (copies : Copies eq hash b name v c log c₁ answer)
      (machine_is : c₁.machine ≡ c.machine) (m : Machine) (answered : m ≡ after c₁.machine answer) where
    -- the state after the answer
    goes_to : m ≡ after c.machine answer
    goes_to = answered ∙ ap (λ (z : Machine). after z answer) machine_is

    to : (n : ℕ) → IsEntering m n → IsEntering (after c.machine answer) n
    to n is = subst (λ (z : Machine). IsEntering z n) goes_to is

    from : (n : ℕ) → IsEntering (after c.machine answer) n → IsEntering m n
    from n is = subst (λ (z : Machine). IsEntering z n) (sym goes_to) is

    -- the answer was for this call too
    copied_now : HasCopied eq hash b name can.0 can.1 can.3 can.4 can.5 log c c₁ answer
    copied_now = copies can.0 can.1 can.2 can.3 can.4 can.5 driven

    pub lawful_now : IsLawfulLog eq hash b log
    lawful_now = copied_now.relies.lawful

    -- the table that it is to search has come
    pub come_now : (n : ℕ) → IsEntering m n → HasCome log n
    come_now n is = entering_came eq input build write finish classes respects b name can.0 can.1 can.2 can.3 can.4 log (after c.machine answer)
        c₁.copier.last c₁.copier.kept can.5 c₁.taken c₁.put c₁.copier.fresh copied_now.relies n (to n is)

    -- then it may have entered a table
    module _ (c₂ : Driver K V S H) (is : c₂ ≡ record c₁ { machine = m; table = c₂.table }) where
      -- it is one answer further
      pub reached_now : (was : Machine) (tables : List ℕ) (given : List CapacityCause) → HasReached c₀.machine was tables given → (ask : CopyAsk)
          → ask_of was ≡ Copy ask → c.machine.call ≡ was.call → (log' : List (Event K V S)) → IsPrefix log log'
          → HasReached c₀.machine c₂.machine (tables_of log') c₂.copier.given.done
      reached_now was tables given reached ask asked same log' pre' =
          subst (λ (z : Driver K V S H). HasReached c₀.machine z.machine (tables_of log') z.copier.given.done) (sym is)
          (subst (λ (z : Machine). HasReached c₀.machine z (tables_of log') c₁.copier.given.done) (sym goes_to)
          (reached_since c₀.machine (after c.machine answer) (tables_of log) (tables_of log') c₁.copier.given.done (tables_since log log' pre')
          (reached_past c₀.machine was c.machine (after c.machine answer) tables (tables_of log) given c₁.copier.given.done reached (busy was ask asked) same
          copied_now.leads)))

      -- and holds that table
      pub goes_further : (log' : List (Event K V S)) → IsPrefix v log → IsPrefix log log' → IsLawfulLog eq hash b log' → c₁.table ≡ c.table
          → ((n : ℕ) → IsEntering m n → MatchOption c₂.table ⊥ (λ z. IsTable log' n z.now)) → (((n : ℕ) → IsEntering m n → ⊥) → c₂.table ≡ c₁.table)
          → Continues eq hash b name v₀ c₀ log' c₂
      goes_further log' pre pre' l' table_is held still =
          let held' : (n : ℕ) → IsEntering (after c.machine answer) n → MatchOption c₂.table ⊥ (λ z. IsTable log' n z.now) = λ n e. held n (from n e) in
          let still' : ((n : ℕ) → IsEntering (after c.machine answer) n → ⊥) → c₂.table ≡ c.table = λ none. still (λ n e. none n (to n e)) ∙ table_is in
          subst (λ (z : Driver K V S H). Continues eq hash b name v₀ c₀ log' z)
          (sym (is ∙ ap (λ (z : Machine). record c₁ { machine = z; table = c₂.table }) goes_to))
          (λ matches fed form k begun made r.
          let now = goes matches fed form k begun made r in let moved = copies matches fed form k begun made now in
          arrived eq input build write finish classes respects b name matches fed form k begun log (after c.machine answer) c₁.copier.last c₁.copier.kept made
          c₁.taken c₁.put c₁.copier.fresh moved.relies v c.machine c.table c.copier.last c.copier.kept c.taken c.put c.copier.fresh now (tables_of log) c₁.copier.given.done
          moved.leads pre log' pre' l' c₂.table held' still')

-- a machine without an ask for a copy is in phase `Calling`
calls_in : (call : Call_machine) (phase : Phase) → ((ask : CopyAsk) → asks_in call phase ≡ Copy ask → ⊥) → phase ≡ Calling
calls_in call Calling none = refl
calls_in call (Linking link) none = absurd (none _ refl)
calls_in call (Copying_root copying) none = absurd (none _ refl)

pub calls : (m : Machine) → ((ask : CopyAsk) → ask_of m ≡ Copy ask → ⊥) → m.phase ≡ Calling
calls m none = calls_in m.call m.phase none
