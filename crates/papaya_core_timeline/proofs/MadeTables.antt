-- A table that a call asks to open, or whose number it gets in an answer, is one that was made.
use Rattle.std.proofs.Common.{◌≡◌, ◌⊎◌, inl, inr, ℕ, ◌+◌, Bool, [], ◌∷◌, ◌++◌, length, Some, refl, sym, ◌∙◌, ap, subst, arith, ◌≤◌}
use Rattle.std.proofs.lemmas.List.{length-replicate}
use Rattle.papaya_words.specs.Table.{new_table}
use Rattle.papaya_words.specs.declared.limits.TheConstants.{MAX_TABLES}
use Rattle.papaya_call.specs.declared.ask.Answer.{Answer as Call_answer}
use Rattle.papaya_call.specs.declared.ask.Answer.TheVariants.{Word as Word_read, Made as Made_number}
use Rattle.papaya_call.specs.declared.ask.At.TheVariants.{Root, Next}
use Rattle.papaya_call.specs.declared.ask.Ask.TheVariants.{Load, Exchange as Own_exchange, SizeOf, MakeTable, Done as Ask_done}
use Rattle.papaya_call.specs.declared.call.Reply.TheVariants.{Refused as Reply_refused}
use Rattle.papaya_call.specs.declared.copy_ask.CopyAsk.TheVariants as copies
use Rattle.papaya_call.specs.declared.search.Search.TheVariants as searches
use Rattle.papaya_call.specs.declared.copy_ask.CopyAsk.TheVariants.{Exchange}
use Rattle.papaya_call.specs.declared.copy.carry.Carry.{Carry}
use Rattle.papaya_call.specs.declared.copy.carry.Carry.TheVariants as carries
use Rattle.papaya_call.specs.declared.copy.copying.Copying.{Copying}
use Rattle.papaya_call.specs.declared.copy.copying.Copying.TheVariants.{Stepping, Lone}
use Rattle.papaya_call.specs.declared.copy.link.Link.TheVariants as links
use Rattle.papaya_call.specs.declared.copy.settle.Settle.{Settle}
use Rattle.papaya_call.specs.declared.copy.settle.Settle.TheVariants as settles
use Rattle.papaya_call.specs.declared.copy.settle.SlotToCopy.{SlotToCopy}
use Rattle.papaya_call.specs.declared.copy.step.Step.{Step}
use Rattle.papaya_call.specs.declared.copy.step.Step.TheVariants as steps
use Rattle.papaya_call.specs.Carry as carry
use Rattle.papaya_call.specs.Copying as copying
use Rattle.papaya_call.specs.Settle as settle
use Rattle.papaya_call.specs.Step as step
use Rattle.papaya_call.specs.declared.machine.State.TheVariants as stages
use Rattle.papaya_call.specs.Answers.{Says}
use Rattle.papaya_call.specs.declared.machine.Machine.{Machine as Call_machine}
use Rattle.papaya_call.specs.Machine as call_machine
use Rattle.papaya_call.specs.Machine.{needed}
use Rattle.papaya_call.specs.declared.chain.ask.Ask.TheVariants as asks
use Rattle.papaya_call.specs.declared.chain.ask.Answer.{Answer}
use Rattle.papaya_call.specs.declared.chain.ask.Answer.TheVariants as answers
use Rattle.papaya_call.specs.declared.chain.machine.Machine.{Machine}
use Rattle.papaya_call.specs.declared.chain.machine.Phase.{Phase}
use Rattle.papaya_call.specs.declared.chain.machine.Phase.TheVariants.{Calling, Linking, Copying as Copying_root}
use Rattle.papaya_call.specs.ChainMachine as machine
use Rattle.papaya_call_law.specs.Copier.{link_in_carry, link_in_copying, link_in_settle, link_in_step}
use Rattle.papaya_call_law.specs.Goes.{IsInOrder, IsOwnStep, link_in}
use Rattle.papaya_call_law.proofs.Goes.{machine_goes}
use Rattle.papaya_call_law.proofs.Replies.{anew, aside_asks}
use Rattle.papaya_core_store.specs.declared.pairs.Running.{Running}
use Rattle.papaya_core_store.specs.Asks.{PerformsAsk}
use Rattle.papaya_core_store.specs.CopyAsks.{PerformsCopy}
use Rattle.papaya_core_store.specs.Performs.{MakesTable, Refuses}
use Rattle.papaya_core_store.specs.Store.{StoreState}
use Rattle.papaya_core_store.specs.Tables.{table_of}
use Rattle.papaya_core_timeline.specs.Kept.{IsMadeFor}
use Rattle.papaya_core_timeline.proofs.KeptTables.{made-there}
use Rattle.papaya_core_timeline.proofs.MachineLemmas.{machine_opens}
use Rattle.papaya_core_timeline.proofs.StoreLemmas.{matched}

-- A call that asks to open a table asked for that before, or the table was just made at its
-- request.
opens_at : (call : Call_machine) (phase : Phase) (t : ℕ) → machine.asks_in call phase ≡ asks.Call (Own_exchange Root 0 t)
    → call_machine.ask_of call ≡ Own_exchange Root 0 t
opens_at call Calling t e = cc
opens_at call (Linking made) t e = absurd cc
opens_at call (Copying_root goes) t e = absurd cc

pub chain_opens : (m : Machine) (answer : Answer) (t : ℕ) → machine.ask_of (machine.after m answer) ≡ asks.Call (Own_exchange Root 0 t)
    → IsInOrder m answer m.phase
    → (machine.ask_of m ≡ asks.Call (Own_exchange Root 0 t))
    ⊎ ((answer ≡ answers.Call (Made_number t)) × (slots : ℕ) × (limit : ℕ) × (chunks : ℕ) × (machine.ask_of m ≡ asks.Call (MakeTable slots limit chunks)))
chain_opens m answer t opening order = elim (machine_goes m answer order) [
  | inl waits ↦ (let f : Load (Next waits.from) ≡ Own_exchange Root 0 t = sym (aside_asks m.call.made m.call.hash m.call.state waits.from waits.left)
      ∙ asked m.call waits.call in absurd cc)
  | inr (inl own) ↦ own_step own (machine_opens m.call own.told t (asked (call_machine.after m.call own.told) own.call))
  | inr (inr (inl enters)) ↦ (let f : SizeOf enters.table ≡ Own_exchange Root 0 t = asked
      (record m.call { state = stages.Searching (searches.Sizing enters.table) }) enters.call in absurd cc)
  | inr (inr (inr (inl begins))) ↦ absurd (anew (λ stage. call_machine.asks m.call.made m.call.hash stage ≡ Own_exchange Root 0 t → ⊥)
      (λ f. absurd cc) (λ f. absurd cc) (λ f. absurd cc) (λ _ f. absurd cc) m.call.task m.call.remembered.fill begins.root
      (asked (call_machine.after (record m.call { state = stages.AtRoot }) (Word_read begins.root)) begins.call))
  | inr (inr (inr (inr ends))) ↦ (let f : Ask_done (Reply_refused ends.refused) ≡ Own_exchange Root 0 t = asked
      (record m.call { state = stages.Ended (Reply_refused ends.refused) }) ends.call in absurd cc)
]
  where
    asked : (call : Call_machine) → (machine.after m answer).call ≡ call → call_machine.ask_of call ≡ Own_exchange Root 0 t
    asked call is = ap call_machine.ask_of (sym is) ∙ opens_at (machine.after m answer).call (machine.after m answer).phase t opening

    own_step : (own : IsOwnStep m answer) → (call_machine.ask_of m.call ≡ Own_exchange Root 0 t)
        ⊎ ((own.told ≡ Made_number t) × (slots : ℕ) × (limit : ℕ) × (chunks : ℕ) × (call_machine.ask_of m.call ≡ MakeTable slots limit chunks))
        → (machine.ask_of m ≡ asks.Call (Own_exchange Root 0 t))
        ⊎ ((answer ≡ answers.Call (Made_number t)) × (slots : ℕ) × (limit : ℕ) × (chunks : ℕ) × (machine.ask_of m ≡ asks.Call (MakeTable slots limit chunks)))
    own_step own (inl before) = inl (ap (machine.asks_in m.call) own.phase ∙ ap asks.Call before)
    own_step own (inr (made, slots, limit, chunks, making)) = inr
        (own.is ∙ ap answers.Call made, slots, limit, chunks, ap (machine.asks_in m.call) own.phase ∙ ap asks.Call making)

-- a move of a pair that is about to make a table for a copy asks for that table
carry_making : (goes : Carry) (marked behind slots limit chunks : ℕ) → link_in_carry goes ≡ Some (links.Making behind slots limit chunks)
    → carry.carry_ask goes marked ≡ copies.MakeTable slots limit chunks
carry_making (carries.Linking hash made) marked behind slots limit chunks e = let is : made ≡ links.Making behind slots limit chunks = cc e in rw is refl
carry_making other marked behind slots limit chunks e = absurd cc

settle_making : (goes : Settle) (slot : SlotToCopy) (behind slots limit chunks : ℕ) → link_in_settle goes ≡ Some (links.Making behind slots limit chunks)
    → settle.settle_ask goes slot ≡ copies.MakeTable slots limit chunks
settle_making (settles.Carrying marked goes) slot behind slots limit chunks e = carry_making goes marked behind slots limit chunks e
settle_making other slot behind slots limit chunks e = absurd cc

step_making : (goes : Step) (behind slots limit chunks : ℕ) → link_in_step goes ≡ Some (links.Making behind slots limit chunks)
    → step.step_ask goes ≡ copies.MakeTable slots limit chunks
step_making (steps.Linking from made) behind slots limit chunks e = let is : made ≡ links.Making behind slots limit chunks = cc e in rw is refl
step_making (steps.Settling chunk goes) behind slots limit chunks e = settle_making goes (step.slot_of chunk) behind slots limit chunks e
step_making other behind slots limit chunks e = absurd cc

pub copying_making : (goes : Copying) (behind slots limit chunks : ℕ) → link_in_copying goes ≡ Some (links.Making behind slots limit chunks)
    → copying.copying_ask goes ≡ copies.MakeTable slots limit chunks
copying_making (Stepping aim goes) behind slots limit chunks e = step_making goes behind slots limit chunks e
copying_making (Lone slot goes) behind slots limit chunks e = settle_making goes slot behind slots limit chunks e

machine_making : (m : Machine) (behind slots limit chunks : ℕ) → link_in m.phase ≡ Some (links.Making behind slots limit chunks)
    → machine.ask_of m ≡ asks.Copy (copies.MakeTable slots limit chunks)
machine_making m behind slots limit chunks e = by_phase m.phase e
  where
    by_phase : (phase : Phase) → link_in phase ≡ Some (links.Making behind slots limit chunks)
        → machine.asks_in m.call phase ≡ asks.Copy (copies.MakeTable slots limit chunks)
    by_phase Calling e = absurd cc
    by_phase (Linking made) e = let is : made ≡ links.Making behind slots limit chunks = cc e in rw is refl
    by_phase (Copying_root goes) e = ap asks.Copy (copying_making goes behind slots limit chunks e)

-- equal numbers
le-of-eq : (a b : ℕ) → a ≡ b → a ≤ b
le-of-eq a b e = omega (arith, e)

module _ {K V S : Type 0} (eq : K → K → Bool) (hash : S → K → ℕ) (refuse : Bool) (s : StoreState K V S) (a : Answer) (s' : StoreState K V S) where
  -- a number of a table in the answer to a copier is that of one with as many words as it asked for
  pub copier_made : (slots limit chunks : ℕ) → PerformsCopy eq hash refuse (copies.MakeTable slots limit chunks) s a s' → (n : ℕ)
      → a ≡ answers.Call (Made_number n) → IsMadeFor s' n chunks
  copier_made slots limit chunks (told, is, h) n made =
      let f : told ≡ Made_number n = (let g : answers.Call told ≡ answers.Call (Made_number n) = sym is ∙ made in cc) in
      matched (IsMadeFor s' n chunks) refuse _ _ h (λ _ none. let g = sym none.0 ∙ f in absurd cc) (λ _ makes. by_cases makes f)
    where
      by_cases : {told : Call_answer} → (Refuses MAX_TABLES (length s.words.tables) told × (s' ≡ s)) ⊎ MakesTable told slots limit chunks s s'
          → told ≡ Made_number n → IsMadeFor s' n chunks
      by_cases (inl (inl refused, same)) f = let g = sym refused ∙ f in absurd cc
      by_cases (inl (inr (refused, full), same)) f = let g = sym refused ∙ f in absurd cc
      by_cases (inr (e, few, grown)) f =
          let number : length s.words.tables + 1 ≡ n = (let g : Made_number (length s.words.tables + 1) ≡ Made_number n = sym e ∙ f in cc) in
          let new = new_table (length s.words.tables + 1) slots limit chunks in (
            new,
            ap (λ (y : StoreState K V S). table_of y.words.tables n) grown ∙ ap (table_of (s.words.tables ++ new ∷ [])) (sym number)
                ∙ made-there s.words (length s.words.tables + 1) slots limit chunks,
            le-of-eq chunks (length new.done) (sym (length-replicate chunks 0)),
          )

module _ {K V S A : Type 0} (eq : K → K → Bool) (says : Says K V A) (hash : S → K → ℕ) (refuse : Bool) (s : StoreState K V S) (r : Running K V A)
    (a : Answer) (s' : StoreState K V S) (r' : Running K V A) where
  -- the same if a call was set aside
  pub copy_made : (m : Machine) (behind slots limit chunks : ℕ) → link_in m.phase ≡ Some (links.Making behind slots limit chunks)
      → PerformsAsk eq says hash refuse (machine.ask_of m) s r a s' r' → (n : ℕ) → a ≡ answers.Call (Made_number n) → IsMadeFor s' n chunks
  copy_made m behind slots limit chunks making h n made =
      let performs = subst (λ ask. PerformsAsk eq says hash refuse ask s r a s' r') (machine_making m behind slots limit chunks making) h in
      copier_made eq hash refuse s a s' slots limit chunks performs.0 n made
