-- An insertion that is set aside continues while a loop copies.
use Rattle.std.proofs.Common.{◌≡◌, ℕ, ◌^◌, ◌<◌, ◌≤◌, Bool, false, List, [], ◌∷◌, refl, sym, ◌∙◌, subst, arith}
use Rattle.papaya_call.specs.declared.ask.Ask.TheVariants.{Done as Ask_done}
use Rattle.papaya_call.specs.declared.call.Reply.{Reply}
use Rattle.papaya_call.specs.declared.chain.ask.Answer.{Answer}
use Rattle.papaya_call.specs.declared.chain.ask.Ask.{Ask}
use Rattle.papaya_call.specs.declared.chain.ask.Ask.TheVariants as asks
use Rattle.papaya_call.specs.declared.chain.machine.Machine.{Machine}
use Rattle.papaya_call.specs.ChainMachine.{after, ask_of}
use Rattle.papaya_call_law.proofs.ChainStanding.{chain_ask_fits, chain_stands}
use Rattle.papaya_core_store.specs.Asks.{PerformsAsk}
use Rattle.papaya_core_store.specs.Store.{StoreState}
use Rattle.papaya_core_store.specs.declared.pairs.Running.{Running}
use Rattle.papaya_core_timeline.specs.Solo.{whatever}
use Rattle.papaya_core_timeline.proofs.KeptSettings.{IsLawfulKeys}
use Rattle.papaya_seq.specs.Copies.{Copies, IsSized, copy_of}
use Rattle.papaya_seq.specs.Map.{IsLawfulMap, MapState}
use Rattle.papaya_seq.proofs.CopyTurns.{copy_asked}
use Rattle.papaya_seq.proofs.Ending.{left_of}
use Rattle.papaya_seq.proofs.InsertingRun.{IsInserting, inserting_fit, inserting_more, inserting_nears}

module _ {K V S A : Type 0} (eq : K → K → Bool) (hash : S → K → ℕ) (s : MapState K V S) (replace : Bool) (k : K) (value : V)
    (keys : IsLawfulKeys eq (hash s.store.hasher)) (lawful : IsLawfulMap eq (hash s.store.hasher) s.store s.mode s.initial)
    (fits : hash s.store.hasher k < 2 ^ 64) where
  -- its tables have the sizes of tables
  pub inserting_sized : (store : StoreState K V S) (r : Running K V A) → IsInserting eq hash s replace k value store r → IsSized store
  inserting_sized store r now = (now.steps keys lawful fits).lawful.core.sizes

  -- it continues after each answer, and comes nearer its end
  pub inserting_copies : (told : List Answer) (store : StoreState K V S) (r : Running K V A) (store' : StoreState K V S) (m' : Machine)
      → Copies eq hash copy_of after told store r.machine store' m' → IsInserting eq hash s replace k value store r
      → IsInserting eq hash s replace k value store' (record r { machine = m' }) × (left_of store' m' ≤ left_of store r.machine)
  inserting_copies [] store r store' m' (same, is) now = (
    subst (λ x. IsInserting eq hash s replace k value x (record r { machine = m' })) (sym same)
        (subst (λ (m : Machine). IsInserting eq hash s replace k value store (record r { machine = m })) (sym is) now),
    subst (λ x. left_of x m' ≤ left_of store r.machine) (sym same) (subst (λ (m : Machine). left_of store m ≤ left_of store r.machine) (sym is) (omega arith)),
  )
  inserting_copies (answer ∷ rest) store r store' m' (copy, asked, middle, performs, more) now =
      let is : ask_of r.machine ≡ asks.Copy copy = copy_asked (ask_of r.machine) copy asked in
      let open_still : (reply : Reply) → ask_of r.machine ≡ asks.Call (Ask_done reply)
      → ⊥ = λ reply e. let f : asks.Copy copy ≡ asks.Call (Ask_done reply) = sym is ∙ e in absurd cc in
      let performed : PerformsAsk eq whatever hash false (ask_of r.machine) store r answer middle
      r = subst (λ (y : Ask). PerformsAsk eq whatever hash false y store r answer middle r) (sym is) (performs, refl) in
      let fit = inserting_fit eq hash s replace k value keys lawful fits whatever store r answer middle r (ask_of r.machine) refl open_still performed
      refl now (chain_ask_fits r.machine now.valid) in
      let next = inserting_more eq hash s replace k value keys lawful fits whatever store r answer middle r (ask_of r.machine) refl open_still
      performed refl now (chain_stands r.machine now.valid answer fit) in
      let nearer = inserting_nears eq hash s replace k value keys lawful fits whatever store r answer middle r (ask_of r.machine) refl open_still
      performed refl now in
      let (end, near) = inserting_copies rest middle (record r { machine = after r.machine answer }) store' m' more next in
      (end, omega (arith, near, nearer))
