-- A compute that is set aside continues while a loop copies.
use Rattle.std.proofs.Common.{◌≡◌, ℕ, ◌^◌, ◌<◌, ◌≤◌, Bool, false, List, [], ◌∷◌, Option, None, refl, sym, ◌∙◌, ap, subst, arith}
use denote.Ref.{Bor}
use Rattle.papaya_call.specs.declared.ask.Ask.TheVariants.{ShowNone, ShowPair}
use Rattle.papaya_call.specs.declared.answers.Operation.{Operation}
use Rattle.papaya_call.specs.declared.chain.ask.Answer.{Answer}
use Rattle.papaya_call.specs.declared.chain.ask.Ask.{Ask}
use Rattle.papaya_call.specs.declared.chain.ask.Ask.TheVariants as asks
use Rattle.papaya_call.specs.declared.chain.machine.Machine.{Machine}
use Rattle.papaya_call.specs.ChainMachine.{after, ask_of}
use Rattle.papaya_call_law.proofs.ChainStanding.{chain_ask_fits, chain_stands}
use Rattle.papaya_core_store.specs.Asks.{PerformsAsk}
use Rattle.papaya_core_store.specs.Store.{StoreState}
use Rattle.papaya_core_store.specs.declared.pairs.Running.{Running}
use Rattle.papaya_core_timeline.specs.Advances.{reply_in}
use Rattle.papaya_core_timeline.specs.Solo.{whatever}
use Rattle.papaya_core_timeline.proofs.KeptSettings.{IsLawfulKeys}
use Rattle.papaya_seq.specs.Copies.{Copies, IsSized, copy_of}
use Rattle.papaya_seq.specs.Map.{IsLawfulMap, MapState}
use Rattle.papaya_seq.proofs.ComputeRun.{IsComputing}
use Rattle.papaya_seq.proofs.ComputeSteps.{computing_went}
use Rattle.papaya_seq.proofs.CopyTurns.{copy_asked}
use Rattle.papaya_seq.proofs.Ending.{left_of}

module _ {K V S A F T : Type 0} (eq : K → K → Bool) (hash : S → K → ℕ) (s : MapState K V S) (k : K)
    (post : F → Option (Bor K × Bor V) → Operation V T → Type 0) (f : F) (closure : Option F) (shown : Option ℕ) (aborted : Option T)
    (keys : IsLawfulKeys eq (hash s.store.hasher)) (lawful : IsLawfulMap eq (hash s.store.hasher) s.store s.mode s.initial)
    (fits : hash s.store.hasher k < 2 ^ 64) where
  abbrev IsGoing : StoreState K V S → Running K V A → Type 0
  IsGoing store r = IsComputing eq hash s k post f store r closure shown aborted

  -- its tables have the sizes of tables
  pub computing_sized : (store : StoreState K V S) (r : Running K V A) → IsGoing store r → IsSized store
  computing_sized store r now = (now.steps keys lawful fits).lawful.core.sizes

  -- it continues after each answer, and comes nearer its end
  pub computing_copies : (told : List Answer) (store : StoreState K V S) (r : Running K V A) (store' : StoreState K V S) (m' : Machine)
      → Copies eq hash copy_of after told store r.machine store' m' → IsGoing store r → IsGoing store' (record r { machine = m' })
      × (left_of store' m' ≤ left_of store r.machine)
  computing_copies [] store r store' m' (same, is) now =
      subst (λ x. IsGoing x (record r { machine = m' }) × (left_of x m' ≤ left_of store r.machine)) (sym same)
      (subst (λ (m : Machine). IsGoing store (record r { machine = m }) × (left_of store m ≤ left_of store r.machine)) (sym is) (now, omega arith))
  computing_copies (answer ∷ rest) store r store' m' (copy, asked, middle, performs, more) now =
      let is : ask_of r.machine ≡ asks.Copy copy = copy_asked (ask_of r.machine) copy asked in
      let going : reply_in (ask_of r.machine) ≡ None = ap reply_in is in
      let no_none : ask_of r.machine ≡ asks.Call ShowNone → ⊥ = λ e. let f : asks.Copy copy ≡ asks.Call ShowNone = sym is ∙ e in absurd cc in
      let no_pair : (i : ℕ) → ask_of r.machine ≡ asks.Call (ShowPair i) → ⊥ = λ i e. let f : asks.Copy copy ≡ asks.Call (ShowPair i) = sym is ∙ e in
      absurd cc in
      let performed : PerformsAsk eq whatever hash false (ask_of r.machine) store r answer middle
      r = subst (λ (y : Ask). PerformsAsk eq whatever hash false y store r answer middle r) (sym is) (performs, refl) in
      let went = computing_went eq hash s k whatever store r answer middle r going no_none no_pair performed refl post f closure shown aborted keys
      lawful fits now (chain_ask_fits r.machine now.valid) in
      let (end, near) = computing_copies rest middle (record r { machine = after r.machine answer }) store' m' more
      (went.goes (chain_stands r.machine now.valid answer went.fit)) in
      let nearer = went.nears in
      (end, omega (arith, near, nearer))
