-- A removal that is set aside continues while a loop copies.
use Rattle.std.proofs.Common.{◌≡◌, ⊎_elim, ℕ, ◌≤◌, Bool, List, [], ◌∷◌, refl, sym, subst, arith}
use denote.Ref.{Bor}
use Rattle.std.specs.Fn.{Mut}
use Rattle.papaya_call.specs.declared.chain.ask.Answer.{Answer}
use Rattle.papaya_call.specs.declared.chain.ask.Ask.TheVariants as asks
use Rattle.papaya_call.specs.declared.chain.machine.Machine.{Machine}
use Rattle.papaya_call.specs.ChainMachine.{IsValid, after, ask_of}
use Rattle.papaya_call_law.proofs.ChainStanding.{chain_ask_fits, chain_stands}
use Rattle.papaya_core_store.specs.Store.{StoreState}
use Rattle.papaya_seq.specs.Copies.{Copies, IsSized, copy_of}
use Rattle.papaya_seq.specs.Map.{MapState}
use Rattle.papaya_seq.proofs.CopyTurns.{copy_asked}
use Rattle.papaya_seq.proofs.Ending.{left_of}
use Rattle.papaya_seq.proofs.RemovalWays.{HasMatch, HasNoMatch, IsQuery, IsUnderWay, under_way_fit, under_way_more, under_way_nears}
use Rattle.papaya_seq.proofs.Removing.{answered_copy}

module _ {K V S F : Type 0} (g : Mut F (Bor K × (Bor V × Unit {0})) Bool) (eq : K → K → Bool) (hash : S → K → ℕ) (matches : K → Bool) (hashed : ℕ)
    (map : MapState K V S) (agrees : F) (query : IsQuery g eq hash matches hashed map agrees) where
  abbrev IsGoing : StoreState K V S → F → Machine → Type 0
  IsGoing s f m = IsUnderWay g eq hash matches hashed map agrees s f m

  -- its tables have the sizes of tables
  pub removing_sized : (s : StoreState K V S) (f : F) (m : Machine) → IsGoing s f m → IsSized s
  removing_sized s f m now = ⊎_elim
      (λ (has : HasMatch g eq hash matches hashed map agrees s f m). has.run.came.lawful.core.sizes)
      (λ (lacks : HasNoMatch g eq hash matches hashed map agrees s f m). lacks.seeking.core.sizes)
      (now.way query)

  -- it continues after each answer, and comes nearer its end
  pub removing_copies : (told : List Answer) (s : StoreState K V S) (f : F) (m : Machine) (s' : StoreState K V S) (m' : Machine)
      → Copies eq hash copy_of after told s m s' m' → IsValid m → IsGoing s f m → IsGoing s' f m' × IsValid m' × (left_of s' m' ≤ left_of s m)
  removing_copies [] s f m s' m' (same, is) valid now =
      subst (λ x. IsGoing x f m' × IsValid m' × (left_of x m' ≤ left_of s m)) (sym same)
      (subst (λ (y : Machine). IsGoing s f y × IsValid y × (left_of s y ≤ left_of s m)) (sym is) (now, valid, omega arith))
  removing_copies (answer ∷ rest) s f m s' m' (copy, asked, middle, performs, more) valid now =
      let is : ask_of m ≡ asks.Copy copy = copy_asked (ask_of m) copy asked in
      let answered = answered_copy g eq hash matches m copy (sym is) s f answer middle performs answer middle f refl refl refl in
      let fit = under_way_fit g eq hash matches hashed map agrees s f m now answer middle f answered query (chain_ask_fits m valid) in
      let next = under_way_more g eq hash matches hashed map agrees s f m now answer middle f answered in
      let nearer = under_way_nears g eq hash matches hashed map agrees s f m now answer middle f answered query in
      let (end, stands, near) = removing_copies rest middle f (after m answer) s' m' more (chain_stands m valid answer fit) next in
      (end, stands, omega (arith, near, nearer))
