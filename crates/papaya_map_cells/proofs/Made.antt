-- The crate's types, made from the resources that they own.
use Rattle.std.proofs.Common.{ℕ, ◌^◌, ◌<◌, List, [], ◌∷◌, refl, w64}
use seplogic.Ra.Ura.{Ura}
use mir.Val.{Val, vint, vstruct, vcons, vnil}
use base.Logic.{ent, emp}
use base.Fml.{ftrue, fsep, fex}
use contract.Monad.{fact_i}
use types.Keyed.{ticket, tickets_from}
use types.Logic.{Logic, sem}
use types.Kit.{‵, ◌$◌, ◌∵◌, !, qed, fjoin, fpack, use0, done}
use denote.Laws.{Typed}
use denote.RattleType.{RattleType}
use denote.Shadow.{makes_shadow}
use denote.Struct.Owning.{shape}
use denote.Struct.Struct.{Struct}
use Rattle.boxcar.specs.Slot.{written}
use Rattle.papaya_map_cells.specs.Counted.{held, left}
use Rattle.papaya_map_cells.specs.contracts.tickets.TicketCounter as Counter
use Rattle.papaya_map_cells.specs.contracts.tickets.TicketCounter.TheInside as Inside
use Rattle.papaya_map_cells.specs.contracts.arena_slot.Right as Right
use Rattle.papaya_map_cells.specs.contracts.arena_slot.Written as Written

abbrev pub token_val : Val
token_val = vstruct (vcons (vstruct vnil) vnil)

abbrev pub counter_val : ℕ → Val
counter_val n = vstruct (vcons (vint w64 n) vnil)

module _ {M : Type 1} {𝓤 : Ura M} (𝓛 : Logic 𝓤) where
  pub written_made : (R : RattleType) (γ : ℕ) (x : R.Denot) → ent 𝓤 (sem 𝓛 (written R γ x))
      (sem 𝓛 ((Written.the_row R).own_val (record { marker = record {}; of = γ; value = x }) (token_val ∷ [])))
  written_made R γ x = let F = (Struct (shape (Written.the_type R))).own_val (tt, tt) (token_val ∷ []) in
      qed 𝓛 (‵ (written R γ x) ∷ []) ∵ use0 𝓛 (‵ F)
      (makes_shadow 𝓛 F (λ vss. (tt, ((λ uss. (tt, tt)), tt))) ((vstruct vnil ∷ [], tt), (refl, ((tt, (refl, tt)), tt)))) $ done !

  pub right_made : (name n : ℕ) → ent 𝓤 (sem 𝓛 (ticket name n))
      (sem 𝓛 (Right.the_row.own_val (record { marker = record {}; counter = name; number = n }) (token_val ∷ [])))
  right_made name n = let F = (Struct (shape Right.the_type)).own_val (tt, tt) (token_val ∷ []) in
      qed 𝓛 (‵ (ticket name n) ∷ []) ∵ use0 𝓛 (‵ F)
      (makes_shadow 𝓛 F (λ vss. (tt, ((λ uss. (tt, tt)), tt))) ((vstruct vnil ∷ [], tt), (refl, ((tt, (refl, tt)), tt)))) $ done !

  pub counter_made : (name n : ℕ) → n < 2 ^ 64
      → ent 𝓤 (sem 𝓛 (tickets_from name n)) (sem 𝓛 (Counter.the_row.own_val name (counter_val n ∷ [])))
  counter_made name n f = let S : RattleType = Inside.the_row in let vs : List Val = counter_val n ∷ [] in
      let fits : Type 0 = Typed Counter.the_row.mir vs in
      qed 𝓛 (‵ (tickets_from name n) ∷ []) ∵ fpack ! ℕ (held name n) 0 $ use0 𝓛 (‵ (S.own_val (record { next = n }) vs))
      (makes_shadow 𝓛 (S.own_val (record { next = n }) vs) (λ vss. (tt, ((tt, tt), tt))) ((vint w64 n ∷ [], tt), (refl, ((refl, f), tt)))) $
      fjoin ! $ fpack ! ℕ (λ m. fsep (S.own_val (record { next = m }) vs) (left name m)) n $
      use0 𝓛 (‵ (fex fits (λ _. ftrue))) (fact_i 𝓤 fits (emp 𝓤) ((tt, (record { fits = f }, tt)), tt)) $ fjoin ! $ done !
