-- `new` makes the tickets of all numbers.
use Rattle.std.proofs.Common.{ℕ, [], ◌∷◌, refl, lit<}
use base.Logic.{SProp, emp, ex, via, id⊢}
use base.Fml.{GName, ftrue}
use mir.Val.{Val}
use types.Keyed.{token, tickets_from, entries_new}
use types.Logic.{sem}
use types.Owned.{basic}
use types.Kit.{‵, raw, ◌⊛◌, some, later, ◌$◌, ◌∵◌, !, qed, by, keep, use0, use1, split, pick, await}
use types.Run.{lit, no_more, and_then, returns, enter}
use types.ByLocal.{alloc_all, pass_all, free_all, look_at, sets}
use types.Part.{agg}
use contract.Running.{tables}
use denote.Steps.{nothing}
use denote.Triple.Entry.{alive}
use denote.Triple.Walked.{walk_of}
use Rattle.atomic_table.proofs.Walks.{proved}
use Rattle.logbook.proofs.Fields.{ends}
use Rattle.papaya_map_cells.specs.contracts.tickets.TicketCounter.{the_row}
use Rattle.papaya_map_cells.proofs.Made.{counter_val, counter_made}
use Rattle.papaya_map_cells.specs.contracts.tickets.TicketCounter.new.{ended, clauses}
use Rattle.papaya_map_cells.specs.contracts.tickets.TicketCounter.new.Key.{name as #self}
use Rattle.papaya_map_cells.proofs.tickets.TicketCounter.new.Statement.{statement}
use Rattle.papaya_map_cells.proofs.tickets.TicketCounter.new.Code as code

pub new_spec : {M : Type 1} → statement M
new_spec 𝓤 𝓛 𝓜 𝓡 wired =
    let H = 𝓛.H in let 𝓣 = tables 𝓤 H 𝓜 𝓡 𝓡.env in let fn = code.function in let c = clauses 𝓛 𝓜.mem 𝓡.returns in
    proved 𝓛 ended tt c 𝓜 𝓡 tt #self fn (code.unfolded 𝓤 H 𝓜 𝓡 wired) (λ κs. tt) (λ κs. tt) (λ κs qs bounds a gh are.
    let y : (walk_of 𝓛 ended tt c).Ghost = ((κs, qs, bounds, a, tt), gh) in let Post : Val → SProp 𝓤 = (walk_of 𝓛 ended tt c).post y in
    let Tickets : GName → SProp 𝓤 = λ γ. sem 𝓛 (tickets_from γ 0) in
    qed 𝓛 ((raw (alive 𝓛 ended.signature κs qs) ⊛ ‵ ftrue) ∷ raw ((c κs a).requires gh) ∷ []) ∵ split ! $ keep ! (0 ∷ []) $
    enter ! 𝓣.C 𝓣.Λ fn [] Post $ alloc_all ! (λ l. pass_all ! refl tt $
    use0 𝓛 (later (some (λ (γ : GName). ‵ (tickets_from γ 0))))
    (via 𝓤 _ (entries_new token 𝓛 0 (λ _. tt)) (basic 𝓛 (ex 𝓤 Tickets))) $ await ! tt $ pick ! (λ γ.
    use1 𝓛 (‵ (the_row.own_val γ (counter_val 0 ∷ []))) (counter_made 𝓛 γ 0 (lit< tt)) $
    sets ! (agg ! (and_then ! (lit ! tt) (no_more !))) refl (tt, (record { fits = lit< tt }, tt)) $ nothing ! $
    returns ! (look_at ! 0 refl) $ free_all ! refl $ keep ! (2 ∷ 0 ∷ 1 ∷ []) $
    by ! (ends 𝓛 ended tt c y (counter_val 0) γ tt tt (id⊢ 𝓤 (emp 𝓤))))))
