use Rattle.std.proofs.Common.{◌≡◌, ◌+◌, ◌<◌, Option, None, Some, refl, [], append-nil, ◌∙◌, arith, subst}
use Rattle.papaya_words.specs.declared.resize_mode.ResizeMode.{ResizeMode}
use Rattle.papaya_call.specs.declared.copy.copying.Copying.{Copying}
use Rattle.papaya_call.specs.declared.copy.copying.Copying.TheVariants.{Stepping}
use Rattle.papaya_call.specs.declared.copy.settle.Settle.TheVariants.{Looking}
use Rattle.papaya_call.specs.declared.copy.step.Step.TheVariants.{Advancing}
use Rattle.papaya_map_book.specs.Hashes.{hash_of}
use Rattle.papaya_map_book.specs.Parts.{begun_of}
use Rattle.papaya_map_book.proofs.Windows.{observes_trans}
use Rattle.papaya_map_change.specs.Window.Settling.{CanStep, LeavesFrom, stop_in, stop_seen}
use Rattle.papaya_map_change.specs.Settling.{Ends, StepsTo, Stop, at_slot, past_slot}
use Rattle.papaya_map_change.proofs.SettlingTurns.{can_later, ends_then, leads_none, leads_then, past_last, past_next}
use Rattle.papaya_map_change.proofs.SettlingSeen.{asked, can_still, leads_still, placed_on}
use Rattle.papaya_map_change.proofs.copier.Copier.copy_slots.Goals as goal

is_none : {A : Type 0} (o : Option A) → ((a : A) → o ≡ Some a → ⊥) → o ≡ None
is_none None none = refl
is_none (Some a) none = absurd (none a refl)

pub table-table-requires : goal.table-table-requires
table-table-requires g c =
    let there = asked c.args.window.now c.args.mode (stop_in c.args.window.now (at_slot c.args.aim c.args.chunk Looking) c.args.self.now)
    c.requires.can in record { come = (there.0, there.1) }

pub loop-halt-init : goal.loop-halt-init
loop-halt-init g c =
    let w = c.args.window.now in let w' = c.table-table.new.self in let same = c.table-table.ensures.sees.book in
    let s : Stop _ _ _ _ = stop_in w (at_slot c.args.aim c.args.chunk Looking) c.args.self.now in record {
      sees = c.table-table.ensures.sees;
      mode = refl;
      placed = record { table = c.table-table.ensures.table; valid = c.requires.valid };
      seen = w.sight.log;
      since = c.table-table.ensures.sees.log;
      leads = leads_none g.K.PartialEq.eq (hash_of g.K.Hash.hash_input g.S.BuildHasher.build_hasher g.S.Hasher.Hasher.write g.S.Hasher.Hasher.finish)
          (begun_of w'.book.now.parts) w'.book.now.begun.book c.args.mode s;
      can = can_still w w' same c.args.mode s c.requires.can;
    }

pub settle-requires-clause-waits : goal.settle-requires-clause-waits
settle-requires-clause-waits g c = (c.loop-halt.invariant.seen, c.loop-halt.invariant.since, c.loop-halt.invariant.can)

pub returns-in-Some-clause-valid : goal.returns-in-Some-clause-valid
returns-in-Some-clause-valid g c =
    let l = c.loop-halt in let w₀ = c.args.window.now in let w = l.window in let one = c.settle in let w' = one.new.window in let h = one.new.self in
    let site = l.site in
    let eq = g.K.PartialEq.eq in let hash = hash_of g.K.Hash.hash_input g.S.BuildHasher.build_hasher g.S.Hasher.Hasher.write g.S.Hasher.Hasher.finish
    in let b = begun_of w'.book.now.parts in let name = w'.book.now.begun.book in
    let same = one.ensures.sees.book ∙ l.invariant.sees.book in
    let s : Stop _ _ _ _ = stop_in w₀ (at_slot c.args.aim c.args.chunk Looking) c.args.self.now in
    let t : Stop _ _ _ _ = stop_seen l.invariant.seen site l.self in
    let led = leads_still w w' one.ensures.sees.book site.mode s t l.invariant.leads in
    let can = can_still w w' one.ensures.sees.book site.mode t l.invariant.can in
    let left = one.ensures.leaves l.invariant.seen l.invariant.since in
    let halt = c.in-Some.halt in
    let it = subst (λ (z : _). LeavesFrom t w' site h z) c.in-Some.is left in
    let end : Stop _ _ _ _ = stop_in w' (at_slot site.aim site.chunk halt.settle) h in
    it.valid

pub returns-in-Some-clause-fit : goal.returns-in-Some-clause-fit
returns-in-Some-clause-fit g c =
    let l = c.loop-halt in let w₀ = c.args.window.now in let w = l.window in let one = c.settle in let w' = one.new.window in let h = one.new.self in
    let site = l.site in
    let eq = g.K.PartialEq.eq in let hash = hash_of g.K.Hash.hash_input g.S.BuildHasher.build_hasher g.S.Hasher.Hasher.write g.S.Hasher.Hasher.finish
    in let b = begun_of w'.book.now.parts in let name = w'.book.now.begun.book in
    let same = one.ensures.sees.book ∙ l.invariant.sees.book in
    let s : Stop _ _ _ _ = stop_in w₀ (at_slot c.args.aim c.args.chunk Looking) c.args.self.now in
    let t : Stop _ _ _ _ = stop_seen l.invariant.seen site l.self in
    let led = leads_still w w' one.ensures.sees.book site.mode s t l.invariant.leads in
    let can = can_still w w' one.ensures.sees.book site.mode t l.invariant.can in
    let left = one.ensures.leaves l.invariant.seen l.invariant.since in
    let halt = c.in-Some.halt in
    let it = subst (λ (z : _). LeavesFrom t w' site h z) c.in-Some.is left in
    let end : Stop _ _ _ _ = stop_in w' (at_slot site.aim site.chunk halt.settle) h in
    it.fit

pub returns-in-Some-clause-ends : goal.returns-in-Some-clause-ends
returns-in-Some-clause-ends g c =
    let l = c.loop-halt in let w₀ = c.args.window.now in let w = l.window in let one = c.settle in let w' = one.new.window in let h = one.new.self in
    let site = l.site in
    let eq = g.K.PartialEq.eq in let hash = hash_of g.K.Hash.hash_input g.S.BuildHasher.build_hasher g.S.Hasher.Hasher.write g.S.Hasher.Hasher.finish
    in let b = begun_of w'.book.now.parts in let name = w'.book.now.begun.book in
    let same = one.ensures.sees.book ∙ l.invariant.sees.book in
    let s : Stop _ _ _ _ = stop_in w₀ (at_slot c.args.aim c.args.chunk Looking) c.args.self.now in
    let t : Stop _ _ _ _ = stop_seen l.invariant.seen site l.self in
    let led = leads_still w w' one.ensures.sees.book site.mode s t l.invariant.leads in
    let can = can_still w w' one.ensures.sees.book site.mode t l.invariant.can in
    let left = one.ensures.leaves l.invariant.seen l.invariant.since in
    let halt = c.in-Some.halt in
    let it = subst (λ (z : _). LeavesFrom t w' site h z) c.in-Some.is left in
    let end : Stop _ _ _ _ = stop_in w' (at_slot site.aim site.chunk halt.settle) h in
    subst (λ (z : _). Ends eq hash (begun_of z.now.parts) z.now.begun.book c.args.mode s end halt.answer) same
    (subst (λ (z : ResizeMode). Ends eq hash b name z s end halt.answer) l.invariant.mode (ends_then eq hash b name site.mode s t end halt.answer led it))

pub close_chunk-requires-clause-valid : goal.close_chunk-requires-clause-valid
close_chunk-requires-clause-valid g c = c.loop-halt.invariant.placed.valid.cursor

pub close_chunk-requires-clause-can : goal.close_chunk-requires-clause-can
close_chunk-requires-clause-can g c =
    let l = c.loop-halt in let w₀ = c.args.window.now in let w = l.window in let one = c.settle in let w' = one.new.window in let h = one.new.self in
    let site = l.site in
    let eq = g.K.PartialEq.eq in let hash = hash_of g.K.Hash.hash_input g.S.BuildHasher.build_hasher g.S.Hasher.Hasher.write g.S.Hasher.Hasher.finish
    in let b = begun_of w'.book.now.parts in let name = w'.book.now.begun.book in
    let same = one.ensures.sees.book ∙ l.invariant.sees.book in
    let s : Stop _ _ _ _ = stop_in w₀ (at_slot c.args.aim c.args.chunk Looking) c.args.self.now in
    let t : Stop _ _ _ _ = stop_seen l.invariant.seen site l.self in
    let led = leads_still w w' one.ensures.sees.book site.mode s t l.invariant.leads in
    let can = can_still w w' one.ensures.sees.book site.mode t l.invariant.can in
    let left = one.ensures.leaves l.invariant.seen l.invariant.since in
    let it = subst (λ (z : _). LeavesFrom t w' site h z) (is_none one.result (λ halt. c.in_default.not-Some halt)) left in
    let past : Stop _ _ _ _ = stop_in w' (past_slot site.aim site.chunk) h in
    let further = leads_then eq hash b name site.mode s t past led it in
    let may = can_later eq hash b name site.mode t past can it in
    let none : site.chunk.at + 1 < site.chunk.end → ⊥ = λ more. absurd (omega arith) in
    let ends : past_slot site.aim site.chunk ≡ Stepping site.aim (Advancing site.chunk.cursor) = past_last site.aim site.chunk none in
    let u : Stop _ _ _ _ = stop_in w' (Stepping site.aim (Advancing site.chunk.cursor)) h in
    let there = subst (λ (z : Copying). CanStep w' site.mode (stop_in w' z h)) ends may in
    there

pub returns-then-site-clause-ends : goal.returns-then-site-clause-ends
returns-then-site-clause-ends g c =
    let l = c.loop-halt in let w₀ = c.args.window.now in let w = l.window in let one = c.settle in let w' = one.new.window in let h = one.new.self in
    let site = l.site in
    let eq = g.K.PartialEq.eq in let hash = hash_of g.K.Hash.hash_input g.S.BuildHasher.build_hasher g.S.Hasher.Hasher.write g.S.Hasher.Hasher.finish
    in let b = begun_of w'.book.now.parts in let name = w'.book.now.begun.book in
    let same = one.ensures.sees.book ∙ l.invariant.sees.book in
    let s : Stop _ _ _ _ = stop_in w₀ (at_slot c.args.aim c.args.chunk Looking) c.args.self.now in
    let t : Stop _ _ _ _ = stop_seen l.invariant.seen site l.self in
    let led = leads_still w w' one.ensures.sees.book site.mode s t l.invariant.leads in
    let can = can_still w w' one.ensures.sees.book site.mode t l.invariant.can in
    let left = one.ensures.leaves l.invariant.seen l.invariant.since in
    let it = subst (λ (z : _). LeavesFrom t w' site h z) (is_none one.result (λ halt. c.in_default.not-Some halt)) left in
    let past : Stop _ _ _ _ = stop_in w' (past_slot site.aim site.chunk) h in
    let further = leads_then eq hash b name site.mode s t past led it in
    let may = can_later eq hash b name site.mode t past can it in
    let none : site.chunk.at + 1 < site.chunk.end → ⊥ = λ more. absurd (omega arith) in
    let ends : past_slot site.aim site.chunk ≡ Stepping site.aim (Advancing site.chunk.cursor) = past_last site.aim site.chunk none in
    let u : Stop _ _ _ _ = stop_in w' (Stepping site.aim (Advancing site.chunk.cursor)) h in
    let there = subst (λ (z : Copying). CanStep w' site.mode (stop_in w' z h)) ends may in
    let two = c.close_chunk in let w'' = two.new.window in
    let to = subst (λ (z : Copying). StepsTo eq hash b name site.mode s (stop_in w' z h)) ends further in
    let end : Stop _ _ _ _ = stop_in w'' two.result.0 two.new.self in
    let by = ends_then eq hash b name site.mode s u end two.result.1 to two.ensures.ends in
    subst (λ (z : _). Ends eq hash (begun_of z.now.parts) z.now.begun.book c.args.mode s end two.result.1) same
    (subst (λ (z : ResizeMode). Ends eq hash b name z s end two.result.1) l.invariant.mode by)

pub loop-halt-preserved : goal.loop-halt-preserved
loop-halt-preserved g c =
    let l = c.loop-halt in let w₀ = c.args.window.now in let w = l.window in let one = c.settle in let w' = one.new.window in let h = one.new.self in
    let site = l.site in
    let eq = g.K.PartialEq.eq in let hash = hash_of g.K.Hash.hash_input g.S.BuildHasher.build_hasher g.S.Hasher.Hasher.write g.S.Hasher.Hasher.finish
    in let b = begun_of w'.book.now.parts in let name = w'.book.now.begun.book in
    let same = one.ensures.sees.book ∙ l.invariant.sees.book in
    let s : Stop _ _ _ _ = stop_in w₀ (at_slot c.args.aim c.args.chunk Looking) c.args.self.now in
    let t : Stop _ _ _ _ = stop_seen l.invariant.seen site l.self in
    let led = leads_still w w' one.ensures.sees.book site.mode s t l.invariant.leads in
    let can = can_still w w' one.ensures.sees.book site.mode t l.invariant.can in
    let left = one.ensures.leaves l.invariant.seen l.invariant.since in
    let it = subst (λ (z : _). LeavesFrom t w' site h z) (is_none one.result (λ halt. c.in_default.not-Some halt)) left in
    let past : Stop _ _ _ _ = stop_in w' (past_slot site.aim site.chunk) h in
    let further = leads_then eq hash b name site.mode s t past led it in
    let may = can_later eq hash b name site.mode t past can it in
    let more : site.chunk.at + 1 < site.chunk.end = omega arith in
    let next = past_next site.aim site.chunk more in record {
      sees = observes_trans _ _ _ l.invariant.sees one.ensures.sees;
      mode = l.invariant.mode;
      placed = record {
        table = (placed_on w w' one.ensures.sees site l.invariant.placed).table;
        valid = record { cursor = l.invariant.placed.valid.cursor; at = more; within = l.invariant.placed.valid.within };
      };
      seen = w'.sight.log;
      since = ([], append-nil w'.sight.log);
      leads = subst (λ (z : Copying). StepsTo eq hash b name site.mode s (stop_in w' z h)) next further;
      can = subst (λ (z : Copying). CanStep w' site.mode (stop_in w' z h)) next may;
    }
