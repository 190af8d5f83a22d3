use Rattle.std.proofs.Common.{refl, sym, subst, rules}
use Rattle.papaya_call.specs.declared.ask.Answer.TheVariants.{Word}
use Rattle.papaya_call.specs.declared.copy.copying.Copying.TheVariants.{Stepping}
use Rattle.papaya_call.specs.declared.copy.step.Chunk.{Chunk}
use Rattle.papaya_call.specs.declared.copy.step.Step.TheVariants.{AtChunk}
use Rattle.papaya_call.specs.declared.copy.settle.Settle.TheVariants.{Looking}
use Rattle.papaya_call.specs.declared.chain.ask.Answer.TheVariants.{Call}
use Rattle.papaya_call.specs.Step.{IsValidChunk, chunk_at}
use Rattle.papaya_map_book.specs.Hashes.{hash_of}
use Rattle.papaya_map_book.specs.Parts.{begun_of}
use Rattle.papaya_map_change.specs.Window.Settling.{stop_in}
use Rattle.papaya_map_change.specs.Settling.{Ends, Stop, at_slot}
use Rattle.papaya_map_change.proofs.SettlingTurns.{ends_here, ends_then, leads_one}
use Rattle.papaya_map_change.proofs.SettlingSeen.{TurnsBy, asked, can_on}
use Rattle.papaya_map_change.proofs.ChunkTurns.{takes}
use Rattle.papaya_map_change.proofs.copier.Copier.take_chunk.Goals as goal

pub load-done-requires : goal.load-done-requires
load-done-requires g c =
    let w = c.args.window.now in
    record { reach = asked w c.args.mode (stop_in w (Stepping c.args.aim (AtChunk c.args.cursor)) c.args.self.now) c.requires.can }

pub returns-then-done-ne0-clause-ends : goal.returns-then-done-ne0-clause-ends
returns-then-done-ne0-clause-ends g c =
    let w = c.args.window.now in let h = c.args.self.now in let eq = g.K.PartialEq.eq in
    let hash = hash_of g.K.Hash.hash_input g.S.BuildHasher.build_hasher g.S.Hasher.Hasher.write g.S.Hasher.Hasher.finish in
    let b = begun_of w.book.now.parts in let name = w.book.now.begun.book in
    let one = c.load-done in let w1 = one.new.window in
    ends_here eq hash b name c.args.mode (stop_in w (Stepping c.args.aim (AtChunk c.args.cursor)) h) w1.sight.log one.new.self (Call (Word one.result))
    one.ensures.sees.log (record { word = one.result; is = refl; as_loaded = one.ensures.as_loaded; rest = one.ensures.rest }) c.requires.valid tt

pub copy_slots-requires-clause-can : goal.copy_slots-requires-clause-can
copy_slots-requires-clause-can g c =
    let w = c.args.window.now in let h = c.args.self.now in let eq = g.K.PartialEq.eq in
    let hash = hash_of g.K.Hash.hash_input g.S.BuildHasher.build_hasher g.S.Hasher.Hasher.write g.S.Hasher.Hasher.finish in
    let b = begun_of w.book.now.parts in let name = w.book.now.begun.book in
    let cursor = c.args.cursor in let one = c.load-done in let w1 = one.new.window in let h1 = one.new.self in
    let chunk : Chunk = c.chunk_of-chunk.result in
    let s : Stop _ _ _ _ = stop_in w (Stepping c.args.aim (AtChunk cursor)) h in
    let t : Stop _ _ _ _ = stop_in w1 (at_slot c.args.aim chunk Looking) h1 in
    let t₀ : Stop _ _ _ _ = stop_in w1 (at_slot c.args.aim (chunk_at cursor) Looking) h1 in
    let stands = subst IsValidChunk c.chunk_of-chunk.ensures.value c.chunk_of-chunk.ensures.valid in
    let turn₀ : TurnsBy w c.args.mode s t₀ = takes eq hash b name c.args.mode c.args.aim w.sight.log h w1.sight.log h1 one.ensures.sees.log cursor one.result
    (record { word = one.result; is = refl; as_loaded = one.ensures.as_loaded; rest = one.ensures.rest }) (search rules) (search rules) stands in
    let turn : TurnsBy w c.args.mode s t = subst (λ (z : Chunk). TurnsBy w c.args.mode s (stop_in w1 (at_slot c.args.aim z Looking) h1))
    (sym c.chunk_of-chunk.ensures.value) turn₀ in
    can_on w w1 one.ensures.sees.book c.args.mode s t c.requires.can turn

pub returns-clause-ends : goal.returns-clause-ends
returns-clause-ends g c =
    let w = c.args.window.now in let h = c.args.self.now in let eq = g.K.PartialEq.eq in
    let hash = hash_of g.K.Hash.hash_input g.S.BuildHasher.build_hasher g.S.Hasher.Hasher.write g.S.Hasher.Hasher.finish in
    let b = begun_of w.book.now.parts in let name = w.book.now.begun.book in
    let cursor = c.args.cursor in let one = c.load-done in let w1 = one.new.window in let h1 = one.new.self in
    let chunk : Chunk = c.chunk_of-chunk.result in
    let s : Stop _ _ _ _ = stop_in w (Stepping c.args.aim (AtChunk cursor)) h in
    let t : Stop _ _ _ _ = stop_in w1 (at_slot c.args.aim chunk Looking) h1 in
    let t₀ : Stop _ _ _ _ = stop_in w1 (at_slot c.args.aim (chunk_at cursor) Looking) h1 in
    let stands = subst IsValidChunk c.chunk_of-chunk.ensures.value c.chunk_of-chunk.ensures.valid in
    let turn₀ : TurnsBy w c.args.mode s t₀ = takes eq hash b name c.args.mode c.args.aim w.sight.log h w1.sight.log h1 one.ensures.sees.log cursor one.result
    (record { word = one.result; is = refl; as_loaded = one.ensures.as_loaded; rest = one.ensures.rest }) (search rules) (search rules) stands in
    let turn : TurnsBy w c.args.mode s t = subst (λ (z : Chunk). TurnsBy w c.args.mode s (stop_in w1 (at_slot c.args.aim z Looking) h1))
    (sym c.chunk_of-chunk.ensures.value) turn₀ in
    let last = c.copy_slots in let w2 = last.new.window in
    let end : Stop _ _ _ _ = stop_in w2 last.result.0 last.new.self in
    ends_then eq hash b name c.args.mode s t end last.result.1 (leads_one eq hash b name c.args.mode s t turn)
    (subst (λ (z : _). Ends eq hash (begun_of z.now.parts) z.now.begun.book c.args.mode t end last.result.1) one.ensures.sees.book last.ensures.ends)
