use Rattle.std.proofs.Common.{◌≡◌, true, refl, sym, ◌∙◌, subst}
use Rattle.papaya_call.specs.declared.ask.Answer.TheVariants.{Word}
use Rattle.papaya_call.specs.declared.copy.copying.Copying.TheVariants.{Stepping}
use Rattle.papaya_call.specs.declared.copy.step.Cursor.{Cursor}
use Rattle.papaya_call.specs.declared.copy.step.Step.TheVariants.{Advancing, AtChunk}
use Rattle.papaya_call.specs.declared.chain.ask.Answer.TheVariants.{Call}
use Rattle.papaya_call.specs.Step.{IsValidStep, next_cursor}
use Rattle.papaya_map_book.specs.Hashes.{hash_of}
use Rattle.papaya_map_book.specs.Parts.{begun_of}
use Rattle.papaya_map_change.specs.Window.Settling.{stop_in}
use Rattle.papaya_map_change.specs.Copier.{AnswersLoad}
use Rattle.papaya_map_change.specs.Settling.{Stop}
use Rattle.papaya_map_change.proofs.SettlingTurns.{ends_here, ends_then, leads_one}
use Rattle.papaya_map_change.proofs.SettlingSeen.{TurnsBy, asked, can_on}
use Rattle.papaya_call.specs.declared.ask.At.TheVariants.{Done}
use Rattle.papaya_map_change.proofs.ChunkTurns.{closed}
use Rattle.papaya_map_change.proofs.copier.Copier.close_chunk.Goals as goal

pub exchange-closed-requires : goal.exchange-closed-requires
exchange-closed-requires g c =
    let w = c.args.window.now in let site = c.args.site.now in
    record { can = asked w site.mode (stop_in w (Stepping site.aim (Advancing site.chunk.cursor)) c.args.self.now) c.requires.can }

pub returns-in_default-clause-valid : goal.returns-in_default-clause-valid
returns-in_default-clause-valid g c = c.requires.valid

pub returns-in_default-clause-ends : goal.returns-in_default-clause-ends
returns-in_default-clause-ends g c =
    let w = c.args.window.now in let h = c.args.self.now in let eq = g.K.PartialEq.eq in
    let hash = hash_of g.K.Hash.hash_input g.S.BuildHasher.build_hasher g.S.Hasher.Hasher.write g.S.Hasher.Hasher.finish in
    let b = begun_of w.book.now.parts in let name = w.book.now.begun.book in
    let site = c.args.site.now in let one = c.exchange-closed in let w1 = one.new.window in
    ends_here eq hash b name site.mode (stop_in w (Stepping site.aim (Advancing site.chunk.cursor)) h) w1.sight.log one.new.self one.result
    one.ensures.sees.log one.ensures.answers c.requires.valid one.ensures.fit

pub load-done-requires : goal.load-done-requires
load-done-requires g c =
    let w = c.args.window.now in let h = c.args.self.now in let eq = g.K.PartialEq.eq in
    let hash = hash_of g.K.Hash.hash_input g.S.BuildHasher.build_hasher g.S.Hasher.Hasher.write g.S.Hasher.Hasher.finish in
    let b = begun_of w.book.now.parts in let name = w.book.now.begun.book in
    let site = c.args.site.now in let cursor = site.chunk.cursor in let one = c.exchange-closed in let w1 = one.new.window in let h1 = one.new.self in
    let next : Cursor = c.in-AtChunk.next in
    let is : next_cursor (record cursor { copied = true }) ≡ AtChunk next = sym c.next.ensures.value ∙ c.in-AtChunk.is in
    let stands = subst IsValidStep c.in-AtChunk.is c.next.ensures.valid in
    let s : Stop _ _ _ _ = stop_in w (Stepping site.aim (Advancing cursor)) h in
    let t : Stop _ _ _ _ = stop_in w1 (Stepping site.aim (AtChunk next)) h1 in
    let turn : TurnsBy w site.mode s t = closed eq hash b name site.mode site.aim w.sight.log h w1.sight.log h1 one.ensures.sees.log cursor next one.result
    one.ensures.answers is stands in
    record { reach = asked w1 site.mode t (can_on w w1 one.ensures.sees.book site.mode s t c.requires.can turn) }

pub returns-clause-ends : goal.returns-clause-ends
returns-clause-ends g c =
    let w = c.args.window.now in let h = c.args.self.now in let eq = g.K.PartialEq.eq in
    let hash = hash_of g.K.Hash.hash_input g.S.BuildHasher.build_hasher g.S.Hasher.Hasher.write g.S.Hasher.Hasher.finish in
    let b = begun_of w.book.now.parts in let name = w.book.now.begun.book in
    let site = c.args.site.now in let cursor = site.chunk.cursor in let one = c.exchange-closed in let w1 = one.new.window in let h1 = one.new.self in
    let next : Cursor = c.in-AtChunk.next in
    let is : next_cursor (record cursor { copied = true }) ≡ AtChunk next = sym c.next.ensures.value ∙ c.in-AtChunk.is in
    let stands = subst IsValidStep c.in-AtChunk.is c.next.ensures.valid in
    let s : Stop _ _ _ _ = stop_in w (Stepping site.aim (Advancing cursor)) h in
    let t : Stop _ _ _ _ = stop_in w1 (Stepping site.aim (AtChunk next)) h1 in
    let turn : TurnsBy w site.mode s t = closed eq hash b name site.mode site.aim w.sight.log h w1.sight.log h1 one.ensures.sees.log cursor next one.result
    one.ensures.answers is stands in
    let last = c.load-done in let w2 = last.new.window in
    ends_then eq hash b name site.mode s t (stop_in w2 (Stepping site.aim (AtChunk next)) last.new.self) (Call (Word last.result))
    (leads_one eq hash b name site.mode s t turn)
    (ends_here eq hash b name site.mode t w2.sight.log last.new.self (Call (Word last.result)) last.ensures.sees.log
    (subst (λ (z : _). AnswersLoad eq hash (begun_of z.now.parts) z.now.begun.book (Done next.to next.at) w1.sight.log h1 w2.sight.log last.new.self (Call (Word last.result)))
    one.ensures.sees.book (record { word = last.result; is = refl; as_loaded = last.ensures.as_loaded; rest = last.ensures.rest })) stands tt)
