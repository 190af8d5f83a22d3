use Rattle.std.proofs.Common.{sym, ◌∙◌, subst}
use Rattle.papaya_call.specs.declared.ask.Ask.{Ask}
use Rattle.papaya_call_law.specs.Says.{MakesPair}
use Rattle.papaya_call_law.specs.Relies.{IsNumberAsk}
use Rattle.papaya_map_book.specs.Parts.{begun_of}
use Rattle.papaya_call_law.proofs.Names.{call_asks}
use Rattle.papaya_map_change.proofs.Inserting.{pair_made, pair_unmade}
use Rattle.papaya_map_change.proofs.OwnParts.{own_key, unlogged_unmade}
use Rattle.papaya_map_change.proofs.insertion.Insertion.make_pair.Goals as goal

pub store_pair-requires-clause-waits : goal.store_pair-requires-clause-waits
store_pair-requires-clause-waits g c = record {
  can = (c.requires.can.0, c.requires.can.3.made, c.requires.can.2, c.requires.can.3.writing);
  asks = c.requires.asks;
}

pub returns-in-Ok-clause-inserts : goal.returns-in-Ok-clause-inserts
returns-in-Ok-clause-inserts g c = λ key value begun r.
    let logged = c.in-Ok.ensures.stores in let same = c.store_pair.ensures.stores in let own = call_asks c.args.self.now.writer.call.machine _ c.requires.asks in
    let key_is = own_key (begun_of c.args.window.now.book.now.parts) c.args.window.now.book.now.begun.book key c.args.self.now.writer.key
    r.writing.keyed c.in-Ok.pair c.in-Ok.ensures.key in
    pair_made g.K.PartialEq.eq g.K.Hash.hash_input g.S.BuildHasher.build_hasher g.S.Hasher.Hasher.write g.S.Hasher.Hasher.finish g.met.K.Eq.laws
    g.met.K.Hash.respects_eq (begun_of c.args.window.now.book.now.parts) c.args.window.now.book.now.begun.book key value begun
    c.args.window.now.sight.log c.args.self.now r c.store_pair.new.self c.in-Ok.pair c.index-number.result c.index-number.ensures same.machine
    logged.value same.left same.put c.requires.valid own.0 (subst (λ (a : Ask). MakesPair a) (sym own.1) tt)
    (logged.pairs key r.made begun r.writing) c.requires.asks key_is

pub returns-in-Err-clause-inserts : goal.returns-in-Err-clause-inserts
returns-in-Err-clause-inserts g c = λ key value begun r.
    let same = c.store_pair.ensures.stores in let own = call_asks c.args.self.now.writer.call.machine _ c.requires.asks in
    pair_unmade g.K.PartialEq.eq g.K.Hash.hash_input g.S.BuildHasher.build_hasher g.S.Hasher.Hasher.write g.S.Hasher.Hasher.finish g.met.K.Eq.laws
    g.met.K.Hash.respects_eq (begun_of c.args.window.now.book.now.parts) c.args.window.now.book.now.begun.book key value begun
    c.args.window.now.sight.log c.args.self.now r c.store_pair.new.self c.in-Err.answer same.machine same.left same.put c.requires.valid own.0
    (λ reply h. let f = sym c.requires.asks ∙ h in cc f) (unlogged_unmade c.in-Err.answer c.in-Err.ensures.stores.unlogged)
    (λ number. absurd (subst (λ (a : Ask). IsNumberAsk a) own.1 number)) c.in-Err.ensures.stores.unsaid (c.in-Err.ensures.stores.writes key r.made begun r.writing)
