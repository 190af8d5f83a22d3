use Rattle.std.proofs.Common.{[], append-nil, refl, sym, ap, ◌∙◌, subst}
use Rattle.papaya_call.specs.declared.ask.At.{At}
use Rattle.papaya_call.specs.declared.ask.At.TheVariants.{Aborted, Done, Root, Slot}
use Rattle.papaya_map_book.specs.declared.rule.entry.Named.TheVariants.{Nothing}
use Rattle.papaya_map_book.specs.Calls.{IsTried}
use Rattle.papaya_map_book.specs.Hashes.{hash_of}
use Rattle.papaya_map_book.specs.Parts.{begun_of}
use Rattle.papaya_map_change.specs.Copier.{AnswersExchange, CanExchangeFor, HasTried}
use Rattle.papaya_map_change.proofs.Copiers.{linked, reached_low, reached_word, slot_tried, word_tried}
use Rattle.papaya_map_change.proofs.HelpingExchanges.{tried_word}
use Rattle.papaya_map_change.proofs.copier.Copier.exchange.Goals as goal

pub returns-in-Root-clause-answers : goal.returns-in-Root-clause-answers
returns-in-Root-clause-answers g c = let hash = hash_of g.K.Hash.hash_input g.S.BuildHasher.build_hasher g.S.Hasher.Hasher.write g.S.Hasher.Hasher.finish in
    let tried = c.copy_root.ensures.tried in
    subst (λ (a : At). AnswersExchange g.K.PartialEq.eq hash (begun_of c.args.window.now.book.now.parts) c.args.window.now.book.now.begun.book a
    c.args.kind c.args.words.0 c.args.words.1 c.args.window.now.sight.log c.args.self.now c.copy_root.new.self.sight.log c.args.self.now
    c.tried.result) (sym c.in-Root.is)
    (word_tried g.K.PartialEq.eq hash (begun_of c.args.window.now.book.now.parts) c.args.window.now.book.now.begun.book c.args.words.0 c.args.words.1
    c.args.kind
    c.args.window.now.sight.log c.copy_root.new.self.sight.log c.args.self.now Root (λ t x e. cc e) c.copy_root.result
    (tried_word g.K.PartialEq.eq hash (begun_of c.args.window.now.book.now.parts) c.args.window.now.book.now.begun.book c.args.window.now.sight.log
    c.args.window.now.sight.log
    ([], append-nil c.args.window.now.sight.log) c.args.kind c.args.words.0 c.args.words.1 c.args.self.now.kept c.args.self.now.fresh
    c.copy_root.result c.copy_root.new.self.sight.log Root (λ s. refl) tried.0 tried.1) refl c.tried.result c.tried.ensures.value)

pub returns-in-Next-clause-answers : goal.returns-in-Next-clause-answers
returns-in-Next-clause-answers g c = let hash = hash_of g.K.Hash.hash_input g.S.BuildHasher.build_hasher g.S.Hasher.Hasher.write g.S.Hasher.Hasher.finish in
    let can = subst (λ (a : At). CanExchangeFor g.K.PartialEq.eq hash (begun_of c.args.window.now.book.now.parts)
    c.args.window.now.book.now.begun.book a c.args.kind c.args.words.0 c.args.words.1 c.args.window.now.sight.log c.args.self.now) c.in-Next.is
    c.requires.can in
    let tried = c.link.ensures.joins c.args.words.1 can.0 in
    subst (λ (a : At). AnswersExchange g.K.PartialEq.eq hash (begun_of c.args.window.now.book.now.parts) c.args.window.now.book.now.begun.book a
    c.args.kind c.args.words.0 c.args.words.1 c.args.window.now.sight.log c.args.self.now c.link.new.window.sight.log c.link.new.self
    c.tried-in-Next.result) (sym c.in-Next.is)
    (record {
      found = c.link.result;
      is = c.tried-in-Next.ensures.value;
      tried = linked g.K.PartialEq.eq hash (begun_of c.args.window.now.book.now.parts) c.args.window.now.book.now.begun.book c.in-Next.number
          c.args.words.1 c.args.words.0 c.args.kind c.args.window.now.sight.log c.link.new.window.sight.log c.args.self.now c.link.new.self
          c.link.result can.0 can.1 can.2 tried (ap (λ z. z.last) c.link.ensures.rest);
      hand = tt;
      rest = c.link.ensures.rest ∙ (λ i. record c.args.self.now { last = (sym (ap (λ z. z.last) c.link.ensures.rest)) i; fresh = c.link.new.self.fresh });
    })

pub returns-in-Aborted-clause-answers : goal.returns-in-Aborted-clause-answers
returns-in-Aborted-clause-answers g c = let hash = hash_of g.K.Hash.hash_input g.S.BuildHasher.build_hasher g.S.Hasher.Hasher.write
    g.S.Hasher.Hasher.finish in
    let told = c.copy_aborted-found.ensures.tried in
    let tried = subst (λ (b : _). IsTried g.K.PartialEq.eq hash (begun_of b.now.parts) (Aborted c.in-Aborted.number) c.args.kind c.args.words.0 c.args.words.1
    c.args.self.now.kept Nothing c.table-table.new.self.sight.log c.copy_aborted-found.result c.copy_aborted-found.new.self.sight.log told.0)
    c.table-table.ensures.sees.book told.1 in
    subst (λ (a : At). AnswersExchange g.K.PartialEq.eq hash (begun_of c.args.window.now.book.now.parts) c.args.window.now.book.now.begun.book a
    c.args.kind c.args.words.0 c.args.words.1 c.args.window.now.sight.log c.args.self.now c.copy_aborted-found.new.self.sight.log c.args.self.now
    c.tried-in-Aborted.result) (sym c.in-Aborted.is)
    (word_tried g.K.PartialEq.eq hash (begun_of c.args.window.now.book.now.parts) c.args.window.now.book.now.begun.book c.args.words.0 c.args.words.1
    c.args.kind
    c.args.window.now.sight.log c.copy_aborted-found.new.self.sight.log c.args.self.now (Aborted c.in-Aborted.number) (λ t x e. cc e)
    c.copy_aborted-found.result
    (tried_word g.K.PartialEq.eq hash (begun_of c.args.window.now.book.now.parts) c.args.window.now.book.now.begun.book c.args.window.now.sight.log
    c.table-table.new.self.sight.log
    c.table-table.ensures.sees.log c.args.kind c.args.words.0 c.args.words.1 c.args.self.now.kept c.args.self.now.fresh
    c.copy_aborted-found.result c.copy_aborted-found.new.self.sight.log (Aborted c.in-Aborted.number) (λ s. refl) told.0 tried) refl
    c.tried-in-Aborted.result c.tried-in-Aborted.ensures.value)

pub copy_done-found-requires-clause-chunk : goal.copy_done-found-requires-clause-chunk
copy_done-found-requires-clause-chunk g c = let hash = hash_of g.K.Hash.hash_input g.S.BuildHasher.build_hasher g.S.Hasher.Hasher.write
    g.S.Hasher.Hasher.finish in
    let can = subst (λ (a : At). CanExchangeFor g.K.PartialEq.eq hash (begun_of c.args.window.now.book.now.parts)
    c.args.window.now.book.now.begun.book a c.args.kind c.args.words.0 c.args.words.1 c.args.window.now.sight.log c.args.self.now) c.in-Done.is
    c.requires.can in
    reached_word c.args.window.now.sight.log c.table-table-in-Done.new.self.sight.log c.table-table-in-Done.ensures.sees.log (Done c.in-Done.number
    c.in-Done.chunk) c.in-Done.number c.in-Done.chunk
    refl can.0 c.table-table-in-Done.result.now c.table-table-in-Done.ensures.table

pub returns-in-Done-clause-answers : goal.returns-in-Done-clause-answers
returns-in-Done-clause-answers g c = let hash = hash_of g.K.Hash.hash_input g.S.BuildHasher.build_hasher g.S.Hasher.Hasher.write g.S.Hasher.Hasher.finish in
    let told = c.copy_done-found.ensures.tried in
    let tried = subst (λ (b : _). IsTried g.K.PartialEq.eq hash (begun_of b.now.parts) (Done c.in-Done.number c.in-Done.chunk) c.args.kind c.args.words.0
    c.args.words.1
    c.args.self.now.kept Nothing c.table-table-in-Done.new.self.sight.log c.copy_done-found.result c.copy_done-found.new.self.sight.log told.0)
    c.table-table-in-Done.ensures.sees.book told.1 in
    subst (λ (a : At). AnswersExchange g.K.PartialEq.eq hash (begun_of c.args.window.now.book.now.parts) c.args.window.now.book.now.begun.book a
    c.args.kind c.args.words.0 c.args.words.1 c.args.window.now.sight.log c.args.self.now c.copy_done-found.new.self.sight.log c.args.self.now
    c.tried-in-Done.result) (sym c.in-Done.is)
    (word_tried g.K.PartialEq.eq hash (begun_of c.args.window.now.book.now.parts) c.args.window.now.book.now.begun.book c.args.words.0 c.args.words.1
    c.args.kind
    c.args.window.now.sight.log c.copy_done-found.new.self.sight.log c.args.self.now (Done c.in-Done.number c.in-Done.chunk) (λ t x e. cc e)
    c.copy_done-found.result
    (tried_word g.K.PartialEq.eq hash (begun_of c.args.window.now.book.now.parts) c.args.window.now.book.now.begun.book c.args.window.now.sight.log
    c.table-table-in-Done.new.self.sight.log
    c.table-table-in-Done.ensures.sees.log c.args.kind c.args.words.0 c.args.words.1 c.args.self.now.kept c.args.self.now.fresh
    c.copy_done-found.result c.copy_done-found.new.self.sight.log (Done c.in-Done.number c.in-Done.chunk) (λ s. refl) told.0 tried) refl
    c.tried-in-Done.result c.tried-in-Done.ensures.value)

pub exchange_slot-found-requires-clause-place : goal.exchange_slot-found-requires-clause-place
exchange_slot-found-requires-clause-place g c = let hash = hash_of g.K.Hash.hash_input g.S.BuildHasher.build_hasher g.S.Hasher.Hasher.write
    g.S.Hasher.Hasher.finish in
    let can = subst (λ (a : At). CanExchangeFor g.K.PartialEq.eq hash (begun_of c.args.window.now.book.now.parts)
    c.args.window.now.book.now.begun.book a c.args.kind c.args.words.0 c.args.words.1 c.args.window.now.sight.log c.args.self.now) c.in-Slot.is
    c.requires.can in
    reached_low c.args.window.now.sight.log c.table-table-in-Slot.new.self.sight.log c.table-table-in-Slot.ensures.sees.log (Slot c.in-Slot.number
    c.in-Slot.place) c.in-Slot.number c.in-Slot.place
    refl can.0 c.table-table-in-Slot.result.now c.table-table-in-Slot.ensures.table

pub returns-in-Slot-clause-answers : goal.returns-in-Slot-clause-answers
returns-in-Slot-clause-answers g c = let hash = hash_of g.K.Hash.hash_input g.S.BuildHasher.build_hasher g.S.Hasher.Hasher.write g.S.Hasher.Hasher.finish in
    let one = c.exchange_slot-found in
    let tried = subst (λ (b : _). HasTried g.K.PartialEq.eq hash (begun_of b.now.parts) b.now.begun.book (Slot c.in-Slot.number c.in-Slot.place)
    c.args.kind c.args.words
    c.args.self.now.kept c.args.self.now.fresh c.table-table-in-Slot.new.self.sight.log c.args.self.now.last one.result one.new.window.sight.log
    one.new.self.last)
    c.table-table-in-Slot.ensures.sees.book one.ensures.tried in
    subst (λ (a : At). AnswersExchange g.K.PartialEq.eq hash (begun_of c.args.window.now.book.now.parts) c.args.window.now.book.now.begun.book a
    c.args.kind c.args.words.0 c.args.words.1 c.args.window.now.sight.log c.args.self.now one.new.window.sight.log one.new.self
    c.tried-in-Slot.result) (sym c.in-Slot.is)
    (slot_tried g.K.PartialEq.eq hash (begun_of c.args.window.now.book.now.parts) c.args.window.now.book.now.begun.book c.args.words.0 c.args.words.1
    c.args.kind
    c.args.window.now.sight.log c.table-table-in-Slot.new.self.sight.log c.table-table-in-Slot.ensures.sees.log one.new.window.sight.log c.args.self.now
    one.new.self
    c.in-Slot.number c.in-Slot.place one.result tried one.ensures.rest c.tried-in-Slot.result c.tried-in-Slot.ensures.value)
