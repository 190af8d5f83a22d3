use Rattle.std.proofs.Common.{◌≡◌, ap, ◌∙◌, rules}
use Rattle.papaya_call.specs.declared.search.Search.TheVariants.{Reading}
use Rattle.papaya_call.specs.declared.search.ProbeStep.TheVariants.{On}
use Rattle.papaya_call.specs.Search.{hinted}
use Rattle.papaya_map_book.specs.Parts.{begun_of}
use Rattle.papaya_map_change.specs.Seeking.{Inserts, hit_of}
use Rattle.papaya_map_change.proofs.Seeking.{hint_seen, hint_there, turned, word_next}
use Rattle.papaya_map_change.proofs.fast_path.probe_at.Goals as goal

pub hint-hint-requires-clause-place : goal.hint-hint-requires-clause-place
hint-hint-requires-clause-place g c =
    let w = c.args.window.now.book.now in let st = c.requires.stands in
    (hint_there g.K.PartialEq.eq g.K.Hash.hash_input g.S.BuildHasher.build_hasher g.S.Hasher.Hasher.write g.S.Hasher.Hasher.finish g.met.K.Eq.laws
    g.met.K.Hash.respects_eq (begun_of w.parts) w.begun.book c.args.key.now st.0 Inserts c.args.window.now.sight.log c.args.at c.args.table.now st.1).1

pub returns-in_default-clause-turns : goal.returns-in_default-clause-turns
returns-in_default-clause-turns g c =
    let w = c.args.window.now.book.now in let h = c.hint-hint in
    let to : c.without.result ≡ hit_of (hinted c.args.at c.args.hash h.result) = c.without.ensures ∙ ap (λ z. hit_of z) c.hinted-seen.ensures.value in
    rw (h.ensures.sees.book, to) (λ who begun state e r.
    turned g.K.PartialEq.eq g.K.Hash.hash_input g.S.BuildHasher.build_hasher g.S.Hasher.Hasher.write g.S.Hasher.Hasher.finish g.met.K.Eq.laws
    g.met.K.Hash.respects_eq (begun_of w.parts) w.begun.book c.args.key.now begun who h.new.self.sight.log (hinted c.args.at c.args.hash h.result)
    c.args.table.now
    (hint_seen g.K.PartialEq.eq g.K.Hash.hash_input g.S.BuildHasher.build_hasher g.S.Hasher.Hasher.write g.S.Hasher.Hasher.finish g.met.K.Eq.laws
    g.met.K.Hash.respects_eq (begun_of w.parts) w.begun.book c.args.key.now begun who c.args.window.now.sight.log h.new.self.sight.log
    h.ensures.sees.log c.args.at c.args.table.now r c.args.hash c.requires.hashed h.result h.ensures.hint) state e)

pub read_at-requires-clause-stands : goal.read_at-requires-clause-stands
read_at-requires-clause-stands g c =
    let w = c.args.window.now.book.now in let st = c.requires.stands in let h = c.hint-hint in
    let reads : hinted c.args.at c.args.hash h.result ≡ On (Reading c.in-On-Reading.field-0-0) = search rules in
    rw h.ensures.sees.book (
      st.0,
      word_next g.K.PartialEq.eq g.K.Hash.hash_input g.S.BuildHasher.build_hasher g.S.Hasher.Hasher.write
          g.S.Hasher.Hasher.finish g.met.K.Eq.laws g.met.K.Hash.respects_eq (begun_of w.parts) w.begun.book c.args.key.now st.0 Inserts
          c.args.window.now.sight.log h.new.self.sight.log h.ensures.sees.log c.args.at c.args.table.now st.1 c.args.hash c.requires.hashed h.result
          h.ensures.hint c.in-On-Reading.field-0-0 reads,
    )

pub returns-clause-turns : goal.returns-clause-turns
returns-clause-turns g c = λ who begun state e r.
    let w = c.args.window.now.book.now in let h = c.hint-hint in
    let reads : hinted c.args.at c.args.hash h.result ≡ On (Reading c.in-On-Reading.field-0-0) = search rules in
    let next = word_next g.K.PartialEq.eq g.K.Hash.hash_input g.S.BuildHasher.build_hasher g.S.Hasher.Hasher.write g.S.Hasher.Hasher.finish
    g.met.K.Eq.laws g.met.K.Hash.respects_eq (begun_of w.parts) w.begun.book c.args.key.now begun who c.args.window.now.sight.log
    h.new.self.sight.log h.ensures.sees.log c.args.at c.args.table.now r c.args.hash c.requires.hashed h.result h.ensures.hint
    c.in-On-Reading.field-0-0 reads in
    c.read_at.ensures.turns who begun state e (rw h.ensures.sees.book next)
