use Rattle.std.proofs.Common.{◌≡◌, true, false, Some, refl, ap, ◌∙◌, rules, subst}
use Rattle.papaya_words.specs.Word.{kind_of}
use Rattle.papaya_words.specs.declared.word.Kind.TheVariants.{Live}
use Rattle.papaya_call.specs.declared.search.Search.TheVariants.{Comparing}
use Rattle.papaya_call.specs.declared.search.ProbeStep.TheVariants.{On}
use Rattle.papaya_call.specs.Search.{at_yes, look}
use Rattle.papaya_call.specs.declared.machine.State.{State}
use Rattle.papaya_map_book.specs.Hashes.{hash_of}
use Rattle.papaya_map_book.specs.Parts.{begun_of}
use Rattle.papaya_map_change.specs.Seeking.{Inserts, IsSeekingAt, at_live, hit_of}
use Rattle.papaya_map_change.proofs.Seeking.{looked, matched, met_live, pair_there, place_there, turned}
use Rattle.papaya_map_change.proofs.fast_path.read_at.Goals as goal
use Rattle.papaya_map_change.proofs.fast_path.read_at.Goals.{in-On-Comparing+in-Some-false, in_default}

pub slot_word-word-requires-clause-place : goal.slot_word-word-requires-clause-place
slot_word-word-requires-clause-place g c =
    let w = c.args.window.now.book.now in let st = c.requires.stands in
    (place_there g.K.PartialEq.eq g.K.Hash.hash_input g.S.BuildHasher.build_hasher g.S.Hasher.Hasher.write g.S.Hasher.Hasher.finish g.met.K.Eq.laws
    g.met.K.Hash.respects_eq (begun_of w.parts) w.begun.book c.args.key.now st.0 Inserts c.args.window.now.sight.log c.args.at c.args.table.now st.1).1

pub named_pair-stored-requires : goal.named_pair-stored-requires
named_pair-stored-requires g c =
    let w = c.args.window.now.book.now in let st = c.requires.stands in let s = c.slot_word-word in
    let looks : look c.args.at s.result.0 ≡ On (Comparing c.in-On-Comparing.field-0-0 c.in-On-Comparing.field-0-1) = search rules in
    pair_there g.K.PartialEq.eq g.K.Hash.hash_input g.S.BuildHasher.build_hasher g.S.Hasher.Hasher.write g.S.Hasher.Hasher.finish g.met.K.Eq.laws
    g.met.K.Hash.respects_eq (begun_of w.parts) w.begun.book c.args.key.now st.0 Inserts c.args.window.now.sight.log s.new.self.sight.log
    s.ensures.sees.log c.args.at c.args.table.now st.1 s.result.0 s.result.1.state s.ensures.slot
    c.in-On-Comparing.field-0-0 c.in-On-Comparing.field-0-1 looks

pub returns-in-Some-true-clause-turns : goal.returns-in-Some-true-clause-turns
returns-in-Some-true-clause-turns g c =
    let w = c.args.window.now.book.now in let s = c.slot_word-word in let p = c.named_pair-stored.result in
    let looks : look c.args.at s.result.0 ≡ On (Comparing c.in-On-Comparing.field-0-0 c.in-On-Comparing.field-0-1) = search rules in
    let met : c.has_key.result ≡ Some true = search rules in
    let same = c.has_key.ensures true met ∙ ap (λ z. g.K.PartialEq.eq c.args.key.now z.key.value) c.pair-pair.ensures in
    let live : kind_of s.result.0 ≡ Live = search rules in
    rw s.ensures.sees.book (λ who begun state e r.
    let is : at_live who c.args.at s.result.0 ≡ state = cc e in
    subst (λ (z : State). IsSeekingAt who g.K.PartialEq.eq
    (hash_of g.K.Hash.hash_input g.S.BuildHasher.build_hasher g.S.Hasher.Hasher.write g.S.Hasher.Hasher.finish) (begun_of w.parts) w.begun.book
    c.args.key.now begun s.new.self.sight.log z (Some p) c.args.table.now) is
    (met_live g.K.PartialEq.eq g.K.Hash.hash_input g.S.BuildHasher.build_hasher g.S.Hasher.Hasher.write g.S.Hasher.Hasher.finish g.met.K.Eq.laws
    g.met.K.Hash.respects_eq (begun_of w.parts) w.begun.book c.args.key.now begun who c.args.window.now.sight.log s.new.self.sight.log
    s.ensures.sees.log c.args.at c.args.table.now r s.result.0 s.result.1.state s.ensures.slot
    c.in-On-Comparing.field-0-0 c.in-On-Comparing.field-0-1 looks p c.named_pair-stored.ensures true same refl live))

pub returns-clause-turns : goal.returns-clause-turns
returns-clause-turns g c =
    let w = c.args.window.now.book.now in let s = c.slot_word-word in
    elim c.match-seen.branch [
      | in-On-Comparing+in-Some-false v ↦
          let looks : look c.args.at s.result.0 ≡ On (Comparing v.in-On-Comparing.field-0-0 v.in-On-Comparing.field-0-1) = search rules in
          let met : v.has_key.result ≡ Some false = search rules in
          let same = v.has_key.ensures false met ∙ ap (λ z. g.K.PartialEq.eq c.args.key.now z.key.value) v.pair-pair.ensures in
          let to : c.without.result ≡ hit_of (at_yes (Comparing c.args.at s.result.0) false) = c.without.ensures
          ∙ ap (λ z. hit_of z) (v.seen-is ∙ v.at_yes-seen.ensures.value) in
          rw (s.ensures.sees.book, to) (λ who begun state e r.
          turned g.K.PartialEq.eq g.K.Hash.hash_input g.S.BuildHasher.build_hasher g.S.Hasher.Hasher.write g.S.Hasher.Hasher.finish g.met.K.Eq.laws
          g.met.K.Hash.respects_eq (begun_of w.parts) w.begun.book c.args.key.now begun who s.new.self.sight.log
          (at_yes (Comparing c.args.at s.result.0) false) c.args.table.now
          (matched g.K.PartialEq.eq g.K.Hash.hash_input g.S.BuildHasher.build_hasher g.S.Hasher.Hasher.write g.S.Hasher.Hasher.finish g.met.K.Eq.laws
          g.met.K.Hash.respects_eq (begun_of w.parts) w.begun.book c.args.key.now begun who c.args.window.now.sight.log s.new.self.sight.log
          s.ensures.sees.log c.args.at c.args.table.now r s.result.0 s.result.1.state s.ensures.slot
          v.in-On-Comparing.field-0-0 v.in-On-Comparing.field-0-1 looks v.named_pair-stored.result v.named_pair-stored.ensures false same) state e)
      | in_default v ↦
          let to : c.without.result ≡ hit_of (look c.args.at s.result.0) = c.without.ensures
          ∙ ap (λ z. hit_of z) (v.seen-is ∙ c.look-seen.ensures.value) in
          rw (s.ensures.sees.book, to) (λ who begun state e r.
          turned g.K.PartialEq.eq g.K.Hash.hash_input g.S.BuildHasher.build_hasher g.S.Hasher.Hasher.write g.S.Hasher.Hasher.finish g.met.K.Eq.laws
          g.met.K.Hash.respects_eq (begun_of w.parts) w.begun.book c.args.key.now begun who s.new.self.sight.log (look c.args.at s.result.0) c.args.table.now
          (looked g.K.PartialEq.eq g.K.Hash.hash_input g.S.BuildHasher.build_hasher g.S.Hasher.Hasher.write g.S.Hasher.Hasher.finish g.met.K.Eq.laws
          g.met.K.Hash.respects_eq (begun_of w.parts) w.begun.book c.args.key.now begun who c.args.window.now.sight.log s.new.self.sight.log
          s.ensures.sees.log c.args.at c.args.table.now r s.result.0 s.result.1.state s.ensures.slot) state e)
    ]
