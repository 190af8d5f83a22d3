use Rattle.std.proofs.Common.{◌≡◌, ℕ, ap, ◌∙◌, rules, subst}
use Rattle.papaya_call.specs.declared.search.Place.{Place}
use Rattle.papaya_call.specs.declared.search.Search.TheVariants.{Comparing}
use Rattle.papaya_call.specs.declared.search.ProbeStep.TheVariants.{Here, On}
use Rattle.papaya_call.specs.Search.{IsProbed, at_yes, look}
use Rattle.papaya_map_book.specs.Logs.{exchanges_of}
use Rattle.papaya_map_book.specs.Parts.{begun_of}
use Rattle.papaya_map_lookup.proofs.Readings.{IsQuery}
use Rattle.papaya_map_lookup.proofs.Turning.{other_pair, pair_found, pair_told, passed, place_there}
use Rattle.papaya_map_lookup.proofs.lookup.read_at.Goals.{in_default-via-in-On+in_default, in_default-via-in_default}
use Rattle.papaya_map_lookup.proofs.lookup.read_at.Goals as goal

pub slot_word-word-requires-clause-place : goal.slot_word-word-requires-clause-place
slot_word-word-requires-clause-place g c =
    let lawful : IsQuery g.K.PartialEq.eq g.K.Hash.hash_input (g.Q.Equivalent.matches c.args.key.now) (g.Q.Hash.hash_input c.args.key.now) =
    record { feeds = g.met.Q.Equivalent.hashes_as_key c.args.key.now; class = λ k l. g.met.Q.Equivalent.matches_equal_keys c.args.key.now k l } in
    let r = c.requires.reads in
    let w = c.args.window.now.book.now in
    (place_there g.K.PartialEq.eq g.K.Hash.hash_input g.S.BuildHasher.build_hasher g.S.Hasher.Hasher.write g.S.Hasher.Hasher.finish g.met.K.Eq.laws
    g.met.K.Hash.respects_eq (begun_of w.parts) (g.Q.Equivalent.matches c.args.key.now) (g.Q.Hash.hash_input c.args.key.now) lawful
    (exchanges_of r.1.0) r.0 w.begun.book c.args.window.now.sight.log c.args.at c.requires.within c.args.table.now
    r.1.1).1

pub named_pair-stored-requires : goal.named_pair-stored-requires
named_pair-stored-requires g c =
    let lawful : IsQuery g.K.PartialEq.eq g.K.Hash.hash_input (g.Q.Equivalent.matches c.args.key.now) (g.Q.Hash.hash_input c.args.key.now) =
    record { feeds = g.met.Q.Equivalent.hashes_as_key c.args.key.now; class = λ k l. g.met.Q.Equivalent.matches_equal_keys c.args.key.now k l } in
    let r = c.requires.reads in
    let w = c.args.window.now.book.now in let s = c.slot_word-word in
    let looks : look c.args.at s.result.0 ≡ On (Comparing c.in-On-Comparing.field-0-0 c.in-On-Comparing.field-0-1) = search rules in
    pair_told g.K.PartialEq.eq g.K.Hash.hash_input g.S.BuildHasher.build_hasher g.S.Hasher.Hasher.write g.S.Hasher.Hasher.finish g.met.K.Eq.laws
    g.met.K.Hash.respects_eq (begun_of w.parts) (g.Q.Equivalent.matches c.args.key.now) (g.Q.Hash.hash_input c.args.key.now) lawful
    (exchanges_of r.1.0) r.0 w.begun.book c.args.window.now.sight.log c.args.at c.requires.within c.args.table.now r.1.1
    s.new.self.sight.log s.ensures.sees.log s.result.0 s.result.1.state s.ensures.slot c.in-On-Comparing.field-0-0 c.in-On-Comparing.field-0-1 looks

pub returns-in-Here-clause-leads : goal.returns-in-Here-clause-leads
returns-in-Here-clause-leads g c = λ hash began reading.
    let lawful : IsQuery g.K.PartialEq.eq g.K.Hash.hash_input (g.Q.Equivalent.matches c.args.key.now) (g.Q.Hash.hash_input c.args.key.now) =
    record { feeds = g.met.Q.Equivalent.hashes_as_key c.args.key.now; class = λ k l. g.met.Q.Equivalent.matches_equal_keys c.args.key.now k l } in
    let w = c.args.window.now.book.now in let s = c.slot_word-word in
    let looks : look c.args.at s.result.0 ≡ On (Comparing c.in-On-Comparing.field-0-0 c.in-On-Comparing.field-0-1) = search rules in
    let same = c.equivalent-same.ensures ∙ ap (g.Q.Equivalent.matches c.args.key.now) (c.entry.ensures.key ∙ ap (λ z. z.key.value) c.pair-pair.ensures) in
    let here : at_yes (Comparing c.args.at s.result.0) c.equivalent-same.result ≡ Here c.in-Here.field-0 c.in-Here.field-1 = search rules in
    let key = c.entry.ensures.key ∙ ap (λ z. z.key.value) c.pair-pair.ensures in
    let value = c.entry.ensures.value ∙ ap (λ z. z.value) c.pair-pair.ensures in
    rw s.ensures.sees.book (pair_found g.K.PartialEq.eq g.K.Hash.hash_input g.S.BuildHasher.build_hasher g.S.Hasher.Hasher.write
    g.S.Hasher.Hasher.finish g.met.K.Eq.laws g.met.K.Hash.respects_eq (begun_of w.parts) (g.Q.Equivalent.matches c.args.key.now)
    (g.Q.Hash.hash_input c.args.key.now) lawful (exchanges_of began) hash w.begun.book c.args.window.now.sight.log c.args.at
    c.requires.within c.args.table.now reading
    s.new.self.sight.log s.ensures.sees.log s.result.0 s.result.1.state s.ensures.slot c.in-On-Comparing.field-0-0 c.in-On-Comparing.field-0-1 looks
    c.named_pair-stored.result c.named_pair-stored.ensures c.equivalent-same.result same c.in-Here.field-0 c.in-Here.field-1 here _ key value)

pub returns-in-On-Comparing : goal.returns-in-On-Comparing
returns-in-On-Comparing g c =
    let lawful : IsQuery g.K.PartialEq.eq g.K.Hash.hash_input (g.Q.Equivalent.matches c.args.key.now) (g.Q.Hash.hash_input c.args.key.now) =
    record { feeds = g.met.Q.Equivalent.hashes_as_key c.args.key.now; class = λ k l. g.met.Q.Equivalent.matches_equal_keys c.args.key.now k l } in
    let w = c.args.window.now.book.now in let s = c.slot_word-word in
    let looks : look c.args.at s.result.0 ≡ On (Comparing c.in-On-Comparing.field-0-0 c.in-On-Comparing.field-0-1) = search rules in
    let same = c.equivalent-same.ensures ∙ ap (g.Q.Equivalent.matches c.args.key.now) (c.entry.ensures.key ∙ ap (λ z. z.key.value) c.pair-pair.ensures) in
    let none : (a : Place) (n : ℕ) → at_yes (Comparing c.args.at s.result.0) c.equivalent-same.result ≡ Here a n
    → ⊥ = λ a n e. c.in_default-compared.not-Here a n (c.at_yes-compared.ensures.value ∙ e) in
    let seen : IsProbed (at_yes (Comparing c.args.at s.result.0) c.equivalent-same.result) = subst IsProbed c.at_yes-compared.ensures.value
    c.at_yes-compared.ensures.seen in
    let r = c.requires.reads in
    record {
      sees = s.ensures.sees;
      leads = λ hash began reading. rw (s.ensures.sees.book, c.without.ensures, c.at_yes-compared.ensures.value) (other_pair g.K.PartialEq.eq g.K.Hash.hash_input g.S.BuildHasher.build_hasher g.S.Hasher.Hasher.write g.S.Hasher.Hasher.finish
          g.met.K.Eq.laws g.met.K.Hash.respects_eq (begun_of w.parts) (g.Q.Equivalent.matches c.args.key.now) (g.Q.Hash.hash_input c.args.key.now) lawful
          (exchanges_of began) hash w.begun.book c.args.window.now.sight.log c.args.at c.requires.within c.args.table.now reading
          s.new.self.sight.log s.ensures.sees.log s.result.0 s.result.1.state s.ensures.slot c.in-On-Comparing.field-0-0 c.in-On-Comparing.field-0-1 looks
          c.named_pair-stored.result c.named_pair-stored.ensures c.equivalent-same.result same seen none).0;
      fewer = rw (c.without.ensures, c.at_yes-compared.ensures.value) (other_pair g.K.PartialEq.eq g.K.Hash.hash_input g.S.BuildHasher.build_hasher g.S.Hasher.Hasher.write g.S.Hasher.Hasher.finish
          g.met.K.Eq.laws g.met.K.Hash.respects_eq (begun_of w.parts) (g.Q.Equivalent.matches c.args.key.now) (g.Q.Hash.hash_input c.args.key.now) lawful
          (exchanges_of r.1.0) r.0 w.begun.book c.args.window.now.sight.log c.args.at c.requires.within c.args.table.now r.1.1
          s.new.self.sight.log s.ensures.sees.log s.result.0 s.result.1.state s.ensures.slot c.in-On-Comparing.field-0-0 c.in-On-Comparing.field-0-1 looks
          c.named_pair-stored.result c.named_pair-stored.ensures c.equivalent-same.result same seen none).1;
    }

pub returns-clause-leads : goal.returns-clause-leads
returns-clause-leads g c = λ hash began reading.
    let lawful : IsQuery g.K.PartialEq.eq g.K.Hash.hash_input (g.Q.Equivalent.matches c.args.key.now) (g.Q.Hash.hash_input c.args.key.now) =
    record { feeds = g.met.Q.Equivalent.hashes_as_key c.args.key.now; class = λ k l. g.met.Q.Equivalent.matches_equal_keys c.args.key.now k l } in
    let w = c.args.window.now.book.now in let s = c.slot_word-word in
    let none : (a : Place) (n : ℕ) → look c.args.at s.result.0 ≡ On (Comparing a n)
    → ⊥ = λ a n e. elim c.in_default.branch [ in_default-via-in-On+in_default x ↦ search rules | in_default-via-in_default x ↦ search rules ] in
    let seen : IsProbed (look c.args.at s.result.0) = subst IsProbed c.look-seen.ensures.value c.look-seen.ensures.seen in
    let all = passed g.K.PartialEq.eq g.K.Hash.hash_input g.S.BuildHasher.build_hasher g.S.Hasher.Hasher.write g.S.Hasher.Hasher.finish
    g.met.K.Eq.laws g.met.K.Hash.respects_eq (begun_of w.parts) (g.Q.Equivalent.matches c.args.key.now) (g.Q.Hash.hash_input c.args.key.now) lawful
    (exchanges_of began) hash w.begun.book c.args.window.now.sight.log c.args.at c.requires.within c.args.table.now reading
    s.new.self.sight.log s.ensures.sees.log s.result.0 s.result.1.state s.ensures.slot seen none in
    rw (s.ensures.sees.book, c.without-in_default.ensures, c.look-seen.ensures.value) all.0
