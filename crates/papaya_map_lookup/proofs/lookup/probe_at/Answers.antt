use Rattle.std.proofs.Common.{◌≡◌, ◌<◌, ◌∙◌, rules, arith, subst}
use Rattle.papaya_call.specs.declared.search.Place.{Place}
use Rattle.papaya_call.specs.declared.search.Search.TheVariants.{Reading}
use Rattle.papaya_call.specs.declared.search.ProbeStep.TheVariants.{On}
use Rattle.papaya_call.specs.Search.{IsProbed, hinted}
use Rattle.papaya_call.specs.declared.machine.State.TheVariants.{Searching}
use Rattle.papaya_map_book.specs.Logs.{exchanges_of}
use Rattle.papaya_map_book.specs.Parts.{begun_of}
use Rattle.papaya_map_book.proofs.Windows.{observes_trans}
use Rattle.papaya_map_lookup.specs.Lookups.{next_stage, left_of}
use Rattle.papaya_map_lookup.proofs.Readings.{IsQuery}
use Rattle.papaya_map_lookup.proofs.Turning.{hint_passed, hint_there, word_next}
use Rattle.papaya_map_lookup.proofs.lookup.probe_at.Goals.{in_default-via-in-On+in_default, in_default-via-in_default}
use Rattle.papaya_map_lookup.proofs.lookup.probe_at.Goals as goal

pub hint-hint-requires-clause-place : goal.hint-hint-requires-clause-place
hint-hint-requires-clause-place g c =
    let lawful : IsQuery g.K.PartialEq.eq g.K.Hash.hash_input (g.Q.Equivalent.matches c.args.key.now) (g.Q.Hash.hash_input c.args.key.now) =
    record { feeds = g.met.Q.Equivalent.hashes_as_key c.args.key.now; class = λ k l. g.met.Q.Equivalent.matches_equal_keys c.args.key.now k l } in
    let r = c.requires.reads in let w = c.args.window.now.book.now in
    (hint_there g.K.PartialEq.eq g.K.Hash.hash_input g.S.BuildHasher.build_hasher g.S.Hasher.Hasher.write g.S.Hasher.Hasher.finish g.met.K.Eq.laws
    g.met.K.Hash.respects_eq (begun_of w.parts) (g.Q.Equivalent.matches c.args.key.now) (g.Q.Hash.hash_input c.args.key.now) lawful
    (exchanges_of r.0) c.args.hash w.begun.book c.args.window.now.sight.log c.args.at c.requires.within c.args.table.now
    r.1).1

pub read_at-requires-clause-reads : goal.read_at-requires-clause-reads
read_at-requires-clause-reads g c =
    let lawful : IsQuery g.K.PartialEq.eq g.K.Hash.hash_input (g.Q.Equivalent.matches c.args.key.now) (g.Q.Hash.hash_input c.args.key.now) =
    record { feeds = g.met.Q.Equivalent.hashes_as_key c.args.key.now; class = λ k l. g.met.Q.Equivalent.matches_equal_keys c.args.key.now k l } in
    let r = c.requires.reads in let w = c.args.window.now.book.now in let h = c.hint-hint in
    let reads : hinted c.args.at c.args.hash h.result ≡ On (Reading c.in-On-Reading.field-0-0) = search rules in (
      c.args.hash,
      (
        r.0,
        rw h.ensures.sees.book
            (word_next g.K.PartialEq.eq g.K.Hash.hash_input g.S.BuildHasher.build_hasher g.S.Hasher.Hasher.write g.S.Hasher.Hasher.finish g.met.K.Eq.laws
            g.met.K.Hash.respects_eq (begun_of w.parts) (g.Q.Equivalent.matches c.args.key.now) (g.Q.Hash.hash_input c.args.key.now) lawful
            (exchanges_of r.0) c.args.hash w.begun.book c.args.window.now.sight.log c.args.at c.requires.within c.args.table.now r.1
            h.new.self.sight.log h.ensures.sees.log h.result h.ensures.hint c.in-On-Reading.field-0-0 reads),
      ),
    )

pub returns : goal.returns
returns g c =
    let lawful : IsQuery g.K.PartialEq.eq g.K.Hash.hash_input (g.Q.Equivalent.matches c.args.key.now) (g.Q.Hash.hash_input c.args.key.now) =
    record { feeds = g.met.Q.Equivalent.hashes_as_key c.args.key.now; class = λ k l. g.met.Q.Equivalent.matches_equal_keys c.args.key.now k l } in
    let w = c.args.window.now.book.now in let h = c.hint-hint in let r = c.read_at in
    let reads : hinted c.args.at c.args.hash h.result ≡ On (Reading c.in-On-Reading.field-0-0) = search rules in
    let less = subst (λ (z : _). left_of (next_stage z.now.parts.mode 0 r.result) < left_of (Searching (Reading c.args.at))) h.ensures.sees.book r.ensures.fewer in
    record {
      sees = observes_trans _ _ _ h.ensures.sees r.ensures.sees;
      leads = λ began reading. r.ensures.leads c.args.hash began
          (rw h.ensures.sees.book
          (word_next g.K.PartialEq.eq g.K.Hash.hash_input g.S.BuildHasher.build_hasher g.S.Hasher.Hasher.write g.S.Hasher.Hasher.finish g.met.K.Eq.laws
          g.met.K.Hash.respects_eq (begun_of w.parts) (g.Q.Equivalent.matches c.args.key.now) (g.Q.Hash.hash_input c.args.key.now) lawful
          (exchanges_of began) c.args.hash w.begun.book c.args.window.now.sight.log c.args.at c.requires.within c.args.table.now reading
          h.new.self.sight.log h.ensures.sees.log h.result h.ensures.hint c.in-On-Reading.field-0-0 reads));
      fewer = omega (arith, less);
    }

pub returns-in_default-clause-leads : goal.returns-in_default-clause-leads
returns-in_default-clause-leads g c = λ began reading.
    let lawful : IsQuery g.K.PartialEq.eq g.K.Hash.hash_input (g.Q.Equivalent.matches c.args.key.now) (g.Q.Hash.hash_input c.args.key.now) =
    record { feeds = g.met.Q.Equivalent.hashes_as_key c.args.key.now; class = λ k l. g.met.Q.Equivalent.matches_equal_keys c.args.key.now k l } in
    let w = c.args.window.now.book.now in let h = c.hint-hint in
    let none : (a : Place) → hinted c.args.at c.args.hash h.result ≡ On (Reading a)
    → ⊥ = λ a e. elim c.in_default.branch [ in_default-via-in-On+in_default x ↦ search rules | in_default-via-in_default x ↦ search rules ] in
    let seen : IsProbed (hinted c.args.at c.args.hash h.result) = subst IsProbed c.hinted-seen.ensures.value c.hinted-seen.ensures.seen in
    rw (h.ensures.sees.book, c.without.ensures, c.hinted-seen.ensures.value)
    (hint_passed g.K.PartialEq.eq g.K.Hash.hash_input g.S.BuildHasher.build_hasher g.S.Hasher.Hasher.write g.S.Hasher.Hasher.finish g.met.K.Eq.laws
    g.met.K.Hash.respects_eq (begun_of w.parts) (g.Q.Equivalent.matches c.args.key.now) (g.Q.Hash.hash_input c.args.key.now) lawful
    (exchanges_of began) c.args.hash w.begun.book c.args.window.now.sight.log c.args.at c.requires.within c.args.table.now reading
    h.new.self.sight.log h.ensures.sees.log h.result h.ensures.hint seen none).0
