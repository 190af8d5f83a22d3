use Rattle.std.proofs.Common.{rules, ◌≡◌, ℕ, Option, None, Some, IsSome, option_map, refl, sym, ◌∙◌, ap, subst}
use Rattle.std.specs.Prelude.{MatchOption}
use denote.Ref.{Bor}
use Rattle.papaya_words.specs.Word.{kind_of, pair_of as number_of}
use Rattle.papaya_words.specs.declared.word.Kind.TheVariants.{Live}
use Rattle.papaya_call.specs.declared.call.Task.TheVariants.{Compute}
use Rattle.papaya_call.specs.declared.answers.Operation.{Operation}
use Rattle.papaya_call.specs.Machine.{started}
use Rattle.papaya_words_keys.specs.Hashes.{hash_of}
use Rattle.papaya_core_store.specs.Store.{Stored, pair_of}
use Rattle.papaya_core_store.specs.Tables.{word_at}
use Rattle.papaya_seq.specs.ComputeRuns.{IsComputedFrom}
use Rattle.papaya_seq.specs.Computes.{AreOf, Says}
use Rattle.papaya_seq.specs.Map.{deref_pair, entry_of}
use Rattle.papaya_seq.specs.Searches.{IsRootHit}
use Rattle.papaya_seq.specs.Writes.{slot_of}
use Rattle.papaya_seq.specs.declared.search.ProbeHit.{ProbeHit}
use Rattle.papaya_seq.specs.declared.search.ProbeHit.TheVariants as turns
use Rattle.papaya_seq.proofs.ComputedFast.{none_computed, pair_computed, shown_pair}
use Rattle.papaya_seq.proofs.TableSearch.{some_matched}
use Rattle.papaya_seq.proofs.operating.compute_fast.Goals as goal
use Rattle.papaya_seq.proofs.operating.compute_fast.Goals.{In-Some-Empty, In-Some-Here}
use Rattle.papaya_seq.proofs.operating.compute_fast.Given as given
use Rattle.papaya_seq.proofs.operating.compute_fast.Given.{Over}

-- the results that the closure may return
abbrev said : (g : Over) (f : g.row.F.Denot) → Option (Stored g.row.K.Denot g.row.V.Denot) → Operation g.row.V.Denot g.row.T.Denot → Type 0
said g f = Says (λ shown operation. given.F-post g f shown operation)

-- the outcome of the search of the root
empty : (g : Over) (c : In-Some-Empty g) → IsRootHit (g.K.PartialEq.eq c.args.key) c.args.store.now c.args.hash (turns.Empty c.in-Some-Empty.place)
empty g c = subst (λ (t : ProbeHit). IsRootHit (g.K.PartialEq.eq c.args.key) c.args.store.now c.args.hash t) (search rules)
    (c.search_root.ensures.turn c.in-Some-Empty.field-0 c.in-Some-Empty.is)

here : (g : Over) (c : In-Some-Here g) → IsRootHit (g.K.PartialEq.eq c.args.key) c.args.store.now c.args.hash
    (turns.Here c.in-Some-Here.place c.in-Some-Here.word)
here g c = subst (λ (t : ProbeHit). IsRootHit (g.K.PartialEq.eq c.args.key) c.args.store.now c.args.hash t) (search rules)
    (c.search_root.ensures.turn c.in-Some-Here.field-0 c.in-Some-Here.is)

-- a place that was empty has no word
bare : (g : Over) (c : In-Some-Empty g) → word_at c.args.store.now.words (slot_of c.in-Some-Empty.place) ≡ 0
bare g c = c.requires.bare c.in-Some-Empty.place.table c.in-Some-Empty.place.probe.i (empty g c).stands

pub decide-operation-requires : goal.decide-operation-requires
decide-operation-requires g c = c.requires.takes (turns.Empty c.in-Some-Empty.place) (empty g (goal.at.decide-operation-requires g c).In-Some-Empty)
    c.no_pair.result (ap (λ o. option_map deref_pair o) c.no_pair.ensures)

pub operate-requires-clause-stands : goal.operate-requires-clause-stands
operate-requires-clause-stands g c = bare g (goal.at.operate-requires-clause-stands g c).In-Some-Empty

pub returns-in-Some-Empty-clause-ok : goal.returns-in-Some-Empty-clause-ok
returns-in-Some-Empty-clause-ok g c mode initial =
    let at = (goal.at.returns-in-Some-Empty-clause-ok g c).In-Some-Empty in
    none_computed g.K.PartialEq.eq (hash_of g.K.Hash.hash_input g.S.BuildHasher.build_hasher g.S.Hasher.Hasher.write g.S.Hasher.Hasher.finish)
    c.args.store.now c.args.key c.args.hash c.in-Some-Empty.place mode initial (said g c.args.f) c.decide-operation.result c.operate.result
    c.operate.new.store (empty g at) (bare g at)
    (c.no_pair.result, ap (λ o. option_map deref_pair o) c.no_pair.ensures, c.decide-operation.ensures) c.operate.ensures

-- the pair that was found is in the arena
in_log : (g : Over) (c : In-Some-Here g) → IsSome (pair_of c.args.store.now (number_of c.in-Some-Here.word))
in_log g c = some_matched (g.K.PartialEq.eq c.args.key) (pair_of c.args.store.now (number_of c.in-Some-Here.word)) (here g c).matched

pub stored_entry-requires : goal.stored_entry-requires
stored_entry-requires g c = subst (λ n. IsSome (pair_of c.args.store.now n)) (sym c.pair-pair.ensures) (in_log g (goal.at.stored_entry-requires g c).In-Some-Here)

-- and the closure is called with it
shows : (g : Over) (c : In-Some-Here g) (n : ℕ) → n ≡ number_of c.in-Some-Here.word → (entry : Option (Bor g.row.K.Denot × Bor g.row.V.Denot))
    → MatchOption entry (pair_of c.args.store.now n ≡ None) (λ p. pair_of c.args.store.now n ≡ Some (record { number = n; key = p.0.now; value = p.1.now }))
    → (p : Stored g.row.K.Denot g.row.V.Denot) × (p.number ≡ number_of c.in-Some-Here.word)
    × (pair_of c.args.store.now (number_of c.in-Some-Here.word) ≡ Some p) × AreOf entry (Some p)
shows g c n is entry refers =
    shown_pair c.args.store.now (number_of c.in-Some-Here.word) entry
    (subst (λ i. MatchOption entry (pair_of c.args.store.now i ≡ None)
    (λ p. pair_of c.args.store.now i ≡ Some (record { number = i; key = p.0.now; value = p.1.now }))) is refers) (in_log g c)

pub decide-operation-requires-in-Some-Here : goal.decide-operation-requires-in-Some-Here
decide-operation-requires-in-Some-Here g c =
    let at = (goal.at.decide-operation-requires-in-Some-Here g c).In-Some-Here in
    let live : kind_of c.in-Some-Here.word ≡ Live = search rules in
    let (p, number, there, are) = shows g at c.pair-pair.result c.pair-pair.ensures (Some c.stored_entry.result) c.stored_entry.ensures in
    c.requires.takes (turns.Here c.in-Some-Here.place c.in-Some-Here.word) (here g at) live (Some c.stored_entry.result) (are ∙ ap (λ o. option_map entry_of o) (sym there))

pub operate-requires-in-Some-Here-clause-stands : goal.operate-requires-in-Some-Here-clause-stands
operate-requires-in-Some-Here-clause-stands g c = (here g (goal.at.operate-requires-in-Some-Here-clause-stands g c).In-Some-Here).stands

pub operate-requires-in-Some-Here-clause-pair : goal.operate-requires-in-Some-Here-clause-pair
operate-requires-in-Some-Here-clause-pair g c = λ some. in_log g (goal.at.operate-requires-in-Some-Here-clause-pair g c).In-Some-Here

pub returns-in-Some-Here-clause-ok : goal.returns-in-Some-Here-clause-ok
returns-in-Some-Here-clause-ok g c mode initial =
    let at = (goal.at.returns-in-Some-Here-clause-ok g c).In-Some-Here in
    let hashes = hash_of g.K.Hash.hash_input g.S.BuildHasher.build_hasher g.S.Hasher.Hasher.write g.S.Hasher.Hasher.finish in
    let live : kind_of c.in-Some-Here.word ≡ Live = search rules in
    let (p, number, there, are) = shows g at c.pair-pair.result c.pair-pair.ensures (Some c.stored_entry.result) c.stored_entry.ensures in
    subst (λ n. IsComputedFrom g.K.PartialEq.eq hashes c.args.key (said g c.args.f) c.args.store.now (started Compute c.args.hash mode initial None)
    (Some n) c.operate-in-Some-Here.result c.operate-in-Some-Here.new.store) (sym c.pair-pair.ensures)
    (pair_computed g.K.PartialEq.eq hashes c.args.store.now c.args.key c.args.hash c.in-Some-Here.place mode initial (said g c.args.f)
    c.decide-operation-in-Some-Here.result c.operate-in-Some-Here.result c.operate-in-Some-Here.new.store c.in-Some-Here.word live (here g at) p number there
    (Some c.stored_entry.result, are, c.decide-operation-in-Some-Here.ensures) c.operate-in-Some-Here.ensures)
