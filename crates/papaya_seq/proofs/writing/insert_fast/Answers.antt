use Rattle.std.proofs.Common.{rules, ◌≡◌, ◌==◌, Bool, true, false, if◌then◌else◌, [], refl, subst}
use Rattle.papaya_words.specs.Word.{kind_of, pair_of as number_of}
use Rattle.papaya_words.specs.declared.word.Kind.TheVariants.{Live}
use Rattle.papaya_call.specs.declared.call.Task.TheVariants.{Insert}
use Rattle.papaya_call.specs.Machine.{started}
use Rattle.papaya_call.specs.declared.machine.State.TheVariants.{AtRoot, Growing}
use Rattle.papaya_call.specs.declared.need.Need.TheVariants.{Room}
use Rattle.papaya_words_keys.specs.Hashes.{hash_of}
use Rattle.papaya_seq.specs.Drives.{IsLedTo}
use Rattle.papaya_seq.specs.Searches.{IsRootHit}
use Rattle.papaya_seq.specs.Writes.{slot_of}
use Rattle.papaya_seq.specs.declared.search.ProbeHit.{ProbeHit}
use Rattle.papaya_seq.specs.declared.search.ProbeHit.TheVariants as turns
use Rattle.papaya_core_store.specs.Store.{pair_of}
use Rattle.papaya_core_store.specs.Tables.{word_at}
use Rattle.papaya_seq.proofs.FastPath.{claimed, occupied, replaces_it}
use Rattle.papaya_seq.proofs.TableSearch.{some_matched}
use Rattle.papaya_seq.proofs.writing.insert_fast.Goals as goal
use Rattle.papaya_seq.proofs.writing.insert_fast.Goals.{In-Some-Empty, In-Some-Here}
use Rattle.papaya_seq.proofs.writing.insert_fast.Given.{Over}

-- the outcome of the search of the root
empty : (g : Over) (c : In-Some-Empty g) → IsRootHit (g.K.PartialEq.eq c.args.key) c.args.store.now c.args.hash (turns.Empty c.in-Some-Empty.place)
empty g c = subst (λ (t : ProbeHit). IsRootHit (g.K.PartialEq.eq c.args.key) c.args.store.now c.args.hash t) (search rules)
    (c.search_root.ensures.turn c.in-Some-Empty.field-0 c.in-Some-Empty.is)

here : (g : Over) (c : In-Some-Here g) → IsRootHit (g.K.PartialEq.eq c.args.key) c.args.store.now c.args.hash
    (turns.Here c.in-Some-Here.place c.in-Some-Here.word)
here g c = subst (λ (t : ProbeHit). IsRootHit (g.K.PartialEq.eq c.args.key) c.args.store.now c.args.hash t) (search rules)
    (c.search_root.ensures.turn c.in-Some-Here.field-0 c.in-Some-Here.is)

-- a place that was empty has no word
bare : (g : Over) (c : In-Some-Empty g) → word_at c.args.store.now.words (slot_of c.in-Some-Empty.place) ≡ 0
bare g c = c.requires.bare c.in-Some-Empty.place.table c.in-Some-Empty.place.probe.i (empty g c).stands

pub write-requires-clause-stands : goal.write-requires-clause-stands
write-requires-clause-stands g c = bare g (goal.at.write-requires-clause-stands g c).In-Some-Empty

pub returns-then-not-replace-clause-ok : goal.returns-then-not-replace-clause-ok
returns-then-not-replace-clause-ok g c mode initial =
    let live : kind_of c.in-Some-Here.word ≡ Live = search rules in
    let never : c.args.replace ≡ false = search rules in
    occupied g.K.PartialEq.eq (hash_of g.K.Hash.hash_input g.S.BuildHasher.build_hasher g.S.Hasher.Hasher.write g.S.Hasher.Hasher.finish)
    c.args.store.now c.args.key c.args.value c.args.hash c.in-Some-Here.place mode initial c.in-Some-Here.word live
    (here g (goal.at.returns-then-not-replace-clause-ok g c).In-Some-Here) c.args.replace never c.pair.result c.pair.ensures

pub write-requires-in-Some-Here-clause-stands : goal.write-requires-in-Some-Here-clause-stands
write-requires-in-Some-Here-clause-stands g c = (here g (goal.at.write-requires-in-Some-Here-clause-stands g c).In-Some-Here).stands

pub write-requires-in-Some-Here-clause-pair : goal.write-requires-in-Some-Here-clause-pair
write-requires-in-Some-Here-clause-pair g c = λ some.
    some_matched (g.K.PartialEq.eq c.args.key) (pair_of c.args.store.now (number_of c.in-Some-Here.word))
    (here g (goal.at.write-requires-in-Some-Here-clause-pair g c).In-Some-Here).matched

pub returns-in-Some-Empty-clause-ok : goal.returns-in-Some-Empty-clause-ok
returns-in-Some-Empty-clause-ok g c mode initial =
    claimed g.K.PartialEq.eq (hash_of g.K.Hash.hash_input g.S.BuildHasher.build_hasher g.S.Hasher.Hasher.write g.S.Hasher.Hasher.finish)
    c.args.store.now c.args.key c.args.value c.args.hash c.in-Some-Empty.place mode initial c.args.replace
    (empty g (goal.at.returns-in-Some-Empty-clause-ok g c).In-Some-Empty) (bare g (goal.at.returns-in-Some-Empty-clause-ok g c).In-Some-Empty)
    c.write.result c.write.new.store c.write.ensures

pub returns-else-not-replace-clause-ok : goal.returns-else-not-replace-clause-ok
returns-else-not-replace-clause-ok g c mode initial =
    let live : kind_of c.in-Some-Here.word ≡ Live = search rules in
    let may : c.args.replace ≡ true = search rules in
    replaces_it g.K.PartialEq.eq (hash_of g.K.Hash.hash_input g.S.BuildHasher.build_hasher g.S.Hasher.Hasher.write g.S.Hasher.Hasher.finish)
    c.args.store.now c.args.key c.args.value c.args.hash c.in-Some-Here.place mode initial c.in-Some-Here.word live
    (here g (goal.at.returns-else-not-replace-clause-ok g c).In-Some-Here) c.args.replace may c.write-in-Some-Here.result
    c.write-in-Some-Here.new.store c.write-in-Some-Here.ensures

pub returns-in-Some-Over-clause-err : goal.returns-in-Some-Over-clause-err
returns-in-Some-Over-clause-err g c =
    let over : IsRootHit (g.K.PartialEq.eq c.args.key) c.args.store.now c.args.hash
    (turns.Over c.in-Some-Over.table) = subst (λ (t : ProbeHit). IsRootHit (g.K.PartialEq.eq c.args.key) c.args.store.now c.args.hash t) (search rules)
    (c.search_root.ensures.turn c.in-Some-Over.field-0 c.in-Some-Over.is) in
    (refl, refl, refl, leads (c.in-Some-Over.table == 0) (λ mode initial limit. over.sees (started (Insert c.args.replace) c.args.hash mode initial limit)))
  where
    -- to the state where it makes room, or to the root
    leads : (b : Bool) → IsLedTo (g.K.PartialEq.eq c.args.key) c.args.store.now c.args.hash c.args.replace (Growing (Room c.in-Some-Over.table))
        → IsLedTo (g.K.PartialEq.eq c.args.key) c.args.store.now c.args.hash c.args.replace
        (if b then AtRoot else Growing (Room c.in-Some-Over.table))
    leads true led = λ mode initial limit. ([], refl)
    leads false led = led

pub returns-in_default-clause-err : goal.returns-in_default-clause-err
returns-in_default-clause-err g c = (refl, refl, refl, λ mode initial limit. ([], refl))
