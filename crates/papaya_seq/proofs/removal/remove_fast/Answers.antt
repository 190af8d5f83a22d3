use Rattle.std.proofs.Common.{rules, ◌≡◌, subst}
use Rattle.papaya_words.specs.Word.{kind_of, pair_of as number_of}
use Rattle.papaya_words.specs.declared.word.Kind.TheVariants.{Live}
use Rattle.papaya_core_store.specs.Store.{pair_of}
use Rattle.papaya_seq.specs.Searches.{IsRootHit}
use Rattle.papaya_seq.specs.declared.search.ProbeHit.{ProbeHit}
use Rattle.papaya_seq.specs.declared.search.ProbeHit.TheVariants as turns
use Rattle.papaya_seq.proofs.Burying.{found_it, found_none}
use Rattle.papaya_seq.proofs.TableSearch.{some_matched}
use Rattle.papaya_seq.proofs.removal.remove_fast.Goals as goal
use Rattle.papaya_seq.proofs.removal.remove_fast.Goals.{In-Some-Here}
use Rattle.papaya_seq.proofs.removal.remove_fast.Given.{Over}

-- the outcome of the search of the root
here : (g : Over) (c : In-Some-Here g) → IsRootHit (g.Q.Equivalent.matches c.args.key.now) c.args.store.now c.args.hash
    (turns.Here c.in-Some-Here.place c.in-Some-Here.word)
here g c = subst (λ (t : ProbeHit). IsRootHit (g.Q.Equivalent.matches c.args.key.now) c.args.store.now c.args.hash t) (search rules)
    (c.search_root.ensures.turn c.in-Some-Here.field-0 c.in-Some-Here.is)

pub bury-requires-clause-stands : goal.bury-requires-clause-stands
bury-requires-clause-stands g c = (here g (goal.at.bury-requires-clause-stands g c).In-Some-Here).stands

pub bury-requires-clause-logged : goal.bury-requires-clause-logged
bury-requires-clause-logged g c = some_matched (g.Q.Equivalent.matches c.args.key.now) (pair_of c.args.store.now (number_of c.in-Some-Here.word))
    (here g (goal.at.bury-requires-clause-logged g c).In-Some-Here).matched

pub returns-in-Some-Empty : goal.returns-in-Some-Empty
returns-in-Some-Empty g c mode initial limit =
    let root : IsRootHit (g.Q.Equivalent.matches c.args.key.now) c.args.store.now c.args.hash
    (turns.Empty c.in-Some-Empty.field-0-0) =
    subst (λ (t : ProbeHit). IsRootHit (g.Q.Equivalent.matches c.args.key.now) c.args.store.now c.args.hash t) c.in-Some-Empty.field-0-is
    (c.search_root.ensures.turn c.in-Some-Empty.field-0 c.in-Some-Empty.is) in
    found_none g.F.FnMut (g.Q.Equivalent.matches c.args.key.now) c.args.store.now c.args.agrees.now c.args.hash mode initial limit
    c.in-Some-Empty.field-0-0 root

pub returns-in-Some-Here : goal.returns-in-Some-Here
returns-in-Some-Here g c mode initial limit =
    let live : kind_of c.in-Some-Here.word ≡ Live = search rules in
    found_it g.F.FnMut (g.Q.Equivalent.matches c.args.key.now) c.args.store.now c.args.agrees.now c.args.hash mode initial limit c.in-Some-Here.place
    c.in-Some-Here.word live (here g (goal.at.returns-in-Some-Here g c).In-Some-Here) c.bury.result c.bury.new.store
    c.bury.new.agrees (c.bury.ensures (g.Q.Equivalent.matches c.args.key.now))
