use Rattle.std.proofs.Common.{IfOk, Result, Err, Ok}
use Rattle.papaya_map_book.specs.Parts.{begun_of}
use Rattle.papaya_map_lookup.proofs.Histories.{history_legal}
use Rattle.papaya_map.proofs.map.making.first_table.Goals as goal

ok_map : {A E : Type 0} {P Q : A → Type 0} → ((a : A) → P a → Q a) → (r : Result A E) → IfOk r P → IfOk r Q
ok_map f (Ok a) p = f a p
ok_map f (Err e) p = p

pub returns-clause-came : goal.returns-clause-came
returns-clause-came g c = ok_map (λ s came some. came) c.open_first.result c.open_first.ensures.came

pub returns-clause-legal : goal.returns-clause-legal
returns-clause-legal g c = ok_map (λ s lawful. history_legal g.K.PartialEq.eq g.K.Hash.hash_input g.S.BuildHasher.build_hasher
    g.S.Hasher.Hasher.write g.S.Hasher.Hasher.finish g.met.K.Eq.laws g.met.K.Hash.respects_eq (begun_of c.args.book.now.parts) s.log lawful)
    c.open_first.result c.open_first.ensures.lawful
