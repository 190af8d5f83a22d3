use Rattle.std.proofs.Common.{[], ◌≤◌, length, refl, sym, subst, arith, rules}
use Rattle.papaya_call.specs.Made.{IsLimit}
use Rattle.papaya_core_store.specs.declared.store.Mode.{Mode}
use Rattle.papaya_core_timeline.specs.Core.{IsCore}
use Rattle.papaya_core_timeline.specs.Counted.{IsCounted}
use Rattle.papaya_core_timeline.proofs.CoreLemmas.{new-core}
use Rattle.papaya_core_timeline.proofs.CountedLemmas.{counted_new}
use Rattle.papaya_core_timeline.proofs.KeptCore.{new_lawful}
use Rattle.papaya_seq.proofs.Counting.{counted_none}
use Rattle.papaya_seq.proofs.TableLengths.{new_long}
use Rattle.papaya_seq.proofs.seq.HashMap.with_parts.Goals as goal
use Rattle.papaya_seq.proofs.seq.HashMap.with_parts.Goals.{In_ok-store}
use Rattle.papaya_seq.proofs.seq.HashMap.with_parts.Given.{Over}

-- the count of a new map
new_counted : (g : Over) (c : In_ok-store g) → IsCounted {A = Unit {0}} g.K.PartialEq.eq c.in_ok-store.store []
new_counted g c = counted_new c.in_ok-store.store c.in_ok-store.ensures.ok.1.pairs g.K.PartialEq.eq {A = Unit {0}} [] c.in_ok-store.ensures.ok.1.sum refl

pub invariant_of-result : goal.invariant_of-result
invariant_of-result g c =
    let ok = c.in_ok-store.ensures.ok in
    let mode : Mode = record { resize = c.args.mode; limit = c.args.limit } in
    let limits : IsLimit c.args.limit = search rules in
    let core : IsCore {A = Unit {0}} c.in_ok-store.store [] mode = new-core c.in_ok-store.store [] mode c.args.capacity c.in_ok-store.initial ok.0.0
    limits ok.1.initial.0 ok.2 ok.1.words refl in
    record {
      lawful = new_lawful g.K.PartialEq.eq g.K.Hash.hash_input g.S.BuildHasher.build_hasher g.S.Hasher.Hasher.write g.S.Hasher.Hasher.finish
          g.met.K.Eq.laws g.met.K.Hash.respects_eq
          mode c.args.capacity c.in_ok-store.initial c.in_ok-store.store [] core ok.1.words ok.1.pairs refl;
      counted = new_counted g c;
      power = ok.1.initial.0;
      most = ok.2;
      long = new_long c.args.capacity c.in_ok-store.initial c.in_ok-store.store.words ok.1.initial ok.1.words;
      numbered = λ most limit. subst (λ l. length l ≤ c.in_ok-store.store.words.made) (sym ok.1.pairs) (omega arith);
    }

pub returns-clause-empty : goal.returns-clause-empty
returns-clause-empty g c = counted_none g.K.PartialEq.eq c.in_ok-store.store (new_counted g c) c.in_ok-store.ensures.ok.1.sum
