use Rattle.std.proofs.Common.{ℕ, refl}
use Rattle.papaya_words_keys.specs.Hashes.{hash_of}
use Rattle.papaya_seq.proofs.Filled.{cut, fills_more, fills_none}
use Rattle.papaya_seq.proofs.PutAlone.{cut_alone, put_more}
use Rattle.papaya_set.specs.Sets.{entry_of_ref}
use Rattle.papaya_set.proofs.seq.HashSet.extend_ref.Goals as goal
use Rattle.papaya_set.proofs.seq.HashSet.extend_ref.Given.{Over}

-- how keys are hashed
abbrev hash : (g : Over) → g.row.S.Denot → g.row.K.Denot → ℕ
hash g = hash_of g.K.Hash.hash_input g.S.BuildHasher.build_hasher g.S.Hasher.Hasher.write g.S.Hasher.Hasher.finish

pub loop-key-init : goal.loop-key-init
loop-key-init g c = (fills_none g.K.PartialEq.eq entry_of_ref c.args.self.now, refl)

pub loop-key-preserved : goal.loop-key-preserved
loop-key-preserved g c = (
  fills_more g.K.PartialEq.eq entry_of_ref c.args.self.now c.loop-key.yielded c.loop-key.self c.loop-key.invariant.0
      c.in-Some.key _ c.insert.new.self c.in-Ok.ensures.puts,
  put_more g.K.PartialEq.eq (hash g) entry_of_ref c.args.self.now c.loop-key.yielded c.loop-key.self c.loop-key.invariant.1
      c.in-Some.key _ c.insert.new.self c.in-Ok.ensures.alone,
)

pub returns-in-Err-clause-extends : goal.returns-in-Err-clause-extends
returns-in-Err-clause-extends g c = record {
  first = c.into_iter-key-iterator.result;
  made = c.into_iter-key-iterator.ensures.into_iter_gives;
  items = c.loop-key.yielded;
  left = c.loop-key.key-iterator;
  came = c.loop-key.yielded_by;
  is = (
    c.in-Some.key,
    c.next.new.self,
    c.in-Some.ensures.steps,
    cut g.K.PartialEq.eq entry_of_ref c.args.self.now c.loop-key.yielded
        c.loop-key.self c.loop-key.invariant.0 c.in-Some.key c.in-Err.refused c.insert.new.self c.in-Err.ensures.puts,
  );
}

pub returns-in-Err-clause-alone : goal.returns-in-Err-clause-alone
returns-in-Err-clause-alone g c = record {
  first = c.into_iter-key-iterator.result;
  made = c.into_iter-key-iterator.ensures.into_iter_gives;
  items = c.loop-key.yielded;
  left = c.loop-key.key-iterator;
  came = c.loop-key.yielded_by;
  is = (
    c.in-Some.key,
    c.next.new.self,
    c.in-Some.ensures.steps,
    cut_alone g.K.PartialEq.eq (hash g) entry_of_ref c.args.self.now c.loop-key.yielded
        c.loop-key.self c.loop-key.invariant.1 c.in-Some.key c.in-Err.refused c.insert.new.self c.in-Err.ensures.alone,
  );
}

pub returns-clause-extends : goal.returns-clause-extends
returns-clause-extends g c = record {
  first = c.into_iter-key-iterator.result;
  made = c.into_iter-key-iterator.ensures.into_iter_gives;
  items = c.loop-key.yielded;
  left = c.loop-key.key-iterator;
  came = c.loop-key.yielded_by;
  is = (c.next.new.self, c.in-None.ensures.steps, c.loop-key.invariant.0);
}

pub returns-clause-alone : goal.returns-clause-alone
returns-clause-alone g c = record {
  first = c.into_iter-key-iterator.result;
  made = c.into_iter-key-iterator.ensures.into_iter_gives;
  items = c.loop-key.yielded;
  left = c.loop-key.key-iterator;
  came = c.loop-key.yielded_by;
  is = (c.next.new.self, c.in-None.ensures.steps, c.loop-key.invariant.1);
}
