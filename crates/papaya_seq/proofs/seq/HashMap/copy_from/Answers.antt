use Rattle.std.proofs.Common.{◌≡◌, ℕ, List, ◌++◌, ◌∷◌, map, inr, sym, ◌∙◌, subst}
use Rattle.papaya_words_keys.specs.Hashes.{hash_of}
use Rattle.papaya_core_timeline.specs.Content.{content}
use Rattle.papaya_seq.specs.Clones.{IsCopied}
use Rattle.papaya_seq.specs.Map.{deref_pair, entry_of}
use Rattle.papaya_seq.specs.PutAlone.{AreClonedAlone}
use Rattle.papaya_seq.proofs.PutAlone.{cloned_more, cloned_none}
use Rattle.papaya_seq.proofs.Cloned.{copied_more, copied_none, copy_cut}
use Rattle.papaya_seq.proofs.Walked.{came_all, comes_next, map_push}
use Rattle.papaya_seq.proofs.seq.HashMap.copy_from.Goals as goal
use Rattle.papaya_seq.proofs.seq.HashMap.copy_from.Given.{Over}

-- how keys are hashed
abbrev hash : (g : Over) → g.row.S.Denot → g.row.K.Denot → ℕ
hash g = hash_of g.K.Hash.hash_input g.S.BuildHasher.build_hasher g.S.Hasher.Hasher.write g.S.Hasher.Hasher.finish

pub loop-key-init : goal.loop-key-init
loop-key-init g c = (
  copied_none g.K.PartialEq.eq g.K.Clone.is_clone g.V.Clone.is_clone c.args.self.now,
  cloned_none g.K.PartialEq.eq (hash g) g.K.Clone.is_clone g.V.Clone.is_clone c.args.self.now,
)

pub loop-key-preserved : goal.loop-key-preserved
loop-key-preserved g c =
    subst (λ (es : List (g.row.K.Denot × g.row.V.Denot)).
    IsCopied g.K.PartialEq.eq g.K.Clone.is_clone g.V.Clone.is_clone c.args.self.now es c.put.new.self
    × AreClonedAlone g.K.PartialEq.eq (hash g) g.K.Clone.is_clone g.V.Clone.is_clone c.args.self.now es c.put.new.self)
    (sym (map_push deref_pair c.loop-key.yielded (c.in-Some.key, c.in-Some.value))) (
      copied_more g.K.PartialEq.eq g.K.Clone.is_clone g.V.Clone.is_clone c.args.self.now (map deref_pair c.loop-key.yielded) c.loop-key.self
          c.loop-key.invariant.0 (c.in-Some.key.now, c.in-Some.value.now) (c.in-Ok.own_key, c.in-Ok-clone.own_value) c.in-Ok.ensures.cases
          c.in-Ok-clone.ensures.cases c.in-Ok-put.field-0 c.put.new.self c.in-Ok-put.ensures.puts c.put.ensures.stores,
      cloned_more g.K.PartialEq.eq (hash g) g.K.Clone.is_clone g.V.Clone.is_clone c.args.self.now (map deref_pair c.loop-key.yielded) c.loop-key.self
          c.loop-key.invariant.1 (c.in-Some.key.now, c.in-Some.value.now) (c.in-Ok.own_key, c.in-Ok-clone.own_value) c.in-Ok.ensures.cases
          c.in-Ok-clone.ensures.cases c.in-Ok-put.field-0 c.put.new.self c.in-Ok-put.ensures.alone,
    )

pub returns-in-Err-clause-err : goal.returns-in-Err-clause-err
returns-in-Err-clause-err g c =
    let whole : map entry_of (content g.K.PartialEq.eq c.args.from.now.store) ≡ map deref_pair c.loop-key.yielded ++
    (c.in-Some.key.now, c.in-Some.value.now) ∷ c.next.new.self =
    sym (c.into_iter-key-iterator.ensures.into_iter_gives ∙ c.iter-key-items.ensures)
    ∙ comes_next deref_pair c.into_iter-key-iterator.result c.loop-key.yielded c.loop-key.key-iterator (c.in-Some.key, c.in-Some.value)
    c.next.new.self c.loop-key.yielded_by c.in-Some.ensures.steps in
    inr (copy_cut g.K.PartialEq.eq g.K.Clone.is_clone g.V.Clone.is_clone c.args.self.now (map deref_pair c.loop-key.yielded) c.loop-key.self
    c.loop-key.invariant.0 (c.in-Some.key.now, c.in-Some.value.now) (c.in-Ok.own_key, c.in-Ok-clone.own_value) c.in-Ok.ensures.cases c.in-Ok-clone.ensures.cases
    c.args.from.now.store c.next.new.self whole c.in-Err.refused c.put.new.self c.in-Err.ensures.puts)

pub returns-clause-ok : goal.returns-clause-ok
returns-clause-ok g c =
    let whole : map entry_of (content g.K.PartialEq.eq c.args.from.now.store) ≡ map deref_pair c.loop-key.yielded =
    sym (c.into_iter-key-iterator.ensures.into_iter_gives ∙ c.iter-key-items.ensures)
    ∙ came_all deref_pair c.into_iter-key-iterator.result c.loop-key.yielded c.loop-key.key-iterator c.next.new.self c.loop-key.yielded_by
    c.in-None.ensures.steps in
    subst (λ (es : List (g.row.K.Denot × g.row.V.Denot)).
    IsCopied g.K.PartialEq.eq g.K.Clone.is_clone g.V.Clone.is_clone c.args.self.now es c.loop-key.self) (sym whole) c.loop-key.invariant.0

pub returns-clause-alone : goal.returns-clause-alone
returns-clause-alone g c =
    let whole : map entry_of (content g.K.PartialEq.eq c.args.from.now.store) ≡ map deref_pair c.loop-key.yielded =
    sym (c.into_iter-key-iterator.ensures.into_iter_gives ∙ c.iter-key-items.ensures)
    ∙ came_all deref_pair c.into_iter-key-iterator.result c.loop-key.yielded c.loop-key.key-iterator c.next.new.self c.loop-key.yielded_by
    c.in-None.ensures.steps in
    subst (λ (es : List (g.row.K.Denot × g.row.V.Denot)).
    AreClonedAlone g.K.PartialEq.eq (hash g) g.K.Clone.is_clone g.V.Clone.is_clone c.args.self.now es c.loop-key.self) (sym whole) c.loop-key.invariant.1
