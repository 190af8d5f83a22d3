use Rattle.std.proofs.Common.{Some, string_bytes, inl, inr, refl, sym, ◌∙◌, subst, map}
use Rattle.std.specs.Fn.{FnReturnsAt}
use Rattle.std.specs.Map.Iter.{deref_pair}
use Rattle.papaya_json.specs.Objects.{IsPair}
use Rattle.papaya_json.specs.Reads.{IsRead}
use Rattle.papaya_json.proofs.Building.{map_push}
use Rattle.papaya_json.proofs.Filling.{IsFilled, filled_cut, filled_hasher, filled_more, filled_none, filled_read}
use Rattle.papaya_seq.proofs.Walked.{came_all, comes_next}
use Rattle.papaya_json.proofs.from_value.map_of.Goals as goal

pub loop-name-init : goal.loop-name-init
loop-name-init g c = filled_none g.K.PartialEq.eq (IsPair (FnReturnsAt g.T.Fn c.args.key) (FnReturnsAt g.W.Fn c.args.value)) (λ p. p) c.args.hasher
    c.in_ok-map.map c.in_ok-map.ensures.ok c.in_ok-map.ensures.empty

pub loop-name-preserved : goal.loop-name-preserved
loop-name-preserved g c =
    let l = c.loop-name in
    let key : FnReturnsAt g.T.Fn c.args.key (string_bytes c.in-Some.name.now)
    (Some c.in-Some-key.k) = record { shown = c.as_str.result; shows = c.as_str.ensures.value; says = record { met = c.in-Some-key.ensures } } in
    let value : FnReturnsAt g.W.Fn c.args.value c.in-Some.member.now
    (Some c.in-Some-value.v) = record { shown = c.in-Some.member; shows = refl; says = record { met = c.in-Some-value.ensures } } in
    subst (λ es. IsFilled g.K.PartialEq.eq (IsPair (FnReturnsAt g.T.Fn c.args.key) (FnReturnsAt g.W.Fn c.args.value)) (λ p. p) c.args.hasher es
    c.put.new.self) (sym (map_push deref_pair l.yielded (c.in-Some.name, c.in-Some.member)))
    (filled_more g.K.PartialEq.eq (IsPair (FnReturnsAt g.T.Fn c.args.key) (FnReturnsAt g.W.Fn c.args.value)) (λ p. p) c.args.hasher
    (map deref_pair l.yielded) l.map l.invariant (c.in-Some.name.now, c.in-Some.member.now) (c.in-Some-key.k, c.in-Some-value.v) (key, value) _
    c.put.new.self c.in-Ok.ensures.puts)

pub returns-in_default-clause-err : goal.returns-in_default-clause-err
returns-in_default-clause-err g c =
    let l = c.loop-name in
    inr (record {
      before = map deref_pair l.yielded;
      item = (c.in-Some.name.now, c.in-Some.member.now);
      after = c.next.new.self;
      whole = sym c.into_iter-name-iterator.ensures.into_iter_gives.0
          ∙ comes_next deref_pair c.into_iter-name-iterator.result l.yielded l.name-iterator (c.in-Some.name, c.in-Some.member) c.next.new.self
          l.yielded_by c.in-Some.ensures.steps;
      done = l.invariant.done;
      each = l.invariant.each;
      stop = inl (refl, inl (record { shown = c.as_str.result; shows = c.as_str.ensures.value; says = record { met = c.in_default.ensures } }));
    })

pub returns-in_default-value-clause-err : goal.returns-in_default-value-clause-err
returns-in_default-value-clause-err g c =
    let l = c.loop-name in
    inr (record {
      before = map deref_pair l.yielded;
      item = (c.in-Some.name.now, c.in-Some.member.now);
      after = c.next.new.self;
      whole = sym c.into_iter-name-iterator.ensures.into_iter_gives.0
          ∙ comes_next deref_pair c.into_iter-name-iterator.result l.yielded l.name-iterator (c.in-Some.name, c.in-Some.member) c.next.new.self
          l.yielded_by c.in-Some.ensures.steps;
      done = l.invariant.done;
      each = l.invariant.each;
      stop = inl (refl, inr (record { shown = c.in-Some.member; shows = refl; says = record { met = c.in_default-value.ensures } }));
    })

pub returns-in-Err-clause-err : goal.returns-in-Err-clause-err
returns-in-Err-clause-err g c =
    let l = c.loop-name in
    let key : FnReturnsAt g.T.Fn c.args.key (string_bytes c.in-Some.name.now)
    (Some c.in-Some-key.k) = record { shown = c.as_str.result; shows = c.as_str.ensures.value; says = record { met = c.in-Some-key.ensures } } in
    let value : FnReturnsAt g.W.Fn c.args.value c.in-Some.member.now
    (Some c.in-Some-value.v) = record { shown = c.in-Some.member; shows = refl; says = record { met = c.in-Some-value.ensures } } in
    inr (record {
      before = map deref_pair l.yielded;
      item = (c.in-Some.name.now, c.in-Some.member.now);
      after = c.next.new.self;
      whole = sym c.into_iter-name-iterator.ensures.into_iter_gives.0
          ∙ comes_next deref_pair c.into_iter-name-iterator.result l.yielded l.name-iterator (c.in-Some.name, c.in-Some.member) c.next.new.self
          l.yielded_by c.in-Some.ensures.steps;
      done = l.invariant.done;
      each = l.invariant.each;
      stop = inr (
        (c.in-Some-key.k, c.in-Some-value.v),
        (key, value),
        filled_cut g.K.PartialEq.eq (IsPair (FnReturnsAt g.T.Fn c.args.key) (FnReturnsAt g.W.Fn c.args.value)) (λ p. p) c.args.hasher
            (map deref_pair l.yielded) l.map l.invariant (c.in-Some-key.k, c.in-Some-value.v) c.in-Err.refused c.put.new.self c.in-Err.ensures.puts,
      );
    })

pub returns-clause-ok : goal.returns-clause-ok
returns-clause-ok g c =
    let l = c.loop-name in
    subst (λ es. IsRead g.K.PartialEq.eq (IsPair (FnReturnsAt g.T.Fn c.args.key) (FnReturnsAt g.W.Fn c.args.value)) (λ p. p) es l.map)
    (sym (came_all deref_pair c.into_iter-name-iterator.result l.yielded l.name-iterator c.next.new.self l.yielded_by c.in-None.ensures.steps)
    ∙ c.into_iter-name-iterator.ensures.into_iter_gives.0)
    (filled_read g.K.PartialEq.eq (IsPair (FnReturnsAt g.T.Fn c.args.key) (FnReturnsAt g.W.Fn c.args.value)) (λ p. p) c.args.hasher
    (map deref_pair l.yielded) l.map l.invariant)

pub returns-clause-hasher : goal.returns-clause-hasher
returns-clause-hasher g c = filled_hasher g.K.PartialEq.eq (IsPair (FnReturnsAt g.T.Fn c.args.key) (FnReturnsAt g.W.Fn c.args.value)) (λ p. p)
    c.args.hasher (map deref_pair c.loop-name.yielded) c.loop-name.map c.loop-name.invariant
