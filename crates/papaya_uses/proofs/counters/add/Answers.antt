use Rattle.std.proofs.Common.{◌≡◌, ◌∙◌, Ok, option_map, rules, refl, ap}
use Rattle.papaya.specs.Types.{Insert, Inserted, Updated, Removed, Aborted}
use Rattle.papaya_uses.specs.Counters.{next_count}
use Rattle.papaya_uses.proofs.CounterLemmas.{added, begun, not_aborted, not_removed}
use Rattle.papaya_uses.proofs.counters.add.Goals as goal

pub returns-in-Ok-Inserted-clause-added : goal.returns-in-Ok-Inserted-clause-added
returns-in-Ok-Inserted-clause-added g c =
    let is : c.compute-computed.result ≡ Ok (Inserted c.in-Ok-Inserted.field-0-0 c.in-Ok-Inserted.count) = search rules in
    begun _ c.args.counter c.args.by c.args.counters.now.history c.compute-computed.new.self.history _ c.compute-computed.result
    c.compute-computed.ensures.computed (λ f. f.0.now ≡ c.args.by) refl
    (λ f shown done g is called. (
      ap (λ z. z.now) called.met.1.0 ∙ is,
      called.met.1.1
          ∙ ap (λ b. Insert (next_count b (option_map (λ p. p.1.now) shown))) is,
    )) c.in-Ok-Inserted.field-0-0 c.in-Ok-Inserted.count is

pub returns-in-Ok-Updated-clause-added : goal.returns-in-Ok-Updated-clause-added
returns-in-Ok-Updated-clause-added g c =
    let is : c.compute-computed.result ≡ Ok (Updated c.in-Ok-Updated.field-0-0 (c.in-Ok-Updated.field-0-1-0, c.in-Ok-Updated.count)) = search rules in
    added _ c.args.counter c.args.by c.args.counters.now.history c.compute-computed.new.self.history _ c.compute-computed.result
    c.compute-computed.ensures.computed (λ f. f.0.now ≡ c.args.by) refl
    (λ f shown done g is called. (
      ap (λ z. z.now) called.met.1.0 ∙ is,
      called.met.1.1
          ∙ ap (λ b. Insert (next_count b (option_map (λ p. p.1.now) shown))) is,
    )) c.legal.ensures c.in-Ok-Updated.field-0-0
    (c.in-Ok-Updated.field-0-1-0, c.in-Ok-Updated.count) is

pub unreachable-requires : goal.unreachable-requires
unreachable-requires g c =
    let is : c.compute-computed.result ≡ Ok (Removed c.in-Ok-Removed.field-0-0 c.in-Ok-Removed.field-0-1) = search rules in
    not_removed _ c.args.counter c.args.by c.args.counters.now.history c.compute-computed.new.self.history _ c.compute-computed.result
    c.compute-computed.ensures.computed (λ f. f.0.now ≡ c.args.by) refl
    (λ f shown done g is called. (
      ap (λ z. z.now) called.met.1.0 ∙ is,
      called.met.1.1
          ∙ ap (λ b. Insert (next_count b (option_map (λ p. p.1.now) shown))) is,
    )) c.in-Ok-Removed.field-0-0 c.in-Ok-Removed.field-0-1 is

pub unreachable-requires-in-Ok-Aborted : goal.unreachable-requires-in-Ok-Aborted
unreachable-requires-in-Ok-Aborted g c =
    let is : c.compute-computed.result ≡ Ok (Aborted c.in-Ok-Aborted.field-0-0) = search rules in
    not_aborted _ c.args.counter c.args.by c.args.counters.now.history c.compute-computed.new.self.history _ c.compute-computed.result
    c.compute-computed.ensures.computed (λ f. f.0.now ≡ c.args.by) refl
    (λ f shown done g is called. (
      ap (λ z. z.now) called.met.1.0 ∙ is,
      called.met.1.1
          ∙ ap (λ b. Insert (next_count b (option_map (λ p. p.1.now) shown))) is,
    )) c.in-Ok-Aborted.field-0-0 is
