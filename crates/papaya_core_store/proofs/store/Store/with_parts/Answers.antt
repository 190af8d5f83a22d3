use Rattle.std.proofs.Common.{◌≡◌, ◌<◌, ◌≤◌, ⊎_elim, Ok, Err, sym, ◌∙◌, ap, subst}
use Rattle.std.proofs.lemmas.Bool.{cases_lt}
use Rattle.std.specs.Int.{IsNextPowerOfTwo}
use Rattle.papaya_words.specs.declared.refused.Refused.TheVariants.{Capacity}
use Rattle.papaya_core_store.proofs.store.Store.with_parts.Goals as goal

pub returns-clause-ok : goal.returns-clause-ok
returns-clause-ok g c =
    let initial = c.in_ok-initial.ensures.ok in
    let store = c.in_ok-open.ensures.ok.1 in
    let made = c.new-store.ensures in
    let few : c.args.shards ≤ 65536 = ⊎_elim
    (λ (many : 65536 < c.args.shards). let f : Ok c.in_ok-counter.counter ≡ Err Capacity = sym c.in_ok-counter.was ∙ c.new.ensures.many many in cc)
    (λ (few : c.args.shards ≤ 65536). few) (cases_lt 65536 c.args.shards) in (
      (c.in_ok-check_chunk.ensures.ok, (initial.0, c.in_ok-initial.initial, initial.1, initial.2), few),
      record {
        initial = initial.1;
        words = c.in_ok-open.ensures.ok.0;
        pairs = ap (λ s. s.pairs) store ∙ ap (λ s. s.pairs) made;
        count = subst (IsNextPowerOfTwo c.args.shards) (sym (ap (λ s. s.count.shards) store ∙ ap (λ s. s.count.shards) made)) c.in_ok-counter.ensures.shards;
        sum = ap (λ s. s.count.sum) store ∙ ap (λ s. s.count.sum) made ∙ c.in_ok-counter.ensures.sum;
        hasher_is = ap (λ s. s.hasher) store ∙ ap (λ s. s.hasher) made;
      },
      initial.2,
    )
