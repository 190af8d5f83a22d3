use Rattle.std.proofs.Common.{rules, ◌≡◌, ◌<◌, ◌≤◌, ◌⊎◌, ⊎_elim, IfErr, ℕ, Ok, Err}
use Rattle.std.proofs.lemmas.Bool.{cases_lt}
use Rattle.papaya_words.specs.declared.limits.TheConstants.{MAX_SHARDS}
use Rattle.papaya_words.specs.declared.refused.Refused.TheVariants.{Capacity}
use Rattle.papaya_words_keys.specs.Sizes.{IsAllowed}
use Rattle.papaya_map.proofs.map.HashMap.with_collector.Goals as goal

pub returns-in_err-opened-clause-err : goal.returns-in_err-opened-clause-err
returns-in_err-opened-clause-err g c =
    let few : c.args.shards ≤ MAX_SHARDS = ⊎_elim
    (λ (more : MAX_SHARDS < c.args.shards). let both : Ok c.in_ok-count.count ≡ Err Capacity = c.in_ok-count.ensures.many more in absurd cc)
    (λ (few : c.args.shards ≤ MAX_SHARDS). few)
    (cases_lt MAX_SHARDS c.args.shards) in
    let allowed : IsAllowed c.args.mode c.args.capacity
    c.args.shards = (
      c.in_ok-check_chunk.ensures.ok,
      (c.in_ok-initial.ensures.ok.0, c.in_ok-initial.initial, c.in_ok-initial.ensures.ok.1, c.in_ok-initial.ensures.ok.2),
      few,
    ) in
    search rules

pub returns-clause-ok : goal.returns-clause-ok
returns-clause-ok g c =
    let few : c.args.shards ≤ MAX_SHARDS = ⊎_elim
    (λ (more : MAX_SHARDS < c.args.shards). let both : Ok c.in_ok-count.count ≡ Err Capacity = c.in_ok-count.ensures.many more in absurd cc)
    (λ (few : c.args.shards ≤ MAX_SHARDS). few)
    (cases_lt MAX_SHARDS c.args.shards) in
    (c.in_ok-check_chunk.ensures.ok, (c.in_ok-initial.ensures.ok.0, c.in_ok-initial.initial, c.in_ok-initial.ensures.ok.1, c.in_ok-initial.ensures.ok.2), few)
