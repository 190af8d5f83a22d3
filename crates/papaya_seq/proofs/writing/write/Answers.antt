use Rattle.std.proofs.Common.{rules, ◌≡◌}
use Rattle.papaya_seq.proofs.PairWritten.{pair_was_logged, was_inserted, was_replaced}
use Rattle.papaya_seq.proofs.writing.write.Goals as goal

pub returns-then-write-eq0 : goal.returns-then-write-eq0
returns-then-write-eq0 g c =
    let logged = pair_was_logged c.args.store.now c.args.key c.args.value c.store_pair.new.self c.args.write.old c.in-Ok.pair c.key_for-key.result
    c.key_for-key.ensures c.in-Ok.ensures.ok.0 in
    -- a hint that is written early is not visible
    let same : c.if-is_crowded.store ≡ c.write_hint.new.self = search rules in
    rw same (was_inserted c.args.store.now c.args.key c.args.value c.store_pair.new.self c.args.write c.in-Ok.pair logged c.requires.stands
    c.live.result.0 c.live.ensures c.exchange.result c.exchange.new.self c.exchange.ensures (search rules) c.args.hash c.add_to_shard.new.self
    c.write_hint.new.self c.add_to_shard.ensures c.hint.result c.hint.ensures c.write_hint.ensures)

pub returns : goal.returns
returns g c =
    let logged = pair_was_logged c.args.store.now c.args.key c.args.value c.store_pair.new.self c.args.write.old c.in-Ok.pair c.key_for-key.result
    c.key_for-key.ensures c.in-Ok.ensures.ok.0 in
    was_replaced c.args.store.now c.args.key c.args.value c.store_pair.new.self c.args.write c.in-Ok.pair logged c.requires.stands
    c.live.result.0 c.live.ensures c.exchange.result c.exchange.new.self c.exchange.ensures (λ e. search rules) c.args.hash c.pair-old.result c.pair-old.ensures
