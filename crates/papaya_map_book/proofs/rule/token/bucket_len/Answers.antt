use Rattle.std.proofs.Common.{rules, arith}
use Rattle.boxcar.proofs.Spans.{span_small}
use Rattle.papaya_map_book.proofs.rule.token.bucket_len.Goals as goal

pub returns : goal.returns
returns c = let small = span_small c.args.bucket (search rules) in omega arith
