use Rattle.std.proofs.Common.{map, ◌∙◌, ap}
use Rattle.std.proofs.lemmas.Simd.{map-map}
use Rattle.papaya_core_timeline.specs.Content.{content}
use Rattle.papaya_seq.specs.Map.{entry_of}
use Rattle.papaya_seq.proofs.seq.HashMap.values.Goals as goal

pub returns : goal.returns
returns g c = ap (map (λ entry. entry.1)) c.iter.ensures ∙ map-map (λ entry. entry.1) entry_of (content g.K.PartialEq.eq c.args.self.now.store)
