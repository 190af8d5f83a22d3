use Rattle.std.proofs.Common.{rules}
use Rattle.papaya_map_book.specs.Parts.{begun_of}
use Rattle.papaya_map_compute.proofs.ComputeReplies.{no_other, other_reply}
use Rattle.papaya_map_compute.proofs.slow_path.Computing.replied.Goals.{in_default-via-in-Call+in-Done+in_default}
use Rattle.papaya_map_compute.proofs.slow_path.Computing.replied.Goals.{in_default-via-in-Call+in_default}
use Rattle.papaya_map_compute.proofs.slow_path.Computing.replied.Goals.{in_default-via-in_default}
use Rattle.papaya_map_compute.proofs.slow_path.Computing.replied.Goals as goal

pub unreachable-requires-in_default : goal.unreachable-requires-in_default
unreachable-requires-in_default g c = elim c.in_default.branch [
  | in_default-via-in-Call+in-Done+in_default w ↦ no_other g.K.PartialEq.eq g.K.Hash.hash_input g.S.BuildHasher.build_hasher g.S.Hasher.Hasher.write
      g.S.Hasher.Hasher.finish g.met.K.Eq.laws g.met.K.Hash.respects_eq (begun_of c.args.window.now.book.now.parts)
      c.args.window.now.book.now.begun.book c.requires.can.0 c.requires.can.1 c.args.window.now.sight.log c.args.self.now c.requires.can.2
      c.requires.can.3 c.requires.done.0 (other_reply c.requires.done.0 (λ n e. search rules) (λ old n e. search rules) (λ n e. search rules)
      (λ with e. search rules) (λ cause e. search rules)) c.requires.done.1
  | in_default-via-in-Call+in_default w ↦ search rules
  | in_default-via-in_default w ↦ search rules
]
