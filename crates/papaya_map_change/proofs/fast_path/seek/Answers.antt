use Rattle.papaya_map_change.specs.Seeking.{Inserts}
use Rattle.papaya_map_change.proofs.fast_path.seek.Goals as goal

pub probe_at-requires-clause-stands : goal.probe_at-requires-clause-stands
probe_at-requires-clause-stands g c = let st = c.requires.stands in (st.0, c.loop-next.invariant.0 Inserts st.0 st.1)
