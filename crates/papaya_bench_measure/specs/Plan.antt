-- The effect of a workload on a map.
use Rattle.std.specs.Prelude.{Bool, true, false}
use Rattle.papaya_bench_measure.specs.declared.plan.Workload.{Workload}
use Rattle.papaya_bench_measure.specs.declared.plan.Workload.TheVariants as workload

-- Whether a round uses up what the next round needs: absent keys or free slots.
abbrev pub uses_up : Workload → Bool
uses_up workload.GetHit = false
uses_up workload.GetMiss = false
uses_up workload.InsertFresh = true
uses_up workload.InsertReplace = false
uses_up workload.RemoveInsert = true
uses_up workload.Mixed = false
uses_up workload.UpdateOrInsert = false
uses_up workload.Compute = false
uses_up workload.Iterate = false
uses_up workload.Enter = false
uses_up workload.WornHit = false
uses_up workload.WornMiss = false
uses_up workload.TextHit = false
uses_up workload.TextMiss = false
uses_up workload.Registry = false
uses_up workload.Zipf = false
