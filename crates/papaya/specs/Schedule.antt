-- Re-exports the definitions that the contracts of `schedule::Core` cite. `HasTimeline` is what they
-- say of a whole run.
pub use Rattle.papaya_core_timeline.specs.Headline.{HasTimeline}
pub use Rattle.papaya_core_timeline.specs.Runs.{Steps, StopsEarly, TurnsRun}
pub use Rattle.papaya_core_timeline.specs.New.{IsNew, IsNewLimited}
pub use Rattle.papaya_core_timeline.specs.Counted.{IsCounted}
pub use Rattle.papaya_core_timeline.specs.Begins.{Begins, handed}
pub use Rattle.papaya_core_timeline.specs.Intends.{IntendsHanded, KeepsIntents}
pub use Rattle.papaya_core_timeline.specs.Moves.{MovesMap}
pub use Rattle.papaya_core_timeline.specs.Advances.{AddsToShard}
pub use Rattle.papaya_core_timeline.specs.Callers.{scanning}
pub use Rattle.papaya_core_timeline.specs.Core.{work_of}
pub use Rattle.papaya_core_timeline.specs.Outcomes.{AnswersWalk, as_reply}
pub use Rattle.papaya_core_store.specs.Store.{KeepsPairs, pair_of}
pub use Rattle.papaya_core.specs.Limits.{IsSpent, IsWithin, NeedsNumber}
