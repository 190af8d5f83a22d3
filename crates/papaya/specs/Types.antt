-- Re-exports the types that callers' proofs name, and the variants of these types.
pub use Rattle.papaya_words.specs.declared.refused.Refused.{Refused}
pub use Rattle.papaya_words.specs.declared.refused.Refused.TheVariants.{Memory, Capacity, WrongGuard, RemoveNothing, ZeroChunk, Shape, KeyClash, Item, Limit}
pub use Rattle.papaya_words.specs.declared.resize_mode.ResizeMode.{ResizeMode}
pub use Rattle.papaya_words.specs.declared.resize_mode.ResizeMode.TheVariants.{Incremental, Blocking}
pub use Rattle.papaya_call.specs.declared.answers.Operation.{Operation}
pub use Rattle.papaya_call.specs.declared.answers.Operation.TheVariants.{Insert, Remove, Abort}
pub use Rattle.papaya_words_keys.specs.declared.results.Compute.{Compute}
pub use Rattle.papaya_words_keys.specs.declared.results.Compute.TheVariants.{Inserted, Updated, Removed, Aborted}
pub use Rattle.papaya_words_keys.specs.declared.results.NotInserted.{NotInserted}
pub use Rattle.papaya_words_keys.specs.declared.results.NotInserted.TheVariants.{Value, Logged}
pub use Rattle.papaya_core_timeline.specs.declared.outcome.Outcome.{Outcome}
pub use Rattle.papaya_core_timeline.specs.declared.outcome.Outcome.TheVariants.{Replied, Walked}
-- The variants of these types have a module for each type, since several have the same names:
-- `use Rattle.papaya.specs.Types.ReplyVariants.{Found}`.
pub use Rattle.papaya_words_keys.specs.declared.results.Computed.{Computed}
pub use Rattle.papaya_words_keys.specs.declared.results.Computed.TheVariants as ComputedVariants
pub use Rattle.papaya_call.specs.declared.call.Call.{Call}
pub use Rattle.papaya_call.specs.declared.call.Call.TheVariants as CallVariants
pub use Rattle.papaya_call.specs.declared.call.Reply.{Reply}
pub use Rattle.papaya_call.specs.declared.call.Reply.TheVariants as ReplyVariants
pub use Rattle.papaya_call.specs.declared.call.Task.{Task}
pub use Rattle.papaya_call.specs.declared.call.Task.TheVariants as TaskVariants
pub use Rattle.papaya_call.specs.declared.ask.OpKind.{OpKind}
pub use Rattle.papaya_call.specs.declared.ask.OpKind.TheVariants as OpKindVariants
pub use Rattle.papaya_call.specs.declared.ask.StepKind.{StepKind}
pub use Rattle.papaya_call.specs.declared.ask.StepKind.TheVariants as StepKindVariants
pub use Rattle.papaya_words.specs.declared.word.Kind.{Kind}
pub use Rattle.papaya_words.specs.declared.word.Kind.TheVariants as KindVariants
pub use Rattle.papaya_core_timeline.specs.declared.trace.Turn.{Turn}
pub use Rattle.papaya_core_timeline.specs.declared.trace.Turn.TheVariants as TurnVariants
pub use Rattle.papaya_core_timeline.specs.declared.trace.Event.{Event}
pub use Rattle.papaya_core_timeline.specs.declared.trace.Event.TheVariants as EventVariants
