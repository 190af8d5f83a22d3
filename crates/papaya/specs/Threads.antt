-- Re-exports the definitions that the contracts of the shared map cite. They are about the map's
-- history, and about what a call returns and changes. The first seven lines are enough for `get`,
-- `insert` and plain calls.
pub use Rattle.papaya_map_book.specs.Logs.{Member, Stored}
pub use Rattle.papaya_map_lookup.specs.History.{AllLegalChanges, Change, IsLegalHistory, Makes, changed, key_of, replay, replay_from}
pub use Rattle.papaya_map_lookup.specs.Answers.{IsAnsweredBetween, IsPairAnsweredBetween}
pub use Rattle.papaya_map_change.specs.Changes.{IsChangeOf, IsPut, key_kept}
pub use Rattle.papaya_map_change.specs.Writing.{IsMemoryOrCapacity}
pub use Rattle.papaya_map.specs.Limited.{IsPlainRefusal, IsWriteRefusal}
pub use Rattle.papaya_map.specs.Plain.{IsOfHistory, IsOfHistorySince}
pub use Rattle.papaya_map_change.specs.RemovalAnswers.{IsJudged, IsRemovalBy, IsRemoved, gives_value, has_removed}
pub use Rattle.papaya_map_change.specs.ClosureCalls.{AllArguments, AreRefsTo, HasReturned, Judges, Operates, WasHeld, WasLast}
pub use Rattle.papaya_map_compute.specs.ComputeAnswers.{IsComputeBy, IsOperated, changes}
pub use Rattle.papaya_map.specs.Storing.{IsCurrent, IsInPlace, IsStored, IsThereBy, IsTried, IsTriedWith, IsUpdated, IsUpserted}
pub use Rattle.papaya_call_law.specs.ScanAnswers.{IsLastAnswer}
pub use Rattle.papaya_map_scan.specs.Leaving.{AreDropped, Drops, HasDropped, HasKept, IsCleared, IsRetained, WasTakenOut}
pub use Rattle.papaya_map.specs.Collected.{AreCloned, AreCopied, AreStored, AreYielded, Had, Stores}
pub use Rattle.papaya_map.specs.Known.{Known}
-- how a map is made, which history a plain call is of, and why a change finds no room
pub use Rattle.papaya_map.specs.Fixed.{HasFirstTable, HasLearned, HasSettingsOf, IsFor}
pub use Rattle.papaya_map_lookup.specs.History.{history_of}
pub use Rattle.papaya_map_book.specs.contracts.rule.entry.Event.{the_row as EventOf}
pub use Rattle.papaya_map.specs.Plain.{IsContained, of_its_history, rule_of, unpinned}
pub use Rattle.papaya_map.specs.Storing.{IsThere}
pub use Rattle.papaya_map.specs.Storing.{stored as stored_by}
pub use Rattle.papaya_map_change.specs.RemovalAnswers.{IsEntryRemoved}
pub use Rattle.papaya_map_book.specs.Limits.{HasNoRoom}
pub use Rattle.papaya_map_change.specs.Resizing.{HasNoRoomAhead, HasRoomAhead}
-- what a read-only map has, and what its lookups and iterations return
pub use Rattle.papaya_map.specs.Frozen.{Finds, FindsEntry, FindsKey, FindsStored, FindsValue, Frozen, HasEntry, HasNone}
pub use Rattle.papaya_map.specs.FrozenWalks.{FrozenWalk, HasAll, Yields, YieldsKey, YieldsValue}
