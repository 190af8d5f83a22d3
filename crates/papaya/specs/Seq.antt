-- Re-exports the definitions that the contracts of the map for one caller cite. They are about the
-- finite map that a store means. The first eight lines are enough for most proofs.
pub use Rattle.papaya_words_law.specs.Content.{AreApart, lookup}
pub use Rattle.papaya_core_store.specs.Store.{StoreState, Stored, pair_of}
pub use Rattle.papaya_core_timeline.specs.Content.{content, map_in}
pub use Rattle.papaya_seq.specs.Map.{Inserts, IsSpent, MapState, kept_key, value_of}
pub use Rattle.papaya_seq.specs.Entries.{IsPut}
pub use Rattle.papaya_seq.specs.Clones.{IsCloned, IsRebuilt}
pub use Rattle.papaya_seq.specs.Computes.{IsUpdatedOrInserted}
pub use Rattle.papaya_seq.specs.Answered.{value_answered}
-- how a map is made
pub use Rattle.papaya_core_timeline.specs.Core.{unlimited}
pub use Rattle.papaya_core_timeline.specs.New.{IsNew, IsNewLimited}
pub use Rattle.papaya_seq.specs.Map.{core_of, next_of, slots_of}
pub use Rattle.papaya_seq.specs.Clones.{AreEqual, HasParts, IsCloneRefusal, IsRebuildRefusal}
-- what a call finds, stores, removes and keeps, and why it is refused
pub use Rattle.papaya_seq.specs.Map.{HasNone, HasValue, Holds, IsInserted, IsTried, IsTriedInto, PushesOne, Removes}
pub use Rattle.papaya_seq.specs.Map.{IsMakeRefusal, IsStoreRefusal, IsTryCause, Keeps, KeepsSlots, Unchanged}
pub use Rattle.papaya_seq.specs.Map.{deref_pair, entry_of}
pub use Rattle.papaya_seq.specs.Ends.{ends_so}
pub use Rattle.papaya_seq.specs.Answered.{IsParted, entry_answered, judged_answered, old_answered}
pub use Rattle.papaya_seq.specs.Removes.{IsJudged, IsRemoved, Judges}
pub use Rattle.papaya_seq.specs.Retains.{IsRetained, IsRetainedTo}
pub use Rattle.papaya_seq.specs.Computes.{ComputesBy, HasValueOf, IsTriedWith, IsUpdated, Says, Takes, compute_answered, tried_answered}
pub use Rattle.papaya_seq.specs.Entries.{AllCome, ComesNext, Extends, HasJust, IsCutIn, IsCutNew}
-- how a map makes room
pub use Rattle.papaya_seq.specs.Map.{IsResizing}
pub use Rattle.papaya_seq.specs.Resizes.{HasRoomAlready, HasRoomFor, IsCopyCause, IsReserveCause, pairs_with}
-- the machine of a call, which most proofs do not need
pub use Rattle.papaya_call.specs.Machine.{started}
pub use Rattle.papaya_seq.specs.Calls.{AreCalled}
pub use Rattle.papaya_seq.specs.Looks.{LooksUp}
pub use Rattle.papaya_seq.specs.MadeAlone.{IsComputedAlone, IsDoneAlone, IsRefusedAlone, IsRemovalAlone}
pub use Rattle.papaya_seq.specs.PutAlone.{ExtendsAlone, IsClonedAlone, IsFilledAlone, IsRebuiltAlone}
