-- Re-exports the definitions that the contracts of sets cite. A set is a map from its keys to `()`,
-- so `Threads` and `Seq` have the rest.
pub use Rattle.papaya_set.specs.Sets.{AreKept, HaveSameKeys, IsTaken, entry_of_key, entry_of_ref, key_in, keys_of}
pub use Rattle.papaya_set.specs.Shared.{IsContainedBetween, IsInsertedBetween, IsKeyFoundBetween, IsRemovedKeyBetween, JudgesKey}
