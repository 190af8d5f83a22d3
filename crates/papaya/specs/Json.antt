-- Re-exports the definitions that the contracts of the conversions to JSON and from it cite.
pub use Rattle.papaya_json.specs.Objects.{HasNoPair, IsMapOf, IsMapRefusal, IsNoObjectOr, IsObject, IsObjectWith, IsPair, IsWriteRefusal, pairs_of}
pub use Rattle.papaya_json.specs.Arrays.{HasNoKey, IsArray, IsArrayWith, IsKey, IsListRefusal, IsNoArrayOr, IsSetOf, IsSetRefusal}
pub use Rattle.papaya_json.specs.Shared.{IsEachStored, IsUnread, IsUnwritten, IsUnwrittenOf}
pub use Rattle.papaya_json.specs.Undoing.{UndoesItems, UndoesTexts, UndoesValues}
