-- Re-exports the definitions that the contracts of all maps and sets cite: which sizes they accept,
-- and the hash of a key.
pub use Rattle.papaya_words.specs.declared.limits.TheConstants.{DEFAULT_CHUNK, DEFAULT_SHARDS, MAX_TABLE_LEN}
pub use Rattle.papaya_words.specs.Mode.{IsChunked}
pub use Rattle.papaya_words.specs.Probe.{IsEntriesFor}
pub use Rattle.papaya_words_keys.specs.Hashes.{hash_of}
pub use Rattle.papaya_words_keys.specs.Sizes.{IsAllowed, IsSizeRefusal, IsTooMuch}
