-- What a store holds, under the name that its users know.
pub use Rattle.papaya_core_store.specs.Store.{KeepsPairs, StoreState, Stored, pair_of, stored_at, stored_in}
