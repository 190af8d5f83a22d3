-- The properties of a map that are fixed when it is made, and a lemma on its initial capacity.
pub mod Fixed
pub mod Powers
-- The contracts of calls that take no pass.
pub mod Plain
-- The results of calls that store a value only under a condition.
pub mod Storing
-- The settings of a map before it is built.
pub mod Wanted
-- The effects of calls that store many entries.
pub mod Collected
-- Why a call that stores an entry is refused.
pub mod Limited
-- A session as contracts see it.
pub mod Known
-- A read-only map as contracts see it, and the results of its lookups and iterations.
pub mod Frozen
pub mod FrozenWalks
