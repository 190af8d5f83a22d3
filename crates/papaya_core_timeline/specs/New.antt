-- A new core.
use Rattle.std.specs.Prelude.{◌≡◌, ℕ, [], Option, None}
use Rattle.papaya_words.specs.declared.resize_mode.ResizeMode.{ResizeMode}
use Rattle.papaya_core_store.specs.New.{IsNewStore}
use Rattle.papaya_core_timeline.specs.Core.{CoreState}

-- a new store, no callers, this resize mode, and this pair limit, if there is one
pub record IsNewLimited {K V S A : Type 0} (mode : ResizeMode) (capacity shards : ℕ) (hasher : S)
    (limit : Option ℕ) (s : CoreState K V S A) : Type 0 where
  pub store_is : IsNewStore capacity shards hasher s.initial s.store
  pub mode_is : s.mode ≡ record { resize = mode; limit = limit }
  pub callers : s.callers ≡ []

-- the same without a pair limit
abbrev pub IsNew : {K V S A : Type 0} → ResizeMode → (capacity shards : ℕ) → S → CoreState K V S A
    → Type 0
IsNew mode capacity shards hasher s = IsNewLimited mode capacity shards hasher None s
