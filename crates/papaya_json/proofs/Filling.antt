-- A map that was filled with the results of reading a list, after one more item.
use Rattle.std.proofs.Common.{◌≡◌, Bool, List, [], ◌∷◌, ◌++◌, Ok, Err, ◌∙◌}
use Rattle.std.specs.List.{AllZip}
use Rattle.papaya_words.specs.declared.limits.TheConstants.{DEFAULT_CHUNK}
use Rattle.papaya_words.specs.declared.refused.Refused.{Refused}
use Rattle.papaya_words.specs.declared.resize_mode.ResizeMode.TheVariants.{Incremental}
use Rattle.papaya_core_timeline.specs.Content.{content}
use Rattle.papaya_core_timeline.specs.New.{IsNew}
use Rattle.papaya_seq.specs.Entries.{Fills, IsCutNew, IsPut}
use Rattle.papaya_seq.specs.Map.{MapState, core_of}
use Rattle.papaya_seq.proofs.Filled.{cut, fills_more, fills_none, just, new_with_own}
use Rattle.papaya_json.specs.Reads.{IsRead}
use Rattle.papaya_json.proofs.Building.{zip_more}

module _ {K V S A B : Type 0} (eq : K → K → Bool) (reads : A → B → Type 0) (shows : B → K × V) (hasher : S) where
  -- each item so far was read, and a new map was filled with the results
  pub record IsFilled (items : List A) (s : MapState K V S) : Type 0 where
    pub new : MapState K V S
    pub is_new : IsNew {A = Unit {0}} (Incremental DEFAULT_CHUNK) 0 1 hasher (core_of new)
    pub empty : content eq new.store ≡ []
    pub done : List B
    pub each : AllZip reads items done
    pub fills : Fills eq shows new done s

  pub filled_none : (s : MapState K V S) → IsNew {A = Unit {0}} (Incremental DEFAULT_CHUNK) 0 1 hasher (core_of s) → content eq s.store ≡ [] → IsFilled [] s
  filled_none s new none = record { new = s; is_new = new; empty = none; done = []; each = tt; fills = fills_none eq shows s }

  module _ (items : List A) (s : MapState K V S) (filled : IsFilled items s) where
    module _ (item : A) (it : B) where
      pub filled_more : reads item it → (absent : Bool) (s' : MapState K V S) → IsPut eq (shows it).0 (shows it).1 s (Ok absent) s'
          → IsFilled (items ++ item ∷ []) s'
      filled_more is absent s' puts = record {
        new = filled.new;
        is_new = filled.is_new;
        empty = filled.empty;
        done = filled.done ++ it ∷ [];
        each = zip_more reads items filled.done item it filled.each is;
        fills = fills_more eq shows filled.new filled.done s filled.fills it absent s' puts;
      }

    pub filled_cut : (it : B) (refused : Refused) (s' : MapState K V S) → IsPut eq (shows it).0 (shows it).1 s (Err refused) s'
        → IsCutNew S eq shows filled.done it refused
    filled_cut it refused s' puts = record {
      new = filled.new;
      left = s';
      is_new = new_with_own (Incremental DEFAULT_CHUNK) 0 1 hasher filled.new filled.is_new;
      cut = cut eq shows filled.new filled.done s filled.fills it refused s' puts;
    }

    pub filled_read : IsRead eq reads shows items s
    filled_read = record {
      done = filled.done;
      each = filled.each;
      just = just eq shows filled.new filled.done s filled.fills hasher filled.empty
          filled.is_new;
    }

    pub filled_hasher : s.store.hasher ≡ hasher
    filled_hasher = filled.fills.keeps.hasher ∙ filled.is_new.store_is.hasher_is
