-- Entries that are inserted into a map one after the other, after one more entry.
use Rattle.std.proofs.Common.{◌≡◌, ℕ, ◌≤◌, Bool, List, [], ◌∷◌, ◌++◌, Result, Ok, Err, OnOk, map, inl, inr, refl, sym, ap, subst}
use Rattle.std.specs.List.{AllZip}
use Rattle.papaya_words.specs.declared.refused.Refused.{Refused}
use Rattle.papaya_call.specs.declared.call.Call.TheVariants.{Insert, Reserve}
use Rattle.papaya_seq.specs.Clones.{Clones}
use Rattle.papaya_seq.specs.MadeAlone.{IsDoneAlone}
use Rattle.papaya_seq.specs.Map.{MapState}
use Rattle.papaya_seq.specs.PutAlone.{AreClonedAlone, ArePutAlone, HasNoNeed, IsCutAlone, IsMadeRoomy}
use Rattle.papaya_seq.proofs.Cloned.{zip_more}
use Rattle.papaya_seq.proofs.DoneAlone.{alone_done, alone_refused}

module _ {K V S : Type 0} (eq : K → K → Bool) (hash : S → K → ℕ) where
  module _ {A : Type 0} (shows : A → K × V) where
    -- one more
    pub put_more : (s : MapState K V S) (items : List A) (at : MapState K V S) → ArePutAlone eq hash shows s items at → (item : A) (absent : Bool)
        (s' : MapState K V S) → IsDoneAlone eq hash at (Insert (shows item).0 (shows item).1) (Ok absent) s'
        → ArePutAlone eq hash shows s (items ++ item ∷ []) s'
    put_more s [] at is item absent s' done = (
      s',
      subst (λ (m : MapState K V S). IsDoneAlone eq hash {R = Unit {0}} m (Insert (shows item).0 (shows item).1) (Ok tt) s') is
          (alone_done eq hash at s' (Insert (shows item).0 (shows item).1) (Ok absent) done tt),
      refl,
    )
    put_more s (x ∷ xs) at (middle, first, rest) item absent s' done = (middle, first, put_more middle xs at rest item absent s' done)

    -- or one that is refused
    pub cut_alone : (s : MapState K V S) (items : List A) (at : MapState K V S) → ArePutAlone eq hash shows s items at → (item : A) (refused : Refused)
        (s' : MapState K V S) → IsDoneAlone eq hash {R = Bool} at (Insert (shows item).0 (shows item).1) (Err refused) s'
        → IsCutAlone eq hash shows s items item refused s'
    cut_alone s items at puts item refused s' done = record {
      at = at;
      puts = puts;
      refusal = alone_refused eq hash at s' (Insert (shows item).0 (shows item).1) (Err refused) done refused refl;
    }

  -- room that was made, or not
  pub made_roomy : (s : MapState K V S) (entries : ℕ) (s' : MapState K V S) → (HasNoNeed s entries → ⊥) → (done : Result (Unit {0}) Refused)
      → IsDoneAlone eq hash s (Reserve entries) done s' → OnOk done (IsMadeRoomy eq hash s entries s')
  made_roomy s entries s' need (Ok u) made = inr (need, alone_done eq hash s s' (Reserve entries) (Ok u) made tt)
  made_roomy s entries s' need (Err refused) made = tt

  module _ (CK : K → K → Type 0) (CV : V → V → Type 0) (to : MapState K V S) where
    pub cloned_none : AreClonedAlone eq hash CK CV to [] to
    cloned_none = record { clones = []; each = tt; puts = refl }

    -- one clone more
    pub cloned_more : (es : List (K × V)) (at : MapState K V S) → AreClonedAlone eq hash CK CV to es at → (e c : K × V) → CK e.0 c.0 → CV e.1 c.1
        → (absent : Bool) (to' : MapState K V S) → IsDoneAlone eq hash at (Insert c.0 c.1) (Ok absent) to'
        → AreClonedAlone eq hash CK CV to (es ++ e ∷ []) to'
    cloned_more es at cloned e c clones_key clones_value absent to' done = record {
      clones = cloned.clones ++ c ∷ [];
      each = zip_more CK CV es cloned.clones e c cloned.each (clones_key, clones_value);
      puts = put_more (λ d. d) to cloned.clones at cloned.puts c absent to' done;
    }
