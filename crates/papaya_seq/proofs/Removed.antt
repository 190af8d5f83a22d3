-- The meaning of a removal's reply for the pair that the call returns.
use Rattle.std.proofs.Common.{◌≡◌, ℕ, Bool, true, false, Option, Some, None, Result, Ok, Err, MatchOption, Bor, sym, ◌∙◌, ap, refl, subst, option_map}
use Rattle.papaya_words.specs.declared.refused.Refused.{Refused}
use Rattle.papaya_call.specs.declared.call.Reply.TheVariants as replies
use Rattle.papaya_core_store.specs.Store.{StoreState, Stored, pair_of}
use Rattle.papaya_seq.specs.Answered.{entry_answered}
use Rattle.papaya_seq.specs.Map.{HasNone, Holds, KeepsRemoving, MapState, Removes, Unchanged, deref_pair, entry_of}
use Rattle.papaya_seq.specs.Removes.{IsHeld, IsJudged, IsRemoval, IsRemoved}

module _ {K V S : Type 0} (eq : K → K → Bool) (matches : K → Bool) (said : Stored K V → Bool → Type 0) (s s' : MapState K V S) (n : ℕ) where
  -- the entry that a map gives for a pair, by its number
  abbrev pub IsShown : StoreState K V S → Option (Bor K × Bor V) → Type 0
  IsShown store found = MatchOption found (pair_of store n ≡ None) (λ f. pair_of store n ≡ Some (record { number = n; key = f.0.now; value = f.1.now }))

  -- the entry of a pair of the arena is given
  entry_is : (p : Stored K V) (f : Bor K × Bor V) → pair_of s'.store n ≡ Some p → IsShown s'.store (Some f) → entry_of p ≡ deref_pair f
  entry_is p f is shown =
      let both : Some p ≡ Some (record { number = n; key = f.0.now; value = f.1.now }) = sym is ∙ shown in
      let same : p ≡ record { number = n; key = f.0.now; value = f.1.now } = cc both in
      ap entry_of same

  -- the pair that was removed is given
  pub removed_shown : (found : Option (Bor K × Bor V)) → IsRemoval eq matches said s.store (replies.Removed n) s'.store → KeepsRemoving s s'
      → IsShown s'.store found
      → IsRemoved eq matches entry_of s (Ok (option_map deref_pair found)) s' × IsJudged eq matches said s (Ok (Ok (option_map deref_pair found))) s'
      × MatchOption found (HasNone eq matches s.store) (λ f. (p : _) × Holds eq matches s.store p × said p true × (p.key ≡ f.0.now) × (p.value ≡ f.1.now))
  removed_shown None (p, held, removes, agreed) keeps shown = let f : None ≡ Some p = sym shown ∙ keeps.0.pairs n p held.logged in absurd cc
  removed_shown (Some f) (p, held, removes, agreed) keeps shown =
      let is = entry_is p f (keeps.0.pairs n p held.logged) shown in
      ((p, is, removes, keeps), (p, is, removes, agreed, keeps), (p, held.held, agreed, ap (λ (e : K × V). e.0) is, ap (λ (e : K × V). e.1) is))

  -- the pair that stays is given
  pub kept_shown : (f : Bor K × Bor V) → IsRemoval eq matches said s.store (replies.Kept n) s'.store → KeepsRemoving s s' → IsShown s'.store (Some f)
      → IsJudged eq matches said s (Ok (Err (deref_pair f))) s'
      × ((p : _) × Holds eq matches s.store p × said p false × (p.key ≡ f.0.now) × (p.value ≡ f.1.now))
  kept_shown f (p, held, same, denied) keeps shown =
      let is = entry_is p f (keeps.0.pairs n p held.logged) shown in
      ((p, is, held.held, denied, same, keeps), (p, held.held, denied, ap (λ (e : K × V). e.0) is, ap (λ (e : K × V). e.1) is))

  -- one that has neither removed nor kept a pair, and is not refused, found none
  pub none_removed : (reply : _) → IsRemoval eq matches said s.store reply s'.store → ((m : ℕ) → reply ≡ replies.Removed m → ⊥)
      → ((m : ℕ) → reply ≡ replies.Kept m → ⊥) → ((refused : Refused) → reply ≡ replies.Refused refused → ⊥)
      → HasNone eq matches s.store × Unchanged eq s.store s'.store
  none_removed replies.Absent d removed kept refused = d
  none_removed (replies.Removed m) d removed kept refused = absurd (removed m refl)
  none_removed (replies.Kept m) d removed kept refused = absurd (kept m refl)
  none_removed (replies.Refused r) d removed kept refused = absurd (refused r refl)
  none_removed (replies.Aborted t) d removed kept refused = absurd d
  none_removed replies.Done d removed kept refused = absurd d
  none_removed (replies.Found m) d removed kept refused = absurd d
  none_removed (replies.Inserted m) d removed kept refused = absurd d
  none_removed (replies.Replaced m o) d removed kept refused = absurd d
  none_removed (replies.Occupied m) d removed kept refused = absurd d

  -- nor has one kept a pair whose closure agrees to each
  pub never_kept : (reply : _) → IsRemoval eq matches said s.store reply s'.store → ((p : Stored K V) → said p false → ⊥) → (m : ℕ)
      → reply ≡ replies.Kept m → ⊥
  never_kept reply d agrees m is = let kept = subst (λ r. IsRemoval eq matches said s.store r s'.store) is d in agrees kept.0 kept.3

  -- the same for a reply that is known to be this one
  pub removed_by : (reply : _) (found : Option (Bor K × Bor V)) → reply ≡ replies.Removed n → IsRemoval eq matches said s.store reply s'.store
      → KeepsRemoving s s' → IsShown s'.store found
      → IsRemoved eq matches entry_of s (Ok (option_map deref_pair found)) s' × IsJudged eq matches said s (Ok (Ok (option_map deref_pair found))) s'
      × MatchOption found (HasNone eq matches s.store) (λ f. (p : _) × Holds eq matches s.store p × said p true × (p.key ≡ f.0.now) × (p.value ≡ f.1.now))
  removed_by reply found is d keeps shown = removed_shown found (subst (λ r. IsRemoval eq matches said s.store r s'.store) is d) keeps shown

  pub kept_by : (reply : _) (found : Option (Bor K × Bor V)) (f : Bor K × Bor V) → reply ≡ replies.Kept n → found ≡ Some f
      → IsRemoval eq matches said s.store reply s'.store → KeepsRemoving s s' → IsShown s'.store found
      → IsJudged eq matches said s (Ok (Err (deref_pair f))) s'
      × ((p : _) × Holds eq matches s.store p × said p false × (p.key ≡ f.0.now) × (p.value ≡ f.1.now))
  kept_by reply found f is one d keeps shown = kept_shown f (subst (λ r. IsRemoval eq matches said s.store r s'.store) is d) keeps
      (subst (λ o. IsShown s'.store o) one shown)

module _ {K V S : Type 0} (eq : K → K → Bool) (matches : K → Bool) (s s' : MapState K V S) (n : ℕ) where
  -- the same if nothing is known about the closure
  pub removed_entry : (p : Stored K V) (found : Option (Bor K × Bor V)) → IsHeld eq matches n s.store p → Removes eq matches s.store p s'.store
      → KeepsRemoving s s' → IsShown eq matches (λ _ _. Unit {0}) s s' n s'.store found
      → IsRemoved eq matches entry_of s (Ok (option_map deref_pair found)) s'
      × MatchOption found (HasNone eq matches s.store) (λ f. (p : _) × Holds eq matches s.store p × (p.key ≡ f.0.now) × (p.value ≡ f.1.now))
  removed_entry p None held removes keeps shown = let f : None ≡ Some p = sym shown ∙ keeps.0.pairs n p held.logged in absurd cc
  removed_entry p (Some f) held removes keeps shown =
      let r = removed_shown eq matches (λ _ _. Unit {0}) s s' n (Some f) (p, held, removes, tt) keeps shown in
      (r.0, (r.2.0, r.2.1, r.2.3, r.2.4))

module _ {K V S : Type 0} (eq : K → K → Bool) (matches : K → Bool) (s s' : MapState K V S) where
  -- the value of the entry that was removed
  pub removed_value : (result : Result (Option (Bor K × Bor V)) Refused) (found : Option (Bor K × Bor V)) (f : Bor K × Bor V) → result ≡ Ok found
      → found ≡ Some f → IsRemoved eq matches entry_of s (entry_answered result) s'
      → IsRemoved eq matches (λ p. p.value) s (Ok (Some f.1.now)) s' × ((p : Stored K V) × Holds eq matches s.store p × (p.value ≡ f.1.now))
  removed_value result found f was one h =
      let r = subst (λ o. IsRemoved eq matches entry_of s (entry_answered o) s') (was ∙ ap Ok one) h in
      let is = ap (λ (e : K × V). e.1) r.1 in
      ((r.0, is, r.2, r.3), (r.0, r.2.held, is))

  -- no value, of none and of a refusal
  pub removed_no_value : (result : Result (Option (Bor K × Bor V)) Refused) (found : Option (Bor K × Bor V)) → result ≡ Ok found → found ≡ None
      → IsRemoved eq matches entry_of s (entry_answered result) s' → IsRemoved {R = V} eq matches (λ p. p.value) s (Ok None) s'
  removed_no_value result found was none h = subst (λ o. IsRemoved eq matches entry_of s (entry_answered o) s') (was ∙ ap Ok none) h

  pub removed_refused : (result : Result (Option (Bor K × Bor V)) Refused) (refused : Refused) → result ≡ Err refused
      → IsRemoved eq matches entry_of s (entry_answered result) s' → IsRemoved {R = V} eq matches (λ p. p.value) s (Err refused) s'
  removed_refused result refused was h = subst (λ o. IsRemoved eq matches entry_of s (entry_answered o) s') was h
