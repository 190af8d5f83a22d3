-- A compute: its state after each result of its closure, and the pair that is made from the result
-- and remembered.
use Rattle.std.proofs.Common.{◌≡◌, inl, inr, ℕ, ◌<◌, ◌==◌, Bool, true, false, MatchBool, Option, None, Some, List, ◌∷◌, refl, eqb-true, arith}
use Rattle.std.proofs.lemmas.Bool.{cond_both}
use Rattle.papaya_call.specs.declared.ask.OpKind.{OpKind}
use Rattle.papaya_call.specs.declared.ask.OpKind.TheVariants as ops
use Rattle.papaya_call.specs.declared.call.Task.{Task}
use Rattle.papaya_call.specs.declared.call.Task.TheVariants.{Get, Insert, RemoveIf, Compute}
use Rattle.papaya_call.specs.declared.compute.Choice.{Choice}
use Rattle.papaya_call.specs.declared.compute.Choice.TheVariants.{Replace as To_replace, Remove as To_remove}
use Rattle.papaya_call.specs.declared.compute.Gap.{Gap}
use Rattle.papaya_call.specs.declared.compute.Gap.TheVariants.{NoRoot, At, After}
use Rattle.papaya_call.specs.declared.compute.Purpose.{Purpose}
use Rattle.papaya_call.specs.declared.compute.Purpose.TheVariants.{Fill, Replace, Again}
use Rattle.papaya_call.specs.declared.compute.Remembered.{Remembered}
use Rattle.papaya_call.specs.declared.machine.State.TheVariants.{Showing, Pairing, Putting, Burying}
use Rattle.papaya_call.specs.declared.remove.Removal.{Removal}
use Rattle.papaya_call.specs.declared.search.Place.{Place}
use Rattle.papaya_call.specs.declared.made.Made.{Made}
use Rattle.papaya_call.specs.declared.made.Of.{Of}
use Rattle.papaya_call.specs.declared.write.Write.{Write}
use Rattle.papaya_call.specs.Made.{serves_at}
use Rattle.papaya_words_law.specs.Exchange.{Setting, Exchange}
use Rattle.papaya_words_law.specs.Code.{Coding, IsHashed}
use Rattle.papaya_words.specs.Word.{pair_of}
use Rattle.papaya_call.specs.Compute.{chosen, fills, in_place_of, lacks, offered, provides, recalled, recalls, with_choice, with_pair}
use Rattle.papaya_call.specs.Machine.{HasClosure, IsComputer, decided, decided_held}
use Rattle.papaya_call_law.specs.TrueAnswers.{IsOfLast, LoadedPairs}
use Rattle.papaya_call_law.specs.Relies.{IsOwnPair, IsPairAt, IsPairFor, MayRemove, MayWrite}
use Rattle.papaya_call_law.specs.Relies.{ReliesChoice, ReliesFill, ReliesGap, ReliesLoaded}
use Rattle.papaya_call_law.specs.Relies.{ReliesOf, ReliesPurpose, ReliesStage, WasAtMoment}
use Rattle.papaya_call_law.proofs.ReliesServed.{placed_pair}
use Rattle.papaya_call_law.proofs.ReliesLearnLoaded.{own_newest}
use Rattle.papaya_call_law.proofs.ReliesLearnPairs.{IsNewFor, new_at, new_same, own_same, removal_more}
use Rattle.papaya_call_law.proofs.SaysWords.{live_is_some}

module _ {K P : Type 0} (g : Setting K P) (c : Coding K P) (begun since : List (Exchange P)) (k : K) where
  -- a pair that was made is put where its key is absent
  pub fills_relies : (loaded : LoadedPairs P) (gap : Gap) (n : ℕ) → ReliesGap g c begun since k gap → IsOwnPair g c begun since k loaded n
      → ReliesStage g c begun since k loaded Compute (fills gap n)
  fills_relies loaded NoRoot n r own = tt
  fills_relies loaded (At at) n r own = (tt, record { stands = r; old = inl refl }, own)
  fills_relies loaded (After t) n r own = (tt, r)

  -- the closure is called with None, or was before
  pub lacks_relies : (loaded : LoadedPairs P) (fill : Option ℕ) → ReliesFill g c begun since k loaded fill → (gap : Gap)
      → ReliesGap g c begun since k gap → WasAtMoment g c begun since k None
      → ReliesStage g c begun since k loaded Compute (lacks fill gap)
  lacks_relies loaded None own gap r m = (tt, r, m)
  lacks_relies loaded (Some n) own gap r m = fills_relies loaded gap n r own

  module _ (loaded : LoadedPairs P) (write : Write) (shown : MayRemove g c begun since k loaded (record { place = write.place; word = write.old })) where
    -- the Live word of a pair of the key may be replaced
    pub replaceable : MayWrite g c begun since k loaded true write
    replaceable = record { stands = shown.met.stands; old = inr (refl, shown) }

    -- a pair that was made for its place may be put there: the word is no empty one
    pub pair_replaces : (n : ℕ) → IsPairAt g c begun since k loaded n write.place.table write.place.probe.i → IsPairFor g c begun since k loaded write n
    pair_replaces n own = by_old (write.old == 0) refl
      where
        by_old : (b : Bool) → (write.old == 0) ≡ b
            → MatchBool b (IsOwnPair g c begun since k loaded n) (IsPairAt g c begun since k loaded n write.place.table write.place.probe.i)
        by_old true e = absurd (let some : 0 < write.old = live_is_some write.old shown.live in let none = eqb-true write.old 0 e in omega (arith, some, none))
        by_old false e = own

  module _ (loaded : LoadedPairs P) (at : Place) (word : ℕ) (removes : MayRemove g c begun since k loaded (record { place = at; word = word })) where
    -- a pair for which one was made before
    recalled_relies : (new : Of) → ReliesOf g c begun since k loaded (Some new) → ReliesStage g c begun since k loaded Compute (recalled new at word)
    recalled_relies new own =
        let write : Write = record { place = at; old = word } in
        cond_both (serves_at new at.table at.probe.i) (Putting (record { write = write; pair = new.pair })) (Pairing (Again write))
        (ReliesStage g c begun since k loaded Compute)
        (λ e. (tt, replaceable loaded write removes, pair_replaces loaded write removes new.pair (placed_pair g c begun since k loaded new at own e)))
        (λ e. (tt, removes))

    -- the closure is called with the pair of a Live word, or was before
    pub recalls_relies : (choice : Option Choice) → ReliesChoice g c begun since k loaded choice → (n : ℕ)
        → ReliesStage g c begun since k loaded Compute (recalls choice at word n)
    recalls_relies None own n = (tt, removes)
    recalls_relies (Some (To_replace old new)) own n =
        cond_both (old == n) (recalled new at word) (Showing (record { place = at; word = word })) (ReliesStage g c begun since k loaded Compute)
        (λ e. recalled_relies new own)
        (λ e. (tt, removes))
    recalls_relies (Some (To_remove old)) own n =
        cond_both (old == n) (Burying (record { place = at; word = word })) (Showing (record { place = at; word = word }))
        (ReliesStage g c begun since k loaded Compute)
        (λ e. (tt, removes))
        (λ e. (tt, removes))

  -- the closure's result for None
  pub offered_relies : (loaded : LoadedPairs P) (task : Task) → IsComputer task → (gap : Gap) → ReliesGap g c begun since k gap → (kind : OpKind)
      → ReliesStage g c begun since k loaded task (offered gap kind)
  offered_relies loaded Get is gap r kind = absurd is
  offered_relies loaded (Insert replace) is gap r kind = absurd is
  offered_relies loaded RemoveIf is gap r kind = absurd is
  offered_relies loaded Compute is gap r ops.Insert = (tt, r)
  offered_relies loaded Compute is gap r ops.Remove = tt
  offered_relies loaded Compute is gap r (ops.Abort t) = tt

  module _ (loaded : LoadedPairs P) (removal : Removal) (removes : MayRemove g c begun since k loaded removal) where
    -- its result for a pair
    chosen_relies : (kind : OpKind) → ReliesStage g c begun since k loaded Compute (chosen removal kind)
    chosen_relies ops.Insert = (tt, removes)
    chosen_relies ops.Remove = (tt, removes)
    chosen_relies (ops.Abort t) = tt

    -- the closure of a removal has no such result
    pub decided_relies : (task : Task) → HasClosure task → (kind : OpKind) → ReliesStage g c begun since k loaded task (decided task removal kind)
    decided_relies Get is kind = absurd is
    decided_relies (Insert replace) is kind = absurd is
    decided_relies RemoveIf is kind = (tt, removes)
    decided_relies Compute is kind = chosen_relies kind

  -- the remembered choice after such a result
  choice_relies : (loaded : LoadedPairs P) (made : Made) (held : Remembered) → ReliesLoaded g c begun since k loaded made held
      → (removal : Removal) (kind : OpKind) → ReliesLoaded g c begun since k loaded made (with_choice held removal kind)
  choice_relies loaded made held r removal ops.Insert = r
  choice_relies loaded made held r removal
      ops.Remove = record { keys = r.keys; limit = r.limit; number_is = r.number_is; own_is = r.own_is; of_is = r.of_is; fill_is = r.fill_is; choice_is = tt }
  choice_relies loaded made held r removal (ops.Abort t) = r

  -- a removal remembers nothing
  pub decided_loaded : (loaded : LoadedPairs P) (made : Made) (held : Remembered) → ReliesLoaded g c begun since k loaded made held
      → (task : Task) (removal : Removal) (kind : OpKind) → ReliesLoaded g c begun since k loaded made (decided_held task held removal kind)
  decided_loaded loaded made held r Get removal kind = r
  decided_loaded loaded made held r (Insert replace) removal kind = r
  decided_loaded loaded made held r RemoveIf removal kind = r
  decided_loaded loaded made held r Compute removal kind = choice_relies loaded made held r removal kind

  -- a pair has the key that its purpose requires: the call's own, or the one that is there
  abbrev pub IsPairTo : LoadedPairs P → Purpose → ℕ → Type 0
  IsPairTo loaded (Fill gap) n = IsOwnPair g c begun since k loaded n
  IsPairTo loaded (Replace write) n = IsPairAt g c begun since k loaded n write.place.table write.place.probe.i
  IsPairTo loaded (Again write) n = IsPairAt g c begun since k loaded n write.place.table write.place.probe.i

  -- a pair that was made is to be put at the place for which the closure was called
  pub provides_relies : (loaded : LoadedPairs P) (task : Task) → IsComputer task → (purpose : Purpose)
      → ReliesPurpose g c begun since k loaded purpose → (n : ℕ) → IsPairTo loaded purpose n → ReliesStage g c begun since k loaded task (provides purpose n)
  provides_relies loaded Get is purpose r n own = absurd is
  provides_relies loaded (Insert replace) is purpose r n own = absurd is
  provides_relies loaded RemoveIf is purpose r n own = absurd is
  provides_relies loaded Compute is (Fill gap) r n own = fills_relies loaded gap n r own
  provides_relies loaded Compute is (Replace write) r n own = (tt, replaceable loaded write r, pair_replaces loaded write r n own)
  provides_relies loaded Compute is (Again write) r n own = (tt, replaceable loaded write r, pair_replaces loaded write r n own)

  -- and is remembered
  pub pair_relies : (loaded : LoadedPairs P) (made : Made) (held : Remembered) → ReliesLoaded g c begun since k loaded made held
      → (purpose : Purpose) (n : ℕ) → IsPairTo loaded purpose n → ReliesLoaded g c begun since k loaded made (with_pair held purpose n)
  pair_relies loaded made held r (Fill gap) n
      own = record { keys = r.keys; limit = r.limit; number_is = r.number_is; own_is = r.own_is; of_is = r.of_is; fill_is = own; choice_is = tt }
  pair_relies loaded made held r (Replace write) n
      own = record { keys = r.keys; limit = r.limit; number_is = r.number_is; own_is = r.own_is; of_is = r.of_is; fill_is = r.fill_is; choice_is = own }
  pair_relies loaded made held r (Again write) n
      own = record { keys = r.keys; limit = r.limit; number_is = r.number_is; own_is = r.own_is; of_is = r.of_is; fill_is = r.fill_is; choice_is = own }

module _ {K P : Type 0} (g : Setting K P) (c : Coding K P) (hashed : IsHashed g c) (begun since : List (Exchange P)) (k : K) (loaded : LoadedPairs P) where
  -- the purpose of a pair stays
  pub purpose_more : (q : P) (purpose : Purpose) → ReliesPurpose g c begun since k loaded purpose
      → ReliesPurpose g c begun since k (record loaded { made = q ∷ loaded.made }) purpose
  purpose_more q (Fill gap) r = r
  purpose_more q (Replace write) r = removal_more g c hashed begun since k loaded q (record { place = write.place; word = write.old }) r
  purpose_more q (Again write) r = removal_more g c hashed begun since k loaded q (record { place = write.place; word = write.old }) r

  -- the newest pair has a key equal to the call's, and may replace the one that the closure was
  -- called with
  shown_new : (write : Write) → MayRemove g c begun since k loaded (record { place = write.place; word = write.old }) → (q : P)
      → IsNewFor g c hashed begun since k loaded write.old q
      → (g.same k (g.key q) ≡ true) × IsPairAt g c begun since k (record loaded { made = q ∷ loaded.made }) (c.number q) write.place.table write.place.probe.i
  shown_new write r q new = by_old (write.old == 0) refl new
    where
      by_old : (b : Bool) → (write.old == 0) ≡ b → MatchBool b (g.key q ≡ k) (IsOfLast g c k loaded (pair_of write.old) q)
          → (g.same k (g.key q) ≡ true) × IsPairAt g c begun since k (record loaded { made = q ∷ loaded.made }) (c.number q) write.place.table
          write.place.probe.i
      by_old true e h = absurd (let some : 0 < write.old = live_is_some write.old r.live in let none = eqb-true write.old 0 e in omega (arith, some, none))
      by_old false e h = let removal : Removal = record { place = write.place; word = write.old } in
          (new_same g c hashed begun since k loaded removal r q h, new_at g c hashed begun since k loaded removal r q h)

  -- so it is with the purpose of the newest pair
  pub purpose_new : (q : P) (purpose : Purpose) → ReliesPurpose g c begun since k loaded purpose
      → IsNewFor g c hashed begun since k loaded (in_place_of purpose) q
      → (g.same k (g.key q) ≡ true) × IsPairTo g c begun since k (record loaded { made = q ∷ loaded.made }) purpose (c.number q)
  purpose_new q (Fill gap) r new = (own_same g c hashed begun since k q new, own_newest g c begun since k loaded q new)
  purpose_new q (Replace write) r new = shown_new write r q new
  purpose_new q (Again write) r new = shown_new write r q new
