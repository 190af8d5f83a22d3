-- The pairs that the call has made stay unchanged, with more pairs loaded and after other
-- exchanges.
use Rattle.std.proofs.Common.{◌≡◌, inl, inr, ⊎_elim, ℕ, Option, None, Some, List, ◌∷◌, refl, true, subst, sym}
use Rattle.papaya_call.specs.declared.ask.OpKind.{OpKind}
use Rattle.papaya_call.specs.declared.ask.OpKind.TheVariants as ops
use Rattle.papaya_call.specs.declared.compute.Choice.{Choice}
use Rattle.papaya_call.specs.declared.compute.Choice.TheVariants.{Replace as To_replace, Remove as To_remove}
use Rattle.papaya_call.specs.declared.compute.Remembered.{Remembered}
use Rattle.papaya_call.specs.declared.made.Made.{Made}
use Rattle.papaya_call.specs.declared.made.Number.{Number}
use Rattle.papaya_call.specs.declared.made.Of.{Of}
use Rattle.papaya_call.specs.Made.{answered}
use Rattle.papaya_words_law.specs.Exchange.{Setting, Exchange}
use Rattle.papaya_words_law.specs.Code.{Coding}
use Rattle.papaya_words_law.specs.Later.{IsOfKey}
use Rattle.papaya_call_law.specs.TrueAnswers.{IsOneOf, LoadedPairs}
use Rattle.papaya_call_law.specs.Relies.{now, IsOwnPair, IsPairAt, ReliesChoice, ReliesFill, ReliesLoaded, ReliesNumber, ReliesOf}

module _ {K P : Type 0} (g : Setting K P) (c : Coding K P) (begun since : List (Exchange P)) (k : K) where
  -- the keys in slots are kept
  abbrev pub KeysLast : List (Exchange P) → Type 0
  KeysLast since' = (t x : ℕ) (key : K) → IsOfKey g ((now g c begun since k).slot t x) key → IsOfKey g ((now g c begun since' k).slot t x) key

  module _ (since' : List (Exchange P)) (last : KeysLast since') (loaded loaded' : LoadedPairs P)
      (kept : (q : P) → IsOneOf loaded.made q → IsOneOf loaded'.made q) where
    -- a pair that the call made is one of more
    own_kept : (n : ℕ) → IsOwnPair g c begun since k loaded n → IsOwnPair g c begun since' k loaded' n
    own_kept n r = (r.0, kept r.0 r.1, r.2, r.3)

    -- so is one of a key that was met
    at_kept : (n t x : ℕ) → IsPairAt g c begun since k loaded n t x → IsPairAt g c begun since' k loaded' n t x
    at_kept n t x r = (r.0, kept r.0 r.1, r.2, last t x (g.key r.0) r.3)

    -- the pair that is remembered for an absent key
    fill_kept : (fill : Option ℕ) → ReliesFill g c begun since k loaded fill → ReliesFill g c begun since' k loaded' fill
    fill_kept None r = r
    fill_kept (Some n) r = own_kept n r

    -- the one for a slot
    of_kept : (of : Option Of) → ReliesOf g c begun since k loaded of → ReliesOf g c begun since' k loaded' of
    of_kept None r = r
    of_kept (Some of) r = at_kept of.pair of.table of.index r

    -- the remembered choice about a pair
    choice_kept : (choice : Option Choice) → ReliesChoice g c begun since k loaded choice → ReliesChoice g c begun since' k loaded' choice
    choice_kept None r = r
    choice_kept (Some (To_replace old new)) r = of_kept (Some new) r
    choice_kept (Some (To_remove old)) r = r

    -- all of it, if each pair still has a key equal to the call's
    pub loaded_kept : ((q : P) → IsOneOf loaded'.made q → g.same k (g.key q) ≡ true) → (made : Made) (held : Remembered)
        → ReliesLoaded g c begun since k loaded made held → ReliesLoaded g c begun since' k loaded' made held
    loaded_kept keys made held r = record {
      keys = keys;
      limit = r.limit;
      number_is = r.number_is;
      own_is = fill_kept made.own r.own_is;
      of_is = of_kept made.of r.of_is;
      fill_is = fill_kept held.fill r.fill_is;
      choice_is = choice_kept held.choice r.choice_is;
    }

  -- another exchange changes nothing about the pairs made
  pub loaded_later : (since' : List (Exchange P)) → KeysLast since' → (loaded : LoadedPairs P) (made : Made) (held : Remembered)
      → ReliesLoaded g c begun since k loaded made held → ReliesLoaded g c begun since' k loaded made held
  loaded_later since' last loaded made held r = loaded_kept since' last loaded loaded (λ q one. one) r.keys made held r

  module _ (loaded : LoadedPairs P) (made : Made) (held : Remembered) (r : ReliesLoaded g c begun since k loaded made held) where
    -- nor does another load
    pub loaded_told : (last : Option P) → ReliesLoaded g c begun since k (record loaded { last = last }) made held
    loaded_told last = loaded_kept since (λ t x key h. h) loaded (record loaded { last = last }) (λ q one. one) r.keys made held r

    -- one more pair with a key equal to the call's was made
    pub loaded_more : (q : P) → g.same k (g.key q) ≡ true → ReliesLoaded g c begun since k (record loaded { made = q ∷ loaded.made }) made held
    loaded_more q mine =
        loaded_kept since (λ t x key h. h) loaded (record loaded { made = q ∷ loaded.made }) (λ p one. inr one)
        (λ p one. ⊎_elim (λ (e : p ≡ q). subst (λ y. g.same k (g.key y) ≡ true) (sym e) mine) (λ (before : IsOneOf loaded.made p). r.keys p before) one)
        made held r

    -- the number of the next pair is another, and the key or the value was stored in the arena
    pub loaded_number : (number : Number) → ReliesNumber g c begun since k number → ReliesLoaded g c begun since k loaded (record made { number = number }) held
    loaded_number number is = record {
      keys = r.keys;
      limit = r.limit;
      number_is = is;
      own_is = r.own_is;
      of_is = r.of_is;
      fill_is = r.fill_is;
      choice_is = r.choice_is;
    }

    pub loaded_keyed : ReliesLoaded g c begun since k loaded (record made { keyed = true }) held
    loaded_keyed = record {
      keys = r.keys;
      limit = r.limit;
      number_is = r.number_is;
      own_is = r.own_is;
      of_is = r.of_is;
      fill_is = r.fill_is;
      choice_is = r.choice_is;
    }

    pub loaded_valued : ReliesLoaded g c begun since k loaded (record made { valued = true }) held
    loaded_valued = record {
      keys = r.keys;
      limit = r.limit;
      number_is = r.number_is;
      own_is = r.own_is;
      of_is = r.of_is;
      fill_is = r.fill_is;
      choice_is = r.choice_is;
    }

    -- or a closure returned a value
    pub loaded_answered : (kind : OpKind) → ReliesLoaded g c begun since k loaded (answered kind made) held
    loaded_answered ops.Insert = record {
      keys = r.keys;
      limit = r.limit;
      number_is = r.number_is;
      own_is = r.own_is;
      of_is = r.of_is;
      fill_is = r.fill_is;
      choice_is = r.choice_is;
    }
    loaded_answered ops.Remove = r
    loaded_answered (ops.Abort t) = r

    -- a pair of an insertion was made
    pub loaded_own : (n : ℕ) → IsOwnPair g c begun since k loaded n → ReliesLoaded g c begun since k loaded (record made { own = Some n }) held
    loaded_own n is = record {
      keys = r.keys;
      limit = r.limit;
      number_is = r.number_is;
      own_is = is;
      of_is = r.of_is;
      fill_is = r.fill_is;
      choice_is = r.choice_is;
    }

    pub loaded_of : (of : Of) → IsPairAt g c begun since k loaded of.pair of.table of.index
        → ReliesLoaded g c begun since k loaded (record made { of = Some of }) held
    loaded_of of is = record {
      keys = r.keys;
      limit = r.limit;
      number_is = r.number_is;
      own_is = r.own_is;
      of_is = is;
      fill_is = r.fill_is;
      choice_is = r.choice_is;
    }

  module _ (loaded : LoadedPairs P) (q : P) where
    -- the newest pair is the call's own, if it has its key
    pub own_newest : g.key q ≡ k → IsOwnPair g c begun since k (record loaded { made = q ∷ loaded.made }) (c.number q)
    own_newest mine = (q, inl refl, refl, mine)

    -- or one of a slot's key
    pub at_newest : (t x : ℕ) → IsOfKey g ((now g c begun since k).slot t x) (g.key q)
        → IsPairAt g c begun since k (record loaded { made = q ∷ loaded.made }) (c.number q) t x
    at_newest t x is = (q, inl refl, refl, is)
