-- The places of a search: the first one, the next one, and that none is left.
use Rattle.std.proofs.Common.{◌≡◌, ◌⊎◌, inr, ⊎_elim, ℕ, ◌+◌, ◌%◌, ◌<◌, ◌≤◌, nat_lt, ltb-true}
use Rattle.std.proofs.Common.{ltb-false, true, Some, List, ◌++◌, refl, sym, ap, ◌∙◌, subst, arith}
use Rattle.std.proofs.lemmas.Bool.{cases_lt, cond_both}
use Rattle.papaya_words.specs.Probe.{place}
use Rattle.papaya_words.proofs.Places.{place-next}
use Rattle.papaya_call.specs.declared.search.Place.{Place}
use Rattle.papaya_call.specs.declared.search.Search.TheVariants.{Looking}
use Rattle.papaya_call.specs.declared.search.ProbeStep.{ProbeStep}
use Rattle.papaya_call.specs.declared.search.ProbeStep.TheVariants as seen
use Rattle.papaya_words_law.specs.Exchange.{Word, Empty, Live, Marked, Setting, State, Exchange, run, start}
use Rattle.papaya_words_law.specs.View.{look, beyond, view, IsPassed}
use Rattle.papaya_words_law.specs.Code.{Coding}
use Rattle.papaya_call.specs.Search.{first_place, next_place, go_on}
use Rattle.papaya_call_law.specs.TrueAnswers.{LoadedPairs}
use Rattle.papaya_words_law.specs.Code.{IsHashed}
use Rattle.papaya_call_law.specs.Relies.{HasComeTo, HasMet, IsAt, ReliesSearch}

module _ {K P : Type 0} (g : Setting K P) (c : Coding K P) (hashed : IsHashed g c) (begun since : List (Exchange P)) (k : K) where
  -- the state after all exchanges
  abbrev now : State P
  now = run (begun ++ since) start

  -- the outcome of a probe: the Empty slot that it came to, or a pair of the key that was not
  -- copied
  abbrev pub ReliesProbed : LoadedPairs P → ProbeStep → Type 0
  ReliesProbed loaded (seen.On search) = ReliesSearch g c begun since k loaded search
  ReliesProbed loaded (seen.Empty at) = IsAt g c begun since k at × (now.slot at.table at.probe.i ≡ Empty)
  ReliesProbed loaded (seen.Here at word) = (p : P) × (loaded.last ≡ Some p) × (h : HasMet g c begun since k at word p) × (g.same k (g.key p) ≡ true)
      × ((h.was ≡ Live p) ⊎ (h.was ≡ Marked p))
  ReliesProbed loaded (seen.Over t) = HasComeTo g c begun since k t × IsPassed g.places (look g now k) t

  -- a search begins at a table's first place
  pub first : (t limit hash : ℕ) → HasComeTo g c begun since k t → limit + 1 ≡ g.places t → hash ≡ c.hash k
      → IsAt g c begun since k (first_place hash t (g.size t) limit)
  first t limit hash come most same = record {
    come = come;
    len = refl;
    limit = most;
    slot = ap (λ h. place h (g.size t) 0) same ∙ sym (hashed.places k t 0);
    within = hashed.lawful.some_place t;
    before = λ i lt. absurd (omega arith);
  }

  module _ (at : Place) (r : IsAt g c begun since k at) where
    -- a search of the key sees at the place the word that is there
    pub sees : (w : Word P) → now.slot at.table at.probe.i ≡ w → look g now k at.table at.probe.len ≡ view g k w
    sees w e = ap (view g k) (ap (now.slot at.table) (sym r.slot) ∙ e)

    module _ (past : beyond (look g now k at.table at.probe.len) ≡ true) where
      -- so this place and those before are passed
      passed : (i : ℕ) → i < at.probe.len + 1 → beyond (look g now k at.table i) ≡ true
      passed i l =
          ⊎_elim
          (λ (lt : i < at.probe.len). r.before i lt)
          (λ (le : at.probe.len ≤ i). let q : at.probe.len ≡ i = omega arith in subst (λ y. beyond (look g now k at.table y) ≡ true) q past)
          (cases_lt i at.probe.len)

      -- the next place is further by its number
      next_slot : (at.probe.i + at.probe.len + 1) % at.len ≡ g.place k at.table (at.probe.len + 1)
      next_slot =
          ap (λ y. (y + at.probe.len + 1) % at.len) (r.slot ∙ hashed.places k at.table at.probe.len)
          ∙ ap (λ y. (place (c.hash k) (g.size at.table) at.probe.len + at.probe.len + 1) % y) r.len
          ∙ place-next (c.hash k) (g.size at.table) at.probe.len
          ∙ sym (hashed.places k at.table (at.probe.len + 1))

      -- the search is at that place
      next : at.probe.len < at.limit → IsAt g c begun since k (next_place at)
      next lt = record {
        come = r.come;
        len = r.len;
        limit = r.limit;
        slot = next_slot;
        within = let e = r.limit in omega arith;
        before = passed;
      }

      -- or the table is passed
      over : at.limit ≤ at.probe.len → IsPassed g.places (look g now k) at.table
      over le = inr (λ j lt. passed j (let e = r.limit in omega arith))

      -- the search continues
      pub goes_on : (loaded : LoadedPairs P) → ReliesProbed loaded (go_on at)
      goes_on loaded =
          cond_both (nat_lt at.probe.len at.limit) (seen.On (Looking (next_place at))) (seen.Over at.table) (ReliesProbed loaded)
          (λ less. next (ltb-true at.probe.len at.limit less))
          (λ more. (r.come, over (ltb-false at.probe.len at.limit more)))
