-- The facts that a machine relies on stay true, whatever others exchange.
use Rattle.std.proofs.Common.{◌≡◌, inl, inr, ⊎_elim, ℕ, Option, Some, List, ◌++◌, append_assoc, refl, sym, ap, ◌∙◌, subst}
use Rattle.papaya_call.specs.declared.call.Task.{Task}
use Rattle.papaya_call.specs.declared.call.Task.TheVariants.{Get, Insert, RemoveIf, Compute}
use Rattle.papaya_call.specs.declared.search.Place.{Place}
use Rattle.papaya_call.specs.declared.machine.Machine.{Machine}
use Rattle.papaya_words_law.specs.Exchange.{Setting, Exchange, run, start}
use Rattle.papaya_words_law.specs.View.{look}
use Rattle.papaya_words_law.specs.Allows.{AllAllowed}
use Rattle.papaya_words_law.specs.Later.{IsLater, IsLasting}
use Rattle.papaya_words_law.specs.Code.{Coding}
use Rattle.papaya_call_law.specs.TrueAnswers.{LoadedPairs}
use Rattle.papaya_words_law.specs.Code.{IsHashed}
use Rattle.papaya_call_law.specs.Relies.{now, HasComeTo, IsAt, HasMet, WasAtMoment, IsMovingFrom, ReliesNeed, ReliesLeaving, Relies, HasClaimed}
use Rattle.papaya_words_law.proofs.Later.{Sees, becomes_through, sees_later}
use Rattle.papaya_words_law.proofs.Kept.{key_stable}
use Rattle.papaya_words_law.proofs.OneMap.{lasting, later}
use Rattle.papaya_call_law.proofs.ReliesCarried.{relies_carried}
use Rattle.papaya_call.specs.declared.need.Need.{Need}
use Rattle.papaya_call.specs.declared.need.Need.TheVariants.{Room, Pair as Pair_at}
use Rattle.papaya_words.specs.Word.{hint_of}
use Rattle.papaya_words_law.proofs.Hints.{hint_lasts}
use Rattle.papaya_call.specs.declared.write.Claimed.{Claimed}

module _ {K P : Type 0} (g : Setting K P) (c : Coding K P) (h : IsHashed g c) (begun since es : List (Exchange P))
    (may : AllAllowed g start (begun ++ (since ++ es))) (k : K) where
  -- the exchanges in two lists, the earlier ones and those since then
  split : (begun ++ since) ++ es ≡ begun ++ (since ++ es)
  split = append_assoc begun since es

  -- they're allowed
  may_split : AllAllowed g start ((begun ++ since) ++ es)
  may_split = subst (AllAllowed g start) (sym split) may

  -- the state after both
  reaches : run ((begun ++ since) ++ es) start ≡ now g c begun (since ++ es) k
  reaches = ap (λ l. run l start) split

  -- it is later than the earlier one
  pub state_later : IsLater g (now g c begun since k) (now g c begun (since ++ es) k)
  state_later = subst (IsLater g (now g c begun since k)) reaches (later g h.lawful (begun ++ since) es may_split)

  -- so each fact that a caller relies on stays true
  state_lasts : IsLasting g (now g c begun since k) (now g c begun (since ++ es) k)
  state_lasts = subst (IsLasting g (now g c begun since k)) reaches (lasting g h.lawful (begun ++ since) es may_split)

  -- the word that the key's search sees at a place may have changed as a word may
  sees_next : (t j : ℕ) → Sees (look g (now g c begun since k) k t j) (look g (now g c begun (since ++ es) k) k t j)
  sees_next t j = let x : ℕ = g.place k t j in
      sees_later g h.lawful k ((now g c begun since k).slot t x) ((now g c begun (since ++ es) k).slot t x) (state_later.words t x)

  -- a state during the call is followed by the new exchanges too
  more_behind : (so_far rest : List (Exchange P)) → so_far ++ rest ≡ since → so_far ++ (rest ++ es) ≡ since ++ es
  more_behind so_far rest is = sym (append_assoc so_far rest es) ∙ ap (λ l. l ++ es) is

  -- a value that the map had at some point of the call, it had at some point for good
  moment_stable : (value : Option P) → WasAtMoment g c begun since k value → WasAtMoment g c begun (since ++ es) k value
  moment_stable value m = record { so_far = m.so_far; rest = m.rest ++ es; is = more_behind m.so_far m.rest m.is; value_is = m.value_is }

  -- the search came to the table
  come_stable : (t : ℕ) → HasComeTo g c begun since k t → HasComeTo g c begun (since ++ es) k t
  come_stable t r = record {
    some = r.some;
    is = ⊎_elim
        (λ h. inl (h.0, state_lasts.reached k t h.1))
        (λ h. let m = h.1 in inr (h.0, (m.0, m.1 ++ es, more_behind m.0 m.1 m.2, m.3)))
        r.is;
  }

  -- it is at the place
  pub at_stable : (at : Place) → IsAt g c begun since k at → IsAt g c begun (since ++ es) k at
  at_stable at r = record {
    come = come_stable at.table r.come;
    len = r.len;
    limit = r.limit;
    slot = r.slot;
    within = r.within;
    before = λ i lt. state_lasts.beyond_at k at.table i (r.before i lt);
  }

  -- it met the pair
  met_stable : (at : Place) (word : ℕ) (p : P) → HasMet g c begun since k at word p → HasMet g c begun (since ++ es) k at word p
  met_stable at word p r = record {
    stands = at_stable at r.stands;
    was = r.was;
    as_loaded = r.as_loaded;
    names = r.names;
    undeleted = r.undeleted;
    stood = let m = r.stood in (m.0, ((m.1).0 ++ es, more_behind m.0 (m.1).0 (m.1).1, (m.1).2));
    became = becomes_through g h.lawful r.was ((now g c begun since k).slot at.table at.probe.i)
        ((now g c begun (since ++ es) k).slot at.table at.probe.i) r.became (state_later.words at.table at.probe.i);
    had = λ e. moment_stable (Some p) (r.had e);
  }

  -- a pair that was being copied still is, or it is copied
  moving_stable : (t x : ℕ) → IsMovingFrom g c begun since k t x → IsMovingFrom g c begun (since ++ es) k t x
  moving_stable t x (j, p, lt, here, inl e) = (j, p, lt, here, subst (λ v. Sees v (look g (now g c begun (since ++ es) k) k t j)) e (sees_next t j))
  moving_stable t x (j, p, lt, here, inr e) = (j, p, lt, here, inr (subst (λ v. Sees v (look g (now g c begun (since ++ es) k) k t j)) e (sees_next t j)))

  -- the table that a call leaves
  leaving_stable : (task : Task) (t : ℕ) → ReliesLeaving g c begun since k task t → ReliesLeaving g c begun (since ++ es) k task t
  leaving_stable Get t r = (r.0, come_stable t r.1, state_lasts.passed k t r.2)
  leaving_stable (Insert replace) t r = r
  leaving_stable RemoveIf t r = (r.0, come_stable t r.1, state_lasts.passed k t r.2)
  leaving_stable Compute t r = (r.0, come_stable t r.1, state_lasts.passed k t r.2)

  -- the table or slot for which it needs a next table
  need_stable : (need : Need) → ReliesNeed g c begun since k need → ReliesNeed g c begun (since ++ es) k need
  need_stable (Room t) r = (come_stable t r.0, state_lasts.passed k t r.1)
  need_stable (Pair_at t x) r = (come_stable t r.0, moving_stable t x r.1)

  -- a claimed pair, or a word that came from it, is there, and its hint is its own
  claimed_stable : (loaded : LoadedPairs P) (claimed : Claimed) → HasClaimed g c begun since k loaded claimed
      → HasClaimed g c begun (since ++ es) k loaded claimed
  claimed_stable loaded claimed r = record {
    pair = r.pair;
    stands = at_stable claimed.place r.stands;
    hint = hint_lasts g c h.coding (now g c begun since k) (now g c begun (since ++ es) k) state_later claimed.place.table claimed.place.probe.i
        (hint_of (c.hash k)) r.hint;
  }

  -- the machine relies on the same facts
  pub relies_stable : (m : Machine) (loaded : LoadedPairs P) → Relies g c begun since k m loaded → Relies g c begun (since ++ es) k m loaded
  relies_stable m loaded r =
      relies_carried g g c begun since (since ++ es) k loaded
      (record {
        mode = refl;
        most = refl;
        key = λ p. refl;
        same = λ l l'.
            refl;
        moment = moment_stable;
        come = come_stable;
        stands = at_stable;
        met = met_stable;
        of_key = λ t x key r.
            key_stable g (now g c begun since k) (now g c begun (since ++ es) k) state_later t x key r;
        passed = λ t r.
            state_lasts.passed k t;
        leaving = leaving_stable;
        need = need_stable;
        claimed = claimed_stable loaded;
      })
      m r
