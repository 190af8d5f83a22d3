-- The facts that a machine relies on stay true, whatever tables are made later.
use Rattle.std.proofs.Common.{◌≡◌, ◌⊎◌, inl, inr, ⊎_elim, ℕ, ◌<◌, Option, None, Some, List, ◌++◌, refl, sym, ap, ◌∙◌, subst}
use Rattle.papaya_words.specs.Word.{hint_of}
use Rattle.papaya_call.specs.declared.call.Task.{Task}
use Rattle.papaya_call.specs.declared.call.Task.TheVariants.{Get, Insert, RemoveIf, Compute}
use Rattle.papaya_call.specs.declared.search.Place.{Place}
use Rattle.papaya_call.specs.declared.machine.Machine.{Machine}
use Rattle.papaya_words_law.specs.Exchange.{Word, Empty, Closed, Live, Marked, Copied, Buried, Setting, Exchange, start}
use Rattle.papaya_words_law.specs.View.{Leaving as View_leaving, Gone, held, beyond, look, IsPassed}
use Rattle.papaya_words_law.specs.Class.{IsOn}
use Rattle.papaya_words_law.specs.Allows.{AllAllowed}
use Rattle.papaya_words_law.specs.Meaning.{map_left, map_of}
use Rattle.papaya_words_law.specs.Invariant.{IsSound}
use Rattle.papaya_words_law.specs.Code.{Coding, code}
use Rattle.papaya_words_law.specs.Later.{IsOfKey}
use Rattle.papaya_words_law.specs.Grows.{Agrees}
use Rattle.papaya_call_law.specs.TrueAnswers.{LoadedPairs}
use Rattle.papaya_words_law.specs.Code.{IsHashed}
use Rattle.papaya_call_law.specs.Relies.{now, HasComeTo, IsAt, HasMet, WasAtMoment, IsMovingFrom, ReliesNeed, ReliesLeaving, Relies, HasClaimed}
use Rattle.papaya_words_law.proofs.Carries.{look_agrees, view_agrees, passed_carries}
use Rattle.papaya_words_law.proofs.Grows.{becomes_carries, map_of_carries, reached_carries}
use Rattle.papaya_words_law.proofs.OneMap.{sound}
use Rattle.papaya_call_law.proofs.ReliesCarried.{relies_carried}
use Rattle.papaya_call_law.proofs.ReliesNames.{OnChain, come_on}
use Rattle.papaya_call.specs.declared.need.Need.{Need}
use Rattle.papaya_call.specs.declared.need.Need.TheVariants.{Room, Pair as Pair_at}
use Rattle.papaya_words_law.proofs.Hints.{hint_agrees}
use Rattle.papaya_call.specs.declared.write.Claimed.{Claimed}

module _ {K P : Type 0} (g g' : Setting K P) (c : Coding K P) (h : IsHashed g c) (begun since : List (Exchange P))
    (may : AllAllowed g start (begun ++ since)) (k : K)
    (agrees : Agrees (IsOn (now g c begun since k).first (now g c begun since k).next) g g') where
  -- the words are sound
  kept : IsSound g (now g c begun since k)
  kept = sound g h.lawful (begun ++ since) may

  -- the key's search sees the same
  sees_same : look g' (now g c begun since k) k ≡ look g (now g c begun since k) k
  sees_same = look_agrees g g' (now g c begun since k) kept agrees k

  -- each list leaves the same map
  map_same : (m : K → Option P) (es : List (Exchange P)) → map_of g' m es ≡ map_of g m es
  map_same m es = map_of_carries g g' (IsOn (now g c begun since k).first (now g c begun since k).next) agrees es m

  -- a value that the map had at some point, it had at that point in the further setting
  moment_carries : (value : Option P) → WasAtMoment g c begun since k value → WasAtMoment g' c begun since k value
  moment_carries value m = record {
    so_far = m.so_far;
    rest = m.rest;
    is = m.is;
    value_is = ap (λ f. map_of g' f m.so_far k) (map_same (λ k. None) begun) ∙ (ap (λ f. f k) (map_same (map_left g begun) m.so_far) ∙ m.value_is);
  }

  -- the search came to the table
  come_carries : (t : ℕ) → HasComeTo g c begun since k t → HasComeTo g' c begun since k t
  come_carries t r = record {
    some = r.some;
    is = ⊎_elim (λ h. inl (agrees.blocking ∙ h.0, reached_carries g g' (now g c begun since k) kept agrees k t h.1))
        (λ h. inr (agrees.blocking ∙ h.0, h.1)) r.is;
  }

  -- it is at the place
  at_carries : (at : Place) → IsAt g c begun since k at → IsAt g' c begun since k at
  at_carries at r =
      let on : OnChain g c h begun since may k at.table = come_on g c h begun since may k at.table r.come in
      record {
        come = come_carries at.table r.come;
        len = r.len ∙ sym (agrees.size at.table on);
        limit = r.limit ∙ sym (agrees.places at.table on);
        slot = r.slot ∙ sym (agrees.place k at.table at.probe.len on);
        within = subst (λ y. at.probe.len < y) (sym (agrees.places at.table on)) r.within;
        before = λ i lt. ap (λ V. beyond (V at.table i)) sees_same ∙ r.before i lt;
      }

  -- the number of a word
  code_same : (w : Word P) → code g' c w ≡ code g c w
  code_same Empty = refl
  code_same Closed = refl
  code_same (Live p) = refl
  code_same (Marked p) = refl
  code_same (Copied p) = refl
  code_same (Buried p) = refl

  -- it met the pair
  met_carries : (at : Place) (word : ℕ) (p : P) → HasMet g c begun since k at word p → HasMet g' c begun since k at word p
  met_carries at word p r = record {
    stands = at_carries at r.stands;
    was = r.was;
    as_loaded = r.as_loaded ∙ sym (code_same r.was);
    names = r.names;
    undeleted = r.undeleted;
    stood = r.stood;
    became = becomes_carries g g' (IsOn (now g c begun since k).first (now g c begun since k).next) agrees r.was
        ((now g c begun since k).slot at.table at.probe.i) r.became;
    had = λ e. moment_carries (Some p) (r.had (ap held (sym (view_agrees g g' (now g c begun since k) kept agrees k r.was)) ∙ e));
  }

  -- the key in a slot
  of_key_carries : (t x : ℕ) (key : K) → IsOfKey g ((now g c begun since k).slot t x) key → IsOfKey g' ((now g c begun since k).slot t x) key
  of_key_carries t x key r = (r.0, r.1, agrees.key r.0 ∙ r.2)

  -- a passed table of the chain
  table_passed : (t : ℕ) → HasComeTo g c begun since k t → IsPassed g.places (look g (now g c begun since k) k) t
      → IsPassed g'.places (look g' (now g c begun since k) k) t
  table_passed t r pass = passed_carries g g' (now g c begun since k) kept agrees (look g (now g c begun since k) k)
      (look g' (now g c begun since k) k) sees_same t (come_on g c h begun since may k t r) pass

  -- a table from which the pair is copied
  moving_carries : (t x : ℕ) → HasComeTo g c begun since k t → IsMovingFrom g c begun since k t x → IsMovingFrom g' c begun since k t x
  moving_carries t x r (j, p, lt, here, e) = (
    j,
    p,
    subst (λ y. j < y) (sym (agrees.places t (come_on g c h begun since may k t r))) lt,
    agrees.place k t j (come_on g c h begun since may k t r) ∙ here,
    subst (λ V. (V t j ≡ View_leaving p) ⊎ (V t j ≡ Gone p)) (sym sees_same) e,
  )

  -- the table that a call leaves
  leaving_carries : (task : Task) (t : ℕ) → ReliesLeaving g c begun since k task t → ReliesLeaving g' c begun since k task t
  leaving_carries Get t r = (agrees.blocking ∙ r.0, come_carries t r.1, table_passed t r.1 r.2)
  leaving_carries RemoveIf t r = (agrees.blocking ∙ r.0, come_carries t r.1, table_passed t r.1 r.2)
  leaving_carries Compute t r = (agrees.blocking ∙ r.0, come_carries t r.1, table_passed t r.1 r.2)
  leaving_carries (Insert replace) t r = absurd r

  -- the table that a call leaves if it needs a next one
  need_carries : (need : Need) → ReliesNeed g c begun since k need → ReliesNeed g' c begun since k need
  need_carries (Room t) r = (come_carries t r.0, table_passed t r.0 r.1)
  need_carries (Pair_at t x) r = (come_carries t r.0, moving_carries t x r.0 r.1)

  -- a claimed pair
  claimed_carries : (loaded : LoadedPairs P) (claimed : Claimed) → HasClaimed g c begun since k loaded claimed → HasClaimed g' c begun since k loaded claimed
  claimed_carries loaded claimed r = record {
    pair = (r.pair.0, r.pair.1, r.pair.2, agrees.key r.pair.0 ∙ r.pair.3);
    stands = at_carries claimed.place r.stands;
    hint = hint_agrees g g' c agrees.key ((now g c begun since k).slot claimed.place.table claimed.place.probe.i) (hint_of (c.hash k)) r.hint;
  }

  -- the machine relies on the same facts
  pub relies_carries : (m : Machine) (loaded : LoadedPairs P) → Relies g c begun since k m loaded → Relies g' c begun since k m loaded
  relies_carries m loaded r =
      relies_carried g g' c begun since since k loaded
      (record {
        mode = agrees.blocking;
        most = agrees.most;
        key = agrees.key;
        same = agrees.same;
        moment = moment_carries;
        come = come_carries;
        stands = at_carries;
        met = met_carries;
        of_key = of_key_carries;
        passed = table_passed;
        leaving = leaving_carries;
        need = need_carries;
        claimed = claimed_carries loaded;
      })
      m r
