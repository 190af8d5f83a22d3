-- A machine names only tables of the chain, and slots within them.
use Rattle.std.proofs.Common.{◌≡◌, ◌⊎◌, inl, inr, ⊎_elim, ℕ, ◌<◌, List, ◌++◌, append_assoc, sym, ap, ◌∙◌, subst}
use Rattle.papaya_call.specs.declared.ask.At.TheVariants.{Next, Slot}
use Rattle.papaya_call.specs.declared.ask.Ask.{Ask}
use Rattle.papaya_call.specs.declared.ask.Ask.TheVariants.{Load, Exchange as Ask_exchange, LoadHint, WriteHint, SizeOf}
use Rattle.papaya_call.specs.declared.call.Task.{Task}
use Rattle.papaya_call.specs.declared.call.Task.TheVariants.{Get, Insert, RemoveIf, Compute}
use Rattle.papaya_call.specs.declared.search.Place.{Place}
use Rattle.papaya_call.specs.declared.search.Search.TheVariants.{Sizing, Looking, Reading, Comparing}
use Rattle.papaya_call.specs.declared.made.Made.{Made}
use Rattle.papaya_call.specs.Compute.{in_place_of}
use Rattle.papaya_call_law.proofs.Makings.{HoldsOfPairAsks, pair_holds, write_holds}
use Rattle.papaya_call.specs.declared.write.Write.{Write}
use Rattle.papaya_call.specs.declared.machine.State.{State as Stage}
use Rattle.papaya_call.specs.declared.machine.State.TheVariants.{AtRoot, Making, Opening, Searching}
use Rattle.papaya_call.specs.declared.machine.State.TheVariants.{Writing, Offering, Showing}
use Rattle.papaya_call.specs.declared.machine.State.TheVariants.{Pairing, Putting, Burying}
use Rattle.papaya_call.specs.declared.machine.State.TheVariants.{Counting, Noting, Uncounting}
use Rattle.papaya_call.specs.declared.machine.State.TheVariants.{Leaving, Growing, Ended}
use Rattle.papaya_words_law.specs.Exchange.{Setting, Exchange, run, start}
use Rattle.papaya_words_law.specs.View.{IsReached}
use Rattle.papaya_words_law.specs.Class.{IsOn}
use Rattle.papaya_words_law.specs.Allows.{AllAllowed}
use Rattle.papaya_words_law.specs.Code.{Coding}
use Rattle.papaya_call.specs.Machine.{asks}
use Rattle.papaya_call_law.specs.TrueAnswers.{LoadedPairs}
use Rattle.papaya_words_law.specs.Code.{IsHashed}
use Rattle.papaya_call_law.specs.Relies.{now, HasComeTo, IsAt, ReliesNeed, ReliesWriting, ReliesLeaving, ReliesStage}
use Rattle.papaya_words_law.proofs.Chain.{walk_on}
use Rattle.papaya_words_law.proofs.Moments.{allowed_first}
use Rattle.papaya_words_law.proofs.OneMap.{lasting, root_is_reached, sound}
use Rattle.papaya_call.specs.declared.need.Need.{Need}
use Rattle.papaya_call.specs.declared.need.Need.TheVariants.{Room, Pair as Pair_at}
use Rattle.papaya_call.specs.Machine.{needed}

module _ {K P : Type 0} (g : Setting K P) (c : Coding K P) (h : IsHashed g c) (begun since : List (Exchange P))
    (may : AllAllowed g start (begun ++ since)) (k : K) where
  -- the table is opened or linked
  abbrev pub OnChain : ℕ → Type 0
  OnChain t = IsOn (now g c begun since k).first (now g c begun since k).next t

  -- a reached table is on the chain
  pub reached_on : (t : ℕ) → IsReached g (now g c begun since k) k t → OnChain t
  reached_on t r =
      let s = sound g h.lawful (begun ++ since) may in
      subst OnChain r.is (walk_on (now g c begun since k).next s.rises (now g c begun since k).first r.from r.links (s.was r.from r.was).0
      (subst (λ y. 0 < y) (sym r.is) r.made))

  -- a table to which a search has come is reached, in both modes
  pub come_reached : (t : ℕ) → HasComeTo g c begun since k t → IsReached g (now g c begun since k) k t
  come_reached t r = ⊎_elim (λ h. h.1) (λ h. let m = h.1 in was_root m.0 m.1 m.2 m.3) r.is
    where
      was_root : (es fs : List (Exchange P)) → es ++ fs ≡ since → (run (begun ++ es) start).root ≡ t → IsReached g (now g c begun since k) k t
      was_root es fs e root =
          let split : (begun ++ es) ++ fs ≡ begun ++ since = append_assoc begun es fs ∙ ap (λ l. begun ++ l) e in
          let may' : AllAllowed g start ((begun ++ es) ++ fs) = subst (AllAllowed g start) (sym split) may in
          let first : AllAllowed g start (begun ++ es) = allowed_first g (begun ++ es) fs start may' in
          let then' : IsReached g (run (begun ++ es) start) k t = subst (IsReached g (run (begun ++ es) start) k) root
          (root_is_reached g h.lawful (begun ++ es) first k (subst (λ y. 0 < y) (sym root) r.some)) in
          subst (λ l. IsReached g (run l start) k t) split ((lasting g h.lawful (begun ++ es) fs may').reached k t then')

  -- and so on the chain
  pub come_on : (t : ℕ) → HasComeTo g c begun since k t → OnChain t
  come_on t r = reached_on t (come_reached t r)

  -- a table that a call leaves is on the chain
  leaving_on : (task : Task) (t : ℕ) → ReliesLeaving g c begun since k task t → OnChain t
  leaving_on Get t r = come_on t r.1
  leaving_on (Insert replace) t r = absurd r
  leaving_on RemoveIf t r = come_on t r.1
  leaving_on Compute t r = come_on t r.1

  -- and so is one from which it is to grow
  growing_on : (need : Need) → ReliesNeed g c begun since k need → OnChain (needed need)
  growing_on (Room t) r = come_on t r.0
  growing_on (Pair_at t x) r = come_on t r.0

  -- the table is on the chain, and has the slot
  abbrev pub HasSlot : ℕ → ℕ → Type 0
  HasSlot t x = OnChain t × (x < g.size t)

  -- the table that an ask names is on the chain, and has the slot
  abbrev pub IsNamed : Ask → Type 0
  IsNamed (SizeOf t) = OnChain t
  IsNamed (Load (Next t)) = OnChain t
  IsNamed (Load (Slot t x)) = HasSlot t x
  IsNamed (Ask_exchange (Slot t x) old new) = HasSlot t x
  IsNamed (LoadHint t x) = HasSlot t x
  IsNamed (WriteHint t x hint) = HasSlot t x
  IsNamed _ = Unit {0}

  -- the asks for a pair name no table
  pair_named : HoldsOfPairAsks IsNamed
  pair_named = record { loads = tt; takes = λ count. tt; key = tt; value = tt; pair = tt; pair_of = λ n. tt }

  -- the place of a search
  place_within : (at : Place) → IsAt g c begun since k at → HasSlot at.table at.probe.i
  place_within at r = (come_on at.table r.come, subst (λ y. y < g.size at.table) (sym r.slot) (h.lawful.within k at.table at.probe.len r.within))

  -- the place of a write
  write_within : (loaded : LoadedPairs P) (task : Task) (write : Write) → ReliesWriting g c begun since k loaded task write
      → HasSlot write.place.table write.place.probe.i
  write_within loaded Get write r = absurd r
  write_within loaded (Insert replace) write r = place_within write.place r.stands
  write_within loaded RemoveIf write r = absurd r
  write_within loaded Compute write r = absurd r

  module _ (loaded : LoadedPairs P) (task : Task) (hash : ℕ) where
    -- for each stage's ask
    pub ask_named : (made : Made) (stage : Stage) → ReliesStage g c begun since k loaded task stage → IsNamed (asks made hash stage)
    ask_named made AtRoot r = tt
    ask_named made Making r = tt
    ask_named made (Opening t) r = tt
    ask_named made (Searching (Sizing t)) r = come_on t r
    ask_named made (Searching (Looking at)) r = place_within at r
    ask_named made (Searching (Reading at)) r = place_within at r
    ask_named made (Searching (Comparing at word)) r = tt
    ask_named made (Writing write) r = write_holds IsNamed pair_named write (λ n. write_within loaded task write r) made
    ask_named made (Offering gap) r = tt
    ask_named made (Showing removal) r = tt
    ask_named made (Pairing purpose) r = pair_holds IsNamed pair_named made (in_place_of purpose)
    ask_named made (Putting put) r = place_within put.write.place (r.1).stands
    ask_named made (Burying removal) r = place_within removal.place (r.1).met.stands
    ask_named made (Counting n) r = tt
    ask_named made (Noting claimed) r = place_within claimed.place r.1.stands
    ask_named made (Uncounting n) r = tt
    ask_named made (Leaving t) r = leaving_on task t r
    ask_named made (Growing need) r = growing_on need r.1
    ask_named made (Ended reply) r = tt

  -- a slot that is loaded or exchanged
  pub slot_named : (ask : Ask) → IsNamed ask → (t x : ℕ) → (ask ≡ Load (Slot t x)) ⊎ ((old : ℕ) × (new : ℕ) × (ask ≡ Ask_exchange (Slot t x) old new))
      → HasSlot t x
  slot_named ask r t x (inl e) = subst IsNamed e r
  slot_named ask r t x (inr (old, new, e)) = subst IsNamed e r

  -- one whose hint is loaded or written
  pub hint_named : (ask : Ask) → IsNamed ask → (t x : ℕ) → (ask ≡ LoadHint t x) ⊎ ((hint : ℕ) × (ask ≡ WriteHint t x hint)) → HasSlot t x
  hint_named ask r t x (inl e) = subst IsNamed e r
  hint_named ask r t x (inr (hint, e)) = subst IsNamed e r
