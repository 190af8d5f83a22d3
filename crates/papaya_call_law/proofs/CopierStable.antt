-- The facts that a copier relies on stay true, whatever is exchanged.
use Rattle.std.proofs.Common.{◌≡◌, ◌⊎◌, inl, inr, ⊎_elim, ℕ, Option, subst}
use Rattle.papaya_words.specs.Word.{hint_of}
use Rattle.papaya_words_law.specs.Class.{IsOn}
use Rattle.papaya_words_law.specs.Code.{Coding, IsHashed}
use Rattle.papaya_words_law.specs.Copying.{IsLinking, IsPutting}
use Rattle.papaya_words_law.specs.Exchange.{Marked, Copied, Setting, State}
use Rattle.papaya_words_law.specs.Later.{Becomes, IsLater, IsLasting}
use Rattle.papaya_call.specs.declared.copy.copying.Aim.{Aim}
use Rattle.papaya_call.specs.declared.copy.copying.Aim.TheVariants as aims
use Rattle.papaya_call.specs.declared.copy.copying.Copying.{Copying}
use Rattle.papaya_call.specs.declared.copy.copying.Copying.TheVariants as copyings
use Rattle.papaya_call.specs.Link.{follows}
use Rattle.papaya_call.specs.Step.{slot_of}
use Rattle.papaya_call_law.specs.Copier.{HasCompared, HasPlaced, IsAimed, IsChunk, IsCursor, IsFor}
use Rattle.papaya_call_law.specs.Copier.{IsMoving, IsSettledChunk, IsSource, ReliesAim, ReliesCarry}
use Rattle.papaya_call_law.specs.Copier.{ReliesCopying, ReliesLink, ReliesSettle, ReliesStep}
use Rattle.papaya_call.specs.declared.copy.carry.Carry.{Carry}
use Rattle.papaya_call.specs.declared.copy.carry.Carry.TheVariants as carries
use Rattle.papaya_call.specs.declared.copy.step.Chunk.{Chunk}
use Rattle.papaya_call.specs.declared.copy.step.Cursor.{Cursor}
use Rattle.papaya_call.specs.declared.copy.step.Step.{Step}
use Rattle.papaya_call.specs.declared.copy.step.Step.TheVariants as steps
use Rattle.papaya_call.specs.declared.copy.link.Link.{Link}
use Rattle.papaya_call.specs.declared.search.Place.{Place}
use Rattle.papaya_call.specs.declared.copy.settle.Settle.{Settle}
use Rattle.papaya_call.specs.declared.copy.settle.Settle.TheVariants as settles
use Rattle.papaya_call.specs.declared.copy.settle.SlotToCopy.{SlotToCopy}
use Rattle.papaya_words_law.proofs.CopierFacts.{putting_lasts}
use Rattle.papaya_words_law.proofs.Hints.{hint_lasts}
use Rattle.papaya_words_law.proofs.Later.{lasts, becomes_through}

module _ {K P : Type 0} (g : Setting K P) (c : Coding K P) (hashed : IsHashed g c) (s s' : State P) (zero_next : s.next 0 ≡ 0)
    (later : IsLater g s s') (on : (t : ℕ) → IsOn s.first s.next t → IsOn s'.first s'.next t) (last kept : Option P) where
  -- each fact lasts
  all : IsLasting g s s'
  all = lasts g hashed.lawful s s' zero_next later

  stood_stable : (t x : ℕ) (p : P) → (s.slot t x ≡ Marked p) ⊎ (s.slot t x ≡ Copied p) → (s'.slot t x ≡ Marked p) ⊎ (s'.slot t x ≡ Copied p)
  stood_stable t x p (inl e) = subst (λ w. Becomes g w (s'.slot t x)) e (later.words t x)
  stood_stable t x p (inr e) = inr (subst (λ w. Becomes g w (s'.slot t x)) e (later.words t x))

  putting : (t x : ℕ) (p : P) (n j : ℕ) → IsPutting g s t x p n j → IsPutting g s' t x p n j
  putting = putting_lasts g hashed.lawful s s' zero_next later

  linking_stable : (from t : ℕ) → IsLinking g s from t → IsLinking g s' from t
  linking_stable from t (inl h) = inl (h.0, λ b. later.was t (h.1 b))
  linking_stable from t (inr h) = inr (h.0, later.was from h.1, all.target from t h.2, later.aborted t h.3)

  pub link_stable : (link : Link) → ReliesLink g c s link → ReliesLink g c s' link
  link_stable link r = record {
    on = on (follows link) r.on;
    rises = r.rises;
    from = r.from;
    linking = linking_stable r.from (follows link) r.linking;
    measures = r.measures;
  }

  pub source_stable : (from n : ℕ) → IsSource g c s from n → IsSource g c s' from n
  source_stable from n r = record { was = later.was from r.was; target = all.target from n r.target }

  pub aimed_stable : (from behind : ℕ) → IsAimed g c s from behind → IsAimed g c s' from behind
  aimed_stable from behind r = record {
    was = later.was from r.was;
    given_up = ⊎_elim (λ e. inl e) (λ h. inr (h.0, all.target from behind h.1, later.aborted behind h.2)) r.given_up;
  }

  pub cursor_stable : (cursor : Cursor) → IsCursor g c s cursor → IsCursor g c s' cursor
  cursor_stable cursor r = record {
    source = source_stable cursor.from cursor.to r.source;
    len = r.len;
    some = r.some;
    cut = r.cut;
    begun = r.begun;
    within = r.within;
    done = λ x lt passed. later.done cursor.to (g.chunk_of x) (r.done x lt passed);
  }

  pub chunk_stable : (chunk : Chunk) → IsChunk g c s chunk → IsChunk g c s' chunk
  chunk_stable chunk r = record {
    cursor = cursor_stable chunk.cursor r.cursor;
    at = r.at;
    within = r.within;
    whole = r.whole;
    settled = λ x lt is. all.settled chunk.cursor.to chunk.cursor.from x (r.settled x lt is);
  }

  pub settled_stable : (cursor : Cursor) → IsSettledChunk g c s cursor → IsSettledChunk g c s' cursor
  settled_stable cursor r = record {
    chunk_read = cursor_stable cursor r.chunk_read;
    settled = λ x lt is.
        all.settled cursor.to cursor.from x (r.settled x lt is);
  }

  compared_stable : (at : Place) (word : ℕ) → HasCompared g c s last kept at word → HasCompared g c s' last kept at word
  compared_stable at word r = record {
    pair = r.pair;
    told = r.told;
    was = r.was;
    as_loaded = r.as_loaded;
    names = r.names;
    became = becomes_through g hashed.lawful r.was (s.slot at.table at.probe.i) (s'.slot at.table at.probe.i) r.became (later.words at.table at.probe.i);
  }

  for_stable : (p : P) (hash : ℕ) (at : Place) → IsFor g c s p hash at → IsFor g c s' p hash at
  for_stable p hash at f = record { hashed = f.hashed; len = f.len; limit = f.limit; slot = f.slot; within = f.within }

  -- it is where it was put, and its hint is its own
  placed_stable : (slot : SlotToCopy) (p : P) (hash : ℕ) (at : Place) → HasPlaced g c s slot p hash at → HasPlaced g c s' slot p hash at
  placed_stable slot p hash at r = record {
    fits = for_stable p hash at r.fits;
    stood = stood_stable slot.from slot.index p r.stood;
    taker = all.taker (g.key p) slot.from at.table r.taker;
    has = all.has (g.key p) at.table r.has;
    hint = hint_lasts g c hashed.coding s s' later at.table at.probe.i (hint_of (c.hash (g.key p))) r.hint;
  }

  pub carry_stable : (slot : SlotToCopy) (p : P) (carry : Carry) → ReliesCarry g c s last kept slot p carry → ReliesCarry g c s' last kept slot p carry
  carry_stable slot p (carries.Hashing table) r = (r.0, putting slot.from slot.index p table 0 r.1)
  carry_stable slot p (carries.Sizing hash table) r = (r.0, r.1, putting slot.from slot.index p table 0 r.2)
  carry_stable slot p (carries.Looking hash at) r = (r.0, for_stable p hash at r.1, putting slot.from slot.index p at.table at.probe.len r.2)
  carry_stable slot p (carries.Reading hash at) r = (r.0, for_stable p hash at r.1, putting slot.from slot.index p at.table at.probe.len r.2)
  carry_stable slot p (carries.Comparing hash at word)
      r = (r.0, for_stable p hash at r.1, putting slot.from slot.index p at.table at.probe.len r.2, compared_stable at word r.3)
  carry_stable slot p (carries.Placing hash at) r = (r.0, for_stable p hash at r.1, putting slot.from slot.index p at.table at.probe.len r.2)
  carry_stable slot p (carries.Placed hash at) r = (r.0, placed_stable slot p hash at r.1)
  carry_stable slot p (carries.Passing hash table) r = (r.0, r.1, r.2, putting slot.from slot.index p table (g.places table) r.3)
  carry_stable slot p (carries.Linking hash link)
      r = (r.0, r.1, r.2, putting slot.from slot.index p (follows link) (g.places (follows link)) r.3, link_stable link r.4)
  carry_stable slot p (carries.Aborting table) r = (r.0, r.1, putting slot.from slot.index p table (g.places table) r.2)

  pub settle_stable : (slot : SlotToCopy) (settle : Settle) → ReliesSettle g c s last kept slot settle → ReliesSettle g c s' last kept slot settle
  settle_stable slot settles.Looking r = tt
  settle_stable slot settles.Closing r = tt
  settle_stable slot settles.Shutting r = subst (λ w. Becomes g w (s'.slot slot.from slot.index)) r (later.words slot.from slot.index)
  settle_stable slot (settles.Marking word) r = r
  settle_stable slot (settles.Carrying word carry)
      r = record { pair = r.pair; marked = r.marked; here = r.here; relies = carry_stable slot r.pair carry r.relies }
  settle_stable slot (settles.Finishing word) (mode, r) = (
    mode,
    record {
      pair = r.pair;
      table = r.table;
      marked = r.marked;
      stood = stood_stable slot.from slot.index r.pair r.stood;
      taker = all.taker (g.key r.pair) slot.from r.table r.taker;
      has = all.has (g.key r.pair) r.table r.has;
      here = r.here;
    },
  )

  pub moving_stable : (slot : SlotToCopy) → IsMoving g c s slot → IsMoving g c s' slot
  moving_stable slot r = record {
    mode = r.mode;
    on = on slot.from r.on;
    within = r.within;
    target = all.target slot.from slot.to r.target;
    pair = r.pair;
    stood = stood_stable slot.from slot.index r.pair r.stood;
  }

  -- for each step of the copy
  pub step_stable : (step : Step) → ReliesStep g c s last kept step → ReliesStep g c s' last kept step
  step_stable steps.AtRoot r = tt
  step_stable (steps.Aiming from behind) r = aimed_stable from behind r
  step_stable (steps.Linking from link) r = (r.0, aimed_stable from (follows link) r.1, link_stable link r.2)
  step_stable (steps.Judging from to) r = (r.0, source_stable from to r.1)
  step_stable (steps.Sizing from to) r = source_stable from to r
  step_stable (steps.AtChunk cursor) r = cursor_stable cursor r
  step_stable (steps.Settling chunk settle) r = (chunk_stable chunk r.0, settle_stable (slot_of chunk) settle r.1)
  step_stable (steps.Advancing cursor) r = settled_stable cursor r
  step_stable (steps.Promoting from to) r = (source_stable from to r.0, λ x lt. later.done to (g.chunk_of x) (r.1 x lt))

  pub aim_stable : (aim : Aim) → ReliesAim g c s last kept aim → ReliesAim g c s' last kept aim
  aim_stable (aims.Search table) r = tt
  aim_stable (aims.Settle slot) r = moving_stable slot r
  aim_stable aims.Chunk r = tt
  aim_stable (aims.All met) r = tt

  pub copying_stable : (copying : Copying) → ReliesCopying g c s last kept copying → ReliesCopying g c s' last kept copying
  copying_stable (copyings.Stepping aim step) r = (aim_stable aim r.0, step_stable step r.1)
  copying_stable (copyings.Lone slot settle) r = (moving_stable slot r.0, settle_stable slot settle r.1)
