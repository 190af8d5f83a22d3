-- The facts that a copier relies on stay true, whatever tables are made later.
use Rattle.std.proofs.Common.{◌≡◌, inl, inr, ⊎_elim, ℕ, ◌<◌, true, Option, refl, sym, ap, ◌∙◌, subst}
use Rattle.papaya_words.specs.Word.{hint_of}
use Rattle.papaya_words_law.specs.Class.{IsOn}
use Rattle.papaya_words_law.specs.Code.{Coding, code}
use Rattle.papaya_words_law.specs.Copying.{IsPutting, IsSettled}
use Rattle.papaya_words_law.specs.Exchange.{Word, Empty, Closed, Live, Marked, Copied, Buried, Setting, State}
use Rattle.papaya_words_law.specs.Grows.{Agrees}
use Rattle.papaya_words_law.specs.Hints.{IsHint}
use Rattle.papaya_words_law.specs.Invariant.{IsSound}
use Rattle.papaya_words_law.specs.View.{look, foreign}
use Rattle.papaya_call.specs.declared.copy.copying.Aim.{Aim}
use Rattle.papaya_call.specs.declared.copy.copying.Aim.TheVariants as aims
use Rattle.papaya_call.specs.declared.copy.copying.Copying.{Copying}
use Rattle.papaya_call.specs.declared.copy.copying.Copying.TheVariants as copyings
use Rattle.papaya_call.specs.Link.{follows}
use Rattle.papaya_call.specs.Step.{slot_of}
use Rattle.papaya_call_law.specs.Copier.{HasCompared, HasPlaced, IsAimed, IsChunk, IsCursor}
use Rattle.papaya_call_law.specs.Copier.{IsCutInto, IsFor, IsMoving, IsPassedBy, IsSettledChunk}
use Rattle.papaya_call_law.specs.Copier.{IsSource, Measures, ReliesAim, ReliesCarry, ReliesCopying}
use Rattle.papaya_call_law.specs.Copier.{ReliesLink, ReliesSettle, ReliesStep}
use Rattle.papaya_call.specs.declared.copy.carry.Carry.{Carry}
use Rattle.papaya_call.specs.declared.copy.carry.Carry.TheVariants as carries
use Rattle.papaya_call.specs.declared.copy.step.Chunk.{Chunk}
use Rattle.papaya_call.specs.declared.copy.step.Cursor.{Cursor}
use Rattle.papaya_call.specs.declared.copy.step.Step.{Step}
use Rattle.papaya_call.specs.declared.copy.step.Step.TheVariants as steps
use Rattle.papaya_call.specs.declared.copy.link.Link.{Link}
use Rattle.papaya_call.specs.declared.copy.link.Link.TheVariants as links
use Rattle.papaya_call.specs.declared.search.Place.{Place}
use Rattle.papaya_call.specs.declared.copy.settle.Settle.{Settle}
use Rattle.papaya_call.specs.declared.copy.settle.Settle.TheVariants as settles
use Rattle.papaya_call.specs.declared.copy.settle.SlotToCopy.{SlotToCopy}
use Rattle.papaya_words_law.proofs.Base.{linking_on}
use Rattle.papaya_words_law.proofs.Carries.{has_carries, look_pair, settled_carries}
use Rattle.papaya_words_law.proofs.CopierFacts.{taker_on, target_on}
use Rattle.papaya_words_law.proofs.Hints.{hint_agrees}
use Rattle.papaya_words_law.proofs.Grows.{becomes_carries, linking_carries, taker_carries, target_carries}

module _ {K P : Type 0} (g g' : Setting K P) (c : Coding K P) (s : State P) (sound : IsSound g s) (agrees : Agrees (IsOn s.first s.next) g g')
    (last kept : Option P) where
  -- the number of a word
  code_same : (w : Word P) → code g' c w ≡ code g c w
  code_same Empty = refl
  code_same Closed = refl
  code_same (Live p) = refl
  code_same (Marked p) = refl
  code_same (Copied p) = refl
  code_same (Buried p) = refl

  -- the hash of a pair's key
  hash_same : (p : P) (hash : ℕ) → hash ≡ c.hash (g.key p) → hash ≡ c.hash (g'.key p)
  hash_same p hash e = e ∙ ap c.hash (sym (agrees.key p))

  cut_carries : (from chunks : ℕ) → IsOn s.first s.next from → IsCutInto g from chunks → IsCutInto g' from chunks
  cut_carries from chunks on h x lt = subst (λ y. y < chunks) (sym (agrees.chunk_of x)) (h x (subst (λ y. x < y) (agrees.size from on) lt))

  -- the facts about the table that is copied to the next one
  measures_carry : (from : ℕ) → IsOn s.first s.next from → (link : Link) → Measures g from link → Measures g' from link
  measures_carry from on (links.Sizing after copied unfit) h = h
  measures_carry from on (links.Measuring after copied unfit len) h = h
  measures_carry from on (links.Counting after unfit len copied) h = h ∙ sym (agrees.size from on)
  measures_carry from on (links.Making after len limit chunks) h = cut_carries from chunks on h
  measures_carry from on (links.Linking after table chunks) h = cut_carries from chunks on h

  pub link_carries : (link : Link) → ReliesLink g c s link → ReliesLink g' c s link
  link_carries link r = record {
    on = r.on;
    rises = r.rises;
    from = r.from;
    linking = linking_carries g g' s sound agrees r.from (follows link) r.linking;
    measures = measures_carry r.from (linking_on g s sound r.from (follows link) r.on r.linking) link r.measures;
  }

  source_carries : (from n : ℕ) → IsSource g c s from n → IsSource g' c s from n
  source_carries from n r = record { was = r.was; target = target_carries g g' s sound agrees from n r.target }

  aimed_carries : (from behind : ℕ) → IsAimed g c s from behind → IsAimed g' c s from behind
  aimed_carries from behind r = record {
    was = r.was;
    given_up = ⊎_elim (λ e. inl e) (λ h. inr (agrees.blocking ∙ h.0, target_carries g g' s sound agrees from behind h.1, h.2)) r.given_up;
  }

  -- a table that was the root is on the chain
  root_on : (t : ℕ) → s.was_root t ≡ true → IsOn s.first s.next t
  root_on t was = (sound.was t was).0

  cursor_carries : (cursor : Cursor) → IsCursor g c s cursor → IsCursor g' c s cursor
  cursor_carries cursor r =
      let size = agrees.size cursor.from (root_on cursor.from r.source.was) in
      record {
        source = source_carries cursor.from cursor.to r.source;
        len = r.len ∙ sym size;
        some = r.some;
        cut = λ x. agrees.chunk_of x ∙ r.cut x;
        begun = r.begun;
        within = r.within;
        done = λ x lt passed. subst (λ y. s.done cursor.to y ≡ true) (sym (agrees.chunk_of x))
            (r.done x (subst (λ y. x < y) size lt) (subst (IsPassedBy cursor) (agrees.chunk_of x) passed));
      }

  settled_on : (cursor : Cursor) (x : ℕ) → IsSource g c s cursor.from cursor.to → IsSettled g s cursor.to (s.slot cursor.from x)
      → IsSettled g' s cursor.to (s.slot cursor.from x)
  settled_on cursor x source h = settled_carries g g' s sound agrees cursor.to
      (target_on g s sound.rises cursor.from cursor.to (root_on cursor.from source.was) source.target) (s.slot cursor.from x) h

  chunk_carries : (chunk : Chunk) → IsChunk g c s chunk → IsChunk g' c s chunk
  chunk_carries chunk r = record {
    cursor = cursor_carries chunk.cursor r.cursor;
    at = r.at;
    within = r.within;
    whole = λ x lt is. r.whole x lt (sym (agrees.chunk_of x) ∙ is);
    settled = λ x lt is. settled_on chunk.cursor x r.cursor.source (r.settled x lt (sym (agrees.chunk_of x) ∙ is));
  }

  settled_chunk_carries : (cursor : Cursor) → IsSettledChunk g c s cursor → IsSettledChunk g' c s cursor
  settled_chunk_carries cursor r = record {
    chunk_read = cursor_carries cursor r.chunk_read;
    settled = λ x lt is. settled_on cursor x r.chunk_read.source
        (r.settled x (subst (λ y. x < y) (agrees.size cursor.from (root_on cursor.from r.chunk_read.source.was)) lt) (sym (agrees.chunk_of x) ∙ is));
  }

  compared_carries : (at : Place) (word : ℕ) → HasCompared g c s last kept at word → HasCompared g' c s last kept at word
  compared_carries at word r = record {
    pair = r.pair;
    told = r.told;
    was = r.was;
    as_loaded = r.as_loaded ∙ sym (code_same r.was);
    names = r.names;
    became = becomes_carries g g' (IsOn s.first s.next) agrees r.was (s.slot at.table at.probe.i) r.became;
  }

  -- the slot's table is on the chain
  module _ (slot : SlotToCopy) (on : IsOn s.first s.next slot.from) where
    putting_carries : (p : P) (n j : ℕ) → IsPutting g s slot.from slot.index p n j → IsPutting g' s slot.from slot.index p n j
    putting_carries p n j r = record {
      stood = r.stood;
      taker = taker_carries g g' s sound agrees p slot.from n on r.taker;
      before = λ i lt. ap (λ V. foreign (V n i)) (look_pair g g' s sound agrees p) ∙ r.before i lt;
    }

    -- the table that the pair is put into is on it too
    put_on : (p : P) (n j : ℕ) → IsPutting g s slot.from slot.index p n j → IsOn s.first s.next n
    put_on p n j r = taker_on g s sound.rises (g.key p) slot.from n on r.taker

    -- up to the last place
    whole_carries : (p : P) (n : ℕ) → IsPutting g s slot.from slot.index p n (g.places n) → IsPutting g' s slot.from slot.index p n (g'.places n)
    whole_carries p n r = subst (λ y. IsPutting g' s slot.from slot.index p n y) (sym (agrees.places n (put_on p n (g.places n) r)))
        (putting_carries p n (g.places n) r)

    for_carries : (p : P) (hash : ℕ) (at : Place) → IsOn s.first s.next at.table → IsFor g c s p hash at → IsFor g' c s p hash at
    for_carries p hash at there f = record {
      hashed = hash_same p hash f.hashed;
      len = f.len ∙ sym (agrees.size at.table there);
      limit = f.limit ∙ sym (agrees.places at.table there);
      slot = f.slot ∙ (ap (λ l. g.place l at.table at.probe.len) (sym (agrees.key p)) ∙ sym (agrees.place (g'.key p) at.table at.probe.len there));
      within = subst (λ y. at.probe.len < y) (sym (agrees.places at.table there)) f.within;
    }

    -- it is where it was put
    placed_carries : (p : P) (hash : ℕ) (at : Place) → HasPlaced g c s slot p hash at → HasPlaced g' c s slot p hash at
    placed_carries p hash at r =
        let there : IsOn s.first s.next at.table = taker_on g s sound.rises (g.key p) slot.from at.table on r.taker in
        record {
          fits = for_carries p hash at there r.fits;
          stood = r.stood;
          taker = taker_carries g g' s sound agrees p slot.from at.table on r.taker;
          has = has_carries g g' s sound agrees (look g s (g.key p)) (look g' s (g'.key p)) (look_pair g g' s sound agrees p) at.table there r.has;
          hint = subst (λ l. IsHint g' c s at.table at.probe.i (hint_of (c.hash l))) (sym (agrees.key p))
              (hint_agrees g g' c agrees.key (s.slot at.table at.probe.i) (hint_of (c.hash (g.key p))) r.hint);
        }

    carry_carries : (p : P) (carry : Carry) → ReliesCarry g c s last kept slot p carry → ReliesCarry g' c s last kept slot p carry
    carry_carries p (carries.Hashing table) r = (r.0, putting_carries p table 0 r.1)
    carry_carries p (carries.Sizing hash table) r = (r.0, hash_same p hash r.1, putting_carries p table 0 r.2)
    carry_carries p (carries.Looking hash at)
        r = (r.0, for_carries p hash at (put_on p at.table at.probe.len r.2) r.1, putting_carries p at.table at.probe.len r.2)
    carry_carries p (carries.Reading hash at)
        r = (r.0, for_carries p hash at (put_on p at.table at.probe.len r.2) r.1, putting_carries p at.table at.probe.len r.2)
    carry_carries p (carries.Comparing hash at word)
        r = (r.0, for_carries p hash at (put_on p at.table at.probe.len r.2) r.1, putting_carries p at.table at.probe.len r.2, compared_carries at word r.3)
    carry_carries p (carries.Placing hash at)
        r = (r.0, for_carries p hash at (put_on p at.table at.probe.len r.2) r.1, putting_carries p at.table at.probe.len r.2)
    carry_carries p (carries.Placed hash at) r = (r.0, placed_carries p hash at r.1)
    carry_carries p (carries.Passing hash table) r = (agrees.blocking ∙ r.0, r.1, hash_same p hash r.2, whole_carries p table r.3)
    carry_carries p (carries.Linking hash link)
        r = (agrees.blocking ∙ r.0, r.1, hash_same p hash r.2, whole_carries p (follows link) r.3, link_carries link r.4)
    carry_carries p (carries.Aborting table) r = (agrees.blocking ∙ r.0, r.1, whole_carries p table r.2)

    settle_carries : (settle : Settle) → ReliesSettle g c s last kept slot settle → ReliesSettle g' c s last kept slot settle
    settle_carries settles.Looking r = tt
    settle_carries settles.Closing r = tt
    settle_carries settles.Shutting r = r
    settle_carries (settles.Marking word) r = r
    settle_carries (settles.Carrying word carry)
        r = record {
          pair = r.pair;
          marked = r.marked
              ∙ sym (code_same (Marked r.pair));
          here = λ b. r.here (sym agrees.blocking ∙ b);
          relies = carry_carries r.pair carry r.relies;
        }
    settle_carries (settles.Finishing word) (mode, r) = (
      agrees.blocking ∙ mode,
      record {
        pair = r.pair;
        table = r.table;
        marked = r.marked ∙ sym (code_same (Marked r.pair));
        stood = r.stood;
        taker = taker_carries g g' s sound agrees r.pair slot.from r.table on r.taker;
        has = has_carries g g' s sound agrees (look g s (g.key r.pair)) (look g' s (g'.key r.pair)) (look_pair g g' s sound agrees r.pair) r.table
            (taker_on g s sound.rises (g.key r.pair) slot.from r.table on r.taker) r.has;
        here = λ b. r.here (sym agrees.blocking ∙ b);
      },
    )

  moving_carries : (slot : SlotToCopy) → IsMoving g c s slot → IsMoving g' c s slot
  moving_carries slot r = record {
    mode = agrees.blocking ∙ r.mode;
    on = r.on;
    within = subst (λ y. slot.index < y) (sym (agrees.size slot.from r.on)) r.within;
    target = target_carries g g' s sound agrees slot.from slot.to r.target;
    pair = r.pair;
    stood = r.stood;
  }

  -- for each step of the copy
  step_carries : (step : Step) → ReliesStep g c s last kept step → ReliesStep g' c s last kept step
  step_carries steps.AtRoot r = tt
  step_carries (steps.Aiming from behind) r = aimed_carries from behind r
  step_carries (steps.Linking from link) r = (agrees.blocking ∙ r.0, aimed_carries from (follows link) r.1, link_carries link r.2)
  step_carries (steps.Judging from to) r = (agrees.blocking ∙ r.0, source_carries from to r.1)
  step_carries (steps.Sizing from to) r = source_carries from to r
  step_carries (steps.AtChunk cursor) r = cursor_carries cursor r
  step_carries (steps.Settling chunk settle)
      r = (chunk_carries chunk r.0, settle_carries (slot_of chunk) (root_on chunk.cursor.from r.0.cursor.source.was) settle r.1)
  step_carries (steps.Advancing cursor) r = settled_chunk_carries cursor r
  step_carries (steps.Promoting from to) r = (
    source_carries from to r.0,
    λ x lt. subst (λ y. s.done to y ≡ true) (sym (agrees.chunk_of x)) (r.1 x (subst (λ y. x < y) (agrees.size from (root_on from r.0.was)) lt)),
  )

  aim_carries : (aim : Aim) → ReliesAim g c s last kept aim → ReliesAim g' c s last kept aim
  aim_carries (aims.Search table) r = tt
  aim_carries (aims.Settle slot) r = moving_carries slot r
  aim_carries aims.Chunk r = tt
  aim_carries (aims.All met) r = tt

  pub copying_carries : (copying : Copying) → ReliesCopying g c s last kept copying → ReliesCopying g' c s last kept copying
  copying_carries (copyings.Stepping aim step) r = (aim_carries aim r.0, step_carries step r.1)
  copying_carries (copyings.Lone slot settle) r = (moving_carries slot r.0, settle_carries slot r.0.on settle r.1)
