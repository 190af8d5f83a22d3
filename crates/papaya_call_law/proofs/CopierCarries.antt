-- The facts that the move of a marked pair relies on after each answer.
use Rattle.std.proofs.Common.{◌≡◌, inl, ⊎_elim, ℕ, suc, ◌+◌, ◌%◌, ◌<◌, ◌≤◌, ◌==◌, nat_lt, ltb-true}
use Rattle.std.proofs.Common.{ltb-false, Bool, true, false, Option, Some, refl, sym, ap, ◌∙◌, subst}
use Rattle.std.proofs.Common.{arith, eq-eqb}
use Rattle.std.proofs.lemmas.Bool.{cases_lt, cond_both}
use Rattle.papaya_words.specs.Probe.{place}
use Rattle.papaya_words.specs.Word.{hint_of, may_hold}
use Rattle.papaya_words.specs.declared.refused.Refused.{Refused}
use Rattle.papaya_words.specs.declared.resize_mode.ResizeMode.{ResizeMode}
use Rattle.papaya_words.specs.declared.resize_mode.ResizeMode.TheVariants.{Incremental, Blocking}
use Rattle.papaya_words.proofs.Places.{place-next}
use Rattle.papaya_call.specs.declared.ask.At.{At}
use Rattle.papaya_call.specs.declared.ask.At.TheVariants.{Aborted, Next, Slot as Slot_word}
use Rattle.papaya_call.specs.declared.copy.carry.Carried.TheVariants as carried
use Rattle.papaya_call.specs.declared.copy.carry.Carry.{Carry}
use Rattle.papaya_call.specs.declared.copy.carry.Carry.TheVariants as carries
use Rattle.papaya_call.specs.declared.copy_ask.CopyAsk.TheVariants.{Exchange as Ask_exchange, HashOf, Load, LoadHint, SamePair, SizeOf, WriteHint}
use Rattle.papaya_call.specs.declared.copy.link.Link.TheVariants as links
use Rattle.papaya_call.specs.declared.copy.link.Linked.{Linked}
use Rattle.papaya_call.specs.declared.copy.link.Linked.TheVariants as linked
use Rattle.papaya_call.specs.declared.search.Place.{Place}
use Rattle.papaya_call.specs.declared.copy.settle.SlotToCopy.{SlotToCopy}
use Rattle.papaya_call.specs.Carry.{at_count, at_found, at_hash, at_made, at_ok, at_refused}
use Rattle.papaya_call.specs.Carry.{at_size, at_word, at_yes, carried_on, carry_ask, carry_follows}
use Rattle.papaya_call.specs.Carry.{compared, fills, goes_on, hinted, look as look_word, look_at}
use Rattle.papaya_call.specs.Link.{follows, link_ask, at_count as link_at_count, at_found as link_lost, at_refused as link_at_refused}
use Rattle.papaya_call.specs.Search.{next_place}
use Rattle.papaya_call.specs.declared.copy.link.Link.{Link}
use Rattle.papaya_words_law.specs.Class.{IsOn}
use Rattle.papaya_words_law.specs.Code.{Coding, IsHashed, code, kind}
use Rattle.papaya_words_law.specs.Copying.{IsPutting}
use Rattle.papaya_words_law.specs.Exchange.{Word, Empty, Closed, Live, Marked, Copied, Buried, Setting, State}
use Rattle.papaya_words_law.specs.Invariant.{IsKeeping, named}
use Rattle.papaya_words_law.specs.Later.{Becomes}
use Rattle.papaya_words_law.specs.Hints.{IsHint}
use Rattle.papaya_words_law.specs.View.{Foreign, foreign, look, view}
use Rattle.papaya_words_law.proofs.Codes.{code_kind}
use Rattle.papaya_words_law.proofs.Hints.{hint_passes}
use Rattle.papaya_words_law.proofs.Copies.{put_next}
use Rattle.papaya_words_law.proofs.CopierFacts.{taker_on}
use Rattle.papaya_words_law.proofs.OneMap.{keeping_sound}
use Rattle.papaya_words_law.proofs.Later.{later_itself}
use Rattle.papaya_call_law.specs.Copier.{IsCarrying, IsFor, ReliesCarried, ReliesCarry, ReliesLinked, carried_to, told_last}
use Rattle.papaya_call_law.specs.Relies.{IsCutAs, IsModeOf}
use Rattle.papaya_call_law.specs.TrueAnswers.{or_last, word_of}
use Rattle.papaya_call_law.proofs.CopierExchange.{aborted_some}
use Rattle.papaya_call_law.proofs.CopierLinks.{link_counted, link_found, link_made, link_refused, link_sized, made_follows, sized_follows}
use Rattle.papaya_call_law.proofs.CopierGuarantee.{compared_no, compared_yes, passes_place}

-- a number that isn't 0
pub above : (n : ℕ) → (n == 0) ≡ false → 0 < n
above n e = ⊎_elim (λ (lt : 0 < n). lt) (λ (le : n ≤ 0). let z : n ≡ 0 = omega (arith, le) in absurd (let y = eq-eqb n 0 z in cc (y, e))) (cases_lt 0 n)

-- the making of a table loads nothing
pub no_load : (link : Link) (at : At) → link_ask link ≡ Load at → ⊥
no_load (links.Sizing behind copied unfit) at e = cc e
no_load (links.Measuring behind copied unfit len) at e = cc e
no_load (links.Counting behind unfit len copied) at e = cc e
no_load (links.Making behind len limit chunks) at e = cc e
no_load (links.Linking behind table chunks) at e = cc e

-- it exchanges a next table
pub links_next : (link : Link) (at : At) (old new : ℕ) → link_ask link ≡ Ask_exchange at old new → (t : ℕ) × (at ≡ Next t)
links_next (links.Sizing behind copied unfit) at old new e = absurd cc
links_next (links.Measuring behind copied unfit len) at old new e = absurd cc
links_next (links.Counting behind unfit len copied) at old new e = absurd cc
links_next (links.Making behind len limit chunks) at old new e = absurd cc
links_next (links.Linking behind table chunks) at old new e = (behind, cc e)

-- it hashes and compares nothing
pub no_hash : (link : Link) (n : ℕ) → link_ask link ≡ HashOf n → ⊥
no_hash (links.Sizing behind copied unfit) n e = cc e
no_hash (links.Measuring behind copied unfit len) n e = cc e
no_hash (links.Counting behind unfit len copied) n e = cc e
no_hash (links.Making behind len limit chunks) n e = cc e
no_hash (links.Linking behind table chunks) n e = cc e

-- nor does it load or write a hint
pub no_hint : (link : Link) (t x : ℕ) → link_ask link ≡ LoadHint t x → ⊥
no_hint (links.Sizing behind copied unfit) t x e = cc e
no_hint (links.Measuring behind copied unfit len) t x e = cc e
no_hint (links.Counting behind unfit len copied) t x e = cc e
no_hint (links.Making behind len limit chunks) t x e = cc e
no_hint (links.Linking behind table chunks) t x e = cc e

pub no_note : (link : Link) (t x n : ℕ) → link_ask link ≡ WriteHint t x n → ⊥
no_note (links.Sizing behind copied unfit) t x n e = cc e
no_note (links.Measuring behind copied unfit len) t x n e = cc e
no_note (links.Counting behind unfit len copied) t x n e = cc e
no_note (links.Making behind len limit chunks) t x n e = cc e
no_note (links.Linking behind table chunks) t x n e = cc e

pub no_same : (link : Link) (i n : ℕ) → link_ask link ≡ SamePair i n → ⊥
no_same (links.Sizing behind copied unfit) i n e = cc e
no_same (links.Measuring behind copied unfit len) i n e = cc e
no_same (links.Counting behind unfit len copied) i n e = cc e
no_same (links.Making behind len limit chunks) i n e = cc e
no_same (links.Linking behind table chunks) i n e = cc e

module _ {K P : Type 0} (g : Setting K P) (c : Coding K P) (hashed : IsHashed g c) (s : State P) (m : K → Option P) (keeps : IsKeeping g s m)
    (mode : ResizeMode) (moded : IsModeOf mode g.blocking) (kept : Option P) (slot : SlotToCopy) (word : ℕ) (p : P) (marked : word ≡ code g c (Marked p))
    (on : IsOn s.first s.next slot.from) where
  -- a table that takes the pair is on the chain
  takes_on : (n j : ℕ) → IsPutting g s slot.from slot.index p n j → IsOn s.first s.next n
  takes_on n j put = taker_on g s (keeping_sound g s m keeps).rises (g.key p) slot.from n on put.taker

  -- no place is left
  filled : (how : ResizeMode) → IsModeOf how g.blocking → (last : Option P) (hash table : ℕ) → (g.blocking ≡ true → table ≡ slot.to) → kept ≡ Some p
      → hash ≡ c.hash (g.key p) → IsPutting g s slot.from slot.index p table (g.places table)
      → ReliesCarried g c s last kept slot word (carried.On (fills hash table how))
  filled (Incremental chunk) is last hash table here k h put = record { pair = p; marked = marked; here = here; relies = (is, k, h, put) }
  filled Blocking is last hash table here k h put = record { pair = p; marked = marked; here = here; relies = (is, k, put) }

  module _ (last : Option P) (hash : ℕ) (at : Place) (here : g.blocking ≡ true → at.table ≡ slot.to) (k : kept ≡ Some p) (f : IsFor g c s p hash at)
      (put : IsPutting g s slot.from slot.index p at.table at.probe.len) where
    -- a search of the key sees at the place the word that is there
    sees : (w : Word P) → s.slot at.table at.probe.i ≡ w → look g s (g.key p) at.table at.probe.len ≡ view g (g.key p) w
    sees w e = ap (view g (g.key p)) (ap (s.slot at.table) (sym f.slot) ∙ e)

    -- the next place is further by its number
    next_slot : (at.probe.i + at.probe.len + 1) % at.len ≡ g.place (g.key p) at.table (at.probe.len + 1)
    next_slot =
        ap (λ y. (y + at.probe.len + 1) % at.len) (f.slot ∙ hashed.places (g.key p) at.table at.probe.len)
        ∙ ap (λ y. (place (c.hash (g.key p)) (g.size at.table) at.probe.len + at.probe.len + 1) % y) f.len
        ∙ place-next (c.hash (g.key p)) (g.size at.table) at.probe.len
        ∙ sym (hashed.places (g.key p) at.table (at.probe.len + 1))

    -- the key is not at this place
    goes : foreign (look g s (g.key p) at.table at.probe.len) ≡ true → ReliesCarried g c s last kept slot word (goes_on hash at mode)
    goes other =
        let more : IsPutting g s slot.from slot.index p at.table (suc at.probe.len) = passes_place g c s m keeps slot.from slot.index p at.table
        at.probe.len put other in
        cond_both (nat_lt at.probe.len at.limit) (carried.On (carries.Looking hash (next_place at))) (carried.On (fills hash at.table mode))
        (ReliesCarried g c s last kept slot word)
        (λ less.
        let lt : at.probe.len < at.limit = ltb-true at.probe.len at.limit less in
        let one : suc at.probe.len ≡ at.probe.len + 1 = omega arith in
        record {
          pair = p;
          marked = marked;
          here = here;
          relies = (
            k,
            record { hashed = f.hashed; len = f.len; limit = f.limit; slot = next_slot; within = let e = f.limit in omega (arith, e, lt) },
            subst (λ y. IsPutting g s slot.from slot.index p at.table y) one more,
          );
        })
        (λ over.
        let le : at.limit ≤ at.probe.len = ltb-false at.probe.len at.limit over in
        let all : suc at.probe.len ≡ g.places at.table = let e = f.limit in let w = f.within in omega (arith, e, w, le) in
        filled mode moded last hash at.table here k f.hashed (subst (λ y. IsPutting g s slot.from slot.index p at.table y) all more))

  module _ (last : Option P) (hash : ℕ) (at : Place) (here : g.blocking ≡ true → at.table ≡ slot.to) (k : kept ≡ Some p) (f : IsFor g c s p hash at)
      (put : IsPutting g s slot.from slot.index p at.table at.probe.len) where
    -- a filled word is compared
    compares : (w : Word P) (q : P) → s.slot at.table at.probe.i ≡ w → named w ≡ Some q
        → ReliesCarried g c s (or_last (named w) last) kept slot word (carried.On (carries.Comparing hash at (code g c w)))
    compares w q e n = record {
      pair = p;
      marked = marked;
      here = here;
      relies = (
        k,
        f,
        put,
        record {
          pair = q;
          told = ap (λ o. or_last o last) n;
          was = w;
          as_loaded = refl;
          names = n;
          became = subst (λ v. Becomes g v (s.slot at.table at.probe.i)) e ((later_itself g hashed.lawful s).words at.table at.probe.i);
        },
      );
    }

    -- by the word's kind
    by_kind : (w : Word P) → s.slot at.table at.probe.i ≡ w
        → ReliesCarried g c s (or_last (named w) last) kept slot word (look_at (kind w) hash at mode (code g c w))
    by_kind Empty e = record { pair = p; marked = marked; here = here; relies = (k, f, put) }
    by_kind Closed e = goes last hash at here k f put (ap foreign (sees last hash at here k f put Closed e))
    by_kind (Live q) e = compares (Live q) q e refl
    by_kind (Marked q) e = compares (Marked q) q e refl
    by_kind (Copied q) e = compares (Copied q) q e refl
    by_kind (Buried q) e = compares (Buried q) q e refl

    -- by the word that is there
    looks : ReliesCarried g c s (or_last (named (s.slot at.table at.probe.i)) last) kept slot word
        (look_word hash at mode (code g c (s.slot at.table at.probe.i)))
    looks =
        let w : Word P = s.slot at.table at.probe.i in
        subst (λ y. ReliesCarried g c s (or_last (named w) last) kept slot word (look_at y hash at mode (code g c w))) (sym (code_kind g c w)) (by_kind w refl)

    -- by a hint that may be there
    hints : (n : ℕ) → IsHint g c s at.table at.probe.i n → ReliesCarried g c s last kept slot word (hinted hash at mode n)
    hints n is =
        cond_both (may_hold n hash) (carried.On (carries.Reading hash at)) (goes_on hash at mode) (ReliesCarried g c s last kept slot word)
        (λ may. record { pair = p; marked = marked; here = here; relies = (k, f, put) })
        (λ other.
        let there : Word P = s.slot at.table at.probe.i in
        let foreign_there : view g (g.key p) there ≡ Foreign = hint_passes g c hashed.coding (g.key p) there n is (ap (may_hold n) (sym f.hashed) ∙ other) in
        goes last hash at here k f put (ap foreign (sees last hash at here k f put there refl ∙ foreign_there)))

  -- behind a full table
  passes_to : (last : Option P) (hash table : ℕ) → g.blocking ≡ false → kept ≡ Some p → hash ≡ c.hash (g.key p)
      → IsPutting g s slot.from slot.index p table (g.places table) → (next : ℕ) → s.next table ≡ next → 0 < next
      → IsCarrying g c s last kept slot word (carries.Sizing hash next)
  passes_to last hash table inc k h put next is some = record {
    pair = p;
    marked = marked;
    here = λ b. absurd (cc (b, inc));
    relies = (
      k,
      h,
      subst (λ n. IsPutting g s slot.from slot.index p n 0) is
          (put_next g s slot.from slot.index p table put inc (subst (λ n. 0 < n) (sym is) some)),
    );
  }

  -- the move continues after the making of the next table
  pub leads_on : (last : Option P) (hash table : ℕ) → g.blocking ≡ false → kept ≡ Some p → hash ≡ c.hash (g.key p)
      → IsPutting g s slot.from slot.index p table (g.places table) → (l : Linked) → ReliesLinked g c s last kept table l
      → ReliesCarried g c s last kept slot word (carried_on hash l)
  leads_on last hash table inc k h put (linked.On link) r = record {
    pair = p;
    marked = marked;
    here = λ b. absurd (cc (b, inc));
    relies = (inc, k, h, subst (λ n. IsPutting g s slot.from slot.index p n (g.places n)) (sym r.0) put, r.1);
  }
  leads_on last hash table inc k h put (linked.Table next) r = passes_to last hash table inc k h put next r.0 r.1
  leads_on last hash table inc k h put (linked.Refused refused) r = tt

  module _ (last : Option P) where
    -- a load
    pub carry_loaded : (carry : Carry) → (g.blocking ≡ true → carried_to carry ≡ slot.to) → ReliesCarry g c s last kept slot p carry → (at : At)
        → carry_ask carry word ≡ Load at → ReliesCarried g c s (told_last s at last) kept slot word (at_word carry mode (word_of g c s at))
    carry_loaded (carries.Hashing table) here r at e = absurd cc
    carry_loaded (carries.Sizing hash table) here r at e = absurd cc
    carry_loaded (carries.Looking hash place) here r at e = absurd cc
    carry_loaded (carries.Reading hash place) here r at e =
        let is : Slot_word place.table place.probe.i ≡ at = cc e in
        subst (λ a. ReliesCarried g c s (told_last s a last) kept slot word (at_word (carries.Reading hash place) mode (word_of g c s a))) is
        (looks last hash place here r.0 r.1 r.2)
    carry_loaded (carries.Comparing hash place found) here r at e = absurd cc
    carry_loaded (carries.Placing hash place) here r at e = absurd cc
    carry_loaded (carries.Placed hash place) here r at e = absurd cc
    carry_loaded (carries.Passing hash table) here r at e =
        let is : Next table ≡ at = cc e in
        subst (λ a. ReliesCarried g c s (told_last s a last) kept slot word (at_word (carries.Passing hash table) mode (word_of g c s a))) is
        (cond_both (s.next table == 0) (carries.Linking hash (links.Sizing table table true)) (carries.Sizing hash (s.next table))
        (λ y. ReliesCarried g c s last kept slot word (carried.On y))
        (λ none. record {
          pair = p;
          marked = marked;
          here = here;
          relies = (
            r.0,
            r.1,
            r.2,
            r.3,
            record {
              on = takes_on table (g.places table) r.3;
              rises = tt;
              from = table;
              linking = inl
                  (refl, λ b. absurd (let i = r.0 in cc (b, i)));
              measures = refl;
            },
          );
        })
        (λ some. passes_to last hash table r.0 r.1 r.2 r.3 (s.next table) refl (above (s.next table) some)))
    carry_loaded (carries.Linking hash link) here r at e = absurd (no_load link at e)
    carry_loaded (carries.Aborting table) here r at e = absurd cc

    -- the load of a hint
    pub carry_hinted : (carry : Carry) → (g.blocking ≡ true → carried_to carry ≡ slot.to) → ReliesCarry g c s last kept slot p carry → (t x : ℕ)
        → carry_ask carry word ≡ LoadHint t x → (n : ℕ) → IsHint g c s t x n → ReliesCarried g c s last kept slot word (at_word carry mode n)
    carry_hinted (carries.Hashing table) here r t x e n is = absurd cc
    carry_hinted (carries.Sizing hash table) here r t x e n is = absurd cc
    carry_hinted (carries.Looking hash place) here r t x e n is =
        let table : t ≡ place.table = cc e in
        let index : x ≡ place.probe.i = cc e in
        hints last hash place here r.0 r.1 r.2 n (subst (λ y. IsHint g c s place.table y n) index (subst (λ y. IsHint g c s y x n) table is))
    carry_hinted (carries.Reading hash place) here r t x e n is = absurd cc
    carry_hinted (carries.Comparing hash place found) here r t x e n is = absurd cc
    carry_hinted (carries.Placing hash place) here r t x e n is = absurd cc
    carry_hinted (carries.Placed hash place) here r t x e n is = absurd cc
    carry_hinted (carries.Passing hash table) here r t x e n is = absurd cc
    carry_hinted (carries.Linking hash link) here r t x e n is = absurd (no_hint link t x e)
    carry_hinted (carries.Aborting table) here r t x e n is = absurd cc

    -- a hint was written, and it is the one of the slot
    pub carry_noted : (carry : Carry) → (g.blocking ≡ true → carried_to carry ≡ slot.to) → ReliesCarry g c s last kept slot p carry → (t x n : ℕ)
        → carry_ask carry word ≡ WriteHint t x n → IsHint g c s t x n × ReliesCarried g c s last kept slot word (at_ok carry)
    carry_noted (carries.Hashing table) here r t x n e = absurd cc
    carry_noted (carries.Sizing hash table) here r t x n e = absurd cc
    carry_noted (carries.Looking hash place) here r t x n e = absurd cc
    carry_noted (carries.Reading hash place) here r t x n e = absurd cc
    carry_noted (carries.Comparing hash place found) here r t x n e = absurd cc
    carry_noted (carries.Placing hash place) here r t x n e = absurd cc
    carry_noted (carries.Placed hash place) here r t x n e =
        let table : place.table ≡ t = cc e in
        let index : place.probe.i ≡ x = cc e in
        let value : hint_of hash ≡ n = cc e in
        let own : hint_of (c.hash (g.key p)) ≡ n = ap hint_of (sym r.1.fits.hashed) ∙ value in (
          subst (λ y. IsHint g c s t x y) own (subst (λ y. IsHint g c s t y (hint_of (c.hash (g.key p)))) index
              (subst (λ y. IsHint g c s y place.probe.i (hint_of (c.hash (g.key p)))) table r.1.hint)),
          record { pair = p; table = place.table; marked = marked; stood = r.1.stood; taker = r.1.taker; has = r.1.has; here = here },
        )
    carry_noted (carries.Passing hash table) here r t x n e = absurd cc
    carry_noted (carries.Linking hash link) here r t x n e = absurd (no_note link t x n e)
    carry_noted (carries.Aborting table) here r t x n e = absurd cc

    -- the hash of the pair last loaded, which is moved from now on
    pub carry_hashed : (carry : Carry) → (g.blocking ≡ true → carried_to carry ≡ slot.to) → ReliesCarry g c s last kept slot p carry → (n : ℕ)
        → carry_ask carry word ≡ HashOf n → (q : P) → last ≡ Some q → IsCarrying g c s last last slot word (at_hash carry (c.hash (g.key q)))
    carry_hashed (carries.Hashing table) here r n e q told =
        let same : p ≡ q = let t = r.0 in cc (t, told) in
        record { pair = p; marked = marked; here = here; relies = (r.0, ap (λ y. c.hash (g.key y)) (sym same), r.1) }
    carry_hashed (carries.Sizing hash table) here r n e q told = absurd cc
    carry_hashed (carries.Looking hash place) here r n e q told = absurd cc
    carry_hashed (carries.Reading hash place) here r n e q told = absurd cc
    carry_hashed (carries.Comparing hash place found) here r n e q told = absurd cc
    carry_hashed (carries.Placing hash place) here r n e q told = absurd cc
    carry_hashed (carries.Placed hash place) here r n e q told = absurd cc
    carry_hashed (carries.Passing hash table) here r n e q told = absurd cc
    carry_hashed (carries.Linking hash link) here r n e q told = absurd (no_hash link n e)
    carry_hashed (carries.Aborting table) here r n e q told = absurd cc

    -- the size of a table
    pub carry_sized : (carry : Carry) → (g.blocking ≡ true → carried_to carry ≡ slot.to) → ReliesCarry g c s last kept slot p carry → (t limit : ℕ)
        → carry_ask carry word ≡ SizeOf t → limit + 1 ≡ g.places t → IsCarrying g c s last kept slot word (at_size carry (g.size t) limit)
    carry_sized (carries.Hashing table) here r t limit e most = absurd cc
    carry_sized (carries.Sizing hash table) here r t limit e most =
        let is : table ≡ t = cc e in
        subst (λ y. limit + 1 ≡ g.places y → IsCarrying g c s last kept slot word (at_size (carries.Sizing hash table) (g.size y) limit)) is
        (λ mine. record {
          pair = p;
          marked = marked;
          here = here;
          relies = (
            r.0,
            record {
              hashed = r.1;
              len = refl;
              limit = mine;
              slot = ap (λ h. place h (g.size table) 0) r.1 ∙ sym (hashed.places (g.key p) table 0);
              within = hashed.lawful.some_place table;
            },
            r.2,
          );
        })
        most
    carry_sized (carries.Looking hash place) here r t limit e most = absurd cc
    carry_sized (carries.Reading hash place) here r t limit e most = absurd cc
    carry_sized (carries.Comparing hash place found) here r t limit e most = absurd cc
    carry_sized (carries.Placing hash place) here r t limit e most = absurd cc
    carry_sized (carries.Placed hash place) here r t limit e most = absurd cc
    carry_sized (carries.Passing hash table) here r t limit e most = absurd cc
    carry_sized (carries.Linking hash link) here r t limit e most = record {
      pair = p;
      marked = marked;
      here = λ b. absurd (let i = r.0 in cc (b, i));
      relies = (
        r.0,
        r.1,
        r.2,
        subst (λ n. IsPutting g s slot.from slot.index p n (g.places n)) (sym (sized_follows g c s last kept link (g.size t)))
            r.3,
        link_sized g c s last kept link r.4 t e,
      );
    }
    carry_sized (carries.Aborting table) here r t limit e most = absurd cc

    -- the keys are equal, or not
    same_or_not : (hash : ℕ) (at : Place) (found : ℕ) → (g.blocking ≡ true → at.table ≡ slot.to)
        → ReliesCarry g c s last kept slot p (carries.Comparing hash at found) → (q : P) → last ≡ Some q → (b : Bool) → g.same (g.key p) (g.key q) ≡ b
        → ReliesCarried g c s last kept slot word (compared hash at mode b)
    same_or_not hash at found here r q told true e =
        let h = r.3 in
        let same : q ≡ h.pair = let t = h.told in cc (t, told) in
        record {
          pair = p;
          table = at.table;
          marked = marked;
          stood = r.2.stood;
          taker = r.2.taker;
          has = compared_yes g c s m keeps hashed.lawful last kept p hash at found r.1 h (ap (λ y. g.same (g.key p) (g.key y)) (sym same) ∙ e);
          here = here;
        }
    same_or_not hash at found here r q told false e =
        let h = r.3 in
        let same : q ≡ h.pair = let t = h.told in cc (t, told) in
        goes last hash at here r.0 r.1 r.2 (compared_no g c s m keeps hashed.lawful last kept p hash at found r.1 h
        (ap (λ y. g.same (g.key p) (g.key y)) (sym same) ∙ e))

    pub carry_compared : (carry : Carry) → (g.blocking ≡ true → carried_to carry ≡ slot.to) → ReliesCarry g c s last kept slot p carry → (i n : ℕ)
        → carry_ask carry word ≡ SamePair i n → (o q : P) → kept ≡ Some o → last ≡ Some q
        → ReliesCarried g c s last kept slot word (at_yes carry mode (g.same (g.key o) (g.key q)))
    carry_compared (carries.Hashing table) here r i n e o q k told = absurd cc
    carry_compared (carries.Sizing hash table) here r i n e o q k told = absurd cc
    carry_compared (carries.Looking hash place) here r i n e o q k told = absurd cc
    carry_compared (carries.Reading hash place) here r i n e o q k told = absurd cc
    carry_compared (carries.Comparing hash place found) here r i n e o q k told =
        let same : p ≡ o = let t = r.0 in cc (t, k) in
        same_or_not hash place found here r q told (g.same (g.key o) (g.key q)) (ap (λ y. g.same (g.key y) (g.key q)) same)
    carry_compared (carries.Placing hash place) here r i n e o q k told = absurd cc
    carry_compared (carries.Placed hash place) here r i n e o q k told = absurd cc
    carry_compared (carries.Passing hash table) here r i n e o q k told = absurd cc
    carry_compared (carries.Linking hash link) here r i n e o q k told = absurd (no_same link i n e)
    carry_compared (carries.Aborting table) here r i n e o q k told = absurd cc

    -- an exchange that was lost
    pub carry_found : (carry : Carry) → (g.blocking ≡ true → carried_to carry ≡ slot.to) → ReliesCarry g c s last kept slot p carry
        → (at : At) (old new : ℕ) → carry_ask carry word ≡ Ask_exchange at old new → (word_of g c s at ≡ old → ⊥)
        → ReliesCarried g c s (told_last s at last) kept slot word (at_found carry mode (word_of g c s at))
    carry_found (carries.Hashing table) here r at old new e other = absurd cc
    carry_found (carries.Sizing hash table) here r at old new e other = absurd cc
    carry_found (carries.Looking hash place) here r at old new e other = absurd cc
    carry_found (carries.Reading hash place) here r at old new e other = absurd cc
    carry_found (carries.Comparing hash place found) here r at old new e other = absurd cc
    carry_found (carries.Placing hash place) here r at old new e other =
        let is : Slot_word place.table place.probe.i ≡ at = cc e in
        subst (λ a. ReliesCarried g c s (told_last s a last) kept slot word (at_found (carries.Placing hash place) mode (word_of g c s a))) is
        (looks last hash place here r.0 r.1 r.2)
    carry_found (carries.Placed hash place) here r at old new e other = absurd cc
    carry_found (carries.Passing hash table) here r at old new e other = absurd cc
    carry_found (carries.Linking hash link) here r at old new e other =
        let next : (t : ℕ) × (at ≡ Next t) = links_next link at old new e in
        let last' : told_last s at last ≡ last = ap (λ a. told_last s a last) next.1 in
        subst (λ l. ReliesCarried g c s l kept slot word (at_found (carries.Linking hash link) mode (word_of g c s at))) (sym last')
        (leads_on last hash (follows link) r.0 r.1 r.2 r.3 (link_lost link (word_of g c s at)) (link_found g c s last kept link r.4 at old new e other))
    carry_found (carries.Aborting table) here r at old new e other =
        let is : Aborted table ≡ at = cc e in
        let none : 0 ≡ old = cc e in
        let gone : s.aborted table ≡ true = aborted_some (s.aborted table) (word_of g c s (Aborted table)) refl
        (λ z. other (ap (word_of g c s) (sym is) ∙ z ∙ none)) in
        (here r.0, r.0, gone)

    -- a table is made
    pub carry_counted : IsCutAs mode g.chunk_of → (carry : Carry) → (g.blocking ≡ true → carried_to carry ≡ slot.to)
        → ReliesCarry g c s last kept slot p carry → (count initial : ℕ) → ReliesCarried g c s last kept slot word (at_count carry mode count initial)
    carry_counted cut (carries.Linking hash link) here r count initial = leads_on last hash (follows link) r.0 r.1 r.2 r.3
        (link_at_count link mode count initial) (link_counted g c s last kept mode cut link r.4 count initial)
    carry_counted cut (carries.Hashing table) here r count initial = record { pair = p; marked = marked; here = here; relies = r }
    carry_counted cut (carries.Sizing hash table) here r count initial = record { pair = p; marked = marked; here = here; relies = r }
    carry_counted cut (carries.Looking hash place) here r count initial = record { pair = p; marked = marked; here = here; relies = r }
    carry_counted cut (carries.Reading hash place) here r count initial = record { pair = p; marked = marked; here = here; relies = r }
    carry_counted cut (carries.Comparing hash place found) here r count initial = record { pair = p; marked = marked; here = here; relies = r }
    carry_counted cut (carries.Placing hash place) here r count initial = record { pair = p; marked = marked; here = here; relies = r }
    carry_counted cut (carries.Placed hash place) here r count initial = record { pair = p; marked = marked; here = here; relies = r }
    carry_counted cut (carries.Passing hash table) here r count initial = record { pair = p; marked = marked; here = here; relies = r }
    carry_counted cut (carries.Aborting table) here r count initial = record { pair = p; marked = marked; here = here; relies = r }

    pub carry_made : (carry : Carry) → (g.blocking ≡ true → carried_to carry ≡ slot.to) → ReliesCarry g c s last kept slot p carry → (n : ℕ)
        → carry_follows carry < n → IsCarrying g c s last kept slot word (at_made carry n)
    carry_made (carries.Linking hash link) here r n more = record {
      pair = p;
      marked = marked;
      here = λ b. absurd (let i = r.0 in cc (b, i));
      relies = (
        r.0,
        r.1,
        r.2,
        subst (λ y. IsPutting g s slot.from slot.index p y (g.places y)) (sym (made_follows g c s last kept link n)) r.3,
        link_made g c s last kept link r.4 n more,
      );
    }
    carry_made (carries.Hashing table) here r n more = record { pair = p; marked = marked; here = here; relies = r }
    carry_made (carries.Sizing hash table) here r n more = record { pair = p; marked = marked; here = here; relies = r }
    carry_made (carries.Looking hash place) here r n more = record { pair = p; marked = marked; here = here; relies = r }
    carry_made (carries.Reading hash place) here r n more = record { pair = p; marked = marked; here = here; relies = r }
    carry_made (carries.Comparing hash place found) here r n more = record { pair = p; marked = marked; here = here; relies = r }
    carry_made (carries.Placing hash place) here r n more = record { pair = p; marked = marked; here = here; relies = r }
    carry_made (carries.Placed hash place) here r n more = record { pair = p; marked = marked; here = here; relies = r }
    carry_made (carries.Passing hash table) here r n more = record { pair = p; marked = marked; here = here; relies = r }
    carry_made (carries.Aborting table) here r n more = record { pair = p; marked = marked; here = here; relies = r }

    pub carry_refused : (carry : Carry) → (g.blocking ≡ true → carried_to carry ≡ slot.to) → ReliesCarry g c s last kept slot p carry
        → (refused : Refused) → ReliesCarried g c s last kept slot word (at_refused carry refused)
    carry_refused (carries.Linking hash link) here r refused = leads_on last hash (follows link) r.0 r.1 r.2 r.3 (link_at_refused link refused)
        (link_refused g c s last kept link r.4 refused)
    carry_refused (carries.Hashing table) here r refused = record { pair = p; marked = marked; here = here; relies = r }
    carry_refused (carries.Sizing hash table) here r refused = record { pair = p; marked = marked; here = here; relies = r }
    carry_refused (carries.Looking hash place) here r refused = record { pair = p; marked = marked; here = here; relies = r }
    carry_refused (carries.Reading hash place) here r refused = record { pair = p; marked = marked; here = here; relies = r }
    carry_refused (carries.Comparing hash place found) here r refused = record { pair = p; marked = marked; here = here; relies = r }
    carry_refused (carries.Placing hash place) here r refused = record { pair = p; marked = marked; here = here; relies = r }
    carry_refused (carries.Placed hash place) here r refused = record { pair = p; marked = marked; here = here; relies = r }
    carry_refused (carries.Passing hash table) here r refused = record { pair = p; marked = marked; here = here; relies = r }
    carry_refused (carries.Aborting table) here r refused = record { pair = p; marked = marked; here = here; relies = r }
