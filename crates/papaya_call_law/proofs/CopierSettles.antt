-- The facts that the copy of a slot relies on after each answer.
use Rattle.std.proofs.Common.{◌≡◌, inl, inr, ℕ, ◌+◌, ◌<◌, true, Option, Some, [], ◌∷◌, refl, sym, ap, ◌∙◌, subst, arith}
use Rattle.std.proofs.lemmas.Bool.{cond-true}
use Rattle.papaya_words.specs.Word.{shut_hint}
use Rattle.papaya_words.specs.declared.refused.Refused.{Refused}
use Rattle.papaya_words.specs.declared.resize_mode.ResizeMode.{ResizeMode}
use Rattle.papaya_words.specs.declared.resize_mode.ResizeMode.TheVariants.{Incremental, Blocking}
use Rattle.papaya_call.specs.declared.ask.At.{At}
use Rattle.papaya_call.specs.declared.ask.At.TheVariants.{Aborted, Next, Slot as Slot_word}
use Rattle.papaya_call.specs.declared.ask.StepKind.TheVariants as kinds
use Rattle.papaya_call.specs.declared.copy.carry.Carried.{Carried}
use Rattle.papaya_call.specs.declared.copy.carry.Carried.TheVariants as carried
use Rattle.papaya_call.specs.declared.copy.carry.Carry.{Carry}
use Rattle.papaya_call.specs.declared.copy.carry.Carry.TheVariants as carries
use Rattle.papaya_call.specs.declared.copy_ask.CopyAsk.TheVariants.{Exchange as Ask_exchange, HashOf, Load, LoadHint, SamePair, SizeOf, WriteHint}
use Rattle.papaya_call.specs.declared.copy.link.Link.{Link}
use Rattle.papaya_call.specs.declared.copy.link.Link.TheVariants as links
use Rattle.papaya_call.specs.declared.copy.settle.Settle.{Settle}
use Rattle.papaya_call.specs.declared.copy.settle.Settle.TheVariants as settles
use Rattle.papaya_call.specs.declared.copy.settle.SlotToCopy.{SlotToCopy}
use Rattle.papaya_call.specs.Carry.{at_count as carry_at_count, at_exchanged as carry_at_exchanged}
use Rattle.papaya_call.specs.Carry.{at_found as carry_at_found, at_ok as carry_at_ok}
use Rattle.papaya_call.specs.Carry.{at_refused as carry_at_refused, at_word as carry_at_word}
use Rattle.papaya_call.specs.Carry.{at_yes as carry_at_yes, carry_ask, carry_kind}
use Rattle.papaya_call.specs.Link.{follows, link_ask, link_kind, at_exchanged as link_at_exchanged}
use Rattle.papaya_call.specs.Settle.{at_count, at_found, at_hash, at_made, at_ok, at_refused}
use Rattle.papaya_call.specs.Settle.{at_size, at_word, at_yes, look as look_word, look_at}
use Rattle.papaya_call.specs.Settle.{settle_ask, settle_follows, settled_by}
use Rattle.papaya_words_law.specs.Allows.{Allows}
use Rattle.papaya_words_law.specs.Class.{IsOn}
use Rattle.papaya_words_law.specs.Code.{Coding, IsHashed, code, kind}
use Rattle.papaya_words_law.specs.Copying.{IsSettled, IsTarget}
use Rattle.papaya_words_law.specs.Exchange.{Word, Empty, Closed, Live, Marked, Copied, Buried, Setting}
use Rattle.papaya_words_law.specs.Exchange.{State, Exchange, Link as Link_to, Place as Place_pair, Abort}
use Rattle.papaya_words_law.specs.Exchange.{after}
use Rattle.papaya_words_law.specs.Invariant.{IsKeeping, named}
use Rattle.papaya_words_law.specs.Hints.{IsHint, IsHintOf}
use Rattle.papaya_words_law.specs.Later.{IsLater}
use Rattle.papaya_words_law.specs.Meaning.{map_after}
use Rattle.papaya_words_law.specs.View.{Foreign, Here, own, view}
use Rattle.papaya_words_law.proofs.Chain.{next_zero}
use Rattle.papaya_words_law.proofs.Codes.{code_kind}
use Rattle.papaya_words_law.proofs.Copies.{target_takes}
use Rattle.papaya_words_law.proofs.Grows.{on_run}
use Rattle.papaya_words_law.proofs.Hints.{hint_fills}
use Rattle.papaya_words_law.proofs.Later.{later_step}
use Rattle.papaya_words_law.proofs.OneMap.{keeping_sound, step_keeps}
use Rattle.papaya_words_law.proofs.Slots.{put_there}
use Rattle.papaya_call_law.specs.Copier.{IsCarrying, IsCopyAsked, ReliesCarried, ReliesCarry, ReliesSettle, ReliesSettled, carried_to, last_after, told_last}
use Rattle.papaya_call_law.specs.Relies.{IsCutAs, IsModeOf}
use Rattle.papaya_call_law.specs.TrueAnswers.{or_last, word_of}
use Rattle.papaya_call_law.proofs.CopierCarries.{carry_compared, carry_counted, carry_found}
use Rattle.papaya_call_law.proofs.CopierCarries.{carry_hashed, carry_hinted, carry_loaded}
use Rattle.papaya_call_law.proofs.CopierCarries.{carry_made, carry_noted, carry_refused}
use Rattle.papaya_call_law.proofs.CopierCarries.{carry_sized, leads_on}
use Rattle.papaya_call_law.proofs.CopierExchange.{IsKnown, put_here}
use Rattle.papaya_call_law.proofs.CopierLinks.{link_exchanged}
use Rattle.papaya_call_law.proofs.CopierGuarantee.{settled_blocking, settled_incremental}
use Rattle.papaya_call_law.proofs.CopierStable.{carry_stable}

-- an exchange of a next table concerns no pair
pub link_last : {K P : Type 0} → (c : Coding K P) (s : State P) (last kept : Option P) (link : Link) (at : At) (old new : ℕ)
    → link_ask link ≡ Ask_exchange at old new → (e : Exchange P) → IsCopyAsked c (link_kind link) at new s kept e → last_after e last ≡ last
link_last c s last kept (links.Sizing behind copied unfit) at old new q e asked = absurd cc
link_last c s last kept (links.Measuring behind copied unfit len) at old new q e asked = absurd cc
link_last c s last kept (links.Counting behind unfit len copied) at old new q e asked = absurd cc
link_last c s last kept (links.Making behind len limit chunks) at old new q e asked = absurd cc
link_last c s last kept (links.Linking behind table chunks) at old new q e asked =
    let is : Next behind ≡ at = cc q in
    let by : e ≡ Link_to behind new = subst (λ a. IsCopyAsked c (Some kinds.Link) a new s kept e) (sym is) asked in
    ap (λ y. last_after y last) by

module _ {K P : Type 0} (g : Setting K P) (c : Coding K P) (hashed : IsHashed g c) (s : State P) (m : K → Option P) (keeps : IsKeeping g s m)
    (mode : ResizeMode) (moded : IsModeOf mode g.blocking) where
  module _ (e : Exchange P) (may : Allows g s e) where
    -- the state after the exchange
    abbrev pub s' : State P
    s' = after s e

    pub later : IsLater g s s'
    later = later_step g hashed.lawful s e may

    pub keeps' : IsKeeping g s' (map_after g m e)
    keeps' = (step_keeps g hashed.lawful s m keeps e may).1

    pub zero_next : s.next 0 ≡ 0
    zero_next = next_zero s.next (keeping_sound g s m keeps).rises

    pub still_on : (t : ℕ) → IsOn s.first s.next t → IsOn s'.first s'.next t
    still_on = on_run g hashed.lawful (e ∷ []) s m keeps (may, tt)

    module _ (last kept : Option P) (slot : SlotToCopy) (word : ℕ) (p : P) (marked : word ≡ code g c (Marked p)) (on : IsOn s.first s.next slot.from) where
      -- the exchange of a move was made
      pub carry_exchanged : (carry : Carry) → (g.blocking ≡ true → carried_to carry ≡ slot.to) → ReliesCarry g c s last kept slot p carry
          → (at : At) (old new : ℕ) → carry_ask carry word ≡ Ask_exchange at old new → IsCopyAsked c (carry_kind carry) at new s kept e
          → ReliesCarried g c s' (last_after e last) kept slot word (carry_at_exchanged carry)
      carry_exchanged (carries.Hashing table) here r at old new q asked = absurd cc
      carry_exchanged (carries.Sizing hash table) here r at old new q asked = absurd cc
      carry_exchanged (carries.Looking hash place) here r at old new q asked = absurd cc
      carry_exchanged (carries.Reading hash place) here r at old new q asked = absurd cc
      carry_exchanged (carries.Comparing hash place found) here r at old new q asked = absurd cc
      carry_exchanged (carries.Placing hash place) here r at old new q asked =
          let t : ℕ = place.table in
          let x : ℕ = place.probe.i in
          let is : Slot_word t x ≡ at = cc q in
          let by : IsCopyAsked c (Some kinds.Place) (Slot_word t x) new s kept e = subst (λ a. IsCopyAsked c (Some kinds.Place) a new s kept e)
          (sym is) asked in
          let same : by.0 ≡ p = let a = by.1 in let b = r.0 in cc (a, b) in
          let there : s'.slot t x ≡ Live p = subst (λ y. (after s y).slot t x ≡ Live p) (sym (by.3 ∙ ap (Place_pair t x) same))
          (put_there s t x (Live p) t x (refl, refl)).0 in
          let still = carry_stable g c hashed s s' zero_next later still_on last kept slot p (carries.Placing hash place) r in
          record {
            pair = p;
            marked = marked;
            here = here;
            relies = (
              r.0,
              record {
                fits = still.1;
                stood = still.2.stood;
                taker = still.2.taker;
                has = (
                  place.probe.len,
                  r.1.within,
                  ap (λ w. own (view g (g.key p) w)) (ap (s'.slot t) (sym r.1.slot) ∙ there)
                      ∙ ap own (cond-true (g.same (g.key p) (g.key p)) (Here p) Foreign (hashed.lawful.itself (g.key p))),
                );
                hint = hint_fills g c hashed.coding (g.key p) (s'.slot t x) p there (hashed.lawful.itself (g.key p));
              },
            );
          }
      carry_exchanged (carries.Placed hash place) here r at old new q asked = absurd cc
      carry_exchanged (carries.Passing hash table) here r at old new q asked = absurd cc
      carry_exchanged (carries.Linking hash link) here r at old new q asked =
          let still = carry_stable g c hashed s s' zero_next later still_on last kept slot p (carries.Linking hash link) r in
          subst (λ l. ReliesCarried g c s' l kept slot word (carry_at_exchanged (carries.Linking hash link)))
          (sym (link_last c s last kept link at old new q e asked))
          (leads_on g c hashed s' (map_after g m e) keeps' mode moded kept slot word p marked (still_on slot.from on) last hash (follows link) still.0
          still.1 still.2 still.3 (link_at_exchanged link) (link_exchanged g c s last kept link r.4 at old new q e asked))
      carry_exchanged (carries.Aborting table) here r at old new q asked =
          let is : Aborted table ≡ at = cc q in
          let by : e ≡ Abort table = subst (λ a. IsCopyAsked c (Some kinds.Abort) a new s kept e) (sym is) asked in
          (here r.0, r.0, subst (λ y. (after s y).aborted table ≡ true) (sym by) (put_here s.aborted table true))

  -- the move of the pair of a marked word continues
  pub by_carried : (how : ResizeMode) → IsModeOf how g.blocking → (last kept : Option P) (slot : SlotToCopy) (word : ℕ) (end : Carried)
      → ReliesCarried g c s last kept slot word end → ReliesSettled g c s last kept slot (settled_by word how end)
  by_carried how is last kept slot word (carried.On carry) r = r
  by_carried (Incremental chunk) is last kept slot word carried.Carried r = (is, r)
  by_carried Blocking is last kept slot word carried.Carried r = settled_blocking g c s m keeps slot word r (r.here is) is
  by_carried how is last kept slot word (carried.Unfit table) r = r
  by_carried how is last kept slot word (carried.Refused refused) r = tt

  module _ (slot : SlotToCopy) (target : IsTarget g s slot.from slot.to) where
    -- a pair that is marked is to be moved
    pub to_carry : (last kept : Option P) (p : P) → s.slot slot.from slot.index ≡ Marked p → last ≡ Some p → (word : ℕ) → word ≡ code g c (Marked p)
        → IsCarrying g c s last kept slot word (carries.Hashing slot.to)
    to_carry last kept p e told word is = record {
      pair = p;
      marked = is;
      here = λ b. refl;
      relies = (told, record { stood = inl e; taker = target_takes g s (g.key p) slot.from slot.to target; before = λ i lt. absurd (omega (arith, lt)) });
    }

    by_kind : (last kept : Option P) (w : Word P) → s.slot slot.from slot.index ≡ w
        → ReliesSettled g c s (or_last (named w) last) kept slot (look_at (kind w) slot (code g c w))
    by_kind last kept Empty e = tt
    by_kind last kept Closed e = subst (IsSettled g s slot.to) (sym e) tt
    by_kind last kept (Live p) e = code_kind g c (Live p)
    by_kind last kept (Marked p) e = to_carry (Some p) kept p e refl (code g c (Marked p)) refl
    by_kind last kept (Copied p) e = subst (IsSettled g s slot.to) (sym e) tt
    by_kind last kept (Buried p) e = subst (IsSettled g s slot.to) (sym e) tt

    -- by the word that is there
    looks : (last kept : Option P) → ReliesSettled g c s (or_last (named (s.slot slot.from slot.index)) last) kept slot
        (look_word slot (code g c (s.slot slot.from slot.index)))
    looks last kept =
        let w : Word P = s.slot slot.from slot.index in
        subst (λ y. ReliesSettled g c s (or_last (named w) last) kept slot (look_at y slot (code g c w))) (sym (code_kind g c w)) (by_kind last kept w refl)

  module _ (slot : SlotToCopy) (known : IsKnown g c hashed s m keeps slot) (last kept : Option P) where
    pub settle_loaded : (settle : Settle) → ReliesSettle g c s last kept slot settle → (at : At) → settle_ask settle slot ≡ Load at
        → ReliesSettled g c s (told_last s at last) kept slot (at_word settle slot mode (word_of g c s at))
    settle_loaded settles.Looking r at e =
        let is : Slot_word slot.from slot.index ≡ at = cc e in
        subst (λ a. ReliesSettled g c s (told_last s a last) kept slot (at_word settles.Looking slot mode (word_of g c s a))) is
        (looks slot known.target last kept)
    settle_loaded settles.Closing r at e = absurd cc
    settle_loaded settles.Shutting r at e = absurd cc
    settle_loaded (settles.Marking word) r at e = absurd cc
    settle_loaded (settles.Carrying word carry) r at e = by_carried mode moded (told_last s at last) kept slot word
        (carry_at_word carry mode (word_of g c s at))
        (carry_loaded g c hashed s m keeps mode moded kept slot word r.pair r.marked known.on last carry r.here r.relies at e)
    settle_loaded (settles.Finishing word) r at e = absurd cc

    pub settle_hinted : (settle : Settle) → ReliesSettle g c s last kept slot settle → (t x : ℕ) → settle_ask settle slot ≡ LoadHint t x → (n : ℕ)
        → IsHint g c s t x n → ReliesSettled g c s last kept slot (at_word settle slot mode n)
    settle_hinted settles.Looking r t x e n is = absurd cc
    settle_hinted settles.Closing r t x e n is = absurd cc
    settle_hinted settles.Shutting r t x e n is = absurd cc
    settle_hinted (settles.Marking word) r t x e n is = absurd cc
    settle_hinted (settles.Carrying word carry) r t x e n is = by_carried mode moded last kept slot word (carry_at_word carry mode n)
        (carry_hinted g c hashed s m keeps mode moded kept slot word r.pair r.marked known.on last carry r.here r.relies t x e n is)
    settle_hinted (settles.Finishing word) r t x e n is = absurd cc

    -- the hint of a slot that was sealed states so
    pub settle_noted : (settle : Settle) → ReliesSettle g c s last kept slot settle → (t x n : ℕ) → settle_ask settle slot ≡ WriteHint t x n
        → IsHint g c s t x n × ReliesSettled g c s last kept slot (at_ok settle mode)
    settle_noted settles.Looking r t x n e = absurd cc
    settle_noted settles.Closing r t x n e = absurd cc
    settle_noted settles.Shutting r t x n e =
        let table : slot.from ≡ t = cc e in
        let index : slot.index ≡ x = cc e in
        let value : shut_hint ≡ n = cc e in (
          subst (λ y. IsHint g c s t x y) value (subst (λ y. IsHint g c s t y shut_hint) index
              (subst (λ y. IsHint g c s y slot.index shut_hint) table (subst (λ w. IsHintOf g c w shut_hint) (sym r) (inr refl)))),
          subst (IsSettled g s slot.to) (sym r) tt,
        )
    settle_noted (settles.Marking word) r t x n e = absurd cc
    settle_noted (settles.Carrying word carry) r t x n e =
        let noted = carry_noted g c hashed s m keeps mode moded kept slot word r.pair r.marked known.on last carry r.here r.relies t x n e in
        (noted.0, by_carried mode moded last kept slot word (carry_at_ok carry) noted.1)
    settle_noted (settles.Finishing word) r t x n e = absurd cc

    pub settle_hashed : (settle : Settle) → ReliesSettle g c s last kept slot settle → (n : ℕ) → settle_ask settle slot ≡ HashOf n → (q : P)
        → last ≡ Some q → ReliesSettle g c s last last slot (at_hash settle (c.hash (g.key q)))
    settle_hashed settles.Looking r n e q told = absurd cc
    settle_hashed settles.Closing r n e q told = absurd cc
    settle_hashed settles.Shutting r n e q told = absurd cc
    settle_hashed (settles.Marking word) r n e q told = absurd cc
    settle_hashed (settles.Carrying word carry) r n e q told = carry_hashed g c hashed s m keeps mode moded kept slot word r.pair r.marked known.on
        last carry r.here r.relies n e q told
    settle_hashed (settles.Finishing word) r n e q told = absurd cc

    pub settle_sized : (settle : Settle) → ReliesSettle g c s last kept slot settle → (t limit : ℕ) → settle_ask settle slot ≡ SizeOf t
        → limit + 1 ≡ g.places t → ReliesSettle g c s last kept slot (at_size settle (g.size t) limit)
    settle_sized settles.Looking r t limit e most = absurd cc
    settle_sized settles.Closing r t limit e most = absurd cc
    settle_sized settles.Shutting r t limit e most = absurd cc
    settle_sized (settles.Marking word) r t limit e most = absurd cc
    settle_sized (settles.Carrying word carry) r t limit e most = carry_sized g c hashed s m keeps mode moded kept slot word r.pair r.marked known.on
        last carry r.here r.relies t limit e most
    settle_sized (settles.Finishing word) r t limit e most = absurd cc

    pub settle_compared : (settle : Settle) → ReliesSettle g c s last kept slot settle → (i n : ℕ) → settle_ask settle slot ≡ SamePair i n → (o q : P)
        → kept ≡ Some o → last ≡ Some q → ReliesSettled g c s last kept slot (at_yes settle mode (g.same (g.key o) (g.key q)))
    settle_compared settles.Looking r i n e o q k told = absurd cc
    settle_compared settles.Closing r i n e o q k told = absurd cc
    settle_compared settles.Shutting r i n e o q k told = absurd cc
    settle_compared (settles.Marking word) r i n e o q k told = absurd cc
    settle_compared (settles.Carrying word carry) r i n e o q k told =
        by_carried mode moded last kept slot word (carry_at_yes carry mode (g.same (g.key o) (g.key q)))
        (carry_compared g c hashed s m keeps mode moded kept slot word r.pair r.marked known.on last carry r.here r.relies i n e o q k told)
    settle_compared (settles.Finishing word) r i n e o q k told = absurd cc

    pub settle_found : (settle : Settle) → ReliesSettle g c s last kept slot settle → (at : At) (old new : ℕ)
        → settle_ask settle slot ≡ Ask_exchange at old new → (word_of g c s at ≡ old → ⊥)
        → ReliesSettled g c s (told_last s at last) kept slot (at_found settle slot mode (word_of g c s at))
    settle_found settles.Looking r at old new e other = absurd cc
    settle_found settles.Closing r at old new e other =
        let is : Slot_word slot.from slot.index ≡ at = cc e in
        subst (λ a. ReliesSettled g c s (told_last s a last) kept slot (at_found settles.Closing slot mode (word_of g c s a))) is
        (looks slot known.target last kept)
    settle_found settles.Shutting r at old new e other = absurd cc
    settle_found (settles.Marking word) r at old new e other =
        let is : Slot_word slot.from slot.index ≡ at = cc e in
        subst (λ a. ReliesSettled g c s (told_last s a last) kept slot (at_found (settles.Marking word) slot mode (word_of g c s a))) is
        (looks slot known.target last kept)
    settle_found (settles.Carrying word carry) r at old new e other =
        by_carried mode moded (told_last s at last) kept slot word (carry_at_found carry mode (word_of g c s at))
        (carry_found g c hashed s m keeps mode moded kept slot word r.pair r.marked known.on last carry r.here r.relies at old new e other)
    settle_found (settles.Finishing word) r at old new e other =
        let is : Slot_word slot.from slot.index ≡ at = cc e in
        let same : word ≡ old = cc e in
        settled_incremental g c s m keeps slot word r.1 (λ stands. other (ap (word_of g c s) (sym is) ∙ ap (code g c) stands ∙ sym r.1.marked ∙ same))

    pub settle_counted : IsCutAs mode g.chunk_of → (settle : Settle) → ReliesSettle g c s last kept slot settle → (count initial : ℕ)
        → ReliesSettled g c s last kept slot (at_count settle mode count initial)
    settle_counted cut settles.Looking r count initial = r
    settle_counted cut settles.Closing r count initial = r
    settle_counted cut settles.Shutting r count initial = r
    settle_counted cut (settles.Marking word) r count initial = r
    settle_counted cut (settles.Carrying word carry) r count initial =
        by_carried mode moded last kept slot word (carry_at_count carry mode count initial)
        (carry_counted g c hashed s m keeps mode moded kept slot word r.pair r.marked known.on last cut carry r.here r.relies count initial)
    settle_counted cut (settles.Finishing word) r count initial = r

    pub settle_made : (settle : Settle) → ReliesSettle g c s last kept slot settle → (n : ℕ) → settle_follows settle < n
        → ReliesSettle g c s last kept slot (at_made settle n)
    settle_made settles.Looking r n more = r
    settle_made settles.Closing r n more = r
    settle_made settles.Shutting r n more = r
    settle_made (settles.Marking word) r n more = r
    settle_made (settles.Carrying word carry) r n more = carry_made g c hashed s m keeps mode moded kept slot word r.pair r.marked known.on last carry
        r.here r.relies n more
    settle_made (settles.Finishing word) r n more = r

    pub settle_refused : (settle : Settle) → ReliesSettle g c s last kept slot settle → (refused : Refused)
        → ReliesSettled g c s last kept slot (at_refused settle mode refused)
    settle_refused settles.Looking r refused = r
    settle_refused settles.Closing r refused = r
    settle_refused settles.Shutting r refused = r
    settle_refused (settles.Marking word) r refused = r
    settle_refused (settles.Carrying word carry) r refused =
        by_carried mode moded last kept slot word (carry_at_refused carry refused)
        (carry_refused g c hashed s m keeps mode moded kept slot word r.pair r.marked known.on last carry r.here r.relies refused)
    settle_refused (settles.Finishing word) r refused = r
