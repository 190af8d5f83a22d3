-- The facts that a call that copies relies on after each answer, and the words that it names.
use Rattle.std.proofs.Common.{◌≡◌, inl, ℕ, ◌+◌, ◌<◌, ◌==◌, ◌||◌, true, cond, Option, Some, refl, sym, ap, ◌∙◌, subst, eqb-true}
use Rattle.std.proofs.lemmas.Bool.{cond_both}
use Rattle.papaya_words.specs.Word.{pair_of}
use Rattle.papaya_words.specs.declared.refused.Refused.{Refused}
use Rattle.papaya_words.specs.declared.resize_mode.ResizeMode.{ResizeMode}
use Rattle.papaya_words.specs.declared.resize_mode.ResizeMode.TheVariants.{Incremental, Blocking}
use Rattle.papaya_call.specs.declared.ask.At.{At}
use Rattle.papaya_call.specs.declared.copy.carry.Carry.{Carry}
use Rattle.papaya_call.specs.declared.copy.carry.Carry.TheVariants as carries
use Rattle.papaya_call.specs.declared.copy_ask.CopyAsk.TheVariants.{Exchange as Ask_exchange, HashOf, Load, LoadHint, SamePair, SizeOf, WriteHint}
use Rattle.papaya_call.specs.declared.copy.copying.Aim.{Aim}
use Rattle.papaya_call.specs.declared.copy.copying.Aim.TheVariants as aims
use Rattle.papaya_call.specs.declared.copy.copying.Copied.TheVariants as copied
use Rattle.papaya_call.specs.declared.copy.copying.Copying.{Copying}
use Rattle.papaya_call.specs.declared.copy.copying.Copying.TheVariants as copyings
use Rattle.papaya_call.specs.declared.copy.link.Link.{Link}
use Rattle.papaya_call.specs.declared.copy.link.Link.TheVariants as links
use Rattle.papaya_call.specs.declared.search.Place.{Place}
use Rattle.papaya_call.specs.declared.copy.settle.Settle.{Settle}
use Rattle.papaya_call.specs.declared.copy.settle.Settle.TheVariants as settles
use Rattle.papaya_call.specs.declared.copy.settle.Settled.{Settled}
use Rattle.papaya_call.specs.declared.copy.settle.Settled.TheVariants as settled
use Rattle.papaya_call.specs.declared.copy.settle.SlotToCopy.{SlotToCopy}
use Rattle.papaya_call.specs.declared.copy.step.Chunk.{Chunk}
use Rattle.papaya_call.specs.declared.copy.step.Step.{Step}
use Rattle.papaya_call.specs.declared.copy.step.Step.TheVariants as steps
use Rattle.papaya_call.specs.declared.copy.step.Stepped.{Stepped}
use Rattle.papaya_call.specs.declared.copy.step.Stepped.TheVariants as stepped
use Rattle.papaya_call.specs.Carry.{carry_ask}
use Rattle.papaya_call.specs.Copying.{all_of, at_count, at_exchanged, at_found, at_hash, at_made}
use Rattle.papaya_call.specs.Copying.{at_ok, at_refused, at_root, at_size, at_word, at_yes}
use Rattle.papaya_call.specs.Copying.{copying_ask, copying_follows, copying_kind, last as last_of}
use Rattle.papaya_call.specs.Copying.{further, leads, lone, over}
use Rattle.papaya_call.specs.Link.{link_ask}
use Rattle.papaya_call.specs.Settle.{settle_ask, at_count as settle_at_count}
use Rattle.papaya_call.specs.Settle.{at_exchanged as settle_at_exchanged}
use Rattle.papaya_call.specs.Settle.{at_found as settle_at_found, at_ok as settle_at_ok}
use Rattle.papaya_call.specs.Settle.{at_refused as settle_at_refused, at_word as settle_at_word}
use Rattle.papaya_call.specs.Settle.{at_yes as settle_at_yes}
use Rattle.papaya_call.specs.Step.{slot_of, step_ask, at_count as step_at_count}
use Rattle.papaya_call.specs.Step.{at_exchanged as step_at_exchanged, at_found as step_at_found}
use Rattle.papaya_call.specs.Step.{at_ok as step_at_ok, at_refused as step_at_refused}
use Rattle.papaya_call.specs.Step.{at_word as step_at_word, at_yes as step_at_yes}
use Rattle.papaya_words_law.specs.Allows.{Allows}
use Rattle.papaya_words_law.specs.Class.{IsOn}
use Rattle.papaya_words_law.specs.Code.{Coding, IsHashed, code}
use Rattle.papaya_words_law.specs.Copying.{IsPutting, IsTarget}
use Rattle.papaya_words_law.specs.Exchange.{Marked, Setting, State, Exchange, after}
use Rattle.papaya_words_law.specs.Hints.{IsHint}
use Rattle.papaya_words_law.specs.Invariant.{IsKeeping}
use Rattle.papaya_words_law.specs.Meaning.{map_after}
use Rattle.papaya_words_law.proofs.Base.{linking_on}
use Rattle.papaya_words_law.proofs.Codes.{code_pair}
use Rattle.papaya_words_law.proofs.CopierFacts.{last_root, taker_on, target_on}
use Rattle.papaya_words_law.proofs.OneMap.{keeping_sound}
use Rattle.papaya_call_law.specs.Copier.{AreThere, IsChunk, IsCopyAsked, IsFor, IsMoving}
use Rattle.papaya_call_law.specs.Copier.{IsStillAimed, ReliesAim, ReliesCarry, ReliesCopied}
use Rattle.papaya_call_law.specs.Copier.{ReliesCopying, ReliesLink, ReliesSettle, ReliesSettled}
use Rattle.papaya_call_law.specs.Copier.{ReliesStep, ReliesStepped, aim_of, last_after, told_last}
use Rattle.papaya_call_law.specs.Relies.{IsCutAs, IsModeOf}
use Rattle.papaya_call_law.specs.TrueAnswers.{word_of}
use Rattle.papaya_call_law.proofs.CopierCarries.{above}
use Rattle.papaya_call_law.proofs.CopierExchange.{IsKnown, carried_number, moving_known}
use Rattle.papaya_call_law.proofs.CopierGuarantee.{cursor_word, root_on}
use Rattle.papaya_call_law.proofs.CopierSettles.{keeps', later, settle_compared, settle_counted}
use Rattle.papaya_call_law.proofs.CopierSettles.{settle_found, settle_hashed, settle_hinted}
use Rattle.papaya_call_law.proofs.CopierSettles.{settle_loaded, settle_made, settle_noted}
use Rattle.papaya_call_law.proofs.CopierSettles.{settle_refused, settle_sized, still_on, zero_next}
use Rattle.papaya_call_law.proofs.CopierSettlesMade.{settle_exchanged}
use Rattle.papaya_call_law.proofs.CopierStable.{moving_stable}
use Rattle.papaya_call_law.proofs.CopierSteps.{aimed_on, known_slot, step_compared, step_counted}
use Rattle.papaya_call_law.proofs.CopierSteps.{step_exchanged, step_found, step_hashed, step_hinted}
use Rattle.papaya_call_law.proofs.CopierSteps.{step_loaded, step_made, step_noted, step_refused}
use Rattle.papaya_call_law.proofs.CopierSteps.{step_sized}

-- it still copies for the same purpose
same_aim : (aim : Aim) → IsStillAimed aim aim
same_aim (aims.Search table) = refl
same_aim (aims.Settle slot) = refl
same_aim aims.Chunk = refl
same_aim (aims.All met) = (met, refl)

module _ {K P : Type 0} (g : Setting K P) (c : Coding K P) (s : State P) (m : K → Option P) (keeps : IsKeeping g s m) (last kept : Option P) where
  -- a chunk is over
  over_on : (aim : Aim) → ReliesAim g c s last kept aim → ReliesCopied g c s last kept aim (over aim)
  over_on (aims.Search table) r = refl
  over_on (aims.Settle slot) r = (refl, (r, tt))
  over_on aims.Chunk r = refl
  over_on (aims.All met) r = ((met, refl), (tt, tt))

  -- a chunk was copied, and this one was not yet
  further_on : (aim : Aim) → ReliesAim g c s last kept aim → (chunk : Chunk) → IsChunk g c s chunk → ReliesCopied g c s last kept aim (further aim chunk)
  further_on (aims.Search table) r chunk h = refl
  further_on (aims.Settle slot) r chunk h = (refl, (r, tt))
  further_on aims.Chunk r chunk h = refl
  further_on (aims.All met) r chunk h = ((met, refl), (tt, (h, tt)))

  -- the root has no next table, so it is still the root
  last_on : (aim : Aim) → ReliesAim g c s last kept aim → (t : ℕ) → s.was_root t ≡ true → s.next t ≡ 0 → ReliesCopied g c s last kept aim (last_of aim t)
  last_on (aims.Search table) r t was none = refl
  last_on (aims.Settle slot) r t was none = (refl, (r, tt))
  last_on aims.Chunk r t was none = refl
  last_on (aims.All met) r t was none = (last_root g s m keeps t was none, (met, refl))

  -- a root is to be copied
  roots : (t : ℕ) → s.root ≡ t → 0 < t → s.was_root t ≡ true
  roots t is some = subst (λ y. s.was_root y ≡ true) is ((keeping_sound g s m keeps).root_was (subst (λ y. 0 < y) (sym is) some))

  all_on : (how : ResizeMode) → (met t : ℕ) → s.root ≡ t → 0 < t → ReliesCopied g c s last kept (aims.All met) (all_of met how t)
  all_on (Incremental chunk) met t is some = ((met, refl), (tt, record { was = roots t is some; given_up = inl refl }))
  all_on Blocking met t is some =
      cond_both ((met == 0) || (met == t)) (copied.On (copyings.Stepping (aims.All t) (steps.Aiming t t))) (copied.Root t)
      (ReliesCopied g c s last kept (aims.All met))
      (λ e. ((t, refl), (tt, record { was = roots t is some; given_up = inl refl })))
      (λ e. (is, (met, refl)))

  one_on : (aim : Aim) → ReliesAim g c s last kept aim → (t : ℕ) → s.root ≡ t
      → ReliesCopied g c s last kept aim (cond (t == 0) (over aim) (copied.On (copyings.Stepping aim (steps.Aiming t t))))
  one_on aim r t is =
      cond_both (t == 0) (over aim) (copied.On (copyings.Stepping aim (steps.Aiming t t))) (ReliesCopied g c s last kept aim)
      (λ e. over_on aim r)
      (λ e. (same_aim aim, (r, record { was = roots t is (above t e); given_up = inl refl })))

  root_on_to : (how : ResizeMode) (aim : Aim) → ReliesAim g c s last kept aim → (t : ℕ) → s.root ≡ t → ReliesCopied g c s last kept aim (at_root aim how t)
  root_on_to how (aims.Search table) r t is = one_on (aims.Search table) r t is
  root_on_to how (aims.Settle slot) r t is = one_on (aims.Settle slot) r t is
  root_on_to how aims.Chunk r t is = one_on aims.Chunk r t is
  root_on_to how (aims.All met) r t is =
      cond_both (t == 0) (copied.Root 0) (all_of met how t) (ReliesCopied g c s last kept (aims.All met))
      (λ e. (is ∙ eqb-true t 0 e, (met, refl)))
      (λ e. all_on how met t is (above t e))

  -- the copy of a chunk continues
  leads_to : (how : ResizeMode) (aim : Aim) → ReliesAim g c s last kept aim → (end : Stepped) → ReliesStepped g c s last kept end
      → ReliesCopied g c s last kept aim (leads aim how end)
  leads_to how aim r (stepped.On step) h = (same_aim aim, (r, h))
  leads_to how aim r (stepped.Root t) h = root_on_to how aim r t h
  leads_to how aim r (stepped.Last t) h = last_on aim r t h.0 h.1
  leads_to how aim r (stepped.Further chunk) h = further_on aim r chunk h
  leads_to how aim r stepped.Over h = over_on aim r
  leads_to how aim r (stepped.Refused refused) h = tt

  -- and that of one slot more
  lone_on : (slot : SlotToCopy) → IsMoving g c s slot → (end : Settled) → ReliesSettled g c s last kept slot end
      → ReliesCopied g c s last kept (aims.Settle slot) (lone slot end)
  lone_on slot r (settled.On settle) h = (refl, (r, h))
  lone_on slot r settled.Settled h = (refl, h)
  lone_on slot r (settled.Unfit table) h = let a = r.mode in let b = h.1 in absurd (cc (a, b))
  lone_on slot r (settled.Refused refused) h = tt

module _ {K P : Type 0} (g : Setting K P) (c : Coding K P) (hashed : IsHashed g c) (s : State P) (m : K → Option P) (keeps : IsKeeping g s m)
    (mode : ResizeMode) (moded : IsModeOf mode g.blocking) (last kept : Option P) where
  -- the facts about the lone slot
  known : (slot : SlotToCopy) → IsMoving g c s slot → IsKnown g c hashed s m keeps slot
  known slot r = moving_known g c hashed s m keeps slot r

  pub copying_loaded : (copying : Copying) → ReliesCopying g c s last kept copying → (at : At) → copying_ask copying ≡ Load at
      → ReliesCopied g c s (told_last s at last) kept (aim_of copying) (at_word copying mode (word_of g c s at))
  copying_loaded (copyings.Stepping aim step) r at e = leads_to g c s m keeps (told_last s at last) kept mode aim (same_relies aim r.0)
      (step_at_word step mode (word_of g c s at)) (step_loaded g c hashed s m keeps mode moded last kept step r.1 at e)
    where
      same_relies : (aim : Aim) → ReliesAim g c s last kept aim → ReliesAim g c s (told_last s at last) kept aim
      same_relies (aims.Search table) r = tt
      same_relies (aims.Settle slot) r = r
      same_relies aims.Chunk r = tt
      same_relies (aims.All met) r = tt
  copying_loaded (copyings.Lone slot settle) r at e = lone_on g c s m keeps (told_last s at last) kept slot r.0
      (settle_at_word settle slot mode (word_of g c s at)) (settle_loaded g c hashed s m keeps mode moded slot (known slot r.0) last kept settle r.1 at e)

  pub copying_hinted : (copying : Copying) → ReliesCopying g c s last kept copying → (t x : ℕ) → copying_ask copying ≡ LoadHint t x → (n : ℕ)
      → IsHint g c s t x n → ReliesCopied g c s last kept (aim_of copying) (at_word copying mode n)
  copying_hinted (copyings.Stepping aim step) r t x e n is = leads_to g c s m keeps last kept mode aim r.0 (step_at_word step mode n)
      (step_hinted g c hashed s m keeps mode moded last kept step r.1 t x e n is)
  copying_hinted (copyings.Lone slot settle) r t x e n is = lone_on g c s m keeps last kept slot r.0 (settle_at_word settle slot mode n)
      (settle_hinted g c hashed s m keeps mode moded slot (known slot r.0) last kept settle r.1 t x e n is)

  -- a hint that is written may be there
  pub copying_noted : (copying : Copying) → ReliesCopying g c s last kept copying → (t x n : ℕ) → copying_ask copying ≡ WriteHint t x n
      → IsHint g c s t x n × ReliesCopied g c s last kept (aim_of copying) (at_ok copying mode)
  copying_noted (copyings.Stepping aim step) r t x n e =
      let noted = step_noted g c hashed s m keeps mode moded last kept step r.1 t x n e in
      (noted.0, leads_to g c s m keeps last kept mode aim r.0 (step_at_ok step mode) noted.1)
  copying_noted (copyings.Lone slot settle) r t x n e =
      let noted = settle_noted g c hashed s m keeps mode moded slot (known slot r.0) last kept settle r.1 t x n e in
      (noted.0, lone_on g c s m keeps last kept slot r.0 (settle_at_ok settle mode) noted.1)

  pub copying_hashed : (copying : Copying) → ReliesCopying g c s last kept copying → (n : ℕ) → copying_ask copying ≡ HashOf n → (q : P)
      → last ≡ Some q → (aim_of (at_hash copying (c.hash (g.key q))) ≡ aim_of copying) × ReliesCopying g c s last last (at_hash copying (c.hash (g.key q)))
  copying_hashed (copyings.Stepping aim step) r n e q
      told = (refl, (same_relies aim r.0, step_hashed g c hashed s m keeps mode moded last kept step r.1 n e q told))
    where
      same_relies : (aim : Aim) → ReliesAim g c s last kept aim → ReliesAim g c s last last aim
      same_relies (aims.Search table) r = tt
      same_relies (aims.Settle slot) r = r
      same_relies aims.Chunk r = tt
      same_relies (aims.All met) r = tt
  copying_hashed (copyings.Lone slot settle) r n e q
      told = (refl, (r.0, settle_hashed g c hashed s m keeps mode moded slot (known slot r.0) last kept settle r.1 n e q told))

  pub copying_sized : IsCutAs mode g.chunk_of → (number : ℕ) → (copying : Copying) → ReliesCopying g c s last kept copying → (t limit : ℕ)
      → copying_ask copying ≡ SizeOf t → limit + 1 ≡ g.places t
      → (aim_of (at_size copying mode number (g.size t) limit) ≡ aim_of copying) × ReliesCopying g c s last kept (at_size copying mode number (g.size t) limit)
  copying_sized cut number (copyings.Stepping aim step) r t limit e
      most = (refl, (r.0, step_sized g c hashed s m keeps mode moded last kept cut number step r.1 t limit e most))
  copying_sized cut number (copyings.Lone slot settle) r t limit e
      most = (refl, (r.0, settle_sized g c hashed s m keeps mode moded slot (known slot r.0) last kept settle r.1 t limit e most))

  pub copying_compared : (copying : Copying) → ReliesCopying g c s last kept copying → (i n : ℕ) → copying_ask copying ≡ SamePair i n → (o q : P)
      → kept ≡ Some o → last ≡ Some q → ReliesCopied g c s last kept (aim_of copying) (at_yes copying mode (g.same (g.key o) (g.key q)))
  copying_compared (copyings.Stepping aim step) r i n e o q k told = leads_to g c s m keeps last kept mode aim r.0
      (step_at_yes step mode (g.same (g.key o) (g.key q))) (step_compared g c hashed s m keeps mode moded last kept step r.1 i n e o q k told)
  copying_compared (copyings.Lone slot settle) r i n e o q k told =
      lone_on g c s m keeps last kept slot r.0 (settle_at_yes settle mode (g.same (g.key o) (g.key q)))
      (settle_compared g c hashed s m keeps mode moded slot (known slot r.0) last kept settle r.1 i n e o q k told)

  pub copying_found : (copying : Copying) → ReliesCopying g c s last kept copying → (at : At) (old new : ℕ)
      → copying_ask copying ≡ Ask_exchange at old new → (word_of g c s at ≡ old → ⊥)
      → ReliesCopied g c s (told_last s at last) kept (aim_of copying) (at_found copying mode (word_of g c s at))
  copying_found (copyings.Stepping aim step) r at old new e other = leads_to g c s m keeps (told_last s at last) kept mode aim (same_relies aim r.0)
      (step_at_found step mode (word_of g c s at)) (step_found g c hashed s m keeps mode moded last kept step r.1 at old new e other)
    where
      same_relies : (aim : Aim) → ReliesAim g c s last kept aim → ReliesAim g c s (told_last s at last) kept aim
      same_relies (aims.Search table) r = tt
      same_relies (aims.Settle slot) r = r
      same_relies aims.Chunk r = tt
      same_relies (aims.All met) r = tt
  copying_found (copyings.Lone slot settle) r at old new e other = lone_on g c s m keeps (told_last s at last) kept slot r.0
      (settle_at_found settle slot mode (word_of g c s at))
      (settle_found g c hashed s m keeps mode moded slot (known slot r.0) last kept settle r.1 at old new e other)

  pub copying_counted : IsCutAs mode g.chunk_of → (copying : Copying) → ReliesCopying g c s last kept copying → (count initial : ℕ)
      → ReliesCopied g c s last kept (aim_of copying) (at_count copying mode count initial)
  copying_counted cut (copyings.Stepping aim step) r count initial = leads_to g c s m keeps last kept mode aim r.0
      (step_at_count step mode count initial) (step_counted g c hashed s m keeps mode moded last kept cut step r.1 count initial)
  copying_counted cut (copyings.Lone slot settle) r count initial = lone_on g c s m keeps last kept slot r.0
      (settle_at_count settle mode count initial) (settle_counted g c hashed s m keeps mode moded slot (known slot r.0) last kept cut settle r.1 count initial)

  pub copying_made : (copying : Copying) → ReliesCopying g c s last kept copying → (n : ℕ) → copying_follows copying < n
      → (aim_of (at_made copying n) ≡ aim_of copying) × ReliesCopying g c s last kept (at_made copying n)
  copying_made (copyings.Stepping aim step) r n more = (refl, (r.0, step_made g c hashed s m keeps mode moded last kept step r.1 n more))
  copying_made (copyings.Lone slot settle) r n
      more = (refl, (r.0, settle_made g c hashed s m keeps mode moded slot (known slot r.0) last kept settle r.1 n more))

  pub copying_refused : (copying : Copying) → ReliesCopying g c s last kept copying → (refused : Refused)
      → ReliesCopied g c s last kept (aim_of copying) (at_refused copying mode refused)
  copying_refused (copyings.Stepping aim step) r refused = leads_to g c s m keeps last kept mode aim r.0 (step_at_refused step mode refused)
      (step_refused g c hashed s m keeps mode moded last kept step r.1 refused)
  copying_refused (copyings.Lone slot settle) r refused = lone_on g c s m keeps last kept slot r.0 (settle_at_refused settle mode refused)
      (settle_refused g c hashed s m keeps mode moded slot (known slot r.0) last kept settle r.1 refused)

  -- an exchange that was made
  pub copying_exchanged : (e : Exchange P) → Allows g s e → (copying : Copying) → ReliesCopying g c s last kept copying → (at : At) (old new : ℕ)
      → copying_ask copying ≡ Ask_exchange at old new → word_of g c s at ≡ old → IsCopyAsked c (copying_kind copying) at new s kept e
      → ReliesCopied g c (after s e) (last_after e last) kept (aim_of copying) (at_exchanged copying mode)
  copying_exchanged e may (copyings.Stepping aim step) r at old new q stands asked =
      leads_to g c (after s e) (map_after g m e) (keeps' g c hashed s m keeps mode moded e may) (last_after e last) kept mode aim
      (same_relies aim r.0) (step_at_exchanged step mode)
      (step_exchanged g c hashed s m keeps mode moded e may last kept step r.1 at old new q stands asked)
    where
      same_relies : (aim : Aim) → ReliesAim g c s last kept aim → ReliesAim g c (after s e) (last_after e last) kept aim
      same_relies (aims.Search table) r = tt
      same_relies (aims.Settle slot) r = moving_stable g c hashed s (after s e) (zero_next g c hashed s m keeps mode moded e may)
          (later g c hashed s m keeps mode moded e may) (still_on g c hashed s m keeps mode moded e may) last kept slot r
      same_relies aims.Chunk r = tt
      same_relies (aims.All met) r = tt
  copying_exchanged e may (copyings.Lone slot settle) r at old new q stands asked =
      let still = moving_stable g c hashed s (after s e) (zero_next g c hashed s m keeps mode moded e may)
      (later g c hashed s m keeps mode moded e may) (still_on g c hashed s m keeps mode moded e may) last kept slot r.0 in
      lone_on g c (after s e) (map_after g m e) (keeps' g c hashed s m keeps mode moded e may) (last_after e last) kept slot still
      (settle_at_exchanged settle slot mode)
      (settle_exchanged g c hashed s m keeps mode moded e may slot (known slot r.0) last kept settle r.1 at old new q stands asked)

module _ {K P : Type 0} (g : Setting K P) (c : Coding K P) (hashed : IsHashed g c) (s : State P) (m : K → Option P) (keeps : IsKeeping g s m)
    (last kept : Option P) where
  -- the making of a table names words that are there
  pub link_there : (link : Link) → ReliesLink g c s link → AreThere g c s last kept (link_ask link)
  link_there (links.Sizing behind copied unfit) r = r.on
  link_there (links.Measuring behind copied unfit len) r = subst (IsOn s.first s.next) (sym r.measures)
      (linking_on g s (keeping_sound g s m keeps) r.from behind r.on r.linking)
  link_there (links.Counting behind unfit len copied) r = tt
  link_there (links.Making behind len limit chunks) r = tt
  link_there (links.Linking behind table chunks) r = r.on

  module _ (slot : SlotToCopy) (on : IsOn s.first s.next slot.from) (word : ℕ) (p : P) (marked : word ≡ code g c (Marked p)) where
    -- a table that takes the pair is on the chain
    takes_on : (n j : ℕ) → IsPutting g s slot.from slot.index p n j → IsOn s.first s.next n
    takes_on n j put = taker_on g s (keeping_sound g s m keeps).rises (g.key p) slot.from n on put.taker

    -- a place is within it
    place_there : (hash : ℕ) (at : Place) → IsFor g c s p hash at → at.probe.i < g.size at.table
    place_there hash at f = subst (λ y. y < g.size at.table) (sym f.slot) (hashed.lawful.within (g.key p) at.table at.probe.len f.within)

    carry_there : (carry : Carry) → ReliesCarry g c s last kept slot p carry → AreThere g c s last kept (carry_ask carry word)
    carry_there (carries.Hashing table) r = (p, r.0, sym (carried_number g c hashed p word marked))
    carry_there (carries.Sizing hash table) r = takes_on table 0 r.2
    carry_there (carries.Looking hash at) r = (takes_on at.table at.probe.len r.2, place_there hash at r.1)
    carry_there (carries.Reading hash at) r = (takes_on at.table at.probe.len r.2, place_there hash at r.1)
    carry_there (carries.Comparing hash at found) r =
        let h = r.3 in (
          p,
          h.pair,
          r.0,
          h.told,
          sym (carried_number g c hashed p word marked),
          sym
              (ap pair_of h.as_loaded ∙ (code_pair g c hashed.coding h.was h.pair h.names)),
        )
    carry_there (carries.Placing hash at) r = (takes_on at.table at.probe.len r.2, place_there hash at r.1)
    carry_there (carries.Placed hash at) r =
        (taker_on g s (keeping_sound g s m keeps).rises (g.key p) slot.from at.table on r.1.taker, place_there hash at r.1.fits)
    carry_there (carries.Passing hash table) r = takes_on table (g.places table) r.3
    carry_there (carries.Linking hash link) r = link_there link r.4
    carry_there (carries.Aborting table) r = takes_on table (g.places table) r.2

  settle_there : (slot : SlotToCopy) → IsKnown g c hashed s m keeps slot → (settle : Settle) → ReliesSettle g c s last kept slot settle
      → AreThere g c s last kept (settle_ask settle slot)
  settle_there slot h settles.Looking r = (h.on, h.within)
  settle_there slot h settles.Closing r = (h.on, h.within)
  settle_there slot h settles.Shutting r = (h.on, h.within)
  settle_there slot h (settles.Marking word) r = (h.on, h.within)
  settle_there slot h (settles.Carrying word carry) r = carry_there slot h.on word r.pair r.marked carry r.relies
  settle_there slot h (settles.Finishing word) r = (h.on, h.within)

  -- the tables of a source
  to_on : (from to : ℕ) → s.was_root from ≡ true → IsTarget g s from to → IsOn s.first s.next to
  to_on from to was target = target_on g s (keeping_sound g s m keeps).rises from to (root_on g c s m keeps from was) target

  step_there : (step : Step) → ReliesStep g c s last kept step → AreThere g c s last kept (step_ask step)
  step_there steps.AtRoot r = tt
  step_there (steps.Aiming from behind) r = aimed_on g c hashed s m keeps from behind r
  step_there (steps.Linking from link) r = link_there link r.2
  step_there (steps.Judging from to) r = to_on from to r.1.was r.1.target
  step_there (steps.Sizing from to) r = root_on g c s m keeps from r.was
  step_there (steps.AtChunk cursor) r = (to_on cursor.from cursor.to r.source.was r.source.target, cursor_word g c s m keeps cursor r)
  step_there (steps.Settling chunk settle) r = settle_there (slot_of chunk) (known_slot g c hashed s m keeps chunk r.0) settle r.1
  step_there (steps.Advancing cursor) r = (
    to_on cursor.from cursor.to r.chunk_read.source.was r.chunk_read.source.target,
    cursor_word g c s m keeps
        cursor r.chunk_read,
  )
  step_there (steps.Promoting from to) r = tt

  pub copying_there : (copying : Copying) → ReliesCopying g c s last kept copying → AreThere g c s last kept (copying_ask copying)
  copying_there (copyings.Stepping aim step) r = step_there step r.1
  copying_there (copyings.Lone slot settle) r = settle_there slot (moving_known g c hashed s m keeps slot r.0) settle r.1
