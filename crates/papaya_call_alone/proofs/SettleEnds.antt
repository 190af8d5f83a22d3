-- How much is left to the copy of a slot after each answer.
use Rattle.std.proofs.Common.{◌≡◌, inl, inr, ℕ, ◌+◌, ◌%◌, ◌^◌, ◌≤◌, refl, sym, ap, ◌∙◌, subst, arith}
use Rattle.papaya_words.specs.Word.{kind_of, kind_of_code, pair_of, filled_word}
use Rattle.papaya_words.specs.declared.word.Kind.{Kind}
use Rattle.papaya_words.specs.declared.word.Kind.TheVariants as word_kinds
use Rattle.papaya_words.specs.declared.resize_mode.ResizeMode.{ResizeMode}
use Rattle.papaya_words.specs.declared.resize_mode.ResizeMode.TheVariants.{Incremental, Blocking}
use Rattle.papaya_call.specs.declared.ask.At.{At}
use Rattle.papaya_call.specs.declared.ask.At.TheVariants as words_at
use Rattle.papaya_call.specs.declared.ask.Answer.TheVariants.{Exchanged}
use Rattle.papaya_call.specs.declared.copy.carry.Carried.{Carried}
use Rattle.papaya_call.specs.declared.copy.carry.Carried.TheVariants as carried
use Rattle.papaya_call.specs.declared.copy.settle.Settle.{Settle}
use Rattle.papaya_call.specs.declared.copy.settle.Settle.TheVariants as settles
use Rattle.papaya_call.specs.declared.copy.settle.SlotToCopy.{SlotToCopy}
use Rattle.papaya_call.specs.Settle.{look_at, marked_as, settle_ask, settled_by}
use Rattle.papaya_call.specs.declared.chain.ask.Answer.{Answer}
use Rattle.papaya_call.specs.declared.chain.ask.Answer.TheVariants as answers
use Rattle.papaya_call_law.specs.Alone.{IsBare, IsPut}
use Rattle.papaya_call_law.proofs.AloneSteps.{exchange_done}
use Rattle.papaya_call_alone.specs.Prompt.{IsCopyPrompt}
use Rattle.papaya_call_alone.specs.Measure.{left_of_carried, left_of_carry, left_of_settle, left_of_settled}
use Rattle.papaya_call_alone.specs.Current.{IsAlive, IsAtTarget, IsCarriedRead, IsCarrying, IsSettledRead, IsSettleRead, word_in}
use Rattle.papaya_call_alone.proofs.Afters.{carry_after, settle_after, settle_carries}
use Rattle.papaya_call_alone.proofs.CarryEnds.{IsOfRoot, carry_ends, carry_puts, still_alive}
use Rattle.papaya_call_alone.proofs.Telling.{IsPutAt, Nears, nearer}

-- a word that is marked is marked
marked_kind : (word : ℕ) → kind_of (marked_as word) ≡ word_kinds.Marked
marked_kind word = ap kind_of_code (let e : filled_word 2 (pair_of word) % 1024 ≡ 2 = omega arith in e)

module _ (mode : ResizeMode) (words : At → ℕ) (slot : SlotToCopy) where
  -- a pair is moved to the target first
  to_target : (how : ResizeMode) → IsAtTarget how slot slot.to
  to_target (Incremental chunk) = tt
  to_target Blocking = refl

  -- the outcome by the word of the slot: no more is left than this, and the words that were read
  -- are unchanged
  settle_look_within : (kind : Kind) (word : ℕ) → IsAlive mode words slot.to → word_in mode words slot ≡ word → (kind ≡ word_kinds.Empty → word ≡ 0)
      → kind_of word ≡ kind
      → (left_of_settled (look_at kind slot word) ≤ 2 ^ 66 + 2 ^ 34 + 4) × IsSettledRead mode words slot (look_at kind slot word)
  settle_look_within word_kinds.Empty word alive stands none is = (omega arith, (alive, stands ∙ none refl))
  settle_look_within word_kinds.Live word alive stands none is = (omega arith, (alive, stands))
  settle_look_within word_kinds.Marked word alive stands none is = (omega arith, (record { alive = alive; stands = stands; marked = is }, to_target mode))
  settle_look_within word_kinds.Copied word alive stands none is = (omega arith, alive)
  settle_look_within word_kinds.Buried word alive stands none is = (omega arith, alive)
  settle_look_within word_kinds.Closed word alive stands none is = (omega arith, alive)

  -- the pair was moved to a table
  finishes_within : (how : ResizeMode) (word : ℕ) → IsCarrying mode words slot word → (left_of_settled (settled_by word how carried.Carried) ≤ 1)
      × IsSettledRead mode words slot (settled_by word how carried.Carried)
  finishes_within (Incremental chunk) word h = (omega arith, (h.alive, h.stands))
  finishes_within Blocking word h = (omega arith, h.alive)

  -- the move continues
  carried_within : (word : ℕ) (end : Carried) → IsCarriedRead mode words slot word end
      → (left_of_settled (settled_by word mode end) ≤ left_of_carried end + 1) × IsSettledRead mode words slot (settled_by word mode end)
  carried_within word (carried.On carry) read = (omega arith, read)
  carried_within word carried.Carried read = finishes_within mode word read
  carried_within word (carried.Unfit table) read = (omega arith, tt)
  carried_within word (carried.Refused refused) read = (omega arith, tt)

-- it exchanges no root and counts no slots
pub settle_puts : (settle : Settle) (slot : SlotToCopy) (other : At) → IsOfRoot other → IsPutAt (settle_ask settle slot) other → ⊥
settle_puts settles.Looking slot other h e = e
settle_puts settles.Closing slot other h e = subst IsOfRoot e h
settle_puts settles.Shutting slot other h e = e
settle_puts (settles.Marking word) slot other h e = subst IsOfRoot e h
settle_puts (settles.Carrying word carry) slot other h e = carry_puts carry word other h e
settle_puts (settles.Finishing word) slot other h e = subst IsOfRoot e h

module _ (mode : ResizeMode) (initial : ℕ) (words words' : At → ℕ) (bare : IsBare words') (slot : SlotToCopy) where
  -- after this answer
  abbrev pub SettleEnds : Settle → Answer → Type 0
  SettleEnds settle answer = Nears answer (left_of_settled (settle_after settle slot mode initial answer)) (left_of_settle settle)
      × IsSettledRead mode words' slot (settle_after settle slot mode initial answer)

  -- the word of the slot
  abbrev here : At
  here = words_at.Slot slot.from slot.index

  -- its exchange leaves the target
  left_alive : (new : ℕ) → IsAlive mode words slot.to → IsPut words here new words' → IsAlive mode words' slot.to
  left_alive new alive put = still_alive mode words words' slot 0 mode alive (put.others (words_at.Aborted slot.to) (λ e. cc))

  -- in each state
  pub settle_ends : (settle : Settle) (answer : Answer) → IsSettleRead mode words slot settle
      → IsCopyPrompt words (settle_ask settle slot) answer words' → SettleEnds settle answer
  settle_ends settles.Looking answer read told =
      let f = settle_look_within mode words' slot (kind_of (words here)) (words here)
      (still_alive mode words words' slot 0 mode read (told.1 (words_at.Aborted slot.to))) (told.1 here)
      (λ e. sym (told.1 here) ∙ bare slot.from slot.index (ap kind_of (told.1 here) ∙ e)) refl in
      let l = f.0 in
      subst (SettleEnds settles.Looking) (sym told.0.0) (inr (omega (arith, l)), f.1)
  settle_ends settles.Closing answer read told =
      let done : (answer ≡ answers.Call Exchanged) × IsPut words here 5 words' = exchange_done _ _ (words here) 0 read.1 told in
      subst (SettleEnds settles.Closing) (sym done.0) (inl tt, left_alive 5 read.0 done.1)
  settle_ends settles.Shutting answer read told =
      subst (SettleEnds settles.Shutting) (sym told.0) (inr (omega arith), still_alive mode words words' slot 0 mode read (told.1 (words_at.Aborted slot.to)))
  settle_ends (settles.Marking word) answer read told =
      let done : (answer ≡ answers.Call Exchanged) × IsPut words here _ words' = exchange_done _ _ (words here) word read.1 told in
      subst (SettleEnds (settles.Marking word)) (sym done.0)
      (inl tt, (record { alive = left_alive _ read.0 done.1; stands = done.1.here; marked = marked_kind word }, to_target mode words' slot mode))
  settle_ends (settles.Carrying word carry) answer read told =
      let e = carry_ends mode initial words words' bare slot word carry answer read.0 read.1 told in
      let end : Carried = carry_after carry mode initial answer in
      let f = carried_within mode words' slot word end e.1 in
      subst (λ y. Nears answer (left_of_settled y) (left_of_carry carry + 1) × IsSettledRead mode words' slot y)
      (sym (settle_carries mode initial slot word carry answer))
      (nearer answer (left_of_carried end) (left_of_carry carry) _ _ e.0 (λ less. let l = f.0 in omega (arith, l, less)), f.1)
  settle_ends (settles.Finishing word) answer read told =
      let done : (answer ≡ answers.Call Exchanged) × IsPut words here _ words' = exchange_done _ _ (words here) word read.1 told in
      subst (SettleEnds (settles.Finishing word)) (sym done.0) (inl tt, left_alive _ read.0 done.1)
