-- How much is left to the move of a pair after each answer.
use Rattle.std.proofs.Common.{◌≡◌, ◌⊎◌, inl, inr, ℕ, ◌+◌, ◌*◌, ◌-◌, ◌^◌, ◌<◌, ◌≤◌, ◌==◌, nat_lt}
use Rattle.std.proofs.Common.{ltb-true, Bool, true, false, refl, sym, ap, ◌∙◌, subst, arith}
use Rattle.std.proofs.Common.{eqb-true}
use Rattle.std.proofs.lemmas.Bool.{cond_both}
use Rattle.papaya_words.specs.Word.{kind_of, may_hold}
use Rattle.papaya_words.specs.declared.word.Kind.{Kind}
use Rattle.papaya_words.specs.declared.word.Kind.TheVariants as word_kinds
use Rattle.papaya_words.specs.declared.resize_mode.ResizeMode.{ResizeMode}
use Rattle.papaya_words.specs.declared.resize_mode.ResizeMode.TheVariants.{Incremental, Blocking}
use Rattle.papaya_call.specs.declared.ask.At.{At}
use Rattle.papaya_call.specs.declared.ask.At.TheVariants as words_at
use Rattle.papaya_call.specs.declared.ask.Answer.TheVariants.{Exchanged}
use Rattle.papaya_call.specs.declared.search.Place.{Place}
use Rattle.papaya_call.specs.Search.{next_place}
use Rattle.papaya_call.specs.declared.copy.carry.Carried.{Carried}
use Rattle.papaya_call.specs.declared.copy.carry.Carried.TheVariants as carried
use Rattle.papaya_call.specs.declared.copy.carry.Carry.{Carry}
use Rattle.papaya_call.specs.declared.copy.carry.Carry.TheVariants as carries
use Rattle.papaya_call.specs.declared.copy.link.Link.TheVariants as links
use Rattle.papaya_call.specs.declared.copy.link.Linked.{Linked}
use Rattle.papaya_call.specs.declared.copy.link.Linked.TheVariants as linked
use Rattle.papaya_call.specs.declared.copy.settle.SlotToCopy.{SlotToCopy}
use Rattle.papaya_call.specs.Carry.{carried_on, carry_ask, compared, fills, goes_on, hinted, look_at, passed}
use Rattle.papaya_call.specs.Link.{link_ask}
use Rattle.papaya_call.specs.declared.chain.ask.Answer.{Answer}
use Rattle.papaya_call.specs.declared.chain.ask.Answer.TheVariants as answers
use Rattle.papaya_call.specs.ChainMachine.{link_after}
use Rattle.papaya_call_law.specs.Alone.{IsBare, IsPut, IsSame}
use Rattle.papaya_call_law.proofs.AloneSteps.{exchange_done}
use Rattle.papaya_call_alone.specs.Prompt.{IsCopyPrompt, IsNumber}
use Rattle.papaya_call_alone.specs.Measure.{further, left_of_carried, left_of_carry, left_of_link, left_of_linked}
use Rattle.papaya_call_alone.specs.Current.{IsAlive, IsAtTarget, IsCarriedRead, IsCarrying, IsCarryRead, IsIncremental, IsLinkedRead, word_in}
use Rattle.papaya_call_alone.proofs.Afters.{carry_after, carry_links}
use Rattle.papaya_call_alone.proofs.LinkEnds.{IsNoNext, link_ends, link_puts}
use Rattle.papaya_call_alone.proofs.Telling.{IsPutAt, Nears, nearer, stays_at}

-- the words of the root and of chunks
abbrev pub IsOfRoot : At → Type 0
IsOfRoot words_at.Root = Unit {0}
IsOfRoot (words_at.Done t chunk) = Unit {0}
IsOfRoot _ = ⊥

-- the marked word isn't that of an empty slot
marked_some : (word : ℕ) → kind_of word ≡ word_kinds.Marked → word ≡ 0 → ⊥
marked_some word marked none = let empty : kind_of word ≡ word_kinds.Empty = ap kind_of none in cc (marked, empty)

-- it exchanges neither
pub carry_puts : (carry : Carry) (word : ℕ) (other : At) → IsOfRoot other → IsPutAt (carry_ask carry word) other → ⊥
carry_puts (carries.Hashing table) word other h e = e
carry_puts (carries.Sizing hash table) word other h e = e
carry_puts (carries.Looking hash at) word other h e = e
carry_puts (carries.Reading hash at) word other h e = e
carry_puts (carries.Comparing hash at found) word other h e = e
carry_puts (carries.Placing hash at) word other h e = subst IsOfRoot e h
carry_puts (carries.Placed hash at) word other h e = e
carry_puts (carries.Passing hash table) word other h e = e
carry_puts (carries.Linking hash link) word other h e = link_puts link other (no_next other h) e
  where
    no_next : (other : At) → IsOfRoot other → IsNoNext other
    no_next words_at.Root h = tt
    no_next (words_at.Next t) h = h
    no_next (words_at.Aborted t) h = tt
    no_next (words_at.Done t chunk) h = tt
    no_next (words_at.Slot t i) h = tt
    no_next words_at.Made h = absurd h
carry_puts (carries.Aborting table) word other h e = subst IsOfRoot e h

module _ (mode : ResizeMode) (words words' : At → ℕ) (slot : SlotToCopy) (word : ℕ) where
  -- the slot still holds the marked word, and its target was not given up
  pub still_alive : (how : ResizeMode) → IsAlive how words slot.to → words' (words_at.Aborted slot.to) ≡ words (words_at.Aborted slot.to)
      → IsAlive how words' slot.to
  still_alive (Incremental chunk) alive same = tt
  still_alive Blocking alive same = same ∙ alive

  -- if neither was exchanged
  still : IsCarrying mode words slot word → words' (words_at.Aborted slot.to) ≡ words (words_at.Aborted slot.to)
      → word_in mode words' slot ≡ word_in mode words slot → IsCarrying mode words' slot word
  still h same there = record { alive = still_alive mode h.alive same; stands = there ∙ h.stands; marked = h.marked }

  same_still : IsCarrying mode words slot word → IsSame words words' → IsCarrying mode words' slot word
  same_still h same = still h (same (words_at.Aborted slot.to)) (same (words_at.Slot slot.from slot.index))

module _ (mode : ResizeMode) (words : At → ℕ) (bare : IsBare words) (slot : SlotToCopy) (word : ℕ) (h : IsCarrying mode words slot word) where
  -- no more is left than this, and the words that were read are unchanged
  abbrev Within : ℕ → Carried → Type 0
  Within most end = (left_of_carried end ≤ most) × IsCarriedRead mode words slot word end

  -- no place is left
  filled : (how : ResizeMode) (hash table : ℕ) → IsAtTarget how slot table → IsAlive how words slot.to
      → (left_of_carry (fills hash table how) ≤ further table * 2 ^ 34 + 6) × IsCarryRead how words slot (fills hash table how)
  filled (Incremental chunk) hash table here alive = (omega arith, tt)
  filled Blocking hash table here alive = (omega arith, ap (λ t. words (words_at.Aborted t)) here ∙ alive)

  -- the key is not at this place
  goes_within : (hash : ℕ) (at : Place) → IsAtTarget mode slot at.table
      → Within (further at.table * 2 ^ 34 + 3 * (at.limit - at.probe.len) + 6) (goes_on hash at mode)
  goes_within hash at here =
      cond_both (nat_lt at.probe.len at.limit) (carried.On (carries.Looking hash (next_place at))) (carried.On (fills hash at.table mode))
      (Within (further at.table * 2 ^ 34 + 3 * (at.limit - at.probe.len) + 6))
      (λ more. let l : at.probe.len < at.limit = ltb-true at.probe.len at.limit more in (omega arith, (h, here)))
      (λ over. let f = filled mode hash at.table here h.alive in let l = f.0 in (omega (arith, l), (h, f.1)))

  -- a hint makes the load of the word unnecessary, or the word is loaded next
  hinted_within : (hash : ℕ) (at : Place) (hint : ℕ) → IsAtTarget mode slot at.table
      → Within (further at.table * 2 ^ 34 + 3 * (at.limit - at.probe.len) + 8) (hinted hash at mode hint)
  hinted_within hash at hint here =
      cond_both (may_hold hint hash) (carried.On (carries.Reading hash at)) (goes_on hash at mode)
      (Within (further at.table * 2 ^ 34 + 3 * (at.limit - at.probe.len) + 8))
      (λ same. (omega arith, (h, here)))
      (λ other. let f = goes_within hash at here in let l = f.0 in (omega (arith, l), f.1))

  -- the outcome by the word at a place
  look_within : (kind : Kind) (hash : ℕ) (at : Place) (found : ℕ) → words (words_at.Slot at.table at.probe.i) ≡ found
      → (kind ≡ word_kinds.Empty → found ≡ 0) → IsAtTarget mode slot at.table
      → Within (further at.table * 2 ^ 34 + 3 * (at.limit - at.probe.len) + 7) (look_at kind hash at mode found)
  look_within word_kinds.Empty hash at found stands none here = (omega arith, (h, stands ∙ none refl))
  look_within word_kinds.Live hash at found stands none here = (omega arith, (h, here))
  look_within word_kinds.Marked hash at found stands none here = (omega arith, (h, here))
  look_within word_kinds.Copied hash at found stands none here = (omega arith, (h, here))
  look_within word_kinds.Buried hash at found stands none here = (omega arith, (h, here))
  look_within word_kinds.Closed hash at found stands none here = let f = goes_within hash at here in let l = f.0 in (omega (arith, l), f.1)

  -- the keys match, or they do not
  compared_within : (hash : ℕ) (at : Place) (same : Bool) → IsAtTarget mode slot at.table
      → Within (further at.table * 2 ^ 34 + 3 * (at.limit - at.probe.len) + 6) (compared hash at mode same)
  compared_within hash at true here = (omega arith, h)
  compared_within hash at false here = goes_within hash at here

  -- without blocking each table is a target
  any_target : (how : ResizeMode) (t : ℕ) → IsIncremental how → IsAtTarget how slot t
  any_target (Incremental chunk) t inc = tt
  any_target Blocking t inc = absurd inc

  -- the move continues after the making of a table
  linked_within : (hash : ℕ) (l : Linked) → IsIncremental mode → IsLinkedRead words l → Within (left_of_linked l) (carried_on hash l)
  linked_within hash (linked.On link) inc read = (omega arith, (h, (inc, read)))
  linked_within hash (linked.Table table) inc read = (omega arith, (h, any_target mode table inc))
  linked_within hash (linked.Refused refused) inc read = (omega arith, tt)

  -- a next table is further on
  passed_within : (hash table next : ℕ) → IsIncremental mode → words (words_at.Next table) ≡ next → IsNumber words (words_at.Next table)
      → Within (further table * 2 ^ 34 + 5) (carried.On (passed hash table next))
  passed_within hash table next inc is number =
      cond_both (next == 0) (carries.Linking hash (links.Sizing table table true)) (carries.Sizing hash next)
      (λ y. Within (further table * 2 ^ 34 + 5) (carried.On y))
      (λ none. (omega arith, (h, (inc, is ∙ eqb-true next 0 none))))
      (λ some. (lower number some, (h, any_target mode next inc)))
    where
      lower : IsNumber words (words_at.Next table) → (next == 0) ≡ false → further next * 2 ^ 34 + 2 ^ 34 + 1 ≤ further table * 2 ^ 34 + 5
      lower (inl none) some = absurd (let z : next ≡ 0 = sym is ∙ none in let y : (next == 0) ≡ true = ap (λ n. n == 0) z in cc (y, some))
      lower (inr more) some = let a = more.0 in let b = more.1 in omega (arith, a, b, is)

module _ (mode : ResizeMode) (initial : ℕ) (words words' : At → ℕ) (bare : IsBare words') (slot : SlotToCopy) (word : ℕ) where
  -- after this answer
  abbrev pub CarryEnds : Carry → Answer → Type 0
  CarryEnds carry answer = Nears answer (left_of_carried (carry_after carry mode initial answer)) (left_of_carry carry)
      × IsCarriedRead mode words' slot word (carry_after carry mode initial answer)

  -- in each state
  pub carry_ends : (carry : Carry) (answer : Answer) → IsCarrying mode words slot word → IsCarryRead mode words slot carry
      → IsCopyPrompt words (carry_ask carry word) answer words' → CarryEnds carry answer
  carry_ends (carries.Hashing table) answer h read told = subst (CarryEnds (carries.Hashing table)) (sym told.0.1)
      (inr (omega arith), (same_still mode words words' slot word h told.1, read))
  carry_ends (carries.Sizing hash table) answer h read told =
      let (slots, limit, size, e) = told.0 in
      subst (CarryEnds (carries.Sizing hash table)) (sym e)
      (inr (let few = size.few in omega (arith, few)), (same_still mode words words' slot word h told.1, read))
  carry_ends (carries.Looking hash at) answer h read told =
      let f = hinted_within mode words' bare slot word (same_still mode words words' slot word h told.1) hash at told.0.0 read in
      let l = f.0 in
      subst (CarryEnds (carries.Looking hash at)) (sym told.0.1) (inr (omega (arith, l)), f.1)
  carry_ends (carries.Reading hash at) answer h read told =
      let there : At = words_at.Slot at.table at.probe.i in
      let f = look_within mode words' bare slot word (same_still mode words words' slot word h told.1) (kind_of (words there)) hash at (words there)
      (told.1 there) (λ e. sym (told.1 there) ∙ bare at.table at.probe.i (ap kind_of (told.1 there) ∙ e)) read in
      let l = f.0 in
      subst (CarryEnds (carries.Reading hash at)) (sym told.0.0) (inr (omega (arith, l)), f.1)
  carry_ends (carries.Comparing hash at found) answer h read told =
      let f = compared_within mode words' bare slot word (same_still mode words words' slot word h told.1) hash at told.0.0 read in
      let l = f.0 in
      subst (CarryEnds (carries.Comparing hash at found)) (sym told.0.1) (inr (omega (arith, l)), f.1)
  carry_ends (carries.Placing hash at) answer h read told =
      let there : At = words_at.Slot at.table at.probe.i in
      let done : (answer ≡ answers.Call Exchanged) × IsPut words there _ words' = exchange_done _ _ (words there) 0 read told in
      subst (CarryEnds (carries.Placing hash at)) (sym done.0) (
        inl tt,
        (
          still mode words words' slot word h (done.1.others (words_at.Aborted slot.to) (λ e. cc))
              (done.1.others (words_at.Slot slot.from slot.index)
              (λ (e : words_at.Slot slot.from slot.index ≡ there). let s = h.stands in
              let z : words (words_at.Slot slot.from slot.index) ≡ 0 = ap words e ∙ read in marked_some word h.marked (sym s ∙ z))),
          tt,
        ),
      )
  carry_ends (carries.Placed hash at) answer h read told = subst (CarryEnds (carries.Placed hash at)) (sym told.0)
      (inr (omega arith), same_still mode words words' slot word h told.1)
  carry_ends (carries.Passing hash table) answer h read told =
      let f = passed_within mode words' bare slot word (same_still mode words words' slot word h told.1) hash table (words (words_at.Next table)) read
      (told.1 (words_at.Next table)) (subst (λ n. (n ≡ 0) ⊎ ((table < n) × (n ≤ 2 ^ 32))) (sym (told.1 (words_at.Next table))) told.0.1) in
      let l = f.0 in
      subst (CarryEnds (carries.Passing hash table)) (sym told.0.0) (inr (omega (arith, l)), f.1)
  carry_ends (carries.Linking hash link) answer h read told =
      let e = link_ends mode words words' initial link answer read.1 told in
      let other : (x : At) → (IsPutAt (link_ask link) x → ⊥) → words' x ≡ words x = stays_at words words' answer (link_ask link) told in
      let f = linked_within mode words' bare slot word
      (still mode words words' slot word h (other (words_at.Aborted slot.to) (link_puts link (words_at.Aborted slot.to) tt))
      (other (words_at.Slot slot.from slot.index) (link_puts link (words_at.Slot slot.from slot.index) tt))) hash
      (link_after link mode initial answer) read.0 e.1 in
      subst (λ y. Nears answer (left_of_carried y) (left_of_link link) × IsCarriedRead mode words' slot word y)
      (sym (carry_links mode initial hash link answer))
      (nearer answer (left_of_linked (link_after link mode initial answer)) (left_of_link link) _ _ e.0 (λ less. let l = f.0 in omega (arith, l, less)), f.1)
  carry_ends (carries.Aborting table) answer h read told =
      let done : (answer ≡ answers.Call Exchanged)
      × IsPut words (words_at.Aborted table) 1 words' = exchange_done _ _ (words (words_at.Aborted table)) 0 read told in
      subst (CarryEnds (carries.Aborting table)) (sym done.0) (inl tt, tt)
