-- The asks of a copy for a call that is set aside may be answered, and after each answer the call
-- relies on facts that hold.
use Rattle.std.proofs.Common.{◌≡◌, ◌⊎◌, inl, inr, ⊎_elim, ℕ, ◌<◌, ◌==◌, Bool, true, false}
use Rattle.std.proofs.Common.{if◌then◌else◌, MatchBool, Option, List, [], append-nil, refl, sym, ap}
use Rattle.std.proofs.Common.{◌∙◌, subst}
use Rattle.std.specs.Cmp.{IsEquivalence}
use mathlib.Core.List.{IsPrefix}
use Rattle.logbook.specs.Pages.{Book}
use Rattle.papaya_words.specs.declared.refused.Refused.{Refused}
use Rattle.papaya_words.specs.declared.refused.Refused.TheVariants.{Capacity, Memory}
use Rattle.papaya_call.specs.declared.ask.At.{At}
use Rattle.papaya_call.specs.declared.ask.At.TheVariants.{Root, Next, Aborted, Done, Slot, Made as Made_word}
use Rattle.papaya_call.specs.declared.ask.Answer.{Answer as Call_answer}
use Rattle.papaya_call.specs.declared.ask.Answer.TheVariants.{Exchanged, Found as Found_instead, Made as Made_number, Refused as Was_refused, Yes}
use Rattle.papaya_call.specs.declared.copy_ask.CopyAsk.{CopyAsk}
use Rattle.papaya_call.specs.declared.copy_ask.CopyAsk.TheVariants as copies
use Rattle.papaya_call.specs.Link.{IsFitCopyAsk}
use Rattle.papaya_call.specs.declared.chain.ask.Answer.{Answer}
use Rattle.papaya_call.specs.declared.chain.ask.Answer.TheVariants as answers
use Rattle.papaya_call.specs.declared.chain.ask.Ask.TheVariants as asks
use Rattle.papaya_call.specs.ChainMachine.{IsValid, after, ask_of, follows_of, kind_of_ask}
use Rattle.papaya_call_law.specs.Goes.{link_in}
use Rattle.papaya_call_law.proofs.LinkMade.{IsMadeLink}
use Rattle.papaya_call_law.proofs.LinkStates.{In}
use Rattle.papaya_call_law.specs.Copier.{AreThere, IsThere}
use Rattle.papaya_call_law.specs.TrueAnswers.{or_last}
use Rattle.papaya_map_book.specs.declared.rule.entry.Begun.{Begun}
use Rattle.papaya_map_book.specs.declared.rule.entry.Event.{Event}
use Rattle.papaya_map_book.specs.Hashes.{hash_of}
use Rattle.papaya_map_book.specs.Limits.{IsFull}
use Rattle.papaya_map_book.specs.Logs.{Stored, state_of, steps_of}
use Rattle.papaya_map_book.proofs.TableSizes.{sizes, words_of}
use Rattle.papaya_map_change.specs.declared.copier.Copier.{Copier}
use Rattle.papaya_map_change.specs.declared.driver.Driver.{Driver}
use Rattle.papaya_map_change.specs.Changing.{IsDriven, IsForm, IsReadyAs}
use Rattle.papaya_map_change.specs.Copier.{AnswersExchange, AnswersTo, CanAnswerTo, CanExchangeFor}
use Rattle.papaya_map_change.specs.Copier.{HasMade, IsHandLeft, IsReached, marked_or}
use Rattle.papaya_map_change.specs.Going.{with_copier}
use Rattle.papaya_map_change.specs.Helping.{HasCopied, IsTriedFor}
use Rattle.papaya_map_change.proofs.CopyKinds.{phase_keeps}
use Rattle.papaya_map_change.proofs.HelpingAnswers.{as_loaded, beaten, compared, counted, exchanged}
use Rattle.papaya_map_change.proofs.HelpingAnswers.{follows_came, hand_kept, hand_tried, hashed, hinted}
use Rattle.papaya_map_change.proofs.HelpingAnswers.{linking, may_try, noted, ready, size_came, sized}
use Rattle.papaya_map_change.proofs.HelpingAnswers.{tabled, try_came, unmade}
use Rattle.papaya_map_change.proofs.HelpingExchanges.{C, G, can_link}
use Rattle.papaya_map_change.proofs.HelpingPlaces.{all_there, chain_came, may_note}

module _ {K V S H : Type 0} (eq : K → K → Bool) (input : K → List (List ℕ)) (build : S → H) (write : H → List ℕ → H) (finish : H → ℕ)
    (classes : IsEquivalence eq) (respects : (x y : K) → eq x y ≡ true → input x ≡ input y)
    (b : Begun K V S) (name : Book) (matches : K → Bool) (fed : ℕ) (form : IsForm eq (hash_of input build write finish) b matches fed) (k : Option K)
    (begun : List (Event K V S)) (made : List (Stored K V)) (v : List (Event K V S)) (c : Driver K V S H)
    (r : IsDriven eq (hash_of input build write finish) b name matches fed k begun v made c) where
  abbrev hash : S → K → ℕ
  hash = hash_of input build write finish

  abbrev there : (ask : CopyAsk) → ask_of c.machine ≡ asks.Copy ask
      → AreThere (G eq input build write finish classes respects b name matches fed form k begun v c.machine c.table c.copier.last c.copier.kept made c.taken c.put
      c.copier.fresh r v) (C eq input build write finish classes respects b name matches fed form k begun v c.machine c.table c.copier.last c.copier.kept made c.taken c.put
      c.copier.fresh r) (state_of v) c.copier.last c.copier.kept ask
  there = all_there eq input build write finish classes respects b name matches fed form k begun v c.machine c.table c.copier.last c.copier.kept made c.taken c.put c.copier.fresh r

  -- if a word is named, its table has come
  reached : (at : At) → IsThere (G eq input build write finish classes respects b name matches fed form k begun v c.machine c.table c.copier.last c.copier.kept made
      c.taken c.put c.copier.fresh r v) (C eq input build write finish classes respects b name matches fed form k begun v c.machine c.table c.copier.last c.copier.kept made
      c.taken c.put c.copier.fresh r) (state_of v) c.copier.last c.copier.kept at → IsReached v at
  reached Root is = tt
  reached (Next t) is = chain_came v t is
  reached (Aborted t) is = chain_came v t is
  reached (Done t i) is =
      let came = chain_came v t is.0 in
      (came.0, came.1, subst (λ (n : ℕ). i < n) (words_of (steps_of v) t came.0 came.1) is.1)
  reached (Slot t x) is =
      let came = chain_came v t is.0 in
      (came.0, came.1, subst (λ (n : ℕ). x < n) (sizes (steps_of v) t came.0 came.1).0 is.1)
  reached Made_word is = absurd is

  abbrev Can : CopyAsk → Type 0
  Can ask = CanAnswerTo eq hash b name ask (kind_of_ask c.machine) (follows_of c.machine) v c.copier

  can_exchange : (at : At) (old new : ℕ) → ask_of c.machine ≡ asks.Copy (copies.Exchange at old new)
      → CanExchangeFor eq hash b name at (kind_of_ask c.machine) old new v c.copier
  can_exchange (Next t) old new asked =
      let l = linking eq input build write finish classes respects b name matches fed form k begun made v c r t old new asked in (
        record {
          come = try_came eq input build write finish classes respects b name matches fed form k begun made v c r (Next t) old new asked;
          fresh = l.fresh;
          can = λ w seal is.
              can_link eq input build write finish classes respects b name matches fed form k begun v c.machine c.table c.copier.last c.copier.kept made c.taken
              c.put c.copier.fresh r t old new asked l.kind l.none l.chunks l.link l.words w seal is
              (ready eq input build write finish classes respects b name matches fed form k begun made v c r t old new asked w seal is).number_is v
              ([], append-nil v);
        },
        l.kind,
        l.none,
      )
  can_exchange Root old new asked = (
    tt,
    (
      may_try eq input build write finish classes respects b name matches fed form k begun made v c r Root old new
          asked (λ t e. cc e) v ([], append-nil v),
      tt,
    ),
  )
  can_exchange (Aborted t) old new asked = (
    reached (Aborted t) (there (copies.Exchange (Aborted t) old new) asked),
    (
      may_try eq input build write finish classes respects b name matches fed
          form k begun made v c r (Aborted t) old new asked (λ t e. cc e) v ([], append-nil v),
      tt,
    ),
  )
  can_exchange (Done t i) old new asked = (
    reached (Done t i) (there (copies.Exchange (Done t i) old new) asked),
    (
      may_try eq input build write finish
          classes respects b name matches fed form k begun made v c r (Done t i) old new asked (λ t e. cc e) v ([], append-nil v),
      tt,
    ),
  )
  can_exchange (Slot t x) old new asked = (
    reached (Slot t x) (there (copies.Exchange (Slot t x) old new) asked),
    (
      may_try eq input build write finish
          classes respects b name matches fed form k begun made v c r (Slot t x) old new asked (λ t e. cc e) v ([], append-nil v),
      phase_keeps t x c.machine.call c.machine.phase (copies.Exchange (Slot t x) old new) asked,
    ),
  )
  can_exchange Made_word old new asked = absurd (there (copies.Exchange Made_word old new) asked)

  pub can_answer : (ask : CopyAsk) → ask_of c.machine ≡ asks.Copy ask → IsFitCopyAsk ask → Can ask
  can_answer (copies.Load at) asked fit = reached at (there (copies.Load at) asked)
  can_answer (copies.Exchange at old new) asked fit = can_exchange at old new asked
  can_answer (copies.LoadHint t x) asked fit = reached (Slot t x) (there (copies.LoadHint t x) asked)
  can_answer (copies.WriteHint t x n) asked
      fit = (
        reached (Slot t x) (there (copies.WriteHint t x n) asked),
        may_note eq input build write finish classes respects b name matches fed form k
            begun v c.machine c.table c.copier.last c.copier.kept made c.taken c.put c.copier.fresh r t x n asked,
      )
  can_answer (copies.SizeOf t) asked fit = size_came eq input build write finish classes respects b name matches fed form k begun made v c r t asked
  can_answer (copies.HashOf n) asked fit = let p = there (copies.HashOf n) asked in record { some = (p.0, p.1); placed = r.last_placed }
  can_answer (copies.SamePair m n) asked fit = let p = there (copies.SamePair m n) asked in
      (record { some = (p.0, p.2); placed = r.kept_placed }, record { some = (p.1, p.3); placed = r.last_placed })
  can_answer copies.Count asked fit = tt
  can_answer (copies.MakeTable slots limit chunks) asked
      fit = (λ some. follows_came eq input build write finish classes respects b name matches fed form k begun made v c r slots limit chunks asked, fit)

  module _ (valid : IsValid c.machine) (log : List (Event K V S)) (pre : IsPrefix v log) (h : Copier K V S H) where
    -- the call after it took back the state of its copier
    abbrev c' : Driver K V S H
    c' = with_copier c h

    abbrev Leaves : List (Event K V S) → Answer → Type 0
    Leaves l answer = HasCopied eq hash b name matches fed k begun made l c c' answer

    module _ (at : At) (old new : ℕ) (asked : ask_of c.machine ≡ asks.Copy (copies.Exchange at old new)) (found : ℕ) (pair : Option (Stored K V))
        (t : IsTriedFor eq hash b name at (kind_of_ask c.machine) old new c.copier.kept c.copier.fresh v found log pair) where
      -- the table at hand, after an attempt to exchange
      abbrev Hand : Call_answer → Type 0
      Hand told = In (IsMadeLink (IsReadyAs b name log h.fresh)) (link_in (after c.machine (answers.Call told)).phase)

      not_made : (told : Call_answer) → (told ≡ Exchanged) ⊎ ((word : ℕ) × (told ≡ Found_instead word)) → (n : ℕ) → told ≡ Made_number n → ⊥
      not_made told (inl is) n e = let f : Exchanged ≡ Made_number n = sym is ∙ e in cc f
      not_made told (inr (word, is)) n e = let f : Found_instead word ≡ Made_number n = sym is ∙ e in cc f

      stays : (told : Call_answer) → (told ≡ Exchanged) ⊎ ((word : ℕ) × (told ≡ Found_instead word)) → h.fresh ≡ c.copier.fresh → Hand told
      stays told is same = hand_kept eq input build write finish classes respects b name matches fed form k begun made v c r valid at old new asked
          found log pair t c' told (not_made told is) pre same

      hand : (place : At) → at ≡ place → IsHandLeft place c.copier.fresh h.fresh → (told : Call_answer) → (told ≡ Exchanged)
          ⊎ ((word : ℕ) × (told ≡ Found_instead word)) → Hand told
      hand (Next i) e left told is = hand_tried eq input build write finish classes respects b name matches fed form k begun made v c r valid i old
          new (asked ∙ ap (λ (a : At). asks.Copy (copies.Exchange a old new)) e) log h.fresh told is
      hand Root e left told is = stays told is left
      hand (Aborted i) e left told is = stays told is left
      hand (Done i j) e left told is = stays told is left
      hand (Slot i x) e left told is = stays told is left
      hand Made_word e left told is = stays told is left

      ended : (z : Bool) → (found == old) ≡ z → h.kept ≡ c.copier.kept
          → MatchBool z (h.last ≡ marked_or (kind_of_ask c.machine) pair c.copier.last) (h.last ≡ or_last pair c.copier.last) → IsHandLeft at c.copier.fresh h.fresh
          → Leaves log (if z then answers.Call Exchanged else answers.Call (Found_instead found))
      ended true is kept last left = exchanged eq input build write finish classes respects b name matches fed form k begun made v c r valid at old
          new asked found log pair t c' is refl refl kept last (hand at refl left Exchanged (inl refl))
      ended false is kept last left = beaten eq input build write finish classes respects b name matches fed form k begun made v c r valid at old
          new asked found log pair t c' is refl refl kept last (hand at refl left (Found_instead found) (inr (found, refl)))

    tried_on : (at : At) (old new : ℕ) → ask_of c.machine ≡ asks.Copy (copies.Exchange at old new) → (answer : Answer)
        → AnswersExchange eq hash b name at (kind_of_ask c.machine) old new v c.copier log h answer → Leaves log answer
    tried_on at old new asked answer a = subst (Leaves log) (sym a.is)
        (ended at old new asked a.found a.tried.pair a.tried.tried (a.found == old) refl (ap (λ (z : Copier K V S H). z.kept) a.rest) a.tried.last_is a.hand)

    -- after each answer the call relies on facts that hold
    pub copied : (ask : CopyAsk) → ask_of c.machine ≡ asks.Copy ask → (answer : Answer)
        → AnswersTo eq hash b name ask (kind_of_ask c.machine) (follows_of c.machine) v c.copier log h answer → Leaves log answer
    copied (copies.Load at) asked answer a = subst (Leaves log) (sym a.is)
        (as_loaded eq input build write finish classes respects b name matches fed form k begun made v c r valid at asked log pre a.word c'
        (ap (with_copier c) a.rest) a.as_loaded)
    copied (copies.Exchange at old new) asked answer a = tried_on at old new asked answer a
    copied (copies.LoadHint t x) asked answer a = subst (Leaves log) (sym a.is)
        (hinted eq input build write finish classes respects b name matches fed form k begun made v c r valid t x asked log pre a.hint a.hinted c'
        (ap (with_copier c) a.rest))
    copied (copies.WriteHint t x n) asked answer a = subst (Leaves log) (sym a.is)
        (noted eq input build write finish classes respects b name matches fed form k begun made v c r valid t x n asked log a.lawful pre c'
        (ap (with_copier c) a.rest))
    copied (copies.SizeOf t) asked answer a = subst (Leaves log) (sym a.is)
        (sized eq input build write finish classes respects b name matches fed form k begun made v c r valid t asked log a.size_of.lawful pre
        a.size_of.sheet a.size_of.table a.size.0 a.size.1 a.size_of.len a.size_of.limit c' (ap (with_copier c) a.rest))
    copied (copies.HashOf n) asked answer a = subst (Leaves log) (sym a.is)
        (subst (λ (l : List (Event K V S)). Leaves l (answers.Hash a.word)) (sym a.still)
        (hashed eq input build write finish classes respects b name matches fed form k begun made v c r valid n asked a.word a.carries.hash_is c'
        (ap (with_copier c) a.rest) a.carries.kept))
    copied (copies.SamePair i n) asked answer a = subst (Leaves log) (sym a.is)
        (subst (λ (l : List (Event K V S)). Leaves l (answers.Call (Yes a.same))) (sym a.still)
        (compared eq input build write finish classes respects b name matches fed form k begun made v c r valid i n asked a.same a.same_is c'
        (ap (with_copier c) a.rest)))
    copied copies.Count asked answer a = subst (Leaves log) (sym a.is)
        (subst (λ (l : List (Event K V S)). Leaves l (answers.Count a.sum)) (sym a.still)
        (counted eq input build write finish classes respects b name matches fed form k begun made v c r valid asked a.sum c'
        (ap (with_copier c) a.rest) a.given_is))
    copied (copies.MakeTable slots limit chunks) asked answer a =
        ⊎_elim
        (λ (y : (number : ℕ) × (answer ≡ answers.Call (Made_number number)) × HasMade eq hash b name number (follows_of c.machine) chunks log h).
        subst (Leaves log) (sym y.1) (tabled eq input build write finish classes respects b name matches fed form k begun made v c r valid slots
        limit chunks asked log a.lawful pre c' (ap (with_copier c) a.rest) y.0 y.2.past (y.2.fresh, y.2.words)))
        (λ (n : (refused : Refused) × (answer ≡ answers.Call (Was_refused refused))
        × ((refused ≡ Memory) ⊎ ((refused ≡ Capacity) × IsFull h.given.done)) × (h.fresh ≡ c.copier.fresh)).
        subst (Leaves log) (sym n.1) (unmade eq input build write finish classes respects b name matches fed form k begun made v c r valid slots
        limit chunks asked log a.lawful pre c' (ap (with_copier c) a.rest) n.0 n.2 n.3))
        a.makes
