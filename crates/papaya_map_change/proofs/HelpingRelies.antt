-- After an answer to its copy's ask, a call that was set aside again relies on facts that hold, and
-- stays set aside or continues.
use Rattle.std.proofs.Common.{◌≡◌, ◌⊎◌, inl, inr, ⊎_elim, ℕ, Bool, true, Option, None, Some, List, ◌++◌, refl, sym, ap, ◌∙◌, subst}
use Rattle.std.specs.Cmp.{IsEquivalence}
use mathlib.Core.List.{IsPrefix}
use denote.Bor.{Bor}
use Rattle.boxcar.specs.Table.{Where}
use Rattle.logbook.specs.Pages.{Book}
use Rattle.logbook.specs.declared.tokens.Pen.{Pen}
use Rattle.papaya_call.specs.declared.ask.At.TheVariants.{Root, Next}
use Rattle.papaya_call.specs.declared.ask.Answer.TheVariants.{Exchanged, Made as Made_number, Size}
use Rattle.papaya_call.specs.declared.ask.Ask.TheVariants.{Exchange as Call_exchange, SizeOf, Done as Ask_done}
use Rattle.papaya_call.specs.declared.call.Reply.TheVariants.{Refused as Reply_refused}
use Rattle.papaya_call.specs.declared.copy_ask.CopyAsk.{CopyAsk}
use Rattle.papaya_call.specs.declared.copy_ask.CopyAsk.TheVariants as copies
use Rattle.papaya_call.specs.declared.machine.Machine.{Machine as Call_machine}
use Rattle.papaya_call.specs.Machine as call_machine
use Rattle.papaya_call.specs.declared.chain.ask.Answer.{Answer}
use Rattle.papaya_call.specs.declared.chain.ask.Answer.TheVariants as answers
use Rattle.papaya_call.specs.declared.chain.ask.Ask.{Ask}
use Rattle.papaya_call.specs.declared.chain.ask.Ask.TheVariants as asks
use Rattle.papaya_call.specs.declared.chain.machine.Machine.{Machine}
use Rattle.papaya_call.specs.declared.chain.machine.Phase.{Phase}
use Rattle.papaya_call.specs.declared.chain.machine.Phase.TheVariants.{Calling, Linking, Copying as Copying_root}
use Rattle.papaya_call.specs.ChainMachine.{IsValid, after, ask_of, asks_in, follows_of, kind_of_ask}
use Rattle.papaya_call_law.specs.Goes.{change_by, link_in}
use Rattle.papaya_call_law.specs.ChainAnswers.{IsTrueOfCopy, IsTrueOf}
use Rattle.papaya_call_law.proofs.LinkMade.{IsMadeLink, is_made, machine_linking, machine_links, machine_made, made_is}
use Rattle.papaya_call_law.proofs.LinkStates.{In}
use Rattle.papaya_call_law.proofs.Order.{in_order}
use Rattle.papaya_call_law.proofs.Replies.{anew, aside_unchanged, chain_changes}
use Rattle.papaya_words_law.specs.Exchange.{Exchange, run, start}
use Rattle.papaya_call_law.specs.Copier.{HasWords}
use Rattle.papaya_call_law.specs.Relies.{change_in}
use Rattle.papaya_map_book.specs.declared.rule.entry.Begun.{Begun}
use Rattle.papaya_map_book.specs.declared.rule.entry.Event.{Event}
use Rattle.papaya_map_book.specs.declared.rule.own.CapacityCause.{CapacityCause}
use Rattle.papaya_map_book.specs.Hashes.{hash_of}
use Rattle.papaya_map_book.specs.Limits.{tables_of}
use Rattle.papaya_map_book.specs.Logs.{Member, Stored, exchanges_of, pair_named, state_of}
use Rattle.papaya_map_book.specs.Rule.{IsLawfulLog, IsPlaced}
use Rattle.papaya_map_book.specs.Sheets.{Sheet}
use Rattle.papaya_map_book.proofs.Brings.{made_since}
use Rattle.papaya_map_book.proofs.Lengths.{tables_since}
use Rattle.papaya_map_book.proofs.Logs.{prefix_trans}
use Rattle.papaya_map_change.specs.Changing.{HasChunks, IsReadyAs, IsBringing, IsCalling, IsCountingOf, IsForm, IsFresh, loaded_with}
use Rattle.papaya_map_change.specs.Helping.{IsAside, IsGivenBy, HasResumed, IsSetAside}
use Rattle.papaya_map_change.proofs.HelpingLeads.{leaves, left_from}
use Rattle.papaya_map_change.proofs.MakingAsks.{making_asks}
use Rattle.papaya_map_change.proofs.HelpingPlaces.{relying}
use Rattle.papaya_map_change.proofs.Sized.{counting_after, counting_since}
use Rattle.papaya_map_change.proofs.Relying.{ChainRelying, carried, coded, hashed_in, may_first, relying_later, relying_told, told_then, wide}

-- a table is still at hand, over a longer log
pub fresh_later : {K V S : Type 0} (b : Begun K V S) (name : Book) (v log : List (Event K V S)) → IsPrefix v log
    → (n : ℕ) (fresh : Option (Where Sheet × Pen)) → IsFresh b name v n fresh → IsFresh b name log n fresh
fresh_later b name v log pre n fresh f = record {
  table = f.table;
  seal = f.seal;
  is = f.is;
  number_is = f.number_is;
  made = made_since f.table.value v log pre f.made;
  placed = f.placed;
  seal_book = f.seal_book;
  seal_nib = f.seal_nib;
}

-- the asks with which a table comes
bringing : (ask : Ask) (n : ℕ) (Goal : Type 0) → IsBringing ask n → ((old new : ℕ) → ask ≡ asks.Call (Call_exchange Root old new) → Goal)
    → ((t old new : ℕ) → ask ≡ asks.Copy (copies.Exchange (Next t) old new) → new ≡ n → Goal) → Goal
bringing (asks.Call (Call_exchange Root old new)) n Goal h call copy = call old new refl
bringing (asks.Copy (copies.Exchange (Next t) old new)) n Goal h call copy = copy t old new refl h.1
bringing other n Goal h call copy = absurd h

-- a machine with its call's ask to open a table is in phase `Calling`
opening : (call : Call_machine) (phase : Phase) (old new : ℕ) → asks_in call phase ≡ asks.Call (Call_exchange Root old new) → (phase ≡ Calling)
    × (call_machine.ask_of call ≡ Call_exchange Root old new)
opening call Calling old new e = (refl, cc e)
opening call (Linking link) old new e = absurd cc
opening call (Copying_root copying) old new e = absurd cc

module _ (m m' : Machine) (tables : List ℕ) (given : List CapacityCause) where
  -- no call that continued has such an ask
  led_opens : HasResumed m m' tables given → (old new : ℕ) → call_machine.ask_of m'.call ≡ Call_exchange Root old new → ⊥
  led_opens led old new e = elim led.where_to [
    | inl on ↦ (let f : SizeOf on.table ≡ Call_exchange Root old new = sym (ap call_machine.ask_of on.call) ∙ e in cc f)
    | inr (inl begun) ↦ anew (λ stage. call_machine.asks m.call.made m.call.hash stage ≡ Call_exchange Root old new → ⊥) (λ f. cc f) (λ f. cc f)
        (λ f. cc f) (λ _ f. cc f) m.call.task m.call.remembered.fill begun.root (sym (ap call_machine.ask_of begun.call) ∙ e)
    | inr (inr ends) ↦ (let f : Ask_done (Reply_refused ends.refused) ≡ Call_exchange Root old new = sym (ap call_machine.ask_of ends.call) ∙ e in cc f)
  ]

  -- so a table comes only if one is about to be linked
  brings_after : (Made : ℕ → Type 0) (Full : ℕ → Type 0) → IsAside m m' ⊎ HasResumed m m' tables given
      → In (IsMadeLink (λ n chunks. Made n × Full chunks)) (link_in m'.phase) → (n : ℕ) → IsBringing (ask_of m') n → Made n
  brings_after Made Full leads made n h =
      bringing (ask_of m') n (Made n) h
      (λ old new e. let both = opening m'.call m'.phase old new e in
      absurd (⊎_elim (λ (aside : IsAside m m'). aside.busy both.0) (λ (led : HasResumed m m' tables given). led_opens led old new both.1) leads))
      (λ t old new e same. let about = machine_links m' t old new e in
      subst Made same (is_made (λ i chunks. Made i × Full chunks) (link_in m'.phase) made t new about.0 about.1).0)

module _ {K V S H : Type 0} (eq : K → K → Bool) (input : K → List (List ℕ)) (build : S → H) (write : H → List ℕ → H) (finish : H → ℕ)
    (classes : IsEquivalence eq) (respects : (x y : K) → eq x y ≡ true → input x ≡ input y)
    (b : Begun K V S) (name : Book) (matches : K → Bool) (fed : ℕ) (form : IsForm eq (hash_of input build write finish) b matches fed) (k : Option K)
    (begun v : List (Event K V S)) (m : Machine) (table : Option (Bor Sheet)) (last kept : Option (Stored K V)) (made : List (Stored K V))
    (taken put : Option (Stored K V)) (fresh : Option (Where Sheet × Pen))
    (r : IsCalling eq (hash_of input build write finish) b name matches fed k begun v m table last kept made taken put fresh)
    (valid : IsValid m) (ask : CopyAsk) (asked : ask_of m ≡ asks.Copy ask) where
  abbrev hash : S → K → ℕ
  hash = hash_of input build write finish

  abbrev G : List (Event K V S) → Rattle.papaya_words_law.specs.Exchange.Setting (Option K) (Stored K V)
  G log = wide eq input build write finish classes respects b matches fed form k (exchanges_of begun) log

  abbrev C : Rattle.papaya_words_law.specs.Code.Coding (Option K) (Stored K V)
  C = coded eq input build write finish classes respects b matches fed form k (exchanges_of begun)

  -- the table at hand, as one that may be linked
  abbrev pub IsAtHand : List (Event K V S) → Option (Where Sheet × Pen) → (n chunks : ℕ) → Type 0
  IsAtHand log fresh' n chunks = IsReadyAs b name log fresh' n chunks

  -- the table that is about to be linked is at hand
  at_hand : (log : List (Event K V S)) → IsPrefix v log → In (IsMadeLink (IsAtHand log fresh)) (link_in m.phase)
  at_hand log pre =
      made_is (IsAtHand log fresh) (link_in m.phase)
      (λ behind t chunks e. let links_it = machine_linking m behind t chunks e in
      (fresh_later b name v log pre t fresh (r.brings t (subst (λ (a : Ask). IsBringing a t) (sym links_it.0) (refl, refl))), r.words behind t chunks e))

  -- and stays so if no table was made
  pub same_hand : (log : List (Event K V S)) → IsPrefix v log → (answer : Answer) → ((n : ℕ) → answer ≡ answers.Call (Made_number n) → ⊥)
      → In (IsMadeLink (IsAtHand log fresh)) (link_in (after m answer).phase)
  same_hand log pre answer none = machine_made (IsAtHand log fresh) m answer (λ n behind slots limit chunks aside e makes. absurd (none n e)) (at_hand log pre)

  -- a table that was made is at hand
  pub new_hand : (log : List (Event K V S)) (slots limit chunks : ℕ) → ask ≡ copies.MakeTable slots limit chunks
      → (fresh' : Option (Where Sheet × Pen)) (n : ℕ) → IsReadyAs b name log fresh' n chunks
      → In (IsMadeLink (IsAtHand log fresh')) (link_in (after m (answers.Call (Made_number n))).phase)
  new_hand log slots limit chunks makes fresh' n is =
      machine_made (IsAtHand log fresh') m (answers.Call (Made_number n))
      (λ i behind slots' limit' chunks' aside e about.
      let same : n ≡ i = cc e in
      let one : copies.MakeTable slots' limit' chunks' ≡ copies.MakeTable slots limit chunks = making_asks m behind slots' limit' chunks' about ask
      asked ∙ makes in
      let words : chunks ≡ chunks' = cc one in
      subst (λ (z : ℕ × ℕ). IsAtHand log fresh' z.0 z.1) (λ j. (same j, words j)) is)
      (made_is (IsAtHand log fresh') (link_in m.phase)
      (λ behind t chunks' e. let f : asks.Copy (copies.MakeTable slots limit chunks) ≡ asks.Copy (copies.Exchange (Next behind) 0 t) = sym
      (asked ∙ ap asks.Copy makes) ∙ (machine_linking m behind t chunks' e).0 in absurd (cc f)))

  module _ (before : List (Event K V S)) (since : IsPrefix v before) (l₀ : IsLawfulLog eq hash b before) (log : List (Event K V S))
      (l : IsLawfulLog eq hash b log) (pre : IsPrefix before log) (answer : Answer)
      (words : answer ≡ answers.Call Exchanged → HasWords (G log) (link_in m.phase)) (last' kept' : Option (Stored K V))
      (fresh' : Option (Where Sheet × Pen)) (given : List CapacityCause) (by : IsGivenBy answer given)
      (told : IsTrueOfCopy (G log) C (state_of before) (kind_of_ask m) (follows_of m) (loaded_with last kept made) ask answer (exchanges_of pre.0)
      (loaded_with last' kept' made)) where
    abbrev mid : ChainRelying eq input build write finish classes respects b matches fed form k (exchanges_of begun) before m (loaded_with last kept made)
    mid = relying_later eq input build write finish classes respects b matches fed form k (exchanges_of begun) v r.lawful m
        (loaded_with last kept made) (relying eq input build write finish classes respects b name matches fed form k begun v m table last kept made
        taken put fresh r) before l₀ since

    -- the answer is true of the words
    told_so : IsTrueOf (G log) C k (state_of before) (kind_of_ask m) (follows_of m) (loaded_with last kept made) (ask_of m) answer (exchanges_of pre.0)
        (loaded_with last' kept' made)
    told_so = subst (λ (a : Ask). IsTrueOf (G log) C k (state_of before) (kind_of_ask m) (follows_of m) (loaded_with last kept made) a answer
        (exchanges_of pre.0) (loaded_with last' kept' made)) (sym asked) told

    told_there : IsTrueOf (G log) C k (run (exchanges_of begun ++ mid.since) start) (kind_of_ask m) (follows_of m) (loaded_with last kept made)
        (ask_of m) answer (exchanges_of pre.0) (loaded_with last' kept' made)
    told_there = told_then eq input build write finish classes respects b matches fed form k (exchanges_of begun) before l₀ m
        (loaded_with last kept made) mid log l pre answer (exchanges_of pre.0) (loaded_with last' kept' made) told_so

    -- the facts that the call relied on, in the setting of the longer log
    rested : Rattle.papaya_call_law.specs.ChainRelies.Relies (G log) C (exchanges_of begun) mid.since k m (loaded_with last kept made)
    rested = carried eq input build write finish classes respects b matches fed form k (exchanges_of begun) before l₀ m (loaded_with last kept made)
        mid log l pre

    -- the length by which it may be about to size a table is that of a table that has come
    counting : IsCountingOf (tables_of log) m
    counting = counting_since (tables_of v) (tables_of log) (tables_since v log (prefix_trans v before log since pre)) m r.counts

    -- it stays set aside, or continues
    pub leads : IsAside m (after m answer) ⊎ HasResumed m (after m answer) (tables_of log) given
    leads =
        leaves (G log) C (hashed_in eq input build write finish classes respects b matches fed form k (exchanges_of begun) log l) (exchanges_of begun) mid.since
        (may_first eq input build write finish classes respects b matches fed form k (exchanges_of begun) before l₀ m (loaded_with last kept made) mid
        log l pre) k m (loaded_with last kept made) rested valid ask asked answer words (exchanges_of pre.0) (loaded_with last' kept' made)
        told_there (tables_of log) counting given by

    -- it had changed nothing, and has not
    unchanged : change_in (after m answer).call.state ≡ None
    unchanged =
        let left = left_from (G log) C (hashed_in eq input build write finish classes respects b matches fed form k (exchanges_of begun) log l)
        (exchanges_of begun) mid.since
        (may_first eq input build write finish classes respects b matches fed form k (exchanges_of begun) before l₀ m (loaded_with last kept made) mid
        log l pre) k m (loaded_with last kept made) rested valid ask asked answer words (exchanges_of pre.0) (loaded_with last' kept' made)
        told_there (tables_of log) counting given by in
        chain_changes (G log) C k (run (exchanges_of begun ++ mid.since) start) m (loaded_with last kept made) answer (exchanges_of pre.0)
        (loaded_with last' kept' made)
        (in_order (G log) C (exchanges_of begun) mid.since k m (loaded_with last kept made) (run (exchanges_of begun ++ mid.since) start) answer
        (exchanges_of pre.0) (loaded_with last' kept' made) rested told_there) told_there
        (hashed_in eq input build write finish classes respects b matches fed form k (exchanges_of begun) log l) rested.call.hash
        ∙ (ap (λ (a : Ask). change_by (kind_of_ask m) a answer (change_in m.call.state)) asked ∙ aside_unchanged m.call.state left.0 left.1)

    -- it relies again on facts that hold
    pub copied : IsPlaced b (Some name) (pair_named last') → IsPlaced b (Some name) (pair_named kept')
        → In (IsMadeLink (IsAtHand log fresh')) (link_in (after m answer).phase)
        → ((slots limit : ℕ) → answer ≡ answers.Call (Size slots limit) → Member slots (tables_of log))
        → IsSetAside eq hash b name matches fed k begun log (after m answer) last' kept' made taken put fresh'
    copied placed placed' hand size =
        let on = relying_told eq input build write finish classes respects b matches fed form k (exchanges_of begun) before l₀ m
        (loaded_with last kept made) mid log l pre answer words (loaded_with last' kept' made) told_so in record {
          lawful = l;
          seen = prefix_trans begun v log r.seen (prefix_trans v before log since pre);
          since = on.since;
          is = on.is;
          relies = on.relies;
          last_placed = placed;
          kept_placed = placed';
          made_placed = r.made_placed;
          taken_placed = r.taken_placed;
          unchanged = unchanged;
          brings = brings_after m (after m answer) (tables_of log) given (λ n. IsFresh b name log n fresh') (HasChunks fresh') leads hand;
          words = λ behind n chunks e. (is_made (IsAtHand log fresh') (link_in (after m answer).phase) hand behind n chunks e).1;
          counts = counting_after (tables_of log) m answer size counting;
        }
