-- A call is refused with `Limit` only if as many numbers are taken as the limit allows: nothing
-- that is made or copied is refused with `Limit`.
use Rattle.std.proofs.Common.{◌≡◌, ◌⊎◌, inl, inr, ℕ, ◌==◌, ◌≤◌, Bool, Option, None, Some, sym, ◌∙◌, ap, subst}
use Rattle.papaya_words.specs.Table.{TableWords}
use Rattle.papaya_words.specs.declared.refused.Refused.TheVariants.{Limit}
use Rattle.papaya_call.specs.declared.ask.Answer.{Answer as Call_answer}
use Rattle.papaya_call.specs.declared.ask.Answer.TheVariants.{Word as Word_read, Found as Found_instead, Refused as Was_refused}
use Rattle.papaya_call.specs.declared.ask.Ask.{Ask as Call_ask}
use Rattle.papaya_call.specs.declared.ask.Ask.TheVariants as call_asks
use Rattle.papaya_call.specs.declared.ask.At.TheVariants.{Made}
use Rattle.papaya_call.specs.declared.call.Reply.{Reply}
use Rattle.papaya_call.specs.declared.call.Reply.TheVariants.{Refused as Reply_refused}
use Rattle.papaya_call.specs.declared.copy_ask.CopyAsk.{CopyAsk}
use Rattle.papaya_call.specs.declared.copy_ask.CopyAsk.TheVariants as copies
use Rattle.papaya_call.specs.Answers.{Says}
use Rattle.papaya_call.specs.Machine as call_machine
use Rattle.papaya_call.specs.declared.chain.ask.Ask.TheVariants as asks
use Rattle.papaya_call.specs.declared.chain.ask.Answer.{Answer}
use Rattle.papaya_call.specs.declared.chain.ask.Answer.TheVariants as answers
use Rattle.papaya_call.specs.declared.chain.machine.Phase.TheVariants.{Calling}
use Rattle.papaya_call.specs.ChainMachine.{ask_of, asks_in}
use Rattle.papaya_call.specs.declared.chain.ask.ScanAsk.{ScanAsk}
use Rattle.papaya_call.specs.declared.chain.ask.ScanAsk.TheVariants as scan_asks
use Rattle.papaya_call_law.specs.Goes.{IsOwnRefusal, IsTableRefusal, IsToMake}
use Rattle.papaya_call_law.specs.Relies.{IsNumberAsk}
use Rattle.papaya_core_store.specs.declared.pairs.Running.{Running}
use Rattle.papaya_core_store.specs.declared.scans.Scanning.{Scanning}
use Rattle.papaya_core_store.specs.Asks.{PerformsAsk}
use Rattle.papaya_core_store.specs.CopyAsks.{PerformsCopy, hash_in}
use Rattle.papaya_core_store.specs.Performs.{Performs, Refuses, size_of}
use Rattle.papaya_core_store.specs.Store.{StoreState, Stored}
use Rattle.papaya_core_store.specs.Tables.{table_of, word_at}
use Rattle.papaya_core_store.specs.Scans.{PerformsScan}
use Rattle.papaya_core_timeline.specs.declared.trace.Event.{Event}
use Rattle.papaya_core_timeline.specs.Advances.{Advances}
use Rattle.papaya_core_timeline.specs.Core.{CoreState}
use Rattle.papaya_core_timeline.specs.Kept.{IsLawfulCore}
use Rattle.papaya_core_timeline.specs.Resizes.{Resizes}
use Rattle.papaya_core_timeline.specs.Runs.{Steps}
use Rattle.papaya_core_timeline.specs.ScanGoes.{Scans, list_refusal}
use Rattle.papaya_core_timeline.proofs.StoreLemmas.{LogsOrNot, matched, of_logs, own_logs, part_logs}
use Rattle.papaya_core.specs.Limits.{IsSpent}
use Rattle.papaya_core.proofs.NumbersTaken.{spent_by}

-- the answer is no refusal for the limit
abbrev IsOther : Call_answer → Type 0
IsOther told = told ≡ Was_refused Limit → ⊥

-- a table's size, and the hash of a pair's key
size_other : (table : Option TableWords) → IsOther (size_of table)
size_other None e = absurd cc
size_other (Some t) e = absurd cc

hash_other : {K V : Type 0} (hash : K → ℕ) (found : Option (Stored K V)) → hash_in hash found ≡ answers.Call (Was_refused Limit) → ⊥
hash_other hash None e = absurd cc
hash_other hash (Some p) e = absurd cc

-- a refusal at a limit of the map, or because memory ran out
refuses_other : (most count : ℕ) (told : Call_answer) → Refuses most count told → IsOther told
refuses_other most count told (inl memory) e = absurd (cc (memory, e))
refuses_other most count told (inr (capacity, full)) e = absurd (cc (capacity, e))

-- if a scan's list was refused with `Limit`, its answer is that refusal
unheard_told : (ask : ScanAsk) (answer : Answer) → list_refusal ask answer ≡ Some Limit → answer ≡ answers.Call (Was_refused Limit)
unheard_told (scan_asks.Given n) (answers.Call (Was_refused refused)) e = let f : refused ≡ Limit = cc e in ap (λ y. answers.Call (Was_refused y)) f
unheard_told ask answer e = absurd cc

module _ {K V S : Type 0} (eq : K → K → Bool) (hash : S → K → ℕ) (refuse : Bool) (s : StoreState K V S) (answer : Answer) (s' : StoreState K V S) where
  -- an ask of a copy
  copy_other : (ask : CopyAsk) → PerformsCopy eq hash refuse ask s answer s' → answer ≡ answers.Call (Was_refused Limit) → ⊥
  copy_other (copies.Load at) (is, same) e = absurd (cc (is, e))
  copy_other (copies.Exchange at old new) (told, is, h) e =
      let f : told ≡ Was_refused Limit = cc (is, e) in
      matched ⊥ (word_at s.words at == old) _ _ h (λ _ done. absurd (cc (done.0, f))) (λ _ lost. absurd (cc (lost.0, f)))
  copy_other (copies.LoadHint n i) (is, same) e = absurd (cc (is, e))
  copy_other (copies.WriteHint n i hint) (is, same) e = absurd (cc (is, e))
  copy_other (copies.SizeOf n) (is, same) e = let f : size_of (table_of s.words.tables n) ≡ Was_refused Limit = cc (is, e) in
      size_other (table_of s.words.tables n) f
  copy_other (copies.HashOf n) (is, fits, same) e = hash_other (hash s.hasher) _ (sym is ∙ e)
  copy_other (copies.SamePair m n) (is, same) e = absurd (cc (is, e))
  copy_other copies.Count (is, same) e = absurd (cc (is, e))
  copy_other (copies.MakeTable slots limit chunks) (told, is, h) e =
      let f : told ≡ Was_refused Limit = cc (is, e) in
      matched ⊥ refuse _ _ h (λ _ none. absurd (cc (none.0, f)))
      (λ _ makes. elim makes [ inl refused ↦ refuses_other _ _ told refused.0 f | inr made ↦ absurd (cc (made.0, f)) ])

module _ {K V S A : Type 0} (eq : K → K → Bool) (says : Says K V A) (hash : S → K → ℕ) (refuse : Bool) (s s' : StoreState K V S) where
  -- an ask of a scan
  scan_other : (v v' : Scanning A) (answer : Answer) (ask : ScanAsk) → PerformsScan eq says hash refuse ask s v answer s' v'
      → answer ≡ answers.Call (Was_refused Limit) → ⊥
  scan_other v v' answer (scan_asks.Copy ask) (h, same) e = copy_other eq hash refuse s answer s' ask h e
  scan_other v v' answer (scan_asks.Show n) ((told, is, inl (none, ok, same)), stays) e = absurd (cc (is, ok, e))
  scan_other v v' answer (scan_asks.Show n) ((told, is, inr (a, p, keeps, left, had, logged, says_so, answered, then)), stays) e = absurd (cc (is, answered, e))
  scan_other v v' answer (scan_asks.Given n) ((told, is, inl (ok, given)), stays) e = absurd (cc (is, ok, e))
  scan_other v v' answer (scan_asks.Given n) ((told, is, inr (refused, scanner, left, same)), stays) e = absurd (cc (is, refused, e))
  scan_other v v' answer (scan_asks.AddToShard by) (is, counted, same) e = absurd (cc (is, e))

  module _ (r : Running K V A) (told : Call_answer) (r' : Running K V A) where
    made_other : LogsOrNot s r told s' r' → IsOther told
    made_other (inl (inl memory, stays)) e = absurd (cc (memory, e))
    made_other (inl (inr (inl capacity), stays)) e = absurd (cc (capacity, e))
    made_other (inl (inr (inr (inl ok)), stays)) e = absurd (cc (ok, e))
    made_other (inl (inr (inr (inr off)), stays)) e = absurd (cc (off, e))
    made_other (inr (key, left, (value, has, is, few, same, moved))) e = absurd (cc (is, e))

    -- an ask to make a part
    make_other : (ask : Call_ask) → IsToMake ask → Performs eq says refuse ask s r told s' r' → IsOther told
    make_other call_asks.MakeKey makes h e = made_other (part_logs s r told s' r' refuse h) e
    make_other call_asks.MakeValue makes h e = made_other (part_logs s r told s' r' refuse h) e
    make_other call_asks.MakePair makes h e = made_other (own_logs s r told s' r' refuse h) e
    make_other (call_asks.MakePairOf n) makes h e = made_other (of_logs s r told s' r' refuse n h) e
    make_other (call_asks.MakeTable slots limit chunks) makes h e =
        matched ⊥ refuse _ _ h (λ _ none. absurd (cc (none.0, e)))
        (λ _ makes. elim makes.0 [ inl refused ↦ refuses_other _ _ told refused.0 e | inr made ↦ absurd (cc (made.0, e)) ])
    make_other ask makes h e = absurd makes

    -- if the answer has the number of those taken, it is that number
    number_told : (ask : Call_ask) → IsNumberAsk ask → Performs eq says refuse ask s r told s' r' → (count : ℕ) → (told ≡ Word_read count)
        ⊎ (told ≡ Found_instead count) → count ≡ s.words.made
    number_told (call_asks.Load Made) asked (is, stays) count (inl e) = cc (is, e)
    number_told (call_asks.Load Made) asked (is, stays) count (inr e) = absurd (cc (is, e))
    number_told (call_asks.Exchange Made old new) asked (h, same) count e =
        matched (count ≡ s.words.made) (s.words.made == old) _ _ h
        (λ _ done. elim e [ inl y ↦ absurd (let f = done.0 in cc (f, y)) | inr y ↦ absurd (let f = done.0 in cc (f, y)) ])
        (λ _ lost. elim e [ inl y ↦ absurd (let f = lost.0 in cc (f, y)) | inr y ↦ let f = lost.0 in cc (f, y) ])
    number_told ask asked h count e = absurd asked

  -- an ask of the call itself
  own_asked : (r r' : Running K V A) (answer : Answer) → r.machine.phase ≡ Calling
      → PerformsAsk eq says hash refuse (ask_of r.machine) s r answer s' r'
      → PerformsAsk eq says hash refuse (asks.Call (call_machine.ask_of r.machine.call)) s r answer s' r'
  own_asked r r' answer phase h = subst (λ y. PerformsAsk eq says hash refuse (asks_in r.machine.call y) s r answer s' r') phase h

module _ {K V S A : Type 0} (eq : K → K → Bool) (says : Says K V A) (hash : S → K → ℕ) (refuse : Bool) (s : CoreState K V S A) (caller : ℕ)
    (s' : CoreState K V S A) (event : Event) (reply : Option Reply) (lawful : IsLawfulCore eq (hash s.store.hasher) s.store s.callers s.mode)
    (e : reply ≡ Some (Reply_refused Limit)) where
  -- the call's own refusal
  own_spent : (x : Advances eq says hash refuse s caller s' event reply) → IsOwnRefusal x.before.machine x.answer Limit → IsSpent s
  own_spent x own =
      let (told, is, h) = own_asked eq says hash refuse s.store s'.store x.before x.later x.answer own.own.phase x.performs in
      let same : told ≡ own.own.told = let f = own.own.is in cc (is, f) in
      elim own.why [
        | inl (makes, refused) ↦ absurd (make_other eq says hash refuse s.store s'.store x.before told x.later _ makes h (same ∙ refused))
        | inr (inl (limit, (most, count, is_limit, up, asks_number, counts))) ↦
            let now : count ≡ s.store.words.made = number_told eq says hash refuse s.store s'.store x.before told x.later _ asks_number h count
            (subst (λ y. (y ≡ Word_read count) ⊎ (y ≡ Found_instead count)) (sym same) counts) in
            spent_by eq (hash s.store.hasher) s lawful caller x.before x.was most is_limit (subst (λ y. most ≤ y) now up)
        | inr (inr (other, shown, removes)) ↦ absurd (cc other)
      ]

  -- a table that could not be made is refused for another cause
  table_other : (x : Advances eq says hash refuse s caller s' event reply) → IsTableRefusal x.before.machine x.answer Limit → ⊥
  table_other x table = elim table.why [
    | inl none ↦
        let h = subst (λ y. PerformsAsk eq says hash refuse y s.store x.before x.answer s'.store x.later) none.asks x.performs in
        copy_other eq hash refuse s.store x.answer s'.store (copies.MakeTable none.slots none.limit none.chunks) h.0 none.is
    | inr long ↦ let f = long.capacity in absurd (cc f)
  ]

  resize_other : Resizes eq hash refuse s caller s' event reply → ⊥
  resize_other x = elim (x.cause Limit e) [
    | inl none ↦ copy_other eq hash refuse s.store x.answer s'.store x.ask x.performs none.is
    | inr (inl long) ↦ let f = long.capacity in absurd (cc f)
    | inr (inr room) ↦ let f = room.capacity in absurd (cc f)
  ]

  scans_other : Scans eq says hash refuse s caller s' event reply → ⊥
  scans_other x = elim (x.cause Limit e) [
    | inl full ↦ scan_other eq says hash refuse s.store s'.store x.before x.later x.answer x.ask x.performs (unheard_told x.ask x.answer full)
    | inr cause ↦ elim cause.why [
      | inl none ↦ scan_other eq says hash refuse s.store s'.store x.before x.later x.answer x.ask x.performs none.is
      | inr long ↦ let f = long.capacity in absurd (cc f)
    ]
  ]

  -- so a step that refuses for the limit is made only if all numbers are taken
  pub refused_spent : Steps eq says hash refuse s caller s' event reply → IsSpent s
  refused_spent (inl x) = elim (x.cause Limit e) [ inl own ↦ own_spent x own | inr table ↦ absurd (table_other x table) ]
  refused_spent (inr (inl x)) = absurd (resize_other x)
  refused_spent (inr (inr x)) = absurd (scans_other x)
