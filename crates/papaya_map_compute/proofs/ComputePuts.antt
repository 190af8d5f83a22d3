-- A compute holds the pair that it puts into a slot, and the pair has a key that it may have there.
use Rattle.std.proofs.Common.{◌≡◌, inl, inr, ⊎_elim, ℕ, ◌<◌, ◌≤◌, ◌^◌, ◌==◌, Bool, true, false}
use Rattle.std.proofs.Common.{cond, MatchBool, Option, None, Some, List, refl, sym, ap, ◌∙◌, subst}
use Rattle.std.proofs.Common.{arith}
use Rattle.std.proofs.lemmas.Bool.{cases_lt}
use Rattle.std.specs.Cmp.{IsEquivalence}
use Rattle.logbook.specs.Pages.{Book}
use Rattle.papaya_words.specs.Word.{pair_of}
use Rattle.papaya_call.specs.declared.answers.Operation.{Operation}
use Rattle.papaya_call.specs.declared.ask.Ask.TheVariants.{Exchange}
use Rattle.papaya_call.specs.declared.ask.At.TheVariants.{Slot}
use Rattle.papaya_call.specs.declared.ask.StepKind.{StepKind}
use Rattle.papaya_call.specs.declared.ask.StepKind.TheVariants as kinds
use Rattle.papaya_call.specs.Machine as calls
use Rattle.papaya_call.specs.declared.chain.ask.Ask.TheVariants.{Call}
use Rattle.papaya_call.specs.declared.chain.machine.Machine.{Machine}
use Rattle.papaya_call.specs.declared.chain.machine.Phase.TheVariants.{Calling}
use Rattle.papaya_call.specs.ChainMachine.{IsValid, ask_of, kind_of_ask}
use Rattle.papaya_call_law.proofs.Names.{call_asks}
use Rattle.papaya_call_law.specs.Says.{IsResultExchange, Makes}
use Rattle.papaya_call_law.specs.TrueAnswers.{IsOneOf}
use Rattle.papaya_call_law.proofs.SaysOver.{machine_exchanges}
use Rattle.papaya_map_compute.specs.declared.slow_path.Computing.{Computing}
use Rattle.papaya_map_book.specs.declared.rule.entry.Begun.{Begun}
use Rattle.papaya_map_book.specs.declared.rule.entry.Event.{Event}
use Rattle.papaya_map_compute.specs.Computing.{IsComputing, pair_for}
use Rattle.papaya_map_book.specs.Hashes.{hash_of}
use Rattle.papaya_map_book.specs.Plays.{IsPutting}
use Rattle.papaya_map_lookup.specs.History.{key_of}
use Rattle.papaya_map_lookup.proofs.AskedPairs.{asked_kind}
use Rattle.papaya_map_lookup.proofs.Readings.{hashed_with}
use Rattle.papaya_map_change.specs.Writing.{HasKeyAt, MayOverwrite}
use Rattle.papaya_map_change.proofs.StepsOfOwn.{own_kind}
use Rattle.papaya_map_change.proofs.Written.{own_query}
use Rattle.papaya_map_book.specs.Logs.{Stored}
use Rattle.papaya_map_compute.proofs.ChosenSlots.{machine_slot}

module _ {K V S T H : Type 0} (eq : K → K → Bool) (input : K → List (List ℕ)) (build : S → H) (write : H → List ℕ → H) (finish : H → ℕ)
    (classes : IsEquivalence eq) (respects : (x y : K) → eq x y ≡ true → input x ≡ input y) (b : Begun K V S) (name : Book) (key : K)
    (begun log : List (Event K V S)) (x : Computing K V S T H) (heard : List (Option (Stored K V) × Operation V T))
    (r : IsComputing eq (hash_of input build write finish) b name key begun log x heard)
    (valid : IsValid x.writer.call.machine) (t i old new : ℕ) (asks : ask_of x.writer.call.machine ≡ Call (Exchange (Slot t i) old new)) where
  abbrev m : Machine
  m = x.writer.call.machine

  abbrev own : (m.phase ≡ Calling) × (calls.ask_of m.call ≡ Exchange (Slot t i) old new)
  own = call_asks m (Exchange (Slot t i) old new) asks

  -- its hash is one of 64 bits
  fits : m.call.hash < 2 ^ 64
  fits = subst (λ n. n < 2 ^ 64) (sym r.writing.calling.relies.call.hash)
      ((hashed_with eq input build write finish classes respects b (eq key) (input key)
      (own_query eq input build write finish classes respects b name key) log r.writing.calling.lawful).coding.hash_fits (Some key))

  -- the exchange is the one that its closure's result requires
  is_said : IsResultExchange m.call (pair_of old) (pair_of new)
  is_said = machine_exchanges m.call t i old new r.task_is fits valid.call own.1

  -- a pair that the call made, with the number that the new word names, which may be put there
  abbrev IsAtHand : Option (Stored K V) → Type 0
  IsAtHand o = (q : Stored K V) × (o ≡ Some q) × (q.index ≡ pair_of new) × IsOneOf r.made q × MayOverwrite log key t i old q

  -- the exchange has the call's kind
  kind_is : (kind : StepKind) → kind_of_ask m ≡ Some kind → calls.kind_of_ask m.call ≡ Some kind
  kind_is kind e = sym (own_kind m own.0) ∙ e

  -- the place of an empty word is claimed, and any other is replaced
  empty : calls.kind_of_ask m.call ≡ Some kinds.Claim → (old == 0) ≡ true
  empty kind = by_old (old == 0) (sym (asked_kind m.call t i old new own.1 (inl kind)) ∙ kind)
    where
      by_old : (z : Bool) → Some (cond z kinds.Claim kinds.Replace) ≡ Some kinds.Claim → z ≡ true
      by_old true e = refl
      by_old false e = absurd (cc e)

  full : calls.kind_of_ask m.call ≡ Some kinds.Replace → (old == 0) ≡ false
  full kind = by_old (old == 0) (sym (asked_kind m.call t i old new own.1 (inr kind)) ∙ kind)
    where
      by_old : (z : Bool) → Some (cond z kinds.Claim kinds.Replace) ≡ Some kinds.Replace → z ≡ false
      by_old true e = absurd (cc e)
      by_old false e = refl

  claimed : kind_of_ask m ≡ Some kinds.Claim → IsAtHand x.fill
  claimed e =
      let kind = kind_is kinds.Claim e in
      ⊎_elim
      (λ h.
      let s = r.stood (Makes None (pair_of new)) h.1 in
      (s.0, s.1, s.2.number, s.2.made_is, subst (λ (z : Bool). MatchBool z (key_of s.0 ≡ key) (HasKeyAt log t i (key_of s.0))) (sym (empty kind)) s.2.key_is))
      (λ o. ⊎_elim (λ h. let g = sym kind ∙ h.0 in absurd (cc g)) (λ h. let g = sym kind ∙ h.0 in absurd (cc g)) o)
      is_said

  -- the slot for which the pair was made has this key
  kept_there : calls.kind_of_ask m.call ≡ Some kinds.Replace → (q : Stored K V) → x.made ≡ Some q → HasKeyAt log t i (key_of q)
  kept_there kind q has =
      let some : 0 < old = ⊎_elim (λ (some : 0 < old). some)
      (λ (none : old ≤ 0). let zero : old ≡ 0 = omega (arith, none) in let f : false ≡ true = sym (full kind) ∙ ap (λ (n : ℕ). n == 0) zero in
      absurd (cc f)) (cases_lt 0 old) in
      let slot = machine_slot m.call t i old new r.task_is valid.call r.puts own.1 kind some in
      let h = r.of_slot (pair_of old) slot.of slot.choice in
      let one : h.0 ≡ q = cc (h.1, has) in
      subst (λ (z : Stored K V). HasKeyAt log t i (key_of z)) one
      (subst (λ n. HasKeyAt log n i (key_of h.0)) slot.table (subst (λ n. HasKeyAt log slot.of.table n (key_of h.0)) slot.index h.2))

  replaced : kind_of_ask m ≡ Some kinds.Replace → IsAtHand x.made
  replaced e =
      let kind = kind_is kinds.Replace e in
      ⊎_elim (λ h. let g = sym kind ∙ h.0 in absurd (cc g))
      (λ o. ⊎_elim
      (λ h.
      let s = r.stood (Makes (Some (pair_of old)) (pair_of new)) h.1 in (
        s.1,
        s.4,
        s.5.number,
        s.5.made_is,
        subst (λ (z : Bool). MatchBool z (key_of s.1 ≡ key) (HasKeyAt log t i (key_of s.1))) (sym (full kind))
            (kept_there kind s.1 s.4),
      ))
      (λ h. let g = sym kind ∙ h.0 in absurd (cc g)) o)
      is_said

  -- it is the pair that the kind of the exchange requires
  pub at_hand : IsPutting (kind_of_ask m) → IsAtHand (pair_for (kind_of_ask m) x.fill x.made)
  at_hand kind = ⊎_elim
      (λ h. subst (λ (k : Option StepKind). IsAtHand (pair_for k x.fill x.made)) (sym h) (claimed h))
      (λ h. subst (λ (k : Option StepKind). IsAtHand (pair_for k x.fill x.made)) (sym h) (replaced h))
      kind

  -- an exchange that does not delete puts a pair in
  pub puts : (kind_of_ask m ≡ Some kinds.Bury → ⊥) → IsPutting (kind_of_ask m)
  puts never =
      let kind = own_kind m own.0 in
      ⊎_elim (λ h. inl (kind ∙ h.0)) (λ o. ⊎_elim (λ h. inr (kind ∙ h.0)) (λ h. absurd (never (kind ∙ h.0))) o) is_said
