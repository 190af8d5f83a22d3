-- A pair is made with the key of the pair loaded last, if that key is equal to the call's.
use Rattle.std.proofs.Common.{◌≡◌, ⊎_elim, ℕ, ◌==◌, eq-eqb, Bool, true, false, cond, Option, None, Some, List, refl, ◌∙◌}
use Rattle.papaya_words.specs.Word.{pair_of}
use Rattle.papaya_call.specs.declared.ask.Ask.TheVariants.{MakePairOf}
use Rattle.papaya_call.specs.declared.call.Task.{Task}
use Rattle.papaya_call.specs.declared.call.Task.TheVariants.{Get, Insert, RemoveIf, Compute}
use Rattle.papaya_call.specs.declared.search.Search.TheVariants.{Sizing, Looking, Reading, Comparing}
use Rattle.papaya_call.specs.declared.compute.Purpose.{Purpose}
use Rattle.papaya_call.specs.declared.compute.Purpose.TheVariants.{Fill, Replace, Again}
use Rattle.papaya_call.specs.declared.made.Made.{Made}
use Rattle.papaya_call.specs.declared.made.Number.{Number}
use Rattle.papaya_call.specs.declared.made.Number.TheVariants.{Wanted, Free, Taken}
use Rattle.papaya_call.specs.declared.remove.Removal.{Removal}
use Rattle.papaya_call.specs.declared.write.Write.{Write}
use Rattle.papaya_call.specs.declared.machine.Machine.{Machine}
use Rattle.papaya_call.specs.declared.machine.State.{State as Stage}
use Rattle.papaya_call.specs.declared.machine.State.TheVariants.{AtRoot, Making, Opening, Searching}
use Rattle.papaya_call.specs.declared.machine.State.TheVariants.{Writing, Offering, Showing}
use Rattle.papaya_call.specs.declared.machine.State.TheVariants.{Pairing, Putting, Burying}
use Rattle.papaya_call.specs.declared.machine.State.TheVariants.{Counting, Noting, Uncounting}
use Rattle.papaya_call.specs.declared.machine.State.TheVariants.{Leaving, Growing, Ended}
use Rattle.papaya_call.specs.Compute.{in_place_of}
use Rattle.papaya_call.specs.Made.{number_ask, of_ask, own_ask, pair_ask}
use Rattle.papaya_call.specs.Machine.{asks, ask_of}
use Rattle.papaya_call.specs.Write.{served_ask, serves}
use Rattle.papaya_words_law.specs.Exchange.{Setting, Exchange}
use Rattle.papaya_words_law.specs.Code.{Coding, IsHashed}
use Rattle.papaya_call_law.specs.TrueAnswers.{LoadedPairs}
use Rattle.papaya_call_law.specs.Relies.{MayRemove, Relies, ReliesPurpose, ReliesStage, ReliesWriting}
use Rattle.papaya_call_law.proofs.ReliesLearnPairs.{removal_number}

-- the ask is in place of a word that names the pair
own_copies : (keyed valued : Bool) (n : ℕ) → own_ask keyed valued ≡ MakePairOf n → ⊥
own_copies false valued n e = cc e
own_copies true false n e = cc e
own_copies true true n e = cc e

of_copies : (valued : Bool) (old n : ℕ) → of_ask valued old ≡ MakePairOf n → pair_of old ≡ n
of_copies false old n e = absurd cc
of_copies true old n e = cc e

copies_by : (number : Number) (made : Made) (old n : ℕ) → number_ask number made old ≡ MakePairOf n → ((old == 0) ≡ false) × (pair_of old ≡ n)
copies_by Wanted made old n e = absurd cc
copies_by (Free count) made old n e = absurd cc
copies_by Taken made old n e = by_old (old == 0) refl e
  where
    by_old : (b : Bool) → (old == 0) ≡ b → cond b (own_ask made.keyed made.valued) (of_ask made.valued old) ≡ MakePairOf n → ((old == 0) ≡ false)
        × (pair_of old ≡ n)
    by_old true is asked = absurd (own_copies made.keyed made.valued n asked)
    by_old false is asked = (is, of_copies made.valued old n asked)

copies : (made : Made) (old n : ℕ) → pair_ask made old ≡ MakePairOf n → ((old == 0) ≡ false) × (pair_of old ≡ n)
copies made old n e = copies_by made.number made old n e

module _ {K P : Type 0} (g : Setting K P) (c : Coding K P) (hashed : IsHashed g c) (begun since : List (Exchange P)) (k : K) (loaded : LoadedPairs P) where
  -- the pair last loaded, with a key equal to the call's
  abbrev pub IsCopying : ℕ → Type 0
  IsCopying n = (p : P) × (loaded.last ≡ Some p) × (c.number p ≡ n) × (g.same k (g.key p) ≡ true)

  shown_copies : (removal : Removal) → MayRemove g c begun since k loaded removal → (n : ℕ) → pair_of removal.word ≡ n → IsCopying n
  shown_copies removal r n is = (r.pair, r.last, removal_number g c hashed begun since k loaded removal r ∙ is, r.same)

  -- by a write
  write_copies : (task : Task) (write : Write) → ReliesWriting g c begun since k loaded task write → (n : ℕ) → ((write.old == 0) ≡ false)
      × (pair_of write.old ≡ n) → IsCopying n
  write_copies Get write r n is = absurd r
  write_copies (Insert replace) write r n is =
      ⊎_elim
      (λ none. absurd (let some = eq-eqb write.old 0 none in let no = is.0 in cc (some, no)))
      (λ o. shown_copies (record { place = write.place; word = write.old }) o.1 n is.1)
      r.old
  write_copies RemoveIf write r n is = absurd r
  write_copies Compute write r n is = absurd r

  served_copies : (task : Task) (made : Made) (write : Write) → ReliesWriting g c begun since k loaded task write → (served : Option ℕ) (n : ℕ)
      → served_ask served write made ≡ MakePairOf n → IsCopying n
  served_copies task made write r None n e = write_copies task write r n (copies made write.old n e)
  served_copies task made write r (Some i) n e = absurd cc

  -- by a compute
  purpose_copies : (purpose : Purpose) → ReliesPurpose g c begun since k loaded purpose → (n : ℕ) → ((in_place_of purpose == 0) ≡ false)
      × (pair_of (in_place_of purpose) ≡ n) → IsCopying n
  purpose_copies (Fill gap) r n is = absurd (let no = is.0 in cc no)
  purpose_copies (Replace write) r n is = shown_copies (record { place = write.place; word = write.old }) r n is.1
  purpose_copies (Again write) r n is = shown_copies (record { place = write.place; word = write.old }) r n is.1

  copied_in : (task : Task) (hash : ℕ) (made : Made) (stage : Stage) → ReliesStage g c begun since k loaded task stage → (n : ℕ)
      → asks made hash stage ≡ MakePairOf n → IsCopying n
  copied_in task hash made AtRoot s n e = absurd cc
  copied_in task hash made Making s n e = absurd cc
  copied_in task hash made (Opening u) s n e = absurd cc
  copied_in task hash made (Searching (Sizing u)) s n e = absurd cc
  copied_in task hash made (Searching (Looking at)) s n e = absurd cc
  copied_in task hash made (Searching (Reading at)) s n e = absurd cc
  copied_in task hash made (Searching (Comparing at word)) s n e = absurd cc
  copied_in task hash made (Writing write) s n e = served_copies task made write s (serves made write) n e
  copied_in task hash made (Offering gap) s n e = absurd cc
  copied_in task hash made (Showing removal) s n e = absurd cc
  copied_in task hash made (Pairing purpose) s n e = purpose_copies purpose s.1 n (copies made (in_place_of purpose) n e)
  copied_in task hash made (Putting put) s n e = absurd cc
  copied_in task hash made (Burying removal) s n e = absurd cc
  copied_in task hash made (Counting i) s n e = absurd cc
  copied_in task hash made (Noting i) s n e = absurd cc
  copied_in task hash made (Uncounting i) s n e = absurd cc
  copied_in task hash made (Leaving u) s n e = absurd cc
  copied_in task hash made (Growing u) s n e = absurd cc
  copied_in task hash made (Ended reply) s n e = absurd cc

  -- for the whole machine
  pub machine_copied : (m : Machine) → Relies g c begun since k m loaded → (n : ℕ) → ask_of m ≡ MakePairOf n → IsCopying n
  machine_copied m r n e = copied_in m.task m.hash m.made m.state r.stage n e
