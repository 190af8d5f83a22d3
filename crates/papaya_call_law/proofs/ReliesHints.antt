-- A hint that a machine writes is one that the slot may have.
use Rattle.std.proofs.Common.{◌≡◌, ℕ, List, sym, ap, ◌∙◌, subst}
use Rattle.papaya_words.specs.Word.{hint_of}
use Rattle.papaya_call.specs.declared.ask.Ask.TheVariants.{WriteHint}
use Rattle.papaya_call.specs.declared.call.Task.{Task}
use Rattle.papaya_call.specs.declared.search.Search.TheVariants.{Sizing, Looking, Reading, Comparing}
use Rattle.papaya_call.specs.declared.made.Made.{Made}
use Rattle.papaya_call_law.proofs.Makings.{IsPairAsk, IsWriteAsk, pairing_asks, write_asks}
use Rattle.papaya_call.specs.declared.machine.Machine.{Machine}
use Rattle.papaya_call.specs.declared.machine.State.{State as Stage}
use Rattle.papaya_call.specs.declared.machine.State.TheVariants.{AtRoot, Making, Opening, Searching}
use Rattle.papaya_call.specs.declared.machine.State.TheVariants.{Writing, Offering, Showing}
use Rattle.papaya_call.specs.declared.machine.State.TheVariants.{Pairing, Putting, Burying}
use Rattle.papaya_call.specs.declared.machine.State.TheVariants.{Counting, Noting, Uncounting}
use Rattle.papaya_call.specs.declared.machine.State.TheVariants.{Leaving, Growing, Ended}
use Rattle.papaya_call.specs.Machine.{asks, ask_of}
use Rattle.papaya_words_law.specs.Exchange.{Setting, Exchange}
use Rattle.papaya_words_law.specs.Code.{Coding}
use Rattle.papaya_words_law.specs.Hints.{IsHint}
use Rattle.papaya_call_law.specs.TrueAnswers.{LoadedPairs}
use Rattle.papaya_call_law.specs.Relies.{now, Relies, ReliesStage}

module _ {K P : Type 0} (g : Setting K P) (c : Coding K P) (begun since : List (Exchange P)) (k : K) where
  module _ (loaded : LoadedPairs P) (task : Task) (hash : ℕ) (same : hash ≡ c.hash k) (t x n : ℕ) where
    -- a pair that was claimed writes its key's hint
    may_hint_in : (made : Made) (stage : Stage) → ReliesStage g c begun since k loaded task stage → asks made hash stage ≡ WriteHint t x n
        → IsHint g c (now g c begun since k) t x n
    may_hint_in made AtRoot r e = absurd cc
    may_hint_in made Making r e = absurd cc
    may_hint_in made (Opening u) r e = absurd cc
    may_hint_in made (Searching (Sizing u)) r e = absurd cc
    may_hint_in made (Searching (Looking at)) r e = absurd cc
    may_hint_in made (Searching (Reading at)) r e = absurd cc
    may_hint_in made (Searching (Comparing at word)) r e = absurd cc
    may_hint_in made (Writing write) r e = absurd (subst IsWriteAsk e (write_asks made write))
    may_hint_in made (Offering gap) r e = absurd cc
    may_hint_in made (Showing removal) r e = absurd cc
    may_hint_in made (Pairing purpose) r e = absurd (subst IsPairAsk e (pairing_asks made purpose))
    may_hint_in made (Putting put) r e = absurd cc
    may_hint_in made (Burying removal) r e = absurd cc
    may_hint_in made (Counting claimed) r e = absurd cc
    may_hint_in made (Noting claimed) r e =
        let table : claimed.place.table ≡ t = cc e in
        let index : claimed.place.probe.i ≡ x = cc e in
        let value : hint_of hash ≡ n = cc e in
        let own : hint_of (c.hash k) ≡ n = ap hint_of (sym same) ∙ value in
        subst (λ y. IsHint g c (now g c begun since k) t x y) own
        (subst (λ y. IsHint g c (now g c begun since k) t y (hint_of (c.hash k))) index
        (subst (λ y. IsHint g c (now g c begun since k) y claimed.place.probe.i (hint_of (c.hash k))) table r.1.hint))
    may_hint_in made (Uncounting i) r e = absurd cc
    may_hint_in made (Leaving u) r e = absurd cc
    may_hint_in made (Growing need) r e = absurd cc
    may_hint_in made (Ended reply) r e = absurd cc

  -- for the whole machine
  pub machine_may_hint : (m : Machine) (loaded : LoadedPairs P) → Relies g c begun since k m loaded → (t x n : ℕ) → ask_of m ≡ WriteHint t x n
      → IsHint g c (now g c begun since k) t x n
  machine_may_hint m loaded r t x n e = may_hint_in loaded m.task m.hash r.hash t x n m.made m.state r.stage e
