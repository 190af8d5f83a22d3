-- The pairs that a machine asks to put in, and the kinds of exchange by which it does.
use Rattle.std.proofs.Common.{◌≡◌, ⊎_elim, ℕ, ◌==◌, eqb-true, Bool, true, false, cond, MatchBool, Option, None, Some, sym, ap, ◌∙◌, subst, refl}
use Rattle.std.proofs.lemmas.Bool.{and_parts}
use Rattle.papaya_words.specs.Word.{live_word, pair_of}
use Rattle.papaya_call.specs.declared.ask.Ask.TheVariants.{Exchange as Ask_exchange}
use Rattle.papaya_call.specs.declared.ask.At.TheVariants.{Slot}
use Rattle.papaya_call.specs.declared.ask.StepKind.{StepKind}
use Rattle.papaya_call.specs.declared.ask.StepKind.TheVariants as kinds
use Rattle.papaya_call.specs.declared.call.Task.{Task}
use Rattle.papaya_call.specs.declared.call.Task.TheVariants.{Get, Insert, RemoveIf, Compute}
use Rattle.papaya_call.specs.declared.search.Place.{Place}
use Rattle.papaya_call.specs.declared.search.Search.TheVariants.{Sizing, Looking, Reading, Comparing}
use Rattle.papaya_call.specs.declared.machine.Machine.{Machine}
use Rattle.papaya_call.specs.declared.machine.State.{State as Stage}
use Rattle.papaya_call.specs.declared.machine.State.TheVariants.{AtRoot, Making, Opening, Searching}
use Rattle.papaya_call.specs.declared.machine.State.TheVariants.{Writing, Offering, Showing}
use Rattle.papaya_call.specs.declared.machine.State.TheVariants.{Pairing, Putting, Burying}
use Rattle.papaya_call.specs.declared.machine.State.TheVariants.{Counting, Noting, Uncounting}
use Rattle.papaya_call.specs.declared.machine.State.TheVariants.{Leaving, Growing, Ended}
use Rattle.papaya_call.specs.declared.made.Made.{Made}
use Rattle.papaya_call.specs.declared.made.Of.{Of}
use Rattle.papaya_call.specs.declared.write.Write.{Write}
use Rattle.papaya_call.specs.Made.{serves_at}
use Rattle.papaya_call.specs.Machine.{HasClosure, IsComputer, IsValidState, IsWriter, ask_of, asks, kind_asked, kind_of_ask, served_kind}
use Rattle.papaya_call.specs.Write.{put_ask, served_ask, served_of, serves, write_kind}
use Rattle.papaya_call_law.proofs.Makings.{IsPairAsk, pair_asks, pairing_asks}
use Rattle.papaya_call_law.proofs.NewWords.{pair_of-live_word}
use Rattle.papaya_map_book.specs.Plays.{IsPutting}

-- a deletion puts none in
not_buried : (kind : Option StepKind) → kind ≡ Some kinds.Bury → IsPutting kind → ⊥
not_buried kind is puts = ⊎_elim (λ h. let no : Some kinds.Bury ≡ Some kinds.Claim = sym is ∙ h in cc no)
    (λ h. let no : Some kinds.Bury ≡ Some kinds.Replace = sym is ∙ h in cc no) puts

-- A property of the write of a pair holds of the ask that it leads to.
module _ (Holds : (t x old n : ℕ) → Type 0) where
  of_ask : (write : Write) (n : ℕ) → Holds write.place.table write.place.probe.i write.old n → (t x old new : ℕ)
      → put_ask write n ≡ Ask_exchange (Slot t x) old new → Holds t x old (pair_of new)
  of_ask write n holds t x old new e =
      let table : write.place.table ≡ t = cc e in
      let place : write.place.probe.i ≡ x = cc e in
      let word : write.old ≡ old = cc e in
      let is : live_word n ≡ new = cc e in
      let number : n ≡ pair_of new = sym (pair_of-live_word n) ∙ ap pair_of is in
      subst (λ z. Holds z x old (pair_of new)) table
      (subst (λ z. Holds write.place.table z old (pair_of new)) place
      (subst (λ z. Holds write.place.table write.place.probe.i z (pair_of new)) word
      (subst (Holds write.place.table write.place.probe.i write.old) number holds)))

-- An insertion puts in the pair of the call's key, or the one that it made for this very place.
abbrev pub IsServed : Made → (t x old n : ℕ) → Type 0
IsServed made t x old n = MatchBool (old == 0) (made.own ≡ Some n) ((of : Of) × (made.of ≡ Some of) × (of.pair ≡ n) × (of.table ≡ t) × (of.index ≡ x))

of_served : (made : Option Of) (at : Place) (n : ℕ) → served_of made at ≡ Some n → (of : Of) × (made ≡ Some of) × (of.pair ≡ n)
    × (of.table ≡ at.table) × (of.index ≡ at.probe.i)
of_served None at n e = absurd (cc e)
of_served (Some of) at n e = by_place (serves_at of at.table at.probe.i) refl e
  where
    by_place : (b : Bool) → serves_at of at.table at.probe.i ≡ b → cond b (Some of.pair) None ≡ Some n → (o : Of) × (Some of ≡ Some o) × (o.pair ≡ n)
        × (o.table ≡ at.table) × (o.index ≡ at.probe.i)
    by_place true there is =
        let parts = and_parts (of.table == at.table) (of.index == at.probe.i) there in
        (of, refl, cc is, eqb-true of.table at.table parts.0, eqb-true of.index at.probe.i parts.1)
    by_place false there is = absurd (cc is)

served : (made : Made) (write : Write) (n : ℕ) → serves made write ≡ Some n → IsServed made write.place.table write.place.probe.i write.old n
served made write n e = by_old (write.old == 0) e
  where
    by_old : (b : Bool) → cond b made.own (served_of made.of write.place) ≡ Some n
        → MatchBool b (made.own ≡ Some n) ((of : Of) × (made.of ≡ Some of) × (of.pair ≡ n) × (of.table ≡ write.place.table) × (of.index ≡ write.place.probe.i))
    by_old true is = is
    by_old false is = of_served made.of write.place n is

write_served : (made : Made) (write : Write) (serving : Option ℕ) → serves made write ≡ serving → (t x old new : ℕ)
    → served_ask serving write made ≡ Ask_exchange (Slot t x) old new → IsServed made t x old (pair_of new)
write_served made write None is t x old new e = absurd (subst IsPairAsk e (pair_asks made write.old))
write_served made write (Some n) is t x old new e = of_ask (IsServed made) write n (served made write n is) t x old new e

-- a call with a closure is no insertion
no_writer : (task : Task) → HasClosure task → IsWriter task → ⊥
no_writer Get r w = r
no_writer (Insert replace) r w = r
no_writer RemoveIf r w = w
no_writer Compute r w = w

no_computer : (task : Task) → IsComputer task → IsWriter task → ⊥
no_computer Get r w = r
no_computer (Insert replace) r w = r
no_computer RemoveIf r w = r
no_computer Compute r w = w

served_in_stage : (task : Task) (hash : ℕ) (made : Made) (stage : Stage) → IsValidState task stage → IsWriter task → (t x old new : ℕ)
    → asks made hash stage ≡ Ask_exchange (Slot t x) old new → IsServed made t x old (pair_of new)
served_in_stage task hash made AtRoot s w t x old new e = absurd cc
served_in_stage task hash made Making s w t x old new e = absurd cc
served_in_stage task hash made (Opening u) s w t x old new e = absurd cc
served_in_stage task hash made (Searching (Sizing u)) s w t x old new e = absurd cc
served_in_stage task hash made (Searching (Looking place)) s w t x old new e = absurd cc
served_in_stage task hash made (Searching (Reading place)) s w t x old new e = absurd cc
served_in_stage task hash made (Searching (Comparing place word)) s w t x old new e = absurd cc
served_in_stage task hash made (Writing write) s w t x old new e = write_served made write (serves made write) refl t x old new e
served_in_stage task hash made (Offering gap) s w t x old new e = absurd cc
served_in_stage task hash made (Showing removal) s w t x old new e = absurd cc
served_in_stage task hash made (Pairing purpose) s w t x old new e = absurd (no_computer task s.0 w)
served_in_stage task hash made (Putting put) s w t x old new e = absurd (no_computer task s.0 w)
served_in_stage task hash made (Burying removal) s w t x old new e = absurd (no_writer task s.0 w)
served_in_stage task hash made (Counting n) s w t x old new e = absurd cc
served_in_stage task hash made (Noting n) s w t x old new e = absurd cc
served_in_stage task hash made (Uncounting n) s w t x old new e = absurd cc
served_in_stage task hash made (Leaving u) s w t x old new e = absurd cc
served_in_stage task hash made (Growing u) s w t x old new e = absurd cc
served_in_stage task hash made (Ended reply) s w t x old new e = absurd cc

pub asked_served : (m : Machine) → IsValidState m.task m.state → IsWriter m.task → (t x old new : ℕ) → ask_of m ≡ Ask_exchange (Slot t x) old new
    → IsServed m.made t x old (pair_of new)
asked_served m s w t x old new e = served_in_stage m.task m.hash m.made m.state s w t x old new e

-- A pair that is put in is claimed for an empty place, or replaces the one that is there.
abbrev IsKindAt : Option StepKind → (t x old n : ℕ) → Type 0
IsKindAt kind t x old n = kind ≡ Some (cond (old == 0) kinds.Claim kinds.Replace)

write_kinds : (made : Made) (write : Write) (serving : Option ℕ) → (t x old new : ℕ) → served_ask serving write made ≡ Ask_exchange (Slot t x) old new
    → IsKindAt (served_kind serving made write) t x old (pair_of new)
write_kinds made write None t x old new e = absurd (subst IsPairAsk e (pair_asks made write.old))
write_kinds made write (Some n) t x old new e = of_ask (IsKindAt (Some (write_kind write))) write n refl t x old new e

kind_in_stage : (hash : ℕ) (made : Made) (stage : Stage) (t x old new : ℕ) → asks made hash stage ≡ Ask_exchange (Slot t x) old new
    → IsPutting (kind_asked made stage) → IsKindAt (kind_asked made stage) t x old (pair_of new)
kind_in_stage hash made AtRoot t x old new e puts = absurd cc
kind_in_stage hash made Making t x old new e puts = absurd cc
kind_in_stage hash made (Opening u) t x old new e puts = absurd cc
kind_in_stage hash made (Searching (Sizing u)) t x old new e puts = absurd cc
kind_in_stage hash made (Searching (Looking place)) t x old new e puts = absurd cc
kind_in_stage hash made (Searching (Reading place)) t x old new e puts = absurd cc
kind_in_stage hash made (Searching (Comparing place word)) t x old new e puts = absurd cc
kind_in_stage hash made (Writing write) t x old new e puts = write_kinds made write (serves made write) t x old new e
kind_in_stage hash made (Offering gap) t x old new e puts = absurd cc
kind_in_stage hash made (Showing removal) t x old new e puts = absurd cc
kind_in_stage hash made (Pairing purpose) t x old new e puts = absurd (subst IsPairAsk e (pairing_asks made purpose))
kind_in_stage hash made (Putting put) t x old new e puts = of_ask (IsKindAt (Some (write_kind put.write))) put.write put.pair refl t x old new e
kind_in_stage hash made (Burying removal) t x old new e puts = absurd (not_buried (kind_asked made (Burying removal)) refl puts)
kind_in_stage hash made (Counting n) t x old new e puts = absurd cc
kind_in_stage hash made (Noting n) t x old new e puts = absurd cc
kind_in_stage hash made (Uncounting n) t x old new e puts = absurd cc
kind_in_stage hash made (Leaving u) t x old new e puts = absurd cc
kind_in_stage hash made (Growing u) t x old new e puts = absurd cc
kind_in_stage hash made (Ended reply) t x old new e puts = absurd cc

pub asked_kind : (m : Machine) (t x old new : ℕ) → ask_of m ≡ Ask_exchange (Slot t x) old new → IsPutting (kind_of_ask m)
    → kind_of_ask m ≡ Some (cond (old == 0) kinds.Claim kinds.Replace)
asked_kind m t x old new e puts = kind_in_stage m.hash m.made m.state t x old new e puts
