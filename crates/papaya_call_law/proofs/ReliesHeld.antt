-- The pair that a call has made when it exchanges a slot, and the pair that a call has loaded when
-- it calls its closure with it.
use Rattle.std.proofs.Common.{◌≡◌, inl, inr, ℕ, Option, None, Some, List, refl, subst}
use Rattle.papaya_call.specs.declared.ask.At.TheVariants.{Slot}
use Rattle.papaya_call.specs.declared.ask.Ask.TheVariants.{Exchange as Ask_exchange, SameKey, ShowNone, ShowPair}
use Rattle.papaya_call.specs.declared.remove.Removal.{Removal}
use Rattle.papaya_words.specs.Word.{kind_of, pair_of}
use Rattle.papaya_words.specs.declared.word.Kind.TheVariants as word_kinds
use Rattle.papaya_words_law.specs.Code.{IsOfKind}
use Rattle.papaya_words_law.specs.Exchange.{Live}
use Rattle.papaya_words_law.specs.Invariant.{named}
use Rattle.papaya_words_law.specs.View.{Foreign, Here, held, view}
use Rattle.papaya_call_law.specs.Relies.{MayRemove, WasAtMoment}
use Rattle.papaya_words_law.specs.Code.{IsHashed}
use Rattle.papaya_words_law.proofs.Codes.{code_pair}
use Rattle.papaya_words_law.proofs.CodeViews.{word_of_kind}
use Rattle.std.proofs.Common.{true, cond, sym, ap, ◌∙◌, subst}
use Rattle.papaya_call.specs.declared.call.Task.{Task}
use Rattle.papaya_call.specs.declared.call.Task.TheVariants.{Get, Insert, RemoveIf, Compute}
use Rattle.papaya_call.specs.declared.search.Search.TheVariants.{Sizing, Looking, Reading, Comparing}
use Rattle.papaya_call.specs.declared.made.Made.{Made}
use Rattle.papaya_call_law.proofs.Makings.{IsPairAsk, IsWriteAsk, pair_asks, pair_made as pair_of_grown, pairing_asks, write_asks}
use Rattle.papaya_call_law.proofs.ReliesServed.{pair_made, served_pair}
use Rattle.papaya_call.specs.declared.write.Write.{Write}
use Rattle.papaya_call.specs.Write.{served_ask, serves}
use Rattle.papaya_call.specs.declared.machine.Machine.{Machine}
use Rattle.papaya_call.specs.declared.machine.State.{State as Stage}
use Rattle.papaya_call.specs.declared.machine.State.TheVariants.{AtRoot, Making, Opening, Searching}
use Rattle.papaya_call.specs.declared.machine.State.TheVariants.{Writing, Offering, Showing}
use Rattle.papaya_call.specs.declared.machine.State.TheVariants.{Pairing, Putting, Burying}
use Rattle.papaya_call.specs.declared.machine.State.TheVariants.{Counting, Noting, Uncounting}
use Rattle.papaya_call.specs.declared.machine.State.TheVariants.{Leaving, Growing, Ended}
use Rattle.papaya_words_law.specs.Exchange.{Setting, Exchange}
use Rattle.papaya_call.specs.declared.call.Reply.{Reply}
use Rattle.papaya_call.specs.declared.ask.Ask.TheVariants.{Done}
use Rattle.papaya_call_law.specs.Relies.{IsReply, change_in, change_of_reply}
use Rattle.papaya_words_law.specs.Code.{Coding}
use Rattle.papaya_call.specs.declared.ask.Answer.TheVariants.{Op, Made as Made_number, Refused as Was_refused}
use Rattle.papaya_call.specs.declared.ask.OpKind.{OpKind}
use Rattle.papaya_call.specs.declared.ask.OpKind.TheVariants as ops
use Rattle.papaya_call.specs.declared.call.Reply.TheVariants.{Refused as Reply_refused}
use Rattle.papaya_call.specs.declared.compute.Gap.{Gap}
use Rattle.papaya_call.specs.declared.compute.Gap.TheVariants.{NoRoot, At, After}
use Rattle.papaya_call.specs.declared.compute.Purpose.{Purpose}
use Rattle.papaya_call.specs.declared.compute.Purpose.TheVariants.{Fill, Replace, Again}
use Rattle.papaya_call.specs.declared.made.Grown.{Grown}
use Rattle.papaya_call.specs.declared.made.Grown.TheVariants.{On, Pair}
use Rattle.papaya_call.specs.Made.{grown, paired as pair_done}
use Rattle.papaya_call.specs.Compute.{in_place_of, provides}
use Rattle.papaya_words.specs.declared.refused.Refused.{Refused as Cause}
use Rattle.papaya_call.specs.Machine.{HasClosure, IsComputer, IsValid, IsValidState, IsWriter, after, ask_of, asks, paired}
use Rattle.papaya_call_law.specs.Says.{HasCalledNone, Inserts, MakesPair, ActsOn, result_in, result_to_choose, result_to_fill, show}
use Rattle.papaya_call.specs.declared.compute.Choice.{Choice}
use Rattle.papaya_call.specs.declared.compute.Choice.TheVariants.{Replace as To_replace, Remove as To_remove}
use Rattle.papaya_call_law.specs.Relies.{Relies, ReliesLoaded, ReliesStage}
use Rattle.papaya_call.specs.declared.compute.Remembered.{Remembered}
use Rattle.papaya_call_law.specs.TrueAnswers.{IsOneOf, LoadedPairs}

module _ {K P : Type 0} (g : Setting K P) (c : Coding K P) (begun since : List (Exchange P)) (k : K) (loaded : LoadedPairs P) where
  -- the pair that a call made
  abbrev pub HasMade : Type 0
  HasMade = (q : P) × IsOneOf loaded.made q × (g.same k (g.key q) ≡ true)

  not_both : (task : Task) → HasClosure task → IsWriter task → ⊥
  not_both Get r w = r
  not_both (Insert replace) r w = r
  not_both RemoveIf r w = w
  not_both Compute r w = w

  computes_not : (task : Task) → IsComputer task → IsWriter task → ⊥
  computes_not Get r w = r
  computes_not (Insert replace) r w = r
  computes_not RemoveIf r w = r
  computes_not Compute r w = w

  -- an insertion that exchanges a slot has a pair that it uses there
  write_made : (made : Made) (held : Remembered) → ReliesLoaded g c begun since k loaded made held
      → (write : Write) (t x old new : ℕ) (served : Option ℕ) → serves made write ≡ served
      → served_ask served write made ≡ Ask_exchange (Slot t x) old new → HasMade
  write_made made held r write t x old new None is e = absurd (subst IsPairAsk e (pair_asks made write.old))
  write_made made held r write t x old new (Some n) is e = let own = pair_made g c begun since k loaded write n
      (served_pair g c begun since k loaded made held r write n is) in (own.0, own.1, r.keys own.0 own.1)

  made_in : (task : Task) (hash : ℕ) (made : Made) (held : Remembered) → ReliesLoaded g c begun since k loaded made held → (stage : Stage)
      → ReliesStage g c begun since k loaded task stage → (t x old new : ℕ) → asks made hash stage ≡ Ask_exchange (Slot t x) old new → IsWriter task → HasMade
  made_in task hash made held r AtRoot s t x old new e w = absurd cc
  made_in task hash made held r Making s t x old new e w = absurd cc
  made_in task hash made held r (Opening u) s t x old new e w = absurd cc
  made_in task hash made held r (Searching (Sizing u)) s t x old new e w = absurd cc
  made_in task hash made held r (Searching (Looking at)) s t x old new e w = absurd cc
  made_in task hash made held r (Searching (Reading at)) s t x old new e w = absurd cc
  made_in task hash made held r (Searching (Comparing at word)) s t x old new e w = absurd cc
  made_in task hash made held r (Writing write) s t x old new e w = write_made made held r write t x old new (serves made write) refl e
  made_in task hash made held r (Offering gap) s t x old new e w = absurd cc
  made_in task hash made held r (Showing removal) s t x old new e w = absurd cc
  made_in task hash made held r (Pairing purpose) s t x old new e w = absurd (subst IsPairAsk e (pairing_asks made purpose))
  made_in task hash made held r (Putting put) s t x old new e w = absurd (computes_not task s.0 w)
  made_in task hash made held r (Burying removal) s t x old new e w = absurd (not_both task s.0 w)
  made_in task hash made held r (Counting n) s t x old new e w = absurd cc
  made_in task hash made held r (Noting n) s t x old new e w = absurd cc
  made_in task hash made held r (Uncounting n) s t x old new e w = absurd cc
  made_in task hash made held r (Leaving u) s t x old new e w = absurd cc
  made_in task hash made held r (Growing u) s t x old new e w = absurd cc
  made_in task hash made held r (Ended reply) s t x old new e w = absurd cc

  -- an insertion that exchanges a slot has made its pair
  pub machine_made : (m : Machine) → Relies g c begun since k m loaded → (t x old new : ℕ) → ask_of m ≡ Ask_exchange (Slot t x) old new
      → IsWriter m.task → HasMade
  machine_made m r t x old new e w = made_in m.task m.hash m.made m.remembered r.made m.state r.stage t x old new e w

  -- a pair that was loaded
  abbrev pub WasTold : Type 0
  WasTold = (p : P) × (loaded.last ≡ Some p)

  told_in : (task : Task) (hash : ℕ) (made : Made) (stage : Stage) → ReliesStage g c begun since k loaded task stage → (n : ℕ)
      → asks made hash stage ≡ SameKey n → WasTold
  told_in task hash made AtRoot s n e = absurd cc
  told_in task hash made Making s n e = absurd cc
  told_in task hash made (Opening u) s n e = absurd cc
  told_in task hash made (Searching (Sizing u)) s n e = absurd cc
  told_in task hash made (Searching (Looking at)) s n e = absurd cc
  told_in task hash made (Searching (Reading at)) s n e = absurd cc
  told_in task hash made (Searching (Comparing at word)) s n e = (s.0, s.1)
  told_in task hash made (Writing write) s n e = absurd (subst IsWriteAsk e (write_asks made write))
  told_in task hash made (Offering gap) s n e = absurd cc
  told_in task hash made (Showing removal) s n e = absurd cc
  told_in task hash made (Pairing purpose) s n e = absurd (subst IsPairAsk e (pairing_asks made purpose))
  told_in task hash made (Putting put) s n e = absurd cc
  told_in task hash made (Burying removal) s n e = absurd cc
  told_in task hash made (Counting i) s n e = absurd cc
  told_in task hash made (Noting i) s n e = absurd cc
  told_in task hash made (Uncounting i) s n e = absurd cc
  told_in task hash made (Leaving u) s n e = absurd cc
  told_in task hash made (Growing u) s n e = absurd cc
  told_in task hash made (Ended reply) s n e = absurd cc

  -- a call that compares a key has loaded a pair
  pub machine_told : (m : Machine) → Relies g c begun since k m loaded → (n : ℕ) → ask_of m ≡ SameKey n → WasTold
  machine_told m r n e = told_in m.task m.hash m.made m.state r.stage n e

module _ {K P : Type 0} (g : Setting K P) (c : Coding K P) (hashed : IsHashed g c) (begun since : List (Exchange P)) (k : K) (loaded : LoadedPairs P) where
  -- the pair that the closure is called with: the one last loaded, with the call's key, which the
  -- map had at some point of the call
  abbrev pub IsShowing : ℕ → Type 0
  IsShowing n = (p : P) × (loaded.last ≡ Some p) × (c.number p ≡ n) × (g.same k (g.key p) ≡ true) × WasAtMoment g c begun since k (Some p)

  removal_shows : (removal : Removal) → MayRemove g c begun since k loaded removal → IsShowing (pair_of removal.word)
  removal_shows removal r =
      let live : IsOfKind word_kinds.Live r.met.was = subst (λ y. IsOfKind y r.met.was) (ap kind_of (sym r.met.as_loaded) ∙ r.live)
      (word_of_kind g c r.met.was) in
      let names = ap named (sym live.1) ∙ r.met.names in
      let is : live.0 ≡ r.pair = cc names in
      let was : r.met.was ≡ Live r.pair = live.1 ∙ ap Live is in
      let held_there : held (view g k r.met.was) ≡ true = ap (λ w. held (view g k w)) was ∙ ap (λ y. held (cond y (Here r.pair) Foreign)) r.same in
      (r.pair, r.last, sym (ap pair_of r.met.as_loaded ∙ (code_pair g c hashed.coding r.met.was r.pair r.met.names)), r.same, r.met.had held_there)

  shows_in : (task : Task) (hash : ℕ) (made : Made) (stage : Stage) → ReliesStage g c begun since k loaded task stage → (n : ℕ)
      → asks made hash stage ≡ ShowPair n → IsShowing n
  shows_in task hash made AtRoot s n e = absurd cc
  shows_in task hash made Making s n e = absurd cc
  shows_in task hash made (Opening u) s n e = absurd cc
  shows_in task hash made (Searching (Sizing u)) s n e = absurd cc
  shows_in task hash made (Searching (Looking at)) s n e = absurd cc
  shows_in task hash made (Searching (Reading at)) s n e = absurd cc
  shows_in task hash made (Searching (Comparing at word)) s n e = absurd cc
  shows_in task hash made (Writing write) s n e = absurd (subst IsWriteAsk e (write_asks made write))
  shows_in task hash made (Offering gap) s n e = absurd cc
  shows_in task hash made (Showing removal) s n e = let is : pair_of removal.word ≡ n = cc e in subst IsShowing is (removal_shows removal s.1)
  shows_in task hash made (Pairing purpose) s n e = absurd (subst IsPairAsk e (pairing_asks made purpose))
  shows_in task hash made (Putting put) s n e = absurd cc
  shows_in task hash made (Burying removal) s n e = absurd cc
  shows_in task hash made (Counting i) s n e = absurd cc
  shows_in task hash made (Noting i) s n e = absurd cc
  shows_in task hash made (Uncounting i) s n e = absurd cc
  shows_in task hash made (Leaving u) s n e = absurd cc
  shows_in task hash made (Growing u) s n e = absurd cc
  shows_in task hash made (Ended reply) s n e = absurd cc

  -- a call that calls its closure with a pair
  pub machine_shows : (m : Machine) → Relies g c begun since k m loaded → (n : ℕ) → ask_of m ≡ ShowPair n → IsShowing n
  machine_shows m r n e = shows_in m.task m.hash m.made m.state r.stage n e

-- a machine that replies is at its end
pub ended_in : (made : Made) (hash : ℕ) (s : Stage) (reply : Reply) → asks made hash s ≡ Done reply → s ≡ Ended reply
ended_in made hash AtRoot reply e = absurd cc
ended_in made hash Making reply e = absurd cc
ended_in made hash (Opening u) reply e = absurd cc
ended_in made hash (Searching (Sizing u)) reply e = absurd cc
ended_in made hash (Searching (Looking at)) reply e = absurd cc
ended_in made hash (Searching (Reading at)) reply e = absurd cc
ended_in made hash (Searching (Comparing at word)) reply e = absurd cc
ended_in made hash (Writing write) reply e = absurd (subst IsWriteAsk e (write_asks made write))
ended_in made hash (Offering gap) reply e = absurd cc
ended_in made hash (Showing removal) reply e = absurd cc
ended_in made hash (Pairing purpose) reply e = absurd (subst IsPairAsk e (pairing_asks made purpose))
ended_in made hash (Putting put) reply e = absurd cc
ended_in made hash (Burying removal) reply e = absurd cc
ended_in made hash (Counting i) reply e = absurd cc
ended_in made hash (Noting i) reply e = absurd cc
ended_in made hash (Uncounting i) reply e = absurd cc
ended_in made hash (Leaving u) reply e = absurd cc
ended_in made hash (Growing u) reply e = absurd cc
ended_in made hash (Ended other) reply e = let is : other ≡ reply = cc e in ap Ended is

-- its reply, and the change that it made
pub machine_replies : {K P : Type 0} (g : Setting K P) (c : Coding K P) (begun since : List (Exchange P)) (k : K) (loaded : LoadedPairs P)
    (m : Machine) → Relies g c begun since k m loaded → (reply : Reply) → ask_of m ≡ Done reply → IsReply g c begun since k loaded m.task reply
    × (change_in m.state ≡ change_of_reply reply)
machine_replies g c begun since k loaded m r reply e =
    let is = ended_in m.made m.hash m.state reply e in (subst (λ s. ReliesStage g c begun since k loaded m.task s) is r.stage, ap change_in is)

-- a machine that calls its closure with None has found where a pair of its key would be put
offering_in : (made : Made) (hash : ℕ) (s : Stage) → asks made hash s ≡ ShowNone → (gap : Gap) × (s ≡ Offering gap)
offering_in made hash AtRoot e = absurd cc
offering_in made hash Making e = absurd cc
offering_in made hash (Opening u) e = absurd cc
offering_in made hash (Searching (Sizing u)) e = absurd cc
offering_in made hash (Searching (Looking at)) e = absurd cc
offering_in made hash (Searching (Reading at)) e = absurd cc
offering_in made hash (Searching (Comparing at word)) e = absurd cc
offering_in made hash (Writing write) e = absurd (subst IsWriteAsk e (write_asks made write))
offering_in made hash (Offering gap) e = (gap, refl)
offering_in made hash (Showing removal) e = absurd cc
offering_in made hash (Pairing purpose) e = absurd (subst IsPairAsk e (pairing_asks made purpose))
offering_in made hash (Putting put) e = absurd cc
offering_in made hash (Burying removal) e = absurd cc
offering_in made hash (Counting i) e = absurd cc
offering_in made hash (Noting i) e = absurd cc
offering_in made hash (Uncounting i) e = absurd cc
offering_in made hash (Leaving u) e = absurd cc
offering_in made hash (Growing u) e = absurd cc
offering_in made hash (Ended reply) e = absurd cc

-- the map had none of its key at some point of the call
pub machine_offers : {K P : Type 0} (g : Setting K P) (c : Coding K P) (begun since : List (Exchange P)) (k : K) (loaded : LoadedPairs P)
    (m : Machine) → Relies g c begun since k m loaded → ask_of m ≡ ShowNone → WasAtMoment g c begun since k None
machine_offers g c begun since k loaded m r e = let at = offering_in m.made m.hash m.state e in
    (subst (λ s. ReliesStage g c begun since k loaded m.task s) at.1 r.stage).2

offered_shown : (m : Machine) (gap : Gap) (kind : OpKind)
    → HasCalledNone (after (record m { state = Offering gap }) (Op kind)).remembered.fill (after (record m { state = Offering gap }) (Op kind)).state
offered_shown m gap ops.Insert = tt
offered_shown m gap ops.Remove = tt
offered_shown m gap (ops.Abort with) = tt

-- and it never does so again
pub machine_offered : (m : Machine) (kind : OpKind) → ask_of m ≡ ShowNone → HasCalledNone (after m (Op kind)).remembered.fill (after m (Op kind)).state
machine_offered m kind e = let at = offering_in m.made m.hash m.state e in
    subst (λ s. HasCalledNone (after (record m { state = s }) (Op kind)).remembered.fill (after (record m { state = s }) (Op kind)).state) (sym at.1)
    (offered_shown m at.0 kind)

-- a machine that calls its closure with a pair has found it
showing_in : (made : Made) (hash : ℕ) (s : Stage) (n : ℕ) → asks made hash s ≡ ShowPair n → (removal : Removal) × (s ≡ Showing removal)
showing_in made hash AtRoot n e = absurd cc
showing_in made hash Making n e = absurd cc
showing_in made hash (Opening u) n e = absurd cc
showing_in made hash (Searching (Sizing u)) n e = absurd cc
showing_in made hash (Searching (Looking at)) n e = absurd cc
showing_in made hash (Searching (Reading at)) n e = absurd cc
showing_in made hash (Searching (Comparing at word)) n e = absurd cc
showing_in made hash (Writing write) n e = absurd (subst IsWriteAsk e (write_asks made write))
showing_in made hash (Offering gap) n e = absurd cc
showing_in made hash (Showing removal) n e = (removal, refl)
showing_in made hash (Pairing purpose) n e = absurd (subst IsPairAsk e (pairing_asks made purpose))
showing_in made hash (Putting put) n e = absurd cc
showing_in made hash (Burying removal) n e = absurd cc
showing_in made hash (Counting i) n e = absurd cc
showing_in made hash (Noting i) n e = absurd cc
showing_in made hash (Uncounting i) n e = absurd cc
showing_in made hash (Leaving u) n e = absurd cc
showing_in made hash (Growing u) n e = absurd cc
showing_in made hash (Ended reply) n e = absurd cc

fill_is_made : (fill shown : Option ℕ) → result_to_fill fill ≡ Some (Inserts shown) → ⊥
fill_is_made None shown e = cc e
fill_is_made (Some n) shown e = cc e

choice_is_made : (choice : Option Choice) (shown : Option ℕ) → result_to_choose choice ≡ Some (Inserts shown) → ⊥
choice_is_made None shown e = cc e
choice_is_made (Some (To_replace old new)) shown e = cc e
choice_is_made (Some (To_remove old)) shown e = cc e

-- so no value of its closure waits for a pair to be made from it
pub machine_unpaired : (m : Machine) (shown other : Option ℕ) → ask_of m ≡ show other → ActsOn m (Inserts shown) → ⊥
machine_unpaired m shown other e (inr (inl h)) = fill_is_made m.remembered.fill shown h
machine_unpaired m shown other e (inr (inr h)) = choice_is_made m.remembered.choice shown h
machine_unpaired m shown None e (inl h) = let at = offering_in m.made m.hash m.state e in
    let none : None ≡ Some (Inserts shown) = ap (result_in m.task) (sym at.1) ∙ h in cc none
machine_unpaired m shown (Some n) e (inl h) = let at = showing_in m.made m.hash m.state n e in
    let none : None ≡ Some (Inserts shown) = ap (result_in m.task) (sym at.1) ∙ h in cc none

-- a compute that makes a pair makes it from its closure's value
pairing_in : (made : Made) (hash : ℕ) (s : Stage) → IsValidState Compute s → MakesPair (asks made hash s) → (purpose : Purpose) × (s ≡ Pairing purpose)
pairing_in made hash AtRoot stands e = absurd e
pairing_in made hash Making stands e = absurd e
pairing_in made hash (Opening u) stands e = absurd e
pairing_in made hash (Searching (Sizing u)) stands e = absurd e
pairing_in made hash (Searching (Looking at)) stands e = absurd e
pairing_in made hash (Searching (Reading at)) stands e = absurd e
pairing_in made hash (Searching (Comparing at word)) stands e = absurd e
pairing_in made hash (Writing write) stands e = absurd stands.0
pairing_in made hash (Offering gap) stands e = absurd e
pairing_in made hash (Showing removal) stands e = absurd e
pairing_in made hash (Pairing purpose) stands e = (purpose, refl)
pairing_in made hash (Putting put) stands e = absurd e
pairing_in made hash (Burying removal) stands e = absurd e
pairing_in made hash (Counting i) stands e = absurd e
pairing_in made hash (Noting i) stands e = absurd e
pairing_in made hash (Uncounting i) stands e = absurd e
pairing_in made hash (Leaving u) stands e = absurd e
pairing_in made hash (Growing u) stands e = absurd e
pairing_in made hash (Ended reply) stands e = absurd e

refused_unpaired : (m : Machine) (purpose : Purpose) (cause : Cause) (shown : Option ℕ) → m.task ≡ Compute
    → ActsOn (after (record m { state = Pairing purpose }) (Was_refused cause)) (Inserts shown) → ⊥
refused_unpaired m purpose cause shown task (inl h) = let none : None ≡ Some (Inserts shown) = ap (λ t. result_in t (Ended (Reply_refused cause)))
    (sym task) ∙ h in cc none
refused_unpaired m purpose cause shown task (inr (inl h)) = fill_is_made m.remembered.fill shown h
refused_unpaired m purpose cause shown task (inr (inr h)) = choice_is_made m.remembered.choice shown h

-- if that failed, no value waits any longer
pub machine_refused_pair : (m : Machine) (cause : Cause) (shown : Option ℕ) → m.task ≡ Compute → IsValid m → MakesPair (ask_of m)
    → ActsOn (after m (Was_refused cause)) (Inserts shown) → ⊥
machine_refused_pair m cause shown task valid e h =
    let at = pairing_in m.made m.hash m.state (subst (λ t. IsValidState t m.state) task valid.state) e in
    refused_unpaired m at.0 cause shown task (subst (λ s. ActsOn (after (record m { state = s }) (Was_refused cause)) (Inserts shown)) at.1 h)

-- nothing waits when a pair is put in its place
provided_waits : (task : Task) (purpose : Purpose) (n : ℕ) (shown : Option ℕ) → result_in task (provides purpose n) ≡ Some (Inserts shown) → ⊥
provided_waits task (Fill NoRoot) n shown e = cc e
provided_waits task (Fill (At place)) n shown e = cc e
provided_waits task (Fill (After t)) n shown e = cc e
provided_waits task (Replace write) n shown e = cc e
provided_waits task (Again write) n shown e = cc e

paired_waits : (task : Task) (purpose : Purpose) (n : ℕ) (shown : Option ℕ) (done : Made) (G : Grown) → G ≡ Pair done
    → result_in task (paired G purpose n) ≡ Some (Inserts shown) → ⊥
paired_waits task purpose n shown done (On made) is e = cc is
paired_waits task purpose n shown done (Pair made) is e = provided_waits task purpose n shown e

pair_waits_in : (m : Machine) (made : Made) (s : Stage) (n : ℕ) (shown : Option ℕ) → MakesPair (asks made m.hash s)
    → result_in m.task (after (record m { made = made; state = s }) (Made_number n)).state ≡ Some (Inserts shown) → ⊥
pair_waits_in m made AtRoot n shown makes e = makes
pair_waits_in m made Making n shown makes e = makes
pair_waits_in m made (Opening u) n shown makes e = makes
pair_waits_in m made (Searching (Sizing u)) n shown makes e = makes
pair_waits_in m made (Searching (Looking at)) n shown makes e = makes
pair_waits_in m made (Searching (Reading at)) n shown makes e = makes
pair_waits_in m made (Searching (Comparing at word)) n shown makes e = makes
pair_waits_in m made (Writing write) n shown makes e = cc e
pair_waits_in m made (Offering gap) n shown makes e = makes
pair_waits_in m made (Showing removal) n shown makes e = makes
pair_waits_in m made (Pairing purpose) n shown makes e = paired_waits m.task purpose n shown (pair_done made) (grown made (in_place_of purpose))
    (pair_of_grown made (in_place_of purpose) makes) e
pair_waits_in m made (Putting put) n shown makes e = makes
pair_waits_in m made (Burying removal) n shown makes e = makes
pair_waits_in m made (Counting i) n shown makes e = makes
pair_waits_in m made (Noting i) n shown makes e = makes
pair_waits_in m made (Uncounting i) n shown makes e = makes
pair_waits_in m made (Leaving u) n shown makes e = makes
pair_waits_in m made (Growing u) n shown makes e = makes
pair_waits_in m made (Ended reply) n shown makes e = makes

-- once a pair was made no value waits
pub machine_made_waits : (m : Machine) (n : ℕ) (shown : Option ℕ) → MakesPair (ask_of m) → ActsOn (after m (Made_number n)) (Inserts shown) → ⊥
machine_made_waits m n shown makes (inl h) = pair_waits_in m m.made m.state n shown makes h
machine_made_waits m n shown makes (inr (inl h)) = fill_is_made (after m (Made_number n)).remembered.fill shown h
machine_made_waits m n shown makes (inr (inr h)) = choice_is_made (after m (Made_number n)).remembered.choice shown h
