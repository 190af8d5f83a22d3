-- The exchange for which a machine asks: it may be made if its old word is there, and it writes
-- only its own word.
use Rattle.std.proofs.Common.{◌≡◌, ⊎_elim, ℕ, ◌+◌, ◌<◌, ◌==◌, eqb-true, eq-eqb, Bool, true, false}
use Rattle.std.proofs.Common.{cond, MatchBool, Option, None, Some, MatchOption, List, ◌++◌, refl}
use Rattle.std.proofs.Common.{sym, ap, ◌∙◌, subst}
use Rattle.papaya_words.specs.Word.{kind_of, live_word, buried_word}
use Rattle.papaya_words.specs.declared.word.Kind.TheVariants as word_kinds
use Rattle.papaya_call.specs.declared.ask.Ask.TheVariants.{Exchange as Ask_exchange}
use Rattle.papaya_call.specs.declared.ask.At.{At}
use Rattle.papaya_call.specs.declared.ask.At.TheVariants.{Root, Next, Aborted, Done, Slot, Made as Made_word}
use Rattle.papaya_call.specs.declared.ask.StepKind.{StepKind}
use Rattle.papaya_call.specs.declared.ask.StepKind.TheVariants as kinds
use Rattle.papaya_call.specs.declared.call.Task.{Task}
use Rattle.papaya_call.specs.declared.call.Task.TheVariants.{Get, Insert, RemoveIf, Compute}
use Rattle.papaya_call.specs.declared.compute.Put.{Put}
use Rattle.papaya_call.specs.declared.remove.Removal.{Removal}
use Rattle.papaya_call.specs.declared.search.Place.{Place}
use Rattle.papaya_call.specs.declared.search.Search.TheVariants.{Sizing, Looking, Reading, Comparing}
use Rattle.papaya_call.specs.declared.made.Made.{Made}
use Rattle.papaya_call_law.proofs.Makings.{IsMakeAsk, make_asks}
use Rattle.papaya_call_law.proofs.ReliesServed.{served_pair}
use Rattle.papaya_call.specs.declared.write.Write.{Write}
use Rattle.papaya_call.specs.declared.machine.Machine.{Machine}
use Rattle.papaya_call.specs.declared.machine.State.{State as Stage}
use Rattle.papaya_call.specs.declared.machine.State.TheVariants.{AtRoot, Making, Opening, Searching}
use Rattle.papaya_call.specs.declared.machine.State.TheVariants.{Writing, Offering, Showing}
use Rattle.papaya_call.specs.declared.machine.State.TheVariants.{Pairing, Putting, Burying}
use Rattle.papaya_call.specs.declared.machine.State.TheVariants.{Counting, Noting, Uncounting}
use Rattle.papaya_call.specs.declared.machine.State.TheVariants.{Leaving, Growing, Ended}
use Rattle.papaya_words_law.specs.Exchange.{Word, Live, Buried, Setting, State, Exchange, Open, Claim, Replace, Bury, Take, after, run, slot_put, start, walk}
use Rattle.papaya_words_law.specs.View.{look, beyond, IsPassed, IsReached}
use Rattle.papaya_words_law.specs.Allows.{AllAllowed, Allows, MayClaim, MayReplace, MayBury}
use Rattle.papaya_words_law.specs.Code.{Coding, IsOfKind, code}
use Rattle.papaya_words_law.specs.Invariant.{named}
use Rattle.papaya_words_law.specs.Later.{Becomes, IsOfKey}
use Rattle.papaya_call.specs.declared.compute.Remembered.{Remembered}
use Rattle.papaya_call.specs.declared.made.Number.{Number}
use Rattle.papaya_call.specs.declared.made.Number.TheVariants.{Wanted, Free, Taken}
use Rattle.papaya_call.specs.Compute.{in_place_of}
use Rattle.papaya_call.specs.Made.{number_ask, number_kind}
use Rattle.papaya_call.specs.Machine.{asks, kind_asked, served_kind}
use Rattle.papaya_call.specs.Write.{served_ask, serves}
use Rattle.papaya_call_law.specs.TrueAnswers.{IsAsked, IsWritten, LoadedPairs, word_of}
use Rattle.papaya_words_law.specs.Code.{IsHashed}
use Rattle.papaya_call.specs.Remove.{grave_word}
use Rattle.papaya_call_law.specs.Relies.{IsAt, IsOwnPair, IsPairAt, IsPairFor, MayRemove, MayWrite}
use Rattle.papaya_call_law.specs.Relies.{Relies, ReliesLoaded, ReliesNumber, ReliesStage}
use Rattle.papaya_call_law.specs.Relies.{ReliesWriting}
use Rattle.papaya_words_law.proofs.Codes.{code_empty, code_pair}
use Rattle.papaya_words_law.proofs.CodeViews.{word_of_kind}
use Rattle.papaya_words_law.proofs.Slots.{look_same, put_there, put_elsewhere}
use Rattle.papaya_call_law.proofs.NewWords.{pair_of-live_word}
use Rattle.papaya_call_law.proofs.ReliesLearnMoments.{come_reached}

module _ {K P : Type 0} (g : Setting K P) (c : Coding K P) (hashed : IsHashed g c) (begun since : List (Exchange P))
    (may : AllAllowed g start (begun ++ since)) (k : K) where
  -- the state after all exchanges
  abbrev now : State P
  now = run (begun ++ since) start

  module _ (at : Place) (r : IsAt g c begun since k at) where
    -- the key's search comes to the place
    reached : IsReached g now k at.table
    reached = come_reached g c hashed.lawful begun since may k at.table r.come

    -- so does the search for each equal key
    reached_pair : (p : P) → g.same k (g.key p) ≡ true → IsReached g now (g.key p) at.table
    reached_pair p same = let e = reached in record {
      from = e.from;
      links = e.links;
      was = e.was;
      is = e.is;
      made = e.made;
      mode = e.mode;
      passed = λ i lt. subst (λ V. IsPassed g.places V (walk now.next i e.from)) (look_same g hashed.lawful now k (g.key p) same) (e.passed i lt);
    }

    -- a pair of the key that is Live may be deleted
    pub may_bury : (p : P) → now.slot at.table at.probe.i ≡ Live p → g.same k (g.key p) ≡ true → MayBury g now at.table at.probe.i p
    may_bury p live same = record { live = live; reached = reached_pair p same }

    -- at an Empty place a pair of the key may be claimed
    pub may_claim : (q : P) → g.key q ≡ k → code g c (now.slot at.table at.probe.i) ≡ 0 → MayClaim g now at.table at.probe.i q
    may_claim q mine none = record {
      empty = code_empty g c (now.slot at.table at.probe.i) none;
      reached = subst (λ l. IsReached g now l at.table) (sym mine) reached;
      place = record {
        at = at.probe.len;
        within = r.within;
        is = ap (λ l. g.place l at.table at.probe.len) mine ∙ sym r.slot;
        before = subst (λ l. (i : ℕ) → i < at.probe.len → beyond (look g now l at.table i) ≡ true) (sym mine) r.before;
      };
    }

    -- a Live pair with a key equal to the call's may be replaced by one with just that pair's key
    pub may_replace : (p q : P) → now.slot at.table at.probe.i ≡ Live p → g.same k (g.key p) ≡ true → g.key q ≡ g.key p
        → MayReplace g now at.table at.probe.i p q
    may_replace p q live same kept = record {
      live = live;
      reached = reached_pair p same;
      same = subst (λ l. g.same (g.key p) l ≡ true) (sym kept) (hashed.lawful.itself (g.key p));
      kept = kept;
    }

  -- the exchange of this kind at this place may be made, and writes just the new word
  abbrev pub MayDo : Option StepKind → LoadedPairs P → At → (old new : ℕ) → Type 0
  MayDo kind loaded at old new = word_of g c now at ≡ old → (e : Exchange P) × IsAsked g c k kind at new now loaded e × Allows g now e
      × IsWritten g c now at new (after now e)

  -- an ask has one kind, place and words
  same_ask : (kind : Option StepKind) (loaded : LoadedPairs P) (at at' : At) (old old' new new' : ℕ)
      → Ask_exchange at old new ≡ Ask_exchange at' old' new' → MayDo kind loaded at old new → MayDo kind loaded at' old' new'
  same_ask kind loaded at at' old old' new new' e h =
      let a : at ≡ at' = cc e in
      let b : old ≡ old' = cc e in
      let d : new ≡ new' = cc e in
      subst (λ y. MayDo kind loaded y old' new') a (subst (λ y. MayDo kind loaded at y new') b (subst (λ y. MayDo kind loaded at old y) d h))

  -- a root is put in
  opens : (loaded : LoadedPairs P) (t : ℕ) → 0 < t → MayDo (Some kinds.Open) loaded Root 0 t
  opens loaded t some none = (Open t, refl, (none, some), record { here = refl; others = others })
    where
      others : (other : At) → (other ≡ Root → ⊥) → word_of g c (after now (Open t)) other ≡ word_of g c now other
      others Root different = absurd (different refl)
      others (Next u) different = refl
      others (Aborted u) different = refl
      others (Done u b) different = refl
      others (Slot u y) different = refl
      others Made_word different = refl

  -- a number is taken
  takes : (loaded : LoadedPairs P) (count : ℕ) → MatchOption g.most (Unit {0}) (λ most. count < most)
      → MayDo (Some kinds.Take) loaded Made_word count (count + 1)
  takes loaded count free is = (
    Take now.made,
    refl,
    (refl, subst (λ n. MatchOption g.most (Unit {0}) (λ most. n < most)) (sym is) free),
    record { here = ap (λ n. n + 1) is; others = others },
  )
    where
      others : (other : At) → (other ≡ Made_word → ⊥) → word_of g c (after now (Take now.made)) other ≡ word_of g c now other
      others Root different = refl
      others (Next u) different = refl
      others (Aborted u) different = refl
      others (Done u b) different = refl
      others (Slot u y) different = refl
      others Made_word different = absurd (different refl)

  -- a word that is put into a slot is the only one that changes
  slot_written : (t x : ℕ) (w : Word P) → IsWritten g c now (Slot t x) (code g c w) (slot_put now t x w)
  slot_written t x w = record { here = ap (code g c) (put_there now t x w t x (refl, refl)).0; others = others }
    where
      others : (other : At) → (other ≡ Slot t x → ⊥) → word_of g c (slot_put now t x w) other ≡ word_of g c now other
      others Root different = refl
      others (Next u) different = refl
      others (Aborted u) different = refl
      others (Done u b) different = refl
      others Made_word different = refl
      others (Slot u y) different = ap (code g c) (put_elsewhere now t x w u y (λ e. different (ap (λ a. Slot a y) (sym e.0) ∙ ap (Slot t) (sym e.1))))

  -- an insertion's word is the code of its pair
  new_code : (n : ℕ) (q : P) → c.number q ≡ n → code g c (Live q) ≡ live_word n
  new_code n q is = ap live_word is

  -- a Live word that came from one of the key is of the key
  still_own : (was : Word P) (p q : P) → IsOfKind word_kinds.Live was → named was ≡ Some p → Becomes g was (Live q) → g.same k (g.key p) ≡ true
      → g.same k (g.key q) ≡ true
  still_own was p q live names became same =
      let is : live.0 ≡ p = let n = ap named (sym live.1) ∙ names in cc n in
      let kept : g.key q ≡ g.key live.0 = subst (λ w. Becomes g w (Live q)) live.1 became in
      subst (λ l. g.same k l ≡ true) (sym (kept ∙ ap g.key is)) same

  -- so is a Live word that is where a removal met its pair
  pub live_same : (loaded : LoadedPairs P) (removal : Removal) → MayRemove g c begun since k loaded removal → (q : P)
      → now.slot removal.place.table removal.place.probe.i ≡ Live q → g.same k (g.key q) ≡ true
  live_same loaded removal r q live =
      let was_live : IsOfKind word_kinds.Live r.met.was = subst (λ y. IsOfKind y r.met.was) (ap kind_of (sym r.met.as_loaded) ∙ r.live)
      (word_of_kind g c r.met.was) in
      still_own r.met.was r.pair q was_live r.met.names (subst (Becomes g r.met.was) live r.met.became) r.same

  -- a pair of the key that is in a slot has the key of the Live word there
  pub live_key : (t x : ℕ) (p q : P) → now.slot t x ≡ Live p → IsOfKey g (now.slot t x) (g.key q) → g.key q ≡ g.key p
  live_key t x p q live of_key =
      let there : Some p ≡ Some of_key.0 = ap named (sym live) ∙ of_key.1 in
      let is : p ≡ of_key.0 = cc there in
      sym of_key.2 ∙ ap g.key (sym is)

  module _ (loaded : LoadedPairs P) where
    -- a call writes a pair that was made for the place: it is claimed if there was none, or
    -- replaces another
    writes : (n : ℕ) (replace : Bool) (write : Write) → MayWrite g c begun since k loaded replace write → (b : Bool) → (write.old == 0) ≡ b
        → MatchBool b (IsOwnPair g c begun since k loaded n) (IsPairAt g c begun since k loaded n write.place.table write.place.probe.i)
        → MayDo (Some (cond b kinds.Claim kinds.Replace)) loaded (Slot write.place.table write.place.probe.i) write.old (live_word n)
    writes n replace write r true e m old =
        let t : ℕ = write.place.table in
        let x : ℕ = write.place.probe.i in
        let q : P = m.0 in (
          Claim t x q,
          (q, record { made = m.1; named = m.2 ∙ sym (pair_of-live_word n) }, m.3, refl),
          may_claim write.place r.stands q m.3 (old ∙ eqb-true write.old 0 e),
          subst (λ y. IsWritten g c now (Slot t x) y (slot_put now t x (Live q))) (new_code n q m.2) (slot_written t x (Live q)),
        )
    writes n replace write r false e m old =
        let t : ℕ = write.place.table in
        let x : ℕ = write.place.probe.i in
        let q : P = m.0 in
        ⊎_elim
        (λ none. absurd (let some = eq-eqb write.old 0 none in cc (some, e)))
        (λ h.
        let removal : Removal = record { place = write.place; word = write.old } in
        let live : IsOfKind word_kinds.Live (now.slot t x) = subst (λ y. IsOfKind y (now.slot t x)) (ap kind_of old ∙ h.1.live)
        (word_of_kind g c (now.slot t x)) in
        let kept : g.key q ≡ g.key live.0 = live_key t x live.0 q live.1 m.3 in (
          Replace t x live.0 q,
          (live.0, q, live.1, record { made = m.1; named = m.2 ∙ sym (pair_of-live_word n) }, kept, refl),
          may_replace write.place r.stands live.0 q live.1 (live_same loaded removal h.1 live.0 live.1) kept,
          subst (λ y. IsWritten g c now (Slot t x) y (slot_put now t x (Live q))) (new_code n q m.2) (slot_written t x (Live q)),
        ))
        r.old

    -- an insertion writes
    writing : (n : ℕ) (task : Task) (write : Write) → ReliesWriting g c begun since k loaded task write → IsPairFor g c begun since k loaded write n
        → MayDo (Some (cond (write.old == 0) kinds.Claim kinds.Replace)) loaded (Slot write.place.table write.place.probe.i) write.old (live_word n)
    writing n Get write r m = absurd r
    writing n RemoveIf write r m = absurd r
    writing n Compute write r m = absurd r
    writing n (Insert replace) write r m = writes n replace write r (write.old == 0) refl m

    -- and so does a compute
    puts : (put : Put) → MayWrite g c begun since k loaded true put.write → IsPairFor g c begun since k loaded put.write put.pair
        → MayDo (Some (cond (put.write.old == 0) kinds.Claim kinds.Replace)) loaded (Slot put.write.place.table put.write.place.probe.i) put.write.old
        (live_word put.pair)
    puts put r m = writes put.pair true put.write r (put.write.old == 0) refl m

  -- a removed pair's word is that of its kind, Buried
  grave_code : (p : P) (word : ℕ) → code g c (Live p) ≡ word → code g c (Buried p) ≡ grave_word word
  grave_code p word e = ap buried_word (sym (code_pair g c hashed.coding (Live p) p refl)) ∙ ap grave_word e

  -- a pair for which the closure returned `true` is deleted if its word is still there
  buries : (loaded : LoadedPairs P) (removal : Removal) → MayRemove g c begun since k loaded removal
      → MayDo (Some kinds.Bury) loaded (Slot removal.place.table removal.place.probe.i) removal.word (grave_word removal.word)
  buries loaded removal r stands_there =
      let t : ℕ = removal.place.table in
      let x : ℕ = removal.place.probe.i in
      let live : IsOfKind word_kinds.Live (now.slot t x) = subst (λ y. IsOfKind y (now.slot t x)) (ap kind_of stands_there ∙ r.live)
      (word_of_kind g c (now.slot t x)) in
      let q : P = live.0 in
      let same : g.same k (g.key q) ≡ true = live_same loaded removal r q live.1 in (
        Bury t x q,
        (q, live.1, refl),
        may_bury removal.place r.met.stands q live.1 same,
        subst (λ y. IsWritten g c now (Slot t x) y (slot_put now t x (Buried q)))
            (grave_code q removal.word (ap (code g c) (sym live.1) ∙ stands_there)) (slot_written t x (Buried q)),
      )

  module _ (loaded : LoadedPairs P) (hash : ℕ) (task : Task) where
    -- an exchange asked for a pair may be made
    number_do : (number : Number) (made : Made) (word : ℕ) → ReliesNumber g c begun since k number → (at : At) (old new : ℕ)
        → number_ask number made word ≡ Ask_exchange at old new → MayDo (number_kind number) loaded at old new
    number_do Wanted made word r at old new e = absurd cc
    number_do (Free count) made word r at old new e = same_ask (Some kinds.Take) loaded Made_word at count old (count + 1) new e (takes loaded count r)
    number_do Taken made word r at old new e = absurd (subst IsMakeAsk e (make_asks made word))

    -- and so may an exchange of an insertion that writes
    write_do : (made : Made) (held : Remembered) → ReliesLoaded g c begun since k loaded made held → (write : Write)
        → ReliesWriting g c begun since k loaded task write → (served : Option ℕ) → serves made write ≡ served
        → (at : At) (old new : ℕ) → served_ask served write made ≡ Ask_exchange at old new → MayDo (served_kind served made write) loaded at old new
    write_do made held m write r None is at old new e = number_do made.number made write.old m.number_is at old new e
    write_do made held m write r (Some n) is at old new e =
        same_ask (Some (cond (write.old == 0) kinds.Claim kinds.Replace)) loaded (Slot write.place.table write.place.probe.i) at write.old old
        (live_word n) new e
        (writing loaded n task write r (served_pair g c begun since k loaded made held m write n is))

    -- an exchange that a machine asks for may be made
    may_do : (made : Made) (held : Remembered) → ReliesLoaded g c begun since k loaded made held → (stage : Stage)
        → ReliesStage g c begun since k loaded task stage
        → (at : At) (old new : ℕ) → asks made hash stage ≡ Ask_exchange at old new → MayDo (kind_asked made stage) loaded at old new
    may_do made held m AtRoot r at old new e = absurd cc
    may_do made held m Making r at old new e = absurd cc
    may_do made held m (Opening t) r at old new e = same_ask (Some kinds.Open) loaded Root at 0 old t new e (opens loaded t r.1)
    may_do made held m (Searching (Sizing t)) r at old new e = absurd cc
    may_do made held m (Searching (Looking place)) r at old new e = absurd cc
    may_do made held m (Searching (Reading place)) r at old new e = absurd cc
    may_do made held m (Searching (Comparing place word)) r at old new e = absurd cc
    may_do made held m (Writing write) r at old new e = write_do made held m write r (serves made write) refl at old new e
    may_do made held m (Offering gap) r at old new e = absurd cc
    may_do made held m (Showing removal) r at old new e = absurd cc
    may_do made held m (Pairing purpose) r at old new e = number_do made.number made (in_place_of purpose) m.number_is at old new e
    may_do made held m (Putting put) r at old new e =
        let write : Write = put.write in
        same_ask (Some (cond (write.old == 0) kinds.Claim kinds.Replace)) loaded (Slot write.place.table write.place.probe.i) at write.old old
        (live_word put.pair) new e (puts loaded put r.1 r.2)
    may_do made held m (Burying removal) r at old new e =
        same_ask (Some kinds.Bury) loaded (Slot removal.place.table removal.place.probe.i) at removal.word old (grave_word removal.word) new e
        (buries loaded removal r.1)
    may_do made held m (Counting n) r at old new e = absurd cc
    may_do made held m (Noting n) r at old new e = absurd cc
    may_do made held m (Uncounting n) r at old new e = absurd cc
    may_do made held m (Leaving t) r at old new e = absurd cc
    may_do made held m (Growing t) r at old new e = absurd cc
    may_do made held m (Ended reply) r at old new e = absurd cc

  -- the same for the whole machine
  pub machine_may : (m : Machine) (loaded : LoadedPairs P) → Relies g c begun since k m loaded → (at : At) (old new : ℕ)
      → asks m.made m.hash m.state ≡ Ask_exchange at old new → MayDo (kind_asked m.made m.state) loaded at old new
  machine_may m loaded r at old new e = may_do loaded m.hash m.task m.made m.remembered r.made m.state r.stage at old new e
