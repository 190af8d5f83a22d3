-- The exchanges that a copy for a call asks for may be made in the book, and their results are right answers to the copy's machine.
use Rattle.std.proofs.Common.{◌≡◌, ◌⊎◌, inl, inr, ⊎_elim, ℕ, ◌+◌, ◌<◌, ◌≤◌, ◌==◌, Bool, true, false}
use Rattle.std.proofs.Common.{MatchBool, Option, None, Some, List, [], ◌∷◌, ◌++◌, length}
use Rattle.std.proofs.Common.{append-nil, refl, sym, ap, ◌∙◌, subst, arith}
use Rattle.std.proofs.lemmas.Bool.{eqb-true}
use Rattle.std.specs.Cmp.{IsEquivalence}
use mathlib.Core.List.{IsPrefix}
use denote.Bor.{Bor}
use Rattle.boxcar.specs.Table.{Where}
use Rattle.logbook.specs.Pages.{Book}
use Rattle.logbook.specs.declared.tokens.Pen.{Pen}
use Rattle.papaya_call.specs.declared.ask.At.{At}
use Rattle.papaya_call.specs.declared.ask.At.TheVariants.{Root, Next, Aborted, Done, Slot, Made as Made_word}
use Rattle.papaya_call.specs.declared.ask.Answer.TheVariants.{Exchanged, Found as Found_instead}
use Rattle.papaya_call.specs.declared.ask.StepKind.{StepKind}
use Rattle.papaya_call.specs.declared.ask.StepKind.TheVariants as kinds
use Rattle.papaya_call.specs.declared.copy_ask.CopyAsk.TheVariants.{Exchange as Ask_exchange}
use Rattle.papaya_call.specs.declared.copy.link.Link.{Link}
use Rattle.papaya_call.specs.declared.copy.link.Link.TheVariants as links
use Rattle.papaya_call.specs.declared.chain.ask.Answer.TheVariants as answers
use Rattle.papaya_call.specs.declared.chain.ask.Ask.TheVariants as asks
use Rattle.papaya_call.specs.declared.chain.machine.Machine.{Machine}
use Rattle.papaya_call.specs.ChainMachine.{ask_of, follows_of, kind_of_ask}
use Rattle.papaya_call_law.specs.Goes.{link_in}
use Rattle.papaya_call_law.specs.ChainAnswers.{IsTrueOfCopy}
use Rattle.papaya_call_law.proofs.LinkMade.{machine_linking, machine_links}
use Rattle.papaya_call_law.proofs.Names.{copies_may}
use Rattle.papaya_words_law.specs.Allows.{Allows}
use Rattle.papaya_words_law.specs.Class.{IsOn}
use Rattle.papaya_words_law.specs.Code.{Coding}
use Rattle.papaya_words_law.specs.Exchange.{Exchange, Live, Setting, State, after as after_exchange, run, start}
use Rattle.papaya_words_law.specs.Exchange as law
use Rattle.papaya_words_law.specs.Invariant.{named}
use Rattle.papaya_words_law.proofs.Alike.{alike_back, allows_alike}
use Rattle.papaya_words_law.proofs.Further.{key_alike}
use Rattle.papaya_call_law.specs.Copier.{HasWords, IsCopyAsked, last_after, told_last}
use Rattle.papaya_call_law.specs.TrueAnswers.{IsWritten, or_last, word_of}
use Rattle.papaya_call_law.proofs.FurtherWords.{key_word}
use Rattle.papaya_map_book.specs.declared.rule.entry.Begun.{Begun}
use Rattle.papaya_map_book.specs.declared.rule.entry.Event.{Event}
use Rattle.papaya_map_book.specs.declared.rule.entry.Event.TheVariants.{Stepped}
use Rattle.papaya_map_book.specs.declared.rule.entry.Named.{Named}
use Rattle.papaya_map_book.specs.declared.rule.entry.Named.TheVariants as names
use Rattle.papaya_map_book.specs.declared.rule.entry.Step.{Step}
use Rattle.papaya_map_book.specs.declared.rule.entry.Step.TheVariants as steps
use Rattle.papaya_map_book.specs.Hashes.{hash_of}
use Rattle.papaya_map_book.specs.Logs.{Stored, coding_of, comes, exchange_of, exchanges_of, number_of, setting_of, state_of, steps_of, table_in}
use Rattle.papaya_map_book.specs.Calls.{IsSlotTried, IsTried}
use Rattle.papaya_map_book.specs.Plays.{CanExchange, IsMeant, IsWished, MayStep, Numbered}
use Rattle.papaya_map_book.specs.Rule.{IsLawfulLog, word_in}
use Rattle.papaya_map_book.specs.Sheets.{Sheet}
use Rattle.papaya_map_book.proofs.Linking.{last_came, link_words, with_chunks}
use Rattle.papaya_map_book.proofs.Loaded.{table_since}
use Rattle.papaya_map_book.proofs.Logs.{prefix_trans}
use Rattle.papaya_map_book.proofs.Settings.{is_hashed}
use Rattle.papaya_map_book.proofs.TableSizes.{words_of}
use Rattle.papaya_map_book.proofs.Wishes.{IsOfCopy, copy_wished}
use Rattle.papaya_map_lookup.proofs.Driving.{word_same}
use Rattle.papaya_map_change.specs.Changing.{HasChunks, IsCalling, IsForm, loaded_with}
use Rattle.papaya_map_change.specs.Copier.{marked_or}
use Rattle.papaya_map_change.specs.Helping.{IsOwnTable, IsTriedFor, pair_at}
use Rattle.papaya_map_change.proofs.HelpingFollows.{machine_rises}
use Rattle.papaya_map_change.proofs.HelpingPlaces.{all_there, chain_came, relying}
use Rattle.papaya_map_change.proofs.Relying.{ChainRelying, coded, hashed_in, hashed_with, may_with}
use Rattle.papaya_map_change.proofs.Relying.{plain_with, relies_with, relying_later, relying_may, wide}
use Rattle.papaya_map_change.proofs.Relying.{wide_with}

-- an exchange of another kind marks none
pub unmarked : {P : Type 0} (kind : Option StepKind) (pair last : Option P) → (kind ≡ Some kinds.Mark → ⊥) → last ≡ marked_or kind pair last
unmarked (Some kinds.Mark) pair last other = absurd (other refl)
unmarked kind pair last other = refl

-- the pair last loaded, by the one that the word names
pub told_pair : {P : Type 0} (s : State P) (at : At) (last : Option P) → told_last s at last ≡ or_last (pair_at s at) last
told_pair s Root last = refl
told_pair s (Next t) last = refl
told_pair s (Aborted t) last = refl
told_pair s (Done t c) last = refl
told_pair s (Slot t x) last = refl
told_pair s Made_word last = refl

module _ {K P : Type 0} (c : Coding K P) (new : ℕ) (s : State P) (kept : Option P) (e : Exchange P) where
  -- an exchange of a copy is of a copy's kind
  pub of_copy : (kind : Option StepKind) (at : At) → IsCopyAsked c kind at new s kept e → IsOfCopy kind
  of_copy (Some kinds.Link) at a = tt
  of_copy (Some kinds.Mark) at a = tt
  of_copy (Some kinds.Close) at a = tt
  of_copy (Some kinds.Place) at a = tt
  of_copy (Some kinds.Finish) at a = tt
  of_copy (Some kinds.Advance) at a = tt
  of_copy (Some kinds.Promote) at a = tt
  of_copy (Some kinds.Abort) at a = tt
  of_copy other at a = absurd a

  -- it receives the pair that it marked
  pub last_marked : (kind : Option StepKind) (at : At) → IsCopyAsked c kind at new s kept e → (last : Option P)
      → last_after e last ≡ marked_or kind (pair_at s at) last
  last_marked (Some kinds.Link) (Next t) is last = ap (λ (z : Exchange P). last_after z last) is
  last_marked (Some kinds.Mark) (Slot t x) (p, live, is) last = ap (λ (z : Exchange P). last_after z last) is ∙ sym (ap named live)
  last_marked (Some kinds.Close) (Slot t x) is last = ap (λ (z : Exchange P). last_after z last) is
  last_marked (Some kinds.Place) (Slot t x) (p, carried, number, is) last = ap (λ (z : Exchange P). last_after z last) is
  last_marked (Some kinds.Finish) (Slot t x) (p, marked, is) last = ap (λ (z : Exchange P). last_after z last) is
  last_marked (Some kinds.Advance) (Done t c) is last = ap (λ (z : Exchange P). last_after z last) is
  last_marked (Some kinds.Promote) Root is last = ap (λ (z : Exchange P). last_after z last) is
  last_marked (Some kinds.Abort) (Aborted t) is last = ap (λ (z : Exchange P). last_after z last) is
  last_marked other at a last = absurd a

module _ {K K' P : Type 0} (c : Coding K P) (c' : Coding K' P) (numbers : (p : P) → c.number p ≡ c'.number p) (new : ℕ) (s : State P)
    (kept : Option P) (e : Exchange P) where
  -- the asks of a copy depend only on the pairs' numbers
  pub copy_alike : (kind : Option StepKind) (at : At) → IsCopyAsked c kind at new s kept e → IsCopyAsked c' kind at new s kept e
  copy_alike (Some kinds.Link) (Next t) is = is
  copy_alike (Some kinds.Mark) (Slot t x) a = a
  copy_alike (Some kinds.Close) (Slot t x) is = is
  copy_alike (Some kinds.Place) (Slot t x) (p, carried, number, is) = (p, carried, sym (numbers p) ∙ number, is)
  copy_alike (Some kinds.Finish) (Slot t x) a = a
  copy_alike (Some kinds.Advance) (Done t c) is = is
  copy_alike (Some kinds.Promote) Root is = is
  copy_alike (Some kinds.Abort) (Aborted t) is = is
  copy_alike other at a = absurd a

module _ {K V : Type 0} (new : ℕ) (s : State (Stored K V)) (kept : Option (Stored K V)) (e : Exchange (Stored K V)) where
  -- the step of the book for such an exchange: except for a link, nothing comes with it
  pub record IsStepOf (kind : Option StepKind) (at : At) : Type 0 where
    pub step : Step K V
    pub is : exchange_of step ≡ e
    pub alone : comes step ≡ names.Nothing
    pub asked : IsCopyAsked Numbered kind at new s kept (exchange_of step)

  pub step_of_copy : (kind : Option StepKind) (at : At) → IsCopyAsked Numbered kind at new s kept e → ((t : ℕ) → at ≡ Next t → ⊥) → IsStepOf kind at
  step_of_copy (Some kinds.Mark) (Slot t x) (p, live, is) other = record { step = steps.Mark t x p; is = sym is; alone = refl; asked = (p, live, refl) }
  step_of_copy (Some kinds.Close) (Slot t x) is other = record { step = steps.Close t x; is = sym is; alone = refl; asked = refl }
  step_of_copy (Some kinds.Place) (Slot t x) (p, carried, number, is)
      other = record { step = steps.Place t x p; is = sym is; alone = refl; asked = (p, carried, number, refl) }
  step_of_copy (Some kinds.Finish) (Slot t x) (p, marked, is) other = record { step = steps.Finish t x p; is = sym is; alone = refl; asked = (p, marked, refl) }
  step_of_copy (Some kinds.Advance) (Done t c) is other = record { step = steps.Advance t c; is = sym is; alone = refl; asked = refl }
  step_of_copy (Some kinds.Promote) Root is other = record { step = steps.Promote s.root new; is = sym is; alone = refl; asked = refl }
  step_of_copy (Some kinds.Abort) (Aborted t) is other = record { step = steps.Abort t; is = sym is; alone = refl; asked = refl }
  step_of_copy (Some kinds.Link) (Next t) is other = absurd (other t refl)
  step_of_copy kind at a other = absurd a

module _ {K V S : Type 0} (eq : K → K → Bool) (hash : S → K → ℕ) (b : Begun K V S) (name : Book) where
  -- the exchange was requested, and a table that came with it was at hand
  wished_then : (at : At) (kind : Option StepKind) (new : ℕ) (made : Option (Stored K V)) (fresh : Option (Where Sheet × Pen)) (brings : Named K V)
      → IsOwnTable fresh brings → (before log : List (Event K V S)) (exchanged : Bool)
      → MatchBool exchanged ((e : Step K V) × IsMeant eq hash at kind new made brings before e × (log ≡ before ++ Stepped e ∷ [])) (log ≡ before)
      → MatchBool exchanged ((e : Step K V) × IsWished kind at new (state_of before) made (exchange_of e) × IsOwnTable fresh (comes e)
      × (log ≡ before ++ Stepped e ∷ [])) (log ≡ before)
  wished_then at kind new made fresh brings own before log true (e, meant, is) = (e, meant.asked, subst (IsOwnTable fresh) (sym meant.with_it) own, is)
  wished_then at kind new made fresh brings own before log false is = is

  module _ (seen₀ seen : List (Event K V S)) (pre : IsPrefix seen₀ seen) (kind : Option StepKind) (old new : ℕ) (kept : Option (Stored K V))
      (fresh : Option (Where Sheet × Pen)) (found : ℕ) (log : List (Event K V S)) where
    -- there was an attempt to exchange a slot for a copy
    pub tried_slot : (t x : ℕ) (pair : Option (Stored K V)) → IsSlotTried eq hash b name t x kind old new kept names.Nothing seen found log pair
        → IsTriedFor eq hash b name (Slot t x) kind old new kept fresh seen₀ found log pair
    tried_slot t x pair s = record {
      before = s.tried.before;
      since = prefix_trans seen₀ seen s.tried.before pre s.tried.since;
      lawful = s.tried.lawful;
      now = s.tried.now;
      is = s.tried.is;
      names = s.names;
      placed = s.placed;
      after = wished_then (Slot t x) kind new kept fresh names.Nothing tt s.tried.before log (found == old) s.tried.after;
    }

    -- or another word, which names no pair
    pub tried_word : (at : At) → ((s : State (Stored K V)) → pair_at s at ≡ None) → (state : Option (Named K V))
        → IsTried eq hash b at kind old new kept names.Nothing seen found log state
        → IsTriedFor eq hash b name at kind old new kept fresh seen₀ found log None
    tried_word at none state s = record {
      before = s.before;
      since = prefix_trans seen₀ seen s.before pre s.since;
      lawful = s.lawful;
      now = s.now;
      is = s.is;
      names = none (state_of s.before);
      placed = tt;
      after = wished_then at kind new kept fresh names.Nothing tt s.before log (found == old) s.after;
    }

  -- a link is requested whatever pair is moved
  wished_link : (t new : ℕ) (kept : Option (Stored K V)) (fresh : Option (Where Sheet × Pen)) (before log : List (Event K V S)) (exchanged : Bool)
      → MatchBool exchanged ((e : Step K V) × IsWished (Some kinds.Link) (Next t) new (state_of before) None (exchange_of e)
      × IsOwnTable fresh (comes e) × (log ≡ before ++ Stepped e ∷ [])) (log ≡ before)
      → MatchBool exchanged ((e : Step K V) × IsWished (Some kinds.Link) (Next t) new (state_of before) kept (exchange_of e)
      × IsOwnTable fresh (comes e) × (log ≡ before ++ Stepped e ∷ [])) (log ≡ before)
  wished_link t new kept fresh before log true (e, inl asked, own, is) = absurd asked
  wished_link t new kept fresh before log true (e, inr asked, own, is) = (e, inr asked, own, is)
  wished_link t new kept fresh before log false is = is

  -- there was an attempt to link a table for a copy
  pub tried_link : (seen₀ seen : List (Event K V S)) → IsPrefix seen₀ seen
      → (t new : ℕ) (kept : Option (Stored K V)) (fresh : Option (Where Sheet × Pen)) (table : Where Sheet) (seal : Pen) → fresh ≡ Some (table, seal)
      → (found : ℕ) (log : List (Event K V S)) (state : Option (Named K V))
      → IsTried eq hash b (Next t) (Some kinds.Link) 0 new None (names.Table table) seen found log state
      → IsTriedFor eq hash b name (Next t) (Some kinds.Link) 0 new kept fresh seen₀ found log None
  tried_link seen₀ seen pre t new kept fresh table seal at_hand found log state s =
      let own : IsOwnTable {K = K} {V = V} fresh
      (names.Table table) = subst (λ (o : Option (Where Sheet × Pen)). IsOwnTable {K = K} {V = V} o (names.Table table)) (sym at_hand) refl in record {
        before = s.before;
        since = prefix_trans seen₀ seen s.before pre s.since;
        lawful = s.lawful;
        now = s.now;
        is = s.is;
        names = refl;
        placed = tt;
        after = wished_link t new kept fresh s.before log (found == 0)
            (wished_then (Next t) (Some kinds.Link) new None fresh (names.Table table) own s.before log (found == 0) s.after);
      }

-- a place is the next word of a table, or another one
pub next_or : (at : At) → ((t : ℕ) × (at ≡ Next t)) ⊎ ((t : ℕ) → at ≡ Next t → ⊥)
next_or Root = inr (λ t e. cc e)
next_or (Next t) = inl (t, refl)
next_or (Aborted t) = inr (λ u e. cc e)
next_or (Done t c) = inr (λ u e. cc e)
next_or (Slot t x) = inr (λ u e. cc e)
next_or Made_word = inr (λ u e. cc e)

-- a setting has the requested words if it has those of the table that is about to be linked
pub words_where : {K P : Type 0} (g : Setting K P) (o : Option Link)
    → ((behind n chunks : ℕ) → o ≡ Some (links.Linking behind n chunks) → chunks ≤ g.chunks n) → HasWords g o
words_where g None h = tt
words_where g (Some (links.Linking behind n chunks)) h = h behind n chunks refl
words_where g (Some other) h = tt

-- a step that links a table brings just that one
pub link_step : {K V : Type 0} (e : Step K V) (t n : ℕ) → exchange_of e ≡ law.Link t n → (w : Where Sheet) × (e ≡ steps.Link t w) × (number_of w ≡ n)
link_step {K} {V} (steps.Link u w) t n e = let from : u ≡ t = cc e in let to : number_of w ≡ n = cc e in
    let with_it : ℕ → Step K V = λ i. steps.Link i w in (w, ap with_it from, to)
link_step other t n e = absurd (cc e)

pub eq_le : {m n : ℕ} → m ≡ n → n ≤ m
eq_le e = omega arith

-- the number of words of the table at hand
pub own_words : (K V : Type 0) (o : Option (Where Sheet × Pen)) (w : Where Sheet) (chunks : ℕ) → IsOwnTable {K = K} {V = V} o (names.Table w)
    → HasChunks o chunks → length w.value.done ≡ chunks
own_words K V None w chunks own has = absurd has
own_words K V (Some f) w chunks own has = ap (λ (z : Where Sheet). length z.value.done) (sym own) ∙ has

module _ {K V S H : Type 0} (eq : K → K → Bool) (input : K → List (List ℕ)) (build : S → H) (write : H → List ℕ → H) (finish : H → ℕ)
    (classes : IsEquivalence eq) (respects : (x y : K) → eq x y ≡ true → input x ≡ input y)
    (b : Begun K V S) (name : Book) (matches : K → Bool) (fed : ℕ) (form : IsForm eq (hash_of input build write finish) b matches fed) (k : Option K)
    (begun v : List (Event K V S)) (m : Machine) (table : Option (Bor Sheet)) (last kept : Option (Stored K V)) (made : List (Stored K V))
    (taken put : Option (Stored K V)) (fresh : Option (Where Sheet × Pen))
    (r : IsCalling eq (hash_of input build write finish) b name matches fed k begun v m table last kept made taken put fresh) where
  abbrev hash : S → K → ℕ
  hash = hash_of input build write finish

  abbrev plain : List (Event K V S) → Setting K (Stored K V)
  plain log = setting_of eq (hash b.hasher) b.mode b.limit log

  abbrev p : Coding K (Stored K V)
  p = coding_of (hash b.hasher)

  abbrev pub G : List (Event K V S) → Setting (Option K) (Stored K V)
  G log = wide eq input build write finish classes respects b matches fed form k (exchanges_of begun) log

  abbrev pub C : Coding (Option K) (Stored K V)
  C = coded eq input build write finish classes respects b matches fed form k (exchanges_of begun)

  -- the word at a place, in the setting of any log
  pub word_there : (log log' : List (Event K V S)) (at : At) → word_of (G log') C (state_of log) at ≡ word_in eq hash b log at
  word_there log log' at = key_word (plain log') matches fed p (state_of log) at ∙ word_same (plain log) (plain log') p (state_of log) at

  -- if a table is about to be linked, none has come under its number, over a longer log too
  module _ (t n chunks : ℕ) (about : link_in m.phase ≡ Some (links.Linking t n chunks)) where
    abbrev rest : ChainRelying eq input build write finish classes respects b matches fed form k (exchanges_of begun) v m (loaded_with last kept made)
    rest = relying eq input build write finish classes respects b name matches fed form k begun v m table last kept made taken put fresh r

    there : IsOn (state_of v).first (state_of v).next t
    there = all_there eq input build write finish classes respects b name matches fed form k begun v m table last kept made taken put fresh r
        (Ask_exchange (Next t) 0 n) (machine_linking m t n chunks about).0

    rises : t < n
    rises = machine_rises (G v) C t n chunks (exchanges_of begun) rest.since k m (loaded_with last kept made) rest.relies about

    not_come : (log : List (Event K V S)) → IsPrefix v log → IsLawfulLog eq hash b log → word_in eq hash b log (Next t) ≡ 0 → table_in (steps_of log) n ≡ None
    not_come log pre l stands =
        let came = chain_came v t there in
        let here = table_since v log t came.0.value pre (came.0, came.1, refl) in
        last_came eq hash b log (is_hashed eq input build write finish classes respects b log l).lawful l (table_in (steps_of log) n) t n refl there.0
        (here.0, here.1) stands rises

  module _ (at : At) (old new : ℕ) (asked : ask_of m ≡ asks.Copy (Ask_exchange at old new)) where
    -- an exchange of the copy that may be made after a longer log
    pub record IsGranted (log : List (Event K V S)) : Type 0 where
      pub by : Exchange (Stored K V)
      pub wished : IsCopyAsked Numbered (kind_of_ask m) at new (state_of log) kept by
      pub allowed : Allows (plain log) (state_of log) by
      pub written : IsWritten (plain log) p (state_of log) at new (after_exchange (state_of log) by)

    -- if no table is to be linked, none is about to be
    unlinked : ((t : ℕ) → at ≡ Next t → ⊥) → (behind n chunks : ℕ) → link_in m.phase ≡ Some (links.Linking behind n chunks) → ⊥
    unlinked other behind n chunks e =
        let same : asks.Copy (Ask_exchange at old new) ≡ asks.Copy (Ask_exchange (Next behind) 0 n) = sym asked ∙ (machine_linking m behind n chunks e).0 in
        let place : at ≡ Next behind = cc same in other behind place

    pub granted : ((t : ℕ) → at ≡ Next t → ⊥) → (log : List (Event K V S)) → IsPrefix v log → IsLawfulLog eq hash b log
        → word_in eq hash b log at ≡ old → IsGranted log
    granted other log pre l stands =
        let now : ChainRelying eq input build write finish classes respects b matches fed form k (exchanges_of begun) log m (loaded_with last kept made) =
        relying_later eq input build write finish classes respects b matches fed form k (exchanges_of begun) v r.lawful m (loaded_with last kept made)
        (relying eq input build write finish classes respects b name matches fed form k begun v m table last kept made taken put fresh r) log l pre in
        let may = relying_may eq input build write finish classes respects b matches fed form k (exchanges_of begun) log l m (loaded_with last kept made) now in
        let there : word_of (G log) C (run (exchanges_of begun ++ now.since) start) at ≡ old =
        subst (λ (z : List (Exchange (Stored K V))). word_of (G log) C (run z start) at ≡ old) (sym now.is) (word_there log log at ∙ stands) in
        let done = copies_may (G log) C (hashed_in eq input build write finish classes respects b matches fed form k (exchanges_of begun) log l)
        (exchanges_of begun) now.since may k m (loaded_with last kept made) now.relies
        (words_where (G log) (link_in m.phase) (λ behind n chunks e. absurd (unlinked other behind n chunks e))) at old new asked there in
        let by = done.0 in
        let wide_asked : IsCopyAsked C (kind_of_ask m) at new (state_of log) kept
        by = subst (λ (z : List (Exchange (Stored K V))). IsCopyAsked C (kind_of_ask m) at new (run z start) kept by) now.is done.1 in
        let wide_allows : Allows (G log) (state_of log) by = subst (λ (z : List (Exchange (Stored K V))). Allows (G log) (run z start) by) now.is done.2 in
        let written : IsWritten (G log) C (state_of log) at new
        (after_exchange (state_of log) by) = subst (λ (z : List (Exchange (Stored K V))).
        IsWritten (G log) C (run z start) at new (after_exchange (run z start) by)) now.is done.3 in
        let same = λ (s : State (Stored K V)). λ (at' : At). key_word (plain log) matches fed p s at' in record {
          by = by;
          wished = copy_alike C Numbered (λ z. refl) new (state_of log) kept by (kind_of_ask m) at wide_asked;
          allowed = allows_alike (G log) (plain log) (alike_back (plain log) (G log) (key_alike (plain log) matches fed)) (state_of log) by wide_allows;
          written = record {
            here = sym (same (after_exchange (state_of log) by) at) ∙ written.here;
            others = λ other differs. sym (same (after_exchange (state_of log) by) other) ∙ (written.others other differs ∙ same (state_of log) other);
          };
        }

    -- it is one of the book, with which nothing comes
    may_copy : ((t : ℕ) → at ≡ Next t → ⊥) → (log : List (Event K V S)) → IsGranted log → MayStep eq hash b at (kind_of_ask m) new kept names.Nothing log
    may_copy other log g =
        let s = step_of_copy new (state_of log) kept g.by (kind_of_ask m) at g.wished other in record {
          step = s.step;
          meant = record { asked = inr s.asked; with_it = s.alone };
          allowed = subst (Allows (plain log) (state_of log)) (sym s.is) g.allowed;
          written = subst (λ (e : Exchange (Stored K V)). IsWritten (plain log) p (state_of log) at new (after_exchange (state_of log) e)) (sym s.is) g.written;
        }

    -- a copy may attempt the exchange that it asks for, unless it is a link
    pub can_copy : ((t : ℕ) → at ≡ Next t → ⊥) → (log : List (Event K V S)) → IsPrefix v log
        → CanExchange eq hash b at (kind_of_ask m) old new kept names.Nothing log
    can_copy other log pre longer pre' l stands = may_copy other longer (granted other longer (prefix_trans v log longer pre pre') l stands)

    -- the exchange is of a copy's kind
    kind_copies : (s : List (Event K V S)) → IsPrefix v s → IsLawfulLog eq hash b s → word_in eq hash b s at ≡ old → IsOfCopy (kind_of_ask m)
    kind_copies s pre l stands =
        ⊎_elim
        (λ (next : (t : ℕ) × (at ≡ Next t)).
        let about = machine_links m next.0 old new (asked ∙ ap (λ (a : At). asks.Copy (Ask_exchange a old new)) next.1) in
        subst IsOfCopy (sym (machine_linking m next.0 new about.0 about.1).1) tt)
        (λ other. let g = granted other s pre l stands in of_copy Numbered new (state_of s) kept g.by (kind_of_ask m) at g.wished)
        (next_or at)

    -- An exchange that was requested for this copy is one of the copy.
    copied_by : (s : List (Event K V S)) → IsPrefix v s → IsLawfulLog eq hash b s → word_in eq hash b s at ≡ old → (e : Exchange (Stored K V))
        → IsWished (kind_of_ask m) at new (state_of s) kept e → IsCopyAsked Numbered (kind_of_ask m) at new (state_of s) kept e
    copied_by s pre l stands e wished = copy_wished at new (state_of s) kept e (kind_of_ask m) (kind_copies s pre l stands) wished

    module _ (found : ℕ) (log : List (Event K V S)) (pair : Option (Stored K V))
        (t : IsTriedFor eq hash b name at (kind_of_ask m) old new kept fresh v found log pair) where
      abbrev After : Bool → Type 0
      After z = MatchBool z ((e : Step K V) × IsWished (kind_of_ask m) at new (state_of t.before) kept (exchange_of e) × IsOwnTable fresh (comes e)
          × (log ≡ t.before ++ Stepped e ∷ [])) (log ≡ t.before)

      -- the log continues the previous one
      pub grown : (found == old) ≡ true → (pre : IsPrefix t.before log)
          × IsTrueOfCopy (G log) C (state_of t.before) (kind_of_ask m) (follows_of m) (loaded_with last kept made) (Ask_exchange at old new)
          (answers.Call Exchanged) (exchanges_of pre.0) (loaded_with (marked_or (kind_of_ask m) pair last) kept made)
      grown is =
          let done = subst After is t.after in
          let e = exchange_of done.0 in
          let stands : word_in eq hash b t.before at ≡ old = t.is ∙ eqb-true found old is in
          let asked' = copied_by t.before t.since t.lawful stands e done.1 in
          let here : (word_of (G log) C (state_of t.before) at == old) ≡ true = ap (λ (n : ℕ). n == old) (word_there t.before log at ∙ t.is) ∙ is in
          let wide_asked : IsCopyAsked C (kind_of_ask m) at new (state_of t.before) kept e = copy_alike Numbered C (λ z. refl) new (state_of t.before)
          kept e (kind_of_ask m) at asked' in
          let told : last_after e last ≡ marked_or (kind_of_ask m) pair last = last_marked Numbered new (state_of t.before) kept e (kind_of_ask m) at
          asked' last ∙ ap (λ (z : Option (Stored K V)). marked_or (kind_of_ask m) z last) t.names in
          ((Stepped done.0 ∷ [], sym done.3), rw here (refl, (e, wide_asked, refl, ap (λ (z : Option (Stored K V)). loaded_with z kept made) (sym told))))

      -- if a table was linked, the setting now has its words
      pub linked_words : (found == old) ≡ true → HasWords (G log) (link_in m.phase)
      linked_words is =
          words_where (G log) (link_in m.phase)
          (λ behind n chunks e.
          let links_it = machine_linking m behind n chunks e in
          let same : asks.Copy (Ask_exchange at old new) ≡ asks.Copy (Ask_exchange (Next behind) 0 n) = sym asked ∙ links_it.0 in
          let place : at ≡ Next behind = cc same in let zero : old ≡ 0 = cc same in let number : new ≡ n = cc same in
          let done = subst After is t.after in
          let stands : word_in eq hash b t.before at ≡ old = t.is ∙ eqb-true found old is in
          let asked' = copied_by t.before t.since t.lawful stands (exchange_of done.0) done.1 in
          let by : exchange_of done.0 ≡ law.Link behind
          new = subst (λ (z : Option StepKind). IsCopyAsked Numbered z (Next behind) new (state_of t.before) kept (exchange_of done.0)) links_it.1
          (subst (λ (a : At). IsCopyAsked Numbered (kind_of_ask m) a new (state_of t.before) kept (exchange_of done.0)) place asked') in
          let step = link_step done.0 behind n (by ∙ ap (law.Link behind) number) in
          let own : IsOwnTable {K = K} {V = V} fresh (names.Table step.0) = subst (λ (x : Step K V). IsOwnTable fresh (comes x)) step.1 done.2 in
          let many = own_words K V fresh step.0 chunks own (r.words behind n chunks e) in
          let none = not_come behind n chunks e t.before t.since t.lawful (subst (λ (a : At). word_in eq hash b t.before a ≡ 0) place (stands ∙ zero)) in
          let came : table_in (steps_of log) n ≡ Some step.0 = subst (λ (i : ℕ). table_in (steps_of log) i ≡ Some step.0) step.2
          (link_words t.before log behind step.0 (done.3 ∙ ap (λ (x : Step K V). t.before ++ Stepped x ∷ []) step.1)
          (ap (table_in (steps_of t.before)) step.2 ∙ none)) in
          eq_le (words_of (steps_of log) n step.0 came ∙ many))

      pub lost : (found == old) ≡ false → (pre : IsPrefix t.before log)
          × IsTrueOfCopy (G log) C (state_of t.before) (kind_of_ask m) (follows_of m) (loaded_with last kept made) (Ask_exchange at old new)
          (answers.Call (Found_instead found)) (exchanges_of pre.0) (loaded_with (or_last pair last) kept made)
      lost is =
          let same = subst After is t.after in
          let word : word_of (G log) C (state_of t.before) at ≡ found = word_there t.before log at ∙ t.is in
          let differs : (word_of (G log) C (state_of t.before) at == old) ≡ false = ap (λ (n : ℕ). n == old) word ∙ is in
          let told : told_last (state_of t.before) at last ≡ or_last pair last = told_pair (state_of t.before) at last
          ∙ ap (λ (z : Option (Stored K V)). or_last z last) t.names in (
            ([], append-nil t.before ∙ sym same),
            rw differs
                (ap (λ (n : ℕ). answers.Call (Found_instead n)) (sym word), refl, ap (λ (z : Option (Stored K V)). loaded_with z kept made) (sym told)),
          )

  module _ (t old new : ℕ) (asked : ask_of m ≡ asks.Copy (Ask_exchange (Next t) old new)) (kind : kind_of_ask m ≡ Some kinds.Link) (none : old ≡ 0)
      (chunks : ℕ) (about : link_in m.phase ≡ Some (links.Linking t new chunks)) (words : HasChunks fresh chunks) (w : Where Sheet) (seal : Pen)
      (is : fresh ≡ Some (w, seal)) (number : number_of w ≡ new) where
    module _ (longer : List (Event K V S)) (pre : IsPrefix v longer) (l : IsLawfulLog eq hash b longer) (stands : word_in eq hash b longer (Next t) ≡ 0) where
      absent : table_in (steps_of longer) (number_of w) ≡ None
      absent = ap (table_in (steps_of longer)) number ∙ not_come t new chunks about longer pre l stands

      abbrev plain' : Setting K (Stored K V)
      plain' = plain_with eq input build write finish classes respects b matches fed form k (exchanges_of begun) w longer l absent

      abbrev wide' : Setting (Option K) (Stored K V)
      wide' = wide_with eq input build write finish classes respects b matches fed form k (exchanges_of begun) w longer l absent

      now : ChainRelying eq input build write finish classes respects b matches fed form k (exchanges_of begun) longer m (loaded_with last kept made)
      now = relying_later eq input build write finish classes respects b matches fed form k (exchanges_of begun) v r.lawful m
          (loaded_with last kept made) (relying eq input build write finish classes respects b name matches fed form k begun v m table last kept made
          taken put fresh r) longer l pre

      -- it has the requested words
      has_words : HasWords wide' (link_in m.phase)
      has_words =
          let many : length w.value.done ≡ chunks = subst (λ (o : Option (Where Sheet × Pen)). HasChunks o chunks) is words in
          subst (HasWords wide') (sym about) (eq_le
          (ap wide'.chunks (sym number) ∙ (with_chunks eq input build write finish classes respects b longer l w ∙ many)))

      there_now : word_of wide' C (run (exchanges_of begun ++ now.since) start) (Next t) ≡ old
      there_now = subst (λ (z : List (Exchange (Stored K V))). word_of wide' C (run z start) (Next t) ≡ old) (sym now.is) (stands ∙ sym none)

      done_with : (e : Exchange (Stored K V)) × IsCopyAsked C (kind_of_ask m) (Next t) new (state_of longer) kept e × Allows wide' (state_of longer) e
          × IsWritten wide' C (state_of longer) (Next t) new (after_exchange (state_of longer) e)
      done_with =
          subst (λ (z : List (Exchange (Stored K V))). (e : Exchange (Stored K V)) × IsCopyAsked C (kind_of_ask m) (Next t) new (run z start) kept e
          × Allows wide' (run z start) e × IsWritten wide' C (run z start) (Next t) new (after_exchange (run z start) e)) now.is
          (copies_may wide' C (hashed_with eq input build write finish classes respects b matches fed form k (exchanges_of begun) w longer l absent)
          (exchanges_of begun) now.since
          (may_with eq input build write finish classes respects b matches fed form k (exchanges_of begun) w longer l absent m
          (loaded_with last kept made) now) k m (loaded_with last kept made)
          (relies_with eq input build write finish classes respects b matches fed form k (exchanges_of begun) w longer l absent m
          (loaded_with last kept made) now) has_words (Next t) old new asked there_now)

      by : done_with.0 ≡ law.Link t (number_of w)
      by = subst (λ (z : Option StepKind). IsCopyAsked C z (Next t) new (state_of longer) kept done_with.0) kind done_with.1 ∙ ap (law.Link t) (sym number)

      allowed : Allows plain' (state_of longer) (law.Link t (number_of w))
      allowed = subst (Allows plain' (state_of longer)) by
          (allows_alike wide' plain' (alike_back plain' wide' (key_alike plain' matches fed)) (state_of longer) done_with.0 done_with.2)

      written : IsWritten (plain longer) p (state_of longer) (Next t) (number_of w) (after_exchange (state_of longer) (law.Link t (number_of w)))
      written =
          subst (λ (n : ℕ). IsWritten (plain longer) p (state_of longer) (Next t) n (after_exchange (state_of longer) (law.Link t (number_of w)))) (sym number)
          (subst (λ (e : Exchange (Stored K V)). IsWritten (plain longer) p (state_of longer) (Next t) new (after_exchange (state_of longer) e)) by
          (record {
            here = sym (same (after_exchange (state_of longer) done_with.0) (Next t)) ∙ done_with.3.here;
            others = λ other differs. sym (same (after_exchange (state_of longer) done_with.0) other)
                ∙ (done_with.3.others other differs ∙ same (state_of longer) other);
          }))
        where
          same : (s : State (Stored K V)) (at' : At) → word_of wide' C s at' ≡ word_of (plain longer) p s at'
          same s at' = key_word plain' matches fed p s at' ∙ word_same plain' (plain longer) p s at'

    -- a copy may link the table that it asks to link
    pub can_link : (log : List (Event K V S)) → IsPrefix v log → CanExchange eq hash b (Next t) (Some kinds.Link) 0 (w.index + 1) None (names.Table w) log
    can_link log pre longer pre' l stands =
        let whole = prefix_trans v log longer pre pre' in record {
          step = steps.Link t w;
          meant = record { asked = inr refl; with_it = refl };
          allowed = allowed longer whole l stands;
          written = written longer whole l stands;
        }
