-- A call that resizes relies on longer logs too: its asks may be answered, and after each answer it
-- relies on facts that hold.
use Rattle.std.proofs.Common.{◌≡◌, inr, ⊎_elim, ℕ, ◌+◌, ◌<◌, ◌==◌, Bool, true, false, MatchBool}
use Rattle.std.proofs.Common.{Option, None, Some, List, [], ◌∷◌, ◌++◌, length, append-nil, eqb-true}
use Rattle.std.proofs.Common.{refl, sym, ap, ◌∙◌, subst}
use Rattle.std.specs.Cmp.{IsEquivalence}
use mathlib.Core.List.{IsPrefix}
use Rattle.boxcar.specs.Table.{Where}
use Rattle.logbook.specs.Pages.{Book}
use Rattle.logbook.specs.declared.tokens.Pen.{Pen}
use Rattle.papaya_call.specs.declared.ask.At.{At}
use Rattle.papaya_call.specs.declared.ask.At.TheVariants.{Root, Next, Aborted, Done, Slot, Made as Made_word}
use Rattle.papaya_call.specs.declared.ask.Answer.TheVariants.{Exchanged, Found as Found_instead}
use Rattle.papaya_call.specs.declared.ask.StepKind.{StepKind}
use Rattle.papaya_call.specs.declared.ask.StepKind.TheVariants as kinds
use Rattle.papaya_call.specs.declared.copy_ask.CopyAsk.{CopyAsk}
use Rattle.papaya_call.specs.declared.copy_ask.CopyAsk.TheVariants as copies
use Rattle.papaya_call.specs.declared.copy.link.Link.TheVariants as links
use Rattle.papaya_call.specs.Link.{IsFitCopyAsk}
use Rattle.papaya_call.specs.declared.chain.ask.Answer.{Answer}
use Rattle.papaya_call.specs.declared.chain.ask.Answer.TheVariants as answers
use Rattle.papaya_call.specs.declared.chain.resizer.Resizer.{Resizer}
use Rattle.papaya_call.specs.declared.chain.resizer.ResizerState.{ResizerState as Stage}
use Rattle.papaya_call.specs.declared.chain.resizer.ResizerState.TheVariants.{Opening, Linking, Copying}
use Rattle.papaya_call.specs.Resizer.{IsValidResizer, after, after_in, ask_of, follows_of, kind_of_ask}
use Rattle.papaya_call_law.specs.Resizers.{IsStageAsked, IsTrueOfStage, ReliesStage, link_of}
use Rattle.papaya_call_law.specs.ChainAnswers.{IsTrueOfCopy, LoadedPairs}
use Rattle.papaya_call_law.proofs.ResizerRelies.{stage_carries, stage_may, stage_may_hint, stage_stable, stage_there}
use Rattle.papaya_words_law.specs.Allows.{AllAllowed, Allows}
use Rattle.papaya_words_law.specs.Class.{IsOn}
use Rattle.papaya_words_law.specs.Code.{Coding, IsHashed}
use Rattle.papaya_words_law.specs.Exchange.{Exchange, Setting, State, after as after_exchange, run, start}
use Rattle.papaya_words_law.specs.Exchange as law
use Rattle.papaya_words_law.specs.Invariant.{IsKeeping}
use Rattle.papaya_words_law.specs.Meaning.{map_left}
use Rattle.papaya_words_law.proofs.Moments.{allowed_first, allowed_rest, run-append}
use Rattle.papaya_words_law.proofs.OneMap.{keeping}
use Rattle.papaya_call_law.specs.Copier.{AreThere, HasWords, IsCopyAsked, IsThere, Rises_to, last_after, told_last}
use Rattle.papaya_call_law.specs.TrueAnswers.{IsWritten, or_last, word_of}
use Rattle.papaya_map_book.specs.declared.rule.entry.Begun.{Begun}
use Rattle.papaya_map_book.specs.declared.rule.entry.Event.{Event}
use Rattle.papaya_map_book.specs.declared.rule.entry.Event.TheVariants.{Stepped}
use Rattle.papaya_map_book.specs.declared.rule.entry.Named.TheVariants as names
use Rattle.papaya_map_book.specs.declared.rule.entry.Step.{Step}
use Rattle.papaya_map_book.specs.declared.rule.entry.Step.TheVariants as steps
use Rattle.papaya_map_book.specs.Hashes.{hash_of}
use Rattle.papaya_map_book.specs.Hinted.{IsSlotHint}
use Rattle.papaya_map_book.specs.Logs.{Stored, coding_of, comes, exchange_of, exchanges_of, number_of, setting_of, setting_with, state_of, steps_of, table_in}
use Rattle.papaya_map_book.specs.Plays.{CanExchange, IsWished, MayStep, Numbered}
use Rattle.papaya_map_book.specs.Rule.{IsLawfulLog, word_in}
use Rattle.papaya_map_book.specs.Sheets.{Sheet}
use Rattle.papaya_map_book.proofs.Linking.{last_came, link_words, with_agrees, with_allowed, with_chunks, with_hashed}
use Rattle.papaya_map_book.proofs.Loaded.{table_since}
use Rattle.papaya_map_book.proofs.Logs.{exchanges_of-append, prefix_trans}
use Rattle.papaya_map_book.proofs.Settings.{agrees_later, is_hashed}
use Rattle.papaya_map_book.proofs.TableSizes.{sizes, words_of}
use Rattle.papaya_map_book.proofs.Wishes.{IsOfCopy, copy_wished}
use Rattle.papaya_map_lookup.proofs.Driving.{word_same}
use Rattle.papaya_map_change.specs.declared.copier.Copier.{Copier}
use Rattle.papaya_map_change.specs.Changing.{HasChunks, loaded_with}
use Rattle.papaya_map_change.specs.Copier.{CanAnswerTo, CanExchangeFor, IsReached, marked_or}
use Rattle.papaya_map_change.specs.Helping.{IsOwnTable, IsTriedFor}
use Rattle.papaya_map_change.specs.Resizing.{IsResizing}
use Rattle.papaya_map_change.proofs.CopyKinds.{stage_keeps}
use Rattle.papaya_map_change.proofs.HelpingExchanges.{copy_alike, eq_le, last_marked, link_step, next_or, of_copy, own_words, step_of_copy, told_pair, words_where}
use Rattle.papaya_map_change.proofs.HelpingFollows.{copying_on, copying_rises}
use Rattle.papaya_map_change.proofs.HelpingPlaces.{chain_came}
use Rattle.papaya_map_change.proofs.ResizingStages.{stage_linking, stage_links}

module _ {K P : Type 0} (g : Setting K P) (c : Coding K P) (s : State P) where
  -- except for a table that is opened, it asks and receives answers as a copy does
  stage_asked : (stage : Stage) → ((n : ℕ) → stage ≡ Opening n → ⊥) → (at : At) (new : ℕ) (loaded : LoadedPairs P) (e : Exchange P)
      → IsStageAsked g c s stage at new loaded e → IsCopyAsked c (Rattle.papaya_call.specs.Resizer.kind_in stage) at new s loaded.kept e
  stage_asked (Opening n) closed at new loaded e a = absurd (closed n refl)
  stage_asked other closed at new loaded e a = a

  pub stage_told : (stage : Stage) → ((n : ℕ) → stage ≡ Opening n → ⊥)
      → (loaded : LoadedPairs P) (answer : Answer) (es : List (Exchange P)) (loaded' : LoadedPairs P) → (ask : CopyAsk)
      × (Rattle.papaya_call.specs.Resizer.asks_in stage ≡ Some ask)
      × IsTrueOfCopy g c s (Rattle.papaya_call.specs.Resizer.kind_in stage) (Rattle.papaya_call.specs.Resizer.follows_in stage) loaded ask answer es loaded'
      → IsTrueOfStage g c s stage loaded answer es loaded'
  stage_told (Opening n) closed loaded answer es loaded' told = absurd (closed n refl)
  stage_told other closed loaded answer es loaded' told = told

  -- the table that it makes a next one for is on the chain
  stage_on : (slots limit chunks : ℕ) (loaded : LoadedPairs P) (stage : Stage) → ReliesStage g c s loaded stage
      → Rattle.papaya_call.specs.Resizer.asks_in stage ≡ Some (copies.MakeTable slots limit chunks)
      → (Rattle.papaya_call.specs.Resizer.follows_in stage ≡ 0 → ⊥) → IsOn s.first s.next (Rattle.papaya_call.specs.Resizer.follows_in stage)
  stage_on slots limit chunks loaded (Linking link) r e some = r.on
  stage_on slots limit chunks loaded (Copying from copying) r e some = copying_on g c slots limit chunks s loaded.call.last loaded.kept copying r.1 cc
  stage_on slots limit chunks loaded other r e some = absurd (some refl)

  -- and the one that it is about to link has a greater number
  stage_rises : (behind n chunks : ℕ) (loaded : LoadedPairs P) (stage : Stage) → ReliesStage g c s loaded stage
      → link_of stage ≡ Some (links.Linking behind n chunks) → behind < n
  stage_rises behind n chunks loaded (Linking link) r e = let is : link ≡ links.Linking behind n chunks = cc e in subst Rises_to is r.rises
  stage_rises behind n chunks loaded (Copying from copying) r e = copying_rises g c behind n chunks s loaded.call.last loaded.kept copying r.1 e
  stage_rises behind n chunks loaded other r e = absurd cc

module _ {K V S H : Type 0} (eq : K → K → Bool) (input : K → List (List ℕ)) (build : S → H) (write : H → List ℕ → H) (finish : H → ℕ)
    (classes : IsEquivalence eq) (respects : (x y : K) → eq x y ≡ true → input x ≡ input y) (b : Begun K V S) where
  abbrev pub hash : S → K → ℕ
  hash = hash_of input build write finish

  abbrev pub G : List (Event K V S) → Setting K (Stored K V)
  G log = setting_of eq (hash b.hasher) b.mode b.limit log

  abbrev pub C : Coding K (Stored K V)
  C = coding_of (hash b.hasher)

  pub hashed : (log : List (Event K V S)) → IsLawfulLog eq hash b log → IsHashed (G log) C
  hashed log l = is_hashed eq input build write finish classes respects b log l

  -- the word at a place, in the setting of any log
  pub word_there : (log log' : List (Event K V S)) (at : At) → word_of (G log') C (state_of log) at ≡ word_in eq hash b log at
  word_there log log' at = word_same (G log) (G log') C (state_of log) at

  module _ (v log : List (Event K V S)) (l : IsLawfulLog eq hash b log) (pre : IsPrefix v log) where
    longer : exchanges_of v ++ exchanges_of pre.0 ≡ exchanges_of log
    longer = sym (exchanges_of-append v pre.0) ∙ ap exchanges_of pre.1

    all : AllAllowed (G log) start (exchanges_of v ++ exchanges_of pre.0)
    all = subst (AllAllowed (G log) start) (sym longer) l.allowed

    -- the log before a lawful log preserved a map in its setting
    pub first_may : AllAllowed (G log) start (exchanges_of v)
    first_may = allowed_first (G log) (exchanges_of v) (exchanges_of pre.0) start all

    pub kept_map : IsKeeping (G log) (state_of v) (map_left (G log) (exchanges_of v))
    kept_map = keeping (G log) (hashed log l).lawful (exchanges_of v) first_may

    pub since_may : AllAllowed (G log) (state_of v) (exchanges_of pre.0)
    since_may = allowed_rest (G log) (exchanges_of v) (exchanges_of pre.0) start all

    pub since_run : run (exchanges_of pre.0) (state_of v) ≡ state_of log
    since_run = sym (run-append (exchanges_of v) (exchanges_of pre.0) start) ∙ ap (λ (es : List (Exchange (Stored K V))). run es start) longer

  module _ (name : Book) (v : List (Event K V S)) (m : Resizer) (h : Copier K V S H) (r : IsResizing eq hash b name v m h) where
    abbrev pub loaded : LoadedPairs (Stored K V)
    loaded = loaded_with h.last h.kept []

    -- it relies on the words of a longer log, in the setting of one that continues it
    pub later : (before : List (Event K V S)) → IsPrefix v before → (log : List (Event K V S)) → IsLawfulLog eq hash b log → IsPrefix before log
        → ReliesStage (G log) C (state_of before) loaded m.state
    later before since log l pre =
        let whole : IsPrefix v log = prefix_trans v before log since pre in
        let es = exchanges_of since.0 in
        let here = stage_carries (G v) C (G log) (state_of v) (map_left (G v) (exchanges_of v))
        (keeping (G v) (hashed v r.lawful).lawful (exchanges_of v) r.lawful.allowed)
        (agrees_later eq input build write finish classes respects b v r.lawful log whole) loaded m.state r.relies.stage in
        let both : exchanges_of v ++ es ≡ exchanges_of before = sym (exchanges_of-append v since.0) ∙ ap exchanges_of since.1 in
        let may : AllAllowed (G log) start (exchanges_of v ++ es) = subst (AllAllowed (G log) start) (sym both) (first_may before log l pre) in
        let ran : run es (state_of v) ≡ state_of before = sym (run-append (exchanges_of v) es start)
        ∙ ap (λ (z : List (Exchange (Stored K V))). run z start) both in
        subst (λ (s : State (Stored K V)). ReliesStage (G log) C s loaded m.state) ran
        (stage_stable (G log) C (hashed log l) (state_of v) (map_left (G log) (exchanges_of v)) (kept_map v log l whole) es
        (allowed_rest (G log) (exchanges_of v) es start may) loaded m.state here)

    there : (ask : CopyAsk) → ask_of m ≡ Some ask → AreThere (G v) C (state_of v) h.last h.kept ask
    there ask asked = stage_there (G v) C (hashed v r.lawful) (state_of v) (map_left (G v) (exchanges_of v))
        (keeping (G v) (hashed v r.lawful).lawful (exchanges_of v) r.lawful.allowed) loaded m.state r.relies.stage ask asked

    -- and a hint that it writes may be there
    may_note : (t x n : ℕ) → ask_of m ≡ Some (copies.WriteHint t x n) → IsSlotHint eq hash b t x n v
    may_note t x n asked = record {
      lawful = r.lawful;
      is = stage_may_hint (G v) C (hashed v r.lawful) (state_of v) (map_left (G v) (exchanges_of v))
          (keeping (G v) (hashed v r.lawful).lawful (exchanges_of v) r.lawful.allowed) loaded m.mode r.relies.mode m.state r.relies.stage t x n asked;
    }

    -- if a word is named, its table has come
    reached : (at : At) → IsThere (G v) C (state_of v) h.last h.kept at → IsReached v at
    reached Root is = tt
    reached (Next t) is = chain_came v t is
    reached (Aborted t) is = chain_came v t is
    reached (Done t i) is =
        let came = chain_came v t is.0 in
        (came.0, came.1, subst (λ (n : ℕ). i < n) (words_of (steps_of v) t came.0 came.1) is.1)
    reached (Slot t x) is =
        let came = chain_came v t is.0 in
        (came.0, came.1, subst (λ (n : ℕ). x < n) (sizes (steps_of v) t came.0 came.1).0 is.1)
    reached Made_word is = absurd is

    -- if a table is about to be linked, none has come under its number, over a longer log too
    module _ (t n chunks : ℕ) (about : link_of m.state ≡ Some (links.Linking t n chunks)) where
      not_come : (log : List (Event K V S)) → IsPrefix v log → IsLawfulLog eq hash b log → word_in eq hash b log (Next t) ≡ 0 → table_in (steps_of log) n ≡ None
      not_come log pre l stands =
          let on = there (copies.Exchange (Next t) 0 n) (stage_linking m.state t n chunks about).0 in
          let came = chain_came v t on in
          let here = table_since v log t came.0.value pre (came.0, came.1, refl) in
          last_came eq hash b log (hashed log l).lawful l (table_in (steps_of log) n) t n refl on.0 (here.0, here.1) stands
          (stage_rises (G v) C (state_of v) t n chunks loaded m.state r.relies.stage about)

    module _ (closed : (n : ℕ) → m.state ≡ Opening n → ⊥) (at : At) (old new : ℕ) (asked : ask_of m ≡ Some (copies.Exchange at old new)) where
      -- an exchange of it that may be made after a longer log
      pub record IsGranted (log : List (Event K V S)) : Type 0 where
        pub by : Exchange (Stored K V)
        pub wished : IsCopyAsked Numbered (kind_of_ask m) at new (state_of log) h.kept by
        pub allowed : Allows (G log) (state_of log) by
        pub written : IsWritten (G log) C (state_of log) at new (after_exchange (state_of log) by)

      -- if no table is to be linked, none is about to be
      unlinked : ((t : ℕ) → at ≡ Next t → ⊥) → (behind n chunks : ℕ) → link_of m.state ≡ Some (links.Linking behind n chunks) → ⊥
      unlinked other behind n chunks e =
          let same : Some (copies.Exchange at old new) ≡ Some (copies.Exchange (Next behind) 0 n) = sym asked ∙ (stage_linking m.state behind n chunks e).0 in
          let place : at ≡ Next behind = cc same in other behind place

      pub granted : ((t : ℕ) → at ≡ Next t → ⊥) → (log : List (Event K V S)) → IsPrefix v log → IsLawfulLog eq hash b log
          → word_in eq hash b log at ≡ old → IsGranted log
      granted other log pre l stands =
          let done = stage_may (G log) C (hashed log l) (state_of log) (map_left (G log) (exchanges_of log))
          (keeping (G log) (hashed log l).lawful (exchanges_of log) l.allowed) loaded m.state (later log pre log l ([], append-nil log))
          (words_where (G log) (link_of m.state) (λ behind n chunks e. absurd (unlinked other behind n chunks e))) at old new asked
          (word_there log log at ∙ stands) in record {
            by = done.0;
            wished = copy_alike C Numbered (λ z. refl) new (state_of log) h.kept done.0 (kind_of_ask m) at
                (stage_asked (G log) C (state_of log) m.state closed at new loaded done.0 done.1);
            allowed = done.2;
            written = done.3;
          }

      -- except for a link, nothing comes with it
      pub can_try : ((t : ℕ) → at ≡ Next t → ⊥) → CanExchange eq hash b at (kind_of_ask m) old new h.kept names.Nothing v
      can_try other log pre l stands =
          let g = granted other log pre l stands in
          let s = step_of_copy new (state_of log) h.kept g.by (kind_of_ask m) at g.wished other in record {
            step = s.step;
            meant = record { asked = inr s.asked; with_it = s.alone };
            allowed = subst (Allows (G log) (state_of log)) (sym s.is) g.allowed;
            written = subst (λ (e : Exchange (Stored K V)). IsWritten (G log) C (state_of log) at new (after_exchange (state_of log) e)) (sym s.is) g.written;
          }

      -- an exchange that was requested is one of it
      wished_by : (s : List (Event K V S)) → IsPrefix v s → IsLawfulLog eq hash b s → word_in eq hash b s at ≡ old → (e : Exchange (Stored K V))
          → IsWished (kind_of_ask m) at new (state_of s) h.kept e → IsCopyAsked Numbered (kind_of_ask m) at new (state_of s) h.kept e
      wished_by s pre l stands e wished = copy_wished at new (state_of s) h.kept e (kind_of_ask m) kind_copies wished
        where
          -- it is of a copy's kind
          kind_copies : IsOfCopy (kind_of_ask m)
          kind_copies =
              ⊎_elim
              (λ (next : (t : ℕ) × (at ≡ Next t)).
              let about = stage_links m.state next.0 old new (asked ∙ ap (λ (a : At). Some (copies.Exchange a old new)) next.1) in
              subst IsOfCopy (sym (stage_linking m.state next.0 new about.0 about.1).1) tt)
              (λ other. let g = granted other s pre l stands in of_copy Numbered new (state_of s) h.kept g.by (kind_of_ask m) at g.wished)
              (next_or at)

      module _ (found : ℕ) (log : List (Event K V S)) (pair : Option (Stored K V))
          (t : IsTriedFor eq hash b name at (kind_of_ask m) old new h.kept h.fresh v found log pair) where
        abbrev After : Bool → Type 0
        After z = MatchBool z ((e : Step K V) × IsWished (kind_of_ask m) at new (state_of t.before) h.kept (exchange_of e)
            × IsOwnTable h.fresh (comes e) × (log ≡ t.before ++ Stepped e ∷ [])) (log ≡ t.before)

        -- the answer was true of the words before it
        abbrev pub Tells : IsPrefix t.before log → Answer → Option (Stored K V) → Type 0
        Tells pre answer last = IsTrueOfCopy (G log) C (state_of t.before) (kind_of_ask m) (follows_of m) loaded (copies.Exchange at old new) answer
            (exchanges_of pre.0) (loaded_with last h.kept [])

        pub grown : (found == old) ≡ true → (pre : IsPrefix t.before log) × Tells pre (answers.Call Exchanged) (marked_or (kind_of_ask m) pair h.last)
        grown is =
            let done = subst After is t.after in
            let e = exchange_of done.0 in
            let stands : word_in eq hash b t.before at ≡ old = t.is ∙ eqb-true found old is in
            let asked' = wished_by t.before t.since t.lawful stands e done.1 in
            let here : (word_of (G log) C (state_of t.before) at == old) ≡ true = ap (λ (n : ℕ). n == old) (word_there t.before log at ∙ t.is) ∙ is in
            let own : IsCopyAsked C (kind_of_ask m) at new (state_of t.before) h.kept e = copy_alike Numbered C (λ z. refl) new (state_of t.before)
            h.kept e (kind_of_ask m) at asked' in
            let told : last_after e h.last ≡ marked_or (kind_of_ask m) pair h.last = last_marked Numbered new (state_of t.before) h.kept e
            (kind_of_ask m) at asked' h.last ∙ ap (λ (z : Option (Stored K V)). marked_or (kind_of_ask m) z h.last) t.names in
            ((Stepped done.0 ∷ [], sym done.3), rw here (refl, (e, own, refl, ap (λ (z : Option (Stored K V)). loaded_with z h.kept []) (sym told))))

        -- if a table was linked, the setting now has its words
        pub linked_words : (found == old) ≡ true → HasWords (G log) (link_of m.state)
        linked_words is =
            words_where (G log) (link_of m.state)
            (λ behind n chunks e.
            let links_it = stage_linking m.state behind n chunks e in
            let same : Some (copies.Exchange at old new) ≡ Some (copies.Exchange (Next behind) 0 n) = sym asked ∙ links_it.0 in
            let place : at ≡ Next behind = cc same in let zero : old ≡ 0 = cc same in let number : new ≡ n = cc same in
            let done = subst After is t.after in
            let stands : word_in eq hash b t.before at ≡ old = t.is ∙ eqb-true found old is in
            let asked' = wished_by t.before t.since t.lawful stands (exchange_of done.0) done.1 in
            let by : exchange_of done.0 ≡ law.Link behind
            new = subst (λ (z : Option StepKind). IsCopyAsked Numbered z (Next behind) new (state_of t.before) h.kept (exchange_of done.0))
            links_it.1 (subst (λ (a : At). IsCopyAsked Numbered (kind_of_ask m) a new (state_of t.before) h.kept (exchange_of done.0)) place asked') in
            let step = link_step done.0 behind n (by ∙ ap (law.Link behind) number) in
            let own : IsOwnTable {K = K} {V = V} h.fresh (names.Table step.0) = subst (λ (x : Step K V). IsOwnTable h.fresh (comes x)) step.1 done.2 in
            let many = own_words K V h.fresh step.0 chunks own (r.brings behind n chunks e).1 in
            let none = not_come behind n chunks e t.before t.since t.lawful (subst (λ (a : At). word_in eq hash b t.before a ≡ 0) place (stands ∙ zero)) in
            let came : table_in (steps_of log) n ≡ Some step.0 = subst (λ (i : ℕ). table_in (steps_of log) i ≡ Some step.0) step.2
            (link_words t.before log behind step.0 (done.3 ∙ ap (λ (x : Step K V). t.before ++ Stepped x ∷ []) step.1)
            (ap (table_in (steps_of t.before)) step.2 ∙ none)) in
            eq_le (words_of (steps_of log) n step.0 came ∙ many))

        pub lost : (found == old) ≡ false → (pre : IsPrefix t.before log) × Tells pre (answers.Call (Found_instead found)) (or_last pair h.last)
        lost is =
            let same = subst After is t.after in
            let word : word_of (G log) C (state_of t.before) at ≡ found = word_there t.before log at ∙ t.is in
            let differs : (word_of (G log) C (state_of t.before) at == old) ≡ false = ap (λ (n : ℕ). n == old) word ∙ is in
            let told : told_last (state_of t.before) at h.last ≡ or_last pair h.last = told_pair (state_of t.before) at h.last
            ∙ ap (λ (z : Option (Stored K V)). or_last z h.last) t.names in (
              ([], append-nil t.before ∙ sym same),
              rw differs
                  (ap (λ (n : ℕ). answers.Call (Found_instead n)) (sym word), refl, ap (λ (z : Option (Stored K V)). loaded_with z h.kept []) (sym told)),
            )

    -- its ask may be answered
    module _ (closed : (n : ℕ) → m.state ≡ Opening n → ⊥) where
      -- it asks to link the table at hand, if none is linked yet
      module _ (t old new : ℕ) (asked : ask_of m ≡ Some (copies.Exchange (Next t) old new)) where
        abbrev chunks : ℕ
        chunks = (stage_links m.state t old new asked).0

        about : link_of m.state ≡ Some (links.Linking t new chunks)
        about = (stage_links m.state t old new asked).1

        asks : (Rattle.papaya_call.specs.Resizer.asks_in m.state ≡ Some (copies.Exchange (Next t) 0 new)) × (kind_of_ask m ≡ Some kinds.Link)
        asks = stage_linking m.state t new chunks about

        none : old ≡ 0
        none = let same : Some (copies.Exchange (Next t) old new) ≡ Some (copies.Exchange (Next t) 0 new) = sym asked ∙ asks.0 in cc same

        module _ (w : Where Sheet) (seal : Pen) (is : h.fresh ≡ Some (w, seal)) where
          number : number_of w ≡ new
          number =
              let f = (r.brings t new chunks about).0 in
              let pairs : Some (f.table, f.seal) ≡ Some (w, seal) = sym f.is ∙ is in
              let both : (f.table, f.seal) ≡ (w, seal) = cc pairs in
              ap (λ (z : Where Sheet × Pen). number_of z.0) (sym both) ∙ f.number_is

          module _ (log : List (Event K V S)) (pre : IsPrefix v log) (l : IsLawfulLog eq hash b log) (stands : word_in eq hash b log (Next t) ≡ 0) where
            absent : table_in (steps_of log) (number_of w) ≡ None
            absent = ap (table_in (steps_of log)) number ∙ not_come t new chunks about log pre l stands

            -- the setting in which this table is the next to come
            abbrev G' : Setting K (Stored K V)
            G' = setting_with eq (hash b.hasher) b.mode b.limit (names.Table w) log

            hashed' : IsHashed G' C
            hashed' = with_hashed eq input build write finish classes respects b log l w

            has_words : HasWords G' (link_of m.state)
            has_words =
                let many : length w.value.done ≡ chunks = subst (λ (o : Option (Where Sheet × Pen)). HasChunks o chunks) is (r.brings t new chunks about).1 in
                subst (HasWords G') (sym about) (eq_le (ap G'.chunks (sym number)
                ∙ (with_chunks eq input build write finish classes respects b log l w ∙ many)))

            now : ReliesStage G' C (state_of log) loaded m.state
            now = stage_carries (G log) C G' (state_of log) (map_left (G log) (exchanges_of log))
                (keeping (G log) (hashed log l).lawful (exchanges_of log) l.allowed)
                (with_agrees eq input build write finish classes respects b log l w absent) loaded m.state (later log pre log l ([], append-nil log))

            done_with : (e : Exchange (Stored K V)) × IsStageAsked G' C (state_of log) m.state (Next t) new loaded e × Allows G' (state_of log) e
                × IsWritten G' C (state_of log) (Next t) new (after_exchange (state_of log) e)
            done_with = stage_may G' C hashed' (state_of log) (map_left G' (exchanges_of log))
                (keeping G' hashed'.lawful (exchanges_of log) (with_allowed eq input build write finish classes respects b log l w absent)) loaded
                m.state now has_words (Next t) old new asked (stands ∙ sym none)

            by : done_with.0 ≡ law.Link t (number_of w)
            by = subst (λ (z : Option StepKind). IsCopyAsked C z (Next t) new (state_of log) h.kept done_with.0) asks.1
                (stage_asked G' C (state_of log) m.state closed (Next t) new loaded done_with.0 done_with.1) ∙ ap (law.Link t) (sym number)

            may : MayStep eq hash b (Next t) (Some kinds.Link) (w.index + 1) None (names.Table w) log
            may = record {
              step = steps.Link t w;
              meant = record { asked = inr refl; with_it = refl };
              allowed = subst (Allows G' (state_of log)) by done_with.2;
              written = subst (λ (n : ℕ). IsWritten (G log) C (state_of log) (Next t) n (after_exchange (state_of log) (law.Link t (number_of w)))) (sym number)
                  (subst (λ (e : Exchange (Stored K V)). IsWritten (G log) C (state_of log) (Next t) new (after_exchange (state_of log) e)) by (record {
                    here = word_same G' (G log) C (after_exchange (state_of log) done_with.0) (Next t) ∙ done_with.3.here;
                    others = λ other differs. word_same (G log) G' C (after_exchange (state_of log) done_with.0) other
                        ∙ (done_with.3.others other differs ∙ word_same G' (G log) C (state_of log) other);
                  }));
            }

        can_join : CanExchangeFor eq hash b name (Next t) (kind_of_ask m) old new v h
        can_join = (
          record {
            come = reached (Next t) (there (copies.Exchange (Next t) old new) asked);
            fresh = (r.brings t new chunks about).0;
            can = λ w seal is log pre l stands. may w seal is log pre l stands;
          },
          asks.1,
          none,
        )

      can_exchange : (at : At) (old new : ℕ) → ask_of m ≡ Some (copies.Exchange at old new) → CanExchangeFor eq hash b name at (kind_of_ask m) old new v h
      can_exchange (Next t) old new asked = can_join t old new asked
      can_exchange Root old new asked = (tt, (can_try closed Root old new asked (λ t e. cc e), tt))
      can_exchange (Aborted t) old new asked =
          (reached (Aborted t) (there (copies.Exchange (Aborted t) old new) asked), (can_try closed (Aborted t) old new asked (λ t e. cc e), tt))
      can_exchange (Done t i) old new asked = (
        reached (Done t i) (there (copies.Exchange (Done t i) old new) asked),
        (can_try closed (Done t i) old new asked (λ t e. cc e), tt),
      )
      can_exchange (Slot t x) old new asked = (
        reached (Slot t x) (there (copies.Exchange (Slot t x) old new) asked),
        (can_try closed (Slot t x) old new asked (λ t e. cc e), stage_keeps t x m.state),
      )
      can_exchange Made_word old new asked = absurd (there (copies.Exchange Made_word old new) asked)

      pub can_answer : (ask : CopyAsk) → ask_of m ≡ Some ask → IsFitCopyAsk ask → CanAnswerTo eq hash b name ask (kind_of_ask m) (follows_of m) v h
      can_answer (copies.Load at) asked fit = reached at (there (copies.Load at) asked)
      can_answer (copies.Exchange at old new) asked fit = can_exchange at old new asked
      can_answer (copies.LoadHint t x) asked fit = reached (Slot t x) (there (copies.LoadHint t x) asked)
      can_answer (copies.WriteHint t x n) asked fit = (reached (Slot t x) (there (copies.WriteHint t x n) asked), may_note t x n asked)
      can_answer (copies.SizeOf t) asked fit = chain_came v t (there (copies.SizeOf t) asked)
      can_answer (copies.HashOf n) asked fit = let p = there (copies.HashOf n) asked in record { some = (p.0, p.1); placed = r.last_placed }
      can_answer (copies.SamePair i n) asked fit = let p = there (copies.SamePair i n) asked in
          (record { some = (p.0, p.2); placed = r.kept_placed }, record { some = (p.1, p.3); placed = r.last_placed })
      can_answer copies.Count asked fit = tt
      can_answer (copies.MakeTable slots limit chunks) asked
          fit = (λ some. chain_came v (follows_of m) (stage_on (G v) C (state_of v) slots limit chunks loaded m.state r.relies.stage asked some), fit)
