-- A call that resizes begins, and opens a first table if there is none.
use Rattle.std.proofs.Common.{◌≡◌, ℕ, ◌+◌, ◌==◌, Bool, true, false, if◌then◌else◌, MatchBool}
use Rattle.std.proofs.Common.{Option, None, Some, List, [], ◌∷◌, ◌++◌, append-nil, refl, sym, ap}
use Rattle.std.proofs.Common.{◌∙◌, subst}
use Rattle.std.specs.Cmp.{IsEquivalence}
use mathlib.Core.List.{IsPrefix}
use Rattle.boxcar.specs.Table.{Where}
use Rattle.logbook.specs.Pages.{Book}
use Rattle.papaya_words.specs.declared.refused.Refused.{Refused as Cause}
use Rattle.papaya_words.specs.declared.resize_mode.ResizeMode.{ResizeMode}
use Rattle.papaya_words.specs.declared.resize_mode.ResizeMode.TheVariants.{Incremental, Blocking}
use Rattle.papaya_call.specs.declared.ask.At.TheVariants.{Root}
use Rattle.papaya_call.specs.declared.ask.Answer.TheVariants.{Exchanged, Found as Found_instead}
use Rattle.papaya_call.specs.declared.ask.StepKind.TheVariants as kinds
use Rattle.papaya_call.specs.declared.call.Reply.TheVariants.{Refused}
use Rattle.papaya_call.specs.declared.copy.link.Link.TheVariants as links
use Rattle.papaya_call.specs.declared.chain.ask.Answer.TheVariants as answers
use Rattle.papaya_call.specs.declared.chain.resizer.Resize.{Resize}
use Rattle.papaya_call.specs.declared.chain.resizer.Resize.TheVariants.{Chunk, CopyAll, Reserve}
use Rattle.papaya_call.specs.declared.chain.resizer.Resizer.{Resizer}
use Rattle.papaya_call.specs.declared.chain.resizer.ResizerState.{ResizerState as Stage}
use Rattle.papaya_call.specs.declared.chain.resizer.ResizerState.TheVariants.{Opening}
use Rattle.papaya_call.specs.Resizer.{after, after_in, begun, begun_in, reply_in}
use Rattle.papaya_call_law.specs.Resizers.{IsTrueOfStage, link_of}
use Rattle.papaya_call_law.proofs.ResizerRelies.{stage_begins}
use Rattle.papaya_words_law.specs.Exchange.{Exchange}
use Rattle.papaya_words_law.specs.Exchange as law
use Rattle.papaya_call_law.specs.Copier.{HasWords}
use Rattle.papaya_call_law.specs.Relies.{IsModeOf}
use Rattle.papaya_map_book.specs.declared.rule.entry.Begun.{Begun}
use Rattle.papaya_map_book.specs.declared.rule.entry.Event.{Event}
use Rattle.papaya_map_book.specs.declared.rule.entry.Event.TheVariants.{Stepped}
use Rattle.papaya_map_book.specs.declared.rule.entry.Named.{Named}
use Rattle.papaya_map_book.specs.declared.rule.entry.Named.TheVariants as names
use Rattle.papaya_map_book.specs.declared.rule.entry.Step.{Step}
use Rattle.papaya_map_book.specs.Calls.{IsTried}
use Rattle.papaya_map_book.specs.Limits.{tables_of}
use Rattle.papaya_map_book.specs.Logs.{Member, Stored, exchange_of, exchanges_of, is_blocking, number_of, state_of}
use Rattle.papaya_map_book.specs.Plays.{IsMeant}
use Rattle.papaya_map_book.specs.Rule.{IsLawfulLog}
use Rattle.papaya_map_book.specs.Sheets.{Sheet}
use Rattle.papaya_map_book.proofs.Wishes.{call_wished}
use Rattle.papaya_map_change.specs.declared.copier.Copier.{Copier}
use Rattle.papaya_map_change.specs.Changing.{IsFresh, IsReadyAs, IsSizedBy, loaded_with}
use Rattle.papaya_map_change.specs.Copier.{tried_answer}
use Rattle.papaya_map_change.specs.Resizing.{IsResizing}
use Rattle.papaya_map_change.proofs.ResizingAnswers.{again}
use Rattle.papaya_map_change.proofs.ResizingRelies.{C, G, hash}
use Rattle.papaya_map_change.proofs.ResizingRooms.{room_begins}
use Rattle.papaya_map_change.proofs.ResizingStages.{IsMadeAt}

mode_is : (mode : ResizeMode) → IsModeOf mode (is_blocking mode)
mode_is (Incremental chunk) = refl
mode_is Blocking = refl

-- a call that begins makes no table and has not ended
opens_none : (resize : Resize) (n : ℕ) → begun_in resize ≡ Opening n → ⊥
opens_none Chunk n e = cc e
opens_none CopyAll n e = cc e
opens_none (Reserve more) n e = cc e

links_none : (resize : Resize) (link : Rattle.papaya_call.specs.declared.copy.link.Link.Link) → link_of (begun_in resize) ≡ Some link → ⊥
links_none Chunk link e = cc e
links_none CopyAll link e = cc e
links_none (Reserve more) link e = cc e

counts_none : (resize : Resize) (tables : List ℕ) → IsSizedBy tables (link_of (begun_in resize))
counts_none Chunk tables = tt
counts_none CopyAll tables = tt
counts_none (Reserve more) tables = tt

ends_none : (resize : Resize) (cause : Cause) → reply_in (begun_in resize) ≡ Some (Refused cause) → ⊥
ends_none Chunk cause e = cc e
ends_none CopyAll cause e = cc e
ends_none (Reserve more) cause e = cc e

module _ {K V S H : Type 0} (eq : K → K → Bool) (input : K → List (List ℕ)) (build : S → H) (write : H → List ℕ → H) (finish : H → ℕ)
    (classes : IsEquivalence eq) (respects : (x y : K) → eq x y ≡ true → input x ≡ input y) (b : Begun K V S) (name : Book) where
  abbrev hashing : S → K → ℕ
  hashing = hash eq input build write finish classes respects b

  pub begins : (log : List (Event K V S)) → IsLawfulLog eq hashing b log → (resize : Resize) (initial number : ℕ) (h : Copier K V S H) → h.last ≡ None
      → h.kept ≡ None → IsResizing eq hashing b name log (begun resize b.mode initial number) h
  begins log l resize initial number h none none' = record {
    lawful = l;
    relies = record {
      mode = mode_is b.mode;
      cut = λ x.
          refl;
      stage = stage_begins (G eq input build write finish classes respects b log) (C eq input build write finish classes respects b)
          (state_of log) (loaded_with h.last h.kept []) resize;
    };
    last_placed = subst (λ (o : Option (Stored K V)).
        Rattle.papaya_map_book.specs.Rule.IsPlaced b (Some name) (Rattle.papaya_map_book.specs.Logs.pair_named o)) (sym none) tt;
    kept_placed = subst (λ (o : Option (Stored K V)).
        Rattle.papaya_map_book.specs.Rule.IsPlaced b (Some name) (Rattle.papaya_map_book.specs.Logs.pair_named o)) (sym none') tt;
    opens = λ n e. absurd (opens_none resize n e);
    brings = λ behind n chunks e. absurd (links_none resize (links.Linking behind n chunks) e);
    room = room_begins resize (tables_of log) h.given.done;
    counts = counts_none resize (tables_of log);
    ends = λ cause e. absurd (ends_none resize cause e);
  }

  module _ (v : List (Event K V S)) (m : Resizer) (h : Copier K V S H) (r : IsResizing eq hashing b name v m h) (n : ℕ) (is : m.state ≡ Opening n)
      (table : Where Sheet) (number : number_of table ≡ n) (found : ℕ) (log : List (Event K V S)) (state : Option (Named K V))
      (t : IsTried eq hashing b Root (Some kinds.Open) 0 (table.index + 1) None (names.Table table) v found log state) (h' : Copier K V S H)
      (rest : h' ≡ record h { fresh = h'.fresh }) where
    abbrev After : Bool → Type 0
    After z = MatchBool z ((e : Step K V) × IsMeant eq hashing Root (Some kinds.Open) (table.index + 1) None (names.Table table) t.before e
        × (log ≡ t.before ++ Stepped e ∷ [])) (log ≡ t.before)

    abbrev Gs : Rattle.papaya_words_law.specs.Exchange.Setting K (Stored K V)
    Gs = G eq input build write finish classes respects b log

    abbrev Cs : Rattle.papaya_words_law.specs.Code.Coding K (Stored K V)
    Cs = C eq input build write finish classes respects b

    same : loaded_with h'.last h'.kept [] ≡ loaded_with h.last h.kept []
    same = ap (λ (z : Copier K V S H). loaded_with z.last z.kept []) rest

    placed : Rattle.papaya_map_book.specs.Rule.IsPlaced b (Some name) (Rattle.papaya_map_book.specs.Logs.pair_named h'.last)
    placed = subst (λ (o : Option (Stored K V)). Rattle.papaya_map_book.specs.Rule.IsPlaced b (Some name) (Rattle.papaya_map_book.specs.Logs.pair_named o))
        (sym (ap (λ (z : Copier K V S H). z.last) rest)) r.last_placed

    placed' : Rattle.papaya_map_book.specs.Rule.IsPlaced b (Some name) (Rattle.papaya_map_book.specs.Logs.pair_named h'.kept)
    placed' = subst (λ (o : Option (Stored K V)). Rattle.papaya_map_book.specs.Rule.IsPlaced b (Some name) (Rattle.papaya_map_book.specs.Logs.pair_named o))
        (sym (ap (λ (z : Copier K V S H). z.kept) rest)) r.kept_placed

    -- the table became the root, or another one is
    opened : (z : Bool) → (found == 0) ≡ z → IsResizing eq hashing b name log
        (after m (if z then answers.Call Exchanged else answers.Call (Found_instead found))) h'
    opened true it =
        let done = subst After it t.after in
        let e = exchange_of done.0 in
        let by : e ≡ law.Open n = call_wished Root (table.index + 1) (state_of t.before) None e (Some kinds.Open) tt done.1.asked ∙ ap law.Open number in
        let pre : IsPrefix t.before log = (Stepped done.0 ∷ [], sym done.2) in
        let none : ((state_of t.before).root == 0) ≡ true = ap (λ (i : ℕ). i == 0) t.is ∙ it in
        let told : IsTrueOfStage Gs Cs (state_of t.before) (Opening n) (loaded_with h.last h.kept []) (answers.Call Exchanged) (exchanges_of pre.0)
        (loaded_with h'.last h'.kept []) = rw none (refl, ap (λ (x : Exchange (Stored K V)). x ∷ []) by, same) in
        again eq input build write finish classes respects b name v m h r t.before t.since log t.now pre (answers.Call Exchanged)
        (λ e. subst (λ (s : Stage). HasWords Gs (link_of s)) (sym is) tt) h' tt
        (subst (λ (s : Stage). IsTrueOfStage Gs Cs (state_of t.before) s (loaded_with h.last h.kept []) (answers.Call Exchanged) (exchanges_of pre.0)
        (loaded_with h'.last h'.kept [])) (sym is) told) placed placed'
        (subst (λ (s : Stage). IsMadeAt (λ i. IsFresh b name log i h'.fresh) (IsReadyAs b name log h'.fresh)
        (after_in m.resize m.mode m.initial m.number (answers.Call Exchanged) s)) (sym is) tt) (λ slots limit f. absurd (cc f))
    opened false it =
        let still = subst After it t.after in
        let pre : IsPrefix t.before log = ([], append-nil t.before ∙ sym still) in
        let some : ((state_of t.before).root == 0) ≡ false = ap (λ (i : ℕ). i == 0) t.is ∙ it in
        let told : IsTrueOfStage Gs Cs (state_of t.before) (Opening n) (loaded_with h.last h.kept []) (answers.Call (Found_instead found)) []
        (loaded_with h'.last h'.kept []) = rw some (ap (λ (i : ℕ). answers.Call (Found_instead i)) (sym t.is), (refl, same)) in
        again eq input build write finish classes respects b name v m h r t.before t.since log t.now pre (answers.Call (Found_instead found))
        (λ e. absurd (cc e)) h' tt (subst (λ (s : Stage).
        IsTrueOfStage Gs Cs (state_of t.before) s (loaded_with h.last h.kept []) (answers.Call (Found_instead found)) []
        (loaded_with h'.last h'.kept [])) (sym is) told) placed placed'
        (subst (λ (s : Stage). IsMadeAt (λ i. IsFresh b name log i h'.fresh) (IsReadyAs b name log h'.fresh)
        (after_in m.resize m.mode m.initial m.number (answers.Call (Found_instead found)) s)) (sym is) tt) (λ slots limit f. absurd (cc f))

    pub tried : IsResizing eq hashing b name log (after m (tried_answer found 0)) h'
    tried = opened (found == 0) refl
