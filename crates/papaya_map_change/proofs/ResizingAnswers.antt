-- After each answer a call that resizes relies on facts that hold, and if it fails, the cause is
-- right.
use Rattle.std.proofs.Common.{◌≡◌, ◌⊎◌, inl, inr, ⊎_elim, ℕ, ◌+◌, ◌==◌, Bool, true, false}
use Rattle.std.proofs.Common.{if◌then◌else◌, MatchBool, Option, None, Some, List, [], length}
use Rattle.std.proofs.Common.{append-nil, refl, sym, ap, ◌∙◌, subst}
use Rattle.std.specs.Cmp.{IsEquivalence}
use mathlib.Core.List.{IsPrefix}
use Rattle.boxcar.specs.Table.{Where}
use Rattle.logbook.specs.Pages.{Book}
use Rattle.logbook.specs.declared.tokens.Pen.{Pen}
use Rattle.papaya_words.specs.declared.refused.Refused.{Refused as Cause}
use Rattle.papaya_words.specs.declared.refused.Refused.TheVariants.{Capacity, Memory}
use Rattle.papaya_call.specs.declared.ask.At.{At}
use Rattle.papaya_call.specs.declared.ask.At.TheVariants as places
use Rattle.papaya_call.specs.declared.ask.At.TheVariants.{Root, Next, Aborted, Slot}
use Rattle.papaya_call.specs.declared.ask.Answer.{Answer as Call_answer}
use Rattle.papaya_call.specs.declared.ask.Answer.TheVariants.{Exchanged, Found as Found_instead}
use Rattle.papaya_call.specs.declared.ask.Answer.TheVariants.{Made as Made_number, Ok as Ok_done}
use Rattle.papaya_call.specs.declared.ask.Answer.TheVariants.{Refused as Was_refused, Size}
use Rattle.papaya_call.specs.declared.ask.Answer.TheVariants.{Word as Word_read, Yes}
use Rattle.papaya_call.specs.declared.ask.StepKind.{StepKind}
use Rattle.papaya_call.specs.declared.ask.StepKind.TheVariants as kinds
use Rattle.papaya_call.specs.declared.copy_ask.CopyAsk.{CopyAsk}
use Rattle.papaya_call.specs.declared.copy_ask.CopyAsk.TheVariants as copies
use Rattle.papaya_call.specs.declared.copy.link.Link.{Link}
use Rattle.papaya_call.specs.declared.copy.link.Link.TheVariants as links
use Rattle.papaya_call.specs.declared.chain.ask.Answer.{Answer}
use Rattle.papaya_call.specs.declared.chain.ask.Answer.TheVariants as answers
use Rattle.papaya_call.specs.declared.chain.resizer.Resize.{Resize}
use Rattle.papaya_call.specs.declared.chain.resizer.Resize.TheVariants.{Chunk, CopyAll, Reserve}
use Rattle.papaya_call.specs.declared.chain.resizer.Resizer.{Resizer}
use Rattle.papaya_call.specs.declared.chain.resizer.ResizerState.{ResizerState as Stage}
use Rattle.papaya_call.specs.declared.chain.resizer.ResizerState.TheVariants.{Opening, Linking, Copying, Done}
use Rattle.papaya_call.specs.Resizer.{after, ask_of, follows_of, kind_of_ask}
use Rattle.papaya_call_law.specs.Copier.{HasWords, link_in_copying}
use Rattle.papaya_call_law.specs.Resizers.{HasLink, IsResizeCause, IsTrueOfStage, ReliesStage, link_of}
use Rattle.papaya_call_law.specs.ChainAnswers.{IsTrueOfCopy, LoadedPairs}
use Rattle.papaya_call_law.proofs.LinkStates.{Of}
use Rattle.papaya_call_law.proofs.ResizerRefusals.{resizer_why}
use Rattle.papaya_call_law.proofs.ResizerRelies.{stage_learns}
use Rattle.papaya_words_law.specs.Exchange.{Exchange, State}
use Rattle.papaya_words_law.specs.Meaning.{map_left}
use Rattle.papaya_call_law.specs.TrueAnswers.{or_last}
use Rattle.papaya_map_book.specs.declared.rule.entry.Begun.{Begun}
use Rattle.papaya_map_book.specs.declared.rule.entry.Event.{Event}
use Rattle.papaya_map_book.specs.declared.rule.own.CapacityCause.{CapacityCause}
use Rattle.papaya_map_book.specs.Limits.{HasNoRoom, IsFull, tables_of}
use Rattle.papaya_map_book.specs.Logs.{Member, Stored, exchanges_of, pair_named, state_of, steps_of}
use Rattle.papaya_map_book.specs.Rule.{IsLawfulLog, IsPlaced}
use Rattle.papaya_map_book.specs.Sheets.{Sheet}
use Rattle.papaya_map_book.proofs.Lengths.{member_since, table_slots, tables_since}
use Rattle.papaya_map_book.proofs.Logs.{prefix_trans}
use Rattle.papaya_map_book.proofs.TableSizes.{sizes}
use Rattle.papaya_map_change.specs.declared.copier.Copier.{Copier}
use Rattle.papaya_map_change.specs.Changing.{IsFresh, IsReadyAs, IsSizedBy, loaded_with}
use Rattle.papaya_map_change.specs.Copier.{AnswersExchange, AnswersTo, HasMade, IsHandLeft, marked_or}
use Rattle.papaya_map_change.specs.Helping.{IsGivenBy, IsTriedFor}
use Rattle.papaya_map_change.specs.Resizing.{HasNoRoomFor, IsResizeEnd, IsResizing}
use Rattle.papaya_map_change.proofs.HelpingAnswers.{placed_or}
use Rattle.papaya_map_change.proofs.HelpingRelies.{fresh_later}
use Rattle.papaya_map_change.proofs.MakingAsks.{stage_making}
use Rattle.papaya_map_change.proofs.ResizingRelies.{C, G, grown, hash, hashed, kept_map, later, linked_words, lost, since_run, stage_told, word_there}
use Rattle.papaya_map_change.proofs.ResizingRooms.{room_after}
use Rattle.papaya_map_change.proofs.ResizingStages.{IsMadeAt, links_made, made_after, made_at, opens_made, stage_at, stage_links, tried_none}
use Rattle.papaya_map_change.proofs.Sized as sized

-- the length by which it makes a table is that of one of these
module _ (tables : List ℕ) where
  abbrev SizedAt : Stage → Type 0
  SizedAt = Rattle.papaya_map_change.proofs.ResizingStages.At (λ n. Unit {0}) (sized.IsOfSize tables) (sized.Told tables) (sized.New tables)
      (sized.stable tables) (λ behind slots limit chunks. tt)

  sized_at : (stage : Stage) → IsSizedBy tables (link_of stage) → SizedAt stage
  sized_at (Opening n) h = tt
  sized_at (Linking link) h = h
  sized_at (Copying from goes) h = sized.sized_in tables (link_in_copying goes) h
  sized_at other h = tt

  at_sized : (stage : Stage) → SizedAt stage → IsSizedBy tables (link_of stage)
  at_sized (Linking link) h = h
  at_sized (Copying from goes) h = sized.in_sized tables (link_in_copying goes) h
  at_sized other h = tt

  pub counts_after : (m : Resizer) (answer : Answer) → ((slots limit : ℕ) → answer ≡ answers.Call (Size slots limit) → Member slots tables)
      → IsSizedBy tables (link_of m.state) → IsSizedBy tables (link_of (after m answer).state)
  counts_after m answer told counts =
      at_sized (after m answer).state
      (stage_at (λ n. Unit {0}) (sized.IsOfSize tables) (sized.Told tables) (sized.New tables) (sized.stable tables) (λ behind slots limit chunks. tt)
      m.resize m.mode m.initial m.number answer m.state (λ slots limit is. told_in (link_of m.state) slots (told slots limit is))
      (λ n is. new_in (link_of m.state) n) (λ n is. tt) (sized_at m.state counts))
    where
      told_in : (o : Option Link) (slots : ℕ) → Member slots tables → Of (sized.Told tables) o slots
      told_in None slots told = tt
      told_in (Some made) slots told = told

      new_in : (o : Option Link) (n : ℕ) → Of (sized.New tables) o n
      new_in None n = tt
      new_in (Some made) n = tt

-- a call that receives an answer has not ended
not_done : {K P : Type 0} (g : Rattle.papaya_words_law.specs.Exchange.Setting K P) (c : Rattle.papaya_words_law.specs.Code.Coding K P) (s : State P)
    (stage : Stage) (loaded : LoadedPairs P) (answer : Answer) (es : List (Exchange P)) (loaded' : LoadedPairs P)
    → IsTrueOfStage g c s stage loaded answer es loaded' → stage ≡ Done → ⊥
not_done g c s Done loaded answer es loaded' told e = let none = told.1 in cc none
not_done g c s other loaded answer es loaded' told e = cc e

-- the making of a table, in other words
has_link : (stage : Stage) (link : Link) → HasLink stage link → link_of stage ≡ Some link
has_link (Linking other) link h = ap (λ (l : Link). Some l) h
has_link (Copying from goes) link h = h
has_link other link h = absurd h

-- there is no room
room_for : (initial : ℕ) (resize : Resize) (tables : List ℕ) (given : List CapacityCause) → HasNoRoom initial tables given
    → HasNoRoomFor initial resize tables given
room_for initial Chunk tables given h = h
room_for initial CopyAll tables given h = h
room_for initial (Reserve more) tables given h = inl h

-- the cause with which it ends
why : (m : Resizer) (answer : Answer) (cause : Cause) (tables : List ℕ) (given : List CapacityCause) → IsSizedBy tables (link_of m.state)
    → IsGivenBy answer given → IsResizeCause m answer cause → IsResizeEnd m.initial m.resize tables given cause
why m answer cause tables given counts by (inl unmade) =
    ⊎_elim (λ memory. inl memory) (λ full. inr (full.0, room_for m.initial m.resize tables given (inl full.1)))
    (subst (λ (a : Answer). IsGivenBy a given) unmade.is by)
why m answer cause tables given counts by (inr (inl long)) = inr (
  long.capacity,
  room_for m.initial m.resize tables given (inr (record {
    count = long.count;
    given_is = subst (λ (a : Answer). IsGivenBy a given) long.is by;
    len = long.slots;
    there = subst (IsSizedBy tables) (has_link m.state (links.Counting long.behind long.unfit long.slots long.copied) long.link) counts;
    unfit = long.unfit;
    long = long.long;
  })),
)
why m answer cause tables given counts by (inr (inr much)) = inr (
  much.capacity,
  subst (λ (z : Resize). HasNoRoomFor m.initial z tables given) (sym much.resize) (inr (record {
    count = much.count;
    counted = ⊎_elim (λ none. inl none.1) (λ told. inr (subst (λ (a : Answer). IsGivenBy a given) told by)) much.counts;
    long = much.long;
  })),
)

module _ {K V S H : Type 0} (eq : K → K → Bool) (input : K → List (List ℕ)) (build : S → H) (write : H → List ℕ → H) (finish : H → ℕ)
    (classes : IsEquivalence eq) (respects : (x y : K) → eq x y ≡ true → input x ≡ input y) (b : Begun K V S)
    (name : Book) (v : List (Event K V S)) (m : Resizer) (h : Copier K V S H)
    (r : IsResizing eq (hash eq input build write finish classes respects b) b name v m h) where
  abbrev hashing : S → K → ℕ
  hashing = hash eq input build write finish classes respects b

  abbrev Gs : List (Event K V S) → Rattle.papaya_words_law.specs.Exchange.Setting K (Stored K V)
  Gs log = G eq input build write finish classes respects b log

  abbrev Cs : Rattle.papaya_words_law.specs.Code.Coding K (Stored K V)
  Cs = C eq input build write finish classes respects b

  abbrev held : LoadedPairs (Stored K V)
  held = loaded_with h.last h.kept []

  -- a table is at hand
  abbrev IsAtHand : List (Event K V S) → Copier K V S H → Stage → Type 0
  IsAtHand log h' = IsMadeAt (λ n. IsFresh b name log n h'.fresh) (IsReadyAs b name log h'.fresh)

  -- after an answer that is true of the words before an exchange, or of all
  module _ (before : List (Event K V S)) (since : IsPrefix v before) (log : List (Event K V S)) (l : IsLawfulLog eq hashing b log)
      (pre : IsPrefix before log) (answer : Answer) (words : answer ≡ answers.Call Exchanged → HasWords (Gs log) (link_of m.state))
      (h' : Copier K V S H) (by : IsGivenBy answer h'.given.done)
      (told : IsTrueOfStage (Gs log) Cs (state_of before) m.state held answer (exchanges_of pre.0) (loaded_with h'.last h'.kept [])) where
    pub again : IsPlaced b (Some name) (pair_named h'.last) → IsPlaced b (Some name) (pair_named h'.kept) → IsAtHand log h' (after m answer).state
        → ((slots limit : ℕ) → answer ≡ answers.Call (Size slots limit) → Member slots (tables_of log)) → IsResizing eq hashing b name log (after m answer) h'
    again placed placed' hand size =
        let whole = prefix_trans v before log since pre in
        let relying = later eq input build write finish classes respects b name v m h r before since log l pre in
        let counts : IsSizedBy (tables_of log) (link_of m.state) = sized.sized_since (tables_of v) (tables_of log) (tables_since v log whole)
        (link_of m.state) r.counts in
        let on = stage_learns (Gs log) Cs (hashed eq input build write finish classes respects b log l) (state_of before)
        (map_left (Gs log) (exchanges_of before)) (kept_map eq input build write finish classes respects b before log l pre) m.resize m.mode
        m.initial m.number held r.relies.mode r.relies.cut m.state relying answer words (exchanges_of pre.0) (loaded_with h'.last h'.kept []) told in record {
          lawful = l;
          relies = record {
            mode = r.relies.mode;
            cut = r.relies.cut;
            stage = subst (λ (s : State (Stored K V)). ReliesStage (Gs log) Cs s (loaded_with h'.last h'.kept []) (after m answer).state)
                (since_run eq input build write finish classes respects b before log l pre) on.1;
          };
          last_placed = placed;
          kept_placed = placed';
          opens = opens_made (λ n. IsFresh b name log n h'.fresh) (IsReadyAs b name log h'.fresh) (after m answer).state hand;
          brings = links_made (λ n. IsFresh b name log n h'.fresh) (IsReadyAs b name log h'.fresh) (after m answer).state hand;
          counts = counts_after (tables_of log) m answer size counts;
          room = room_after m.resize m.mode m.initial m.number answer (tables_of v) (tables_of log) h.given.done h'.given.done
              (λ len there. member_since len (tables_of v) (tables_of log) (tables_since v log whole) there) m.state
              (not_done (Gs log) Cs (state_of before) m.state held answer (exchanges_of pre.0) (loaded_with h'.last h'.kept []) told) by size r.room;
          ends = λ cause e. why m answer cause (tables_of log) h'.given.done counts by
              (resizer_why (Gs log) Cs (state_of before) m held answer (exchanges_of pre.0) (loaded_with h'.last h'.kept []) told cause e);
        }

  -- the table at hand is as before if there was no attempt to make or link one
  hand_kept : (log : List (Event K V S)) → IsPrefix v log → (answer : Answer) → ((n : ℕ) → answer ≡ answers.Call (Made_number n) → ⊥)
      → (h' : Copier K V S H) → h'.fresh ≡ h.fresh → IsAtHand log h' (after m answer).state
  hand_kept log pre answer none h' same =
      subst (λ (o : Option (Where Sheet × Pen)). IsMadeAt (λ n. IsFresh b name log n o) (IsReadyAs b name log o) (after m answer).state) (sym same)
      (made_after (λ n. IsFresh b name log n h.fresh) (IsReadyAs b name log h.fresh) m.resize m.mode m.initial m.number answer m.state
      (λ n e. absurd (none n e)) (λ n behind slots limit chunks e makes. absurd (none n e))
      (made_at (λ n. IsFresh b name log n h.fresh) (IsReadyAs b name log h.fresh) m.state
      (λ n e. fresh_later b name v log pre n h.fresh (r.opens n e))
      (λ behind n chunks e. let f = r.brings behind n chunks e in (fresh_later b name v log pre n h.fresh f.0, f.1))))

  module _ (closed : (n : ℕ) → m.state ≡ Opening n → ⊥) (log : List (Event K V S)) (pre : IsPrefix v log) (h' : Copier K V S H) where
    abbrev Leaves : List (Event K V S) → Answer → Type 0
    Leaves l answer = IsResizing eq hashing b name l (after m answer) h'

    -- an answer with which nothing is exchanged
    quiet : (seen : List (Event K V S)) → IsPrefix v seen → IsLawfulLog eq hashing b seen → (ask : CopyAsk) → ask_of m ≡ Some ask → (answer : Answer)
        → IsGivenBy answer h'.given.done → IsTrueOfCopy (Gs seen) Cs (state_of seen) (kind_of_ask m) (follows_of m) held ask answer []
        (loaded_with h'.last h'.kept [])
        → IsPlaced b (Some name) (pair_named h'.last) → IsPlaced b (Some name) (pair_named h'.kept) → IsAtHand seen h' (after m answer).state
        → (answer ≡ answers.Call Exchanged → ⊥) → ((slots limit : ℕ) → answer ≡ answers.Call (Size slots limit) → Member slots (tables_of seen))
        → Leaves seen answer
    quiet seen since l ask asked answer by told placed placed' hand still size =
        again seen since seen l ([], append-nil seen) answer (λ e. absurd (still e)) h' by
        (stage_told (Gs seen) Cs (state_of seen) m.state closed held answer [] (loaded_with h'.last h'.kept []) (ask, asked, told)) placed placed' hand size

    placed_as : (pair pair' : Option (Stored K V)) → pair' ≡ pair → IsPlaced b (Some name) (pair_named pair) → IsPlaced b (Some name) (pair_named pair')
    placed_as pair pair' same is = subst (λ (o : Option (Stored K V)). IsPlaced b (Some name) (pair_named o)) (sym same) is

    module _ (at : At) (old new : ℕ) (asked : ask_of m ≡ Some (copies.Exchange at old new)) (found : ℕ) (pair : Option (Stored K V))
        (t : IsTriedFor eq hashing b name at (kind_of_ask m) old new h.kept h.fresh v found log pair) where
      not_made : (told : Call_answer) → (told ≡ Exchanged) ⊎ ((word : ℕ) × (told ≡ Found_instead word)) → (n : ℕ)
          → answers.Call told ≡ answers.Call (Made_number n) → ⊥
      not_made told (inl is) n e = let f : answers.Call Exchanged ≡ answers.Call (Made_number n) = sym (ap answers.Call is) ∙ e in cc f
      not_made told (inr (word, is)) n e = let f : answers.Call (Found_instead word) ≡ answers.Call (Made_number n) = sym (ap answers.Call is) ∙ e in cc f

      -- there was an attempt to link it, and no table is about to be linked
      hand_tried : (i : ℕ) → at ≡ Next i → (told : Call_answer) → (told ≡ Exchanged) ⊎ ((word : ℕ) × (told ≡ Found_instead word))
          → IsAtHand log h' (after m (answers.Call told)).state
      hand_tried i e told is =
          let about = stage_links m.state i old new (asked ∙ ap (λ (a : At). Some (copies.Exchange a old new)) e) in
          let none = tried_none i new about.0 m.resize m.mode m.initial m.number m.state about.1 told is in
          made_at (λ n. IsFresh b name log n h'.fresh) (IsReadyAs b name log h'.fresh) (after m (answers.Call told)).state
          (λ n opens. absurd (opens_made (λ i. ⊥) (λ i j. ⊥) (after m (answers.Call told)).state none n opens))
          (λ behind n chunks about. absurd (links_made (λ i. ⊥) (λ i j. ⊥) (after m (answers.Call told)).state none behind n chunks about))

      hand : (place : At) → at ≡ place → IsHandLeft place h.fresh h'.fresh → (told : Call_answer) → (told ≡ Exchanged)
          ⊎ ((word : ℕ) × (told ≡ Found_instead word)) → IsAtHand log h' (after m (answers.Call told)).state
      hand (Next i) e left told is = hand_tried i e told is
      hand Root e left told is = hand_kept log pre (answers.Call told) (not_made told is) h' left
      hand (Aborted i) e left told is = hand_kept log pre (answers.Call told) (not_made told is) h' left
      hand (places.Done i j) e left told is = hand_kept log pre (answers.Call told) (not_made told is) h' left
      hand (Slot i x) e left told is = hand_kept log pre (answers.Call told) (not_made told is) h' left
      hand places.Made e left told is = hand_kept log pre (answers.Call told) (not_made told is) h' left

      placed_marked : (kind : Option StepKind) → IsPlaced b (Some name) (pair_named (marked_or kind pair h.last))
      placed_marked (Some kinds.Mark) = t.placed
      placed_marked other = r.last_placed

      ended : (z : Bool) → (found == old) ≡ z → h'.kept ≡ h.kept
          → MatchBool z (h'.last ≡ marked_or (kind_of_ask m) pair h.last) (h'.last ≡ or_last pair h.last) → IsHandLeft at h.fresh h'.fresh
          → Leaves log (if z then answers.Call Exchanged else answers.Call (Found_instead found))
      ended true is kept last left =
          let g = grown eq input build write finish classes respects b name v m h r closed at old new asked found log pair t is in
          let same : loaded_with (marked_or (kind_of_ask m) pair h.last) h.kept [] ≡ loaded_with h'.last h'.kept
          [] = (λ i. loaded_with ((sym last) i) ((sym kept) i) []) in
          again t.before t.since log t.now g.0 (answers.Call Exchanged)
          (λ e. linked_words eq input build write finish classes respects b name v m h r closed at old new asked found log pair t is) h' tt
          (stage_told (Gs log) Cs (state_of t.before) m.state closed held (answers.Call Exchanged) (exchanges_of g.0.0)
          (loaded_with h'.last h'.kept []) (
            copies.Exchange at old new,
            asked,
            subst (λ (z : LoadedPairs (Stored K V)).
                IsTrueOfCopy (Gs log) Cs (state_of t.before) (kind_of_ask m) (follows_of m) held (copies.Exchange at old new) (answers.Call Exchanged)
                (exchanges_of g.0.0) z) same g.1,
          ))
          (placed_as (marked_or (kind_of_ask m) pair h.last) h'.last last (placed_marked (kind_of_ask m)))
          (placed_as h.kept h'.kept kept r.kept_placed) (hand at refl left Exchanged (inl refl)) (λ slots limit e. absurd (cc e))
      ended false is kept last left =
          let g = lost eq input build write finish classes respects b name v m h r closed at old new asked found log pair t is in
          let same : loaded_with (or_last pair h.last) h.kept [] ≡ loaded_with h'.last h'.kept [] = (λ i. loaded_with ((sym last) i) ((sym kept) i) []) in
          again t.before t.since log t.now g.0 (answers.Call (Found_instead found)) (λ e. absurd (cc e)) h' tt
          (stage_told (Gs log) Cs (state_of t.before) m.state closed held (answers.Call (Found_instead found)) (exchanges_of g.0.0)
          (loaded_with h'.last h'.kept []) (
            copies.Exchange at old new,
            asked,
            subst (λ (z : LoadedPairs (Stored K V)).
                IsTrueOfCopy (Gs log) Cs (state_of t.before) (kind_of_ask m) (follows_of m) held (copies.Exchange at old new)
                (answers.Call (Found_instead found)) (exchanges_of g.0.0) z) same g.1,
          ))
          (placed_as (or_last pair h.last) h'.last last (placed_or b name pair h.last t.placed r.last_placed))
          (placed_as h.kept h'.kept kept r.kept_placed) (hand at refl left (Found_instead found) (inr (found, refl))) (λ slots limit e. absurd (cc e))

    tried_on : (at : At) (old new : ℕ) → ask_of m ≡ Some (copies.Exchange at old new) → (answer : Answer)
        → AnswersExchange eq hashing b name at (kind_of_ask m) old new v h log h' answer → Leaves log answer
    tried_on at old new asked answer a = subst (Leaves log) (sym a.is)
        (ended at old new asked a.found a.tried.pair a.tried.tried (a.found == old) refl (ap (λ (z : Copier K V S H). z.kept) a.rest) a.tried.last_is a.hand)

    -- after each answer it relies on facts that hold
    pub resized : (ask : CopyAsk) → ask_of m ≡ Some ask → (answer : Answer)
        → AnswersTo eq hashing b name ask (kind_of_ask m) (follows_of m) v h log h' answer → Leaves log answer
    resized (copies.Load at) asked answer a =
        let kept = ap (λ (z : Copier K V S H). z.kept) a.rest in
        let here = word_there eq input build write finish classes respects b log log at ∙ a.as_loaded.is in
        subst (Leaves log) (sym a.is) (quiet log pre a.as_loaded.lawful (copies.Load at) asked (answers.Call (Word_read a.word)) tt
        (ap (λ (n : ℕ). answers.Call (Word_read n)) (sym here), refl, (λ i. loaded_with (a.as_loaded.last_is i) (kept i) []))
        (a.as_loaded.placed r.last_placed) (placed_as h.kept h'.kept kept r.kept_placed)
        (hand_kept log pre (answers.Call (Word_read a.word)) (λ n e. cc e) h' (ap (λ (z : Copier K V S H). z.fresh) a.rest)) (λ e. cc e)
        (λ slots limit e. absurd (cc e)))
    resized (copies.Exchange at old new) asked answer a = tried_on at old new asked answer a
    resized (copies.LoadHint t x) asked answer a =
        let last = ap (λ (z : Copier K V S H). z.last) a.rest in let kept = ap (λ (z : Copier K V S H). z.kept) a.rest in
        subst (Leaves log) (sym a.is) (quiet log pre a.hinted.lawful (copies.LoadHint t x) asked (answers.Call (Word_read a.hint)) tt
        ((a.hint, a.hinted.is, refl), (refl, (λ i. loaded_with (last i) (kept i) [])))
        (placed_as h.last h'.last last r.last_placed) (placed_as h.kept h'.kept kept r.kept_placed)
        (hand_kept log pre (answers.Call (Word_read a.hint)) (λ n e. cc e) h' (ap (λ (z : Copier K V S H). z.fresh) a.rest)) (λ e. cc e)
        (λ slots limit e. absurd (cc e)))
    resized (copies.WriteHint t x n) asked answer a =
        let last = ap (λ (z : Copier K V S H). z.last) a.rest in let kept = ap (λ (z : Copier K V S H). z.kept) a.rest in
        subst (Leaves log) (sym a.is) (quiet log pre a.lawful (copies.WriteHint t x n) asked (answers.Call Ok_done) tt
        (refl, (refl, (λ i. loaded_with (last i) (kept i) [])))
        (placed_as h.last h'.last last r.last_placed) (placed_as h.kept h'.kept kept r.kept_placed)
        (hand_kept log pre (answers.Call Ok_done) (λ i e. cc e) h' (ap (λ (z : Copier K V S H). z.fresh) a.rest)) (λ e. cc e)
        (λ slots limit e. absurd (cc e)))
    resized (copies.SizeOf t) asked answer a =
        let came = a.size_of.table in
        let all = sizes (steps_of log) t came.0 came.1 in
        let many : a.size.0 ≡ (Gs log).size t = a.size_of.len ∙ sym (all.0 ∙ ap (λ (z : Sheet). length z.slots) came.2) in
        let places : a.size.1 + 1 ≡ (Gs log).places t = ap (λ n. n + 1) a.size_of.limit ∙ sym (all.1 ∙ ap (λ (z : Sheet). z.limit + 1) came.2) in
        let size : (slots limit : ℕ) → answers.Call (Size a.size.0 a.size.1) ≡ answers.Call (Size slots limit)
        → Member slots (tables_of log) = λ slots limit e. let same : a.size.0 ≡ slots = cc e in
        subst (λ (n : ℕ). Member n (tables_of log)) (sym a.size_of.len ∙ same) (table_slots log t a.size_of.sheet came) in
        let last = ap (λ (z : Copier K V S H). z.last) a.rest in let kept = ap (λ (z : Copier K V S H). z.kept) a.rest in
        subst (Leaves log) (sym a.is) (quiet log pre a.size_of.lawful (copies.SizeOf t) asked (answers.Call (Size a.size.0 a.size.1)) tt
        ((a.size.1, places, ap (λ n. answers.Call (Size n a.size.1)) many), (refl, (λ i. loaded_with (last i) (kept i) [])))
        (placed_as h.last h'.last last r.last_placed) (placed_as h.kept h'.kept kept r.kept_placed)
        (hand_kept log pre (answers.Call (Size a.size.0 a.size.1)) (λ n e. cc e) h' (ap (λ (z : Copier K V S H). z.fresh) a.rest)) (λ e. cc e) size)
    resized (copies.HashOf n) asked answer a =
        let last = ap (λ (z : Copier K V S H). z.last) a.rest in
        subst (Leaves log) (sym a.is) (subst (λ (l : List (Event K V S)). Leaves l (answers.Hash a.word)) (sym a.still)
        (quiet v ([], append-nil v) r.lawful (copies.HashOf n) asked (answers.Hash a.word) tt
        (λ p e number. ap answers.Hash (a.carries.hash_is p e), refl, (λ i. loaded_with (last i) (a.carries.kept i) []))
        (placed_as h.last h'.last last r.last_placed) (placed_as h.last h'.kept a.carries.kept r.last_placed)
        (hand_kept v ([], append-nil v) (answers.Hash a.word) (λ i e. cc e) h' (ap (λ (z : Copier K V S H). z.fresh) a.rest)) (λ e. cc e)
        (λ slots limit e. absurd (cc e))))
    resized (copies.SamePair i n) asked answer a =
        let last = ap (λ (z : Copier K V S H). z.last) a.rest in let kept = ap (λ (z : Copier K V S H). z.kept) a.rest in
        subst (Leaves log) (sym a.is) (subst (λ (l : List (Event K V S)). Leaves l (answers.Call (Yes a.same))) (sym a.still)
        (quiet v ([], append-nil v) r.lawful (copies.SamePair i n) asked (answers.Call (Yes a.same)) tt
        (λ p q e f second g. ap (λ z. answers.Call (Yes z)) (a.same_is p q e second), (refl, (λ j. loaded_with (last j) (kept j) [])))
        (placed_as h.last h'.last last r.last_placed) (placed_as h.kept h'.kept kept r.kept_placed)
        (hand_kept v ([], append-nil v) (answers.Call (Yes a.same)) (λ j e. cc e) h' (ap (λ (z : Copier K V S H). z.fresh) a.rest)) (λ e. cc e)
        (λ slots limit e. absurd (cc e))))
    resized copies.Count asked answer a =
        let last = ap (λ (z : Copier K V S H). z.last) a.rest in let kept = ap (λ (z : Copier K V S H). z.kept) a.rest in
        subst (Leaves log) (sym a.is) (subst (λ (l : List (Event K V S)). Leaves l (answers.Count a.sum)) (sym a.still)
        (quiet v ([], append-nil v) r.lawful copies.Count asked (answers.Count a.sum) a.given_is
        ((a.sum, refl), (refl, (λ j. loaded_with (last j) (kept j) [])))
        (placed_as h.last h'.last last r.last_placed) (placed_as h.kept h'.kept kept r.kept_placed)
        (hand_kept v ([], append-nil v) (answers.Count a.sum) (λ j e. cc e) h' (ap (λ (z : Copier K V S H). z.fresh) a.rest)) (λ e. cc e)
        (λ slots limit e. absurd (cc e))))
    resized (copies.MakeTable slots limit chunks) asked answer a =
        let last = ap (λ (z : Copier K V S H). z.last) a.rest in let kept = ap (λ (z : Copier K V S H). z.kept) a.rest in
        let placed = placed_as h.last h'.last last r.last_placed in let placed' = placed_as h.kept h'.kept kept r.kept_placed in
        ⊎_elim
        (λ (y : (number : ℕ) × (answer ≡ answers.Call (Made_number number)) × HasMade eq hashing b name number (follows_of m) chunks log h').
        subst (Leaves log) (sym y.1) (quiet log pre a.lawful (copies.MakeTable slots limit chunks) asked (answers.Call (Made_number y.0)) tt
        (inr (y.0, y.2.past, refl), (refl, (λ j. loaded_with (last j) (kept j) []))) placed placed'
        (made_after (λ n. IsFresh b name log n h'.fresh) (IsReadyAs b name log h'.fresh) m.resize m.mode m.initial m.number
        (answers.Call (Made_number y.0)) m.state (λ n e. let same : y.0 ≡ n = cc e in subst (λ (i : ℕ). IsFresh b name log i h'.fresh) same y.2.fresh)
        (λ n behind slots' limit' chunks' e about.
        let same : y.0 ≡ n = cc e in
        let one : Some (copies.MakeTable slots' limit' chunks') ≡ Some (copies.MakeTable slots limit chunks) = sym
        (stage_making m.state behind slots' limit' chunks' about) ∙ asked in
        let words : chunks ≡ chunks' = cc one in
        subst (λ (z : ℕ × ℕ). IsReadyAs b name log h'.fresh z.0 z.1) (λ j. (same j, words j)) (y.2.fresh, y.2.words))
        (made_at (λ n. IsFresh b name log n h'.fresh) (IsReadyAs b name log h'.fresh) m.state (λ n e. absurd (closed n e))
        (λ behind n chunks' e. absurd (not_linking slots limit chunks asked behind n chunks' e))))
        (λ e. cc e) (λ many least e. absurd (cc e))))
        (λ (n : (cause : Cause) × (answer ≡ answers.Call (Was_refused cause)) × ((cause ≡ Memory) ⊎ ((cause ≡ Capacity) × IsFull h'.given.done))
        × (h'.fresh ≡ h.fresh)).
        subst (Leaves log) (sym n.1) (quiet log pre a.lawful (copies.MakeTable slots limit chunks) asked (answers.Call (Was_refused n.0)) n.2
        (inl (n.0, refl), (refl, (λ j. loaded_with (last j) (kept j) []))) placed placed'
        (hand_kept log pre (answers.Call (Was_refused n.0)) (λ i e. cc e) h' n.3) (λ e. cc e) (λ many least e. absurd (cc e))))
        a.makes
      where
        -- if a table is to be made, none is about to be linked
        not_linking : (slots limit chunks : ℕ) → ask_of m ≡ Some (copies.MakeTable slots limit chunks) → (behind n words : ℕ)
            → link_of m.state ≡ Some (links.Linking behind n words) → ⊥
        not_linking slots limit chunks asked behind n words e = let f : Some (copies.MakeTable slots limit chunks) ≡ Some
            (copies.Exchange (Next behind) 0 n) = sym asked ∙ (Rattle.papaya_map_change.proofs.ResizingStages.stage_linking m.state behind n words e).0 in cc f
