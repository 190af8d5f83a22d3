-- A removal while no pairs are being moved: it stays in the root, which keeps its slots and has no
-- next table, and it is not refused.
use Rattle.std.proofs.Common.{◌≡◌, ⊎_elim, ◌≢◌, ℕ, ◌==◌, ◌-◌, nat_lt, slice_get, slice_set, length}
use Rattle.std.proofs.Common.{length-set, Bool, true, false, cond, Option, Some, None, refl, sym}
use Rattle.std.proofs.Common.{◌∙◌, ap, subst}
use denote.Ref.{Bor}
use Rattle.std.specs.Fn.{Mut}
use Rattle.std.proofs.lemmas.Bool.{cond_both}
use Rattle.papaya_words.specs.Table.{TableWords}
use Rattle.papaya_words.specs.Word.{kind_of, pair_of as number_of}
use Rattle.papaya_words.specs.declared.resize_mode.ResizeMode.{ResizeMode}
use Rattle.papaya_words.specs.declared.resize_mode.ResizeMode.TheVariants.{Incremental, Blocking}
use Rattle.papaya_words.specs.declared.word.Kind.TheVariants as kinds
use Rattle.papaya_call.specs.Machine.{ask_of as call_ask_of, goes_as, passes, removes}
use Rattle.papaya_call.specs.Remove.{grave_word}
use Rattle.papaya_call.specs.declared.compute.Remembered.{Remembered}
use Rattle.papaya_call.specs.declared.machine.State.{State}
use Rattle.papaya_call.specs.declared.machine.State.TheVariants.{AtRoot, Making, Opening, Searching}
use Rattle.papaya_call.specs.declared.machine.State.TheVariants.{Writing, Offering, Showing}
use Rattle.papaya_call.specs.declared.machine.State.TheVariants.{Pairing, Putting, Burying}
use Rattle.papaya_call.specs.declared.machine.State.TheVariants.{Counting, Noting, Uncounting}
use Rattle.papaya_call.specs.declared.machine.State.TheVariants.{Leaving, Growing, Ended}
use Rattle.papaya_call.specs.declared.remove.Removal.{Removal}
use Rattle.papaya_call.specs.declared.made.Made.{Made}
use Rattle.papaya_call.specs.Search.{hinted, look}
use Rattle.papaya_call.specs.declared.ask.Answer.{Answer as Call_answer}
use Rattle.papaya_call.specs.declared.ask.Answer.TheVariants.{Word as Word_read, Exchanged, Yes, Ok as Ok_done}
use Rattle.papaya_call.specs.declared.ask.At.TheVariants.{Next, Slot}
use Rattle.papaya_call.specs.declared.call.Reply.{Reply}
use Rattle.papaya_call.specs.declared.call.Reply.TheVariants.{Absent, Refused as Reply_refused}
use Rattle.papaya_call.specs.declared.call.Task.TheVariants.{RemoveIf}
use Rattle.papaya_call.specs.declared.search.Search.TheVariants.{Sizing, Looking, Reading, Comparing}
use Rattle.papaya_call.specs.declared.search.ProbeStep.{ProbeStep}
use Rattle.papaya_call.specs.declared.search.ProbeStep.TheVariants as seen
use Rattle.papaya_call.specs.declared.chain.ask.Answer.{Answer}
use Rattle.papaya_call.specs.declared.chain.ask.Answer.TheVariants as answers
use Rattle.papaya_call.specs.declared.chain.machine.Machine.{Machine}
use Rattle.papaya_call.specs.declared.chain.machine.Phase.TheVariants.{Calling}
use Rattle.papaya_call.specs.ChainMachine.{after, ask_of, asks_in, started}
use Rattle.papaya_call_law.specs.Alone.{IsRead}
use Rattle.papaya_call_law.proofs.AloneSteps.{exchange_done}
use Rattle.papaya_core_store.specs.Performs.{size_of}
use Rattle.papaya_core_store.specs.Store.{StoreState, Stored, pair_of}
use Rattle.papaya_core_store.specs.Tables.{Tables, hint_at, put, put_in, table_of, word_at}
use Rattle.papaya_core_timeline.proofs.CoreLemmas.{cases_same}
use Rattle.papaya_core_timeline.proofs.KeptTables.{table_at, written-here, written-other, written-root}
use Rattle.papaya_seq.specs.Looks.{matches_in}
use Rattle.papaya_seq.specs.Map.{next_in, next_of, slots_in, slots_of}
use Rattle.papaya_seq.specs.Removes.{IsRemovalAnswer, IsShown}
use Rattle.papaya_seq.proofs.SeekTurns.{IsAnswered}
use Rattle.papaya_seq.proofs.TableSearch.{IsSearchIn, IsSeenIn, IsSettledKind, compared_in, hinted_in, loaded_in, settled_kind, settled_live}
use Rattle.papaya_seq.proofs.Unmarked.{next_is}

-- a table is as long as another, and has the same next one
pub record IsAsLong (o o' : Option TableWords) : Type 0 where
  pub slots : slots_in o' ≡ slots_in o
  pub next : next_in o' ≡ next_in o

-- a write of a slot keeps the length of each table, its next one, and the root
module _ (w : Tables) (n i word : ℕ) where
  put_missing : table_of w.tables n ≡ None → put w (Slot n i) word ≡ w
  put_missing none = by_number (n == 0) refl
    where
      by_number : (b : Bool) → (n == 0) ≡ b → put w (Slot n i) word ≡ w
      by_number true zero = ap (λ b. cond b w (record w { tables = put_in (Slot n i) (slice_get w.tables (n - 1)) w.tables (n - 1) word })) zero
      by_number false some =
          let lacks : slice_get w.tables (n - 1) ≡ None = sym (table_at w.tables n some) ∙ none in
          ap (λ b. cond b w (record w { tables = put_in (Slot n i) (slice_get w.tables (n - 1)) w.tables (n - 1) word })) some
          ∙ ap (λ o. record w { tables = put_in (Slot n i) o w.tables (n - 1) word }) lacks

  written_long : (t : TableWords) (b : Bool) → IsAsLong (Some t) (Some (cond b (record t { slots = slice_set t.slots i word }) t))
  written_long t true = record { slots = length-set t.slots i word; next = refl }
  written_long t false = record { slots = refl; next = refl }

  pub put_root : (put w (Slot n i) word).root ≡ w.root
  put_root = by_table (table_of w.tables n) refl
    where
      by_table : (o : Option TableWords) → table_of w.tables n ≡ o → (put w (Slot n i) word).root ≡ w.root
      by_table None none = ap (λ (v : Tables). v.root) (put_missing none)
      by_table (Some t) there = written-root w (Slot n i) n word t there

  pub put_long : (u : ℕ) → IsAsLong (table_of w.tables u) (table_of (put w (Slot n i) word).tables u)
  put_long u = by_table (table_of w.tables n) refl
    where
      by_table : (o : Option TableWords) → table_of w.tables n ≡ o → IsAsLong (table_of w.tables u) (table_of (put w (Slot n i) word).tables u)
      by_table None none = subst (λ (v : Tables). IsAsLong (table_of w.tables u) (table_of v.tables u)) (sym (put_missing none))
          (record { slots = refl; next = refl })
      by_table (Some t) there = ⊎_elim
          (λ (same : u ≡ n). subst (λ v. IsAsLong (table_of w.tables v) (table_of (put w (Slot n i) word).tables v)) (sym same)
          (subst (λ o. IsAsLong o (table_of (put w (Slot n i) word).tables n)) (sym there)
          (subst (λ o. IsAsLong (Some t) o) (sym (written-here w (Slot n i) n word t there)) (written_long t (nat_lt i (length t.slots))))))
          (λ (other : u ≢ n). subst (λ o. IsAsLong (table_of w.tables u) o) (sym (written-other w (Slot n i) n word t there u other))
          (record { slots = refl; next = refl }))
          (cases_same u n)

-- the words of the root table, as another store has them
pub record IsRootOf {K V S : Type 0} (s s' : StoreState K V S) : Type 0 where
  pub root : s'.words.root ≡ s.words.root
  pub slots : slots_of s' ≡ slots_of s
  pub next : next_of s' ≡ next_of s

same_root : {K V S : Type 0} (s s' : StoreState K V S) → s' ≡ s → IsRootOf s s'
same_root {K} {V} {S} s s' same = record {
  root = ap (λ (y : StoreState K V S). y.words.root) same;
  slots = ap (λ (y : StoreState K V S). slots_of y) same;
  next = ap (λ (y : StoreState K V S). next_of y) same;
}

-- a reply that is no refusal
abbrev pub IsEnd : Reply → Type 0
IsEnd (Reply_refused refused) = ⊥
IsEnd _ = Unit {0}

-- a removal that stays in the root table
abbrev pub IsRootStage : ℕ → State → Type 0
IsRootStage root AtRoot = Unit {0}
IsRootStage root (Searching search) = IsSearchIn (λ word. IsSettledKind (kind_of word)) root search
IsRootStage root (Showing removal) = Unit {0}
IsRootStage root (Burying removal) = Unit {0}
IsRootStage root (Uncounting n) = Unit {0}
IsRootStage root (Leaving t) = t ≡ root
IsRootStage root (Ended reply) = IsEnd reply
IsRootStage root _ = ⊥

passes_root : (root : ℕ) (mode : ResizeMode) (fill : Option ℕ) (t : ℕ) → t ≡ root → IsRootStage root (passes RemoveIf mode fill t)
passes_root root (Incremental chunk) fill t here = here
passes_root root Blocking fill t here = tt

-- the state after a search of it
goes_root : (root : ℕ) (mode : ResizeMode) (held : Remembered) (sight : ProbeStep) → IsSeenIn (λ word. IsSettledKind (kind_of word)) root sight
    → IsRootStage root (goes_as RemoveIf mode held sight)
goes_root root mode held (seen.On search) is = is
goes_root root mode held (seen.Empty at) is = tt
goes_root root mode held (seen.Here at word) (here, settled, uncopied) = subst (λ kind. IsRootStage root (removes kind at word))
    (sym (settled_live (kind_of word) settled uncopied)) tt
goes_root root mode held (seen.Over t) here = passes_root root mode held.fill t here

-- The removal has stayed in the root table.
pub record IsInRoot {K V S : Type 0} (first s : StoreState K V S) (m : Machine) : Type 0 where
  pub kept : IsRootOf first s
  pub phase : m.phase ≡ Calling
  pub stage : IsRootStage first.words.root m.call.state

-- as it begins
pub in_root_begun : {K V S : Type 0} (first : StoreState K V S) (hashed : ℕ) (mode : ResizeMode) (initial number : ℕ) (limit : Option ℕ)
    → IsInRoot first first (started RemoveIf hashed mode initial number limit)
in_root_begun first hashed mode initial number limit = record { kept = record { root = refl; slots = refl; next = refl }; phase = refl; stage = tt }

module _ {K V S F : Type 0} (g : Mut F (Bor K × (Bor V × Unit {0})) Bool) (matches : K → Bool) (s : StoreState K V S) (f : F) (s' : StoreState K V S)
    (f' : F) (last : next_of s ≡ 0) (open_still : (i : ℕ) → kind_of (word_at s.words (Slot s.words.root i)) ≡ kinds.Marked → ⊥)
    (made : Made) (hashed : ℕ) (mode : ResizeMode) (initial : ℕ) (held : Remembered) (number : ℕ) (helped : Bool) where
  -- the removal in a state
  abbrev at : State → Machine
  at st = record {
    call = record { task = RemoveIf; hash = hashed; mode = mode; initial = initial; made = made; remembered = held; state = st };
    number = number;
    helped = helped;
    phase = Calling;
  }

  -- a step leaves it in the root table
  pub record StaysInRoot (st : State) (answer : Call_answer) : Type 0 where
    pub kept : IsRootOf s s'
    pub phase : (after (at st) (answers.Call answer)).phase ≡ Calling
    pub stage : IsRootStage s.words.root (after (at st) (answers.Call answer)).call.state

  stays : (st : State) (told answer : Call_answer) → answer ≡ told → IsRootOf s s' → (after (at st) (answers.Call told)).phase ≡ Calling
      → IsRootStage s.words.root (after (at st) (answers.Call told)).call.state → StaysInRoot st answer
  stays st told answer e kept phase stage = subst (StaysInRoot st) (sym e) (record { kept = kept; phase = phase; stage = stage })

  sized_root : (t : ℕ) → t ≡ s.words.root → (answer : Call_answer) (o : Option TableWords) → answer ≡ size_of o → IsRootOf s s'
      → StaysInRoot (Searching (Sizing t)) answer
  sized_root t here answer None e kept = stays (Searching (Sizing t)) Ok_done answer e kept refl (here, tt)
  sized_root t here answer (Some table) e kept = stays (Searching (Sizing t)) _ answer e kept refl (here, tt)

  shown_root : (removal : Removal) (answer : Call_answer) (o : Option (Stored K V)) → IsShown g o f answer f' → IsRootOf s s'
      → StaysInRoot (Showing removal) answer
  shown_root removal answer None (e, _) kept = stays (Showing removal) Ok_done answer e kept refl tt
  shown_root removal answer (Some p) (key, value, true, key_is, value_is, e, called) kept = stays (Showing removal) (Yes true) answer e kept refl tt
  shown_root removal answer (Some p) (key, value, false, key_is, value_is, e, called) kept = stays (Showing removal) (Yes false) answer e kept refl tt

  -- no table comes after the root
  left_root : (t : ℕ) → t ≡ s.words.root → (answer : Call_answer) → answer ≡ Word_read (word_at s.words (Next t)) → IsRootOf s s'
      → StaysInRoot (Leaving t) answer
  left_root t here answer e kept =
      let none : word_at s.words (Next t) ≡ 0 = next_is s.words.tables t ∙ ap (λ n. next_in (table_of s.words.tables n)) here ∙ last in
      stays (Leaving t) (Word_read 0) answer (e ∙ ap Word_read none) kept refl tt

  pub root_stays : (st : State) (answer : Call_answer) → IsRootStage s.words.root st → IsRead (word_at s.words) st
      → IsRemovalAnswer g matches (call_ask_of (at st).call) s f answer s' f' → StaysInRoot st answer
  root_stays AtRoot answer stage read (e, same, _) =
      stays AtRoot (Word_read s.words.root) answer e (same_root s s' same) refl
      (cond_both (s.words.root == 0) (Ended Absent) (Searching (Sizing s.words.root)) (IsRootStage s.words.root) (λ _. tt) (λ _. (refl, tt)))
  root_stays (Searching (Sizing t)) answer stage read (e, same, _) = sized_root t stage.0 answer (table_of s.words.tables t) e (same_root s s' same)
  root_stays (Searching (Looking place)) answer stage read (e, same, _) =
      let hint = hint_at s.words place.table place.probe.i in
      stays (Searching (Looking place)) (Word_read hint) answer e (same_root s s' same) refl
      (goes_root s.words.root mode held (hinted place hashed hint) (hinted_in (λ n. IsSettledKind (kind_of n)) s.words.root place hashed hint stage.0))
  root_stays (Searching (Reading place)) answer stage read (e, same, _) =
      let word = word_at s.words (Slot place.table place.probe.i) in
      stays (Searching (Reading place)) (Word_read word) answer e (same_root s s' same) refl
      (goes_root s.words.root mode held (look place word)
      (loaded_in (λ n. IsSettledKind (kind_of n)) s.words.root (Reading place) hashed word stage
      (settled_kind (kind_of word) (λ marked. open_still place.probe.i (ap (λ t. kind_of (word_at s.words (Slot t place.probe.i))) (sym stage.0) ∙ marked)))))
  root_stays (Searching (Comparing place word)) answer stage read (e, same, _) =
      stays (Searching (Comparing place word)) (Yes (matches_in matches (pair_of s (number_of word)))) answer e (same_root s s' same) refl
      (goes_root s.words.root mode held _ (compared_in (λ n. IsSettledKind (kind_of n)) s.words.root (Comparing place word)
      (matches_in matches (pair_of s (number_of word))) stage))
  root_stays (Showing removal) answer stage read (shown, same) = shown_root removal answer (pair_of s (number_of removal.word)) shown (same_root s s' same)
  root_stays (Burying removal) answer stage read (exchanges, _) =
      let n = removal.place.table in
      let i = removal.place.probe.i in
      let done : (answer ≡ Exchanged) × (s' ≡ record s { words = put s.words (Slot n i) (grave_word removal.word) }) = exchange_done _ _
      (word_at s.words (Slot n i)) removal.word read exchanges in
      let w = put s.words (Slot n i) (grave_word removal.word) in
      let root : w.root ≡ s.words.root = put_root s.words n i (grave_word removal.word) in
      let long : IsAsLong (table_of s.words.tables s.words.root) (table_of w.tables s.words.root) = put_long s.words n i (grave_word removal.word)
      s.words.root in
      let later : IsRootOf s (record s { words = w }) = record {
        root = root;
        slots = ap (λ u. slots_in (table_of w.tables u)) root ∙ long.slots;
        next = ap (λ u. next_in (table_of w.tables u)) root ∙ long.next;
      } in
      stays (Burying removal) Exchanged answer done.0 (subst (IsRootOf s) (sym done.1) later) refl tt
  root_stays (Uncounting n) answer stage read (e, (number, is), _) =
      stays (Uncounting n) Ok_done answer e (record {
        root = ap (λ (y : StoreState K V S). y.words.root) is;
        slots = ap (λ (y : StoreState K V S). slots_of y) is;
        next = ap (λ (y : StoreState K V S). next_of y) is;
      }) refl tt
  root_stays (Leaving t) answer here read (e, same, _) = left_root t here answer e (same_root s s' same)
  root_stays (Ended reply) answer stage read told = absurd told
  root_stays Making answer stage read told = absurd stage
  root_stays (Opening t) answer stage read told = absurd stage
  root_stays (Writing write) answer stage read told = absurd stage
  root_stays (Offering gap) answer stage read told = absurd stage
  root_stays (Pairing purpose) answer stage read told = absurd stage
  root_stays (Putting given) answer stage read told = absurd stage
  root_stays (Counting n) answer stage read told = absurd stage
  root_stays (Noting n) answer stage read told = absurd stage
  root_stays (Growing need) answer stage read told = absurd stage

-- a step leaves a removal in the root table
pub in_root_more : {K V S F : Type 0} (g : Mut F (Bor K × (Bor V × Unit {0})) Bool) (eq : K → K → Bool) (hash : S → K → ℕ) (matches : K → Bool)
    (first s : StoreState K V S) (f : F) (s' : StoreState K V S) (f' : F) (m : Machine) (answer : Answer)
    → next_of first ≡ 0 → m.call.task ≡ RemoveIf → ((t : ℕ) → word_at s.words (Next t) ≡ 0 → (i : ℕ) → kind_of (word_at s.words (Slot t i)) ≡ kinds.Marked → ⊥)
    → (m.phase ≡ Calling → IsRead (word_at s.words) m.call.state) → IsInRoot first s m → IsAnswered eq hash g matches (ask_of m) s f answer s' f'
    → IsInRoot first s' (after m answer)
in_root_more {K} {V} {S} {F} g eq hash matches first s f s' f' m answer single task open_still read now told =
    let c = m.call in
    let it : m ≡ record { call = record c { task = RemoveIf }; number = m.number; helped = m.helped; phase = Calling } = ap
    (λ t. record m { call = record c { task = t } }) task
    ∙ ap (λ p. record { call = record c { task = RemoveIf }; number = m.number; helped = m.helped; phase = p }) now.phase in
    let asked : IsAnswered eq hash g matches (asks_in c Calling) s f answer s'
    f' = subst (λ phase. IsAnswered eq hash g matches (asks_in c phase) s f answer s' f') now.phase told in
    let last : next_of s ≡ 0 = now.kept.next ∙ single in
    let stays = root_stays g matches s f s' f' last (open_still s.words.root (next_is s.words.tables s.words.root ∙ last)) c.made c.hash c.mode
    c.initial c.remembered m.number m.helped c.state asked.0
    (subst (λ root. IsRootStage root c.state) (sym now.kept.root) now.stage) (read now.phase) asked.2 in
    subst (λ (y : Machine). IsInRoot first s' (after y answer)) (sym it)
    (subst (λ a. IsInRoot first s' (after (record { call = record c { task = RemoveIf }; number = m.number; helped = m.helped; phase = Calling }) a))
    (sym asked.1)
    (record {
      kept = record { root = stays.kept.root ∙ now.kept.root; slots = stays.kept.slots ∙ now.kept.slots; next = stays.kept.next ∙ now.kept.next };
      phase = stays.phase;
      stage = subst (λ root. IsRootStage root (after
          (record { call = record c { task = RemoveIf }; number = m.number; helped = m.helped; phase = Calling }) (answers.Call asked.0)).call.state)
          now.kept.root stays.stage;
    }))
