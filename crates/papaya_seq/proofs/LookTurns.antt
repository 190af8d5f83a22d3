-- A lookup as a loop over tables: the state to which each iteration would bring its machine, which
-- is never run.
use Rattle.std.proofs.Common.{◌≡◌, ℕ, ◌<◌, ◌≤◌, ◌==◌, if◌then◌else◌, Bool, List, [], ◌∷◌, Option}
use Rattle.std.proofs.Common.{Some, None, length, inl, inr, refl, sym, ◌∙◌, ap, subst, arith}
use Rattle.std.proofs.lemmas.Bool.{cases_eq, ne_eqb}
use Rattle.papaya_words.specs.Table.{TableWords}
use Rattle.papaya_words.specs.declared.resize_mode.ResizeMode.{ResizeMode}
use Rattle.papaya_words.specs.declared.resize_mode.ResizeMode.TheVariants.{Incremental, Blocking}
use Rattle.papaya_call.specs.declared.ask.Answer.{Answer}
use Rattle.papaya_call.specs.declared.ask.Answer.TheVariants.{Size, Word as Word_read}
use Rattle.papaya_call.specs.declared.ask.At.TheVariants.{Next}
use Rattle.papaya_call.specs.declared.call.Reply.TheVariants.{Absent}
use Rattle.papaya_call.specs.declared.call.Task.TheVariants.{Get}
use Rattle.papaya_call.specs.declared.search.Place.{Place}
use Rattle.papaya_call.specs.declared.search.ProbeStep.{ProbeStep}
use Rattle.papaya_call.specs.declared.search.Search.TheVariants.{Sizing, Looking}
use Rattle.papaya_call.specs.Search.{IsSize, first_place}
use Rattle.papaya_call.specs.declared.machine.Machine.{Machine}
use Rattle.papaya_call.specs.declared.machine.State.{State}
use Rattle.papaya_call.specs.declared.machine.State.TheVariants.{AtRoot, Searching, Leaving, Ended}
use Rattle.papaya_call.specs.Machine.{after, ask_of, goes, passes, started}
use Rattle.papaya_core_store.specs.declared.store.Mode.{Mode}
use Rattle.papaya_core_store.specs.Performs.{size_of}
use Rattle.papaya_core_store.specs.Store.{StoreState}
use Rattle.papaya_core_store.specs.Tables.{table_of, word_at}
use Rattle.papaya_core_timeline.specs.Kept.{IsLawfulCore}
use Rattle.papaya_core_timeline.proofs.KeptSettings.{IsLawfulKeys}
use Rattle.papaya_seq.specs.Looks.{Comes, IsTrueOfStore}
use Rattle.papaya_seq.specs.Searches.{IsProbeHit, SeesFrom, seen_by}
use Rattle.papaya_seq.specs.declared.search.ProbeHit.{ProbeHit}
use Rattle.papaya_seq.specs.declared.search.ProbeHit.TheVariants as turns
use Rattle.papaya_seq.proofs.LookSteps.{IsLookUp, look_up_begins, look_up_goes, lookup_left, lookup_nears}

-- a lookup that loaded the number of a table is in this state
abbrev pub numbered : ℕ → State
numbered n = if n == 0 then Ended Absent else Searching (Sizing n)

numbered_some : (n : ℕ) → (n ≡ 0 → ⊥) → numbered n ≡ Searching (Sizing n)
numbered_some n some = ap (λ (b : Bool). if b then Ended Absent else Searching (Sizing n)) (ne_eqb n 0 some)

-- a probe that neither continues, nor found a pair, nor passed the table
pub empty_else : (turn : ProbeHit) → ((at : Place) → turn ≡ turns.Next at → ⊥) → ((at : Place) (word : ℕ) → turn ≡ turns.Here at word → ⊥)
    → ((t : ℕ) → turn ≡ turns.Over t → ⊥) → (at : Place) × (turn ≡ turns.Empty at)
empty_else (turns.Next at) on here over = absurd (on at refl)
empty_else (turns.Empty at) on here over = (at, refl)
empty_else (turns.Here at word) on here over = absurd (here at word refl)
empty_else (turns.Over t) on here over = absurd (over t refl)

module _ {K V S : Type 0} (eq : K → K → Bool) (hash : K → ℕ) (mode : Mode) (store : StoreState K V S)
    (lawful : IsLawfulCore {A = Unit {0}} eq hash store [] mode) (keys : IsLawfulKeys eq hash) (matches : K → Bool) where
  -- a lookup continues after each answer from the tables
  look_up_comes : (begun : Machine) (answers : List Answer) (m m' : Machine) → IsLookUp matches store begun m → Comes matches store m answers m'
      → IsLookUp matches store begun m' × (lookup_left (length store.words.tables) m' ≤ lookup_left (length store.words.tables) m)
  look_up_comes begun [] m m' kept is = subst (λ (x : Machine). IsLookUp matches store begun x
      × (lookup_left (length store.words.tables) x ≤ lookup_left (length store.words.tables) m)) (sym is) (kept, omega arith)
  look_up_comes begun (answer ∷ rest) m m' kept (asked, told, came) =
      let more = look_up_comes begun rest (after m answer) m'
      (look_up_goes eq hash mode store lawful keys matches m kept.task kept.looking answer told begun kept) came in
      let less : lookup_left (length store.words.tables) (after m answer) < lookup_left (length store.words.tables) m = lookup_nears eq hash mode
      store lawful keys matches m kept.task kept.looking answer told kept.current in
      let fewer : lookup_left (length store.words.tables) m' ≤ lookup_left (length store.words.tables) (after m answer) = more.1 in
      (more.0, omega (arith, less, fewer))

  module _ (h initial : ℕ) where
    abbrev begun : Machine
    begun = started Get h mode.resize initial mode.limit

    -- the lookup in this state
    abbrev pub stands_at : State → Machine
    stands_at s = record begun { state = s }

    -- it came there from its begin
    abbrev pub HasCome : State → Type 0
    HasCome s = IsLookUp matches store begun (stands_at s)

    abbrev pub left_at : State → ℕ
    left_at s = lookup_left (length store.words.tables) (stands_at s)

    -- it continued after one answer
    answered : (s : State) (answer : Answer) → IsTrueOfStore matches store (ask_of (stands_at s)) answer → HasCome s
        → IsLookUp matches store begun (after (stands_at s) answer) × (lookup_left (length store.words.tables) (after (stands_at s) answer) < left_at s)
    answered s answer told kept = (
      look_up_goes eq hash mode store lawful keys matches (stands_at s) kept.task kept.looking answer told begun kept,
      lookup_nears eq hash mode store lawful keys matches (stands_at s) kept.task kept.looking answer told kept.current,
    )

    -- it continued after a search of the root
    pub root_led : (seen : ProbeStep) → SeesFrom matches store h AtRoot seen → HasCome (goes begun seen)
    root_led seen sees =
        let came = sees begun in
        (look_up_comes begun came.0 begun (stands_at (goes begun seen)) (look_up_begins eq hash mode store lawful matches h initial) came.1).0

    -- the number of the root was loaded
    pub root_loaded : HasCome (numbered store.words.root)
    root_loaded = (answered AtRoot (Word_read store.words.root) refl (look_up_begins eq hash mode store lawful matches h initial)).0

    -- a table that is there has a size
    sized : (t slots limit : ℕ) (o : Option TableWords) → table_of store.words.tables t ≡ o → size_of o ≡ Size slots limit → IsSize slots limit × (t ≡ 0 → ⊥)
    sized t slots limit None there e = absurd cc
    sized t slots limit (Some table) there e =
        let long : length table.slots ≡ slots = cc e in
        let far : table.limit ≡ limit = cc e in (
          subst (IsSize slots) far (subst (λ n. IsSize n table.limit) long (lawful.core.sizes t table there)),
          λ zero. let none : None ≡ Some table = sym (ap (table_of store.words.tables) zero) ∙ there in absurd cc,
        )

    -- the search of a table begins
    pub first_looked : (t slots limit : ℕ) → size_of (table_of store.words.tables t) ≡ Size slots limit → HasCome (numbered t) → IsSize slots limit
        × HasCome (Searching (Looking (first_place h t slots limit))) × (left_at (Searching (Looking (first_place h t slots limit))) < left_at (numbered t))
    first_looked t slots limit size kept =
        let (fit, some) = sized t slots limit (table_of store.words.tables t) refl size in
        let state = numbered_some t some in
        let goes = answered (Searching (Sizing t)) (Size slots limit) (sym size) (subst HasCome state kept) in
        (fit, goes.0, subst (λ s. left_at (Searching (Looking (first_place h t slots limit))) < left_at s) (sym state) goes.1)

    -- or there is no table, and the lookup has ended
    pub none_there : (t : ℕ) → table_of store.words.tables t ≡ None → HasCome (numbered t) → HasCome (Ended Absent)
    none_there t none kept = elim (cases_eq t 0) [
      | inl zero ↦ subst (λ n. HasCome (numbered n)) zero kept
      | inr some ↦
          let (table, there) = (subst HasCome (numbered_some t some) kept).looking in
          let both : None ≡ Some table = sym none ∙ there in
          absurd cc
    ]

    -- it continued after a search of a table
    pub turned : (at : Place) (turn : ProbeHit) → IsProbeHit matches store h at turn → HasCome (Searching (Looking at)) → HasCome (goes begun (seen_by turn))
        × (left_at (goes begun (seen_by turn)) ≤ left_at (Searching (Looking at)))
    turned at turn is kept =
        let came = is.sees begun in
        look_up_comes begun came.0 (stands_at (Searching (Looking at))) (stands_at (goes begun (seen_by turn))) kept came.1

    -- and past its table the number of the next one was loaded
    pub next_loaded : (t chunk : ℕ) → mode.resize ≡ Incremental chunk → HasCome (passes Get mode.resize None t)
        → HasCome (numbered (word_at store.words (Next t))) × (left_at (numbered (word_at store.words (Next t))) < left_at (passes Get mode.resize None t))
    next_loaded t chunk incremental kept =
        let leaves : passes Get mode.resize None t ≡ Leaving t = ap (λ (x : ResizeMode). passes Get x None t) incremental in
        let goes = answered (Leaving t) (Word_read (word_at store.words (Next t))) refl (subst HasCome leaves kept) in
        (goes.0, subst (λ s. left_at (numbered (word_at store.words (Next t))) < left_at s) (sym leaves) goes.1)

    -- if no next table is searched, it has ended
    pub passed_last : (t : ℕ) → mode.resize ≡ Blocking → HasCome (passes Get mode.resize None t) → HasCome (Ended Absent)
    passed_last t blocking kept = subst HasCome (ap (λ (x : ResizeMode). passes Get x None t) blocking) kept

    -- a table was searched
    pub searched : (t slots limit : ℕ) → size_of (table_of store.words.tables t) ≡ Size slots limit → HasCome (numbered t) → (at : Place)
        → at ≡ first_place h t slots limit → (turn : ProbeHit) → IsProbeHit matches store h at turn → HasCome (goes begun (seen_by turn))
        × (left_at (goes begun (seen_by turn)) < left_at (numbered t))
    searched t slots limit size kept at is turn by =
        let (fit, looks, nearer) = first_looked t slots limit size kept in
        let first : Place = first_place h t slots limit in
        let led = turned first turn (subst (λ p. IsProbeHit matches store h p turn) is by) looks in
        let further : left_at (goes begun (seen_by turn)) ≤ left_at (Searching (Looking first)) = led.1 in
        let before : left_at (Searching (Looking first)) < left_at (numbered t) = nearer in
        (led.0, omega (arith, further, before))
