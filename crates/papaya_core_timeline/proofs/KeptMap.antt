-- The map that the words of a core represent is the replay of the exchanges.
use Rattle.std.proofs.Common.{◌≡◌, ⊎_elim, ℕ, zero, suc, ◌<◌, ◌≤◌, Bool, List, [], ◌∷◌, ◌++◌}
use Rattle.std.proofs.Common.{length, slice_index, Some, inl, inr, refl, sym, ◌∙◌, ap, arith}
use Rattle.std.proofs.Common.{append-nil, append_assoc}
use Rattle.std.proofs.lemmas.Bool.{cases_lt}
use Rattle.papaya_words.specs.Table.{TableWords}
use Rattle.papaya_words.specs.Word.{kind_of, pair_of as number_of}
use Rattle.papaya_call.specs.declared.ask.At.TheVariants.{Root, Next, Slot}
use Rattle.papaya_words_law.specs.Code.{Coding, code, kind}
use Rattle.papaya_words_law.specs.ChainContent.{chain_content, joined}
use Rattle.papaya_words_law.specs.Class.{IsOn}
use Rattle.papaya_words_law.specs.Content.{lookup, pairs_in, pairs_of_word}
use Rattle.papaya_words_law.specs.Exchange.{Word, Empty, Closed, Live, Marked, Copied, Buried, Setting, State, Exchange, run, start, walk}
use Rattle.papaya_words_law.specs.Grows.{Comes}
use Rattle.papaya_words_law.specs.Invariant.{IsKeeping, named}
use Rattle.papaya_words_law.specs.Meaning.{map_left}
use Rattle.papaya_words_law.specs.Code.{IsHashed}
use Rattle.papaya_words_law.proofs.Codes.{code_kind, code_pair}
use Rattle.papaya_words_law.proofs.ChainContent.{chain_is}
use Rattle.papaya_words_law.proofs.ChainTables.{chain_ends as walk_ends, content_alike}
use Rattle.papaya_words_law.proofs.Logs.{on_comes}
use Rattle.papaya_words_law.proofs.OneMap.{keeping, sound}
use Rattle.papaya_core_timeline.specs.declared.seat.Seat.{Seat}
use Rattle.papaya_core_timeline.specs.Content.{content, listed, pairs_from, pairs_of_kind, pairs_of_slots}
use Rattle.papaya_core_timeline.specs.Kept.{IsConsistent, IsInArena, CallTrace, setting_of, coding_of, low, slots_in}
use Rattle.papaya_core_store.specs.Store.{StoreState, Stored, pair_of}
use Rattle.papaya_core_store.specs.Tables.{table_of, word_in}
use Rattle.papaya_core_timeline.proofs.KeptTables.{table_low}
use Rattle.papaya_core_store.specs.declared.store.Mode.{Mode}

-- the pairs of a table, from its first slot
pairs_in-first : {P : Type 0} (slot : ℕ → Word P) (n : ℕ) → pairs_in slot (suc n) ≡ pairs_of_word (slot 0) ++ pairs_in (λ x. slot (suc x)) n
pairs_in-first slot zero = sym (append-nil (pairs_of_word (slot 0)))
pairs_in-first slot (suc n) = ap (λ l. l ++ pairs_of_word (slot (suc n))) (pairs_in-first slot n)
    ∙ append_assoc (pairs_of_word (slot 0)) (pairs_in (λ x. slot (suc x)) n) (pairs_of_word (slot (suc n)))

module _ {K V S : Type 0} (eq : K → K → Bool) (hash : K → ℕ) (mode : Mode) (store : StoreState K V S)
    (hashed : IsHashed (setting_of {V = V} eq (low hash) mode store.words.tables) (coding_of (low hash))) where
  -- the setting and the coding
  abbrev g : Setting K (Stored K V)
  g = setting_of eq (low hash) mode store.words.tables

  abbrev c : Coding K (Stored K V)
  c = coding_of (low hash)

  -- a pair that is there, by the number that its word has
  pair_listed : (w : Word (Stored K V)) (p : Stored K V) → named w ≡ Some p → IsInArena store p → listed (pair_of store (number_of (code g c w))) ≡ p ∷ []
  pair_listed w p names logged = ap (λ n. listed (pair_of store n)) (code_pair g c hashed.coding w p names) ∙ ap listed logged

  -- the pair of a word
  kind_pairs : (w : Word (Stored K V)) → ((p : Stored K V) → named w ≡ Some p → IsInArena store p)
      → pairs_of_kind store (kind w) (number_of (code g c w)) ≡ pairs_of_word w
  kind_pairs Empty logged = refl
  kind_pairs Closed logged = refl
  kind_pairs (Live p) logged = pair_listed (Live p) p refl (logged p refl)
  kind_pairs (Marked p) logged = pair_listed (Marked p) p refl (logged p refl)
  kind_pairs (Copied p) logged = refl
  kind_pairs (Buried p) logged = refl

  -- the pair whose number a word has
  word_pairs : (w : Word (Stored K V)) (word : ℕ) → code g c w ≡ word → ((p : Stored K V) → named w ≡ Some p → IsInArena store p)
      → pairs_of_kind store (kind_of word) (number_of word) ≡ pairs_of_word w
  word_pairs w word is logged =
      ap (λ y. pairs_of_kind store (kind_of y) (number_of y)) (sym is)
      ∙ ap (λ y. pairs_of_kind store y (number_of (code g c w))) (code_kind g c w)
      ∙ kind_pairs w logged

  -- the pairs of a table's slots
  slots_pairs : (words : List ℕ) (slot : ℕ → Word (Stored K V)) → ((x : ℕ) → code g c (slot x) ≡ slice_index words x)
      → ((x : ℕ) (p : Stored K V) → named (slot x) ≡ Some p → IsInArena store p) → pairs_of_slots store words ≡ pairs_in slot (length words)
  slots_pairs [] slot coded logged = refl
  slots_pairs (word ∷ words) slot coded logged =
      ap (λ l. l ++ pairs_of_slots store words) (word_pairs (slot 0) word (coded 0) (logged 0))
      ∙ ap (λ l. pairs_of_word (slot 0) ++ l) (slots_pairs words (λ x. slot (suc x)) (λ x. coded (suc x)) (λ x. logged (suc x)))
      ∙ sym (pairs_in-first slot (length words))

  module _ {A : Type 0} (callers : List (Seat K V A)) (es : List (Exchange (Stored K V))) (call_traces : ℕ → CallTrace K V)
      (kept : IsConsistent eq hash mode store callers es call_traces) where
    -- the words of the law
    abbrev now : State (Stored K V)
    now = run es start

    -- they keep the map
    keeps : IsKeeping g now (map_left g es)
    keeps = keeping g hashed.lawful es kept.allowed

    -- the number of each table of the chain is at most the number of tables
    comes_low : (n : ℕ) → Comes now n → n ≤ length store.words.tables
    comes_low n comes =
        ⊎_elim
        (λ (some : 0 < n). let made = kept.made n some comes in table_low store.words.tables n made.0 made.1)
        (λ (none : n ≤ 0). omega (arith, none))
        (cases_lt 0 n)

    -- the root's, too
    root_low : now.root ≤ length store.words.tables
    root_low = elim (sound g hashed.lawful es kept.allowed).root
        [ inl none ↦ let e = none.0 in omega (arith, e) | inr on ↦ comes_low now.root (on_comes now now.root on) ]

    -- the slots of a table of the chain have the pairs that the law has there
    pub table_content : (t : ℕ) (words : TableWords) → table_of store.words.tables t ≡ Some words
        → pairs_of_slots store words.slots ≡ pairs_in (now.slot t) (g.size t)
    table_content t words there =
        slots_pairs words.slots (now.slot t) (λ x. kept.coded (Slot t x) ∙ ap (word_in (λ v. slice_index v.slots x)) there) (λ x. kept.logged t x)
        ∙ ap (pairs_in (now.slot t)) (sym (ap slots_in there))

    -- the pairs from table t on
    abbrev pairs_on : ℕ → ℕ → List (Stored K V)
    pairs_on n t = pairs_from eq store n (table_of store.words.tables t)

    -- they are those of the table, then those from its next one on
    pairs_more : (n t : ℕ) → IsOn now.first now.next t
        → pairs_on (suc n) t ≡ joined eq (λ p. p.key) (pairs_in (now.slot t) (g.size t)) (pairs_on n (now.next t))
    pairs_more n t on =
        let made = kept.made t on.0 (on_comes now t on) in
        ap (pairs_from eq store (suc n)) made.1
        ∙ ap (λ l. joined eq (λ p. p.key) l (pairs_on n made.0.next)) (table_content t made.0 made.1)
        ∙ ap (λ u. joined eq (λ p. p.key) (pairs_in (now.slot t) (g.size t)) (pairs_on n u)) (sym (kept.coded (Next t) ∙ ap (word_in (λ v. v.next)) made.1))

    -- the content is the list of the law's chain
    pub kept_content : content eq store ≡ chain_content g now (length store.words.tables)
    kept_content =
        ap (pairs_on (length store.words.tables)) (sym (kept.coded Root))
        ∙ content_alike g hashed.lawful now (map_left g es) keeps pairs_on (λ t. refl) (λ n. refl) pairs_more (length store.words.tables)

    -- the chain ends within the tables that there are
    pub chain_ends : walk now.next (length store.words.tables) now.root ≡ 0
    chain_ends = walk_ends g hashed.lawful now (map_left g es) keeps (length store.words.tables) root_low (λ t. comes_low (now.next t) (inr (t, refl)))

    -- the core's map is the map that the exchanges leave
    pub kept_map : (k : K) → lookup eq (λ p. p.key) (content eq store) k ≡ map_left g es k
    kept_map k =
        ap (λ l. lookup eq (λ p. p.key) l k) kept_content
        ∙ chain_is g hashed.lawful now (map_left g es) keeps (length store.words.tables) chain_ends k
