-- The law of an iteration over a map in which no call is under way: when two tables have the same
-- pair, and which tables follow each other.
use Rattle.std.proofs.Common.{◌≡◌, ◌⊎◌, inl, inr, ℕ, zero, suc, ◌+◌, ◌<◌, ◌≤◌, Bool, true, false}
use Rattle.std.proofs.Common.{List, [], ◌∷◌, ◌++◌, length, Option, Some, None, is_some, refl, sym}
use Rattle.std.proofs.Common.{◌∙◌, ap, subst, arith}
use Rattle.std.proofs.lemmas.Bool.{cases_lt}
use Rattle.papaya_words.specs.Probe.{place}
use Rattle.papaya_words.specs.Table.{TableWords}
use Rattle.papaya_words.specs.Word.{kind_of, pair_of as number_of}
use Rattle.papaya_core_store.specs.declared.store.Mode.{Mode}
use Rattle.papaya_words.specs.declared.resize_mode.ResizeMode.TheVariants.{Blocking}
use Rattle.papaya_words.specs.declared.word.Kind.TheVariants as kinds
use Rattle.papaya_call.specs.declared.ask.At.TheVariants.{Next, Root, Slot}
use Rattle.papaya_words_law.specs.Class.{IsCopy, IsFilled, IsIncrementalClass, IsOn}
use Rattle.papaya_words_law.specs.ChainContent.{missing_in}
use Rattle.papaya_words_law.specs.Code.{Coding, IsHashed, IsOfKind, code}
use Rattle.papaya_words_law.specs.Content.{lookup, pairs_in}
use Rattle.papaya_words_law.specs.Exchange.{Word, Empty, Marked, Exchange, Setting, State, run, start, walk}
use Rattle.papaya_words_law.specs.Invariant.{IsKeeping, IsSound, named}
use Rattle.papaya_words_law.specs.Meaning.{map_left}
use Rattle.papaya_words_law.specs.View.{Here, Leaving, look, own, view}
use Rattle.papaya_words_law.proofs.Chain.{walk_on}
use Rattle.papaya_words_law.proofs.ChainContent.{walk_first}
use Rattle.papaya_words_law.proofs.ChainTables.{chain_alone}
use Rattle.papaya_words_law.proofs.Class.{held_of, passed_not_held}
use Rattle.papaya_words_law.proofs.Codes.{code_kind, code_pair}
use Rattle.papaya_words_law.proofs.CodeViews.{word_of_kind}
use Rattle.papaya_words_law.proofs.Content.{at_place}
use Rattle.papaya_words_law.proofs.Lists.{Holds, table_found, table_none}
use Rattle.papaya_words_law.proofs.Logs.{on_comes}
use Rattle.papaya_words_law.proofs.OneMap.{incremental_state, keeping, keeping_sound}
use Rattle.papaya_words_law.proofs.Slots.{view_leaving}
use Rattle.papaya_words_law.proofs.Views.{active-own, held-active}
use Rattle.papaya_core_timeline.specs.declared.seat.Seat.{Seat}
use Rattle.papaya_core_timeline.specs.Content.{content, pairs_from, pairs_of_slots}
use Rattle.papaya_core_timeline.specs.Kept.{IsConsistent, IsLawfulCore, coding_of, is_blocking, low, places_in, setting_of}
use Rattle.papaya_core_timeline.specs.Kept as kept_words
use Rattle.papaya_core_store.specs.Store.{StoreState, Stored, pair_of}
use Rattle.papaya_core_store.specs.Tables.{table_of, word_at}
use Rattle.papaya_core_timeline.proofs.KeptMap.{chain_ends, kept_content, table_content}
use Rattle.papaya_core_timeline.proofs.KeptSettings.{IsLawfulKeys, tables_hashed}
use Rattle.papaya_core_timeline.proofs.KeptTables.{table_low}
use Rattle.papaya_seq.specs.Map.{slots_in}
use Rattle.papaya_seq.specs.Walks.{HasMark, HasNoMark, HasNoMarkAt, HasNoMarkIn, left_from, pairs_at, pairs_in_table, rest_of, table_after}
use Rattle.papaya_seq.proofs.WalkLists.{slots_past}

-- a list that adds nothing is empty
adds_none : {A : Type 0} (ps zs : List A) → ps ++ zs ≡ ps → zs ≡ []
adds_none [] zs e = e
adds_none (p ∷ ps) zs e = let behind : ps ++ zs ≡ ps = cc e in adds_none ps zs behind

module _ {K V S A : Type 0} (eq : K → K → Bool) (hash : K → ℕ) (callers : List (Seat K V A)) (mode : Mode) (store : StoreState K V S)
    (lawful : IsLawfulCore eq hash store callers mode) (keys : IsLawfulKeys eq hash) where
  abbrev g : Setting K (Stored K V)
  g = setting_of eq (low hash) mode store.words.tables

  abbrev c : Coding K (Stored K V)
  c = coding_of (low hash)

  abbrev es : List (Exchange (Stored K V))
  es = lawful.law.0

  -- the words as the law has them
  abbrev pub now : State (Stored K V)
  now = run es start

  kept : IsConsistent eq hash mode store callers es lawful.law.1.0
  kept = lawful.law.1.1

  hashed : IsHashed g c
  hashed = tables_hashed {V = V} eq hash keys mode store.words.tables lawful.core.sizes

  keeps : IsKeeping g now (map_left g es)
  keeps = keeping g hashed.lawful es kept.allowed

  sound : IsSound g now
  sound = keeping_sound g now (map_left g es) keeps

  -- the table after `n` links
  walk_is : (n t : ℕ) → table_after store n t ≡ walk now.next n t
  walk_is zero t = refl
  walk_is (suc n) t = ap (table_after store n) (sym (kept.coded (Next t))) ∙ walk_is n (now.next t) ∙ sym (walk_first now.next n t)

  -- tables that come have greater numbers
  pub after_far : (n t : ℕ) → 0 < table_after store n t → (0 < t) × (t + n ≤ table_after store n t)
  after_far zero t some = (some, omega arith)
  after_far (suc n) t some =
      let far = after_far n (word_at store.words (Next t)) some in
      let is : now.next t ≡ word_at store.words (Next t) = kept.coded (Next t) in
      elim (sound.rises t) [
        | inl none ↦ let first = far.0 in absurd (omega (arith, none, is, first))
        | inr (low, up) ↦ let more = far.1 in (low, omega (arith, up, is, more))
      ]

  -- a table that comes is one of those that there are
  pub after_low : (n : ℕ) (table : TableWords) → table_of store.words.tables (table_after store n store.words.root) ≡ Some table
      → (n < table_after store n store.words.root) × (n < length store.words.tables)
  after_low n table there =
      let most = table_low store.words.tables (table_after store n store.words.root) table there in
      elim (cases_lt 0 (table_after store n store.words.root)) [
        | inl some ↦ let (first, far) = after_far n store.words.root some in (omega (arith, first, far), omega (arith, first, far, most))
        | inr least ↦ let none : None ≡ Some table = ap (table_of store.words.tables)
            (let z : 0 ≡ table_after store n store.words.root = omega (arith, least) in z) ∙ there in absurd cc
      ]

  -- it is on the chain
  pub after_on : (n : ℕ) → 0 < table_after store n store.words.root → IsOn now.first now.next (table_after store n store.words.root)
  after_on n some =
      let (first, far) = after_far n store.words.root some in
      let root_is : now.root ≡ store.words.root = kept.coded Root in
      let root_on : IsOn now.first now.next now.root = elim sound.root
      [ inl none ↦ let z = none.0 in absurd (omega (arith, z, root_is, first)) | inr on ↦ on ] in
      let is : walk now.next n now.root ≡ table_after store n store.words.root = ap (walk now.next n) root_is ∙ sym (walk_is n store.words.root) in
      subst (IsOn now.first now.next) is (walk_on now.next sound.rises now.first now.root n root_on (subst (λ y. 0 < y) (sym is) some))

  -- a word that has a pair names one of the arena
  pub pair_logged : (t x n : ℕ) → (kind_of (word_at store.words (Slot t x)) ≡ kinds.Live) ⊎ (kind_of (word_at store.words (Slot t x)) ≡ kinds.Marked)
      → number_of (word_at store.words (Slot t x)) ≡ n
      → (p : Stored K V) × Holds (now.slot t x) p × (pair_of store n ≡ Some p)
  pair_logged t x n kind names = elim kind [
    | inl live ↦ let (p, e) = subst (λ kd. IsOfKind kd w) (ap kind_of is ∙ live) (word_of_kind g c w) in (p, inl e, of_pair p (ap named e))
    | inr marked ↦ let (p, e) = subst (λ kd. IsOfKind kd w) (ap kind_of is ∙ marked) (word_of_kind g c w) in (p, inr e, of_pair p (ap named e))
  ]
    where
      w : Word (Stored K V)
      w = now.slot t x

      is : code g c w ≡ word_at store.words (Slot t x)
      is = kept.coded (Slot t x)

      of_pair : (p : Stored K V) → named w ≡ Some p → pair_of store n ≡ Some p
      of_pair p name = ap (pair_of store) (sym names ∙ ap number_of (sym is) ∙ (code_pair g c hashed.coding w p name)) ∙ kept.logged t x p name

  -- the pairs of a table that is there
  pairs_are : (t : ℕ) (table : TableWords) → table_of store.words.tables t ≡ Some table → pairs_at store t ≡ pairs_in (now.slot t) (g.size t)
  pairs_are t table there = ap (pairs_in_table store) there ∙ table_content eq hash mode store hashed callers es lawful.law.1.0 kept t table there

  -- a table with a word that says that a pair is being copied has that pair
  pub some_marked : (t : ℕ) (p : Stored K V) → pair_of store p.number ≡ Some p → HasMark store t p.number
      → is_some (lookup eq (λ q. q.key) (pairs_at store t) p.key) ≡ true
  some_marked t p logged mark = of_table (table_of store.words.tables t) refl
    where
      found : (table : TableWords) → table_of store.words.tables t ≡ Some table → (v : Option (Stored K V))
          → lookup eq (λ q. q.key) (pairs_at store t) p.key ≡ v → is_some v ≡ true
      found table there None e =
          let (q, holds, is) = pair_logged t mark.slot p.number (inr mark.marked) mark.names in
          let same : p ≡ q = let both : Some p ≡ Some q = sym logged ∙ is in cc in
          let within : mark.slot < g.size t = subst (λ n. mark.slot < n) (ap slots_in there ∙ sym (ap kept_words.slots_in there)) mark.within in
          let other : eq p.key q.key ≡ false = table_none g (now.slot t) (g.size t) p.key
          (ap (λ ps. lookup eq (λ r. r.key) ps p.key) (sym (pairs_are t table there)) ∙ e) mark.slot within q holds in
          let itself : eq p.key p.key ≡ true = hashed.lawful.itself p.key in
          let clash : eq p.key p.key ≡ false = ap (λ (r : Stored K V). eq p.key r.key) same ∙ other in
          absurd cc
      found table there (Some q) e = refl

      of_table : (o : Option TableWords) → table_of store.words.tables t ≡ o → is_some (lookup eq (λ q. q.key) (pairs_at store t) p.key) ≡ true
      of_table None none = let within = subst (λ n. mark.slot < n) (ap slots_in none) mark.within in absurd (omega (arith, within))
      of_table (Some table) there = found table there (lookup eq (λ q. q.key) (pairs_at store t) p.key) refl

  module _ (inc : is_blocking mode.resize ≡ false) (t u x h : ℕ) (p : Stored K V) (h_is : h ≡ low hash p.key) (on : IsOn now.first now.next t)
      (before : t < u) (holds : Holds (now.slot u x) p) (none : HasNoMark store h t p.number) where
    class : IsIncrementalClass (IsOn now.first now.next) g.places (g.place p.key) (look g now p.key) (map_left g es p.key)
    class = (incremental_state g now (map_left g es) keeps inc).class p.key

    -- the table has no word that says that the pair leaves it
    no_copy : (table : TableWords) → table_of store.words.tables t ≡ Some table → (at : ℕ) → at < g.places t → look g now p.key t at ≡ Leaving p → ⊥
    no_copy table there at within leaving =
        elim (cases_lt filled.at unmarked.stop) [
          | inl sooner ↦ unmarked.none filled.at sooner (ap kind_of (word_is filled.at marked) ∙ code_kind g c (Marked p))
              (ap number_of (word_is filled.at marked) ∙ named_so)
          | inr later ↦
              elim unmarked.ends [
                | inl over ↦ let most : filled.at < table.limit + 1 = subst (λ o. filled.at < places_in o) there filled.within in
                    omega (arith, later, over, most)
                | inr empty ↦
                    let bare : now.slot t (g.place p.key t unmarked.stop)
                    ≡ Empty = subst (λ kd. IsOfKind kd (now.slot t (g.place p.key t unmarked.stop)))
                    (ap kind_of (sym (there_is unmarked.stop)) ∙ empty) (word_of_kind g c (now.slot t (g.place p.key t unmarked.stop))) in
                    elim (cases_lt unmarked.stop filled.at) [
                      | inl sooner ↦ filled.before unmarked.stop sooner (ap (view g p.key) bare)
                      | inr same ↦ let e : unmarked.stop ≡ filled.at = omega (arith, later, same) in
                          let clash : Empty ≡ Marked p = sym bare ∙ ap (λ j. now.slot t (g.place p.key t j)) e ∙ marked in absurd cc
                    ]
              ]
        ]
      where
        filled : IsFilled g.places (g.place p.key) (look g now p.key) t (g.place p.key t at)
        filled = class.base.filled t at within (ap own leaving)

        unmarked : HasNoMarkAt store h t p.number table
        unmarked = subst (HasNoMarkIn store h t p.number) there none

        marked : now.slot t (g.place p.key t filled.at) ≡ Marked p
        marked = ap (now.slot t) filled.is ∙ (view_leaving g p.key (now.slot t (g.place p.key t at)) p leaving).0

        -- the word at a place
        place_is : (j : ℕ) → place h (length table.slots) j ≡ g.place p.key t j
        place_is j = ap (λ k. place k (length table.slots) j) h_is ∙ ap (λ o. place (low hash p.key) (kept_words.slots_in o) j) (sym there)

        there_is : (j : ℕ) → word_at store.words (Slot t (place h (length table.slots) j)) ≡ code g c (now.slot t (g.place p.key t j))
        there_is j = ap (λ y. word_at store.words (Slot t y)) (place_is j) ∙ sym (kept.coded (Slot t (g.place p.key t j)))

        word_is : (j : ℕ) → now.slot t (g.place p.key t j) ≡ Marked p → word_at store.words (Slot t (place h (length table.slots) j)) ≡ code g c (Marked p)
        word_is j e = there_is j ∙ ap (code g c) e

        named_so : number_of (code g c (Marked p)) ≡ p.number
        named_so = (code_pair g c hashed.coding (Marked p) p refl)

    -- a probe finds the pair in its slot
    stands : (j : ℕ) × (j < g.places u) × (g.place p.key u j ≡ x) × ((look g now p.key u j ≡ Here p) ⊎ (look g now p.key u j ≡ Leaving p))
    stands = at_place g hashed.lawful now (map_left g es) keeps u x p holds p.key (hashed.lawful.itself p.key)

    -- so the table has no pair of its key
    pub none_unmarked : lookup eq (λ q. q.key) (pairs_at store t) p.key ≡ None
    none_unmarked =
        let (table, there) = kept.made t on.0 (on_comes now t on) in
        found table there (lookup eq (λ q. q.key) (pairs_at store t) p.key) refl
      where
        seen : (look g now p.key u stands.0 ≡ Here p) ⊎ (look g now p.key u stands.0 ≡ Leaving p)
        seen = stands.3

        copied : (table : TableWords) → table_of store.words.tables t ≡ Some table
            → IsCopy (IsOn now.first now.next) g.places (look g now p.key) t u (look g now p.key u stands.0) → ⊥
        copied table there copy = elim seen [
          | inl here ↦
              let same : copy.pair ≡ p = let both : Here copy.pair ≡ Here p = sym copy.copy ∙ here in cc in
              no_copy table there copy.at copy.within (copy.leaving ∙ ap Leaving same)
          | inr leaving ↦ let clash : Here copy.pair ≡ Leaving p = sym copy.copy ∙ leaving in absurd cc
        ]

        found : (table : TableWords) → table_of store.words.tables t ≡ Some table → (v : Option (Stored K V))
            → lookup eq (λ q. q.key) (pairs_at store t) p.key ≡ v → lookup eq (λ q. q.key) (pairs_at store t) p.key ≡ None
        found table there None e = e
        found table there (Some q) e =
            let (y, within, held, same) = table_found g (now.slot t) (g.size t) p.key q
            (ap (λ ps. lookup eq (λ r. r.key) ps p.key) (sym (pairs_are t table there)) ∙ e) in
            let at = at_place g hashed.lawful now (map_left g es) keeps t y q held p.key same in
            let own_there : own (look g now p.key u stands.0) ≡ true = active-own (look g now p.key u stands.0)
            (held-active (look g now p.key u stands.0) (held_of (look g now p.key u stands.0) p seen)) in
            absurd (elim (class.order t u stands.0 on before stands.1 own_there) [
              | inl passed ↦ passed_not_held (IsOn now.first now.next) g.places (g.place p.key) (look g now p.key) class.base t at.0 passed at.1
                  (held_of (look g now p.key t at.0) q at.3)
              | inr copy ↦ copied table there copy
            ])

  -- with blocking, nothing is left behind the root
  pub blocking_end : mode.resize ≡ Blocking → (slot : ℕ) → slots_in (table_of store.words.tables store.words.root) ≤ slot
      → left_from eq store zero slot (length store.words.tables) store.words.root ≡ []
  blocking_end blocks slot past = of_many (length store.words.tables) refl
    where
      alone : content eq store ≡ pairs_in (now.slot now.root) (g.size now.root)
      alone = kept_content eq hash mode store hashed callers es lawful.law.1.0 kept
          ∙ chain_alone g hashed.lawful now (map_left g es) keeps (λ inc. let b : is_blocking mode.resize ≡ true = ap is_blocking blocks in absurd cc)
          (length store.words.tables) (chain_ends eq hash mode store hashed callers es lawful.law.1.0 kept)

      of_table : (n : ℕ) → length store.words.tables ≡ suc n → (o : Option TableWords) → table_of store.words.tables store.words.root ≡ o
          → rest_of eq store slot n o ≡ []
      of_table n many None there = refl
      of_table n many (Some table) there =
          let root_is : now.root ≡ store.words.root = kept.coded Root in
          let all : content eq store ≡ pairs_from eq store (suc n) (Some table) = ap
          (λ m. pairs_from eq store m (table_of store.words.tables store.words.root)) many ∙ ap (pairs_from eq store (suc n)) there in
          let own_pairs : pairs_in (now.slot now.root) (g.size now.root) ≡ pairs_of_slots store table.slots = ap
          (λ r. pairs_in (now.slot r) (g.size r)) root_is ∙ sym (pairs_are store.words.root table there) ∙ ap (pairs_in_table store) there in
          ap (λ l. l ++ missing_in eq (λ p. p.key) (pairs_of_slots store table.slots)
          (pairs_from eq store n (table_of store.words.tables table.next))) (slots_past store table.slots slot (subst (λ o. slots_in o ≤ slot) there past))
          ∙ adds_none (pairs_of_slots store table.slots)
          (missing_in eq (λ p. p.key) (pairs_of_slots store table.slots) (pairs_from eq store n (table_of store.words.tables table.next)))
          (sym all ∙ alone ∙ own_pairs)

      of_many : (n : ℕ) → length store.words.tables ≡ n → left_from eq store zero slot n store.words.root ≡ []
      of_many zero many = refl
      of_many (suc n) many = of_table n many (table_of store.words.tables store.words.root) refl
