-- The removal of a pair of the root from a map in which no call is under way, while no pairs are
-- being moved.
use Rattle.std.proofs.Common.{◌≡◌, ◌⊎◌, inl, inr, ⊎_elim, ℕ, zero, suc, ◌<◌, ◌≤◌, ◌^◌, Bool, cond}
use Rattle.std.proofs.Common.{pos, ◌+ℤ◌, List, [], ◌∷◌, ◌++◌, length, slice_index, slice_set}
use Rattle.std.proofs.Common.{Option, Some, None, FitsSigned, append-nil, refl, sym, ◌∙◌, ap, subst}
use Rattle.std.proofs.Common.{arith, lt-ltb}
use Rattle.std.specs.Prelude.{negsuc}
use Rattle.std.specs.Int.{w64, int_wrap}
use Rattle.std.specs.List.{All}
use Rattle.std.proofs.lemmas.Bool.{cases_lt}
use Rattle.std.proofs.lemmas.Int.{fits_signed_from_abs, ints, int_wrap_fits}
use Rattle.papaya_words.specs.Counter.{added}
use Rattle.papaya_words.specs.Table.{TableWords}
use Rattle.papaya_words.specs.Word.{kind_of, pair_of as number_of, buried_word}
use Rattle.papaya_words.specs.declared.word.Kind.TheVariants as kinds
use Rattle.papaya_call.specs.Search.{IsSize}
use Rattle.papaya_call.specs.declared.ask.At.{At}
use Rattle.papaya_call.specs.declared.ask.At.TheVariants.{Root, Next, Aborted, Done, Slot, Made}
use Rattle.papaya_call_law.specs.ChainAnswers.{nothing_loaded}
use Rattle.papaya_words_law.specs.Allows.{MayBury}
use Rattle.papaya_words_law.specs.ChainContent.{joined}
use Rattle.papaya_words_law.specs.Code.{Coding, IsHashed, IsOfKind, code}
use Rattle.papaya_words_law.specs.Exchange.{Buried, Live, Bury, Exchange, Setting, State, after, run, start}
use Rattle.papaya_words_law.specs.Grows.{Comes}
use Rattle.papaya_words_law.specs.Invariant.{named}
use Rattle.papaya_words_law.specs.Meaning.{map_left}
use Rattle.papaya_words_law.specs.View.{IsReached}
use Rattle.papaya_words_law.proofs.Codes.{code_kind, code_pair}
use Rattle.papaya_words_law.proofs.CodeViews.{word_of_kind}
use Rattle.papaya_words_law.proofs.Moments.{allowed_append, run-append}
use Rattle.papaya_words_law.proofs.OneMap.{keeping, root_reached}
use Rattle.papaya_words_law.proofs.Slots.{put_elsewhere, put_there, slot_cases}
use Rattle.papaya_call_law.specs.TrueAnswers.{word_of}
use Rattle.papaya_core_timeline.specs.Content.{content, pairs_from, pairs_of_kind, pairs_of_slots}
use Rattle.papaya_core_timeline.specs.Core.{CoreState}
use Rattle.papaya_core_timeline.specs.Kept.{CallTrace, IsConsistent, IsLawfulCore, coding_of, low, setting_of}
use Rattle.papaya_core_store.specs.Store.{StoreState, Stored, pair_of}
use Rattle.papaya_core_store.specs.Tables.{put, table_of, word_at, word_in, written}
use Rattle.papaya_core_timeline.proofs.CoreLemmas.{cases_same}
use Rattle.papaya_core_timeline.proofs.KeptAnswer.{Stands}
use Rattle.papaya_core_timeline.proofs.KeptHints.{placed-hints}
use Rattle.papaya_core_timeline.proofs.KeptOthers.{IsLeaving, leaves_kept}
use Rattle.papaya_core_timeline.proofs.KeptSettings.{IsLawfulKeys, tables_hashed}
use Rattle.papaya_core_timeline.proofs.KeptTables.{IsPlaced, cases_place, placed-grown, placed-here}
use Rattle.papaya_core_timeline.proofs.KeptTables.{placed-many, placed-other, table_low, written-here}
use Rattle.papaya_core_timeline.proofs.KeptTables.{written-other, written-root}
use Rattle.papaya_seq.specs.Map.{IsLawfulMap, MapState, core_of, next_in, next_of, slots_in, slots_of}
use Rattle.papaya_seq.specs.Retains.{slot_words}
use Rattle.papaya_seq.proofs.Counting.{counted_sum}
use Rattle.papaya_seq.proofs.RetainLists.{live_pairs, set_long, slots_count, slots_same}
use Rattle.papaya_seq.proofs.TableLengths.{put_lengths}
use Rattle.papaya_seq.proofs.WalkLists.{pairs_of_word}

module _ {K V S : Type 0} (s : StoreState K V S) (i : ℕ) where
  -- the word in this slot of the root
  abbrev pub root_word : ℕ
  root_word = word_at s.words (Slot s.words.root i)

  -- its pair was deleted, and is counted no more
  abbrev pub buried_at : StoreState K V S
  buried_at = record s {
    words = put s.words (Slot s.words.root i) (buried_word (number_of root_word));
    count = added s.count 0 (negsuc 0);
  }

-- if the root has no next table, its pairs are the map's
pub last_content : {K V S : Type 0} (eq : K → K → Bool) (store : StoreState K V S) → next_of store ≡ 0
    → content eq store ≡ pairs_of_slots store (slot_words (table_of store.words.tables store.words.root))
last_content {K} {V} {S} eq store last = of_many (length store.words.tables) refl (table_of store.words.tables store.words.root) refl
  where
    none_behind : (n : ℕ) (t : ℕ) → t ≡ 0 → pairs_from eq store n (table_of store.words.tables t) ≡ []
    none_behind zero t e = refl
    none_behind (suc n) t e = ap (λ u. pairs_from eq store (suc n) (table_of store.words.tables u)) e

    of_many : (n : ℕ) → length store.words.tables ≡ n → (o : Option TableWords) → table_of store.words.tables store.words.root ≡ o
        → pairs_from eq store n o ≡ pairs_of_slots store (slot_words o)
    of_many zero many None there = refl
    of_many zero many (Some table) there =
        let low = table_low store.words.tables store.words.root table there in
        let none : store.words.root ≡ 0 = omega (arith, low, many) in
        let clash : None ≡ Some table = ap (table_of store.words.tables) (sym none) ∙ there in
        absurd cc
    of_many (suc n) many None there = refl
    of_many (suc n) many (Some table) there =
        let next : table.next ≡ 0 = ap next_in (sym there) ∙ last in
        ap (joined eq (λ p. p.key) (pairs_of_slots store table.slots)) (none_behind n table.next next)
        ∙ append-nil (pairs_of_slots store table.slots)

module _ {K V S : Type 0} (eq : K → K → Bool) (hash : K → ℕ) (s : MapState K V S) (lawful : IsLawfulMap eq hash s.store s.mode s.initial)
    (keys : IsLawfulKeys eq hash) (i : ℕ)
    (within : i < slots_of s.store) (live : kind_of (root_word s.store i) ≡ kinds.Live) where
  abbrev g : Setting K (Stored K V)
  g = setting_of eq (low hash) s.mode s.store.words.tables

  abbrev c : Coding K (Stored K V)
  c = coding_of (low hash)

  abbrev es : List (Exchange (Stored K V))
  es = lawful.lawful.law.0

  abbrev call_traces : ℕ → CallTrace K V
  call_traces = lawful.lawful.law.1.0

  abbrev now : State (Stored K V)
  now = run es start

  abbrev root : ℕ
  root = s.store.words.root

  abbrev word : ℕ
  word = root_word s.store i

  abbrev grave : ℕ
  grave = buried_word (number_of word)

  abbrev store' : StoreState K V S
  store' = buried_at s.store i

  kept : IsConsistent {A = Unit {0}} eq hash s.mode s.store [] es call_traces
  kept = lawful.lawful.law.1.1

  hashed : IsHashed g c
  hashed = tables_hashed {V = V} eq hash keys s.mode s.store.words.tables lawful.lawful.core.sizes

  -- the root table is there
  root_there : (table : TableWords) × (table_of s.store.words.tables root ≡ Some table)
  root_there = of_table (table_of s.store.words.tables root) refl within
    where
      of_table : (o : Option TableWords) → table_of s.store.words.tables root ≡ o → i < slots_in o → (table : TableWords)
          × (table_of s.store.words.tables root ≡ Some table)
      of_table None there low = absurd (omega (arith, low))
      of_table (Some table) there low = (table, there)

  abbrev table : TableWords
  table = root_there.0

  there : table_of s.store.words.tables root ≡ Some table
  there = root_there.1

  low_slot : i < length table.slots
  low_slot = subst (λ o. i < slots_in o) there within

  placed : IsPlaced s.store.words.tables (Slot root i)
  placed = (table, there, low_slot)

  -- the pair in the slot
  lives : (p : Stored K V) × (now.slot root i ≡ Live p)
  lives = subst (λ kd. IsOfKind kd (now.slot root i)) (ap kind_of (kept.coded (Slot root i)) ∙ live) (word_of_kind g c (now.slot root i))

  abbrev p : Stored K V
  p = lives.0

  word_is : code g c (Live p) ≡ word
  word_is = ap (code g c) (sym lives.1) ∙ kept.coded (Slot root i)

  number_is : number_of word ≡ p.number
  number_is = ap number_of (sym word_is) ∙ (code_pair g c hashed.coding (Live p) p refl)

  -- it is in the arena
  pub live_logged : (q : Stored K V) × (pair_of s.store (number_of word) ≡ Some q)
  live_logged = (p, ap (pair_of s.store) number_is ∙ kept.logged root i p (ap named lives.1))

  root_some : 0 < root
  root_some = ⊎_elim (λ (some : 0 < root). some)
      (λ (least : root ≤ 0). let z : root ≡ 0 = omega (arith, least) in
      let clash : None ≡ Some table = ap (table_of s.store.words.tables) (sym z) ∙ there in absurd cc) (cases_lt 0 root)

  root_is : now.root ≡ root
  root_is = kept.coded Root

  -- its deletion is allowed
  may : MayBury g now root i p
  may = record {
    live = lives.1;
    reached = subst (IsReached g now p.key) root_is
        (root_reached g now (map_left g es) (keeping g hashed.lawful es kept.allowed) p.key (subst (λ n. 0 < n) (sym root_is) root_some));
  }

  abbrev made : List (Exchange (Stored K V))
  made = Bury root i p ∷ []

  ran : run (es ++ made) start ≡ after now (Bury root i p)
  ran = run-append es made start

  grave_is : code g c (Buried p) ≡ grave
  grave_is = ap buried_word (sym number_is)

  -- the words after it
  coded' : (at : At) → word_of g c (run (es ++ made) start) at ≡ word_at store'.words at
  coded' at = ap (λ z. word_of g c z at) ran ∙ elim (cases_place at (Slot root i)) [
    | inl same ↦ ap (word_of g c (after now (Bury root i p))) same ∙ ap (code g c) (put_there now root i (Buried p) root i (refl, refl)).0
        ∙ grave_is ∙ sym (placed-here s.store.words (Slot root i) grave placed) ∙ ap (word_at (put s.store.words (Slot root i) grave)) (sym same)
    | inr differ ↦ others at differ ∙ kept.coded at ∙ sym (placed-other s.store.words (Slot root i) grave placed at differ)
  ]
    where
      others : (at : At) → (at ≡ Slot root i → ⊥) → word_of g c (after now (Bury root i p)) at ≡ word_of g c now at
      others Root differ = refl
      others Made differ = refl
      others (Next t) differ = refl
      others (Aborted t) differ = refl
      others (Done t chunk) differ = refl
      others (Slot t x) differ = ap (code g c)
          (put_elsewhere now root i (Buried p) t x (λ same. differ (ap (λ y. Slot y x) (sym same.0) ∙ ap (Slot root) (sym same.1))))

  -- a pair that a slot names was in a slot before
  slots' : (t x : ℕ) (q : Stored K V) → named ((run (es ++ made) start).slot t x) ≡ Some q → Stands now q ⊎ ⊥
  slots' t x q names =
      let name : named ((after now (Bury root i p)).slot t x) ≡ Some q = ap (λ (z : State (Stored K V)). named (z.slot t x)) (sym ran) ∙ names in
      elim (slot_cases now root i (Buried p) t x) [
        | inl (same, other) ↦ inl (t, x, ap named (sym same) ∙ name)
        | inr (here, at, is) ↦ inl (root, i, ap named lives.1 ∙ sym (ap named is) ∙ name)
      ]

  abbrev core' : CoreState K V S (Unit {0})
  core' = core_of (record { store = store'; mode = s.mode; initial = s.initial })

  leaving : IsLeaving eq hash keys (core_of s) 0 core' refl es call_traces lawful.lawful.core kept made nothing_loaded (λ q. ⊥)
  leaving = record {
    allowed = allowed_append g es made start kept.allowed (may, tt);
    keys = λ at k h. h;
    values = λ part v h. h;
    logged = λ n q h. h;
    few = λ h. h;
    tables_few = λ h. let many = placed-many s.store.words (Slot root i) grave placed in omega (arith, many, h);
    grown = placed-grown s.store.words (Slot root i) grave placed;
    coded = coded';
    hints = λ t x. inl (placed-hints s.store.words (Slot root i) grave placed t x);
    there = λ t some comes. kept.made t some (subst (λ z. Comes z t) ran comes);
    slots = slots';
    mine_logged = λ q mine. absurd mine;
    mine_apart = λ d r runs differ q q' mine other. absurd mine;
  }

  kept' : (call_traces' : ℕ → CallTrace K V) × IsConsistent {A = Unit {0}} eq hash s.mode store' [] (es ++ made) call_traces'
  kept' = (
    _,
    leaves_kept eq hash keys (core_of s) 0 core' refl es call_traces lawful.lawful.core kept made nothing_loaded leaving None refl
        (λ r e. absurd cc) (λ z e. absurd cc) (λ v e. absurd cc) (λ r e. absurd cc),
  )

  -- the root table after it
  written_is : written (Slot root i) table grave ≡ record table { slots = slice_set table.slots i grave }
  written_is = ap (λ b. cond b (record table { slots = slice_set table.slots i grave }) table) (lt-ltb i (length table.slots) low_slot)

  -- the root stays
  pub root_same : store'.words.root ≡ root
  root_same = written-root s.store.words (Slot root i) root grave table there

  there' : table_of store'.words.tables store'.words.root ≡ Some (record table { slots = slice_set table.slots i grave })
  there' = ap (table_of store'.words.tables) root_same ∙ written-here s.store.words (Slot root i) root grave table there ∙ ap Some written_is

  -- and has no next table
  pub next_same : next_of store' ≡ next_of s.store
  next_same = ap next_in there' ∙ sym (ap next_in there)

  -- its words after it
  pub words_set : slot_words (table_of store'.words.tables store'.words.root) ≡ slice_set (slot_words (table_of s.store.words.tables root)) i grave
  words_set = ap slot_words there' ∙ sym (ap (λ o. slice_set (slot_words o) i grave) there)

  -- the grave has no pair
  pub grave_bare : pairs_of_word s.store grave ≡ []
  grave_bare = ap (λ kd. pairs_of_kind s.store kd (number_of grave)) (ap kind_of (sym grave_is) ∙ code_kind g c (Buried p))

  sizes' : (n : ℕ) (t : TableWords) → table_of store'.words.tables n ≡ Some t → IsSize (length t.slots) t.limit
  sizes' n t e = elim (cases_same n root) [
    | inl same ↦
        let written_table : record table { slots = slice_set table.slots i grave } ≡ t =
        let both : Some (record table { slots = slice_set table.slots i grave }) ≡ Some t = sym there'
        ∙ ap (table_of store'.words.tables) (root_same ∙ sym same) ∙ e in cc in
        subst (λ (y : TableWords). IsSize (length y.slots) y.limit) written_table
        (subst (λ n. IsSize n table.limit) (sym (set_long table.slots i grave)) (lawful.lawful.core.sizes root table there))
    | inr differ ↦ lawful.lawful.core.sizes n t (sym (written-other s.store.words (Slot root i) root grave table there n differ) ∙ e)
  ]

  lawful_core : IsLawfulCore {A = Unit {0}} eq hash store' [] s.mode
  lawful_core = record {
    core = record {
      chunked = lawful.lawful.core.chunked;
      limit = lawful.lawful.core.limit;
      sizes = sizes';
      valid = λ d q e.
          absurd cc;
      going = λ d q e. absurd cc;
      resizers = λ d z e. absurd cc;
      scanners = λ d v e. absurd cc;
    };
    law = (es ++ made, kept');
  }

  module _ (last : next_of s.store ≡ 0) (fits : FitsSigned w64 s.store.count.sum) where
    -- there is one pair fewer
    fewer : length (content eq s.store) ≡ suc (length (content eq store'))
    fewer =
        let old : content eq s.store ≡ pairs_of_slots s.store table.slots = last_content eq s.store last
        ∙ ap (λ o. pairs_of_slots s.store (slot_words o)) there in
        let new : content eq store' ≡ pairs_of_slots s.store (slice_set table.slots i grave) = last_content eq store' (next_same ∙ last)
        ∙ ap (λ o. pairs_of_slots store' (slot_words o)) there' ∙ slots_same s.store store' (λ n. refl) (slice_set table.slots i grave) in
        let count = slots_count s.store table.slots i grave low_slot in
        let one : length (pairs_of_word s.store (slice_index table.slots i)) ≡ 1 = ap (λ w. length (pairs_of_word s.store w))
        (sym (ap (word_in (λ v. slice_index v.slots i)) there)) ∙ ap length (live_pairs s.store word live_logged.0 live live_logged.1) in
        let none : length (pairs_of_word s.store grave) ≡ 0 = ap length grave_bare in
        let old_long : length (content eq s.store) ≡ length (pairs_of_slots s.store table.slots) = ap length old in
        let new_long : length (content eq store') ≡ length (pairs_of_slots s.store (slice_set table.slots i grave)) = ap length new in
        omega (arith, count, one, none, old_long, new_long)

    counted' : int_wrap w64 (store'.count.sum +ℤ pos 0) ≡ pos (length (content eq store'))
    counted' =
        let m : ℕ = length (content eq store') in
        let full : s.store.count.sum ≡ pos (suc m) = counted_sum eq s.store lawful.counted fits ∙ ap pos fewer in
        let few : suc m < 2 ^ 63 = (subst (FitsSigned w64) full fits).sfits in
        let fit : FitsSigned w64 (pos m) = fits_signed_from_abs w64 (pos m) (omega (arith, few)) in
        let less : pos (suc m) +ℤ negsuc 0 ≡ pos m = omega (arith, ints) in
        let same : pos m +ℤ pos 0 ≡ pos m = omega (arith, ints) in
        ap (λ z. int_wrap w64 (int_wrap w64 (z +ℤ negsuc 0) +ℤ pos 0)) full
        ∙ ap (λ z. int_wrap w64 (int_wrap w64 z +ℤ pos 0)) less
        ∙ ap (λ z. int_wrap w64 (z +ℤ pos 0)) (int_wrap_fits w64 (pos m) fit)
        ∙ ap (int_wrap w64) same
        ∙ int_wrap_fits w64 (pos m) fit

    -- the map is in order after it
    pub buried_lawful : IsLawfulMap eq hash store' s.mode s.initial
    buried_lawful = record {
      lawful = lawful_core;
      counted = counted';
      power = lawful.power;
      most = lawful.most;
      long = record {
        tables = subst (All (λ len. s.initial ≤ len)) (sym (put_lengths s.store.words (Slot root i) grave)) lawful.long.tables;
        first = λ none. lawful.long.first (sym root_same ∙ none);
      };
      numbered = λ most limit. subst (λ n. length s.store.pairs ≤ n)
          (sym (placed-other s.store.words (Slot root i) grave placed Made (λ e. absurd cc))) (lawful.numbered most limit);
    }
