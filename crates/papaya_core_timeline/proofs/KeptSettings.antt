-- The setting of the law that is given by the tables of a core.
use Rattle.std.proofs.Common.{◌≡◌, ℕ, ◌+◌, ◌%◌, ◌^◌, ◌<◌, Bool, true, List, Option, None, Some, length, refl, sym, ◌∙◌, ap, subst, arith}
use Rattle.std.proofs.Math.Nat.{mod-lt}
use Rattle.std.proofs.Math.Pow.{pow_pos}
use Rattle.std.specs.Cmp.{IsEquivalence}
use Rattle.papaya_words.specs.Chunks.{chunk_len, chunk_of}
use Rattle.papaya_words.specs.Table.{TableWords}
use Rattle.papaya_words.specs.Probe.{place}
use Rattle.papaya_words.specs.declared.resize_mode.ResizeMode.{ResizeMode}
use Rattle.papaya_call.specs.Search.{IsSize}
use Rattle.papaya_words_law.specs.Exchange.{Setting}
use Rattle.papaya_words_law.specs.Grows.{Agrees}
use Rattle.papaya_words_law.specs.Hashing.{hashed}
use Rattle.papaya_words_law.specs.Code.{IsHashed}
use Rattle.papaya_words_law.proofs.Hashing.{hashed_lawful}
use Rattle.papaya_words_law.proofs.Logs.{planned_lawful}
use Rattle.papaya_call_law.specs.Relies.{IsCutAs}
use Rattle.papaya_core_timeline.specs.Kept.{chunks_in, is_blocking, setting_of, coding_of, low, slots_in, places_in}
use Rattle.papaya_core_store.specs.Store.{Stored}
use Rattle.papaya_core_store.specs.Tables.{table_of}
use Rattle.papaya_core_timeline.proofs.KeptTables.{HasMoreTables}
use Rattle.papaya_core_store.specs.declared.store.Mode.{Mode}

-- equality is an equivalence, and equal keys hash alike
pub record IsLawfulKeys {K : Type 0} (eq : K → K → Bool) (hash : K → ℕ) : Type 0 where
  pub classes : IsEquivalence eq
  pub alike : (x y : K) → eq x y ≡ true → hash x ≡ hash y

-- each table has a slot at least, and a search of it a place
some_slot : (o : Option TableWords) → ((t : TableWords) → o ≡ Some t → IsSize (length t.slots) t.limit) → 0 < slots_in o
some_slot None sized = omega arith
some_slot (Some t) sized = let power = (sized t refl).power in subst (λ n. 0 < n) (sym power.1) (pow_pos power.0)

-- and a search of it a place
some_place : (o : Option TableWords) → 0 < places_in o
some_place None = omega arith
some_place (Some t) = omega arith

-- a mode cuts as it does
pub mode_cut : (mode : ResizeMode) → IsCutAs mode (chunk_of (chunk_len mode))
mode_cut mode x = refl

module _ {K V : Type 0} (eq : K → K → Bool) (hash : K → ℕ) where
  -- keys are placed by their hashes
  pub tables_hashed : IsLawfulKeys eq hash → (mode : Mode) (tables : List TableWords)
      → ((n : ℕ) (t : TableWords) → table_of tables n ≡ Some t → IsSize (length t.slots) t.limit)
      → IsHashed (setting_of {V = V} eq (low hash) mode tables) (coding_of (low hash))
  tables_hashed law mode tables sized =
      let classes = law.classes in
      let alike : (k l : K) → eq k l ≡ true → low hash k ≡ low hash l = λ k l e. ap (λ n. n % 2 ^ 64) (law.alike k l e) in
      record {
        lawful = planned_lawful (hashed (is_blocking mode.resize) (chunk_of (chunk_len mode.resize)) mode.limit (λ (p : Stored K V). p.key) eq (low hash))
            (hashed_lawful (is_blocking mode.resize) (chunk_of (chunk_len mode.resize)) mode.limit (λ (p : Stored K V). p.key) eq (low hash)
            classes.refl (λ k l e. classes.symm l k ∙ e) (λ k l m e f. classes.congr k l m e ∙ f) alike)
            (λ t. slots_in (table_of tables t)) (λ t. places_in (table_of tables t)) (λ t. chunks_in (table_of tables t))
            (λ t. some_slot (table_of tables t) (λ w e. sized t w e)) (λ t. some_place (table_of tables t));
        coding = record { respects = alike; hash_fits = λ k. mod-lt (hash k) (omega arith) };
        places = λ k t j. refl;
      }

  -- after tables grow, the setting agrees with the old one on the tables that were there
  pub grown_agrees : (mode mode' : Mode) (tables tables' : List TableWords) → mode' ≡ mode → HasMoreTables tables tables' → (On : ℕ → Type 0)
      → ((t : ℕ) → On t → (words : TableWords) × (table_of tables t ≡ Some words))
      → Agrees On (setting_of {V = V} eq (low hash) mode tables) (setting_of {V = V} eq (low hash) mode' tables')
  grown_agrees mode mode' tables tables' same grown On made =
      record {
        blocking = ap (λ (m : Mode). is_blocking m.resize) same;
        most = ap (λ (m : Mode). m.limit) same;
        key = λ p. refl;
        same = λ k l.
            refl;
        size = size;
        chunk_of = λ x. ap (λ (m : Mode). chunk_of (chunk_len m.resize) x) same;
        chunks = chunks;
        places = places;
        place = λ k t j
            on. ap (λ n. place (low hash k) n j) (size t on);
      }
    where
      -- a made table is as long as it was
      size : (t : ℕ) → On t → slots_in (table_of tables' t) ≡ slots_in (table_of tables t)
      size t on =
          let m = made t on in
          let g = grown t m.0 m.1 in
          ap slots_in g.1 ∙ g.2 ∙ sym (ap slots_in m.1)

      -- and a search of it visits as many places
      places : (t : ℕ) → On t → places_in (table_of tables' t) ≡ places_in (table_of tables t)
      places t on =
          let m = made t on in
          let g = grown t m.0 m.1 in
          ap places_in g.1 ∙ ap (λ n. n + 1) g.3 ∙ sym (ap places_in m.1)

      -- and it has as many words for chunks
      chunks : (t : ℕ) → On t → chunks_in (table_of tables' t) ≡ chunks_in (table_of tables t)
      chunks t on =
          let m = made t on in
          let g = grown t m.0 m.1 in
          ap chunks_in g.1 ∙ g.4 ∙ sym (ap chunks_in m.1)

-- if two settings agree, a copy in one is a copy in the other
pub cut_carries : {K P : Type 0} {On : ℕ → Type 0} {g g' : Setting K P} → Agrees On g g' → (mode : ResizeMode) → IsCutAs mode g.chunk_of
    → IsCutAs mode g'.chunk_of
cut_carries agrees mode cut x = agrees.chunk_of x ∙ cut x
