-- A word that was found, and the pair or the table that it names.
use Rattle.std.proofs.Common.{◌≡◌, ◌≢◌, ◌⊎◌, inl, inr, ⊎_elim, ℕ, ◌<◌, ◌==◌, true, Option, None, Some, List, [], ◌∷◌, map, refl, sym, ap, ◌∙◌, subst, arith}
use Rattle.std.proofs.lemmas.Bool.{cond-true}
use Rattle.boxcar.specs.Table.{Where}
use Rattle.papaya_words.specs.Word.{kind_of, pair_of}
use Rattle.papaya_words.specs.declared.word.Kind.TheVariants as kinds
use Rattle.papaya_words_law.specs.Allows.{AllAllowed}
use Rattle.papaya_words_law.specs.Class.{IsOn}
use Rattle.papaya_words_law.specs.Code.{Coding, IsLawfulCoding, code, kind}
use Rattle.papaya_words_law.specs.Exchange.{Word, Empty, Closed, Live, Marked, Copied, Buried, Setting, State, after, run, start}
use Rattle.papaya_words_law.specs.Grows.{Comes, brings, exchanges}
use Rattle.papaya_words_law.specs.Invariant.{named}
use Rattle.papaya_words_law.specs.Meaning.{IsLawful}
use Rattle.papaya_words_law.proofs.Codes.{code_kind, code_pair}
use Rattle.papaya_words_law.proofs.Logs.{comes_after, on_comes}
use Rattle.papaya_words_law.proofs.OneMap.{sound}
use Rattle.papaya_map_book.specs.Sheets.{Sheet}
use Rattle.papaya_map_book.specs.declared.rule.entry.Step.{Step}
use Rattle.papaya_map_book.specs.declared.rule.entry.Step.TheVariants as steps
use Rattle.papaya_map_book.specs.Logs.{Stored, comes, entry_of, exchange_of, number_of, or_else, table_if, table_in}

-- one of two tables is there
or_first : (x y : Option (Where Sheet)) (w : Where Sheet) → x ≡ Some w → (v : Where Sheet) × (or_else x y ≡ Some v)
or_first None y w e = absurd (cc e)
or_first (Some x) y w e = (x, refl)

or_second : (x y : Option (Where Sheet)) (w : Where Sheet) → y ≡ Some w → (v : Where Sheet) × (or_else x y ≡ Some v)
or_second None y w e = (w, e)
or_second (Some x) y w e = (x, refl)

-- before the first exchange there is no table
none_before : (P : Type 0) (t : ℕ) → 0 < t → Comes {P = P} start t → ⊥
none_before P t some (inl e) = omega arith
none_before P t some (inr (u, e)) = omega arith

module _ {K V : Type 0} where
  -- an exchange that brings a table brings the one that comes with it
  pub brings_table : (e : Step K V) (t : ℕ) → brings (exchange_of e) t ≡ true → (w : Where Sheet) × (table_if (comes e) t ≡ Some w)
  brings_table (steps.Open w) t h = (w, cond-true (number_of w == t) (Some w) None h)
  brings_table (steps.Claim u x p) t h = absurd cc
  brings_table (steps.Replace u x p q) t h = absurd cc
  brings_table (steps.Bury u x p) t h = absurd cc
  brings_table (steps.Link u w) t h = (w, cond-true (number_of w == t) (Some w) None h)
  brings_table (steps.Mark u x p) t h = absurd cc
  brings_table (steps.Close u x) t h = absurd cc
  brings_table (steps.Place u x p) t h = absurd cc
  brings_table (steps.Finish u x p) t h = absurd cc
  brings_table (steps.Advance u c) t h = absurd cc
  brings_table (steps.Promote u n) t h = absurd cc
  brings_table (steps.Abort u) t h = absurd cc
  brings_table (steps.Take m) t h = absurd cc

  -- a table of the chain has come, or was there before
  chain_came : (es : List (Step K V)) (s : State (Stored K V)) (t : ℕ) → Comes (run (exchanges (map entry_of es)) s) t
      → ((w : Where Sheet) × (table_in es t ≡ Some w)) ⊎ Comes s t
  chain_came [] s t c = inr c
  chain_came (e ∷ es) s t c =
      ⊎_elim
      (λ h. inl (or_second (table_if (comes e) t) (table_in es t) h.0 h.1))
      (λ d. ⊎_elim (λ h. let b = brings_table e t h in inl (or_first (table_if (comes e) t) (table_in es t) b.0 b.1)) (λ i. inr i)
      (comes_after s (exchange_of e) t d))
      (chain_came es (after s (exchange_of e)) t c)

  -- the root has come
  pub root_came : (g : Setting K (Stored K V)) → IsLawful g → (es : List (Step K V)) → AllAllowed g start (exchanges (map entry_of es)) → (n : ℕ)
      → (run (exchanges (map entry_of es)) start).root ≡ n → n ≢ 0 → (w : Where Sheet) × (table_in es n ≡ Some w)
  root_came g law es may n is some =
      let s = run (exchanges (map entry_of es)) start in
      ⊎_elim
      (λ h. absurd (some (sym is ∙ h.0)))
      (λ on. let c : Comes s n = subst (Comes s) is (on_comes s s.root on) in
      ⊎_elim (λ h. h) (λ d. absurd (none_before (Stored K V) n (omega arith) d)) (chain_came es start n c))
      (sound g law (exchanges (map entry_of es)) may).root

  -- so has the table after another one
  pub next_came : (es : List (Step K V)) (t n : ℕ) → (run (exchanges (map entry_of es)) start).next t ≡ n → n ≢ 0 → (w : Where Sheet) × (table_in es n ≡ Some w)
  next_came es t n is some = ⊎_elim (λ h. h) (λ d. absurd (none_before (Stored K V) n (omega arith) d)) (chain_came es start n (inr (t, is)))

  -- so has each table on the chain
  pub on_came : (es : List (Step K V)) (t : ℕ) → IsOn (run (exchanges (map entry_of es)) start).first (run (exchanges (map entry_of es)) start).next t
      → (w : Where Sheet) × (table_in es t ≡ Some w)
  on_came es t on =
      let some = on.0 in
      ⊎_elim (λ h. h) (λ d. absurd (none_before (Stored K V) t some d)) (chain_came es start t (on_comes (run (exchanges (map entry_of es)) start) t on))

module _ {K P : Type 0} (g : Setting K P) (c : Coding K P) (lawful : IsLawfulCoding g c) where
  -- a word of no pair
  no_pair : (w : Word P) → (kind w ≡ kinds.Empty) ⊎ (kind w ≡ kinds.Closed) → named w ≡ None
  no_pair Empty h = refl
  no_pair Closed h = refl
  no_pair (Live p) (inl h) = absurd (cc h)
  no_pair (Live p) (inr h) = absurd (cc h)
  no_pair (Marked p) (inl h) = absurd (cc h)
  no_pair (Marked p) (inr h) = absurd (cc h)
  no_pair (Copied p) (inl h) = absurd (cc h)
  no_pair (Copied p) (inr h) = absurd (cc h)
  no_pair (Buried p) (inl h) = absurd (cc h)
  no_pair (Buried p) (inr h) = absurd (cc h)

  some_pair : (w : Word P) → (kind w ≡ kinds.Empty → ⊥) → (kind w ≡ kinds.Closed → ⊥) → (p : P) × (named w ≡ Some p)
  some_pair Empty m n = absurd (m refl)
  some_pair Closed m n = absurd (n refl)
  some_pair (Live p) m n = (p, refl)
  some_pair (Marked p) m n = (p, refl)
  some_pair (Copied p) m n = (p, refl)
  some_pair (Buried p) m n = (p, refl)

  -- a number that reads as Empty or Closed names nothing
  pub names_none : (w : Word P) (n : ℕ) → code g c w ≡ n → (kind_of n ≡ kinds.Empty) ⊎ (kind_of n ≡ kinds.Closed) → named w ≡ None
  names_none w n is h = let k : kind w ≡ kind_of n = sym (code_kind g c w) ∙ ap kind_of is in no_pair w (⊎_elim (λ i. inl (k ∙ i)) (λ i. inr (k ∙ i)) h)

  -- any other names the pair of its number
  pub names_some : (w : Word P) (n : ℕ) → code g c w ≡ n → (kind_of n ≡ kinds.Empty → ⊥) → (kind_of n ≡ kinds.Closed → ⊥) → (p : P)
      × (named w ≡ Some p) × (pair_of n ≡ c.number p)
  names_some w n is m o =
      let k : kind_of n ≡ kind w = sym (ap kind_of is) ∙ code_kind g c w in
      let h = some_pair w (λ i. m (k ∙ i)) (λ i. o (k ∙ i)) in (h.0, h.1, sym (ap pair_of is) ∙ (code_pair g c lawful w h.0 h.1))
