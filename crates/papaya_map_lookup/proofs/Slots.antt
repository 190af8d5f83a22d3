-- The slots of a table, as a list of words.
use Rattle.std.proofs.Common.{◌≡◌, ℕ, zero, suc, ◌%◌, ◌<◌, Bool, Option, Some, List, [], ◌∷◌, length, map, slice_get, slice_index_or, refl, sym, ap, ◌∙◌, subst, arith}
use Rattle.logbook.specs.Pages.{Book, Named}
use Rattle.papaya_call.specs.declared.ask.At.TheVariants.{Slot}
use Rattle.papaya_map_book.specs.Calls.{IsRead}
use Rattle.papaya_map_book.specs.Logs.{coding_of, setting_of, state_of}
use Rattle.papaya_map_book.specs.Sheets.{Sheet, AllOf, word_named}
use Rattle.papaya_map_book.specs.declared.rule.entry.Begun.{Begun}
use Rattle.papaya_map_book.specs.declared.rule.entry.Event.{Event}
use Rattle.papaya_map_book.specs.declared.rule.entry.Named.{Named as Entered}
use Rattle.papaya_words_law.specs.Exchange.{Word, Empty, Closed, Live, Marked, Copied, Buried, Setting}
use Rattle.papaya_words_law.specs.Code.{Coding, code}

-- words of a book are those of their keys
all_named : (b : Book) (ws : List Named) → AllOf b ws → ws ≡ map (word_named b) (map (λ (w : Named). w.key) ws)
all_named b [] a = refl
all_named b (w ∷ ws) a = λ i. a.0 i ∷ all_named b ws a.1 i

-- so they are the words that the observed sheet of the table names
pub seen_words : (view seen : Sheet) (ws : List Named) → view ≡ seen → view.slots ≡ map (λ (w : Named). w.key) ws → AllOf view.book ws
    → ws ≡ map (word_named seen.book) seen.slots
seen_words view seen ws same slots all = subst (λ (s : Sheet). ws ≡ map (word_named s.book) s.slots) same
    (all_named view.book ws all ∙ ap (map (word_named view.book)) (sym slots))

pub named_len : (b : Book) (ks : List ℕ) → length (map (word_named b) ks) ≡ length ks
named_len b [] = refl
named_len b (k ∷ ks) = ap suc (named_len b ks)

-- one of them
pub named_at : (b : Book) (ks : List ℕ) (i : ℕ) (x : Named) → i < length ks → x ≡ slice_index_or (map (word_named b) ks) i x → (k : ℕ)
    × (slice_get ks i ≡ Some k) × (x ≡ word_named b k)
named_at b [] i x l e = absurd (omega arith)
named_at b (k ∷ ks) zero x l e = (k, refl, e)
named_at b (k ∷ ks) (suc i) x l e = named_at b ks i x (omega arith) e

-- the low bits of a slot's word: its first three alone determine its kind
pub low_bits : {K P : Type 0} (g : Setting K P) (c : Coding K P) (w : Word P) → code g c w % 1024 < 8
low_bits g c Empty = omega arith
low_bits g c Closed = omega arith
low_bits g c (Live p) = let n = c.number p in omega arith
low_bits g c (Marked p) = let n = c.number p in omega arith
low_bits g c (Copied p) = let n = c.number p in omega arith
low_bits g c (Buried p) = let n = c.number p in omega arith

-- so of the word of a slot that was loaded
pub word_bits : {K V S : Type 0} {eq : K → K → Bool} {hash : S → K → ℕ} {b : Begun K V S} {t x found : ℕ} {log : List (Event K V S)}
    {state : Option (Entered K V)} → IsRead eq hash b (Slot t x) found log state → found % 1024 < 8
word_bits {eq = eq} {hash = hash} {b = b} {t = t} {x = x} {log = log} r = subst (λ (n : ℕ). n % 1024 < 8) r.is
    (low_bits (setting_of eq (hash b.hasher) b.mode b.limit log) (coding_of (hash b.hasher)) ((state_of log).slot t x))
