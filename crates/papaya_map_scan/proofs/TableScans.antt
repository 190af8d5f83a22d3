-- Facts about a table and about a closure that stay true, whatever is observed next.
use Rattle.std.proofs.Common.{ℕ, zero, suc, ◌+◌, ◌-◌, ◌<◌, ◌≤◌, Bool, MatchOption, Option, None, Some, List, [], ◌∷◌, length, map, slice_get, slice_index_or, ◌≡◌, refl, sym, ap, ◌∙◌, subst, arith}
use mathlib.Core.List.{IsPrefix}
use denote.Bor.{Bor}
use Rattle.logbook.specs.Pages.{Named as Word}
use Rattle.papaya_map_book.specs.declared.book.Book.{Book}
use Rattle.papaya_map_book.specs.declared.keyed.Keyed as keyed
use Rattle.papaya_map_book.specs.declared.rule.entry.Begun.{Begun}
use Rattle.papaya_map_book.specs.declared.rule.entry.Event.{Event}
use Rattle.papaya_map_book.specs.declared.rule.entry.Step.{Step}
use Rattle.papaya_map_book.specs.declared.window.Window.{Window}
use Rattle.papaya_map_book.specs.Calls as calls
use Rattle.papaya_map_book.specs.Logs.{Stored, steps_of}
use Rattle.papaya_map_book.specs.Parts.{begun_of}
use Rattle.papaya_map_book.specs.Sheets.{Sheet, word_named}
use Rattle.papaya_map_book.specs.Windows.{IsTable, Sees}
use Rattle.papaya_map_book.proofs.Loaded.{table_since}
use Rattle.papaya_map_book.proofs.Logs.{prefix_trans, table_came}
use Rattle.papaya_map_lookup.specs.Drivers.{own, past}
use Rattle.papaya_map_lookup.specs.History.{Change, IsLegalHistory, changes_by, history_of, key_of}
use Rattle.papaya_map_lookup.specs.Lookups.{IsSlotAt}
use Rattle.papaya_map_lookup.proofs.Histories.{history_since}
use Rattle.papaya_map_lookup.proofs.Slots.{named_len}
use Rattle.papaya_map_scan.specs.Leaving as leaving
use Rattle.papaya_map_scan.specs.TableScans.{HasCalled, IsTaken, IsTakenAt, Scans}
use Rattle.papaya_map_scan.specs.Taking as taking
use Rattle.papaya_map_scan.specs.Walked.{AreLast, ArePassed, Gives, HadEntry, IsLeft, LeavesNone, Walked, Walks, with_found}
use Rattle.papaya_map_scan.proofs.Taken.{scanned_later, taken_later}
use Rattle.papaya_map_scan.proofs.Scanning.{shown_later}

-- a table that has come has a number above 0
pub number_some : {K V S : Type 0} (log : List (Event K V S)) (t : ℕ) (sheet : Sheet) → calls.IsTable log t sheet → 0 < t
number_some log t sheet h = let number = (table_came (steps_of log) t h.0 h.1).1 in omega (arith, number)

module _ {K V S H : Type 0} {d : keyed.Ghosts S K H} where
  pub table_on : (w w' : Window K V S H d) (t : ℕ) (sheet : Sheet) → Sees w w' → IsTable w t sheet → IsTable w' t sheet
  table_on w w' t sheet sees h = table_since w.sight.log w'.sight.log t sheet sees.log h

  pub taken_on : (began : List (Event K V S)) (w w' : Window K V S H d) (t : ℕ) → Sees w w' → IsTaken began w t → IsTaken began w' t
  taken_on began w w' t sees h =
      subst (λ (z : Bor (Book K V S H)). taking.IsTaken (begun_of z.now.parts) began w'.sight.log t) (sym sees.book)
      (taken_later (begun_of w.book.now.parts) began w.sight.log w'.sight.log t h sees.log)

  pub taken_at_on : (began : List (Event K V S)) (w w' : Window K V S H d) (t : ℕ) (at : List (Event K V S)) → Sees w w' → IsTakenAt began w t at
      → IsTakenAt began w' t at
  taken_at_on began w w' t at sees h =
      let later : taking.IsTakenAt (begun_of w.book.now.parts) began w'.sight.log t
      at = record { since = h.since; until = prefix_trans at w.sight.log w'.sight.log h.until sees.log; root = h.root; some = h.some; last = h.last } in
      subst (λ (z : Bor (Book K V S H)). taking.IsTakenAt (begun_of z.now.parts) began w'.sight.log t at) (sym sees.book) later

  module _ {F : Type 0} (began : List (Event K V S)) (judges : F → Stored K V → Bool → F → Type 0) where
    -- the calls of the closure so far, over a longer log
    pub shown_on : (w w' : Window K V S H d) → Sees w w' → w'.own.done ≡ w.own.done
        → (made : List (Change K (Stored K V))) (first f : F) (said : List (Stored K V × Bool)) → HasCalled began judges made w first f said
        → HasCalled began judges made w' first f said
    shown_on w w' sees same made first f said h =
        subst (λ (done : List (Step K V)). leaving.HasCalled d.keys.eq (history_of began) (past w') made (changes_by done) judges first f said) (sym same)
        (shown_later d.keys.eq judges (history_of began) (past w) made (own w) first f said h (past w') (history_since w.sight.log w'.sight.log sees.log))

    module _ (t : ℕ) where
      -- a scan that begins, one over a longer log, and one after another
      pub scans_none : (w : Window K V S H d) (f : F) (from : ℕ) → Scans began judges w f w f t from from (Unit {0})
      scans_none w f from first made said h = (said, h, λ e at taken scanned. scanned)

      pub scans_on : (w w' w'' : Window K V S H d) (f f' : F) (from upto : ℕ) (ended : Type 0) → Scans began judges w f w' f' t from upto ended
          → Sees w' w'' → w''.own.done ≡ w'.own.done → Scans began judges w f w'' f' t from upto ended
      scans_on w w' w'' f f' from upto ended v sees same first made said h =
          let one = v first made said h in (
            one.0,
            shown_on w' w'' sees same made first f' one.0 one.1,
            λ e at taken scanned.
                scanned_later at w'.sight.log w''.sight.log sees.log t upto one.0 (one.2 e at taken scanned),
          )

      pub scans_then : (w w' w'' : Window K V S H d) (f f' f'' : F) (from mid upto : ℕ) (ended : Type 0)
          → Scans began judges w f w' f' t from mid (Unit {0}) → Sees w w' → Scans began judges w' f' w'' f'' t mid upto ended
          → Scans began judges w f w'' f'' t from upto ended
      scans_then w w' w'' f f' f'' from mid upto ended v sees v' first made said h =
          let one = v first made said h in
          let two = v' first made one.0 one.1 in
          (two.0, two.1, λ e at taken scanned. two.2 e at (taken_at_on began w w' t at sees taken) (one.2 tt at taken scanned))

      -- the same, if the condition on its end is stronger, or is never met
      pub scans_ended : (w w' : Window K V S H d) (f f' : F) (from upto : ℕ) (ended other : Type 0) → (other → ended)
          → Scans began judges w f w' f' t from upto ended → Scans began judges w f w' f' t from upto other
      scans_ended w w' f f' from upto ended other so v first made said h =
          let one = v first made said h in (one.0, one.1, λ e at taken scanned. one.2 (so e) at taken scanned)

      pub scans_stopped : (w w' : Window K V S H d) (f f' : F) (from mid upto : ℕ) (ended other : Type 0) → (other → ⊥)
          → Scans began judges w f w' f' t from mid ended → Scans began judges w f w' f' t from upto other
      scans_stopped w w' f f' from mid upto ended other never v first made said h =
          let one = v first made said h in (one.0, one.1, λ e. absurd (never e))

-- a slot that is left of a table, over a longer log
slot_later : {K V S : Type 0} (log log' : List (Event K V S)) (t x : ℕ) (word : Word) → IsPrefix log log' → IsSlotAt log t x word → IsSlotAt log' t x word
slot_later log log' t x word pre h = (h.0, table_since log log' t h.0 pre h.1, h.2, h.3, h.4)

pub last_later : {K V S : Type 0} (log log' : List (Event K V S)) (t len : ℕ) (words : List Word) → IsPrefix log log' → AreLast log t len words
    → AreLast log' t len words
last_later log log' t len [] pre h = tt
last_later log log' t len (word ∷ words) pre (most, here, after) = (
  most,
  slot_later log log' t (len - suc (length words)) word pre here,
  last_later log log' t len words pre after,
)

-- each of them by its place
last_at : {K V S : Type 0} (log : List (Event K V S)) (t len : ℕ) (words : List Word) → AreLast log t len words → (i : ℕ) (x : Word) → i < length words
    → x ≡ slice_index_or words i x → IsSlotAt log t (len - length words + i) x
last_at log t len [] h i x less is = absurd (omega (arith, less))
last_at log t len (word ∷ words) (most, here, after) zero x less is =
    let place : len - suc (length words) ≡ len - suc (length words) + 0 = omega arith in
    subst (λ (n : ℕ). IsSlotAt log t n x) place (subst (λ (z : Word). IsSlotAt log t (len - suc (length words)) z) (sym is) here)
last_at log t len (word ∷ words) (most, here, after) (suc i) x less is =
    let place : len - length words + i ≡ len - suc (length words) + suc i = omega (arith, most) in
    subst (λ (n : ℕ). IsSlotAt log t n x) place (last_at log t len words after i x (omega (arith, less)) is)

pub slot_at : {K V S : Type 0} (log : List (Event K V S)) (t : ℕ) (words : List Word) → AreLast log t (length words) words → (i : ℕ) (x : Word)
    → i < length words → x ≡ slice_index_or words i x → IsSlotAt log t i x
slot_at log t words h i x less is =
    let place : length words - length words + i ≡ i = omega arith in
    subst (λ (n : ℕ). IsSlotAt log t n x) place (last_at log t (length words) words h i x less is)

-- the slots of a table that are its last ones
module _ {K V S : Type 0} (log : List (Event K V S)) (t : ℕ) (sheet : Sheet) (h : calls.IsTable log t sheet) where
  are_last : (keys : List ℕ) → length keys ≤ length sheet.slots
      → ((i : ℕ) → slice_get sheet.slots (length sheet.slots - length keys + i) ≡ slice_get keys i)
      → AreLast log t (length sheet.slots) (map (word_named sheet.book) keys)
  are_last [] most same = tt
  are_last (k ∷ ks) most same =
      let named = named_len sheet.book ks in
      let here : length sheet.slots - suc (length (map (word_named sheet.book) ks)) ≡ length sheet.slots - suc (length ks) + 0 = omega (arith, named) in
      let next : (i : ℕ) → length sheet.slots - suc (length ks) + suc i ≡ length sheet.slots - length ks + i = λ i. omega (arith, most) in (
        omega (arith, named, most),
        (sheet, h, k, ap (slice_get sheet.slots) here ∙ same 0, refl),
        are_last ks (omega (arith, most)) (λ i. ap (slice_get sheet.slots) (sym (next i)) ∙ same (suc i)),
      )

  pub all_last : AreLast log t (length sheet.slots) (map (word_named sheet.book) sheet.slots)
  all_last = are_last sheet.slots (omega arith) (λ i. ap (slice_get sheet.slots) (omega arith))

-- an iteration begins with all slots of the root, or with none
pub all_left : {K V S : Type 0} (eq : K → K → Bool) (b : Begun K V S) (began log : List (Event K V S)) (t : ℕ) (sheet : Sheet) (words : List Word)
    → IsPrefix began log → calls.IsTable log t sheet → taking.IsTaken b began log t → words ≡ map (word_named sheet.book) sheet.slots
    → ArePassed eq b began log t 0 (length sheet.slots) [] → IsLeft eq b began log t words 0 []
all_left eq b began log t sheet words pre h taken is passed =
    let size = named_len sheet.book sheet.slots in
    let all = subst (λ (n : ℕ). AreLast log t n (map (word_named sheet.book) sheet.slots)) (sym size) (all_last log t sheet h) in
    subst (λ (ws : List Word). IsLeft eq b began log t ws 0 []) (sym is) (record {
      since = pre;
      last = all;
      taken = λ some. taken;
      passed = subst (λ (n : ℕ). ArePassed eq b began log t 0 n []) (sym size) passed;
    })

pub none_left : {K V S : Type 0} (eq : K → K → Bool) (b : Begun K V S) (began log : List (Event K V S)) → IsPrefix began log
    → ArePassed eq b began log 0 0 0 [] → IsLeft eq b began log 0 [] 0 []
none_left eq b began log pre passed = record { since = pre; last = tt; taken = λ some. absurd (omega (arith, some)); passed = passed }

-- the next result of an iteration, after another one
pub gives_next : {K V : Type 0} (eq : K → K → Bool) (before after : Walked K V) → Walks eq before after → (L : Type 0)
    → (L → IsLegalHistory eq key_of after.history) → (found : Option (Bor K × Bor V)) → after.given ≡ with_found before.given found
    → MatchOption found (Unit {0}) (λ entry. L)
    → MatchOption found (Unit {0}) (λ entry. HadEntry eq before.began after.history entry)
    → MatchOption found (LeavesNone eq after) (λ entry. Unit {0})
    → Gives eq before found after
gives_next eq before after walks L legal None given lawful had leaves = (walks, given, leaves)
gives_next eq before after walks L legal (Some entry) given lawful had leaves = (walks, had, legal lawful, given)
