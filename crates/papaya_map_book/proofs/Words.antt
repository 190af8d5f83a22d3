-- The words of a table in the log: their keys, and the book to which they belong. Also the attempts
-- since an earlier log.
use Rattle.std.proofs.Common.{◌≡◌, ℕ, Bool, Option, Some, List, [], ◌∷◌, slice_get, sym, ap, ◌∙◌, subst}
use mathlib.Core.List.{IsPrefix}
use Rattle.logbook.specs.Pages.{Book, Named as Word}
use Rattle.papaya_call.specs.declared.ask.At.{At}
use Rattle.papaya_call.specs.declared.ask.At.TheVariants.{Next, Aborted, Done, Slot}
use Rattle.papaya_call.specs.declared.ask.StepKind.{StepKind}
use Rattle.papaya_map_book.specs.declared.rule.entry.Begun.{Begun}
use Rattle.papaya_map_book.specs.declared.rule.entry.Event.{Event}
use Rattle.papaya_map_book.specs.declared.rule.entry.Event.TheVariants.{Begin}
use Rattle.papaya_map_book.specs.declared.rule.entry.Named.{Named}
use Rattle.papaya_map_book.specs.Calls.{IsTable, IsTried}
use Rattle.papaya_map_book.specs.Logs.{Stored, first_in, in_table, key_at, name_in, steps_of}
use Rattle.papaya_map_book.specs.Rule.{IsLawfulLog}
use Rattle.papaya_map_book.specs.Sheets.{Sheet, word_named}
use Rattle.papaya_map_book.proofs.Loaded.{next_key, slot_key, table_book, table_since}
use Rattle.papaya_map_book.proofs.Logs.{name_since, prefix_trans}
use Rattle.papaya_map_book.proofs.Tellings.{first_prefix, opened_with}

module _ {K V S : Type 0} (eq : K → K → Bool) (hash : S → K → ℕ) (b : Begun K V S) (first v : List (Event K V S))
    (begins : first_in first ≡ Some (Begin b)) (learned : IsPrefix first v) (name : Book) (named : name_in first ≡ Some name)
    (b' : Begun K V S) (held : IsLawfulLog eq hash b' v) (seen : List (Event K V S)) (since : IsPrefix seen v) (t : ℕ) (sheet : Sheet)
    (is : IsTable seen t sheet) where
  -- the table has come in this log
  pub came : IsTable v t sheet
  came = table_since seen v t sheet since is

  lawful : IsLawfulLog eq hash b v
  lawful = subst (λ (z : Begun K V S). IsLawfulLog eq hash z v)
      (opened_with eq hash b b' v (prefix_trans (Begin b ∷ []) first v (first_prefix (Begin b) first begins) learned) held) held

  book : sheet.book ≡ name
  book = table_book eq hash b v name lawful (name_since first v name learned named) t sheet came

  module _ (w : Word) (k : ℕ) (at : w ≡ word_named sheet.book k) where
    -- its words are of the book
    pub word_there : w ≡ word_named name w.key
    word_there = at ∙ (ap (λ (z : Book). word_named z k) book ∙ ap (word_named name) (sym (ap (λ (z : Word). z.key) at)))

    key_there : Some k ≡ Some w.key
    key_there = ap (λ (z : Word). Some z.key) (sym at)

  pub next_there : (w : Word) → w ≡ word_named sheet.book sheet.next → key_at (steps_of v) (Next t) ≡ Some w.key
  next_there w at = next_key v t sheet came ∙ key_there w sheet.next at

  pub aborted_there : (w : Word) → w ≡ word_named sheet.book sheet.seal → key_at (steps_of v) (Aborted t) ≡ Some w.key
  aborted_there w at = ap (in_table (λ s. Some s.seal)) came.1 ∙ (ap (λ (s : Sheet). Some s.seal) came.2 ∙ key_there w sheet.seal at)

  pub done_there : (w : Word) (c k : ℕ) → slice_get sheet.done c ≡ Some k → w ≡ word_named sheet.book k → key_at (steps_of v) (Done t c) ≡ Some w.key
  done_there w c k get at = ap (in_table (λ s. slice_get s.done c)) came.1 ∙ (ap (λ (s : Sheet). slice_get s.done c) came.2 ∙ (get ∙ key_there w k at))

  pub slot_there : (w : Word) (x k : ℕ) → slice_get sheet.slots x ≡ Some k → w ≡ word_named sheet.book k → key_at (steps_of v) (Slot t x) ≡ Some w.key
  slot_there w x k get at = slot_key v t x k sheet came get ∙ key_there w k at

-- an attempt after a longer observed log is one after a shorter one
pub tried_since : {K V S : Type 0} (eq : K → K → Bool) (hash : S → K → ℕ) (b : Begun K V S) (at : At) (kind : Option StepKind) (old new : ℕ)
    (made : Option (Stored K V)) (brings : Named K V) (seen v : List (Event K V S)) (found : ℕ) (log : List (Event K V S)) (state : Option (Named K V))
    → IsPrefix seen v → IsTried eq hash b at kind old new made brings v found log state → IsTried eq hash b at kind old new made brings seen found log state
tried_since eq hash b at kind old new made brings seen v found log state pre t =
    record {
      before = t.before;
      since = prefix_trans seen v t.before pre t.since;
      lawful = t.lawful;
      now = t.now;
      is = t.is;
      state_is = t.state_is;
      after = t.after;
    }
