-- The key and the value of a call that inserts: as they were passed in, or those of a pair that is stored in the arena.
use Rattle.std.proofs.Common.{◌≡◌, ⊎_elim, ℕ, Option, None, Some, refl, sym, ◌∙◌}
use Rattle.logbook.specs.Pages.{Book as Name}
use Rattle.papaya_map_book.specs.declared.book.Book.{Book}
use Rattle.papaya_map_book.specs.declared.book.pairs.KeyPart.{KeyPart}
use Rattle.papaya_map_book.specs.declared.book.pairs.KeyPart.TheVariants as keys
use Rattle.papaya_map_book.specs.declared.book.pairs.ValuePart.{ValuePart}
use Rattle.papaya_map_book.specs.declared.book.pairs.ValuePart.TheVariants as values
use Rattle.papaya_call.specs.declared.ask.Answer.{Answer}
use Rattle.papaya_call.specs.declared.ask.Answer.TheVariants.{Made}
use Rattle.papaya_map_book.specs.declared.rule.entry.Begun.{Begun}
use Rattle.papaya_map_book.specs.Logs.{Stored}
use Rattle.papaya_map_book.specs.PairParts.{IsKeyPartIn, IsValuePartIn, key_in}
use Rattle.papaya_map_book.specs.Parts.{begun_of}
use Rattle.papaya_map_lookup.specs.History.{key_of}
use Rattle.papaya_map_change.specs.Writing.{HasKey, IsKeyPlaced, IsNotStored, IsValuePlaced}

module _ {K V S H : Type 0} (book : Book K V S H) (name : Name) where
  -- a part that is stored in the arena may become a part of a pair
  pub key_in_book : (part : KeyPart K V) → IsKeyPlaced (begun_of book.parts) name part → IsKeyPartIn book part
  key_in_book (keys.Own k) h = tt
  key_in_book (keys.Of p) h = (h.0, h.1)

  pub value_in_book : (part : ValuePart K V) → IsValuePlaced (begun_of book.parts) name part → IsValuePartIn book part
  value_in_book (values.Own v) h = tt
  value_in_book (values.Of p) h = (h.0, h.2)

-- the key of a pair that was stored in the arena with a call's key
pub own_key : {K V S : Type 0} (b : Begun K V S) (name : Name) (key : K) (own : Option (KeyPart K V)) → HasKey b name key own → (q : Stored K V)
    → ((part : KeyPart K V) → own ≡ Some part → key_of q ≡ key_in part) → key_of q ≡ key
own_key b name key None h q is = absurd h
own_key b name key (Some part) h q is = is part refl ∙ h.0

-- if no pair was stored in the arena, none was made
pub unlogged_unmade : {X : Type 0} (answer : Answer) → IsNotStored answer → (n : ℕ) → answer ≡ Made n → X → ⊥
unlogged_unmade answer unlogged n e x = ⊎_elim
    (λ refused. ⊎_elim (λ memory. let f = sym memory ∙ e in cc f) (λ full. let f = sym full ∙ e in cc f) refused)
    (λ none. let f = sym none ∙ e in cc f) unlogged
