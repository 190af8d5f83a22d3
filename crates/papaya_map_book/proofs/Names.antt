-- The pair or the table that a word names was brought into the book by some event.
use Rattle.std.proofs.Common.{◌≡◌, ◌⊎◌, inl, inr, ⊎_elim, ℕ, Option, None, Some, List, [], ◌∷◌, map, refl, sym, ap, ◌∙◌}
use Rattle.boxcar.specs.Table.{Where}
use Rattle.papaya_call.specs.declared.ask.At.{At}
use Rattle.papaya_call.specs.declared.ask.At.TheVariants.{Root, Next, Aborted, Done, Slot, Made}
use Rattle.papaya_words_law.specs.Exchange.{Word, Closed, Live, Marked, Copied, Buried, Setting, State, after, run, slot_put, start}
use Rattle.papaya_words_law.specs.Allows.{Allows, AllAllowed}
use Rattle.papaya_words_law.specs.Grows.{exchanges}
use Rattle.papaya_words_law.specs.Invariant.{named}
use Rattle.papaya_words_law.proofs.Slots.{slot_cases}
use Rattle.papaya_map_book.specs.Sheets.{Sheet}
use Rattle.papaya_map_book.specs.declared.rule.entry.Named.TheVariants as names
use Rattle.papaya_map_book.specs.declared.rule.entry.Step.{Step}
use Rattle.papaya_map_book.specs.declared.rule.entry.Step.TheVariants as steps
use Rattle.papaya_map_book.specs.declared.rule.entry.Event.{Event}
use Rattle.papaya_map_book.specs.Logs.{Stored, Entered, comes, entry_of, exchange_of, exchanges_of}
use Rattle.papaya_map_book.specs.Logs.{pair_named, state_of, steps_of, table_in, table_named}
use Rattle.papaya_map_book.specs.Logs.{word_names}
use Rattle.papaya_map_book.specs.Offer.{Answered}
use Rattle.papaya_map_book.proofs.Logs.{Came, came_entered, table_came}

module _ {K V : Type 0} (g : Setting K (Stored K V)) where
  -- some slot names the pair
  abbrev pub Stands : State (Stored K V) → Stored K V → Type 0
  Stands s p = (t : ℕ) × (x : ℕ) × (named (s.slot t x) ≡ Some p)

  -- a slot names a pair after a put if one named it before, or if it is the pair that was put
  put_stands : (s : State (Stored K V)) (t x : ℕ) (w : Word (Stored K V)) (p : Stored K V) → Stands (slot_put s t x w) p → Stands s p ⊎ (named w ≡ Some p)
  put_stands s t x w p h = ⊎_elim (λ i. inl (h.0, h.1, ap named (sym i.0) ∙ h.2)) (λ i. inr (ap named (sym i.2) ∙ h.2)) (slot_cases s t x w h.0 h.1)

  -- the same if the word that was put names the pair that was there
  put_same : (s : State (Stored K V)) (t x u y : ℕ) (w : Word (Stored K V)) (p : Stored K V) → named (s.slot u y) ≡ named w
      → Stands (slot_put s t x w) p → Stands s p
  put_same s t x u y w p e h = ⊎_elim (λ i. i) (λ i. (u, y, e ∙ i)) (put_stands s t x w p h)

  -- a slot names a pair after an exchange if one named it before, or the pair comes with it
  stands_after : (s : State (Stored K V)) (e : Step K V) → Allows g s (exchange_of e) → (p : Stored K V) → Stands (after s (exchange_of e)) p
      → Stands s p ⊎ (comes e ≡ names.Pair p)
  stands_after s (steps.Open w) a p h = inl h
  stands_after s (steps.Claim t x q) a p h = ⊎_elim (λ i. inl i) (λ i. inr (cc i)) (put_stands s t x (Live q) p h)
  stands_after s (steps.Replace t x q r) a p h = ⊎_elim (λ i. inl i) (λ i. inr (cc i)) (put_stands s t x (Live r) p h)
  stands_after s (steps.Bury t x q) a p h = inl (put_same s t x t x (Buried q) p (ap named a.live) h)
  stands_after s (steps.Link t w) a p h = inl h
  stands_after s (steps.Mark t x q) a p h = inl (put_same s t x t x (Marked q) p (ap named a.live) h)
  stands_after s (steps.Close t x) a p h = inl (put_same s t x t x Closed p (ap named a.empty) h)
  stands_after s (steps.Place t x q) a p h = inl
      (put_same s t x a.source.from a.source.slot (Live q) p (⊎_elim (λ i. ap named i) (λ i. ap named i) a.source.stood) h)
  stands_after s (steps.Finish t x q) a p h = inl (put_same s t x t x (Copied q) p (ap named a.marked) h)
  stands_after s (steps.Advance t c) a p h = inl h
  stands_after s (steps.Promote t n) a p h = inl h
  stands_after s (steps.Abort t) a p h = inl h
  stands_after s (steps.Take m) a p h = inl h

  -- a slot names a pair after a list of exchanges if one named it before, or the pair came with it
  stands_came : (es : List (Step K V)) (s : State (Stored K V)) → AllAllowed g s (exchanges (map entry_of es)) → (p : Stored K V)
      → Stands (run (exchanges (map entry_of es)) s) p → Stands s p ⊎ Came (names.Pair p) es
  stands_came [] s a p h = inl h
  stands_came (e ∷ es) s a p h =
      ⊎_elim
      (λ i. ⊎_elim (λ j. inl j) (λ j. inr (inl j)) (stands_after s e a.0 p i))
      (λ i. inr (inr i))
      (stands_came es (after s (exchange_of e)) a.1 p h)

  none_stands : (p : Stored K V) → Stands start p → ⊥
  none_stands p h = let e = h.2 in cc e

  pub pair_came : (es : List (Step K V)) → AllAllowed g start (exchanges (map entry_of es)) → (p : Stored K V) (t x : ℕ)
      → named ((run (exchanges (map entry_of es)) start).slot t x) ≡ Some p → Came (names.Pair p) es
  pair_came es a p t x e = ⊎_elim (λ i. absurd (none_stands p i)) (λ i. i) (stands_came es start a p (t, x, e))

-- the pair or table that a word names is a correct answer
module _ {K V S : Type 0} (g : Setting K (Stored K V)) (log : List (Event K V S)) (allowed : AllAllowed g start (exchanges_of log)) where
  pair_answer : (o : Option (Stored K V)) → ((p : Stored K V) → o ≡ Some p → Entered (names.Pair p) log) → Answered log (pair_named o)
  pair_answer None h = tt
  pair_answer (Some p) h = h p refl

  table_answer : (o : Option (Where Sheet)) → ((w : Where Sheet) → o ≡ Some w → Entered (names.Table w) log) → Answered log (table_named o)
  table_answer None h = tt
  table_answer (Some w) h = h w refl

  table_entered : (t : ℕ) (w : Where Sheet) → table_in (steps_of log) t ≡ Some w → Entered (names.Table w) log
  table_entered t w e = came_entered (names.Table w) log (table_came (steps_of log) t w e).0

  pub word_answer : (at : At) → Answered log (word_names (steps_of log) (state_of log) at)
  word_answer Root = table_answer (table_in (steps_of log) (state_of log).root) (table_entered (state_of log).root)
  word_answer (Next t) = table_answer (table_in (steps_of log) ((state_of log).next t)) (table_entered ((state_of log).next t))
  word_answer (Aborted t) = tt
  word_answer (Done t c) = tt
  word_answer Made = tt
  word_answer (Slot t x) = pair_answer (named ((state_of log).slot t x)) (λ p e. came_entered (names.Pair p) log (pair_came g (steps_of log) allowed p t x e))

  -- so is a table that has come
  pub number_answer : (t : ℕ) → Answered log (table_named (table_in (steps_of log) t))
  number_answer t = table_answer (table_in (steps_of log) t) (table_entered t)
