-- A load that looks up a table by its number leaves the book unchanged, and returns the table.
use Rattle.std.proofs.Common.{◌≡◌, inr, inl, ℕ, Bool, true, Option, None, Some, List, [], ◌∷◌, ◌++◌, refl, sym, ap, ◌∙◌, subst}
use Rattle.std.proofs.lemmas.List.{append-nil}
use mathlib.Core.List.{IsPrefix}
use Rattle.boxcar.specs.Table.{Where}
use Rattle.logbook.specs.Pages.{Book, Cell, cell, keeps, no_nib, step, Moves}
use Rattle.papaya_call.specs.declared.ask.At.TheVariants.{Root}
use Rattle.papaya_words_law.specs.Code.{IsHashed}
use Rattle.papaya_map_book.specs.declared.rule.entry.Begun.{Begun}
use Rattle.papaya_map_book.specs.declared.rule.entry.Event.{Event}
use Rattle.papaya_map_book.specs.declared.rule.entry.Event.TheVariants.{Begin}
use Rattle.papaya_map_book.specs.declared.rule.entry.Named.{Named}
use Rattle.papaya_gate.specs.Paid.{Leaves}
use Rattle.papaya_map_book.specs.Calls.{HasCome}
use Rattle.papaya_map_book.specs.Changes.{is_change}
use Rattle.papaya_map_book.specs.Fetches.{Fetched, Fetches}
use Rattle.papaya_map_book.specs.Logs.{coding_of, name_in, place_of, setting_of, steps_of, table_in, table_named}
use Rattle.papaya_map_book.specs.Makers.{table_of}
use Rattle.papaya_map_book.specs.Rule.{AreCodes, IsLawfulLog, word_in}
use Rattle.papaya_map_book.specs.Sheets.{Sheet}
use Rattle.papaya_map_book.specs.Offer.{Answered, LeavesRow, Moved}
use Rattle.papaya_map_book.proofs.Changes.{changes_left}
use Rattle.papaya_map_book.proofs.Loaded.{IsFoundTable, found_table, table_since}
use Rattle.papaya_map_book.proofs.Loads.{row_still, same_cells, shows}
use Rattle.papaya_map_book.proofs.Names.{number_answer}
use Rattle.papaya_map_book.proofs.Tellings.{opened_with}

module _ {K V S : Type 0} (eq : K → K → Bool) (hash : S → K → ℕ) where
  -- the word that is loaded is the root
  pub fetches_moves : (v : List (Event K V S)) (ask : Event K V S) → LeavesRow ask
      → Moves (AreCodes eq hash) shows (Leaves is_change (Moved ask)) 0 (v, (no_nib, None)) (λ n. n) (Fetches eq hash (step 0 0 0 ask) (v, (no_nib, None)))
  fetches_moves v ask leaves cs log h pre away =
      let t = table_of (place_of ask) in
      let named = table_named (table_in (steps_of log) t) in
      let stands : cell cs 0 ≡ (word_in eq hash h.begun log Root, true) = h.coded Root 0 refl in
      let home : (cell cs 0).1 ≡ true = ap (λ (z : Cell). z.1) stands in
      let nil : log ++ [] ≡ log = append-nil log in
      let told : Answered log named = number_answer (setting_of eq (hash h.begun.hasher) h.begun.mode h.begun.limit log) log h.lawful.allowed t in (
        (h.counted Root 0 refl).0,
        home,
        (
          keeps,
          [],
          Some named,
          tt,
          subst (λ (z : List Cell × List (Event K V S)). AreCodes eq hash z.0 z.1) (λ i. (sym (same_cells cs 0 home) i, sym nil i)) h,
          inr (
            named,
            refl,
            refl,
            ((inl nil, subst (λ (l : List (Event K V S)). Answered l named) (sym nil) told, row_still ask log leaves), changes_left log [] refl),
          ),
          subst (λ (l : List (Event K V S)). Fetched eq hash t l (Some named)) (sym nil) (record { begun = h.begun; lawful = h.lawful; state_is = refl }),
        ),
      )

  module _ (b : Begun K V S) (log : List (Event K V S)) (began : IsPrefix (Begin b ∷ []) log) (t : ℕ) (state : Option (Named K V))
      (f : Fetched eq hash t log state) where
    -- the book was opened with the same parameters
    pub fetched_lawful : IsLawfulLog eq hash b log
    fetched_lawful = subst (λ (z : Begun K V S). IsLawfulLog eq hash z log) (opened_with eq hash b f.begun log began f.lawful) f.lawful

    -- a table that had come is the one returned
    pub fetched_told : (hashed : IsHashed (setting_of eq (hash b.hasher) b.mode b.limit log) (coding_of (hash b.hasher))) (name : Book)
        (called : name_in log ≡ Some name) (seen : List (Event K V S)) → IsPrefix seen log → HasCome seen t
        → IsFoundTable eq hash b log hashed name called t state
    fetched_told hashed name called seen since come =
        let here = table_since seen log t come.0.value since (come.0, come.1, refl) in
        let gained = f.state_is ∙ ap (λ (o : Option (Where Sheet)). Some (table_named o)) here.1 in
        found_table eq hash b log hashed name called t state here.0 fetched_lawful gained here.1
