-- A removal that was set aside is the same after the copy: its closure was not called meanwhile.
use Rattle.std.proofs.Common.{◌≡◌, ℕ, Bool, None, Some, List, [], append-nil, ◌∙◌}
use mathlib.Core.List.{IsPrefix}
use Rattle.logbook.specs.Pages.{Book}
use Rattle.papaya_call.specs.declared.chain.machine.Phase.TheVariants.{Calling}
use Rattle.papaya_call_law.specs.Says.{Agrees}
use Rattle.papaya_map_book.specs.declared.rule.entry.Begun.{Begun}
use Rattle.papaya_map_book.specs.declared.rule.entry.Event.{Event}
use Rattle.papaya_map_book.specs.Limits.{tables_of}
use Rattle.papaya_map_book.specs.Logs.{Stored}
use Rattle.papaya_map_book.proofs.Lengths.{tables_since}
use Rattle.papaya_map_lookup.specs.History.{history_of}
use Rattle.papaya_map_lookup.proofs.Histories.{history_since}
use Rattle.papaya_map_change.specs.declared.driver.Driver.{Driver}
use Rattle.papaya_map_change.specs.declared.removal.Removal.{Removal}
use Rattle.papaya_map_change.specs.Changing.{IsDriven}
use Rattle.papaya_map_change.specs.Helping.{HasHelped}
use Rattle.papaya_map_change.specs.Removing.{IsRemoving}
use Rattle.papaya_map_change.specs.ClosureCalls.{WasHeld}
use Rattle.papaya_map_change.proofs.Helped.{helped_keeps, refuses_kept, room_kept}
use Rattle.papaya_map_change.proofs.ClosureCalls.{all_shown, held_wider}

module _ {K V S H F : Type 0} (eq : K → K → Bool) (hash : S → K → ℕ) (b : Begun K V S) (name : Book) (matches : K → Bool) (fed : ℕ)
    (judges : F → Stored K V → Bool → F → Type 0) (first : F) (begun log log' : List (Event K V S)) (x : Removal K V S H) (f : F)
    (r : IsRemoving eq hash b name matches fed judges first begun log x f) (c : Driver K V S H) where
  pub removing_helped : IsPrefix log log' → IsDriven eq hash b name matches fed None begun log' [] c → c.machine.phase ≡ Calling
      → (x.call.machine.phase ≡ Calling → c ≡ x.call) → HasHelped x.call.machine c.machine (tables_of log') c.copier.given.done
      → IsRemoving eq hash b name matches fed judges first begun log' (record x { call = c }) f
  removing_helped pre driven calling still helped =
      let k = helped_keeps x.call.machine c.machine (tables_of log') c.copier.given.done helped in
      record {
        calling = driven;
        task_is = k.task ∙ r.task_is;
        words = k.shows r.words;
        shown_placed = r.shown_placed;
        said = r.said;
        has_said = r.has_said;
        held = all_shown (λ p. WasHeld eq matches (history_of begun) (history_of log) (Some p))
            (λ p. WasHeld eq matches (history_of begun) (history_of log') (Some p))
            (λ p h. held_wider eq matches (history_of begun) (history_of begun) (history_of log) (history_of log') ([], append-nil (history_of begun))
            (history_since log log' pre) (Some p) h) r.said r.held;
        stood = λ n agrees stands. r.stood n agrees (k.stands (Agrees n agrees) stands);
        refuses = refuses_kept x.call c (tables_of log') calling still helped r.refuses;
        crowded = room_kept x.call c (tables_of log') calling still helped (tables_of log) (tables_since log log' pre) r.crowded;
      }
