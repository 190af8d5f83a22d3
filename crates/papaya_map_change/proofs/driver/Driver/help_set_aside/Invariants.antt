use Rattle.std.proofs.Common.{◌≡◌}
use Rattle.papaya_call.specs.ChainMachine.{IsValid}
use Rattle.papaya_map_book.specs.Limits.{tables_of}
use Rattle.papaya_map_book.specs.Windows.{Observes}
use Rattle.papaya_map_change.specs.Window.Driver.{Continues}
use Rattle.papaya_map_change.proofs.HelpingArrives.{HasReached}
use Rattle.papaya_map_change.proofs.driver.Driver.help_set_aside.Given as goal

-- The call relies on what has been observed now, and the answers to its copy's asks have led it here.
abbrev pub invariant-loop : goal.invariant-loop
invariant-loop g l = record {
  sees : Observes l.fn.window l.window;
  valid : IsValid l.self.machine;
  goes_on : Continues l.fn.window l.fn.self l.window l.self;
  reached : HasReached l.fn.self.machine l.self.machine (tables_of l.window.sight.log) l.self.copier.given.done;
  rest : (l.self.taken ≡ l.fn.self.taken) × (l.self.put ≡ l.fn.self.put);
}
