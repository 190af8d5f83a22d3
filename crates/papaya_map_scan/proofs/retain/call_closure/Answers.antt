use Rattle.papaya_map_scan.proofs.retain.call_closure.Goals as goal

pub returns-clause-shown : goal.returns-clause-shown
returns-clause-shown g c = (c.entry.result.0, c.entry.result.1, c.entry.ensures, c.stays.ensures)
