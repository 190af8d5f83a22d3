use Rattle.papaya_map_book.proofs.window.Window.copy_root.Goals as goal

pub returns-clause-tried : goal.returns-clause-tried
returns-clause-tried g c = (c.exchange-found.result.1.state, c.exchange-found.ensures.tried)
