use Rattle.papaya_map.proofs.session.Session.update_or_insert_with.Goals as goal

pub returns-clause-upserted : goal.returns-clause-upserted
returns-clause-upserted g c = c.upsert.ensures.upserted
