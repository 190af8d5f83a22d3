use Rattle.std.proofs.Common.{rules, sym}
use Rattle.papaya_set.proofs.Kept.{callable}
use Rattle.papaya_set.proofs.KeptShared.{kept_since}
use Rattle.papaya_set.proofs.set.HashSet.retain_observed.Goals as goal

pub retain-answer-requires : goal.retain-answer-requires
retain-answer-requires g c = callable g.F.FnMut _ (λ w. w.0) (λ w w' key value agrees called. let met = called.met in search rules)
    (λ w key value always. search rules) _ c.requires

pub returns-clause-kept : goal.returns-clause-kept
returns-clause-kept g c right = rw c.tell.ensures.answer
    (rw c.tell.ensures.history (rw c.tell.ensures.made (rw (sym c.self.view_is)
    (rw (sym c.begun_session-session.ensures.seen) (kept_since g.F.FnMut _ (λ w. w.0) (λ w w' key value agrees called. let met = called.met in search rules)
    g.K.PartialEq.eq c.begun_session-session.result.history c.retain-answer.new.self.history _ _ _ c.retain-answer.result c.begun_session-session.ensures.made
    c.retain-answer.ensures.kept)))))
