use Rattle.std.proofs.Common.{◌≡◌, ◌==◌, ◌∙◌, Ok, Err, None, Some, rules, refl, ap}
use Rattle.papaya_uses.proofs.SessionLemmas.{none_out, other_out, signed_out}
use Rattle.papaya_uses.proofs.sessions.sign_out.Goals as goal

pub returns-in-Ok-Ok-Some-clause-taken : goal.returns-in-Ok-Ok-Some-clause-taken
returns-in-Ok-Ok-Some-clause-taken g c =
    let is : c.remove_if-removed.result ≡ Ok (Ok (Some c.in-Ok-Ok-Some.field-0-0-0)) = search rules in
    signed_out _ c.args.token c.args.user c.args.desk.now.history c.remove_if-removed.new.self.history _ c.remove_if-removed.result
    c.remove_if-removed.ensures.removed (λ f. f.0.now ≡ c.args.user) refl
    (λ f key value agrees g is called. (ap (λ z. z.now) called.met.0 ∙ is, called.met.1 ∙ ap (λ u. value.now == u) is)) c.in-Ok-Ok-Some.field-0-0-0 is

pub returns-in-Ok-Ok-None-clause-taken : goal.returns-in-Ok-Ok-None-clause-taken
returns-in-Ok-Ok-None-clause-taken g c =
    let is : c.remove_if-removed.result ≡ Ok (Ok None) = search rules in
    none_out _ c.args.token c.args.user c.args.desk.now.history c.remove_if-removed.new.self.history _ c.remove_if-removed.result
    c.remove_if-removed.ensures.removed (λ f. f.0.now ≡ c.args.user) refl
    (λ f key value agrees g is called. (ap (λ z. z.now) called.met.0 ∙ is, called.met.1 ∙ ap (λ u. value.now == u) is)) is

pub returns-in-Ok-Err-clause-taken : goal.returns-in-Ok-Err-clause-taken
returns-in-Ok-Err-clause-taken g c =
    let is : c.remove_if-removed.result ≡ Ok (Err c.in-Ok-Err.field-0-0) = search rules in
    other_out _ c.args.token c.args.user c.args.desk.now.history c.remove_if-removed.new.self.history _ c.remove_if-removed.result
    c.remove_if-removed.ensures.removed (λ f. f.0.now ≡ c.args.user) refl
    (λ f key value agrees g is called. (ap (λ z. z.now) called.met.0 ∙ is, called.met.1 ∙ ap (λ u. value.now == u) is)) c.in-Ok-Err.field-0-0 is
