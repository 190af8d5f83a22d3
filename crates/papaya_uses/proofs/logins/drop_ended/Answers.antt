use Rattle.std.proofs.Common.{◌≡◌, ◌∙◌, ltb, refl, ap}
use Rattle.papaya_uses.proofs.LoginLemmas.{drops_ended, ended_gone}
use Rattle.papaya_uses.proofs.logins.drop_ended.Goals as goal

pub returns-clause-gone : goal.returns-clause-gone
returns-clause-gone g c =
    ended_gone _ c.args.now c.args.logins.now.history c.retain.new.self.history _ _ _ c.retain.result
    c.retain.ensures.kept (λ f. f.0.now ≡ c.args.now) refl
    (λ f key login stays g is called. (ap (λ z. z.now) called.met.0 ∙ is, called.met.1 ∙ ap (λ u. ltb u login.now.until) is))

pub returns-clause-made : goal.returns-clause-made
returns-clause-made g c =
    drops_ended _ c.args.now c.args.logins.now.history c.retain.new.self.history _ _ _ c.retain.result
    c.retain.ensures.kept (λ f. f.0.now ≡ c.args.now) refl
    (λ f key login stays g is called. (ap (λ z. z.now) called.met.0 ∙ is, called.met.1 ∙ ap (λ u. ltb u login.now.until) is))
