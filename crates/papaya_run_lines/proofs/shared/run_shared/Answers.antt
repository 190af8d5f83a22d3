use Rattle.std.proofs.Common.{◌≡◌, sym, subst}
use Rattle.std.specs.Io.KnownBytes.{Appends}
use Rattle.papaya_run_lines.specs.Program.{ShowsLine}
use Rattle.papaya_run_lines.specs.Shared.{IsBad, IsBegun}
use Rattle.papaya_run_lines.specs.declared.shared.Caller.{Caller}
use Rattle.papaya_run_lines.proofs.RunLemmas.{known_as}
use Rattle.papaya_run_lines.proofs.shared.run_shared.Goals as goal

pub returns : goal.returns
returns g c =
    known_as (λ (s : Caller _ _ _). s.session) _ ShowsLine (λ s line reply s' h. h) (λ s. s ≡ c.new-caller.result) IsBegun
    (λ s is. subst (λ (z : Caller _ _ _). IsBegun z.session) (sym is) c.new-caller.ensures) IsBad
    (Appends (g.W.Write.contents c.args.output.now) (g.W.Write.contents c.run_lines.new.output)) c.run_lines.result
    (g.R.Read.remaining c.args.input.now) c.run_lines.ensures
