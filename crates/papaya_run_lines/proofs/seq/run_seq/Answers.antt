use Rattle.std.proofs.Common.{◌≡◌, refl, subst, sym}
use Rattle.std.specs.Io.KnownBytes.{Appends}
use Rattle.papaya_words_keys.specs.Sizes.{IsAllowed}
use Rattle.papaya_run_lines.specs.Commands.{WritesNone}
use Rattle.papaya_run_lines.specs.Program.{DoesLine, IsNewMap}
use Rattle.papaya_run_lines.proofs.RunLemmas.{known_as, ok_kept}
use Rattle.papaya_run_lines.proofs.seq.run_seq.Goals as goal

pub returns : goal.returns
returns g c =
    let map = c.in_ok-map.map in
    let new = ok_kept c.with_parts.result _ map (λ m. IsAllowed c.args.mode 0 1 × IsNewMap c.args.mode c.args.hasher m) _ refl
    c.in_ok-map.ensures.cases (λ e no. no) c.with_parts.ensures.ok in
    known_as (λ s. s) DoesLine DoesLine (λ s line reply s' h. h) (λ s. s ≡ map) (IsNewMap c.args.mode c.args.hasher)
    (λ s is. subst (IsNewMap c.args.mode c.args.hasher) (sym is) new.1) WritesNone
    (Appends (g.W.Write.contents c.args.output.now) (g.W.Write.contents c.run_lines.new.output)) c.run_lines.result
    (g.R.Read.remaining c.args.input.now) c.run_lines.ensures
