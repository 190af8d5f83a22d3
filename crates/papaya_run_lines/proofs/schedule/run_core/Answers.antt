use Rattle.std.proofs.Common.{rules, ◌≡◌, ◌==◌, ◌∙◌, List, length, inl, refl, reverse, subst, sym}
use Rattle.std.specs.Io.KnownBytes.{Appends}
use Rattle.std.specs.Hash.{u64}
use Rattle.papaya_words_keys.specs.Hashes.{hash_of}
use Rattle.papaya_words_keys.specs.Sizes.{IsAllowed}
use Rattle.papaya_core_timeline.specs.New.{IsNew}
use Rattle.papaya_core_timeline.specs.Runs.{TurnsRun}
use Rattle.papaya_run_shell.specs.declared.failure.Failure.TheVariants as failure
use Rattle.papaya_run_lines.specs.LineOutput.{PrintsLines, no_calls}
use Rattle.papaya_run_lines.specs.declared.script.Line.{Line}
use Rattle.papaya_run_lines.proofs.WriteLemmas.{keeps_then}
use Rattle.papaya_run_lines.specs.Core.{script_says}
use Rattle.papaya_run_lines.proofs.CoreLemmas.{failed, ran_all, ran_to}
use Rattle.papaya_run_lines.proofs.RunLemmas.{ok_kept}
use Rattle.papaya_run_lines.proofs.schedule.run_core.Goals as goal

pub returns-in-Some : goal.returns-in-Some
returns-in-Some g c =
    let hash = hash_of u64 g.S.BuildHasher.build_hasher g.S.Hasher.Hasher.write g.S.Hasher.Hasher.finish in
    let core = c.in_ok-core.core in
    let script = c.in_ok-turns.field-0 in
    let trace = c.in_ok-trace.trace in
    let after = c.run.new.self in
    let passed = c.in_ok-passed_over.passed_over in
    let first = g.W.Write.contents c.args.output.now in
    let printed = g.W.Write.contents c.print_trace.new.output in
    let last = g.W.Write.contents c.flush.new.self in
    let new = ok_kept c.new.result _ core (λ k. IsAllowed c.args.mode 0 1 × IsNew c.args.mode 0 1 c.args.hasher k) _ refl c.in_ok-core.ensures.cases
    (λ e no. no) c.new.ensures.ok in
    let runs = ok_kept c.run.result _ trace (λ t.
    TurnsRun (λ a b. a == b) script_says hash script.turns.items (length script.turns.items) core after (reverse t.entries.items)) _ refl
    c.in_ok-trace.ensures.cases (λ e no. no) c.run.ensures.ok in
    let told = c.in_ok-passed_over.ensures.told in
    let tells = subst (λ (rows : List Line). PrintsLines after.store trace.entries.items no_calls rows 0 trace.entries.items told.0 passed)
    c.as_slice.ensures.value told.1 in
    ran_to hash (IsNew c.args.mode 0 1 c.args.hasher) (Appends first last) script.turns.items script.lines.items script.bad_line passed core after
    trace.entries.items new.1 runs (told.0, tells, keeps_then first printed last told.0 told.2 c.flush.ensures.bytes)
    (g.R.Read.remaining c.args.input.now) c.in-Some.number c.in_ok-turns.ensures.read (sym c.in-Some.is ∙ c.or.ensures)

pub returns : goal.returns
returns g c =
    let hash = hash_of u64 g.S.BuildHasher.build_hasher g.S.Hasher.Hasher.write g.S.Hasher.Hasher.finish in
    let core = c.in_ok-core.core in
    let script = c.in_ok-turns.field-0 in
    let trace = c.in_ok-trace.trace in
    let after = c.run.new.self in
    let passed = c.in_ok-passed_over.passed_over in
    let first = g.W.Write.contents c.args.output.now in
    let printed = g.W.Write.contents c.print_trace.new.output in
    let last = g.W.Write.contents c.flush.new.self in
    let new = ok_kept c.new.result _ core (λ k. IsAllowed c.args.mode 0 1 × IsNew c.args.mode 0 1 c.args.hasher k) _ refl c.in_ok-core.ensures.cases
    (λ e no. no) c.new.ensures.ok in
    let runs = ok_kept c.run.result _ trace (λ t.
    TurnsRun (λ a b. a == b) script_says hash script.turns.items (length script.turns.items) core after (reverse t.entries.items)) _ refl
    c.in_ok-trace.ensures.cases (λ e no. no) c.run.ensures.ok in
    let told = c.in_ok-passed_over.ensures.told in
    let tells = subst (λ (rows : List Line). PrintsLines after.store trace.entries.items no_calls rows 0 trace.entries.items told.0 passed)
    c.as_slice.ensures.value told.1 in
    ran_all hash (IsNew c.args.mode 0 1 c.args.hasher) (Appends first last) script.turns.items script.lines.items script.bad_line passed core after
    trace.entries.items new.1 runs (told.0, tells, keeps_then first printed last told.0 told.2 c.flush.ensures.bytes)
    (g.R.Read.remaining c.args.input.now) c.in_ok-turns.ensures.read (sym c.in-None.is ∙ c.or.ensures)

pub returns-in_err-passed_over : goal.returns-in_err-passed_over
returns-in_err-passed_over g c =
    failed (hash_of u64 g.S.BuildHasher.build_hasher g.S.Hasher.Hasher.write g.S.Hasher.Hasher.finish) (IsNew c.args.mode 0 1 c.args.hasher) _
    (g.R.Read.remaining c.args.input.now) c.from_residual-in_err-passed_over.result c.in_err-passed_over.field-0.0
    c.from_residual-in_err-passed_over.ensures.1 c.in_err-passed_over.ensures.failed

pub returns-in_err-map_err : goal.returns-in_err-map_err
returns-in_err-map_err g c =
    let is : c.in_err-map_err.field-0.0 ≡ failure.Output = search rules in
    failed (hash_of u64 g.S.BuildHasher.build_hasher g.S.Hasher.Hasher.write g.S.Hasher.Hasher.finish) (IsNew c.args.mode 0 1 c.args.hasher) _
    (g.R.Read.remaining c.args.input.now) c.from_residual-in_err-map_err.result c.in_err-map_err.field-0.0
    c.from_residual-in_err-map_err.ensures.1 (inl is)
