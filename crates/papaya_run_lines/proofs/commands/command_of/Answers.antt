use Rattle.std.proofs.Common.{◌∙◌, ap, inl, inr}
use Rattle.papaya_run_lines.specs.Commands.{keyed_word}
use Rattle.papaya_run_lines.proofs.CommandLemmas.{bare_is, no_name, no_value, no_number, none_command}
use Rattle.papaya_run_lines.proofs.commands.command_of.Goals as goal

pub returns-in_default : goal.returns-in_default
returns-in_default c = bare_is c.args.text.now _ c.in_default.ensures c.bare_of.ensures

pub returns-in_err-keyed_of : goal.returns-in_err-keyed_of
returns-in_err-keyed_of c = none_command c.args.text.now _ c.from_residual.ensures
    (no_name c.args.text.now c.in-Some.name.now c.in-Some.rest.now c.in-Some.ensures c.in_err-keyed_of.ensures)

pub returns-in_err-key-in-Insert : goal.returns-in_err-key-in-Insert
returns-in_err-key-in-Insert c = none_command c.args.text.now _ c.from_residual-in_err-key-in-Insert.ensures
    (no_value c.args.text.now c.in-Some.name.now c.in-Some.rest.now c.in-Some.ensures (c.in_ok-keyed_of.ensures ∙ ap keyed_word c.in-Insert.is)
    c.in_err-key-in-Insert.ensures)

pub returns-in_err-number_of-in-Insert : goal.returns-in_err-number_of-in-Insert
returns-in_err-number_of-in-Insert c = none_command c.args.text.now _ c.from_residual-in_err-number_of-in-Insert.ensures
    (no_number c.args.text.now c.in-Some.name.now c.in-Some.rest.now c.in_ok-key-in-Insert.key.now c.in_ok-key-in-Insert.value.now c.in-Some.ensures
    (c.in_ok-keyed_of.ensures ∙ ap keyed_word c.in-Insert.is) c.in_ok-key-in-Insert.ensures (inl c.in_err-number_of-in-Insert.ensures))

pub returns-in_err-number_of-in-Insert-2 : goal.returns-in_err-number_of-in-Insert-2
returns-in_err-number_of-in-Insert-2 c = none_command c.args.text.now _ c.from_residual-in_err-number_of-in-Insert-2.ensures
    (no_number c.args.text.now c.in-Some.name.now c.in-Some.rest.now c.in_ok-key-in-Insert.key.now c.in_ok-key-in-Insert.value.now c.in-Some.ensures
    (c.in_ok-keyed_of.ensures ∙ ap keyed_word c.in-Insert.is) c.in_ok-key-in-Insert.ensures (inr c.in_err-number_of-in-Insert-2.ensures))
