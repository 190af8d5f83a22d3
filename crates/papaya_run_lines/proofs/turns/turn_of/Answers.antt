use Rattle.std.proofs.Common.{◌∙◌, ap, inl, inr}
use Rattle.papaya_run_lines.specs.Turns.{verb_word}
use Rattle.papaya_run_lines.proofs.TurnLemmas.{no_space_turn, no_verb, no_call, no_begin, none_turn}
use Rattle.papaya_run_lines.proofs.turns.turn_of.Goals as goal

pub returns-in_err-verb : goal.returns-in_err-verb
returns-in_err-verb c = none_turn c.args.line.now _ c.from_residual.ensures (no_space_turn c.args.line.now c.in_err-verb.ensures)

pub returns-in_err-verb_of : goal.returns-in_err-verb_of
returns-in_err-verb_of c = none_turn c.args.line.now _ c.from_residual-in_err-verb_of.ensures
    (no_verb c.args.line.now c.in_ok-verb.verb.now c.in_ok-verb.rest.now c.in_ok-verb.ensures c.in_err-verb_of.ensures)

pub returns-in_err-caller-in-Begin : goal.returns-in_err-caller-in-Begin
returns-in_err-caller-in-Begin c = none_turn c.args.line.now _ c.from_residual-in_err-caller-in-Begin.ensures
    (no_call c.args.line.now c.in_ok-verb.verb.now c.in_ok-verb.rest.now c.in_ok-verb.ensures (c.in_ok-verb_of.ensures ∙ ap verb_word c.in-Begin.is)
    c.in_err-caller-in-Begin.ensures)

pub returns-in_err-caller_of-in-Begin : goal.returns-in_err-caller_of-in-Begin
returns-in_err-caller_of-in-Begin c = none_turn c.args.line.now _ c.from_residual-in_err-caller_of-in-Begin.ensures
    (no_begin c.args.line.now c.in_ok-verb.verb.now c.in_ok-verb.rest.now c.in_ok-caller-in-Begin.caller.now c.in_ok-caller-in-Begin.call.now
    c.in_ok-verb.ensures (c.in_ok-verb_of.ensures ∙ ap verb_word c.in-Begin.is) c.in_ok-caller-in-Begin.ensures (inl c.in_err-caller_of-in-Begin.ensures))

pub returns-in_err-call_of-in-Begin : goal.returns-in_err-call_of-in-Begin
returns-in_err-call_of-in-Begin c = none_turn c.args.line.now _ c.from_residual-in_err-call_of-in-Begin.ensures
    (no_begin c.args.line.now c.in_ok-verb.verb.now c.in_ok-verb.rest.now c.in_ok-caller-in-Begin.caller.now c.in_ok-caller-in-Begin.call.now
    c.in_ok-verb.ensures (c.in_ok-verb_of.ensures ∙ ap verb_word c.in-Begin.is) c.in_ok-caller-in-Begin.ensures (inr c.in_err-call_of-in-Begin.ensures))
