use Rattle.std.proofs.Common.{sym, ◌∙◌}
use Rattle.one_run.proofs.Inputless.{found_inputless, takes_none}
use Rattle.one_run.proofs.inputs.takes_no_input.Goals as goal

pub returns-clause-none : goal.returns-clause-none
returns-clause-none c is = takes_none c.args.code.now (sym c.are_inputless.ensures ∙ is)

pub returns-clause-all : goal.returns-clause-all
returns-clause-all c none = c.are_inputless.ensures ∙ found_inputless c.args.code.now none
