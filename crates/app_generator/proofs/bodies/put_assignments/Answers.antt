use Rattle.std.proofs.lemmas.Result.{err_from_is_err_and}
use Rattle.app_generator.proofs.Appending.{four, puts_failed, twelve}
use Rattle.app_generator.proofs.bodies.put_assignments.Goals as goal

pub returns-in_err-put_assignment-clause-text : goal.returns-in_err-put_assignment-clause-text
returns-in_err-put_assignment-clause-text c = let p = err_from_is_err_and c.from_residual.result c.from_residual.ensures.1 in rw p.1 puts_failed

pub returns-in_err-put_assignment-2-clause-text : goal.returns-in_err-put_assignment-2-clause-text
returns-in_err-put_assignment-2-clause-text c = let p = err_from_is_err_and c.from_residual-in_err-put_assignment-2.result c.from_residual-in_err-put_assignment-2.ensures.1 in rw p.1 puts_failed

pub returns-in_err-put_assignment-3-clause-text : goal.returns-in_err-put_assignment-3-clause-text
returns-in_err-put_assignment-3-clause-text c = let p = err_from_is_err_and c.from_residual-in_err-put_assignment-3.result c.from_residual-in_err-put_assignment-3.ensures.1 in rw p.1 puts_failed

pub returns-in_err-put_assignment-4-clause-text : goal.returns-in_err-put_assignment-4-clause-text
returns-in_err-put_assignment-4-clause-text c = let p = err_from_is_err_and c.from_residual-in_err-put_assignment-4.result c.from_residual-in_err-put_assignment-4.ensures.1 in rw p.1 puts_failed

pub returns-clause-text : goal.returns-clause-text
returns-clause-text c =
    four _ _ _ _ c.in_ok-put_assignment.ensures.draws c.in_ok-put_assignment-2.ensures.draws c.in_ok-put_assignment-3.ensures.draws c.in_ok-put_assignment.ensures.text c.in_ok-put_assignment-2.ensures.text c.in_ok-put_assignment-3.ensures.text c.in_ok-put_assignment-4.ensures.text

pub returns-clause-draws : goal.returns-clause-draws
returns-clause-draws c =
    twelve _ _ _ _ _ c.in_ok-put_assignment.ensures.draws c.in_ok-put_assignment-2.ensures.draws c.in_ok-put_assignment-3.ensures.draws c.in_ok-put_assignment-4.ensures.draws
