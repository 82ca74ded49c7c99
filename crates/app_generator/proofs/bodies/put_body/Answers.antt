use Rattle.std.proofs.lemmas.Result.{err_from_is_err_and}
use Rattle.app_generator.proofs.Appending.{puts_failed, puts_then}
use Rattle.app_generator.proofs.bodies.put_body.Goals as goal

pub returns-in_err-put_line-clause-text : goal.returns-in_err-put_line-clause-text
returns-in_err-put_line-clause-text c = let p = err_from_is_err_and c.from_residual.result c.from_residual.ensures.1 in rw p.1 puts_failed

pub returns-in_err-put_assignments-clause-text : goal.returns-in_err-put_assignments-clause-text
returns-in_err-put_assignments-clause-text c = let p = err_from_is_err_and c.from_residual-in_err-put_assignments.result c.from_residual-in_err-put_assignments.ensures.1 in rw p.1 puts_failed

pub returns-in_err-put_lock-clause-text : goal.returns-in_err-put_lock-clause-text
returns-in_err-put_lock-clause-text c = let p = err_from_is_err_and c.from_residual-in_err-put_lock.result c.from_residual-in_err-put_lock.ensures.1 in rw p.1 puts_failed

pub returns-in_err-put_activation-clause-text : goal.returns-in_err-put_activation-clause-text
returns-in_err-put_activation-clause-text c = let p = err_from_is_err_and c.from_residual-in_err-put_activation.result c.from_residual-in_err-put_activation.ensures.1 in rw p.1 puts_failed

pub returns-in_err-put_assertion-clause-text : goal.returns-in_err-put_assertion-clause-text
returns-in_err-put_assertion-clause-text c = let p = err_from_is_err_and c.from_residual-in_err-put_assertion.result c.from_residual-in_err-put_assertion.ensures.1 in rw p.1 puts_failed

pub returns-in_err-put-clause-text : goal.returns-in_err-put-clause-text
returns-in_err-put-clause-text c = let p = err_from_is_err_and c.from_residual-in_err-put.result c.from_residual-in_err-put.ensures.1 in rw p.1 puts_failed

pub returns-in_err-put-2-clause-text : goal.returns-in_err-put-2-clause-text
returns-in_err-put-2-clause-text c = let p = err_from_is_err_and c.from_residual-in_err-put-2.result c.from_residual-in_err-put-2.ensures.1 in rw p.1 puts_failed

pub returns-clause-text : goal.returns-clause-text
returns-clause-text c =
    puts_then (puts_then (puts_then (puts_then (puts_then (puts_then c.in_ok-put_line.ensures c.in_ok-put_assignments.ensures.text) c.in_ok-put_lock.ensures) c.in_ok-put_activation.ensures) c.in_ok-put_assertion.ensures) c.in_ok-put.ensures) c.in_ok-put-2.ensures

pub returns-clause-draws : goal.returns-clause-draws
returns-clause-draws c = c.in_ok-put_assignments.ensures.draws
