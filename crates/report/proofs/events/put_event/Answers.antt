use Rattle.std.proofs.lemmas.Result.{err_from_is_err_and}
use Rattle.report.proofs.Printing.{prints_cut, prints_failed, prints_then}
use Rattle.report.proofs.events.put_event.Goals as goal

pub returns-in_err-put_actor : goal.returns-in_err-put_actor
returns-in_err-put_actor g c =
    let p = err_from_is_err_and c.from_residual.result c.from_residual.ensures.1 in
    rw p.1 (prints_failed (prints_cut _ (prints_cut _ (prints_cut _ (prints_cut _ c.in_err-put_actor.ensures)))))

pub returns-in_err-put_action : goal.returns-in_err-put_action
returns-in_err-put_action g c =
    let p = err_from_is_err_and c.from_residual-in_err-put_action.result c.from_residual-in_err-put_action.ensures.1 in
    rw p.1 (prints_failed (prints_cut _ (prints_cut _ (prints_cut _ (prints_then c.in_ok-put_actor.ensures c.in_err-put_action.ensures)))))

pub returns-in_err-put : goal.returns-in_err-put
returns-in_err-put g c =
    let p = err_from_is_err_and c.from_residual-in_err-put.result c.from_residual-in_err-put.ensures.1 in
    rw p.1 (prints_failed (prints_cut _ (prints_cut _ (prints_then (prints_then c.in_ok-put_actor.ensures c.in_ok-put_action.ensures) c.in_err-put.ensures))))

pub returns-in_err-put-2 : goal.returns-in_err-put-2
returns-in_err-put-2 g c =
    let p = err_from_is_err_and c.from_residual-in_err-put-2.result c.from_residual-in_err-put-2.ensures.1 in
    rw p.1 (prints_failed (prints_cut _ (prints_then (prints_then (prints_then c.in_ok-put_actor.ensures c.in_ok-put_action.ensures) c.in_ok-put.ensures) (rw c.next_name.ensures at c.in_err-put-2.ensures))))

pub returns : goal.returns
returns g c = prints_then (prints_then (prints_then (prints_then c.in_ok-put_actor.ensures c.in_ok-put_action.ensures) c.in_ok-put.ensures) (rw c.next_name.ensures at c.in_ok-put-2.ensures)) c.put-3.ensures
