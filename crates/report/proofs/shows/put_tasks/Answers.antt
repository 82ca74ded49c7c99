use Rattle.std.proofs.Common.{arith}
use Rattle.std.proofs.lemmas.Result.{err_from_is_err_and}
use Rattle.report.specs.ShowTexts.{task_line}
use Rattle.report.proofs.Printing.{each_cut, each_next, prints_nothing}
use Rattle.report.proofs.shows.put_tasks.Goals as goal

pub loop-i-init : goal.loop-i-init
loop-i-init g c = prints_nothing _ _

pub returns-in_err-put_task : goal.returns-in_err-put_task
returns-in_err-put_task g c = let p = err_from_is_err_and c.from_residual.result c.from_residual.ensures.1 in rw (p.1, ← c.items-tasks.ensures) (each_cut (task_line c.args.code.now) 0 _ c.loop-i.i _ _ c.loop-i-test.true c.index-tasks-i.is (omega arith) c.loop-i.invariant c.in_err-put_task.ensures)

pub loop-i-preserved : goal.loop-i-preserved
loop-i-preserved g c = each_next (task_line c.args.code.now) 0 _ c.loop-i.i _ _ c.loop-i-test.true c.index-tasks-i.is (omega arith) c.loop-i.invariant c.in_ok-put_task.ensures
