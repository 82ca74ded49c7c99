use Rattle.std.proofs.Common.{arith}
use Rattle.std.proofs.lemmas.Result.{err_from_is_err_and}
use Rattle.report.specs.EventTexts.{event_line}
use Rattle.report.proofs.Printing.{each_cut, each_next, prints_nothing}
use Rattle.report.proofs.events.put_events.Goals as goal

pub loop-i-init : goal.loop-i-init
loop-i-init g c = prints_nothing _ _

pub returns-in_err-put_event : goal.returns-in_err-put_event
returns-in_err-put_event g c = let p = err_from_is_err_and c.from_residual.result c.from_residual.ensures.1 in rw (p.1, ← c.items-events.ensures) (each_cut (event_line c.args.app.now c.args.code.now) 1 _ c.loop-i.i _ _ c.loop-i-test.true c.index-events-i.is (omega arith) c.loop-i.invariant c.in_err-put_event.ensures)

pub loop-i-preserved : goal.loop-i-preserved
loop-i-preserved g c = each_next (event_line c.args.app.now c.args.code.now) 1 _ c.loop-i.i _ _ c.loop-i-test.true c.index-events-i.is (omega arith) c.loop-i.invariant c.in_ok-put_event.ensures
