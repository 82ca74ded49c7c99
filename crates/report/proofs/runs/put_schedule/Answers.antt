use Rattle.std.proofs.Common.{arith}
use Rattle.std.specs.Prelude.{slice_get}
use Rattle.std.proofs.lemmas.Result.{err_from_is_err_and}
use Rattle.report.specs.RunTexts.{choice_line}
use Rattle.report.proofs.Printing.{each_cut, each_next, prints_nothing}
use Rattle.report.proofs.runs.put_schedule.Goals as goal

pub loop-i-init : goal.loop-i-init
loop-i-init g c = prints_nothing _ _

pub returns-in_err-put_choice_at : goal.returns-in_err-put_choice_at
returns-in_err-put_choice_at g c = let p = err_from_is_err_and c.from_residual.result c.from_residual.ensures.1 in rw (p.1, ← c.items-choices.ensures) (each_cut (λ n x. choice_line c.args.app.now c.args.code.now (slice_get c.args.events.now n) x) 0 _ c.loop-i.i _ _ c.loop-i-test.true c.index-choices-i.is (omega arith) c.loop-i.invariant c.in_err-put_choice_at.ensures)

pub loop-i-preserved : goal.loop-i-preserved
loop-i-preserved g c = each_next (λ n x. choice_line c.args.app.now c.args.code.now (slice_get c.args.events.now n) x) 0 _ c.loop-i.i _ _ c.loop-i-test.true c.index-choices-i.is (omega arith) c.loop-i.invariant c.in_ok-put_choice_at.ensures
