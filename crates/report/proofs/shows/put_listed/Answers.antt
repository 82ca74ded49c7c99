use Rattle.std.proofs.Common.{arith}
use Rattle.std.proofs.lemmas.Result.{err_from_is_err_and}
use Rattle.report.specs.ShowTexts.{resource_text}
use Rattle.report.proofs.Printing.{each_cut, each_next, prints_nothing}
use Rattle.report.proofs.shows.put_listed.Goals as goal

pub loop-i-init : goal.loop-i-init
loop-i-init g c = prints_nothing _ _

pub returns-in_err-put_resource : goal.returns-in_err-put_resource
returns-in_err-put_resource g c = let p = err_from_is_err_and c.from_residual.result c.from_residual.ensures.1 in rw (p.1, ← c.items-resources.ensures) (each_cut (λ n r. resource_text r) 0 _ c.loop-i.i c.loop-i.i _ c.loop-i-test.true c.index-resources-i.is (omega arith) c.loop-i.invariant c.in_err-put_resource.ensures)

pub loop-i-preserved : goal.loop-i-preserved
loop-i-preserved g c = each_next (λ n r. resource_text r) 0 _ c.loop-i.i c.loop-i.i _ c.loop-i-test.true c.index-resources-i.is (omega arith) c.loop-i.invariant c.in_ok-put_resource.ensures
