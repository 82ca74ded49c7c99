use Rattle.std.proofs.Common.{rules, []}
use Rattle.std.proofs.lemmas.Result.{err_from_is_err_and}
use Rattle.chk_base.proofs.SinkSoFar.{so_far_none, so_far_more, all_written, cut_short}
use Rattle.chk_base.proofs.sink.write_all.Goals as goal

pub loop-rest-init : goal.loop-rest-init
loop-rest-init g c = ([], so_far_none _ _)

pub returns-in_err-taken : goal.returns-in_err-taken
returns-in_err-taken g c = let p = err_from_is_err_and c.from_residual.result c.from_residual.ensures.1 in rw p.1 (cut_short _ _ _ _ _ _ _ c.loop-rest.invariant.1 c.in_err-taken.ensures)

pub loop-rest-preserved : goal.loop-rest-preserved
loop-rest-preserved g c = (_, so_far_more _ _ _ _ _ _ _ c.loop-rest.invariant.1 c.in_ok-taken.ensures)

pub returns : goal.returns
returns g c = all_written _ _ _ _ _ c.loop-rest.invariant.1 (search rules)
