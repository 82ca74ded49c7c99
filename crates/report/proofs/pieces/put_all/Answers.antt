use Rattle.report.proofs.Joining.{one_by_one}
use Rattle.report.proofs.pieces.put_all.Goals as goal

pub returns : goal.returns
returns g c = rw (one_by_one c.args.pieces.now) c.put_each.ensures
