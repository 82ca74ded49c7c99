use Rattle.std.proofs.Common.{rules, sym, ◌≡◌, ap, ◌∙◌}
use Rattle.turn_unroll.proofs.Making.{nth-none}
use Rattle.turn_unroll.proofs.rows.place.Goals as goal

pub returns-in-None : goal.returns-in-None
returns-in-None c = sym (nth-none c.args.row.now c.args.i (search rules))
