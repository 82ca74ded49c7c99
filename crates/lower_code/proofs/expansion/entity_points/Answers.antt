-- The frame begins at the entity's first cell.
use Rattle.std.proofs.Common.{ℕ, sym, subst}
use Rattle.lower_code.specs.Plans.{FitsAt}
use Rattle.lower_code.proofs.expansion.entity_points.Goals as goal

pub body-requires-clause-fits : goal.body-requires-clause-fits
body-requires-clause-fits c =
    subst (λ (b : ℕ). FitsAt c.args.expansion.now.functions.now c.args.expansion.now.temp c.args.d b 0 c.args.f.now) (sym c.entity_frame-frame.ensures.base) c.requires.fits
