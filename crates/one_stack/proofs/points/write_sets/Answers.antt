use Rattle.std.proofs.Common.{◌∙◌, ap}
use Rattle.chk_base.specs.Term.{term_of}
use Rattle.one_stack.specs.Rules as defs
use Rattle.one_stack.proofs.points.write_sets.Goals as goal

pub returns : goal.returns
returns c =
    c.in_ok-sets.ensures
    ∙ ap (λ t. defs.write_sets c.args.target.now.base t (term_of c.args.value.now) c.args.target.now.len) c.in_ok-index.ensures
