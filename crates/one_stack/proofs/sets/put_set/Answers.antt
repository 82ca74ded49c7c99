use Rattle.std.proofs.Common.{◌∙◌, ap}
use Rattle.guard_prog.specs.Drafts.{plain_sets}
use Rattle.one_stack.proofs.Plainly.{plain_sets-append}
use Rattle.one_stack.proofs.sets.put_set.Goals as goal

pub returns : goal.returns
returns c = ap plain_sets c.in_ok-push.ensures.ok ∙ plain_sets-append c.args.sets.now _
