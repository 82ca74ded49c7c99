use Rattle.std.proofs.Common.{◌∙◌, ◌++◌, ap₂}
use Rattle.guard_prog.specs.Drafts.{plain_sets}
use Rattle.one_stack.proofs.Plainly.{plain_sets-map}
use Rattle.one_stack.proofs.points.call_sets.Goals as goal

pub returns : goal.returns
returns c =
    c.in_ok-put_copies.ensures ∙ ap₂ (λ a b. plain_sets a ++ plain_sets b) c.new-copies.ensures c.items.ensures ∙ plain_sets-map c.args.sets.now
