-- One more argument counts.
use Rattle.std.proofs.Common.{ap, arith}
use Rattle.lower_law.specs.Items.{sites}
use Rattle.lower_pieces.specs.Trees.{tree_of}
use Rattle.lower_pieces.proofs.Summed.{sites_more}
use Rattle.lower_pieces.proofs.sizes.sites_in_all.Goals as goal

pub loop-argument-preserved : goal.loop-argument-preserved
loop-argument-preserved c =
    let h = sites_more c.args.arguments.now c.loop-argument.argument-index c.argument-item.result (omega arith) in
    let q = ap (λ x. sites (tree_of x)) c.argument-item.is in
    omega (arith, h, q, c.loop-argument.invariant, c.sites_in.ensures, c.saturating_add-total.ensures)
