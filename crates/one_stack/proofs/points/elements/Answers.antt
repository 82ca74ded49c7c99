use Rattle.std.proofs.Common.{refl, arith}
use Rattle.chk_base.specs.Term.{term_of}
use Rattle.one_stack.specs.Rules as defs
use Rattle.one_stack.proofs.Stepping.{ended}
use Rattle.one_stack.proofs.Plainly.{write_more}
use Rattle.one_stack.proofs.points.elements.Goals as goal

pub loop-j-preserved : goal.loop-j-preserved
loop-j-preserved c = write_more c.args.target.now.base (term_of c.args.index.now) (term_of c.args.value.now) c.loop-j.j _ _ _ _ (omega arith) c.in_ok-put_set.ensures c.in_ok-element.ensures c.loop-j.invariant

pub returns : goal.returns
returns c =
    ended (λ k. defs.write_sets c.args.target.now.base (term_of c.args.index.now) (term_of c.args.value.now) k) c.loop-j.j _ _ refl (omega arith) c.loop-j.invariant
