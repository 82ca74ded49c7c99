use Rattle.std.proofs.Common.{arith}
use Rattle.bounded_check.proofs.Looking.{choices_all, choices_more, listed_at}
use Rattle.bounded_check.proofs.decide.choices_of.Goals as goal
use Rattle.one_stack.specs.Labelled.{chosen_by}
use Rattle.proof_check.proofs.Getting.{get_past}

pub choice_of-requires-clause-listed : goal.choice_of-requires-clause-listed
choice_of-requires-clause-listed c = (listed_at c.args.stack.now.labels c.args.run.now c.loop-at.at c.in-Some.turn.now c.requires (cc (c.in-Some.ensures))).0

pub choice_of-requires-clause-input : goal.choice_of-requires-clause-input
choice_of-requires-clause-input c = (listed_at c.args.stack.now.labels c.args.run.now c.loop-at.at c.in-Some.turn.now c.requires (cc (c.in-Some.ensures))).1

pub loop-at-preserved : goal.loop-at-preserved
loop-at-preserved c =
    choices_more (chosen_by c.args.stack.now.labels) c.args.run.now c.loop-at.at c.in-Some.turn.now c.loop-at.choices _ c.choice_of.result c.loop-at.invariant (cc (c.in-Some.ensures)) c.choice_of.ensures c.in_ok-push.ensures.ok

pub returns-in_default : goal.returns-in_default
returns-in_default c =
    choices_all (chosen_by c.args.stack.now.labels) c.args.run.now c.loop-at.at c.loop-at.choices (get_past c.args.run.now c.loop-at.at (cc (c.in_default.ensures))) c.loop-at.invariant
