use Rattle.std.proofs.Common.{arith}
use Rattle.clause_form.specs.ClauseTruth.{values_of}
use Rattle.turn_law.specs.Description.{turns_read}
use Rattle.turn_unroll.proofs.Reading.{run_more, run_over, run_padded, run_whole}
use Rattle.turn_unroll.proofs.run.run_of.Goals as goal

pub returns-then-turn-eq0-clause-run : goal.returns-then-turn-eq0-clause-run
returns-then-turn-eq0-clause-run c =
    run_padded (turns_read (values_of c.args.values.now) c.args.encoding.now.alternatives c.args.encoding.now.inputs) c.loop-t.t c.loop-t.run c.in-Some.turn c.loop-t.invariant c.in-Some.ensures.pair c.if-turn-eq0.true

pub returns-in-None-clause-run : goal.returns-in-None-clause-run
returns-in-None-clause-run c =
    run_over (turns_read (values_of c.args.values.now) c.args.encoding.now.alternatives c.args.encoding.now.inputs) c.loop-t.t c.loop-t.run c.loop-t.invariant c.in-None.ensures.pair

pub loop-t-preserved : goal.loop-t-preserved
loop-t-preserved c =
    run_more (turns_read (values_of c.args.values.now) c.args.encoding.now.alternatives c.args.encoding.now.inputs) c.loop-t.t c.loop-t.run c.push.new.self c.in-Some.turn c.loop-t.invariant c.in-Some.ensures.pair c.in-Some.ensures.width c.if-turn-eq0.false c.in_ok-push-in-Some.ensures.ok

pub returns-clause-run : goal.returns-clause-run
returns-clause-run c =
    run_whole (values_of c.args.values.now) c.args.encoding.now.alternatives c.args.encoding.now.inputs c.loop-t.t c.loop-t.run (omega arith) c.loop-t.invariant
