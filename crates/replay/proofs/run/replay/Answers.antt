use Rattle.std.proofs.Common.{◌≡◌, Some, None, take, sym, ap, ◌∙◌, arith}
use Rattle.replay.specs.Replaying.{last_failure, told}
use Rattle.replay.proofs.Replays.{goes_on, last_failure-append, refused}
use Rattle.replay.proofs.run.replay.Goals as goal

pub returns-in_default-clause-refused : goal.returns-in_default-clause-refused
returns-in_default-clause-refused c =
    let answered = c.step.ensures.run c.args.app.now c.args.code.now (take c.loop-i.i c.items-choices.result.now) c.loop-i.events c.loop-i.invariant.run in
    let none : told c.step.result ≡ None = sym c.told.ensures ∙ c.in_default.is in
    rw (c.state_of.ensures, ← c.items-choices.ensures)
    (refused _ _ c.items-choices.result.now c.loop-i.i c.loop-i.events c.index-choices-i.result c.loop-i.machine c.step.new.self c.step.result c.loop-i-test.true c.index-choices-i.is none c.step.ensures.step answered)

pub loop-i-preserved : goal.loop-i-preserved
loop-i-preserved c =
    let answered = c.step.ensures.run c.args.app.now c.args.code.now (take c.loop-i.i c.items-choices.result.now) c.loop-i.events c.loop-i.invariant.run in
    let some : told c.step.result ≡ Some c.in-Some.event = sym c.told.ensures ∙ c.in-Some.is in
    record {
      run =
          goes_on _ _ c.items-choices.result.now c.loop-i.i c.loop-i.events c.push.new.self c.index-choices-i.result c.in-Some.event c.loop-i.machine c.step.new.self c.step.result c.loop-i-test.true c.index-choices-i.is some answered c.in_ok-push.ensures.ok;
      arrivals = omega (arith, c.step.ensures.arrivals, c.loop-i.invariant.arrivals);
      failure =
          c.failure_of-failure.ensures
          ∙ sym (ap last_failure c.in_ok-push.ensures.ok ∙ last_failure-append c.loop-i.events c.in-Some.event);
    }
