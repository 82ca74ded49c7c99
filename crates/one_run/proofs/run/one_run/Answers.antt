use Rattle.std.proofs.Common.{◌≡◌, ◌+◌, ◌∷◌, [], length, length-append, ap, sym, subst, ◌∙◌, false, List, arith}
use Rattle.step_ir.specs.declared.event.Event.{Event}
use Rattle.step_ir.specs.PermittedSchedule.{fails}
use Rattle.replay.specs.Replaying.{last_failure}
use Rattle.one_run.specs.OneRun.{steps}
use Rattle.one_run.proofs.OnlyRun.{AreHarmless, harmless-append, none_fails}
use Rattle.one_run.proofs.Runs.{failure-some, is_run, last_failure-append, next_run, no_failure}
use Rattle.one_run.proofs.run.one_run.Goals as goal

pub loop-preserved : goal.loop-preserved
loop-preserved c =
    let answered = c.in-Event.ensures.run c.args.app.now c.args.code.now (steps (length c.loop.events)) c.loop.events c.loop.invariant.run in
    let count : length c.push.new.self ≡ length c.loop.events + 1 = ap length c.in_ok-push-in-Event.ensures.ok ∙ length-append c.loop.events (c.in-Event.event ∷ []) in
    record {
      run = next_run _ _ _ _ _ _ c.in_ok-push-in-Event.ensures.ok answered.0;
      count = omega (arith, count, c.loop.invariant.count);
      arrivals = omega (arith, c.in-Event.ensures.arrivals, c.loop.invariant.arrivals);
      fails = subst (λ (es : List Event). fails es ≡ false) (sym c.in_ok-push-in-Event.ensures.ok) answered.1;
      harmless =
          subst
          AreHarmless
          (sym c.in_ok-push-in-Event.ensures.ok)
          (harmless-append c.loop.events c.in-Event.event c.loop.invariant.harmless answered.1);
    }

pub returns-in-Failed : goal.returns-in-Failed
returns-in-Failed c =
    let answered = c.in-Failed.ensures.run c.args.app.now c.args.code.now (steps (length c.loop.events)) c.loop.events c.loop.invariant.run in
    let count : length c.push-in-Failed.new.self ≡ length c.loop.events + 1 = ap length c.in_ok-push-in-Failed.ensures.ok ∙ length-append c.loop.events (c.in-Failed.event ∷ []) in
    is_run _ _ _ _ _ _
    (next_run _ _ _ _ _ _ c.in_ok-push-in-Failed.ensures.ok answered.0)
    (omega (arith, count, c.loop.invariant.count))
    (c.failure_of-failure.ensures
    ∙ sym (ap last_failure c.in_ok-push-in-Failed.ensures.ok ∙ last_failure-append c.loop.events c.in-Failed.event))
    (λ none. absurd (failure-some c.in-Failed.event c.loop.events answered.1 (sym c.failure_of-failure.ensures ∙ none)))

pub returns-in-Refused : goal.returns-in-Refused
returns-in-Refused c =
    let answered = c.in-Refused.ensures.run c.args.app.now c.args.code.now (steps (length c.loop.events)) c.loop.events c.loop.invariant.run in
    is_run _ _ _ _ _ _
    answered.0
    (omega (arith, c.loop.invariant.count))
    (no_failure c.loop.events c.loop.invariant.fails)
    (λ none. none_fails _ _ c.requires.no_input _ _ _ c.loop.invariant.run c.loop.invariant.harmless (λ more. answered.1))

pub returns : goal.returns
returns c =
    is_run _ _ _ _ _ _
    c.loop.invariant.run
    (omega (arith, c.loop.invariant.count))
    (no_failure c.loop.events c.loop.invariant.fails)
    (λ none. none_fails _ _ c.requires.no_input _ _ _ c.loop.invariant.run c.loop.invariant.harmless (λ more. absurd (omega (arith, more, c.loop.invariant.count))))
