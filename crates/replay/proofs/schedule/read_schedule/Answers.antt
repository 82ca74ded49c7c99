use Rattle.std.proofs.Common.{◌≡◌, ◌-◌, ◌<◌, ◌∷◌, [], suc, Option, length, length-append, drop, ap, ◌∙◌, subst, arith, rules}
use Rattle.std.proofs.lemmas.Grind.{common_steps}
use Rattle.std.proofs.lemmas.List.{length-drop}
use Rattle.osek_machine.specs.Steps.{start_of}
use Rattle.replay.specs.declared.value.ValueType.{ValueType}
use Rattle.replay.specs.ScheduleText.{Spells, after_all}
use Rattle.replay.proofs.Lines.{drop_one}
use Rattle.replay.proofs.Schedules.{all_read, input_stands, line_read, stands_after, wrong_line}
use Rattle.replay.proofs.schedule.read_schedule.Goals as goal
use Rattle.step_ir.specs.declared.event.Choice.{Choice}

pub returns-in_default-clause-refused : goal.returns-in_default-clause-refused
returns-in_default-clause-refused c =
    let some : 0 < length c.loop-all.rest.now = first_of (search rules, grind (arith, common_steps, c.is_empty.ensures, c.loop-all-test.true)) in
    let st = after_all c.args.app.now c.args.code.now (start_of c.args.app.now c.args.code.now) c.loop-all.choices in
    let input = input_stands c.args.app.now c.args.code.now st c.loop-all.machine c.input.result c.type_in-input.result c.loop-all.invariant.stands c.input.ensures c.type_in-input.ensures in
    let size : length c.as_bytes-all.result.now ≡ length c.args.text.now = ap length c.as_bytes-all.ensures in
    wrong_line
    c.args.app.now
    c.args.code.now
    c.requires.order
    c.args.text.now
    c.loop-all.rest.now
    c.split_at.result.0.now
    c.loop-all.choices
    c.line_length.result
    (length c.as_bytes-all.result.now - length c.loop-all.rest.now)
    c.place_of.result
    some
    c.line_length.ensures.count
    c.split_at.ensures.front
    (omega (arith, size, c.loop-all.invariant.few))
    c.place_of.ensures
    (subst
    (λ (t : Option ValueType). (choice : Choice) → Spells c.args.app.now t c.split_at.result.0.now choice → ⊥)
    input
    c.in_default.ensures.none)
    c.loop-all.invariant.so_far

pub loop-all-smaller : goal.loop-all-smaller
loop-all-smaller c =
    let some : 0 < length c.loop-all.rest.now = first_of (search rules, grind (arith, common_steps, c.is_empty.ensures, c.loop-all-test.true)) in
    let next : c.behind-rest.result.now ≡ drop (suc c.line_length.result) c.loop-all.rest.now = c.behind-rest.ensures ∙ (ap (drop 1) c.split_at.ensures.back ∙ drop_one c.line_length.result c.loop-all.rest.now) in
    let size = ap length next ∙ length-drop (suc c.line_length.result) c.loop-all.rest.now in
    let less : length c.behind-rest.result.now < length c.loop-all.rest.now = omega (arith, size, some) in
    less

pub loop-all-preserved : goal.loop-all-preserved
loop-all-preserved c =
    let some : 0 < length c.loop-all.rest.now = first_of (search rules, grind (arith, common_steps, c.is_empty.ensures, c.loop-all-test.true)) in
    let st = after_all c.args.app.now c.args.code.now (start_of c.args.app.now c.args.code.now) c.loop-all.choices in
    let input = input_stands c.args.app.now c.args.code.now st c.loop-all.machine c.input.result c.type_in-input.result c.loop-all.invariant.stands c.input.ensures c.type_in-input.ensures in
    let next : c.behind-rest.result.now ≡ drop (suc c.line_length.result) c.loop-all.rest.now = c.behind-rest.ensures ∙ (ap (drop 1) c.split_at.ensures.back ∙ drop_one c.line_length.result c.loop-all.rest.now) in
    let size = ap length next ∙ length-drop (suc c.line_length.result) c.loop-all.rest.now in
    let count = ap length c.in_ok-push.ensures.ok ∙ length-append c.loop-all.choices (c.in-Some.choice ∷ []) in
    record {
      stands =
          stands_after
          c.args.app.now
          c.args.code.now
          c.loop-all.choices
          c.push.new.self
          c.in-Some.choice
          c.loop-all.machine
          c.step.new.self
          c.step.result
          c.in_ok-push.ensures.ok
          c.step.ensures.step
          c.loop-all.invariant.stands;
      so_far =
          line_read
          c.args.app.now
          c.args.code.now
          c.args.text.now
          c.loop-all.rest.now
          c.behind-rest.result.now
          c.split_at.result.0.now
          c.loop-all.choices
          c.push.new.self
          c.in-Some.choice
          c.line_length.result
          some
          c.line_length.ensures.count
          c.split_at.ensures.front
          next
          c.in_ok-push.ensures.ok
          (subst (λ (t : Option ValueType). Spells c.args.app.now t c.split_at.result.0.now c.in-Some.choice) input c.in-Some.ensures.found)
          c.loop-all.invariant.so_far;
      few = omega (arith, size, count, some, c.loop-all.invariant.few);
      shorter = omega (arith, size, c.step.ensures.arrivals, some, c.loop-all.invariant.shorter);
    }

pub returns-clause-choices : goal.returns-clause-choices
returns-clause-choices c =
    all_read
    c.args.app.now
    c.args.code.now
    c.requires.order
    c.args.text.now
    c.loop-all.rest.now
    c.loop-all.choices
    (first_of (search rules, grind (arith, common_steps, c.is_empty.ensures, c.loop-all-test.false)))
    c.loop-all.invariant.so_far
