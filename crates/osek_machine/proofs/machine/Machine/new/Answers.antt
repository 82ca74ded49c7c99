use Rattle.std.proofs.Common.{◌∙◌, ◌<◌, sym, arith, length}
use Rattle.osek_machine.proofs.Arrivals.{start_arrivals}
use Rattle.osek_machine.proofs.Beginning.{starting_fresh, starting_queued, starting_skipped, started}
use Rattle.osek_machine.proofs.machine.Machine.new.Goals as goal
use Rattle.osek_machine.proofs.Runs.{begun}
use Rattle.osek_machine.proofs.machine.Machine.new.Goals.{then-starts, else-starts}

pub loop-t-preserved : goal.loop-t-preserved
loop-t-preserved c =
    let within : c.loop-t.t < length c.args.app.now.tasks = omega (arith, c.loop-t-test.true, c.len-tasks.ensures) in
    elim c.if-starts.branch [
      | then-starts w ↦ starting_queued _ _ c.loop-t.t c.loop-t.machine _ _ within (sym w.if-starts.true ∙ c.starts.ensures) w.machine-is w.queue.ensures.state w.queue.ensures.requests w.queue.ensures.running c.loop-t.invariant
      | else-starts w ↦ starting_skipped _ _ c.loop-t.t c.loop-t.machine _ within (sym w.if-starts.false ∙ c.starts.ensures) w.machine-is c.loop-t.invariant
    ]

pub returns-clause-start : goal.returns-clause-start
returns-clause-start c =
    started _ _ c.loop-t.t _ _ (omega (arith, c.loop-t-test.false, c.len-tasks.ensures)) c.loop-t.invariant c.dispatch.ensures

pub returns-clause-run : goal.returns-clause-run
returns-clause-run c =
    begun c.args.app.now c.args.code.now _
    (started _ _ c.loop-t.t _ _ (omega (arith, c.loop-t-test.false, c.len-tasks.ensures)) c.loop-t.invariant c.dispatch.ensures)

pub returns-clause-arrivals : goal.returns-clause-arrivals
returns-clause-arrivals c =
    start_arrivals c.args.app.now c.args.code.now _
    (started _ _ c.loop-t.t _ _ (omega (arith, c.loop-t-test.false, c.len-tasks.ensures)) c.loop-t.invariant c.dispatch.ensures)

pub loop-t-init : goal.loop-t-init
loop-t-init c =
    starting_fresh c.args.app.now c.args.code.now _ _ _ _ _ _ _ _ _ c.in_ok-cells.ensures (c.in_ok-vec.ensures.items_if_clones_equal (λ y h. h)) c.in_ok-with_capacity-2.ensures.items c.in_ok-with_capacity-3.ensures.items c.in_ok-with_capacity-4.ensures.items c.in_ok-with_capacity-5.ensures.items (c.in_ok-vec-2.ensures.items_if_clones_equal (λ y h. h))
