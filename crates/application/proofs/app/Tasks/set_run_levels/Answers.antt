use Rattle.std.proofs.Common.{◌≡◌, ◌<◌, length, ap, arith}
use Rattle.application.proofs.RunLevels.{set_step}
use Rattle.application.proofs.app.Tasks.set_run_levels.Goals as goal

pub loop-i-preserved : goal.loop-i-preserved
loop-i-preserved c =
    let ts = c.self.inside.items.items in
    let levels = c.args.levels.now in
    let same : length ts ≡ length c.args.self.now = ap length c.self.view_is in
    let inside : c.loop-i.i < length ts = omega arith in
    let within : c.loop-i.i < length levels = omega arith in
    set_step levels ts c.loop-i.self-inside.items.items c.loop-i.i 0 c.index_mut.result.now c.loop-i.invariant c.index_mut.ensures.value within inside
