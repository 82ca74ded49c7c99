use Rattle.std.proofs.Common.{◌+◌, ◌∙◌, ap, length, subst}
use Rattle.bounded_check.proofs.Depicting.{all_named, all_taken, depicted, greatest_is, listed_of}
use Rattle.bounded_check.proofs.encode.encode.Goals as goal
use Rattle.guard_prog.specs.Drafts.{program_of}
use Rattle.one_stack.specs.Labelled.{labels_of}
use Rattle.step_ir.specs.Points.{start_bits}
use Rattle.step_ir.specs.PointStep.{behaviour_of}
use Rattle.step_ir.specs.Setting.{setting_of}
use Rattle.turn_encoding.specs.Encodings.{encoding_of, HasShape}
use Rattle.turn_encoding.specs.Grids.{AreWide}

pub returns-clause-depicts : goal.returns-clause-depicts
returns-clause-depicts c =
    let stack = c.in_ok-stack.stack in
    let e = encoding_of c.in_ok-encoding.encoding in
    let same = c.same_traces_of_codes.ensures.in_order c.args.app.now c.requires.order c.args.code.now (start_bits c.args.code.now) in
    let wide = subst (λ n. AreWide (n + 1) e.alternatives) (greatest_is stack.program.points stack.labels c.in_ok-stack.ensures.greatest) c.in_ok-encoding.ensures.shape.alternatives_wide in
    let takes = all_taken stack.program.depth stack.program.points stack.labels c.in_ok-stack.ensures.labels in
    let named = all_named (setting_of c.args.app.now).entities _ stack.program.points stack.labels c.in_ok-stack.ensures.built.points (c.in_ok-stack.ensures.labels ∙ ap (λ n. labels_of n stack.program.points) c.in_ok-stack.ensures.built.depth) in
    depicted (setting_of c.args.app.now) (behaviour_of c.args.code.now) (start_bits c.args.code.now) c.args.arrivals
    (same.machine_stopped (c.same_traces_of_codes.ensures.no_failures c.args.code.now)) c.prefixes_are_runs.ensures (program_of stack.program) stack.labels c.in_ok-stack.ensures.exact c.in_ok-stack.ensures.actors
    e c.args.turns c.in_ok-encoding.ensures.describes (listed_of e (program_of stack.program) c.args.turns stack.labels c.in_ok-encoding.ensures.describes wide takes) named

pub returns-clause-shape : goal.returns-clause-shape
returns-clause-shape c =
    let stack = c.in_ok-stack.stack in
    subst (λ n. HasShape (encoding_of c.in_ok-encoding.encoding) stack.program.depth n c.args.turns) (greatest_is stack.program.points stack.labels c.in_ok-stack.ensures.greatest) c.in_ok-encoding.ensures.shape
