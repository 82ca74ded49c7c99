use Rattle.std.proofs.Common.{arith, reverse}
use Rattle.std.proofs.lemmas.List.{length-reverse}
use Rattle.clause_solver.proofs.LevelTables.{decisions_length}
use Rattle.clause_solver.proofs.trail.Trail.push.Goals as goal

pub overflow_add-level : goal.overflow_add-level
overflow_add-level c =
    let a = decisions_length (reverse c.self.inside.entries.items) in
    let b = c.self.invariant.level in
    let d = length-reverse c.self.inside.entries.items in
    let small = c.self.inside.entries.small in
    let fine = c.self.inside.entries.ok in
    omega arith
