use Rattle.std.proofs.Common.{◌≡◌, ◌-◌, true, false, is_none, if◌then◌else◌, subst, reverse, arith}
use Rattle.clause_solver.specs.LevelTable.{IsIndexed}
use Rattle.clause_solver.proofs.LevelTables.{popped_as}
use Rattle.clause_solver.proofs.trail.Trail.pop.Goals as goal

pub invariant_of-self-then-is_none : goal.invariant_of-self-then-is_none
invariant_of-self-then-is_none c =
    subst (λ b. IsIndexed (reverse c.pop.new.self.items) c.take_out.new.levels.items (if b then c.self.inside.level - 1 else c.self.inside.level)) (let e : is_none c.in_ok-entry.entry.reason ≡ true = (let p = c.is_none.ensures in let q = c.if-is_none.true in grind (arith, p, q)) in e)
    (popped_as c.in_ok-entry.entry c.self.inside.entries.items c.pop.new.self.items c.self.inside.levels.items c.take_out.new.levels.items c.self.inside.level c.self.invariant (c.in_ok-entry.ensures.items) c.take_out.ensures)

pub invariant_of-self-else-is_none : goal.invariant_of-self-else-is_none
invariant_of-self-else-is_none c =
    subst (λ b. IsIndexed (reverse c.pop.new.self.items) c.take_out.new.levels.items (if b then c.self.inside.level - 1 else c.self.inside.level)) (let e : is_none c.in_ok-entry.entry.reason ≡ false = (let p = c.is_none.ensures in let q = c.if-is_none.false in grind (arith, p, q)) in e)
    (popped_as c.in_ok-entry.entry c.self.inside.entries.items c.pop.new.self.items c.self.inside.levels.items c.take_out.new.levels.items c.self.inside.level c.self.invariant (c.in_ok-entry.ensures.items) c.take_out.ensures)
