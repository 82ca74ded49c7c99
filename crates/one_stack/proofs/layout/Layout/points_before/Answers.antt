use Rattle.std.proofs.Common.{◌≡◌, ◌≤◌, ◌+◌, arith, sym, ◌∙◌, ap₂, subst}
use Rattle.one_stack.specs.Built.{sum_below}
use Rattle.one_stack.specs.Tables.{Tables, count_in}
use Rattle.one_stack.proofs.Stepping.{sum_more}
use Rattle.one_stack.proofs.layout.Layout.points_before.Goals as goal

pub overflow_add-sum : goal.overflow_add-sum
overflow_add-sum c =
    let few : sum_below (c.loop-x.x + 1) (count_in c.args.self.now) ≤ 2048 = subst (λ (t : Tables). sum_below (c.loop-x.x + 1) (count_in t) ≤ 2048) c.self.view_is (c.self.invariant.counts (c.loop-x.x + 1)) in
    omega (arith, few, sum_more (count_in c.args.self.now) c.loop-x.x, c.loop-x.invariant, c.count-sum.ensures)

pub loop-x-preserved : goal.loop-x-preserved
loop-x-preserved c = ap₂ (λ a b. a + b) c.loop-x.invariant c.count-sum.ensures ∙ sym (sum_more (count_in c.args.self.now) c.loop-x.x)

pub returns-clause-few : goal.returns-clause-few
returns-clause-few c =
    let few : sum_below c.args.e (count_in c.args.self.now) ≤ 2048 = subst (λ (t : Tables). sum_below c.args.e (count_in t) ≤ 2048) c.self.view_is (c.self.invariant.counts c.args.e) in
    let same : c.loop-x.x ≡ c.args.e = omega arith in
    subst (λ n. n ≤ 2048) (sym c.loop-x.invariant) (subst (λ k. sum_below k (count_in c.args.self.now) ≤ 2048) (sym same) few)
