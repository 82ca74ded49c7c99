use Rattle.std.proofs.Common.{rules, ◌≡◌, List, ℕ, ◌≤◌, ◌<◌, length, subst, sym, arith}
use Rattle.app_generator.proofs.Short.{c_short, oil_short}
use Rattle.app_generator.proofs.generate.generate.Goals as goal
use Rattle.app_generator.specs.Generated.{generated_c, generated_oil}

pub returns-clause-short : goal.returns-clause-short
returns-clause-short c =
    let oil : c.put_behind.new.text ≡ generated_oil c.args.number = search rules in
    let text : c.put_bodies.new.text ≡ generated_c c.args.number c.args.arrivals = search rules in
    let few : c.args.arrivals < 256 = omega arith in
    (subst (λ (x : List ℕ). length x ≤ 262144) (sym oil) (oil_short c.args.number), subst (λ (x : List ℕ). length x ≤ 262144) (sym text) (c_short c.args.number c.args.arrivals few))
