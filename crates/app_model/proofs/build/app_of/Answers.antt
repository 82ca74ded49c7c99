use Rattle.std.proofs.Common.{◌≡◌, [], sym, subst, rules}
use Rattle.std.specs.Option.{option_copied}
use Rattle.oil_rules.specs.Rules.{faults}
use Rattle.application.specs.InOrder.{IsInOrder}
use Rattle.app_model.proofs.Orderly.{application_in_order}
use Rattle.app_model.proofs.build.app_of.Goals as goal

pub returns-in-Ok-build-clause-order : goal.returns-in-Ok-build-clause-order
returns-in-Ok-build-clause-order c =
    let none : faults c.args.tree.now (option_copied c.args.mode) ≡ [] = search rules in
    subst IsInOrder (sym c.in-Ok-build.ensures) (application_in_order c.args.tree.now (option_copied c.args.mode) none)
