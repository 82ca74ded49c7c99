use Rattle.std.proofs.Common.{◌≡◌, drop}
use Rattle.c_rules.specs.UnitRules.{after_parameters}
use Rattle.c_types.proofs.units.declare_parameters.Given as goal

-- what is left to be declared
abbrev pub invariant-loop-p : goal.invariant-loop-p
invariant-loop-p l = after_parameters l.parameters l.initial.scope ≡ after_parameters (drop l.p-index l.parameters) l.scope
