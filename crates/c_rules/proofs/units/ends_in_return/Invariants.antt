use Rattle.std.proofs.Common.{◌≡◌, false, drop}
use Rattle.c_rules.specs.Written.{written_block}
use Rattle.c_rules.specs.UnitRules.{ends_in_return}
use Rattle.c_rules.proofs.units.ends_in_return.Given as goal

-- what is left of the statements decides, if there is one
abbrev pub invariant-loop-statement : goal.invariant-loop-statement
invariant-loop-statement l =
    ends_in_return false (written_block l.block) ≡ ends_in_return l.ends (written_block (drop l.statement-index l.block))
