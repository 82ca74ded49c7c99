use Rattle.std.proofs.Common.{◌&&◌, false, length, get_or}
use Rattle.static_rules.specs.Chains.{calls, body, any_below}
use Rattle.static_rules.specs.Found.{IsTable}
use Rattle.static_rules.proofs.found.called_by.Given as goal

-- the functions so far
abbrev pub invariant-loop-f : goal.invariant-loop-f
invariant-loop-f l =
    IsTable l.found.flags.items (length l.bodies) (λ g. any_below (λ f. get_or l.functions f false && calls (body l.bodies f) g) l.f)
