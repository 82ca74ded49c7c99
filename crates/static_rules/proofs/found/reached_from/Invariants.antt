use Rattle.static_rules.proofs.Reaching.{IsSpread}
use Rattle.static_rules.proofs.found.reached_from.Given as goal

-- the calls so far
abbrev pub invariant-loop-count : goal.invariant-loop-count
invariant-loop-count l = IsSpread l.bodies l.start l.count l.found.flags.items l.found.fresh.items
