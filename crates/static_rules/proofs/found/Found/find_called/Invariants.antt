use Rattle.std.proofs.Common.{take}
use Rattle.static_rules.specs.Chains.{calls}
use Rattle.static_rules.specs.Found.{Finds}
use Rattle.static_rules.proofs.found.Found.find_called.Given as goal

-- the sites so far
abbrev pub invariant-loop-site : goal.invariant-loop-site
invariant-loop-site l =
    Finds l.initial.self.flags.items l.initial.self.fresh.items l.self.flags.items l.self.fresh.items (calls (take l.site-index l.sites))
