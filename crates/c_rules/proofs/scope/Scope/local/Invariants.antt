use Rattle.std.proofs.Common.{◌≡◌, take, fold, None}
use Rattle.c_rules.specs.Scopes.{nearer}
use Rattle.c_rules.specs.PlainScopes.{plain_visible}
use Rattle.c_rules.proofs.scope.Scope.local.Given as goal

-- the last of the locals so far that has the name
abbrev pub invariant-loop-v : goal.invariant-loop-v
invariant-loop-v l = l.found ≡ fold (λ f v. nearer l.name f (plain_visible v)) None (take l.v-index l.v-items)
