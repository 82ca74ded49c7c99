use Rattle.std.proofs.Common.{◌≡◌, drop}
use Rattle.text_stages.specs.Prepared.{first_input}
use Rattle.text_stages.proofs.stages.first_input.Given as goal

-- it is none of the tokens so far
abbrev pub invariant-loop-token : goal.invariant-loop-token
invariant-loop-token l = first_input l.tokens.items ≡ first_input (drop l.token-index l.tokens.items)
