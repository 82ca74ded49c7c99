-- A simple statement comes, and no local.
use Rattle.std.proofs.Common.{◌∙◌, sym}
use Rattle.c_parse.proofs.Choices
use Rattle.c_parse.proofs.statements.start.Goals as goal

pub returns-then-begins_simple-clause-means : goal.returns-then-begins_simple-clause-means
returns-then-begins_simple-clause-means c = Choices.simple_means c.args.tokens.now c.in_ok-simple.rest.now c.in_ok-simple.simple (sym c.begins_local.ensures ∙ c.if-begins_local.false) (sym c.begins_simple.ensures ∙ c.if-begins_simple.true) c.in_ok-simple.ensures.gives c.in_ok-simple.ensures.means
