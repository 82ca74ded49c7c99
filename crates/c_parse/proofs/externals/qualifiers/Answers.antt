-- One qualifier more, and the end.
use Rattle.std.proofs.Common.{sym, arith}
use Rattle.c_grammar.specs.Written.{one_of, qualifier_words}
use Rattle.c_expression.proofs.Flags
use Rattle.c_parse.proofs.Lows.{qualifiers_low}
use Rattle.c_parse.proofs.externals.qualifiers.Goals as goal

pub items-init : goal.items-init
items-init c = record { read = Flags.starts (one_of qualifier_words) qualifiers_low c.args.tokens.now; not_longer = omega arith }

pub items-preserved : goal.items-preserved
items-preserved c = record {
  read = Flags.goes_on (one_of qualifier_words) qualifiers_low c.args.tokens.now c.items.rest.now c.items.constant c.in-Some.is_const c.either-constant.result c.in-Some.after.now c.in-Some.ensures.begins c.in-Some.ensures.gives c.in-Some.ensures.means (sym c.either-constant.ensures) c.items.invariant.read;
  not_longer = omega (arith, c.items.invariant.not_longer, c.in-Some.ensures.shorter);
}

pub returns-clause-gives : goal.returns-clause-gives
returns-clause-gives c = Flags.done_gives (one_of qualifier_words) qualifiers_low c.args.tokens.now c.items.rest.now c.items.constant c.in_default.ensures.none c.items.invariant.read

pub returns-clause-means : goal.returns-clause-means
returns-clause-means c = Flags.done_means (one_of qualifier_words) qualifiers_low c.args.tokens.now c.items.rest.now c.items.constant c.in_default.ensures.none c.items.invariant.read
