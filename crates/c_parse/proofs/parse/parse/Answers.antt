-- Tokens that are left over, a whole unit, and a stop.
use Rattle.std.proofs.Common.{◌≡◌, ◌<◌, List, length, subst, arith}
use Rattle.std.proofs.lemmas.Bool.Decides.{nat_tests}
use Rattle.grammar.specs.Reading.{Got, Stuck}
use Rattle.c_lex.specs.declared.token.Token.{Token}
use Rattle.c_grammar.specs.Factored.{factored_unit}
use Rattle.c_expression.specs.Reads.{reads, tree_at, written_at}
use Rattle.c_parse.specs.Depth.{IsShallow}
use Rattle.c_parse.specs.Units.{externals_of}
use Rattle.c_parse.proofs.Whole
use Rattle.c_parse.proofs.parse.parse.Goals as goal

pub returns-then-not-is_empty-clause-refused : goal.returns-then-not-is_empty-clause-refused
returns-then-not-is_empty-clause-refused c =
    let a = c.if-not-is_empty.true in
    let b = c.is_empty.ensures in
    let some : 0 < length c.in-Ok.rest.now = grind (arith, nat_tests, a, b) in
    let shallow = subst IsShallow c.items.ensures c.in_default.ensures.none in
    let read = subst (λ (ts : List Token). reads factored_unit ts ≡ Got (tree_at factored_unit ts) c.in-Ok.rest.now) c.items-items.ensures c.in-Ok.ensures.gives in
    rw c.fault_at.ensures (Whole.left_over c.args.tokens.now c.in-Ok.rest.now shallow read some)

pub returns-else-not-is_empty-clause-found : goal.returns-else-not-is_empty-clause-found
returns-else-not-is_empty-clause-found c =
    let a = c.if-not-is_empty.false in
    let b = c.is_empty.ensures in
    let none : length c.in-Ok.rest.now ≡ 0 = grind (arith, nat_tests, a, b) in
    let read = subst (λ (ts : List Token). reads factored_unit ts ≡ Got (tree_at factored_unit ts) c.in-Ok.rest.now) c.items-items.ensures c.in-Ok.ensures.gives in
    let means = subst (λ (ts : List Token). externals_of (written_at factored_unit ts) ≡ c.in-Ok.externals) c.items-items.ensures c.in-Ok.ensures.means in
    record {
      shallow = subst IsShallow c.items.ensures c.in_default.ensures.none;
      read = Whole.whole c.args.tokens.now c.in-Ok.rest.now c.in-Ok.externals read means none;
      end = c.end.ensures;
    }

pub returns-in-Err-At-clause-refused : goal.returns-in-Err-At-clause-refused
returns-in-Err-At-clause-refused c =
    let stuck : reads factored_unit c.items-items.result.now ≡ Stuck c.in-Err-At.rest.now = rw c.in-Err-At.field-0-is at c.in-Err-At.ensures.gives in
    let read = subst (λ (ts : List Token). reads factored_unit ts ≡ Stuck c.in-Err-At.rest.now) c.items-items.ensures stuck in
    rw c.fault_at-in-Err-At.ensures (Whole.stopped c.args.tokens.now c.in-Err-At.rest.now (subst IsShallow c.items.ensures c.in_default.ensures.none) read)
