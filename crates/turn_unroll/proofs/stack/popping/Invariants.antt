use Rattle.std.proofs.Common.{◌&&◌, ◌+◌}
use Rattle.clause_form.specs.ClauseTruth.{is_lit_true}
use Rattle.turn_law.specs.Symbol.{row_true}
use Rattle.turn_unroll.specs.Rows.{GivesRow}
use Rattle.turn_unroll.proofs.stack.popping.Given as goal

abbrev pub invariant-loop-d : goal.invariant-loop-d
invariant-loop-d l = GivesRow l.fn.circuit l.circuit l.row.items l.d (λ v d. is_lit_true v l.pop && row_true v l.depth (d + 1))
