use Rattle.std.proofs.Common.{vec_len, reverse}
use Rattle.clause_form.proofs.Tables.{HasNoMore}
use Rattle.clause_form.proofs.lit_set.LitSet.clear.Given as goal

abbrev pub invariant-loop-lit : goal.invariant-loop-lit
invariant-loop-lit l = HasNoMore l.self-inside.table.items (reverse l.self-inside.lits.items)

abbrev pub decreases-loop-lit : goal.decreases-loop-lit
decreases-loop-lit l = vec_len l.self-inside.lits
