use Rattle.std.proofs.Common.{◌++◌}
use Rattle.cert_text.proofs.Streaming.{AreToCome}
use Rattle.cert_text.proofs.tokens.put_literals.Given as goal
use Rattle.cert_text.specs.Parts.{parts_from, spaced_literal}

abbrev pub invariant-loop-lit : goal.invariant-loop-lit
invariant-loop-lit l = AreToCome spaced_literal l.lits (l.fn.out ++ parts_from spaced_literal 0 l.lits) l.lit-index l.out
