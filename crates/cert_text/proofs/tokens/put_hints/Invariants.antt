use Rattle.std.proofs.Common.{◌++◌}
use Rattle.cert_text.proofs.Streaming.{AreToCome}
use Rattle.cert_text.proofs.tokens.put_hints.Given as goal
use Rattle.cert_text.specs.Parts.{parts_from, spaced_number}

abbrev pub invariant-loop-at : goal.invariant-loop-at
invariant-loop-at l = AreToCome spaced_number l.hints (l.fn.out ++ parts_from spaced_number 0 l.hints) l.at l.out
