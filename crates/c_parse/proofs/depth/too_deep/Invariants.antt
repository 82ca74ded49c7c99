-- The counts over the tokens so far, which are nested no deeper than is read.
use Rattle.std.proofs.Common.{take}
use Rattle.c_parse.proofs.Depths.{IsCounted}
use Rattle.c_parse.proofs.depth.too_deep.Given as goal

abbrev pub invariant-each : goal.invariant-each
invariant-each l = IsCounted (take l.token-index l.tokens) l.braces l.marks
