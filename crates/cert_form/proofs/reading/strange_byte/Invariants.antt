use Rattle.std.proofs.Common.{◌≡◌, take, true}
use Rattle.cert_form.specs.Answers.{are_bytes}
use Rattle.cert_form.proofs.reading.strange_byte.Given as goal

abbrev pub invariant-loop-i : goal.invariant-loop-i
invariant-loop-i l = are_bytes (take l.i l.text) ≡ true
