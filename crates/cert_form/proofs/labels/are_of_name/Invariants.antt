use Rattle.std.proofs.Common.{◌≡◌, drop}
use Rattle.cert_form.specs.Words.{are_of_name}
use Rattle.cert_form.proofs.labels.are_of_name.Given as goal

abbrev pub invariant-loop-byte : goal.invariant-loop-byte
invariant-loop-byte l = are_of_name (drop l.byte-index l.bytes) ≡ are_of_name l.bytes
