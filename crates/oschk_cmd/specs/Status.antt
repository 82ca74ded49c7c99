-- The numbers of statuses.
use Rattle.std.specs.Prelude.{ℕ}
use Rattle.oschk_cmd.specs.declared.status.Status.{Status}
use Rattle.oschk_cmd.specs.declared.status.Status.TheVariants.{Good, Fails, Undecided, Refused, Usage, ReadFault, WriteFault, Memory, NotPermitted}

-- the number that the program ends with
abbrev pub number_of : Status → ℕ
number_of Good = 0
number_of Fails = 1
number_of Undecided = 2
number_of Refused = 3
number_of Usage = 4
number_of ReadFault = 5
number_of WriteFault = 6
number_of Memory = 7
number_of NotPermitted = 8
