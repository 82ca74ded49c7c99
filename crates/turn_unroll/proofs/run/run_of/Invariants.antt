use Rattle.clause_form.specs.ClauseTruth.{values_of}
use Rattle.turn_law.specs.Description.{turns_read}
use Rattle.turn_unroll.proofs.Reading.{IsRead}
use Rattle.turn_unroll.proofs.run.run_of.Given as goal

abbrev pub invariant-loop-t : goal.invariant-loop-t
invariant-loop-t l = IsRead (turns_read (values_of l.values) l.encoding.alternatives l.encoding.inputs) l.t l.run
