use Rattle.trace_law.proofs.law.same_traces_of_codes.Goals as goal
use Rattle.trace_law.proofs.Whole.{depth_in_order, same_traces_in_order}
use Rattle.step_ir.proofs.Telling.{code_tells}
use Rattle.step_ir.specs.PointStep.{behaviour_of}

pub returns : goal.returns
returns c =
    record {
      in_order = λ app ok code. same_traces_in_order app ok (behaviour_of code);
      no_failures = code_tells;
      depth = λ app ok code. depth_in_order app ok (behaviour_of code);
    }
