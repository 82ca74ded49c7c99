use Rattle.std.proofs.Common.{Ok}
use Rattle.std.specs.declared.alloc.AllocError.{AllocError}
use Rattle.app_generator.specs.Generated.{each_below, task_object}
use Rattle.app_generator.specs.Puts.{Puts}
use Rattle.app_generator.proofs.objects.put_tasks.Given as goal

abbrev pub invariant-loop-i : goal.invariant-loop-i
invariant-loop-i l = Puts {E = AllocError} l.fn.text l.text (each_below task_object l.i) (Ok tt)
