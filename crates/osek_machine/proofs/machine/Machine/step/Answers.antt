use Rattle.osek_machine.proofs.Arrivals.{one_arrival}
use Rattle.osek_machine.proofs.machine.Machine.step.Goals as goal
use Rattle.osek_machine.proofs.Runs.{goes_on}

pub returns-clause-run : goal.returns-clause-run
returns-clause-run c = goes_on c.args.choice.now c.args.self.now _ _ c.answer.ensures

pub returns-clause-arrivals : goal.returns-clause-arrivals
returns-clause-arrivals c = one_arrival c.args.choice.now c.args.self.now _ _ c.answer.ensures
