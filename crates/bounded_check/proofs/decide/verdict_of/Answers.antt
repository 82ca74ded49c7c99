use Rattle.std.proofs.Common.{◌≡◌, ap, subst, sym, ◌∙◌}
use Rattle.bounded_check.proofs.decide.verdict_of.Goals as goal
use Rattle.bounded_check.specs.Depicts.{AreListed}
use Rattle.clause_form.specs.ClauseTruth.{values_of}
use Rattle.clause_solver.specs.Answer.{IsAnswer}
use Rattle.clause_solver.specs.declared.answer.Answer.TheVariants.{Model}

pub choices_of-requires : goal.choices_of-requires
choices_of-requires c =
    let h : IsAnswer c.args.encoding.now.formula.variables c.args.encoding.now.formula.clauses (Model c.in-Model.values) = subst (IsAnswer c.args.encoding.now.formula.variables c.args.encoding.now.formula.clauses) c.in-Model.is c.requires.answer in
    subst (AreListed c.args.stack.now.labels) (sym c.in_ok-run-in-Model.ensures.run) (c.requires.listed (values_of c.in-Model.values) (record { holds = h.1 }))
