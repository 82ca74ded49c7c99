use Rattle.std.proofs.Common.{◌≡◌, true, Ok, ap, subst, sym, ◌∙◌}
use Rattle.bounded_check.proofs.Deciding.{decided_after, listed_after, means, pushed}
use Rattle.bounded_check.proofs.decide.decide.Goals as goal
use Rattle.clause_form.proofs.Rising.{is_within-from}
use Rattle.clause_form.specs.DerivedLine.{AreDerived}
use Rattle.clause_form.specs.Literals.{is_within}
use Rattle.clause_solver.specs.Answer.{IsLog}
use Rattle.step_ir.specs.Points.{start_bits}
use Rattle.turn_encoding.specs.Encodings.{encoding_of}

pub push-requires : goal.push-requires
push-requires c =
    subst (λ g. is_within c.args.encoded.encoding.formula.variables g ≡ true) (sym c.in_ok-goal.ensures) (is_within-from _ _ c.requires.goal)

pub look-requires : goal.look-requires
look-requires c =
    subst (AreDerived c.push.new.self.variables c.push.new.self.clauses) (sym c.log.ensures) c.in_ok-answer.ensures.log.derived

pub verdict_of-requires-clause-listed : goal.verdict_of-requires-clause-listed
verdict_of-requires-clause-listed c =
    listed_after (encoding_of c.args.encoded.encoding) c.args.encoded.stack.labels c.push.new.self.variables _ _ c.in_ok-push.ensures.ok c.in_ok-goal.ensures c.requires.listed

pub returns-clause-log : goal.returns-clause-log
returns-clause-log c =
    pushed (λ n cs. IsLog n cs c.args.budget c.searched.new.lines) (encoding_of c.args.encoded.encoding) _ _ _ c.in_ok-push.ensures.variables c.in_ok-push.ensures.ok c.in_ok-goal.ensures c.in_ok-answer.ensures.log

pub returns-clause-decided : goal.returns-clause-decided
returns-clause-decided c =
    decided_after (encoding_of c.args.encoded.encoding) c.args.encoded.stack.labels c.args.budget _ _ _ c.searched.new.lines c.in_ok-answer.answer c.in_ok-verdict.verdict
    c.in_ok-push.ensures.variables c.in_ok-push.ensures.ok c.in_ok-goal.ensures c.in_ok-answer.ensures.answer c.in_ok-answer.ensures.ends (λ h. c.in_ok-answer.ensures.spent (ap Ok h)) c.in_ok-verdict.ensures

pub returns-clause-means : goal.returns-clause-means
returns-clause-means c app code k m order depicts =
    means app code k m (encoding_of c.args.encoded.encoding) c.args.encoded.stack.labels (c.same_traces_of_codes.ensures.in_order app order code (start_bits code)) depicts c.args.budget c.searched.new.lines c.in_ok-verdict.verdict
    (decided_after (encoding_of c.args.encoded.encoding) c.args.encoded.stack.labels c.args.budget _ _ _ c.searched.new.lines c.in_ok-answer.answer c.in_ok-verdict.verdict
    c.in_ok-push.ensures.variables c.in_ok-push.ensures.ok c.in_ok-goal.ensures c.in_ok-answer.ensures.answer c.in_ok-answer.ensures.ends (λ h. c.in_ok-answer.ensures.spent (ap Ok h)) c.in_ok-verdict.ensures)
