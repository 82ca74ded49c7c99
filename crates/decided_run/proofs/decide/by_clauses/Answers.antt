use Rattle.std.proofs.lemmas.Result.{err_from_is_err_and}
use Rattle.decided_run.proofs.Deciding.{ran_out}
use Rattle.decided_run.proofs.decide.by_clauses.Goals as goal

pub returns-in_err-decision_of-clause-undone : goal.returns-in_err-decision_of-clause-undone
returns-in_err-decision_of-clause-undone g c =
    let p = err_from_is_err_and c.from_residual-in_err-decision_of.result c.from_residual-in_err-decision_of.ensures.1 in
    let has = c.in_ok-verdict.ensures in
    rw p.1
    (ran_out c.args.app.now c.args.code.now c.args.bounds c.args.cert.now
    (g.D.Desk.state c.args.desk.now) (g.D.Desk.state c.begin.new.self) (g.D.Desk.state c.decide_and_write.new.desk)
    c.in_ok-verdict.verdict p.0 p.2 c.requires.form c.in_ok-begin.ensures has.certified.whole has.means)
