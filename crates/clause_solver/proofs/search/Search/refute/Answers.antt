use Rattle.std.proofs.Common.{◌≡◌, ◌+◌, true}
use Rattle.std.specs.Prelude.{IfSome}
use Rattle.clause_form.specs.ClauseTruth.{HasNoModel}
use Rattle.clause_form.specs.DerivedLine.{ends_empty}
use Rattle.clause_form.specs.Keep.{with_line}
use Rattle.clause_solver.specs.Answer.{IsLog}
use Rattle.clause_solver.specs.Numbering.{clauses_of}
use Rattle.clause_solver.proofs.Logs.{on_ok, on_ok_by, refuted, logged_last, ends_last, empty_clause}
use Rattle.clause_solver.proofs.search.Search.refute.Goals as goal

pub returns-clause-none : goal.returns-clause-none
returns-clause-none g c =
    on_ok c.keep_line.result (HasNoModel c.args.formula.now.clauses)
    (refuted c.args.formula.now.variables c.args.formula.now.clauses (clauses_of (g.C.ClauseStore.stored c.args.store.now) c.args.self.now.numbering) c.in_ok-line.line
    c.requires.search.follow (c.in_ok-line.ensures.derived c.args.formula.now.variables (clauses_of (g.C.ClauseStore.stored c.args.store.now) c.args.self.now.numbering) c.requires.search.trail c.requires.conflict) c.in_ok-line.ensures.empty)

pub returns-clause-log : goal.returns-clause-log
returns-clause-log g c =
    on_ok_by c.keep_line.result (g.K.Keep.lines c.keep_line.new.keep ≡ with_line (g.K.Keep.lines c.args.keep.now) c.in_ok-line.line)
    (IfSome (g.K.Keep.lines c.keep_line.new.keep) (IsLog c.args.formula.now.variables c.args.formula.now.clauses (c.args.self.now.lines + 1)))
    c.keep_line.ensures.ok
    (λ e. logged_last c.args.formula.now.variables c.args.formula.now.clauses (clauses_of (g.C.ClauseStore.stored c.args.store.now) c.args.self.now.numbering) c.args.self.now.lines (g.K.Keep.lines c.args.keep.now) (g.K.Keep.lines c.keep_line.new.keep) c.in_ok-line.line
    c.requires.search.told e (c.in_ok-line.ensures.derived c.args.formula.now.variables (clauses_of (g.C.ClauseStore.stored c.args.store.now) c.args.self.now.numbering) c.requires.search.trail c.requires.conflict) (empty_clause c.in_ok-line.line.clause c.in_ok-line.ensures.empty))

pub returns-clause-last : goal.returns-clause-last
returns-clause-last g c =
    on_ok_by c.keep_line.result (g.K.Keep.lines c.keep_line.new.keep ≡ with_line (g.K.Keep.lines c.args.keep.now) c.in_ok-line.line)
    (IfSome (g.K.Keep.lines c.keep_line.new.keep) (λ log. ends_empty log ≡ true))
    c.keep_line.ensures.ok
    (λ e. ends_last c.args.formula.now.variables c.args.formula.now.clauses (clauses_of (g.C.ClauseStore.stored c.args.store.now) c.args.self.now.numbering) c.args.self.now.lines (g.K.Keep.lines c.args.keep.now) (g.K.Keep.lines c.keep_line.new.keep) c.in_ok-line.line
    c.requires.search.told e (empty_clause c.in_ok-line.line.clause c.in_ok-line.ensures.empty))
