use Rattle.std.proofs.Common.{◌+◌, arith, ap, ◌∙◌}
use Rattle.std.specs.Prelude.{IfSome}
use Rattle.clause_solver.specs.Learning.{greatest_level}
use Rattle.clause_solver.specs.Numbering.{clauses_of}
use Rattle.clause_solver.specs.Search.{IsOpenLog}
use Rattle.clause_solver.specs.Trail.{up_to}
use Rattle.clause_solver.proofs.Numbers.{length-clauses_of}
use Rattle.clause_solver.proofs.Logs.{on_err, conflict_within, logged_more, opened, searched}
use Rattle.clause_solver.proofs.search.Search.learn.Goals as goal

pub analyze-requires-clause-within : goal.analyze-requires-clause-within
analyze-requires-clause-within g c =
    let w = conflict_within (clauses_of (g.C.ClauseStore.stored c.args.store.now) c.args.self.now.numbering) c.args.self.now.trail c.args.conflict c.requires.conflict in
    let n = length-clauses_of (g.C.ClauseStore.stored c.args.store.now) c.args.self.now.numbering in
    omega (arith, w, n)

pub returns-in_err-append-clause-err : goal.returns-in_err-append-clause-err
returns-in_err-append-clause-err g c =
    let cs = clauses_of (g.C.ClauseStore.stored c.args.store.now) c.args.self.now.numbering in
    let l = c.in_ok-line.ensures in
    on_err c.from_residual-in_err-append.result (IfSome (g.K.Keep.lines c.keep_line.new.keep) (IsOpenLog c.args.formula.now.variables c.args.formula.now.clauses (c.args.self.now.lines + 1)))
    (opened c.args.formula.now.variables c.args.formula.now.clauses _ (c.args.self.now.lines + 1) (c.args.self.now.lines + 1) (g.K.Keep.lines c.keep_line.new.keep)
    (logged_more c.args.formula.now.variables c.args.formula.now.clauses cs c.args.self.now.lines (g.K.Keep.lines c.args.keep.now) (g.K.Keep.lines c.keep_line.new.keep) c.in_ok-line.line
    c.requires.search.told c.in_ok-keep_line.ensures.ok (l.derived c.args.formula.now.variables c.requires.search.trail) l.learned l.some) (omega arith))

pub returns-clause-search : goal.returns-clause-search
returns-clause-search g c =
    let cs = clauses_of (g.C.ClauseStore.stored c.args.store.now) c.args.self.now.numbering in
    searched c.args.formula.now.variables c.args.formula.now.clauses cs _ c.args.self.now.trail c.analyze.new.trail c.back_jump.new.trail c.args.self.now.lines (g.K.Keep.lines c.args.keep.now) (g.K.Keep.lines c.keep_line.new.keep) c.in_ok-line.line
    c.requires.search c.in_ok-line.ensures (c.back_jump.ensures ∙ ap (λ x. up_to (greatest_level c.analyze.new.trail x) c.analyze.new.trail) c.lits.ensures.lits) c.in_ok-keep_line.ensures.ok c.in_ok-append.ensures.clauses
