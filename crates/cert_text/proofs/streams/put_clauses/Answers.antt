use Rattle.std.proofs.Common.{◌≡◌, ◌+◌, Some, None, arith}
use Rattle.std.proofs.lemmas.Result.{err_from_is_err_and}
use Rattle.std.specs.List.{slice_get}
use Rattle.cert_text.proofs.Streaming.{breaks_at, done_all, get_past, goes_at, starts}
use Rattle.cert_text.proofs.streams.put_clauses.Goals as goal
use Rattle.cert_text.specs.Parts.{cell_line, clause_line, label_line, log_line, log_part, parts_from, row_lines, table_lines, value_text}

pub loop-at-init : goal.loop-at-init
loop-at-init g c = starts (clause_line) 0 c.args.clauses.now _ _

pub loop-at-preserved : goal.loop-at-preserved
loop-at-preserved g c =
    let e : slice_get c.args.clauses.now c.loop-at.at ≡ Some c.in-Some.item.now = cc (c.in-Some.ensures) in
    goes_at (clause_line) 0 c.args.clauses.now _ _ _ _ _ _ c.loop-at.at (0 + c.loop-at.at) c.in-Some.item.now e (omega arith) c.loop-at.invariant c.in_ok-spill_clause.ensures

pub returns-in_err-spill_clause : goal.returns-in_err-spill_clause
returns-in_err-spill_clause g c =
    let e : slice_get c.args.clauses.now c.loop-at.at ≡ Some c.in-Some.item.now = cc (c.in-Some.ensures) in
    let p = err_from_is_err_and c.from_residual.result c.from_residual.ensures.1 in
    rw (p.1, p.2) (breaks_at (clause_line) 0 c.args.clauses.now _ _ _ _ _ _ c.loop-at.at (0 + c.loop-at.at) c.in-Some.item.now _ e (omega arith) c.loop-at.invariant c.in_err-spill_clause.ensures)

pub returns-in_default : goal.returns-in_default
returns-in_default g c =
    let e : slice_get c.args.clauses.now c.loop-at.at ≡ None = cc (c.in_default.ensures) in
    done_all (clause_line) 0 c.args.clauses.now _ _ _ _ c.loop-at.at e c.loop-at.invariant

pub returns : goal.returns
returns g c = done_all (clause_line) 0 c.args.clauses.now _ _ _ _ c.loop-at.at (get_past c.args.clauses.now c.loop-at.at (omega arith)) c.loop-at.invariant
