use Rattle.std.proofs.Common.{◌≡◌, true, false, Some, None, sym, ◌∙◌, arith}
use Rattle.std.proofs.lemmas.Option.{slice_get_within}
use Rattle.std.specs.List.{slice_get}
use Rattle.clause_form.specs.DerivedLine.{is_empty}
use Rattle.proof_check.proofs.Verdicts.{empty_by, has_empty_found, has_empty_next, has_empty_none}
use Rattle.proof_check.proofs.check.has_empty_line.Goals as goal

pub overflow_add-at : goal.overflow_add-at
overflow_add-at c =
    let e : slice_get c.args.log.now c.loop-line.at ≡ Some c.in-Some.line.now = cc (c.in-Some.ensures) in
    let w = slice_get_within c.args.log.now c.loop-line.at c.in-Some.line.now e in
    let n = c.loop-line.invariant.count in
    omega (arith, w, n)

pub loop-line-smaller : goal.loop-line-smaller
loop-line-smaller c =
    let e : slice_get c.args.log.now c.loop-line.at ≡ Some c.in-Some.line.now = cc (c.in-Some.ensures) in
    let w = slice_get_within c.args.log.now c.loop-line.at c.in-Some.line.now e in
    omega arith

pub returns-then-is_empty : goal.returns-then-is_empty
returns-then-is_empty c =
    let e : slice_get c.args.log.now c.loop-line.at ≡ Some c.in-Some.line.now = cc (c.in-Some.ensures) in
    let z : is_empty c.in-Some.line.now.clause ≡ true = empty_by c.in-Some.line.now.clause c.lits.result.now c.is_empty.result true c.lits.ensures.lits c.is_empty.ensures c.if-is_empty.true in
    let f = has_empty_found c.args.log.now c.loop-line.at c.in-Some.line.now e z in
    sym f ∙ c.loop-line.invariant.same

pub loop-line-preserved : goal.loop-line-preserved
loop-line-preserved c =
    let e : slice_get c.args.log.now c.loop-line.at ≡ Some c.in-Some.line.now = cc (c.in-Some.ensures) in
    let z : is_empty c.in-Some.line.now.clause ≡ false = empty_by c.in-Some.line.now.clause c.lits.result.now c.is_empty.result false c.lits.ensures.lits c.is_empty.ensures c.if-is_empty.false in
    let w = slice_get_within c.args.log.now c.loop-line.at c.in-Some.line.now e in
    record {
      within = omega arith;
      count = c.loop-line.invariant.count;
      same = sym (has_empty_next c.args.log.now c.loop-line.at c.in-Some.line.now e z) ∙ c.loop-line.invariant.same;
    }

pub returns : goal.returns
returns c =
    let e : slice_get c.args.log.now c.loop-line.at ≡ None = cc (c.in_default.ensures) in
    sym (has_empty_none c.args.log.now c.loop-line.at e) ∙ c.loop-line.invariant.same
