use Rattle.std.proofs.Common.{◌≡◌, ◌+◌, ◌++◌, true, false, not, Some, None, sym, ◌∙◌, arith}
use Rattle.std.proofs.lemmas.Option.{slice_get_within}
use Rattle.std.specs.List.{slice_get}
use Rattle.proof_check.specs.Answers.{accepts}
use Rattle.proof_check.proofs.Verdicts.{bad_stop, bad_next, bad_none}
use Rattle.proof_check.proofs.check.bad_line.Goals as goal

pub overflow_add-at : goal.overflow_add-at
overflow_add-at c =
    let e : slice_get c.args.log.now c.loop-line.at ≡ Some c.in-Some.line.now = cc (c.in-Some.ensures) in
    let w = slice_get_within c.args.log.now c.loop-line.at c.in-Some.line.now e in
    let n = c.loop-line.invariant.count in
    omega (arith, w, n)

pub loop-line-smaller : goal.loop-line-smaller
loop-line-smaller c =
    let e : slice_get c.args.log.now c.loop-line.at ≡ Some c.in-Some.line.now = cc (c.in-Some.ensures) in
    let w = slice_get_within c.args.log.now c.loop-line.at c.in-Some.line.now e in
    omega arith

pub returns-then-bad : goal.returns-then-bad
returns-then-bad c =
    let e : slice_get c.args.log.now c.loop-line.at ≡ Some c.in-Some.line.now = cc (c.in-Some.ensures) in
    let b : not (accepts c.loop-line.checker c.in-Some.line.now) ≡ true = sym c.in_ok-bad.ensures.bad ∙ c.if-bad.true in
    sym (bad_stop (c.loop-line.at + 1) c.loop-line.checker c.args.log.now c.loop-line.at c.in-Some.line.now e b) ∙ c.loop-line.invariant.same

pub loop-line-preserved : goal.loop-line-preserved
loop-line-preserved c =
    let e : slice_get c.args.log.now c.loop-line.at ≡ Some c.in-Some.line.now = cc (c.in-Some.ensures) in
    let w = slice_get_within c.args.log.now c.loop-line.at c.in-Some.line.now e in
    let b : not (accepts c.loop-line.checker c.in-Some.line.now) ≡ false = sym c.in_ok-bad.ensures.bad ∙ c.if-bad.false in
    let n = bad_next (c.loop-line.at + 1) c.loop-line.checker c.args.log.now c.loop-line.at c.in-Some.line.now e _ c.in_ok-bad.ensures.next b in
    record {
      within = omega arith;
      count = c.loop-line.invariant.count;
      variables = n.1 ∙ c.loop-line.invariant.variables;
      same = n.0 ∙ c.loop-line.invariant.same;
    }

pub returns : goal.returns
returns c =
    let e : slice_get c.args.log.now c.loop-line.at ≡ None = cc (c.in_default.ensures) in
    sym (bad_none (c.loop-line.at + 1) c.loop-line.checker.variables (c.loop-line.checker.formula ++ c.loop-line.checker.lines) c.args.log.now c.loop-line.at e) ∙ c.loop-line.invariant.same
