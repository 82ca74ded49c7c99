use Rattle.std.proofs.Common.{◌≡◌, ◌+◌, true, false, Some, None, length, drop, sym, ap, ◌∙◌, arith}
use Rattle.std.proofs.lemmas.Option.{slice_get_within}
use Rattle.std.specs.List.{slice_get}
use Rattle.std.proofs.Common.{◌&&◌}
use Rattle.clause_form.specs.ClauseTruth.{are_true, is_clause_true, values_of}
use Rattle.proof_check.proofs.Verdicts.{all_true_step, all_true_none, within_step}
use Rattle.proof_check.proofs.check.all_true.Goals as goal

pub overflow_add-at : goal.overflow_add-at
overflow_add-at c =
    let e : slice_get c.args.clauses.now c.loop-clause.at ≡ Some c.in-Some.clause.now = cc (c.in-Some.ensures) in
    let w = slice_get_within c.args.clauses.now c.loop-clause.at c.in-Some.clause.now e in
    let n = c.loop-clause.invariant.count in
    omega (arith, w, n)

pub loop-clause-smaller : goal.loop-clause-smaller
loop-clause-smaller c =
    let e : slice_get c.args.clauses.now c.loop-clause.at ≡ Some c.in-Some.clause.now = cc (c.in-Some.ensures) in
    let w = slice_get_within c.args.clauses.now c.loop-clause.at c.in-Some.clause.now e in
    omega arith

pub is_true-requires : goal.is_true-requires
is_true-requires c =
    let e : slice_get c.args.clauses.now c.loop-clause.at ≡ Some c.in-Some.clause.now = cc (c.in-Some.ensures) in
    (within_step (length c.args.values.now) c.args.clauses.now c.loop-clause.at c.in-Some.clause.now e c.loop-clause.invariant.over).0

pub returns-then-not-is_true : goal.returns-then-not-is_true
returns-then-not-is_true c =
    let e : slice_get c.args.clauses.now c.loop-clause.at ≡ Some c.in-Some.clause.now = cc (c.in-Some.ensures) in
    let s = all_true_step (values_of c.args.values.now) c.args.clauses.now c.loop-clause.at c.in-Some.clause.now e in
    let t = c.if-not-is_true.true in
    let u = c.is_true.ensures in
    let v : is_clause_true (values_of c.args.values.now) c.in-Some.clause.now ≡ false = grind (arith, t, u) in
    sym (ap (λ b. b && are_true (values_of c.args.values.now) (drop (c.loop-clause.at + 1) c.args.clauses.now)) v) ∙ sym s ∙ c.loop-clause.invariant.same

pub loop-clause-preserved : goal.loop-clause-preserved
loop-clause-preserved c =
    let e : slice_get c.args.clauses.now c.loop-clause.at ≡ Some c.in-Some.clause.now = cc (c.in-Some.ensures) in
    let w = slice_get_within c.args.clauses.now c.loop-clause.at c.in-Some.clause.now e in
    let s = all_true_step (values_of c.args.values.now) c.args.clauses.now c.loop-clause.at c.in-Some.clause.now e in
    let t = c.if-not-is_true.false in
    let u = c.is_true.ensures in
    let v : is_clause_true (values_of c.args.values.now) c.in-Some.clause.now ≡ true = grind (arith, t, u) in
    record {
      within = omega arith;
      count = c.loop-clause.invariant.count;
      same = sym (ap (λ b. b && are_true (values_of c.args.values.now) (drop (c.loop-clause.at + 1) c.args.clauses.now)) v) ∙ sym s ∙ c.loop-clause.invariant.same;
      over = (within_step (length c.args.values.now) c.args.clauses.now c.loop-clause.at c.in-Some.clause.now e c.loop-clause.invariant.over).1;
    }

pub returns : goal.returns
returns c =
    let e : slice_get c.args.clauses.now c.loop-clause.at ≡ None = cc (c.in_default.ensures) in
    sym (all_true_none (values_of c.args.values.now) c.args.clauses.now c.loop-clause.at e) ∙ c.loop-clause.invariant.same
