use Rattle.std.proofs.Common.{◌≡◌, ◌∷◌, ◌++◌, [], Some, sym, ap, ◌∙◌}
use Rattle.std.specs.List.{slice_get}
use Rattle.clause_solver.proofs.Getting.{take_get}
use Rattle.clause_solver.proofs.numbering.Numbering.append_all.Goals as goal

pub loop-at-preserved : goal.loop-at-preserved
loop-at-preserved g c =
    let e : slice_get c.args.clauses.now c.loop-at.at ≡ Some c.in-Some.clause.now = cc (c.in-Some.ensures) in
    record {
      each = c.in_ok-append.ensures.each;
      same = c.in_ok-append.ensures.clauses ∙ ap (λ x. x ++ c.in-Some.clause.now ∷ []) c.loop-at.invariant.same ∙ sym (take_get c.args.clauses.now c.loop-at.at c.in-Some.clause.now e);
    }
