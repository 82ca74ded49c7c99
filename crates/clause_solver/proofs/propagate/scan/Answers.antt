use Rattle.std.proofs.Common.{◌≤◌, ◌+◌, length, subst, subst₂, sym, ◌∙◌, arith}
use Rattle.clause_solver.specs.Numbering.{clauses_of}
use Rattle.clause_solver.proofs.Numbers.{length-clauses_of}
use Rattle.clause_solver.proofs.Scanning.{IsScanned, scanned_forced, scanned_settled, scanned_all}
use Rattle.clause_solver.proofs.propagate.scan.Goals as goal
use Rattle.clause_solver.proofs.propagate.scan.Goals.{in-Forced+in_ok-push-in-Forced, in-Settled}

pub loop-at-preserved : goal.loop-at-preserved
loop-at-preserved g c =
    elim c.match-status_in.branch [
      | in-Forced+in_ok-push-in-Forced w ↦
          subst₂ (λ t b. IsScanned (clauses_of (g.C.ClauseStore.stored c.args.store.now) c.args.numbering.now) c.args.trail.now t (c.loop-at.at + 1) b)
          (sym (w.trail-is ∙ w.in_ok-push-in-Forced.ensures.ok)) (sym w.changed-is)
          (scanned_forced (clauses_of (g.C.ClauseStore.stored c.args.store.now) c.args.numbering.now) c.args.trail.now c.loop-at.trail c.loop-at.at c.loop-at.changed c.clause.result.now w.in-Forced.lit
          c.loop-at.invariant c.clause.ensures w.in-Forced.ensures.0 w.in-Forced.ensures.1)
      | in-Settled w ↦
          subst₂ (λ t b. IsScanned (clauses_of (g.C.ClauseStore.stored c.args.store.now) c.args.numbering.now) c.args.trail.now t (c.loop-at.at + 1) b)
          (sym w.trail-is) (sym w.changed-is)
          (scanned_settled (clauses_of (g.C.ClauseStore.stored c.args.store.now) c.args.numbering.now) c.args.trail.now c.loop-at.trail c.loop-at.at c.loop-at.changed c.clause.result.now
          c.loop-at.invariant c.clause.ensures w.in-Settled.ensures)
    ]

pub returns-else-changed : goal.returns-else-changed
returns-else-changed g c =
    let cs = clauses_of (g.C.ClauseStore.stored c.args.store.now) c.args.numbering.now in
    let n = length-clauses_of (g.C.ClauseStore.stored c.args.store.now) c.args.numbering.now in
    let past : length cs ≤ c.loop-at.at = let t = c.loop-at-test.false in omega (arith, n, t) in
    scanned_all cs c.args.trail.now c.loop-at.trail c.loop-at.at past
    (subst (λ b. IsScanned cs c.args.trail.now c.loop-at.trail c.loop-at.at b) c.if-changed.false c.loop-at.invariant)
