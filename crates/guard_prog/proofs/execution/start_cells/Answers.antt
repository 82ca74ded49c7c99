use Rattle.std.proofs.Common.{ap, arith, refl, ◌∙◌, get_or}
use Rattle.guard_prog.specs.Executions.{widths_of, bits_at}
use Rattle.guard_prog.proofs.Cells.{widths_of-zero, bits_at-zero, started_more, started_all, starts_are}
use Rattle.guard_prog.proofs.execution.start_cells.Goals as goal

pub loop-q-init : goal.loop-q-init
loop-q-init c =
    record {
      widths = ap widths_of c.in_ok-cells.ensures ∙ widths_of-zero c.args.widths.now;
      started = record {
        done = λ k lt. absurd (omega (arith, lt));
        ahead = λ k le. ap (λ cells. bits_at cells k) c.in_ok-cells.ensures ∙ bits_at-zero c.args.widths.now k;
      };
    }

pub loop-q-preserved : goal.loop-q-preserved
loop-q-preserved c =
    record {
      widths = c.set_cell.ensures.widths ∙ c.loop-q.invariant.widths;
      started = started_more c.args.widths.now c.args.starts.now c.loop-q.cells (bits_at c.set_cell.new.cells) c.loop-q.q (get_or c.args.starts.now c.loop-q.q 0) (starts_are c.args.widths.now c.args.starts.now c.requires.fits) c.loop-q.invariant.widths c.loop-q.invariant.started refl c.set_cell.ensures.bits;
    }

pub returns-clause-bits : goal.returns-clause-bits
returns-clause-bits c = started_all c.args.starts.now (bits_at c.loop-q.cells) c.loop-q.q (omega arith) (omega arith) c.loop-q.invariant.started
