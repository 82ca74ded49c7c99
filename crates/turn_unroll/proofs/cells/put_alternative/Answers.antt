use Rattle.std.proofs.Common.{rules, sym, ◌∙◌, subst}
use Rattle.bit_circuit.specs.BusValue.{number}
use Rattle.turn_unroll.specs.Cells.{set_by}
use Rattle.turn_unroll.specs.Ways.{choice_of}
use Rattle.turn_unroll.proofs.Setting.{never_cells}
use Rattle.turn_unroll.proofs.cells.put_alternative.Goals as goal

pub returns-then-eq : goal.returns-then-eq
returns-then-eq c = never_cells _ c.args.next.now _ (λ v q. set_by v c.args.widths.now c.args.cells.now (number v c.args.word.lits) (choice_of c.args.way) q) c.requires.truth (search rules) c.requires.next
