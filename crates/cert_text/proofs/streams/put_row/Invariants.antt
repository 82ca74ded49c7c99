use Rattle.cert_text.proofs.Streaming.{SoFar}
use Rattle.cert_text.proofs.streams.put_row.Given as goal
use Rattle.cert_text.specs.Parts.{cell_line, clause_line, label_line, log_line, log_part, parts_from, row_lines, table_lines, value_text}

abbrev pub invariant-loop-at : goal.invariant-loop-at
invariant-loop-at g l = SoFar (cell_line l.word l.number) 0 l.row (g.D.Desk.state l.fn.desk) (g.D.Desk.state l.desk) l.fn.held l.held l.at
