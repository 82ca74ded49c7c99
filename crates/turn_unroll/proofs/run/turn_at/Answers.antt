use Rattle.std.proofs.Common.{◌∙◌, ap}
use Rattle.clause_form.specs.ClauseTruth.{values_of}
use Rattle.turn_unroll.specs.Runs.{pair_at}
use Rattle.turn_unroll.proofs.Reading.{read_here, read_none, read_wordless}
use Rattle.turn_unroll.proofs.run.turn_at.Goals as goal

pub returns-in_err-labels-clause-pair : goal.returns-in_err-labels-clause-pair
returns-in_err-labels-clause-pair c =
    ap pair_at c.from_residual.ensures ∙ read_none (values_of c.args.values.now) c.args.encoding.now.alternatives c.args.encoding.now.inputs c.args.t c.in_err-labels.ensures

pub returns-in_err-word-clause-pair : goal.returns-in_err-word-clause-pair
returns-in_err-word-clause-pair c =
    ap pair_at c.from_residual-in_err-word.ensures ∙ read_wordless (values_of c.args.values.now) c.args.encoding.now.alternatives c.args.encoding.now.inputs c.args.t c.in_err-word.ensures

pub returns-clause-pair : goal.returns-clause-pair
returns-clause-pair c =
    read_here (values_of c.args.values.now) c.args.encoding.now.alternatives c.args.encoding.now.inputs c.args.t c.in_ok-labels.labels.now c.in_ok-word.word.now c.first_true.result c.whole.result.bits
    c.in_ok-labels.ensures c.in_ok-word.ensures c.first_true.ensures (ap (λ w. w.bits) c.whole.ensures ∙ c.number.ensures)
