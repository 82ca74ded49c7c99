-- The cells hold 0.
use Rattle.std.proofs.Common.{◌∙◌, ap, replicate}
use Rattle.chk_base.specs.declared.word.Width.TheVariants.{W32}
use Rattle.chk_base.specs.Operators.{truth}
use Rattle.chk_base.specs.Term.{term_of}
use Rattle.chk_base.specs.Widths.{PlainWord}
use Rattle.chk_base.specs.WordValue.{value, word_at}
use Rattle.lower.proofs.Zeros.{zeros_value, zeros_within}
use Rattle.lower.proofs.starts.runs.Goals as goal

pub eval-word-requires : goal.eval-word-requires
eval-word-requires c = zeros_within c.reach.result (term_of c.args.expr.now) _ c.reach.ensures c.in_ok-cells.ensures

pub returns : goal.returns
returns c =
    ap (λ (w : PlainWord). truth w.bits) (c.word.view_is ∙ c.eval-word.ensures)
    ∙ ap truth (ap (λ cells. value (term_of c.args.expr.now) (word_at cells)) c.in_ok-cells.ensures ∙ zeros_value (replicate c.reach.result W32) (term_of c.args.expr.now))
