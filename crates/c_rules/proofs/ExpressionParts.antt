-- The faults of expressions, part by part.
use Rattle.std.proofs.Common.{◌≡◌, true, List, ◌++◌, Option, sym, ap, ◌∙◌}
use Rattle.chk_base.specs.declared.place.Place.{Place}
use Rattle.chk_base.specs.declared.text.Name.{Name}
use Rattle.c_unit.specs.declared.expression.BinaryOperator.{BinaryOperator}
use Rattle.c_unit.specs.declared.expression.Expression.{Expression, fold-roll-Expression}
use Rattle.c_unit.specs.declared.expression.Expression.TheOpen.{Expression-F}
use Rattle.c_unit.specs.declared.expression.Expression.TheVariants as e
use Rattle.c_unit.specs.declared.expression.Expression.TheVariants.{rolls-Element, rolls-Binary, rolls-Conditional}
use Rattle.c_rules.specs.declared.first.Fault.{Fault}
use Rattle.c_rules.specs.First.{first_of}
use Rattle.c_rules.specs.Rules.{Means, use_faults, expression_faults, expression_layer}
use Rattle.c_rules.proofs.Firsts.{first_of_append}

-- an element
pub of_element : (best : Option Fault) (name : Name) (i : Expression) (means : Means) → first_of best (expression_faults (e.Element name i) means) ≡ first_of (first_of best (use_faults true (means name.text) name.place)) (expression_faults i means)
of_element best name i means =
    ap (λ f. first_of best (f means)) (ap expression_faults (sym (rolls-Element name i)) ∙ fold-roll-Expression (Means → List Fault) expression_layer (Expression-F.Element name i))
    ∙ first_of_append best (use_faults true (means name.text) name.place) (expression_faults i means)

-- two operands
pub of_two : (best : Option Fault) (p : Place) (op : BinaryOperator) (a b : Expression) (means : Means) → first_of best (expression_faults (e.Binary p op a b) means) ≡ first_of (first_of best (expression_faults a means)) (expression_faults b means)
of_two best p op a b means =
    ap (λ f. first_of best (f means)) (ap expression_faults (sym (rolls-Binary p op a b)) ∙ fold-roll-Expression (Means → List Fault) expression_layer (Expression-F.Binary p op a b))
    ∙ first_of_append best (expression_faults a means) (expression_faults b means)

-- a condition and two values
pub of_three : (best : Option Fault) (p : Place) (c a b : Expression) (means : Means) → first_of best (expression_faults (e.Conditional p c a b) means) ≡ first_of (first_of (first_of best (expression_faults c means)) (expression_faults a means)) (expression_faults b means)
of_three best p c a b means =
    ap (λ f. first_of best (f means)) (ap expression_faults (sym (rolls-Conditional p c a b)) ∙ fold-roll-Expression (Means → List Fault) expression_layer (Expression-F.Conditional p c a b))
    ∙ (first_of_append best (expression_faults c means) (expression_faults a means ++ expression_faults b means)
    ∙ first_of_append (first_of best (expression_faults c means)) (expression_faults a means) (expression_faults b means))
