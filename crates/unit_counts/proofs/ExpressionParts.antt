-- The counts of expressions, part by part.
use Rattle.std.proofs.Common.{◌≡◌, ℕ, ◌+◌, ◌<◌, List, length, get_or, drop, map, ap, ◌∙◌}
use Rattle.std.proofs.lemmas.List.{drop_more}
use Rattle.typed_unit.specs.declared.typed.TypedExpr.{TypedExpr}
use Rattle.typed_unit.specs.Views.{expr_of}
use Rattle.lower_law.specs.Counts.{saturated, reads, reads_all, expr_weight, weight_all}
use Rattle.unit_counts.proofs.Saturation.{sum_more}

-- one more expression
pub reads_more : (sum : ℕ) (es : List TypedExpr) (i : ℕ) (d : TypedExpr) → i < length es
    → saturated (sum + reads_all (map expr_of (drop i es)))
    ≡ saturated (saturated (sum + saturated (reads (expr_of (get_or es i d)))) + reads_all (map expr_of (drop (i + 1) es)))
reads_more sum es i d within =
    ap (λ xs. saturated (sum + reads_all (map expr_of xs))) (drop_more es i d within)
    ∙ sum_more sum (reads (expr_of (get_or es i d))) (reads_all (map expr_of (drop (i + 1) es)))

pub weight_more : (sum : ℕ) (es : List TypedExpr) (i : ℕ) (d : TypedExpr) → i < length es
    → saturated (sum + weight_all (map expr_of (drop i es)))
    ≡ saturated (saturated (sum + saturated (expr_weight (expr_of (get_or es i d)))) + weight_all (map expr_of (drop (i + 1) es)))
weight_more sum es i d within =
    ap (λ xs. saturated (sum + weight_all (map expr_of xs))) (drop_more es i d within)
    ∙ sum_more sum (expr_weight (expr_of (get_or es i d))) (weight_all (map expr_of (drop (i + 1) es)))
