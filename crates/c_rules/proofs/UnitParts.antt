-- The faults of functions, part by part.
use Rattle.std.proofs.Common.{◌≡◌, ℕ, ◌+◌, ◌<◌, ◌&&◌, zip, refl, true, false, Bool, List, ◌∷◌, Option, length, get_or, drop, ap, ◌∙◌}
use Rattle.std.specs.List.{list_all}
use Rattle.std.proofs.lemmas.List.{drop_more}
use Rattle.c_unit.specs.declared.statement.Statement.{Statement}
use Rattle.c_unit.specs.declared.unit.Parameter.{Parameter}
use Rattle.c_rules.specs.declared.first.Fault.{Fault}
use Rattle.c_rules.specs.First.{first_of, when}
use Rattle.c_rules.specs.Scopes.{Scope, is_declared, declared}
use Rattle.c_rules.specs.UnitRules.{parameters_faults, after_parameters, is_return, ends_in_return, same_type, are_same}
use Rattle.c_rules.specs.Written.{written, written_block}
use Rattle.c_rules.proofs.Firsts.{first_of_append}

-- one more parameter
pub parameter_seen : (best : Option Fault) (ps : List Parameter) (scope : Scope) (i : ℕ) (d : Parameter) → i < length ps
    → first_of best (parameters_faults (drop i ps) scope)
    ≡ first_of (first_of best (when (is_declared scope (get_or ps i d).name.text) 3 (get_or ps i d).name.place)) (parameters_faults (drop (i + 1) ps) (declared (get_or ps i d).name (get_or ps i d).type_name (get_or ps i d).constant scope))
parameter_seen best ps scope i d within =
    let x = get_or ps i d in
    ap (λ xs. first_of best (parameters_faults xs scope)) (drop_more ps i d within)
    ∙ first_of_append best (when (is_declared scope x.name.text) 3 x.name.place) (parameters_faults (drop (i + 1) ps) (declared x.name x.type_name x.constant scope))

pub parameter_declared : (ps : List Parameter) (scope : Scope) (i : ℕ) (d : Parameter) → i < length ps
    → after_parameters (drop i ps) scope ≡ after_parameters (drop (i + 1) ps) (declared (get_or ps i d).name (get_or ps i d).type_name (get_or ps i d).constant scope)
parameter_declared ps scope i d within = ap (λ xs. after_parameters xs scope) (drop_more ps i d within)

-- one more statement
pub one_ends : (ends : Bool) (ss : List Statement) (i : ℕ) (d : Statement) → i < length ss
    → ends_in_return ends (written_block (drop i ss)) ≡ ends_in_return (is_return (written (get_or ss i d))) (written_block (drop (i + 1) ss))
one_ends ends ss i d within = ap (λ xs. ends_in_return ends (written_block xs)) (drop_more ss i d within)

and_assoc : (a b c : Bool) → (a && (b && c)) ≡ ((a && b) && c)
and_assoc true b c = refl
and_assoc false b c = refl

-- one more parameter of each
pub one_same : (so_far : Bool) (ps qs : List Parameter) (i : ℕ) (d e : Parameter) → i < length ps → i < length qs
    → (so_far && list_all are_same (zip (drop i ps) (drop i qs)))
    ≡ ((so_far && same_type (get_or ps i d).type_name (get_or qs i e).type_name) && list_all are_same (zip (drop (i + 1) ps) (drop (i + 1) qs)))
one_same so_far ps qs i d e within inside =
    ap (λ xs. so_far && list_all are_same (zip xs (drop i qs))) (drop_more ps i d within)
    ∙ (ap (λ ys. so_far && list_all are_same (zip (get_or ps i d ∷ drop (i + 1) ps) ys)) (drop_more qs i e inside)
    ∙ and_assoc so_far (same_type (get_or ps i d).type_name (get_or qs i e).type_name) (list_all are_same (zip (drop (i + 1) ps) (drop (i + 1) qs))))
