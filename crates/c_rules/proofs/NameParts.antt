-- The faults of the names of file level, part by part.
use Rattle.std.proofs.Common.{◌≡◌, ℕ, ◌+◌, ◌<◌, List, Option, length, get_or, drop, fold, ap, ◌∙◌}
use Rattle.std.proofs.lemmas.List.{drop_more}
use Rattle.c_unit.specs.declared.unit.Declaration.{Declaration}
use Rattle.c_unit.specs.declared.unit.External.{External}
use Rattle.c_rules.specs.declared.first.Fault.{Fault}
use Rattle.c_rules.specs.First.{first_of}
use Rattle.c_rules.specs.Files.{Known, variable_name, with_variable, with_external}
use Rattle.c_rules.specs.UnitRules.{name_faults, variables_faults, taken_faults, names_faults}
use Rattle.c_rules.proofs.Firsts.{first_of_append}

-- one more variable
pub variable_seen : (known : Known) (best : Option Fault) (ds : List Declaration) (i : ℕ) (d : Declaration) → i < length ds
    → first_of best (variables_faults known (drop i ds))
    ≡ first_of (first_of best (name_faults known (variable_name (get_or ds i d).variable))) (variables_faults (with_variable known (get_or ds i d)) (drop (i + 1) ds))
variable_seen known best ds i d within =
    let x = get_or ds i d in
    ap (λ xs. first_of best (variables_faults known xs)) (drop_more ds i d within)
    ∙ first_of_append best (name_faults known (variable_name x.variable)) (variables_faults (with_variable known x) (drop (i + 1) ds))

pub variable_declared : (known : Known) (ds : List Declaration) (i : ℕ) (d : Declaration) → i < length ds
    → fold with_variable known (drop i ds) ≡ fold with_variable (with_variable known (get_or ds i d)) (drop (i + 1) ds)
variable_declared known ds i d within = ap (fold with_variable known) (drop_more ds i d within)

-- one more thing at file level
pub external_seen : (known : Known) (best : Option Fault) (xs : List External) (i : ℕ) (d : External) → i < length xs
    → first_of best (names_faults known (drop i xs))
    ≡ first_of (first_of best (taken_faults known (get_or xs i d))) (names_faults (with_external known (get_or xs i d)) (drop (i + 1) xs))
external_seen known best xs i d within =
    let x = get_or xs i d in
    ap (λ ys. first_of best (names_faults known ys)) (drop_more xs i d within)
    ∙ first_of_append best (taken_faults known x) (names_faults (with_external known x) (drop (i + 1) xs))

pub external_declared : (known : Known) (xs : List External) (i : ℕ) (d : External) → i < length xs
    → fold with_external known (drop i xs) ≡ fold with_external (with_external known (get_or xs i d)) (drop (i + 1) xs)
external_declared known xs i d within = ap (fold with_external known) (drop_more xs i d within)
