-- The faults of statements, part by part.
use Rattle.std.proofs.Common.{◌≡◌, ℕ, ◌+◌, ◌<◌, Bool, List, ◌++◌, Option, Some, length, get_or, drop, sym, ap, ◌∙◌}
use Rattle.std.proofs.lemmas.List.{drop_more}
use Rattle.chk_base.specs.declared.place.Place.{Place}
use Rattle.c_unit.specs.declared.expression.TypeName.{TypeName}
use Rattle.c_unit.specs.declared.statement.Declarator.{Declarator}
use Rattle.c_unit.specs.declared.expression.Expression.{Expression}
use Rattle.c_unit.specs.declared.statement.Branch.{Branch, out-Branch, fold_out-Branch}
use Rattle.c_unit.specs.declared.statement.Simple.{Simple}
use Rattle.c_unit.specs.declared.statement.Start.{Start}
use Rattle.c_unit.specs.declared.statement.Statement.{Statement, fold-roll-Statement}
use Rattle.c_unit.specs.declared.statement.Statement.TheOpen.{Statement-F}
use Rattle.c_unit.specs.declared.statement.Statement.TheVariants as s
use Rattle.c_unit.specs.declared.statement.Statement.TheVariants.{rolls-If, rolls-While, rolls-For}
use Rattle.c_rules.specs.declared.first.Fault.{Fault}
use Rattle.c_rules.specs.First.{first_of, when}
use Rattle.c_rules.specs.Files.{Known}
use Rattle.c_rules.specs.Rules.{expression_faults, optional_faults}
use Rattle.c_rules.specs.Scopes.{Scope, is_declared, declared, entered, left}
use Rattle.c_rules.specs.StatementRules.{means_in, start_faults, after_start, step_faults, initial_faults, declarators_faults, after_declarators, statement_faults, block_faults, branches_faults, after, after_block, after_branches}
use Rattle.c_rules.specs.Written.{WrittenStatement, WrittenBranch, BranchThen, statement_layer, branch_layer, written, written_block, written_branch, written_branches}
use Rattle.c_rules.proofs.Firsts.{first_of_append}

-- one more declared local
pub declarator_seen : (known : Known) (t : TypeName) (c : Bool) (best : Option Fault) (ds : List Declarator) (scope : Scope) (i : ℕ) (d : Declarator) → i < length ds
    → first_of best (declarators_faults known t c (drop i ds) scope)
    ≡ first_of (first_of (first_of best (when (is_declared scope (get_or ds i d).name.text) 3 (get_or ds i d).name.place)) (initial_faults (means_in known scope) (get_or ds i d).name (get_or ds i d).initial)) (declarators_faults known t c (drop (i + 1) ds) (declared (get_or ds i d).name t c scope))
declarator_seen known t c best ds scope i d within =
    let x = get_or ds i d in
    let one = when (is_declared scope x.name.text) 3 x.name.place in
    let two = initial_faults (means_in known scope) x.name x.initial in
    let rest = declarators_faults known t c (drop (i + 1) ds) (declared x.name t c scope) in
    ap (λ xs. first_of best (declarators_faults known t c xs scope)) (drop_more ds i d within)
    ∙ (first_of_append best one (two ++ rest) ∙ first_of_append (first_of best one) two rest)

pub declarator_declared : (t : TypeName) (c : Bool) (ds : List Declarator) (scope : Scope) (i : ℕ) (d : Declarator) → i < length ds
    → after_declarators t c (drop i ds) scope ≡ after_declarators t c (drop (i + 1) ds) (declared (get_or ds i d).name t c scope)
declarator_declared t c ds scope i d within = ap (λ xs. after_declarators t c xs scope) (drop_more ds i d within)

-- one more statement
pub statement_seen : (known : Known) (gives : Bool) (best : Option Fault) (ss : List Statement) (scope : Scope) (i : ℕ) (d : Statement) → i < length ss
    → first_of best (block_faults known gives (written_block (drop i ss)) scope)
    ≡ first_of (first_of best (statement_faults known gives (written (get_or ss i d)) scope)) (block_faults known gives (written_block (drop (i + 1) ss)) (after (written (get_or ss i d)) scope))
statement_seen known gives best ss scope i d within =
    let x = written (get_or ss i d) in
    ap (λ xs. first_of best (block_faults known gives (written_block xs) scope)) (drop_more ss i d within)
    ∙ first_of_append best (statement_faults known gives x scope) (block_faults known gives (written_block (drop (i + 1) ss)) (after x scope))

pub statement_done : (ss : List Statement) (scope : Scope) (i : ℕ) (d : Statement) → i < length ss
    → after_block (written_block (drop i ss)) scope ≡ after_block (written_block (drop (i + 1) ss)) (after (written (get_or ss i d)) scope)
statement_done ss scope i d within = ap (λ xs. after_block (written_block xs) scope) (drop_more ss i d within)

-- a branch as it is written
branch_written : (b : Branch) → written_branch b ≡ record { place = (out-Branch b).place; condition = (out-Branch b).condition; body = written_block (out-Branch b).block }
branch_written b = fold_out-Branch WrittenStatement WrittenBranch statement_layer branch_layer b

-- one more branch
pub branch_seen : (known : Known) (gives : Bool) (best : Option Fault) (bs : List Branch) (scope : Scope) (i : ℕ) (d : Branch) → i < length bs
    → first_of best (branches_faults known gives (written_branches (drop i bs)) scope)
    ≡ first_of (first_of (first_of best (expression_faults (out-Branch (get_or bs i d)).condition (means_in known scope))) (block_faults known gives (written_block (out-Branch (get_or bs i d)).block) (entered scope)))
    (branches_faults known gives (written_branches (drop (i + 1) bs)) (left scope (after_block (written_block (out-Branch (get_or bs i d)).block) (entered scope))))
branch_seen known gives best bs scope i d within =
    let x = get_or bs i d in
    let one = expression_faults (out-Branch x).condition (means_in known scope) in
    let two = block_faults known gives (written_block (out-Branch x).block) (entered scope) in
    let rest = branches_faults known gives (written_branches (drop (i + 1) bs)) (left scope (after_block (written_block (out-Branch x).block) (entered scope))) in
    ap (λ xs. first_of best (branches_faults known gives (written_branches xs) scope)) (drop_more bs i d within)
    ∙ (ap (λ b. first_of best (branches_faults known gives (BranchThen b.place b.condition b.body (written_branches (drop (i + 1) bs))) scope)) (branch_written x)
    ∙ (first_of_append best one (two ++ rest) ∙ first_of_append (first_of best one) two rest))

pub branch_done : (bs : List Branch) (scope : Scope) (i : ℕ) (d : Branch) → i < length bs
    → after_branches (written_branches (drop i bs)) scope
    ≡ after_branches (written_branches (drop (i + 1) bs)) (left scope (after_block (written_block (out-Branch (get_or bs i d)).block) (entered scope)))
branch_done bs scope i d within =
    ap (λ xs. after_branches (written_branches xs) scope) (drop_more bs i d within)
    ∙ ap (λ b. after_branches (BranchThen b.place b.condition b.body (written_branches (drop (i + 1) bs))) scope) (branch_written (get_or bs i d))

-- branches with a last block
pub of_if : (known : Known) (gives : Bool) (best : Option Fault) (place : Place) (bs : List Branch) (body : List Statement) (scope : Scope)
    → first_of best (statement_faults known gives (written (s.If place bs (Some body))) scope)
    ≡ first_of (first_of best (branches_faults known gives (written_branches bs) scope)) (block_faults known gives (written_block body) (entered (after_branches (written_branches bs) scope)))
of_if known gives best place bs body scope =
    ap (λ w. first_of best (statement_faults known gives w scope)) (ap written (sym (rolls-If place bs (Some body))) ∙ fold-roll-Statement WrittenStatement WrittenBranch statement_layer branch_layer (Statement-F.If place bs (Some body)))
    ∙ first_of_append best (branches_faults known gives (written_branches bs) scope) (block_faults known gives (written_block body) (entered (after_branches (written_branches bs) scope)))

-- a condition and a block
pub of_while : (known : Known) (gives : Bool) (best : Option Fault) (place : Place) (c : Expression) (body : List Statement) (scope : Scope)
    → first_of best (statement_faults known gives (written (s.While place c body)) scope)
    ≡ first_of (first_of best (expression_faults c (means_in known scope))) (block_faults known gives (written_block body) (entered scope))
of_while known gives best place c body scope =
    ap (λ w. first_of best (statement_faults known gives w scope)) (ap written (sym (rolls-While place c body)) ∙ fold-roll-Statement WrittenStatement WrittenBranch statement_layer branch_layer (Statement-F.While place c body))
    ∙ first_of_append best (expression_faults c (means_in known scope)) (block_faults known gives (written_block body) (entered scope))

-- the head of a `for` and its block
pub of_for : (known : Known) (gives : Bool) (best : Option Fault) (place : Place) (start : Option Start) (c : Option Expression) (step : Option Simple) (body : List Statement) (scope : Scope)
    → first_of best (statement_faults known gives (written (s.For place start c step body)) scope)
    ≡ first_of (first_of (first_of (first_of best (start_faults known start (entered scope))) (optional_faults c (means_in known (after_start start (entered scope))))) (step_faults (means_in known (after_start start (entered scope))) step)) (block_faults known gives (written_block body) (entered (after_start start (entered scope))))
of_for known gives best place start c step body scope =
    let inner = after_start start (entered scope) in
    let one = start_faults known start (entered scope) in
    let two = optional_faults c (means_in known inner) in
    let three = step_faults (means_in known inner) step in
    let four = block_faults known gives (written_block body) (entered inner) in
    ap (λ w. first_of best (statement_faults known gives w scope)) (ap written (sym (rolls-For place start c step body)) ∙ fold-roll-Statement WrittenStatement WrittenBranch statement_layer branch_layer (Statement-F.For place start c step body))
    ∙ (first_of_append best one (two ++ (three ++ four))
    ∙ (first_of_append (first_of best one) two (three ++ four)
    ∙ first_of_append (first_of (first_of best one) two) three four))
