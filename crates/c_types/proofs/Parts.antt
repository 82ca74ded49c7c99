-- Typed units, part by part.
use Rattle.std.proofs.Common.{◌≡◌, ℕ, ◌+◌, ◌<◌, ◌≤◌, Bool, List, [], ◌∷◌, ◌++◌, Option, length, get_or, take, drop, map, slice_get, refl, sym, ap, ◌∙◌, add-one}
use Rattle.std.specs.List.{flat_map}
use Rattle.std.proofs.Math.Seq.{take-length}
use Rattle.std.proofs.lemmas.List.{take_more, take_all, drop_more, append-nil, append_assoc, map-append}
use Rattle.std.proofs.lemmas.List.Concat.{flat_map-append}
use Rattle.c_unit.specs.declared.expression.Argument.{Argument}
use Rattle.c_unit.specs.declared.expression.TypeName.{TypeName}
use Rattle.c_unit.specs.declared.statement.Branch.{Branch, out-Branch, fold_out-Branch}
use Rattle.c_unit.specs.declared.statement.Declarator.{Declarator}
use Rattle.c_unit.specs.declared.statement.Statement.{Statement}
use Rattle.c_unit.specs.declared.unit.Constant.{Constant}
use Rattle.c_unit.specs.declared.unit.Parameter.{Parameter}
use Rattle.c_rules.specs.declared.scope.Declared as of
use Rattle.c_rules.specs.Files.{Known}
use Rattle.c_rules.specs.PlainScopes.{plain_declared}
use Rattle.c_rules.specs.Rules.{Means}
use Rattle.c_rules.specs.Scopes.{Scope, declared, entered, left}
use Rattle.c_rules.specs.StatementRules.{means_in, after_declarators, after, after_block, after_branches}
use Rattle.c_rules.specs.UnitRules.{after_parameters}
use Rattle.c_rules.specs.Written.{WrittenStatement, WrittenBranch, BranchThen, statement_layer, branch_layer, written, written_block, written_branch, written_branches}
use Rattle.typed_unit.specs.declared.typed.CType.{CType}
use Rattle.typed_unit.specs.declared.typed.Local.{Local}
use Rattle.typed_unit.specs.declared.typed.TypedExpr.{TypedExpr}
use Rattle.typed_unit.specs.declared.typed.TypedStatement.{TypedStatement}
use Rattle.typed_unit.specs.declared.typed.TypedFunction.{TypedFunction}
use Rattle.typed_unit.specs.declared.typed.TypedEntity.{TypedEntity}
use Rattle.typed_unit.specs.Plain.{PlainExpr, PlainStatement, block}
use Rattle.typed_unit.specs.Views.{PlainBranch, expr_of, statement_of, function_of, entity_of}
use Rattle.typed_unit.specs.TypedExpressions.{typed_expression}
use Rattle.typed_unit.specs.TypedStatements.{argument_of, arguments_from, target_of, initial_of, declarators_of, typed_statement, typed_statements, typed_branches}
use Rattle.typed_unit.specs.Typed.{start_of, starts_of, local_of, locals_of}

-- a part behind others, and what follows it
then : {X : Type 0} (xs ys part rest all : List X) → ys ≡ xs ++ part → all ≡ part ++ rest → ys ++ rest ≡ xs ++ all
then xs ys part rest all e f = ap (λ zs. zs ++ rest) e ∙ (append_assoc xs part rest ∙ ap (λ zs. xs ++ zs) (sym f))

-- one more statement behind others
pub put_one : (xs : List TypedStatement) (s : TypedStatement) → map statement_of (xs ++ s ∷ []) ≡ map statement_of xs ++ statement_of s ∷ []
put_one xs s = map-append statement_of xs (s ∷ [])

-- a scope that is left as it was entered
pub left_entered : (scope : Scope) → left scope (entered scope) ≡ scope
left_entered scope =
    ap (λ v. record { locals = scope.locals; visible = v; start = scope.start }) (take-length scope.visible)

-- one more expression behind others
pub put_expression : (xs : List TypedExpr) (x : TypedExpr) → map expr_of (xs ++ x ∷ []) ≡ map expr_of xs ++ expr_of x ∷ []
put_expression xs x = map-append expr_of xs (x ∷ [])

-- one more argument
pub one_argument : (means : Means) (ps : List Parameter) (all : List Argument) (i : ℕ) (d : Argument) (xs ys : List PlainExpr) → i < length all
    → ys ≡ xs ++ argument_of means (slice_get ps i) (get_or all i d) ∷ []
    → ys ++ arguments_from means ps (i + 1) (drop (i + 1) all) ≡ xs ++ arguments_from means ps i (drop i all)
one_argument means ps all i d xs ys within is =
    then xs ys (argument_of means (slice_get ps i) (get_or all i d) ∷ []) (arguments_from means ps (i + 1) (drop (i + 1) all)) (arguments_from means ps i (drop i all))
    is (ap (arguments_from means ps i) (drop_more all i d within))

-- one more declared local
pub one_declarator : (known : Known) (t : TypeName) (c : Bool) (ds : List Declarator) (scope : Scope) (i : ℕ) (d : Declarator) (xs ys : List PlainStatement) → i < length ds
    → ys ≡ xs ++ initial_of known (get_or ds i d).name (target_of (length scope.locals) t) (means_in known scope) (get_or ds i d).initial
    → ys ++ declarators_of known t c (drop (i + 1) ds) (declared (get_or ds i d).name t c scope) ≡ xs ++ declarators_of known t c (drop i ds) scope
one_declarator known t c ds scope i d xs ys within is =
    then xs ys (initial_of known (get_or ds i d).name (target_of (length scope.locals) t) (means_in known scope) (get_or ds i d).initial) (declarators_of known t c (drop (i + 1) ds) (declared (get_or ds i d).name t c scope)) (declarators_of known t c (drop i ds) scope)
    is (ap (λ zs. declarators_of known t c zs scope) (drop_more ds i d within))

pub one_declared : (t : TypeName) (c : Bool) (ds : List Declarator) (scope : Scope) (i : ℕ) (d : Declarator) → i < length ds
    → after_declarators t c (drop i ds) scope ≡ after_declarators t c (drop (i + 1) ds) (declared (get_or ds i d).name t c scope)
one_declared t c ds scope i d within = ap (λ xs. after_declarators t c xs scope) (drop_more ds i d within)

-- one more statement
pub one_statement : (known : Known) (gives : Option CType) (ss : List Statement) (scope : Scope) (i : ℕ) (d : Statement) (xs ys : List PlainStatement) → i < length ss
    → ys ≡ xs ++ typed_statement known gives (written (get_or ss i d)) scope
    → ys ++ typed_statements known gives (written_block (drop (i + 1) ss)) (after (written (get_or ss i d)) scope) ≡ xs ++ typed_statements known gives (written_block (drop i ss)) scope
one_statement known gives ss scope i d xs ys within is =
    then xs ys (typed_statement known gives (written (get_or ss i d)) scope) (typed_statements known gives (written_block (drop (i + 1) ss)) (after (written (get_or ss i d)) scope)) (typed_statements known gives (written_block (drop i ss)) scope)
    is (ap (λ zs. typed_statements known gives (written_block zs) scope) (drop_more ss i d within))

pub one_done : (ss : List Statement) (scope : Scope) (i : ℕ) (d : Statement) → i < length ss
    → after_block (written_block (drop i ss)) scope ≡ after_block (written_block (drop (i + 1) ss)) (after (written (get_or ss i d)) scope)
one_done ss scope i d within = ap (λ xs. after_block (written_block xs) scope) (drop_more ss i d within)

branch_written : (b : Branch) → written_branch b ≡ record { place = (out-Branch b).place; condition = (out-Branch b).condition; body = written_block (out-Branch b).block }
branch_written b = fold_out-Branch WrittenStatement WrittenBranch statement_layer branch_layer b

-- a branch as it is typed
abbrev pub branch_typed : Known → Option CType → Scope → Branch → PlainBranch
branch_typed known gives scope b =
    record {
      place = (out-Branch b).place;
      condition = typed_expression (out-Branch b).condition (means_in known scope);
      block = block (typed_statements known gives (written_block (out-Branch b).block) (entered scope));
    }

-- one more branch
pub one_branch : (known : Known) (gives : Option CType) (bs : List Branch) (scope : Scope) (i : ℕ) (d : Branch) (xs ys : List PlainBranch) → i < length bs
    → ys ≡ xs ++ branch_typed known gives scope (get_or bs i d) ∷ []
    → ys ++ typed_branches known gives (written_branches (drop (i + 1) bs)) (left scope (after_block (written_block (out-Branch (get_or bs i d)).block) (entered scope))) ≡ xs ++ typed_branches known gives (written_branches (drop i bs)) scope
one_branch known gives bs scope i d xs ys within is =
    let x = get_or bs i d in
    then xs ys (branch_typed known gives scope x ∷ []) (typed_branches known gives (written_branches (drop (i + 1) bs)) (left scope (after_block (written_block (out-Branch x).block) (entered scope)))) (typed_branches known gives (written_branches (drop i bs)) scope)
    is
    (ap (λ zs. typed_branches known gives (written_branches zs) scope) (drop_more bs i d within)
    ∙ ap (λ b. typed_branches known gives (BranchThen b.place b.condition b.body (written_branches (drop (i + 1) bs))) scope) (branch_written x))

pub one_branch_done : (bs : List Branch) (scope : Scope) (i : ℕ) (d : Branch) → i < length bs
    → after_branches (written_branches (drop i bs)) scope
    ≡ after_branches (written_branches (drop (i + 1) bs)) (left scope (after_block (written_block (out-Branch (get_or bs i d)).block) (entered scope)))
one_branch_done bs scope i d within =
    ap (λ xs. after_branches (written_branches xs) scope) (drop_more bs i d within)
    ∙ ap (λ b. after_branches (BranchThen b.place b.condition b.body (written_branches (drop (i + 1) bs))) scope) (branch_written (get_or bs i d))

-- one more element's start
pub one_start : (t : CType) (cs : List Constant) (n : ℕ) → starts_of t cs (n + 1) ≡ starts_of t cs n ++ start_of t (slice_get cs n) ∷ []
one_start t cs n = ap (starts_of t cs) (add-one n)

-- one more image behind others
pub one_mapped : {X Y : Type 0} (f : X → Y) (ys : List Y) (xs : List X) (i : ℕ) (d : X) → i < length xs → ys ++ map f (take (i + 1) xs) ≡ (ys ++ map f (take i xs)) ++ f (get_or xs i d) ∷ []
one_mapped f ys xs i d within =
    ap (λ zs. ys ++ zs) (ap (map f) (take_more xs i d within) ∙ map-append f (take i xs) (get_or xs i d ∷ []))
    ∙ sym (append_assoc ys (map f (take i xs)) (f (get_or xs i d) ∷ []))

-- one more local
pub one_local : (xs : List of.Declared) (i : ℕ) (d : of.Declared) → i < length xs → map (λ x. local_of (plain_declared x)) (take (i + 1) xs) ≡ map (λ x. local_of (plain_declared x)) (take i xs) ++ local_of (plain_declared (get_or xs i d)) ∷ []
one_local xs i d within =
    ap (map (λ x. local_of (plain_declared x))) (take_more xs i d within) ∙ map-append (λ x. local_of (plain_declared x)) (take i xs) (get_or xs i d ∷ [])

-- all of them
pub all_locals : (xs : List of.Declared) (i : ℕ) (ls : List Local) (scope : Scope) → length xs ≤ i → ls ≡ map (λ x. local_of (plain_declared x)) (take i xs)
    → map plain_declared xs ≡ scope.locals → ls ≡ locals_of scope
all_locals xs i ls scope far so are = so ∙ (ap (map (λ x. local_of (plain_declared x))) (take_all i xs far) ∙ (twice xs ∙ ap (map local_of) are))
  where
    twice : (ys : List of.Declared) → map (λ x. local_of (plain_declared x)) ys ≡ map local_of (map plain_declared ys)
    twice [] = refl
    twice (y ∷ ys) = ap (λ zs. local_of (plain_declared y) ∷ zs) (twice ys)

-- one more parameter
pub one_parameter : (ps : List Parameter) (scope : Scope) (i : ℕ) (d : Parameter) → i < length ps
    → after_parameters (drop i ps) scope ≡ after_parameters (drop (i + 1) ps) (declared (get_or ps i d).name (get_or ps i d).type_name (get_or ps i d).constant scope)
one_parameter ps scope i d within = ap (λ xs. after_parameters xs scope) (drop_more ps i d within)

-- the things of one more external
pub one_more : {X Y : Type 0} (g : X → List Y) (xs : List X) (i : ℕ) (d : X) → i < length xs → flat_map g (take (i + 1) xs) ≡ flat_map g (take i xs) ++ g (get_or xs i d)
one_more g xs i d within =
    ap (flat_map g) (take_more xs i d within)
    ∙ (flat_map-append g (take i xs) (get_or xs i d ∷ []) ∙ ap (λ ys. flat_map g (take i xs) ++ ys) (append-nil (g (get_or xs i d))))

-- one more function behind others
pub put_function : (xs : List TypedFunction) (f : TypedFunction) → map function_of (xs ++ f ∷ []) ≡ map function_of xs ++ function_of f ∷ []
put_function xs f = map-append function_of xs (f ∷ [])

-- one more body behind others
pub put_entity : (xs : List TypedEntity) (e : TypedEntity) → map entity_of (xs ++ e ∷ []) ≡ map entity_of xs ++ entity_of e ∷ []
put_entity xs e = map-append entity_of xs (e ∷ [])
