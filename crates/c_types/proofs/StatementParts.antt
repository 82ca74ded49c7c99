-- Typed statements, kind by kind.
use Rattle.std.proofs.Common.{◌≡◌, List, [], ◌∷◌, Option, Some, None, map, sym, ap, ◌∙◌}
use Rattle.std.specs.Prelude.{option_map}
use Rattle.chk_base.specs.declared.place.Place.{Place}
use Rattle.c_unit.specs.declared.expression.Expression.{Expression}
use Rattle.c_unit.specs.declared.statement.Branch.{Branch}
use Rattle.c_unit.specs.declared.statement.Simple.{Simple}
use Rattle.c_unit.specs.declared.statement.Start.{Start}
use Rattle.c_unit.specs.declared.statement.Statement.{Statement, fold-roll-Statement}
use Rattle.c_unit.specs.declared.statement.Statement.TheOpen.{Statement-F}
use Rattle.c_unit.specs.declared.statement.Statement.TheVariants as s
use Rattle.c_rules.specs.Files.{Known}
use Rattle.c_rules.specs.Scopes.{Scope, entered}
use Rattle.c_rules.specs.StatementRules.{means_in, after_branches, after_start}
use Rattle.c_rules.specs.Written.{WrittenStatement, WrittenBranch, written, written_block, written_branches}
use Rattle.c_rules.specs.Written as w
use Rattle.typed_unit.specs.declared.typed.CType.{CType}
use Rattle.typed_unit.specs.declared.typed.TypedExpr.{TypedExpr}
use Rattle.typed_unit.specs.declared.typed.TypedBranch.{TypedBranch}
use Rattle.typed_unit.specs.declared.typed.TypedStatement.{TypedStatement, fold-roll-TypedStatement}
use Rattle.typed_unit.specs.declared.typed.TypedStatement.TheOpen.{TypedStatement-F}
use Rattle.typed_unit.specs.declared.typed.TypedStatement.TheVariants as t
use Rattle.typed_unit.specs.Plain.{PlainStatement, NoStatement, block}
use Rattle.typed_unit.specs.Plain as p
use Rattle.typed_unit.specs.Views.{PlainBranch, expr_of, statement_of, branch_of, branched, block_or_none, statement_layer, branch_layer}
use Rattle.typed_unit.specs.TypedExpressions.{typed_expression}
use Rattle.typed_unit.specs.TypedStatements.{start_of, step_of, optional_of, value_of, typed_statement, typed_statements, typed_branches}

-- a block
pub block_seen : (place : Place) (body : List TypedStatement) → statement_of (t.Block place body) ≡ p.Block place (block (map statement_of body))
block_seen place body =
    ap statement_of (sym (t.rolls-Block place body)) ∙ fold-roll-TypedStatement PlainStatement PlainBranch statement_layer branch_layer (TypedStatement-F.Block place body)

pub block_typed : (known : Known) (gives : Option CType) (place : Place) (ss : List Statement) (scope : Scope)
    → typed_statement known gives (written (s.Block place ss)) scope ≡ p.Block place (block (typed_statements known gives (written_block ss) (entered scope))) ∷ []
block_typed known gives place ss scope =
    ap (λ x. typed_statement known gives x scope) (ap written (sym (s.rolls-Block place ss)) ∙ fold-roll-Statement WrittenStatement WrittenBranch w.statement_layer w.branch_layer (Statement-F.Block place ss))

-- branches, and a last block or none
pub if_seen : (place : Place) (branches : List TypedBranch) (otherwise : Option (List TypedStatement))
    → statement_of (t.If place branches otherwise) ≡ branched place (map branch_of branches) (block_or_none (option_map (map statement_of) otherwise))
if_seen place branches None =
    ap statement_of (sym (t.rolls-If place branches None)) ∙ fold-roll-TypedStatement PlainStatement PlainBranch statement_layer branch_layer (TypedStatement-F.If place branches None)
if_seen place branches (Some body) =
    ap statement_of (sym (t.rolls-If place branches (Some body))) ∙ fold-roll-TypedStatement PlainStatement PlainBranch statement_layer branch_layer (TypedStatement-F.If place branches (Some body))

pub if_typed : (known : Known) (gives : Option CType) (place : Place) (bs : List Branch) (scope : Scope)
    → typed_statement known gives (written (s.If place bs None)) scope ≡ branched place (typed_branches known gives (written_branches bs) scope) NoStatement ∷ []
if_typed known gives place bs scope =
    ap (λ x. typed_statement known gives x scope) (ap written (sym (s.rolls-If place bs None)) ∙ fold-roll-Statement WrittenStatement WrittenBranch w.statement_layer w.branch_layer (Statement-F.If place bs None))

pub else_typed : (known : Known) (gives : Option CType) (place : Place) (bs : List Branch) (ss : List Statement) (scope : Scope)
    → typed_statement known gives (written (s.If place bs (Some ss))) scope ≡ branched place (typed_branches known gives (written_branches bs) scope) (block (typed_statements known gives (written_block ss) (entered (after_branches (written_branches bs) scope)))) ∷ []
else_typed known gives place bs ss scope =
    ap (λ x. typed_statement known gives x scope) (ap written (sym (s.rolls-If place bs (Some ss))) ∙ fold-roll-Statement WrittenStatement WrittenBranch w.statement_layer w.branch_layer (Statement-F.If place bs (Some ss)))

-- a condition and a block
pub while_seen : (place : Place) (condition : TypedExpr) (body : List TypedStatement) → statement_of (t.While place condition body) ≡ p.While place (expr_of condition) (block (map statement_of body))
while_seen place condition body =
    ap statement_of (sym (t.rolls-While place condition body)) ∙ fold-roll-TypedStatement PlainStatement PlainBranch statement_layer branch_layer (TypedStatement-F.While place condition body)

pub while_typed : (known : Known) (gives : Option CType) (place : Place) (e : Expression) (ss : List Statement) (scope : Scope)
    → typed_statement known gives (written (s.While place e ss)) scope ≡ p.While place (typed_expression e (means_in known scope)) (block (typed_statements known gives (written_block ss) (entered scope))) ∷ []
while_typed known gives place e ss scope =
    ap (λ x. typed_statement known gives x scope) (ap written (sym (s.rolls-While place e ss)) ∙ fold-roll-Statement WrittenStatement WrittenBranch w.statement_layer w.branch_layer (Statement-F.While place e ss))

-- the head of a `for` and its block
pub for_seen : (place : Place) (start : List TypedStatement) (condition : Option TypedExpr) (step body : List TypedStatement)
    → statement_of (t.For place start condition step body) ≡ p.For place (block (map statement_of start)) (option_map expr_of condition) (block (map statement_of step)) (block (map statement_of body))
for_seen place start condition step body =
    ap statement_of (sym (t.rolls-For place start condition step body)) ∙ fold-roll-TypedStatement PlainStatement PlainBranch statement_layer branch_layer (TypedStatement-F.For place start condition step body)

pub for_typed : (known : Known) (gives : Option CType) (place : Place) (start : Option Start) (e : Option Expression) (step : Option Simple) (ss : List Statement) (scope : Scope)
    → typed_statement known gives (written (s.For place start e step ss)) scope
    ≡ p.For place
    (block (start_of known start (entered scope)))
    (optional_of e (means_in known (after_start start (entered scope))))
    (block (step_of known (means_in known (after_start start (entered scope))) step))
    (block (typed_statements known gives (written_block ss) (entered (after_start start (entered scope))))) ∷ []
for_typed known gives place start e step ss scope =
    ap (λ x. typed_statement known gives x scope) (ap written (sym (s.rolls-For place start e step ss)) ∙ fold-roll-Statement WrittenStatement WrittenBranch w.statement_layer w.branch_layer (Statement-F.For place start e step ss))

-- the end of a body
pub return_seen : (place : Place) (value : Option TypedExpr) → statement_of (t.Return place value) ≡ p.Return place (option_map expr_of value)
return_seen place value =
    ap statement_of (sym (t.rolls-Return place value)) ∙ fold-roll-TypedStatement PlainStatement PlainBranch statement_layer branch_layer (TypedStatement-F.Return place value)

pub return_typed : (known : Known) (gives : Option CType) (place : Place) (e : Option Expression) (scope : Scope)
    → typed_statement known gives (written (s.Return place e)) scope ≡ p.Return place (value_of gives e (means_in known scope)) ∷ []
return_typed known gives place e scope =
    ap (λ x. typed_statement known gives x scope) (ap written (sym (s.rolls-Return place e)) ∙ fold-roll-Statement WrittenStatement WrittenBranch w.statement_layer w.branch_layer (Statement-F.Return place e))
