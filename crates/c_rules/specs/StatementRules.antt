-- The rules on statements, where some locals are declared: the faults that are in them.
use Rattle.std.specs.Prelude.{Bool, true, false, not, if◌then◌else◌, List, [], ◌∷◌, ◌++◌, Option, Some, None, is_some}
use Rattle.chk_base.specs.declared.text.Name.{Name}
use Rattle.c_unit.specs.declared.expression.RightSide.{RightSide}
use Rattle.c_unit.specs.declared.expression.TypeName.{TypeName}
use Rattle.c_unit.specs.declared.statement.Simple.{Simple}
use Rattle.c_unit.specs.declared.statement.Simple.TheVariants as simples
use Rattle.c_unit.specs.declared.statement.Declarator.{Declarator}
use Rattle.c_unit.specs.declared.statement.Local.{Local}
use Rattle.c_unit.specs.declared.statement.Start.{Start}
use Rattle.c_unit.specs.declared.statement.Start.TheVariants as starts
use Rattle.c_rules.specs.declared.first.Fault.{Fault}
use Rattle.c_rules.specs.First.{when}
use Rattle.c_rules.specs.Files.{Known, meaning}
use Rattle.c_rules.specs.Meanings.{is_local}
use Rattle.c_rules.specs.Scopes.{Scope, is_declared, declared, entered, left}
use Rattle.c_rules.specs.Rules.{Means, expression_faults, optional_faults, target_faults, right_faults, lone_call_faults}
use Rattle.c_rules.specs.Written.{WrittenStatement, Empty, Block, Declare, Do, If, While, For, Return, WrittenBlock, NoStatement, StatementThen, WrittenBranches, NoBranch, BranchThen}

-- what names mean in a scope
abbrev pub means_in : Known → Scope → Means
means_in known scope = meaning known scope.visible

-- the rules on a statement without statements in it
unfoldable pub simple_faults : Means → Simple → List Fault
simple_faults means (simples.Assign name right) =
    target_faults false (means name.text) name.place ++ right_faults (is_local (means name.text)) means right
simple_faults means (simples.AssignElement name index value) =
    target_faults true (means name.text) name.place ++ (expression_faults index means ++ expression_faults value means)
simple_faults means (simples.Update name op value) = target_faults false (means name.text) name.place ++ expression_faults value means
simple_faults means (simples.PostIncrement name) = target_faults false (means name.text) name.place
simple_faults means (simples.PostDecrement name) = target_faults false (means name.text) name.place
simple_faults means (simples.PreIncrement place name) = target_faults false (means name.text) name.place
simple_faults means (simples.PreDecrement place name) = target_faults false (means name.text) name.place
simple_faults means (simples.Call call) = lone_call_faults means call
simple_faults means (simples.Assert place condition) = expression_faults condition means

-- the rules on what a local is set to; C9, nothing, with the name
abbrev pub initial_faults : Means → Name → Option RightSide → List Fault
initial_faults means name None = when true 9 name.place
initial_faults means name (Some right) = right_faults true means right

-- the rules on declared locals one after another: C3, the scope has the name, and those on what they are set to
abbrev pub declarators_faults : Known → TypeName → Bool → List Declarator → Scope → List Fault
declarators_faults known type_name constant [] scope = []
declarators_faults known type_name constant (d ∷ ds) scope =
    when (is_declared scope d.name.text) 3 d.name.place
    ++ (initial_faults (means_in known scope) d.name d.initial
    ++ declarators_faults known type_name constant ds (declared d.name type_name constant scope))

-- the scope after declared locals
abbrev pub after_declarators : TypeName → Bool → List Declarator → Scope → Scope
after_declarators type_name constant [] scope = scope
after_declarators type_name constant (d ∷ ds) scope =
    after_declarators type_name constant ds (declared d.name type_name constant scope)

abbrev pub local_faults : Known → Local → Scope → List Fault
local_faults known l scope = declarators_faults known l.type_name l.constant l.declarators scope

abbrev pub after_local : Local → Scope → Scope
after_local l scope = after_declarators l.type_name l.constant l.declarators scope

-- the rules on what stands first in the head of a `for`, and the scope after it
abbrev pub start_faults : Known → Option Start → Scope → List Fault
start_faults known None scope = []
start_faults known (Some (starts.Local l)) scope = local_faults known l scope
start_faults known (Some (starts.Simple s)) scope = simple_faults (means_in known scope) s

abbrev pub after_start : Option Start → Scope → Scope
after_start None scope = scope
after_start (Some (starts.Local l)) scope = after_local l scope
after_start (Some (starts.Simple s)) scope = scope

abbrev pub step_faults : Means → Option Simple → List Fault
step_faults means None = []
step_faults means (Some s) = simple_faults means s

-- C13: `return` has a value in a body without a result, or none in one with a result
abbrev pub returns_wrongly : Bool → Bool → Bool
returns_wrongly has_result has_value = if has_result then not has_value else has_value

abbrev mutual
  -- the scope after a statement
  pub after : WrittenStatement → Scope → Scope
  after (Empty place) scope = scope
  after (Block place body) scope = left scope (after_block body (entered scope))
  after (Declare place local) scope = after_local local scope
  after (Do place simple) scope = scope
  after (If place branches otherwise) scope =
      left (after_branches branches scope) (after_block otherwise (entered (after_branches branches scope)))
  after (While place condition body) scope = left scope (after_block body (entered scope))
  after (For place start condition step body) scope =
      left scope (left (after_start start (entered scope)) (after_block body (entered (after_start start (entered scope)))))
  after (Return place value) scope = scope

  pub after_block : WrittenBlock → Scope → Scope
  after_block NoStatement scope = scope
  after_block (StatementThen s ss) scope = after_block ss (after s scope)

  pub after_branches : WrittenBranches → Scope → Scope
  after_branches NoBranch scope = scope
  after_branches (BranchThen place condition body more) scope =
      after_branches more (left scope (after_block body (entered scope)))

abbrev mutual
  -- the rules on a statement of a body with a result or without; a block has a scope of its own, and a `for` one around its block
  pub statement_faults : Known → Bool → WrittenStatement → Scope → List Fault
  statement_faults known result (Empty place) scope = []
  statement_faults known result (Block place body) scope = block_faults known result body (entered scope)
  statement_faults known result (Declare place local) scope = local_faults known local scope
  statement_faults known result (Do place simple) scope = simple_faults (means_in known scope) simple
  statement_faults known result (If place branches otherwise) scope =
      branches_faults known result branches scope
      ++ block_faults known result otherwise (entered (after_branches branches scope))
  statement_faults known result (While place condition body) scope =
      expression_faults condition (means_in known scope) ++ block_faults known result body (entered scope)
  statement_faults known result (For place start condition step body) scope =
      start_faults known start (entered scope)
      ++ (optional_faults condition (means_in known (after_start start (entered scope)))
      ++ (step_faults (means_in known (after_start start (entered scope))) step
      ++ block_faults known result body (entered (after_start start (entered scope)))))
  statement_faults known result (Return place value) scope =
      when (returns_wrongly result (is_some value)) 13 place ++ optional_faults value (means_in known scope)

  pub block_faults : Known → Bool → WrittenBlock → Scope → List Fault
  block_faults known result NoStatement scope = []
  block_faults known result (StatementThen s ss) scope =
      statement_faults known result s scope ++ block_faults known result ss (after s scope)

  pub branches_faults : Known → Bool → WrittenBranches → Scope → List Fault
  branches_faults known result NoBranch scope = []
  branches_faults known result (BranchThen place condition body more) scope =
      expression_faults condition (means_in known scope)
      ++ (block_faults known result body (entered scope)
      ++ branches_faults known result more (left scope (after_block body (entered scope))))
