-- A typed unit over cells: globals named by their first cells, loops of one kind, and bodies by the numbers of functions and entities.
use Rattle.std.specs.Prelude.{ℕ, ◌+◌, Bool, true, false, List, [], ◌∷◌, length, map, take, Option, Some, None, option_map, slice_get, if◌then◌else◌, ◌==◌}
use Rattle.chk_base.specs.declared.word.Width.TheVariants.{W32}
use Rattle.chk_base.specs.Operators.{one_if}
use Rattle.application.specs.declared.app.Entity.{Entity}
use Rattle.step_ir.specs.PointStep.{nowhere}
use Rattle.typed_unit.specs.declared.typed.GlobalVar.{GlobalVar}
use Rattle.typed_unit.specs.declared.typed.Local.{Local}
use Rattle.typed_unit.specs.declared.typed.Taker.{Taker}
use Rattle.typed_unit.specs.Plain.{PlainExpr, PlainStatement, PlainBlock, NoStatement, StatementThen, PlainFunction, PlainEntity, PlainUnit, type_of}
use Rattle.typed_unit.specs.Plain as p
use Rattle.lower_law.specs.Typed.{CType, BinaryOperator, LogicalAnd, LogicalOr, CellExpr}
use Rattle.lower_law.specs.Typed as c
use Rattle.lower_law.specs.Statements.{CellStatement, Loop, CellBlock, Nil, Cons, CellFunction, CellUnit, no_body}
use Rattle.lower_law.specs.Statements as s

-- how many cells a variable has
abbrev pub elements : Option ℕ → ℕ
elements None = 1
elements (Some len) = len

abbrev pub cell_count : List GlobalVar → ℕ
cell_count [] = 0
cell_count (g ∷ gs) = elements g.len + cell_count gs

-- a type that is there, and else that of no value
abbrev pub or_word : Option CType → CType
or_word None = record { width = W32; signed = false }
or_word (Some t) = t

-- the type that a variable was declared with
abbrev pub global_type : List GlobalVar → ℕ → CType
global_type globals g = or_word (option_map (λ v. v.ctype) (slice_get globals g))

abbrev pub local_type : List Local → ℕ → CType
local_type locals l = or_word (option_map (λ v. v.ctype) (slice_get locals l))

-- an operator on values, or `&&` or `||`
abbrev pub binary : BinaryOperator → Bool → CellExpr → CellExpr → CellExpr
binary LogicalAnd s a b = c.Conjunction a b
binary LogicalOr s a b = c.Disjunction a b
binary op s a b = c.Binary op s a b

-- statements before others
abbrev pub joined : CellBlock → CellBlock → CellBlock
joined Nil b = b
joined (Cons s a) b = Cons s (joined a b)

module _ (globals : List GlobalVar) where
  -- the first cell of a variable; cells are numbered in the order of the text and element by element
  abbrev pub global_cell : ℕ → ℕ
  global_cell g = cell_count (take g globals)

  abbrev pub expr : PlainExpr → CellExpr
  expr (p.Number place t n) = c.Number n
  expr (p.Truth place t b) = c.Number (one_if b)
  expr (p.Local' place t l) = c.Local l t
  expr (p.Global place t g) = c.Global (global_cell g) (global_type globals g)
  expr (p.Element place t g len i) = c.Element (global_cell g) len (global_type globals g) (expr i)
  expr (p.Parenthesis place t a) = expr a
  expr (p.Unary place t op a) = c.Unary op (type_of a).signed (expr a)
  expr (p.Cast place t a) = c.Converted t (expr a)
  expr (p.Binary place t op a b) = binary op (type_of a).signed (expr a) (expr b)
  expr (p.Conditional place t q a b) = c.Conditional (expr q) (expr a) (expr b)
  expr (p.Conversion place t a) = c.Converted t (expr a)

  -- an empty condition is 1
  abbrev pub condition : Option PlainExpr → CellExpr
  condition None = c.Number 1
  condition (Some e) = expr e

  module _ (locals : List Local) where
    -- the local that takes a value
    abbrev pub taken : Taker → ℕ × CType
    taken t = (t.local, local_type locals t.local)

    abbrev mutual
      pub statement : PlainStatement → CellStatement
      statement (p.Set place l v) = s.Set place l (local_type locals l) (expr v)
      statement (p.Write place g v) = s.Write place (global_cell g) (global_type globals g) (expr v)
      statement (p.WriteElement place g len i v) = s.WriteAt place (global_cell g) len (global_type globals g) (expr i) (expr v)
      statement (p.Input place t) = s.Input place t.local (local_type locals t.local)
      statement (p.Call place name f args t) = s.Call place f (map expr args) (option_map taken t)
      statement (p.Serve place service at) = s.Serve place service
      statement (p.Assert place q) = s.Assert place (expr q)
      statement (p.If place q on off) = s.If place (expr q) (statements on) (statements off)
      statement (p.While place q body) = Loop place (expr q) Nil (statements body)
      statement (p.For place start q step body) = s.Block (joined (statements start) (Cons (Loop place (condition q) (statements step) (statements body)) Nil))
      statement (p.Return place v) = s.Return place (option_map expr v)
      statement (p.Block place body) = s.Block (statements body)

      pub statements : PlainBlock → CellBlock
      statements NoStatement = Nil
      statements (StatementThen s b) = Cons (statement s) (statements b)

-- there is one
abbrev pub is_some : {A : Type 0} → Option A → Bool
is_some None = false
is_some (Some x) = true

abbrev pub function : List GlobalVar → PlainFunction → CellFunction
function globals f =
    record {
      params = map (λ v. v.ctype) (take f.params f.locals);
      locals = length f.locals;
      gives = is_some f.result;
      body = statements globals f.locals f.body;
      close = f.close;
    }

-- the body of an entity is one without parameters and without a result
abbrev pub entity : List GlobalVar → PlainEntity → CellFunction
entity globals e =
    record {
      params = [];
      locals = length e.locals;
      gives = false;
      body = statements globals e.locals e.body;
      close = e.close;
    }

-- no function; it has no point
abbrev pub no_function : CellFunction
no_function = record { params = []; locals = 0; gives = true; body = Nil; close = nowhere }

abbrev pub or_body : CellFunction → Option CellFunction → CellFunction
or_body none None = none
or_body none (Some f) = f

-- the body is that of the entity with this number
abbrev pub is_entity : ℕ → Option Entity → Bool
is_entity e None = false
is_entity e (Some n) = n.0 == e

-- the first body of the entity with this number
abbrev pub entity_body : ℕ → List PlainEntity → Option PlainEntity
entity_body e [] = None
entity_body e (b ∷ bs) = if is_entity e b.entity then Some b else entity_body e bs

-- a typed unit over cells
abbrev pub unit_over_cells : PlainUnit → CellUnit
unit_over_cells u =
    record {
      fun = λ f. or_body no_function (option_map (function u.globals) (slice_get u.functions f));
      entity = λ e. or_body no_body (option_map (entity u.globals) (entity_body e u.entities));
    }
