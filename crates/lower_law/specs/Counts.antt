-- The counts of a typed unit: points, cells and weight, as sums over what its bodies do, every call being expanded at its place.
use Rattle.std.specs.Prelude.{ℕ, zero, suc, ◌+◌, ◌*◌, ◌-◌, ◌^◌, max, min, List, [], ◌∷◌, ◌++◌, Option, Some, None, slice_get}
use Rattle.chk_base.specs.Widths.{bits_of}
use Rattle.c_unit.specs.declared.expression.BinaryOperator.{BinaryOperator}
use Rattle.c_unit.specs.declared.expression.BinaryOperator.TheVariants as op
use Rattle.typed_unit.specs.declared.typed.CType.{CType}
use Rattle.typed_unit.specs.declared.typed.GlobalVar.{GlobalVar}
use Rattle.typed_unit.specs.declared.typed.Local.{Local}
use Rattle.typed_unit.specs.Plain.{PlainExpr, PlainStatement, PlainBlock, NoStatement, StatementThen, PlainFunction, PlainEntity, PlainUnit}
use Rattle.typed_unit.specs.Plain as p
use Rattle.lower_law.specs.Translated.{elements, entity_body}

-- no chain of calls is longer, by rule S11
abbrev pub call_depth : ℕ
call_depth = 16

-- a count as far as a number goes
abbrev pub saturated : ℕ → ℕ
saturated n = min n (2 ^ 64 - 1)

-- the read sites of an expression: each occurrence of a global scalar or an element as a value
abbrev pub reads : PlainExpr → ℕ
reads (p.Number place t n) = 0
reads (p.Truth place t b) = 0
reads (p.Local' place t l) = 0
reads (p.Global place t g) = 1
reads (p.Element place t g len i) = reads i + 1
reads (p.Parenthesis place t a) = reads a
reads (p.Unary place t o a) = reads a
reads (p.Cast place t a) = reads a
reads (p.Binary place t o a b) = reads a + reads b
reads (p.Conditional place t q a b) = reads q + reads a + reads b
reads (p.Conversion place t a) = reads a

abbrev pub reads_all : List PlainExpr → ℕ
reads_all [] = 0
reads_all (e ∷ es) = reads e + reads_all es

-- what an operator weighs
abbrev pub operator_weight : BinaryOperator → ℕ
operator_weight op.Multiply = 64
operator_weight op.Divide = 64
operator_weight op.Remainder = 64
operator_weight op.ShiftLeft = 8
operator_weight op.ShiftRight = 8
operator_weight _ = 1

-- what the operators and the array accesses of an expression weigh; a conversion that isn't written weighs nothing
abbrev pub expr_weight : PlainExpr → ℕ
expr_weight (p.Number place t n) = 0
expr_weight (p.Truth place t b) = 0
expr_weight (p.Local' place t l) = 0
expr_weight (p.Global place t g) = 0
expr_weight (p.Element place t g len i) = expr_weight i + len
expr_weight (p.Parenthesis place t a) = expr_weight a
expr_weight (p.Unary place t o a) = expr_weight a + 1
expr_weight (p.Cast place t a) = expr_weight a + 1
expr_weight (p.Binary place t o a b) = expr_weight a + expr_weight b + operator_weight o
expr_weight (p.Conditional place t q a b) = expr_weight q + expr_weight a + expr_weight b + 1
expr_weight (p.Conversion place t a) = expr_weight a

abbrev pub weight_all : List PlainExpr → ℕ
weight_all [] = 0
weight_all (e ∷ es) = expr_weight e + weight_all es

-- a thing that a body does: the expressions that it asks, the length of the array into which it writes, and the function that it calls
pub record Thing : Type 0 where
  pub asks : List PlainExpr
  pub target : ℕ
  pub calls : Option ℕ

-- a thing that asks this
abbrev pub asking : List PlainExpr → Thing
asking es = record { asks = es; target = 0; calls = None }

abbrev pub if_there : Option PlainExpr → List PlainExpr
if_there None = []
if_there (Some e) = e ∷ []

-- the things of a statement, or of a block, in the order of the text
abbrev mutual
  pub things : PlainStatement → List Thing
  things (p.Set place l v) = asking (v ∷ []) ∷ []
  things (p.Write place g v) = asking (v ∷ []) ∷ []
  things (p.WriteElement place g len i v) = record { asks = i ∷ v ∷ []; target = len; calls = None } ∷ []
  things (p.Input place t) = asking [] ∷ []
  things (p.Call place name f args t) = record { asks = args; target = 0; calls = Some f } ∷ []
  things (p.Serve place service at) = asking [] ∷ []
  things (p.Assert place q) = asking (q ∷ []) ∷ []
  things (p.If place q on off) = asking (q ∷ []) ∷ (things_in on ++ things_in off)
  things (p.While place q body) = asking (q ∷ []) ∷ things_in body
  things (p.For place start q step body) = things_in start ++ (asking (if_there q) ∷ (things_in step ++ things_in body))
  things (p.Return place v) = asking (if_there v) ∷ []
  things (p.Block place body) = things_in body

  pub things_in : PlainBlock → List Thing
  things_in NoStatement = []
  things_in (StatementThen s b) = things s ++ things_in b

-- what is counted for the function that is called, if one is
abbrev pub called : (ℕ → ℕ) → Option ℕ → ℕ
called calls None = 0
called calls (Some f) = calls f

-- each thing is a point, and so is each of its read sites
abbrev pub points_of : (ℕ → ℕ) → List Thing → ℕ
points_of calls [] = 0
points_of calls (x ∷ xs) = 1 + reads_all x.asks + called calls x.calls + points_of calls xs

-- what the operators and array accesses of things weigh
abbrev pub weight_of : (ℕ → ℕ) → List Thing → ℕ
weight_of calls [] = 0
weight_of calls (x ∷ xs) = weight_all x.asks + x.target + called calls x.calls + weight_of calls xs

-- the bits of the cells of the calls in things
abbrev pub call_bits : (ℕ → ℕ) → List Thing → ℕ
call_bits calls [] = 0
call_bits calls (x ∷ xs) = called calls x.calls + call_bits calls xs

-- the greatest number of read sites in one thing
abbrev pub most_reads : (ℕ → ℕ) → List Thing → ℕ
most_reads calls [] = 0
most_reads calls (x ∷ xs) = max (max (reads_all x.asks) (called calls x.calls)) (most_reads calls xs)

-- the end of a void function is a point
abbrev pub end_points : Option CType → ℕ
end_points None = 1
end_points (Some t) = 0

abbrev pub local_bits : List Local → ℕ
local_bits [] = 0
local_bits (l ∷ ls) = bits_of l.ctype.width + local_bits ls

-- what is counted for a function that there is
abbrev pub if_function : (PlainFunction → ℕ) → Option PlainFunction → ℕ
if_function count None = 0
if_function count (Some f) = count f

module _ (u : PlainUnit) where
  -- the counts of a function in which calls nest less than so deep
  abbrev pub function_points : ℕ → ℕ → ℕ
  function_points zero f = 0
  function_points (suc d) f = if_function (λ x. points_of (function_points d) (things_in x.body) + end_points x.result) (slice_get u.functions f)

  abbrev pub function_weight : ℕ → ℕ → ℕ
  function_weight zero f = 0
  function_weight (suc d) f = if_function (λ x. weight_of (function_weight d) (things_in x.body)) (slice_get u.functions f)

  abbrev pub function_bits : ℕ → ℕ → ℕ
  function_bits zero f = 0
  function_bits (suc d) f = if_function (λ x. local_bits x.locals + call_bits (function_bits d) (things_in x.body)) (slice_get u.functions f)

  abbrev pub function_reads : ℕ → ℕ → ℕ
  function_reads zero f = 0
  function_reads (suc d) f = if_function (λ x. most_reads (function_reads d) (things_in x.body)) (slice_get u.functions f)

  -- the counts of an entity: its body has a point more for its end, and a cell of 32 bits for each value that one thing reads
  abbrev pub entity_points : PlainEntity → ℕ
  entity_points e = points_of (function_points call_depth) (things_in e.body) + 1

  abbrev pub entity_weight : PlainEntity → ℕ
  entity_weight e = entity_points e + weight_of (function_weight call_depth) (things_in e.body)

  abbrev pub entity_reads : PlainEntity → ℕ
  entity_reads e = most_reads (function_reads call_depth) (things_in e.body)

  abbrev pub entity_bits : PlainEntity → ℕ
  entity_bits e = local_bits e.locals + call_bits (function_bits call_depth) (things_in e.body) + 32 * entity_reads e

-- a sum over a list
abbrev pub sum_of : {A : Type 0} → (A → ℕ) → List A → ℕ
sum_of count [] = 0
sum_of count (x ∷ xs) = count x + sum_of count xs

-- the bits of a variable
abbrev pub global_bits : GlobalVar → ℕ
global_bits g = elements g.len * bits_of g.ctype.width

-- what is counted for the body of an entity, where it has one
abbrev pub if_body : (PlainEntity → ℕ) → Option PlainEntity → ℕ
if_body count None = 0
if_body count (Some e) = count e

-- a sum over the first n entities
abbrev pub sum_below : PlainUnit → (PlainEntity → ℕ) → ℕ → ℕ
sum_below u count zero = 0
sum_below u count (suc n) = sum_below u count n + if_body count (entity_body n u.entities)

-- the points of an application of so many entities
abbrev pub point_total : PlainUnit → ℕ → ℕ
point_total u entities = sum_below u (entity_points u) entities

-- the bits of its cells
abbrev pub bit_total : PlainUnit → ℕ → ℕ
bit_total u entities = sum_of global_bits u.globals + sum_below u (entity_bits u) entities

-- its weight
abbrev pub weight_total : PlainUnit → ℕ → ℕ
weight_total u entities = sum_below u (entity_weight u) entities
