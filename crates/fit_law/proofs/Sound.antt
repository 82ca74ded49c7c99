-- The bodies of a unit whose names are right are sound over cells, too.
use Rattle.std.proofs.Common.{◌≡◌, ℕ, zero, suc, ◌<◌, ◌≤◌, nat_lt, Bool, List, [], ◌∷◌, length, Option, Some, None, refl, subst}
use Rattle.std.specs.Prelude.{map, option_map, slice_get}
use Rattle.std.proofs.lemmas.Option.{slice_get_within}
use Rattle.application.specs.declared.app.App.{App}
use Rattle.typed_unit.specs.declared.typed.CType.{CType}
use Rattle.typed_unit.specs.declared.typed.GlobalVar.{GlobalVar}
use Rattle.typed_unit.specs.declared.typed.Local.{Local}
use Rattle.typed_unit.specs.declared.typed.Taker.{Taker}
use Rattle.typed_unit.specs.Plain.{PlainExpr, PlainStatement, PlainBlock, NoStatement, StatementThen, PlainFunction, PlainEntity, PlainUnit}
use Rattle.typed_unit.specs.Plain as p
use Rattle.lower_law.specs.Counts.{call_depth}
use Rattle.lower_law.specs.Named.{IsLength}
use Rattle.lower_law.specs.Scoped.{IsScoped, AreScoped, IfScoped, known_behind, known_in, StatementScoped, BlockScoped, IsCallee, IsFunction, IsCallTo, IsBody}
use Rattle.lower_law.specs.Statements.{Loop, CellBlock, Nil, Cons, asked, asked_if}
use Rattle.lower_law.specs.Translated.{binary, joined, expr, condition, statement, statements, function, no_function, or_body, unit_over_cells}
use Rattle.lower_law.specs.Typed.{BinaryOperator, LogicalAnd, LogicalOr, CellExpr}
use Rattle.scope_law.specs.Serving.{Serves, AllServe, AreServing}
use Rattle.scope_law.specs.Variables.{IsLengthFit, AreVariablesFit}
use Rattle.fit_law.proofs.Expressions.{HasElements, AllHaveElements}
use Rattle.fit_law.proofs.Bodies.{IsSound, AreSound, IsSoundTo}

-- an operator, or `&&` or `||`
binary_elements : (op : BinaryOperator) (s : Bool) (a b : CellExpr) → HasElements a → HasElements b → HasElements (binary op s a b)
binary_elements LogicalAnd s a b x y = (x, y)
binary_elements LogicalOr s a b x y = (x, y)
binary_elements _ s a b x y = (x, y)

module _ (globals : List GlobalVar) (fit : AreVariablesFit globals) where
  -- an array has an element
  array_some : (g len : ℕ) → IsLength (slice_get globals g) len → 1 ≤ len
  array_some g len h = go (slice_get globals g) refl h where
    go : (o : Option GlobalVar) → slice_get globals g ≡ o → IsLength o len → 1 ≤ len
    go None e i = absurd i
    go (Some v) e i = (subst IsLengthFit i (fit g v e).len).0

  -- every array that an expression reads has an element
  expr_elements : (known : ℕ → Bool) (e : PlainExpr) → IsScoped globals known e → HasElements (expr globals e)
  expr_elements known (p.Number place t n) h = tt
  expr_elements known (p.Truth place t b) h = tt
  expr_elements known (p.Local' place t l) h = tt
  expr_elements known (p.Global place t g) h = tt
  expr_elements known (p.Element place t g len i) h = (array_some g len h.0, expr_elements known i h.1)
  expr_elements known (p.Parenthesis place t a) h = expr_elements known a h
  expr_elements known (p.Unary place t o a) h = expr_elements known a h
  expr_elements known (p.Cast place t a) h = expr_elements known a h
  expr_elements known (p.Binary place t o a b) h = binary_elements o (p.type_of a).signed (expr globals a) (expr globals b) (expr_elements known a h.0) (expr_elements known b h.1)
  expr_elements known (p.Conditional place t q a b) h = (expr_elements known q h.0, expr_elements known a h.1, expr_elements known b h.2)
  expr_elements known (p.Conversion place t a) h = expr_elements known a h

  -- so it is for arguments
  all_elements : (known : ℕ → Bool) (es : List PlainExpr) → AreScoped globals known es → AllHaveElements (asked (map (expr globals) es))
  all_elements known [] h = tt
  all_elements known (e ∷ es) h = (expr_elements known e h.0, all_elements known es h.1)

  -- for the value of a return
  if_elements : (known : ℕ → Bool) (v : Option PlainExpr) → IfScoped globals known v → AllHaveElements (asked_if (option_map (expr globals) v))
  if_elements known None h = tt
  if_elements known (Some e) h = (expr_elements known e h, tt)

  -- for a condition
  condition_elements : (known : ℕ → Bool) (v : Option PlainExpr) → IfScoped globals known v → HasElements (condition globals v)
  condition_elements known None h = tt
  condition_elements known (Some e) h = expr_elements known e h

  module _ (app : App) (functions : ℕ) (IsCalled : ℕ → Type 0) where
    -- statements before others
    joined_sound : (a b : CellBlock) → AreSound app functions IsCalled a → AreSound app functions IsCalled b → AreSound app functions IsCalled (joined a b)
    joined_sound Nil b f g = g
    joined_sound (Cons s a) b f g = (f.0, joined_sound a b f.1 g)

    module _ (IsCall : ℕ → List PlainExpr → Option Taker → Type 0) (calls : (f : ℕ) (args : List PlainExpr) (t : Option Taker) → IsCall f args t → (f < functions) × IsCalled f) (locals : List Local) (result : Option CType) where
      mutual
        -- a statement whose names are right, and whose services name what there is
        statement_sound : (s : PlainStatement) (known : ℕ → Bool) → StatementScoped globals IsCall (length locals) result known s → Serves app s → IsSound app functions IsCalled (statement globals locals s)
        statement_sound (p.Set place l v) known f h = expr_elements known v f.0
        statement_sound (p.Write place g v) known f h = expr_elements known v f.0
        statement_sound (p.WriteElement place g len i v) known f h = (array_some g len f.2, expr_elements known i f.0, expr_elements known v f.1)
        statement_sound (p.Input place t) known f h = tt
        statement_sound (p.Call place name k args t) known f h =
            let c = calls k args t f.1 in
            (all_elements known args f.0, c.0, c.1)
        statement_sound (p.Serve place service at) known f h = h
        statement_sound (p.Assert place q) known f h = expr_elements known q f
        statement_sound (p.If place q on off) known f h = (expr_elements known q f.0, block_sound on known f.1 h.0, block_sound off known f.2 h.1)
        statement_sound (p.While place q body) known f h = (expr_elements known q f.0, tt, block_sound body known f.1 h)
        statement_sound (p.For place start q step body) known f h =
            let k = known_in known start in
            joined_sound (statements globals locals start) (Cons (Loop place (condition globals q) (statements globals locals step) (statements globals locals body)) Nil) (block_sound start known f.0 h.0)
            ((condition_elements k q f.1, block_sound step k f.2 h.1, block_sound body k f.3 h.2), tt)
        statement_sound (p.Return place v) known f h = if_elements known v f.0
        statement_sound (p.Block place body) known f h = block_sound body known f h

        -- and a block
        pub block_sound : (b : PlainBlock) (known : ℕ → Bool) → BlockScoped globals IsCall (length locals) result known b → AllServe app b → AreSound app functions IsCalled (statements globals locals b)
        block_sound NoStatement known f h = tt
        block_sound (StatementThen s b) known f h = (statement_sound s known f.0 h.0, block_sound b (known_behind known s) f.1 h.1)

module _ (app : App) (u : PlainUnit) (fit : AreVariablesFit u.globals) (serving : AreServing app u) where
  -- how many functions there are
  abbrev functions : ℕ
  functions = length u.functions

  -- so are the functions that are called
  called_sound : (d f : ℕ) (args : List PlainExpr) (t : Option Taker) → IsCallTo u d f args t → (f < functions) × IsSoundTo app functions (unit_over_cells u) d f
  called_sound zero f args t h = absurd h
  called_sound (suc d) f args t h = go (slice_get u.functions f) refl h (called_sound d) where
    go : (o : Option PlainFunction) → slice_get u.functions f ≡ o → IsFunction (IsCallee u.globals (IsCallTo u d) args t) o → ((g : ℕ) (es : List PlainExpr) (k : Option Taker) → IsCallTo u d g es k → (g < functions) × IsSoundTo app functions (unit_over_cells u) d g) → (f < functions) × AreSound app functions (IsSoundTo app functions (unit_over_cells u) d) (or_body no_function (option_map (function u.globals) o)).body
    go None e i ih = absurd i
    go (Some x) e i ih =
        (slice_get_within u.functions f x e, block_sound u.globals fit app functions (IsSoundTo app functions (unit_over_cells u) d) (IsCallTo u d) ih x.locals x.result x.body (λ i. nat_lt i x.params) i.body (serving.functions f x e))

  -- and an entity's body
  pub body_sound : (b : PlainEntity) → IsBody u b → AllServe app b.body → AreSound app functions (IsSoundTo app functions (unit_over_cells u) call_depth) (statements u.globals b.locals b.body)
  body_sound b h s = block_sound u.globals fit app functions (IsSoundTo app functions (unit_over_cells u) call_depth) (IsCallTo u call_depth) (called_sound call_depth) b.locals None b.body (λ i. nat_lt i 0) h s
