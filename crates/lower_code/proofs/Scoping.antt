-- In a body whose names are right the numbers of locals and functions are small.
use Rattle.std.proofs.Common.{◌≡◌, ℕ, ◌<◌, ◌≤◌, Bool, true, false, ◌||◌, ◌==◌, List, [], ◌∷◌, length, Option, Some, None, refl, arith}
use Rattle.std.specs.Prelude.{map, option_map, nat_lt, IsTrue}
use Rattle.std.proofs.lemmas.Bool.{ltb-true}
use Rattle.std.proofs.lemmas.Bool.Decides.{nat_tests}
use Rattle.typed_unit.specs.declared.typed.CType.{CType}
use Rattle.typed_unit.specs.declared.typed.GlobalVar.{GlobalVar}
use Rattle.typed_unit.specs.declared.typed.Local.{Local}
use Rattle.typed_unit.specs.declared.typed.Taker.{Taker}
use Rattle.typed_unit.specs.Plain.{PlainExpr, PlainStatement, PlainBlock, NoStatement, StatementThen}
use Rattle.typed_unit.specs.Plain as p
use Rattle.lower_law.specs.FitsBody.{learn}
use Rattle.lower_law.specs.Scoped.{IsScoped, AreScoped, IfScoped, IsTaker, learn_taken, known_behind, known_in, StatementScoped, BlockScoped}
use Rattle.lower_law.specs.Statements.{CellBlock, Loop, Nil, Cons}
use Rattle.lower_law.specs.Translated.{binary, joined, expr, condition, taken, statement, statements}
use Rattle.lower_law.specs.Typed.{BinaryOperator, LogicalAnd, LogicalOr, CellExpr}
use Rattle.lower_pieces.specs.Within.{LocalsBelow}
use Rattle.lower_code.specs.Chains.{IfNumbers, ArgumentsBelow, TakenUnder, NumbersBelow, AllNumbersBelow}

-- the locals that are known are among the first
abbrev AreBelow : ℕ → (ℕ → Bool) → Type 0
AreBelow n known = (i : ℕ) → IsTrue (known i) → i < n

-- one more that is known
learned_below : (n at : ℕ) (known : ℕ → Bool) → at < n → AreBelow n known → AreBelow n (learn known at)
learned_below n at known h k i t = by (i == at) refl t where
  by : (b : Bool) → (i == at) ≡ b → IsTrue (b || known i) → i < n
  by true e u = grind (arith, nat_tests)
  by false e u = k i u

-- a number that passes the test is below
passed_below : (i n : ℕ) → IsTrue (nat_lt i n) → i < n
passed_below i n t = ltb-true i n t

-- an operator reads what its operands read
binary_below : (n : ℕ) (op : BinaryOperator) (s : Bool) (a b : CellExpr) → LocalsBelow n a → LocalsBelow n b → LocalsBelow n (binary op s a b)
binary_below n LogicalAnd s a b x y = (x, y)
binary_below n LogicalOr s a b x y = (x, y)
binary_below n _ s a b x y = (x, y)

-- statements before others
joined_small : (n : ℕ) (a b : CellBlock) → AllNumbersBelow n a → AllNumbersBelow n b → AllNumbersBelow n (joined a b)
joined_small n Nil b x y = y
joined_small n (Cons s a) b x y = (x.0, joined_small n a b x.1 y)

module _ (globals : List GlobalVar) (locals n : ℕ) (few : locals ≤ n) where
  -- the locals of an expression are known
  expr_small : (known : ℕ → Bool) (e : PlainExpr) → AreBelow locals known → IsScoped globals known e → LocalsBelow n (expr globals e)
  expr_small known (p.Number place t k) below h = tt
  expr_small known (p.Truth place t b) below h = tt
  expr_small known (p.Local' place t l) below h = let k = below l h in omega (arith, k, few)
  expr_small known (p.Global place t g) below h = tt
  expr_small known (p.Element place t g len i) below h = expr_small known i below h.1
  expr_small known (p.Parenthesis place t a) below h = expr_small known a below h
  expr_small known (p.Unary place t op a) below h = expr_small known a below h
  expr_small known (p.Cast place t a) below h = expr_small known a below h
  expr_small known (p.Binary place t op a b) below h =
      binary_below n op (p.type_of a).signed (expr globals a) (expr globals b) (expr_small known a below h.0) (expr_small known b below h.1)
  expr_small known (p.Conditional place t q a b) below h =
      (expr_small known q below h.0, expr_small known a below h.1, expr_small known b below h.2)
  expr_small known (p.Conversion place t a) below h = expr_small known a below h

  -- so it is for the arguments of a call
  exprs_small : (known : ℕ → Bool) (es : List PlainExpr) → AreBelow locals known → AreScoped globals known es → ArgumentsBelow n (map (expr globals) es)
  exprs_small known [] below h = tt
  exprs_small known (e ∷ es) below h = (expr_small known e below h.0, exprs_small known es below h.1)

  -- for the value of a return, where there is one
  value_small : (known : ℕ → Bool) (e : Option PlainExpr) → AreBelow locals known → IfScoped globals known e → IfNumbers n (option_map (expr globals) e)
  value_small known None below h = tt
  value_small known (Some e) below h = expr_small known e below h

  -- and for the condition of a loop
  condition_small : (known : ℕ → Bool) (e : Option PlainExpr) → AreBelow locals known → IfScoped globals known e → LocalsBelow n (condition globals e)
  condition_small known None below h = tt
  condition_small known (Some e) below h = expr_small known e below h

-- the local that takes a result
taken_small : (globals : List GlobalVar) (locals : List Local) (n : ℕ) → length locals ≤ n → (t : Option Taker) → IsTaker (length locals) t → TakenUnder n (option_map (taken globals locals) t)
taken_small globals locals n few None h = tt
taken_small globals locals n few (Some t) h = omega (arith, few, h)

-- the locals that are known once it has it
taken_below : (n : ℕ) (known : ℕ → Bool) (t : Option Taker) → AreBelow n known → IsTaker n t → AreBelow n (learn_taken known t)
taken_below n known None below h = below
taken_below n known (Some t) below h = learned_below n t.local known h below

module _ (globals : List GlobalVar) (IsCall : ℕ → List PlainExpr → Option Taker → Type 0) (locals : List Local) (result : Option CType) (n : ℕ) (few : length locals ≤ n)
    (calls : (f : ℕ) (args : List PlainExpr) (t : Option Taker) → IsCall f args t → f < n) where
  -- the names of a statement, and of a block, are right
  abbrev OneScoped : (ℕ → Bool) → PlainStatement → Type 0
  OneScoped known s = StatementScoped globals IsCall (length locals) result known s

  abbrev ManyScoped : (ℕ → Bool) → PlainBlock → Type 0
  ManyScoped known b = BlockScoped globals IsCall (length locals) result known b

  -- the locals that are known behind a statement, and behind a block
  behind_below : (s : PlainStatement) (known : ℕ → Bool) → AreBelow (length locals) known → OneScoped known s → AreBelow (length locals) (known_behind known s)
  behind_below (p.Set place l v) known below h = learned_below (length locals) l known h.1 below
  behind_below (p.Write place g v) known below h = below
  behind_below (p.WriteElement place g len i v) known below h = below
  behind_below (p.Input place t) known below h = learned_below (length locals) t.local known h below
  behind_below (p.Call place name f args t) known below h = taken_below (length locals) known t below h.2
  behind_below (p.Serve place service at) known below h = below
  behind_below (p.Assert place q) known below h = below
  behind_below (p.If place q on off) known below h = below
  behind_below (p.While place q body) known below h = below
  behind_below (p.For place start q step body) known below h = below
  behind_below (p.Return place v) known below h = below
  behind_below (p.Block place body) known below h = below

  end_below : (b : PlainBlock) (known : ℕ → Bool) → AreBelow (length locals) known → ManyScoped known b → AreBelow (length locals) (known_in known b)
  end_below NoStatement known below h = below
  end_below (StatementThen s b) known below h = end_below b (known_behind known s) (behind_below s known below h.0) h.1

  mutual
    -- a statement
    one_small : (s : PlainStatement) (known : ℕ → Bool) → AreBelow (length locals) known → OneScoped known s → NumbersBelow n (statement globals locals s)
    one_small (p.Set place l v) known below h = (omega (arith, few, h.1), expr_small globals (length locals) n few known v below h.0)
    one_small (p.Write place g v) known below h = expr_small globals (length locals) n few known v below h.0
    one_small (p.WriteElement place g len i v) known below h =
        (expr_small globals (length locals) n few known i below h.0, expr_small globals (length locals) n few known v below h.1)
    one_small (p.Input place t) known below h = omega (arith, few, h)
    one_small (p.Call place name f args t) known below h =
        (calls f args t h.1, exprs_small globals (length locals) n few known args below h.0, taken_small globals locals n few t h.2)
    one_small (p.Serve place service at) known below h = tt
    one_small (p.Assert place q) known below h = expr_small globals (length locals) n few known q below h
    one_small (p.If place q on off) known below h =
        (expr_small globals (length locals) n few known q below h.0, many_small on known below h.1, many_small off known below h.2)
    one_small (p.While place q body) known below h = (expr_small globals (length locals) n few known q below h.0, tt, many_small body known below h.1)
    one_small (p.For place start q step body) known below h =
        let inner = end_below start known below h.0 in
        let test = condition_small globals (length locals) n few (known_in known start) q inner h.1 in
        let third = many_small step (known_in known start) inner h.2 in
        let all = many_small body (known_in known start) inner h.3 in
        joined_small n (statements globals locals start) (Cons (Loop place (condition globals q) (statements globals locals step) (statements globals locals body)) Nil)
        (many_small start known below h.0) ((test, third, all), tt)
    one_small (p.Return place v) known below h = value_small globals (length locals) n few known v below h.0
    one_small (p.Block place body) known below h = many_small body known below h

    -- statements in order
    pub many_small : (b : PlainBlock) (known : ℕ → Bool) → AreBelow (length locals) known → ManyScoped known b → AllNumbersBelow n (statements globals locals b)
    many_small NoStatement known below h = tt
    many_small (StatementThen s b) known below h = (one_small s known below h.0, many_small b (known_behind known s) (behind_below s known below h.0) h.1)

-- a body, of whose locals the parameters are known at first
pub body_small : (globals : List GlobalVar) (IsCall : ℕ → List PlainExpr → Option Taker → Type 0) (locals : List Local) (result : Option CType) (params n : ℕ) (b : PlainBlock)
    → length locals ≤ n → params ≤ length locals
    → ((f : ℕ) (args : List PlainExpr) (t : Option Taker) → IsCall f args t → f < n)
    → BlockScoped globals IsCall (length locals) result (λ i. nat_lt i params) b
    → AllNumbersBelow n (statements globals locals b)
body_small globals IsCall locals result params n b few within calls h =
    many_small globals IsCall locals result n few calls b (λ i. nat_lt i params) (λ i t. let k = passed_below i params t in omega (arith, k, within)) h
