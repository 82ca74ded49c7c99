-- What is known of the names in a typed unit without a broken rule: each means something that there is, and a local is read only after it was set.
use Rattle.std.specs.Prelude.{◌≡◌, ℕ, zero, suc, ◌<◌, ◌≤◌, Bool, true, false, nat_lt, List, [], ◌∷◌, length, Option, Some, None, slice_get, IsTrue}
use Rattle.typed_unit.specs.declared.typed.CType.{CType}
use Rattle.typed_unit.specs.declared.typed.GlobalVar.{GlobalVar}
use Rattle.typed_unit.specs.declared.typed.Taker.{Taker}
use Rattle.typed_unit.specs.Plain.{PlainExpr, PlainStatement, PlainBlock, NoStatement, StatementThen, PlainFunction, PlainEntity, PlainUnit}
use Rattle.typed_unit.specs.Plain as p
use Rattle.lower_law.specs.Counts.{call_depth}
use Rattle.lower_law.specs.FitsBody.{learn}
use Rattle.lower_law.specs.Named.{IsLength}

-- a scalar variable
abbrev pub IsScalar : Option GlobalVar → Type 0
IsScalar None = ⊥
IsScalar (Some g) = g.len ≡ None

module _ (globals : List GlobalVar) where
  -- the locals of an expression are known, and its variables are scalars, or arrays of the length that is written
  abbrev pub IsScoped : (ℕ → Bool) → PlainExpr → Type 0
  IsScoped known (p.Number place t n) = Unit {0}
  IsScoped known (p.Truth place t b) = Unit {0}
  IsScoped known (p.Local' place t l) = IsTrue (known l)
  IsScoped known (p.Global place t g) = IsScalar (slice_get globals g)
  IsScoped known (p.Element place t g len i) = IsLength (slice_get globals g) len × IsScoped known i
  IsScoped known (p.Parenthesis place t a) = IsScoped known a
  IsScoped known (p.Unary place t o a) = IsScoped known a
  IsScoped known (p.Cast place t a) = IsScoped known a
  IsScoped known (p.Binary place t o a b) = IsScoped known a × IsScoped known b
  IsScoped known (p.Conditional place t q a b) = IsScoped known q × IsScoped known a × IsScoped known b
  IsScoped known (p.Conversion place t a) = IsScoped known a

  abbrev pub AreScoped : (ℕ → Bool) → List PlainExpr → Type 0
  AreScoped known [] = Unit {0}
  AreScoped known (e ∷ es) = IsScoped known e × AreScoped known es

  abbrev pub IfScoped : (ℕ → Bool) → Option PlainExpr → Type 0
  IfScoped known None = Unit {0}
  IfScoped known (Some e) = IsScoped known e

-- the local that takes a result is set, too
abbrev pub learn_taken : (ℕ → Bool) → Option Taker → ℕ → Bool
learn_taken known None = known
learn_taken known (Some t) = learn known t.local

-- the locals that are set after a statement; those that a block declares are gone
abbrev pub known_behind : (ℕ → Bool) → PlainStatement → ℕ → Bool
known_behind known (p.Set place l v) = learn known l
known_behind known (p.Input place t) = learn known t.local
known_behind known (p.Call place name f args t) = learn_taken known t
known_behind known _ = known

abbrev pub known_in : (ℕ → Bool) → PlainBlock → ℕ → Bool
known_in known NoStatement = known
known_in known (StatementThen s b) = known_in (known_behind known s) b

-- the local that takes a result is one of so many
abbrev pub IsTaker : ℕ → Option Taker → Type 0
IsTaker locals None = Unit {0}
IsTaker locals (Some t) = t.local < locals

-- a return has a value exactly where there is a result
abbrev pub IsResult : Option CType → Option PlainExpr → Type 0
IsResult None None = Unit {0}
IsResult (Some t) (Some e) = Unit {0}
IsResult _ _ = ⊥

-- only a result is taken
abbrev pub IsTaken : Option CType → Option Taker → Type 0
IsTaken None (Some t) = ⊥
IsTaken _ _ = Unit {0}

-- a body with this many locals and this result, where these calls are right
module _ (globals : List GlobalVar) (IsCall : ℕ → List PlainExpr → Option Taker → Type 0) (locals : ℕ) (result : Option CType) where
  abbrev mutual
    pub StatementScoped : (ℕ → Bool) → PlainStatement → Type 0
    StatementScoped known (p.Set place l v) = IsScoped globals known v × (l < locals)
    StatementScoped known (p.Write place g v) = IsScoped globals known v × IsScalar (slice_get globals g)
    StatementScoped known (p.WriteElement place g len i v) = IsScoped globals known i × IsScoped globals known v × IsLength (slice_get globals g) len
    StatementScoped known (p.Input place t) = t.local < locals
    StatementScoped known (p.Call place name f args t) = AreScoped globals known args × IsCall f args t × IsTaker locals t
    StatementScoped known (p.Serve place service at) = Unit {0}
    StatementScoped known (p.Assert place q) = IsScoped globals known q
    StatementScoped known (p.If place q on off) = IsScoped globals known q × BlockScoped known on × BlockScoped known off
    StatementScoped known (p.While place q body) = IsScoped globals known q × BlockScoped known body
    StatementScoped known (p.For place start q step body) =
        BlockScoped known start × IfScoped globals (known_in known start) q × BlockScoped (known_in known start) step × BlockScoped (known_in known start) body
    StatementScoped known (p.Return place v) = IfScoped globals known v × IsResult result v
    StatementScoped known (p.Block place body) = BlockScoped known body

    pub BlockScoped : (ℕ → Bool) → PlainBlock → Type 0
    BlockScoped known NoStatement = Unit {0}
    BlockScoped known (StatementThen s b) = StatementScoped known s × BlockScoped (known_behind known s) b

abbrev pub is_returning : PlainStatement → Bool
is_returning (p.Return place v) = true
is_returning _ = false

abbrev pub is_last_one : PlainBlock → Bool
is_last_one NoStatement = true
is_last_one (StatementThen s b) = false

-- the last statement is a return
abbrev pub returns_last : PlainBlock → Bool
returns_last NoStatement = false
returns_last (StatementThen s NoStatement) = is_returning s
returns_last (StatementThen s (StatementThen r b)) = returns_last (StatementThen r b)

-- a body with a result ends in a return
abbrev pub IsClosed : Option CType → PlainBlock → Type 0
IsClosed None b = Unit {0}
IsClosed (Some t) b = IsTrue (returns_last b)

-- a function that is called with these arguments, and whose result is taken so
pub record IsCallee (globals : List GlobalVar) (IsCall : ℕ → List PlainExpr → Option Taker → Type 0) (args : List PlainExpr) (t : Option Taker) (f : PlainFunction) : Type 0 where
  pub count : length args ≡ f.params
  pub few : f.params ≤ length f.locals
  pub taken : IsTaken f.result t
  pub closed : IsClosed f.result f.body
  pub body : BlockScoped globals IsCall (length f.locals) f.result (λ i. nat_lt i f.params) f.body

-- a function that there is
abbrev pub IsFunction : (PlainFunction → Type 0) → Option PlainFunction → Type 0
IsFunction P None = ⊥
IsFunction P (Some f) = P f

-- a call in which calls nest less than so deep
abbrev pub IsCallTo : PlainUnit → ℕ → ℕ → List PlainExpr → Option Taker → Type 0
IsCallTo u zero f args t = ⊥
IsCallTo u (suc d) f args t = IsFunction (IsCallee u.globals (IsCallTo u d) args t) (slice_get u.functions f)

-- an entity's body, which has no parameters, is right
abbrev pub IsBody : PlainUnit → PlainEntity → Type 0
IsBody u e = BlockScoped u.globals (IsCallTo u call_depth) (length e.locals) None (λ i. nat_lt i 0) e.body
