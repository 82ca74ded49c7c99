-- What the completing point of a thing does.
use Rattle.std.specs.Prelude.{ℕ, ◌+◌, ◌<◌, List, [], length, map, Option, Some, None, option_map, slice_get}
use Rattle.chk_base.specs.Term.{Term}
use Rattle.step_ir.specs.Points.{PlainAction, Local, Branch, Invoke, End, item_of}
use Rattle.step_ir.specs.Points as act
use Rattle.lower_law.specs.Lowered.{Context, first_term, second_term, sets, set_of, leaving}
use Rattle.lower_law.specs.Statements.{CellStatement, Set, Write, WriteAt, If, Loop, Assert, Input, Call, Serve, Block}
use Rattle.lower_law.specs.Statements as st
use Rattle.lower_law.specs.Typed.{CType}
use Rattle.lower_pieces.specs.declared.actions.Frame.{Frame}
use Rattle.lower_pieces.specs.declared.tree.FunctionTree.{FunctionTree}
use Rattle.lower_pieces.specs.Trees.{takes_of}

-- a frame as plain data
abbrev pub context_of : Frame → Context
context_of f = record { base = f.base; inner = f.inner; after = map item_of f.after; into = option_map takes_of f.into }

-- the parameters of a function that there is
abbrev pub or_none : Option FunctionTree → List CType
or_none None = []
or_none (Some f) = f.params.items

abbrev pub params_of : List FunctionTree → ℕ → List CType
params_of functions f = or_none (slice_get functions f)

-- the action of a completing point
abbrev pub acting : List FunctionTree → Context → ℕ → CellStatement → List Term → PlainAction
acting functions ctx cell (Set p at t e) ts = Local (ctx.base + at) (first_term ts)
acting functions ctx cell (Write p c t e) ts = act.Write (record { base = c; len = 1; index = None }) (first_term ts)
acting functions ctx cell (WriteAt p c len t i e) ts = act.Write (record { base = c; len = len; index = Some (first_term ts) }) (second_term ts)
acting functions ctx cell (If p c a b) ts = Branch (first_term ts)
acting functions ctx cell (Loop p c x b) ts = Branch (first_term ts)
acting functions ctx cell (Assert p e) ts = act.Assert (first_term ts)
acting functions ctx cell (Input p at t) ts = act.Input (ctx.base + at)
acting functions ctx cell (Call p f args into) ts = act.Call f (sets cell (params_of functions f) ts)
acting functions ctx cell (st.Return p e) ts = leaving ctx.inner (set_of ctx.into e ts)
acting functions ctx cell (Serve p s) ts = Invoke s
acting functions ctx cell (Block b) ts = End

-- the cell that takes a result has a number below this one
abbrev pub TakenBelow : ℕ → ℕ → Option (ℕ × CType) → Type 0
TakenBelow n base None = Unit {0}
TakenBelow n base (Some a) = base + a.0 < n

-- the cells that it sets have numbers below this one
abbrev pub ActsBelow : ℕ → List FunctionTree → ℕ → ℕ → CellStatement → Type 0
ActsBelow n functions base cell (Set p at t e) = base + at < n
ActsBelow n functions base cell (Input p at t) = base + at < n
ActsBelow n functions base cell (Call p f args into) = (cell + length (params_of functions f) < n) × TakenBelow n base into
ActsBelow n functions base cell _ = Unit {0}
