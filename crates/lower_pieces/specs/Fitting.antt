-- That all numbers in a body are below a bound.
use Rattle.std.specs.Prelude.{ℕ, ◌+◌, ◌-◌, ◌<◌, List, map, Option, Some, None, slice_get}
use Rattle.lower_law.specs.Items.{sites_all}
use Rattle.lower_law.specs.Statements.{CellStatement, If, Loop, Call, Block, CellBlock, Nil, Cons, questions, block, room, room_all}
use Rattle.lower_pieces.specs.declared.tree.FunctionTree.{FunctionTree}
use Rattle.lower_pieces.specs.Acting.{ActsBelow}
use Rattle.lower_pieces.specs.Firsts.{first_thing}
use Rattle.lower_pieces.specs.Pieces.{behind}
use Rattle.lower_pieces.specs.Sized.{sized, sized_all}
use Rattle.lower_pieces.specs.Trees.{statement_of}
use Rattle.lower_pieces.specs.Within.{AllBelow, IfBelow}

-- the first thing of a function that is called, if there is one
abbrev pub IfCallFits : ℕ → ℕ → ℕ → ℕ → Option FunctionTree → Type 0
IfCallFits n temp base at None = Unit {0}
IfCallFits n temp base at (Some f) = IfBelow n base temp at (first_thing (block (map statement_of f.body.items)))

-- the function that a statement calls, if it does
abbrev pub CallFits : ℕ → List FunctionTree → ℕ → ℕ → ℕ → CellStatement → Type 0
CallFits n functions temp cell at (Call p f args into) = IfCallFits n temp cell (behind at (Call p f args into)) (slice_get functions f)
CallFits n functions temp cell at _ = Unit {0}

-- the first things of the blocks of an `if` or a loop
abbrev pub BlocksBelow : ℕ → (ℕ → ℕ) → ℕ → ℕ → ℕ → CellStatement → Type 0
BlocksBelow n sizes temp base at (If p c a b) =
    (behind at (If p c a b) + sized_all sizes a < n) × IfBelow n base temp (behind at (If p c a b)) (first_thing a) × IfBelow n base temp (behind at (If p c a b) + sized_all sizes a) (first_thing b)
BlocksBelow n sizes temp base at (Loop p c x b) =
    (behind at (Loop p c x b) + sized_all sizes x < n) × IfBelow n base temp (behind at (Loop p c x b)) (first_thing x) × IfBelow n base temp (behind at (Loop p c x b) + sized_all sizes x) (first_thing b)
BlocksBelow n sizes temp base at _ = Unit {0}

module _ (n : ℕ) (functions : List FunctionTree) (sizes rooms : ℕ → ℕ) (temp base : ℕ) where
  -- the numbers of a thing, whose points begin at a position and the cells of whose calls begin at `cell`
  pub record OwnFits (at cell : ℕ) (s : CellStatement) : Type 0 where
    pub locals : AllBelow (n - base) (questions s)
    pub values : temp + sites_all (questions s) < n
    pub points : behind at s < n
    pub blocks : BlocksBelow n sizes temp base at s
    pub sets : ActsBelow n functions base cell s
    pub calls : CallFits n functions temp cell at s

  abbrev mutual
    pub Fits : ℕ → ℕ → CellStatement → Type 0
    Fits at cell (Block b) = AllFit at cell b
    Fits at cell (If p c a b) =
        OwnFits at cell (If p c a b) × (cell + room_all rooms a < n) × AllFit (behind at (If p c a b)) cell a × AllFit (behind at (If p c a b) + sized_all sizes a) (cell + room_all rooms a) b
    Fits at cell (Loop p c x b) =
        OwnFits at cell (Loop p c x b) × (cell + room_all rooms x < n) × AllFit (behind at (Loop p c x b)) cell x × AllFit (behind at (Loop p c x b) + sized_all sizes x) (cell + room_all rooms x) b
    Fits at cell s = OwnFits at cell s

    pub AllFit : ℕ → ℕ → CellBlock → Type 0
    AllFit at cell Nil = Unit {0}
    AllFit at cell (Cons s b) = Fits at cell s × IfBelow n base temp (at + sized sizes s) (first_thing b) × (at + sized sizes s < n) × (cell + room rooms s < n) × AllFit (at + sized sizes s) (cell + room rooms s) b
