-- The numbers of locals and cells in an expression that fits.
use Rattle.std.specs.Prelude.{ℕ, ◌+◌, ◌-◌, ◌<◌, List, [], ◌∷◌, Option, Some, None}
use Rattle.lower_law.specs.Items.{sites_all}
use Rattle.lower_law.specs.Statements.{CellStatement, questions}
use Rattle.lower_law.specs.Typed.{CellExpr, Number, Local, Global, Element, Binary, Unary, Conjunction, Disjunction, Conditional, Converted}

-- each local has a number below this one
abbrev pub LocalsBelow : ℕ → CellExpr → Type 0
LocalsBelow n (Number k) = Unit {0}
LocalsBelow n (Local at t) = at < n
LocalsBelow n (Global cell t) = Unit {0}
LocalsBelow n (Element cell len t i) = LocalsBelow n i
LocalsBelow n (Binary op s a b) = LocalsBelow n a × LocalsBelow n b
LocalsBelow n (Unary op s a) = LocalsBelow n a
LocalsBelow n (Conjunction a b) = LocalsBelow n a × LocalsBelow n b
LocalsBelow n (Disjunction a b) = LocalsBelow n a × LocalsBelow n b
LocalsBelow n (Conditional c a b) = LocalsBelow n c × LocalsBelow n a × LocalsBelow n b
LocalsBelow n (Converted t a) = LocalsBelow n a

-- so it is for the expressions of one thing
abbrev pub AllBelow : ℕ → List (Option ℕ × CellExpr) → Type 0
AllBelow n [] = Unit {0}
AllBelow n (q ∷ qs) = LocalsBelow n q.1 × AllBelow n qs

-- the cells and points of a thing, where there is one, have numbers below this one
abbrev pub IfBelow : ℕ → ℕ → ℕ → ℕ → Option CellStatement → Type 0
IfBelow n base temp at None = Unit {0}
IfBelow n base temp at (Some s) =
    AllBelow (n - base) (questions s) × (temp + sites_all (questions s) < n) × (at + sites_all (questions s) < n)
