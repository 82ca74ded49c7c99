-- Where the bodies of trees begin.
use Rattle.std.specs.Prelude.{ℕ, ◌^◌, Some}
use Rattle.lower_law.specs.Lowered.{Context, Nexts}
use Rattle.lower_pieces.specs.declared.tree.FunctionTree.{FunctionTree}
use Rattle.lower_pieces.specs.Fitting.{IfCallFits}
use Rattle.lower_pieces.specs.Pieces.{called_entry}

-- where a body at a position begins: at its first thing, or at its end
abbrev pub entry_at : (ℕ → ℕ) → ℕ → FunctionTree → Context → ℕ → Nexts
entry_at number temp f ctx at = called_entry number temp (Some f) ctx at

-- the numbers of its first thing are below the bound
abbrev pub BeginsAt : ℕ → ℕ → ℕ → FunctionTree → Type 0
BeginsAt temp base at f = IfCallFits (2 ^ 16) temp base at (Some f)
