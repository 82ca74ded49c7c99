-- Pieces with each call expanded.
use Rattle.std.specs.Prelude.{◌≡◌, ℕ, ◌-◌, ◌^◌, min, List, [], ◌∷◌, ◌++◌, slice_get}
use Rattle.step_ir.specs.Points.{PlainPoint}
use Rattle.lower_law.specs.Lowered.{Context, Plan}
use Rattle.lower_law.specs.Statements.{CellFunction}
use Rattle.lower_pieces.specs.declared.tree.FunctionTree.{FunctionTree}
use Rattle.lower_pieces.specs.Acting.{params_of}
use Rattle.lower_pieces.specs.Pieces.{PlainPiece, Stands, Expands, called_entry}

-- the points of pieces, each call being expanded at its place
abbrev pub expanded : (ℕ → Plan) → List PlainPiece → List PlainPoint
expanded calls [] = []
expanded calls (Stands p ∷ ps) = p ∷ expanded calls ps
expanded calls (Expands f ctx at ∷ ps) = (calls f).points ctx at ++ expanded calls ps

-- what is known of the calls of functions: how many points and cells they have as far as a number goes, where they begin, and their parameters
pub record AreCalls (number : ℕ → ℕ) (temp : ℕ) (fun : ℕ → CellFunction) (rooms : ℕ → ℕ) (calls : ℕ → Plan) (functions : List FunctionTree) (sizes cells : ℕ → ℕ) : Type 0 where
  pub size : (f : ℕ) → min (sizes f) (2 ^ 64 - 1) ≡ min (calls f).size (2 ^ 64 - 1)
  pub room : (f : ℕ) → min (cells f) (2 ^ 64 - 1) ≡ min (rooms f) (2 ^ 64 - 1)
  pub entry : (f : ℕ) (ctx : Context) (at : ℕ) → (calls f).entry ctx at ≡ called_entry number temp (slice_get functions f) ctx at
  pub params : (f : ℕ) → (fun f).params ≡ params_of functions f
