-- The pieces of a body, from those of its statements.
use Rattle.std.proofs.Common.{◌≡◌, ℕ, ◌+◌, ◌-◌, ◌<◌, ◌^◌, min, List, [], ◌++◌, ap, ◌∙◌, arith}
use Rattle.std.specs.Prelude.{map}
use Rattle.lower_law.specs.Lowered.{Nexts, Context, close_entry}
use Rattle.lower_law.specs.Statements.{block}
use Rattle.lower_pieces.specs.declared.pieces.Piece.{Piece}
use Rattle.lower_pieces.specs.declared.tree.FunctionTree.{FunctionTree}
use Rattle.lower_pieces.specs.declared.tree.StatementTree.{StatementTree}
use Rattle.lower_pieces.specs.Pieces.{PlainPiece, piece_of, pieces_all}
use Rattle.lower_pieces.specs.Sized.{number_at, sized_all}
use Rattle.lower_pieces.specs.Trees.{statement_of}
use Rattle.lower_code.specs.Plans.{pieces_in}
use Rattle.lower_code.specs.Tables.{body_of}

-- how many points the statements of a body have, where all are below the bound
pub size_found : (at : ℕ) (ns sizes : List ℕ) (body : List StatementTree) (f : FunctionTree) (k : ℕ) → ns ≡ sizes → body ≡ f.body.items
    → k ≡ min (sized_all (number_at ns) (block (map statement_of body))) (2 ^ 64 - 1) → at + sized_all (number_at sizes) (body_of f) < 2 ^ 16
    → k ≡ sized_all (number_at sizes) (body_of f)
size_found at ns sizes body f k e i h r =
    let a = ap (λ xs. sized_all (number_at xs) (block (map statement_of body))) e in
    let b = ap (λ xs. sized_all (number_at sizes) (block (map statement_of xs))) i in
    let q : k ≡ min (sized_all (number_at sizes) (body_of f)) (2 ^ 64 - 1) = h ∙ ap (λ n. min n (2 ^ 64 - 1)) (a ∙ b) in
    omega (arith, q, r)

module _ (number : ℕ → ℕ) (temp : ℕ) (functions : List FunctionTree) (f : FunctionTree) (ctx : Context) (at : ℕ) where
  -- the pieces of statements that stand as a body does
  abbrev standing : List ℕ → List ℕ → List StatementTree → Nexts → List PlainPiece
  standing sizes rooms body after = pieces_all number temp functions (number_at sizes) (number_at rooms) ctx at (ctx.base + f.locals) (block (map statement_of body)) after

  pub pieces_done : (ns sizes ms rooms : List ℕ) (body : List StatementTree) (after : Nexts) (start : List Piece) (out : List PlainPiece) (k : ℕ) → ns ≡ sizes → ms ≡ rooms → body ≡ f.body.items → start ≡ []
      → k ≡ sized_all (number_at sizes) (body_of f) → after ≡ close_entry number f.gives ctx (at + k) → out ≡ map piece_of start ++ standing ns ms body after
      → out ≡ pieces_in number temp functions (number_at sizes) (number_at rooms) f ctx at
  pieces_done ns sizes ms rooms body after start out k e m i s z a o =
      o
      ∙ (ap (λ ps. map piece_of ps ++ standing ns ms body after) s
      ∙ (ap (λ xs. standing xs ms body after) e
      ∙ (ap (λ xs. standing sizes xs body after) m
      ∙ (ap (λ xs. standing sizes rooms xs after) i
      ∙ (ap (λ n. standing sizes rooms f.body.items n) a
      ∙ ap (λ n. standing sizes rooms f.body.items (close_entry number f.gives ctx (at + n))) z)))))
