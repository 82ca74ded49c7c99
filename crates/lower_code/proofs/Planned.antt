-- The calls of a body fit, piece by piece.
use Rattle.std.proofs.Common.{◌≡◌, ℕ, ◌+◌, List, [], ◌∷◌, ◌++◌, refl, sym, ap}
use Rattle.std.specs.Prelude.{map}
use Rattle.std.proofs.lemmas.List.{map-append, append-nil}
use Rattle.step_ir.specs.declared.code.Point.{Point}
use Rattle.step_ir.specs.Points.{PlainPoint, plain_of}
use Rattle.lower_law.specs.Lowered.{Nexts, Context, Plan, callee}
use Rattle.lower_law.specs.Statements.{CellStatement, Set, Write, WriteAt, If, Loop, Assert, Input, Call, Return, Serve, Block, CellBlock, Nil, Cons, room, room_all}
use Rattle.lower_pieces.specs.declared.tree.FunctionTree.{FunctionTree}
use Rattle.lower_pieces.specs.Expanded.{expanded}
use Rattle.lower_pieces.specs.Pieces.{PlainPiece, Stands, Expands, behind, block_at, thing_at, owned, pieces, pieces_all}
use Rattle.lower_pieces.specs.Sized.{sized, sized_all}
use Rattle.lower_code.specs.Plans.{PiecesFit, CallsFit, AllCallsFit}

module _ (P : ℕ → ℕ → ℕ → Type 0) where
  both_fit : (xs ys : List PlainPiece) → PiecesFit P xs → PiecesFit P ys → PiecesFit P (xs ++ ys)
  both_fit [] ys h k = k
  both_fit (Stands p ∷ xs) ys h k = both_fit xs ys h k
  both_fit (Expands f ctx at ∷ xs) ys h k = (h.0, both_fit xs ys h.1 k)

  own_fit : (ps : List PlainPoint) → PiecesFit P (map Stands ps)
  own_fit [] = tt
  own_fit (p ∷ ps) = own_fit ps

  own_before : (ps : List PlainPoint) (ys : List PlainPiece) → PiecesFit P ys → PiecesFit P (map Stands ps ++ ys)
  own_before ps ys k = both_fit (map Stands ps) ys (own_fit ps) k

  module _ (number : ℕ → ℕ) (temp : ℕ) (functions : List FunctionTree) (sizes rooms : ℕ → ℕ) where
    mutual
      one_fits : (s : CellStatement) (ctx : Context) (at cell : ℕ) (after : Nexts) → CallsFit P sizes rooms at cell s
          → PiecesFit P (pieces number temp functions sizes rooms ctx at cell s after)
      one_fits (Block b) ctx at cell after h = pieces_fit b ctx at cell after h
      one_fits (If p c a b) ctx at cell after h =
          let n = behind at (If p c a b) in
          own_before (owned number temp functions sizes rooms ctx at cell (If p c a b) after)
          (pieces_all number temp functions sizes rooms ctx n cell a after ++ pieces_all number temp functions sizes rooms ctx (n + sized_all sizes a) (cell + room_all rooms a) b after)
          (both_fit (pieces_all number temp functions sizes rooms ctx n cell a after) (pieces_all number temp functions sizes rooms ctx (n + sized_all sizes a) (cell + room_all rooms a) b after)
          (pieces_fit a ctx n cell after h.0)
          (pieces_fit b ctx (n + sized_all sizes a) (cell + room_all rooms a) after h.1))
      one_fits (Loop p c x b) ctx at cell after h =
          let n = behind at (Loop p c x b) in
          let again = thing_at number temp ctx.base at (Loop p c x b) in
          let step = block_at number temp ctx.base n x again in
          own_before (owned number temp functions sizes rooms ctx at cell (Loop p c x b) after)
          (pieces_all number temp functions sizes rooms ctx n cell x again ++ pieces_all number temp functions sizes rooms ctx (n + sized_all sizes x) (cell + room_all rooms x) b step)
          (both_fit (pieces_all number temp functions sizes rooms ctx n cell x again) (pieces_all number temp functions sizes rooms ctx (n + sized_all sizes x) (cell + room_all rooms x) b step)
          (pieces_fit x ctx n cell again h.0)
          (pieces_fit b ctx (n + sized_all sizes x) (cell + room_all rooms x) step h.1))
      one_fits (Call p f args into) ctx at cell after h =
          own_before (owned number temp functions sizes rooms ctx at cell (Call p f args into) after)
          (Expands f (callee ctx cell into after) (behind at (Call p f args into)) ∷ []) (h, tt)
      one_fits (Set p l t v) ctx at cell after h = own_fit (owned number temp functions sizes rooms ctx at cell (Set p l t v) after)
      one_fits (Write p c t v) ctx at cell after h = own_fit (owned number temp functions sizes rooms ctx at cell (Write p c t v) after)
      one_fits (WriteAt p c len t i v) ctx at cell after h = own_fit (owned number temp functions sizes rooms ctx at cell (WriteAt p c len t i v) after)
      one_fits (Assert p v) ctx at cell after h = own_fit (owned number temp functions sizes rooms ctx at cell (Assert p v) after)
      one_fits (Input p l t) ctx at cell after h = own_fit (owned number temp functions sizes rooms ctx at cell (Input p l t) after)
      one_fits (Return p v) ctx at cell after h = own_fit (owned number temp functions sizes rooms ctx at cell (Return p v) after)
      one_fits (Serve p v) ctx at cell after h = own_fit (owned number temp functions sizes rooms ctx at cell (Serve p v) after)

      pub pieces_fit : (b : CellBlock) (ctx : Context) (at cell : ℕ) (after : Nexts) → AllCallsFit P sizes rooms at cell b
          → PiecesFit P (pieces_all number temp functions sizes rooms ctx at cell b after)
      pieces_fit Nil ctx at cell after h = tt
      pieces_fit (Cons s b) ctx at cell after h =
          let n = at + sized sizes s in
          let there = block_at number temp ctx.base n b after in
          both_fit (pieces number temp functions sizes rooms ctx at cell s there) (pieces_all number temp functions sizes rooms ctx n (cell + room rooms s) b after)
          (one_fits s ctx at cell there h.0)
          (pieces_fit b ctx n (cell + room rooms s) after h.1)

-- one more piece
pub piece_more : (calls : ℕ → Plan) (p : PlainPiece) (ps : List PlainPiece) → expanded calls (p ∷ ps) ≡ expanded calls (p ∷ []) ++ expanded calls ps
piece_more calls (Stands p) ps = refl
piece_more calls (Expands f ctx at) ps = ap (λ xs. xs ++ expanded calls ps) (sym (append-nil ((calls f).points ctx at)))

pub points_push : (ps : List Point) (p : Point) → map plain_of (ps ++ p ∷ []) ≡ map plain_of ps ++ plain_of p ∷ []
points_push ps p = map-append plain_of ps (p ∷ [])

pub points_end : (xs : List PlainPoint) → xs ++ [] ≡ xs
points_end xs = append-nil xs
