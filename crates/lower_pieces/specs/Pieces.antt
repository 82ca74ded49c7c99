-- The points of a body, with the calls in it still to be expanded.
use Rattle.std.specs.Prelude.{ℕ, ◌+◌, List, [], ◌∷◌, ◌++◌, map, Option, Some, None, slice_get}
use Rattle.chk_base.specs.Term.{Term}
use Rattle.step_ir.specs.Points.{PlainPoint, plain_of}
use Rattle.lower_law.specs.Items.{sites_all, terms_all, items_all}
use Rattle.lower_law.specs.Lowered.{Nexts, Context, first_term, all_guarded, callee, entry, thing, close_entry}
use Rattle.lower_law.specs.Statements.{CellStatement, If, Loop, Call, Return, Block, CellBlock, Nil, Cons, questions, place_of, block, room_all, room}
use Rattle.lower_pieces.specs.declared.pieces.Piece.{Piece}
use Rattle.lower_pieces.specs.declared.pieces.Piece.TheVariants as of
use Rattle.lower_pieces.specs.declared.tree.FunctionTree.{FunctionTree}
use Rattle.lower_pieces.specs.Acting.{acting, context_of}
use Rattle.lower_pieces.specs.Firsts.{first_thing, entry_of}
use Rattle.lower_pieces.specs.Sized.{sized, sized_all}
use Rattle.lower_pieces.specs.Trees.{statement_of}

-- a point, or a call of a function that is expanded at a position
pub data PlainPiece : Type 0 where
  Stands : (point : PlainPoint) → PlainPiece
  Expands : (function : ℕ) (ctx : Context) (at : ℕ) → PlainPiece

-- a piece as plain data
abbrev pub piece_of : Piece → PlainPiece
piece_of (of.Stands p) = Stands (plain_of p)
piece_of (of.Expands f frame at) = Expands f (context_of frame) at

-- where a body begins that is called at a position
abbrev pub called_entry : (ℕ → ℕ) → ℕ → Option FunctionTree → Context → ℕ → Nexts
called_entry number temp None ctx at = ctx.after
called_entry number temp (Some f) ctx at =
    entry_of number temp ctx.base at (first_thing (block (map statement_of f.body.items))) (close_entry number f.gives ctx at)

-- the position behind the own points of a thing
abbrev pub behind : ℕ → CellStatement → ℕ
behind at s = at + (sites_all (questions s) + 1)

-- where a block begins, and where a thing does
module _ (number : ℕ → ℕ) (temp : ℕ) where
  abbrev pub block_at : ℕ → ℕ → CellBlock → Nexts → Nexts
  block_at base at b after = entry_of number temp base at (first_thing b) after

  abbrev pub thing_at : ℕ → ℕ → CellStatement → Nexts
  thing_at base at s = entry number at (items_all base temp (questions s))

-- a call of each function has so many points, and so many cells
module _ (number : ℕ → ℕ) (temp : ℕ) (functions : List FunctionTree) (sizes rooms : ℕ → ℕ) where
  -- where the completing point goes on
  abbrev pub going : Context → ℕ → ℕ → CellStatement → List Term → Nexts → Nexts
  going ctx at cell (If p c a b) ts after =
      all_guarded (first_term ts) (block_at number temp ctx.base (behind at (If p c a b)) a after) (block_at number temp ctx.base (behind at (If p c a b) + sized_all sizes a) b after)
  going ctx at cell (Loop p c x b) ts after =
      all_guarded (first_term ts) (block_at number temp ctx.base (behind at (Loop p c x b) + sized_all sizes x) b (block_at number temp ctx.base (behind at (Loop p c x b)) x (thing_at number temp ctx.base at (Loop p c x b)))) after
  going ctx at cell (Call p f args into) ts after = called_entry number temp (slice_get functions f) (callee ctx cell into after) (behind at (Call p f args into))
  going ctx at cell (Return p e) ts after = ctx.after
  going ctx at cell s ts after = after

  -- the own points of a thing
  abbrev pub owned : Context → ℕ → ℕ → CellStatement → Nexts → List PlainPoint
  owned ctx at cell s after =
      let ts = terms_all ctx.base temp (questions s) in
      thing number (place_of s) (acting functions ctx cell s ts) (going ctx at cell s ts after) [] at (items_all ctx.base temp (questions s))

  abbrev pub own_pieces : Context → ℕ → ℕ → CellStatement → Nexts → List PlainPiece
  own_pieces ctx at cell s after = map Stands (owned ctx at cell s after)

  abbrev mutual
    -- the pieces of a statement at a position, whose calls' cells begin at `cell`
    pub pieces : Context → ℕ → ℕ → CellStatement → Nexts → List PlainPiece
    pieces ctx at cell (Block b) after = pieces_all ctx at cell b after
    pieces ctx at cell (If p c a b) after =
        own_pieces ctx at cell (If p c a b) after
        ++ (pieces_all ctx (behind at (If p c a b)) cell a after ++ pieces_all ctx (behind at (If p c a b) + sized_all sizes a) (cell + room_all rooms a) b after)
    pieces ctx at cell (Loop p c x b) after =
        own_pieces ctx at cell (Loop p c x b) after
        ++ (pieces_all ctx (behind at (Loop p c x b)) cell x (thing_at number temp ctx.base at (Loop p c x b))
        ++ pieces_all ctx (behind at (Loop p c x b) + sized_all sizes x) (cell + room_all rooms x) b (block_at number temp ctx.base (behind at (Loop p c x b)) x (thing_at number temp ctx.base at (Loop p c x b))))
    pieces ctx at cell (Call p f args into) after =
        own_pieces ctx at cell (Call p f args into) after ++ Expands f (callee ctx cell into after) (behind at (Call p f args into)) ∷ []
    pieces ctx at cell s after = own_pieces ctx at cell s after

    pub pieces_all : Context → ℕ → ℕ → CellBlock → Nexts → List PlainPiece
    pieces_all ctx at cell Nil after = []
    pieces_all ctx at cell (Cons s b) after =
        pieces ctx at cell s (block_at number temp ctx.base (at + sized sizes s) b after) ++ pieces_all ctx (at + sized sizes s) (cell + room rooms s) b after
