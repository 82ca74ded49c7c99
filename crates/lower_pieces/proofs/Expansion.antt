-- The pieces of statements are their points, once each call is expanded.
use Rattle.std.proofs.Common.{◌≡◌, ℕ, ◌+◌, ◌-◌, ◌<◌, ◌^◌, min, List, [], ◌∷◌, ◌++◌, Option, Some, None, refl, sym, ap, ◌∙◌, subst, arith, append_assoc, append-nil}
use Rattle.std.specs.Prelude.{map}
use Rattle.chk_base.specs.Term.{Term}
use Rattle.step_ir.specs.Points.{PlainPoint, PlainAction}
use Rattle.lower_law.specs.Items.{terms_all, items_all}
use Rattle.lower_law.specs.Lowered.{Nexts, Context, Plan, first_term, all_guarded, callee, thing, own_points, size, size_all, entry_one, entry_all, action_of, nexts_of, points_one, points_all, sets}
use Rattle.lower_law.specs.Statements.{CellStatement, Set, Write, WriteAt, If, Loop, Assert, Input, Call, Return, Serve, Block, CellBlock, Nil, Cons, CellFunction, questions, place_of, room, room_all}
use Rattle.step_ir.specs.Points as act
use Rattle.lower_pieces.specs.declared.tree.FunctionTree.{FunctionTree}
use Rattle.lower_pieces.specs.Acting.{acting}
use Rattle.lower_pieces.specs.Expanded.{expanded, AreCalls}
use Rattle.lower_pieces.specs.Fitting.{OwnFits, BlocksBelow, Fits, AllFit}
use Rattle.lower_pieces.specs.Firsts.{or_else, first_in, first_thing, entry_of}
use Rattle.lower_pieces.specs.Pieces.{PlainPiece, Stands, Expands, behind, block_at, thing_at, going, owned, own_pieces, pieces, pieces_all}
use Rattle.lower_pieces.specs.Sized.{sized, sized_all}

expanded_append : (calls : ℕ → Plan) (xs ys : List PlainPiece) → expanded calls (xs ++ ys) ≡ expanded calls xs ++ expanded calls ys
expanded_append calls [] ys = refl
expanded_append calls (Stands p ∷ xs) ys = ap (λ l. p ∷ l) (expanded_append calls xs ys)
expanded_append calls (Expands f ctx at ∷ xs) ys =
    ap (λ l. (calls f).points ctx at ++ l) (expanded_append calls xs ys) ∙ sym (append_assoc ((calls f).points ctx at) (expanded calls xs) (expanded calls ys))

expanded_stands : (calls : ℕ → Plan) (ps : List PlainPoint) → expanded calls (map Stands ps) ≡ ps
expanded_stands calls [] = refl
expanded_stands calls (p ∷ ps) = ap (λ l. p ∷ l) (expanded_stands calls ps)

-- points of a thing, and then other pieces
expanded_own : (calls : ℕ → Plan) (ps : List PlainPoint) (xs : List PlainPiece) → expanded calls (map Stands ps ++ xs) ≡ ps ++ expanded calls xs
expanded_own calls ps xs = expanded_append calls (map Stands ps) xs ∙ ap (λ l. l ++ expanded calls xs) (expanded_stands calls ps)

abbrev pub IsNone : Option CellStatement → Type 0
IsNone None = Unit {0}
IsNone (Some s) = ⊥

is_none : (o : Option CellStatement) → o ≡ None → IsNone o
is_none o e = subst IsNone (sym e) tt

module _ (number : ℕ → ℕ) (temp : ℕ) (fun : ℕ → CellFunction) (rooms : ℕ → ℕ) (calls : ℕ → Plan) where
  -- a block without a thing has no point
  mutual
    size_none : (s : CellStatement) → IsNone (first_in s) → size number temp fun rooms calls s ≡ 0
    size_none (Block b) e = size_none_all b e
    size_none (Set p at t v) e = absurd e
    size_none (Write p c t v) e = absurd e
    size_none (WriteAt p c len t i v) e = absurd e
    size_none (If p c a b) e = absurd e
    size_none (Loop p c a b) e = absurd e
    size_none (Assert p v) e = absurd e
    size_none (Input p at t) e = absurd e
    size_none (Call p f args into) e = absurd e
    size_none (Return p v) e = absurd e
    size_none (Serve p v) e = absurd e

    size_none_all : (b : CellBlock) → IsNone (first_thing b) → size_all number temp fun rooms calls b ≡ 0
    size_none_all Nil e = refl
    size_none_all (Cons s b) e = by (first_in s) (size_none s) (size_none_all b) e where
      by : (o : Option CellStatement) → (IsNone o → size number temp fun rooms calls s ≡ 0) → (IsNone (first_thing b) → size_all number temp fun rooms calls b ≡ 0) → IsNone (or_else o (first_thing b))
          → size number temp fun rooms calls s + size_all number temp fun rooms calls b ≡ 0
      by None p q e = let h = p tt in let k = q e in omega arith
      by (Some x) p q e = absurd e

  -- a block begins at its first thing
  mutual
    entry_first_in : (s : CellStatement) (base at : ℕ) (after : Nexts) → entry_one number temp fun rooms calls base at s after ≡ entry_of number temp base at (first_in s) after
    entry_first_in (Block b) base at after = entry_first b base at after
    entry_first_in (Set p l t v) base at after = refl
    entry_first_in (Write p c t v) base at after = refl
    entry_first_in (WriteAt p c len t i v) base at after = refl
    entry_first_in (If p c a b) base at after = refl
    entry_first_in (Loop p c a b) base at after = refl
    entry_first_in (Assert p v) base at after = refl
    entry_first_in (Input p l t) base at after = refl
    entry_first_in (Call p f args into) base at after = refl
    entry_first_in (Return p v) base at after = refl
    entry_first_in (Serve p v) base at after = refl

    pub entry_first : (b : CellBlock) (base at : ℕ) (after : Nexts) → entry_all number temp fun rooms calls base at b after ≡ entry_of number temp base at (first_thing b) after
    entry_first Nil base at after = refl
    entry_first (Cons s b) base at after =
        entry_first_in s base at (entry_all number temp fun rooms calls base (at + size number temp fun rooms calls s) b after)
        ∙ by (first_in s) (size_none s) (entry_first b base at after)
      where
        by : (o : Option CellStatement) → (IsNone o → size number temp fun rooms calls s ≡ 0) → entry_all number temp fun rooms calls base at b after ≡ entry_of number temp base at (first_thing b) after
            → entry_of number temp base at o (entry_all number temp fun rooms calls base (at + size number temp fun rooms calls s) b after) ≡ entry_of number temp base at (or_else o (first_thing b)) after
        by None p ih = let h = p tt in ap (λ k. entry_all number temp fun rooms calls base k b after) (omega arith) ∙ ih
        by (Some x) p ih = refl

  module _ (functions : List FunctionTree) (sizes cells : ℕ → ℕ) (are : AreCalls number temp fun rooms calls functions sizes cells) where
    -- the counts are the same as far as a number goes
    mutual
      sized_is : (s : CellStatement) → min (sized sizes s) (2 ^ 64 - 1) ≡ min (size number temp fun rooms calls s) (2 ^ 64 - 1)
      sized_is (Block b) = sized_all_is b
      sized_is (If p c a b) = let x = sized_all_is a in let y = sized_all_is b in omega arith
      sized_is (Loop p c a b) = let x = sized_all_is a in let y = sized_all_is b in omega arith
      sized_is (Call p f args into) = let x = are.size f in omega arith
      sized_is (Set p l t v) = refl
      sized_is (Write p c t v) = refl
      sized_is (WriteAt p c len t i v) = refl
      sized_is (Assert p v) = refl
      sized_is (Input p l t) = refl
      sized_is (Return p v) = refl
      sized_is (Serve p v) = refl

      sized_all_is : (b : CellBlock) → min (sized_all sizes b) (2 ^ 64 - 1) ≡ min (size_all number temp fun rooms calls b) (2 ^ 64 - 1)
      sized_all_is Nil = refl
      sized_all_is (Cons s b) = let x = sized_is s in let y = sized_all_is b in omega arith

    mutual
      room_is : (s : CellStatement) → min (room cells s) (2 ^ 64 - 1) ≡ min (room rooms s) (2 ^ 64 - 1)
      room_is (Block b) = room_all_is b
      room_is (If p c a b) = let x = room_all_is a in let y = room_all_is b in omega arith
      room_is (Loop p c a b) = let x = room_all_is a in let y = room_all_is b in omega arith
      room_is (Call p f args into) = are.room f
      room_is (Set p l t v) = refl
      room_is (Write p c t v) = refl
      room_is (WriteAt p c len t i v) = refl
      room_is (Assert p v) = refl
      room_is (Input p l t) = refl
      room_is (Return p v) = refl
      room_is (Serve p v) = refl

      room_all_is : (b : CellBlock) → min (room_all cells b) (2 ^ 64 - 1) ≡ min (room_all rooms b) (2 ^ 64 - 1)
      room_all_is Nil = refl
      room_all_is (Cons s b) = let x = room_is s in let y = room_all_is b in omega arith

    -- they are the same below the bound
    same_size : (s : CellStatement) (at : ℕ) → at + sized sizes s < 2 ^ 16 → sized sizes s ≡ size number temp fun rooms calls s
    same_size s at h = let x = sized_is s in omega arith

    same_size_all : (b : CellBlock) (at : ℕ) → at + sized_all sizes b < 2 ^ 16 → sized_all sizes b ≡ size_all number temp fun rooms calls b
    same_size_all b at h = let x = sized_all_is b in omega arith

    same_room : (s : CellStatement) (at : ℕ) → at + room cells s < 2 ^ 16 → room cells s ≡ room rooms s
    same_room s at h = let x = room_is s in omega arith

    same_room_all : (b : CellBlock) (at : ℕ) → at + room_all cells b < 2 ^ 16 → room_all cells b ≡ room_all rooms b
    same_room_all b at h = let x = room_all_is b in omega arith

    acting_is : (ctx : Context) (cell : ℕ) (s : CellStatement) (ts : List Term) → action_of number temp fun rooms calls ctx cell s ts ≡ acting functions ctx cell s ts
    acting_is ctx cell (Call p f args into) ts = ap (λ ps. act.Call f (sets cell ps ts)) (are.params f)
    acting_is ctx cell (Block b) ts = refl
    acting_is ctx cell (If p c a b) ts = refl
    acting_is ctx cell (Loop p c a b) ts = refl
    acting_is ctx cell (Set p l t v) ts = refl
    acting_is ctx cell (Write p c t v) ts = refl
    acting_is ctx cell (WriteAt p c len t i v) ts = refl
    acting_is ctx cell (Assert p v) ts = refl
    acting_is ctx cell (Input p l t) ts = refl
    acting_is ctx cell (Return p v) ts = refl
    acting_is ctx cell (Serve p v) ts = refl

    going_is : (ctx : Context) (at cell : ℕ) (s : CellStatement) (ts : List Term) (after : Nexts) → BlocksBelow (2 ^ 16) sizes temp ctx.base at s
        → nexts_of number temp fun rooms calls ctx at cell s ts after ≡ going number temp functions sizes cells ctx at cell s ts after
    going_is ctx at cell (If p c a b) ts after fits =
        let n = behind at (If p c a b) in
        let t = first_term ts in
        ap (λ k. all_guarded t (entry_all number temp fun rooms calls ctx.base n a after) (entry_all number temp fun rooms calls ctx.base (n + k) b after)) (sym (same_size_all a n fits.0))
        ∙ (ap (λ xs. all_guarded t xs (entry_all number temp fun rooms calls ctx.base (n + sized_all sizes a) b after)) (entry_first a ctx.base n after)
        ∙ ap (λ xs. all_guarded t (block_at number temp ctx.base n a after) xs) (entry_first b ctx.base (n + sized_all sizes a) after))
    going_is ctx at cell (Loop p c x b) ts after fits =
        let n = behind at (Loop p c x b) in
        let t = first_term ts in
        let again = thing_at number temp ctx.base at (Loop p c x b) in
        ap (λ k. all_guarded t (entry_all number temp fun rooms calls ctx.base (n + k) b (entry_all number temp fun rooms calls ctx.base n x again)) after) (sym (same_size_all x n fits.0))
        ∙ (ap (λ xs. all_guarded t (entry_all number temp fun rooms calls ctx.base (n + sized_all sizes x) b xs) after) (entry_first x ctx.base n again)
        ∙ ap (λ xs. all_guarded t xs after) (entry_first b ctx.base (n + sized_all sizes x) (block_at number temp ctx.base n x again)))
    going_is ctx at cell (Call p f args into) ts after fits = are.entry f (callee ctx cell into after) (behind at (Call p f args into))
    going_is ctx at cell (Block b) ts after fits = refl
    going_is ctx at cell (Set p l t v) ts after fits = refl
    going_is ctx at cell (Write p c t v) ts after fits = refl
    going_is ctx at cell (WriteAt p c len t i v) ts after fits = refl
    going_is ctx at cell (Assert p v) ts after fits = refl
    going_is ctx at cell (Input p l t) ts after fits = refl
    going_is ctx at cell (Return p v) ts after fits = refl
    going_is ctx at cell (Serve p v) ts after fits = refl

    owned_is : (ctx : Context) (at cell : ℕ) (s : CellStatement) (after : Nexts) → OwnFits (2 ^ 16) functions sizes cells temp ctx.base at cell s
        → own_points number temp fun rooms calls ctx at cell s after ≡ owned number temp functions sizes cells ctx at cell s after
    owned_is ctx at cell s after fits =
        let ts = terms_all ctx.base temp (questions s) in
        let is = items_all ctx.base temp (questions s) in
        ap (λ a. thing number (place_of s) a (nexts_of number temp fun rooms calls ctx at cell s ts after) [] at is) (acting_is ctx cell s ts)
        ∙ ap (λ n. thing number (place_of s) (acting functions ctx cell s ts) n [] at is) (going_is ctx at cell s ts after fits.blocks)

    own_is : (ctx : Context) (at cell : ℕ) (s : CellStatement) (after : Nexts) → OwnFits (2 ^ 16) functions sizes cells temp ctx.base at cell s
        → expanded calls (own_pieces number temp functions sizes cells ctx at cell s after) ≡ own_points number temp fun rooms calls ctx at cell s after
    own_is ctx at cell s after fits = expanded_stands calls (owned number temp functions sizes cells ctx at cell s after) ∙ sym (owned_is ctx at cell s after fits)

    own_then : (ctx : Context) (at cell : ℕ) (s : CellStatement) (after : Nexts) (xs : List PlainPiece) → OwnFits (2 ^ 16) functions sizes cells temp ctx.base at cell s
        → expanded calls (own_pieces number temp functions sizes cells ctx at cell s after ++ xs) ≡ own_points number temp fun rooms calls ctx at cell s after ++ expanded calls xs
    own_then ctx at cell s after xs fits =
        expanded_own calls (owned number temp functions sizes cells ctx at cell s after) xs ∙ ap (λ ps. ps ++ expanded calls xs) (sym (owned_is ctx at cell s after fits))

    mutual
      pub points_of_pieces : (s : CellStatement) (ctx : Context) (at cell : ℕ) (after : Nexts) → Fits (2 ^ 16) functions sizes cells temp ctx.base at cell s
          → expanded calls (pieces number temp functions sizes cells ctx at cell s after) ≡ points_one number temp fun rooms calls ctx at cell s after
      points_of_pieces (Block b) ctx at cell after fits = points_of_all b ctx at cell after fits
      points_of_pieces (If p c a b) ctx at cell after fits =
          let n = behind at (If p c a b) in
          let xs = pieces_all number temp functions sizes cells ctx n cell a after in
          let ys = pieces_all number temp functions sizes cells ctx (n + sized_all sizes a) (cell + room_all cells a) b after in
          own_then ctx at cell (If p c a b) after (xs ++ ys) fits.0
          ∙ ap (λ ps. own_points number temp fun rooms calls ctx at cell (If p c a b) after ++ ps)
          (expanded_append calls xs ys
          ∙ (ap (λ ps. ps ++ expanded calls ys) (points_of_all a ctx n cell after fits.2)
          ∙ ap (λ ps. points_all number temp fun rooms calls ctx n cell a after ++ ps)
          (points_of_all b ctx (n + sized_all sizes a) (cell + room_all cells a) after fits.3
          ∙ (ap (λ k. points_all number temp fun rooms calls ctx (n + k) (cell + room_all cells a) b after) (same_size_all a n fits.0.blocks.0)
          ∙ ap (λ k. points_all number temp fun rooms calls ctx (n + size_all number temp fun rooms calls a) (cell + k) b after) (same_room_all a cell fits.1)))))
      points_of_pieces (Loop p c x b) ctx at cell after fits =
          let s = Loop p c x b in
          let n = behind at (Loop p c x b) in
          let again = thing_at number temp ctx.base at (Loop p c x b) in
          let step = block_at number temp ctx.base n x again in
          let xs = pieces_all number temp functions sizes cells ctx n cell x again in
          let ys = pieces_all number temp functions sizes cells ctx (n + sized_all sizes x) (cell + room_all cells x) b step in
          own_then ctx at cell (Loop p c x b) after (xs ++ ys) fits.0
          ∙ ap (λ ps. own_points number temp fun rooms calls ctx at cell (Loop p c x b) after ++ ps)
          (expanded_append calls xs ys
          ∙ (ap (λ ps. ps ++ expanded calls ys) (points_of_all x ctx n cell again fits.2)
          ∙ ap (λ ps. points_all number temp fun rooms calls ctx n cell x again ++ ps)
          (points_of_all b ctx (n + sized_all sizes x) (cell + room_all cells x) step fits.3
          ∙ (ap (λ k. points_all number temp fun rooms calls ctx (n + k) (cell + room_all cells x) b step) (same_size_all x n fits.0.blocks.0)
          ∙ (ap (λ k. points_all number temp fun rooms calls ctx (n + size_all number temp fun rooms calls x) (cell + k) b step) (same_room_all x cell fits.1)
          ∙ ap (λ e. points_all number temp fun rooms calls ctx (n + size_all number temp fun rooms calls x) (cell + room_all rooms x) b e) (sym (entry_first x ctx.base n again)))))))
      points_of_pieces (Call p f args into) ctx at cell after fits =
          let n = behind at (Call p f args into) in
          own_then ctx at cell (Call p f args into) after (Expands f (callee ctx cell into after) n ∷ []) fits
          ∙ ap (λ ps. own_points number temp fun rooms calls ctx at cell (Call p f args into) after ++ ps) (append-nil ((calls f).points (callee ctx cell into after) n))
      points_of_pieces (Set p l t v) ctx at cell after fits = own_is ctx at cell (Set p l t v) after fits
      points_of_pieces (Write p c t v) ctx at cell after fits = own_is ctx at cell (Write p c t v) after fits
      points_of_pieces (WriteAt p c len t i v) ctx at cell after fits = own_is ctx at cell (WriteAt p c len t i v) after fits
      points_of_pieces (Assert p v) ctx at cell after fits = own_is ctx at cell (Assert p v) after fits
      points_of_pieces (Input p l t) ctx at cell after fits = own_is ctx at cell (Input p l t) after fits
      points_of_pieces (Return p v) ctx at cell after fits = own_is ctx at cell (Return p v) after fits
      points_of_pieces (Serve p v) ctx at cell after fits = own_is ctx at cell (Serve p v) after fits

      pub points_of_all : (b : CellBlock) (ctx : Context) (at cell : ℕ) (after : Nexts) → AllFit (2 ^ 16) functions sizes cells temp ctx.base at cell b
          → expanded calls (pieces_all number temp functions sizes cells ctx at cell b after) ≡ points_all number temp fun rooms calls ctx at cell b after
      points_of_all Nil ctx at cell after fits = refl
      points_of_all (Cons s b) ctx at cell after fits =
          let n = at + sized sizes s in
          let there = block_at number temp ctx.base n b after in
          let xs = pieces number temp functions sizes cells ctx at cell s there in
          let ys = pieces_all number temp functions sizes cells ctx n (cell + room cells s) b after in
          let es = same_size s at fits.2 in
          let er = same_room s cell fits.3 in
          expanded_append calls xs ys
          ∙ (ap (λ ps. ps ++ expanded calls ys)
          (points_of_pieces s ctx at cell there fits.0
          ∙ (ap (λ e. points_one number temp fun rooms calls ctx at cell s e) (sym (entry_first b ctx.base n after))
          ∙ ap (λ k. points_one number temp fun rooms calls ctx at cell s (entry_all number temp fun rooms calls ctx.base (at + k) b after)) es))
          ∙ ap (λ ps. points_one number temp fun rooms calls ctx at cell s (entry_all number temp fun rooms calls ctx.base (at + size number temp fun rooms calls s) b after) ++ ps)
          (points_of_all b ctx n (cell + room cells s) after fits.4
          ∙ (ap (λ k. points_all number temp fun rooms calls ctx (at + k) (cell + room cells s) b after) es
          ∙ ap (λ k. points_all number temp fun rooms calls ctx (at + size number temp fun rooms calls s) (cell + k) b after) er)))
