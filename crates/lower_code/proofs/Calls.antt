-- What is known of the calls of functions in which calls nest less than so deep.
use Rattle.std.proofs.Common.{◌≡◌, ℕ, zero, suc, ◌+◌, ◌-◌, ◌<◌, ◌^◌, min, List, [], ◌++◌, Bool, Option, Some, None, refl, sym, ap, ◌∙◌, subst, arith, append_assoc, append-nil}
use Rattle.std.specs.Prelude.{option_map, slice_get}
use Rattle.std.proofs.lemmas.Option.{slice_get-map}
use Rattle.step_ir.specs.Points.{PlainPoint}
use Rattle.lower_law.specs.Lowered.{Context, Plan, size, size_all, entry_all, points_all, plan_of, close_entry, closing}
use Rattle.lower_law.specs.Statements.{CellStatement, Set, Write, WriteAt, If, Loop, Assert, Input, Call, Return, Serve, Block, CellBlock, Nil, Cons, CellFunction, no_body, room, room_all, rooms_to}
use Rattle.lower_law.specs.Translated.{or_body, no_function}
use Rattle.lower_pieces.specs.declared.tree.FunctionTree.{FunctionTree}
use Rattle.lower_pieces.specs.Acting.{or_none, params_of}
use Rattle.lower_pieces.specs.Expanded.{expanded, AreCalls}
use Rattle.lower_pieces.specs.Firsts.{or_else, first_in, first_thing, entry_of}
use Rattle.lower_pieces.specs.Pieces.{PlainPiece, called_entry}
use Rattle.lower_pieces.specs.Sized.{or_zero, sized, sized_all}
use Rattle.lower_pieces.specs.Trees.{function_of}
use Rattle.lower_pieces.proofs.Expansion.{IsNone, entry_first, points_of_all}
use Rattle.lower_code.specs.Plans.{PiecesFit, function_at, unit_with, tree_unit, plans_to, points_at, pieces_in, BodyFits, IfTree, CallFitsTo, FitsAt}
use Rattle.lower_code.proofs.Planned.{pieces_fit}
use Rattle.lower_code.specs.Tables.{body_of, tree_size, tree_room, sizes_at, rooms_at}

module _ (number : ℕ → ℕ) (temp : ℕ) (fun : ℕ → CellFunction) (rooms : ℕ → ℕ) (calls : ℕ → Plan) where
  -- a block without a thing has no point
  mutual
    size_none : (s : CellStatement) → IsNone (first_in s) → size number temp fun rooms calls s ≡ 0
    size_none (Block b) e = size_none_all b e
    size_none (Set p at t v) e = absurd e
    size_none (Write p c t v) e = absurd e
    size_none (WriteAt p c len t i v) e = absurd e
    size_none (If p c a b) e = absurd e
    size_none (Loop p c a b) e = absurd e
    size_none (Assert p v) e = absurd e
    size_none (Input p at t) e = absurd e
    size_none (Call p f args into) e = absurd e
    size_none (Return p v) e = absurd e
    size_none (Serve p v) e = absurd e

    size_none_all : (b : CellBlock) → IsNone (first_thing b) → size_all number temp fun rooms calls b ≡ 0
    size_none_all Nil e = refl
    size_none_all (Cons s b) e = by (first_in s) (size_none s) (size_none_all b) e where
      by : (o : Option CellStatement) → (IsNone o → size number temp fun rooms calls s ≡ 0) → (IsNone (first_thing b) → size_all number temp fun rooms calls b ≡ 0) → IsNone (or_else o (first_thing b))
          → size number temp fun rooms calls s + size_all number temp fun rooms calls b ≡ 0
      by None p q e = let h = p tt in let k = q e in omega arith
      by (Some x) p q e = absurd e

  -- the end of a body stands at its first position where the body has no thing
  pub body_entry : (gives : Bool) (b : CellBlock) (ctx : Context) (at : ℕ)
      → entry_all number temp fun rooms calls ctx.base at b (close_entry number gives ctx (at + size_all number temp fun rooms calls b))
      ≡ entry_of number temp ctx.base at (first_thing b) (close_entry number gives ctx at)
  body_entry gives b ctx at =
      entry_first number temp fun rooms calls b ctx.base at (close_entry number gives ctx (at + size_all number temp fun rooms calls b))
      ∙ by (first_thing b) (size_none_all b)
    where
      by : (o : Option CellStatement) → (IsNone o → size_all number temp fun rooms calls b ≡ 0)
          → entry_of number temp ctx.base at o (close_entry number gives ctx (at + size_all number temp fun rooms calls b)) ≡ entry_of number temp ctx.base at o (close_entry number gives ctx at)
      by None p = let h = p tt in ap (λ k. close_entry number gives ctx k) (omega arith)
      by (Some x) p = refl

  -- the counts are the same as far as a number goes
  module _ (sizes : ℕ → ℕ) (same : (f : ℕ) → min (sizes f) (2 ^ 64 - 1) ≡ min (calls f).size (2 ^ 64 - 1)) where
    mutual
      pub sized_is : (s : CellStatement) → min (sized sizes s) (2 ^ 64 - 1) ≡ min (size number temp fun rooms calls s) (2 ^ 64 - 1)
      sized_is (Block b) = sized_all_is b
      sized_is (If p c a b) = let x = sized_all_is a in let y = sized_all_is b in omega arith
      sized_is (Loop p c a b) = let x = sized_all_is a in let y = sized_all_is b in omega arith
      sized_is (Call p f args into) = let x = same f in omega arith
      sized_is (Set p l t v) = refl
      sized_is (Write p c t v) = refl
      sized_is (WriteAt p c len t i v) = refl
      sized_is (Assert p v) = refl
      sized_is (Input p l t) = refl
      sized_is (Return p v) = refl
      sized_is (Serve p v) = refl

      pub sized_all_is : (b : CellBlock) → min (sized_all sizes b) (2 ^ 64 - 1) ≡ min (size_all number temp fun rooms calls b) (2 ^ 64 - 1)
      sized_all_is Nil = refl
      sized_all_is (Cons s b) = let x = sized_is s in let y = sized_all_is b in omega arith

module _ (cells rooms : ℕ → ℕ) (same : (f : ℕ) → min (cells f) (2 ^ 64 - 1) ≡ min (rooms f) (2 ^ 64 - 1)) where
  mutual
    pub room_is : (s : CellStatement) → min (room cells s) (2 ^ 64 - 1) ≡ min (room rooms s) (2 ^ 64 - 1)
    room_is (Block b) = room_all_is b
    room_is (If p c a b) = let x = room_all_is a in let y = room_all_is b in omega arith
    room_is (Loop p c a b) = let x = room_all_is a in let y = room_all_is b in omega arith
    room_is (Call p f args into) = same f
    room_is (Set p l t v) = refl
    room_is (Write p c t v) = refl
    room_is (WriteAt p c len t i v) = refl
    room_is (Assert p v) = refl
    room_is (Input p l t) = refl
    room_is (Return p v) = refl
    room_is (Serve p v) = refl

    pub room_all_is : (b : CellBlock) → min (room_all cells b) (2 ^ 64 - 1) ≡ min (room_all rooms b) (2 ^ 64 - 1)
    room_all_is Nil = refl
    room_all_is (Cons s b) = let x = room_is s in let y = room_all_is b in omega arith

module _ (functions : List FunctionTree) (entity : ℕ → CellFunction) where
  pub cells_in : (d f : ℕ) → min (rooms_at functions d f) (2 ^ 64 - 1) ≡ min (rooms_to (unit_with functions entity) d f) (2 ^ 64 - 1)
  cells_in zero f = refl
  cells_in (suc d) f =
      ap (λ o. min (or_zero o) (2 ^ 64 - 1)) (slice_get-map (tree_room (rooms_at functions d)) functions f) ∙ by (slice_get functions f) (cells_in d)
    where
      by : (o : Option FunctionTree) → ((g : ℕ) → min (rooms_at functions d g) (2 ^ 64 - 1) ≡ min (rooms_to (unit_with functions entity) d g) (2 ^ 64 - 1)) → min (or_zero (option_map (tree_room (rooms_at functions d)) o)) (2 ^ 64 - 1)
          ≡ min ((or_body no_function (option_map function_of o)).locals + room_all (rooms_to (unit_with functions entity) d) (or_body no_function (option_map function_of o)).body) (2 ^ 64 - 1)
      by None below = refl
      by (Some t) below = let x = room_all_is (rooms_at functions d) (rooms_to (unit_with functions entity) d) below (body_of t) in omega arith

module _ (number : ℕ → ℕ) (temp : ℕ) (functions : List FunctionTree) where
  pub size_is : (d f : ℕ) → min (sizes_at functions d f) (2 ^ 64 - 1) ≡ min (plans_to number temp functions d f).size (2 ^ 64 - 1)
  size_is zero f = refl
  size_is (suc d) f =
      ap (λ o. min (or_zero o) (2 ^ 64 - 1)) (slice_get-map (tree_size (sizes_at functions d)) functions f) ∙ by (slice_get functions f) (size_is d)
    where
      by : (o : Option FunctionTree) → ((g : ℕ) → min (sizes_at functions d g) (2 ^ 64 - 1) ≡ min (plans_to number temp functions d g).size (2 ^ 64 - 1)) → min (or_zero (option_map (tree_size (sizes_at functions d)) o)) (2 ^ 64 - 1)
          ≡ min (plan_of number temp (function_at functions) (rooms_to (tree_unit functions) d) (plans_to number temp functions d) (or_body no_function (option_map function_of o))).size (2 ^ 64 - 1)
      by None below = refl
      by (Some t) below =
          let x = sized_all_is number temp (function_at functions) (rooms_to (tree_unit functions) d) (plans_to number temp functions d) (sizes_at functions d) below (body_of t) in
          omega arith

  entry_is : (d f : ℕ) (ctx : Context) (at : ℕ) → (plans_to number temp functions d f).entry ctx at ≡ called_entry number temp (slice_get functions f) ctx at
  entry_is zero f ctx at = refl
  entry_is (suc d) f ctx at = by (slice_get functions f) where
    by : (o : Option FunctionTree) → (plan_of number temp (function_at functions) (rooms_to (tree_unit functions) d) (plans_to number temp functions d) (or_body no_function (option_map function_of o))).entry ctx at
        ≡ called_entry number temp o ctx at
    by None = refl
    by (Some t) = body_entry number temp (function_at functions) (rooms_to (tree_unit functions) d) (plans_to number temp functions d) t.gives (body_of t) ctx at

  pub params_are : (f : ℕ) → (function_at functions f).params ≡ params_of functions f
  params_are f = by (slice_get functions f) where
    by : (o : Option FunctionTree) → (or_body no_function (option_map function_of o)).params ≡ or_none o
    by None = refl
    by (Some t) = refl

  pub are_calls : (d : ℕ) → AreCalls number temp (function_at functions) (rooms_to (tree_unit functions) d) (plans_to number temp functions d) functions (sizes_at functions d) (rooms_at functions d)
  are_calls d = record { size = size_is d; room = cells_in functions (λ e. no_body) d; entry = entry_is d; params = params_are }

  -- the points of a body are its pieces with each call expanded, and its end
  pub points_are : (d : ℕ) (f : FunctionTree) (ctx : Context) (at : ℕ) → FitsAt functions temp d ctx.base at f
      → points_at number temp functions d f ctx at
      ≡ expanded (plans_to number temp functions d) (pieces_in number temp functions (sizes_at functions d) (rooms_at functions d) f ctx at) ++ closing f.gives f.close ctx
  points_are d f ctx at fits =
      let fun = function_at functions in
      let rooms = rooms_to (tree_unit functions) d in
      let calls = plans_to number temp functions d in
      let cell = ctx.base + f.locals in
      let x = sized_all_is number temp fun rooms calls (sizes_at functions d) (size_is d) (body_of f) in
      let h = fits.points in
      let e : size_all number temp fun rooms calls (body_of f) ≡ sized_all (sizes_at functions d) (body_of f) = omega arith in
      ap (λ k. points_all number temp fun rooms calls ctx at cell (body_of f) (close_entry number f.gives ctx (at + k)) ++ closing f.gives f.close ctx) e
      ∙ ap (λ ps. ps ++ closing f.gives f.close ctx)
      (sym (points_of_all number temp fun rooms calls functions (sizes_at functions d) (rooms_at functions d) (are_calls d) (body_of f) ctx at cell (close_entry number f.gives ctx (at + sized_all (sizes_at functions d) (body_of f))) fits.all))

  -- a call that nests too deep, or of no function, has no point
  pub no_call : (d f : ℕ) (ctx : Context) (at : ℕ) → d ≡ 0 → (plans_to number temp functions d f).points ctx at ≡ []
  no_call zero f ctx at e = refl
  no_call (suc d) f ctx at e = absurd (omega (arith, e))

  pub missing_call : (d f : ℕ) (ctx : Context) (at : ℕ) → slice_get functions f ≡ None → (plans_to number temp functions d f).points ctx at ≡ []
  missing_call zero f ctx at e = refl
  missing_call (suc d) f ctx at e =
      ap (λ o. (plan_of number temp (function_at functions) (rooms_to (tree_unit functions) d) (plans_to number temp functions d) (or_body no_function (option_map function_of o))).points ctx at) e

  -- a call has the points of the body
  pub one_call : (d f : ℕ) (t : FunctionTree) (ctx : Context) (at : ℕ) → 0 < d → slice_get functions f ≡ Some t
      → (plans_to number temp functions d f).points ctx at ≡ points_at number temp functions (d - 1) t ctx at
  one_call zero f t ctx at h e = absurd (omega arith)
  one_call (suc d) f t ctx at h e =
      let k : suc d - 1 ≡ d = omega arith in
      ap (λ o. (plan_of number temp (function_at functions) (rooms_to (tree_unit functions) d) (plans_to number temp functions d) (or_body no_function (option_map function_of o))).points ctx at) e
      ∙ ap (λ i. points_at number temp functions i t ctx at) (sym k)

  -- and its numbers fit as those of the body
  pub call_fits : (d f : ℕ) (t : FunctionTree) (base at : ℕ) → 0 < d → slice_get functions f ≡ Some t → CallFitsTo functions temp d f base at → FitsAt functions temp (d - 1) base at t
  call_fits zero f t base at h e fits = absurd (omega arith)
  call_fits (suc d) f t base at h e fits =
      let k : suc d - 1 ≡ d = omega arith in
      subst (λ (i : ℕ). FitsAt functions temp i base at t) (sym k)
      (subst (λ (o : Option FunctionTree). IfTree (BodyFits functions (sizes_at functions d) (rooms_at functions d) temp (CallFitsTo functions temp d) base at) o) e fits)

  -- the pieces of a body that fits
  pub body_calls : (d : ℕ) (f : FunctionTree) (ctx : Context) (at : ℕ) (ps : List PlainPiece) → FitsAt functions temp d ctx.base at f
      → ps ≡ pieces_in number temp functions (sizes_at functions d) (rooms_at functions d) f ctx at → PiecesFit (CallFitsTo functions temp d) ps
  body_calls d f ctx at ps fits e =
      subst (λ (qs : List PlainPiece). PiecesFit (CallFitsTo functions temp d) qs) (sym e)
      (pieces_fit (CallFitsTo functions temp d) number temp functions (sizes_at functions d) (rooms_at functions d) (body_of f) ctx at (ctx.base + f.locals)
      (close_entry number f.gives ctx (at + sized_all (sizes_at functions d) (body_of f))) fits.calls)

  -- its points are written
  pub body_done : (d : ℕ) (f : FunctionTree) (ctx : Context) (at : ℕ) (ps : List PlainPiece) (old mid new : List PlainPoint) → FitsAt functions temp d ctx.base at f
      → ps ≡ pieces_in number temp functions (sizes_at functions d) (rooms_at functions d) f ctx at
      → mid ≡ old ++ expanded (plans_to number temp functions d) ps → new ≡ mid ++ closing f.gives f.close ctx
      → new ≡ old ++ points_at number temp functions d f ctx at
  body_done d f ctx at ps old mid new fits e m n =
      n ∙ (ap (λ xs. xs ++ closing f.gives f.close ctx) (m ∙ ap (λ qs. old ++ expanded (plans_to number temp functions d) qs) e)
      ∙ (append_assoc old (expanded (plans_to number temp functions d) (pieces_in number temp functions (sizes_at functions d) (rooms_at functions d) f ctx at)) (closing f.gives f.close ctx)
      ∙ ap (λ xs. old ++ xs) (sym (points_are d f ctx at fits))))

  -- the points of a call that has none
  pub none_called : (d f : ℕ) (ctx : Context) (at : ℕ) (ps : List PlainPoint) → slice_get functions f ≡ None → ps ≡ ps ++ (plans_to number temp functions d f).points ctx at
  none_called d f ctx at ps e = sym (ap (λ xs. ps ++ xs) (missing_call d f ctx at e) ∙ append-nil ps)

  -- and of one of a body
  pub body_called : (d f : ℕ) (t : FunctionTree) (ctx : Context) (at : ℕ) (old new : List PlainPoint) → 0 < d → slice_get functions f ≡ Some t
      → new ≡ old ++ points_at number temp functions (d - 1) t ctx at → new ≡ old ++ (plans_to number temp functions d f).points ctx at
  body_called d f t ctx at old new h e n = n ∙ ap (λ xs. old ++ xs) (sym (one_call d f t ctx at h e))
