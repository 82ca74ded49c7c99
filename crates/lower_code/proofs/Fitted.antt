-- Bodies that fit their cells fit the numbers of points and cells, however deep calls nest.
use Rattle.std.proofs.Common.{◌≡◌, ℕ, zero, suc, ◌+◌, ◌<◌, ◌≤◌, ◌^◌, nat_lt, List, length, Option, Some, None, ap, subst, arith}
use Rattle.std.proofs.lemmas.Bool.Decides.{nat_tests}
use Rattle.std.proofs.lemmas.Option.{slice_get-map}
use Rattle.std.specs.Prelude.{slice_get, option_map}
use Rattle.chk_base.specs.declared.word.Width.{Width}
use Rattle.lower_law.specs.FitsBody.{FitsFun, FitsTo}
use Rattle.lower_law.specs.Statements.{CellFunction, room_all, rooms_to}
use Rattle.lower_law.specs.Translated.{or_body, no_function}
use Rattle.lower_law.specs.Typed.{CType, CellExpr}
use Rattle.lower_pieces.specs.declared.tree.FunctionTree.{FunctionTree}
use Rattle.lower_pieces.specs.Acting.{params_of}
use Rattle.lower_pieces.specs.Fitting.{IfCallFits}
use Rattle.lower_pieces.specs.Sized.{or_zero, sized_all}
use Rattle.lower_pieces.specs.Trees.{function_of}
use Rattle.lower_code.specs.Plans.{unit_with, BodyFits, IfTree, CallFitsTo, FitsAt}
use Rattle.lower_code.specs.Tables.{body_of, tree_size, tree_room, sizes_at, rooms_at}
use Rattle.lower_code.proofs.Bounds.{KnownBelow, first_below, all_fit}
use Rattle.lower_code.proofs.Calls.{cells_in, params_are}

pub params_known : (n m : ℕ) → n ≤ m → KnownBelow m (λ i. nat_lt i n)
params_known n m le i t = grind (arith, nat_tests)

module _ (functions : List FunctionTree) (d f : ℕ) where
  -- the points and cells of a function in which calls nest one deeper
  sizes_next : sizes_at functions (suc d) f ≡ or_zero (option_map (tree_size (sizes_at functions d)) (slice_get functions f))
  sizes_next = ap or_zero (slice_get-map (tree_size (sizes_at functions d)) functions f)

  rooms_next : rooms_at functions (suc d) f ≡ or_zero (option_map (tree_room (rooms_at functions d)) (slice_get functions f))
  rooms_next = ap or_zero (slice_get-map (tree_room (rooms_at functions d)) functions f)

module _ (functions : List FunctionTree) (entity : ℕ → CellFunction) (width : ℕ → Width) (globals temp top : ℕ) (small : top < 2 ^ 16) (order : temp ≤ top) where
  abbrev Called : ℕ → ℕ → ℕ → List CellExpr → Option (ℕ × CType) → Type 0
  Called d f cell args into = FitsTo width globals temp top (unit_with functions entity) d f cell args into

  abbrev Placed : ℕ → CellFunction → ℕ → Type 0
  Placed d f base = FitsFun width globals temp top (rooms_to (unit_with functions entity) d) (FitsTo width globals temp top (unit_with functions entity) d) f base

  params_fit : (d f cell : ℕ) (args : List CellExpr) (into : Option (ℕ × CType)) → Called d f cell args into → cell + length (params_of functions f) < 2 ^ 16
  params_fit zero f cell args into h = absurd h
  params_fit (suc d) f cell args into h =
      let few = h.0.few in
      let high = h.0.high in
      let e = ap length (params_are (λ i. i) temp functions f) in
      omega (arith, few, high, e, small, order)

  first_fits : (d f cell at : ℕ) (args : List CellExpr) (into : Option (ℕ × CType)) → Called d f cell args into → at + sizes_at functions d f < 2 ^ 16 → IfCallFits (2 ^ 16) temp cell at (slice_get functions f)
  first_fits zero f cell at args into h r = absurd h
  first_fits (suc d) f cell at args into h r =
      by (slice_get functions f) h.0 (subst (λ (n : ℕ). at + n < 2 ^ 16) (sizes_next functions d f) r)
    where
      by : (o : Option FunctionTree) → Placed d (or_body no_function (option_map function_of o)) cell → at + or_zero (option_map (tree_size (sizes_at functions d)) o) < 2 ^ 16 → IfCallFits (2 ^ 16) temp cell at o
      by None p q = tt
      by (Some t) p q =
          first_below width globals temp top (rooms_to (unit_with functions entity) d) (FitsTo width globals temp top (unit_with functions entity) d) cell t.locals t.gives small order p.high (sizes_at functions d)
          (body_of t) (λ i. nat_lt i (length t.params.items)) (cell + t.locals) at (params_known (length t.params.items) t.locals p.few) p.body (omega (arith, q))

  abbrev CallsFitAt : ℕ → Type 0
  CallsFitAt d = (f cell at : ℕ) (args : List CellExpr) (into : Option (ℕ × CType)) → Called d f cell args into → cell + rooms_at functions d f ≤ temp → at + sizes_at functions d f < 2 ^ 16 → CallFitsTo functions temp d f cell at

  body_from : (d : ℕ) → CallsFitAt d → (t : FunctionTree) (base at : ℕ) → Placed d (function_of t) base
      → at + sized_all (sizes_at functions d) (body_of t) < 2 ^ 16 → base + t.locals + room_all (rooms_at functions d) (body_of t) ≤ temp
      → FitsAt functions temp d base at t
  body_from d calls t base at p r m =
      let high = p.high in
      let x = all_fit width globals temp top (rooms_to (unit_with functions entity) d) (FitsTo width globals temp top (unit_with functions entity) d) base t.locals t.gives small order p.high (sizes_at functions d)
      functions (rooms_at functions d) (cells_in functions entity d) (CallFitsTo functions temp d) (params_fit d) (first_fits d) calls
      (body_of t) (λ i. nat_lt i (length t.params.items)) (base + t.locals) at (params_known (length t.params.items) t.locals p.few) p.body r m in
      record { cells = omega (arith, high, small, order); points = r; all = x.0; calls = x.1 }

  calls_fit : (d : ℕ) → CallsFitAt d
  calls_fit zero f cell at args into h m r = tt
  calls_fit (suc d) f cell at args into h m r =
      by (slice_get functions f) (calls_fit d) h.0 (subst (λ (n : ℕ). cell + n ≤ temp) (rooms_next functions d f) m) (subst (λ (n : ℕ). at + n < 2 ^ 16) (sizes_next functions d f) r)
    where
      by : (o : Option FunctionTree) → CallsFitAt d → Placed d (or_body no_function (option_map function_of o)) cell → cell + or_zero (option_map (tree_room (rooms_at functions d)) o) ≤ temp → at + or_zero (option_map (tree_size (sizes_at functions d)) o) < 2 ^ 16
          → IfTree (BodyFits functions (sizes_at functions d) (rooms_at functions d) temp (CallFitsTo functions temp d) cell at) o
      by None below p m r = tt
      by (Some t) below p m r = body_from d below t cell at p (omega (arith, r)) (omega (arith, m, small, order))

  -- a body fits where its points and cells do
  pub body_fits : (d : ℕ) (t : FunctionTree) (base at : ℕ) → Placed d (function_of t) base
      → at + sized_all (sizes_at functions d) (body_of t) < 2 ^ 16 → base + t.locals + room_all (rooms_at functions d) (body_of t) ≤ temp
      → FitsAt functions temp d base at t
  body_fits d = body_from d (calls_fit d)
