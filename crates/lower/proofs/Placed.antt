-- The points of an entity are those of its tree.
use Rattle.std.proofs.Common.{◌≡◌, ℕ, suc, ◌+◌, ◌<◌, ◌≤◌, ◌^◌, List, length, Some, sym, ap, ◌∙◌, subst, arith}
use Rattle.std.specs.Prelude.{map, slice_get}
use Rattle.std.proofs.lemmas.Option.{slice_get-map}
use Rattle.chk_base.specs.declared.word.Width.TheVariants.{W32}
use Rattle.step_ir.specs.declared.code.EntityCode.{EntityCode}
use Rattle.step_ir.specs.Points.{PlainPoint, plain_of}
use Rattle.step_ir.specs.PointStep.{first, or_zero}
use Rattle.typed_unit.specs.Plain.{PlainEntity, PlainUnit}
use Rattle.lower_law.specs.Counts.{call_depth, things_in, function_points, entity_points}
use Rattle.lower_law.specs.Exact.{FitsEntity, exchanged}
use Rattle.lower_law.specs.Layout.{cell_width, layout, lowered_points}
use Rattle.lower_law.specs.Lowered.{closing_size, entry_of_entity, outer, plan_to, points_of_entity, size_all}
use Rattle.lower_law.specs.Statements.{CellFunction, room_all, rooms_to}
use Rattle.lower_law.specs.Translated.{entity, entity_body, function, no_function, or_body, unit_over_cells}
use Rattle.lower_law.proofs.Sizes.{length_plan, sized_to}
use Rattle.lower_law.proofs.Totals.{size_in, plan_points, points_same}
use Rattle.lower_law.proofs.Wholes.{body_stands}
use Rattle.fit_law.specs.Codes.{IsExchanged, first_point}
use Rattle.lower_pieces.specs.declared.tree.FunctionTree.{FunctionTree}
use Rattle.lower_pieces.specs.Trees.{function_of}
use Rattle.lower_code.specs.declared.tables.Table.{Table}
use Rattle.lower_code.specs.Bodies.{entry_at, BeginsAt}
use Rattle.lower_code.specs.Plans.{FitsAt, function_at, points_at}
use Rattle.unit_counts.specs.declared.cells.EntityCells.{EntityCells}
use Rattle.unit_counts.specs.Cells.{cells_of_entity}
use Rattle.unit_counts.proofs.CellParts.{cells_few}
use Rattle.lower.specs.EntityCodes.{IsEntityCode}
use Rattle.lower.specs.Ready.{AreTrees, IsPlaced, IsReady, tree_first, tree_points}
use Rattle.lower.specs.Zeros.{at_zero}
use Rattle.lower.proofs.Begins.{begins_low}
use Rattle.lower.proofs.Limits.{entity_counted}
use Rattle.lower.proofs.Zeros.{first_zero}

-- ---- the functions of a unit are those of the trees
module _ (u : PlainUnit) (functions : List FunctionTree) (tables : List Table) (trees : AreTrees u functions tables) where
  -- each is
  function_same : (f : ℕ) → (unit_over_cells u).fun f ≡ function_at functions f
  function_same f =
      ap (λ o. or_body no_function o) (sym (slice_get-map (function u.globals) u.functions f))
      ∙ (ap (λ (xs : List CellFunction). or_body no_function (slice_get xs f)) (sym trees.trees)
      ∙ ap (λ o. or_body no_function o) (slice_get-map function_of functions f))

  -- all are
  pub functions_same : (unit_over_cells u).fun ≡ function_at functions
  functions_same = λ i f. function_same f i

-- ---- the body of an entity at its place
module _ (u : PlainUnit) (n e : ℕ) (ready : IsReady u n) (lt : e < n) (b : PlainEntity) (there : entity_body e u.entities ≡ Some b) where
  -- as many points as are counted, whatever their numbers are
  points_long : (number : ℕ → ℕ) → length (points_of_entity number ((layout u).temp e) (unit_over_cells u) call_depth ((layout u).first e) ((unit_over_cells u).entity e)) ≡ entity_points u b
  points_long number =
      let s = body_stands u e b there in
      let c = unit_over_cells u in
      let temp = (layout u).temp e in
      let rooms = rooms_to c call_depth in
      let plans = plan_to number temp c call_depth in
      let l = length_plan number temp c.fun rooms plans (sized_to number temp c call_depth) (c.entity e) (outer ((layout u).first e)) 0 in
      let z = ap (λ (f : CellFunction). size_all number temp c.fun rooms plans f.body + closing_size f.gives) s.body in
      let x = size_in u.globals number temp c.fun rooms plans b.locals b.body in
      let y = points_same (λ f. (plans f).size) (function_points u call_depth) (things_in b.body) (plan_points u number temp call_depth) in
      l ∙ z ∙ omega arith

  -- the same as those of its statements, and one for its end
  statements_long : (number : ℕ → ℕ) → size_all number ((layout u).temp e) (unit_over_cells u).fun (rooms_to (unit_over_cells u) call_depth) (plan_to number ((layout u).temp e) (unit_over_cells u) call_depth) ((unit_over_cells u).entity e).body + 1 ≡ entity_points u b
  statements_long number =
      let s = body_stands u e b there in
      let c = unit_over_cells u in
      let temp = (layout u).temp e in
      let rooms = rooms_to c call_depth in
      let plans = plan_to number temp c call_depth in
      let l = length_plan number temp c.fun rooms plans (sized_to number temp c call_depth) (c.entity e) (outer ((layout u).first e)) 0 in
      let v = ap (λ (f : CellFunction). size_all number temp c.fun rooms plans (c.entity e).body + closing_size f.gives) s.body in
      sym v ∙ (sym l ∙ points_long number)

  -- they are few
  points_few : entity_points u b ≤ 2048
  points_few = let h = entity_counted u (entity_points u) n e b lt there in let k = ready.points in omega (arith, h, k)

  -- its cells end below the bound
  pub top_small : (layout u).top e < 2 ^ 16
  top_small = let h = cells_few u (suc e) n 8192 ready.cells (omega (arith, lt)) in omega (arith, h)

  -- so do its points
  pub points_small : length (points_of_entity (λ i. i) ((layout u).temp e) (unit_over_cells u) call_depth ((layout u).first e) ((unit_over_cells u).entity e)) < 2 ^ 16
  points_small = let l = points_long (λ i. i) in let k = points_few in omega (arith, l, k)

  -- the cells for values read stand behind the others
  pub room_here : (layout u).first e + (((unit_over_cells u).entity e).locals + room_all (rooms_to (unit_over_cells u) call_depth) ((unit_over_cells u).entity e).body) ≤ (layout u).temp e
  room_here = omega arith

  module _ (functions : List FunctionTree) (tables : List Table) (trees : AreTrees u functions tables) (t : FunctionTree) (is : function_of t ≡ entity u.globals b) where
    -- the body of the entity is that of its tree
    pub entity_same : (unit_over_cells u).entity e ≡ function_of t
    entity_same = (body_stands u e b there).body ∙ sym is

    module _
        (points : (number : ℕ → ℕ) → points_of_entity number ((layout u).temp e) (unit_over_cells u) call_depth ((layout u).first e) ((unit_over_cells u).entity e) ≡ points_at number ((layout u).temp e) functions 16 t (outer ((layout u).first e)) 0)
        (entry : (number : ℕ → ℕ) → entry_of_entity number ((layout u).temp e) (unit_over_cells u) call_depth ((layout u).first e) ((unit_over_cells u).entity e) ≡ entry_at number ((layout u).temp e) t (outer ((layout u).first e)) 0)
        (fe : FitsEntity (unit_over_cells u) call_depth (layout u) (cell_width u n) e) where
      -- the first point that runs
      first_same : first_point u n e ≡ tree_first ((layout u).temp e) ((layout u).first e) t
      first_same =
          ap or_zero (first_zero (cell_width u n) (entry_of_entity (λ i. i) ((layout u).temp e) (unit_over_cells u) call_depth ((layout u).first e) ((unit_over_cells u).entity e)))
          ∙ ap (λ xs. or_zero (first at_zero xs)) (entry (λ i. i))

      -- there are as many points
      tree_long : length (tree_points ((layout u).temp e) functions ((layout u).first e) t) ≡ entity_points u b
      tree_long =
          ap length (sym (points (exchanged (tree_first ((layout u).temp e) ((layout u).first e) t))))
          ∙ points_long (exchanged (tree_first ((layout u).temp e) ((layout u).first e) t))

      -- it is one of them
      first_below : tree_first ((layout u).temp e) ((layout u).first e) t < entity_points u b
      first_below =
          let low = begins_low (λ i. W32) (λ i. 0) ((layout u).temp e) (unit_over_cells u) call_depth ((layout u).first e) ((unit_over_cells u).entity e) fe.void in
          let long = statements_long (λ i. i) in
          let there = ap (λ xs. or_zero (first at_zero xs)) (entry (λ i. i)) in
          subst (λ (k : ℕ). k < entity_points u b) there (subst (λ (k : ℕ). or_zero (first at_zero (entry_of_entity (λ i. i) ((layout u).temp e) (unit_over_cells u) call_depth ((layout u).first e) ((unit_over_cells u).entity e))) < k) long low)

      -- so the tree is placed
      pub is_placed : FitsAt functions ((layout u).temp e) 16 ((layout u).first e) 0 t → BeginsAt ((layout u).temp e) ((layout u).first e) 0 t → IsPlaced ((layout u).temp e) functions ((layout u).first e) t
      is_placed fits begins =
          let l = tree_long in
          let k = points_few in
          record {
            fits = fits;
            begins = begins;
            within = subst (λ (m : ℕ). tree_first ((layout u).temp e) ((layout u).first e) t < m) (sym l) first_below;
            few = omega (arith, l, k);
          }

      -- and its points are those of the entity
      pub points_are : (qs : List PlainPoint) → IsExchanged (tree_first ((layout u).temp e) ((layout u).first e) t) (tree_points ((layout u).temp e) functions ((layout u).first e) t) qs → IsExchanged (first_point u n e) (lowered_points u n e) qs
      points_are qs x =
          let there : lowered_points u n e ≡ points_at (exchanged (first_point u n e)) ((layout u).temp e) functions 16 t (outer ((layout u).first e)) 0 = points (exchanged (first_point u n e)) in
          subst (λ (ps : List PlainPoint). IsExchanged (first_point u n e) ps qs) (sym there)
          (subst (λ (z : ℕ). IsExchanged z (points_at (exchanged z) ((layout u).temp e) functions 16 t (outer ((layout u).first e)) 0) qs) (sym first_same) x)

-- the cells of an entity, part by part
pub placed_at : (u : PlainUnit) (e : ℕ) (functions : List FunctionTree) (t : FunctionTree) (cells : EntityCells) → cells ≡ cells_of_entity u e → IsPlaced ((layout u).temp e) functions ((layout u).first e) t → IsPlaced cells.temp functions cells.first t
placed_at u e functions t cells is p = subst (λ (c : EntityCells). IsPlaced c.temp functions c.first t) (sym is) p

-- the code of the entity
pub entity_code : (u : PlainUnit) (n e : ℕ) (functions : List FunctionTree) (t : FunctionTree) (cells : EntityCells) (c : EntityCode) → cells ≡ cells_of_entity u e → c.names ≡ cells.names
    → ((qs : List PlainPoint) → IsExchanged (tree_first ((layout u).temp e) ((layout u).first e) t) (tree_points ((layout u).temp e) functions ((layout u).first e) t) qs → IsExchanged (first_point u n e) (lowered_points u n e) qs)
    → IsExchanged (tree_first cells.temp cells.first t) (tree_points cells.temp functions cells.first t) (map plain_of c.points) → IsEntityCode u n e c
entity_code u n e functions t cells c is names points x =
    record {
      names = names ∙ ap (λ (y : EntityCells). y.names) is;
      points = points (map plain_of c.points) (subst (λ (y : EntityCells). IsExchanged (tree_first y.temp y.first t) (tree_points y.temp functions y.first t) (map plain_of c.points)) is x);
    }
