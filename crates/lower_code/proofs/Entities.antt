-- An entity of a typed unit has the points of its tree, and begins where that does; the numbers of the tree fit.
use Rattle.std.proofs.Common.{◌≡◌, ℕ, ◌+◌, ◌==◌, ◌<◌, ◌≤◌, ◌^◌, Bool, true, false, if◌then◌else◌, length, List, refl, ap, ◌∙◌, subst, arith}
use Rattle.std.proofs.lemmas.Bool.Decides.{nat_tests}
use Rattle.chk_base.specs.declared.word.Width.{Width}
use Rattle.lower_law.specs.Exact.{Layout, FitsEntity, exchanged}
use Rattle.lower_law.specs.FitsBody.{FitsFun, FitsTo}
use Rattle.lower_law.specs.Lowered.{Plan, outer, size_all, plan_of, plan_to, closing_size, points_of_entity, entry_of_entity}
use Rattle.lower_law.specs.Statements.{CellFunction, CellUnit, room_all, rooms_to}
use Rattle.lower_law.proofs.Sizes.{length_plan, sized_to}
use Rattle.lower_pieces.specs.declared.tree.FunctionTree.{FunctionTree}
use Rattle.lower_pieces.specs.Sized.{sized_all}
use Rattle.lower_pieces.specs.Trees.{function_of}
use Rattle.lower_code.specs.Bodies.{entry_at, BeginsAt}
use Rattle.lower_code.specs.Plans.{function_at, unit_with, tree_unit, plans_to, points_at, FitsAt}
use Rattle.lower_code.specs.Tables.{body_of, sizes_at, rooms_at}
use Rattle.lower_code.proofs.Begun.{all_begin}
use Rattle.lower_code.proofs.Calls.{sized_all_is, size_is, room_all_is, cells_in, body_entry}
use Rattle.lower_code.proofs.Fitted.{body_fits}
use Rattle.lower_code.proofs.Nested.{plans_same}

abbrev with_functions : CellUnit → (ℕ → CellFunction) → CellUnit
with_functions unit fun = record { fun = fun; entity = unit.entity }

-- the plan of a body of a unit
abbrev plan_in : (ℕ → ℕ) → ℕ → CellUnit → ℕ → CellFunction → Plan
plan_in number temp unit d f = plan_of number temp unit.fun (rooms_to unit d) (plan_to number temp unit d) f

-- the plan of a tree
abbrev plan_at : (ℕ → ℕ) → ℕ → List FunctionTree → ℕ → FunctionTree → Plan
plan_at number temp functions d t =
    plan_of number temp (function_at functions) (rooms_to (tree_unit functions) d) (plans_to number temp functions d) (function_of t)

-- a plan whose length is below the bound has so many points by the tables
few_points : (number : ℕ → ℕ) (temp : ℕ) (functions : List FunctionTree) (d : ℕ) (t : FunctionTree) → (plan_at number temp functions d t).size < 2 ^ 16 → 0 + sized_all (sizes_at functions d) (body_of t) < 2 ^ 16
few_points number temp functions d t h =
    let x = sized_all_is number temp (function_at functions) (rooms_to (tree_unit functions) d) (plans_to number temp functions d) (sizes_at functions d) (size_is number temp functions d) (body_of t) in
    let k : size_all number temp (function_at functions) (rooms_to (tree_unit functions) d) (plans_to number temp functions d) (body_of t) + closing_size t.gives < 2 ^ 16 = h in
    omega (arith, x, k)

-- and so it is for its cells
few_cells : (functions : List FunctionTree) (entity : ℕ → CellFunction) (d first temp top : ℕ) (t : FunctionTree) → temp ≤ top → top < 2 ^ 16
    → first + (t.locals + room_all (rooms_to (unit_with functions entity) d) (body_of t)) ≤ temp → first + t.locals + room_all (rooms_at functions d) (body_of t) ≤ temp
few_cells functions entity d first temp top t order small h =
    let x = room_all_is (rooms_at functions d) (rooms_to (unit_with functions entity) d) (cells_in functions entity d) (body_of t) in
    omega (arith, x, h, order, small)

module _ (unit : CellUnit) (functions : List FunctionTree) (d : ℕ) (lay : Layout) (width : ℕ → Width) (e : ℕ) (t : FunctionTree)
    (same : unit.fun ≡ function_at functions) (body : unit.entity e ≡ function_of t) (fits : FitsEntity unit d lay width e) where
  unit_same : unit ≡ unit_with functions unit.entity
  unit_same = ap (λ (fun : ℕ → CellFunction). with_functions unit fun) same

  -- the body stands at its cells
  placed : FitsFun width lay.globals (lay.temp e) (lay.top e) (rooms_to (unit_with functions unit.entity) d) (FitsTo width lay.globals (lay.temp e) (lay.top e) (unit_with functions unit.entity) d) (function_of t) (lay.first e)
  placed =
      subst (λ (f : CellFunction). FitsFun width lay.globals (lay.temp e) (lay.top e) (rooms_to (unit_with functions unit.entity) d) (FitsTo width lay.globals (lay.temp e) (lay.top e) (unit_with functions unit.entity) d) f (lay.first e)) body
      (subst (λ (v : CellUnit). FitsFun width lay.globals (lay.temp e) (lay.top e) (rooms_to v d) (FitsTo width lay.globals (lay.temp e) (lay.top e) v d) (unit.entity e) (lay.first e)) unit_same fits.fits)

  -- the plan of the entity is that of the tree
  plan_is : (number : ℕ → ℕ) → plan_in number (lay.temp e) unit d (unit.entity e) ≡ plan_at number (lay.temp e) functions d t
  plan_is number =
      ap (λ (v : CellUnit). plan_in number (lay.temp e) v d (unit.entity e)) unit_same
      ∙ (ap (λ (f : CellFunction). plan_in number (lay.temp e) (unit_with functions unit.entity) d f) body
      ∙ plans_same functions unit.entity width lay.globals (lay.temp e) (lay.top e) number d (function_of t) (lay.first e) placed)

  -- the cells of the entity are those of the tree
  cells_are : lay.first e + ((unit.entity e).locals + room_all (rooms_to unit d) (unit.entity e).body) ≤ lay.temp e
      → lay.first e + (t.locals + room_all (rooms_to (unit_with functions unit.entity) d) (body_of t)) ≤ lay.temp e
  cells_are h =
      subst (λ (f : CellFunction). lay.first e + (f.locals + room_all (rooms_to (unit_with functions unit.entity) d) f.body) ≤ lay.temp e) body
      (subst (λ (v : CellUnit). lay.first e + ((unit.entity e).locals + room_all (rooms_to v d) (unit.entity e).body) ≤ lay.temp e) unit_same h)

  -- and so is the number of its points
  size_below : (number : ℕ → ℕ) → length (points_of_entity number (lay.temp e) unit d (lay.first e) (unit.entity e)) < 2 ^ 16 → (plan_at number (lay.temp e) functions d t).size < 2 ^ 16
  size_below number h =
      let x = length_plan number (lay.temp e) unit.fun (rooms_to unit d) (plan_to number (lay.temp e) unit d) (sized_to number (lay.temp e) unit d) (unit.entity e) (outer (lay.first e)) 0 in
      subst (λ (n : ℕ). n < 2 ^ 16) (x ∙ ap (λ (p : Plan). p.size) (plan_is number)) h

-- the points of the entity
pub entity_points_are : (unit : CellUnit) (functions : List FunctionTree) (d : ℕ) (lay : Layout) (width : ℕ → Width) (e : ℕ) (t : FunctionTree) (number : ℕ → ℕ)
    → unit.fun ≡ function_at functions → unit.entity e ≡ function_of t → FitsEntity unit d lay width e
    → points_of_entity number (lay.temp e) unit d (lay.first e) (unit.entity e) ≡ points_at number (lay.temp e) functions d t (outer (lay.first e)) 0
entity_points_are unit functions d lay width e t number same body fits =
    ap (λ (p : Plan). p.points (outer (lay.first e)) 0) (plan_is unit functions d lay width e t same body fits number)

-- where it begins
pub entity_entry_is : (unit : CellUnit) (functions : List FunctionTree) (d : ℕ) (lay : Layout) (width : ℕ → Width) (e : ℕ) (t : FunctionTree) (number : ℕ → ℕ)
    → unit.fun ≡ function_at functions → unit.entity e ≡ function_of t → FitsEntity unit d lay width e
    → entry_of_entity number (lay.temp e) unit d (lay.first e) (unit.entity e) ≡ entry_at number (lay.temp e) t (outer (lay.first e)) 0
entity_entry_is unit functions d lay width e t number same body fits =
    ap (λ (p : Plan). p.entry (outer (lay.first e)) 0) (plan_is unit functions d lay width e t same body fits number)
    ∙ body_entry number (lay.temp e) (function_at functions) (rooms_to (tree_unit functions) d) (plans_to number (lay.temp e) functions d) t.gives (body_of t) (outer (lay.first e)) 0

-- and its numbers fit
pub entity_body_fits : (unit : CellUnit) (functions : List FunctionTree) (d : ℕ) (lay : Layout) (width : ℕ → Width) (e : ℕ) (t : FunctionTree) (number : ℕ → ℕ)
    → unit.fun ≡ function_at functions → unit.entity e ≡ function_of t → FitsEntity unit d lay width e
    → lay.top e < 2 ^ 16
    → length (points_of_entity number (lay.temp e) unit d (lay.first e) (unit.entity e)) < 2 ^ 16
    → lay.first e + ((unit.entity e).locals + room_all (rooms_to unit d) (unit.entity e).body) ≤ lay.temp e
    → FitsAt functions (lay.temp e) d (lay.first e) 0 t
entity_body_fits unit functions d lay width e t number same body fits small few room =
    body_fits functions unit.entity width lay.globals (lay.temp e) (lay.top e) small fits.room d t (lay.first e) 0
    (placed unit functions d lay width e t same body fits)
    (few_points number (lay.temp e) functions d t (size_below unit functions d lay width e t same body fits number few))
    (few_cells functions unit.entity d (lay.first e) (lay.temp e) (lay.top e) t fits.room small (cells_are unit functions d lay width e t same body fits room))

-- a body that fits begins below the bound
pub body_begins : (functions : List FunctionTree) (temp d base at : ℕ) (t : FunctionTree) → FitsAt functions temp d base at t → BeginsAt temp base at t
body_begins functions temp d base at t fits =
    all_begin (sizes_at functions d) functions (rooms_at functions d) temp base (body_of t) at (base + t.locals) fits.all

-- where no position changes places with the first, each has its own number
none_moved : (i : ℕ) → exchanged 0 i ≡ i
none_moved i = by (i == 0) refl where
  by : (b : Bool) → (i == 0) ≡ b → (if b then 0 else (if b then 0 else i)) ≡ i
  by true e = grind (arith, nat_tests)
  by false e = refl

pub none_moves : exchanged 0 ≡ (λ (i : ℕ). i)
none_moves = λ j. λ i. none_moved i j
