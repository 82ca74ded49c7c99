-- The counts over the typed unit are those of its points and cells.
use Rattle.std.proofs.Common.{◌≡◌, ℕ, zero, suc, ◌+◌, Bool, List, [], ◌∷◌, ◌++◌, length, Option, Some, None, refl, ap, arith, length-append}
use Rattle.std.specs.Prelude.{map, option_map, slice_get}
use Rattle.step_ir.specs.declared.code.CellName.{CellName}
use Rattle.c_unit.specs.declared.expression.BinaryOperator.{BinaryOperator}
use Rattle.c_unit.specs.declared.expression.BinaryOperator.TheVariants.{LogicalAnd, LogicalOr}
use Rattle.typed_unit.specs.declared.typed.CType.{CType}
use Rattle.typed_unit.specs.declared.typed.GlobalVar.{GlobalVar}
use Rattle.typed_unit.specs.declared.typed.Local.{Local}
use Rattle.typed_unit.specs.Plain.{PlainExpr, PlainStatement, PlainBlock, NoStatement, StatementThen, PlainFunction, PlainEntity, PlainUnit}
use Rattle.typed_unit.specs.Plain as p
use Rattle.lower_law.specs.Counts.{reads, reads_all, Thing, asking, if_there, things, things_in, called, points_of, end_points, if_function, function_points}
use Rattle.lower_law.specs.Items.{sites, sites_all}
use Rattle.lower_law.specs.Layout.{called_names, call_names, local_names, function_names, if_some}
use Rattle.lower_law.specs.Lowered.{Plan, size, size_all, closing_size, plan_to}
use Rattle.lower_law.specs.Statements.{Loop, CellBlock, Nil, Cons, CellFunction, asked, asked_if, room, room_all, rooms_to}
use Rattle.lower_law.specs.Translated.{binary, joined, expr, condition, statement, statements, is_some, function, no_function, or_body, unit_over_cells}
use Rattle.lower_law.specs.Typed.{CellExpr}

-- ---- lists of things
pub points_append : (c : ℕ → ℕ) (xs ys : List Thing) → points_of c (xs ++ ys) ≡ points_of c xs + points_of c ys
points_append c [] ys = omega arith
points_append c (x ∷ xs) ys = let h = points_append c xs ys in omega arith

pub names_append : (c : ℕ → List CellName) (xs ys : List Thing) → length (call_names c (xs ++ ys)) ≡ length (call_names c xs) + length (call_names c ys)
names_append c [] ys = omega arith
names_append c (x ∷ xs) ys =
    let h = names_append c xs ys in
    let l1 = length-append (called_names c x.calls) (call_names c (xs ++ ys)) in
    let l2 = length-append (called_names c x.calls) (call_names c xs) in
    omega arith

module _ (globals : List GlobalVar) where
  sites_binary : (op : BinaryOperator) (s : Bool) (a b : CellExpr) → sites (binary op s a b) ≡ sites a + sites b
  sites_binary LogicalAnd s a b = refl
  sites_binary LogicalOr s a b = refl
  sites_binary _ s a b = refl

  pub sites_reads : (e : PlainExpr) → sites (expr globals e) ≡ reads e
  sites_reads (p.Number place t n) = refl
  sites_reads (p.Truth place t b) = refl
  sites_reads (p.Local' place t l) = refl
  sites_reads (p.Global place t g) = refl
  sites_reads (p.Element place t g len i) = ap (λ n. n + 1) (sites_reads i)
  sites_reads (p.Parenthesis place t a) = sites_reads a
  sites_reads (p.Unary place t o a) = sites_reads a
  sites_reads (p.Cast place t a) = sites_reads a
  sites_reads (p.Binary place t o a b) =
      let h = sites_binary o (p.type_of a).signed (expr globals a) (expr globals b) in
      let x = sites_reads a in
      let y = sites_reads b in
      omega arith
  sites_reads (p.Conditional place t q a b) = let x = sites_reads q in let y = sites_reads a in let z = sites_reads b in omega arith
  sites_reads (p.Conversion place t a) = sites_reads a

  pub all_reads : (es : List PlainExpr) → sites_all (asked (map (expr globals) es)) ≡ reads_all es
  all_reads [] = refl
  all_reads (e ∷ es) = let x = sites_reads e in let y = all_reads es in omega arith

  pub if_reads : (v : Option PlainExpr) → sites_all (asked_if (option_map (expr globals) v)) ≡ reads_all (if_there v)
  if_reads None = refl
  if_reads (Some e) = let x = sites_reads e in omega arith

  pub condition_reads : (v : Option PlainExpr) → sites (condition globals v) ≡ reads_all (if_there v)
  condition_reads None = refl
  condition_reads (Some e) = let x = sites_reads e in omega arith

  module _ (number : ℕ → ℕ) (temp : ℕ) (fun : ℕ → CellFunction) (rooms : ℕ → ℕ) (calls : ℕ → Plan) (locals : List Local) where
    abbrev sizes : ℕ → ℕ
    sizes f = (calls f).size

    size_joined : (a b : CellBlock) → size_all number temp fun rooms calls (joined a b) ≡ size_all number temp fun rooms calls a + size_all number temp fun rooms calls b
    size_joined Nil b = omega arith
    size_joined (Cons s a) b = let h = size_joined a b in omega arith

    -- a statement has the points of its things
    mutual
      pub size_things : (s : PlainStatement) → size number temp fun rooms calls (statement globals locals s) ≡ points_of sizes (things s)
      size_things (p.Set place l v) = let x = sites_reads v in omega arith
      size_things (p.Write place g v) = let x = sites_reads v in omega arith
      size_things (p.WriteElement place g len i v) = let x = sites_reads i in let y = sites_reads v in omega arith
      size_things (p.Input place t) = omega arith
      size_things (p.Call place name f args t) = let x = all_reads args in omega arith
      size_things (p.Serve place service at) = omega arith
      size_things (p.Assert place q) = let x = sites_reads q in omega arith
      size_things (p.If place q on off) =
          let x = sites_reads q in
          let y = size_in on in
          let z = size_in off in
          let w = points_append sizes (things_in on) (things_in off) in
          omega arith
      size_things (p.While place q body) = let x = sites_reads q in let y = size_in body in omega arith
      size_things (p.For place start q step body) =
          let x = condition_reads q in
          let w1 = size_in start in
          let w2 = size_in step in
          let w3 = size_in body in
          let j = size_joined (statements globals locals start) (Cons (Loop place (condition globals q) (statements globals locals step) (statements globals locals body)) Nil) in
          let a1 = points_append sizes (things_in start) (asking (if_there q) ∷ (things_in step ++ things_in body)) in
          let a2 = points_append sizes (things_in step) (things_in body) in
          omega arith
      size_things (p.Return place v) = let x = if_reads v in omega arith
      size_things (p.Block place body) = size_in body

      pub size_in : (b : PlainBlock) → size_all number temp fun rooms calls (statements globals locals b) ≡ points_of sizes (things_in b)
      size_in NoStatement = refl
      size_in (StatementThen s b) =
          let x = size_things s in
          let y = size_in b in
          let w = points_append sizes (things s) (things_in b) in
          omega arith

  module _ (rooms : ℕ → ℕ) (names : ℕ → List CellName) (same : (f : ℕ) → rooms f ≡ length (names f)) (locals : List Local) where
    room_joined : (a b : CellBlock) → room_all rooms (joined a b) ≡ room_all rooms a + room_all rooms b
    room_joined Nil b = omega arith
    room_joined (Cons s a) b = let h = room_joined a b in omega arith

    -- the calls in a statement have as many cells as there are names for them
    mutual
      pub room_things : (s : PlainStatement) → room rooms (statement globals locals s) ≡ length (call_names names (things s))
      room_things (p.Set place l v) = refl
      room_things (p.Write place g v) = refl
      room_things (p.WriteElement place g len i v) = refl
      room_things (p.Input place t) = refl
      room_things (p.Call place name f args t) =
          let h = same f in let l = length-append (names f) [] in omega arith
      room_things (p.Serve place service at) = refl
      room_things (p.Assert place q) = refl
      room_things (p.If place q on off) = let x = room_in on in let y = room_in off in let w = names_append names (things_in on) (things_in off) in omega arith
      room_things (p.While place q body) = let x = room_in body in omega arith
      room_things (p.For place start q step body) =
          let w1 = room_in start in
          let w2 = room_in step in
          let w3 = room_in body in
          let j = room_joined (statements globals locals start) (Cons (Loop place (condition globals q) (statements globals locals step) (statements globals locals body)) Nil) in
          let a1 = names_append names (things_in start) (asking (if_there q) ∷ (things_in step ++ things_in body)) in
          let a2 = names_append names (things_in step) (things_in body) in
          omega arith
      room_things (p.Return place v) = refl
      room_things (p.Block place body) = room_in body

      pub room_in : (b : PlainBlock) → room_all rooms (statements globals locals b) ≡ length (call_names names (things_in b))
      room_in NoStatement = refl
      room_in (StatementThen s b) = let x = room_things s in let y = room_in b in let w = names_append names (things s) (things_in b) in omega arith

length_locals : (ls : List Local) → length (local_names ls) ≡ length ls
length_locals [] = refl
length_locals (l ∷ ls) = ap (λ n. suc n) (length_locals ls)

closes_as : (r : Option CType) → closing_size (is_some r) ≡ end_points r
closes_as None = refl
closes_as (Some t) = refl

pub points_same : (c d : ℕ → ℕ) (xs : List Thing) → ((f : ℕ) → c f ≡ d f) → points_of c xs ≡ points_of d xs
points_same c d [] h = refl
points_same c d (x ∷ xs) h = let y = points_same c d xs h in let z = called_same x.calls in omega arith where
  called_same : (o : Option ℕ) → called c o ≡ called d o
  called_same None = refl
  called_same (Some f) = h f

module _ (u : PlainUnit) (number : ℕ → ℕ) (temp : ℕ) where
  -- a function has the points that are counted
  pub plan_points : (d f : ℕ) → (plan_to number temp (unit_over_cells u) d f).size ≡ function_points u d f
  plan_points zero f = refl
  plan_points (suc d) f = go (slice_get u.functions f) (plan_points d) where
    go : (o : Option PlainFunction) → ((f : ℕ) → (plan_to number temp (unit_over_cells u) d f).size ≡ function_points u d f) → size_all number temp (unit_over_cells u).fun (rooms_to (unit_over_cells u) d) (plan_to number temp (unit_over_cells u) d) (or_body no_function (option_map (function u.globals) o)).body + closing_size (or_body no_function (option_map (function u.globals) o)).gives ≡ if_function (λ x. points_of (function_points u d) (things_in x.body) + end_points x.result) o
    go None h = refl
    go (Some x) h =
        let a = size_in u.globals number temp (unit_over_cells u).fun (rooms_to (unit_over_cells u) d) (plan_to number temp (unit_over_cells u) d) x.locals x.body in
        let b = points_same (λ f. (plan_to number temp (unit_over_cells u) d f).size) (function_points u d) (things_in x.body) h in
        let c = closes_as x.result in
        omega arith

module _ (u : PlainUnit) where
  -- a call has as many cells as there are names for it
  pub room_names : (d f : ℕ) → rooms_to (unit_over_cells u) d f ≡ length (function_names u d f)
  room_names zero f = refl
  room_names (suc d) f = go (slice_get u.functions f) (room_names d) where
    go : (o : Option PlainFunction) → ((f : ℕ) → rooms_to (unit_over_cells u) d f ≡ length (function_names u d f)) → (or_body no_function (option_map (function u.globals) o)).locals + room_all (rooms_to (unit_over_cells u) d) (or_body no_function (option_map (function u.globals) o)).body ≡ length (if_some (λ x. local_names x.locals ++ call_names (function_names u d) (things_in x.body)) o)
    go None h = refl
    go (Some x) h =
        let a = room_in u.globals (rooms_to (unit_over_cells u) d) (function_names u d) h x.locals x.body in
        let b = length-append (local_names x.locals) (call_names (function_names u d) (things_in x.body)) in
        let c = length_locals x.locals in
        omega arith
