-- Bodies whose names are right fit at their places among the cells.
use Rattle.std.proofs.Common.{◌≡◌, ℕ, ◌+◌, ◌≤◌, Bool, List, [], ◌∷◌, ◌++◌, length, Option, Some, None, refl, sym, ap, ◌∙◌, subst, arith, add-zero, add_assoc, length-append}
use Rattle.std.specs.Prelude.{map, option_map}
use Rattle.chk_base.specs.declared.word.Width.{Width}
use Rattle.step_ir.specs.declared.code.CellName.{CellName}
use Rattle.typed_unit.specs.declared.typed.CType.{CType}
use Rattle.typed_unit.specs.declared.typed.GlobalVar.{GlobalVar}
use Rattle.typed_unit.specs.declared.typed.Local.{Local}
use Rattle.typed_unit.specs.declared.typed.Taker.{Taker}
use Rattle.typed_unit.specs.Plain.{PlainExpr, PlainStatement, PlainBlock, NoStatement, StatementThen, PlainFunction, PlainEntity, PlainUnit}
use Rattle.typed_unit.specs.Plain as p
use Rattle.lower_law.specs.Counts.{Thing, asking, if_there, things, things_in, most_reads}
use Rattle.lower_law.specs.FitsBody.{FitsSt, FitsBl, FitsInto, Given, Takes, EndsWell, learn_into, known_after, is_return, ends_in_return}
use Rattle.lower_law.specs.Items.{sites_all}
use Rattle.lower_law.specs.Layout.{called_names, call_names, local_names, global_names}
use Rattle.lower_law.specs.Scoped.{learn_taken, known_behind, known_in, IsTaker, IsResult, IsTaken, IsClosed, is_returning, returns_last, StatementScoped, BlockScoped}
use Rattle.lower_law.specs.Statements.{CellStatement, Loop, CellBlock, Nil, Cons, questions, room, room_all}
use Rattle.lower_law.specs.Translated.{joined, expr, condition, taken, statement, statements, is_some}
use Rattle.lower_law.specs.Typed.{CellExpr}
use Rattle.lower_law.proofs.Placing.{HasNames, front_names, back_names, local_fits, array_fits, scalar_fits, expr_fits, all_fit, if_fits, condition_fits, names_joined, most_joined}
use Rattle.lower_law.proofs.Totals.{sites_reads, all_reads, if_reads, condition_reads, room_things, room_in}

-- the locals that are set after statements
abbrev known_all : (ℕ → Bool) → CellBlock → ℕ → Bool
known_all known Nil = known
known_all known (Cons s b) = known_all (known_after known s) b

module _ (globals : List GlobalVar) (locals : List Local) where
  taken_same : (known : ℕ → Bool) (t : Option Taker) → learn_into known (option_map (taken globals locals) t) ≡ learn_taken known t
  taken_same known None = refl
  taken_same known (Some t) = refl

  after_same : (known : ℕ → Bool) (s : PlainStatement) → known_after known (statement globals locals s) ≡ known_behind known s
  after_same known (p.Set place l v) = refl
  after_same known (p.Write place g v) = refl
  after_same known (p.WriteElement place g len i v) = refl
  after_same known (p.Input place t) = refl
  after_same known (p.Call place name f args t) = taken_same known t
  after_same known (p.Serve place service at) = refl
  after_same known (p.Assert place q) = refl
  after_same known (p.If place q on off) = refl
  after_same known (p.While place q body) = refl
  after_same known (p.For place start q step body) = refl
  after_same known (p.Return place v) = refl
  after_same known (p.Block place body) = refl

  all_same : (known : ℕ → Bool) (b : PlainBlock) → known_all known (statements globals locals b) ≡ known_in known b
  all_same known NoStatement = refl
  all_same known (StatementThen s b) = ap (λ k. known_all k (statements globals locals b)) (after_same known s) ∙ all_same (known_behind known s) b

  return_same : (s : PlainStatement) → is_returning s ≡ is_return (statement globals locals s)
  return_same (p.Set place l v) = refl
  return_same (p.Write place g v) = refl
  return_same (p.WriteElement place g len i v) = refl
  return_same (p.Input place t) = refl
  return_same (p.Call place name f args t) = refl
  return_same (p.Serve place service at) = refl
  return_same (p.Assert place q) = refl
  return_same (p.If place q on off) = refl
  return_same (p.While place q body) = refl
  return_same (p.For place start q step body) = refl
  return_same (p.Return place v) = refl
  return_same (p.Block place body) = refl

  returns_same : (b : PlainBlock) → returns_last b ≡ ends_in_return (statements globals locals b)
  returns_same NoStatement = refl
  returns_same (StatementThen s NoStatement) = return_same s
  returns_same (StatementThen s (StatementThen r b)) = returns_same (StatementThen r b)

  pub closed_ends : (r : Option CType) (b : PlainBlock) → IsClosed r b → EndsWell (is_some r) (statements globals locals b)
  closed_ends None b h = tt
  closed_ends (Some t) b h = sym (returns_same b) ∙ h

  module _ (most : ℕ) (readsof : ℕ → ℕ) where
    -- a thing reads no more than the most
    sites_small : (s : PlainStatement) → most_reads readsof (things s) ≤ most → sites_all (questions (statement globals locals s)) ≤ most
    sites_small (p.Set place l v) h = let x = sites_reads globals v in omega arith
    sites_small (p.Write place g v) h = let x = sites_reads globals v in omega arith
    sites_small (p.WriteElement place g len i v) h = let x = sites_reads globals i in let y = sites_reads globals v in omega arith
    sites_small (p.Input place t) h = omega arith
    sites_small (p.Call place name f args t) h = let x = all_reads globals args in omega arith
    sites_small (p.Serve place service at) h = omega arith
    sites_small (p.Assert place q) h = let x = sites_reads globals q in omega arith
    sites_small (p.If place q on off) h = let x = sites_reads globals q in omega arith
    sites_small (p.While place q body) h = let x = sites_reads globals q in omega arith
    sites_small (p.For place start q step body) h = omega arith
    sites_small (p.Return place v) h = let x = if_reads globals v in omega arith
    sites_small (p.Block place body) h = omega arith

given : (r : Option CType) (globals : List GlobalVar) (v : Option PlainExpr) → IsResult r v → Given (is_some r) (option_map (expr globals) v)
given None globals None h = tt
given None globals (Some e) h = absurd h
given (Some t) globals None h = absurd h
given (Some t) globals (Some e) h = tt

pub takes : (r : Option CType) (globals : List GlobalVar) (locals : List Local) (t : Option Taker) → IsTaken r t → Takes (is_some r) (option_map (taken globals locals) t)
takes None globals locals None h = tt
takes None globals locals (Some t) h = absurd h
takes (Some r) globals locals None h = tt
takes (Some r) globals locals (Some t) h = tt

module _ (globals : List GlobalVar) (width : ℕ → Width) (named : HasNames width 0 (global_names globals)) (temp top most : ℕ) (fit : temp + most ≤ top) (rooms : ℕ → ℕ) (names : ℕ → List CellName) (readsof : ℕ → ℕ) (same : (f : ℕ) → rooms f ≡ length (names f)) (IsCall : ℕ → List PlainExpr → Option Taker → Type 0) (FitsCall : ℕ → ℕ → List CellExpr → Option (ℕ × CType) → Type 0) (base : ℕ) (locals : List Local) (result : Option CType) (mine : HasNames width base (local_names locals)) (calls : (f cell : ℕ) (args : List PlainExpr) (t : Option Taker) → IsCall f args t → HasNames width cell (names f) → base + length locals ≤ cell → cell + length (names f) ≤ temp → readsof f ≤ most → FitsCall f cell (map (expr globals) args) (option_map (taken globals locals) t)) where
  abbrev G : ℕ
  G = length (global_names globals)

  abbrev OneFits : (ℕ → Bool) → ℕ → CellStatement → Type 0
  OneFits known cell s = FitsSt width G temp top rooms FitsCall base (length locals) (is_some result) known cell s

  abbrev BlockFits : (ℕ → Bool) → ℕ → CellBlock → Type 0
  BlockFits known cell b = FitsBl width G temp top rooms FitsCall base (length locals) (is_some result) known cell b

  joined_fits : (a b : CellBlock) (known : ℕ → Bool) (cell : ℕ) → BlockFits known cell a → BlockFits (known_all known a) (cell + room_all rooms a) b → BlockFits known cell (joined a b)
  joined_fits Nil b known cell f g = subst (λ c. BlockFits known c b) (add-zero cell) g
  joined_fits (Cons s a) b known cell f g = (
    f.0,
    f.1,
    f.2,
    joined_fits a b (known_after known s) (cell + room rooms s) f.3 (subst (λ c. BlockFits (known_all (known_after known s) a) c b) (sym (add_assoc cell (room rooms s) (room_all rooms a))) g),
  )

  taker_fits : (t : Option Taker) → IsTaker (length locals) t → FitsInto width base (length locals) (option_map (taken globals locals) t)
  taker_fits None h = tt
  taker_fits (Some t) h = (h, local_fits width base locals t.local mine h)

  -- the names of two lists of things
  split_front : (xs ys : List Thing) (cell : ℕ) → HasNames width cell (call_names names (xs ++ ys)) → HasNames width cell (call_names names xs)
  split_front xs ys cell h = front_names width cell (call_names names xs) (call_names names ys) (subst (HasNames width cell) (names_joined names xs ys) h)

  split_back : (xs ys : List Thing) (cell k : ℕ) → k ≡ length (call_names names xs) → HasNames width cell (call_names names (xs ++ ys)) → HasNames width (cell + k) (call_names names ys)
  split_back xs ys cell k e h =
      subst (λ k. HasNames width (cell + k) (call_names names ys)) (sym e) (back_names width cell (call_names names xs) (call_names names ys) (subst (HasNames width cell) (names_joined names xs ys) h))

  split_length : (xs ys : List Thing) → length (call_names names (xs ++ ys)) ≡ length (call_names names xs) + length (call_names names ys)
  split_length xs ys = ap length (names_joined names xs ys) ∙ length-append (call_names names xs) (call_names names ys)

  -- what holds of things at their place: their cells are there, behind the locals and before those for values read, and none reads more than the most
  pub record Here (cell : ℕ) (xs : List Thing) : Type 0 where
    pub cells : HasNames width cell (call_names names xs)
    pub behind : base + length locals ≤ cell
    pub before : cell + length (call_names names xs) ≤ temp
    pub few : most_reads readsof xs ≤ most

  here_front : (xs ys : List Thing) (cell : ℕ) → Here cell (xs ++ ys) → Here cell xs
  here_front xs ys cell h = record {
    cells = split_front xs ys cell h.cells;
    behind = h.behind;
    before = let l = split_length xs ys in let b = h.before in omega arith;
    few = let m = most_joined readsof xs ys in let f = h.few in omega arith;
  }

  here_back : (xs ys : List Thing) (cell k : ℕ) → k ≡ length (call_names names xs) → Here cell (xs ++ ys) → Here (cell + k) ys
  here_back xs ys cell k e h = record {
    cells = split_back xs ys cell k e h.cells;
    behind = let b = h.behind in omega arith;
    before = let l = split_length xs ys in let b = h.before in omega arith;
    few = let m = most_joined readsof xs ys in let f = h.few in omega arith;
  }

  -- behind a thing that calls nothing
  here_tail : (x : Thing) (xs : List Thing) (cell : ℕ) → x.calls ≡ None → Here cell (x ∷ xs) → Here cell xs
  here_tail x xs cell e h = record {
    cells = subst (λ o. HasNames width cell (called_names names o ++ call_names names xs)) e h.cells;
    behind = h.behind;
    before = subst (λ o. cell + length (called_names names o ++ call_names names xs) ≤ temp) e h.before;
    few = let f = h.few in omega arith;
  }

  room_is : (b : PlainBlock) → room_all rooms (statements globals locals b) ≡ length (call_names names (things_in b))
  room_is b = room_in globals rooms names same locals b

  mutual
    statement_fits : (s : PlainStatement) (known : ℕ → Bool) (cell : ℕ) → StatementScoped globals IsCall (length locals) result known s → Here cell (things s) → OneFits known cell (statement globals locals s)
    statement_fits (p.Set place l v) known cell f h = (expr_fits width globals named known v f.0, f.1, local_fits width base locals l mine f.1)
    statement_fits (p.Write place g v) known cell f h =
        let q = scalar_fits width globals named g f.1 in
        (expr_fits width globals named known v f.0, q.0, q.1)
    statement_fits (p.WriteElement place g len i v) known cell f h =
        (expr_fits width globals named known i f.0, expr_fits width globals named known v f.1, array_fits width globals named g len f.2)
    statement_fits (p.Input place t) known cell f h = (f, local_fits width base locals t.local mine f)
    statement_fits (p.Call place name k args t) known cell f h =
        let l = length-append (names k) [] in
        let b = h.before in
        let m = h.few in
        (all_fit width globals named known args f.0, calls k cell args t f.1 (front_names width cell (names k) [] h.cells) h.behind (omega arith) (omega arith), taker_fits t f.2)
    statement_fits (p.Serve place service at) known cell f h = tt
    statement_fits (p.Assert place q) known cell f h = expr_fits width globals named known q f
    statement_fits (p.If place q on off) known cell f h =
        let t = here_tail (asking (q ∷ [])) (things_in on ++ things_in off) cell refl h in (
          expr_fits width globals named known q f.0,
          block_fits on known cell f.1 (here_front (things_in on) (things_in off) cell t),
          block_fits off known (cell + room_all rooms (statements globals locals on)) f.2 (here_back (things_in on) (things_in off) cell (room_all rooms (statements globals locals on)) (room_is on) t),
        )
    statement_fits (p.While place q body) known cell f h =
        let t = here_tail (asking (q ∷ [])) (things_in body) cell refl h in (
          expr_fits width globals named known q f.0,
          tt,
          subst (λ c. BlockFits known c (statements globals locals body)) (sym (add-zero cell)) (block_fits body known cell f.1 t),
        )
    statement_fits (p.For place start q step body) known cell f h =
        let k = known_in known start in
        let kc = known_all known (statements globals locals start) in
        let rest = asking (if_there q) ∷ (things_in step ++ things_in body) in
        let rs = room_all rooms (statements globals locals start) in
        let at = cell + rs in
        let hs = here_front (things_in start) rest cell h in
        let hr = here_back (things_in start) rest cell rs (room_is start) h in
        let t = here_tail (asking (if_there q)) (things_in step ++ things_in body) at refl hr in
        let sk = room_all rooms (statements globals locals step) in
        let loop : OneFits k at (Loop place (condition globals q) (statements globals locals step) (statements globals locals body)) = (
          condition_fits width globals named k q f.1,
          block_fits step k at f.2 (here_front (things_in step) (things_in body) at t),
          block_fits body k (at + sk) f.3 (here_back (things_in step) (things_in body) at sk (room_is step) t),
        ) in
        let cs = condition_reads globals q in
        let fw = hr.few in
        joined_fits (statements globals locals start) (Cons (Loop place (condition globals q) (statements globals locals step) (statements globals locals body)) Nil) known cell (block_fits start known cell f.0 hs)
        (subst (λ k. BlockFits k at (Cons (Loop place (condition globals q) (statements globals locals step) (statements globals locals body)) Nil)) (sym (all_same globals locals known start)) (loop, omega arith, hr.behind, tt))
    statement_fits (p.Return place v) known cell f h = (if_fits width globals named known v f.0, given result globals v f.1)
    statement_fits (p.Block place body) known cell f h = block_fits body known cell f h

    pub block_fits : (b : PlainBlock) (known : ℕ → Bool) (cell : ℕ) → BlockScoped globals IsCall (length locals) result known b → Here cell (things_in b) → BlockFits known cell (statements globals locals b)
    block_fits NoStatement known cell f h = tt
    block_fits (StatementThen s b) known cell f h =
        let hs = here_front (things s) (things_in b) cell h in
        let small = sites_small globals locals most readsof s hs.few in
        let r = room_things globals rooms names same locals s in (
          statement_fits s known cell f.0 hs,
          omega arith,
          h.behind,
          subst (λ k. BlockFits k (cell + room rooms (statement globals locals s)) (statements globals locals b)) (sym (after_same globals locals known s)) (block_fits b (known_behind known s) (cell + room rooms (statement globals locals s)) f.1 (here_back (things s) (things_in b) cell (room rooms (statement globals locals s)) r h)),
        )
