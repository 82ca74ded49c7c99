-- The points of statements.
use Rattle.std.specs.Prelude.{ℕ, zero, suc, ◌+◌, Bool, true, false, List, [], ◌∷◌, ◌++◌, Option, Some, None}
use Rattle.chk_base.specs.declared.place.Place.{Place}
use Rattle.chk_base.specs.Term.{Term, Const, Choose}
use Rattle.step_ir.specs.Points.{PlainAction, Read, Local, Branch, Return, Invoke, End, PlainPoint}
use Rattle.step_ir.specs.Points as act
use Rattle.lower_law.specs.Typed.{CType, CellExpr}
use Rattle.lower_law.specs.Items.{Item, Site, Check, guarded, sites_all, convert_term, terms_all, items_all}
use Rattle.lower_law.specs.Statements.{CellStatement, Set, Write, WriteAt, If, Loop, Assert, Input, Call, Serve, Block, CellBlock, Nil, Cons, CellFunction, CellUnit, questions, place_of, room, room_all, rooms_to}
use Rattle.lower_law.specs.Statements as st

-- where an entity goes on: at the first whose expression isn't 0
abbrev pub Nexts : Type 0
Nexts = List (Term × ℕ)

-- the body that statements stand in: its first local's cell, and, unless it is an entity's own, where a return goes and the cell that it sets
pub record Context : Type 0 where
  pub base : ℕ
  pub inner : Bool
  pub after : Nexts
  pub into : Option (ℕ × CType)

-- the points of a function that is called, by context and position: how many there are, where they begin, and the points
pub record Plan : Type 0 where
  pub size : ℕ
  pub entry : Context → ℕ → Nexts
  pub points : Context → ℕ → List PlainPoint

-- the first term, and the second
abbrev pub first_term : List Term → Term
first_term [] = Const 0
first_term (t ∷ ts) = t

abbrev pub second_term : List Term → Term
second_term [] = Const 0
second_term (t ∷ ts) = first_term ts

-- each parameter's cell with its value
abbrev pub sets : ℕ → List CType → List Term → List (ℕ × Term)
sets cell (t ∷ ts) (x ∷ xs) = (cell, x) ∷ sets (cell + 1) ts xs
sets cell _ _ = []

-- what a return sets, where a result is given and taken
abbrev pub set_of : Option (ℕ × CType) → Option CellExpr → List Term → Option (ℕ × Term)
set_of (Some a) (Some e) ts = Some (a.0, convert_term a.1 (first_term ts))
set_of _ _ ts = None

-- the first list where the term isn't 0, and else the second
abbrev pub all_guarded : Term → Nexts → Nexts → Nexts
all_guarded t [] rest = rest
all_guarded t (x ∷ xs) rest = (Choose t x.0 (Const 0), x.1) ∷ all_guarded t xs rest

-- the cell of a local
abbrev pub moved : ℕ → Option (ℕ × CType) → Option (ℕ × CType)
moved base None = None
moved base (Some a) = Some (base + a.0, a.1)

-- the end of a call, or of an entity's body
abbrev pub leaving : Bool → Option (ℕ × Term) → PlainAction
leaving true set = act.Return set
leaving false set = End

-- the context of a function that is called here
abbrev pub callee : Context → ℕ → Option (ℕ × CType) → Nexts → Context
callee ctx cell into after = record { base = cell; inner = true; after = after; into = moved ctx.base into }

-- the closing brace is a point of its own unless every way leads to a return
abbrev pub closing : Bool → Place → Context → List PlainPoint
closing true place ctx = []
closing false place ctx = record { place = place; action = leaving ctx.inner None; traps = []; nexts = ctx.after } ∷ []

abbrev pub closing_size : Bool → ℕ
closing_size true = 0
closing_size false = 1

-- the tests that are looked at again behind a read with this guard: none where it comes in any case, since its point has looked at all
abbrev pub behind : List Term → List (Term × ℕ) → List (Term × ℕ)
behind [] traps = []
behind (t ∷ ts) traps = traps

-- `number` is the number of the point at a position
module _ (number : ℕ → ℕ) where
  -- at this position in any case
  abbrev pub always : ℕ → Nexts
  always at = (Const 1, number at) ∷ []

  -- at this position where the guard holds; after an unguarded read nothing else is looked at
  abbrev pub cut : List Term → ℕ → Nexts → Nexts
  cut [] at rest = always at
  cut (t ∷ ts) at rest = (guarded (t ∷ ts) (Const 1), number at) ∷ rest

  -- where a thing with these items begins
  abbrev pub entry : ℕ → List Item → Nexts
  entry at [] = always at
  entry at (Check g t f ∷ is) = entry at is
  entry at (Site g t into ∷ is) = cut g at (entry (at + 1) is)

  -- a point for each read, and one that completes the thing, each with the tests as traps that come before it and behind the last read without a guard
  abbrev pub thing : Place → PlainAction → Nexts → List (Term × ℕ) → ℕ → List Item → List PlainPoint
  thing place action nexts traps at [] = record { place = place; action = action; traps = traps; nexts = nexts } ∷ []
  thing place action nexts traps at (Check g t f ∷ is) = thing place action nexts (traps ++ (guarded g t, f) ∷ []) at is
  thing place action nexts traps at (Site g t into ∷ is) =
      record { place = place; action = Read t into; traps = traps; nexts = entry (at + 1) is } ∷ thing place action nexts (behind g traps) (at + 1) is

  -- where the end of a body begins
  abbrev pub close_entry : Bool → Context → ℕ → Nexts
  close_entry true ctx at = ctx.after
  close_entry false ctx at = always at

-- `temp` is the first cell for a value read
module _ (number : ℕ → ℕ) (temp : ℕ) (fun : ℕ → CellFunction) (rooms : ℕ → ℕ) (calls : ℕ → Plan) where
  -- how many points a thing has without those of the blocks and calls in it
  abbrev pub own : CellStatement → ℕ
  own s = sites_all (questions s) + 1

  -- how many points a statement has
  abbrev mutual
    pub size : CellStatement → ℕ
    size (If p c a b) = sites_all ((None, c) ∷ []) + 1 + size_all a + size_all b
    size (Loop p c x b) = sites_all ((None, c) ∷ []) + 1 + size_all x + size_all b
    size (Block b) = size_all b
    size (Call p f args into) = sites_all (questions (Call p f args into)) + 1 + (calls f).size
    size s = sites_all (questions s) + 1

    pub size_all : CellBlock → ℕ
    size_all Nil = 0
    size_all (Cons s b) = size s + size_all b

  abbrev pub own_items : ℕ → CellStatement → List Item
  own_items base s = items_all base temp (questions s)

  -- where a statement at a position begins, and where it goes on if it has no thing
  abbrev mutual
    pub entry_one : ℕ → ℕ → CellStatement → Nexts → Nexts
    entry_one base at (Block b) after = entry_all base at b after
    entry_one base at s after = entry number at (items_all base temp (questions s))

    pub entry_all : ℕ → ℕ → CellBlock → Nexts → Nexts
    entry_all base at Nil after = after
    entry_all base at (Cons s b) after = entry_one base at s (entry_all base (at + size s) b after)

  -- the action of the completing point
  abbrev pub action_of : Context → ℕ → CellStatement → List Term → PlainAction
  action_of ctx cell (Set p at t e) ts = Local (ctx.base + at) (first_term ts)
  action_of ctx cell (Write p c t e) ts = act.Write (record { base = c; len = 1; index = None }) (first_term ts)
  action_of ctx cell (WriteAt p c len t i e) ts = act.Write (record { base = c; len = len; index = Some (first_term ts) }) (second_term ts)
  action_of ctx cell (If p c a b) ts = Branch (first_term ts)
  action_of ctx cell (Loop p c x b) ts = Branch (first_term ts)
  action_of ctx cell (Assert p e) ts = act.Assert (first_term ts)
  action_of ctx cell (Input p at t) ts = act.Input (ctx.base + at)
  action_of ctx cell (Call p f args into) ts = act.Call f (sets cell (fun f).params ts)
  action_of ctx cell (st.Return p e) ts = leaving ctx.inner (set_of ctx.into e ts)
  action_of ctx cell (Serve p s) ts = Invoke s
  action_of ctx cell (Block b) ts = End

  -- where the completing point goes on. A loop has the points of its third part before those of its body
  abbrev pub nexts_of : Context → ℕ → ℕ → CellStatement → List Term → Nexts → Nexts
  nexts_of ctx at cell (If p c a b) ts after =
      all_guarded (first_term ts) (entry_all ctx.base (at + own (If p c a b)) a after) (entry_all ctx.base (at + own (If p c a b) + size_all a) b after)
  nexts_of ctx at cell (Loop p c x b) ts after =
      all_guarded (first_term ts) (entry_all ctx.base (at + own (Loop p c x b) + size_all x) b (entry_all ctx.base (at + own (Loop p c x b)) x (entry number at (own_items ctx.base (Loop p c x b))))) after
  nexts_of ctx at cell (Call p f args into) ts after = (calls f).entry (callee ctx cell into after) (at + own (Call p f args into))
  nexts_of ctx at cell (st.Return p e) ts after = ctx.after
  nexts_of ctx at cell s ts after = after

  -- the points of a thing without those of the blocks and calls in it
  abbrev pub own_points : Context → ℕ → ℕ → CellStatement → Nexts → List PlainPoint
  own_points ctx at cell s after =
      let ts = terms_all ctx.base temp (questions s) in
      thing number (place_of s) (action_of ctx cell s ts) (nexts_of ctx at cell s ts after) [] at (own_items ctx.base s)

  -- the points of a statement at a position, whose calls' cells begin at `cell`
  abbrev mutual
    pub points_one : Context → ℕ → ℕ → CellStatement → Nexts → List PlainPoint
    points_one ctx at cell (Block b) after = points_all ctx at cell b after
    points_one ctx at cell (If p c a b) after =
        own_points ctx at cell (If p c a b) after
        ++ (points_all ctx (at + own (If p c a b)) cell a after ++ points_all ctx (at + own (If p c a b) + size_all a) (cell + room_all rooms a) b after)
    points_one ctx at cell (Loop p c x b) after =
        own_points ctx at cell (Loop p c x b) after
        ++ (points_all ctx (at + own (Loop p c x b)) cell x (entry number at (own_items ctx.base (Loop p c x b)))
        ++ points_all ctx (at + own (Loop p c x b) + size_all x) (cell + room_all rooms x) b (entry_all ctx.base (at + own (Loop p c x b)) x (entry number at (own_items ctx.base (Loop p c x b)))))
    points_one ctx at cell (Call p f args into) after =
        own_points ctx at cell (Call p f args into) after
        ++ (calls f).points (callee ctx cell into after) (at + own (Call p f args into))
    points_one ctx at cell s after = own_points ctx at cell s after

    pub points_all : Context → ℕ → ℕ → CellBlock → Nexts → List PlainPoint
    points_all ctx at cell Nil after = []
    points_all ctx at cell (Cons s b) after =
        points_one ctx at cell s (entry_all ctx.base (at + size s) b after) ++ points_all ctx (at + size s) (cell + room rooms s) b after

  -- the points of a function
  abbrev pub plan_of : CellFunction → Plan
  plan_of f =
      record {
        size = size_all f.body + closing_size f.gives;
        entry = λ ctx at. entry_all ctx.base at f.body (close_entry number f.gives ctx (at + size_all f.body));
        points = λ ctx at.
            points_all ctx at (ctx.base + f.locals) f.body (close_entry number f.gives ctx (at + size_all f.body)) ++ closing f.gives f.close ctx;
      }

-- no function
abbrev pub no_plan : Plan
no_plan = record { size = 0; entry = λ ctx at. []; points = λ ctx at. [] }

-- the points of a function in which calls nest less than so deep
abbrev pub plan_to : (ℕ → ℕ) → ℕ → CellUnit → ℕ → ℕ → Plan
plan_to number temp unit zero f = no_plan
plan_to number temp unit (suc d) f = plan_of number temp unit.fun (rooms_to unit d) (plan_to number temp unit d) (unit.fun f)

-- the context of an entity's own body
abbrev pub outer : ℕ → Context
outer base = record { base = base; inner = false; after = []; into = None }

-- the points of an entity's body, by position, and where they begin
abbrev pub points_of_entity : (ℕ → ℕ) → ℕ → CellUnit → ℕ → ℕ → CellFunction → List PlainPoint
points_of_entity number temp unit depth base f =
    (plan_of number temp unit.fun (rooms_to unit depth) (plan_to number temp unit depth) f).points (outer base) 0

abbrev pub entry_of_entity : (ℕ → ℕ) → ℕ → CellUnit → ℕ → ℕ → CellFunction → Nexts
entry_of_entity number temp unit depth base f =
    (plan_of number temp unit.fun (rooms_to unit depth) (plan_to number temp unit depth) f).entry (outer base) 0
