-- What each point of an entity becomes: rules, of which the first whose guard isn't 0 is taken.
use Rattle.std.specs.Prelude.{ℕ, zero, suc, ◌+◌, ◌-◌, Bool, true, false, not, ◌&&◌, ◌||◌, if◌then◌else◌, ◌==◌, nat_lt, nat_le, List, [], ◌∷◌, ◌++◌, Option, Some, None}
use Rattle.chk_base.specs.declared.expr.BinOp.{BinOp}
use Rattle.chk_base.specs.declared.expr.BinOp.TheVariants as bin
use Rattle.chk_base.specs.declared.expr.UnOp.{UnOp}
use Rattle.chk_base.specs.declared.expr.UnOp.TheVariants as un
use Rattle.chk_base.specs.declared.word.Width.{Width}
use Rattle.chk_base.specs.declared.word.Width.TheVariants.{W1, W8, W16, W32}
use Rattle.chk_base.specs.Term.{Term, Const, Cell, Pick, Un, Bin, Choose}
use Rattle.guard_prog.specs.declared.draft.Control.{Control}
use Rattle.guard_prog.specs.declared.draft.Control.TheVariants.{Goto, Push, Pop, PopPush, Fail}
use Rattle.guard_prog.specs.GuardedRun.{PlainAlternative}
use Rattle.step_ir.specs.declared.event.Service.{Service}
use Rattle.step_ir.specs.declared.event.Service.TheVariants.{Activate, Terminate, Chain, Get, Release}
use Rattle.step_ir.specs.Points.{PlainAction, Read, Write, Local, Branch, Input, Call, Return, Invoke, Assert, End, PlainPoint}
use Rattle.step_ir.specs.Setting.{Setting}

-- an operator with one operand
abbrev pub unary : UnOp → Term → Term
unary op a = Un op a

-- an operator with two operands
abbrev pub binary : BinOp → Term → Term → Term
binary op a b = Bin op a b

-- the second where the first isn't 0, and else the third
abbrev pub choice : Term → Term → Term → Term
choice c a b = Choose c a b

-- a number
abbrev pub constant : ℕ → Term
constant n = Const n

-- both hold
abbrev pub both : Term → Term → Term
both a b = Choose a b (Const 0)

-- one of two holds
abbrev pub either : Term → Term → Term
either a b = Choose a (Const 1) b

-- it doesn't hold
abbrev pub negated : Term → Term
negated a = Un un.Not a

-- 1 where it isn't 0
abbrev pub tested : Term → Term
tested a = Un un.Bool a

-- one of these traps holds
abbrev pub any_of : List (Term × ℕ) → Term
any_of [] = Const 0
any_of (x ∷ xs) = either (tested x.0) (any_of xs)

-- one of the ways to go on at a point; the first whose guard isn't 0 is taken
pub record Rule : Type 0 where
  pub guard : Term
  pub sets : List (ℕ × Term)
  pub control : Control
  pub input : Option Width

-- a rule without an input
abbrev pub plain : Term → List (ℕ × Term) → Control → Rule
plain guard sets control = record { guard = guard; sets = sets; control = control; input = None }

-- rules that count only where this holds
abbrev pub guarded : Term → List Rule → List Rule
guarded c [] = []
guarded c (r ∷ rs) = record r { guard = both c r.guard } ∷ guarded c rs

-- the alternatives of rules, whose guards exclude one another: each holds where its rule's does and none before it; `none` says that none has held so far, and k is the number of the first
abbrev pub alternatives : (ℕ → ℕ) → Term → ℕ → List Rule → List PlainAlternative
alternatives label none k [] = []
alternatives label none k (r ∷ rs) =
    record { label = label k; guard = both none r.guard; sets = r.sets; control = r.control; input = r.input }
    ∷ alternatives label (both none (negated r.guard)) (k + 1) rs

-- cut by the first operator and, where it is read with its sign, then by the second
abbrev pub cut_as : UnOp → UnOp → Bool → Term → Term
cut_as cut sign s v = if s then Un sign (Un cut v) else Un cut v

-- the lowest bit; read with its sign, 1 is -1
abbrev pub bit_as : Bool → Term → Term
bit_as s v = if s then Un un.Neg (Bin bin.And v (Const 1)) else Bin bin.And v (Const 1)

-- a value that was set to a cell of this width, as the cell is read
abbrev pub read_back : Width → Bool → Term → Term
read_back W1 s v = bit_as s v
read_back W8 s v = cut_as un.Low8 un.Sign8 s v
read_back W16 s v = cut_as un.Low16 un.Sign16 s v
read_back W32 s v = Bin bin.Add v (Const 0)

-- a cell after these sets, as an expression over the cells before
abbrev pub cell_after : (ℕ → Width) → List (ℕ × Term) → ℕ → Bool → Term
cell_after width [] at s = Cell at s
cell_after width (x ∷ xs) at s = if x.0 == at then read_back (width at) s x.1 else cell_after width xs at s

-- the element of an array at this index after these sets, as an expression over the cells before
abbrev pub pick_after : (ℕ → Width) → List (ℕ × Term) → ℕ → ℕ → Bool → Term → Term
pick_after width [] base len s index = Pick base len s index
pick_after width (x ∷ xs) base len s index =
    if nat_le base x.0 && nat_lt x.0 (base + len)
    then Choose (Bin bin.Eq index (Const (x.0 - base))) (read_back (width x.0) s x.1) (pick_after width xs base len s index)
    else pick_after width xs base len s index

-- an expression over the cells after these sets, as one over the cells before
abbrev pub after : (ℕ → Width) → List (ℕ × Term) → Term → Term
after width sets (Const n) = Const n
after width sets (Cell at s) = cell_after width sets at s
after width sets (Pick base len s index) = pick_after width sets base len s (after width sets index)
after width sets (Un op a) = Un op (after width sets a)
after width sets (Bin op a b) = Bin op (after width sets a) (after width sets b)
after width sets (Choose c a b) = Choose (after width sets c) (after width sets a) (after width sets b)

-- the index of a target; without one it is 0
abbrev pub index_term : Option Term → Term
index_term None = Const 0
index_term (Some t) = t

-- an array after a write, element by element; the greatest comes first
abbrev pub write_sets : ℕ → Term → Term → ℕ → List (ℕ × Term)
write_sets base index v zero = []
write_sets base index v (suc j) =
    (base + j, Choose (Bin bin.Eq index (Const j)) v (Cell (base + j) false)) ∷ write_sets base index v j

-- the set of a return, if there is one
abbrev pub return_sets : Option (ℕ × Term) → List (ℕ × Term)
return_sets None = []
return_sets (Some s) = s ∷ []

-- what is kept of the scheduler, each in a cell of its own
pub data Slot : Type 0 where
  -- whether an entity is on the stack
  On : (entity : ℕ) → Slot
  -- how many requests a task has
  Count : (task : ℕ) → Slot
  -- the fresh requests of a level, the oldest first
  Waits : (level at : ℕ) → Slot
  -- whether a resource is held
  Held : (resource : ℕ) → Slot
  -- the resources of an entity, the last taken first
  Kept : (entity at : ℕ) → Slot

-- where things stand in the program: the cell of a slot, the mark of a waiting task, how many places a level has, the numbers of points and of labels, and how many tasks and resources there are
pub record Plan : Type 0 where
  pub place : Slot → ℕ
  pub mark : ℕ → ℕ
  pub room : ℕ → ℕ
  pub number : ℕ → ℕ → ℕ
  pub label : ℕ → ℕ → ℕ
  pub tasks : ℕ
  pub resources : ℕ

-- what a step changes
pub record Change : Type 0 where
  -- who is put on the stack, and who leaves it
  pub starts : Option ℕ
  pub leaves : Option ℕ
  -- which task has a request more, and which one less
  pub asks : Option ℕ
  pub ends : Option ℕ
  -- which fresh request is taken, the first of its level, and which is put last
  pub takes : Option ℕ
  pub puts : Option ℕ
  -- an entity with the resource that it takes, and that it releases
  pub gets : Option (ℕ × ℕ)
  pub releases : Option (ℕ × ℕ)

-- the number is this one
abbrev pub is_it : Option ℕ → ℕ → Bool
is_it None x = false
is_it (Some y) x = y == x

-- the entity of the pair is this one
abbrev pub is_first : Option (ℕ × ℕ) → ℕ → Bool
is_first None e = false
is_first (Some x) e = x.0 == e

-- the resource of the pair is this one
abbrev pub is_second : Option (ℕ × ℕ) → ℕ → Bool
is_second None r = false
is_second (Some x) r = x.1 == r

-- the resource of the pair
abbrev pub second_of : Option (ℕ × ℕ) → ℕ
second_of None = 0
second_of (Some x) = x.1

-- the mark of a task, and 0 without one
abbrev pub mark_of : Plan → Option ℕ → ℕ
mark_of plan None = 0
mark_of plan (Some t) = plan.mark t

-- the level of the task is this one
abbrev pub is_level : Setting → Option ℕ → ℕ → Bool
is_level app None l = false
is_level app (Some t) l = app.level t == l

-- the lists at the numbers below n, the greatest number first
abbrev pub collect : ℕ → (ℕ → List (ℕ × Term)) → List (ℕ × Term)
collect zero f = []
collect (suc n) f = f n ++ collect n f

-- the set of a cell, if there is a value
abbrev pub set_at : ℕ → Option Term → List (ℕ × Term)
set_at q None = []
set_at q (Some v) = (q, v) ∷ []

-- e ends, after this request was put, and this task, if there is one, starts
abbrev pub end_change : ℕ → Option ℕ → Option ℕ → Change
end_change e x t = record { starts = t; leaves = Some e; asks = x; ends = Some e; takes = t; puts = x; gets = None; releases = None }

-- a request is put
abbrev pub added : ℕ → Change
added x = record { starts = None; leaves = None; asks = Some x; ends = None; takes = None; puts = Some x; gets = None; releases = None }

-- a request starts at once
abbrev pub pushed : ℕ → Change
pushed x = record { starts = Some x; leaves = None; asks = Some x; ends = None; takes = None; puts = None; gets = None; releases = None }

-- e takes the resource r
abbrev pub got : ℕ → ℕ → Change
got e r = record { starts = None; leaves = None; asks = None; ends = None; takes = None; puts = None; gets = Some (e, r); releases = None }

-- e releases the resource r, and this task, if there is one, starts
abbrev pub released : ℕ → ℕ → Option ℕ → Change
released e r t = record { starts = t; leaves = None; asks = None; ends = None; takes = t; puts = None; gets = None; releases = Some (e, r) }

-- whether an entity is on the stack after a change, where that changes
abbrev pub on_set : Change → ℕ → Option Term
on_set c x = if is_it c.starts x then Some (Const 1) else (if is_it c.leaves x then Some (Const 0) else None)

-- whether a resource is held after it
abbrev pub held_set : Change → ℕ → Option Term
held_set c r =
    if is_second c.gets r then Some (Const 1) else (if is_second c.releases r then Some (Const 0) else None)

module _ (app : Setting) (plan : Plan) where
  -- the value of a slot
  abbrev pub cell : Slot → Term
  cell s = Cell (plan.place s) false

  -- the requests of a task, of which there are at most 8, with one more
  abbrev pub more : ℕ → Term
  more t = if app.limit t == 1 then Const 1 else Bin bin.And (Bin bin.Add (cell (Count t)) (Const 1)) (Const 15)

  -- and with one less
  abbrev pub fewer : ℕ → Term
  fewer t = if app.limit t == 1 then Const 0 else Bin bin.And (Bin bin.Sub (cell (Count t)) (Const 1)) (Const 15)

  -- the requests of a task after a change
  abbrev pub count_set : Change → ℕ → Option Term
  count_set c t =
      if is_it c.asks t
      then (if is_it c.ends t then None else Some (more t))
      else (if is_it c.ends t then Some (fewer t) else None)

  -- what stands at place i of a level's requests after the first was taken
  abbrev pub taken_at : ℕ → ℕ → Term
  taken_at l i = if nat_lt (i + 1) (plan.room l) then cell (Waits l (i + 1)) else Const 0

  -- the mark m at an empty place, which is the first one that is empty where the place before it isn't
  abbrev pub empty_place : ℕ → ℕ → ℕ → Term
  empty_place l zero m = Const m
  empty_place l (suc i) m = Choose (cell (Waits l i)) (Const m) (Const 0)

  -- what stands at place i after the mark m was put last
  abbrev pub put_at : ℕ → ℕ → ℕ → Term
  put_at l i m = Choose (cell (Waits l i)) (cell (Waits l i)) (empty_place l i m)

  -- and after both
  abbrev pub shifted_at : ℕ → ℕ → ℕ → Term
  shifted_at l i m = Choose (taken_at l i) (taken_at l i) (Choose (cell (Waits l i)) (Const m) (Const 0))

  -- what stands at place i of a level's requests after a change
  abbrev pub waits_set : Change → ℕ → ℕ → Option Term
  waits_set c l i =
      if is_level app c.takes l
      then (if is_level app c.puts l then Some (shifted_at l i (mark_of plan c.puts)) else Some (taken_at l i))
      else (if is_level app c.puts l then Some (put_at l i (mark_of plan c.puts)) else None)

  -- what stands at place i of an entity's resources after r was taken; the resource r stands as r + 1
  abbrev pub pushed_at : ℕ → ℕ → ℕ → Term
  pushed_at e r zero = Const (r + 1)
  pushed_at e r (suc i) = cell (Kept e i)

  -- and after the last one was released
  abbrev pub popped_at : ℕ → ℕ → Term
  popped_at e i = if nat_lt (i + 1) plan.resources then cell (Kept e (i + 1)) else Const 0

  -- what stands at place i of an entity's resources after a change
  abbrev pub kept_set : Change → ℕ → ℕ → Option Term
  kept_set c e i =
      if is_first c.gets e
      then Some (pushed_at e (second_of c.gets) i)
      else (if is_first c.releases e then Some (popped_at e i) else None)

  -- the sets of a change that are of resources
  abbrev pub resource_sets : Change → List (ℕ × Term)
  resource_sets c =
      collect plan.resources (λ r. set_at (plan.place (Held r)) (held_set c r))
      ++ collect plan.tasks (λ e. collect plan.resources (λ i. set_at (plan.place (Kept e i)) (kept_set c e i)))

  -- those that are of the stack and the requests
  abbrev pub base_sets : Change → List (ℕ × Term)
  base_sets c =
      collect plan.tasks (λ x. set_at (plan.place (On x)) (on_set c x))
      ++ (collect plan.tasks (λ t. set_at (plan.place (Count t)) (count_set c t))
      ++ collect (app.top + 1) (λ l. collect (plan.room l) (λ i. set_at (plan.place (Waits l i)) (waits_set c l i))))

  -- all sets of a change
  abbrev pub change_sets : Change → List (ℕ × Term)
  change_sets c = base_sets c ++ resource_sets c

  -- no request waits at this level
  abbrev pub none_at : ℕ → Term
  none_at l = negated (cell (Waits l 0))

  -- this task is the first that waits at its level
  abbrev pub first_is : ℕ → Term
  first_is t = Bin bin.Eq (cell (Waits (app.level t) 0)) (Const (plan.mark t))

  -- the same after this request was put last
  abbrev pub none_after : Option ℕ → ℕ → Term
  none_after x l = if is_level app x l then Const 0 else none_at l

  -- and so
  abbrev pub first_after : Option ℕ → ℕ → Term
  first_after x t = if is_it x t then either (none_at (app.level t)) (first_is t) else first_is t

  -- no task below this number whose level is above this one waits, after this request was put
  abbrev pub none_above : Option ℕ → ℕ → ℕ → Term
  none_above x l zero = Const 1
  none_above x l (suc u) =
      if nat_lt l (app.level u) then both (none_after x (app.level u)) (none_above x l u) else none_above x l u

  -- of the slots below this number none that is tested is set
  abbrev pub none_of : (ℕ → Slot) → (ℕ → Bool) → ℕ → Term
  none_of slot test zero = Const 1
  none_of slot test (suc u) =
      if test u then both (negated (cell (slot u))) (none_of slot test u) else none_of slot test u

  -- the entity u runs at level l or above, and its own level is below h
  abbrev pub runs_at : ℕ → ℕ → ℕ → Bool
  runs_at l h u = nat_le l (app.run_level u) && nat_lt (app.level u) h

  -- the ceiling of the resource r is l or above, and below h
  abbrev pub ceiling_at : ℕ → ℕ → ℕ → Bool
  ceiling_at l h r = nat_le l (app.ceiling r) && nat_lt (app.ceiling r) h

  -- none of these is on the stack, and none of these is held
  abbrev pub none_between : ℕ → ℕ → Term
  none_between l h = both (none_of On (runs_at l h) plan.tasks) (none_of Held (ceiling_at l h) plan.resources)

  -- the task t starts where e ends, after this request was put
  abbrev pub may_start : ℕ → Option ℕ → ℕ → Term
  may_start e x t =
      both (first_after x t) (both (none_above x (app.level t) plan.tasks) (none_between (app.level t) (app.level e)))

  -- the rule by which it does
  abbrev pub start_rule : ℕ → Option ℕ → ℕ → Rule
  start_rule e x t = plain (may_start e x t) (change_sets (end_change e x (Some t))) (PopPush (plan.number t 0))

  -- the request isn't of a higher level than t
  abbrev pub no_lower : Option ℕ → ℕ → Bool
  no_lower None t = true
  no_lower (Some x) t = nat_le (app.level x) (app.level t)

  -- where e ends, t may be the one to start: nobody waits above e's run level but the request, and nobody starts below it
  abbrev pub may_follow : ℕ → Option ℕ → ℕ → Bool
  may_follow e x t = (nat_le (app.level t) (app.run_level e) || is_it x t) && no_lower x t

  -- the rules of the tasks below this number, the greatest first
  abbrev pub start_rules : ℕ → Option ℕ → ℕ → List Rule
  start_rules e x zero = []
  start_rules e x (suc t) = if may_follow e x t then start_rule e x t ∷ start_rules e x t else start_rules e x t

  -- the rules of an end: a task starts, or the one below goes on
  abbrev pub end_rules : ℕ → Option ℕ → List Rule
  end_rules e x = start_rules e x plan.tasks ++ plain (Const 1) (change_sets (end_change e x None)) Pop ∷ []

  -- the entity goes on at the first next that isn't 0 after its own sets
  abbrev pub next_rules : (ℕ → Width) → List (ℕ × Term) → List (ℕ × Term) → (ℕ → Control) → List (Term × ℕ) → List Rule
  next_rules width own sets control [] = []
  next_rules width own sets control (x ∷ xs) =
      plain (tested (after width own x.0)) (own ++ sets) (control x.1) ∷ next_rules width own sets control xs

  -- a task has as many requests as it may have
  abbrev pub full : ℕ → Term
  full t = Bin bin.LeU (Const (app.limit t)) (cell (Count t))

  -- so it has without one of e
  abbrev pub full_others : ℕ → ℕ → Term
  full_others e t = if t == e then Const 0 else full t

  -- no resource is held whose ceiling is l or above
  abbrev pub none_held : ℕ → Term
  none_held l = none_of Held (λ r. nat_le l (app.ceiling r)) plan.resources

  -- the same without the resource r
  abbrev pub none_held_but : ℕ → ℕ → Term
  none_held_but r l = none_of Held (λ q. not (q == r) && nat_le l (app.ceiling q)) plan.resources

  -- the request of x waits
  abbrev pub added_rules : (ℕ → Width) → ℕ → ℕ → List (Term × ℕ) → List Rule
  added_rules width e x nexts = next_rules width [] (change_sets (added x)) (λ n. Goto (plan.number e n)) nexts

  -- the request of x starts at once where its level is above the current one, and else it waits
  abbrev pub activate_rules : (ℕ → Width) → ℕ → ℕ → List (Term × ℕ) → List Rule
  activate_rules width e x nexts =
      if nat_lt (app.run_level e) (app.level x)
      then guarded (none_held (app.level x)) (next_rules width [] (change_sets (pushed x)) (λ n. Push (plan.number e n) (plan.number x 0)) nexts)
      ++ added_rules width e x nexts
      else added_rules width e x nexts

  -- the task t starts where e releases r
  abbrev pub may_push : ℕ → ℕ → Term
  may_push r t = both (first_is t) (both (none_above None (app.level t) plan.tasks) (none_held_but r (app.level t)))

  -- the rules of the tasks below this number, the greatest first
  abbrev pub push_rules : (ℕ → Width) → ℕ → ℕ → List (Term × ℕ) → ℕ → List Rule
  push_rules width e r nexts zero = []
  push_rules width e r nexts (suc t) =
      if nat_lt (app.run_level e) (app.level t) && nat_le (app.level t) (app.ceiling r)
      then guarded (may_push r t) (next_rules width [] (change_sets (released e r (Some t))) (λ n. Push (plan.number e n) (plan.number t 0)) nexts)
      ++ push_rules width e r nexts t
      else push_rules width e r nexts t

  -- the rules of a release: a task starts, or e goes on
  abbrev pub release_rules : (ℕ → Width) → ℕ → ℕ → List (Term × ℕ) → List Rule
  release_rules width e r nexts =
      push_rules width e r nexts plan.tasks
      ++ next_rules width [] (change_sets (released e r None)) (λ n. Goto (plan.number e n)) nexts

  -- the rules of a service of e that has no error
  abbrev pub service_rules : (ℕ → Width) → ℕ → Service → List (Term × ℕ) → List Rule
  service_rules width e (Activate x) nexts = activate_rules width e x.0 nexts
  service_rules width e Terminate nexts = end_rules e None
  service_rules width e (Chain x) nexts = end_rules e (Some x.0)
  service_rules width e (Get r) nexts = next_rules width [] (change_sets (got e r)) (λ n. Goto (plan.number e n)) nexts
  service_rules width e (Release r) nexts = release_rules width e r nexts
  service_rules width e _ nexts = []

  -- the resource that e took last, with 1 added, and 0 without one
  abbrev pub last_kept : ℕ → Term
  last_kept e = if nat_lt 0 plan.resources then cell (Kept e 0) else Const 0

  -- a service of e has an error
  abbrev pub service_error : ℕ → Service → Term
  service_error e (Activate x) = full x.0
  service_error e Terminate = last_kept e
  service_error e (Chain x) = either (last_kept e) (full_others e x.0)
  service_error e (Get r) = cell (Held r)
  service_error e (Release r) = negated (Bin bin.Eq (last_kept e) (Const (r + 1)))
  service_error e _ = Const 0

  -- the entity goes on after its own sets
  abbrev pub goes_on : (ℕ → Width) → ℕ → List (ℕ × Term) → List (Term × ℕ) → List Rule
  goes_on width e own nexts = next_rules width own [] (λ n. Goto (plan.number e n)) nexts

  -- the rules of an action of e that doesn't fail
  abbrev pub action_rules : (ℕ → Width) → ℕ → PlainAction → List (Term × ℕ) → List Rule
  action_rules width e (Read t into) nexts =
      goes_on width e ((into, Pick t.base t.len false (index_term t.index)) ∷ []) nexts
  action_rules width e (Write t v) nexts = goes_on width e (write_sets t.base (index_term t.index) v t.len) nexts
  action_rules width e (Local q v) nexts = goes_on width e ((q, v) ∷ []) nexts
  action_rules width e (Branch v) nexts = goes_on width e [] nexts
  action_rules width e (Input q) nexts = []
  action_rules width e (Call f sets) nexts = goes_on width e sets nexts
  action_rules width e (Return s) nexts = goes_on width e (return_sets s) nexts
  action_rules width e (Invoke s) nexts = service_rules width e s nexts
  action_rules width e (Assert v) nexts = goes_on width e [] nexts
  action_rules width e End nexts = []

  -- an action of e fails
  abbrev pub action_error : ℕ → PlainAction → Term
  action_error e (Invoke s) = service_error e s
  action_error e (Assert v) = negated v
  action_error e End = Const 1
  action_error e _ = Const 0

  -- the rules of a point of e, a failure first
  abbrev pub point_rules : (ℕ → Width) → ℕ → PlainPoint → List Rule
  point_rules width e p =
      plain (either (any_of p.traps) (action_error e p.action)) [] Fail ∷ action_rules width e p.action p.nexts

  -- the alternatives of a point of e
  abbrev pub point_alternatives : (ℕ → Width) → ℕ → PlainPoint → List PlainAlternative
  point_alternatives width e p = alternatives (plan.label e) (Const 1) 0 (point_rules width e p)
