-- EntityStep: what a task or a routine does over the typed unit.
use Rattle.std.specs.Prelude.{ℕ, pred, ◌+◌, ◌%◌, if◌then◌else◌, List, [], ◌∷◌, ◌++◌, Option, Some, None}
use Rattle.chk_base.specs.declared.place.Place.{Place}
use Rattle.chk_base.specs.Operators.{truth}
use Rattle.chk_base.specs.Widths.{PlainWord, limit_of}
use Rattle.step_ir.specs.declared.event.EventAction.TheVariants as Told
use Rattle.step_ir.specs.EntityStep.{After, Want, Does, Inputs, Calls, Ends, Fails, Behaviour}
use Rattle.step_ir.specs.Numbers.{put}
use Rattle.step_ir.specs.PointStep.{Bits, nowhere}
use Rattle.step_ir.specs.Services.{fault}
use Rattle.lower_law.specs.Typed.{CType}
use Rattle.lower_law.specs.Ask.{Answer, Wants, Traps, Value, converted, ask_all}
use Rattle.lower_law.specs.Statements.{CellStatement, Set, Write, WriteAt, If, Loop, Assert, Input, Call, Return, Serve, Block, CellBlock, Nil, Cons, CellFunction, CellUnit, questions, place_of, room, room_all, rooms_to}

-- the things to do, each with the first cell of the calls in it
abbrev pub Todo : Type 0
Todo = List (ℕ × CellStatement)

module _ (rooms : ℕ → ℕ) where
  -- the things of a statement, or of a block, before others; blocks leave no thing
  abbrev mutual
    pub open_one : CellStatement → ℕ → Todo → Todo
    open_one (Block b) cell rest = open_all b cell rest
    open_one s cell rest = (cell, s) ∷ rest

    pub open_all : CellBlock → ℕ → Todo → Todo
    open_all Nil cell rest = rest
    open_all (Cons s b) cell rest = open_one s cell (open_all b (cell + room rooms s) rest)

-- a call under way, or the body itself: its things, its locals with the number of the first one's cell, how deep calls nest in it, and the caller's local that takes the result
pub record Frame : Type 0 where
  pub todo : Todo
  pub close : Place
  pub base : ℕ
  pub depth : ℕ
  pub locals : ℕ → ℕ
  pub into : Option (ℕ × CType)

-- an entity under way: its calls, the innermost first, and the values that the front thing has read so far
pub record Working : Type 0 where
  pub frames : List Frame
  pub got : List ℕ

-- a value as a word of a type
abbrev pub word_of : CType → ℕ → PlainWord
word_of t n = record { width = t.width; bits = n % limit_of t.width }

-- the first values are those of the parameters, the first of which is the local k, and the rest is 0
abbrev pub parameters : List CType → List ℕ → ℕ → (ℕ → ℕ)
parameters (t ∷ ts) (x ∷ xs) k = put (parameters ts xs (k + 1)) k (word_of t x).bits
parameters _ _ k = λ i. 0

-- the first value, and the second
abbrev pub first_of : List ℕ → ℕ
first_of [] = 0
first_of (x ∷ xs) = x

abbrev pub second_of : List ℕ → ℕ
second_of [] = 0
second_of (x ∷ xs) = first_of xs

-- the first value, if there is an expression
abbrev pub only : {A : Type 0} → Option A → List ℕ → Option ℕ
only None xs = None
only (Some e) xs = Some (first_of xs)

-- a frame whose things are these
abbrev pub with_todo : Frame → Todo → Frame
with_todo f todo = record f { todo = todo }

-- a frame whose local has these bits
abbrev pub with_local : Frame → ℕ → ℕ → Frame
with_local f at bits = record f { locals = put f.locals at bits }

-- after a completed thing nothing is read
abbrev pub at_rest : List Frame → Bits → After Working Bits
at_rest frames g = record { state = record { frames = frames; got = [] }; globals = g }

-- the end of a call, with a value or without; the local that takes the result is set to it, converted
abbrev pub leave : List Frame → Option (ℕ × CType) → Option ℕ → Bits → Want Working Bits
leave [] into x g = Ends
leave (f ∷ fs) (Some a) (Some x) g =
    let w = word_of a.1 (converted a.1 x) in
    Does (Told.Return (Some (f.base + a.0, w))) (at_rest (with_local f a.0 w.bits ∷ fs) g)
leave (f ∷ fs) _ _ g = Does (Told.Return None) (at_rest (f ∷ fs) g)

module _ (unit : CellUnit) where
  -- a body at its beginning
  abbrev pub begin : CellFunction → ℕ → ℕ → (ℕ → ℕ) → Option (ℕ × CType) → Frame
  begin f depth base locals into =
      record {
        todo = open_all (rooms_to unit depth) f.body (base + f.locals) [];
        close = f.close;
        base = base;
        depth = depth;
        locals = locals;
        into = into;
      }

  -- all expressions have values: the completing step, by the table of statements
  abbrev pub complete : CellStatement → ℕ → Todo → Frame → List Frame → List ℕ → Bits → Want Working Bits
  complete (Set p at t e) cell rest f fs xs g =
      let w = word_of t (first_of xs) in
      Does (Told.Local (f.base + at) w) (at_rest (with_local (with_todo f rest) at w.bits ∷ fs) g)
  complete (Write p c t e) cell rest f fs xs g =
      let w = word_of t (first_of xs) in
      Does (Told.Write c w) (at_rest (with_todo f rest ∷ fs) (put g c w.bits))
  complete (WriteAt p c len t i e) cell rest f fs xs g =
      let w = word_of t (second_of xs) in
      Does (Told.Write (c + first_of xs) w) (at_rest (with_todo f rest ∷ fs) (put g (c + first_of xs) w.bits))
  complete (If p c on off) cell rest f fs xs g =
      let rooms = rooms_to unit f.depth in
      Does (Told.Branch (truth (first_of xs))) (at_rest (with_todo f (if truth (first_of xs) then open_all rooms on cell rest else open_all rooms off (cell + room_all rooms on) rest) ∷ fs) g)
  complete (Loop p c third body) cell rest f fs xs g =
      let rooms = rooms_to unit f.depth in
      Does (Told.Branch (truth (first_of xs))) (at_rest (with_todo f (if truth (first_of xs) then open_all rooms body (cell + room_all rooms third) (open_all rooms third cell ((cell, Loop p c third body) ∷ rest)) else rest) ∷ fs) g)
  complete (Assert p e) cell rest f fs xs g =
      if truth (first_of xs) then Does Told.Assert (at_rest (with_todo f rest ∷ fs) g) else Fails (fault 1)
  complete (Input p at t) cell rest f fs xs g =
      Inputs t.width (Told.Input (f.base + at)) (λ w. at_rest (with_local (with_todo f rest) at w.bits ∷ fs) g)
  complete (Call p k args into) cell rest f fs xs g =
      Does (Told.Call k) (at_rest (begin (unit.fun k) (pred f.depth) cell (parameters (unit.fun k).params xs 0) into ∷ with_todo f rest ∷ fs) g)
  complete (Return p e) cell rest f fs xs g = leave fs f.into (only e xs) g
  complete (Serve p s) cell rest f fs xs g = Calls s (at_rest (with_todo f rest ∷ fs) g)
  complete (Block b) cell rest f fs xs g = Ends

  -- a cell that is wanted is read, a failure comes, or the thing is completed
  abbrev pub goes : Answer (List ℕ) → CellStatement → ℕ → Todo → Frame → List Frame → List ℕ → Bits → Want Working Bits
  goes (Wants c w) s cell rest f fs got g =
      Does (Told.Read c (record { width = w; bits = g c })) (record { state = record { frames = f ∷ fs; got = got ++ g c ∷ [] }; globals = g })
  goes (Traps n) s cell rest f fs got g = Fails (fault n)
  goes (Value xs got') s cell rest f fs got g = complete s cell rest f fs xs g

  -- the front thing of the innermost call, or that call's end
  abbrev pub front : Todo → Frame → List Frame → List ℕ → Bits → Want Working Bits
  front [] f fs got g = leave fs f.into None g
  front (x ∷ rest) f fs got g = goes (ask_all (questions x.1) f.locals got) x.1 x.0 rest f fs got g

  abbrev pub wants_of : List Frame → List ℕ → Bits → Want Working Bits
  wants_of [] got g = Ends
  wants_of (f ∷ fs) got g = front f.todo f fs got g

  -- the place of the next step: that of the front thing, or of the closing brace
  abbrev pub place_first : Todo → Place → Place
  place_first [] close = close
  place_first (x ∷ rest) close = place_of x.1

  abbrev pub place_now : List Frame → Place
  place_now [] = nowhere
  place_now (f ∷ fs) = place_first f.todo f.close

  -- what entities do over a typed unit where calls nest at most so deep, and each entity's first cell is given
  abbrev pub of_unit : ℕ → (ℕ → ℕ) → Behaviour Working Bits
  of_unit depth first =
      record {
        start = λ e. record { frames = begin (unit.entity e) depth (first e) (λ i. 0) None ∷ []; got = [] };
        wants = λ e s g. wants_of s.frames s.got g;
        place = λ e s. place_now s.frames;
      }
