-- The things that are to be done, and where they stand in the code.
use Rattle.std.proofs.Common.{◌≡◌, ℕ, ◌+◌, ◌≤◌, Bool, true, false, ◌||◌, ◌==◌, List, [], ◌∷◌, Option, Some, None, IsTrue, refl, subst}
use Rattle.chk_base.specs.declared.word.Width.{Width}
use Rattle.step_ir.specs.Points.{PlainPoint}
use Rattle.lower_law.specs.Typed.{CType}
use Rattle.lower_law.specs.Items.{sites_all, items_all}
use Rattle.lower_law.specs.FitsBody.{learn, learn_into, known_after, is_return, is_block, ends_in_return, FitsSt, FitsBl, FitsTo}
use Rattle.lower_law.specs.Statements.{CellStatement, Set, Write, WriteAt, If, Loop, Assert, Input, Call, Return, Serve, Block, CellBlock, Nil, Cons, CellFunction, CellUnit, questions, room, rooms_to}
use Rattle.lower_law.specs.EntityStep.{Todo, open_one, open_all}
use Rattle.lower_law.specs.Lowered.{Nexts, Context, always, entry, size, entry_one, entry_all, leaving, points_one, points_all, plan_to}
use Rattle.lower_law.proofs.Things.{Stands, stands_front, stands_back}
use Rattle.lower_law.proofs.Sizes.{AreSized, length_one, sized_to}

-- a body under way
pub record Body : Type 0 where
  pub ctx : Context
  pub depth : ℕ
  pub fn : CellFunction

-- what is known stays known
pub record Sub (known more : ℕ → Bool) : Type 0 where
  pub by : (i : ℕ) → IsTrue (known i) → IsTrue (more i)

pub sub_here : (known : ℕ → Bool) → Sub known known
sub_here known = record { by = λ i h. h }

pub sub_on : {a b c : ℕ → Bool} → Sub a b → Sub b c → Sub a c
sub_on s t = record { by = λ i h. t.by i (s.by i h) }

or_right : (b : Bool) {c : Bool} → IsTrue c → IsTrue (b || c)
or_right true h = refl
or_right false h = h

sub_learn : (known : ℕ → Bool) (at : ℕ) → Sub known (learn known at)
sub_learn known at = record { by = λ i h. or_right (i == at) h }

pub sub_into : (known : ℕ → Bool) (into : Option (ℕ × CType)) → Sub known (learn_into known into)
sub_into known None = sub_here known
sub_into known (Some a) = sub_learn known a.0

pub sub_after : (known : ℕ → Bool) (s : CellStatement) → Sub known (known_after known s)
sub_after known (Set p at t e) = sub_learn known at
sub_after known (Write p c t e) = sub_here known
sub_after known (WriteAt p c len t i e) = sub_here known
sub_after known (If p c a b) = sub_here known
sub_after known (Loop p c x y) = sub_here known
sub_after known (Assert p e) = sub_here known
sub_after known (Input p at t) = sub_learn known at
sub_after known (Call p f args into) = sub_into known into
sub_after known (Return p e) = sub_here known
sub_after known (Serve p s) = sub_here known
sub_after known (Block b) = sub_here known

-- nothing comes after a return
abbrev pub Tail : Bool → Type 0 → Type 0
Tail true P = Unit {0}
Tail false P = P

pub tail_of : {P : Type 0} (b : Bool) → P → Tail b P
tail_of true p = tt
tail_of false p = p

tail_map : {P Q : Type 0} (b : Bool) → (P → Q) → Tail b P → Tail b Q
tail_map true f t = tt
tail_map false f t = f t

module _ (lo : ℕ) (width : ℕ → Width) (globals : ℕ) (number : ℕ → ℕ) (code : ℕ → Option PlainPoint) (temp top : ℕ) (unit : CellUnit) where
  abbrev pub FitsHere : Body → (ℕ → Bool) → ℕ → CellStatement → Type 0
  FitsHere b known cell s =
      FitsSt width globals temp top (rooms_to unit b.depth) (FitsTo width globals temp top unit b.depth) b.ctx.base b.fn.locals b.fn.gives known cell s

  abbrev pub FitsBlock : Body → (ℕ → Bool) → ℕ → CellBlock → Type 0
  FitsBlock b known cell bl =
      FitsBl width globals temp top (rooms_to unit b.depth) (FitsTo width globals temp top unit b.depth) b.ctx.base b.fn.locals b.fn.gives known cell bl

  abbrev pub points_here : Body → ℕ → ℕ → CellStatement → Nexts → List PlainPoint
  points_here b at cell s after = points_one number temp unit.fun (rooms_to unit b.depth) (plan_to number temp unit b.depth) b.ctx at cell s after

  abbrev pub points_block : Body → ℕ → ℕ → CellBlock → Nexts → List PlainPoint
  points_block b at cell bl after = points_all number temp unit.fun (rooms_to unit b.depth) (plan_to number temp unit b.depth) b.ctx at cell bl after

  abbrev pub entry_here : Body → ℕ → CellStatement → Nexts → Nexts
  entry_here b at s after = entry_one number temp unit.fun (rooms_to unit b.depth) (plan_to number temp unit b.depth) b.ctx.base at s after

  abbrev pub entry_block : Body → ℕ → CellBlock → Nexts → Nexts
  entry_block b at bl after = entry_all number temp unit.fun (rooms_to unit b.depth) (plan_to number temp unit b.depth) b.ctx.base at bl after

  abbrev pub size_here : Body → CellStatement → ℕ
  size_here b s = size number temp unit.fun (rooms_to unit b.depth) (plan_to number temp unit b.depth) s

  -- a thing stands in the code, and fits where these locals are known
  pub record Placed (b : Body) (known k0 : ℕ → Bool) (at : ℕ) (after : Nexts) (cell : ℕ) (s : CellStatement) (e : Nexts) : Type 0 where
    pub plain : is_block s ≡ false
    pub sub : Sub k0 known
    pub is : e ≡ entry number at (items_all b.ctx.base temp (questions s))
    pub stands : Stands lo number code at (points_here b at cell s after)
    pub fits : FitsHere b k0 cell s
    pub sites : temp + sites_all (questions s) ≤ top
    pub room : b.ctx.base + b.fn.locals ≤ cell

  -- the end of a body
  abbrev pub Closes : Bool → Body → Nexts → Type 0
  Closes true b e = ⊥
  Closes false b e =
      (at : ℕ) × (e ≡ always number at) × (code (number at) ≡ Some (record { place = b.fn.close; action = leaving b.ctx.inner None; traps = []; nexts = b.ctx.after }))

  -- the things begin where e leads
  abbrev pub Follows : Body → (ℕ → Bool) → Todo → Nexts → Type 0
  Follows b known [] e = Closes b.fn.gives b e
  Follows b known (x ∷ rest) e =
      (k0 : ℕ → Bool) × (at : ℕ) × (after : Nexts) × Placed b known k0 at after x.0 x.1 e × Tail (is_return x.1) (Follows b (known_after k0 x.1) rest after)

  pub follows_more : (b : Body) (known more : ℕ → Bool) (todo : Todo) (e : Nexts) → Sub known more → Follows b known todo e → Follows b more todo e
  follows_more b known more [] e s f = f
  follows_more b known more (x ∷ rest) e s f =
      (f.0, f.1, f.2, record { plain = f.3.plain; sub = sub_on f.3.sub s; is = f.3.is; stands = f.3.stands; fits = f.3.fits; sites = f.3.sites; room = f.3.room }, f.4)

  module _ (b : Body) where
    Rest : (ℕ → Bool) → Todo → Nexts → Type 0
    Rest known rest after = (more : ℕ → Bool) → Sub known more → Follows b more rest after

    sized : AreSized (plan_to number temp unit b.depth)
    sized = sized_to number temp unit b.depth

    one_thing : (s : CellStatement) (known : ℕ → Bool) (at cell : ℕ) (after : Nexts) (rest : Todo) → is_block s ≡ false → entry_here b at s after ≡ entry number at (items_all b.ctx.base temp (questions s)) → Stands lo number code at (points_here b at cell s after) → FitsHere b known cell s → temp + sites_all (questions s) ≤ top → b.ctx.base + b.fn.locals ≤ cell → Tail (is_return s) (Follows b (known_after known s) rest after) → (more : ℕ → Bool) → Sub known more → Follows b more ((cell, s) ∷ rest) (entry_here b at s after)
    one_thing s known at cell after rest pl e st f si ro t more sub =
        (known, at, after, record { plain = pl; sub = sub; is = e; stands = st; fits = f; sites = si; room = ro }, t)

    mutual
      opened_one : (s : CellStatement) (known : ℕ → Bool) (at cell : ℕ) (after : Nexts) (rest : Todo) → Stands lo number code at (points_here b at cell s after) → FitsHere b known cell s → temp + sites_all (questions s) ≤ top → b.ctx.base + b.fn.locals ≤ cell → Tail (is_return s) ((more : ℕ → Bool) → Sub (known_after known s) more → Follows b more rest after) → (more : ℕ → Bool) → Sub known more → Follows b more (open_one (rooms_to unit b.depth) s cell rest) (entry_here b at s after)
      opened_one (Block bl) known at cell after rest st f si ro t more sub = opened_all bl known at cell after rest st f (tail_of (ends_in_return bl) t) more sub
      opened_one (Set p at' ty e) known at cell after rest st f si ro t more sub = one_thing (Set p at' ty e) known at cell after rest refl refl st f si ro (t (learn known at') (sub_here (learn known at'))) more sub
      opened_one (Write p c ty e) known at cell after rest st f si ro t more sub = one_thing (Write p c ty e) known at cell after rest refl refl st f si ro (t known (sub_here known)) more sub
      opened_one (WriteAt p c len ty i e) known at cell after rest st f si ro t more sub = one_thing (WriteAt p c len ty i e) known at cell after rest refl refl st f si ro (t known (sub_here known)) more sub
      opened_one (If p c x y) known at cell after rest st f si ro t more sub = one_thing (If p c x y) known at cell after rest refl refl st f si ro (t known (sub_here known)) more sub
      opened_one (Loop p c x y) known at cell after rest st f si ro t more sub = one_thing (Loop p c x y) known at cell after rest refl refl st f si ro (t known (sub_here known)) more sub
      opened_one (Assert p e) known at cell after rest st f si ro t more sub = one_thing (Assert p e) known at cell after rest refl refl st f si ro (t known (sub_here known)) more sub
      opened_one (Input p at' ty) known at cell after rest st f si ro t more sub = one_thing (Input p at' ty) known at cell after rest refl refl st f si ro (t (learn known at') (sub_here (learn known at'))) more sub
      opened_one (Call p g args into) known at cell after rest st f si ro t more sub = one_thing (Call p g args into) known at cell after rest refl refl st f si ro (t (learn_into known into) (sub_here (learn_into known into))) more sub
      opened_one (Return p e) known at cell after rest st f si ro t more sub = one_thing (Return p e) known at cell after rest refl refl st f si ro tt more sub
      opened_one (Serve p s) known at cell after rest st f si ro t more sub = one_thing (Serve p s) known at cell after rest refl refl st f si ro (t known (sub_here known)) more sub

      -- the things of a block, before others that go on where it ends
      pub opened_all : (bl : CellBlock) (known : ℕ → Bool) (at cell : ℕ) (after : Nexts) (rest : Todo) → Stands lo number code at (points_block b at cell bl after) → FitsBlock b known cell bl → Tail (ends_in_return bl) ((more : ℕ → Bool) → Sub known more → Follows b more rest after) → (more : ℕ → Bool) → Sub known more → Follows b more (open_all (rooms_to unit b.depth) bl cell rest) (entry_block b at bl after)
      opened_all Nil known at cell after rest st f t more sub = t more sub
      opened_all (Cons s Nil) known at cell after rest st f t more sub =
          opened_one s known at cell after rest (stands_front lo number code (points_here b at cell s after) [] at st) f.0 f.1 f.2 (tail_map (is_return s) (λ g k u. g k (sub_on (sub_after known s) u)) t) more sub
      opened_all (Cons s (Cons s2 bl)) known at cell after rest st f t more sub =
          let here = size_here b s in
          let after1 = entry_block b (at + here) (Cons s2 bl) after in
          let cell1 = cell + room (rooms_to unit b.depth) s in
          let xs = points_here b at cell s after1 in
          let ys = points_block b (at + here) cell1 (Cons s2 bl) after in
          let back = subst (λ n. Stands lo number code (at + n) ys) (length_one number temp unit.fun (rooms_to unit b.depth) (plan_to number temp unit b.depth) sized s b.ctx at cell after1) (stands_back lo number code xs ys at st) in
          opened_one s known at cell after1 (open_all (rooms_to unit b.depth) (Cons s2 bl) cell1 rest) (stands_front lo number code xs ys at st) f.0 f.1 f.2
          (tail_of (is_return s) (opened_all (Cons s2 bl) (known_after known s) (at + here) cell1 after rest back f.3 (tail_map (ends_in_return (Cons s2 bl)) (λ g k u. g k (sub_on (sub_after known s) u)) t))) more sub
