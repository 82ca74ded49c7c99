-- What ties an entity's frames to its point and cells.
use Rattle.std.proofs.Common.{◌≡◌, ℕ, ◌+◌, ◌<◌, ◌≤◌, Bool, true, false, List, [], ◌∷◌, Option, Some, None, IsTrue, refl, sym, ap, ◌∙◌, arith}
use Rattle.std.proofs.lemmas.Bool.Decides.{nat_tests}
use Rattle.chk_base.specs.declared.word.Width.{Width}
use Rattle.chk_base.specs.Term.{Term}
use Rattle.step_ir.specs.Points.{PlainAction, PlainPoint}
use Rattle.step_ir.specs.PointStep.{Bits, val, first, or_zero, set_all, stored}
use Rattle.step_ir.specs.Numbers.{put}
use Rattle.lower_law.specs.Typed.{CType}
use Rattle.lower_law.specs.Items.{terms_all, items_all}
use Rattle.lower_law.specs.FitsBody.{FitsAll, learn_into, known_after, is_return, is_block, FitsInto, Takes}
use Rattle.lower_law.specs.Statements.{CellStatement, Set, Write, WriteAt, If, Loop, Assert, Input, Call, Return, Serve, Block, CellFunction, CellUnit, questions, place_of, rooms_to}
use Rattle.lower_law.specs.EntityStep.{Todo, Frame}
use Rattle.lower_law.specs.Lowered.{Nexts, entry, own, own_points, action_of, nexts_of, leaving, moved, plan_to}
use Rattle.lower_law.proofs.Terms.{SameBelow}
use Rattle.lower_law.proofs.Lists.{ordered_all}
use Rattle.lower_law.proofs.Things.{Stands, stands_front, next_at, entry_first, next_same, IsQuiet, IsCalm, calm_of, Busy, begin_busy}
use Rattle.lower_law.proofs.Bodies.{Body, Tail, FitsHere, Placed, Closes, Follows, points_here}

-- where a frame's body stands: as a context without its base, and its function
pub record Where : Type 0 where
  pub inner : Bool
  pub after : Nexts
  pub into : Option (ℕ × CType)
  pub fn : CellFunction

abbrev pub body_of : Frame → Where → Body
body_of f w = record { ctx = record { base = f.base; inner = w.inner; after = w.after; into = w.into }; depth = f.depth; fn = w.fn }

quiet_end : (inner : Bool) (set : Option (ℕ × Term)) → IsQuiet (leaving inner set)
quiet_end true set = tt
quiet_end false set = tt

module _ (lo : ℕ) (width : ℕ → Width) (globals : ℕ) (number : ℕ → ℕ) (code : ℕ → Option PlainPoint) (temp top : ℕ) (unit : CellUnit) where
  -- the known locals are in their cells
  pub record Near (f : Frame) (fn : CellFunction) (known : ℕ → Bool) (own : Bits) : Type 0 where
    pub close : f.close ≡ fn.close
    pub agrees : (i : ℕ) → IsTrue (known i) → f.locals i ≡ own (f.base + i)
    pub under : (i : ℕ) → IsTrue (known i) → i < fn.locals
    pub low : lo ≤ f.base
    pub room : f.base + fn.locals ≤ temp

  pub near_on : (f : Frame) (fn : CellFunction) (known : ℕ → Bool) (own own' : Bits) (n : ℕ) → f.base + fn.locals ≤ n → Near f fn known own → SameBelow lo n own own' → Near f fn known own'
  near_on f fn known own own' n le r s =
      record {
        close = r.close;
        agrees = λ i k. r.agrees i k ∙ sym (s.at (f.base + i) (let h = r.low in omega arith) (let h = r.under i k in omega arith));
        under = r.under;
        low = r.low;
        room = r.room;
      }

  -- the calls below a frame with this base and this local for the result
  pub record Caller (base : ℕ) (into : Option (ℕ × CType)) (v : Where) (f : Frame) (w : Where) (known : ℕ → Bool) (own : Bits) : Type 0 where
    pub inner : v.inner ≡ true
    pub moves : v.into ≡ moved f.base into
    pub takes : Takes v.fn.gives into
    pub near : Near f w.fn known own
    pub apart : f.base + w.fn.locals ≤ base
    pub follows : Follows lo width globals number code temp top unit (body_of f w) (learn_into known into) f.todo v.after
    pub fits : FitsInto width f.base w.fn.locals into

  abbrev pub Behind : ℕ → Option (ℕ × CType) → Where → List Frame → Bits → Type 0
  Behind base into v [] own = v.inner ≡ false
  Behind base into v (f ∷ fs) own = (w : Where) × (known : ℕ → Bool) × Caller base into v f w known own × Behind f.base f.into w fs own

  pub behind_on : (fs : List Frame) (base : ℕ) (into : Option (ℕ × CType)) (v : Where) (own own' : Bits) (n : ℕ) → base ≤ n → Behind base into v fs own → SameBelow lo n own own' → Behind base into v fs own'
  behind_on [] base into v own own' n le r s = r
  behind_on (f ∷ fs) base into v own own' n le r s =
      let c = r.2 in
      let a = c.apart in (
        r.0,
        r.1,
        record { inner = c.inner; moves = c.moves; takes = c.takes; near = near_on f r.0.fn r.1 own own' n (omega arith) c.near s; apart = a; follows = c.follows; fits = c.fits },
        behind_on fs f.base f.into r.0 own own' n (omega arith) r.3 s,
      )

  -- the thing in front is at work
  pub record AtWork (b : Body) (known k0 : ℕ → Bool) (at : ℕ) (after : Nexts) (cell : ℕ) (s : CellStatement) (got : List ℕ) (p : ℕ) (own own0 : Bits) : Type 0 where
    pub placed : Placed lo width globals number code temp top unit b known k0 at after cell s (entry number at (items_all b.ctx.base temp (questions s)))
    pub busy : Busy lo width number code temp top (place_of s) (action_of number temp unit.fun (rooms_to unit b.depth) (plan_to number temp unit b.depth) b.ctx cell s (terms_all b.ctx.base temp (questions s))) (nexts_of number temp unit.fun (rooms_to unit b.depth) (plan_to number temp unit b.depth) b.ctx at cell s (terms_all b.ctx.base temp (questions s)) after) (items_all b.ctx.base temp (questions s)) own0 got p own

  abbrev pub Front : Body → (ℕ → Bool) → Todo → List ℕ → ℕ → Bits → Type 0
  Front b known [] got p own =
      (at : ℕ) × (p ≡ number at) × (b.fn.gives ≡ false) × (code (number at) ≡ Some (record { place = b.fn.close; action = leaving b.ctx.inner None; traps = []; nexts = b.ctx.after }))
  Front b known (x ∷ rest) got p own =
      (k0 : ℕ → Bool) × (at : ℕ) × (after : Nexts) × (own0 : Bits) × AtWork b known k0 at after x.0 x.1 got p own own0
      × Tail (is_return x.1) (Follows lo width globals number code temp top unit b (known_after k0 x.1) rest after)

  -- the expressions of a thing fit, and its points stand
  pub fits_questions : (b : Body) (known : ℕ → Bool) (cell : ℕ) (s : CellStatement) → FitsHere lo width globals number code temp top unit b known cell s → FitsAll width globals known (questions s)
  fits_questions b known cell (Set p at t e) f = (f.0, tt)
  fits_questions b known cell (Write p c t e) f = (f.0, tt)
  fits_questions b known cell (WriteAt p c len t i e) f = (f.0, (f.1, tt))
  fits_questions b known cell (If p c x y) f = (f.0, tt)
  fits_questions b known cell (Loop p c x y) f = (f.0, tt)
  fits_questions b known cell (Assert p e) f = (f, tt)
  fits_questions b known cell (Input p at t) f = tt
  fits_questions b known cell (Call p g args into) f = f.0
  fits_questions b known cell (Return p e) f = f.0
  fits_questions b known cell (Serve p s) f = tt
  fits_questions b known cell (Block bl) f = tt

  abbrev pub own_here : Body → ℕ → ℕ → CellStatement → Nexts → List PlainPoint
  own_here b at cell s after = own_points number temp unit.fun (rooms_to unit b.depth) (plan_to number temp unit b.depth) b.ctx at cell s after

  own_stands : (b : Body) (at cell : ℕ) (s : CellStatement) (after : Nexts) → is_block s ≡ false → Stands lo number code at (points_here lo width globals number code temp top unit b at cell s after) → Stands lo number code at (own_here b at cell s after)
  own_stands b at cell (Set p at' t e) after n st = st
  own_stands b at cell (Write p c t e) after n st = st
  own_stands b at cell (WriteAt p c len t i e) after n st = st
  own_stands b at cell (If p c x y) after n st = stands_front lo number code (own_here b at cell (If p c x y) after) _ at st
  own_stands b at cell (Loop p c x y) after n st = stands_front lo number code (own_here b at cell (Loop p c x y) after) _ at st
  own_stands b at cell (Assert p e) after n st = st
  own_stands b at cell (Input p at' t) after n st = st
  own_stands b at cell (Call p g args into) after n st = stands_front lo number code (own_here b at cell (Call p g args into) after) _ at st
  own_stands b at cell (Return p e) after n st = st
  own_stands b at cell (Serve p s) after n st = st
  own_stands b at cell (Block bl) after n st = absurd (cc)

  abbrev act_here : Frame → Where → ℕ → CellStatement → PlainAction
  act_here f w cell s = action_of number temp unit.fun (rooms_to unit f.depth) (plan_to number temp unit f.depth) (body_of f w).ctx cell s (terms_all f.base temp (questions s))

  -- an input reads nothing
  calm_thing : (f : Frame) (w : Where) (cell : ℕ) (s : CellStatement) → IsCalm (action_of number temp unit.fun (rooms_to unit f.depth) (plan_to number temp unit f.depth) (body_of f w).ctx cell s (terms_all f.base temp (questions s))) (items_all f.base temp (questions s))
  calm_thing f w cell (Set p at t e) = calm_of (act_here f w cell (Set p at t e)) (items_all f.base temp (questions (Set p at t e))) tt
  calm_thing f w cell (Write p c t e) = calm_of (act_here f w cell (Write p c t e)) (items_all f.base temp (questions (Write p c t e))) tt
  calm_thing f w cell (WriteAt p c len t i e) = calm_of (act_here f w cell (WriteAt p c len t i e)) (items_all f.base temp (questions (WriteAt p c len t i e))) tt
  calm_thing f w cell (If p c x y) = calm_of (act_here f w cell (If p c x y)) (items_all f.base temp (questions (If p c x y))) tt
  calm_thing f w cell (Loop p c x y) = calm_of (act_here f w cell (Loop p c x y)) (items_all f.base temp (questions (Loop p c x y))) tt
  calm_thing f w cell (Assert p e) = calm_of (act_here f w cell (Assert p e)) (items_all f.base temp (questions (Assert p e))) tt
  calm_thing f w cell (Input p at t) = tt
  calm_thing f w cell (Call p g args into) = calm_of (act_here f w cell (Call p g args into)) (items_all f.base temp (questions (Call p g args into))) tt
  calm_thing f w cell (Return p e) = calm_of (act_here f w cell (Return p e)) (items_all f.base temp (questions (Return p e))) (quiet_end w.inner _)
  calm_thing f w cell (Serve p s) = tt
  calm_thing f w cell (Block bl) = tt

  module _ (f : Frame) (w : Where) (known : ℕ → Bool) (own bits : Bits) (near : Near f w.fn known own) (alike : SameBelow lo top own bits) (fit : temp ≤ top) where
    -- a thing begins where the entry leads
    pub fronted : (todo : Todo) (e : Nexts) (p : ℕ) → Follows lo width globals number code temp top unit (body_of f w) known todo e → p ≡ or_zero (first (val width bits) e) → Front (body_of f w) known todo [] p own
    fronted [] e p h q = closed w.fn.gives refl h where
      closed : (gives : Bool) → w.fn.gives ≡ gives → Closes lo width globals number code temp top unit gives (body_of f w) e → Front (body_of f w) known [] [] p own
      closed true g c = absurd c
      closed false g c = (c.0, q ∙ ap (λ e. or_zero (first (val width bits) e)) c.1, g, c.2)
    fronted (x ∷ rest) e p h q =
        let b = body_of f w in
        let k0 = h.0 in
        let at = h.1 in
        let after = h.2 in
        let pl = h.3 in
        let is = items_all f.base temp (questions x.1) in
        let lo_temp : (lo ≤ f.base) × (lo ≤ temp) = (near.low, let l = near.low in let r = near.room in omega arith) in
        let under : (i : ℕ) → IsTrue (k0 i) → f.base + i < temp = λ i k. let u = near.under i (pl.sub.by i k) in let r = near.room in omega arith in
        let o = ordered_all lo width globals f.base temp k0 under lo_temp top (questions x.1) temp (omega arith) (let s = pl.sites in s) (fits_questions b k0 x.0 x.1 pl.fits) in
        let st = own_stands b at x.0 x.1 after pl.plain pl.stands in
        let here = q ∙ ap (λ e. or_zero (first (val width bits) e)) pl.is ∙ ap or_zero (entry_first lo width number is at bits) ∙ ap number (next_same lo width top is at temp own bits o alike) in (
          k0,
          at,
          after,
          own,
          record {
            placed = record { plain = pl.plain; sub = pl.sub; is = refl; stands = pl.stands; fits = pl.fits; sites = pl.sites; room = pl.room };
            busy = begin_busy lo width number code temp top (place_of x.1) _ _ is own at p st o (calm_thing f w x.0 x.1) fit here;
          },
          h.4,
        )

  -- where a list of things begins, something comes first
  pub follows_first : (b : Body) (known : ℕ → Bool) (todo : Todo) (e : Nexts) (bits : Bits) → Follows lo width globals number code temp top unit b known todo e → (n : ℕ) × (first (val width bits) e ≡ Some n)
  follows_first b known [] e bits h = closed b.fn.gives h where
    closed : (gives : Bool) → Closes lo width globals number code temp top unit gives b e → (n : ℕ) × (first (val width bits) e ≡ Some n)
    closed true c = absurd c
    closed false c = (number c.0, ap (first (val width bits)) c.1)
  follows_first b known (x ∷ rest) e bits h =
      (number (next_at lo (val width bits) h.1 (items_all b.ctx.base temp (questions x.1))), ap (first (val width bits)) h.3.is ∙ entry_first lo width number (items_all b.ctx.base temp (questions x.1)) h.1 bits)

  -- ---- parameters
  pub set_all_alike : (ss : List (ℕ × Term)) (v : Term → ℕ) (n : ℕ) (own bits : Bits) → SameBelow lo n own bits → SameBelow lo n (set_all width v ss own) (set_all width v ss bits)
  set_all_alike [] v n own bits s = s
  set_all_alike (x ∷ xs) v n own bits s =
      set_all_alike xs v n (put own x.0 (stored width x.0 (v x.1)).bits) (put bits x.0 (stored width x.0 (v x.1)).bits)
      (record { at = λ i l q. let e = s.at i l q in grind (arith, nat_tests) })
