-- The completing step of a thing and its completing point want the same.
use Rattle.std.proofs.Common.{◌≡◌, ℕ, zero, suc, pred, ◌+◌, ◌<◌, ◌≤◌, ◌%◌, Bool, true, false, ◌||◌, if◌then◌else◌, ◌==◌, nat_lt, List, [], ◌∷◌, ◌++◌, length, Option, Some, None, IsTrue, refl, sym, ap, ◌∙◌, subst, arith, add-zero}
use Rattle.std.proofs.lemmas.Bool.Decides.{nat_tests}
use Rattle.chk_base.specs.declared.word.Width.{Width}
use Rattle.chk_base.specs.declared.place.Place.{Place}
use Rattle.chk_base.specs.Widths.{limit_of}
use Rattle.chk_base.specs.Operators.{truth}
use Rattle.chk_base.specs.Term.{Term}
use Rattle.step_ir.specs.declared.event.EventAction.TheVariants as Told
use Rattle.step_ir.specs.EntityStep.{After, Want, Does, Ends, Fails}
use Rattle.lower_law.specs.Exact.{SameWant}
use Rattle.step_ir.specs.Points.{PlainPoint}
use Rattle.step_ir.specs.PointStep.{Bits, val, first, or_zero, set_all, stored, go_on, act}
use Rattle.step_ir.specs.Numbers.{put}
use Rattle.step_ir.specs.Services.{fault}
use Rattle.step_ir.specs.Points
use Rattle.lower_law.specs.Lowered
use Rattle.lower_law.specs.Typed.{CType, CellExpr}
use Rattle.lower_law.specs.Items.{sites_all, terms_all, items_all, convert_term, term}
use Rattle.lower_law.specs.Ask.{converted}
use Rattle.lower_law.proofs.Operators.{convert_value}
use Rattle.lower_law.specs.EntityStep.{leave, only, begin, parameters, Todo, Frame, Working, open_all, word_of, first_of, second_of, at_rest, complete}
use Rattle.lower_law.specs.Statements.{CellStatement, Set, Write, WriteAt, If, Loop, Assert, Input, Call, Return, Serve, Block, CellBlock, CellFunction, CellUnit, asked, questions, room_all, rooms_to}
use Rattle.lower_law.specs.Lowered.{set_of, first_term, sets, close_entry, closing, Nexts, Context, Plan, always, entry, own, size_all, own_points, own_items, action_of, nexts_of, leaving, callee, moved, all_guarded, points_all, entry_all, plan_to}
use Rattle.lower_law.specs.FitsBody.{Given, HaveWidths, EndsWell, ends_in_return, FitsFun, learn, learn_into, known_after, is_return, FitsInto, FitsTo, Takes}
use Rattle.lower_law.proofs.Terms.{SameBelow, same_put}
use Rattle.lower_law.proofs.Lists.{vals}
use Rattle.lower_law.proofs.Things.{Stands, stands_front, stands_back}
use Rattle.lower_law.proofs.Sizes.{length_own, length_all, sized_to}
use Rattle.lower_law.proofs.Bodies.{Body, Sub, sub_here, Tail, tail_of, FitsBlock, Placed, Closes, Follows, follows_more, points_block, entry_block, opened_all}
use Rattle.lower_law.proofs.Frames.{set_all_alike, Caller, Where, body_of, Near, near_on, Behind, Front, own_here, fronted, follows_first, behind_on}

-- what the completing step may rest on
abbrev pub Sound : CellStatement → List ℕ → Type 0
Sound (WriteAt p c len t i e) xs = nat_lt (first_of xs) len ≡ true
Sound _ xs = Unit {0}

sub_learn_both : (known more : ℕ → Bool) (at : ℕ) → Sub known more → Sub (learn known at) (learn more at)
sub_learn_both known more at s = record { by = λ i h. go (i == at) i h } where
  go : (b : Bool) (i : ℕ) → (b || known i) ≡ true → (b || more i) ≡ true
  go true i h = refl
  go false i h = s.by i h

pub sub_into_both : (known more : ℕ → Bool) (into : Option (ℕ × CType)) → Sub known more → Sub (learn_into known into) (learn_into more into)
sub_into_both known more None s = s
sub_into_both known more (Some a) s = sub_learn_both known more a.0 s

tail_true : (P : Type 0) (l : Bool) → l ≡ true → Tail l P
tail_true P true e = tt
tail_true P false e = absurd (cc)

abbrev or_else : Option ℕ → Option ℕ → Option ℕ
or_else None o = o
or_else (Some n) o = Some n

module _ (width : ℕ → Width) where
  guarded_first : (t : Term) (xs rest : Nexts) (bits : Bits) → first (val width bits) (all_guarded t xs rest) ≡ (if truth (val width bits t) then or_else (first (val width bits) xs) (first (val width bits) rest) else first (val width bits) rest)
  guarded_first t [] rest bits = go (truth (val width bits t)) where
    go : (b : Bool) → first (val width bits) rest ≡ (if b then first (val width bits) rest else first (val width bits) rest)
    go true = refl
    go false = refl
  guarded_first t (x ∷ xs) rest bits = go (truth (val width bits t)) (truth (val width bits x.0)) refl (guarded_first t xs rest bits) where
    go : (b c : Bool) → truth (val width bits x.0) ≡ c → first (val width bits) (all_guarded t xs rest) ≡ (if b then or_else (first (val width bits) xs) (first (val width bits) rest) else first (val width bits) rest) → (if truth (if b then val width bits x.0 else 0) then Some x.1 else first (val width bits) (all_guarded t xs rest)) ≡ (if b then or_else (if c then Some x.1 else first (val width bits) xs) (first (val width bits) rest) else first (val width bits) rest)
    go true true e ih = ap (λ d. if d then Some x.1 else first (val width bits) (all_guarded t xs rest)) e
    go true false e ih = ap (λ d. if d then Some x.1 else first (val width bits) (all_guarded t xs rest)) e ∙ ih
    go false c e ih = ih

  pub goes_left : (t : Term) (xs rest : Nexts) (bits : Bits) (n : ℕ) → truth (val width bits t) ≡ true → first (val width bits) xs ≡ Some n → first (val width bits) (all_guarded t xs rest) ≡ first (val width bits) xs
  goes_left t xs rest bits n h e =
      guarded_first t xs rest bits ∙ ap (λ b. if b then or_else (first (val width bits) xs) (first (val width bits) rest) else first (val width bits) rest) h
      ∙ ap (λ o. or_else o (first (val width bits) rest)) e ∙ sym e

  pub goes_right : (t : Term) (xs rest : Nexts) (bits : Bits) → truth (val width bits t) ≡ false → first (val width bits) (all_guarded t xs rest) ≡ first (val width bits) rest
  goes_right t xs rest bits h =
      guarded_first t xs rest bits ∙ ap (λ b. if b then or_else (first (val width bits) xs) (first (val width bits) rest) else first (val width bits) rest) h

module _ (lo : ℕ) (width : ℕ → Width) (globals : ℕ) (number : ℕ → ℕ) (code : ℕ → Option PlainPoint) (temp top : ℕ) (unit : CellUnit) where
  -- the globals are in the first cells
  pub record Shared (g bits : Bits) : Type 0 where
    pub at : (i : ℕ) → i < globals → g i ≡ bits i

  -- the cells of others are kept
  pub record Others (bits bits' : Bits) : Type 0 where
    pub between : (i : ℕ) → globals ≤ i → i < lo → bits' i ≡ bits i
    pub above : (i : ℕ) → top ≤ i → bits' i ≡ bits i

  pub record Related (f : Frame) (fs : List Frame) (w : Where) (known : ℕ → Bool) (own : Bits) (got : List ℕ) (p : ℕ) (bits : Bits) : Type 0 where
    pub alike : SameBelow lo top own bits
    pub near : Near lo width globals number code temp top unit f w.fn known own
    pub behind : Behind lo width globals number code temp top unit f.base f.into w fs own
    pub front : Front lo width globals number code temp top unit (body_of f w) known f.todo got p own

  -- an entity's frames and list, and its point and the cells
  abbrev pub Alike : List Frame → List ℕ → ℕ → Bits → Type 0
  Alike [] got p bits = ⊥
  Alike (f ∷ fs) got p bits = (own : Bits) × (w : Where) × (known : ℕ → Bool) × Related f fs w known own got p bits

  abbrev pub Good : Bits → After Working Bits → After ℕ Bits → Type 0
  Good bits x y = Alike x.state.frames x.state.got y.state y.globals × Shared x.globals y.globals × Others bits y.globals

  module _ (low : globals ≤ lo) (fit : temp ≤ top) where
    pub shared_own : (g bits : Bits) (c v : ℕ) → lo ≤ c → Shared g bits → Shared g (put bits c v)
    shared_own g bits c v le s = record { at = λ i h. let e = s.at i h in grind (arith, nat_tests) }

    pub shared_both : (g bits : Bits) (c v : ℕ) → Shared g bits → Shared (put g c v) (put bits c v)
    shared_both g bits c v s = record { at = λ i h. let e = s.at i h in grind (arith, nat_tests) }

    pub others_own : (bits : Bits) (c v : ℕ) → lo ≤ c → c < top → Others bits (put bits c v)
    others_own bits c v le lt = record { between = λ i h k. grind (arith, nat_tests); above = λ i h. grind (arith, nat_tests) }

    pub others_global : (bits : Bits) (c v : ℕ) → lo ≤ top → c < globals → Others bits (put bits c v)
    others_global bits c v le lt = record { between = λ i h k. grind (arith, nat_tests); above = λ i h. grind (arith, nat_tests) }

    pub others_here : (bits : Bits) → Others bits bits
    others_here bits = record { between = λ i h k. refl; above = λ i h. refl }

    pub alike_both : (own bits : Bits) (c v : ℕ) → SameBelow lo top own bits → SameBelow lo top (put own c v) (put bits c v)
    alike_both own bits c v s = record { at = λ i l q. let e = s.at i l q in grind (arith, nat_tests) }

    alike_global : (own bits : Bits) (c v : ℕ) → c < globals → SameBelow lo top own bits → SameBelow lo top own (put bits c v)
    alike_global own bits c v lt s = record { at = λ i l q. let e = s.at i l q in grind (arith, nat_tests) }

    pub near_learn : (f : Frame) (fn : CellFunction) (known : ℕ → Bool) (own : Bits) (rest : Todo) (at v : ℕ) → at < fn.locals → Near lo width globals number code temp top unit f fn known own → Near lo width globals number code temp top unit (record f { todo = rest; locals = put f.locals at v }) fn (learn known at) (put own (f.base + at) v)
    near_learn f fn known own rest at v lt r =
        record { close = r.close; agrees = λ i k. go (i == at) i refl k; under = λ i k. less (i == at) i refl k; low = r.low; room = r.room }
      where
        go : (b : Bool) (i : ℕ) → (i == at) ≡ b → (b || known i) ≡ true → (if b then v else f.locals i) ≡ (if (f.base + i) == (f.base + at) then v else own (f.base + i))
        go true i e k = let t : ((f.base + i) == (f.base + at)) ≡ true = grind (arith, nat_tests) in sym (ap (λ b. if b then v else own (f.base + i)) t)
        go false i e k = let t : ((f.base + i) == (f.base + at)) ≡ false = grind (arith, nat_tests) in r.agrees i k ∙ sym (ap (λ b. if b then v else own (f.base + i)) t)

        less : (b : Bool) (i : ℕ) → (i == at) ≡ b → (b || known i) ≡ true → i < fn.locals
        less true i e k = grind (arith, nat_tests)
        less false i e k = r.under i k

    near_todo : (f : Frame) (fn : CellFunction) (known : ℕ → Bool) (own : Bits) (rest : Todo) → Near lo width globals number code temp top unit f fn known own → Near lo width globals number code temp top unit (record f { todo = rest }) fn known own
    near_todo f fn known own rest r = record { close = r.close; agrees = r.agrees; under = r.under; low = r.low; room = r.room }

    -- a frame that goes on at its things
    pub arrive : (f : Frame) (w : Where) (fs : List Frame) (known : ℕ → Bool) (own bits0 bits g : Bits) (e : Nexts) (p : ℕ) → Near lo width globals number code temp top unit f w.fn known own → Behind lo width globals number code temp top unit f.base f.into w fs own → SameBelow lo top own bits → Follows lo width globals number code temp top unit (body_of f w) known f.todo e → p ≡ or_zero (first (val width bits) e) → Shared g bits → Others bits0 bits → Good bits0 (at_rest (f ∷ fs) g) (record { state = p; globals = bits })
    arrive f w fs known own bits0 bits g e p near behind alike follows q shared others =
        ((own, w, known, record { alike = alike; near = near; behind = behind; front = fronted lo width globals number code temp top unit f w known own bits near alike fit f.todo e p follows q }), shared, others)

    one_val : (ts : List Term) (bits : Bits) → first_of (vals lo (val width bits) ts) ≡ val width bits (first_term ts)
    one_val [] bits = refl
    one_val (t ∷ ts) bits = refl

    -- the end of a call, or of the body
    pub leaves : (fs : List Frame) (base : ℕ) (into : Option (ℕ × CType)) (v : Where) (own bits g : Bits) (e : Option CellExpr) (ts : List Term) → Behind lo width globals number code temp top unit base into v fs own → SameBelow lo top own bits → Shared g bits → Given v.fn.gives e → SameWant (Good bits) (leave fs into (only e (vals lo (val width bits) ts)) g) (act width (leaving v.inner (set_of v.into e ts)) v.after bits)
    leaves [] base into v own bits g e ts r alike shared given = subst (λ b. SameWant (Good bits) Ends (act width (leaving b (set_of v.into e ts)) v.after bits)) (sym r) tt
    leaves (c ∷ cs) base into v own bits g e ts r alike shared given =
        let cr = r.2 in
        subst (λ b. SameWant (Good bits) (leave (c ∷ cs) into (only e (vals lo (val width bits) ts)) g) (act width (leaving b (set_of v.into e ts)) v.after bits)) (sym cr.inner)
        (subst (λ o. SameWant (Good bits) (leave (c ∷ cs) into (only e (vals lo (val width bits) ts)) g) (act width (leaving true (set_of o e ts)) v.after bits)) (sym cr.moves)
        (go into e v.fn.gives cr.takes given cr.fits cr.follows))
      where
        go : (into : Option (ℕ × CType)) (e : Option CellExpr) (gives : Bool) → Takes gives into → Given gives e → FitsInto width c.base r.0.fn.locals into → Follows lo width globals number code temp top unit (body_of c r.0) (learn_into r.1 into) c.todo v.after → SameWant (Good bits) (leave (c ∷ cs) into (only e (vals lo (val width bits) ts)) g) (act width (leaving true (set_of (moved c.base into) e ts)) v.after bits)
        go None e gives tk gv fi fo = (refl, arrive c r.0 cs r.1 own bits bits g v.after _ r.2.near r.3 alike fo refl shared (others_here bits))
        go (Some a) None true tk gv fi fo = absurd gv
        go (Some a) None false tk gv fi fo = absurd tk
        go (Some a) (Some e) gives tk gv fi fo =
            let cell = c.base + a.0 in
            let n = r.2.near in
            let x = val width bits (convert_term a.1 (first_term ts)) in
            let ex : converted a.1 (first_of (vals lo (val width bits) ts)) ≡ x = ap (converted a.1) (one_val ts bits) ∙ sym (convert_value lo width globals a.1 (first_term ts) bits) in
            let l : lo ≤ cell = let q = n.low in omega arith in
            let lt = fi.0 in
            let u : cell < top = let q = n.room in omega arith in
            let vv = x % limit_of (width cell) in
            let good = arrive (record c { locals = put c.locals a.0 vv }) r.0 cs (learn r.1 a.0) (put own cell vv) bits (put bits cell vv) g v.after _ (near_learn c r.0.fn r.1 own c.todo a.0 vv fi.0 n) (behind_on lo width globals number code temp top unit cs c.base c.into r.0 own (put own cell vv) c.base (omega arith) r.3 (same_put lo c.base cell vv own (omega arith))) (alike_both own bits cell vv alike) fo refl (shared_own g bits cell vv l shared) (others_own bits cell vv l u) in
            subst (λ y. SameWant (Good bits) (Does (Told.Return (Some (cell, word_of a.1 y))) (at_rest (record c { locals = put c.locals a.0 (word_of a.1 y).bits } ∷ cs) g)) (act width (leaving true (set_of (moved c.base (Some a)) (Some e) ts)) v.after bits)) (sym ex)
            (subst (λ wd. SameWant (Good bits) (Does (Told.Return (Some (cell, record { width = wd; bits = x % limit_of wd }))) (at_rest (record c { locals = put c.locals a.0 (x % limit_of wd) } ∷ cs) g)) (act width (leaving true (set_of (moved c.base (Some a)) (Some e) ts)) v.after bits)) fi.1
            (refl, good))

    -- ---- calls
    sets_before : (ts : List CType) (xs : List Term) (v : Term → ℕ) (cell i : ℕ) (bits : Bits) → i < cell → set_all width v (sets cell ts xs) bits i ≡ bits i
    sets_before [] xs v cell i bits h = refl
    sets_before (t ∷ ts) [] v cell i bits h = refl
    sets_before (t ∷ ts) (x ∷ xs) v cell i bits h =
        let n = (stored width cell (v x)).bits in
        let p : put bits cell n i ≡ bits i = grind (arith, nat_tests) in
        sets_before ts xs v (cell + 1) i (put bits cell n) (omega arith) ∙ p

    sets_behind : (ts : List CType) (xs : List Term) (v : Term → ℕ) (cell i : ℕ) (bits : Bits) → cell + length ts ≤ i → set_all width v (sets cell ts xs) bits i ≡ bits i
    sets_behind [] xs v cell i bits h = refl
    sets_behind (t ∷ ts) [] v cell i bits h = refl
    sets_behind (t ∷ ts) (x ∷ xs) v cell i bits h =
        let n = (stored width cell (v x)).bits in
        let p : put bits cell n i ≡ bits i = grind (arith, nat_tests) in
        sets_behind ts xs v (cell + 1) i (put bits cell n) (omega arith) ∙ p

    -- each parameter has its value in its cell
    params_agree : (ts : List CType) (xs : List Term) (v : Term → ℕ) (base k i : ℕ) (own : Bits) → HaveWidths width (base + k) ts → length xs ≡ length ts → k ≤ i → i < k + length ts → parameters ts (vals lo v xs) k i ≡ set_all width v (sets (base + k) ts xs) own (base + i)
    params_agree [] xs v base k i own hw e le lt = absurd (omega arith)
    params_agree (t ∷ ts) [] v base k i own hw e le lt = absurd (cc)
    params_agree (t ∷ ts) (x ∷ xs) v base k i own hw e le lt = go (i == k) refl (λ a c d f. params_agree ts xs v base (k + 1) i (put own (base + k) (stored width (base + k) (v x)).bits) a c d f) where
      go : (b : Bool) → (i == k) ≡ b → (HaveWidths width (base + (k + 1)) ts → length xs ≡ length ts → k + 1 ≤ i → i < k + 1 + length ts → parameters ts (vals lo v xs) (k + 1) i ≡ set_all width v (sets (base + (k + 1)) ts xs) (put own (base + k) (stored width (base + k) (v x)).bits) (base + i)) → (if b then (word_of t (v x)).bits else parameters ts (vals lo v xs) (k + 1) i) ≡ set_all width v (sets (base + k + 1) ts xs) (put own (base + k) (stored width (base + k) (v x)).bits) (base + i)
      go true q ih =
          let ik : i ≡ k = grind (arith, nat_tests) in
          let w1 : v x % limit_of t.width ≡ v x % limit_of (width (base + k)) = ap (λ wd. v x % limit_of wd) (sym hw.0) in
          let here : put own (base + k) (stored width (base + k) (v x)).bits (base + i) ≡ v x % limit_of (width (base + k)) = grind (arith, nat_tests) in
          w1 ∙ sym here ∙ sym (sets_before ts xs v (base + k + 1) (base + i) (put own (base + k) (stored width (base + k) (v x)).bits) (omega arith))
      go false q ih =
          let le' : k + 1 ≤ i = grind (arith, nat_tests) in
          let shift : base + (k + 1) ≡ base + k + 1 = omega arith in
          let hw' = subst (λ c. HaveWidths width c ts) (sym shift) hw.1 in
          let e' : length xs ≡ length ts = omega arith in
          ih hw' e' le' (omega arith)
          ∙ ap (λ c. set_all width v (sets c ts xs) (put own (base + k) (stored width (base + k) (v x)).bits) (base + i)) shift

    -- what holds of a call
    record CallFits (k cell : ℕ) (args : List CellExpr) (into : Option (ℕ × CType)) : Type 0 where
      params : HaveWidths width cell (unit.fun k).params
      few : length (unit.fun k).params ≤ (unit.fun k).locals
      high : cell + (unit.fun k).locals ≤ temp
      count : length args ≡ length (unit.fun k).params
      takes : Takes (unit.fun k).gives into

    call_fits : (d k cell : ℕ) (args : List CellExpr) (into : Option (ℕ × CType)) → FitsTo width globals temp top unit d k cell args into → CallFits k cell args into
    call_fits zero k cell args into h = absurd h
    call_fits (suc d) k cell args into h = record { params = h.0.params; few = h.0.few; high = h.0.high; count = h.1; takes = h.2 }

    -- a body stands whole at its place
    pub body_follows : (b : Body) (at : ℕ) → FitsFun width globals temp top (rooms_to unit b.depth) (FitsTo width globals temp top unit b.depth) b.fn b.ctx.base → Stands lo number code at ((Lowered.plan_of number temp unit.fun (rooms_to unit b.depth) (plan_to number temp unit b.depth) b.fn).points b.ctx at) → Follows lo width globals number code temp top unit b (λ i. nat_lt i (length b.fn.params)) (open_all (rooms_to unit b.depth) b.fn.body (b.ctx.base + b.fn.locals) []) ((Lowered.plan_of number temp unit.fun (rooms_to unit b.depth) (plan_to number temp unit b.depth) b.fn).entry b.ctx at)
    body_follows b at fits st =
        let known = λ (i : ℕ). nat_lt i (length b.fn.params) in
        let n = size_all number temp unit.fun (rooms_to unit b.depth) (plan_to number temp unit b.depth) b.fn.body in
        let e = close_entry number b.fn.gives b.ctx (at + n) in
        let xs = points_block lo width globals number code temp top unit b at (b.ctx.base + b.fn.locals) b.fn.body e in
        let ys = closing b.fn.gives b.fn.close b.ctx in
        let back = subst (λ m. Stands lo number code (at + m) ys) (length_all number temp unit.fun (rooms_to unit b.depth) (plan_to number temp unit b.depth) (sized_to number temp unit b.depth) b.fn.body b.ctx at (b.ctx.base + b.fn.locals) e) (stands_back lo number code xs ys at st) in
        opened_all lo width globals number code temp top unit b b.fn.body known at (b.ctx.base + b.fn.locals) e [] (stands_front lo number code xs ys at st) fits.body (ends b.fn.gives (at + n) fits.ends back) known (sub_here known)
      where
        ends : (gives : Bool) (m : ℕ) → EndsWell gives b.fn.body → Stands lo number code m (closing gives b.fn.close b.ctx) → Tail (ends_in_return b.fn.body) ((more : ℕ → Bool) → Sub (λ i. nat_lt i (length b.fn.params)) more → Closes lo width globals number code temp top unit gives b (close_entry number gives b.ctx m))
        ends true m h s = tail_true _ (ends_in_return b.fn.body) h
        ends false m h s = tail_of (ends_in_return b.fn.body) (λ more sub. (m, refl, s.0))

    call_follows : (d k cell at : ℕ) (args : List CellExpr) (into : Option (ℕ × CType)) (ctx : Context) → ctx.base ≡ cell → FitsTo width globals temp top unit d k cell args into → Stands lo number code at ((plan_to number temp unit d k).points ctx at) → Follows lo width globals number code temp top unit (record { ctx = ctx; depth = pred d; fn = unit.fun k }) (λ i. nat_lt i (length (unit.fun k).params)) (open_all (rooms_to unit (pred d)) (unit.fun k).body (ctx.base + (unit.fun k).locals) []) ((plan_to number temp unit d k).entry ctx at)
    call_follows zero k cell at args into ctx e h st = absurd h
    call_follows (suc d) k cell at args into ctx e h st =
        body_follows (record { ctx = ctx; depth = d; fn = unit.fun k }) at (subst (FitsFun width globals temp top (rooms_to unit d) (FitsTo width globals temp top unit d) (unit.fun k)) (sym e) h.0) st

    module _ (f : Frame) (w : Where) (fs : List Frame) (known : ℕ → Bool) (own bits g : Bits) (near : Near lo width globals number code temp top unit f w.fn known own) (behind : Behind lo width globals number code temp top unit f.base f.into w fs own) (alike : SameBelow lo top own bits) (shared : Shared g bits) where
      abbrev Fol : (ℕ → Bool) → Todo → Nexts → Type 0
      Fol known todo e = Follows lo width globals number code temp top unit (body_of f w) known todo e

      stays : (known' : ℕ → Bool) (rest : Todo) (e : Nexts) (p : ℕ) → Sub known' known → Fol known' rest e → p ≡ or_zero (first (val width bits) e) → Good bits (at_rest (record f { todo = rest } ∷ fs) g) (record { state = p; globals = bits })
      stays known' rest e p sub h q =
          arrive (record f { todo = rest }) w fs known own bits bits g e p (near_todo f w.fn known own rest near) behind alike (follows_more lo width globals number code temp top unit (body_of f w) known' known rest e sub h) q shared (others_here bits)

      learns : (k0 : ℕ → Bool) (rest : Todo) (e : Nexts) (at v : ℕ) → at < w.fn.locals → Sub k0 known → Fol (learn k0 at) rest e → Good bits (at_rest (record f { todo = rest; locals = put f.locals at v } ∷ fs) g) (go_on width e (put bits (f.base + at) v))
      learns k0 rest e at v lt sub h =
          let c = f.base + at in
          let l : lo ≤ c = let q = near.low in omega arith in
          let u : c < top = let q = near.room in omega arith in
          arrive (record f { todo = rest; locals = put f.locals at v }) w fs (learn known at) (put own c v) bits (put bits c v) g e _ (near_learn f w.fn known own rest at v lt near) (behind_on lo width globals number code temp top unit fs f.base f.into w own (put own c v) f.base (omega arith) behind (same_put lo f.base c v own (omega arith))) (alike_both own bits c v alike) (follows_more lo width globals number code temp top unit (body_of f w) (learn k0 at) (learn known at) rest e (sub_learn_both k0 known at sub) h) refl (shared_own g bits c v l shared) (others_own bits c v l u)

      writes : (k0 : ℕ → Bool) (rest : Todo) (e : Nexts) (c v : ℕ) → c < globals → Sub k0 known → Fol k0 rest e → Good bits (at_rest (record f { todo = rest } ∷ fs) (put g c v)) (go_on width e (put bits c v))
      writes k0 rest e c v lt sub h =
          arrive (record f { todo = rest }) w fs known own bits (put bits c v) (put g c v) e _ (near_todo f w.fn known own rest near) behind (alike_global own bits c v lt alike) (follows_more lo width globals number code temp top unit (body_of f w) k0 known rest e sub h) refl (shared_both g bits c v shared) (others_global bits c v (let q = near.low in let r = near.room in omega arith) lt)

      -- a value goes into a local
      pub sets_local : (k0 : ℕ → Bool) (rest : Todo) (e : Nexts) (at : ℕ) (t : CType) (term : Term) → at < w.fn.locals → width (f.base + at) ≡ t.width → Sub k0 known → Fol (learn k0 at) rest e → SameWant (Good bits) (Does (Told.Local (f.base + at) (word_of t (val width bits term))) (at_rest (record f { todo = rest; locals = put f.locals at (word_of t (val width bits term)).bits } ∷ fs) g)) (act width (Points.Local (f.base + at) term) e bits)
      sets_local k0 rest e at t term lt ew sub h =
          let x = val width bits term in
          subst (λ wd. SameWant (Good bits) (Does (Told.Local (f.base + at) (record { width = wd; bits = x % limit_of wd })) (at_rest (record f { todo = rest; locals = put f.locals at (x % limit_of wd) } ∷ fs) g)) (act width (Points.Local (f.base + at) term) e bits)) ew
          (refl, learns k0 rest e at (x % limit_of (width (f.base + at))) lt sub h)

      -- a value goes into a global
      pub sets_global : (k0 : ℕ → Bool) (rest : Todo) (e : Nexts) (c x : ℕ) (t : CType) → c < globals → width c ≡ t.width → Sub k0 known → Fol k0 rest e → SameWant (Good bits) (Does (Told.Write c (word_of t x)) (at_rest (record f { todo = rest } ∷ fs) (put g c (word_of t x).bits))) (Does (Told.Write c (stored width c x)) (go_on width e (put bits c (stored width c x).bits)))
      sets_global k0 rest e c x t lt ew sub h =
          subst (λ wd. SameWant (Good bits) (Does (Told.Write c (record { width = wd; bits = x % limit_of wd })) (at_rest (record f { todo = rest } ∷ fs) (put g c (x % limit_of wd)))) (Does (Told.Write c (stored width c x)) (go_on width e (put bits c (stored width c x).bits)))) ew
          (refl, writes k0 rest e c (x % limit_of (width c)) lt sub h)

      abbrev Ctx' : Context
      Ctx' = (body_of f w).ctx

      abbrev ts : CellStatement → List Term
      ts s = terms_all f.base temp (questions s)

      abbrev Coded : ℕ → ℕ → CellStatement → Nexts → Want ℕ Bits
      Coded at cell s after =
          act width (action_of number temp unit.fun (rooms_to unit f.depth) (plan_to number temp unit f.depth) (body_of f w).ctx cell s (ts s)) (nexts_of number temp unit.fun (rooms_to unit f.depth) (plan_to number temp unit f.depth) (body_of f w).ctx at cell s (ts s) after) bits

      abbrev Here : (ℕ → Bool) → ℕ → Nexts → ℕ → CellStatement → Type 0
      Here k0 at after cell s = Placed lo width globals number code temp top unit (body_of f w) known k0 at after cell s (entry number at (items_all f.base temp (questions s)))

      -- the blocks behind a condition
      block_follows : (k0 : ℕ → Bool) (at cell : ℕ) (b : CellBlock) (after : Nexts) (rest : Todo) → Stands lo number code at (points_block lo width globals number code temp top unit (body_of f w) at cell b after) → FitsBlock lo width globals number code temp top unit (body_of f w) k0 cell b → Sub k0 known → ((more : ℕ → Bool) → Sub k0 more → Fol more rest after) → Fol known (open_all (rooms_to unit f.depth) b cell rest) (entry_block lo width globals number code temp top unit (body_of f w) at b after)
      block_follows k0 at cell b after rest st fi sub r =
          opened_all lo width globals number code temp top unit (body_of f w) b k0 at cell after rest st fi (tail_of (ends_in_return b) r) known sub

      pub completes_if : (p : Place) (c : CellExpr) (x y : CellBlock) (k0 : ℕ → Bool) (at cell : ℕ) (after : Nexts) (rest : Todo) → Here k0 at after cell (If p c x y) → Fol k0 rest after → SameWant (Good bits) (complete unit (If p c x y) cell rest f fs (vals lo (val width bits) (ts (If p c x y))) g) (Coded at cell (If p c x y) after)
      completes_if p c x y k0 at cell after rest pl tl = (refl, go (truth (val width bits (term f.base temp c))) refl) where
        go : (d : Bool) → truth (val width bits (term f.base temp c)) ≡ d → Good bits (at_rest (record f { todo = if d then open_all (rooms_to unit f.depth) x cell rest else open_all (rooms_to unit f.depth) y (cell + room_all (rooms_to unit f.depth) x) rest } ∷ fs) g) (go_on width (nexts_of number temp unit.fun (rooms_to unit f.depth) (plan_to number temp unit f.depth) (body_of f w).ctx at cell (If p c x y) (ts (If p c x y)) after) bits)
        go d e =
            let b = body_of f w in
            let rooms = rooms_to unit f.depth in
            let plan = plan_to number temp unit f.depth in
            let t = term f.base temp c in
            let s = If p c x y in
            let n = at + (sites_all (questions s) + 1) in
            let sx = size_all number temp unit.fun rooms plan x in
            let px = points_block lo width globals number code temp top unit b n cell x after in
            let py = points_block lo width globals number code temp top unit b (n + sx) (cell + room_all rooms x) y after in
            let ex = entry_block lo width globals number code temp top unit b n x after in
            let ey = entry_block lo width globals number code temp top unit b (n + sx) y after in
            let o = own_here lo width globals number code temp top unit b at cell s after in
            let sized = sized_to number temp unit f.depth in
            let back1 = subst (λ m. Stands lo number code (at + m) (px ++ py)) (length_own number temp unit.fun rooms plan sized b.ctx at cell s after) (stands_back lo number code o (px ++ py) at pl.stands) in
            let back2 = subst (λ m. Stands lo number code (n + m) py) (length_all number temp unit.fun rooms plan sized x b.ctx n cell after) (stands_back lo number code px py n back1) in
            let rest_on = λ (more : ℕ → Bool) (u : Sub k0 more). follows_more lo width globals number code temp top unit b k0 more rest after u tl in
            let fx = block_follows k0 n cell x after rest (stands_front lo number code px py n back1) pl.fits.1 pl.sub rest_on in
            let fy = block_follows k0 (n + sx) (cell + room_all rooms x) y after rest back2 pl.fits.2 pl.sub rest_on in
            let fst = follows_first lo width globals number code temp top unit b known (open_all rooms x cell rest) ex bits fx in
            elim d as (λ d. truth (val width bits t) ≡ d → Good bits (at_rest (record f { todo = if d then open_all rooms x cell rest else open_all rooms y (cell + room_all rooms x) rest } ∷ fs) g) (record { state = or_zero (first (val width bits) (all_guarded t ex ey)); globals = bits })) [
              | true ↦ λ e. stays known (open_all rooms x cell rest) ex (or_zero (first (val width bits) (all_guarded t ex ey))) (sub_here known) fx (ap or_zero (goes_left width t ex ey bits fst.0 e fst.1))
              | false ↦ λ e. stays known (open_all rooms y (cell + room_all rooms x) rest) ey (or_zero (first (val width bits) (all_guarded t ex ey))) (sub_here known) fy (ap or_zero (goes_right width t ex ey bits e))
            ] e

      pub completes_loop : (p : Place) (c : CellExpr) (x y : CellBlock) (k0 : ℕ → Bool) (at cell : ℕ) (after : Nexts) (rest : Todo) → Here k0 at after cell (Loop p c x y) → Fol k0 rest after → SameWant (Good bits) (complete unit (Loop p c x y) cell rest f fs (vals lo (val width bits) (ts (Loop p c x y))) g) (Coded at cell (Loop p c x y) after)
      completes_loop p c x y k0 at cell after rest pl tl = (refl, go (truth (val width bits (term f.base temp c))) refl) where
        go : (d : Bool) → truth (val width bits (term f.base temp c)) ≡ d → Good bits (at_rest (record f { todo = if d then open_all (rooms_to unit f.depth) y (cell + room_all (rooms_to unit f.depth) x) (open_all (rooms_to unit f.depth) x cell ((cell, Loop p c x y) ∷ rest)) else rest } ∷ fs) g) (go_on width (nexts_of number temp unit.fun (rooms_to unit f.depth) (plan_to number temp unit f.depth) (body_of f w).ctx at cell (Loop p c x y) (ts (Loop p c x y)) after) bits)
        go d e =
            let b = body_of f w in
            let rooms = rooms_to unit f.depth in
            let plan = plan_to number temp unit f.depth in
            let t = term f.base temp c in
            let s = Loop p c x y in
            let n = at + (sites_all (questions s) + 1) in
            let back = entry number at (items_all f.base temp (questions s)) in
            let sx = size_all number temp unit.fun rooms plan x in
            let ex = entry_block lo width globals number code temp top unit b n x back in
            let ey = entry_block lo width globals number code temp top unit b (n + sx) y ex in
            let px = points_block lo width globals number code temp top unit b n cell x back in
            let py = points_block lo width globals number code temp top unit b (n + sx) (cell + room_all rooms x) y ex in
            let o = own_here lo width globals number code temp top unit b at cell s after in
            let sized = sized_to number temp unit f.depth in
            let back1 = subst (λ m. Stands lo number code (at + m) (px ++ py)) (length_own number temp unit.fun rooms plan sized b.ctx at cell s after) (stands_back lo number code o (px ++ py) at pl.stands) in
            let back2 = subst (λ m. Stands lo number code (n + m) py) (length_all number temp unit.fun rooms plan sized x b.ctx n cell back) (stands_back lo number code px py n back1) in
            let again : (more : ℕ → Bool) → Sub k0 more → Fol more ((cell, s) ∷ rest) back = λ more u. (k0, at, after, record { plain = refl; sub = u; is = refl; stands = pl.stands; fits = pl.fits; sites = pl.sites; room = pl.room }, tl) in
            let third : (more : ℕ → Bool) → Sub k0 more → Fol more (open_all rooms x cell ((cell, s) ∷ rest)) ex = λ more u. opened_all lo width globals number code temp top unit b x k0 n cell back ((cell, s) ∷ rest) (stands_front lo number code px py n back1) pl.fits.1 (tail_of (ends_in_return x) again) more u in
            let things = open_all rooms y (cell + room_all rooms x) (open_all rooms x cell ((cell, s) ∷ rest)) in
            let fy = block_follows k0 (n + sx) (cell + room_all rooms x) y ex (open_all rooms x cell ((cell, s) ∷ rest)) back2 pl.fits.2 pl.sub third in
            let fst = follows_first lo width globals number code temp top unit b known things ey bits fy in
            elim d as (λ d. truth (val width bits t) ≡ d → Good bits (at_rest (record f { todo = if d then things else rest } ∷ fs) g) (record { state = or_zero (first (val width bits) (all_guarded t ey after)); globals = bits })) [
              | true ↦ λ e. stays known things ey (or_zero (first (val width bits) (all_guarded t ey after))) (sub_here known) fy (ap or_zero (goes_left width t ey after bits fst.0 e fst.1))
              | false ↦ λ e. stays k0 rest after (or_zero (first (val width bits) (all_guarded t ey after))) pl.sub tl (ap or_zero (goes_right width t ey after bits e))
            ] e

      completes_assert : (p : Place) (e : CellExpr) (k0 : ℕ → Bool) (at cell : ℕ) (after : Nexts) (rest : Todo) → Sub k0 known → Fol k0 rest after → SameWant (Good bits) (complete unit (Assert p e) cell rest f fs (vals lo (val width bits) (ts (Assert p e))) g) (Coded at cell (Assert p e) after)
      completes_assert p e k0 at cell after rest sub tl = go (truth (val width bits (term f.base temp e))) where
        go : (d : Bool) → SameWant (Good bits) (if d then Does Told.Assert (at_rest (record f { todo = rest } ∷ fs) g) else Fails (fault 1)) (if d then Does Told.Assert (go_on width after bits) else Fails (fault 1))
        go true = (refl, stays k0 rest after _ sub tl refl)
        go false = refl

      completes_write : (p : Place) (c : ℕ) (t : CType) (e : CellExpr) (k0 : ℕ → Bool) (at cell : ℕ) (after : Nexts) (rest : Todo) → Here k0 at after cell (Write p c t e) → Fol k0 rest after → SameWant (Good bits) (complete unit (Write p c t e) cell rest f fs (vals lo (val width bits) (ts (Write p c t e))) g) (Coded at cell (Write p c t e) after)
      completes_write p c t e k0 at cell after rest pl tl =
          let x = val width bits (term f.base temp e) in
          let zero_more : c ≡ c + 0 = sym (add-zero c) in
          subst (λ k. SameWant (Good bits) (Does (Told.Write c (word_of t x)) (at_rest (record f { todo = rest } ∷ fs) (put g c (word_of t x).bits))) (Does (Told.Write k (stored width k x)) (go_on width after (put bits k (stored width k x).bits)))) zero_more
          (sets_global k0 rest after c x t pl.fits.2 pl.fits.1 pl.sub tl)

      completes_element : (p : Place) (c len : ℕ) (t : CType) (i e : CellExpr) (k0 : ℕ → Bool) (at cell : ℕ) (after : Nexts) (rest : Todo) → Here k0 at after cell (WriteAt p c len t i e) → Fol k0 rest after → nat_lt (first_of (vals lo (val width bits) (ts (WriteAt p c len t i e)))) len ≡ true → SameWant (Good bits) (complete unit (WriteAt p c len t i e) cell rest f fs (vals lo (val width bits) (ts (WriteAt p c len t i e))) g) (Coded at cell (WriteAt p c len t i e) after)
      completes_element p c len t i e k0 at cell after rest pl tl h =
          let k = val width bits (term f.base temp i) in
          let x = second_of (vals lo (val width bits) (ts (WriteAt p c len t i e))) in
          let lt : k < len = grind (arith, nat_tests) in
          subst (λ d. SameWant (Good bits) (Does (Told.Write (c + k) (word_of t x)) (at_rest (record f { todo = rest } ∷ fs) (put g (c + k) (word_of t x).bits))) (Does (Told.Write (if d then c + k else c) (stored width (if d then c + k else c) x)) (go_on width after (if d then put bits (if d then c + k else c) (stored width (if d then c + k else c) x).bits else bits)))) (sym h)
          (sets_global k0 rest after (c + k) x t (pl.fits.2 k lt).1 (pl.fits.2 k lt).0 pl.sub tl)

      length_terms : (es : List CellExpr) (n : ℕ) → length (terms_all f.base n (asked es)) ≡ length es
      length_terms [] n = refl
      length_terms (e ∷ es) n = ap (λ k. suc k) (length_terms es _)

      completes_call : (p : Place) (k : ℕ) (args : List CellExpr) (into : Option (ℕ × CType)) (k0 : ℕ → Bool) (at cell : ℕ) (after : Nexts) (rest : Todo) → Here k0 at after cell (Call p k args into) → Fol (learn_into k0 into) rest after → SameWant (Good bits) (complete unit (Call p k args into) cell rest f fs (vals lo (val width bits) (ts (Call p k args into))) g) (Coded at cell (Call p k args into) after)
      completes_call p k args into k0 at cell after rest pl tl =
          let b = body_of f w in
          let s = Call p k args into in
          let n = at + (sites_all (questions s) + 1) in
          let rooms = rooms_to unit f.depth in
          let plan = plan_to number temp unit f.depth in
          let v = val width bits in
          let tt' = ts s in
          let cf = call_fits f.depth k cell args into pl.fits.1 in
          let ctx' = callee b.ctx cell into after in
          let o = own_here lo width globals number code temp top unit b at cell s after in
          let ps = (plan k).points ctx' n in
          let st = subst (λ m. Stands lo number code (at + m) ps) (length_own number temp unit.fun rooms plan (sized_to number temp unit f.depth) b.ctx at cell s after) (stands_back lo number code o ps at pl.stands) in
          let w' : Where = record { inner = true; after = after; into = moved f.base into; fn = unit.fun k } in
          let pt = (unit.fun k).params in
          let own' = set_all width v (sets cell pt tt') own in
          let bits' = set_all width v (sets cell pt tt') bits in
          let known' = λ (i : ℕ). nat_lt i (length pt) in
          let f' = begin unit (unit.fun k) (pred f.depth) cell (parameters pt (vals lo v tt') 0) into in
          let lof : lo ≤ cell = let q = near.low in let r = pl.room in omega arith in
          let few = cf.few in
          let high = cf.high in
          let zero_more : cell ≡ cell + 0 = sym (add-zero cell) in
          let hw = subst (λ c. HaveWidths width c pt) zero_more cf.params in
          let len : length tt' ≡ length pt = length_terms args temp ∙ cf.count in
          let agrees = λ (i : ℕ) (q : IsTrue (known' i)).
          let lt : i < 0 + length pt = grind (arith, nat_tests) in
          params_agree pt tt' v cell 0 i own hw len (omega arith) lt ∙ ap (λ c. set_all width v (sets c pt tt') own (cell + i)) (sym zero_more) in
          let near' : Near lo width globals number code temp top unit f' (unit.fun k) known' own' = record { close = refl; agrees = agrees; under = λ i q. grind (arith, nat_tests); low = lof; room = high } in
          let same : SameBelow lo cell own own' = record { at = λ i l q. sets_before pt tt' v cell i own q } in
          let fc = record f { todo = rest } in
          let caller_near = near_on lo width globals number code temp top unit fc w.fn known own own' cell (let r = pl.room in r) (near_todo f w.fn known own rest near) same in
          let below = behind_on lo width globals number code temp top unit fs f.base f.into w own own' cell (let r = pl.room in omega arith) behind same in
          let cr : Caller lo width globals number code temp top unit cell into w' fc w known own' = record {
            inner = refl;
            moves = refl;
            takes = cf.takes;
            near = caller_near;
            apart = (let r = pl.room in r);
            follows = follows_more lo width globals number code temp top unit b (learn_into k0 into) (learn_into known into) rest after (sub_into_both k0 known into pl.sub) tl;
            fits = pl.fits.2;
          } in
          let fol = call_follows f.depth k cell n args into ctx' refl pl.fits.1 st in
          let shared' : Shared g bits' = record { at = λ i h. shared.at i h ∙ sym (sets_before pt tt' v cell i bits (omega arith)) } in
          let others' : Others bits bits' = record { between = λ i h q. sets_before pt tt' v cell i bits (omega arith); above = λ i h. sets_behind pt tt' v cell i bits (omega arith) } in
          (refl, arrive f' w' (fc ∷ fs) known' own' bits bits' g ((plan k).entry ctx' n) _ near' (w, known, cr, below) (set_all_alike lo width globals number code temp top unit (sets cell pt tt') v top own bits alike) fol refl shared' others')

      pub completes : (s : CellStatement) (k0 : ℕ → Bool) (at cell : ℕ) (after : Nexts) (rest : Todo) → Here k0 at after cell s → Tail (is_return s) (Fol (known_after k0 s) rest after) → Sound s (vals lo (val width bits) (ts s)) → SameWant (Good bits) (complete unit s cell rest f fs (vals lo (val width bits) (ts s)) g) (Coded at cell s after)
      completes (Set p at' t e) k0 at cell after rest pl tl so = sets_local k0 rest after at' t (term f.base temp e) pl.fits.1 pl.fits.2 pl.sub tl
      completes (Write p c t e) k0 at cell after rest pl tl so = completes_write p c t e k0 at cell after rest pl tl
      completes (WriteAt p c len t i e) k0 at cell after rest pl tl so = completes_element p c len t i e k0 at cell after rest pl tl so
      completes (If p c x y) k0 at cell after rest pl tl so = completes_if p c x y k0 at cell after rest pl tl
      completes (Loop p c x y) k0 at cell after rest pl tl so = completes_loop p c x y k0 at cell after rest pl tl
      completes (Assert p e) k0 at cell after rest pl tl so = completes_assert p e k0 at cell after rest pl.sub tl
      completes (Input p at' t) k0 at cell after rest pl tl so = (sym pl.fits.1, λ word. (refl, learns k0 rest after at' word.bits pl.fits.0 pl.sub tl))
      completes (Call p k args into) k0 at cell after rest pl tl so = completes_call p k args into k0 at cell after rest pl tl
      completes (Return p e) k0 at cell after rest pl tl so = leaves fs f.base f.into w own bits g e (ts (Return p e)) behind alike shared pl.fits.1
      completes (Serve p s) k0 at cell after rest pl tl so = (refl, stays k0 rest after _ pl.sub tl refl)
      completes (Block b) k0 at cell after rest pl tl so = let h = pl.plain in absurd (cc)
