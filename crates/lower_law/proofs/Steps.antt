-- An entity's step over the typed unit and the step of its point want the same, for ever.
use Rattle.std.proofs.Common.{◌≡◌, ℕ, ◌+◌, ◌<◌, ◌≤◌, Bool, true, false, if◌then◌else◌, nat_lt, List, [], ◌∷◌, ◌++◌, length, Option, Some, None, IsTrue, refl, sym, ap, ◌∙◌, subst, arith, append-nil}
use Rattle.std.proofs.lemmas.Bool.Decides.{nat_tests}
use Rattle.chk_base.specs.declared.word.Width.{Width}
use Rattle.chk_base.specs.Term.{Term}
use Rattle.step_ir.specs.declared.event.EventAction.TheVariants as Told
use Rattle.step_ir.specs.EntityStep.{After, Does, Fails}
use Rattle.lower_law.specs.Exact.{SameWant}
use Rattle.step_ir.specs.Points.{PlainPoint}
use Rattle.step_ir.specs.PointStep.{Bits, val, first, or_zero, act, step, place_at}
use Rattle.step_ir.specs.Numbers.{put}
use Rattle.step_ir.specs.Services.{fault}
use Rattle.lower_law.specs.Typed.{CType, CellExpr}
use Rattle.lower_law.specs.Ask.{Answer, Wants, Traps, Value, then_ask, checked, ask, ask_all}
use Rattle.lower_law.specs.Items.{sites, term, sites_all, terms_all, items_all}
use Rattle.lower_law.proofs.Walk.{Seen, walk}
use Rattle.lower_law.specs.FitsBody.{FitsAll, Given, FitsFun, FitsTo}
use Rattle.lower_law.specs.Statements.{CellStatement, Set, Write, WriteAt, If, Loop, Assert, Input, Call, Return, Serve, Block, CellFunction, CellUnit, questions, place_of, rooms_to}
use Rattle.lower_law.specs.EntityStep.{Todo, Frame, Working, first_of, begin, leave, goes, front, wants_of, place_first, place_now, complete}
use Rattle.lower_law.specs.Lowered.{leaving, set_of, action_of, nexts_of, plan_to, points_of_entity, entry_of_entity}
use Rattle.lower_law.proofs.Terms.{SameBelow, same_here, same_put, within_more, AllWithin, value_same}
use Rattle.lower_law.proofs.Expressions.{term_within, Ready}
use Rattle.lower_law.proofs.Lists.{vals, MeansAll, exact_all}
use Rattle.lower_law.proofs.Things.{Stands, Comes, comes, busy_place}
use Rattle.lower_law.proofs.Frames.{Where, body_of, Near, near_on, Behind, behind_on, Front, fits_questions, fronted}
use Rattle.lower_law.proofs.Complete.{Shared, Related, Alike, Good, shared_own, others_own, alike_both, leaves, body_follows, Sound, completes}

-- ---- an index that has a value is inside
abbrev Bounded : ℕ → Answer (List ℕ) → Type 0
Bounded len (Value xs got) = nat_lt (first_of xs) len ≡ true
Bounded len _ = Unit {0}

bounded_cons : (len x : ℕ) (ans : Answer (List ℕ)) → nat_lt x len ≡ true → Bounded len (then_ask ans (λ xs got. Value (x ∷ xs) got))
bounded_cons len x (Wants c w) h = tt
bounded_cons len x (Traps f) h = tt
bounded_cons len x (Value xs got) h = h

bounded_within : (len x : ℕ) (got : List ℕ) (qs : List (Option ℕ × CellExpr)) (env : ℕ → ℕ) → Bounded len (then_ask (checked len x got) (λ x got. then_ask (ask_all qs env got) (λ xs got. Value (x ∷ xs) got)))
bounded_within len x got qs env = go (nat_lt x len) refl where
  go : (b : Bool) → nat_lt x len ≡ b → Bounded len (then_ask (if b then Value x got else Traps 6) (λ x got. then_ask (ask_all qs env got) (λ xs got. Value (x ∷ xs) got)))
  go true h = bounded_cons len x (ask_all qs env got) h
  go false h = tt

bounded : (len : ℕ) (ans : Answer ℕ) (qs : List (Option ℕ × CellExpr)) (env : ℕ → ℕ) → Bounded len (then_ask ans (λ x got. then_ask (checked len x got) (λ x got. then_ask (ask_all qs env got) (λ xs got. Value (x ∷ xs) got))))
bounded len (Wants c w) qs env = tt
bounded len (Traps f) qs env = tt
bounded len (Value x got) qs env = bounded_within len x got qs env

module _ (lo : ℕ) (width : ℕ → Width) where
  vals_same : (ts : List Term) (n : ℕ) (bits bits' : Bits) → AllWithin lo n ts → SameBelow lo n bits bits' → vals lo (val width bits') ts ≡ vals lo (val width bits) ts
  vals_same [] n bits bits' h s = refl
  vals_same (t ∷ ts) n bits bits' h s =
      ap (λ x. x ∷ vals lo (val width bits') ts) (value_same lo width t n bits bits' h.0 s) ∙ ap (λ xs. val width bits t ∷ xs) (vals_same ts n bits bits' h.1 s)

module _ (lo : ℕ) (width : ℕ → Width) (globals base limit : ℕ) (known : ℕ → Bool) (under : (i : ℕ) → IsTrue (known i) → base + i < limit) (above : (lo ≤ base) × (lo ≤ limit)) (top : ℕ) where
  terms_in : (qs : List (Option ℕ × CellExpr)) (n : ℕ) → limit ≤ n → n + sites_all qs ≤ top → FitsAll width globals known qs → AllWithin lo top (terms_all base n qs)
  terms_in [] n le lt f = tt
  terms_in (q ∷ qs) n le lt f = (
    within_more lo (n + sites q.1) top (term base n q.1) (omega arith) (term_within lo width globals base limit known under above q.1 n le f.0),
    terms_in qs (n + sites q.1) (omega arith) (omega arith) f.1,
  )

abbrev SoundAnswer : CellStatement → Answer (List ℕ) → Type 0
SoundAnswer s (Value xs got) = Sound s xs
SoundAnswer s _ = Unit {0}

any_sound : (s : CellStatement) (ans : Answer (List ℕ)) → ((xs : List ℕ) → Sound s xs) → SoundAnswer s ans
any_sound s (Wants c w) h = tt
any_sound s (Traps f) h = tt
any_sound s (Value xs got) h = h xs

sound : (s : CellStatement) (env : ℕ → ℕ) (got : List ℕ) → SoundAnswer s (ask_all (questions s) env got)
sound (WriteAt p c len t i e) env got = go (ask_all (questions (WriteAt p c len t i e)) env got) (bounded len (ask i env got) ((None, e) ∷ []) env) where
  go : (ans : Answer (List ℕ)) → Bounded len ans → SoundAnswer (WriteAt p c len t i e) ans
  go (Wants c w) h = tt
  go (Traps f) h = tt
  go (Value xs got) h = h
sound (Set p at t e) env got = any_sound (Set p at t e) _ (λ xs. tt)
sound (Write p c t e) env got = any_sound (Write p c t e) _ (λ xs. tt)
sound (If p c a b) env got = any_sound (If p c a b) _ (λ xs. tt)
sound (Loop p c x b) env got = any_sound (Loop p c x b) _ (λ xs. tt)
sound (Assert p e) env got = any_sound (Assert p e) _ (λ xs. tt)
sound (Input p at t) env got = tt
sound (Call p f args into) env got = any_sound (Call p f args into) _ (λ xs. tt)
sound (Return p e) env got = any_sound (Return p e) _ (λ xs. tt)
sound (Serve p s) env got = tt
sound (Block b) env got = tt

set_none : (o : Option (ℕ × CType)) (ts : List Term) → set_of o None ts ≡ None
set_none None ts = refl
set_none (Some a) ts = refl

module _ (lo : ℕ) (width : ℕ → Width) (globals : ℕ) (number : ℕ → ℕ) (code : ℕ → Option PlainPoint) (temp top : ℕ) (unit : CellUnit) (low : globals ≤ lo) (fit : temp ≤ top) where
  abbrev OK : Bits → After Working Bits → After ℕ Bits → Type 0
  OK bits x y = Good lo width globals number code temp top unit bits x y

  module _ (f : Frame) (fs : List Frame) (w : Where) (known : ℕ → Bool) (own : Bits) (got : List ℕ) (p : ℕ) (bits g : Bits) (alike : SameBelow lo top own bits) (near : Near lo width globals number code temp top unit f w.fn known own) (behind : Behind lo width globals number code temp top unit f.base f.into w fs own) (shared : Shared lo width globals number code temp top unit g bits) where
    at_end : Front lo width globals number code temp top unit (body_of f w) known [] got p own → SameWant (OK bits) (leave fs f.into None g) (step width (code p) bits)
    at_end fr =
        let s : step width (code p) bits ≡ act width (leaving w.inner None) w.after bits = ap (λ q. step width (code q) bits) fr.1 ∙ ap (λ o. step width o bits) fr.3 in
        let given = subst (λ b. Given b None) (sym fr.2) tt in
        let l = leaves lo width globals number code temp top unit low fit fs f.base f.into w own bits g None [] behind alike shared given in
        subst (λ x. SameWant (OK bits) (leave fs f.into None g) x) (sym s)
        (subst (λ o. SameWant (OK bits) (leave fs f.into None g) (act width (leaving w.inner o) w.after bits)) (set_none w.into []) l)

    at_thing : (cell : ℕ) (s : CellStatement) (rest : Todo) → f.todo ≡ (cell, s) ∷ rest → Front lo width globals number code temp top unit (body_of f w) known ((cell, s) ∷ rest) got p own → SameWant (OK bits) (goes unit (ask_all (questions s) f.locals got) s cell rest f fs got g) (step width (code p) bits)
    at_thing cell s rest e fr =
        let b = body_of f w in
        let k0 = fr.0 in
        let at = fr.1 in
        let after = fr.2 in
        let own0 = fr.3 in
        let pl = fr.4.placed in
        let busy = fr.4.busy in
        let tl = fr.5 in
        let qs = questions s in
        let is = items_all f.base temp qs in
        let ts = terms_all f.base temp qs in
        let fq = fits_questions lo width globals number code temp top unit b k0 cell s pl.fits in
        let above : (lo ≤ f.base) × (lo ≤ temp) = (near.low, let l = near.low in let r = near.room in omega arith) in
        let under : (i : ℕ) → IsTrue (k0 i) → f.base + i < temp = λ i k. let u = near.under i (pl.sub.by i k) in let r = near.room in omega arith in
        let ready : Ready lo width globals f.base temp k0 under above f.locals [] temp own0 = record {
          le = omega arith;
          agrees = λ i k. near.agrees i (pl.sub.by i k) ∙ busy.same.at (f.base + i) (let l = near.low in omega arith) (under i k);
          on = refl;
          within = tt;
        } in
        let ma = subst (λ l. MeansAll lo width globals [] own0 temp ts (ask_all qs f.locals got) (walk width l own0 got)) (append-nil is) (exact_all lo width globals f.base temp k0 under above f.locals qs temp own0 got [] fq ready) in
        let action = action_of number temp unit.fun (rooms_to unit f.depth) (plan_to number temp unit f.depth) b.ctx cell s ts in
        let nexts = nexts_of number temp unit.fun (rooms_to unit f.depth) (plan_to number temp unit f.depth) b.ctx at cell s ts after in
        let co = comes lo width number code temp top (place_of s) action nexts is own0 got own bits alike p busy in
        let wi = terms_in lo width globals f.base temp k0 under above top qs temp (omega arith) pl.sites fq in
        let same_vals = vals_same lo width ts top own bits wi alike in
        let go : (ans : Answer (List ℕ)) (seen : Seen) → MeansAll lo width globals [] own0 temp ts ans seen → Comes lo width number code temp top (place_of s) action nexts is own0 got p own bits seen → SoundAnswer s ans → SameWant (OK bits) (goes unit ans s cell rest f fs got g) (step width (code p) bits)
        = λ ans seen. elim ans as (λ ans. MeansAll lo width globals [] own0 temp ts ans seen → Comes lo width number code temp top (place_of s) action nexts is own0 got p own bits seen → SoundAnswer s ans → SameWant (OK bits) (goes unit ans s cell rest f fs got g) (step width (code p) bits)) [
          | Wants c wd ↦ λ m co so.
              let rd = subst (Comes lo width number code temp top (place_of s) action nexts is own0 got p own bits) m.0 co in
              let into = rd.into in
              let v = bits c in
              let own' = put own into v in
              let bits' = put bits into v in
              let lt : temp ≤ into = rd.low in
              let lo_into : lo ≤ into = let q = above.1 in omega arith in
              let same : SameBelow lo temp own own' = same_put lo temp into v own lt in
              let related : Related lo width globals number code temp top unit f fs w known own' (got ++ v ∷ []) rd.to bits' = record {
                alike = alike_both lo width globals number code temp top unit low fit own bits into v alike;
                near = near_on lo width globals number code temp top unit f w.fn known own own' temp near.room near same;
                behind = behind_on lo width globals number code temp top unit fs f.base f.into w own own' temp (let r = near.room in omega arith) behind same;
                front = subst (λ t. Front lo width globals number code temp top unit b known t (got ++ v ∷ []) rd.to own') (sym e) (k0, at, after, own0, record { placed = pl; busy = rd.busy }, tl);
              } in
              subst (SameWant (OK bits) (goes unit (Wants c wd) s cell rest f fs got g)) (sym rd.on)
              (subst (λ u. SameWant (OK bits) (Does (Told.Read c (record { width = wd; bits = u })) (record { state = record { frames = f ∷ fs; got = got ++ u ∷ [] }; globals = g })) (Does (Told.Read c (record { width = wd; bits = v })) (record { state = rd.to; globals = bits' }))) (sym (shared.at c m.1))
              (refl, ((own', w, known, related), shared_own lo width globals number code temp top unit low fit g bits into v lo_into shared, others_own lo width globals number code temp top unit low fit bits into v lo_into rd.high)))
          | Traps n ↦ λ m co so.
              let st = subst (Comes lo width number code temp top (place_of s) action nexts is own0 got p own bits) m co in
              subst (SameWant (OK bits) (Fails (fault n))) (sym st) refl
          | Value xs got' ↦ λ m co so.
              let th = subst (Comes lo width number code temp top (place_of s) action nexts is own0 got p own bits) m.on co in
              let ex : vals lo (val width bits) ts ≡ xs = same_vals ∙ ap (λ o. vals lo (val width o) ts) (sym th.1) ∙ m.is in
              subst (SameWant (OK bits) (complete unit s cell rest f fs xs g)) (sym th.0)
              (subst (λ ys. SameWant (OK bits) (complete unit s cell rest f fs ys g) (act width action nexts bits)) ex
              (completes lo width globals number code temp top unit low fit f w fs known own bits g near behind alike shared s k0 at cell after rest pl tl (subst (Sound s) (sym ex) so)))
        ] in
        go (ask_all qs f.locals got) (walk width is own0 got) ma co (sound s f.locals got)

    at_front : (todo : Todo) → f.todo ≡ todo → Front lo width globals number code temp top unit (body_of f w) known todo got p own → SameWant (OK bits) (front unit todo f fs got g) (step width (code p) bits)
    at_front [] e fr = at_end fr
    at_front (x ∷ rest) e fr = at_thing x.0 x.1 rest e fr

    front_place : (todo : Todo) → Front lo width globals number code temp top unit (body_of f w) known todo got p own → place_first unit todo f.close ≡ place_at (code p)
    front_place [] fr = near.close ∙ sym (ap (λ q. place_at (code q)) fr.1 ∙ ap place_at fr.3)
    front_place (x ∷ rest) fr = sym (busy_place lo width number code temp top (place_of x.1) _ _ _ fr.3 got own bits alike p fr.4.busy)

  pub same_want : (frames : List Frame) (got : List ℕ) (p : ℕ) (bits g : Bits) → Alike lo width globals number code temp top unit frames got p bits → Shared lo width globals number code temp top unit g bits → SameWant (OK bits) (wants_of unit frames got g) (step width (code p) bits)
  same_want [] got p bits g h shared = absurd h
  same_want (f ∷ fs) got p bits g h shared =
      let r = h.3 in
      at_front f fs h.1 h.2 h.0 got p bits g r.alike r.near r.behind shared f.todo refl r.front

  pub same_place : (frames : List Frame) (got : List ℕ) (p : ℕ) (bits : Bits) → Alike lo width globals number code temp top unit frames got p bits → place_now unit frames ≡ place_at (code p)
  same_place [] got p bits h = absurd h
  same_place (f ∷ fs) got p bits h =
      let r = h.3 in
      front_place f fs h.1 h.2 h.0 got p bits bits r.alike r.near r.behind (record { at = λ i q. refl }) f.todo r.front

  -- the cells of others may change
  pub stays_alike : (frames : List Frame) (got : List ℕ) (p : ℕ) (bits bits' : Bits) → Alike lo width globals number code temp top unit frames got p bits → SameBelow lo top bits bits' → Alike lo width globals number code temp top unit frames got p bits'
  stays_alike [] got p bits bits' h s = h
  stays_alike (f ∷ fs) got p bits bits' h s =
      let r = h.3 in
      (h.0, h.1, h.2, record { alike = record { at = λ i l q. s.at i l q ∙ r.alike.at i l q }; near = r.near; behind = r.behind; front = r.front })

  -- an entity starts alike, whatever its cells hold
  pub starts_alike : (fn : CellFunction) (depth : ℕ) (bits : Bits) → fn.params ≡ [] → lo + fn.locals ≤ temp → FitsFun width globals temp top (rooms_to unit depth) (FitsTo width globals temp top unit depth) fn lo → Stands lo number code 0 (points_of_entity number temp unit depth lo fn) → or_zero (first (val width bits) (entry_of_entity number temp unit depth lo fn)) ≡ 0 → Alike lo width globals number code temp top unit (begin unit fn depth lo (λ i. 0) None ∷ []) [] 0 bits
  starts_alike fn depth bits none room fits st z =
      let w : Where = record { inner = false; after = []; into = None; fn = fn } in
      let f = begin unit fn depth lo (λ i. 0) None in
      let known = λ (i : ℕ). nat_lt i (length fn.params) in
      let few : length fn.params ≡ 0 = ap length none in
      let near : Near lo width globals number code temp top unit f fn known bits = record {
        close = refl;
        agrees = λ i q. absurd (grind (arith, nat_tests));
        under = λ i q. absurd (grind (arith, nat_tests));
        low = omega arith;
        room = room;
      } in
      let fol = body_follows lo width globals number code temp top unit low fit (body_of f w) 0 fits st in (
        bits,
        w,
        known,
        record {
          alike = same_here lo top bits;
          near = near;
          behind = refl;
          front = fronted lo width globals number code temp top unit f w known bits bits near (same_here lo top bits) fit f.todo (entry_of_entity number temp unit depth lo fn) 0 fol (sym z);
        },
      )
