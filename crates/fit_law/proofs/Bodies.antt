-- The points of bodies fit.
use Rattle.std.proofs.Common.{◌≡◌, ℕ, nat_lt, zero, suc, ◌+◌, ◌<◌, ◌≤◌, Bool, true, false, ◌||◌, ◌==◌, List, [], ◌∷◌, ◌++◌, length, Option, Some, None, IsTrue, refl, sym, ◌∙◌, subst, arith}
use Rattle.std.proofs.lemmas.Bool.Decides.{nat_tests}
use Rattle.application.specs.declared.app.App.{App}
use Rattle.chk_base.specs.declared.place.Place.{Place}
use Rattle.chk_base.specs.declared.word.Width.{Width}
use Rattle.chk_base.specs.Term.{Term}
use Rattle.step_ir.specs.declared.code.Code.{Code}
use Rattle.step_ir.specs.Fits.{Misses, IsServiceFit, IsOwn, ReadsOwn, IsReturnFit, AreSetsFit}
use Rattle.step_ir.specs.Points.{PlainAction, PlainPoint, End, first_cell, points_in}
use Rattle.step_ir.specs.Points as act
use Rattle.lower_law.specs.Typed.{CType, CellExpr}
use Rattle.lower_law.specs.Items.{Item, sites_all, terms_all, items_all}
use Rattle.lower_law.specs.FitsBody.{FitsAll, learn, learn_into, known_after, FitsInto, FitsSt, FitsBl, FitsFun, FitsTo}
use Rattle.lower_law.specs.Statements.{CellStatement, Set, Write, WriteAt, If, Loop, Assert, Input, Call, Return, Serve, Block, CellBlock, Nil, Cons, CellFunction, CellUnit, asked, asked_if, questions, place_of, room, room_all, rooms_to}
use Rattle.lower_law.specs.Lowered.{Nexts, Context, Plan, first_term, second_term, sets, set_of, all_guarded, moved, leaving, callee, closing, closing_size, entry, close_entry, own, size, size_all, entry_one, entry_all, action_of, nexts_of, own_points, points_one, points_all, plan_of, plan_to}
use Rattle.lower_law.proofs.Sizes.{AreSized, count, length_own, sized_to}
use Rattle.fit_law.proofs.Expressions.{HasElements, AllHaveElements, Space, AreRead, AreItemsFit, first_read, second_read, scalar_target, array_target, reads_convert, all_terms_own, all_items_fit}
use Rattle.fit_law.proofs.Nexts.{length_thing, Goes, goes_guarded, goes_always, goes_entry, ArePointsFit, points_append, Completes, completes, thing_fit}

-- ---- what is known of statements beside their cells: arrays have elements, services name what there is, and functions that are called exist
module _ (app : App) (functions : ℕ) where
  module _ (IsCalled : ℕ → Type 0) where
    abbrev mutual
      pub IsSound : CellStatement → Type 0
      IsSound (Set p at t e) = HasElements e
      IsSound (Write p c t e) = HasElements e
      IsSound (WriteAt p c len t i e) = (1 ≤ len) × HasElements i × HasElements e
      IsSound (If p c a b) = HasElements c × AreSound a × AreSound b
      IsSound (Loop p c x b) = HasElements c × AreSound x × AreSound b
      IsSound (Assert p e) = HasElements e
      IsSound (Input p at t) = Unit {0}
      IsSound (Call p f args into) = AllHaveElements (asked args) × (f < functions) × IsCalled f
      IsSound (Return p e) = AllHaveElements (asked_if e)
      IsSound (Serve p s) = IsServiceFit app s
      IsSound (Block b) = AreSound b

      -- so of all statements of a block
      pub AreSound : CellBlock → Type 0
      AreSound Nil = Unit {0}
      AreSound (Cons s b) = IsSound s × AreSound b

    -- the expressions that a sound statement asks
    pub sound_asked : (s : CellStatement) → IsSound s → AllHaveElements (questions s)
    sound_asked (Set p at t e) h = (h, tt)
    sound_asked (Write p c t e) h = (h, tt)
    sound_asked (WriteAt p c len t i e) h = (h.1, (h.2, tt))
    sound_asked (If p c a b) h = (h.0, tt)
    sound_asked (Loop p c x b) h = (h.0, tt)
    sound_asked (Assert p e) h = (h, tt)
    sound_asked (Input p at t) h = tt
    sound_asked (Call p f args into) h = h.0
    sound_asked (Return p e) h = h
    sound_asked (Serve p s) h = tt
    sound_asked (Block b) h = tt

  -- so it is of a function that is called where calls nest less than so deep
  abbrev pub IsSoundTo : CellUnit → ℕ → ℕ → Type 0
  IsSoundTo unit zero f = ⊥
  IsSoundTo unit (suc d) f = AreSound (IsSoundTo unit d) (unit.fun f).body

-- the locals that are known are among so many
pub record Under (locals : ℕ) (known : ℕ → Bool) : Type 0 where
  pub by : (i : ℕ) → IsTrue (known i) → i < locals

-- so it is with one more
learn_under : (locals at : ℕ) (known : ℕ → Bool) → at < locals → Under locals known → Under locals (learn known at)
learn_under locals at known lt u = record { by = λ i h. go (i == at) i refl h } where
  go : (b : Bool) (i : ℕ) → (i == at) ≡ b → (b || known i) ≡ true → i < locals
  go true i e h = grind (arith, nat_tests)
  go false i e h = u.by i h

-- ---- contexts
module _ (app : App) (code : Code) (e : ℕ) where
  -- where a call goes on; an entity's own body ends
  abbrev pub IsAfter : Bool → Nexts → Type 0
  IsAfter true xs = Goes code e xs
  IsAfter false xs = xs ≡ []

  -- a result goes into a cell of the entity
  abbrev pub IsInto : Option (ℕ × CType) → Type 0
  IsInto None = Unit {0}
  IsInto (Some a) = IsOwn code e a.0

  -- a context that fits
  pub record IsContext (ctx : Context) : Type 0 where
    pub low : first_cell code e ≤ ctx.base
    pub after : IsAfter ctx.inner ctx.after
    pub into : IsInto ctx.into

  -- the end of a call, or of an entity's body
  leaving_fit : (inner : Bool) (set : Option (ℕ × Term)) (after : Nexts) → IsAfter inner after → IsReturnFit code e set → Completes code e app (leaving inner set) after
  leaving_fit true set after a s = completes code e app (act.Return set) after s a
  leaving_fit false set after a s = subst (λ xs. Completes code e app End xs) (sym a) (record { acts = tt; fit = tt; on = λ h. absurd (let k : true ≡ false = h in cc); one = tt })

  -- what a return sets is a cell of the entity
  return_fit : (into : Option (ℕ × CType)) (ex : Option CellExpr) (ts : List Term) → IsInto into → AreRead code e ts → IsReturnFit code e (set_of into ex ts)
  return_fit None ex ts i r = tt
  return_fit (Some a) None ts i r = tt
  return_fit (Some a) (Some x) ts i r =
      record { cell = i; value = reads_convert (first_cell code e) (first_cell code (e + 1)) a.1 (first_term ts) (first_read code e ts r) }

  -- later cells are others
  misses : (ps : List CType) (ts : List Term) (at cell : ℕ) → cell < at → Misses cell (sets at ps ts)
  misses [] ts at cell lt = tt
  misses (p ∷ ps) [] at cell lt = tt
  misses (p ∷ ps) (t ∷ ts) at cell lt = (λ q. absurd (omega arith), misses ps ts (at + 1) cell (omega arith))

  -- the sets of a call are of distinct cells of the entity
  sets_fit : (ps : List CType) (ts : List Term) (cell : ℕ) → AreRead code e ts → first_cell code e ≤ cell → cell + length ps ≤ first_cell code (e + 1) → AreSetsFit code e (sets cell ps ts)
  sets_fit [] ts cell r lo hi = tt
  sets_fit (p ∷ ps) [] cell r lo hi = tt
  sets_fit (p ∷ ps) (t ∷ ts) cell r lo hi =
      (record { cell = record { from = lo; below = omega arith }; value = r.0 }, misses ps ts (cell + 1) cell (omega arith), sets_fit ps ts (cell + 1) r.1 (omega arith) (omega arith))

  module _ (number : ℕ → ℕ) (total : ℕ) (inside : (at : ℕ) → at < total → number at < length (points_in code e)) (globals temp top : ℕ) (space : Space code e globals temp top) (width : ℕ → Width) (functions : ℕ) (exist : functions ≤ length code.functions) (unit : CellUnit) where
    -- what is known of calls: there is room for the parameters, and the points fit in every context
    pub record AreCallsFit (calls : ℕ → Plan) (FitsCall : ℕ → ℕ → List CellExpr → Option (ℕ × CType) → Type 0) (IsCalled : ℕ → Type 0) : Type 0 where
      pub params : (f cell : ℕ) (args : List CellExpr) (into : Option (ℕ × CType)) → FitsCall f cell args into → cell + length (unit.fun f).params ≤ temp
      pub begins : (f : ℕ) (args : List CellExpr) (into : Option (ℕ × CType)) (ctx : Context) (at : ℕ) → FitsCall f ctx.base args into → IsCalled f → IsContext ctx → ctx.inner ≡ true → at + (calls f).size ≤ total → Goes code e ((calls f).entry ctx at)
      pub points : (f : ℕ) (args : List CellExpr) (into : Option (ℕ × CType)) (ctx : Context) (at : ℕ) → FitsCall f ctx.base args into → IsCalled f → IsContext ctx → ctx.inner ≡ true → at + (calls f).size ≤ total → ArePointsFit code e app ((calls f).points ctx at)

    module _ (rooms : ℕ → ℕ) (calls : ℕ → Plan) (sized : AreSized calls) (FitsCall : ℕ → ℕ → List CellExpr → Option (ℕ × CType) → Type 0) (IsCalled : ℕ → Type 0) (called : AreCallsFit calls FitsCall IsCalled) where
      module _ (ctx : Context) (is : IsContext ctx) (locals : ℕ) (fits : ctx.base + locals ≤ temp) (gives : Bool) where
        -- the statement, or the block, fits at its place
        abbrev Here : (ℕ → Bool) → ℕ → CellStatement → Type 0
        Here known cell s = FitsSt width globals temp top rooms FitsCall ctx.base locals gives known cell s

        abbrev HereAll : (ℕ → Bool) → ℕ → CellBlock → Type 0
        HereAll known cell b = FitsBl width globals temp top rooms FitsCall ctx.base locals gives known cell b

        -- how many points they have
        abbrev size_here : CellStatement → ℕ
        size_here s = size number temp unit.fun rooms calls s

        abbrev size_block : CellBlock → ℕ
        size_block b = size_all number temp unit.fun rooms calls b

        -- where they begin
        abbrev entry_here : ℕ → CellStatement → Nexts → Nexts
        entry_here at s after = entry_one number temp unit.fun rooms calls ctx.base at s after

        abbrev entry_block : ℕ → CellBlock → Nexts → Nexts
        entry_block at b after = entry_all number temp unit.fun rooms calls ctx.base at b after

        -- the points of a block
        abbrev points_block : ℕ → ℕ → CellBlock → Nexts → List PlainPoint
        points_block at cell b after = points_all number temp unit.fun rooms calls ctx at cell b after

        -- the values of the expressions of a thing, and its items
        abbrev terms_here : CellStatement → List Term
        terms_here s = terms_all ctx.base temp (questions s)

        abbrev items_here : CellStatement → List Item
        items_here s = items_all ctx.base temp (questions s)

        -- a local's cell
        local_own : (at : ℕ) → at < locals → IsOwn code e (ctx.base + at)
        local_own at lt = let l = is.low in let m = space.middle in let h = space.high in record { from = omega arith; below = omega arith }

        -- the local that takes a result is one of the locals
        into_under : (known : ℕ → Bool) (into : Option (ℕ × CType)) → FitsInto width ctx.base locals into → Under locals known → Under locals (learn_into known into)
        into_under known None f u = u
        into_under known (Some a) f u = learn_under locals a.0 known f.0 u

        -- and its cell is one of the entity's
        into_fit : (into : Option (ℕ × CType)) → FitsInto width ctx.base locals into → IsInto (moved ctx.base into)
        into_fit None f = tt
        into_fit (Some a) f = local_own a.0 f.0

        -- so are the locals that are set after a statement
        after_under : (known : ℕ → Bool) (cell : ℕ) (s : CellStatement) → Here known cell s → Under locals known → Under locals (known_after known s)
        after_under known cell (Set p at t x) f u = learn_under locals at known f.1 u
        after_under known cell (Write p c t x) f u = u
        after_under known cell (WriteAt p c len t i x) f u = u
        after_under known cell (If p c a b) f u = u
        after_under known cell (Loop p c x b) f u = u
        after_under known cell (Assert p x) f u = u
        after_under known cell (Input p at t) f u = learn_under locals at known f.0 u
        after_under known cell (Call p g args into) f u = into_under known into f.2 u
        after_under known cell (Return p x) f u = u
        after_under known cell (Serve p s) f u = u
        after_under known cell (Block b) f u = u

        -- the expressions that a statement asks fit
        fits_asked : (known : ℕ → Bool) (cell : ℕ) (s : CellStatement) → Here known cell s → FitsAll width globals known (questions s)
        fits_asked known cell (Set p at t x) f = (f.0, tt)
        fits_asked known cell (Write p c t x) f = (f.0, tt)
        fits_asked known cell (WriteAt p c len t i x) f = (f.0, (f.1, tt))
        fits_asked known cell (If p c a b) f = (f.0, tt)
        fits_asked known cell (Loop p c x b) f = (f.0, tt)
        fits_asked known cell (Assert p x) f = (f, tt)
        fits_asked known cell (Input p at t) f = tt
        fits_asked known cell (Call p g args into) f = f.0
        fits_asked known cell (Return p x) f = f.0
        fits_asked known cell (Serve p s) f = tt
        fits_asked known cell (Block b) f = tt

        -- the items of a thing have as many reads as are counted
        count_own : (s : CellStatement) → count (items_here s) ≡ sites_all (questions s)
        count_own s =
            let a = length_own number temp unit.fun rooms calls sized ctx 0 0 s [] in
            let b = length_thing number (place_of s) (action_of number temp unit.fun rooms calls ctx 0 s (terms_here s)) (nexts_of number temp unit.fun rooms calls ctx 0 0 s (terms_here s) []) [] 0 (items_here s) in
            let c : count (items_here s) + 1 ≡ sites_all (questions s) + 1 = sym b ∙ a in
            omega arith

        -- what is known of a thing at its place
        record Ready (known : ℕ → Bool) (at cell : ℕ) (s : CellStatement) : Type 0 where
          here : Here known cell s
          sound : IsSound app functions IsCalled s
          under : Under locals known
          sites : temp + sites_all (questions s) ≤ top
          bound : at + (sites_all (questions s) + 1) ≤ total

        -- so its items and its values fit
        own_items_fit : (known : ℕ → Bool) (at cell : ℕ) (s : CellStatement) → Ready known at cell s → AreItemsFit code e (items_here s)
        own_items_fit known at cell s r =
            all_items_fit code e globals temp top space width ctx.base known (λ i k. let b = r.under.by i k in omega arith) is.low (questions s) temp (omega arith) r.sites (fits_asked known cell s r.here) (sound_asked app functions IsCalled s r.sound)

        own_terms : (known : ℕ → Bool) (at cell : ℕ) (s : CellStatement) → Ready known at cell s → AreRead code e (terms_here s)
        own_terms known at cell s r =
            all_terms_own code e globals temp top space width ctx.base known (λ i k. let b = r.under.by i k in omega arith) is.low (questions s) temp (omega arith) r.sites (fits_asked known cell s r.here)

        -- where it begins
        own_goes : (known : ℕ → Bool) (at cell : ℕ) (s : CellStatement) → Ready known at cell s → Goes code e (entry number at (items_here s))
        own_goes known at cell s r =
            let c = count_own s in
            let i = r.bound in
            goes_entry code e number total inside (items_here s) at (own_items_fit known at cell s r) (omega arith)

        -- its points fit where its action and its nexts do
        own_fit : (known : ℕ → Bool) (at cell : ℕ) (s : CellStatement) (after : Nexts) → Ready known at cell s → Completes code e app (action_of number temp unit.fun rooms calls ctx cell s (terms_here s)) (nexts_of number temp unit.fun rooms calls ctx at cell s (terms_here s) after) → ArePointsFit code e app (own_points number temp unit.fun rooms calls ctx at cell s after)
        own_fit known at cell s after r c =
            let n = count_own s in
            let i = r.bound in
            thing_fit code e app number total inside (place_of s) (action_of number temp unit.fun rooms calls ctx cell s (terms_here s)) (nexts_of number temp unit.fun rooms calls ctx at cell s (terms_here s) after) c [] at (items_here s) tt (own_items_fit known at cell s r) (omega arith)

        -- its first value
        first_own : (known : ℕ → Bool) (at cell : ℕ) (s : CellStatement) → Ready known at cell s → ReadsOwn code e (first_term (terms_here s))
        first_own known at cell s r = first_read code e (terms_here s) (own_terms known at cell s r)

        mutual
          -- where a statement begins
          one_goes : (s : CellStatement) (known : ℕ → Bool) (at cell : ℕ) (after : Nexts) → Here known cell s → IsSound app functions IsCalled s → Under locals known → temp + sites_all (questions s) ≤ top → at + size_here s ≤ total → Goes code e after → Goes code e (entry_here at s after)
          one_goes (Block b) known at cell after f h u si sz g = all_goes b known at cell after f h u sz g
          one_goes (Set p at' t x) known at cell after f h u si sz g = own_goes known at cell (Set p at' t x) (record { here = f; sound = h; under = u; sites = si; bound = omega arith })
          one_goes (Write p c t x) known at cell after f h u si sz g = own_goes known at cell (Write p c t x) (record { here = f; sound = h; under = u; sites = si; bound = omega arith })
          one_goes (WriteAt p c len t i x) known at cell after f h u si sz g = own_goes known at cell (WriteAt p c len t i x) (record { here = f; sound = h; under = u; sites = si; bound = omega arith })
          one_goes (If p c a b) known at cell after f h u si sz g = own_goes known at cell (If p c a b) (record { here = f; sound = h; under = u; sites = si; bound = omega arith })
          one_goes (Loop p c x b) known at cell after f h u si sz g = own_goes known at cell (Loop p c x b) (record { here = f; sound = h; under = u; sites = si; bound = omega arith })
          one_goes (Assert p x) known at cell after f h u si sz g = own_goes known at cell (Assert p x) (record { here = f; sound = h; under = u; sites = si; bound = omega arith })
          one_goes (Input p at' t) known at cell after f h u si sz g = own_goes known at cell (Input p at' t) (record { here = f; sound = h; under = u; sites = si; bound = omega arith })
          one_goes (Call p k args into) known at cell after f h u si sz g = own_goes known at cell (Call p k args into) (record { here = f; sound = h; under = u; sites = si; bound = omega arith })
          one_goes (Return p x) known at cell after f h u si sz g = own_goes known at cell (Return p x) (record { here = f; sound = h; under = u; sites = si; bound = omega arith })
          one_goes (Serve p s) known at cell after f h u si sz g = own_goes known at cell (Serve p s) (record { here = f; sound = h; under = u; sites = si; bound = omega arith })

          -- where a block begins
          all_goes : (b : CellBlock) (known : ℕ → Bool) (at cell : ℕ) (after : Nexts) → HereAll known cell b → AreSound app functions IsCalled b → Under locals known → at + size_block b ≤ total → Goes code e after → Goes code e (entry_block at b after)
          all_goes Nil known at cell after f h u sz g = g
          all_goes (Cons s b) known at cell after f h u sz g =
              one_goes s known at cell (entry_block (at + size_here s) b after) f.0 h.0 u f.1 (omega arith)
              (all_goes b (known_after known s) (at + size_here s) (cell + room rooms s) after f.3 h.1 (after_under known cell s f.0 u) (omega arith) g)

        mutual
          -- the points of a statement fit
          one_fit : (s : CellStatement) (known : ℕ → Bool) (at cell : ℕ) (after : Nexts) → Here known cell s → IsSound app functions IsCalled s → Under locals known → temp + sites_all (questions s) ≤ top → ctx.base + locals ≤ cell → at + size_here s ≤ total → Goes code e after → ArePointsFit code e app (points_one number temp unit.fun rooms calls ctx at cell s after)
          one_fit (Block b) known at cell after f h u si ro sz g = all_fit b known at cell after f h u sz g
          one_fit (Set p at' t x) known at cell after f h u si ro sz g =
              let r : Ready known at cell (Set p at' t x) = record { here = f; sound = h; under = u; sites = si; bound = omega arith } in
              own_fit known at cell (Set p at' t x) after r (completes code e app (act.Local (ctx.base + at') (first_term (terms_here (Set p at' t x)))) after (local_own at' f.1, first_own known at cell (Set p at' t x) r) g)
          one_fit (Write p c t x) known at cell after f h u si ro sz g =
              let r : Ready known at cell (Write p c t x) = record { here = f; sound = h; under = u; sites = si; bound = omega arith } in
              own_fit known at cell (Write p c t x) after r (completes code e app (act.Write (record { base = c; len = 1; index = None }) (first_term (terms_here (Write p c t x)))) after (scalar_target code e globals temp top space c f.2, first_own known at cell (Write p c t x) r) g)
          one_fit (WriteAt p c len t i x) known at cell after f h u si ro sz g =
              let s = WriteAt p c len t i x in
              let r : Ready known at cell s = record { here = f; sound = h; under = u; sites = si; bound = omega arith } in
              let ts = terms_here s in
              own_fit known at cell s after r (completes code e app (act.Write (record { base = c; len = len; index = Some (first_term ts) }) (second_term ts)) after (array_target code e globals temp top space c len (first_term ts) h.0 (λ k q. (f.2 k q).1) (first_own known at cell s r), second_read code e ts (own_terms known at cell s r)) g)
          one_fit (If p c a b) known at cell after f h u si ro sz g =
              let s = If p c a b in
              let r : Ready known at cell s = record { here = f; sound = h; under = u; sites = si; bound = omega arith } in
              let t = first_term (terms_here s) in
              let on = at + own number temp unit.fun rooms calls s in
              let off = on + size_block a in
              let ga = all_goes a known on cell after f.1 h.1 u (omega arith) g in
              let gb = all_goes b known off (cell + room_all rooms a) after f.2 h.2 u (omega arith) g in
              let c1 = completes code e app (act.Branch t) (all_guarded t (entry_block on a after) (entry_block off b after)) (first_own known at cell s r) (goes_guarded code e t (entry_block on a after) (entry_block off b after) (first_own known at cell s r) ga.fit gb) in
              points_append code e app (own_points number temp unit.fun rooms calls ctx at cell s after) (points_block on cell a after ++ points_block off (cell + room_all rooms a) b after) (own_fit known at cell s after r c1)
              (points_append code e app (points_block on cell a after) (points_block off (cell + room_all rooms a) b after) (all_fit a known on cell after f.1 h.1 u (omega arith) g) (all_fit b known off (cell + room_all rooms a) after f.2 h.2 u (omega arith) g))
          one_fit (Loop p c x b) known at cell after f h u si ro sz g =
              let s = Loop p c x b in
              let r : Ready known at cell s = record { here = f; sound = h; under = u; sites = si; bound = omega arith } in
              let t = first_term (terms_here s) in
              let third = at + own number temp unit.fun rooms calls s in
              let body = third + size_block x in
              let again = entry number at (items_here s) in
              let next = entry_block third x again in
              let g0 = own_goes known at cell s r in
              let g1 = all_goes x known third cell again f.1 h.1 u (omega arith) g0 in
              let g2 = all_goes b known body (cell + room_all rooms x) next f.2 h.2 u (omega arith) g1 in
              let c1 = completes code e app (act.Branch t) (all_guarded t (entry_block body b next) after) (first_own known at cell s r) (goes_guarded code e t (entry_block body b next) after (first_own known at cell s r) g2.fit g) in
              points_append code e app (own_points number temp unit.fun rooms calls ctx at cell s after) (points_block third cell x again ++ points_block body (cell + room_all rooms x) b next) (own_fit known at cell s after r c1)
              (points_append code e app (points_block third cell x again) (points_block body (cell + room_all rooms x) b next) (all_fit x known third cell again f.1 h.1 u (omega arith) g0) (all_fit b known body (cell + room_all rooms x) next f.2 h.2 u (omega arith) g1))
          one_fit (Assert p x) known at cell after f h u si ro sz g =
              let r : Ready known at cell (Assert p x) = record { here = f; sound = h; under = u; sites = si; bound = omega arith } in
              own_fit known at cell (Assert p x) after r (completes code e app (act.Assert (first_term (terms_here (Assert p x)))) after (first_own known at cell (Assert p x) r) g)
          one_fit (Input p at' t) known at cell after f h u si ro sz g =
              let r : Ready known at cell (Input p at' t) = record { here = f; sound = h; under = u; sites = si; bound = omega arith } in
              own_fit known at cell (Input p at' t) after r (completes code e app (act.Input (ctx.base + at')) after (local_own at' f.0) g)
          one_fit (Call p k args into) known at cell after f h u si ro sz g =
              let s = Call p k args into in
              let r : Ready known at cell s = record { here = f; sound = h; under = u; sites = si; bound = omega arith } in
              let ts = terms_here s in
              let inner = callee ctx cell into after in
              let behind = at + own number temp unit.fun rooms calls s in
              let low = is.low in
              let ic : IsContext inner = record { low = omega arith; after = g; into = into_fit into f.2 } in
              let room_here = called.params k cell args into f.1 in
              let middle = space.middle in
              let high = space.high in
              let known_function : k < length code.functions = let lt = h.1 in omega arith in
              let c1 = completes code e app (act.Call k (sets cell (unit.fun k).params ts)) ((calls k).entry inner behind) (known_function, sets_fit (unit.fun k).params ts cell (own_terms known at cell s r) (omega arith) (omega arith)) (called.begins k args into inner behind f.1 h.2 ic refl (omega arith)) in
              points_append code e app (own_points number temp unit.fun rooms calls ctx at cell s after) ((calls k).points inner behind) (own_fit known at cell s after r c1) (called.points k args into inner behind f.1 h.2 ic refl (omega arith))
          one_fit (Return p x) known at cell after f h u si ro sz g =
              let s = Return p x in
              let r : Ready known at cell s = record { here = f; sound = h; under = u; sites = si; bound = omega arith } in
              let set = set_of ctx.into x (terms_here s) in
              own_fit known at cell s after r (leaving_fit ctx.inner set ctx.after is.after (return_fit ctx.into x (terms_here s) is.into (own_terms known at cell s r)))
          one_fit (Serve p service) known at cell after f h u si ro sz g =
              let r : Ready known at cell (Serve p service) = record { here = f; sound = h; under = u; sites = si; bound = omega arith } in
              own_fit known at cell (Serve p service) after r (completes code e app (act.Invoke service) after h g)

          -- and those of a block
          all_fit : (b : CellBlock) (known : ℕ → Bool) (at cell : ℕ) (after : Nexts) → HereAll known cell b → AreSound app functions IsCalled b → Under locals known → at + size_block b ≤ total → Goes code e after → ArePointsFit code e app (points_all number temp unit.fun rooms calls ctx at cell b after)
          all_fit Nil known at cell after f h u sz g = tt
          all_fit (Cons s b) known at cell after f h u sz g =
              let behind = at + size_here s in
              let u' = after_under known cell s f.0 u in
              let g' = all_goes b (known_after known s) behind (cell + room rooms s) after f.3 h.1 u' (omega arith) g in
              points_append code e app (points_one number temp unit.fun rooms calls ctx at cell s (entry_block behind b after)) (points_block behind (cell + room rooms s) b after) (one_fit s known at cell (entry_block behind b after) f.0 h.0 u f.1 f.2 (omega arith) g')
              (all_fit b (known_after known s) behind (cell + room rooms s) after f.3 h.1 u' (omega arith) g)

      -- ---- functions
      -- where the end of a body begins; a body with a result is that of a function that is called
      closed_goes : (gives : Bool) (ctx : Context) (at : ℕ) → IsContext ctx → (gives ≡ true → ctx.inner ≡ true) → at + closing_size gives ≤ total → Goes code e (close_entry number gives ctx at)
      closed_goes true ctx at is inner lt = subst (λ b. IsAfter b ctx.after) (inner refl) is.after
      closed_goes false ctx at is inner lt = goes_always code e number total inside at (omega arith)

      -- the point of a closing brace fits
      closing_fit : (gives : Bool) (place : Place) (ctx : Context) → IsContext ctx → ArePointsFit code e app (closing gives place ctx)
      closing_fit true place ctx is = tt
      closing_fit false place ctx is =
          let c = leaving_fit ctx.inner None ctx.after is.after tt in
          (record { action = c.acts; traps = tt; nexts = c.fit; goes_on = c.on; ends_in_one = c.one }, tt)

      -- the parameters are known
      params_under : (f : CellFunction) → length f.params ≤ f.locals → Under f.locals (λ i. nat_lt i (length f.params))
      params_under f le = record { by = λ i h. grind (arith, nat_tests) }

      -- where a function begins, and its points
      pub plan_goes : (f : CellFunction) (ctx : Context) (at : ℕ) → FitsFun width globals temp top rooms FitsCall f ctx.base → AreSound app functions IsCalled f.body → IsContext ctx → (f.gives ≡ true → ctx.inner ≡ true) → at + (plan_of number temp unit.fun rooms calls f).size ≤ total → Goes code e ((plan_of number temp unit.fun rooms calls f).entry ctx at)
      plan_goes f ctx at fit h is inner sz =
          let end = at + size_all number temp unit.fun rooms calls f.body in
          all_goes ctx is f.locals fit.high f.gives f.body (λ i. nat_lt i (length f.params)) at (ctx.base + f.locals) (close_entry number f.gives ctx end) fit.body h (params_under f fit.few) (omega arith) (closed_goes f.gives ctx end is inner (omega arith))

      pub plan_fit : (f : CellFunction) (ctx : Context) (at : ℕ) → FitsFun width globals temp top rooms FitsCall f ctx.base → AreSound app functions IsCalled f.body → IsContext ctx → (f.gives ≡ true → ctx.inner ≡ true) → at + (plan_of number temp unit.fun rooms calls f).size ≤ total → ArePointsFit code e app ((plan_of number temp unit.fun rooms calls f).points ctx at)
      plan_fit f ctx at fit h is inner sz =
          let end = at + size_all number temp unit.fun rooms calls f.body in
          let after = close_entry number f.gives ctx end in
          points_append code e app (points_all number temp unit.fun rooms calls ctx at (ctx.base + f.locals) f.body after) (closing f.gives f.close ctx)
          (all_fit ctx is f.locals fit.high f.gives f.body (λ i. nat_lt i (length f.params)) at (ctx.base + f.locals) after fit.body h (params_under f fit.few) (omega arith) (closed_goes f.gives ctx end is inner (omega arith)))
          (closing_fit f.gives f.close ctx is)

    -- calls fit, however deep they nest
    pub calls_fit : (d : ℕ) → AreCallsFit (plan_to number temp unit d) (FitsTo width globals temp top unit d) (IsSoundTo app functions unit d)
    calls_fit zero = record {
      params = λ f cell args into h. absurd h;
      begins = λ f args into ctx at h s is inner sz. absurd h;
      points = λ f args into ctx at h s is inner sz. absurd h;
    }
    calls_fit (suc d) =
        let ih = calls_fit d in
        let plans = plan_to number temp unit d in
        let sized = sized_to number temp unit d in
        record {
          params = λ f cell args into h. let few = h.0.few in let high = h.0.high in omega arith;
          begins = λ f args into ctx at h s is inner sz. plan_goes (rooms_to unit d) plans sized (FitsTo width globals temp top unit d) (IsSoundTo app functions unit d) ih (unit.fun f) ctx at h.0 s is (λ g. inner) sz;
          points = λ f args into ctx at h s is inner sz. plan_fit (rooms_to unit d) plans sized (FitsTo width globals temp top unit d) (IsSoundTo app functions unit d) ih (unit.fun f) ctx at h.0 s is (λ g. inner) sz;
        }
