-- Over a lowered program the scheduler has the same events as over the typed unit.
use Rattle.std.proofs.Common.{◌≡◌, ℕ, ◌<◌, ◌≤◌, Bool, true, false, ◌==◌, nat_lt, [], ◌∷◌, None, refl, sym, ap, ◌∙◌, subst, arith}
use Rattle.std.proofs.lemmas.Bool.Decides.{nat_tests}
use Rattle.step_ir.specs.EntityStep.{Ends}
use Rattle.step_ir.specs.PointStep.{Bits, Program, of_points, or_zero, step, place_at, nowhere}
use Rattle.lower_law.specs.EntityStep.{Working, begin, of_unit, place_now, wants_of}
use Rattle.lower_law.specs.Exact.{SameWant, Layout, SharesGlobals, AreLowered, HasSameEvents}
use Rattle.lower_law.specs.Statements.{CellFunction, CellUnit}
use Rattle.lower_law.proofs.Complete.{Alike, Shared}
use Rattle.lower_law.proofs.Lowering.{same_map, stands_as, starts_same}
use Rattle.lower_law.proofs.Runs.{same_events}
use Rattle.lower_law.proofs.Steps.{same_want, same_place, stays_alike, starts_alike}

module _ (unit : CellUnit) (depth : ℕ) (lay : Layout) (code : Program) (number : ℕ → ℕ → ℕ) (n : ℕ) (all : AreLowered unit depth lay code number n) where
  abbrev Shares : Bits → Bits → Type 0
  Shares = SharesGlobals lay.globals

  -- the cells that are neither globals nor the entity's own are kept
  record Keeps (e : ℕ) (h h' : Bits) : Type 0 where
    here : e < n
    between : (i : ℕ) → lay.globals ≤ i → i < lay.first e → h' i ≡ h i
    above : (i : ℕ) → lay.top e ≤ i → h' i ≡ h i

  abbrev Among : Bool → ℕ → Working → ℕ → Bits → Type 0
  Among true e s t h = Alike (lay.first e) code.width lay.globals (number e) (code.point e) (lay.temp e) (lay.top e) unit s.frames s.got t h
  Among false e s t h = (s ≡ (of_unit unit depth lay.first).start e) × (t ≡ 0)

  abbrev R : ℕ → Working → ℕ → Bits → Type 0
  R e s t h = Among (nat_lt e n) e s t h

  starts : (e : ℕ) (h : Bits) → R e ((of_unit unit depth lay.first).start e) ((of_points code).start e) h
  starts e h = go (nat_lt e n) refl where
    go : (b : Bool) → nat_lt e n ≡ b → Among b e ((of_unit unit depth lay.first).start e) 0 h
    go false lt = (refl, refl)
    go true lt =
        let below : e < n = grind (arith, nat_tests) in
        let l = all.lowered e below in
        let st = stands_as (lay.first e) (number e) (code.point e) 0 _ l.points in
        starts_alike (lay.first e) code.width lay.globals (number e) (code.point e) (lay.temp e) (lay.top e) unit l.fits.low l.room (unit.entity e) depth h l.plain l.fits.high l.fits st (ap or_zero (starts_same unit depth lay code (number e) e h l.fits l.plain l.void) ∙ l.starts)

  idle_want : (e : ℕ) (g h : Bits) → n ≤ e → (place_now unit ((of_unit unit depth lay.first).start e).frames ≡ place_at (code.point e 0)) × SameWant (λ x y. Shares x.globals y.globals × R e x.state y.state y.globals × Keeps e h y.globals) (wants_of unit ((of_unit unit depth lay.first).start e).frames [] g) (step code.width (code.point e 0) h)
  idle_want e g h le =
      let i = all.idle e le in
      subst (λ (f : CellFunction). (place_now unit (begin unit f depth (lay.first e) (λ i. 0) None ∷ []) ≡ place_at (code.point e 0)) × SameWant (λ x y. Shares x.globals y.globals × R e x.state y.state y.globals × Keeps e h y.globals) (wants_of unit (begin unit f depth (lay.first e) (λ i. 0) None ∷ []) [] g) (step code.width (code.point e 0) h)) (sym i.0)
      (subst (λ o. (nowhere ≡ place_at o) × SameWant (λ x y. Shares x.globals y.globals × R e x.state y.state y.globals × Keeps e h y.globals) Ends (step code.width o h)) (sym i.1) (refl, tt))

  steps : (e : ℕ) (s : Working) (t : ℕ) (g h : Bits) → R e s t h → Shares g h → ((of_unit unit depth lay.first).place e s ≡ (of_points code).place e t) × SameWant (λ x y. Shares x.globals y.globals × R e x.state y.state y.globals × Keeps e h y.globals) ((of_unit unit depth lay.first).wants e s g) ((of_points code).wants e t h)
  steps e s t g h r sh = go (nat_lt e n) refl r where
    go : (b : Bool) → nat_lt e n ≡ b → Among b e s t h → ((of_unit unit depth lay.first).place e s ≡ (of_points code).place e t) × SameWant (λ x y. Shares x.globals y.globals × R e x.state y.state y.globals × Keeps e h y.globals) ((of_unit unit depth lay.first).wants e s g) ((of_points code).wants e t h)
    go true lt a =
        let below : e < n = grind (arith, nat_tests) in
        let l = all.lowered e below in
        let shared : Shared (lay.first e) code.width lay.globals (number e) (code.point e) (lay.temp e) (lay.top e) unit g h = record { at = sh.at } in (
          same_place (lay.first e) code.width lay.globals (number e) (code.point e) (lay.temp e) (lay.top e) unit l.fits.low l.room s.frames s.got t h a,
          same_map _ _ _ _
              (λ x y m. (record { at = m.1.at }, subst (λ b. Among b e x.state y.state y.globals) (sym lt) m.0, record { here = below; between = m.2.between; above = m.2.above }))
              (same_want (lay.first e) code.width lay.globals (number e) (code.point e) (lay.temp e) (lay.top e) unit l.fits.low l.room s.frames s.got t h g a shared),
        )
    go false lt a =
        let le : n ≤ e = grind (arith, nat_tests) in
        subst (λ (s : Working). ((of_unit unit depth lay.first).place e s ≡ (of_points code).place e t) × SameWant (λ x y. Shares x.globals y.globals × R e x.state y.state y.globals × Keeps e h y.globals) ((of_unit unit depth lay.first).wants e s g) ((of_points code).wants e t h)) (sym a.0)
        (subst (λ t. ((of_unit unit depth lay.first).place e ((of_unit unit depth lay.first).start e) ≡ (of_points code).place e t) × SameWant (λ x y. Shares x.globals y.globals × R e x.state y.state y.globals × Keeps e h y.globals) ((of_unit unit depth lay.first).wants e ((of_unit unit depth lay.first).start e) g) ((of_points code).wants e t h)) (sym a.1) (idle_want e g h le))

  keeps : (e q : ℕ) (s : Working) (t : ℕ) (h h' : Bits) → (q == e) ≡ false → Keeps e h h' → R q s t h → R q s t h'
  keeps e q s t h h' ne k r = go (nat_lt q n) refl r where
    cell : q < n → (i : ℕ) → lay.first q ≤ i → i < lay.top q → h' i ≡ h i
    cell lt i l u = side (nat_lt e q) refl where
      side : (b : Bool) → nat_lt e q ≡ b → h' i ≡ h i
      side true o =
          let p : e < q = grind (arith, nat_tests) in
          let a = all.apart e q p lt in
          k.above i (omega arith)
      side false o =
          let p : q < e = grind (arith, nat_tests) in
          let low = (all.lowered q lt).fits.low in
          let a = all.apart q e p k.here in
          k.between i (omega arith) (omega arith)

    go : (b : Bool) → nat_lt q n ≡ b → Among b q s t h → Among b q s t h'
    go false lt a = a
    go true lt a =
        let below : q < n = grind (arith, nat_tests) in
        let l = all.lowered q below in
        stays_alike (lay.first q) code.width lay.globals (number q) (code.point q) (lay.temp q) (lay.top q) unit l.fits.low l.room s.frames s.got t h h' a (record { at = cell below })

  pub same_schedules : HasSameEvents lay.globals (of_unit unit depth lay.first) (of_points code)
  same_schedules = record { events = λ app g bits sh choices. same_events app (of_unit unit depth lay.first) (of_points code) Shares R starts Keeps steps keeps g bits sh choices }
