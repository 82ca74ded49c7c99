-- Lowering is exact.
use Rattle.std.proofs.Common.{◌≡◌, ℕ, zero, suc, ◌+◌, ◌≤◌, Bool, true, false, nat_lt, length, List, [], ◌∷◌, Option, ap, ◌∙◌, arith}
use Rattle.step_ir.specs.EntityStep.{After, Want, Does, Inputs, Calls, Ends, Fails, InputFails}
use Rattle.lower_law.specs.Exact.{SameWant, Layout, AreSameFor, StandsAs, IsLowered, IsExact}
use Rattle.std.proofs.lemmas.Bool.Decides.{nat_tests}
use Rattle.step_ir.specs.Points.{PlainPoint}
use Rattle.step_ir.specs.PointStep.{Program, Bits, val, first, or_zero, of_points}
use Rattle.lower_law.specs.Statements.{CellUnit, rooms_to}
use Rattle.lower_law.specs.EntityStep.{Working, Frame, of_unit}
use Rattle.lower_law.specs.Lowered.{entry_of_entity, entry_all, size_all, close_entry, outer, plan_to}
use Rattle.lower_law.specs.FitsBody.{FitsFun, FitsTo}
use Rattle.lower_law.proofs.Bodies.{Body}
use Rattle.lower_law.proofs.Early.{body_same}
use Rattle.lower_law.proofs.Terms.{SameBelow}
use Rattle.lower_law.proofs.Things.{Stands}
use Rattle.lower_law.proofs.Complete.{Alike, Shared}
use Rattle.lower_law.proofs.Steps.{same_want, same_place, stays_alike, starts_alike}

pub same_map : {S T G : Type 0} (R R' : After S G → After T G → Type 0) (a : Want S G) (b : Want T G) → ((x : After S G) (y : After T G) → R x y → R' x y) → SameWant R a b → SameWant R' a b
same_map R R' (Does a x) (Does b y) f h = (h.0, f x y h.1)
same_map R R' (Inputs v p x) (Inputs w q y) f h = (h.0, λ word. let k = h.1 word in (k.0, f (x word) (y word) k.1))
same_map R R' (Calls s x) (Calls t y) f h = (h.0, f x y h.1)
same_map R R' Ends Ends f h = tt
same_map R R' (Fails p) (Fails q) f h = h
same_map R R' (InputFails v p) (InputFails w q) f h = h
same_map R R' _ _ f h = absurd h

module _ (unit : CellUnit) (depth : ℕ) (lay : Layout) (code : Program) (number : ℕ → ℕ) (e : ℕ) (low : lay.globals ≤ lay.first e) (room : lay.temp e ≤ lay.top e) where
  abbrev Like : List Frame → List ℕ → ℕ → Bits → Type 0
  Like frames got p bits = Alike (lay.first e) code.width lay.globals number (code.point e) (lay.temp e) (lay.top e) unit frames got p bits

  same_for : (n : ℕ) (s : Working) (t : ℕ) (bits : Bits) → Like s.frames s.got t bits → AreSameFor lay (of_unit unit depth lay.first) (of_points code) e n s t bits
  same_for zero s t bits h = tt
  same_for (suc n) s t bits h = λ g bits' shares keeps.
      let same : SameBelow (lay.first e) (lay.top e) bits bits' = record { at = keeps.at } in
      let h' = stays_alike (lay.first e) code.width lay.globals number (code.point e) (lay.temp e) (lay.top e) unit low room s.frames s.got t bits bits' h same in
      let shared : Shared (lay.first e) code.width lay.globals number (code.point e) (lay.temp e) (lay.top e) unit g bits' = record { at = shares.at } in (
        same_place (lay.first e) code.width lay.globals number (code.point e) (lay.temp e) (lay.top e) unit low room s.frames s.got t bits' h',
        same_map _ _ _ _
            (λ x y r. (same_for n x.state y.state y.globals r.0, record { at = r.1.at }, record { below = r.2.between; above = r.2.above }))
            (same_want (lay.first e) code.width lay.globals number (code.point e) (lay.temp e) (lay.top e) unit low room s.frames s.got t bits' g h' shared),
      )

pub stands_as : (lo : ℕ) (number : ℕ → ℕ) (code : ℕ → Option PlainPoint) (at : ℕ) (ps : List PlainPoint) → StandsAs number code at ps → Stands lo number code at ps
stands_as lo number code at [] s = tt
stands_as lo number code at (p ∷ ps) s = (s.0, stands_as lo number code (at + 1) ps s.1)

module _ (unit : CellUnit) (depth : ℕ) (lay : Layout) (code : Program) (number : ℕ → ℕ) (e : ℕ) (bits : Bits) where
  body : Body
  body = record { ctx = outer (lay.first e); depth = depth; fn = unit.entity e }

  -- it starts at its point 0, whatever the cells hold
  pub starts_same : (fits : FitsFun code.width lay.globals (lay.temp e) (lay.top e) (rooms_to unit depth) (FitsTo code.width lay.globals (lay.temp e) (lay.top e) unit depth) (unit.entity e) (lay.first e)) → (unit.entity e).params ≡ [] → (unit.entity e).gives ≡ false → first (val code.width bits) (entry_of_entity number (lay.temp e) unit depth (lay.first e) (unit.entity e)) ≡ first (val code.width (λ i. 0)) (entry_of_entity number (lay.temp e) unit depth (lay.first e) (unit.entity e))
  starts_same fits none void = go (unit.entity e).gives void where
    go : (gives : Bool) → gives ≡ false → first (val code.width bits) (entry_all number (lay.temp e) unit.fun (rooms_to unit depth) (plan_to number (lay.temp e) unit depth) (lay.first e) 0 (unit.entity e).body (close_entry number gives (outer (lay.first e)) (0 + size_all number (lay.temp e) unit.fun (rooms_to unit depth) (plan_to number (lay.temp e) unit depth) (unit.entity e).body))) ≡ first (val code.width (λ i. 0)) (entry_all number (lay.temp e) unit.fun (rooms_to unit depth) (plan_to number (lay.temp e) unit depth) (lay.first e) 0 (unit.entity e).body (close_entry number gives (outer (lay.first e)) (0 + size_all number (lay.temp e) unit.fun (rooms_to unit depth) (plan_to number (lay.temp e) unit depth) (unit.entity e).body)))
    go true v = absurd (cc)
    go false v =
        let few : length (unit.entity e).params ≡ 0 = ap length none in
        body_same (lay.first e) code.width lay.globals number (code.point e) (lay.temp e) (lay.top e) unit bits (λ i. 0) (record { ctx = outer (lay.first e); depth = depth; fn = unit.entity e }) (unit.entity e).body (λ i. nat_lt i (length (unit.entity e).params)) (λ i k. grind (arith, nat_tests)) 0 (lay.first e + (unit.entity e).locals) (0 + size_all number (lay.temp e) unit.fun (rooms_to unit depth) (plan_to number (lay.temp e) unit depth) (unit.entity e).body) fits.body

pub exact : (unit : CellUnit) (depth : ℕ) (lay : Layout) (code : Program) (number : ℕ → ℕ) (e : ℕ) → IsLowered unit depth lay code number e → IsExact unit depth lay code e
exact unit depth lay code number e l = λ n bits.
    let st = stands_as (lay.first e) number (code.point e) 0 _ l.points in
    let start = starts_alike (lay.first e) code.width lay.globals number (code.point e) (lay.temp e) (lay.top e) unit l.fits.low l.room (unit.entity e) depth bits l.plain l.fits.high l.fits st (ap or_zero (starts_same unit depth lay code number e bits l.fits l.plain l.void) ∙ l.starts) in
    same_for unit depth lay code number e l.fits.low l.room n _ 0 bits start
