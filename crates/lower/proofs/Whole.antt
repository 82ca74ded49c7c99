-- The code of a unit takes the steps of the unit.
use Rattle.std.proofs.Common.{◌≡◌, ℕ, zero, suc, ◌+◌, ◌-◌, ◌<◌, ◌≤◌, List, [], ◌∷◌, ◌++◌, length, map, Some, None, option_map, refl, sym, ap, ◌∙◌, subst, arith, add-zero}
use Rattle.std.specs.Prelude.{slice_get}
use Rattle.std.proofs.lemmas.Option.{slice_get_past}
use Rattle.application.specs.declared.app.App.{App}
use Rattle.application.specs.InOrder.{IsInOrder}
use Rattle.chk_base.specs.declared.word.Width.{Width}
use Rattle.chk_base.specs.Widths.{PlainWord}
use Rattle.chk_base.specs.WordValue.{word_at}
use Rattle.step_ir.specs.declared.code.CellName.{CellName}
use Rattle.step_ir.specs.declared.code.Code.{Code}
use Rattle.step_ir.specs.declared.code.EntityCode.{EntityCode}
use Rattle.step_ir.specs.Fits.{Fits}
use Rattle.step_ir.specs.Points.{PlainPoint, own_cells, plain_of, points_in, points_of, start_bits, start_word, width_in}
use Rattle.step_ir.specs.PointStep.{behaviour_of, first, or_zero, program_of, val}
use Rattle.typed_unit.specs.declared.typed.TypedUnit.{TypedUnit}
use Rattle.typed_unit.specs.Plain.{PlainUnit}
use Rattle.typed_unit.specs.Views.{unit_of}
use Rattle.typed_unit.specs.Typed as typed
use Rattle.lower_law.specs.Counts.{bit_total, call_depth, saturated, weight_total}
use Rattle.lower_law.specs.Exact.{AreLowered, FitsEntity, HasSameEvents, IsExact, IsLowered, SharesGlobals, exchanged}
use Rattle.lower_law.specs.FitsBody.{FitsFun, FitsTo}
use Rattle.lower_law.specs.Layout.{cell_width, cells_before, global_names, layout, lowered_points}
use Rattle.lower_law.specs.Lowered.{entry_of_entity}
use Rattle.lower_law.specs.Statements.{no_body, rooms_to}
use Rattle.lower_law.specs.Translated.{entity, entity_body, or_body, unit_over_cells}
use Rattle.fit_law.specs.Codes.{IsCodeOf, IsExchanged, first_point, names_of}
use Rattle.fit_law.proofs.Cells.{cells_are}
use Rattle.lower.specs.EntityCodes.{AreEntityCodes}
use Rattle.lower.specs.LoweredCode.{behaviour_of_unit, entity_count, start_bits_of_unit}
use Rattle.lower.specs.LoweredCode as made
use Rattle.lower.specs.Ready.{IsReady}
use Rattle.lower.proofs.Exchanging.{get_some, stands}
use Rattle.lower.proofs.Idle.{idle}
use Rattle.lower_law.proofs.Numbers.{starts_first}

-- ---- the codes of all entities are those of the unit
module _ (u : PlainUnit) (n : ℕ) (code : Code) (long : length code.entities ≡ n) (codes : AreEntityCodes u n code.entities) where
  pub code_is : code.globals ≡ global_names u.globals → code.functions ≡ map (λ f. f.name.text) u.functions → IsCodeOf u n code
  code_is globals functions =
      record {
        entities = long;
        globals = globals;
        names = λ e lt. let g = get_some code.entities e (omega (arith, long, lt)) in ap names_of g.1 ∙ (codes e g.0 g.1).names;
        points = λ e lt.
            let g = get_some code.entities e (omega (arith, long, lt)) in
            let same : map plain_of g.0.points ≡ points_in code e = ap (λ o. map plain_of (points_of o)) (sym g.1) in
            subst (λ (ps : List PlainPoint). IsExchanged (first_point u n e) (lowered_points u n e) ps) same (codes e g.0 g.1).points;
        functions = functions;
      }

-- ---- cells
-- a cell of the first part
word_front : (xs ys : List CellName) (i : ℕ) → i < length xs → word_at (map start_word (xs ++ ys)) i ≡ word_at (map start_word xs) i
word_front [] ys i h = absurd (omega arith)
word_front (x ∷ xs) ys zero h = refl
word_front (x ∷ xs) ys (suc i) h = word_front xs ys i (omega arith)

-- later entities have later cells
later : (u : PlainUnit) (e k : ℕ) → cells_before u e ≤ cells_before u (e + k)
later u e zero = let m = ap (cells_before u) (add-zero e) in omega (arith, m)
later u e (suc k) =
    let h = later u e k in
    let z : e + suc k ≡ suc (e + k) = omega arith in
    let m = ap (cells_before u) z in
    omega (arith, h, m)

-- the cells of an entity end before those of later ones
apart : (u : PlainUnit) (e d : ℕ) → e < d → (layout u).top e ≤ (layout u).first d
apart u e d h =
    let k = later u (suc e) (d - suc e) in
    let z : suc e + (d - suc e) ≡ d = omega arith in
    let m = ap (cells_before u) z in
    omega (arith, k, m)

module _ (u : PlainUnit) (n : ℕ) (code : Code) (is : IsCodeOf u n code) where
  -- the widths of cells are those of the unit's
  widths_same : width_in code ≡ cell_width u n
  widths_same = ap (λ (xs : List CellName). λ cell. (word_at (map start_word xs) cell).width) (cells_are u n code is)

  -- the variables begin with what is written for them
  pub starts_same : SharesGlobals (layout u).globals (start_bits_of_unit u) (start_bits code)
  starts_same =
      record {
        at = λ i h.
            sym (ap (λ (w : PlainWord). w.bits)
            (ap (λ (xs : List CellName). word_at (map start_word (xs ++ own_cells code.entities)) i) is.globals
            ∙ word_front (global_names u.globals) (own_cells code.entities) i h));
      }

  -- each entity is lowered
  module _ (fits : (e : ℕ) → e < n → FitsEntity (unit_over_cells u) call_depth (layout u) (cell_width u n) e) where
    pub entity_lowered : (e : ℕ) → e < n → IsLowered (unit_over_cells u) call_depth (layout u) (program_of code) (exchanged (first_point u n e)) e
    entity_lowered e lt =
        let fe = fits e lt in
        let c = unit_over_cells u in
        let lay = layout u in
        let back = sym widths_same in
        record {
          fits = subst (λ (w : ℕ → Width). FitsFun w lay.globals (lay.temp e) (lay.top e) (rooms_to c call_depth) (FitsTo w lay.globals (lay.temp e) (lay.top e) c call_depth) (c.entity e) (lay.first e)) back fe.fits;
          plain = fe.plain;
          room = fe.room;
          points = stands (first_point u n e) (lowered_points u n e) (points_in code e) (is.points e lt);
          void = fe.void;
          starts = subst (λ (w : ℕ → Width). or_zero (first (val w (λ i. 0)) (entry_of_entity (exchanged (first_point u n e)) (lay.temp e) c call_depth (lay.first e) (c.entity e))) ≡ 0) back (starts_first c call_depth lay (cell_width u n) e fe.void);
        }

    -- and all others do nothing
    pub all_lowered : ((e : ℕ) → n ≤ e → entity_body e u.entities ≡ None) → AreLowered (unit_over_cells u) call_depth (layout u) (program_of code) (λ e. exchanged (first_point u n e)) n
    all_lowered none =
        record {
          lowered = entity_lowered;
          apart = λ e d lt within. apart u e d lt;
          idle = λ e past.
              (ap (λ o. or_body no_body (option_map (entity u.globals) o)) (none e past), ap (λ o. slice_get (map plain_of (points_of o)) 0) (slice_get_past code.entities e (let l = is.entities in omega (arith, l, past))));
        }

-- ---- all together
pub whole : (app : App) (u : PlainUnit) (code : Code) → IsInOrder app → typed.Fits app u → IsReady u (entity_count app) → IsCodeOf u (entity_count app) code
    → code.cells ≡ bit_total u (entity_count app) → code.weight ≡ saturated (weight_total u (entity_count app)) → Fits app code
    → ((e : ℕ) → e < entity_count app → FitsEntity (unit_over_cells u) call_depth (layout u) (cell_width u (entity_count app)) e)
    → ((e : ℕ) → IsLowered (unit_over_cells u) call_depth (layout u) (program_of code) (exchanged (first_point u (entity_count app) e)) e → IsExact (unit_over_cells u) call_depth (layout u) (program_of code) e)
    → (AreLowered (unit_over_cells u) call_depth (layout u) (program_of code) (λ e. exchanged (first_point u (entity_count app) e)) (entity_count app) → HasSameEvents (layout u).globals (behaviour_of_unit u) (behaviour_of code))
    → made.IsLowered app u code
whole app u code order fits ready is cells weight good entities exact schedules =
    record {
      within = record { points = ready.points; cells = ready.cells };
      is = is;
      cells = cells;
      weight = weight;
      fits = good;
      steps = λ e lt. exact e (entity_lowered u (entity_count app) code is entities e lt);
      starts = starts_same u (entity_count app) code is;
      schedules = schedules (all_lowered u (entity_count app) code is entities (λ e past. idle app u order fits e past));
    }

-- ---- numbers as they are counted
-- a count within the limit is exact
pub few_counted : (total counted : ℕ) → counted ≡ saturated total → (limit : ℕ) → limit ≤ 8192 → counted ≤ limit → total ≤ limit
few_counted total counted is limit low few = omega (arith, is, low, few)

pub all_counted : (total counted number : ℕ) → number ≡ counted → counted ≡ saturated total → counted ≤ 8192 → number ≡ total
all_counted total counted number same is few = omega (arith, same, is, few)

-- what holds of a unit and of how many entities there are
module _ (app : App) (checked checked' : TypedUnit) (tasks routines : ℕ) (same : checked' ≡ checked) (ts : tasks ≡ length app.tasks) (rs : routines ≡ length app.routines) where
  count_same : tasks + routines ≡ entity_count app
  count_same = ap (λ k. k + routines) ts ∙ ap (λ k. length app.tasks + k) rs

  pub to_app : (P : PlainUnit → ℕ → Type 0) → P (unit_of checked') (tasks + routines) → P (unit_of checked) (entity_count app)
  to_app P h = subst (λ (x : TypedUnit). P (unit_of x) (entity_count app)) same (subst (λ (n : ℕ). P (unit_of checked') n) count_same h)

  pub from_app : (P : PlainUnit → ℕ → Type 0) → P (unit_of checked) (entity_count app) → P (unit_of checked') (tasks + routines)
  from_app P h = subst (λ (n : ℕ). P (unit_of checked') n) (sym count_same) (subst (λ (x : TypedUnit). P (unit_of x) (entity_count app)) (sym same) h)
