-- What a checked unit is lowered to for an application, and why it is refused.
use Rattle.std.specs.Prelude.{◌≡◌, ℕ, ◌+◌, ◌<◌, ◌≤◌, length, map}
use Rattle.application.specs.declared.app.App.{App}
use Rattle.chk_base.specs.WordValue.{word_at}
use Rattle.step_ir.specs.declared.code.Code.{Code}
use Rattle.step_ir.specs.EntityStep.{Behaviour}
use Rattle.step_ir.specs.Fits.{Fits}
use Rattle.step_ir.specs.Points.{start_bits, start_word}
use Rattle.step_ir.specs.PointStep.{Bits, behaviour_of, program_of}
use Rattle.typed_unit.specs.Plain.{PlainUnit}
use Rattle.lower_law.specs.Counts.{bit_total, call_depth, point_total, saturated, weight_total}
use Rattle.lower_law.specs.EntityStep.{Working, of_unit}
use Rattle.lower_law.specs.Exact.{HasSameEvents, IsExact, SharesGlobals}
use Rattle.lower_law.specs.Layout.{global_names, layout}
use Rattle.lower_law.specs.Translated.{unit_over_cells}
use Rattle.fit_law.specs.Codes.{IsCodeOf}
use Rattle.lower.specs.declared.lower.LowerFault.{LowerFault}
use Rattle.lower.specs.declared.lower.LowerFault.TheVariants as fault

-- how many tasks and routines an application has
abbrev pub entity_count : App → ℕ
entity_count app = length app.tasks + length app.routines

-- what the entities of a typed unit do
abbrev pub behaviour_of_unit : PlainUnit → Behaviour Working Bits
behaviour_of_unit u = of_unit (unit_over_cells u) call_depth (layout u).first

-- the bits with which a global cell begins
abbrev pub start_bits_of_unit : PlainUnit → Bits
start_bits_of_unit u = λ cell. (word_at (map start_word (global_names u.globals)) cell).bits

-- the counts are within the limits
pub record IsWithinLimits (app : App) (u : PlainUnit) : Type 0 where
  pub points : point_total u (entity_count app) ≤ 2048
  pub cells : bit_total u (entity_count app) ≤ 8192

-- the code of a unit: its cells and points, with the counts of cells and weight, fit the application; each entity takes the same steps over the unit and over its points, one for one, with the same events; and so the standard's scheduler has the same events over both
pub record IsLowered (app : App) (u : PlainUnit) (code : Code) : Type 0 where
  pub within : IsWithinLimits app u
  pub is : IsCodeOf u (entity_count app) code
  pub cells : code.cells ≡ bit_total u (entity_count app)
  pub weight : code.weight ≡ saturated (weight_total u (entity_count app))
  pub fits : Fits app code
  pub steps : (e : ℕ) → e < entity_count app → IsExact (unit_over_cells u) call_depth (layout u) (program_of code) e
  pub starts : SharesGlobals (layout u).globals (start_bits_of_unit u) (start_bits code)
  pub schedules : HasSameEvents (layout u).globals (behaviour_of_unit u) (behaviour_of code)

-- why a unit is refused: it has too many points, or else its cells have too many bits; want of memory is free
abbrev pub IsRefusal : App → PlainUnit → LowerFault → Type 0
IsRefusal app u (fault.Points n) = (2048 < point_total u (entity_count app)) × (n ≡ saturated (point_total u (entity_count app)))
IsRefusal app u (fault.Cells n) =
    (point_total u (entity_count app) ≤ 2048) × (8192 < bit_total u (entity_count app)) × (n ≡ saturated (bit_total u (entity_count app)))
IsRefusal app u fault.Memory = Unit {0}
