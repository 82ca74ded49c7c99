-- The step of an entity's point.
use Rattle.std.proofs.Common.{◌≡◌, ℕ, List, length, Some, slice_get, option_map, sym, ap, subst₂, ◌∙◌}
use Rattle.std.proofs.lemmas.Option.{slice_get-map}
use Rattle.application.specs.declared.app.App.{App}
use Rattle.chk_base.specs.Widths.{PlainWord}
use Rattle.osek_machine.proofs.Fitting.{point_within}
use Rattle.osek_machine.proofs.Laws.{AreCellsWithin}
use Rattle.osek_machine.specs.CellWords.{widths, bits}
use Rattle.osek_machine.specs.declared.perform.Performed.{Performed}
use Rattle.osek_machine.specs.Kept.{IsFixed, IsOver}
use Rattle.osek_machine.specs.Performing.{IsPerformed}
use Rattle.osek_machine.specs.Within.{IsPointWithin}
use Rattle.step_ir.specs.declared.code.Code.{Code}
use Rattle.step_ir.specs.declared.code.Point.{Point}
use Rattle.step_ir.specs.declared.event.Choice.{Choice}
use Rattle.step_ir.specs.Points.{points_in, points_of, plain_of}
use Rattle.step_ir.specs.PointStep.{step, behaviour_of}

-- the points of an entity, as plain data
pub points_there : (code : Code) (e at : ℕ) → slice_get (points_in code e) at ≡ option_map plain_of (slice_get (points_of (slice_get code.entities e)) at)
points_there code e at = slice_get-map plain_of (points_of (slice_get code.entities e)) at

-- a point, as plain data
pub point_there : (code : Code) (e at : ℕ) (p : Point) → slice_get (points_of (slice_get code.entities e)) at ≡ Some p → slice_get (points_in code e) at ≡ Some (plain_of p)
point_there code e at p is = points_there code e at ∙ ap (option_map plain_of) is

-- it is over the cells that the machine has
pub point_fit : AreCellsWithin → (app : App) (code : Code) (cells : List PlainWord) (e at : ℕ) (p : Point) → IsFixed app code → IsOver code cells → slice_get (points_of (slice_get code.entities e)) at ≡ Some p → IsPointWithin (widths cells) (length cells) (plain_of p)
point_fit law app code cells e at p fixed over is =
    subst₂ (λ w n. IsPointWithin w n (plain_of p)) (sym over.widths) (sym over.length) (point_within law app code e at (plain_of p) fixed.fit (point_there code e at p is))

-- the step of the entity's point is what the entity does
pub performed_at : (code : Code) (cells : List PlainWord) (e at : ℕ) (p : Point) (choice : Choice) (r : Performed) (new : List PlainWord) → IsOver code cells → slice_get (points_of (slice_get code.entities e)) at ≡ Some p → IsPerformed (step (widths cells) (Some (plain_of p)) (bits cells)) choice cells r new → IsPerformed ((behaviour_of code).wants e at (bits cells)) choice cells r new
performed_at code cells e at p choice r new over is h =
    subst₂ (λ w o. IsPerformed (step w o (bits cells)) choice cells r new) over.widths (sym (point_there code e at p is)) h
