-- The built program of an application in order and a code that fits it.
use Rattle.std.proofs.Common.{◌≡◌, ◌∙◌, ℕ, zero, suc, ◌+◌, ◌≤◌, true, List, [], ◌∷◌, length, map, ap, arith, slice_get}
use Rattle.std.proofs.lemmas.List.{length-map}
use Rattle.application.specs.declared.app.App.{App}
use Rattle.application.specs.InOrder.{IsInOrder}
use Rattle.guard_prog.specs.declared.draft.Draft.{Draft}
use Rattle.guard_prog.specs.Drafts.{program_of}
use Rattle.guard_prog.specs.WellShaped.{IsWellShaped}
use Rattle.one_stack.proofs.Formed.{form_at, formed, numbered}
use Rattle.one_stack.proofs.Nearing.{all_act, all_go}
use Rattle.one_stack.proofs.Shaped.{drafts_act, drafts_lem, well_shaped}
use Rattle.one_stack.proofs.Whole.{starting}
use Rattle.one_stack.specs.BuildExact.{IsExact, NamesActors, choices_of}
use Rattle.one_stack.specs.Built.{IsBuiltOf, go_alone, sum_below}
use Rattle.one_stack.specs.declared.label.Label.{Label}
use Rattle.one_stack.specs.Labelled.{labels_of}
use Rattle.one_stack.specs.PlainCode.{plain_code}
use Rattle.one_stack.specs.TaskForm.{is_task_form, resource_count}
use Rattle.step_ir.proofs.InOrder.{sound}
use Rattle.step_ir.proofs.Within.{few_cells}
use Rattle.step_ir.specs.declared.code.Code.{Code}
use Rattle.step_ir.specs.declared.code.EntityCode.{EntityCode}
use Rattle.step_ir.specs.Fits.{Fits, point_count}
use Rattle.step_ir.specs.OneStackMachine
use Rattle.step_ir.specs.Points.{cells_of, plain_of, points_of, start_bits}
use Rattle.step_ir.specs.PointStep.{behaviour_of}
use Rattle.step_ir.specs.Setting.{setting_of}

-- a sum by its first value
sum-first : (k : ℕ) (f : ℕ → ℕ) → sum_below (suc k) f ≡ f 0 + sum_below k (λ e. f (suc e))
sum-first zero f = omega arith
sum-first (suc k) f = let ih = sum-first k f in omega arith

-- the points of the first entities are among all
counted : (es : List EntityCode) (k : ℕ) → sum_below k (λ e. length (map plain_of (points_of (slice_get es e)))) ≤ point_count es
counted [] zero = omega arith
counted [] (suc k) = let ih = counted [] k in omega arith
counted (x ∷ es) zero = omega arith
counted (x ∷ es) (suc k) =
    let first = sum-first k (λ e. length (map plain_of (points_of (slice_get (x ∷ es) e)))) in
    let here = length-map x.points plain_of in
    let ih = counted es k in
    omega arith

module _ (app : App) (code : Code) (order : IsInOrder app) (fits : Fits app code) (form : is_task_form app code ≡ true) where
  resources_few : resource_count app ≤ 17
  resources_few = let few = order.few_resources in omega arith

  -- a draft that is the program has its runs
  pub draft_is_exact : (draft : Draft) → IsBuiltOf app code draft → (arrivals : ℕ) → IsExact (setting_of app) (behaviour_of code) (start_bits code) arrivals (program_of draft) go_alone
  draft_is_exact draft is arrivals =
      drafts_lem (setting_of app) (sound app order) (plain_code code) (resource_count app) (formed app code order fits form) (numbered app code order fits form) resources_few draft is arrivals

  -- the entity of each label is the one that acts
  pub draft_acts : (draft : Draft) → IsBuiltOf app code draft → (labels : List Label) → labels ≡ labels_of draft.depth draft.points → NamesActors (setting_of app) (behaviour_of code) (start_bits code) (program_of draft) labels
  draft_acts draft is labels listed =
      record {
        acts =
            λ pairs s runs events m led.
            let all = drafts_act (setting_of app) (sound app order) (plain_code code) (resource_count app) (formed app code order fits form) (numbered app code order fits form) resources_few draft is in
            let same = ap (λ f. OneStackMachine.run (setting_of app) (behaviour_of code) (choices_of f pairs) (OneStackMachine.start (setting_of app) (behaviour_of code) (start_bits code))) (all_go draft.depth draft.points labels listed) in
            all_act (setting_of app) (plain_code code) (resource_count app) draft.points labels (listed ∙ ap (λ n. labels_of n draft.points) is.depth) pairs events (all.each pairs s runs events m (same ∙ led));
      }

  -- and is well shaped
  pub draft_is_shaped : (draft : Draft) → IsBuiltOf app code draft → IsWellShaped draft
  draft_is_shaped draft is =
      well_shaped (setting_of app) (sound app order) (plain_code code) (resource_count app) (formed app code order fits form) (numbered app code order fits form) resources_few
      (λ e k p at. (form_at app code order fits form e k p at).few)
      (let all = counted code.entities (setting_of app).entities in let few = fits.few_points in omega arith)
      (let few = few_cells (cells_of code) in let bits = fits.few_bits in omega arith)
      (starting (setting_of app) (sound app order) (plain_code code) (resource_count app) (formed app code order fits form) (numbered app code order fits form) resources_few)
      draft is
