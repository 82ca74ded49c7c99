-- The draft is the program that is built.
use Rattle.std.proofs.Common.{◌≡◌, ◌∙◌, ℕ, ◌+◌, List, [], ◌∷◌, ◌++◌, map, reverse, Option, sym, ap₂, subst}
use mathlib.Core.Path.{fun_ext}
use Rattle.application.specs.declared.app.App.{App}
use Rattle.chk_base.specs.declared.word.Width.{Width}
use Rattle.chk_base.specs.Widths.{PlainWord}
use Rattle.guard_prog.specs.GuardedRun.{PlainAlternative}
use Rattle.one_stack.specs.Built.{concat_below, first_of, held_of, held_times, kept_at, mark_at, places, plan_of, points_of, starts_of, table}
use Rattle.one_stack.specs.Cells.{width_at}
use Rattle.one_stack.specs.Laid.{IsLaid}
use Rattle.one_stack.specs.PlainCode.{plain_code, steps_of}
use Rattle.one_stack.specs.Rules.{Plan, point_alternatives}
use Rattle.one_stack.specs.Starting.{IsStart, stack_of}
use Rattle.one_stack.specs.Tables.{Tables, plan_in, room_in, seen, width_in}
use Rattle.one_stack.specs.TaskForm.{resource_count}
use Rattle.one_stack.proofs.Beginning.{held_none, kept_none}
use Rattle.one_stack.proofs.Tabling.{table_map}
use Rattle.step_ir.specs.declared.code.CellName.{CellName}
use Rattle.step_ir.specs.declared.code.Code.{Code}
use Rattle.step_ir.specs.Agreement.{fresh_at}
use Rattle.step_ir.specs.Numbers.{times}
use Rattle.step_ir.specs.OneStackMachine as machine
use Rattle.step_ir.specs.OneStackMachine.{Frame, whos}
use Rattle.step_ir.specs.Points.{cells_of, points_in}
use Rattle.step_ir.specs.Setting.{Setting, setting_of}

-- the start values of slots, with this stack and these requests
abbrev slots_with : Setting → Plan → List (Frame ℕ) → List ℕ → List ℕ
slots_with app plan stack fresh =
    table plan.tasks (λ x. times x (whos stack))
    ++ (table plan.tasks (λ t. times t (whos stack) + times t fresh)
    ++ (concat_below (app.top + 1) (λ l. table (plan.room l) (λ i. mark_at plan.mark (fresh_at app l fresh) i))
    ++ (table plan.resources (λ q. held_times q stack) ++ concat_below plan.tasks (λ e. table plan.resources (λ i. kept_at (held_of e stack) i)))))

abbrev zeros : ℕ → ℕ
zeros q = 0

abbrev all_zeros : ℕ → ℕ → ℕ
all_zeros e q = 0

module _ (app : App) (code : Code) (t : Tables) (laid : IsLaid app code t) where
  abbrev setting : Setting
  setting = setting_of app

  abbrev plan : Plan
  plan = plan_of setting (plain_code code) (resource_count app)

  -- nothing is held at the start
  pub slots_are : (top : Option ℕ) (fresh : List ℕ)
      → table t.entities (λ x. times x (whos (stack_of top)))
      ++ (table t.entities (λ q. times q (whos (stack_of top)) + times q fresh)
      ++ (concat_below ((seen t).top + 1) (λ l. table (room_in t l) (λ i. mark_at (plan_in t).mark (fresh_at (seen t) l fresh) i))
      ++ (table t.resources (λ q. 0) ++ concat_below t.entities (λ e. table t.resources (λ q. 0)))))
      ≡ slots_with (seen t) (plan_in t) (stack_of top) fresh
  slots_are top fresh =
      let none_held : zeros ≡ (λ q. held_times q (stack_of top)) = fun_ext (λ q. sym (held_none top q)) in
      let none_kept : all_zeros ≡ (λ e i. kept_at (held_of e (stack_of top)) i) = fun_ext (λ e. fun_ext (λ i. sym (kept_none top e i))) in
      ap₂ (λ f g.
      table t.entities (λ x. times x (whos (stack_of top)))
      ++ (table t.entities (λ q. times q (whos (stack_of top)) + times q fresh)
      ++ (concat_below ((seen t).top + 1) (λ l. table (room_in t l) (λ i. mark_at (plan_in t).mark (fresh_at (seen t) l fresh) i))
      ++ (table t.resources f ++ concat_below t.entities (λ e. table t.resources (g e))))))
      none_held none_kept

  pub starts_are : (starts : List ℕ) (top : Option ℕ) (fresh : List ℕ)
      → IsStart (machine.start (seen t) (steps_of (plain_code code)) (plain_code code).start) top fresh
      → starts ≡ map (λ (n : CellName). n.start) (cells_of code)
      ++ (table t.entities (λ x. times x (whos (stack_of top)))
      ++ (table t.entities (λ q. times q (whos (stack_of top)) + times q fresh)
      ++ (concat_below ((seen t).top + 1) (λ l. table (room_in t l) (λ i. mark_at (plan_in t).mark (fresh_at (seen t) l fresh) i))
      ++ (table t.resources (λ q. 0) ++ concat_below t.entities (λ e. table t.resources (λ q. 0))))))
      → starts ≡ starts_of setting (plain_code code) (resource_count app)
  starts_are starts top fresh start is =
      let begun = subst (λ s. IsStart (machine.start s (steps_of (plain_code code)) (plain_code code).start) top fresh) laid.setting start in
      is
      ∙ ap₂ (λ xs ys. xs ++ ys) (sym (table_map (λ (w : PlainWord). w.bits) (cells_of code))) (slots_are top fresh)
      ∙ ap₂ (λ s p. table (plain_code code).cells (plain_code code).start ++ slots_with s p (stack_of top) fresh) laid.setting laid.plan
      ∙ ap₂ (λ s f. table (plain_code code).cells (plain_code code).start ++ slots_with setting plan s f) (sym begun.stack) (sym begun.fresh)

  pub first_is : (first : List ℕ) (top : Option ℕ) (fresh : List ℕ)
      → IsStart (machine.start (seen t) (steps_of (plain_code code)) (plain_code code).start) top fresh
      → first ≡ reverse (places (plan_in t) (stack_of top)) → first ≡ first_of setting (plain_code code) (resource_count app)
  first_is first top fresh start is =
      let begun = subst (λ s. IsStart (machine.start s (steps_of (plain_code code)) (plain_code code).start) top fresh) laid.setting start in
      is ∙ ap₂ (λ p s. reverse (places p s)) laid.plan (sym begun.stack)

  abbrev points_with : ℕ → Setting → Plan → List Width → List (List PlainAlternative)
  points_with n s p ws = [] ∷ concat_below n (λ e. map (point_alternatives s p (λ q. width_at ws q) e) (points_in code e))

  pub points_are : (points : List (List PlainAlternative))
      → points ≡ [] ∷ concat_below t.entities (λ e. map (point_alternatives (seen t) (plan_in t) (width_in t) e) (points_in code e))
      → points ≡ points_of setting (plain_code code) (resource_count app)
  points_are points is =
      is
      ∙ ap₂ (λ n s. points_with n s (plan_in t) t.widths) laid.entities laid.setting
      ∙ ap₂ (λ p ws. points_with setting.entities setting p ws) laid.plan laid.widths
