-- What an answer of the search says of the schedules of an application.
use Rattle.std.proofs.Common.{◌≡◌, ℕ, ◌≤◌, Bool, true, false, ◌&&◌, List, [], ◌∷◌, ◌++◌, length, Option, Some, None, Ok, refl, sym, ap, subst, ◌∙◌, arith}
use Rattle.std.proofs.lemmas.Bool.{and_parts}
use Rattle.application.specs.declared.app.App.{App}
use Rattle.bit_circuit.specs.Extension.{IsModel, formula}
use Rattle.bounded_check.specs.declared.decide.Verdict.{Verdict}
use Rattle.bounded_check.specs.declared.decide.Verdict.TheVariants as verdict
use Rattle.bounded_check.specs.Depicts.{Depicts, LeadsTo, ReadsListed, choices_read}
use Rattle.bounded_check.specs.Verdicts.{IsDecided, IsFailing, IsRead, IsTold, Means, NoneFails, with_goal}
use Rattle.bounded_check.proofs.Depicting.{choices_count, read_short}
use Rattle.clause_form.specs.declared.line.Line.{Line}
use Rattle.clause_form.specs.declared.lit.Lit.{Lit}
use Rattle.clause_form.specs.ClauseTruth.{HasNoModel, Values, are_true, is_clause_true, values_of}
use Rattle.clause_form.specs.LearnedLine.{IsSpent}
use Rattle.clause_form.proofs.Agreement.{are_true-append}
use Rattle.clause_solver.specs.Answer.{EndsAs, IsAnswer}
use Rattle.clause_solver.specs.declared.answer.Answer.{Answer}
use Rattle.clause_solver.specs.declared.answer.Answer.TheVariants as answer
use Rattle.clause_solver.specs.declared.answer.SolveFault.{SolveFault}
use Rattle.one_stack.specs.declared.label.Label.{Label}
use Rattle.one_stack.specs.Labelled.{chosen_by}
use Rattle.step_ir.specs.Agreement.{HaveSame}
use Rattle.step_ir.specs.declared.code.Code.{Code}
use Rattle.step_ir.specs.declared.event.Choice.{Choice}
use Rattle.step_ir.specs.declared.event.Event.{Event}
use Rattle.step_ir.specs.OneStackMachine
use Rattle.step_ir.specs.OneStackMachine.{Stacked}
use Rattle.step_ir.specs.PermittedSchedule
use Rattle.step_ir.specs.PermittedSchedule.{IsSchedule, events_of, fails}
use Rattle.step_ir.specs.Points.{start_bits}
use Rattle.step_ir.specs.PointStep.{Bits, behaviour_of}
use Rattle.step_ir.specs.SchedulerState as scheduler
use Rattle.step_ir.specs.SchedulerStep
use Rattle.step_ir.specs.Setting.{Setting, setting_of}
use Rattle.step_ir.specs.TraceEquality.{HaveSameTraces}
use Rattle.turn_law.specs.Description.{read}
use Rattle.turn_encoding.specs.Encodings.{PlainEncoding}

-- ---- the formula and its goal
both : (v : Values) (e : PlainEncoding) → are_true v (with_goal e) ≡ (are_true v e.formula.clauses && (is_clause_true v e.goal && true))
both v e = are_true-append v e.formula.clauses (e.goal ∷ [])

goal_fails : (v : Values) (e : PlainEncoding) → HasNoModel (with_goal e) → IsModel v e.formula → is_clause_true v e.goal ≡ true → ⊥
goal_fails v e none model goal =
    none v (both v e ∙ ap (λ b. b && (is_clause_true v e.goal && true)) model.holds ∙ ap (λ b. b && true) goal)

-- what makes the goal true as well makes the formula true
pub model_of : (v : Values) (e : PlainEncoding) → are_true v (with_goal e) ≡ true → IsModel v e.formula
model_of v e h = record { holds = (and_parts _ _ (sym (both v e) ∙ h)).0 }

pub listed_after : (e : PlainEncoding) (labels : List Label) (n : ℕ) (clauses : List (List Lit)) (goal : List Lit) → clauses ≡ e.formula.clauses ++ goal ∷ [] → goal ≡ e.goal → ReadsListed e labels → ReadsListed (record e { formula = formula n clauses }) labels
listed_after e labels n clauses goal more copy h v model =
    h v (model_of v e (subst (λ cs. are_true v cs ≡ true) (more ∙ ap (λ g. e.formula.clauses ++ g ∷ []) copy) model.holds))

-- what holds of the formula after the goal is pushed
pub pushed : (P : ℕ → List (List Lit) → Type 0) (e : PlainEncoding) (n : ℕ) (clauses : List (List Lit)) (goal : List Lit) → n ≡ e.formula.variables → clauses ≡ e.formula.clauses ++ goal ∷ [] → goal ≡ e.goal → P n clauses → P e.formula.variables (with_goal e)
pushed P e n clauses goal same more copy h =
    subst (P e.formula.variables) (more ∙ ap (λ g. e.formula.clauses ++ g ∷ []) copy) (subst (λ k. P k clauses) same h)

-- ---- both machines
record IsLed {S G : Type 0} (o : Option (List Event × Stacked S G)) (events : List Event) : Type 0 where
  state : Stacked S G
  is : o ≡ Some (events, state)

led : {S G : Type 0} (app : Setting) (o : Option (List Event × scheduler.State S G)) (p : Option (List Event × Stacked S G)) (events : List Event) → HaveSame app o p → events_of o ≡ Some events → IsLed p events
led app None p events h e = absurd cc
led app (Some x) None events h e = absurd h
led app (Some x) (Some y) events h e =
    let first : x.0 ≡ events = cc in
    record { state = y.1; is = ap (λ es. Some (es, y.1)) (sym h.0 ∙ first) }

told : {S G : Type 0} (app : Setting) (o : Option (List Event × scheduler.State S G)) (p : Option (List Event × Stacked S G)) (events : List Event) (s : Stacked S G) → HaveSame app o p → p ≡ Some (events, s) → events_of o ≡ Some events
told {S = S} {G = G} app None p events s h e = absurd (none p h e)
  where
    none : (q : Option (List Event × Stacked S G)) → HaveSame app None q → q ≡ Some (events, s) → ⊥
    none None h e = cc
    none (Some y) h e = h
told app (Some x) None events s h e = absurd h
told {S = S} {G = G} app (Some x) (Some y) events s h e =
    let same : y ≡ (events, s) = cc in
    ap Some (h.0 ∙ ap (λ (z : List Event × Stacked S G). z.0) same)

module _ (app : App) (code : Code) (k m : ℕ) (e : PlainEncoding) (labels : List Label) (same : HaveSameTraces (setting_of app) (behaviour_of code) (start_bits code)) (d : Depicts e labels (setting_of app) (behaviour_of code) (start_bits code) k m) where
  -- the runs of both machines
  abbrev pub by_lists : List Choice → Option (List Event × scheduler.State ℕ Bits)
  by_lists choices = PermittedSchedule.run (setting_of app) (behaviour_of code) choices (SchedulerStep.start (setting_of app) (behaviour_of code) (start_bits code))

  abbrev pub on_stack : List Choice → Option (List Event × Stacked ℕ Bits)
  on_stack choices = OneStackMachine.run (setting_of app) (behaviour_of code) choices (OneStackMachine.start (setting_of app) (behaviour_of code) (start_bits code))

  -- ---- holds
  pub none_fails : HasNoModel (with_goal e) → NoneFails app code k m
  none_fails none events sch = go (fails events) refl
    where
      it : IsLed (on_stack sch.choices) events
      it = led (setting_of app) (by_lists sch.choices) (on_stack sch.choices) events (same.runs sch.choices) sch.permitted

      leads : LeadsTo (setting_of app) (behaviour_of code) (start_bits code) sch.choices events it.state
      leads = record { is = it.is }

      go : (b : Bool) → fails events ≡ b → b ≡ false
      go false f = refl
      go true f =
          let n : length events ≡ length sch.choices = same.as_many sch.choices events sch.permitted in
          let short : length events ≤ k = sch.short in
          let one = d.each sch.choices (omega (arith, n, short)) (record { events = events; state = it.state; leads = leads; few = sch.few }) in
          let goal = d.goal one.values one.model events it.state (subst (λ cs. LeadsTo (setting_of app) (behaviour_of code) (start_bits code) cs events it.state) (sym one.reads) leads) in
          absurd (goal_fails one.values e none one.model (goal ∙ f))

  -- ---- fails
  pub is_failing : (values : List Bool) (choices : List Choice) → IsRead e labels values choices → IsFailing app code k m choices
  is_failing values choices r =
      let parts = and_parts _ _ (sym (both (values_of values) e) ∙ r.model) in
      let model : IsModel (values_of values) e.formula = record { holds = parts.0 } in
      let goal = (and_parts (is_clause_true (values_of values) e.goal) true parts.1).0 in
      let l = d.lists (values_of values) model in
      let fail = d.goal (values_of values) model l.events l.state l.leads in
      let chosen = choices_read e labels (values_of values) in
      let permitted = told (setting_of app) (by_lists chosen) (on_stack chosen) l.events l.state (same.runs chosen) l.leads.is in
      let n : length l.events ≡ length (read e (values_of values)) = same.as_many chosen l.events permitted ∙ choices_count (chosen_by labels) (read e (values_of values)) in
      let short : length (read e (values_of values)) ≤ length e.alternatives = read_short (values_of values) e.alternatives e.inputs in
      let turns : length e.alternatives ≡ k = d.turns in
      subst (IsFailing app code k m) (sym r.chosen)
      (record {
        events = l.events;
        permitted = permitted;
        short = omega (arith, n, short, turns);
        few = l.few;
        failed = sym fail ∙ goal;
      })

  pub means : (budget : ℕ) (log : List Line) (v : Verdict) → IsDecided e labels budget log v → Means app code k m v
  means budget log verdict.Holds h = none_fails h.0
  means budget log (verdict.Fails values choices) h = is_failing values choices h.0
  means budget log verdict.Undecided h = tt

-- ---- the verdict by the answer
pub decided : (e : PlainEncoding) (labels : List Label) (budget : ℕ) (log : List Line) (a : Answer) (v : Verdict) → IsAnswer e.formula.variables (with_goal e) a → EndsAs (Ok a) log → (a ≡ answer.Spent → IsSpent e.formula.variables (with_goal e) log budget) → IsTold e labels a v → IsDecided e labels budget log v
decided e labels budget log answer.Refuted verdict.Holds is ends spent told = (is, ends)
decided e labels budget log answer.Refuted (verdict.Fails values choices) is ends spent told = absurd told
decided e labels budget log answer.Refuted verdict.Undecided is ends spent told = absurd told
decided e labels budget log answer.Spent verdict.Holds is ends spent told = absurd told
decided e labels budget log answer.Spent (verdict.Fails values choices) is ends spent told = absurd told
decided e labels budget log answer.Spent verdict.Undecided is ends spent told = spent refl
decided e labels budget log (answer.Model given) verdict.Holds is ends spent told = absurd told
decided e labels budget log (answer.Model given) (verdict.Fails values choices) is ends spent told = (
  record {
    count = ap length told.0 ∙ is.0;
    model = ap (λ xs. are_true (values_of xs) (with_goal e)) told.0 ∙ is.1;
    chosen = told.1 ∙ ap (λ xs. choices_read e labels (values_of xs)) (sym told.0);
  },
  ends,
)
decided e labels budget log (answer.Model given) verdict.Undecided is ends spent told = absurd told

pub decided_after : (e : PlainEncoding) (labels : List Label) (budget n : ℕ) (clauses : List (List Lit)) (goal : List Lit) (log : List Line) (a : Answer) (v : Verdict) → n ≡ e.formula.variables → clauses ≡ e.formula.clauses ++ goal ∷ [] → goal ≡ e.goal → IsAnswer n clauses a → EndsAs (Ok a) log → (a ≡ answer.Spent → IsSpent n clauses log budget) → IsTold e labels a v → IsDecided e labels budget log v
decided_after e labels budget n clauses goal log a v same more copy is ends spent told =
    decided e labels budget log a v (pushed (λ k cs. IsAnswer k cs a) e n clauses goal same more copy is) ends
    (λ h. pushed (λ k cs. IsSpent k cs log budget) e n clauses goal same more copy (spent h)) told
