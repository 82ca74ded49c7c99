use Rattle.std.proofs.Common.{◌∙◌, ◌≤◌, length, ap, sym, subst}
use Rattle.guard_prog.specs.declared.draft.Draft.{Draft}
use Rattle.guard_prog.specs.Drafts.{program_of}
use Rattle.one_stack.specs.BuildExact.{IsExact, NamesActors}
use Rattle.one_stack.specs.Labelled.{chosen_by, label_at, labels_of, most_of}
use Rattle.one_stack.proofs.Nearing.{all_go, all_near, all_take, few_points}
use Rattle.one_stack.proofs.Tabling.{length-table}
use Rattle.step_ir.specs.Points.{start_bits}
use Rattle.step_ir.specs.PointStep.{behaviour_of}
use Rattle.step_ir.specs.Setting.{setting_of}
use Rattle.one_stack.proofs.build.build.Goals as goal

pub draft_of-requires-clause-near : goal.draft_of-requires-clause-near
draft_of-requires-clause-near c =
    all_near c.args.app.now c.args.code.now c.requires.fits c.requires.form (c.cells_within.ensures.globals c.args.code.now) (c.cells_within.ensures.few_cells c.args.code.now)

pub labels_of-requires : goal.labels_of-requires
labels_of-requires c =
    subst (λ ps. length ps ≤ 65536) (sym c.items.ensures)
    (few_points c.in_ok-draft.draft (c.built_is_exact.ensures.shaped _ _ c.requires.order c.requires.fits c.requires.form _ c.in_ok-draft.ensures))

pub returns-clause-exact : goal.returns-clause-exact
returns-clause-exact c =
    let runs = c.built_is_exact.ensures.drafts _ _ c.requires.order c.requires.fits c.requires.form _ c.in_ok-draft.ensures c.args.arrivals in
    subst (λ (d : Draft). IsExact (setting_of c.args.app.now) (behaviour_of c.args.code.now) (start_bits c.args.code.now) c.args.arrivals (program_of d) (chosen_by c.in_ok-labels.labels)) (sym c.in-Ok.ensures.taken)
    (subst (IsExact (setting_of c.args.app.now) (behaviour_of c.args.code.now) (start_bits c.args.code.now) c.args.arrivals (program_of c.in_ok-draft.draft)) (all_go c.in_ok-draft.draft.depth c.items.result.now c.in_ok-labels.labels c.in_ok-labels.ensures) runs)

pub returns-clause-greatest : goal.returns-clause-greatest
returns-clause-greatest c =
    ap length c.in_ok-labels.ensures
    ∙ length-table (most_of c.items.result.now) (label_at c.in_ok-draft.draft.depth c.items.result.now)
    ∙ ap most_of c.items.ensures
    ∙ ap (λ (d : Draft). most_of d.points) (sym c.in-Ok.ensures.taken)

pub returns-clause-words : goal.returns-clause-words
returns-clause-words c = all_take c.in_ok-draft.draft.depth c.items.result.now c.in_ok-labels.labels c.in_ok-labels.ensures

pub returns-clause-actors : goal.returns-clause-actors
returns-clause-actors c =
    subst (λ (d : Draft). NamesActors (setting_of c.args.app.now) (behaviour_of c.args.code.now) (start_bits c.args.code.now) (program_of d) c.in_ok-labels.labels) (sym c.in-Ok.ensures.taken)
    (c.built_is_exact.ensures.actors _ _ c.requires.order c.requires.fits c.requires.form _ c.in_ok-draft.ensures c.in_ok-labels.labels (c.in_ok-labels.ensures ∙ ap (labels_of c.in_ok-draft.draft.depth) c.items.ensures))
