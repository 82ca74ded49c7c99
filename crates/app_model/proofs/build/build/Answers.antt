use Rattle.std.proofs.Common.{ap, ◌∙◌, refl}
use Rattle.std.specs.List.{flat_map}
use Rattle.application.specs.Levels.{class_of}
use Rattle.app_model.specs.Application.{task_in, routine_in, resource_in, leveled, ceiled}
use Rattle.std.specs.Option.{option_copied}
use Rattle.app_model.proofs.Whole.{application_is, few_known, few_resources, tasks_in_bounds, routines_in_bounds}
use Rattle.app_model.proofs.build.build.Goals as goal

pub tasks_of-requires-clause-few : goal.tasks_of-requires-clause-few
tasks_of-requires-clause-few c =
    few_known c.args.tree.now (option_copied c.args.mode) c.args.known.now c.requires.known c.requires.accepted

pub tasks_of-requires-clause-bounds : goal.tasks_of-requires-clause-bounds
tasks_of-requires-clause-bounds c =
    tasks_in_bounds c.args.tree.now (option_copied c.args.mode) c.items-items.result.now c.items-items.ensures c.requires.accepted

pub routines_of-requires-clause-few : goal.routines_of-requires-clause-few
routines_of-requires-clause-few c =
    few_known c.args.tree.now (option_copied c.args.mode) c.args.known.now c.requires.known c.requires.accepted

pub routines_of-requires-clause-bounds : goal.routines_of-requires-clause-bounds
routines_of-requires-clause-bounds c =
    routines_in_bounds c.args.tree.now (option_copied c.args.mode) c.items-items.result.now c.items-items.ensures c.requires.accepted

pub resources_of-requires : goal.resources_of-requires
resources_of-requires c =
    few_resources c.args.tree.now (option_copied c.args.mode) c.items-items.result.now c.items-items.ensures c.requires.accepted

pub returns : goal.returns
returns c =
    let known = c.args.known.now in
    let items = c.args.tree.now.items in
    let mode = c.in_ok-mode.mode in
    application_is c.args.tree.now (option_copied c.args.mode) known _ (record {
      known_is = c.requires.known;
      mode = c.in_ok-mode.ensures;
      tasks = c.in_ok-set_run_levels.ensures ∙ ap leveled (c.in_ok-tasks.ensures
          ∙ (ap (λ m. flat_map (task_in known m) c.items-items.result.now) c.as_bytes.ensures ∙ ap (λ xs. flat_map (task_in known mode) xs) c.items-items.ensures));
      routines = c.in_ok-routines.ensures ∙ ap (λ xs. flat_map (routine_in known) xs) c.items-items.ensures;
      resources = c.in_ok-resources.ensures
          ∙ (ap (λ ts. ceiled ts c.items-2.result.now 0 (flat_map resource_in c.items-items.result.now)) c.items.ensures
          ∙ (ap (λ rs. ceiled c.set_run_levels.new.tasks rs 0 (flat_map resource_in c.items-items.result.now)) c.items-2.ensures
          ∙ ap (λ xs. ceiled c.set_run_levels.new.tasks c.in_ok-routines.routines 0 (flat_map resource_in xs)) c.items-items.ensures));
      scheduler = refl;
      class = c.class_of-class.ensures ∙ ap class_of c.items-3.ensures;
      notes = c.in_ok-notes.ensures;
    })
