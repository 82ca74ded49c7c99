use Rattle.std.proofs.Common.{◌≡◌, Some, sym, ap, ◌∙◌}
use Rattle.std.proofs.lemmas.Option.{slice_get-map}
use Rattle.std.specs.List.{slice_get}
use Rattle.std.specs.Option.{option_map}
use Rattle.clause_form.specs.declared.store.ClauseRef.{ClauseRef}
use Rattle.clause_form.proofs.Stores.{HasAt-listed}
use Rattle.clause_tests.proofs.clause_form_tests.moved.Goals as goal

pub lits-requires : goal.lits-requires
lits-requires g c =
    let e : slice_get c.args.moves.now c.args.at ≡ Some c.in_ok-new.field-0.now = sym c.in_ok-new.ensures in
    let new : ClauseRef × ClauseRef → ClauseRef = λ m. m.1 in
    HasAt-listed (g.C.ClauseStore.stored c.args.store.now) c.args.at c.in_ok-new.field-0.now.1
    (ap (λ l. slice_get l c.args.at) (sym c.requires) ∙ slice_get-map new c.args.moves.now c.args.at ∙ ap (option_map new) e)
