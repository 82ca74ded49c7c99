-- The tree of the body is placed, and its points are those of the entity.
use Rattle.std.proofs.Common.{◌∙◌, ◌<◌, ◌^◌, sym, ap, subst, refl}
use Rattle.typed_unit.specs.Views.{block_of, entity_of, unit_of}
use Rattle.lower_law.specs.Layout.{cell_width, layout}
use Rattle.lower_law.specs.Translated.{cell_count, entity, statements, unit_over_cells}
use Rattle.lower_code.specs.Chains.{AllNumbersBelow}
use Rattle.lower.proofs.Limits.{body_right, entity_small, few_globals}
use Rattle.lower.proofs.Placed.{functions_same, entity_same, entity_code, is_placed, placed_at, points_are, points_small, room_here, top_small}
use Rattle.lower.proofs.entities.Lowering.body_code.Goals as goal

pub entity-requires-clause-cells : goal.entity-requires-clause-cells
entity-requires-clause-cells c =
    let u = unit_of c.args.self.now.unit.now in
    subst (λ gs. cell_count gs < 2 ^ 16) (sym c.as_slice.ensures) (few_globals u c.args.self.now.entities c.requires.ready.cells)

pub entity-requires-clause-locals : goal.entity-requires-clause-locals
entity-requires-clause-locals c =
    let u = unit_of c.args.self.now.unit.now in
    let b = entity_of c.args.body.now in
    let right = body_right u c.args.self.now.entities c.args.number b c.requires.ready c.requires.within c.requires.body in
    (entity_small u c.requires.ready.few c.args.number b c.requires.body right).locals

pub entity-requires-clause-numbers : goal.entity-requires-clause-numbers
entity-requires-clause-numbers c =
    let u = unit_of c.args.self.now.unit.now in
    let b = entity_of c.args.body.now in
    let right = body_right u c.args.self.now.entities c.args.number b c.requires.ready c.requires.within c.requires.body in
    subst (λ gs. AllNumbersBelow (2 ^ 16) (statements gs c.args.body.now.locals (block_of c.args.body.now.body))) (sym c.as_slice.ensures)
    (entity_small u c.requires.ready.few c.args.number b c.requires.body right).numbers

pub points-requires-clause-placed : goal.points-requires-clause-placed
points-requires-clause-placed c =
    let u = unit_of c.args.self.now.unit.now in
    let n = c.args.self.now.entities in
    let e = c.args.number in
    let b = entity_of c.args.body.now in
    let lt = c.requires.within in
    let ready = c.requires.ready in
    let trees = c.requires.trees in
    let fs = c.args.self.now.functions.now in
    let ts = c.args.self.now.tables.now in
    let t = c.in_ok-tree.tree in
    let is = c.in_ok-tree.ensures ∙ ap (λ gs. entity gs b) c.as_slice.ensures in
    let fe = c.units_fit_their_cells.ensures.fits u n e b lt c.requires.body (body_right u n e b ready lt c.requires.body) in
    let fun = functions_same u fs ts trees in
    let ent = entity_same u n e ready lt b c.requires.body fs ts trees t is in
    let law = c.entities_are_expanded.ensures in
    let fits = law.fits (unit_over_cells u) fs 16 (layout u) (cell_width u n) e t (λ i. i) fun ent fe (top_small u n e ready lt b c.requires.body) (points_small u n e ready lt b c.requires.body) (room_here u n e ready lt b c.requires.body) in
    placed_at u e fs t c.args.cells c.requires.cells
    (is_placed u n e ready lt b c.requires.body fs ts trees t is
    (λ number. law.points (unit_over_cells u) fs 16 (layout u) (cell_width u n) e t number fun ent fe)
    (λ number. law.entry (unit_over_cells u) fs 16 (layout u) (cell_width u n) e t number fun ent fe)
    fe fits (law.begins fs ((layout u).temp e) 16 ((layout u).first e) 0 t fits))

pub returns : goal.returns
returns c =
    let u = unit_of c.args.self.now.unit.now in
    let n = c.args.self.now.entities in
    let e = c.args.number in
    let b = entity_of c.args.body.now in
    let lt = c.requires.within in
    let ready = c.requires.ready in
    let trees = c.requires.trees in
    let fs = c.args.self.now.functions.now in
    let ts = c.args.self.now.tables.now in
    let t = c.in_ok-tree.tree in
    let is = c.in_ok-tree.ensures ∙ ap (λ gs. entity gs b) c.as_slice.ensures in
    let fe = c.units_fit_their_cells.ensures.fits u n e b lt c.requires.body (body_right u n e b ready lt c.requires.body) in
    let fun = functions_same u fs ts trees in
    let ent = entity_same u n e ready lt b c.requires.body fs ts trees t is in
    let law = c.entities_are_expanded.ensures in
    entity_code u n e fs t c.args.cells _ c.requires.cells refl
    (points_are u n e ready lt b c.requires.body fs ts trees t is
    (λ number. law.points (unit_over_cells u) fs 16 (layout u) (cell_width u n) e t number fun ent fe)
    (λ number. law.entry (unit_over_cells u) fs 16 (layout u) (cell_width u n) e t number fun ent fe)
    fe)
    c.in_ok-points.ensures
