use Rattle.std.proofs.Common.{◌≡◌, length, rules, arith, refl}
use Rattle.clause_form.proofs.Rising.{AreOf-more, IsOf-more}
use Rattle.turn_unroll.proofs.Setting.{inside-get, put_made}
use Rattle.turn_unroll.proofs.cells.put_cell.Goals as goal

pub choose_bus-requires-clause-c : goal.choose_bus-requires-clause-c
choose_bus-requires-clause-c c = IsOf-more _ _ c.args.taken c.in_ok-rest.ensures.extends.grows c.requires.taken

pub choose_bus-requires-clause-b : goal.choose_bus-requires-clause-b
choose_bus-requires-clause-b c = AreOf-more _ _ _ c.in_ok-rest.ensures.extends.grows (inside-get _ c.args.next.now c.args.cell _ c.requires.next c.requires.cell)

pub returns : goal.returns
returns c = put_made _ _ _ c.args.next.now c.args.taken c.args.cell _ _ _ _ _ _ c.requires.cell c.requires.next c.in_ok-rest.ensures c.in_ok-next.ensures
