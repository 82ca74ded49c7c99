-- One more entity.
use Rattle.std.proofs.Common.{ap, length}
use Rattle.typed_unit.specs.Views.{unit_of}
use Rattle.lower.proofs.Gathering.{all_cells, codes_long, codes_more, codes_none, first_left, rest_left, some_left}
use Rattle.lower.proofs.entities.Lowering.all.Goals as goal

pub loop-number-init : goal.loop-number-init
loop-number-init c =
    record {
      left = all_cells (unit_of c.args.self.now.unit.now) c.args.self.now.entities c.args.cells c.requires.cells;
      long = ap length c.new-codes.ensures;
      codes = codes_none (unit_of c.args.self.now.unit.now) c.args.self.now.entities _ c.new-codes.ensures;
    }

pub remove-one-requires : goal.remove-one-requires
remove-one-requires c = some_left (unit_of c.args.self.now.unit.now) c.loop-number.number c.args.self.now.entities _ c.loop-number-test.true c.loop-number.invariant.left

pub entity_code-requires-clause-cells : goal.entity_code-requires-clause-cells
entity_code-requires-clause-cells c =
    first_left (unit_of c.args.self.now.unit.now) c.loop-number.number c.args.self.now.entities _ _ c.loop-number-test.true c.loop-number.invariant.left c.remove-one.ensures.item

pub loop-number-preserved : goal.loop-number-preserved
loop-number-preserved c =
    record {
      left = rest_left (unit_of c.args.self.now.unit.now) c.loop-number.number c.args.self.now.entities _ _ c.loop-number-test.true c.loop-number.invariant.left c.remove-one.ensures.rest;
      long = codes_long c.loop-number.number _ _ _ c.loop-number.invariant.long c.in_ok-push.ensures.ok;
      codes = codes_more (unit_of c.args.self.now.unit.now) c.args.self.now.entities c.loop-number.number _ _ _ c.loop-number.invariant.long c.loop-number.invariant.codes c.in_ok-entity_code.ensures c.in_ok-push.ensures.ok;
    }
