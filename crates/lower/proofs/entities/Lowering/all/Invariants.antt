use Rattle.std.proofs.Common.{◌≡◌, ◌-◌, length}
use Rattle.typed_unit.specs.Views.{unit_of}
use Rattle.lower.specs.EntityCodes.{AreEntityCodes}
use Rattle.lower.specs.Ready.{cells_from}
use Rattle.lower.proofs.entities.Lowering.all.Given as goal

-- the codes so far, and the cells of the entities that are left
abbrev pub invariant-loop-number : goal.invariant-loop-number
invariant-loop-number l =
    record {
      left : l.left ≡ cells_from (unit_of l.self.unit.now) l.number (l.self.entities - l.number);
      long : length l.codes ≡ l.number;
      codes : AreEntityCodes (unit_of l.self.unit.now) l.self.entities l.codes;
    }
