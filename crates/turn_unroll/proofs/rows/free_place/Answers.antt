use Rattle.std.proofs.Common.{refl, true, false, sym}
use Rattle.std.proofs.lemmas.Result.{IfOk-weaker}
use Rattle.turn_unroll.proofs.Making.{free_dark, free_new}
use Rattle.turn_unroll.proofs.rows.free_place.Goals as goal

pub returns-then-is_free : goal.returns-then-is_free
returns-then-is_free c = free_new _ _ c.args.is_free c.input.result c.if-is_free.true c.input.ensures.new c.input.ensures.free

pub returns-else-is_free : goal.returns-else-is_free
returns-else-is_free c = free_dark _ _ c.args.is_free c.if-is_free.false c.requires refl
