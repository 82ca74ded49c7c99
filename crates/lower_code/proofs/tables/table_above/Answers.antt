-- One more function.
use Rattle.std.proofs.Common.{ap, ◌∙◌}
use Rattle.std.specs.Prelude.{map}
use Rattle.lower_pieces.specs.Sized.{number_at}
use Rattle.lower_code.specs.Tables.{tree_size, tree_room}
use Rattle.lower_code.proofs.Tabled.{mapped_more}
use Rattle.lower_code.proofs.tables.table_above.Goals as goal

pub loop-f-preserved : goal.loop-f-preserved
loop-f-preserved c =
    let fs = c.args.functions.now in
    let f = c.f-item.result in
    let sizes = number_at c.args.below.now.sizes in
    let rooms = number_at c.args.below.now.rooms in (
      mapped_more (tree_size sizes) (map (tree_size sizes) fs) c.loop-f.sizes c.push.new.self fs c.loop-f.f-index f c.tree_size.result c.loop-f-test.true c.f-item.is
          (c.tree_size.ensures ∙ ap (λ ns. tree_size (number_at ns) f) c.as_slice.ensures) c.in_ok-push.ensures.ok c.loop-f.invariant.0,
      mapped_more (tree_room rooms) (map (tree_room rooms) fs) c.loop-f.rooms c.push-in-loop-f.new.self fs c.loop-f.f-index f c.tree_room.result c.loop-f-test.true c.f-item.is
          (c.tree_room.ensures ∙ ap (λ ns. tree_room (number_at ns) f) c.as_slice-in-loop-f.ensures) c.in_ok-push-2.ensures.ok c.loop-f.invariant.1,
    )
