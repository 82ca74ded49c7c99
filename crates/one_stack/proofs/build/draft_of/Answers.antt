use Rattle.std.proofs.Common.{◌∙◌}
use Rattle.one_stack.specs.PlainCode.{plain_code}
use Rattle.one_stack.proofs.Building.{first_is, points_are, starts_are}
use Rattle.one_stack.proofs.build.draft_of.Goals as goal

pub returns : goal.returns
returns c =
    let laid = c.in_ok-layout.ensures in
    let start = c.in_ok-start.ensures.start (plain_code c.args.code.now) in
    record {
      widths = c.into_widths.ensures ∙ laid.widths;
      starts = starts_are c.args.app.now c.args.code.now _ laid _ _ _ start c.in_ok-starts.ensures;
      first = first_is c.args.app.now c.args.code.now _ laid _ _ _ start c.in_ok-first.ensures;
      points = points_are c.args.app.now c.args.code.now _ laid _ c.in_ok-points.ensures;
      depth = c.entities-depth.ensures.count ∙ laid.entities;
    }
