use Rattle.std.proofs.Common.{sym, ◌∙◌, ◌≡◌, ◌<◌, length, Some}
use Rattle.turn_unroll.proofs.Making.{AreOf-get}
use Rattle.turn_unroll.proofs.Waying.{put_made, put_nowhere, below_is, same_get}
use Rattle.turn_unroll.proofs.ways.put_way.Goals as goal

pub or-requires-clause-a : goal.or-requires-clause-a
or-requires-clause-a c = AreOf-get _ c.args.row.now c.in-Some.q _ c.requires.row (below_is _ c.in-Some.q _ (sym c.in-Some.ensures) c.requires.fits)

pub returns-in_ok-row : goal.returns-in_ok-row
returns-in_ok-row c =
    let h = below_is _ c.in-Some.q (length c.args.row.now) (sym c.in-Some.ensures) c.requires.fits in
    put_made _ _ c.args.side c.args.way c.args.row.now c.in-Some.q _ _ (sym c.in-Some.ensures) h c.requires.row (same_get c.args.row.now c.in-Some.q _ _ h) c.in_ok-row.ensures
