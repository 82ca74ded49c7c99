-- The table is the one for this depth.
use Rattle.std.proofs.Common.{◌≡◌, ◌+◌, ◌<◌, ◌^◌, Some, sym, subst, arith}
use Rattle.std.specs.Prelude.{IfOk, map, slice_get}
use Rattle.std.proofs.lemmas.Grind.{common_steps}
use Rattle.std.proofs.lemmas.Option.{gets}
use Rattle.lower_law.specs.Exact.{exchanged}
use Rattle.lower_pieces.specs.Acting.{context_of}
use Rattle.lower_pieces.specs.Fitting.{AllFit}
use Rattle.lower_pieces.specs.Pieces.{piece_of}
use Rattle.lower_pieces.specs.Sized.{number_at, sized_all}
use Rattle.lower_code.specs.declared.tables.Table.{Table}
use Rattle.lower_code.specs.Plans.{pieces_in}
use Rattle.lower_code.specs.Tables.{body_of}
use Rattle.lower_code.proofs.Tabled.{level_is}
use Rattle.lower_code.proofs.expansion.Expansion.pieces_at.Goals as goal

pub pieces_with-requires-clause-points : goal.pieces_with-requires-clause-points
pieces_with-requires-clause-points c =
    let found : slice_get c.args.self.now.tables.now c.args.d ≡ Some c.in-Some.table.now = grind (arith, common_steps, gets, c.in-Some.ensures.lookup) in
    let e = level_is c.args.self.now.functions.now c.args.self.now.tables.now c.args.d c.in-Some.table.now c.requires.tables c.requires.deep found in
    subst (λ (t : Table). c.args.at + sized_all (number_at t.sizes) (body_of c.args.f.now) < 2 ^ 16) (sym e) c.requires.fits.points

pub pieces_with-requires-clause-all : goal.pieces_with-requires-clause-all
pieces_with-requires-clause-all c =
    let found : slice_get c.args.self.now.tables.now c.args.d ≡ Some c.in-Some.table.now = grind (arith, common_steps, gets, c.in-Some.ensures.lookup) in
    let e = level_is c.args.self.now.functions.now c.args.self.now.tables.now c.args.d c.in-Some.table.now c.requires.tables c.requires.deep found in
    subst (λ (t : Table). AllFit (2 ^ 16) c.args.self.now.functions.now (number_at t.sizes) (number_at t.rooms) c.args.self.now.temp c.args.frame.now.base c.args.at (c.args.frame.now.base + c.args.f.now.locals) (body_of c.args.f.now)) (sym e) c.requires.fits.all

pub returns-in-Some : goal.returns-in-Some
returns-in-Some c =
    let found : slice_get c.args.self.now.tables.now c.args.d ≡ Some c.in-Some.table.now = grind (arith, common_steps, gets, c.in-Some.ensures.lookup) in
    let e = level_is c.args.self.now.functions.now c.args.self.now.tables.now c.args.d c.in-Some.table.now c.requires.tables c.requires.deep found in
    subst (λ (t : Table). IfOk c.pieces_with.result (λ p. map piece_of p.items ≡ pieces_in (exchanged c.args.self.now.first) c.args.self.now.temp c.args.self.now.functions.now (number_at t.sizes) (number_at t.rooms) c.args.f.now (context_of c.args.frame.now) c.args.at)) e c.pieces_with.ensures
