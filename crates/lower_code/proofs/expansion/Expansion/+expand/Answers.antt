-- A body has the points of its pieces and of its end, and a call those of its body.
use Rattle.std.proofs.Common.{◌≡◌, ◌+◌, ◌-◌, ◌*◌, ◌<◌, Some, None, rules, arith}
use Rattle.std.specs.Prelude.{map, slice_get}
use Rattle.std.proofs.lemmas.Grind.{common_steps}
use Rattle.std.proofs.lemmas.Option.{gets}
use Rattle.step_ir.specs.Points.{plain_of}
use Rattle.lower_law.specs.Exact.{exchanged}
use Rattle.lower_pieces.specs.Acting.{context_of}
use Rattle.lower_pieces.specs.Pieces.{piece_of}
use Rattle.lower_code.proofs.Calls.{body_calls, body_done, call_fits, none_called, body_called}
use Rattle.lower_code.proofs.expansion.Expansion.+expand.Goals as goal

pub body-all-requires : goal.body-all-requires
body-all-requires t c = (
  search rules,
  (
    c.requires.tables,
    (
      c.requires.deep,
      body_calls (exchanged c.args.self.now.first) c.args.self.now.temp c.args.self.now.functions.now c.args.d c.args.f.now (context_of c.args.frame.now) c.args.at (map piece_of c.in_ok-pieces.pieces.items) c.requires.fits c.in_ok-pieces.ensures,
    ),
  ),
)

pub body-returns : goal.body-returns
body-returns t c =
    body_done (exchanged c.args.self.now.first) c.args.self.now.temp c.args.self.now.functions.now c.args.d c.args.f.now (context_of c.args.frame.now) c.args.at (map piece_of c.in_ok-pieces.pieces.items)
    (map plain_of c.args.points.now) (map plain_of c.all.new.points) (map plain_of c.close.new.points) c.requires.fits c.in_ok-pieces.ensures c.in_ok-all.ensures c.in_ok-close.ensures

pub called-body-requires : goal.called-body-requires
called-body-requires t c =
    let found : slice_get c.args.self.now.functions.now c.args.function ≡ Some c.in-Some.f.now = grind (arith, common_steps, gets, c.in-Some.ensures.lookup) in
    let smaller : 4 * (c.args.d - 1) + 3 < 4 * c.args.d = omega (arith, c.if-d-eq0.false) in (
      search rules,
      (
        c.requires.tables,
        (
          omega (arith, c.requires.deep),
          call_fits (exchanged c.args.self.now.first) c.args.self.now.temp c.args.self.now.functions.now c.args.d c.args.function c.in-Some.f.now c.args.frame.now.base c.args.at (omega (arith, c.if-d-eq0.false)) found c.requires.fits,
        ),
      ),
    )

pub called-returns-in-None : goal.called-returns-in-None
called-returns-in-None t c =
    let missing : slice_get c.args.self.now.functions.now c.args.function ≡ None = grind (arith, common_steps, gets, c.in-None.ensures.lookup) in
    none_called (exchanged c.args.self.now.first) c.args.self.now.temp c.args.self.now.functions.now c.args.d c.args.function (context_of c.args.frame.now) c.args.at (map plain_of c.args.points.now) missing

pub called-returns-in_ok-body-in-Some : goal.called-returns-in_ok-body-in-Some
called-returns-in_ok-body-in-Some t c =
    let found : slice_get c.args.self.now.functions.now c.args.function ≡ Some c.in-Some.f.now = grind (arith, common_steps, gets, c.in-Some.ensures.lookup) in
    body_called (exchanged c.args.self.now.first) c.args.self.now.temp c.args.self.now.functions.now c.args.d c.args.function c.in-Some.f.now (context_of c.args.frame.now) c.args.at
    (map plain_of c.args.points.now) (map plain_of c.body.new.points) (omega (arith, c.if-d-eq0.false)) found c.in_ok-body-in-Some.ensures
