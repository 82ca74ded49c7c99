-- One more point.
use Rattle.std.proofs.Common.{◌∷◌, [], ◌∙◌, ap, map}
use Rattle.std.specs.Prelude.{slice_get}
use Rattle.std.proofs.lemmas.List.{map-append}
use Rattle.step_ir.specs.Points.{plain_of}
use Rattle.lower.proofs.Exchanging.{one_more}
use Rattle.lower.proofs.copies.push_copy.Goals as goal

pub returns-in_ok-push-in-Some : goal.returns-in_ok-push-in-Some
returns-in_ok-push-in-Some c =
    let q = c.in_ok-copy_point-in-Some.field-0 in
    one_more c.args.first c.args.points.now _ _ c.args.at c.in-Some.point.now q (c.in-Some.ensures ∙ ap (slice_get c.args.points.now) c.number.ensures) c.in_ok-copy_point-in-Some.ensures c.requires.so_far
    (ap (map plain_of) c.in_ok-push-in-Some.ensures.ok ∙ map-append plain_of c.args.copied.now (q ∷ []))
