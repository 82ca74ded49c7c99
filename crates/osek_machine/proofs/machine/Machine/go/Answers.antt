use Rattle.std.proofs.Common.{◌∙◌, sym}
use Rattle.osek_machine.proofs.Going.{finished, place_there}
use Rattle.osek_machine.proofs.machine.Machine.go.Goals as goal
use Rattle.osek_machine.specs.Inside.{kept_of}

pub returns : goal.returns
returns c =
    finished c.args.self.now c.perform-performed.new.self _ (c.codes_tell_no_failures.ensures c.args.self.now.code) c.args.word c.in-Some.e c.perform-performed.result c.place_at-place.result _ c.requires.up (sym c.actor.ensures ∙ c.in-Some.is) (place_there (kept_of c.self.inside) _ c.in-Some.e c.point_number.result c.as_slice.result.now c.place_at-place.result c.self.view_is c.as_slice.ensures.value c.point_number.ensures c.place_at-place.ensures) c.perform-performed.ensures.performed c.perform-performed.ensures.kept c.finish.ensures
