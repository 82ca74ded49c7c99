-- The law is five lemmas.
use Rattle.lower_code.proofs.Entities.{entity_points_are, entity_entry_is, entity_body_fits, body_begins, none_moves}
use Rattle.lower_code.proofs.entity.entities_are_expanded.Goals as goal

pub returns : goal.returns
returns c =
    record { points = entity_points_are; entry = entity_entry_is; fits = entity_body_fits; begins = body_begins; unmoved = none_moves }
