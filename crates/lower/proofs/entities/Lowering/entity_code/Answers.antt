-- Each entity has a body.
use Rattle.std.proofs.Common.{◌∙◌, sym}
use Rattle.lower.proofs.Limits.{none_some}
use Rattle.lower.proofs.entities.Lowering.entity_code.Goals as goal

pub returns-in-None : goal.returns-in-None
returns-in-None c = let h = c.requires.ready.bodies c.args.number c.requires.within in absurd (none_some h.body (c.in-None.ensures ∙ h.is))

pub body_code-requires-clause-body : goal.body_code-requires-clause-body
body_code-requires-clause-body c = sym c.in-Some.ensures
