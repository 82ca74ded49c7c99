use Rattle.std.proofs.Common.{sym, ◌∙◌}
use Rattle.std.specs.Str.{bytes_eq}
use Rattle.app_model.proofs.Steps.{no_position}
use Rattle.app_model.proofs.declared.resource_number.Goals as goal

pub returns-in-None : goal.returns-in-None
returns-in-None c =
    c.len.ensures ∙ no_position (bytes_eq c.args.name.now) c.args.known.now.resources (sym c.number.ensures ∙ c.in-None.is)
