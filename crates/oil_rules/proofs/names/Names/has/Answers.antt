use Rattle.std.proofs.Common.{ap, ◌∙◌}
use Rattle.oil_rules.specs.Names.{has_name}
use Rattle.oil_rules.proofs.NameSets.{has_key}
use Rattle.oil_rules.proofs.names.Names.has.Goals as goal

pub returns : goal.returns
returns c =
    c.contains.ensures ∙ (has_key c.self.inside.set.keys c.args.name.now ∙ ap (λ ns. has_name ns c.args.name.now) c.self.view_is)
