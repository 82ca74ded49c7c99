use Rattle.std.proofs.Common.{ap, ◌∙◌, position}
use Rattle.std.specs.Str.{bytes_eq}
use Rattle.oil_rules.proofs.NameSets.{number_of_key}
use Rattle.oil_rules.proofs.names.Names.number.Goals as goal

pub returns : goal.returns
returns c =
    c.get_index_of.ensures.index ∙ (number_of_key c.self.inside.set.keys c.args.name.now ∙ ap (λ ns. position (bytes_eq c.args.name.now) ns) c.self.view_is)
