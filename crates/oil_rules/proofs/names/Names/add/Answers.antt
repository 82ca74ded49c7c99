use Rattle.std.proofs.Common.{not, ap, ◌∙◌}
use Rattle.oil_rules.specs.Names.{has_name, with_name}
use Rattle.oil_rules.proofs.NameSets.{has_key, with_key, texts}
use Rattle.oil_rules.proofs.names.Names.add.Goals as goal

pub returns-clause-new : goal.returns-clause-new
returns-clause-new c =
    c.in_ok-is_new.ensures.added ∙ ap not (has_key c.self.inside.set.keys c.args.name.now ∙ ap (λ ns. has_name ns c.args.name.now) c.self.view_is)

pub returns-clause-names : goal.returns-clause-names
returns-clause-names c =
    ap texts c.in_ok-is_new.ensures.keys ∙ (with_key c.self.inside.set.keys c.args.name ∙ ap (λ ns. with_name ns c.args.name.now) c.self.view_is)
