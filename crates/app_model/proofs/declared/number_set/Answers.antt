use Rattle.std.proofs.Common.{◌≡◌, min, find, Some, None, sym, ap, ◌∙◌}
use Rattle.std.specs.Option.{option_copied, option_map_or}
use Rattle.oil_tree.specs.declared.tree.Attribute.{Attribute}
use Rattle.oil_rules.specs.Roles.{is_role}
use Rattle.oil_rules.specs.Values.{number_of}
use Rattle.oil_rules.specs.Objects.{role_in}
use Rattle.app_model.proofs.declared.number_set.Goals as goal

pub returns-in-Some : goal.returns-in-Some
returns-in-Some c =
    let is : find (λ a. is_role (role_in c.args.kind a) c.args.role) c.args.attributes.now ≡ Some c.in-Some.attribute.now = sym c.first_of_role.ensures ∙ ap option_copied c.in-Some.is in
    c.capped_number.ensures
    ∙ (ap (λ t. min (number_of t) 1000) c.as_bytes.ensures
    ∙ ap (λ o. min (option_map_or (λ (a : Attribute). number_of a.value.text) o 0) 1000) (sym is))

pub returns-in-None : goal.returns-in-None
returns-in-None c =
    let is : find (λ a. is_role (role_in c.args.kind a) c.args.role) c.args.attributes.now ≡ None = sym c.first_of_role.ensures ∙ ap option_copied c.in-None.is in
    ap (λ o. min (option_map_or (λ (a : Attribute). number_of a.value.text) o 0) 1000) (sym is)
