use Rattle.std.proofs.Common.{false, get_or, ap, ◌∙◌}
use Rattle.std.specs.List.{flat_map}
use Rattle.c_rules.specs.First.{first_of}
use Rattle.static_rules.specs.Chains.{sites_of_those}
use Rattle.static_rules.specs.Rules.{reached_faults}
use Rattle.static_rules.proofs.FaultParts.{reached_seen}
use Rattle.static_rules.proofs.resources.seeing_sites.Goals as goal

pub returns : goal.returns
returns c =
    let bodies = c.args.bodies.now in
    let g = reached_faults c.args.app.now c.args.n in
    c.seeing_functions.ensures
    ∙ (ap (λ xs. first_of c.seeing_all_reached-first.result.fault (flat_map g (sites_of_those bodies (λ f. get_or xs f false)))) c.as_slice.ensures.value
    ∙ (ap (λ best. first_of best (flat_map g (sites_of_those bodies (λ f. get_or c.in_ok-flags.flags.items f false)))) c.seeing_all_reached-first.ensures
    ∙ reached_seen bodies c.args.sites.now c.in_ok-flags.flags.items c.args.first.fault g c.in_ok-flags.ensures))
