use Rattle.std.proofs.Common.{subst, sym, ap, ◌∙◌, ◌≡◌, MatchOption, [], None, Option}
use Rattle.std.specs.List.{flat_map}
use Rattle.std.specs.Option.{option_copied}
use Rattle.oil_rules.specs.declared.first.Fault.{Fault}
use Rattle.oil_rules.specs.First.{IsFirst, first_of}
use Rattle.oil_rules.specs.Rules.{faults, cpu_faults, item_faults, count_faults}
use Rattle.oil_rules.proofs.Firsts.{faults_seen}
use Rattle.oil_rules.proofs.Least.{first_is}
use Rattle.oil_rules.proofs.rules.first_fault.Goals as goal

pub returns : goal.returns
returns c =
    let tree = c.args.tree.now in
    let mode = option_copied c.args.mode in
    let all = faults tree mode in
    let items_are = c.items-items.ensures in
    let is = faults_seen tree mode c.args.known.now c.seeing_cpu-first.result.fault c.in_ok-first.first.fault c.in_ok-first-2.first.fault c.requires
    (c.seeing_cpu-first.ensures ∙ ap (λ b. first_of b (cpu_faults c.args.known.now mode tree.cpu.place)) c.none.ensures)
    (c.in_ok-first.ensures ∙ ap (λ xs. first_of c.seeing_cpu-first.result.fault (flat_map (item_faults c.args.known.now) xs)) items_are)
    (c.in_ok-first-2.ensures ∙ ap (λ xs. first_of c.in_ok-first.first.fault (count_faults xs)) items_are) in
    subst (λ o. MatchOption o (all ≡ []) (IsFirst all)) (sym is) (first_is all)
