use Rattle.std.proofs.Common.{ℕ, List, ◌++◌, ap, ◌∙◌, append_assoc, codes}
use Rattle.cert_text.proofs.front.put_bounds.Goals as goal
use Rattle.cert_text.specs.Parts.{pair_line}

pub returns : goal.returns
returns c =
    c.in_ok-put_pair.ensures
    ∙ ap (λ (t : List ℕ). t ++ pair_line (codes "bounds") c.args.bounds.turns c.args.bounds.arrivals) c.in_ok-append.ensures.ok
    ∙ append_assoc c.args.held.now (codes "oschk certificate 1\n") (pair_line (codes "bounds") c.args.bounds.turns c.args.bounds.arrivals)
