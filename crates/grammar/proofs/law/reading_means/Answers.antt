-- The tree that reading gives is the only one.
use Rattle.std.proofs.Common.{refl, sym, ap, ◌∙◌}
use Rattle.grammar.proofs.Laws
use Rattle.grammar.proofs.law.reading_means.Goals as goal

pub returns-clause-read : goal.returns-clause-read
returns-clause-read g c = λ L e d meaning text tree h. Laws.read_as L d.rules e d.here meaning text tree (meaning tree) h refl

pub returns-clause-whole : goal.returns-clause-whole
returns-clause-whole g c = λ L e d meaning text. (
  λ s. (meaning s.tree, record { tree = s.tree; derives = s.derives; means = refl; only = λ x f. Laws.one_tree L d.rules e d.here text x s.tree f s.derives }),
  λ r. record { tree = r.1.tree; derives = r.1.derives },
)

pub returns-clause-one_value : goal.returns-clause-one_value
returns-clause-one_value g c = λ G e meaning text value other p q. sym p.means ∙ ap meaning (q.only p.tree p.derives) ∙ q.means
