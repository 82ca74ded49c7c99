-- Parts read one after another, step by step.
use Rattle.std.proofs.Common.{◌≡◌, List, refl, sym, ap, ◌∙◌}
use Rattle.grammar.specs.Grammar.{Expression, Rule, Pair, Node, ◌▸◌}
use Rattle.grammar.specs.Reading.{Got, map_got}
use Rattle.c_lex.specs.declared.token.Token.{Token}
use Rattle.c_grammar.specs.Factored.{Part, factored_rule}
use Rattle.c_expression.specs.declared.stop.Stop.{Stop}
use Rattle.c_expression.specs.declared.stop.Stop.TheVariants as stops
use Rattle.c_expression.specs.Reads.{reads, tree_at, Stops}
use Rattle.c_expression.proofs.Lists.{got_at}
use Rattle.c_expression.proofs.Opened.{opened}

-- where the first part stops, and where the second stops after the first

pub stops_first : (a b : Expression Part) (ts : List Token) (stop : Stop) → Stops stop (reads a ts) → Stops stop (reads (a ▸ b) ts)
stops_first a b ts stops.Memory h = tt
stops_first a b ts (stops.At r) h = rw h refl

pub stops_second : (a b : Expression Part) (ts r : List Token) (stop : Stop) → reads a ts ≡ Got (tree_at a ts) r → Stops stop (reads b r) → Stops stop (reads (a ▸ b) ts)
stops_second a b ts r stops.Memory g h = tt
stops_second a b ts r (stops.At s) g h = rw (g, h) refl

pub stops_rule : (p : Part) (ts : List Token) (stop : Stop) → Stops stop (reads (factored_rule p) ts) → Stops stop (reads (Rule p) ts)
stops_rule p ts stops.Memory h = tt
stops_rule p ts (stops.At r) h = opened p ts ∙ ap (map_got Node) h

-- where both are read, and the tree of both

pub got_both : (a b : Expression Part) (ts r s : List Token) → reads a ts ≡ Got (tree_at a ts) r → reads b r ≡ Got (tree_at b r) s → reads (a ▸ b) ts ≡ Got (Pair (tree_at a ts) (tree_at b r)) s
got_both a b ts r s g h = rw (g, h) refl

pub tree_both : (a b : Expression Part) (ts r s : List Token) → reads a ts ≡ Got (tree_at a ts) r → reads b r ≡ Got (tree_at b r) s → tree_at (a ▸ b) ts ≡ Pair (tree_at a ts) (tree_at b r)
tree_both a b ts r s g h = got_at (a ▸ b) ts (Pair (tree_at a ts) (tree_at b r)) s (got_both a b ts r s g h)

pub reads_both : (a b : Expression Part) (ts r s : List Token) → reads a ts ≡ Got (tree_at a ts) r → reads b r ≡ Got (tree_at b r) s → reads (a ▸ b) ts ≡ Got (tree_at (a ▸ b) ts) s
reads_both a b ts r s g h = got_both a b ts r s g h ∙ ap (λ x. Got x s) (sym (tree_both a b ts r s g h))

got_rule : (p : Part) (ts r : List Token) → reads (factored_rule p) ts ≡ Got (tree_at (factored_rule p) ts) r → reads (Rule p) ts ≡ Got (Node (tree_at (factored_rule p) ts)) r
got_rule p ts r h = opened p ts ∙ ap (map_got Node) h

pub tree_rule : (p : Part) (ts r : List Token) → reads (factored_rule p) ts ≡ Got (tree_at (factored_rule p) ts) r → tree_at (Rule p) ts ≡ Node (tree_at (factored_rule p) ts)
tree_rule p ts r h = got_at (Rule p) ts (Node (tree_at (factored_rule p) ts)) r (got_rule p ts r h)

pub reads_rule : (p : Part) (ts r : List Token) → reads (factored_rule p) ts ≡ Got (tree_at (factored_rule p) ts) r → reads (Rule p) ts ≡ Got (tree_at (Rule p) ts) r
reads_rule p ts r h = got_rule p ts r h ∙ ap (λ x. Got x r) (sym (tree_rule p ts r h))
