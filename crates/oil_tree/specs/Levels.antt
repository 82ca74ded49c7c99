-- Nested attributes have fewer levels than those that they are nested in.
use Rattle.std.specs.Prelude.{◌≤◌, max, List, [], ◌∷◌}
use Rattle.std.proofs.Common.{arith}
use denote.Param.Weighed.{most}
use Rattle.oil_tree.specs.PlainAttributes.{levels}
use Rattle.oil_tree.specs.Listed.{plain}
use Rattle.oil_tree.specs.declared.tree.Attribute.{Attribute}
use Rattle.oil_tree.specs.declared.tree.Attributes.TheDeep.{deep-Attribute}

fewer : (attributes : List Attribute) → most deep-Attribute attributes ≤ levels (plain attributes)
fewer [] = omega arith
fewer (a ∷ others) = grind (arith, fewer others)

pub nested_levels : (attributes : List Attribute) → max (most deep-Attribute attributes) 0 ≤ levels (plain attributes)
nested_levels attributes = omega (arith, fewer attributes)
