-- Plain attributes as a list, and a list of attributes as plain ones.
use Rattle.std.specs.Prelude.{List, [], ◌∷◌}
use Rattle.oil_tree.specs.PlainAttributes.{PlainAttributes, NoAttribute, AttributeThen}
use Rattle.oil_tree.specs.declared.tree.Attribute.{Attribute}

-- the attributes of the first level, each with those nested in it
abbrev pub listed : PlainAttributes → List Attribute
listed NoAttribute = []
listed (AttributeThen name value nested others) = record { name = name; value = value; nested = nested } ∷ listed others

-- the plain attributes with this list
abbrev pub plain : List Attribute → PlainAttributes
plain [] = NoAttribute
plain (a ∷ others) = AttributeThen a.name a.value a.nested (plain others)
