-- The tree that a text of the grammar stands for.
use Rattle.std.specs.Prelude.{ℕ, Bool, true, false, List, [], ◌++◌, map, Option, Some, None}
use Rattle.chk_base.specs.declared.place.Place.{Place}
use Rattle.chk_base.specs.declared.text.Name.{Name}
use Rattle.grammar.specs.Grammar.{Tree, Nil, Leaf, Pair, Left, Right, Node, items}
use Rattle.oil_tree.specs.PlainAttributes.{PlainAttributes, NoAttribute, AttributeThen}
use Rattle.oil_text.specs.declared.token.Kind.{Kind}
use Rattle.oil_text.specs.declared.token.Kind.TheVariants as kinds
use Rattle.oil_text.specs.declared.token.Token.{Token}
use Rattle.oil_tree.specs.declared.tree.Value.{Value}
use Rattle.oil_tree.specs.declared.tree.ValueForm.{ValueForm}
use Rattle.oil_tree.specs.declared.tree.ValueForm.TheVariants as forms
use Rattle.oil_tree.specs.declared.tree.Attribute.{Attribute}
use Rattle.oil_tree.specs.declared.tree.Item.{Item}
use Rattle.oil_tree.specs.declared.tree.Item.TheVariants as of
use Rattle.oil_tree.specs.declared.tree.OilTree.{OilTree}

-- What stands here for a tree that is none of the grammar, which never comes.
abbrev pub nowhere : Place
nowhere = record { line = 0; column = 0; offset = 0 }

abbrev pub place_at : Tree Token → Place
place_at (Leaf t) = t.place
place_at _ = nowhere

abbrev pub text_at : Tree Token → List ℕ
text_at (Leaf t) = t.text
text_at _ = []

abbrev pub name_at : Tree Token → Name
name_at tree = record { text = text_at tree; place = place_at tree }

-- ---- values

-- the form of a number
abbrev pub form_of : Kind → ValueForm
form_of kinds.Integer = forms.Integer
form_of _ = forms.Point

abbrev pub form_at : Tree Token → ValueForm
form_at (Leaf t) = form_of t.kind
form_at _ = forms.Point

abbrev pub value_from : ValueForm → Bool → Tree Token → Place → Value
value_from form negative tree place = record { form = form; negative = negative; text = text_at tree; place = place }

-- a number without a sign
abbrev pub number_at : Tree Token → Value
number_at tree = value_from (form_at tree) false tree (place_at tree)

-- a number with a sign or without
abbrev pub signed_at : Tree Token → Value
signed_at (Pair (Left sign) number) = value_from (form_at number) false number (place_at sign)
signed_at (Pair (Right (Left sign)) number) = value_from (form_at number) true number (place_at sign)
signed_at (Pair (Right (Right none)) number) = number_at number
signed_at _ = number_at Nil

abbrev pub value_at : Tree Token → Value
value_at (Node (Left word)) = value_from forms.Word false word (place_at word)
value_at (Node (Right (Left string))) = value_from forms.Quoted false string (place_at string)
value_at (Node (Right (Right signed))) = signed_at signed
value_at _ = number_at Nil

-- ---- attributes

abbrev mutual
  -- the attributes of a loop
  pub attributes_at : Tree Token → PlainAttributes
  attributes_at (Pair one others) = let a = attribute_at one in AttributeThen a.name a.value a.nested (attributes_at others)
  attributes_at _ = NoAttribute

  pub attribute_at : Tree Token → Attribute
  attribute_at (Node (Pair name (Pair equals (Pair value (Pair block more))))) = record { name = name_at name; value = value_at value; nested = block_at block }
  attribute_at _ = record { name = name_at Nil; value = value_at Nil; nested = NoAttribute }

  -- the attributes between braces, if there are any
  pub block_at : Tree Token → PlainAttributes
  block_at (Left (Pair opening (Pair attributes closing))) = attributes_at attributes
  block_at _ = NoAttribute

-- ---- objects and includes

abbrev pub object_at : Tree Token → Item
object_at (Node (Pair kind (Pair name (Pair block more)))) = of.Object (name_at kind) (name_at name) (block_at block)
object_at _ = of.Object (name_at Nil) (name_at Nil) NoAttribute

abbrev pub item_at : Tree Token → Item
item_at (Left include) = of.Include (place_at include)
item_at (Right object) = object_at object
item_at _ = of.Include nowhere

-- ---- the parts of a file

abbrev pub places_at : Tree Token → List Place
places_at tree = map place_at (items tree)

abbrev pub version_at : Tree Token → Name
version_at (Node (Pair word (Pair equals (Pair string more)))) = name_at string
version_at _ = name_at Nil

-- the place of the first token of a section
abbrev pub first_place_at : Tree Token → Place
first_place_at (Node (Pair word more)) = place_at word
first_place_at _ = nowhere

-- the place of the IMPLEMENTATION section, if there is one
abbrev pub implementation_at : Tree Token → Option Place
implementation_at (Left (Pair implementation includes)) = Some (first_place_at implementation)
implementation_at _ = None

-- the includes after it
abbrev pub late_includes_at : Tree Token → List Place
late_includes_at (Left (Pair implementation includes)) = places_at includes
late_includes_at _ = []

abbrev pub cpu_name_at : Tree Token → Name
cpu_name_at (Node (Pair word (Pair name more))) = name_at name
cpu_name_at _ = name_at Nil

abbrev pub items_at : Tree Token → List Item
items_at (Node (Pair word (Pair name (Pair opening (Pair items_of more))))) = map item_at (items items_of)
items_at _ = []

abbrev pub tree_of : Tree Token → OilTree
tree_of (Node (Pair version (Pair includes (Pair implementation cpu)))) = record {
  version = version_at version;
  includes = places_at includes ++ late_includes_at implementation;
  implementation = implementation_at implementation;
  cpu = cpu_name_at cpu;
  items = items_at cpu;
}
tree_of _ = record { version = name_at Nil; includes = []; implementation = None; cpu = name_at Nil; items = [] }
