-- The objects of a file's tree have names.
use Rattle.std.proofs.Common.{◌≡◌, true, List, map, refl, sym, ap, subst, ◌∙◌}
use Rattle.std.proofs.lemmas.Bool.{and_parts, false≢true}
use Rattle.std.specs.List.{AllByRecursion}
use Rattle.cert_form.specs.Words.{is_name}
use Rattle.grammar.specs.Grammar.{Expression, Many, Rule, Tree, Nil, Leaf, Pair, Left, Right, Node, is_tree, items, leaves, ◌▸◌, ◌∣◌}
use Rattle.name_law.proofs.Spelled.{AreSpelled, IsSpelled, all_parts}
use Rattle.oil_text.specs.declared.token.Token.{Token}
use Rattle.oil_tree.specs.declared.tree.Item.{Item}
use Rattle.oil_tree.specs.declared.tree.Item.TheVariants as of
use Rattle.oil_text.specs.OilGrammar.{Part, Cpu, File, Object, include, name, oil, rule}
use Rattle.oil_text.specs.OilMeaning.{item_at, items_at, object_at, text_at, tree_of}

-- what an object is called is a name
abbrev pub IsNamed : Item → Type 0
IsNamed (of.Object kind name attributes) = is_name name.text ≡ true
IsNamed (of.Include place) = Unit {0}

abbrev pub AreNamed : List Item → Type 0
AreNamed these = AllByRecursion IsNamed these

-- the tree follows an expression of the grammar, and the names among its tokens are spelled as such
pub record IsPart (t : Tree Token) (e : Expression Part) : Type 0 where
  pub follows : is_tree oil t e ≡ true
  pub spelled : AreSpelled (leaves t)

-- it has two parts
record AreBoth (t : Tree Token) (a b : Expression Part) : Type 0 where
  pub first : Tree Token
  pub second : Tree Token
  pub is : t ≡ Pair first second
  pub one : IsPart first a
  pub other : IsPart second b

-- it is a part of this name
record HasInside (t : Tree Token) (n : Part) : Type 0 where
  pub inside : Tree Token
  pub is : t ≡ Node inside
  pub part : IsPart inside (rule n)

both : (t : Tree Token) (a b : Expression Part) → IsPart t (a ▸ b) → AreBoth t a b
both (Pair x y) a b p =
    let q = and_parts (is_tree oil x a) (is_tree oil y b) p.follows in
    let s = all_parts IsSpelled (leaves x) (leaves y) p.spelled in
    record { first = x; second = y; is = refl; one = record { follows = q.0; spelled = s.0 }; other = record { follows = q.1; spelled = s.1 } }
both Nil a b p = absurd (false≢true p.follows)
both (Leaf t) a b p = absurd (false≢true p.follows)
both (Left x) a b p = absurd (false≢true p.follows)
both (Right x) a b p = absurd (false≢true p.follows)
both (Node x) a b p = absurd (false≢true p.follows)

within : (t : Tree Token) (n : Part) → IsPart t (Rule n) → HasInside t n
within (Node x) n p = record { inside = x; is = refl; part = record { follows = p.follows; spelled = p.spelled } }
within Nil n p = absurd (false≢true p.follows)
within (Leaf t) n p = absurd (false≢true p.follows)
within (Pair x y) n p = absurd (false≢true p.follows)
within (Left x) n p = absurd (false≢true p.follows)
within (Right x) n p = absurd (false≢true p.follows)

-- the token of a name
name_named : (t : Tree Token) → IsPart t name → is_name (text_at t) ≡ true
name_named (Leaf t) p = p.spelled.0 p.follows
name_named Nil p = absurd (false≢true p.follows)
name_named (Pair x y) p = absurd (false≢true p.follows)
name_named (Left x) p = absurd (false≢true p.follows)
name_named (Right x) p = absurd (false≢true p.follows)
name_named (Node x) p = absurd (false≢true p.follows)

object_named : (t : Tree Token) → IsPart t (Rule Object) → IsNamed (object_at t)
object_named t p =
    let object = within t Object p in
    let kind = both object.inside _ _ object.part in
    let called = both kind.second _ _ kind.other in
    let block = both called.second _ _ called.other in
    subst (λ (u : Tree Token). IsNamed (object_at u))
    (sym (object.is ∙ ap Node (kind.is ∙ ap (Pair kind.first) (called.is ∙ ap (Pair called.first) block.is))))
    (name_named called.first called.one)

item_named : (t : Tree Token) → IsPart t (include ∣ Rule Object) → IsNamed (item_at t)
item_named (Right object) p = object_named object (record { follows = p.follows; spelled = p.spelled })
item_named (Left place) p = tt
item_named Nil p = tt
item_named (Leaf t) p = tt
item_named (Pair x y) p = tt
item_named (Node x) p = tt

each_named : (t : Tree Token) → IsPart t (Many (include ∣ Rule Object)) → AreNamed (map item_at (items t))
each_named (Pair x y) p =
    let q = and_parts (is_tree oil x (include ∣ Rule Object)) (is_tree oil y (Many (include ∣ Rule Object))) p.follows in
    let s = all_parts IsSpelled (leaves x) (leaves y) p.spelled in
    (item_named x (record { follows = q.0; spelled = s.0 }), each_named y (record { follows = q.1; spelled = s.1 }))
each_named Nil p = tt
each_named (Leaf t) p = tt
each_named (Left x) p = tt
each_named (Right x) p = tt
each_named (Node x) p = tt

section_named : (t : Tree Token) → IsPart t (Rule Cpu) → AreNamed (items_at t)
section_named t p =
    let cpu = within t Cpu p in
    let word = both cpu.inside _ _ cpu.part in
    let called = both word.second _ _ word.other in
    let opening = both called.second _ _ called.other in
    let these = both opening.second _ _ opening.other in
    subst (λ (u : Tree Token). AreNamed (items_at u))
    (sym (cpu.is ∙ ap Node (word.is ∙ ap (Pair word.first) (called.is ∙ ap (Pair called.first) (opening.is ∙ ap (Pair opening.first) these.is)))))
    (each_named these.first these.one)

-- what stands in the CPU section of a file
pub file_named : (t : Tree Token) → IsPart t (Rule File) → AreNamed (tree_of t).items
file_named t p =
    let file = within t File p in
    let version = both file.inside _ _ file.part in
    let includes = both version.second _ _ version.other in
    let implementation = both includes.second _ _ includes.other in
    subst (λ (u : Tree Token). AreNamed (tree_of u).items)
    (sym (file.is ∙ ap Node (version.is ∙ ap (Pair version.first) (includes.is ∙ ap (Pair includes.first) implementation.is))))
    (section_named implementation.second implementation.other)
