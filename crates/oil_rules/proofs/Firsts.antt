-- The first fault of several lists.
use Rattle.std.proofs.Common.{◌≡◌, ℕ, ◌+◌, ◌<◌, Bool, true, false, not, cond, List, [], ◌∷◌, ◌++◌, Option, None, length, get_or, take, drop, refl, sym, ap, ◌∙◌, arith, zero, suc, ◌-◌, ◌==◌, sub-one}
use Rattle.std.specs.List.{flat_map}
use Rattle.std.proofs.lemmas.Bool.Decides.{nat_tests}
use Rattle.std.proofs.lemmas.List.{take_more, append-nil}
use Rattle.std.proofs.lemmas.List.Concat.{flat_map-append}
use Rattle.chk_base.specs.declared.place.Place.{Place}
use Rattle.chk_base.specs.declared.text.Name.{Name}
use Rattle.oil_rules.specs.declared.first.Fault.{Fault}
use Rattle.oil_rules.specs.Names.{has_name, with_name, repeats}
use Rattle.oil_rules.specs.First.{sooner, first_of}
use Rattle.oil_rules.specs.Rules.{when, at_names, is_passed_over, kind_faults, object_faults, item_faults, cpu_faults, count_faults, faults}
use Rattle.oil_rules.specs.Kinds.{kind_of}
use Rattle.oil_rules.specs.declared.kind.Kind.{Kind}
use Rattle.oil_rules.specs.Objects.{name_in, names_in}
use Rattle.oil_rules.specs.declared.known.Known.{Known}
use Rattle.oil_rules.specs.declared.group.Group.{Group}
use Rattle.oil_tree.specs.declared.tree.Item.{Item}
use Rattle.oil_tree.specs.declared.tree.Item.TheVariants as items
use Rattle.oil_tree.specs.PlainAttributes.{PlainAttributes}
use Rattle.oil_tree.specs.Listed.{listed}
use Rattle.oil_tree.specs.declared.tree.OilTree.{OilTree}
use Rattle.oil_rules.specs.Known.{known_of}

-- the faults of two lists, one after the other
pub first_of_append : (best : Option Fault) (xs ys : List Fault) → first_of best (xs ++ ys) ≡ first_of (first_of best xs) ys
first_of_append best [] ys = refl
first_of_append best (x ∷ xs) ys = first_of_append (sooner best x) xs ys

-- the faults of one more thing
pub first_of_more : {X : Type 0} (g : X → List Fault) (best : Option Fault) (xs : List X) (i : ℕ) (d : X) → i < length xs → first_of best (flat_map g (take (i + 1) xs)) ≡ first_of (first_of best (flat_map g (take i xs))) (g (get_or xs i d))
first_of_more g best xs i d within =
    ap (λ ys. first_of best (flat_map g ys)) (take_more xs i d within)
    ∙ (ap (first_of best) (flat_map-append g (take i xs) (get_or xs i d ∷ []) ∙ ap (λ ys. flat_map g (take i xs) ++ ys) (append-nil (g (get_or xs i d))))
    ∙ first_of_append best (flat_map g (take i xs)) (g (get_or xs i d)))

-- the faults at the names that are taken, when one more name has come
pub repeats_more : (rule : ℕ) (best : Option Fault) (seen : List (List ℕ)) (n : Name) (ns : List Name) → first_of best (at_names rule (repeats seen (n ∷ ns))) ≡ first_of (first_of best (when (has_name seen n.text) rule n.place)) (at_names rule (repeats (with_name seen n.text) ns))
repeats_more rule best seen n ns = by (has_name seen n.text)
  where
    by : (b : Bool) → first_of best (at_names rule (cond b (n ∷ repeats seen ns) (repeats (seen ++ n.text ∷ []) ns))) ≡ first_of (first_of best (when b rule n.place)) (at_names rule (repeats (cond b seen (seen ++ n.text ∷ [])) ns))
    by true = refl
    by false = refl

-- the faults at the names beyond the first ones, when one more name has come
pub beyond_more : (rule : ℕ) (best : Option Fault) (left : ℕ) (n : Name) (ns : List Name) → first_of best (at_names rule (drop left (n ∷ ns))) ≡ first_of (first_of best (when (left == 0) rule n.place)) (at_names rule (drop (left - 1) ns))
beyond_more rule best zero n ns = refl
beyond_more rule best (suc left) n ns =
    let none : (suc left == 0) ≡ false = grind (arith, nat_tests) in
    rw (sub-one, none) refl

-- the same where an item comes, with a name of the group or none
pub beyond_named : (rule : ℕ) (best : Option Fault) (left : ℕ) (group : Group) (x : Item) (n : Name) (rest : List Item) → name_in group x ≡ n ∷ [] → first_of best (at_names rule (drop left (names_in group (x ∷ rest)))) ≡ first_of (first_of best (when (left == 0) rule n.place)) (at_names rule (drop (left - 1) (names_in group rest)))
beyond_named rule best left group x n rest is =
    ap (λ ns. first_of best (at_names rule (drop left (ns ++ names_in group rest)))) is ∙ beyond_more rule best left n (names_in group rest)

pub beyond_unnamed : (rule : ℕ) (best : Option Fault) (left : ℕ) (group : Group) (x : Item) (rest : List Item) → name_in group x ≡ [] → first_of best (at_names rule (drop left (names_in group (x ∷ rest)))) ≡ first_of best (at_names rule (drop left (names_in group rest)))
beyond_unnamed rule best left group x rest is =
    ap (λ ns. first_of best (at_names rule (drop left (ns ++ names_in group rest)))) is

-- the faults of an object that isn't passed over
pub object_seen : (known : Known) (kind name : Name) (attributes : PlainAttributes) (best : Option Fault) → is_passed_over (kind_of kind.text) name.text ≡ false → first_of best (item_faults known (items.Object kind name attributes)) ≡ first_of (first_of best (kind_faults (kind_of kind.text) kind.place)) (object_faults known (kind_of kind.text) name (listed attributes))
object_seen known kind name attributes best counts =
    ap (λ b. first_of best (cond b [] (kind_faults (kind_of kind.text) kind.place ++ object_faults known (kind_of kind.text) name (listed attributes)))) counts
    ∙ first_of_append best (kind_faults (kind_of kind.text) kind.place) (object_faults known (kind_of kind.text) name (listed attributes))

-- the same step by step, as the code sees them
pub object_done : (known : Known) (item : Item) (kind name : Name) (attributes : PlainAttributes) (best kinds all : Option Fault) (k : Kind) → item ≡ items.Object kind name attributes → k ≡ kind_of kind.text → is_passed_over k name.text ≡ false → kinds ≡ first_of best (kind_faults k kind.place) → all ≡ first_of kinds (object_faults known k name (listed attributes)) → all ≡ first_of best (item_faults known item)
object_done known item kind name attributes best kinds all k is k_is counts kinds_are all_is =
    let counts_so : is_passed_over (kind_of kind.text) name.text ≡ false = ap (λ j. is_passed_over j name.text) (sym k_is) ∙ counts in
    let seen = object_seen known kind name attributes best counts_so in
    all_is ∙ (ap (λ b. first_of b (object_faults known k name (listed attributes))) kinds_are
    ∙ (ap (λ j. first_of (first_of best (kind_faults j kind.place)) (object_faults known j name (listed attributes))) k_is
    ∙ (sym seen ∙ ap (λ x. first_of best (item_faults known x)) (sym is))))

-- the faults of a tree, part by part
pub faults_seen : (tree : OilTree) (mode : Option (List ℕ)) (known : Known) (a b c : Option Fault) → known ≡ known_of tree.items → a ≡ first_of None (cpu_faults known mode tree.cpu.place) → b ≡ first_of a (flat_map (item_faults known) tree.items) → c ≡ first_of b (count_faults tree.items) → c ≡ first_of None (faults tree mode)
unfolding faults
faults_seen tree mode known a b c known_is a_is b_is c_is =
    let of = known_of tree.items in
    let cpu = cpu_faults of mode tree.cpu.place in
    let items = flat_map (item_faults of) tree.items in
    let a_so : a ≡ first_of None cpu = a_is ∙ ap (λ k. first_of None (cpu_faults k mode tree.cpu.place)) known_is in
    let b_so : b ≡ first_of (first_of None cpu) items = b_is ∙ (ap (λ k. first_of a (flat_map (item_faults k) tree.items)) known_is ∙ ap (λ x. first_of x items) a_so) in
    c_is ∙ (ap (λ x. first_of x (count_faults tree.items)) b_so
    ∙ (sym (first_of_append (first_of None cpu) items (count_faults tree.items))
    ∙ sym (first_of_append None cpu (items ++ count_faults tree.items))))
