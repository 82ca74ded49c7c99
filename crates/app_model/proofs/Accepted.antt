-- What it says of a tree that no rule is broken.
use Rattle.std.proofs.Common.{◌≡◌, ℕ, ◌+◌, ◌-◌, ◌≤◌, Bool, true, false, not, ◌||◌, cond, List, [], ◌∷◌, ◌++◌, length, drop, map, All, Option, refl, sym, ap, ◌∙◌, arith}
use Rattle.std.specs.List.{flat_map}
use Rattle.std.proofs.lemmas.List.{length-drop}
use Rattle.std.proofs.lemmas.List.Elements.{All-cons, All-nil}
use Rattle.chk_base.specs.declared.place.Place.{Place}
use Rattle.chk_base.specs.declared.text.Name.{Name}
use Rattle.oil_tree.specs.declared.tree.Item.{Item}
use Rattle.oil_tree.specs.declared.tree.OilTree.{OilTree}
use Rattle.oil_rules.specs.declared.first.Fault.{Fault}
use Rattle.oil_rules.specs.declared.known.Known.{Known}
use Rattle.oil_rules.specs.declared.group.Group.TheVariants as groups
use Rattle.oil_rules.specs.Known.{known_of}
use Rattle.oil_rules.specs.Names.{repeats}
use Rattle.oil_rules.specs.Objects.{names_in}
use Rattle.oil_rules.specs.Rules.{when, at_names, item_faults, cpu_faults, count_faults, faults}

pub both_none : {X : Type 0} (xs ys : List X) → xs ++ ys ≡ [] → (xs ≡ []) × (ys ≡ [])
both_none [] ys none = (refl, none)
both_none (x ∷ xs) ys none = absurd (cc)

-- a rule that gives no fault isn't broken
pub holds : (broken : Bool) (rule : ℕ) (place : Place) → when broken rule place ≡ [] → broken ≡ false
holds true rule place none = absurd (cc)
holds false rule place none = refl

pub each_none : {X Y : Type 0} (g : X → List Y) (xs : List X) → flat_map g xs ≡ [] → All (λ x. g x ≡ []) xs
each_none g [] none = All-nil (λ x. g x ≡ [])
each_none g (x ∷ xs) none =
    let parts = both_none (g x) (flat_map g xs) none in
    All-cons (λ y. g y ≡ []) x xs parts.0 (each_none g xs parts.1)

pub no_names : (rule : ℕ) (names : List Name) → at_names rule names ≡ [] → names ≡ []
no_names rule [] none = refl
no_names rule (n ∷ ns) none = absurd (cc)

-- nothing is left beyond the first ones
pub at_most : {X : Type 0} (n : ℕ) (xs : List X) → drop n xs ≡ [] → length xs ≤ n
at_most n xs none = let left : length (drop n xs) ≡ 0 = ap length none in omega (arith, length-drop n xs)

-- no rule is broken
pub record IsAccepted (these : List Item) : Type 0 where
  pub items : All (λ x. item_faults (known_of these) x ≡ []) these
  pub named : repeats [] (names_in groups.Named these) ≡ []
  pub entities : length (names_in groups.Entities these) ≤ 16
  pub resources : length (names_in groups.Resources these) ≤ 16

counts_accepted : (these : List Item) → All (λ x. item_faults (known_of these) x ≡ []) these → count_faults these ≡ [] → IsAccepted these
unfolding count_faults
counts_accepted these items none =
    let a = both_none (at_names 10 (repeats [] (names_in groups.Named these))) _ none in
    let b = both_none (at_names 10 (repeats [] (names_in groups.Modes these))) _ a.1 in
    let c = both_none (at_names 10 (drop 1 (names_in groups.Systems these))) _ b.1 in
    let d = both_none (at_names 23 (drop 16 (names_in groups.Entities these))) _ c.1 in
    record {
      items = items;
      named = no_names 10 _ a.0;
      entities = at_most 16 _ (no_names 23 _ d.0);
      resources = at_most 16 _ (no_names 24 _ d.1);
    }

pub accepted : (tree : OilTree) (mode : Option (List ℕ)) → faults tree mode ≡ [] → IsAccepted tree.items
unfolding faults
accepted tree mode none =
    let cpu = both_none (cpu_faults (known_of tree.items) mode tree.cpu.place) _ none in
    let rest = both_none (flat_map (item_faults (known_of tree.items)) tree.items) (count_faults tree.items) cpu.1 in
    counts_accepted tree.items (each_none (item_faults (known_of tree.items)) tree.items rest.0) rest.1
