-- The sites of statements, part by part.
use Rattle.std.proofs.Common.{◌≡◌, ℕ, ◌+◌, ◌<◌, List, [], ◌∷◌, ◌++◌, Option, Some, None, length, get_or, take, drop, map, refl, sym, ap, ◌∙◌, append_assoc}
use Rattle.std.specs.List.{flat_map}
use Rattle.std.proofs.lemmas.List.{drop_more, append-nil, map-append, take_more}
use Rattle.std.proofs.lemmas.List.Concat.{flat_map-append}
use Rattle.chk_base.specs.declared.place.Place.{Place}
use Rattle.typed_unit.specs.declared.typed.TypedBranch.{TypedBranch, out-TypedBranch, fold_out-TypedBranch}
use Rattle.typed_unit.specs.declared.typed.TypedEntity.{TypedEntity}
use Rattle.typed_unit.specs.declared.typed.TypedExpr.{TypedExpr}
use Rattle.typed_unit.specs.declared.typed.TypedFunction.{TypedFunction}
use Rattle.typed_unit.specs.declared.typed.TypedStatement.{TypedStatement, fold-roll-TypedStatement}
use Rattle.typed_unit.specs.declared.typed.TypedStatement.TheOpen.{TypedStatement-F}
use Rattle.typed_unit.specs.declared.typed.TypedStatement.TheVariants as s
use Rattle.typed_unit.specs.declared.typed.TypedStatement.TheVariants.{rolls-If, rolls-While, rolls-For}
use Rattle.typed_unit.specs.Plain.{PlainStatement, PlainBlock, NoStatement}
use Rattle.typed_unit.specs.Views.{PlainBranch, chained, branched, expr_of, statement_layer, branch_layer, statement_of, branch_of, block_of, function_of, entity_of}
use Rattle.static_rules.specs.declared.site.Site.{Site}
use Rattle.static_rules.specs.Sites.{sites_in, sites_of, branch_sites, statement_sites, block_sites, branches_sites, function_bodies}
use Rattle.static_rules.specs.Rules.{first_sites}

-- one more statement
pub statement_more : (before : List Site) (ss : List TypedStatement) (i : ℕ) (d : TypedStatement) → i < length ss
    → before ++ block_sites (drop i ss) ≡ (before ++ statement_sites (get_or ss i d)) ++ block_sites (drop (i + 1) ss)
statement_more before ss i d within =
    ap (λ xs. before ++ block_sites xs) (drop_more ss i d within)
    ∙ sym (append_assoc before (statement_sites (get_or ss i d)) (block_sites (drop (i + 1) ss)))

-- a branch as a plain one
branch_plain : (b : TypedBranch) → branch_of b ≡ record { place = (out-TypedBranch b).place; condition = expr_of (out-TypedBranch b).condition; block = block_of (out-TypedBranch b).block }
branch_plain b = fold_out-TypedBranch PlainStatement PlainBranch statement_layer branch_layer b

-- one more branch
pub branch_more : (before : List Site) (bs : List TypedBranch) (i : ℕ) (d : TypedBranch) → i < length bs
    → before ++ branches_sites (drop i bs)
    ≡ (before ++ block_sites (out-TypedBranch (get_or bs i d)).block) ++ branches_sites (drop (i + 1) bs)
branch_more before bs i d within =
    let x = out-TypedBranch (get_or bs i d) in
    let rest = branches_sites (drop (i + 1) bs) in
    ap (λ xs. before ++ branches_sites xs) (drop_more bs i d within)
    ∙ (ap (λ b. before ++ (sites_of b.block ++ rest)) (branch_plain (get_or bs i d))
    ∙ sym (append_assoc before (block_sites x.block) rest))

-- branches leave the sites of each, and then those of the last block
chained_sites : (bs : List PlainBranch) (otherwise : PlainBlock) → sites_of (chained bs otherwise) ≡ branch_sites bs ++ sites_of otherwise
chained_sites [] otherwise = refl
chained_sites (b ∷ bs) otherwise =
    append-nil (sites_of b.block ++ sites_of (chained bs otherwise))
    ∙ (ap (λ xs. sites_of b.block ++ xs) (chained_sites bs otherwise)
    ∙ sym (append_assoc (sites_of b.block) (branch_sites bs) (sites_of otherwise)))

branched_sites : (place : Place) (bs : List PlainBranch) (otherwise : PlainBlock) → sites_in (branched place bs otherwise) ≡ branch_sites bs ++ sites_of otherwise
branched_sites place [] otherwise = refl
branched_sites place (b ∷ bs) otherwise =
    ap (λ xs. sites_of b.block ++ xs) (chained_sites bs otherwise)
    ∙ sym (append_assoc (sites_of b.block) (branch_sites bs) (sites_of otherwise))

-- an `if` without a last `else`, and one with it
pub of_if : (before : List Site) (place : Place) (bs : List TypedBranch) → before ++ statement_sites (s.If place bs None) ≡ before ++ branches_sites bs
of_if before place bs =
    ap (λ w. before ++ sites_in w) (ap statement_of (sym (rolls-If place bs None)) ∙ fold-roll-TypedStatement PlainStatement PlainBranch statement_layer branch_layer (TypedStatement-F.If place bs None))
    ∙ (ap (λ xs. before ++ xs) (branched_sites place (map branch_of bs) NoStatement ∙ append-nil (branches_sites bs)))

pub of_if_else : (before : List Site) (place : Place) (bs : List TypedBranch) (body : List TypedStatement)
    → before ++ statement_sites (s.If place bs (Some body)) ≡ (before ++ branches_sites bs) ++ block_sites body
of_if_else before place bs body =
    ap (λ w. before ++ sites_in w) (ap statement_of (sym (rolls-If place bs (Some body))) ∙ fold-roll-TypedStatement PlainStatement PlainBranch statement_layer branch_layer (TypedStatement-F.If place bs (Some body)))
    ∙ (ap (λ xs. before ++ xs) (branched_sites place (map branch_of bs) (block_of body))
    ∙ sym (append_assoc before (branches_sites bs) (block_sites body)))

-- a condition and a block
pub of_while : (before : List Site) (place : Place) (c : TypedExpr) (body : List TypedStatement)
    → before ++ statement_sites (s.While place c body) ≡ before ++ block_sites body
of_while before place c body =
    ap (λ w. before ++ sites_in w) (ap statement_of (sym (rolls-While place c body)) ∙ fold-roll-TypedStatement PlainStatement PlainBranch statement_layer branch_layer (TypedStatement-F.While place c body))

-- the parts of a `for` in the order of the text
pub of_for : (before : List Site) (place : Place) (start : List TypedStatement) (c : Option TypedExpr) (step body : List TypedStatement)
    → before ++ statement_sites (s.For place start c step body) ≡ ((before ++ block_sites start) ++ block_sites step) ++ block_sites body
of_for before place start c step body =
    ap (λ w. before ++ sites_in w) (ap statement_of (sym (rolls-For place start c step body)) ∙ fold-roll-TypedStatement PlainStatement PlainBranch statement_layer branch_layer (TypedStatement-F.For place start c step body))
    ∙ (sym (append_assoc before (block_sites start) (block_sites step ++ block_sites body))
    ∙ sym (append_assoc (before ++ block_sites start) (block_sites step) (block_sites body)))

-- one more function
pub function_more : (fs : List TypedFunction) (i : ℕ) (d : TypedFunction) → i < length fs
    → function_bodies (map function_of (take (i + 1) fs)) ≡ function_bodies (map function_of (take i fs)) ++ block_sites (get_or fs i d).body ∷ []
function_more fs i d within =
    ap (λ xs. function_bodies (map function_of xs)) (take_more fs i d within)
    ∙ (ap function_bodies (map-append function_of (take i fs) (get_or fs i d ∷ []))
    ∙ map-append (λ f. sites_of f.body) (map function_of (take i fs)) (function_of (get_or fs i d) ∷ []))

-- the sites of one more body
pub first_more : (es : List TypedEntity) (i : ℕ) (d : TypedEntity) → i < length es
    → flat_map first_sites (map entity_of (take (i + 1) es)) ≡ flat_map first_sites (map entity_of (take i es)) ++ first_sites (entity_of (get_or es i d))
first_more es i d within =
    ap (λ xs. flat_map first_sites (map entity_of xs)) (take_more es i d within)
    ∙ (ap (flat_map first_sites) (map-append entity_of (take i es) (get_or es i d ∷ []))
    ∙ (flat_map-append first_sites (map entity_of (take i es)) (entity_of (get_or es i d) ∷ [])
    ∙ ap (λ ys. flat_map first_sites (map entity_of (take i es)) ++ ys) (append-nil (first_sites (entity_of (get_or es i d))))))
