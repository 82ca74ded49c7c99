-- The things of statements, part by part.
use Rattle.std.proofs.Common.{◌≡◌, ℕ, ◌+◌, ◌<◌, List, [], ◌∷◌, ◌++◌, Option, Some, None, option_map, length, get_or, drop, map, refl, sym, ap, ◌∙◌, append_assoc}
use Rattle.std.proofs.lemmas.List.{append-nil, drop_more, map-append}
use Rattle.chk_base.specs.declared.place.Place.{Place}
use Rattle.typed_unit.specs.declared.typed.TypedBranch.{TypedBranch, out-TypedBranch, fold_out-TypedBranch}
use Rattle.typed_unit.specs.declared.typed.TypedExpr.{TypedExpr}
use Rattle.typed_unit.specs.declared.typed.TypedStatement.{TypedStatement, fold-roll-TypedStatement}
use Rattle.typed_unit.specs.declared.typed.TypedStatement.TheOpen.{TypedStatement-F}
use Rattle.typed_unit.specs.declared.typed.TypedStatement.TheVariants as s
use Rattle.typed_unit.specs.declared.typed.TypedStatement.TheVariants.{rolls-If, rolls-While, rolls-For}
use Rattle.typed_unit.specs.Plain.{PlainStatement, PlainBlock, NoStatement}
use Rattle.typed_unit.specs.Views.{PlainBranch, chained, branched, expr_of, statement_layer, branch_layer, statement_of, branch_of, block_of}
use Rattle.lower_law.specs.Counts.{Thing, asking, if_there, things, things_in}
use Rattle.unit_counts.specs.declared.things.ThingSize.{ThingSize}
use Rattle.unit_counts.specs.Sizes.{size_of, sizes_of, branch_things, statement_sizes, block_sizes, branches_sizes}

-- the things of two lists
pub sizes_append : (xs ys : List Thing) → sizes_of (xs ++ ys) ≡ sizes_of xs ++ sizes_of ys
sizes_append xs ys = map-append size_of xs ys

-- one more statement
pub statement_more : (before : List ThingSize) (ss : List TypedStatement) (i : ℕ) (d : TypedStatement) → i < length ss
    → before ++ block_sizes (drop i ss) ≡ (before ++ statement_sizes (get_or ss i d)) ++ block_sizes (drop (i + 1) ss)
statement_more before ss i d within =
    ap (λ xs. before ++ block_sizes xs) (drop_more ss i d within)
    ∙ (ap (λ xs. before ++ xs) (sizes_append (things (statement_of (get_or ss i d))) (things_in (block_of (drop (i + 1) ss))))
    ∙ sym (append_assoc before (statement_sizes (get_or ss i d)) (block_sizes (drop (i + 1) ss))))

-- a branch as a plain one
branch_plain : (b : TypedBranch) → branch_of b ≡ record { place = (out-TypedBranch b).place; condition = expr_of (out-TypedBranch b).condition; block = block_of (out-TypedBranch b).block }
branch_plain b = fold_out-TypedBranch PlainStatement PlainBranch statement_layer branch_layer b

-- one more branch
pub branch_more : (before : List ThingSize) (bs : List TypedBranch) (i : ℕ) (d : TypedBranch) → i < length bs
    → before ++ branches_sizes (drop i bs)
    ≡ ((before ++ size_of (asking (expr_of (out-TypedBranch (get_or bs i d)).condition ∷ [])) ∷ []) ++ block_sizes (out-TypedBranch (get_or bs i d)).block) ++ branches_sizes (drop (i + 1) bs)
branch_more before bs i d within =
    let x = out-TypedBranch (get_or bs i d) in
    let one = size_of (asking (expr_of x.condition ∷ [])) in
    let rest = branch_things (map branch_of (drop (i + 1) bs)) in
    ap (λ xs. before ++ branches_sizes xs) (drop_more bs i d within)
    ∙ (ap (λ b. before ++ (size_of (asking (b.condition ∷ [])) ∷ sizes_of (things_in b.block ++ rest))) (branch_plain (get_or bs i d))
    ∙ (ap (λ xs. before ++ (one ∷ xs)) (sizes_append (things_in (block_of x.block)) rest)
    ∙ (sym (append_assoc before (one ∷ []) (block_sizes x.block ++ sizes_of rest))
    ∙ sym (append_assoc (before ++ one ∷ []) (block_sizes x.block) (sizes_of rest)))))

-- branches leave the things of each, and then those of the last block
chained_things : (bs : List PlainBranch) (otherwise : PlainBlock) → things_in (chained bs otherwise) ≡ branch_things bs ++ things_in otherwise
chained_things [] otherwise = refl
chained_things (b ∷ bs) otherwise =
    let one = asking (b.condition ∷ []) in
    ap (λ xs. one ∷ xs)
    (append-nil (things_in b.block ++ things_in (chained bs otherwise))
    ∙ (ap (λ xs. things_in b.block ++ xs) (chained_things bs otherwise)
    ∙ sym (append_assoc (things_in b.block) (branch_things bs) (things_in otherwise))))

branched_things : (place : Place) (bs : List PlainBranch) (otherwise : PlainBlock) → things (branched place bs otherwise) ≡ branch_things bs ++ things_in otherwise
branched_things place [] otherwise = refl
branched_things place (b ∷ bs) otherwise =
    ap (λ xs. asking (b.condition ∷ []) ∷ xs)
    (ap (λ xs. things_in b.block ++ xs) (chained_things bs otherwise)
    ∙ sym (append_assoc (things_in b.block) (branch_things bs) (things_in otherwise)))

-- an `if` with a last block, and one without
pub of_if : (before : List ThingSize) (place : Place) (bs : List TypedBranch) (body : List TypedStatement)
    → before ++ statement_sizes (s.If place bs (Some body)) ≡ (before ++ branches_sizes bs) ++ block_sizes body
of_if before place bs body =
    ap (λ w. before ++ sizes_of (things w)) (ap statement_of (sym (rolls-If place bs (Some body))) ∙ fold-roll-TypedStatement PlainStatement PlainBranch statement_layer branch_layer (TypedStatement-F.If place bs (Some body)))
    ∙ (ap (λ xs. before ++ sizes_of xs) (branched_things place (map branch_of bs) (block_of body))
    ∙ (ap (λ xs. before ++ xs) (sizes_append (branch_things (map branch_of bs)) (things_in (block_of body)))
    ∙ sym (append_assoc before (branches_sizes bs) (block_sizes body))))

pub of_lone_if : (before : List ThingSize) (place : Place) (bs : List TypedBranch)
    → before ++ statement_sizes (s.If place bs None) ≡ before ++ branches_sizes bs
of_lone_if before place bs =
    ap (λ w. before ++ sizes_of (things w)) (ap statement_of (sym (rolls-If place bs None)) ∙ fold-roll-TypedStatement PlainStatement PlainBranch statement_layer branch_layer (TypedStatement-F.If place bs None))
    ∙ ap (λ xs. before ++ sizes_of xs) (branched_things place (map branch_of bs) NoStatement ∙ append-nil (branch_things (map branch_of bs)))

-- a condition and a block
pub of_while : (before : List ThingSize) (place : Place) (c : TypedExpr) (body : List TypedStatement)
    → before ++ statement_sizes (s.While place c body) ≡ (before ++ size_of (asking (expr_of c ∷ [])) ∷ []) ++ block_sizes body
of_while before place c body =
    ap (λ w. before ++ sizes_of (things w)) (ap statement_of (sym (rolls-While place c body)) ∙ fold-roll-TypedStatement PlainStatement PlainBranch statement_layer branch_layer (TypedStatement-F.While place c body))
    ∙ sym (append_assoc before (size_of (asking (expr_of c ∷ [])) ∷ []) (block_sizes body))

-- the parts of a `for` in the order of the text
pub of_for : (before : List ThingSize) (place : Place) (start : List TypedStatement) (c : Option TypedExpr) (step body : List TypedStatement)
    → before ++ statement_sizes (s.For place start c step body)
    ≡ (((before ++ block_sizes start) ++ size_of (asking (if_there (option_map expr_of c))) ∷ []) ++ block_sizes step) ++ block_sizes body
of_for before place start c step body =
    let one = asking (if_there (option_map expr_of c)) in
    let inner = things_in (block_of step) ++ things_in (block_of body) in
    ap (λ w. before ++ sizes_of (things w)) (ap statement_of (sym (rolls-For place start c step body)) ∙ fold-roll-TypedStatement PlainStatement PlainBranch statement_layer branch_layer (TypedStatement-F.For place start c step body))
    ∙ (ap (λ xs. before ++ xs) (sizes_append (things_in (block_of start)) (one ∷ inner))
    ∙ (sym (append_assoc before (block_sizes start) (size_of one ∷ sizes_of inner))
    ∙ (sym (append_assoc (before ++ block_sizes start) (size_of one ∷ []) (sizes_of inner))
    ∙ (ap (λ xs. ((before ++ block_sizes start) ++ size_of one ∷ []) ++ xs) (sizes_append (things_in (block_of step)) (things_in (block_of body)))
    ∙ sym (append_assoc ((before ++ block_sizes start) ++ size_of one ∷ []) (block_sizes step) (block_sizes body))))))
