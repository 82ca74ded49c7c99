-- One more in a sum.
use Rattle.std.proofs.Common.{◌≡◌, ℕ, zero, suc, ◌+◌, ◌<◌, List, [], ◌∷◌, length, take, get_or, subst, arith}
use Rattle.std.specs.Prelude.{map}
use Rattle.lower_law.specs.Items.{sites, sites_all}
use Rattle.lower_law.specs.Statements.{asked, block, room, room_all}
use Rattle.lower_pieces.specs.declared.tree.ExpressionTree.{ExpressionTree}
use Rattle.lower_pieces.specs.declared.tree.StatementTree.{StatementTree}
use Rattle.lower_pieces.specs.Sized.{sized, sized_all}
use Rattle.lower_pieces.specs.Trees.{tree_of, statement_of}

pub sites_more : (ss : List ExpressionTree) (i : ℕ) (d : ExpressionTree) → i < length ss → sites_all (asked (map tree_of (take (i + 1) ss))) ≡ sites_all (asked (map tree_of (take i ss))) + sites (tree_of (get_or ss i d))
sites_more [] i d h = absurd (omega arith)
sites_more (s ∷ ss) zero d h = omega arith
sites_more (s ∷ ss) (suc i) d h =
    let ih = sites_more ss i d (omega arith) in
    let e : suc (i + 1) ≡ suc i + 1 = omega arith in
    let now : sites (tree_of s) + sites_all (asked (map tree_of (take (i + 1) ss))) ≡ sites (tree_of s) + sites_all (asked (map tree_of (take i ss))) + sites (tree_of (get_or ss i d)) = omega arith in
    subst (λ k. sites_all (asked (map tree_of (take k (s ∷ ss)))) ≡ sites (tree_of s) + sites_all (asked (map tree_of (take i ss))) + sites (tree_of (get_or ss i d))) e now

pub sized_more : (calls : ℕ → ℕ) (ss : List StatementTree) (i : ℕ) (d : StatementTree) → i < length ss → sized_all calls (block (map statement_of (take (i + 1) ss))) ≡ sized_all calls (block (map statement_of (take i ss))) + sized calls (statement_of (get_or ss i d))
sized_more calls [] i d h = absurd (omega arith)
sized_more calls (s ∷ ss) zero d h = omega arith
sized_more calls (s ∷ ss) (suc i) d h =
    let ih = sized_more calls ss i d (omega arith) in
    let e : suc (i + 1) ≡ suc i + 1 = omega arith in
    let now : sized calls (statement_of s) + sized_all calls (block (map statement_of (take (i + 1) ss))) ≡ sized calls (statement_of s) + sized_all calls (block (map statement_of (take i ss))) + sized calls (statement_of (get_or ss i d)) = omega arith in
    subst (λ k. sized_all calls (block (map statement_of (take k (s ∷ ss)))) ≡ sized calls (statement_of s) + sized_all calls (block (map statement_of (take i ss))) + sized calls (statement_of (get_or ss i d))) e now

pub room_more : (rooms : ℕ → ℕ) (ss : List StatementTree) (i : ℕ) (d : StatementTree) → i < length ss → room_all rooms (block (map statement_of (take (i + 1) ss))) ≡ room_all rooms (block (map statement_of (take i ss))) + room rooms (statement_of (get_or ss i d))
room_more rooms [] i d h = absurd (omega arith)
room_more rooms (s ∷ ss) zero d h = omega arith
room_more rooms (s ∷ ss) (suc i) d h =
    let ih = room_more rooms ss i d (omega arith) in
    let e : suc (i + 1) ≡ suc i + 1 = omega arith in
    let now : room rooms (statement_of s) + room_all rooms (block (map statement_of (take (i + 1) ss))) ≡ room rooms (statement_of s) + room_all rooms (block (map statement_of (take i ss))) + room rooms (statement_of (get_or ss i d)) = omega arith in
    subst (λ k. room_all rooms (block (map statement_of (take k (s ∷ ss)))) ≡ room rooms (statement_of s) + room_all rooms (block (map statement_of (take i ss))) + room rooms (statement_of (get_or ss i d))) e now
