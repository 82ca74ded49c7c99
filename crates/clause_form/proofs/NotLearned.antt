-- Lines that are derived and not learned.
use Rattle.std.proofs.Common.{◌≡◌, true, List, [], ◌∷◌, ◌++◌, arith}
use Rattle.std.proofs.lemmas.Bool.Decides.{nat_tests}
use Rattle.clause_form.specs.declared.lit.Lit.{Lit}
use Rattle.clause_form.specs.Literals.{is_positive, negation}
use Rattle.clause_form.specs.LearnedLine.{IsConsistent, is_closed, IsLearned}
use Rattle.clause_form.proofs.Rows.{lit, chain, four}

-- The line `1 3` is derived from the chain `1 2`, `-2 3`, and no set makes it learned: a closed set in which 1 is false
-- has 3, and one in which 3 is false has 1.
pub chain_not_learned : IsLearned chain (lit 2 ∷ lit 6 ∷ []) → ⊥
unfolding is_positive negation
chain_not_learned k =
    let s = k.set in
    let a = k.consistent (lit 2) in
    let b = k.consistent (lit 4) in
    let c = k.consistent (lit 6) in
    let d = k.closed in
    let e = k.new.0 in
    let f = k.new.1 in
    grind (arith, nat_tests, a, b, c, d, e, f)

-- After the line `1` no set is closed over the four clauses, so a second line isn't learned.
pub four_closed_no_more : (set : List Lit) → IsConsistent set → is_closed set (four ++ (lit 2 ∷ []) ∷ []) ≡ true → ⊥
unfolding is_positive negation
four_closed_no_more set k d =
    let a = k (lit 2) in
    let b = k (lit 4) in
    grind (arith, nat_tests, a, b, d)

-- A line of two literals isn't learned over the four clauses: a closed set leaves both of them open.
pub four_not_learned : IsLearned four (lit 2 ∷ lit 4 ∷ []) → ⊥
unfolding is_positive negation
four_not_learned k =
    let a = k.consistent (lit 2) in
    let b = k.consistent (lit 4) in
    let d = k.closed in
    let e = k.new.0 in
    let f = k.new.1 in
    grind (arith, nat_tests, a, b, d, e, f)
