-- Worked rows of truth, derived and learned lines, computed.
use Rattle.std.proofs.Common.{◌≡◌, ℕ, true, false, List, [], ◌∷◌, refl}
use Rattle.clause_form.specs.declared.lit.Lit.{Lit}
use Rattle.clause_form.specs.declared.line.Line.{Line}
use Rattle.clause_form.specs.Literals.{variable, is_positive, negation, rises_above, is_within, are_within}
use Rattle.clause_form.specs.ClauseTruth.{is_lit_true, is_clause_true, are_true, values_of}
use Rattle.clause_form.specs.DerivedLine.{is_derived, ends_empty}
use Rattle.clause_form.specs.LearnedLine.{IsConsistent, is_closed, IsLearned, IsSpent}

-- a literal by its code: 2v is the variable v, and 2v + 1 its negation
abbrev pub lit : ℕ → Lit
lit n = record { 0 = n }

abbrev pub line : List Lit → List ℕ → Line
line c h = record { clause = c; hints = h }

-- `1`, `-1 2` and the goal `-1 -2`
abbrev pub three : List (List Lit)
three = (lit 2 ∷ []) ∷ (lit 3 ∷ lit 4 ∷ []) ∷ (lit 3 ∷ lit 5 ∷ []) ∷ []

-- `1 2` and `-2 3`
abbrev pub chain : List (List Lit)
chain = (lit 2 ∷ lit 4 ∷ []) ∷ (lit 5 ∷ lit 6 ∷ []) ∷ []

-- `1 2`, `1 -2`, `-1 2` and `-1 -2`
abbrev pub four : List (List Lit)
four = (lit 2 ∷ lit 4 ∷ []) ∷ (lit 2 ∷ lit 5 ∷ []) ∷ (lit 3 ∷ lit 4 ∷ []) ∷ (lit 3 ∷ lit 5 ∷ []) ∷ []

-- ---- clauses and their truth
row_rises : rises_above 0 (lit 2 ∷ lit 5 ∷ lit 6 ∷ []) ≡ true
unfolding variable
row_rises = refl

-- a literal beside its negation doesn't rise
row_both_signs : rises_above 0 (lit 2 ∷ lit 3 ∷ []) ≡ false
unfolding variable
row_both_signs = refl

-- there is no variable 0
row_variable_none : rises_above 0 (lit 0 ∷ []) ≡ false
unfolding variable
row_variable_none = refl

row_formula : are_within 2 three ≡ true
unfolding variable
row_formula = refl

row_beyond : is_within 2 (lit 2 ∷ lit 6 ∷ []) ≡ false
unfolding variable
row_beyond = refl

-- 1 is true and 2 is false
row_true : is_clause_true (values_of (true ∷ false ∷ [])) (lit 3 ∷ lit 5 ∷ []) ≡ true
unfolding variable is_positive is_lit_true
row_true = refl

row_false : is_clause_true (values_of (true ∷ false ∷ [])) (lit 3 ∷ lit 4 ∷ []) ≡ false
unfolding variable is_positive is_lit_true
row_false = refl

-- of the three clauses one is false whatever the values are
row_no_model : are_true (values_of (true ∷ true ∷ [])) three ≡ false
unfolding variable is_positive is_lit_true
row_no_model = refl

row_chain_true : are_true (values_of (false ∷ true ∷ true ∷ [])) chain ≡ true
unfolding variable is_positive is_lit_true
row_chain_true = refl

-- ---- derived lines
row_derived : is_derived 2 three (line [] (1 ∷ 2 ∷ 3 ∷ [])) ≡ true
unfolding variable is_positive negation
row_derived = refl

row_hint_left_out : is_derived 2 three (line [] (1 ∷ 3 ∷ [])) ≡ false
unfolding variable is_positive negation
row_hint_left_out = refl

row_no_hints : is_derived 2 three (line [] []) ≡ false
unfolding variable is_positive negation
row_no_hints = refl

row_late_number : is_derived 2 three (line [] (1 ∷ 2 ∷ 4 ∷ [])) ≡ false
unfolding variable is_positive negation
row_late_number = refl

row_number_none : is_derived 2 three (line [] (0 ∷ 1 ∷ 2 ∷ 3 ∷ [])) ≡ false
unfolding variable is_positive negation
row_number_none = refl

-- a hint before the last one that leaves nothing
row_too_long : is_derived 2 three (line [] (1 ∷ 2 ∷ 3 ∷ 1 ∷ [])) ≡ false
unfolding variable is_positive negation
row_too_long = refl

-- a hint with two literals that aren't false
row_two_open : is_derived 2 three (line [] (2 ∷ 3 ∷ [])) ≡ false
unfolding variable is_positive negation
row_two_open = refl

-- the variable 3 is out of range
row_out_of_range : is_derived 2 three (line (lit 6 ∷ []) (1 ∷ 2 ∷ 3 ∷ [])) ≡ false
unfolding variable is_positive negation
row_out_of_range = refl

-- the line `1 3` is derived from the chain
row_chain : is_derived 3 chain (line (lit 2 ∷ lit 6 ∷ []) (1 ∷ 2 ∷ [])) ≡ true
unfolding variable is_positive negation
row_chain = refl

-- ---- closed sets and learned lines
-- a set in which 1 is false isn't closed without 3
row_not_closed : is_closed (lit 3 ∷ lit 4 ∷ []) chain ≡ false
unfolding is_positive negation
row_not_closed = refl

row_closed : is_closed (lit 3 ∷ lit 4 ∷ lit 6 ∷ []) chain ≡ true
unfolding is_positive negation
row_closed = refl

none_consistent : IsConsistent []
none_consistent = λ l h. refl

-- the empty set is closed over the four clauses, and leaves the one literal of the line `1` open
row_learned : IsLearned four (lit 2 ∷ [])
unfolding is_positive negation
row_learned = record { set = []; consistent = none_consistent; closed = refl; new = (refl, refl) }

-- so that one line spends a budget of 1
row_spent : IsSpent 2 four (line (lit 2 ∷ []) (1 ∷ 2 ∷ []) ∷ []) 1
unfolding variable is_positive negation
row_spent = record { count = refl; not_empty = refl; derived = (refl, tt); learned = ((λ _. row_learned), tt) }

-- the empty line ends a log, and stands nowhere else in it
row_ends : ends_empty (line (lit 2 ∷ []) (1 ∷ 2 ∷ []) ∷ line [] (5 ∷ 3 ∷ 4 ∷ []) ∷ []) ≡ true
row_ends = refl

row_ends_early : ends_empty (line [] (1 ∷ []) ∷ line (lit 2 ∷ []) (1 ∷ 2 ∷ []) ∷ []) ≡ false
row_ends_early = refl
