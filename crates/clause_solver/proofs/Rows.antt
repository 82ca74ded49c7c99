-- Worked rows of the answers of a search and of the levels of a trail, computed.
use Rattle.std.proofs.Common.{◌≡◌, true, false, None, Some, Ok, Err, List, [], ◌∷◌, refl, arith}
use Rattle.clause_form.specs.Literals.{variable, is_positive, negation}
use Rattle.clause_form.specs.ClauseTruth.{is_lit_true}
use Rattle.clause_form.proofs.Rows.{lit, line, four}
use Rattle.clause_solver.specs.declared.trail.Entry.{Entry}
use Rattle.clause_solver.specs.declared.answer.Answer.TheVariants.{Model, Refuted, Spent}
use Rattle.clause_solver.specs.declared.answer.SolveFault.TheVariants.{KeepFailed}
use Rattle.clause_solver.specs.Answer.{EndsAs, IsAnswer, IsLog}
use Rattle.clause_solver.specs.Learning.{greatest_level}
use Rattle.clause_solver.specs.Trail.{decisions, level_of, lits_of, up_to}

-- 1 is true and 2 is false: a model of the clause `1 2`
row_model : IsAnswer 2 ((lit 2 ∷ lit 4 ∷ []) ∷ []) (Model (true ∷ false ∷ []))
unfolding variable is_positive is_lit_true
row_model = (refl, refl)

-- the four clauses: the line `1`, and then the empty line
row_log : IsLog 2 four 2 (line (lit 2 ∷ []) (1 ∷ 2 ∷ []) ∷ line [] (5 ∷ 3 ∷ 4 ∷ []) ∷ [])
unfolding variable is_positive negation
row_log = record { derived = (refl, (refl, tt)); learned = ((λ _. record { set = []; consistent = λ l h. refl; closed = refl; new = (refl, refl) }), ((λ e. absurd (cc)), tt)); few = omega arith }

row_refuted : EndsAs (Ok Refuted) (line (lit 2 ∷ []) (1 ∷ 2 ∷ []) ∷ line [] (5 ∷ 3 ∷ 4 ∷ []) ∷ [])
row_refuted = refl

-- a fault that comes before the empty line leaves none
row_fault : EndsAs (Err KeepFailed) (line (lit 2 ∷ []) (1 ∷ 2 ∷ []) ∷ [])
row_fault = refl

row_spent : EndsAs (Ok Spent) []
row_spent = refl

-- 1 was decided, the clause of number 3 set -2 after it, and then 3 was decided
abbrev trail : List Entry
trail = record { lit = lit 6; reason = None } ∷ record { lit = lit 5; reason = Some 3 } ∷ record { lit = lit 2; reason = None } ∷ []

row_decisions : decisions trail ≡ 2
row_decisions = refl

row_level : level_of trail (lit 5) ≡ Some 1
row_level = refl

row_up_to : lits_of (up_to 1 trail) ≡ lit 5 ∷ lit 2 ∷ []
row_up_to = refl

-- without the literal of level 2 the line `-1 2 -3` has level 1 as its greatest
row_second_level : greatest_level (up_to 1 trail) (lit 3 ∷ lit 4 ∷ lit 7 ∷ []) ≡ 1
unfolding is_positive negation
row_second_level = refl

-- a line of one literal leads to level zero
row_level_zero : greatest_level (up_to 1 trail) (lit 7 ∷ []) ≡ 0
unfolding is_positive negation
row_level_zero = refl
