-- The words of verdicts.
use Rattle.std.specs.Prelude.{ℕ, Bool, true, false, cond, ◌∷◌, Option, Some, None}
use Rattle.std.specs.Fmt.{decimal}
use Rattle.std.specs.Str.{bytes_eq}
use Rattle.cert_form.specs.Words.{Token}
use Rattle.cert_form.specs.declared.ending.Outcome.{Outcome}
use Rattle.cert_form.specs.declared.ending.Outcome.TheVariants as outcomes
use Rattle.cert_form.specs.Certificate as ends
use Rattle.cert_form.specs.Certificate.{Ending, EndWord, HoldsWord, FailsWord, UndecidedWord}
use Rattle.answers.specs.declared.verdict.Verdict.{Verdict}
use Rattle.answers.specs.declared.verdict.Verdict.TheVariants.{Holds, Fails, Undecided}

abbrev pub word_of_verdict : Verdict → EndWord
word_of_verdict Holds = HoldsWord
word_of_verdict Fails = FailsWord
word_of_verdict Undecided = UndecidedWord

-- the value that a token gives a variable
abbrev pub value_of : ℕ → Token → Option Bool
value_of v t = cond (bytes_eq t (decimal v)) (Some true) (cond (bytes_eq t (45 ∷ decimal v)) (Some false) None)

abbrev pub ending_of : Outcome → Ending
ending_of outcomes.Holds = ends.Holds
ending_of (outcomes.Fails m) = ends.Fails m
ending_of outcomes.Undecided = ends.Undecided
