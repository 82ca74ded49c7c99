-- The bounds of a run that words ask for.
use Rattle.std.proofs.Common.{◌≡◌, ℕ, ◌≤◌, ◌^◌, List, Option, Some, None, arith}
use Rattle.std.specs.Prelude.{codes}
use Rattle.clap.specs.Words.{Row, first_of}
use Rattle.command_words.specs.Asked.{AreBounds, IsAsked, IsBudget, IsNumber}
use Rattle.command_words.specs.declared.asked.Asked.{Asked}
use Rattle.command_words.specs.declared.asked.Asked.TheVariants as asked
use Rattle.oschk_cmd.specs.Answers.{HasBounds}
use Rattle.oschk_cmd.specs.Runs.{IsBounded}

-- a number that is spelled is between its bounds
least : (low high : ℕ) (text : Option (List ℕ)) (n : ℕ) → IsNumber low high text n → low ≤ n
least low high None n is = absurd is
least low high (Some text) n is = is.least

most : (low high : ℕ) (text : Option (List ℕ)) (n : ℕ) → IsNumber low high text n → n ≤ high
most low high None n is = absurd is
most low high (Some text) n is = is.most

-- a budget is no more than 10^12, also the usual one
budget_most : (text : Option (List ℕ)) (n : ℕ) → IsBudget text n → n ≤ 10 ^ 12
budget_most None n is = let usual : n ≡ 1000000 = is in omega (arith, usual)
budget_most (Some text) n is = is.most

-- the bounds of a run are within theirs
bounded : (rows : List Row) (turns arrivals budget : ℕ) → AreBounds rows turns arrivals budget → IsBounded turns budget
bounded rows turns arrivals budget are =
    record {
      least = least 1 512 (first_of (codes "turns") rows) turns are.turns_is;
      most = most 1 512 (first_of (codes "turns") rows) turns are.turns_is;
      budget_most = budget_most (first_of (codes "budget") rows) budget are.budget_is;
    }

-- what words ask for has the bounds of a run, where it has any
pub has_bounds : (words : List (List ℕ)) (what : Asked) → IsAsked words what → HasBounds what
has_bounds words (asked.Run run) is = bounded _ run.turns run.arrivals run.budget is.is.bounds
has_bounds words (asked.Make make) is = bounded _ make.turns make.arrivals make.budget is.is.bounds
has_bounds words (asked.Show show) is = tt
has_bounds words (asked.Replay replay) is = tt
has_bounds words (asked.Check cert) is = tt
