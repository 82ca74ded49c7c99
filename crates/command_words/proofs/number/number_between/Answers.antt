use Rattle.std.proofs.Common.{arith, sym, ◌∙◌}
use Rattle.command_words.proofs.Spelling.{same_number}
use Rattle.command_words.proofs.number.number_between.Goals as goal

pub returns-then-number-low-clause-none : goal.returns-then-number-low-clause-none
returns-then-number-low-clause-none c n is =
    let same = same_number c.in_ok-number.number n (omega arith) (omega arith) (sym c.in_ok-number.ensures.found ∙ is.spelled) in
    let least = is.least in
    omega (arith, same, least)

pub returns-then-high-number-clause-none : goal.returns-then-high-number-clause-none
returns-then-high-number-clause-none c n is =
    let same = same_number c.in_ok-number.number n (omega arith) (omega arith) (sym c.in_ok-number.ensures.found ∙ is.spelled) in
    let most = is.most in
    omega (arith, same, most)
