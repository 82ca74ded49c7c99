use Rattle.std.proofs.Common.{◌≡◌, ℕ, ◌+◌, ◌∷◌, [], ◌++◌, List, take, get_or}
use Rattle.std.proofs.lemmas.List.{take_more}
use Rattle.c_lex.proofs.Values.{capped_more}
use Rattle.c_lex.proofs.number.value.Goals as goal

pub loop-digit-preserved : goal.loop-digit-preserved
loop-digit-preserved c =
    let digits = c.args.digits.now in
    let i = c.loop-digit.digit-index in
    rw (take_more digits i 0 c.loop-digit-test.true, c.min-value.ensures, c.shifted.ensures.value, c.digit_value.ensures.value) (capped_more c.args.base c.loop-digit.value (take i digits) (get_or digits i 0) c.loop-digit.invariant)
