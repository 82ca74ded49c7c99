use Rattle.std.proofs.Common.{pos, w64, ap, ◌∙◌}
use Rattle.std.specs.Int.Signed.{lt_z}
use Rattle.std.proofs.lemmas.Int.{to_z-of_z}
use Rattle.replay.proofs.Numbers.{IsReadBy, negative, no_word}
use Rattle.replay.proofs.value.word_in.Goals as goal
use Rattle.replay.proofs.value.word_in.Goals.{in-Some, in-None}

pub returns-clause-none : goal.returns-clause-none
returns-clause-none c =
    let number = c.in_ok-number.number in
    let small = c.in_ok-number.ensures.found.1 in
    let whole = to_z-of_z w64 number (record { sfits = small }) in
    let by : IsReadBy c.args.input number c.match-input.of = elim c.match-input.branch [ in-Some w ↦ rw w.in-Some.is w.of-is | in-None w ↦ rw w.in-None.is (ap (λ v. v.width) w.of-is, ap (λ v. v.signed) w.of-is ∙ (ap (λ z. lt_z z (pos 0)) whole ∙ negative number)) ] in
    no_word c.args.input c.args.digits.now number c.match-input.of c.word_of.result small c.in_ok-number.ensures.found.0 by (rw whole at c.word_of.ensures.none)
