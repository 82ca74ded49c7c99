use Rattle.std.proofs.Common.{◌≡◌, ℕ, List, ◌++◌, Some, None, refl, ap, ◌∙◌, append_assoc, codes, decimal, arith}
use Rattle.std.specs.List.{slice_get}
use Rattle.cert_text.proofs.Streaming.{all_put, get_past, put_on}
use Rattle.cert_text.proofs.tokens.put_hints.Goals as goal
use Rattle.cert_text.specs.Parts.{spaced_number}

pub loop-at-preserved : goal.loop-at-preserved
loop-at-preserved c =
    let e : slice_get c.args.hints.now c.loop-at.at ≡ Some c.in-Some.hint.now = cc (c.in-Some.ensures) in
    put_on spaced_number c.args.hints.now _ c.loop-at.out _ c.loop-at.at c.in-Some.hint.now e
    (c.in_ok-append.ensures.ok ∙ ap (λ (t : List ℕ). t ++ codes " ") c.in_ok-put_number.ensures ∙ append_assoc c.loop-at.out (decimal c.in-Some.hint.now) (codes " "))
    c.loop-at.invariant

pub returns-in_default : goal.returns-in_default
returns-in_default c =
    let e : slice_get c.args.hints.now c.loop-at.at ≡ None = cc (c.in_default.ensures) in
    all_put spaced_number c.args.hints.now _ c.loop-at.out c.loop-at.at e c.loop-at.invariant

pub returns : goal.returns
returns c = all_put spaced_number c.args.hints.now _ c.loop-at.out c.loop-at.at (get_past c.args.hints.now c.loop-at.at (omega arith)) c.loop-at.invariant
