-- A buffer that keeps only the first bytes.
use Rattle.std.proofs.Common.{◌≡◌, ℕ, ◌+◌, ◌-◌, ◌≤◌, min, List, ◌++◌, length, take, sym, ◌∙◌, ap, arith}
use Rattle.std.proofs.lemmas.List.{take_min}
use Rattle.std.proofs.Math.Seq.{take-append-add}

-- what a buffer with so much room holds after a piece
pub kept_first : (room : ℕ) (kept piece : List ℕ) (at taken : ℕ) → at ≡ length kept → at ≤ room → taken ≡ min (length piece) (room - at)
    → kept ++ take taken piece ≡ take room (kept ++ piece)
kept_first room kept piece at taken all within is =
    let whole : length kept + (room - at) ≡ room = omega arith in
    let least : taken ≡ min (room - at) (length piece) = omega arith in
    ap (λ (n : ℕ). kept ++ take n piece) least
    ∙ ap (λ (xs : List ℕ). kept ++ xs) (take_min (room - at) piece)
    ∙ sym (take-append-add kept piece (room - at))
    ∙ ap (λ (n : ℕ). take n (kept ++ piece)) whole
