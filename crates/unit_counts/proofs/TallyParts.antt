-- The counts of bodies, part by part.
use Rattle.std.proofs.Common.{◌≡◌, ℕ, ◌+◌, ◌<◌, List, length, get_or, drop, ap, ◌∙◌}
use Rattle.std.proofs.lemmas.List.{drop_more}
use Rattle.chk_base.specs.Widths.{bits_of}
use Rattle.typed_unit.specs.declared.typed.Local.{Local}
use Rattle.lower_law.specs.Counts.{saturated, local_bits, sum_of}
use Rattle.unit_counts.specs.declared.things.ThingSize.{ThingSize}
use Rattle.unit_counts.specs.declared.tally.Tally.{Tally}
use Rattle.unit_counts.specs.Tallies.{with_thing, with_things}
use Rattle.unit_counts.proofs.Saturation.{next_sum}

-- one more local
pub local_more : (sum : ℕ) (ls : List Local) (i : ℕ) (d : Local) → i < length ls
    → saturated (sum + local_bits (drop i ls)) ≡ saturated (saturated (sum + bits_of (get_or ls i d).ctype.width) + local_bits (drop (i + 1) ls))
local_more sum ls i d within =
    ap (λ xs. saturated (sum + local_bits xs)) (drop_more ls i d within)
    ∙ next_sum sum (bits_of (get_or ls i d).ctype.width) (local_bits (drop (i + 1) ls))

-- one more thing
pub thing_more : (calls : List Tally) (t : Tally) (xs : List ThingSize) (i : ℕ) (d : ThingSize) → i < length xs
    → with_things calls t (drop i xs) ≡ with_things calls (with_thing calls t (get_or xs i d)) (drop (i + 1) xs)
thing_more calls t xs i d within = ap (with_things calls t) (drop_more xs i d within)

-- one more number
pub sum_next : (count : Tally → ℕ) (sum : ℕ) (ts : List Tally) (i : ℕ) (d : Tally) → i < length ts
    → saturated (sum + sum_of count (drop i ts)) ≡ saturated (saturated (sum + count (get_or ts i d)) + sum_of count (drop (i + 1) ts))
sum_next count sum ts i d within =
    ap (λ xs. saturated (sum + sum_of count xs)) (drop_more ts i d within)
    ∙ next_sum sum (count (get_or ts i d)) (sum_of count (drop (i + 1) ts))
