use Rattle.std.proofs.Common.{◌+◌, map, ap, ◌∙◌}
use Rattle.typed_unit.specs.Views.{unit_of}
use Rattle.lower_law.specs.Counts.{call_depth, global_bits, saturated, sum_of}
use Rattle.unit_counts.specs.Tallies.{function_size, tallies_to}
use Rattle.unit_counts.proofs.UnitParts.{bits_sum}
use Rattle.unit_counts.proofs.counts.counts_of.Goals as goal

pub entity_tallies-requires : goal.entity_tallies-requires
entity_tallies-requires c =
    c.as_slice-3.ensures
    ∙ (c.in_ok-calls.ensures
    ∙ ap (λ sizes. tallies_to sizes call_depth) (c.as_slice-2.ensures ∙ (c.in_ok-sizes.ensures ∙ ap (map function_size) c.as_slice.ensures)))

pub returns-clause-bits : goal.returns-clause-bits
returns-clause-bits c =
    c.plus.ensures
    ∙ (ap (λ n. saturated (n + c.total-sum.result.bits)) (c.globals_bits.ensures ∙ ap (λ gs. saturated (sum_of global_bits gs)) c.as_slice-5.ensures)
    ∙ (ap (λ n. saturated (saturated (sum_of global_bits c.args.unit.now.globals) + n)) (c.total-sum.ensures.bits ∙ ap (λ ts. saturated (sum_of (λ t. t.bits) ts)) (c.as_slice-4.ensures ∙ c.in_ok-entities.ensures))
    ∙ bits_sum (unit_of c.args.unit.now) c.args.entities))
