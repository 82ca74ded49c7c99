use Rattle.std.proofs.Common.{◌≡◌, drop}
use Rattle.unit_counts.specs.Tallies.{with_things}
use Rattle.unit_counts.proofs.tally.with_things.Given as goal

-- what is left of the things
abbrev pub invariant-loop-thing : goal.invariant-loop-thing
invariant-loop-thing l = with_things l.calls l.initial.tally l.things ≡ with_things l.calls l.tally (drop l.thing-index l.things)
