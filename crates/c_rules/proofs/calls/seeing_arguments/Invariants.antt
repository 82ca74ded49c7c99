use Rattle.std.proofs.Common.{◌≡◌, take}
use Rattle.std.specs.List.{flat_map}
use Rattle.c_rules.specs.First.{first_of}
use Rattle.c_rules.specs.Files.{meaning}
use Rattle.c_rules.specs.Rules.{argument_faults}
use Rattle.c_rules.proofs.calls.seeing_arguments.Given as goal

-- the faults of the arguments so far are seen
abbrev pub invariant-loop-argument : goal.invariant-loop-argument
invariant-loop-argument l =
    l.first.fault ≡ first_of l.initial.first.fault (flat_map (argument_faults l.called (meaning l.names l.scope.visible)) (take l.argument-index l.arguments))
