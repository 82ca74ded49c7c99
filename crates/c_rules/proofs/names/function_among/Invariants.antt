use Rattle.std.proofs.Common.{◌≡◌, drop, map}
use Rattle.c_rules.specs.Files.{function_named}
use Rattle.c_rules.proofs.names.function_among.Given as goal

-- it is none of the functions so far
abbrev pub invariant-loop-f : goal.invariant-loop-f
invariant-loop-f l =
    function_named (map (λ f. f.now) l.functions) l.name ≡ function_named (map (λ f. f.now) (drop l.f-index l.functions)) l.name
