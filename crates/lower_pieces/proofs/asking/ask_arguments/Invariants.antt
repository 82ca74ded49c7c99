use Rattle.std.proofs.Common.{◌≡◌, ◌+◌, ◌-◌, ◌<◌, ◌^◌, ◌++◌, drop}
use Rattle.std.specs.Prelude.{map}
use Rattle.chk_base.specs.Term.{term_of}
use Rattle.lower_law.specs.Items.{sites_all, terms_all, items_all}
use Rattle.lower_law.specs.Statements.{asked}
use Rattle.lower_pieces.specs.Joined.{joined, items_of, told}
use Rattle.lower_pieces.specs.Trees.{tree_of}
use Rattle.lower_pieces.specs.Within.{AllBelow}
use Rattle.lower_pieces.proofs.asking.ask_arguments.Given as goal

-- what is left of the arguments
abbrev pub invariant-loop-argument : goal.invariant-loop-argument
invariant-loop-argument l =
    (l.asked.evaluation.next + sites_all (asked (map tree_of (drop l.argument-index l.arguments))) < 2 ^ 16)
    × (AllBelow (2 ^ 16 - l.base) (asked (map tree_of (drop l.argument-index l.arguments))))
    × (l.asked.evaluation.tells ≡ l.tells)
    × (told l.tells (map joined (items_all l.base l.temp (asked (map tree_of l.arguments)))) ≡ items_of l.asked.evaluation.items.items ++ told l.tells (map joined (items_all l.base l.asked.evaluation.next (asked (map tree_of (drop l.argument-index l.arguments))))))
    × (terms_all l.base l.temp (asked (map tree_of l.arguments)) ≡ map term_of l.asked.terms.items ++ terms_all l.base l.asked.evaluation.next (asked (map tree_of (drop l.argument-index l.arguments))))
