-- One of two that may be left out, read as the second.
use Rattle.std.proofs.Common.{◌≡◌, ℕ, true, false, ◌||◌, Some, List, [], ◌∷◌, ◌++◌, refl, ap, ◌∙◌}
use Rattle.grammar.specs.Grammar.{Expression, Rule, Left, Right, optional, ◌∣◌}
use Rattle.grammar.specs.Reading.{Got, begins}
use Rattle.grammar.proofs.Sets.{has-append}
use Rattle.c_lex.specs.declared.token.Token.{Token}
use Rattle.c_grammar.specs.Factored.{Part, TheLocal, TheSimple}
use Rattle.c_grammar.specs.Next.{local_firsts, simple_firsts}
use Rattle.c_grammar.specs.Trees.{written_tree}
use Rattle.c_expression.specs.Reads.{class_at, reads, tree_at, written_at}
use Rattle.c_expression.proofs.Lists.{got_at}
use Rattle.c_unit.specs.declared.statement.Simple.{Simple}
use Rattle.c_unit.specs.declared.statement.Start.TheVariants as starts
use Rattle.c_parse.specs.Statements.{simple_of, start_of}

abbrev pub either : Expression Part
either = optional (Rule TheLocal ∣ Rule TheSimple)

begins_both : (xs ys : List ℕ) (ts : List Token) → begins class_at (xs ++ ys) ts ≡ (begins class_at xs ts || begins class_at ys ts)
begins_both xs ys [] = refl
begins_both xs ys (t ∷ ts) = has-append xs ys (class_at t)

begins_either : (ts : List Token) → begins class_at local_firsts ts ≡ false → begins class_at simple_firsts ts ≡ true → begins class_at (local_firsts ++ simple_firsts) ts ≡ true
begins_either ts a b = begins_both local_firsts simple_firsts ts ∙ rw (a, b) refl

simple_read : (ts r : List Token) → begins class_at local_firsts ts ≡ false → begins class_at simple_firsts ts ≡ true → reads (Rule TheSimple) ts ≡ Got (tree_at (Rule TheSimple) ts) r → reads either ts ≡ Got (Left (Right (tree_at (Rule TheSimple) ts))) r
simple_read ts r a b h = rw (begins_either ts a b, a, h) refl

pub simple_means : (ts r : List Token) (value : Simple) → begins class_at local_firsts ts ≡ false → begins class_at simple_firsts ts ≡ true → reads (Rule TheSimple) ts ≡ Got (tree_at (Rule TheSimple) ts) r → simple_of (written_at (Rule TheSimple) ts) ≡ value → start_of (written_at either ts) ≡ Some (starts.Simple value)
simple_means ts r value a b h m =
    ap (λ x. start_of (written_tree either x)) (got_at either ts (Left (Right (tree_at (Rule TheSimple) ts))) r (simple_read ts r a b h))
    ∙ ap (λ s. Some (starts.Simple s)) m
