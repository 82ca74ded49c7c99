-- What the regrouped tree of an expression means.
use Rattle.std.proofs.Common.{◌≡◌, Bool, false, ◌∷◌, map, refl, ap}
use Rattle.grammar.specs.Grammar.{Tree, Leaf, Pair, Left, Right, Node, items}
use Rattle.c_lex.specs.declared.token.Token.{Token}
use Rattle.c_lex.specs.declared.token.TokenKind.{TokenKind}
use Rattle.c_lex.specs.declared.token.TokenKind.TheVariants as token_kinds
use Rattle.c_grammar.specs.Factored.{TheExternal}
use Rattle.c_grammar.specs.Trees.{written_change, written_variable, written_variables, written_tail, written_else, as_written}
use Rattle.c_unit.specs.declared.expression.TypeName.{TypeName}
use Rattle.c_unit.specs.declared.unit.Constant.TheVariants as constants
use Rattle.c_unit.specs.declared.unit.External.TheVariants as external
use Rattle.c_expression.specs.Lexemes.{name_of, number_of, place_at, type_of, has_const}
use Rattle.c_parse.specs.Statements.{simple_of, change_of, statement_of, statements_of}
use Rattle.c_parse.specs.Units.{constant_of, sign_at, signed_by, variable_of, initial_of, more_of, variables_of, after_name, external_of, defined_of}

number_place : (x : Tree Token) → place_at x ≡ (number_of x).place
number_place (Leaf t) = by_kind t.kind refl
  where
    by_kind : (k : TokenKind) → t.kind ≡ k → t.place ≡ (number_of (Leaf t)).place
    by_kind (token_kinds.Number bits unsigned) e = rw e refl
    by_kind token_kinds.Name e = rw e refl
    by_kind token_kinds.Word e = rw e refl
    by_kind token_kinds.Mark e = rw e refl
number_place _ = refl

pub signed_meant : (s n : Tree Token) → constant_of (Left (Pair s n)) ≡ signed_by (sign_at s) (number_of n)
signed_meant (Left m) n = refl
signed_meant _ n = ap (λ place. constants.Number place false (number_of n)) (number_place n)

pub change_meant : (n c : Tree Token) → simple_of (Node (written_change n c)) ≡ change_of (name_of n) c
change_meant n (Left x) = refl
change_meant n (Right (Left x)) = refl
change_meant n (Right (Right (Left x))) = refl
change_meant n (Right (Right (Right (Left x)))) = refl
change_meant n (Right (Right (Right (Right (Left x))))) = refl
change_meant n (Right (Right (Right (Right (Right x))))) = refl
change_meant n _ = refl

pub variable_meant : (n i : Tree Token) → variable_of (Node (written_variable n i)) ≡ initial_of (name_of n) i
variable_meant n (Left x) = refl
variable_meant n (Right (Left x)) = refl
variable_meant n (Right (Right x)) = refl
variable_meant n _ = refl

pub tail_meant : (m z : Tree Token) → more_of (written_tail m z) ≡ more_of (written_else m)
tail_meant (Left (Pair m f)) z = refl
tail_meant _ z = refl

variables_meant : (c : Bool) (t : TypeName) (n v : Tree Token) → variables_of c t (written_variables n v) ≡ after_name c t (name_of n) v
variables_meant c t n (Pair i (Pair vs s)) = rw (variable_meant n i) refl
variables_meant c t n (Pair i _) = refl
variables_meant c t n _ = refl

pub defined_meant : (q d : Tree Token) → external_of (as_written TheExternal (Right (Right (Pair q d)))) ≡ defined_of (has_const q) d
defined_meant q (Left (Pair v (Pair n f))) = refl
defined_meant q (Right (Pair t (Pair n (Left f)))) = refl
defined_meant q (Right (Pair t (Pair n (Right v)))) = ap (λ xs. external.Variables xs) (variables_meant (has_const q) (type_of t) n v)
defined_meant q _ = refl

pub statements_mapped : (m : Tree Token) → statements_of m ≡ map statement_of (items m)
statements_mapped (Pair x y) = ap (λ xs. statement_of x ∷ xs) (statements_mapped y)
statements_mapped _ = refl
