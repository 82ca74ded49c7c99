-- What the tree of a for means, part by part.
use Rattle.std.proofs.Common.{◌≡◌, Option, List, refl}
use Rattle.grammar.specs.Grammar.{Rule, optional}
use Rattle.grammar.specs.Reading.{Got}
use Rattle.chk_base.specs.declared.place.Place.{Place}
use Rattle.c_lex.specs.declared.token.Token.{Token}
use Rattle.c_grammar.specs.declared.symbol.Symbol.TheVariants.{For, LeftParenthesis, RightParenthesis, Semicolon}
use Rattle.c_grammar.specs.Factored.{TheBlock, TheExpression, TheFor, TheSimple}
use Rattle.c_grammar.specs.Written.{spelled}
use Rattle.c_expression.specs.Lexemes.{place_at}
use Rattle.c_expression.specs.Reads.{reads, tree_at, written_at}
use Rattle.c_unit.specs.declared.expression.Expression.{Expression}
use Rattle.c_expression.proofs.Opened.{tree_at_is}
use Rattle.c_unit.specs.declared.statement.Simple.{Simple}
use Rattle.c_unit.specs.declared.statement.Start.{Start}
use Rattle.c_unit.specs.declared.statement.Statement.{Statement}
use Rattle.c_unit.specs.declared.statement.Statement.TheVariants as s
use Rattle.c_parse.specs.Statements.{block_of, expression_if, for_of, simple_if, start_of}
use Rattle.c_parse.proofs.Choices.{either}
use Rattle.c_parse.proofs.Opened.{for_opened}

pub for_means : (ts r1 r2 r3 r4 r5 r6 r7 r8 r9 : List Token) (place : Place) (start : Option Start) (condition : Option Expression) (step : Option Simple) (block : List Statement) → reads (spelled For) ts ≡ Got (tree_at (spelled For) ts) r1 → reads (spelled LeftParenthesis) r1 ≡ Got (tree_at (spelled LeftParenthesis) r1) r2 → reads either r2 ≡ Got (tree_at either r2) r3 → reads (spelled Semicolon) r3 ≡ Got (tree_at (spelled Semicolon) r3) r4 → reads (optional (Rule TheExpression)) r4 ≡ Got (tree_at (optional (Rule TheExpression)) r4) r5 → reads (spelled Semicolon) r5 ≡ Got (tree_at (spelled Semicolon) r5) r6 → reads (optional (Rule TheSimple)) r6 ≡ Got (tree_at (optional (Rule TheSimple)) r6) r7 → reads (spelled RightParenthesis) r7 ≡ Got (tree_at (spelled RightParenthesis) r7) r8 → reads (Rule TheBlock) r8 ≡ Got (tree_at (Rule TheBlock) r8) r9 → place_at (written_at (spelled For) ts) ≡ place → start_of (written_at either r2) ≡ start → expression_if (written_at (optional (Rule TheExpression)) r4) ≡ condition → simple_if (written_at (optional (Rule TheSimple)) r6) ≡ step → block_of (written_at (Rule TheBlock) r8) ≡ block → for_of (written_at (Rule TheFor) ts) ≡ s.For place start condition step block
for_means ts r1 r2 r3 r4 r5 r6 r7 r8 r9 place start condition step block g1 g2 g3 g4 g5 g6 g7 g8 g9 m1 m3 m5 m7 m9 =
    rw (tree_at_is (Rule TheFor) ts, for_opened ts, g1, g2, g3, g4, g5, g6, g7, g8, g9) (rw (m1, m3, m5, m7, m9) refl)
