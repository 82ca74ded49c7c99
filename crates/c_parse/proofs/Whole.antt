-- What reading all externals says of the whole text, by the written grammar.
use Rattle.std.proofs.Common.{◌≡◌, ◌<◌, List, [], ◌∷◌, length, refl, ◌∙◌, arith}
use Rattle.grammar.specs.Grammar.{Rule, Tree, IsSentence}
use Rattle.grammar.specs.Reading.{Got, Stuck, reading}
use Rattle.grammar.specs.FirstFault.{IsFirstFault, IsCutOff, IsReadAs}
use Rattle.grammar.proofs.Laws.{fault, trailing, cut_off, read_as}
use Rattle.c_lex.specs.PlainTokens.{PlainTokens}
use Rattle.c_lex.specs.declared.token.Token.{Token}
use Rattle.c_grammar.specs.Symbols.{class_of}
use Rattle.c_grammar.specs.Next.{lookahead}
use Rattle.c_grammar.specs.Factored.{factored, factored_unit}
use Rattle.c_grammar.specs.Trees.{written_tree}
use Rattle.c_grammar.specs.Written.{written, unit}
use Rattle.c_grammar.proofs.Agree
use Rattle.c_grammar.proofs.Decides.{decides}
use Rattle.c_unit.specs.declared.unit.External.{External}
use Rattle.c_parse.specs.Depth.{IsShallow}
use Rattle.c_parse.specs.Parsed.{IsUnit, Refuses, fault_at}
use Rattle.c_expression.specs.Reads.{reads, tree_at, written_at}
use Rattle.c_parse.specs.Units.{externals_of}
use Rattle.c_parse.proofs.Lows.{externals_low}
use Rattle.c_expression.proofs.Opened.{many_opened}
use Rattle.c_grammar.specs.Factored.{TheExternal}

-- the first fault, a text that is cut off and a value by the factored grammar are those by the written one
fault_so : (ts : List Token) (bad : Token) (rest : List Token) → IsFirstFault (IsSentence (factored class_of) factored_unit) ts bad rest → IsFirstFault IsUnit ts bad rest
fault_so ts bad rest h = Agree.fault (IsSentence (factored class_of) factored_unit) IsUnit (Agree.to_written class_of) (Agree.to_factored class_of) ts bad rest h

cut_so : (ts : List Token) → IsCutOff (IsSentence (factored class_of) factored_unit) ts → IsCutOff IsUnit ts
cut_so ts h = Agree.cut_off (IsSentence (factored class_of) factored_unit) IsUnit (Agree.to_written class_of) (Agree.to_factored class_of) ts h

stuck_at : (ts : List Token) (bad : Token) (rest : List Token) → reading lookahead factored_unit ts ≡ Stuck (bad ∷ rest) → IsFirstFault IsUnit ts bad rest
unfolding lookahead
stuck_at ts bad rest e = fault_so ts bad rest (fault lookahead decides factored_unit externals_low ts bad rest e)

left_at : (ts : List Token) (x : Tree Token) (bad : Token) (rest : List Token) → reading lookahead factored_unit ts ≡ Got x (bad ∷ rest) → IsFirstFault IsUnit ts bad rest
unfolding lookahead
left_at ts x bad rest e = fault_so ts bad rest (trailing lookahead decides factored_unit externals_low ts x bad rest e)

cut_at : (ts : List Token) → reading lookahead factored_unit ts ≡ Stuck [] → IsCutOff IsUnit ts
unfolding lookahead
cut_at ts e = cut_so ts (cut_off lookahead decides factored_unit externals_low ts e)

whole_at : (ts : List Token) (x : Tree Token) (value : List External) → reading lookahead factored_unit ts ≡ Got x [] → externals_of (written_tree factored_unit x) ≡ value → IsReadAs (written class_of) unit externals_of ts value
unfolding lookahead
whole_at ts x value e m = Agree.means class_of externals_of ts value (read_as lookahead decides factored_unit externals_low (λ t. externals_of (written_tree factored_unit t)) ts x value e m)

all_opened : (ts : List Token) → reading lookahead factored_unit ts ≡ reads factored_unit ts
all_opened ts = many_opened (Rule TheExternal) externals_low ts

-- ---- as the reader of all externals answers

pub stopped : (tokens : PlainTokens) (rest : List Token) → IsShallow tokens.items → reads factored_unit tokens.items ≡ Stuck rest → Refuses tokens (fault_at tokens rest)
stopped tokens [] shallow e = (shallow, cut_at tokens.items (all_opened tokens.items ∙ e), refl)
stopped tokens (bad ∷ rest) shallow e = (shallow, (bad, rest, refl, stuck_at tokens.items bad rest (all_opened tokens.items ∙ e)))

pub left_over : (tokens : PlainTokens) (rest : List Token) → IsShallow tokens.items → reads factored_unit tokens.items ≡ Got (tree_at factored_unit tokens.items) rest → 0 < length rest → Refuses tokens (fault_at tokens rest)
left_over tokens [] shallow e h = absurd (omega arith)
left_over tokens (bad ∷ rest) shallow e h = (shallow, (bad, rest, refl, left_at tokens.items (tree_at factored_unit tokens.items) bad rest (all_opened tokens.items ∙ e)))

pub whole : (tokens : PlainTokens) (rest : List Token) (value : List External) → reads factored_unit tokens.items ≡ Got (tree_at factored_unit tokens.items) rest → externals_of (written_at factored_unit tokens.items) ≡ value → length rest ≡ 0 → IsReadAs (written class_of) unit externals_of tokens.items value
whole tokens [] value e m h = whole_at tokens.items (tree_at factored_unit tokens.items) value (all_opened tokens.items ∙ e) m
whole tokens (bad ∷ rest) value e m h = absurd (omega arith)
