-- A part of the grammar is read as its rule says.
use Rattle.std.proofs.Common.{◌≡◌, ℕ, List, refl}
use Rattle.grammar.specs.Grammar.{Expression, Rule, Node}
use Rattle.grammar.specs.Reading.{map_got, reading, the_tree}
use Rattle.grammar.proofs.Turns.{rule_turn}
use Rattle.oil_text.specs.declared.token.Token.{Token}
use Rattle.oil_text.specs.OilGrammar.{Part, File, Version, Implementation, Cpu, Object, Attribute, Value, rule}
use Rattle.oil_text.specs.OilLookahead.{lookahead}
use Rattle.oil_text.specs.OilReading.{reads, tree_at}
use Rattle.oil_text.proofs.Decides.{decides}

pub tree_at_is : (e : Expression Part) (tokens : List Token) → tree_at e tokens ≡ the_tree (reads e tokens)
unfolding tree_at
tree_at_is e tokens = refl

pub opened : (part : Part) (tokens : List Token) → reading lookahead (Rule part) tokens ≡ map_got Node (reads (rule part) tokens)
unfolding lookahead
opened part tokens = rule_turn lookahead decides part tokens

pub value_opened : (tokens : List Token) → reading lookahead (Rule Value) tokens ≡ map_got Node (reads (rule Value) tokens)
value_opened tokens = opened Value tokens

pub attribute_opened : (below : ℕ) (tokens : List Token) → reading lookahead (Rule (Attribute below)) tokens ≡ map_got Node (reads (rule (Attribute below)) tokens)
attribute_opened below tokens = opened (Attribute below) tokens

pub object_opened : (tokens : List Token) → reading lookahead (Rule Object) tokens ≡ map_got Node (reads (rule Object) tokens)
object_opened tokens = opened Object tokens

pub version_opened : (tokens : List Token) → reading lookahead (Rule Version) tokens ≡ map_got Node (reads (rule Version) tokens)
version_opened tokens = opened Version tokens

pub implementation_opened : (tokens : List Token) → reading lookahead (Rule Implementation) tokens ≡ map_got Node (reads (rule Implementation) tokens)
implementation_opened tokens = opened Implementation tokens

pub cpu_opened : (tokens : List Token) → reading lookahead (Rule Cpu) tokens ≡ map_got Node (reads (rule Cpu) tokens)
cpu_opened tokens = opened Cpu tokens

pub file_opened : (tokens : List Token) → reading lookahead (Rule File) tokens ≡ map_got Node (reads (rule File) tokens)
file_opened tokens = opened File tokens
