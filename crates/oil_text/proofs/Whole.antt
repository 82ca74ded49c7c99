-- What reading a file says of the whole text.
use Rattle.std.proofs.Common.{◌≡◌, ℕ, true, List, [], ◌∷◌, length, take, refl, arith}
use Rattle.std.proofs.Math.Seq.{take-length}
use Rattle.grammar.specs.Grammar.{Rule}
use Rattle.grammar.specs.Lookahead.{next_decides}
use Rattle.grammar.specs.Reading.{Got, Stuck, reading}
use Rattle.grammar.proofs.Laws.{fault, trailing, cut_off, read_as}
use Rattle.chk_base.specs.Places.{place_after}
use Rattle.oil_text.specs.declared.token.Token.{Token}
use Rattle.oil_tree.specs.declared.tree.OilTree.{OilTree}
use Rattle.oil_text.specs.declared.fault.OilFault.{OilFault}
use Rattle.oil_text.specs.declared.fault.OilFault.TheVariants as faults
use Rattle.oil_text.specs.OilTokens.{AreTokensOf}
use Rattle.oil_text.specs.OilGrammar.{File}
use Rattle.oil_text.specs.OilLookahead.{lookahead}
use Rattle.oil_text.specs.OilMeaning.{tree_of}
use Rattle.oil_text.specs.OilReading.{tree_at}
use Rattle.oil_text.specs.OilText.{IsOilText, IsRefusedFor, fault_at}
use Rattle.oil_text.specs.Refusals.{RefusesBytes}
use Rattle.oil_text.proofs.Decides.{decides}

pub end_place : (text : List ℕ) → place_after (take (length text) text) ≡ place_after text
end_place text = rw take-length refl

pub file_decides : next_decides lookahead (Rule File) ≡ true
unfolding lookahead
file_decides = refl

pub stopped : (text : List ℕ) (tokens rest : List Token) → AreTokensOf text tokens → reading lookahead (Rule File) tokens ≡ Stuck rest → IsRefusedFor text (fault_at text rest)
unfolding lookahead
stopped text tokens [] spelled e = record { tokens = tokens; spelled = spelled; cut_off = cut_off lookahead decides (Rule File) file_decides tokens e; place_is = refl }
stopped text tokens (bad ∷ rest) spelled e = record { tokens = tokens; spelled = spelled; bad = bad; rest = rest; first_fault = fault lookahead decides (Rule File) file_decides tokens bad rest e; place_is = refl }

pub left_over : (text : List ℕ) (tokens rest : List Token) → AreTokensOf text tokens → (length rest ≡ 0 → ⊥) → reading lookahead (Rule File) tokens ≡ Got (tree_at (Rule File) tokens) rest → IsRefusedFor text (fault_at text rest)
unfolding lookahead
left_over text tokens [] spelled h e = absurd (h refl)
left_over text tokens (bad ∷ rest) spelled h e = record { tokens = tokens; spelled = spelled; bad = bad; rest = rest; first_fault = trailing lookahead decides (Rule File) file_decides tokens (tree_at (Rule File) tokens) bad rest e; place_is = refl }

pub whole : (text : List ℕ) (tokens rest : List Token) (tree : OilTree) → AreTokensOf text tokens → length rest ≡ 0 → reading lookahead (Rule File) tokens ≡ Got (tree_at (Rule File) tokens) rest → tree_of (tree_at (Rule File) tokens) ≡ tree → IsOilText text tree
unfolding lookahead
whole text tokens [] tree spelled h e m = record { tokens = tokens; spelled = spelled; read = read_as lookahead decides (Rule File) file_decides tree_of tokens (tree_at (Rule File) tokens) tree e m }
whole text tokens (bad ∷ rest) tree spelled h e m = absurd (omega arith)

pub bytes_refused : (text : List ℕ) (fault : OilFault) → RefusesBytes text fault → IsRefusedFor text fault
bytes_refused text (faults.Byte place) h = h
bytes_refused text (faults.Token place) h = absurd h
bytes_refused text (faults.EndOfText place) h = absurd h
bytes_refused text faults.Memory h = tt
