-- The next token decides in each rule of the grammar.
use Rattle.std.proofs.Common.{zero, suc, refl}
use Rattle.grammar.specs.Lookahead.{NextDecides}
use Rattle.oil_text.specs.OilGrammar.{File, Version, Implementation, Cpu, Object, Attribute, Value, Braced}
use Rattle.oil_text.specs.OilLookahead.{lookahead}

pub decides : NextDecides lookahead
unfolding lookahead
decides File = record { decides = refl; full = refl; begins_so = refl; goes_on_so = refl; falls = refl; sampled = refl }
decides Version = record { decides = refl; full = refl; begins_so = refl; goes_on_so = refl; falls = refl; sampled = refl }
decides Implementation = record { decides = refl; full = refl; begins_so = refl; goes_on_so = refl; falls = refl; sampled = refl }
decides Cpu = record { decides = refl; full = refl; begins_so = refl; goes_on_so = refl; falls = refl; sampled = refl }
decides Object = record { decides = refl; full = refl; begins_so = refl; goes_on_so = refl; falls = refl; sampled = refl }
decides (Attribute zero) = record { decides = refl; full = refl; begins_so = refl; goes_on_so = refl; falls = refl; sampled = refl }
decides (Attribute (suc below)) = record { decides = refl; full = refl; begins_so = refl; goes_on_so = refl; falls = refl; sampled = refl }
decides Value = record { decides = refl; full = refl; begins_so = refl; goes_on_so = refl; falls = refl; sampled = refl }
decides Braced = record { decides = refl; full = refl; begins_so = refl; goes_on_so = refl; falls = refl; sampled = refl }
