use Rattle.std.proofs.Common.{◌≡◌}
use Rattle.c_lex.specs.Pieces.{mark_length}
use Rattle.c_lex.proofs.Marks.{mark_within}
use Rattle.c_lex.proofs.words.mark_length.Goals as goal

pub returns-clause-length : goal.returns-clause-length
unfolding mark_length
returns-clause-length c = c.longest_of.ensures

pub returns-clause-within : goal.returns-clause-within
returns-clause-within c = let e : c.longest_of.result ≡ mark_length c.args.bytes.now = returns-clause-length c in rw e (mark_within c.args.bytes.now)
