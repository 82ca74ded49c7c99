use Rattle.c_lex.specs.Known.{plain_known}
use Rattle.c_lex.proofs.Within.{other_within, other_new}
use Rattle.c_lex.proofs.piece.read_piece.Goals as goal

pub returns-in-None-clause-within : goal.returns-in-None-clause-within
returns-in-None-clause-within c = rw c.other_piece.ensures (other_within (plain_known c.args.known.now.entries) c.args.bare c.args.bytes.now)

pub returns-in-None-clause-fresh : goal.returns-in-None-clause-fresh
returns-in-None-clause-fresh c = rw c.other_piece.ensures (other_new (plain_known c.args.known.now.entries) c.args.bare c.args.bytes.now)
