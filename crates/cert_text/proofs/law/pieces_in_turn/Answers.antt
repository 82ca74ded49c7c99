use Rattle.cert_text.proofs.Spilling.{follows, refuses, stops}
use Rattle.cert_text.proofs.law.pieces_in_turn.Goals as goal

pub returns-clause-follows : goal.returns-clause-follows
returns-clause-follows c = follows

pub returns-clause-stops : goal.returns-clause-stops
returns-clause-stops c = stops

pub returns-clause-refuses : goal.returns-clause-refuses
returns-clause-refuses c = refuses
