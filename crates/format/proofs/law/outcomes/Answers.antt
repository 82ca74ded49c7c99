-- What exact reading says of whole texts.
use Rattle.format.proofs.Exact
use Rattle.format.proofs.law.outcomes.Goals as goal

pub returns-clause-read : goal.returns-clause-read
returns-clause-read g c = λ F f text x e. Exact.accepted F f text x e

pub returns-clause-whole : goal.returns-clause-whole
returns-clause-whole g c = λ F f text x t. Exact.is_read F f text x t

pub returns-clause-one_value : goal.returns-clause-one_value
returns-clause-one_value g c = λ F f text x y p q. Exact.only F f text x y p q

pub returns-clause-fault : goal.returns-clause-fault
returns-clause-fault g c = λ F f s text bad rest e. Exact.fault F f s text bad rest e

pub returns-clause-trailing : goal.returns-clause-trailing
returns-clause-trailing g c = λ F f text x bad rest e. Exact.trailing F f text x bad rest e

pub returns-clause-cut_off : goal.returns-clause-cut_off
returns-clause-cut_off g c = λ F f s text e. Exact.cut_off F f s text e
