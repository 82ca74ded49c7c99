use Rattle.turn_law.proofs.Shaping.{offers}
use Rattle.turn_law.proofs.law.drafts_offer.Goals as goal

pub returns : goal.returns
returns c = offers
