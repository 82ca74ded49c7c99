use Rattle.name_law.proofs.Applied.{named}
use Rattle.name_law.proofs.law.entities_have_names.Goals as goal

pub returns : goal.returns
returns c = named
