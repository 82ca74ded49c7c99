-- The law is three lemmas.
use Rattle.lower_law.proofs.Bits.{all_bits, points_counted}
use Rattle.lower_law.proofs.Wholes.{entity_fits}
use Rattle.lower_law.proofs.law.units_fit_their_cells.Goals as goal

pub returns : goal.returns
returns c = record { fits = entity_fits; points = points_counted; bits = all_bits }
