-- What a fault says of the bytes of a text.
use Rattle.std.specs.Prelude.{ℕ, List}
use Rattle.oil_text.specs.declared.fault.OilFault.{OilFault}
use Rattle.oil_text.specs.declared.fault.OilFault.TheVariants as faults
use Rattle.oil_text.specs.OilTokens.{IsByteFault}

-- cutting a text into tokens ends at a byte, or for want of memory
abbrev pub RefusesBytes : List ℕ → OilFault → Type 0
RefusesBytes text (faults.Byte place) = IsByteFault text place
RefusesBytes text (faults.Token place) = ⊥
RefusesBytes text (faults.EndOfText place) = ⊥
RefusesBytes text faults.Memory = Unit {0}
