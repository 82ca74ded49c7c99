-- The test of a class of bytes.
use Rattle.std.specs.Prelude.{ℕ, Bool}
use Rattle.oil_text.specs.Bytes.{is_digit, is_hexadecimal, is_of_name, is_of_line}
use Rattle.oil_text.specs.declared.bytes.ByteClass.{ByteClass}
use Rattle.oil_text.specs.declared.bytes.ByteClass.TheVariants as classes

abbrev pub test_of : ByteClass → ℕ → Bool
test_of classes.Name = is_of_name
test_of classes.Digit = is_digit
test_of classes.Hexadecimal = is_hexadecimal
test_of classes.Line = is_of_line
