-- Words and their values in either reading.
use Rattle.std.proofs.Common.{◌≡◌, ℕ, suc, ◌-◌, ◌<◌, ◌≤◌, ◌^◌, ℤ, pos, negsuc, Bool, true, false, nat_lt, if◌then◌else◌, List, Option, Some, None, IfNone, refl, sym, ap, ◌∙◌, arith}
use Rattle.std.specs.Fmt.{signed_decimal}
use Rattle.std.specs.Int.Signed.{lt_z, mag}
use Rattle.std.proofs.lemmas.Bool.{le-ltb}
use Rattle.std.proofs.lemmas.Fmt.{signed_decimal_injective}
use Rattle.chk_base.specs.declared.word.Width.{Width}
use Rattle.chk_base.specs.declared.word.Width.TheVariants.{W1, W8, W16, W32}
use Rattle.chk_base.specs.Widths.{PlainWord, bits_of, limit_of, reading_of}
use Rattle.replay.specs.declared.value.ValueType.{ValueType}
use Rattle.replay.specs.ScheduleText.{IsValue}

-- a number modulo 2 to a width, where it is a value of it
abbrev low : Width → ℤ → ℕ
low w (pos n) = n
low w (negsuc n) = limit_of w - suc n

-- a width has at most 32 bits
pub at_most : (w : Width) → limit_of w ≤ 2 ^ 32
at_most W1 = omega arith
at_most W8 = omega arith
at_most W16 = omega arith
at_most W32 = omega arith

abbrev signed_or : Bool → Width → ℕ → ℤ
signed_or t w n = if t then pos n else negsuc (limit_of w - suc n)

low_signed : (t : Bool) (w : Width) (n : ℕ) → n < limit_of w → low w (signed_or t w n) ≡ n
low_signed true w n fits = refl
low_signed false w n fits = omega (arith, fits)

mag_signed : (t : Bool) (w : Width) (n : ℕ) → n < limit_of w → mag (signed_or t w n) < 2 ^ 63
mag_signed true w n fits = omega (arith, fits, at_most w)
mag_signed false w n fits = omega (arith, fits, at_most w)

-- the bits of a word are its value modulo 2 to its width
pub low_reading : (signed : Bool) (w : PlainWord) → w.bits < limit_of w.width → low w.width (reading_of signed w) ≡ w.bits
low_reading false w fits = refl
low_reading true w fits = low_signed (nat_lt w.bits (2 ^ (bits_of w.width - 1))) w.width w.bits fits

-- a value has less than 64 bits
pub mag_reading : (signed : Bool) (w : PlainWord) → w.bits < limit_of w.width → mag (reading_of signed w) < 2 ^ 63
mag_reading false w fits = omega (arith, fits, at_most w.width)
mag_reading true w fits = mag_signed (nat_lt w.bits (2 ^ (bits_of w.width - 1))) w.width w.bits fits

-- below 0
abbrev pub is_negative : ℤ → Bool
is_negative (pos n) = false
is_negative (negsuc n) = true

pub negative : (z : ℤ) → lt_z z (pos 0) ≡ is_negative z
negative (pos n) = le-ltb n 0 (omega arith)
negative (negsuc n) = refl

-- a value is that of the reading which its sign asks for
by_sign : (t : Bool) (w : PlainWord) → nat_lt w.bits (2 ^ (bits_of w.width - 1)) ≡ t → reading_of (is_negative (signed_or t w.width w.bits)) w ≡ signed_or t w.width w.bits
by_sign true w e = refl
by_sign false w e = ap (λ (t : Bool). signed_or t w.width w.bits) e

pub reading_by_sign : (signed : Bool) (w : PlainWord) → reading_of (is_negative (reading_of signed w)) w ≡ reading_of signed w
reading_by_sign false w = refl
reading_by_sign true w =
    let e : nat_lt w.bits (2 ^ (bits_of w.width - 1)) ≡ nat_lt w.bits (2 ^ (bits_of w.width - 1)) = refl in
    by_sign (nat_lt w.bits (2 ^ (bits_of w.width - 1))) w e

-- the type by which a number is read: that of the input, and without one 32 bits by the number's sign
abbrev pub IsReadBy : Option ValueType → ℤ → ValueType → Type 0
IsReadBy (Some t) number of = of ≡ t
IsReadBy None number of = (of.width ≡ W32) × (of.signed ≡ is_negative number)

-- no word of that type has the number as its value
abbrev pub HasNoWord : ValueType → ℤ → Type 0
HasNoWord of number = (w : PlainWord) → w.bits < limit_of w.width → w.width ≡ of.width → reading_of of.signed w ≡ number → ⊥

-- so the digits of the number are no word's value
pub no_value : (input : Option ValueType) (digits : List ℕ) (number : ℤ) (of : ValueType) → mag number < 2 ^ 63 → digits ≡ signed_decimal number → IsReadBy input number of → HasNoWord of number → (w : PlainWord) → w.bits < limit_of w.width → IsValue input digits w → ⊥
no_value (Some t) digits number of small is by none w fits value =
    let same : reading_of t.signed w ≡ number = signed_decimal_injective (reading_of t.signed w) number (mag_reading t.signed w fits) small (sym value.1 ∙ is) in
    none w fits (value.0 ∙ sym (ap (λ (v : ValueType). v.width) by)) (ap (λ (v : ValueType). reading_of v.signed w) by ∙ same)
no_value None digits number of small is by none w fits value =
    let same : reading_of value.1.0 w ≡ number = signed_decimal_injective (reading_of value.1.0 w) number (mag_reading value.1.0 w fits) small (sym value.1.1 ∙ is) in
    none w fits (value.0 ∙ sym by.0)
    (ap (λ (s : Bool). reading_of s w) (by.1 ∙ ap is_negative (sym same)) ∙ (reading_by_sign value.1.0 w ∙ same))

-- where there is no word, no word is a value
pub no_word : {W : Type 0} (input : Option ValueType) (digits : List ℕ) (number : ℤ) (of : ValueType) (found : Option W) → mag number < 2 ^ 63 → digits ≡ signed_decimal number → IsReadBy input number of → IfNone found (HasNoWord of number) → IfNone found ((w : PlainWord) → w.bits < limit_of w.width → IsValue input digits w → ⊥)
no_word input digits number of None small is by none = no_value input digits number of small is by none
no_word input digits number of (Some w) small is by none = none

-- words of one width whose values are written in the same digits are the same
pub same_word : (s t : Bool) (v w : PlainWord) → v.width ≡ w.width → v.bits < limit_of v.width → w.bits < limit_of w.width → signed_decimal (reading_of s v) ≡ signed_decimal (reading_of t w) → v ≡ w
same_word s t v w width fits also digits =
    let value : reading_of s v ≡ reading_of t w = signed_decimal_injective (reading_of s v) (reading_of t w) (mag_reading s v fits) (mag_reading t w also) digits in
    let bits : v.bits ≡ w.bits = sym (low_reading s v fits) ∙ (ap (low v.width) value ∙ (ap (λ (x : Width). low x (reading_of t w)) width ∙ low_reading t w also)) in
    ap (λ (x : Width). record { width = x; bits = v.bits }) width ∙ ap (λ (n : ℕ). record { width = w.width; bits = n }) bits
