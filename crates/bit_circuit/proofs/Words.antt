-- The values of operators, by signs and sizes.
use native.Mathlib.Nat.{mod-le}
use Rattle.std.proofs.Common.{◌≡◌, ℕ, zero, suc, ◌+◌, ◌-◌, ◌*◌, ◌/◌, ◌%◌, ◌^◌, ◌<◌, ◌≤◌, true, false, refl, arith, nat_lt, nat_le, inl, inr, ℤ, pos, negsuc, ◌+ℤ◌, ◌-ℤ◌, ◌*ℤ◌, neg_ℤ, int_lt, int_le, int_div, int_rem, div-le_self}
use Rattle.std.proofs.lemmas.Bool.Decides.{nat_tests}
use Rattle.std.proofs.lemmas.Bool.{cases_lt, lt-ltb, le-ltb, le-leb, lt-leb}
use Rattle.std.proofs.lemmas.Int.{ints}
use Rattle.chk_base.specs.Operators.{one_if, signed, outside, halved}
use Rattle.chk_base.specs.Widths.{signed_of, unsigned}
use Rattle.bit_circuit.specs.Extension.{xor}
use Rattle.bit_circuit.specs.Signed.{is_negative, flipped_if, negated_if, absolute_value, turned_word, is_outside, extended}

pub signed-low : (n : ℕ) → n < 2 ^ 31 → signed n ≡ pos n
signed-low n h = rw (lt-ltb n (2 ^ 31) h) refl

pub signed-high : (n : ℕ) → 2 ^ 31 ≤ n → signed n ≡ negsuc (2 ^ 32 - suc n)
signed-high n h = rw (le-ltb n (2 ^ 31) h) refl

-- ---- orders
pub lt_signed : (a b : ℕ) → a < 2 ^ 32 → b < 2 ^ 32 → int_lt (signed a) (signed b) ≡ nat_lt (turned_word a) (turned_word b)
lt_signed a b p q = elim (cases_lt a (2 ^ 31)) [
  | inl h ↦ elim (cases_lt b (2 ^ 31)) [
    | inl k ↦ rw (signed-low a h, signed-low b k) (grind (arith, nat_tests))
    | inr k ↦ rw (signed-low a h, signed-high b k) (grind (arith, nat_tests))
  ]
  | inr h ↦ elim (cases_lt b (2 ^ 31)) [
    | inl k ↦ rw (signed-high a h, signed-low b k) (grind (arith, nat_tests))
    | inr k ↦ rw (signed-high a h, signed-high b k) (grind (arith, nat_tests))
  ]
]

pub le_signed : (a b : ℕ) → a < 2 ^ 32 → b < 2 ^ 32 → int_le (signed a) (signed b) ≡ nat_le (turned_word a) (turned_word b)
le_signed a b p q = elim (cases_lt a (2 ^ 31)) [
  | inl h ↦ elim (cases_lt b (2 ^ 31)) [
    | inl k ↦ rw (signed-low a h, signed-low b k) (grind (arith, nat_tests))
    | inr k ↦ rw (signed-low a h, signed-high b k) (grind (arith, nat_tests))
  ]
  | inr h ↦ elim (cases_lt b (2 ^ 31)) [
    | inl k ↦ rw (signed-high a h, signed-low b k) (grind (arith, nat_tests))
    | inr k ↦ rw (signed-high a h, signed-high b k) (grind (arith, nat_tests))
  ]
]

-- ---- ranges
outside_moved : (z : ℤ) (x : ℕ) → x < 2 ^ 33 → z +ℤ pos (2 ^ 32) ≡ pos x → outside z ≡ one_if (is_outside x)
outside_moved (pos n) x b e =
    let f : x ≡ n + 2 ^ 32 = omega (arith, ints) in
    let g : nat_le (2 ^ 32) x ≡ true = le-leb (2 ^ 32) x (omega arith) in
    rw g (elim (cases_lt n (2 ^ 31)) [
      | inl h ↦ rw (lt-leb (2 ^ 31) n h, lt-leb (2 ^ 31) (x % 2 ^ 32) (omega arith)) refl
      | inr h ↦ rw (le-leb (2 ^ 31) n h, le-leb (2 ^ 31) (x % 2 ^ 32) (omega arith)) refl
    ])
outside_moved (negsuc n) x b e =
    let f : x + suc n ≡ 2 ^ 32 = omega (arith, ints) in
    let g : nat_le (2 ^ 32) x ≡ false = lt-leb (2 ^ 32) x (omega arith) in
    rw g (elim (cases_lt n (2 ^ 31)) [
      | inl h ↦ rw (lt-leb (2 ^ 31) n h, le-leb (2 ^ 31) (x % 2 ^ 32) (omega arith)) refl
      | inr h ↦ rw (le-leb (2 ^ 31) n h, lt-leb (2 ^ 31) (x % 2 ^ 32) (omega arith)) refl
    ])

pub outside_sum : (a b : ℕ) → a < 2 ^ 32 → b < 2 ^ 32 → outside (signed a +ℤ signed b) ≡ one_if (is_outside (turned_word a + turned_word b))
outside_sum a b p q = outside_moved (signed a +ℤ signed b) (turned_word a + turned_word b) (omega arith) (elim (cases_lt a (2 ^ 31)) [
  | inl h ↦ elim (cases_lt b (2 ^ 31)) [
    | inl k ↦ rw (signed-low a h, signed-low b k) (omega (arith, ints))
    | inr k ↦ rw (signed-low a h, signed-high b k) (omega (arith, ints))
  ]
  | inr h ↦ elim (cases_lt b (2 ^ 31)) [
    | inl k ↦ rw (signed-high a h, signed-low b k) (omega (arith, ints))
    | inr k ↦ rw (signed-high a h, signed-high b k) (omega (arith, ints))
  ]
])

pub outside_difference : (a b : ℕ) → a < 2 ^ 32 → b < 2 ^ 32 → outside (signed a -ℤ signed b) ≡ one_if (is_outside (turned_word a + 2 ^ 32 - turned_word b))
outside_difference a b p q = outside_moved (signed a -ℤ signed b) (turned_word a + 2 ^ 32 - turned_word b) (omega arith) (elim (cases_lt a (2 ^ 31)) [
  | inl h ↦ elim (cases_lt b (2 ^ 31)) [
    | inl k ↦ rw (signed-low a h, signed-low b k) (omega (arith, ints))
    | inr k ↦ rw (signed-low a h, signed-high b k) (omega (arith, ints))
  ]
  | inr h ↦ elim (cases_lt b (2 ^ 31)) [
    | inl k ↦ rw (signed-high a h, signed-low b k) (omega (arith, ints))
    | inr k ↦ rw (signed-high a h, signed-high b k) (omega (arith, ints))
  ]
])

-- ---- products and quotients by sizes
low : (n : ℕ) → n < 2 ^ 31 → is_negative n ≡ false
low n h = lt-leb (2 ^ 31) n h

high : (n : ℕ) → 2 ^ 31 ≤ n → is_negative n ≡ true
high n h = le-leb (2 ^ 31) n h

high_size : (n : ℕ) → 2 ^ 31 ≤ n → n < 2 ^ 32 → (2 ^ 32 - n) % 2 ^ 32 ≡ suc (2 ^ 32 - suc n)
high_size n h k = omega arith

outside_negated : (m : ℕ) → outside (neg_ℤ (pos m)) ≡ one_if (nat_le (2 ^ 31 + 1) m)
outside_negated zero = refl
outside_negated (suc m) = elim (cases_lt m (2 ^ 31)) [
  | inl h ↦ rw (lt-leb (2 ^ 31) m h, lt-leb (2 ^ 31 + 1) (suc m) (omega arith)) refl
  | inr h ↦ rw (le-leb (2 ^ 31) m h, le-leb (2 ^ 31 + 1) (suc m) (omega arith)) refl
]

unsigned_negated : (m : ℕ) → m ≤ 2 ^ 32 → unsigned (neg_ℤ (pos m)) ≡ (2 ^ 32 - m) % 2 ^ 32
unsigned_negated zero h = refl
unsigned_negated (suc m) h = omega arith

pub outside_product : (a b : ℕ) → a < 2 ^ 32 → b < 2 ^ 32 → outside (signed a *ℤ signed b) ≡ one_if (nat_le (2 ^ 31 + one_if (xor (is_negative a) (is_negative b))) (absolute_value a * absolute_value b))
outside_product a b p q = elim (cases_lt a (2 ^ 31)) [
  | inl h ↦ elim (cases_lt b (2 ^ 31)) [
    | inl k ↦ rw (signed-low a h, signed-low b k, low a h, low b k) refl
    | inr k ↦ rw (signed-low a h, signed-high b k, low a h, high b k, high_size b k q) (outside_negated (a * suc (2 ^ 32 - suc b)))
  ]
  | inr h ↦ elim (cases_lt b (2 ^ 31)) [
    | inl k ↦ rw (signed-high a h, signed-low b k, high a h, low b k, high_size a h p) (outside_negated (suc (2 ^ 32 - suc a) * b))
    | inr k ↦ rw (signed-high a h, signed-high b k, high a h, high b k, high_size a h p, high_size b k q) refl
  ]
]

div_small : (m n : ℕ) → m < 2 ^ 32 → m / n ≤ 2 ^ 32
div_small m n h = let e = div-le_self m n in omega arith

mod_small : (m n : ℕ) → m < 2 ^ 32 → m % n ≤ 2 ^ 32
mod_small m n h = let e = mod-le m n in omega arith

pub div_signed : (a b : ℕ) → a < 2 ^ 32 → b < 2 ^ 32 → unsigned (int_div (signed a) (signed b)) ≡ negated_if (xor (is_negative a) (is_negative b)) (absolute_value a / absolute_value b)
div_signed a b p q = elim (cases_lt a (2 ^ 31)) [
  | inl h ↦ elim (cases_lt b (2 ^ 31)) [
    | inl k ↦ rw (signed-low a h, signed-low b k, low a h, low b k) refl
    | inr k ↦ rw (signed-low a h, signed-high b k, low a h, high b k, high_size b k q) (unsigned_negated (a / suc (2 ^ 32 - suc b)) (div_small a (suc (2 ^ 32 - suc b)) p))
  ]
  | inr h ↦ elim (cases_lt b (2 ^ 31)) [
    | inl k ↦ rw (signed-high a h, signed-low b k, high a h, low b k, high_size a h p) (unsigned_negated (suc (2 ^ 32 - suc a) / b) (div_small (suc (2 ^ 32 - suc a)) b (omega arith)))
    | inr k ↦ rw (signed-high a h, signed-high b k, high a h, high b k, high_size a h p, high_size b k q) refl
  ]
]

pub rem_signed : (a b : ℕ) → a < 2 ^ 32 → b < 2 ^ 32 → unsigned (int_rem (signed a) (signed b)) ≡ negated_if (is_negative a) (absolute_value a % absolute_value b)
rem_signed a b p q = elim (cases_lt a (2 ^ 31)) [
  | inl h ↦ elim (cases_lt b (2 ^ 31)) [
    | inl k ↦ rw (signed-low a h, signed-low b k, low a h, low b k) refl
    | inr k ↦ rw (signed-low a h, signed-high b k, low a h, high b k, high_size b k q) refl
  ]
  | inr h ↦ elim (cases_lt b (2 ^ 31)) [
    | inl k ↦ rw (signed-high a h, signed-low b k, high a h, low b k, high_size a h p) (unsigned_negated (suc (2 ^ 32 - suc a) % b) (mod_small (suc (2 ^ 32 - suc a)) b (omega arith)))
    | inr k ↦ rw (signed-high a h, signed-high b k, high a h, high b k, high_size a h p, high_size b k q) (unsigned_negated (suc (2 ^ 32 - suc a) % suc (2 ^ 32 - suc b)) (mod_small (suc (2 ^ 32 - suc a)) (suc (2 ^ 32 - suc b)) (omega arith)))
  ]
]

-- ---- shifts and extensions
pub halved_signed : (a k : ℕ) → a < 2 ^ 32 → unsigned (halved (signed a) k) ≡ flipped_if (is_negative a) (flipped_if (is_negative a) a / 2 ^ k)
halved_signed a k p = elim (cases_lt a (2 ^ 31)) [
  | inl h ↦ rw (signed-low a h, low a h) refl
  | inr h ↦ let e : 2 ^ 32 - suc a ≡ 2 ^ 32 - 1 - a = omega arith in rw (signed-high a h, high a h, e) (omega arith)
]

pub extended_8 : (n : ℕ) → unsigned (signed_of 8 (n % 2 ^ 8)) ≡ extended 8 (nat_le (2 ^ 7) (n % 2 ^ 8)) n
extended_8 n = elim (cases_lt (n % 2 ^ 8) (2 ^ 7)) [
  | inl h ↦ rw (lt-ltb (n % 2 ^ 8) (2 ^ 7) h, lt-leb (2 ^ 7) (n % 2 ^ 8) h) refl
  | inr h ↦ rw (le-ltb (n % 2 ^ 8) (2 ^ 7) h, le-leb (2 ^ 7) (n % 2 ^ 8) h) (omega arith)
]

pub extended_16 : (n : ℕ) → unsigned (signed_of 16 (n % 2 ^ 16)) ≡ extended 16 (nat_le (2 ^ 15) (n % 2 ^ 16)) n
extended_16 n = elim (cases_lt (n % 2 ^ 16) (2 ^ 15)) [
  | inl h ↦ rw (lt-ltb (n % 2 ^ 16) (2 ^ 15) h, lt-leb (2 ^ 15) (n % 2 ^ 16) h) refl
  | inr h ↦ rw (le-ltb (n % 2 ^ 16) (2 ^ 15) h, le-leb (2 ^ 15) (n % 2 ^ 16) h) (omega arith)
]
