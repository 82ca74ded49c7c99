-- Ask: the value of a typed expression, from the locals and the list of the values read so far (ISO/IEC 9899:1999, 6.5).
use Rattle.std.specs.Prelude.{ℕ, ◌+◌, ◌-◌, ◌*◌, ◌/◌, ◌%◌, ◌^◌, ℤ, ◌+ℤ◌, ◌-ℤ◌, ◌*ℤ◌, pos, int_lt, int_le, int_div, int_rem, bit_and, bit_or, bit_xor, Bool, true, false, not, ◌&&◌, if◌then◌else◌, ◌==◌, nat_lt, nat_le, List, [], ◌∷◌, Option, Some, None}
use Rattle.chk_base.specs.declared.word.Width.{Width}
use Rattle.chk_base.specs.declared.word.Width.TheVariants.{W1, W8, W16, W32}
use Rattle.chk_base.specs.Operators.{signed, one_if, truth, outside, halved}
use Rattle.chk_base.specs.Widths.{signed_of, unsigned}
use Rattle.lower_law.specs.Typed.{CType, BinaryOperator, Multiply, Divide, Remainder, Add, Subtract, ShiftLeft, ShiftRight, Less, LessEqual, Greater, GreaterEqual, Equal, NotEqual, And, Xor, Or, UnaryOperator, Minus, Plus, Not, Complement, CellExpr, Number, Local, Global, Element, Binary, Unary, Conjunction, Disjunction, Conditional, Converted}

-- a global's cell is wanted, or a failure comes, or there is a value, with what is left of the list
pub data Answer (A : Type 0) : Type 0 where
  Wants : (cell : ℕ) (width : Width) → Answer A
  Traps : (failure : ℕ) → Answer A
  Value : (value : A) (got : List ℕ) → Answer A

-- what is asked after a value
abbrev pub then_ask : {A B : Type 0} → Answer A → (A → List ℕ → Answer B) → Answer B
then_ask (Wants cell width) k = Wants cell width
then_ask (Traps failure) k = Traps failure
then_ask (Value value got) k = k value got

-- the bits of a word as a value of 32 bits: above the width of a signed type stand copies of its top bit
abbrev pub extended : Width → Bool → ℕ → ℕ
extended W8 true n = unsigned (signed_of 8 (n % 2 ^ 8))
extended W16 true n = unsigned (signed_of 16 (n % 2 ^ 16))
extended _ _ n = n

-- the bits of a word of a type as its value
abbrev pub read_by : CType → ℕ → ℕ
read_by t n = extended t.width t.signed n

-- the next value of the list is that of the cell
abbrev pub take_value : ℕ → CType → List ℕ → Answer ℕ
take_value cell t [] = Wants cell t.width
take_value cell t (n ∷ got) = Value (read_by t n) got

-- conversion to a type (6.3.1.2, 6.3.1.3): to `bool` 1 where it isn't 0, and else modulo 2 to the width
abbrev pub converted : CType → ℕ → ℕ
converted t n = converted_to t.width t.signed n where
  converted_to : Width → Bool → ℕ → ℕ
  converted_to W1 s n = one_if (truth n)
  converted_to W8 true n = extended W8 true n
  converted_to W8 false n = n % 2 ^ 8
  converted_to W16 true n = extended W16 true n
  converted_to W16 false n = n % 2 ^ 16
  converted_to W32 s n = n

-- the failure where the test holds, and else the rest
abbrev pub fault_where : Bool → ℕ → Option ℕ → Option ℕ
fault_where test failure rest = if test then Some failure else rest

-- a signed result leaves the range of 32 bits
abbrev pub leaves : ℤ → Bool
leaves z = truth (outside z)

-- a division of the least number by -1
abbrev pub least_by_minus_one : ℕ → ℕ → Bool
least_by_minus_one a b = (a == 2 ^ 31) && (b == 2 ^ 32 - 1)

-- the failure of a division or a remainder
abbrev pub division_fault : Bool → ℕ → ℕ → Option ℕ
division_fault true a b = fault_where (b == 0) 4 (fault_where (least_by_minus_one a b) 3 None)
division_fault false a b = fault_where (b == 0) 4 None

-- the failure of an operator, if there is one: 3 where a signed result leaves its range, 4 at a zero divisor, 5 where a shift count is below 0 or above 31
abbrev pub binary_fault : BinaryOperator → Bool → ℕ → ℕ → Option ℕ
binary_fault Multiply true a b = fault_where (leaves (signed a *ℤ signed b)) 3 None
binary_fault Divide s a b = division_fault s a b
binary_fault Remainder s a b = division_fault s a b
binary_fault Add true a b = fault_where (leaves (signed a +ℤ signed b)) 3 None
binary_fault Subtract true a b = fault_where (leaves (signed a -ℤ signed b)) 3 None
binary_fault ShiftLeft s a b = fault_where (nat_le 32 b) 5 None
binary_fault ShiftRight s a b = fault_where (nat_le 32 b) 5 None
binary_fault _ s a b = None

-- the value of an operator (6.5.5 to 6.5.12)
abbrev pub binary_result : BinaryOperator → Bool → ℕ → ℕ → ℕ
binary_result Multiply s a b = (a * b) % 2 ^ 32
binary_result Divide true a b = if b == 0 then 0 else unsigned (int_div (signed a) (signed b))
binary_result Divide false a b = if b == 0 then 0 else a / b
binary_result Remainder true a b = if b == 0 then 0 else unsigned (int_rem (signed a) (signed b))
binary_result Remainder false a b = if b == 0 then 0 else a % b
binary_result Add s a b = (a + b) % 2 ^ 32
binary_result Subtract s a b = (a + (2 ^ 32 - b)) % 2 ^ 32
binary_result ShiftLeft s a b = if nat_lt b 32 then (a * 2 ^ b) % 2 ^ 32 else 0
binary_result ShiftRight true a b = if nat_lt b 32 then unsigned (halved (signed a) b) else 0
binary_result ShiftRight false a b = if nat_lt b 32 then a / 2 ^ b else 0
binary_result Less true a b = one_if (int_lt (signed a) (signed b))
binary_result Less false a b = one_if (nat_lt a b)
binary_result LessEqual true a b = one_if (int_le (signed a) (signed b))
binary_result LessEqual false a b = one_if (nat_le a b)
binary_result Greater true a b = one_if (int_lt (signed b) (signed a))
binary_result Greater false a b = one_if (nat_lt b a)
binary_result GreaterEqual true a b = one_if (int_le (signed b) (signed a))
binary_result GreaterEqual false a b = one_if (nat_le b a)
binary_result Equal s a b = one_if (a == b)
binary_result NotEqual s a b = one_if (not (a == b))
binary_result And s a b = bit_and a b
binary_result Xor s a b = bit_xor a b
binary_result Or s a b = bit_or a b
-- `&&` and `||` have forms of their own
binary_result _ s a b = 0

-- the failure of an operator with one operand
abbrev pub unary_fault : UnaryOperator → Bool → ℕ → Option ℕ
unary_fault Minus true a = fault_where (leaves (pos 0 -ℤ signed a)) 3 None
unary_fault _ s a = None

-- the value of an operator with one operand (6.5.3.3)
abbrev pub unary_result : UnaryOperator → ℕ → ℕ
unary_result Minus a = (2 ^ 32 - a) % 2 ^ 32
unary_result Plus a = a
unary_result Not a = one_if (a == 0)
unary_result Complement a = 2 ^ 32 - 1 - a

-- a failure, or else the value
abbrev pub answered : Option ℕ → ℕ → List ℕ → Answer ℕ
answered None n got = Value n got
answered (Some f) n got = Traps f

-- an index is looked at as soon as it has its value: 6 where it is below 0 or not below the length
abbrev pub checked : ℕ → ℕ → List ℕ → Answer ℕ
checked len i got = if nat_lt i len then Value i got else Traps 6

-- the answer of an expression, from scratch and from left to right
abbrev pub ask : CellExpr → (ℕ → ℕ) → List ℕ → Answer ℕ
ask (Number n) env got = Value n got
ask (Local at t) env got = Value (read_by t (env at)) got
ask (Global cell t) env got = take_value cell t got
ask (Element cell len t i) env got =
    then_ask (ask i env got) (λ at got. then_ask (checked len at got) (λ at got. take_value (cell + at) t got))
ask (Binary op s a b) env got =
    then_ask (ask a env got) (λ x got. then_ask (ask b env got) (λ y got. answered (binary_fault op s x y) (binary_result op s x y) got))
ask (Unary op s a) env got = then_ask (ask a env got) (λ x got. answered (unary_fault op s x) (unary_result op x) got)
ask (Conjunction a b) env got =
    then_ask (ask a env got) (λ x got. if truth x then then_ask (ask b env got) (λ y got. Value (one_if (truth y)) got) else Value 0 got)
ask (Disjunction a b) env got =
    then_ask (ask a env got) (λ x got. if truth x then Value 1 got else then_ask (ask b env got) (λ y got. Value (one_if (truth y)) got))
ask (Conditional c a b) env got = then_ask (ask c env got) (λ x got. if truth x then ask a env got else ask b env got)
ask (Converted t a) env got = then_ask (ask a env got) (λ x got. Value (converted t x) got)

-- an expression of a thing, which is an index of an array of this length or not
abbrev pub within : Option ℕ → ℕ → List ℕ → Answer ℕ
within None n got = Value n got
within (Some len) n got = checked len n got

-- the answers of the expressions of one thing, in order
abbrev pub ask_all : List (Option ℕ × CellExpr) → (ℕ → ℕ) → List ℕ → Answer (List ℕ)
ask_all [] env got = Value [] got
ask_all (q ∷ qs) env got =
    then_ask (ask q.1 env got) (λ x got. then_ask (within q.0 x got) (λ x got. then_ask (ask_all qs env got) (λ xs got. Value (x ∷ xs) got)))
