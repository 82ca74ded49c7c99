-- Values over cells that hold 0, whatever their widths are.
use Rattle.std.proofs.Common.{◌≡◌, ℕ, zero, suc, ◌+◌, ◌<◌, ◌≤◌, max, Bool, true, false, if◌then◌else◌, nat_lt, List, [], ◌∷◌, drop, get_or, length, refl, sym, ap, ◌∙◌, arith}
use Rattle.std.specs.Prelude.{map, replicate, Some}
use Rattle.std.proofs.lemmas.List.{drop_more}
use Rattle.chk_base.specs.declared.expr.Expr.{Expr}
use Rattle.chk_base.specs.declared.word.Width.{Width}
use Rattle.chk_base.specs.declared.word.Width.TheVariants.{W1, W8, W16, W32}
use Rattle.chk_base.specs.Operators.{truth, unary_value, binary_value}
use Rattle.chk_base.specs.Term.{Term, Const, Cell, Pick, Un, Bin, Choose}
use Rattle.chk_base.specs.Widths.{PlainWord, zero_word, read_as}
use Rattle.chk_base.specs.WordValue.{IsWithin, chosen, picked, value, word_at}
use Rattle.step_ir.specs.Points.{item_of}
use Rattle.step_ir.specs.PointStep.{first, val, words}
use Rattle.lower.specs.Zeros.{at_zero}

-- one more next
pub nexts_more : (xs : List (Expr × ℕ)) (i : ℕ) (d : Expr × ℕ) → i < length xs → map item_of (drop i xs) ≡ item_of (get_or xs i d) ∷ map item_of (drop (i + 1) xs)
nexts_more xs i d h = ap (λ ys. map item_of ys) (drop_more xs i d h)

-- what is among the first cells is among more of them
pub within_more : (t : Term) (n m : ℕ) → n ≤ m → IsWithin n t → IsWithin m t
within_more (Const k) n m le h = tt
within_more (Cell at s) n m le h = omega arith
within_more (Pick base len s i) n m le h = (let r = h.0 in omega arith, within_more i n m le h.1)
within_more (Un op a) n m le h = within_more a n m le h
within_more (Bin op a b) n m le h = (within_more a n m le h.0, within_more b n m le h.1)
within_more (Choose c a b) n m le h = (within_more c n m le h.0, within_more a n m le h.1, within_more b n m le h.2)

-- so it is for the greater of two numbers
pub within_first : (t : Term) (n m k : ℕ) → IsWithin n t → k ≡ max n m → IsWithin k t
within_first t n m k h e = within_more t n k (omega arith) h

pub within_second : (t : Term) (n m k : ℕ) → IsWithin m t → k ≡ max n m → IsWithin k t
within_second t n m k h e = within_more t m k (omega arith) h

-- and for three expressions
pub within_choose : (a b d : Term) (n m k i j : ℕ) → IsWithin n a → IsWithin m b → IsWithin k d → i ≡ max m k → j ≡ max n i → IsWithin j (Choose a b d)
within_choose a b d n m k i j x y z e f =
    (within_more a n j (omega (arith, e, f)) x, within_more b m j (omega (arith, e, f)) y, within_more d k j (omega (arith, e, f)) z)

-- the value depends only on what is read
module _ (f g : ℕ → PlainWord) (same : (i : ℕ) (s : Bool) → read_as s (f i) ≡ read_as s (g i)) where
  -- of an element
  picked_same : (base len : ℕ) (s : Bool) (i : ℕ) → picked f base len s i ≡ picked g base len s i
  picked_same base len s i = ap (λ n. if nat_lt i len then n else 0) (same (base + i) s)

  -- of any expression
  value_same : (t : Term) → value t f ≡ value t g
  value_same (Const n) = refl
  value_same (Cell at s) = same at s
  value_same (Pick base len s i) = ap (picked f base len s) (value_same i) ∙ picked_same base len s (value i g)
  value_same (Un op a) = ap (unary_value op) (value_same a)
  value_same (Bin op a b) = ap (λ n. binary_value op n (value b f)) (value_same a) ∙ ap (binary_value op (value a g)) (value_same b)
  value_same (Choose c a b) =
      ap (λ n. chosen n (value a f) (value b f)) (value_same c)
      ∙ (ap (λ n. chosen (value c g) n (value b f)) (value_same a) ∙ ap (chosen (value c g) (value a g)) (value_same b))

-- a word 0 is read as 0
read_zero : (w : Width) (s : Bool) → read_as s (zero_word w) ≡ 0
read_zero W1 true = refl
read_zero W8 true = refl
read_zero W16 true = refl
read_zero W32 true = refl
read_zero _ false = refl

-- a word among these is read as 0
read_among : (ws : List Width) (i : ℕ) (s : Bool) → read_as s (word_at (map zero_word ws) i) ≡ 0
read_among [] i s = read_zero W32 s
read_among (w ∷ ws) zero s = read_zero w s
read_among (w ∷ ws) (suc i) s = read_among ws i s

-- over cells that hold 0 the widths don't matter
pub zero_same : (width : ℕ → Width) (t : Term) → val width (λ i. 0) t ≡ at_zero t
zero_same width t = value_same (words width (λ i. 0)) (words (λ i. W32) (λ i. 0)) (λ i s. read_zero (width i) s ∙ sym (read_zero W32 s)) t

-- so it is over a list of such cells
pub zeros_value : (ws : List Width) (t : Term) → value t (word_at (map zero_word ws)) ≡ at_zero t
zeros_value ws t = value_same (word_at (map zero_word ws)) (words (λ i. W32) (λ i. 0)) (λ i s. read_among ws i s ∙ sym (read_zero W32 s)) t

-- nor does the first that isn't 0
pub first_zero : (width : ℕ → Width) (xs : List (Term × ℕ)) → first (val width (λ i. 0)) xs ≡ first at_zero xs
first_zero width [] = refl
first_zero width (x ∷ xs) =
    ap (λ n. if truth n then Some x.1 else first (val width (λ i. 0)) xs) (zero_same width x.0)
    ∙ ap (λ o. if truth (at_zero x.0) then Some x.1 else o) (first_zero width xs)

-- which are enough of them
pub zeros_within : (n : ℕ) (t : Term) (cells : List PlainWord) → IsWithin n t → cells ≡ map zero_word (replicate n W32) → IsWithin (length cells) t
zeros_within n t cells h e = within_more t n (length cells) (let l = ap length e in let k = count n in omega arith) h where
  count : (n : ℕ) → length (map zero_word (replicate n W32)) ≡ n
  count zero = refl
  count (suc n) = ap (λ k. suc k) (count n)
