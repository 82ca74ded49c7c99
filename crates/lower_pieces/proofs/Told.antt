-- Items of which the tests are told, or the reads alone.
use Rattle.std.proofs.Common.{◌≡◌, ℕ, ◌+◌, Bool, true, false, List, [], ◌∷◌, ◌++◌, refl, ap, ◌∙◌, if◌then◌else◌}
use Rattle.std.specs.Prelude.{map}
use Rattle.chk_base.specs.Term.{Term}
use Rattle.lower_law.specs.Items as plain
use Rattle.lower_law.specs.Items.{binary_checks, division_checks, index_check, unary_checks}
use Rattle.lower_law.specs.Typed.{BinaryOperator, Multiply, Divide, Remainder, Add, Subtract, ShiftLeft, ShiftRight, UnaryOperator, Minus}
use Rattle.lower_pieces.proofs.Appended.{joined_append}
use Rattle.lower_pieces.specs.Joined.{JoinedItem, Reads, Tests, joined, told}
use Rattle.lower_pieces.specs.Steps.{entry_joined, cut_joined, reads_in}

pub told_append : (b : Bool) (xs ys : List JoinedItem) → told b (xs ++ ys) ≡ told b xs ++ told b ys
told_append b [] ys = refl
told_append b (Reads g t n ∷ is) ys = ap (λ l. Reads g t n ∷ l) (told_append b is ys)
told_append true (Tests t f ∷ is) ys = ap (λ l. Tests t f ∷ l) (told_append true is ys)
told_append false (Tests t f ∷ is) ys = told_append false is ys

pub told_joined : (b : Bool) (xs ys : List plain.Item) → told b (map joined (xs ++ ys)) ≡ told b (map joined xs) ++ told b (map joined ys)
told_joined b xs ys = ap (told b) (joined_append xs ys) ∙ told_append b (map joined xs) (map joined ys)

-- where tests are told, all items are
pub told_all : (is : List JoinedItem) → told true is ≡ is
told_all [] = refl
told_all (Reads g t n ∷ is) = ap (λ l. Reads g t n ∷ l) (told_all is)
told_all (Tests t f ∷ is) = ap (λ l. Tests t f ∷ l) (told_all is)

pub told_when : (b : Bool) (is : List JoinedItem) → b ≡ true → told b is ≡ is
told_when true is h = told_all is
told_when false is h = cc

-- where they aren't, nothing is told of tests
no_division : (g : List Term) (s : Bool) (x y : Term) → told false (map joined (division_checks g s x y)) ≡ []
no_division g true x y = refl
no_division g false x y = refl

no_binary : (g : List Term) (op : BinaryOperator) (s : Bool) (x y : Term) → told false (map joined (binary_checks g op s x y)) ≡ []
no_binary g Multiply true x y = refl
no_binary g Divide s x y = no_division g s x y
no_binary g Remainder s x y = no_division g s x y
no_binary g Add true x y = refl
no_binary g Subtract true x y = refl
no_binary g ShiftLeft s x y = refl
no_binary g ShiftRight s x y = refl
no_binary g Multiply false x y = refl
no_binary g Add false x y = refl
no_binary g Subtract false x y = refl
no_binary g _ s x y = refl

no_unary : (g : List Term) (op : UnaryOperator) (s : Bool) (x : Term) → told false (map joined (unary_checks g op s x)) ≡ []
no_unary g Minus true x = refl
no_unary g Minus false x = refl
no_unary g _ s x = refl

pub binary_untold : (b : Bool) (g : List Term) (op : BinaryOperator) (s : Bool) (x y : Term) → b ≡ false → told b (map joined (binary_checks g op s x y)) ≡ []
binary_untold true g op s x y h = cc
binary_untold false g op s x y h = no_binary g op s x y

pub unary_untold : (b : Bool) (g : List Term) (op : UnaryOperator) (s : Bool) (x : Term) → b ≡ false → told b (map joined (unary_checks g op s x)) ≡ []
unary_untold true g op s x h = cc
unary_untold false g op s x h = no_unary g op s x

pub index_untold : (b : Bool) (g : List Term) (len : ℕ) (x : Term) → b ≡ false → told b (joined (index_check g len x) ∷ []) ≡ []
index_untold true g len x h = cc
index_untold false g len x h = refl

-- the reads alone say where a thing begins, and how many reads there are
pub entry_told : (number : ℕ → ℕ) (is : List JoinedItem) (at : ℕ) → entry_joined number at (told false is) ≡ entry_joined number at is
entry_told number [] at = refl
entry_told number (Reads g t n ∷ is) at = ap (cut_joined number g at) (entry_told number is (at + 1))
entry_told number (Tests t f ∷ is) at = entry_told number is at

pub reads_told : (is : List JoinedItem) → reads_in (told false is) ≡ reads_in is
reads_told [] = refl
reads_told (Reads g t n ∷ is) = ap (λ k. 1 + k) (reads_told is)
reads_told (Tests t f ∷ is) = reads_told is
