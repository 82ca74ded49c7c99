-- Formats: how a value is spelled in tokens, and how it is read from left to right.
use Rattle.std.specs.Prelude.{ℕ, zero, suc, Bool, true, false, cond, ◌&&◌, List, [], ◌∷◌, ◌++◌, length, Option, Some, None}

-- What reading gives: a value and the tokens after it, or the tokens from the first that does not fit (none where the text ended).
pub data Answer (A T : Type 0) : Type 0 where
  Got : A → List T → Answer A T
  Stuck : List T → Answer A T

-- A format says which values it has, how each is spelled, and how it is read. (Exact.IsExact ties the three.)
pub record Format (A T : Type 0) : Type 0 where
  pub valid : A → Bool
  pub spell : A → List T
  pub read : List T → Answer A T

abbrev pub and_then : {A B T : Type 0} → Answer A T → (A → List T → Answer B T) → Answer B T
and_then (Got x rest) f = f x rest
and_then (Stuck rest) f = Stuck rest

-- ---- no token

abbrev pub nothing : {T : Type 0} → Format (Unit {0}) T
nothing = record { valid = λ _. true; spell = λ _. []; read = λ ts. Got tt ts }

-- ---- no text at all

abbrev pub never : {A T : Type 0} → Format A T
never = record { valid = λ _. false; spell = λ _. []; read = λ ts. Stuck ts }

-- ---- one token

abbrev pub got_one : {A T : Type 0} → Option A → T → List T → Answer A T
got_one (Some x) t ts = Got x ts
got_one None t ts = Stuck (t ∷ ts)

abbrev pub read_one : {A T : Type 0} → (T → Option A) → List T → Answer A T
read_one meaning [] = Stuck []
read_one meaning (t ∷ ts) = got_one (meaning t) t ts

abbrev pub one : {A T : Type 0} → (A → Bool) → (A → T) → (T → Option A) → Format A T
one valid token meaning = record { valid = valid; spell = λ x. token x ∷ []; read = read_one meaning }

-- ---- one after another; the second may depend on the first's value

abbrev pub pair : {A B T : Type 0} → Format A T → (A → Format B T) → Format (A × B) T
pair F G = record {
  valid = λ x. F.valid x.0 && (G x.0).valid x.1;
  spell = λ x. F.spell x.0 ++ (G x.0).spell x.1;
  read = λ ts. and_then (F.read ts) (λ x rest. and_then ((G x).read rest) (λ y more. Got (x, y) more));
}

-- ---- other values for the same texts

abbrev pub option_valid : {A : Type 0} → (A → Bool) → Option A → Bool
option_valid valid (Some x) = valid x
option_valid valid None = false

abbrev pub option_spell : {A T : Type 0} → (A → List T) → Option A → List T
option_spell spell (Some x) = spell x
option_spell spell None = []

abbrev pub mapped : {A B T : Type 0} → (A → B) → (B → Option A) → Format A T → Format B T
mapped to from F = record {
  valid = λ y. option_valid F.valid (from y);
  spell = λ y. option_spell F.spell (from y);
  read = λ ts. and_then (F.read ts) (λ x rest. Got (to x) rest);
}

-- a part without a value before or behind

abbrev pub led : {A T : Type 0} → Format (Unit {0}) T → Format A T → Format A T
led U F = mapped (λ p. p.1) (λ x. Some (tt, x)) (pair U (λ _. F))

abbrev pub ended : {A T : Type 0} → Format A T → Format (Unit {0}) T → Format A T
ended F U = mapped (λ p. p.0) (λ x. Some (x, tt)) (pair F (λ _. U))

-- ---- so many, each by its number

abbrev pub uncons : {A : Type 0} → List A → Option (A × List A)
uncons [] = None
uncons (x ∷ xs) = Some (x, xs)

abbrev pub unnil : {A : Type 0} → List A → Option (Unit {0})
unnil [] = Some tt
unnil (x ∷ xs) = None

abbrev pub times : {A T : Type 0} → (ℕ → Format A T) → ℕ → ℕ → Format (List A) T
times item i zero = mapped (λ _. []) unnil nothing
times item i (suc n) = mapped (λ p. p.0 ∷ p.1) uncons (pair (item i) (λ _. times item (suc i) n))

-- ---- items until a token that stops; each item may depend on a state that those before it led to

abbrev pub are_valid : {S A T : Type 0} → (S → Format A T) → (S → A → S) → S → List A → Bool
are_valid item next s [] = true
are_valid item next s (x ∷ xs) = (item s).valid x && are_valid item next (next s x) xs

abbrev pub are_spelled : {S A T : Type 0} → T → (S → Format A T) → (S → A → S) → S → List A → List T
are_spelled stop item next s [] = stop ∷ []
are_spelled stop item next s (x ∷ xs) = (item s).spell x ++ are_spelled stop item next (next s x) xs

-- in at most so many turns
abbrev pub read_until : {S A T : Type 0} → (T → Bool) → (S → Format A T) → (S → A → S) → ℕ → S → List T → Answer (List A) T
read_until is_stop item next zero s ts = Stuck ts
read_until is_stop item next (suc n) s [] = Stuck []
read_until is_stop item next (suc n) s (t ∷ ts) =
    cond (is_stop t) (Got [] ts)
    (and_then ((item s).read (t ∷ ts)) (λ x rest. and_then (read_until is_stop item next n (next s x) rest) (λ xs more. Got (x ∷ xs) more)))

abbrev pub until : {S A T : Type 0} → T → (T → Bool) → (S → Format A T) → (S → A → S) → S → Format (List A) T
until stop is_stop item next s = record {
  valid = are_valid item next s;
  spell = are_spelled stop item next s;
  read = λ ts. read_until is_stop item next (suc (length ts)) s ts;
}

-- how many there are, and then these
abbrev pub counted : {A T : Type 0} → Format ℕ T → (ℕ → Format A T) → Format (List A) T
counted number item = mapped (λ p. p.1) (λ xs. Some (length xs, xs)) (pair number (λ n. times item 0 n))

-- ---- what is kept of a value

abbrev pub map_got : {A B T : Type 0} → (A → B) → Answer A T → Answer B T
map_got f (Got x rest) = Got (f x) rest
map_got f (Stuck left) = Stuck left

-- ---- loops, for the code

-- one turn: nothing where the next token stops
abbrev pub map_some : {A T : Type 0} → Answer A T → Answer (Option A) T
map_some (Got x rest) = Got (Some x) rest
map_some (Stuck left) = Stuck left

abbrev pub turn : {A T : Type 0} → (T → Bool) → Format A T → List T → Answer (Option A) T
turn is_stop F [] = Stuck []
turn is_stop F (t ∷ ts) = cond (is_stop t) (Got None ts) (map_some (F.read (t ∷ ts)))

-- values that were read before, in front of those that are still read
abbrev pub ahead : {A T : Type 0} → List A → Answer (List A) T → Answer (List A) T
ahead xs (Got ys rest) = Got (xs ++ ys) rest
ahead xs (Stuck left) = Stuck left
