-- Texts: their tokens, and what a reader answers.
use Rattle.std.specs.Prelude.{◌≡◌, ℕ, Bool, false, cond, ◌||◌, eqb, List, [], ◌∷◌, Result, Ok, Err, ◌++◌, ◌+◌}
use Rattle.std.specs.Str.{bytes_eq}
use Rattle.format.specs.Format.{Answer, Got, Stuck, Format}
use Rattle.cert_form.specs.Words.{Token, is_first_of_name, is_digit}
use Rattle.cert_form.specs.declared.one_token.ReadError.{ReadError}
use Rattle.cert_form.specs.declared.one_token.ReadError.TheVariants.{Memory, At}

-- letters, digits, `_` and `-`
abbrev pub is_of_word : ℕ → Bool
is_of_word b = is_first_of_name b || (is_digit b || eqb b 45)

abbrev pub begins_word : Token → Bool
begins_word [] = false
begins_word (b ∷ bs) = is_of_word b

-- one more byte before tokens: it joins the first of them if both are of a word
abbrev pub join : ℕ → List Token → List Token
join b [] = (b ∷ []) ∷ []
join b (t ∷ ts) = cond (begins_word t) ((b ∷ t) ∷ ts) ((b ∷ []) ∷ (t ∷ ts))

-- The tokens of a text: each longest run of letters, digits, `_` and `-`, and each other byte.
unfoldable pub tokens : List ℕ → List Token
tokens [] = []
tokens (b ∷ bs) = cond (is_of_word b) (join b (tokens bs)) ((b ∷ []) ∷ tokens bs)

-- the longest front of bytes of a word
abbrev pub run : List ℕ → List ℕ
run [] = []
run (b ∷ bs) = cond (is_of_word b) (b ∷ run bs) []

-- A reader answers what reading gives, unless memory ran out.
abbrev pub Gives : {A V : Type 0} → Format A Token → (V → A) → (V → List ℕ) → Result V ReadError → List ℕ → Type 0
Gives F value left (Ok x) text = F.read (tokens text) ≡ Got (value x) (tokens (left x))
Gives F value left (Err Memory) text = Unit {0}
Gives F value left (Err (At rest)) text = F.read (tokens text) ≡ Stuck (tokens rest.now)

-- the same of another way of reading
abbrev pub GivesBy : {A V : Type 0} → (List Token → Answer A Token) → (V → A) → (V → List ℕ) → Result V ReadError → List ℕ → Type 0
GivesBy read value left (Ok x) text = read (tokens text) ≡ Got (value x) (tokens (left x))
GivesBy read value left (Err Memory) text = Unit {0}
GivesBy read value left (Err (At rest)) text = read (tokens text) ≡ Stuck (tokens rest.now)

abbrev pub starts : Token → List Token → Bool
starts w [] = false
starts w (t ∷ ts) = bytes_eq t w

-- tokens one after another
abbrev pub concat : List Token → List ℕ
concat [] = []
concat (t ∷ ts) = t ++ concat ts

-- the bytes that a certificate's text may have
abbrev pub is_byte : ℕ → Bool
is_byte b = is_of_word b || (eqb b 32 || eqb b 10)

-- line and column behind a text, both from 1
abbrev pub place_from : ℕ × ℕ → List ℕ → ℕ × ℕ
place_from p [] = p
place_from p (b ∷ bs) = place_from (cond (eqb b 10) (p.0 + 1, 1) (p.0, p.1 + 1)) bs

abbrev pub place_after : List ℕ → ℕ × ℕ
place_after bs = place_from (1, 1) bs
