-- The tokens of a text that the grammar takes for names are spelled as names.
use Rattle.std.proofs.Common.{◌≡◌, ℕ, Bool, true, false, ◌||◌, ◌==◌, cond, Option, Some, None, List, [], ◌∷◌, ◌++◌, refl, sym, subst, ◌∙◌}
use Rattle.std.proofs.lemmas.Bool.{and_parts, and_from, false≢true}
use Rattle.std.specs.List.{AllByRecursion, list_all}
use Rattle.cert_form.specs.Words as words
use Rattle.chk_base.specs.declared.place.Place.{Place}
use Rattle.chk_base.specs.Places.{place_after}
use Rattle.grammar.specs.Grammar.{has}
use Rattle.oil_text.specs.Bytes.{is_blank, is_digit, is_letter, is_of_name, mark_of}
use Rattle.oil_text.specs.declared.token.Kind.TheVariants as kinds
use Rattle.oil_text.specs.declared.token.Mark.{Mark}
use Rattle.oil_text.specs.declared.token.Mark.TheVariants.{Equals, Semicolon, OpeningBrace, ClosingBrace, Colon, OpeningBracket, ClosingBracket, Comma, Dot, Less, Greater, Plus, Minus}
use Rattle.oil_text.specs.declared.token.Piece.{Piece}
use Rattle.oil_text.specs.declared.token.Piece.TheVariants.{Skipped, Spelled}
use Rattle.oil_text.specs.declared.token.Token.{Token}
use Rattle.oil_text.specs.OilGrammar.{class_of, class_of_kind, class_of_mark, names}
use Rattle.oil_text.specs.OilTokens.{AreTokensOf, text_of, token_of, tokens_of}
use Rattle.oil_text.specs.Pieces.{given, is_comment, is_end, is_include, is_integer, is_point, is_string_end, mark_piece, name_kind, number_piece, piece_of}

-- where the token is of a class of names, its text is a name
abbrev pub IsSpelled : Token → Type 0
IsSpelled t = has names (class_of t) ≡ true → words.is_name t.text ≡ true

abbrev pub AreSpelled : List Token → Type 0
AreSpelled tokens = AllByRecursion IsSpelled tokens

pub all_append : {A : Type 0} (P : A → Type 0) (xs ys : List A) → AllByRecursion P xs → AllByRecursion P ys → AllByRecursion P (xs ++ ys)
all_append P [] ys p q = q
all_append P (x ∷ xs) ys p q = (p.0, all_append P xs ys p.1 q)

pub all_parts : {A : Type 0} (P : A → Type 0) (xs ys : List A) → AllByRecursion P (xs ++ ys) → AllByRecursion P xs × AllByRecursion P ys
all_parts P [] ys p = (tt, p)
all_parts P (x ∷ xs) ys p = let q = all_parts P xs ys p.1 in ((p.0, q.0), q.1)

-- ---- pieces

-- bytes of names
of_name : (bs : List ℕ) → list_all is_of_name bs ≡ true → words.are_of_name bs ≡ true
of_name [] e = refl
of_name (b ∷ bs) e =
    let p = and_parts (is_of_name b) (list_all is_of_name bs) e in
    and_from (words.is_first_of_name b || words.is_digit b) (words.are_of_name bs) p.0 (of_name bs p.1)

-- the words that the grammar names are names as well: each has its bytes as its text
text_kept : (x y z : Bool) (bytes : List ℕ) → text_of (cond x kinds.Version (cond y kinds.Implementation (cond z kinds.Cpu kinds.OtherName))) bytes ≡ bytes
text_kept true y z bytes = refl
text_kept false true z bytes = refl
text_kept false false true bytes = refl
text_kept false false false bytes = refl

-- if these bytes are a piece of a class of names, its text is a name
abbrev IsRight : List ℕ → Option Piece → Type 0
IsRight bytes None = Unit {0}
IsRight bytes (Some Skipped) = Unit {0}
IsRight bytes (Some (Spelled kind)) = has names (class_of_kind kind) ≡ true → words.is_name (text_of kind bytes) ≡ true

right_cond : (bytes : List ℕ) (t : Bool) (x y : Option Piece) → (t ≡ true → IsRight bytes x) → (t ≡ false → IsRight bytes y) → IsRight bytes (cond t x y)
right_cond bytes true x y p q = p refl
right_cond bytes false x y p q = q refl

right_given : (bytes : List ℕ) (t : Bool) (piece : Piece) → (t ≡ true → IsRight bytes (Some piece)) → IsRight bytes (given t piece)
right_given bytes true piece p = p refl
right_given bytes false piece p = tt

-- no mark is a name
no_mark : (m : Mark) → has names (class_of_mark m) ≡ false
no_mark Equals = refl
no_mark Semicolon = refl
no_mark OpeningBrace = refl
no_mark ClosingBrace = refl
no_mark Colon = refl
no_mark OpeningBracket = refl
no_mark ClosingBracket = refl
no_mark Comma = refl
no_mark Dot = refl
no_mark Less = refl
no_mark Greater = refl
no_mark Plus = refl
no_mark Minus = refl

right_mark : (bytes : List ℕ) (o : Option Mark) (bs : List ℕ) → IsRight bytes (mark_piece o bs)
right_mark bytes None bs = tt
right_mark bytes (Some m) bs = right_given bytes (is_end bs) (Spelled (kinds.Mark m)) (λ _ e. absurd (false≢true (sym (no_mark m) ∙ e)))

right_number : (bytes bs : List ℕ) → IsRight bytes (number_piece bs)
right_number bytes bs =
    right_cond bytes (is_integer bs) (Some (Spelled kinds.Integer)) (given (is_point bs) (Spelled kinds.Point)) (λ _ e. absurd (false≢true e))
    (λ _. right_given bytes (is_point bs) (Spelled kinds.Point) (λ _ e. absurd (false≢true e)))

-- a letter, and then bytes of names
right_name : (b : ℕ) (bs : List ℕ) → is_letter b ≡ true → list_all is_of_name bs ≡ true → IsRight (b ∷ bs) (Some (Spelled (name_kind (b ∷ bs))))
right_name b bs first others e =
    subst (λ text. words.is_name text ≡ true) (sym (text_kept _ _ _ (b ∷ bs)))
    (and_from (words.is_first_of_name b) (words.are_of_name bs) first (of_name bs others))

right_piece : (bytes : List ℕ) → IsRight bytes (piece_of bytes)
right_piece [] = tt
right_piece (b ∷ bs) =
    right_cond (b ∷ bs) (is_blank b) _ _ (λ _. right_given (b ∷ bs) (is_end bs) Skipped (λ _. tt))
    (λ _. right_cond (b ∷ bs) (is_letter b) _ _ (λ first. right_given (b ∷ bs) (list_all is_of_name bs) (Spelled (name_kind (b ∷ bs))) (right_name b bs first))
    (λ _. right_cond (b ∷ bs) (is_digit b) _ _ (λ _. right_number (b ∷ bs) (b ∷ bs))
    (λ _. right_cond (b ∷ bs) (b == 34) _ _ (λ _. right_given (b ∷ bs) (is_string_end bs) (Spelled kinds.Quoted) (λ _ e. absurd (false≢true e)))
    (λ _. right_cond (b ∷ bs) (b == 35) _ _ (λ _. right_given (b ∷ bs) (is_include bs) (Spelled kinds.Include) (λ _ e. absurd (false≢true e)))
    (λ _. right_cond (b ∷ bs) (b == 47) _ _ (λ _. right_given (b ∷ bs) (is_comment bs) Skipped (λ _. tt))
    (λ _. right_mark (b ∷ bs) (mark_of b) bs))))))

-- ---- tokens

token_spelled : (o : Option Piece) (bytes : List ℕ) (place : Place) → IsRight bytes o → AreSpelled (token_of o bytes place)
token_spelled None bytes place h = tt
token_spelled (Some Skipped) bytes place h = tt
token_spelled (Some (Spelled kind)) bytes place h = (h, tt)

tokens_spelled : (before : List ℕ) (pieces : List (List ℕ)) → AreSpelled (tokens_of before pieces)
tokens_spelled before [] = tt
tokens_spelled before (bytes ∷ more) =
    all_append IsSpelled (token_of (piece_of bytes) bytes (place_after before)) (tokens_of (before ++ bytes) more)
    (token_spelled (piece_of bytes) bytes (place_after before) (right_piece bytes)) (tokens_spelled (before ++ bytes) more)

-- the tokens of a text
pub text_spelled : (text : List ℕ) (tokens : List Token) → AreTokensOf text tokens → AreSpelled tokens
text_spelled text tokens are = subst AreSpelled are.tokens_are (tokens_spelled [] are.pieces)
