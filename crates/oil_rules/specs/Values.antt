-- Values of attributes (OIL 2.5, 4).
use Rattle.std.specs.Prelude.{ℕ, ◌+◌, ◌-◌, ◌*◌, Bool, true, false, not, ◌&&◌, ◌||◌, ◌==◌, nat_lt, nat_le, if◌then◌else◌, List, [], ◌∷◌, drop, fold, codes}
use Rattle.std.specs.Str.{bytes_eq}
use Rattle.oil_tree.specs.declared.tree.Value.{Value}
use Rattle.oil_tree.specs.declared.tree.ValueForm.{ValueForm}
use Rattle.oil_tree.specs.declared.tree.ValueForm.TheVariants as forms
use Rattle.oil_rules.specs.declared.role.Role.{Role}
use Rattle.oil_rules.specs.declared.role.Role.TheVariants as roles

abbrev pub is_word_form : ValueForm → Bool
is_word_form forms.Word = true
is_word_form _ = false

abbrev pub is_integer_form : ValueForm → Bool
is_integer_form forms.Integer = true
is_integer_form _ = false

-- it is a name
abbrev pub is_name : Value → Bool
is_name v = is_word_form v.form

-- it is this word
unfoldable pub is_word : Value → List ℕ → Bool
is_word v word = is_word_form v.form && bytes_eq v.text word

-- it is an integer
abbrev pub is_integer : Value → Bool
is_integer v = is_integer_form v.form

-- the value of a decimal or hexadecimal digit
abbrev pub digit_value : ℕ → ℕ
digit_value b = if nat_lt b 58 then b - 48 else (if nat_lt b 71 then b - 55 else b - 87)

-- the number that digits stand for in this base
unfoldable pub number_in : ℕ → List ℕ → ℕ
number_in base digits = fold (λ n b. n * base + digit_value b) 0 digits

-- hexadecimal digits follow
abbrev pub is_hexadecimal : List ℕ → Bool
is_hexadecimal (first ∷ mark ∷ digits) = (first == 48) && ((mark == 120) || (mark == 88))
is_hexadecimal _ = false

-- the number that an integer stands for, without its sign
unfoldable pub number_of : List ℕ → ℕ
number_of text = if is_hexadecimal text then number_in 16 (drop 2 text) else number_in 10 text

-- it is an integer from `least` to `greatest`; one with the sign `-` is below each range, unless it is 0
unfoldable pub is_between : ℕ → ℕ → Value → Bool
is_between least greatest v =
    is_integer v && (nat_le least (number_of v.text) && (nat_le (number_of v.text) greatest && (not v.negative || (number_of v.text == 0))))

-- the value is of the form that its attribute asks for
unfoldable pub has_form : Role → Value → Bool
has_form roles.Priority v = is_integer v
has_form roles.Activation v = is_integer v
has_form roles.Category v = is_integer v
has_form roles.Schedule v = is_word v (codes "NON") || is_word v (codes "FULL")
has_form roles.Status v = is_word v (codes "STANDARD") || is_word v (codes "EXTENDED")
has_form roles.ResourceProperty v =
    is_word v (codes "STANDARD") || (is_word v (codes "LINKED") || is_word v (codes "INTERNAL"))
has_form roles.Resource v = is_name v
has_form roles.Event v = true
has_form roles.Message v = true
has_form roles.Vendor v = true
has_form _ v = is_word v (codes "TRUE") || is_word v (codes "FALSE")
