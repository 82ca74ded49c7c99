-- How plain attributes are told apart: as a list, in which the name and the value of each stand after the nested attributes and the others.
use Rattle.std.specs.Prelude.{◌≡◌, ℕ, Bool, true, false, List, [], ◌∷◌, ◌++◌, Option, Some, None}
use Rattle.std.specs.Coded.{Coded, code_by, coded_ℕ, coded_bool, coded_list, coded_option, coded×}
use Rattle.std.proofs.Common.{refl, ap, sym, ◌∙◌}
use Rattle.std.proofs.lemmas.List.{append_assoc, append-nil}
use Rattle.chk_base.specs.declared.place.Place.{Place}
use Rattle.chk_base.specs.declared.text.Name.{Name}
use Rattle.oil_tree.specs.declared.tree.Value.{Value}
use Rattle.oil_tree.specs.declared.tree.ValueForm.{ValueForm}
use Rattle.oil_tree.specs.declared.tree.ValueForm.TheVariants as forms
use Rattle.oil_tree.specs.PlainAttributes.{PlainAttributes, NoAttribute, AttributeThen}

abbrev bits_of : ValueForm → Bool × Bool
bits_of forms.Word = (false, false)
bits_of forms.Integer = (false, true)
bits_of forms.Point = (true, false)
bits_of forms.Quoted = (true, true)

abbrev form_of : Bool × Bool → ValueForm
form_of (false, false) = forms.Word
form_of (false, true) = forms.Integer
form_of (true, false) = forms.Point
form_of (true, true) = forms.Quoted

abbrev form_back : (f : ValueForm) → form_of (bits_of f) ≡ f
form_back forms.Word = refl
form_back forms.Integer = refl
form_back forms.Point = refl
form_back forms.Quoted = refl

abbrev form_code : Coded ValueForm
form_code = code_by (Bool × Bool) (coded× coded_bool coded_bool) bits_of form_of form_back

abbrev place_code : Coded Place
place_code =
    code_by (ℕ × (ℕ × ℕ)) (coded× coded_ℕ (coded× coded_ℕ coded_ℕ)) (λ p. (p.line, (p.column, p.offset))) (λ t. record { line = t.0; column = t.1.0; offset = t.1.1 }) (λ _. refl)

abbrev name_code : Coded Name
name_code = code_by (List ℕ × Place) (coded× (coded_list coded_ℕ) place_code) (λ n. (n.text, n.place)) (λ t. record { text = t.0; place = t.1 }) (λ _. refl)

abbrev value_code : Coded Value
value_code =
    code_by (ValueForm × (Bool × (List ℕ × Place))) (coded× form_code (coded× coded_bool (coded× (coded_list coded_ℕ) place_code))) (λ v. (v.form, (v.negative, (v.text, v.place)))) (λ t. record { form = t.0; negative = t.1.0; text = t.1.1.0; place = t.1.1.1 }) (λ _. refl)

abbrev Entry : Type 0
Entry = Option (Name × Value)

abbrev entries : PlainAttributes → List Entry
entries NoAttribute = None ∷ []
entries (AttributeThen name value nested others) = entries nested ++ (entries others ++ Some (name, value) ∷ [])

-- what is made of entries, the last one first
abbrev made : List PlainAttributes → List Entry → List PlainAttributes
made done [] = done
made done (None ∷ rest) = made (NoAttribute ∷ done) rest
made (others ∷ nested ∷ done) (Some e ∷ rest) = made (AttributeThen e.0 e.1 nested others ∷ done) rest
made done (Some e ∷ rest) = done

abbrev first : List PlainAttributes → PlainAttributes
first [] = NoAttribute
first (a ∷ done) = a

made_entries : (a : PlainAttributes) (done : List PlainAttributes) (rest : List Entry) → made done (entries a ++ rest) ≡ made (a ∷ done) rest
made_entries NoAttribute done rest = refl
made_entries (AttributeThen name value nested others) done rest =
    rw (
      append_assoc (entries nested) (entries others ++ Some (name, value) ∷ []) rest,
      append_assoc (entries others) (Some (name, value) ∷ []) rest,
      made_entries nested done (entries others ++ Some (name, value) ∷ rest),
      made_entries others (nested ∷ done) (Some (name, value) ∷ rest),
    ) refl

pub given_back : (a : PlainAttributes) → first (made [] (entries a)) ≡ a
given_back a = ap (λ es. first (made [] es)) (sym (append-nil (entries a))) ∙ ap first (made_entries a [] [])

abbrev pub plain_code : Coded PlainAttributes
plain_code = code_by (List Entry) (coded_list (coded_option (coded× name_code value_code))) entries (λ es. first (made [] es)) given_back
