-- Expressions that break no rule, where what names mean is right.
use Rattle.std.proofs.Common.{◌≡◌, ℕ, Bool, true, false, not, is_some, if◌then◌else◌, List, [], ◌++◌, Option, Some, None, true≢false, slice_get, sym, ap, ◌∙◌, subst}
use Rattle.chk_base.specs.declared.place.Place.{Place}
use Rattle.c_unit.specs.declared.expression.BinaryOperator.{BinaryOperator}
use Rattle.c_unit.specs.declared.expression.Expression.{Expression, ind-Expression, map-Expression, roll-Expression, fold-roll-Expression}
use Rattle.c_unit.specs.declared.expression.Expression.TheOpen.{Expression-F}
use Rattle.c_rules.specs.declared.first.Fault.{Fault}
use Rattle.c_rules.specs.declared.meaning.Meaning.{Meaning}
use Rattle.c_rules.specs.declared.meaning.Meaning.TheVariants as m
use Rattle.c_rules.specs.First.{when}
use Rattle.c_rules.specs.Rules.{Means, use_faults, expression_layer, expression_faults, optional_faults}
use Rattle.typed_unit.specs.declared.typed.CType.{CType}
use Rattle.typed_unit.specs.declared.typed.GlobalVar.{GlobalVar}
use Rattle.typed_unit.specs.declared.manner.Manner.{Manner}
use Rattle.typed_unit.specs.declared.manner.Manner.TheVariants as j
use Rattle.typed_unit.specs.Plain.{PlainExpr, Conversion, PlainUnit, type_of}
use Rattle.typed_unit.specs.Conversions.{same_ctype, place_of, converted, promotion, promoted, common, joined, joining, joined_as, binary_of, conditional_of}
use Rattle.typed_unit.specs.TypedStatements.{optional_of}
use Rattle.typed_unit.specs.TypedExpressions.{variable_of, array_length, element_of, typed_layer, typed_expression}
use Rattle.lower_law.specs.Named.{IsLength}
use Rattle.lower_law.specs.Scoped.{IsScalar, IsScoped, IfScoped}
use Rattle.scope_law.proofs.Meant.{front_none, back_none, unbroken, IsThere, IsFound, IsMeant}

-- a variable without a length is a scalar, and one with a length an array
pub scalar : (o : Option GlobalVar) (len : Option ℕ) → IsThere (IsFound len) o → is_some len ≡ false → IsScalar o
scalar None len f e = absurd f
scalar (Some g) None f e = f
scalar (Some g) (Some n) f e = absurd (true≢false e)

pub array : (o : Option GlobalVar) (len : Option ℕ) → IsThere (IsFound len) o → not (is_some len) ≡ false → IsLength o (array_length len)
array None len f e = absurd f
array (Some g) None f e = absurd (true≢false e)
array (Some g) (Some n) f e = f

-- conversions and operators keep the names of their operands
module _ (globals : List GlobalVar) (ready : ℕ → Bool) where
  wrapped : (b : Bool) (place : Place) (t : CType) (e : PlainExpr) → IsScoped globals ready e → IsScoped globals ready (if b then e else Conversion place t e)
  wrapped true place t e h = h
  wrapped false place t e h = h

  pub converted_scoped : (t : CType) (e : PlainExpr) → IsScoped globals ready e → IsScoped globals ready (converted t e)
  converted_scoped t e h = wrapped (same_ctype t (type_of e)) (place_of e) t e h

  pub promoted_scoped : (e : PlainExpr) → IsScoped globals ready e → IsScoped globals ready (promoted e)
  promoted_scoped e h = converted_scoped (promotion (type_of e)) e h

  joined_scoped : (t : CType) (e : PlainExpr) → IsScoped globals ready e → IsScoped globals ready (joined t e)
  joined_scoped t e h = converted_scoped t (promoted e) (promoted_scoped e h)

  by_manner : (manner : Manner) (place : Place) (op : BinaryOperator) (a b : PlainExpr) → IsScoped globals ready a → IsScoped globals ready b → IsScoped globals ready (joined_as manner place op a b)
  by_manner j.Arithmetic place op a b p q = (joined_scoped (common (type_of a) (type_of b)) a p, joined_scoped (common (type_of a) (type_of b)) b q)
  by_manner j.Comparing place op a b p q = (joined_scoped (common (type_of a) (type_of b)) a p, joined_scoped (common (type_of a) (type_of b)) b q)
  by_manner j.Shifting place op a b p q = (promoted_scoped a p, promoted_scoped b q)
  by_manner j.Deciding place op a b p q = (promoted_scoped a p, promoted_scoped b q)

  pub binary_scoped : (place : Place) (op : BinaryOperator) (a b : PlainExpr) → IsScoped globals ready a → IsScoped globals ready b → IsScoped globals ready (binary_of place op a b)
  unfolding binary_of
  binary_scoped place op a b p q = by_manner (joining op) place op a b p q

  conditional_scoped : (place : Place) (c a b : PlainExpr) → IsScoped globals ready c → IsScoped globals ready a → IsScoped globals ready b → IsScoped globals ready (conditional_of place c a b)
  unfolding conditional_of
  conditional_scoped place c a b o p q =
      (promoted_scoped c o, joined_scoped (common (type_of a) (type_of b)) a p, joined_scoped (common (type_of a) (type_of b)) b q)

module _ (u : PlainUnit) (locals : ℕ) (ready : ℕ → Bool) where
  -- the value of what has this meaning
  pub value_scoped : (meaning : Meaning) (at place : Place) → IsMeant u locals ready meaning → use_faults false meaning place ≡ [] → IsScoped u.globals ready (variable_of at meaning)
  unfolding use_faults
  value_scoped (m.Local l) at place s h = s.0
  value_scoped (m.Variable v) at place s h = scalar (slice_get u.globals v.number) v.len s (unbroken (is_some v.len) 10 place (front_none (when (is_some v.len) 10 place) [] h))
  value_scoped _ at place s h = tt

  -- an element of what has this meaning
  element_scoped : (meaning : Meaning) (at place : Place) (index : PlainExpr) → IsMeant u locals ready meaning → use_faults true meaning place ≡ [] → IsScoped u.globals ready index → IsScoped u.globals ready (element_of at meaning index)
  unfolding use_faults
  element_scoped (m.Variable v) at place index s h q =
      (array (slice_get u.globals v.number) v.len s (unbroken (not (is_some v.len)) 10 place (front_none (when (not (is_some v.len)) 10 place) [] h)), promoted_scoped u.globals ready index q)
  element_scoped _ at place index s h q = tt

  module _ (means : Means) (meant : (name : List ℕ) → IsMeant u locals ready (means name)) where
    -- an expression that breaks no rule is right
    abbrev IsFine : Expression → Type 0
    IsFine e = expression_faults e means ≡ [] → IsScoped u.globals ready (typed_expression e means)

    -- the same of one level of an expression
    abbrev IsLayerFine : Expression-F Expression → Type 0
    IsLayerFine x = expression_layer (map-Expression Expression (Means → List Fault) expression_faults x) means ≡ [] → IsScoped u.globals ready (typed_layer (map-Expression Expression (Means → PlainExpr) typed_expression x) means)

    layer_fine : (y : Expression-F ((e : Expression) × IsFine e)) → IsLayerFine (map-Expression ((e : Expression) × IsFine e) Expression (λ e. e.0) y)
    layer_fine (Expression-F.Number n) h = tt
    layer_fine (Expression-F.Truth place value) h = tt
    layer_fine (Expression-F.Variable name) h = value_scoped (means name.text) name.place name.place (meant name.text) h
    layer_fine (Expression-F.Element name i) h =
        let front = front_none (use_faults true (means name.text) name.place) (expression_faults i.0 means) h in
        let back = back_none (use_faults true (means name.text) name.place) (expression_faults i.0 means) h in
        element_scoped (means name.text) name.place name.place (typed_expression i.0 means) (meant name.text) front (i.1 back)
    layer_fine (Expression-F.Parenthesis place a) h = a.1 h
    layer_fine (Expression-F.Unary place op a) h = promoted_scoped u.globals ready (typed_expression a.0 means) (a.1 h)
    layer_fine (Expression-F.Cast place to a) h = a.1 h
    layer_fine (Expression-F.Binary place op a b) h =
        let front = front_none (expression_faults a.0 means) (expression_faults b.0 means) h in
        let back = back_none (expression_faults a.0 means) (expression_faults b.0 means) h in
        binary_scoped u.globals ready place op (typed_expression a.0 means) (typed_expression b.0 means) (a.1 front) (b.1 back)
    layer_fine (Expression-F.Conditional place c a b) h =
        let front = front_none (expression_faults c.0 means) (expression_faults a.0 means ++ expression_faults b.0 means) h in
        let back = back_none (expression_faults c.0 means) (expression_faults a.0 means ++ expression_faults b.0 means) h in
        let one = front_none (expression_faults a.0 means) (expression_faults b.0 means) back in
        let two = back_none (expression_faults a.0 means) (expression_faults b.0 means) back in
        conditional_scoped u.globals ready place (typed_expression c.0 means) (typed_expression a.0 means) (typed_expression b.0 means) (c.1 front) (a.1 one) (b.1 two)

    rolled_fine : (x : Expression-F Expression) → IsLayerFine x → IsFine (roll-Expression x)
    rolled_fine x f h =
        subst (λ g. IsScoped u.globals ready (g means)) (sym (fold-roll-Expression (Means → PlainExpr) typed_layer x))
        (f (ap (λ g. g means) (sym (fold-roll-Expression (Means → List Fault) expression_layer x)) ∙ h))

    -- an expression that breaks no rule
    pub expression_scoped : (e : Expression) → IsFine e
    expression_scoped = ind-Expression IsFine (λ x y is. rolled_fine x (subst IsLayerFine is (layer_fine y)))

    pub optional_scoped : (o : Option Expression) → optional_faults o means ≡ [] → IfScoped u.globals ready (optional_of o means)
    optional_scoped None h = tt
    optional_scoped (Some e) h = expression_scoped e h
