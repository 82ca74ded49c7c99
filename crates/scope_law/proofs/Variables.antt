-- The file-level variables of a text that breaks no C rule have lengths from 1 to 64, and begin with words of their widths.
use Rattle.std.proofs.Common.{◌≡◌, ℕ, zero, suc, ◌<◌, ◌≤◌, ◌==◌, ◌&&◌, nat_le, Bool, true, false, if◌then◌else◌, List, [], ◌∷◌, All, map, Option, Some, None, refl, sym, subst, arith, mod-lt}
use Rattle.std.specs.List.{flat_map, slice_get}
use Rattle.std.proofs.lemmas.Bool.{and_parts, leb-true}
use Rattle.std.proofs.lemmas.List.Elements.{All-nil, All-cons, All-push}
use Rattle.std.proofs.lemmas.Option.{none-some, same_Some}
use Rattle.chk_base.specs.declared.word.Width.{Width}
use Rattle.chk_base.specs.declared.word.Width.TheVariants as w
use Rattle.chk_base.specs.Widths.{limit_of}
use Rattle.application.specs.declared.app.App.{App}
use Rattle.c_unit.specs.declared.unit.Constant.{Constant}
use Rattle.c_unit.specs.declared.unit.External.{External}
use Rattle.c_unit.specs.declared.unit.External.TheVariants as e
use Rattle.c_unit.specs.declared.unit.Unit.{Unit as WrittenUnit}
use Rattle.c_unit.specs.declared.unit.Variable.{Variable}
use Rattle.c_unit.specs.declared.unit.Variable.TheVariants as v
use Rattle.c_rules.specs.Files.{Known, known_of, nothing_of}
use Rattle.c_rules.specs.First.{when}
use Rattle.c_rules.specs.UnitRules.{is_no_length, surplus_faults, variable_faults, declaration_faults, external_faults, names_faults, faults}
use Rattle.typed_unit.specs.declared.typed.CType.{CType}
use Rattle.typed_unit.specs.declared.typed.GlobalVar.{GlobalVar}
use Rattle.typed_unit.specs.Conversions.{ctype_named, word_in}
use Rattle.typed_unit.specs.Plain.{PlainUnit}
use Rattle.typed_unit.specs.TypedExpressions.{length_of}
use Rattle.typed_unit.specs.Typed.{constant_word, start_of, starts_of, global_of, global_declared, globals_in, typed, Fits}
use Rattle.scope_law.specs.Variables.{IsLengthFit, IsVariableFit, AreVariablesFit}
use Rattle.scope_law.proofs.Parts.{front_none, back_none, each_none, is_met, not_not, joined_at}

-- ---- start values
-- a word that is converted to a type is within its width
word_within : (t : CType) (n : ℕ) → word_in t n < limit_of t.width
word_within t n = by t.width
  where
    truth : (b : Bool) → (if b then 0 else 1) < 2
    truth true = omega arith
    truth false = omega arith

    by : (x : Width) → word_in (record t { width = x }) n < limit_of x
    by w.W1 = truth (n == 0)
    by w.W8 = mod-lt n (omega arith)
    by w.W16 = mod-lt n (omega arith)
    by w.W32 = mod-lt n (omega arith)

zero_within : (x : Width) → 0 < limit_of x
zero_within w.W1 = omega arith
zero_within w.W8 = omega arith
zero_within w.W16 = omega arith
zero_within w.W32 = omega arith

start_within : (t : CType) (c : Option Constant) → start_of t c < limit_of t.width
start_within t None = zero_within t.width
start_within t (Some c) = word_within t (constant_word c)

starts_within : (t : CType) (cs : List Constant) (n : ℕ) → All (λ k. k < limit_of t.width) (starts_of t cs n)
starts_within t cs zero = All-nil (λ k. k < limit_of t.width)
starts_within t cs (suc n) =
    All-push (λ k. k < limit_of t.width) (starts_of t cs n) (start_of t (slice_get cs n)) (starts_within t cs n) (start_within t (slice_get cs n))

-- ---- lengths
length_within : (n : ℕ) → is_no_length n ≡ false → IsLengthFit (Some (length_of n))
length_within n none =
    let both = and_parts (nat_le 1 n) (nat_le n 64) (not_not (nat_le 1 n && nat_le n 64) none) in
    let low : 1 ≤ n = leb-true 1 n both.0 in
    (omega arith, omega arith)

variable_fits : (t : CType) (x : Variable) → variable_faults x ≡ [] → IsVariableFit (global_of t x)
variable_fits t (v.Scalar name start) none = record {
  len = tt;
  start = All-cons (λ k. k < limit_of t.width) (start_of t start) [] (start_within t start) (All-nil (λ k. k < limit_of t.width));
}
variable_fits t (v.Array name len constants) none = record {
  len = length_within len.bits (is_met (is_no_length len.bits) 6 len.place (front_none (when (is_no_length len.bits) 6 len.place) (surplus_faults (slice_get constants len.bits)) none));
  start = starts_within t constants (length_of len.bits);
}

-- ---- the whole text
mapped_at : {X Y : Type 0} (f : X → Y) (xs : List X) (i : ℕ) (y : Y) → slice_get (map f xs) i ≡ Some y → (x : X) × (slice_get xs i ≡ Some x) × (f x ≡ y)
mapped_at f [] i y at = absurd (none-some y at)
mapped_at f (x ∷ xs) zero y at = (x, refl, same_Some (f x) y at)
mapped_at f (x ∷ xs) (suc i) y at = mapped_at f xs i y at

global_fits : (known : Known) (x : External) (i : ℕ) (g : GlobalVar) → external_faults known x ≡ [] → slice_get (globals_in x) i ≡ Some g → IsVariableFit g
unfolding external_faults
global_fits known (e.Variables ds) i g none at =
    let d = mapped_at global_declared ds i g at in
    subst IsVariableFit d.2 (variable_fits (ctype_named d.0.type_name) d.0.variable (each_none declaration_faults ds i d.0 none d.1))
global_fits known (e.DeclareTask name) i g none at = absurd (none-some g at)
global_fits known (e.DeclareResource name) i g none at = absurd (none-some g at)
global_fits known (e.Entity kind name body close) i g none at = absurd (none-some g at)
global_fits known (e.Function f) i g none at = absurd (none-some g at)
global_fits known (e.Prototype s) i g none at = absurd (none-some g at)

typed_variables : (app : App) (unit : WrittenUnit) → faults unit app ≡ [] → AreVariablesFit (typed unit app).globals
unfolding typed faults
typed_variables app unit none i g at =
    let met = back_none (names_faults (nothing_of app) unit.externals) (flat_map (external_faults (known_of app unit)) unit.externals) none in
    let x = joined_at globals_in unit.externals i g at in
    global_fits (known_of app unit) x.from x.inner g (each_none (external_faults (known_of app unit)) unit.externals x.at x.from met x.listed) x.is

pub variables : (app : App) (u : PlainUnit) → Fits app u → AreVariablesFit u.globals
variables app u h = subst (λ (x : PlainUnit). AreVariablesFit x.globals) (sym h.is_typed) (typed_variables app h.unit h.accepted)
