-- How each stage from two texts to a code stops.
use Rattle.std.specs.Prelude.{◌≡◌, ℕ, List, [], Option}
use Rattle.app_model.specs.Answers as app_answers
use Rattle.application.specs.declared.app.App.{App}
use Rattle.app_model.specs.declared.build.AppFault.TheVariants.{Rule}
use Rattle.c_lex.specs.CText.{IsFirstFault}
use Rattle.c_lex.specs.PlainTokens.{PlainTokens}
use Rattle.c_lex.specs.declared.fault.LexFault.TheVariants as c_fault
use Rattle.c_parse.specs.declared.fault.ParseFault.TheVariants as parse_fault
use Rattle.c_unit.specs.declared.unit.Unit as units
use Rattle.c_parse.specs.Parsed as parsed
use Rattle.c_rules.specs.First.{IsFirst}
use Rattle.c_rules.specs.UnitRules as c_rules
use Rattle.typed_unit.specs.Plain.{PlainUnit}
use Rattle.typed_unit.specs.Typed.{typed}
use Rattle.lower.specs.LoweredCode as lowering
use Rattle.lower.specs.declared.lower.LowerFault.TheVariants as lower_fault
use Rattle.oil_text.specs.OilText.{IsRefusedFor}
use Rattle.oil_text.specs.declared.fault.OilFault.TheVariants as oil_fault
use Rattle.oil_tree.specs.declared.tree.OilTree.{OilTree}
use Rattle.answers.specs.declared.refusal.Refusal.{Refusal}
use Rattle.answers.specs.declared.refusal.Refusal.TheVariants as why
use Rattle.static_rules.specs.Rules as static_rules
use Rattle.text_stages.specs.declared.stop.Stop.{Stop}
use Rattle.text_stages.specs.declared.stop.Stop.TheVariants.{Refused, Memory}

-- by this relation of refusals, or by want of memory
abbrev pub StopsBy : (Refusal → Type 0) → Stop → Type 0
StopsBy refused (Refused refusal) = refused refusal
StopsBy refused Memory = Unit {0}

-- the OIL text isn't of the grammar
abbrev pub IsOilRefusal : List ℕ → Refusal → Type 0
IsOilRefusal oil (why.OilByte place) = IsRefusedFor oil (oil_fault.Byte place)
IsOilRefusal oil (why.OilToken place) = IsRefusedFor oil (oil_fault.Token place)
IsOilRefusal oil (why.OilEnd place) = IsRefusedFor oil (oil_fault.EndOfText place)
IsOilRefusal oil _ = ⊥

-- the tree breaks a rule
abbrev pub IsRuleRefusal : OilTree → Option (List ℕ) → Refusal → Type 0
IsRuleRefusal tree mode (why.OilRule rule place) = app_answers.IsRefusal tree mode (Rule rule place)
IsRuleRefusal tree mode _ = ⊥

-- the C text has no tokens
abbrev pub IsTokenRefusal : List ℕ → Refusal → Type 0
IsTokenRefusal c (why.CByte place) = IsFirstFault c (c_fault.Byte place)
IsTokenRefusal c (why.CDirective place) = IsFirstFault c (c_fault.Directive place)
IsTokenRefusal c (why.CNumber place) = IsFirstFault c (c_fault.Number place)
IsTokenRefusal c _ = ⊥

-- the tokens are no unit
abbrev pub IsGrammarRefusal : PlainTokens → Refusal → Type 0
IsGrammarRefusal tokens (why.CDepth place) = parsed.Refuses tokens (parse_fault.Depth place)
IsGrammarRefusal tokens (why.CToken place) = parsed.Refuses tokens (parse_fault.Token place)
IsGrammarRefusal tokens (why.CEnd place) = parsed.Refuses tokens (parse_fault.EndOfText place)
IsGrammarRefusal tokens _ = ⊥

-- a unit of C breaks no rule for an application, neither of C nor of what its bodies do
pub record KeepsRules (app : App) (unit : units.Unit) : Type 0 where
  pub accepted : c_rules.faults unit app ≡ []
  pub unbroken : static_rules.faults (typed unit app) app ≡ []

-- the first rule of C that a unit breaks, or, where it breaks none, the first of those on what its bodies do
abbrev pub BreaksRule : Refusal → App → units.Unit → Type 0
BreaksRule (why.CRule rule place) app unit = IsFirst (c_rules.faults unit app) (record { rule = rule; place = place })
BreaksRule (why.StaticRule rule place) app unit =
    (c_rules.faults unit app ≡ []) × IsFirst (static_rules.faults (typed unit app) app) (record { rule = rule; place = place })
BreaksRule _ app unit = ⊥

-- the code of a typed unit would have too many points, or else too many bits in its cells
abbrev pub IsCountRefusal : App → PlainUnit → Refusal → Type 0
IsCountRefusal app unit (why.Points number) = lowering.IsRefusal app unit (lower_fault.Points number)
IsCountRefusal app unit (why.Cells number) = lowering.IsRefusal app unit (lower_fault.Cells number)
IsCountRefusal app unit _ = ⊥
