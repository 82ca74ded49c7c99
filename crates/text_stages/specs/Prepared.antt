-- What two texts lead to: an application and its code, or the refusal of the first stage that takes them not.
use Rattle.std.specs.Prelude.{◌≡◌, ℕ, Bool, true, false, ◌&&◌, if◌then◌else◌, List, [], ◌∷◌, Option, Some, None}
use Rattle.app_model.specs.Answers as app_answers
use Rattle.app_model.specs.Application.{application}
use Rattle.app_model.specs.declared.build.AppFault.TheVariants.{Rule}
use Rattle.application.specs.declared.app.App.{App}
use Rattle.c_lex.specs.CText.{IsCTokens, IsFirstFault}
use Rattle.c_lex.specs.PlainTokens.{PlainTokens}
use Rattle.c_lex.specs.declared.fault.LexFault.TheVariants as c_fault
use Rattle.c_lex.specs.declared.token.Token.{Token}
use Rattle.c_lex.specs.declared.token.TokenKind.{TokenKind}
use Rattle.c_lex.specs.declared.token.TokenKind.TheVariants as kinds
use Rattle.c_unit.specs.declared.unit.Unit as units
use Rattle.c_parse.specs.Parsed as parsed
use Rattle.c_rules.specs.Meanings.{is_input_name}
use Rattle.typed_unit.specs.Typed.{typed}
use Rattle.typed_unit.specs.Views.{unit_of}
use Rattle.chk_base.specs.declared.place.Place.{Place}
use Rattle.lower.specs.LoweredCode.{IsLowered}
use Rattle.oil_rules.specs.Rules.{faults}
use Rattle.oil_text.specs.OilText.{IsOilText, IsRefusedFor}
use Rattle.oil_text.specs.declared.fault.OilFault.TheVariants as oil_fault
use Rattle.oil_tree.specs.declared.tree.OilTree.{OilTree}
use Rattle.answers.specs.declared.refusal.Refusal.{Refusal}
use Rattle.answers.specs.declared.refusal.Refusal.TheVariants as why
use Rattle.step_ir.specs.declared.code.Code.{Code}
use Rattle.text_stages.specs.Limits.{IsLimitRefusal, IsWithinLimits}
use Rattle.text_stages.specs.Stages.{StopsBy, BreaksRule, IsCountRefusal, IsGrammarRefusal, KeepsRules}
use Rattle.text_stages.specs.declared.read.Texts.{Texts}
use Rattle.text_stages.specs.declared.stop.Stop.{Stop}

-- the tree of the OIL text, which breaks no rule in this mode, and the application that it describes
pub record IsApp (oil : List ℕ) (mode : Option (List ℕ)) (tree : OilTree) (app : App) : Type 0 where
  pub tree_is : IsOilText oil tree
  pub app_is : app ≡ application tree mode
  pub accepted : faults tree mode ≡ []

-- a token of this kind is a name
abbrev pub is_name : TokenKind → Bool
is_name kinds.Name = true
is_name _ = false

-- a token is the name `oschk_input`
abbrev pub is_input : Token → Bool
is_input token = is_name token.kind && is_input_name token.text

-- the place of the first token that is the name `oschk_input`, if there is one
abbrev pub first_input : List Token → Option Place
first_input [] = None
first_input (token ∷ tokens) = if is_input token then Some token.place else first_input tokens

-- both texts are read: an application, and the typed form of a unit of C that breaks no rule, with the place of the first name `oschk_input`
pub record IsRead (oil c : List ℕ) (mode : Option (List ℕ)) (texts : Texts) : Type 0 where
  pub tree : OilTree
  pub app_is : IsApp oil mode tree texts.app
  pub tokens : PlainTokens
  pub tokens_are : IsCTokens c tokens
  pub unit : units.Unit
  pub unit_is : parsed.IsUnitOf tokens unit
  pub rules : KeepsRules texts.app unit
  pub typed_is : unit_of texts.unit ≡ typed unit texts.app
  pub input_is : texts.input ≡ first_input tokens.items

-- both texts are taken, and mean this application and this code
pub record IsPrepared (oil c : List ℕ) (mode : Option (List ℕ)) (app : App) (code : Code) : Type 0 where
  pub tree : OilTree
  pub app_is : IsApp oil mode tree app
  pub tokens : PlainTokens
  pub tokens_are : IsCTokens c tokens
  pub unit : units.Unit
  pub unit_is : parsed.IsUnitOf tokens unit
  pub rules : KeepsRules app unit
  pub lowered : IsLowered app (typed unit app) code

-- both texts are taken for a run of at most so many turns: they mean this application and this code, the name `oschk_input` stands nowhere, and the code is within the limits of the run
pub record IsTakenForRun (oil c : List ℕ) (mode : Option (List ℕ)) (turns : ℕ) (app : App) (code : Code) : Type 0 where
  pub prepared : IsPrepared oil c mode app code
  pub no_input : first_input prepared.tokens.items ≡ None
  pub within : IsWithinLimits turns code

-- the OIL text describes an application
abbrev pub HasApp : List ℕ → Option (List ℕ) → Type 0
HasApp oil mode = (tree : OilTree) × (app : App) × IsApp oil mode tree app

-- the C text has tokens, of which this is so
abbrev pub HasTokens : List ℕ → (PlainTokens → Type 0) → Type 0
HasTokens c holds = (tokens : PlainTokens) × IsCTokens c tokens × holds tokens

-- the texts are an application, and tokens that are a unit of C, of which this is so
pub record AreRead (oil c : List ℕ) (mode : Option (List ℕ)) (holds : App → PlainTokens → units.Unit → Type 0) : Type 0 where
  pub tree : OilTree
  pub app : App
  pub app_is : IsApp oil mode tree app
  pub tokens : PlainTokens
  pub tokens_are : IsCTokens c tokens
  pub unit : units.Unit
  pub unit_is : parsed.IsUnitOf tokens unit
  pub so : holds app tokens unit

-- a unit keeps the rules, and its code would be too large
pub record IsTooLarge (refusal : Refusal) (app : App) (unit : units.Unit) : Type 0 where
  pub rules : KeepsRules app unit
  pub count : IsCountRefusal app (typed unit app) refusal

-- a unit keeps the rules, and in its tokens the name `oschk_input` stands first at this place
pub record HasInputAt (place : Place) (app : App) (tokens : PlainTokens) (unit : units.Unit) : Type 0 where
  pub rules : KeepsRules app unit
  pub input : first_input tokens.items ≡ Some place

-- the name `oschk_input` stands nowhere in tokens, and the code of their unit would be too large
pub record IsTooLargeForRun (refusal : Refusal) (app : App) (tokens : PlainTokens) (unit : units.Unit) : Type 0 where
  pub no_input : first_input tokens.items ≡ None
  pub large : IsTooLarge refusal app unit

-- the texts mean a code, the name `oschk_input` stands nowhere, and the code is past a limit of a run of at most so many turns
pub record IsPastLimit (oil c : List ℕ) (mode : Option (List ℕ)) (turns : ℕ) (refusal : Refusal) : Type 0 where
  pub app : App
  pub code : Code
  pub prepared : IsPrepared oil c mode app code
  pub no_input : first_input prepared.tokens.items ≡ None
  pub past : IsLimitRefusal turns code refusal

-- why two texts aren't read, stage by stage
abbrev pub IsReadRefusal : List ℕ → List ℕ → Option (List ℕ) → Refusal → Type 0
IsReadRefusal oil c mode (why.OilByte place) = IsRefusedFor oil (oil_fault.Byte place)
IsReadRefusal oil c mode (why.OilToken place) = IsRefusedFor oil (oil_fault.Token place)
IsReadRefusal oil c mode (why.OilEnd place) = IsRefusedFor oil (oil_fault.EndOfText place)
IsReadRefusal oil c mode (why.OilRule rule place) = (tree : OilTree) × IsOilText oil tree × app_answers.IsRefusal tree mode (Rule rule place)
IsReadRefusal oil c mode (why.CByte place) = HasApp oil mode × IsFirstFault c (c_fault.Byte place)
IsReadRefusal oil c mode (why.CDirective place) = HasApp oil mode × IsFirstFault c (c_fault.Directive place)
IsReadRefusal oil c mode (why.CNumber place) = HasApp oil mode × IsFirstFault c (c_fault.Number place)
IsReadRefusal oil c mode (why.CDepth place) = HasApp oil mode × HasTokens c (λ tokens. IsGrammarRefusal tokens (why.CDepth place))
IsReadRefusal oil c mode (why.CToken place) = HasApp oil mode × HasTokens c (λ tokens. IsGrammarRefusal tokens (why.CToken place))
IsReadRefusal oil c mode (why.CEnd place) = HasApp oil mode × HasTokens c (λ tokens. IsGrammarRefusal tokens (why.CEnd place))
IsReadRefusal oil c mode (why.CRule rule place) = AreRead oil c mode (λ app _ unit. BreaksRule (why.CRule rule place) app unit)
IsReadRefusal oil c mode (why.StaticRule rule place) = AreRead oil c mode (λ app _ unit. BreaksRule (why.StaticRule rule place) app unit)
IsReadRefusal oil c mode _ = ⊥

-- why there is no code of two texts: they aren't read, or the code would be too large
abbrev pub IsRefusal : List ℕ → List ℕ → Option (List ℕ) → Refusal → Type 0
IsRefusal oil c mode (why.Points number) = AreRead oil c mode (λ app _ unit. IsTooLarge (why.Points number) app unit)
IsRefusal oil c mode (why.Cells number) = AreRead oil c mode (λ app _ unit. IsTooLarge (why.Cells number) app unit)
IsRefusal oil c mode refusal = IsReadRefusal oil c mode refusal

-- why two texts aren't taken for a run of at most so many turns: they aren't read, or the name `oschk_input` stands in the C text, or else the code would be too large, or is past a limit of the run
abbrev pub IsRunRefusal : List ℕ → List ℕ → Option (List ℕ) → ℕ → Refusal → Type 0
IsRunRefusal oil c mode turns (why.FormC place) = AreRead oil c mode (HasInputAt place)
IsRunRefusal oil c mode turns (why.Points number) = AreRead oil c mode (IsTooLargeForRun (why.Points number))
IsRunRefusal oil c mode turns (why.Cells number) = AreRead oil c mode (IsTooLargeForRun (why.Cells number))
IsRunRefusal oil c mode turns (why.Size number) = IsPastLimit oil c mode turns (why.Size number)
IsRunRefusal oil c mode turns (why.State number) = IsPastLimit oil c mode turns (why.State number)
IsRunRefusal oil c mode turns refusal = IsReadRefusal oil c mode refusal

-- why two texts aren't read: a refusal, or memory ran out
abbrev pub IsReadStop : List ℕ → List ℕ → Option (List ℕ) → Stop → Type 0
IsReadStop oil c mode = StopsBy (IsReadRefusal oil c mode)

-- why there is no code of two texts: a refusal, or memory ran out
abbrev pub IsStop : List ℕ → List ℕ → Option (List ℕ) → Stop → Type 0
IsStop oil c mode = StopsBy (IsRefusal oil c mode)

-- why two texts aren't taken for a run: a refusal, or memory ran out
abbrev pub IsRunStop : List ℕ → List ℕ → Option (List ℕ) → ℕ → Stop → Type 0
IsRunStop oil c mode turns = StopsBy (IsRunRefusal oil c mode turns)
