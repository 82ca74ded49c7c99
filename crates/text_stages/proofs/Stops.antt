-- The refusals of the stages are those of the texts.
use Rattle.std.proofs.Common.{◌≡◌, ℕ, List, Option, None, Result, Ok, Err, IfErr, IsErrAnd, sym, ◌∙◌, subst}
use Rattle.application.specs.declared.app.App.{App}
use Rattle.c_lex.specs.CText.{IsCTokens}
use Rattle.c_lex.specs.PlainTokens.{PlainTokens}
use Rattle.c_parse.specs.Parsed as parsed
use Rattle.c_unit.specs.declared.unit.Unit as units
use Rattle.typed_unit.specs.Typed.{typed}
use Rattle.typed_unit.specs.Views.{unit_of}
use Rattle.oil_tree.specs.declared.tree.OilTree.{OilTree}
use Rattle.answers.specs.declared.refusal.Refusal.{Refusal}
use Rattle.answers.specs.declared.refusal.Refusal.TheVariants as why
use Rattle.step_ir.specs.declared.code.Code.{Code}
use Rattle.text_stages.specs.declared.read.Texts.{Texts}
use Rattle.text_stages.specs.declared.stop.Stop.{Stop}
use Rattle.text_stages.specs.declared.stop.Stop.TheVariants.{Refused, Memory}
use Rattle.text_stages.specs.Limits.{IsFormRefusal, IsLimitRefusal}
use Rattle.text_stages.specs.Prepared.{first_input, IsApp, IsPrepared, IsRead, IsReadStop, IsStop, IsRunRefusal, IsRunStop}
use Rattle.text_stages.specs.Stages.{StopsBy, BreaksRule, IsCountRefusal}

-- what holds of a stop holds where a `?` hands it over
pub handed_over : {T : Type 0} → (P : Stop → Type 0) (stop : Stop) → P stop → (result : Result T Stop) → IsErrAnd result (λ given. given ≡ stop) → IfErr result P
handed_over P stop by (Ok value) is = tt
handed_over P stop by (Err given) is = subst P (sym is) by

-- a unit that breaks a rule
pub rule_stop : (oil c : List ℕ) (mode : Option (List ℕ)) (tree : OilTree) (app : App) → IsApp oil mode tree app
    → (tokens : PlainTokens) → IsCTokens c tokens → (unit : units.Unit) → parsed.IsUnitOf tokens unit
    → (stop : Stop) → StopsBy (λ refusal. BreaksRule refusal app unit) stop → IsReadStop oil c mode stop
rule_stop oil c mode tree app app_is tokens tokens_are unit unit_is Memory by = tt
rule_stop oil c mode tree app app_is tokens tokens_are unit unit_is (Refused (why.CRule rule place)) by =
    record { tree = tree; app = app; app_is = app_is; tokens = tokens; tokens_are = tokens_are; unit = unit; unit_is = unit_is; so = by }
rule_stop oil c mode tree app app_is tokens tokens_are unit unit_is (Refused (why.StaticRule rule place)) by =
    record { tree = tree; app = app; app_is = app_is; tokens = tokens; tokens_are = tokens_are; unit = unit; unit_is = unit_is; so = by }
rule_stop oil c mode tree app app_is tokens tokens_are unit unit_is (Refused _) by = absurd by

-- texts that aren't read
pub read_stop : (oil c : List ℕ) (mode : Option (List ℕ)) (stop : Stop) → IsReadStop oil c mode stop → IsStop oil c mode stop
read_stop oil c mode Memory by = tt
read_stop oil c mode (Refused (why.Points number)) by = absurd by
read_stop oil c mode (Refused (why.Cells number)) by = absurd by
read_stop oil c mode (Refused _) by = by

-- the same for a run
pub read_run_stop : (oil c : List ℕ) (mode : Option (List ℕ)) (turns : ℕ) (stop : Stop) → IsReadStop oil c mode stop → IsRunStop oil c mode turns stop
read_run_stop oil c mode turns Memory by = tt
read_run_stop oil c mode turns (Refused (why.FormC place)) by = absurd by
read_run_stop oil c mode turns (Refused (why.Points number)) by = absurd by
read_run_stop oil c mode turns (Refused (why.Cells number)) by = absurd by
read_run_stop oil c mode turns (Refused (why.Size number)) by = absurd by
read_run_stop oil c mode turns (Refused (why.State number)) by = absurd by
read_run_stop oil c mode turns (Refused _) by = by

module _ (oil c : List ℕ) (mode : Option (List ℕ)) (texts : Texts) (read : IsRead oil c mode texts) where
  -- the count of the typed unit is that of the written one
  counted : (refusal : Refusal) → IsCountRefusal texts.app (unit_of texts.unit) refusal → IsCountRefusal texts.app (typed read.unit texts.app) refusal
  counted refusal by = subst (λ u. IsCountRefusal texts.app u refusal) read.typed_is by

  -- a code that would be too large
  pub count_stop : (stop : Stop) → StopsBy (IsCountRefusal texts.app (unit_of texts.unit)) stop → IsStop oil c mode stop
  count_stop Memory by = tt
  count_stop (Refused (why.Points number)) by =
      record {
        tree = read.tree;
        app = texts.app;
        app_is = read.app_is;
        tokens = read.tokens;
        tokens_are = read.tokens_are;
        unit = read.unit;
        unit_is = read.unit_is;
        so = record { rules = read.rules; count = counted (why.Points number) by };
      }
  count_stop (Refused (why.Cells number)) by =
      record {
        tree = read.tree;
        app = texts.app;
        app_is = read.app_is;
        tokens = read.tokens;
        tokens_are = read.tokens_are;
        unit = read.unit;
        unit_is = read.unit_is;
        so = record { rules = read.rules; count = counted (why.Cells number) by };
      }
  count_stop (Refused _) by = absurd by

  -- the same of a run, where no input is taken
  pub count_run_stop : texts.input ≡ None → (turns : ℕ) (stop : Stop) → StopsBy (IsCountRefusal texts.app (unit_of texts.unit)) stop → IsRunStop oil c mode turns stop
  count_run_stop none turns Memory by = tt
  count_run_stop none turns (Refused (why.Points number)) by =
      record {
        tree = read.tree;
        app = texts.app;
        app_is = read.app_is;
        tokens = read.tokens;
        tokens_are = read.tokens_are;
        unit = read.unit;
        unit_is = read.unit_is;
        so = record { no_input = sym read.input_is ∙ none; large = record { rules = read.rules; count = counted (why.Points number) by } };
      }
  count_run_stop none turns (Refused (why.Cells number)) by =
      record {
        tree = read.tree;
        app = texts.app;
        app_is = read.app_is;
        tokens = read.tokens;
        tokens_are = read.tokens_are;
        unit = read.unit;
        unit_is = read.unit_is;
        so = record { no_input = sym read.input_is ∙ none; large = record { rules = read.rules; count = counted (why.Cells number) by } };
      }
  count_run_stop none turns (Refused _) by = absurd by

  -- an input is taken
  pub form_refusal : (turns : ℕ) (refusal : Refusal) → IsFormRefusal texts.input refusal → IsRunRefusal oil c mode turns refusal
  form_refusal turns (why.FormC place) at =
      record {
        tree = read.tree;
        app = texts.app;
        app_is = read.app_is;
        tokens = read.tokens;
        tokens_are = read.tokens_are;
        unit = read.unit;
        unit_is = read.unit_is;
        so = record { rules = read.rules; input = sym read.input_is ∙ at };
      }
  form_refusal turns _ at = absurd at

-- a code that is past a limit
pub limit_refusal : (oil c : List ℕ) (mode : Option (List ℕ)) (turns : ℕ) (app : App) (code : Code) (is : IsPrepared oil c mode app code)
    → first_input is.tokens.items ≡ None → (refusal : Refusal) → IsLimitRefusal turns code refusal → IsRunRefusal oil c mode turns refusal
limit_refusal oil c mode turns app code is none (why.Size number) past =
    record { app = app; code = code; prepared = is; no_input = none; past = past }
limit_refusal oil c mode turns app code is none (why.State number) past =
    record { app = app; code = code; prepared = is; no_input = none; past = past }
limit_refusal oil c mode turns app code is none _ past = absurd past
