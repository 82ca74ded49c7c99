-- What texts that were read are lowered to is what the texts mean.
use Rattle.std.proofs.Common.{◌≡◌, ℕ, List, Option, None, Result, Ok, Err, IfOk, IfErr, sym, ◌∙◌, subst}
use Rattle.typed_unit.specs.Typed.{typed}
use Rattle.typed_unit.specs.Views.{unit_of}
use Rattle.lower.specs.LoweredCode.{IsLowered}
use Rattle.answers.specs.declared.refusal.Refusal.{Refusal}
use Rattle.text_stages.specs.declared.prepare.Prepared.{Prepared}
use Rattle.text_stages.specs.declared.read.Texts.{Texts}
use Rattle.text_stages.specs.declared.stop.Stop.{Stop}
use Rattle.text_stages.specs.Limits.{IsLimitRefusal, IsWithinLimits}
use Rattle.text_stages.specs.Prepared.{IsApp, IsPrepared, IsRead, IsStop, IsTakenForRun, IsRunRefusal}
use Rattle.text_stages.specs.Stages.{StopsBy, IsCountRefusal, KeepsRules}
use Rattle.text_stages.proofs.Stops.{count_stop, limit_refusal}

module _ (oil c : List ℕ) (mode : Option (List ℕ)) (texts : Texts) (read : IsRead oil c mode texts) where
  -- the application and the code, where there are both
  abbrev pub prepared_is : (p : Prepared) → p.app ≡ texts.app → IsLowered texts.app (unit_of texts.unit) p.code → IsPrepared oil c mode p.app p.code
  prepared_is p same low =
      record {
        tree = read.tree;
        app_is = subst (λ app. IsApp oil mode read.tree app) (sym same) read.app_is;
        tokens = read.tokens;
        tokens_are = read.tokens_are;
        unit = read.unit;
        unit_is = read.unit_is;
        rules = subst (λ app. KeepsRules app read.unit) (sym same) read.rules;
        lowered = subst (λ app. IsLowered app (typed read.unit app) p.code) (sym same) (subst (λ u. IsLowered texts.app u p.code) read.typed_is low);
      }

  -- the same of an answer
  pub if_prepared : (result : Result Prepared Stop) → IfOk result (λ p. p.app ≡ texts.app)
      → IfOk result (λ p. IsLowered texts.app (unit_of texts.unit) p.code) → IfOk result (λ p. IsPrepared oil c mode p.app p.code)
  if_prepared (Ok p) same low = prepared_is p same low
  if_prepared (Err stop) same low = tt

  -- the same where there is no code
  pub if_stopped : (result : Result Prepared Stop) → IfErr result (StopsBy (IsCountRefusal texts.app (unit_of texts.unit))) → IfErr result (IsStop oil c mode)
  if_stopped (Ok p) by = tt
  if_stopped (Err stop) by = count_stop oil c mode texts read stop by

  -- where no input is taken, and the limits are kept, it is taken for a run
  pub taken : texts.input ≡ None → (p : Prepared) → p.app ≡ texts.app → IsLowered texts.app (unit_of texts.unit) p.code
      → (turns : ℕ) → IsWithinLimits turns p.code → IsTakenForRun oil c mode turns p.app p.code
  taken none p same low turns within =
      record { prepared = prepared_is p same low; no_input = sym read.input_is ∙ none; within = within }

  -- where one isn't kept, the run is refused
  pub past : texts.input ≡ None → (p : Prepared) → p.app ≡ texts.app → IsLowered texts.app (unit_of texts.unit) p.code
      → (turns : ℕ) (refusal : Refusal) → IsLimitRefusal turns p.code refusal → IsRunRefusal oil c mode turns refusal
  past none p same low turns refusal by =
      limit_refusal oil c mode turns p.app p.code (prepared_is p same low) (sym read.input_is ∙ none) refusal by
