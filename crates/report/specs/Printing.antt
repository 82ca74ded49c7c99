-- What the writing of a text does, and what it asks for.
use Rattle.std.specs.Prelude.{◌≡◌, ℕ, List, take, Result, OnOk, OnErr, option_map}
use Rattle.chk_base.specs.Causes.{HasCause, any_error}
use Rattle.chk_base.specs.Sink.{SinkState, followed_by}
use Rattle.application.specs.declared.app.App.{App}
use Rattle.application.specs.InOrder.{IsInOrder}
use Rattle.step_ir.specs.declared.code.Code.{Code}
use Rattle.step_ir.specs.Fits.{Fits}
use Rattle.report.specs.declared.reports.WriteFault.{WriteFault}
use Rattle.report.specs.PrintedTexts.{PlainReport, Ran, Shown, Replay}

-- a text was written whole, or, where the sink failed, a prefix of it
pub record Prints (before after : SinkState) (text : List ℕ) (result : Result (Unit {0}) WriteFault) : Type 0 where
  pub whole : OnOk result (after.written ≡ option_map (followed_by text) before.written)
  pub cut : OnErr result ((n : ℕ) × (after.written ≡ option_map (followed_by (take n text)) before.written))
  pub cause : HasCause any_error before.faults after.faults result

-- an application is in order, and a code fits it
pub record AreFit (app : App) (code : Code) : Type 0 where
  pub order : IsInOrder app
  pub fit : Fits app code

-- so are those of a report
abbrev pub IsFit : PlainReport → Type 0
IsFit (Ran made app code turns arrivals verdict replayed choices) = AreFit app code
IsFit (Shown app code) = AreFit app code
IsFit (Replay app code result) = AreFit app code
IsFit _ = Unit {0}
