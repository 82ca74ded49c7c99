-- A certificate of an application's run, and what of it is appended to a file.
use Rattle.std.specs.Prelude.{◌≡◌, ℕ, ◌≤◌, if◌then◌else◌, List, length, take, Some, Result, IfOk, OnErr, option_map}
use Rattle.application.specs.declared.app.App.{App}
use Rattle.bounded_check.specs.declared.decide.Verdict.{Verdict}
use Rattle.bounded_check.specs.declared.decide.Verdict.TheVariants as verdict
use Rattle.bounded_check.specs.Depicts.{Depicts}
use Rattle.bounded_check.specs.Verdicts.{IsDecided, Means, with_goal}
use Rattle.cert_form.specs.Certificate as c
use Rattle.cert_text.specs.CertificateParts.{front_text}
use Rattle.cert_text.specs.CertificateText.{certificate_of, certificate_text}
use Rattle.cert_text.specs.declared.front.Bounds.{Bounds}
use Rattle.certified_run.specs.Names.{ArePoints, texts_of}
use Rattle.chk_base.specs.Causes.{HasCause, is_fault_of}
use Rattle.chk_base.specs.declared.desk.PutFault.{PutFault}
use Rattle.chk_base.specs.Desk.{Append, DeskState, is_put_failed, with_piece_at}
use Rattle.clause_form.specs.declared.line.Line.{Line}
use Rattle.clause_solver.specs.Answer.{IsLog}
use Rattle.one_stack.specs.declared.label.Label.{Label}
use Rattle.step_ir.specs.declared.code.Code.{Code}
use Rattle.step_ir.specs.Points.{start_bits}
use Rattle.step_ir.specs.PointStep.{behaviour_of}
use Rattle.step_ir.specs.Setting.{setting_of}
use Rattle.turn_encoding.specs.declared.encoding.Encoding.{Encoding}
use Rattle.turn_encoding.specs.Encodings.{encoding_of, HasShape}

-- how the certificate of a verdict ends
abbrev pub ending_by : Verdict → c.Ending
ending_by verdict.Holds = c.Holds
ending_by (verdict.Fails values choices) = c.Fails values
ending_by verdict.Undecided = c.Undecided

-- the encoding depicts the application within the bounds, with a literal for each depth up to the number of entities and for each label, and the points of its labels are numbers of 16 bits
pub record IsEncodingOf (app : App) (code : Code) (bounds : Bounds) (e : Encoding) (labels : List Label) : Type 0 where
  pub depicts : Depicts (encoding_of e) labels (setting_of app) (behaviour_of code) (start_bits code) bounds.turns bounds.arrivals
  pub shape : HasShape (encoding_of e) (setting_of app).entities (length labels) bounds.turns
  pub few : (setting_of app).entities ≤ 16
  pub points : ArePoints labels

-- the lines are derived from the encoding's formula, its goal and the lines before, each but an empty one is learned, and there are no more than the budget
abbrev pub IsLogOf : Bounds → Encoding → List Line → Type 0
IsLogOf bounds e log = IsLog e.formula.variables (with_goal (encoding_of e)) bounds.budget log

-- the text of the certificate of an encoding, a log and an end
abbrev pub text_with : App → Bounds → Encoding → List Label → List Line → c.Ending → List ℕ
text_with app bounds e labels log ending = certificate_text (certificate_of bounds e (texts_of app labels) log ending)

-- why this is the verdict on the application: an encoding that depicts it, and a log of derived lines that decides that encoding so
pub record IsEvidence (app : App) (code : Code) (bounds : Bounds) (e : Encoding) (labels : List Label) (log : List Line) (v : Verdict) : Type 0 where
  pub encodes : IsEncodingOf app code bounds e labels
  pub derived : IsLogOf bounds e log
  pub decided : IsDecided (encoding_of e) labels bounds.budget log v

-- this text was appended to the current file, and no other file changed
abbrev pub IsAppended : DeskState → DeskState → List ℕ → Type 0
IsAppended before after text = after.files ≡ option_map (with_piece_at before.current text) before.files

-- the whole text of a certificate was appended, whose encoding and log are why this is the verdict
pub record HasCertificate (app : App) (code : Code) (bounds : Bounds) (before after : DeskState) (v : Verdict) : Type 0 where
  pub encoding : Encoding
  pub labels : List Label
  pub log : List Line
  pub evidence : IsEvidence app code bounds encoding labels log v
  pub written : IsAppended before after (text_with app bounds encoding labels log (ending_by v))

-- of an encoding that depicts the application a prefix of what stands before the log was appended
pub record HasFront (app : App) (code : Code) (bounds : Bounds) (before after : DeskState) : Type 0 where
  pub encoding : Encoding
  pub labels : List Label
  pub count : ℕ
  pub encodes : IsEncodingOf app code bounds encoding labels
  pub written : IsAppended before after (take count (front_text bounds encoding (texts_of app labels)))

-- a prefix of the text of a certificate was appended, whose encoding and log are why its verdict is so, and the verdict holds of the application
pub record HasPrefix (app : App) (code : Code) (bounds : Bounds) (before after : DeskState) : Type 0 where
  pub encoding : Encoding
  pub labels : List Label
  pub log : List Line
  pub verdict : Verdict
  pub count : ℕ
  pub evidence : IsEvidence app code bounds encoding labels log verdict
  pub means : Means app code bounds.turns bounds.arrivals verdict
  pub written : IsAppended before after (take count (text_with app bounds encoding labels log (ending_by verdict)))

-- a run that doesn't come to its end has appended nothing, no more than what stands before the log, or a prefix of a certificate's text
pub data IsCut (app : App) (code : Code) (bounds : Bounds) (before after : DeskState) : Type 0 where
  Nothing : after.files ≡ before.files → IsCut app code bounds before after
  Front : HasFront app code bounds before after → IsCut app code bounds before after
  Prefix : HasPrefix app code bounds before after → IsCut app code bounds before after

-- a run by its end: the certificate is whole, or cut where an append failed or memory ran out
pub record IsCertified (app : App) (code : Code) (bounds : Bounds) (before after : DeskState) (result : Result Verdict PutFault) : Type 0 where
  pub whole : IfOk result (HasCertificate app code bounds before after)
  pub cut : OnErr result (IsCut app code bounds before after)
  pub current : after.current ≡ before.current
  pub cause : HasCause is_put_failed before.faults after.faults result
  pub last_fault : after.last_fault ≡ (if is_fault_of is_put_failed result then Some (Append before.current) else before.last_fault)
