-- The report of a check.
use Rattle.std.specs.Prelude.{ℕ, List, ◌++◌, codes}
use Rattle.report.specs.declared.reports.CertReport.{CertReport}
use Rattle.report.specs.declared.reports.CertReport.TheVariants as answer
use Rattle.answers.specs.declared.verdict.Verdict.{Verdict}
use Rattle.answers.specs.declared.verdict.Verdict.TheVariants as verdict
use Rattle.report.specs.Lines.{line, counted}

-- the verdict of a certificate that is good
abbrev pub good_text : Verdict → List ℕ
good_text verdict.Holds = line (codes "good holds")
good_text verdict.Fails = line (codes "good fails")
good_text verdict.Undecided = line (codes "good undecided")

-- the answer of a check
abbrev pub answer_text : CertReport → List ℕ
answer_text (answer.Good v) = good_text v
answer_text (answer.BadLine number) = line (counted (codes "bad line ") number)
answer_text answer.BadVerdict = line (codes "bad verdict")

-- the report of a check of a log of so many lines
abbrev pub check_text : ℕ → CertReport → List ℕ
check_text lines a = line (codes "oschk check") ++ line (counted (codes "lines ") lines) ++ answer_text a
