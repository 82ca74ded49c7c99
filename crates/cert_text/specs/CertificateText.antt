-- The text of a certificate, and the certificate with these parts.
use Rattle.std.specs.Prelude.{ℕ, List, map}
use Rattle.clause_form.specs.declared.line.Line.{Line}
use Rattle.cert_form.specs.Certificate as c
use Rattle.cert_form.specs.Certificate.{Certificate}
use Rattle.cert_form.specs.CertificateText.{certificate_words}
use Rattle.cert_form.specs.Texts.{concat}
use Rattle.turn_encoding.specs.declared.encoding.Encoding.{Encoding}
use Rattle.cert_text.specs.declared.front.Bounds.{Bounds}
use Rattle.cert_text.specs.declared.label.LabelText.{LabelText}
use Rattle.cert_text.specs.declared.label.LabelText.TheVariants as l
use Rattle.cert_text.specs.declared.rest.Ending.{Ending}
use Rattle.cert_text.specs.declared.rest.Ending.TheVariants as e

-- its tokens, one after another
abbrev pub certificate_text : Certificate → List ℕ
certificate_text c = concat (certificate_words c)

-- what a label stands for
abbrev pub label_of : LabelText → c.Label
label_of l.Idle = c.Idle
label_of (l.Arrive name) = c.Arrive name
label_of (l.Step name point) = c.Step name point

-- the verdict with the values of its model
abbrev pub ending_of : Ending → c.Ending
ending_of e.Holds = c.Holds
ending_of (e.Fails values) = c.Fails values.now
ending_of e.Undecided = c.Undecided

-- the certificate of an encoding with its bounds and what its labels stand for, of a log and of how it ends
abbrev pub certificate_of : Bounds → Encoding → List LabelText → List Line → c.Ending → Certificate
certificate_of b e labels log ending =
    record {
      turns = b.turns;
      arrivals = b.arrivals;
      budget = b.budget;
      variables = e.formula.variables;
      clauses = e.formula.clauses;
      goal = e.goal;
      labels = map label_of labels;
      depth_lits = e.depths;
      turn_lits = e.alternatives;
      log = log;
      ending = ending;
    }
