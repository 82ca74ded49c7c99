-- The lines of refusals.
use Rattle.std.specs.Prelude.{ℕ, List, ◌++◌, codes}
use Rattle.chk_base.specs.declared.place.Place.{Place}
use Rattle.answers.specs.declared.refusal.Refusal.{Refusal}
use Rattle.answers.specs.declared.refusal.Refusal.TheVariants as why
use Rattle.report.specs.Lines.{line, counted, place_text}

-- a line that ends in a place
abbrev pub place_line : List ℕ → Place → List ℕ
place_line head place = line (head ++ codes " at " ++ place_text place)

-- a line with the number of a rule and a place
abbrev pub rule_line : List ℕ → ℕ → Place → List ℕ
rule_line head rule place = line (counted head rule ++ codes " at " ++ place_text place)

-- a line with a number and its limit
abbrev pub limit_line : List ℕ → ℕ → List ℕ → List ℕ
limit_line head number limit = line (counted head number ++ codes " of " ++ limit)

-- what a refusal prints
abbrev pub refusal_text : Refusal → List ℕ
refusal_text (why.OilByte place) = place_line (codes "refused OIL BYTE") place
refusal_text (why.OilToken place) = place_line (codes "refused OIL TOKEN") place
refusal_text (why.OilEnd place) = place_line (codes "refused OIL END") place
refusal_text (why.OilRule rule place) = rule_line (codes "refused OIL RULE A") rule place
refusal_text (why.CByte place) = place_line (codes "refused C BYTE") place
refusal_text (why.CDirective place) = place_line (codes "refused C DIRECTIVE") place
refusal_text (why.CNumber place) = place_line (codes "refused C NUMBER") place
refusal_text (why.CDepth place) = place_line (codes "refused C DEPTH") place
refusal_text (why.CToken place) = place_line (codes "refused C TOKEN") place
refusal_text (why.CEnd place) = place_line (codes "refused C END") place
refusal_text (why.CRule rule place) = rule_line (codes "refused C RULE C") rule place
refusal_text (why.StaticRule rule place) = rule_line (codes "refused C RULE S") rule place
refusal_text (why.FormC place) = place_line (codes "refused FORM C") place
refusal_text (why.Points number) = limit_line (codes "refused POINTS ") number (codes "2048")
refusal_text (why.Cells number) = limit_line (codes "refused CELLS ") number (codes "8192")
refusal_text (why.Size number) = limit_line (codes "refused SIZE ") number (codes "65536")
refusal_text (why.State number) = limit_line (codes "refused STATE ") number (codes "1048576")
refusal_text why.LongOil = line (codes "refused LENGTH OIL of 262144")
refusal_text why.LongC = line (codes "refused LENGTH C of 262144")
refusal_text why.LongSchedule = line (codes "refused LENGTH SCHEDULE of 262144")
refusal_text why.LongCert = line (codes "refused LENGTH CERT of 1073741824")
refusal_text (why.ScheduleLine place) = place_line (codes "refused SCHEDULE LINE") place
refusal_text (why.CertByte place) = place_line (codes "refused CERT BYTE") place
refusal_text (why.CertToken place) = place_line (codes "refused CERT TOKEN") place
refusal_text (why.CertEnd place) = place_line (codes "refused CERT END") place
