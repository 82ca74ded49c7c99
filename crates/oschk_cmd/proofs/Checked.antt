-- The check of certificates accepts what runs write.
use Rattle.std.proofs.Common.{ℕ, ◌≤◌, ◌^◌, ◌⊎◌, inl, inr, List, length, sym, subst, arith}
use Rattle.application.specs.declared.app.App.{App}
use Rattle.bounded_check.specs.declared.decide.Verdict.{Verdict}
use Rattle.cert_law.specs.Accepted.{IsAccepted}
use Rattle.cert_law.specs.Named.{HaveNames}
use Rattle.cert_text.specs.declared.front.Bounds.{Bounds}
use Rattle.certified_run.specs.Certified.{IsEvidence, ending_by, text_with}
use Rattle.chk_base.specs.Desk.{DeskState}
use Rattle.clause_form.specs.declared.line.Line.{Line}
use Rattle.command_words.specs.declared.asked.Asked.TheVariants as asked
use Rattle.one_stack.specs.declared.label.Label.{Label}
use Rattle.step_ir.specs.declared.code.Code.{Code}
use Rattle.turn_encoding.specs.declared.encoding.Encoding.{Encoding}
use Rattle.oschk_cmd.specs.Headline.{AreChecked, NamesMade, NamesRun, RunOf}
use Rattle.oschk_cmd.specs.Runs.{IsBounded, bounds_of}
use Rattle.oschk_cmd.proofs.Bounded.{has_bounds}
use Rattle.oschk_cmd.proofs.Named.{AreWritten, taken_names}

-- the certificate of an application whose entities have names is accepted
abbrev pub AreGood : Type 0
AreGood =
    (app : App) (code : Code) (bounds : Bounds) (e : Encoding) (labels : List Label) (log : List Line) (v : Verdict)
    → HaveNames app → 1 ≤ bounds.turns → bounds.turns ≤ 512 → bounds.arrivals ≤ 15 → bounds.budget ≤ 10 ^ 12
    → IsEvidence app code bounds e labels log v → length (text_with app bounds e labels log (ending_by v)) ≤ 2 ^ 30
    → IsAccepted (text_with app bounds e labels log (ending_by v)) v

-- a run is within its bounds
bounded : (words : List (List ℕ)) (before fetched : DeskState) (of : RunOf) → NamesRun words before fetched of ⊎ NamesMade words before fetched of → IsBounded of.turns of.budget
bounded words before fetched of (inl names) =
    subst (λ (n : ℕ). IsBounded of.turns n) (sym names.budget_is)
    (subst (λ (n : ℕ). IsBounded n names.run.budget) (sym names.turns_are) (has_bounds words (asked.Run names.run) names.is_run))
bounded words before fetched of (inr names) =
    subst (λ (n : ℕ). IsBounded of.turns n) (sym names.budget_is)
    (subst (λ (n : ℕ). IsBounded n names.make.budget) (sym names.turns_are) (has_bounds words (asked.Make names.make) names.is_make))

-- so is that of every run that is decided by clauses
pub are_checked : AreWritten → AreGood → (words : List (List ℕ)) (before after : DeskState) → AreChecked words before after
are_checked written good words before after app code k d decides by =
    let of = decides.of in
    let are : IsBounded k of.budget = subst (λ (n : ℕ). IsBounded n of.budget) decides.turns_are (bounded words before decides.fetched of decides.names) in
    good app code (bounds_of k of.budget) by.certificate.encoding by.certificate.labels by.certificate.log by.verdict (taken_names written of.oil of.c of.mode k app code decides.prepared) are.least are.most (omega arith)
    are.budget_most by.certificate.evidence
