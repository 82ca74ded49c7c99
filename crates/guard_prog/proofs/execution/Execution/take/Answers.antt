use Rattle.std.proofs.Common.{◌≡◌, sym, ◌∙◌, ap, subst, Some, None}
use Rattle.std.specs.Prelude.{IfOk}
use Rattle.std.specs.Option.{option_map}
use Rattle.guard_prog.specs.declared.draft.Draft.{Draft}
use Rattle.guard_prog.specs.Drafts.{plain_of, plain_alternatives, program_of}
use Rattle.guard_prog.specs.Executions.{state_of}
use Rattle.guard_prog.specs.GuardedRun.{alternatives_at, turn}
use Rattle.guard_prog.proofs.Turns.{turn_by_found}
use Rattle.guard_prog.proofs.execution.Execution.take.Goals as goal

pub returns-in-Some-clause-state : goal.returns-in-Some-clause-state
returns-in-Some-clause-state c =
    let d = c.draft-draft.result.now in
    let s = c.args.self.now in
    let found =
    turn_by_found d s.cells s.stack (plain_alternatives c.top_point-point.result.now) c.args.label c.args.word (Some (plain_of c.in-Some.alternative.now)) s.is_failed c.if-self.false
    (c.requires.widths ∙ ap (λ (x : Draft). x.widths) (sym c.draft-draft.ensures.draft))
    (c.top_point-point.ensures.point ∙ ap (alternatives_at (program_of d)) c.items.ensures)
    c.in-Some.ensures.found in
    let all = found ∙ ap (λ (x : Draft). turn (program_of x) (state_of s) (c.args.label, c.args.word)) c.draft-draft.ensures.draft in
    subst (λ t. IfOk c.after.result (λ next. option_map state_of next ≡ t)) all c.after.ensures.state

pub returns-in-None-clause-state : goal.returns-in-None-clause-state
returns-in-None-clause-state c =
    let d = c.draft-draft.result.now in
    let s = c.args.self.now in
    let found =
    turn_by_found d s.cells s.stack (plain_alternatives c.top_point-point.result.now) c.args.label c.args.word None s.is_failed c.if-self.false
    (c.requires.widths ∙ ap (λ (x : Draft). x.widths) (sym c.draft-draft.ensures.draft))
    (c.top_point-point.ensures.point ∙ ap (alternatives_at (program_of d)) c.items.ensures)
    c.in-None.ensures.found in
    found ∙ ap (λ (x : Draft). turn (program_of x) (state_of s) (c.args.label, c.args.word)) c.draft-draft.ensures.draft
