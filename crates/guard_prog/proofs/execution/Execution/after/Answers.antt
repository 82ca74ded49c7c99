use Rattle.std.proofs.Common.{◌≡◌, true, sym, ◌∙◌, ap, Bool, Some}
use Rattle.guard_prog.specs.Drafts.{plain_of}
use Rattle.guard_prog.specs.Executions.{bits_at}
use Rattle.guard_prog.specs.GuardedRun.{State, takes_word, stack_after}
use Rattle.guard_prog.proofs.Turns.{turn_by_taken}
use Rattle.guard_prog.proofs.execution.Execution.after.Goals as goal

pub returns-clause-state : goal.returns-clause-state
returns-clause-state c =
    let takes : takes_word c.args.alternative.now.input c.args.word ≡ true = sym c.is_word_for.ensures ∙ c.if-not-is_word_for.false in
    let moves : stack_after c.args.draft.now.depth c.args.alternative.now.control c.args.self.now.stack ≡ Some c.in-Some.stack =
    ap (stack_after c.args.draft.now.depth c.args.alternative.now.control) (sym c.items.ensures) ∙ sym c.in_ok-stack.ensures ∙ c.in-Some.is in
    ap (λ (failed : Bool). let s : State = record { cells = bits_at c.in_ok-next_cells.field-0; stack = c.in-Some.stack; is_failed = failed } in Some s) c.fails.ensures
    ∙ sym (turn_by_taken c.args.draft.now c.args.self.now.cells c.in_ok-next_cells.field-0 c.args.self.now.stack c.in-Some.stack (plain_of c.args.alternative.now) c.args.word c.args.self.now.is_failed c.requires.execution.widths takes moves c.in_ok-next_cells.ensures.bits)
