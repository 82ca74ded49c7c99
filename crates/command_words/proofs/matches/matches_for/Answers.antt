use Rattle.std.proofs.Common.{◌≡◌, []}
use Rattle.clap.specs.Words.{app_of, found_of, rows_of}
use Rattle.command_words.specs.Lines.{plain_line, plain_texts}
use Rattle.command_words.proofs.Plain.{faults, rows, refused}
use Rattle.command_words.proofs.matches.matches_for.Goals as goal

pub returns-in-Ok-clause-taken : goal.returns-in-Ok-clause-taken
returns-in-Ok-clause-taken c =
    faults (plain_line c.args.line) (plain_texts c.args.words.now) (app_of c.in_ok-command.command) (λ kinds. kinds ≡ []) c.in_ok-command.ensures c.requires c.in-Ok.ensures.kinds

pub returns-in-Ok-clause-rows : goal.returns-in-Ok-clause-rows
returns-in-Ok-clause-rows c =
    rows (plain_line c.args.line) (plain_texts c.args.words.now) (app_of c.in_ok-command.command) (rows_of (found_of c.in-Ok.matches)) c.in_ok-command.ensures c.requires (λ simple. (c.in-Ok.ensures.matches simple).0)

pub returns-else-is_memory-clause-refused : goal.returns-else-is_memory-clause-refused
returns-else-is_memory-clause-refused c =
    faults (plain_line c.args.line) (plain_texts c.args.words.now) (app_of c.in_ok-command.command) (λ kinds. kinds ≡ [] → ⊥) c.in_ok-command.ensures c.requires
    (λ simple. refused c.in-Err.error _ (c.in-Err.ensures.kinds simple) (c.is_memory.ensures c.if-is_memory.false))
