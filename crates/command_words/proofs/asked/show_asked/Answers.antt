use Rattle.std.proofs.Common.{ap, ◌∙◌}
use Rattle.command_words.specs.Lines.{is_plain}
use Rattle.command_words.proofs.Plain.{show_is_plain}
use Rattle.command_words.proofs.asked.show_asked.Goals as goal

pub matches_for-requires : goal.matches_for-requires
matches_for-requires c = ap is_plain c.line_of.ensures ∙ show_is_plain
