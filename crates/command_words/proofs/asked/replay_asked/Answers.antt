use Rattle.std.proofs.Common.{ap, ◌∙◌}
use Rattle.command_words.specs.Lines.{is_plain}
use Rattle.command_words.proofs.Plain.{replay_is_plain}
use Rattle.command_words.proofs.asked.replay_asked.Goals as goal

pub matches_for-requires : goal.matches_for-requires
matches_for-requires c = ap is_plain c.line_of.ensures ∙ replay_is_plain
