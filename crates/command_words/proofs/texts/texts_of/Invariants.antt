use Rattle.std.proofs.Common.{◌≡◌, ℕ, ◌<◌, List, IsUtf8, take, slice_index_or}
use Rattle.command_words.specs.Lines.{plain_texts}
use Rattle.command_words.proofs.texts.texts_of.Given as goal

abbrev pub invariant-loop-word : goal.invariant-loop-word
invariant-loop-word l =
    (plain_texts l.texts.items ≡ take l.word-index l.words)
    × ((k : ℕ) → k < l.word-index → (d : List ℕ) → IsUtf8 (slice_index_or l.words k d))
