use Rattle.std.proofs.Common.{ℕ, List, [], ◌∷◌, ◌++◌, IsUtf8, slice_index_or, ap, ap₂, subst, sym, ◌∙◌}
use Rattle.std.proofs.lemmas.List.{get_or_default, map_push, take_more}
use borrow.Author.Count.{below_more}
use Rattle.command_words.specs.Lines.{plain_texts}
use Rattle.command_words.proofs.texts.texts_of.Goals as goal

pub returns-in_default-clause-none : goal.returns-in_default-clause-none
returns-in_default-clause-none c all =
    c.in_default.ensures.none (subst IsUtf8 (sym c.word-item.is) (all c.loop-word.word-index c.word-item.result c.loop-word-test.true))

pub loop-word-preserved : goal.loop-word-preserved
loop-word-preserved c = (
  ap plain_texts c.in_ok-push.ensures.items
      ∙ (map_push (λ text. text.now) c.loop-word.texts.items c.in-Some.text
      ∙ (ap₂ (λ xs x. xs ++ x ∷ []) c.loop-word.invariant.0 (c.in-Some.ensures.found ∙ c.word-item.is)
      ∙ sym (take_more c.args.words.now c.loop-word.word-index c.word-item.result c.loop-word-test.true))),
  below_more
      (λ (k : ℕ). (d : List ℕ) → IsUtf8 (slice_index_or c.args.words.now k d))
      c.loop-word.word-index
      c.loop-word.invariant.1
      (λ d. subst IsUtf8 (c.word-item.is ∙ get_or_default c.args.words.now c.loop-word.word-index c.word-item.result d c.loop-word-test.true) c.in-Some.ensures.yes),
)
