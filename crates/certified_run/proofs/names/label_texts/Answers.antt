use Rattle.certified_run.proofs.Labels.{points_more, texts_more}
use Rattle.certified_run.proofs.names.label_texts.Goals as goal

pub loop-label-preserved : goal.loop-label-preserved
loop-label-preserved c = (
  texts_more c.args.app.now c.args.labels.now c.loop-label.label-index _ _ _ _ c.loop-label-test.true c.in_ok-push-2.ensures.ok c.loop-label.invariant.0 c.in_ok-label_text.ensures.text,
  points_more c.args.labels.now c.loop-label.label-index _ c.loop-label-test.true c.loop-label.invariant.1 c.in_ok-label_text.ensures.point,
)
